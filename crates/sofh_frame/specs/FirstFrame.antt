-- What an answer on the first frame says, without its references.
use Rattle.sofh_frame.specs.Framing.{First, frame, rest, bad_length, bad_encoding}
use Rattle.sofh_frame.specs.declared.header.FirstFrame.{FirstFrame}
use Rattle.sofh_frame.specs.declared.header.FirstFrame.TheVariants.{Frame, Rest, BadLength, BadEncoding}

abbrev pub seen : FirstFrame → First
seen (Frame order message size) = frame order message.now size
seen Rest = rest
seen (BadLength n) = bad_length n
seen (BadEncoding e) = bad_encoding e
