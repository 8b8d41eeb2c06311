-- What `decode` makes of recorded bytes: the lines of the message of each frame, in order, up to the first fault (this
-- project's profile; the frames are those of the Simple Open Framing Header).
use Rattle.std.specs.Prelude.{ℕ, ◌+◌, ◌-◌, ◌^◌, min, Bool, true, false, if◌then◌else◌, Result, Ok, Err, List, [], ◌∷◌, ◌++◌, length}
use Rattle.sbe_prim.specs.declared.Order.{Order}
use Rattle.sbe_prim.specs.declared.Order.TheVariants.{Little, Big}
use Rattle.sofh_frame.specs.Framing.{Frame, First, frame, rest, bad_length, bad_encoding, first_of, spelled}
use Rattle.sofh_frame.specs.Splits.{frames_of, tail_of}
use Rattle.sbe_value.specs.declared.message.Message.{Message}
use Rattle.sbe_layout.specs.declared.plan.Plan.{Plan}
use Rattle.cmd_codec.specs.declared.shown.Shown.{Shown}
use Rattle.cmd_codec.specs.declared.shown.Shown.TheVariants.{Numbers, Names}
use Rattle.sbe_grammar.specs.declared.fault.DecodeFault.{DecodeFault}
use Rattle.sbe_grammar.specs.Reading.{message_in}
use Rattle.text_words.specs.Lines.{lines_in}
use Rattle.sbe_text.specs.Written.{lines_of_message}
use Rattle.text_names.specs.Named.{named_text}
use Rattle.cmd_base.specs.declared.status.Bad.{Bad}
use Rattle.cmd_base.specs.declared.status.Bad.TheVariants as bad
use Rattle.cmd_base.specs.declared.status.Status.{Status}
use Rattle.cmd_base.specs.declared.status.Status.TheVariants as status

-- what is printed, and how it ends
pub record Decoded : Type 0 where
  pub lines : List ℕ
  pub status : Status

-- nothing more is printed
abbrev pub ends : Status → Decoded
ends status = record { lines = []; status = status }

-- lines in front of what is printed behind them
abbrev pub behind : List ℕ → Decoded → Decoded
behind lines more = record { lines = lines ++ more.lines; status = more.status }

-- ---- one frame

abbrev pub is_order : Order → Order → Bool
is_order Little Little = true
is_order Little Big = false
is_order Big Little = false
is_order Big Big = true

-- the lines of a message as they are shown: as they are, or with the names of values
abbrev pub lines_shown : Shown → Plan → List ℕ → List ℕ
lines_shown Numbers plan lines = lines
lines_shown Names plan lines = named_text plan (lines_in lines)

abbrev pub lines_told : Shown → Plan → ℕ → Result Message DecodeFault → Result (List ℕ) Bad
lines_told shown plan number (Err fault) = Err (bad.Decode number fault)
lines_told shown plan number (Ok m) = Ok (lines_shown shown plan (lines_of_message plan m))

-- the lines of the message of a frame, which has this number and stands at this place; or what is wrong with it: its byte
-- order is not the schema's, or its bytes spell no message of the schema
abbrev pub lines_of_frame : Shown → Plan → ℕ → ℕ → Frame → Result (List ℕ) Bad
lines_of_frame shown plan number at f =
    if is_order f.order plan.order then lines_told shown plan number (message_in plan f.message) else Err (bad.Frame at)

-- what is printed from a frame on, given what is printed behind it
abbrev pub followed : Result (List ℕ) Bad → Decoded → Decoded
followed (Err wrong) more = ends (status.Message wrong)
followed (Ok lines) more = behind lines more

-- ---- frames, and what follows them

-- frames are numbered from 1, and placed in bytes from 0; what is past the greatest number of 64 bits is given as that number
abbrev pub next_number : ℕ → ℕ
next_number number = min (number + 1) (2 ^ 64 - 1)

abbrev pub next_place : ℕ → ℕ → ℕ
next_place place size = min (place + size) (2 ^ 64 - 1)

-- the end of the bytes: behind a frame, or inside one; or bytes that no frame begins with
abbrev pub status_at : ℕ → List ℕ → First → Status
status_at place tail (frame order message size) = status.Message (bad.Frame place)
status_at place tail (bad_length n) = status.Message (bad.Frame place)
status_at place tail (bad_encoding encoding) = status.Message (bad.Frame place)
status_at place [] rest = status.Done
status_at place (byte ∷ bytes) rest = status.Message (bad.Cut place)

-- frames, the first of which has this number and stands at this place, and the bytes behind them
abbrev pub frames_decoded : Shown → Plan → ℕ → ℕ → List Frame → List ℕ → Decoded
frames_decoded shown plan number place [] tail = ends (status_at place tail (first_of tail))
frames_decoded shown plan number place (f ∷ fs) tail =
    followed (lines_of_frame shown plan number place f) (frames_decoded shown plan (next_number number) (next_place place (length (spelled f))) fs tail)

-- bytes at this place, whose first frame has this number
abbrev pub decoded_from : Shown → Plan → ℕ → ℕ → List ℕ → Decoded
decoded_from shown plan number place bytes = frames_decoded shown plan number place (frames_of bytes) (tail_of bytes)

-- a whole input
abbrev pub decoded : Shown → Plan → List ℕ → Decoded
decoded shown plan input = decoded_from shown plan 1 0 input
