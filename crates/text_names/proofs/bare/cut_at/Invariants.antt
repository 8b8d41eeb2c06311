use Rattle.std.proofs.Common.{◌≡◌, take, drop}
use Rattle.std.specs.Option.{option_map}
use Rattle.text_names.specs.Bare.{cut_at}
use Rattle.text_names.proofs.Cuts.{with_front}
use Rattle.text_names.proofs.bare.cut_at.Given as goal

abbrev pub invariant-loop-at : goal.invariant-loop-at
invariant-loop-at l = option_map (with_front (take l.at l.text)) (cut_at l.byte (drop l.at l.text)) ≡ cut_at l.byte l.text
