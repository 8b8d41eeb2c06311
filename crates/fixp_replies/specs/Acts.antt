-- Which acts are records.
use Rattle.std.specs.Prelude.{Bool, true, false}
use Rattle.fixp_replies.specs.declared.act.Act.{Act}
use Rattle.fixp_replies.specs.declared.act.Act.TheVariants.{Nothing, Apply, Skip, Negotiated, PeerFinished, Told, Ended}

-- acts that the caller makes stable in a journal before the outcome takes effect
abbrev pub is_record : Act → Bool
is_record Nothing = false
is_record (Apply number) = true
is_record (Skip from count) = true
is_record Negotiated = true
is_record (PeerFinished last) = true
is_record (Told from count) = false
is_record Ended = false
