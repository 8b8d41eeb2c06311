use Rattle.std.proofs.Common.{◌≡◌, drop}
use Rattle.sbe_text.specs.Reading.{named}
use Rattle.sbe_text.proofs.parse.named.Given as goal

abbrev pub invariant-loop-message : goal.invariant-loop-message
invariant-loop-message l = named (drop l.message-index l.messages) l.name ≡ named l.messages l.name
