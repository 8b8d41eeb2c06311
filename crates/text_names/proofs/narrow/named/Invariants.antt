use Rattle.std.proofs.Common.{◌≡◌, drop}
use Rattle.sbe_text.specs.Reading.{named}
use Rattle.text_names.proofs.narrow.named.Given as goal

abbrev pub invariant-loop-message : goal.invariant-loop-message
invariant-loop-message l = named (drop l.message-index l.messages) l.name ≡ named l.messages l.name
