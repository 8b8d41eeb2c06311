use Rattle.std.proofs.Common.{◌≡◌, take}
use Rattle.session_model.specs.Inbox.{next_number}
use Rattle.session_model.specs.Views.{records_of}
use Rattle.session_model.proofs.grown.Inbox.open.Given as goal

abbrev pub invariant-loop-found : goal.invariant-loop-found
invariant-loop-found l = l.next ≡ next_number (records_of (take l.found-index l.found-items))
