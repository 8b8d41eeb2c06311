-- What an outbox that is kept says of itself.
use Rattle.jr_dated.specs.declared.journal.Journal.{Ghosts}
use Rattle.jr_kept.specs.declared.outbox.Outbox.{Outbox}
use Rattle.gate_turn.specs.Views.{Account}
use Rattle.gate_senders.specs.Kept.{account}
use Rattle.gate_senders.specs.declared.kept.Kept.{Kept}

module _ {J : Type 0} {G : Ghosts J} where
  -- the outbox
  abbrev pub outbox_of : Kept J G → Outbox J G
  outbox_of k = k.outbox.value

  -- it holds the history told of it, and a stop may leave a beginning of what is told as refused behind it
  abbrev pub told_by : Kept J G → Account
  told_by k = account k.outbox.value k.told.history k.told.refused
