-- What an outbox holds while its journal does: `jr_boxes` says what a history is, and how its records are counted.
use Rattle.std.specs.Prelude.{◌≡◌, List, map, Option}
use Rattle.session_model.specs.Journal.{History, OutboxRecord}
use Rattle.jr_dated.specs.Dated.{Dated, undated}
use Rattle.jr_dated.specs.Journals.{Holds, HoldsEither}
use Rattle.jr_boxes.specs.Outboxes.{IsOutbox, records_of_history, record_of}
use Rattle.jr_boxes.specs.Tallies.{Tallies}
use Rattle.jr_boxes.specs.declared.tally.Tally.{Tally}

-- the journal stands for the records of a history, each with some moment, and the history was counted
pub record StandsAs {J : Type 0} (stands : J → List Dated → Type 0) (j : J) (t : Tally) (h : History) : Type 0 where
  pub dated : List Dated
  pub bare : undated dated ≡ records_of_history h
  pub journal : stands j dated
  pub outbox : IsOutbox (records_of_history h) h
  pub tallied : Tallies t h

-- and every image of it holds these, and a beginning of the records refused
pub record HoldsAs {J : Type 0} (stands : J → List Dated → Type 0) (leaves : J → Option (List Dated) → Type 0) (j : J) (t : Tally) (h : History)
    (refused : List OutboxRecord) : Type 0 where
  pub dated : List Dated
  pub late : List Dated
  pub bare : undated dated ≡ records_of_history h
  pub bare_late : undated late ≡ map record_of refused
  pub journal : Holds stands leaves j dated late
  pub outbox : IsOutbox (records_of_history h) h
  pub tallied : Tallies t h

-- and every image of it holds these, or these and all of the records refused
pub record HoldsEitherAs {J : Type 0} (stands : J → List Dated → Type 0) (leaves : J → Option (List Dated) → Type 0) (j : J) (t : Tally) (h : History)
    (refused : List OutboxRecord) : Type 0 where
  pub dated : List Dated
  pub late : List Dated
  pub bare : undated dated ≡ records_of_history h
  pub bare_late : undated late ≡ map record_of refused
  pub journal : HoldsEither stands leaves j dated late
  pub outbox : IsOutbox (records_of_history h) h
  pub tallied : Tallies t h
