-- What was counted of the records of a box, and one record more.
use Rattle.std.proofs.Common.{◌≡◌, ℕ, ◌≤◌, List, [], ◌∷◌, ◌++◌, length, take, slice_get, Some, sym, ◌∙◌, arith}
use Rattle.std.specs.Prelude.{◌↔◌, Bool, false, Result, Ok, Err, IfOk, IsTrue, IsFalse}
use Rattle.std.proofs.lemmas.Bool.{false≢true}
use Rattle.fixp_msgs.specs.declared.flow.Flow.TheVariants as flows
use Rattle.jr_record.specs.declared.record.Record.{Record}
use Rattle.jr_boxes.specs.declared.faults.Which.{Which}
use Rattle.jr_boxes.specs.declared.faults.Which.TheVariants.{Outbox, Inbox}
use Rattle.jr_boxes.specs.declared.tally.Tally.{Tally}
use Rattle.jr_boxes.specs.declared.notes.Notes.{Notes}
use Rattle.jr_boxes.specs.Tallies as tallies
use Rattle.jr_boxes.specs.Notes as notes
use Rattle.jr_boxes.proofs.Counting.{counted_more}
use Rattle.jr_boxes.proofs.Noting.{noted_more}
use Rattle.jr_boxes.proofs.Reading as outboxes
use Rattle.jr_boxes.proofs.Kept as inboxes
use Rattle.jr_judge.specs.declared.counted.Counted.{Counted}
use Rattle.jr_judge.specs.declared.counted.Counted.TheVariants as counts
use Rattle.jr_judge.specs.Judged.{AreThoseOf, IsWrongIn}
use Rattle.jr_judge.specs.Counted.{IsCounted, IsWithin}

-- what was counted are the records of the box
pub those_of : (which : Which) (records : List Record) (c : Counted) → IsCounted which records c → AreThoseOf which records
those_of Outbox records (counts.Outbox t) is = (is.history, is.outbox)
those_of Outbox records (counts.Inbox n) is = absurd is
those_of Inbox records (counts.Outbox t) is = absurd is
those_of Inbox records (counts.Inbox n) is = (is.list, is.inbox)

pub wider : (t : Tally) (m n : ℕ) → m ≤ n → tallies.IsWithin t m → tallies.IsWithin t n
wider t m n less within = record { all = omega (arith, within.all); each = λ i. omega (arith, within.each i) }

-- one record more, of an outbox and of an inbox
pub outbox_taken : (old new : Tally) (r : Record) → tallies.MayFollow old r → tallies.HasTaken old new r → (which : Which) (before : List Record) → IsCounted which before (counts.Outbox old) → IsCounted which (before ++ r ∷ []) (counts.Outbox new)
outbox_taken old new r may taken Outbox before is = counted_more before old new r is may taken
outbox_taken old new r may taken Inbox before is = absurd is

pub inbox_taken : (old new : Notes) (at : ℕ) (r : Record) → notes.MayFollow flows.Idempotent old r → notes.HasNoted old new at r → (which : Which) (before : List Record) → length before ≡ at → IsCounted which before (counts.Inbox old)
    → IsCounted which (before ++ r ∷ []) (counts.Inbox new)
inbox_taken old new at r may noted Outbox before long is = absurd is
inbox_taken old new at r may noted Inbox before long is = noted_more flows.Idempotent before old new at r (sym long) is may noted

pub outbox_excluded : (t : Tally) (at : ℕ) (r : Record) → (tallies.MayFollow t r → ⊥) → (which : Which) (all : List Record) → slice_get all at ≡ Some r → IsCounted which (take at all) (counts.Outbox t) → IsWrongIn which all at
outbox_excluded t at r never Outbox all here is = outboxes.wrong_here all at t r here is never
outbox_excluded t at r never Inbox all here is = absurd is

pub inbox_excluded : (n : Notes) (at : ℕ) (r : Record) → (notes.MayFollow flows.Idempotent n r → ⊥) → (which : Which) (all : List Record) → slice_get all at ≡ Some r → IsCounted which (take at all) (counts.Inbox n) → IsWrongIn which all at
inbox_excluded n at r never Outbox all here is = absurd is
inbox_excluded n at r never Inbox all here is = inboxes.wrong_here flows.Idempotent all at n r here is never

-- the same of what noting answers
pub inbox_takes : {E : Type 0} (result : Result Bool E) (old new : Notes) (at : ℕ) (r : Record) → IfOk result (λ fits. IsTrue fits ↔ notes.MayFollow flows.Idempotent old r) → IfOk result (λ fits. IsTrue fits → notes.HasNoted old new at r)
    → IfOk result (λ fits. IsTrue fits → (which : Which) (before : List Record) → length before ≡ at → IsCounted which before (counts.Inbox old) → IsCounted which (before ++ r ∷ []) (counts.Inbox new))
inbox_takes (Ok fits) old new at r may noted = λ yes which before long is. inbox_taken old new at r (may.0 yes) (noted yes) which before long is
inbox_takes (Err _) old new at r may noted = tt

pub inbox_excludes : {E : Type 0} (result : Result Bool E) (old : Notes) (at : ℕ) (r : Record) → IfOk result (λ fits. IsTrue fits ↔ notes.MayFollow flows.Idempotent old r)
    → IfOk result (λ fits. IsFalse fits → (which : Which) (all : List Record) → slice_get all at ≡ Some r → IsCounted which (take at all) (counts.Inbox old) → IsWrongIn which all at)
inbox_excludes (Ok fits) old at r may = λ no which all here is. inbox_excluded old at r (λ follows. false≢true (sym no ∙ may.1 follows)) which all here is
inbox_excludes (Err _) old at r may = tt
