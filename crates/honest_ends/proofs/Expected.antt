-- The laws of the numbers under way.
use Rattle.std.proofs.Common.{◌≡◌, ◌&&◌, not, Bool, true, sym, true≢false}
use Rattle.fixp_shake.specs.declared.phase.Phase.{Phase}
use Rattle.fixp_shake.specs.declared.phase.Phase.TheVariants as phases
use Rattle.fixp_shake.specs.Phases.{is_established, is_closing}
use Rattle.fixp_replies.specs.declared.facts.Facts.{Facts}
use Rattle.fixp_replies.specs.Facts.{Around}
use Rattle.fixp_replies.specs.Incoming.{Incoming}
use Rattle.fixp_replies.specs.Outcomes.{Outcome, ignores}
use Rattle.fixp_replies.specs.Replies.{reply_of, answer_of, terminates}
use Rattle.fixp_machine.proofs.Rows.{by_row}
use Rattle.two_ends.specs.Reading.{incoming_of}
use Rattle.honest_ends.specs.Numbers.{After, AfterOther, ReaderExpects, WriterKeeps}
use Rattle.honest_ends.proofs.Lining.{recoverable_reply, other_reply}
use Rattle.honest_ends.proofs.Asking.{asks_of}
use Rattle.honest_ends.proofs.Serving.{serves_as}

-- in Established nothing is ignored
looked_at : (P : Outcome → Type 0) (x : Around) (f : Facts) (i : Incoming) → is_established f.connection.phase ≡ true → P (answer_of x f i) → P (reply_of x f i)
looked_at P x f i now h =
    by_row P (is_closing f.connection.phase && not (terminates x i)) (ignores f) (answer_of x f i) (λ e. absurd (closes f.connection.phase (not (terminates x i)) now e)) (λ _. h)
  where
    closes : (p : Phase) (b : Bool) → is_established p ≡ true → (is_closing p && b) ≡ true → ⊥
    closes phases.Idle b s e = true≢false (sym s)
    closes phases.Negotiating b s e = true≢false (sym s)
    closes phases.Establishing b s e = true≢false (sym s)
    closes phases.Established b s e = true≢false (sym e)
    closes phases.Closing b s e = true≢false (sym s)
    closes phases.Ended b s e = true≢false (sym s)

pub reader_expects : ReaderExpects
reader_expects x f theirs p are now flows = (
  λ k. looked_at (After x f p) x f (incoming_of p) now (recoverable_reply x f theirs p are now flows k),
  λ k. looked_at (AfterOther x f p) x f (incoming_of p) now (other_reply x f theirs p are now flows k),
)

pub writer_keeps : WriterKeeps
writer_keeps = (λ x f p later. (asks_of x f p later).runs, λ h s call other may. (serves_as h s call other may).runs)
