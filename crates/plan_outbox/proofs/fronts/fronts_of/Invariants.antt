use Rattle.std.proofs.Common.{◌≡◌, false, take, length}
use Rattle.session_model.specs.Journal.{History}
use Rattle.jr_boxes.specs.Outboxes.{records_of_history}
use Rattle.jr_kept.specs.Outbox.{StandsFor, journal_of, faults_of, is_broken}
use Rattle.plan_outbox.specs.Progress.{AreFronts, WasRead}
use Rattle.plan_outbox.proofs.fronts.fronts_of.Given as goal

abbrev pub invariant-loop-at : goal.invariant-loop-at
invariant-loop-at g l = record {
  sound : is_broken l.outbox ≡ false;
  read : WasRead l.fn.outbox l.outbox;
  faults : faults_of l.outbox ≡ faults_of l.fn.outbox;
  many : length l.fronts.items ≡ length l.plans;
  fronts : g.J.Journal.is_told (journal_of l.fn.outbox) → (h : History) → StandsFor l.fn.outbox h → AreFronts l.plans (take l.at (records_of_history h)) l.fronts.items;
}
