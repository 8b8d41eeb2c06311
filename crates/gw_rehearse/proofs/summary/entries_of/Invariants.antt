use Rattle.std.proofs.Common.{◌≡◌, length}
use Rattle.session_model.specs.Journal.{History}
use Rattle.jr_kept.specs.Outbox as outboxes
use Rattle.gw_rehearse.specs.Summaries.{counts_to, entries_to}
use Rattle.gw_rehearse.proofs.summary.entries_of.Given as goal

abbrev pub invariant-loop-sender : goal.invariant-loop-sender
invariant-loop-sender l = record {
  long : length l.counts ≡ l.sender;
  value : l.counts ≡ counts_to l.outbox l.sender;
  counts : (h : History) → outboxes.StandsFor l.outbox h → l.counts ≡ entries_to h l.sender;
}
