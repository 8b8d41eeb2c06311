use Rattle.std.proofs.Common.{◌≡◌}
use Rattle.jr_kept.specs.Inbox.{count_of}
use Rattle.gw_rehearse.specs.Summaries.{counts_to, reports_to}
use Rattle.gw_rehearse.proofs.reports.has_reported.Given as goal

abbrev pub invariant-loop-place : goal.invariant-loop-place
invariant-loop-place l = counts_to l.acceptor.outbox l.place ≡ reports_to (count_of l.acceptor.inbox) l.load.desks l.place
