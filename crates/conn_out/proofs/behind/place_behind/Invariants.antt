use Rattle.std.proofs.Common.{◌≡◌, ◌≤◌, false, List, drop}
use Rattle.jr_dated.specs.Dated.{Dated}
use Rattle.jr_dated.specs.Journals.{Unchanged}
use Rattle.conn_out.specs.Messages.{messages_in}
use Rattle.conn_out.proofs.Places.{AreBehind}
use Rattle.conn_out.proofs.behind.place_behind.Given as goal

abbrev pub invariant-loop-at : goal.invariant-loop-at
invariant-loop-at g l = record {
  within : l.at ≤ g.J.Journal.count l.fn.journal;
  sound : g.J.Journal.is_broken l.journal ≡ false;
  is_told : g.J.Journal.is_told l.fn.journal → g.J.Journal.is_told l.journal;
  unchanged : Unchanged g.J.Journal.stands g.J.Journal.leaves l.fn.journal l.journal;
  count : g.J.Journal.count l.journal ≡ g.J.Journal.count l.fn.journal;
  size : g.J.Journal.size l.journal ≡ g.J.Journal.size l.fn.journal;
  moment : g.J.Journal.moment l.journal ≡ g.J.Journal.moment l.fn.journal;
  limits : g.J.Journal.limits l.journal ≡ g.J.Journal.limits l.fn.journal;
  none : (h : List Dated) → g.J.Journal.is_told l.fn.journal → g.J.Journal.stands l.fn.journal h → AreBehind l.fn.last (messages_in (drop l.at h));
  counted : g.J.Journal.faults l.fn.journal ≤ g.J.Journal.faults l.journal;
}

abbrev pub decreases-loop-at : goal.decreases-loop-at
decreases-loop-at g l = l.at
