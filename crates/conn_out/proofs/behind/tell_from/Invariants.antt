use Rattle.std.proofs.Common.{◌≡◌, ◌≤◌, false, List}
use Rattle.jr_dated.specs.Dated.{Dated}
use Rattle.jr_dated.specs.Journals.{Unchanged}
use Rattle.conn_out.proofs.Telling.{Reached}
use Rattle.conn_out.proofs.behind.tell_from.Given as goal

abbrev pub invariant-loop-at : goal.invariant-loop-at
invariant-loop-at g l = record {
  sound : g.J.Journal.is_broken l.journal ≡ false;
  is_told : g.J.Journal.is_told l.fn.journal → g.J.Journal.is_told l.journal;
  unchanged : Unchanged g.J.Journal.stands g.J.Journal.leaves l.fn.journal l.journal;
  count : g.J.Journal.count l.journal ≡ g.J.Journal.count l.fn.journal;
  size : g.J.Journal.size l.journal ≡ g.J.Journal.size l.fn.journal;
  moment : g.J.Journal.moment l.journal ≡ g.J.Journal.moment l.fn.journal;
  limits : g.J.Journal.limits l.journal ≡ g.J.Journal.limits l.fn.journal;
  reached : (h : List Dated) → g.J.Journal.is_told l.fn.journal → g.J.Journal.stands l.fn.journal h
      → Reached h l.fn.from l.at (g.K.Sink.taken l.fn.out) (g.K.Sink.taken l.out) l.lines.items;
  counted : g.J.Journal.faults l.fn.journal ≤ g.J.Journal.faults l.journal;
  out_counted : g.K.Sink.faults l.fn.out ≤ g.K.Sink.faults l.out;
}
