use Rattle.std.proofs.Common.{◌≡◌, false, List, take}
use Rattle.jr_dated.specs.Dated.{Dated, undated}
use Rattle.jr_dated.specs.Journals.{Unchanged as SameJournal}
use Rattle.jr_boxes.specs.Tallies.{Counted, IsWithin}
use Rattle.jr_kept.proofs.Reading.{CountedSome}
use Rattle.jr_kept.proofs.counting.count_records.Given as goal

abbrev pub invariant-loop-at : goal.invariant-loop-at
invariant-loop-at g l = record {
  sound : g.J.Journal.is_broken l.journal ≡ false;
  same : SameJournal g.J.Journal.stands g.J.Journal.leaves l.fn.journal l.journal;
  count : g.J.Journal.count l.journal ≡ l.count;
  size : g.J.Journal.size l.journal ≡ g.J.Journal.size l.fn.journal;
  moment : g.J.Journal.moment l.journal ≡ g.J.Journal.moment l.fn.journal;
  limits : g.J.Journal.limits l.journal ≡ g.J.Journal.limits l.fn.journal;
  faults : g.J.Journal.faults l.journal ≡ g.J.Journal.faults l.fn.journal;
  counted : CountedSome g.J.Journal.stands g.J.Journal.leaves l.journal l.at l.tally;
  is_told : g.J.Journal.is_told l.fn.journal → g.J.Journal.is_told l.journal;
  told : g.J.Journal.is_told l.fn.journal → (h : List Dated) → g.J.Journal.stands l.fn.journal h → Counted (take l.at (undated h)) l.tally;
  within : IsWithin l.tally l.at;
}
