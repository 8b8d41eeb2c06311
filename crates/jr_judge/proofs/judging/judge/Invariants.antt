use Rattle.std.proofs.Common.{◌≡◌, false, List, take}
use Rattle.jr_dated.specs.Dated.{Dated, undated}
use Rattle.jr_segments.specs.Journal.{OnlyRead, RestsOn, broken_of, count_of, disk_of}
use Rattle.jr_judge.specs.Counted.{IsCounted, IsWithin}
use Rattle.jr_judge.proofs.judging.judge.Given as goal

abbrev pub invariant-loop-at : goal.invariant-loop-at
invariant-loop-at g l = record {
  sound : broken_of l.journal ≡ false;
  read : OnlyRead l.fn.journal l.journal;
  count : l.count ≡ count_of l.fn.journal;
  faults : g.D.Disk.faults (disk_of l.journal) ≡ g.D.Disk.faults (disk_of l.fn.journal);
  within : IsWithin l.counted l.at;
  counted : (h : List Dated) → RestsOn l.fn.journal h → (k : List Dated) × RestsOn l.journal k × IsCounted l.fn.which (undated (take l.at k)) l.counted;
}
