use Rattle.std.proofs.Common.{◌≤◌, ◌+◌, ◌-◌, if◌then◌else◌, length}
use Rattle.jr_stream.specs.Reading.{ReadsOn}
use Rattle.jr_stream.proofs.reader.RecordReader.fill.Given as goal

abbrev pub invariant-loop-self : goal.invariant-loop-self
invariant-loop-self g l = record {
  reads : ReadsOn (g.S.Source.left l.fn.source) (g.S.Source.left l.source) l.fn.self l.self;
  counted : g.S.Source.faults l.fn.source ≤ g.S.Source.faults l.source;
}

abbrev pub decreases-loop-self : goal.decreases-loop-self
decreases-loop-self g l = l.least - length l.self.waiting + (if l.self.is_over then 0 else 1)
