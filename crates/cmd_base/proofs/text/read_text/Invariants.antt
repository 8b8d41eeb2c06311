use Rattle.std.proofs.Common.{◌≤◌, ◌-◌, ◌+◌, length}
use Rattle.std.specs.Io.KnownBytes.{Consumes}
use Rattle.cmd_base.proofs.text.read_text.Given as goal

abbrev pub invariant-loop-source : goal.invariant-loop-source
invariant-loop-source g l = record {
  read : Consumes (g.S.Source.left l.fn.source) (g.S.Source.left l.source) l.text.items;
  most : length l.text.items ≤ l.limit + 1;
  counted : g.S.Source.faults l.fn.source ≤ g.S.Source.faults l.source;
}

abbrev pub decreases-loop-source : goal.decreases-loop-source
decreases-loop-source g l = (l.limit + 1) - length l.text.items
