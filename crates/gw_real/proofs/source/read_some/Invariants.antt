-- A failed read gives nothing.
use Rattle.std.specs.Io.KnownBytes.{Keeps}
use Rattle.gw_real.proofs.source.read_some.Given as goal

abbrev pub invariant-loop : goal.invariant-loop
invariant-loop g l = Keeps (g.F.Read.remaining l.fn.file) (g.F.Read.remaining l.file)
