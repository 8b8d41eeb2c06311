use Rattle.std.proofs.Common.{arith}
use Rattle.sbe_layout.proofs.NameMaps.{resolves_more}
use Rattle.sbe_layout.proofs.resolve.names_of.Goals as goal

pub loop-i-preserved : goal.loop-i-preserved
loop-i-preserved c = record {
  within = omega arith;
  held = resolves_more c.args.types.now c.loop-i.i c.index-types-i.result c.in_ok-copy.field-0 c.resolved_kind.result c.loop-i.map c.insert.new.self (omega arith) c.loop-i.invariant.within c.index-types-i.is c.in_ok-copy.ensures c.resolved_kind.ensures c.loop-i.invariant.held c.in_ok-insert.ensures.updates.0;
}
