use Rattle.std.proofs.Common.{arith}
use Rattle.sbe_schema.specs.Meanings.{meaning_of_kind}
use Rattle.sbe_schema.proofs.TypeMaps.{holds_more}
use Rattle.sbe_schema.proofs.index.meanings_of.Goals as goal

pub loop-i-preserved : goal.loop-i-preserved
loop-i-preserved c = record {
  within = omega arith;
  held = holds_more meaning_of_kind c.args.types.now c.loop-i.i c.index-types-i.result c.in_ok-copy.field-0 c.meaning_of_kind.result c.loop-i.map c.insert.new.self (omega arith) c.loop-i.invariant.within c.index-types-i.is c.in_ok-copy.ensures c.meaning_of_kind.ensures c.loop-i.invariant.held c.in_ok-insert.ensures.updates.0;
}
