use Rattle.std.proofs.Common.{arith}
use Rattle.jr_stream.proofs.Taking.{reads_none, reads_more}
use Rattle.jr_stream.proofs.reader.RecordReader.fill.Goals as goal

pub loop-self-init : goal.loop-self-init
loop-self-init g c = record { reads = reads_none (g.S.Source.left c.args.source.now) c.args.self.now; counted = omega arith }

pub loop-self-preserved : goal.loop-self-preserved
loop-self-preserved g c = record {
  reads = reads_more _ _ _ _ _ _ c.loop-self.invariant.reads c.in_ok-read.ensures.reads;
  counted = omega (arith, c.loop-self.invariant.counted, c.read.ensures.counted);
}
