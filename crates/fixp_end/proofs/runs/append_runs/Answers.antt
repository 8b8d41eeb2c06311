use Rattle.std.proofs.Common.{arith}
use Rattle.flow_idem.specs.Runs.{runs_of}
use Rattle.fixp_end.proofs.RunLemmas.{run_is_small, runs_are_few, run_written}
use Rattle.fixp_end.proofs.runs.append_runs.Goals as goal

pub append_run-requires-clause-count : goal.append_run-requires-clause-count
append_run-requires-clause-count c = omega (arith, run_is_small c.args.applied.now.untold c.loop-place.place c.run.result c.run.ensures, c.requires.room)

pub append_run-requires-clause-room : goal.append_run-requires-clause-room
append_run-requires-clause-room c = omega (arith, c.loop-place.invariant.short, c.loop-place.invariant.within, runs_are_few c.args.applied.now.untold, c.requires.room)

pub loop-place-preserved : goal.loop-place-preserved
loop-place-preserved c = record {
  bytes = run_written (runs_of c.args.applied.now.untold) c.loop-place.place c.run.result c.args.output.now c.loop-place.output c.append_run.new.output c.run.ensures
      c.loop-place.invariant.bytes c.append_run.ensures.bytes;
  short = omega (arith, c.loop-place.invariant.short, c.append_run.ensures.short);
  within = omega (arith, c.loop-place-test.true, c.run_count-place-end.ensures);
}

pub returns-clause-short : goal.returns-clause-short
returns-clause-short c = omega (arith, c.loop-place.invariant.short, c.loop-place.invariant.within, runs_are_few c.args.applied.now.untold)
