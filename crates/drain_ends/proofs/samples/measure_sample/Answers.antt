use Rattle.std.proofs.Common.{refl}
use Rattle.drain_ends.proofs.Sampled.{measured, waited, due}
use Rattle.drain_ends.proofs.samples.measure_sample.Goals as goal

pub returns : goal.returns
returns c = record { left = refl; session = measured; waited = waited; due = due }
