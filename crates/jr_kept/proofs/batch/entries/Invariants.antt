use Rattle.std.proofs.Common.{◌≡◌, ◌+◌, ◌<◌, ◌^◌, ◌++◌, length}
use Rattle.std.specs.List.{AllByRecursion}
use Rattle.fixp_msgs.specs.Payload.{IsApplication}
use Rattle.jr_kept.specs.Entries.{entries_behind, records_of}
use Rattle.jr_kept.proofs.batch.entries.Given as goal

abbrev pub invariant-loop-rest : goal.invariant-loop-rest
invariant-loop-rest l = record {
  applications : AllByRecursion IsApplication l.rest;
  room : l.k + length l.rest < 2 ^ 64;
  written : l.records.items ++ records_of (entries_behind l.sender l.k l.rest) ≡ records_of (entries_behind l.sender l.own l.payloads);
}

abbrev pub decreases-loop-rest : goal.decreases-loop-rest
decreases-loop-rest l = length l.rest
