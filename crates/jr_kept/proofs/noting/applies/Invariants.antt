use Rattle.std.proofs.Common.{◌≡◌, ◌+◌, ◌<◌, ◌^◌, ◌++◌, length}
use Rattle.std.specs.List.{AllByRecursion}
use Rattle.fixp_msgs.specs.Payload.{IsApplication}
use Rattle.jr_boxes.specs.Inboxes.{records_of_inbox}
use Rattle.jr_kept.specs.Notes.{applies}
use Rattle.jr_kept.proofs.noting.applies.Given as goal

abbrev pub invariant-loop-rest : goal.invariant-loop-rest
invariant-loop-rest l = record {
  applications : AllByRecursion IsApplication l.rest;
  room : l.number + length l.rest < 2 ^ 64;
  written : l.records.items ++ records_of_inbox (applies l.number l.rest) ≡ records_of_inbox (applies l.first l.payloads);
}

abbrev pub decreases-loop-rest : goal.decreases-loop-rest
decreases-loop-rest l = length l.rest
