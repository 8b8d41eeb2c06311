use Rattle.std.proofs.Common.{◌≡◌, ◌≤◌, ◌++◌}
use Rattle.conn_feed.specs.Course.{accepted_text}
use Rattle.conn_feed.proofs.text.push_accepted.Given as goal

abbrev pub invariant-loop-done : goal.invariant-loop-done
invariant-loop-done l = record {
  text : l.text.items ≡ l.fn.text.items ++ accepted_text l.number l.sender l.own l.done;
  within : l.done ≤ l.count;
}
