use Rattle.std.proofs.Common.{◌≡◌, ◌≤◌, ◌++◌}
use Rattle.conn_feed.specs.Course.{refused_text}
use Rattle.conn_feed.proofs.text.push_refused.Given as goal

abbrev pub invariant-loop-done : goal.invariant-loop-done
invariant-loop-done l = record {
  text : l.text.items ≡ l.fn.text.items ++ refused_text l.senders l.line l.why l.done;
  within : l.done ≤ l.count;
}
