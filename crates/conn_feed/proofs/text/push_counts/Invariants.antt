use Rattle.std.proofs.Common.{◌≡◌, ◌≤◌, ◌++◌, length, take}
use Rattle.conn_feed.specs.Words.{counts_text}
use Rattle.conn_feed.specs.Fed.{dones_of}
use Rattle.conn_feed.proofs.text.push_counts.Given as goal

abbrev pub invariant-loop-place : goal.invariant-loop-place
invariant-loop-place g l = record {
  text : l.text.items ≡ l.fn.text.items ++ counts_text 1 (dones_of (take l.place l.senders));
  within : l.place ≤ length l.senders;
}
