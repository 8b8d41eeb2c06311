use Rattle.conn_keys.proofs.Bytes.{Tests}
use Rattle.conn_keys.proofs.keys.are_same.Given as goal

-- what was looked at is alike, or the two differ
abbrev pub invariant-loop-place : goal.invariant-loop-place
invariant-loop-place l = Tests l.same l.a l.b l.place
