use Rattle.std.proofs.Common.{◌≡◌, ◌+◌, ◌<◌, ◌≤◌, false, List, take, drop, length}
use Rattle.session_model.specs.Inbox.{InboxRecord, applied, payloads_of}
use Rattle.jr_kept.specs.Inbox.{StandsFor, SameContent, faults_of, is_broken, limits_of, flow_of, count_of}
use Rattle.gate_staff.proofs.resume.read_next.Given as goal

abbrev pub invariant-loop-k : goal.invariant-loop-k
invariant-loop-k g l = record {
  sound : is_broken l.inbox ≡ false;
  content : SameContent l.fn.inbox l.inbox;
  faults : faults_of l.fn.inbox ≤ faults_of l.inbox;
  kind : (limits_of l.inbox ≡ limits_of l.fn.inbox) × (flow_of l.inbox ≡ flow_of l.fn.inbox);
  most : l.more ≤ 512;
  some : 0 < l.more;
  within : l.from + l.more ≤ count_of l.fn.inbox;
  long : length l.list ≡ l.k;
  told : g.I.Journal.tells → (i : List InboxRecord) → StandsFor l.fn.inbox i → l.list ≡ take l.k (drop l.from (payloads_of (applied i)));
}
