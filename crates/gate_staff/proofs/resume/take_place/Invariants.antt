use Rattle.std.proofs.Common.{◌≡◌, ◌-◌, ◌≤◌, false, List, ℕ, take, length}
use Rattle.session_model.specs.Inbox.{InboxRecord, applied, payloads_of, has_peer_finished}
use Rattle.jr_kept.specs.Inbox.{StandsFor, SameContent, faults_of, is_broken, limits_of, flow_of, count_of}
use Rattle.gate_staff.specs.Business.{lock_of}
use Rattle.gate_staff.proofs.Resuming.{Behind}
use Rattle.gate_staff.proofs.resume.take_place.Given as goal

abbrev pub invariant-loop-read : goal.invariant-loop-read
invariant-loop-read g l = record {
  own : g.B.Business.has l.business (lock_of l.gate);
  count : g.B.Business.count l.business ≡ g.B.Business.count l.fn.business;
  plan : g.B.Business.plan l.business ≡ g.B.Business.plan l.fn.business;
  sound : is_broken l.inbox ≡ false;
  content : SameContent l.fn.inbox l.inbox;
  faults : faults_of l.fn.inbox ≤ faults_of l.inbox;
  kind : (limits_of l.inbox ≡ limits_of l.fn.inbox) × (flow_of l.inbox ≡ flow_of l.fn.inbox);
  counted : l.count ≡ count_of l.fn.inbox;
  counts : (i : List InboxRecord) → StandsFor l.fn.inbox i → l.count ≡ length (applied i);
  finished : (i : List InboxRecord) → StandsFor l.fn.inbox i → l.finished ≡ has_peer_finished i;
  within : l.read ≤ l.count;
  done : List (List ℕ);
  behind : Behind (g.B.Business.stands l.business) (g.B.Business.plan l.fn.business) (g.B.Business.count l.fn.business) (g.B.Business.part l.fn.business) (g.B.Business.part l.business) l.read done;
  told : g.I.Journal.tells → (i : List InboxRecord) → StandsFor l.fn.inbox i → done ≡ take l.read (payloads_of (applied i));
}

abbrev pub decreases-loop-read : goal.decreases-loop-read
decreases-loop-read g l = l.count - l.read
