-- The loss of a connection, over or cut, leaves two ends that may begin another: what each has recorded goes on from how far its calls brought it.
use Rattle.std.proofs.Common.{◌≡◌, ℕ, ◌≤◌, Bool, true, false, if◌then◌else◌, List, [], ◌∷◌, ◌++◌, length, drop, Some, None, refl, sym, ap, subst, ◌∙◌, arith}
use Rattle.std.specs.Prelude.{is_some}
use Rattle.session_model.specs.Journal.{History}
use Rattle.session_model.specs.Inbox.{InboxRecord, next_number, settled}
use Rattle.session_model.proofs.Lists.{prefix_length, past_greatest-pos}
use Rattle.fixp_shake.specs.declared.config.EndConfig.{EndConfig}
use Rattle.fixp_shake.specs.Flows.{is_absent}
use Rattle.fixp_replies.specs.Events.{link_ending}
use Rattle.fixp_machine.specs.Machine.{State, taken, link_end, around, run}
use Rattle.conn_turns.specs.Lines.{Line}
use Rattle.connection_laws.specs.Courses.{Course, inbox_of, beginning, course_after}
use Rattle.connection_laws.specs.Ranges.{IsInRange, IsInTime}
use Rattle.connection_laws.proofs.Continuing.{calls_go_on}
use Rattle.connection_laws.proofs.Written.{written_is_legal}
use Rattle.honest_ends.specs.Worlds.{World, meets}
use Rattle.honest_turns.specs.Sides.{IsReady, Agree}
use Rattle.honest_turns.proofs.Reaching.{Reaches}
use Rattle.honest_turns.proofs.Connecting.{two_anew, alike_anew, agree_then}
use Rattle.drain_ends.specs.Agreeing.{IsKnown}
use Rattle.drain_ends.proofs.Agreed.{agreed_holds}
use Rattle.drain_turns.specs.Joints.{Half, Joint, Session, IsOn, Shows}
use Rattle.drain_rounds.specs.Rounds.{last_of}
use Rattle.drain_rounds.specs.Starting.{anew}
use Rattle.drain_time.specs.Times.{AreRounds}
use Rattle.drain_time.proofs.Timed.{drain_finishes}
use Rattle.drain_pairs.specs.Pairs.{MayBegin, Apart, Joined}
use Rattle.drain_pairs.specs.Keeping.{Leaves, LossLeavesApart}
use Rattle.drain_pairs.proofs.Kept.{last_append, session, start, end, world, begun_at, begins_at, all_rounds}

-- what is dropped, and the link's end, are not recorded
cut_anew : (s : State) → anew (run s (taken (length s.unsent) ∷ link_end ∷ [])) ≡ anew s
cut_anew s = by_end (is_some s.ending)
  where
    t : State
    t = record s { unsent = drop (length s.unsent) s.unsent }

    by_end : (b : Bool) → anew (if b then t else record t { ending = Some (link_ending (around t 0 t.moment) t.facts); pending = None; held = [] }) ≡ anew s
    by_end true = refl
    by_end false = refl

-- a machine that has recorded the same is in the same range, and awaits the same number
ready_anew : (outbox : History) (s t : State) (records : List InboxRecord) → anew t ≡ anew s → IsReady outbox s records → IsReady outbox t records
ready_anew outbox s t records same k = record {
  awaits = ap (λ (m : State). m.facts.recorded.inbox_next) same ∙ k.awaits;
  range = record { session = range.session; keepalive = range.keepalive; credentials = range.credentials; most = range.most; next = range.next };
  entries = k.entries;
}
  where
    before : IsInRange (anew s)
    before = record { session = k.range.session; keepalive = k.range.keepalive; credentials = k.range.credentials; most = k.range.most; next = k.range.next }

    range : IsInRange (anew t)
    range = subst (λ (m : State). IsInRange m) (sym same) before

-- An end on its connection, for its next one: its configuration is as it was, it awaits the next number of the inbox that these records make, and it has sent no more
-- than its pass has seen
record Left (outbox : History) (state : State) (half : Half) : Type 0 where
  records : List InboxRecord
  config : half.line.machine.config ≡ state.config
  ready : IsReady outbox half.line.machine records
  enough : half.line.machine.facts.recorded.sent ≤ length half.seen.made

left_on : (outbox : History) (state : State) (inbox : List InboxRecord) (now : ℕ) (half : Half) (m : State) → IsReady outbox state inbox → state.facts.recorded.sent ≤ length outbox.made → IsInTime now
    → IsOn outbox (beginning state inbox now) half m → Left outbox state half
left_on outbox state inbox now half m ready enough time on = record {
  records = inbox_of c;
  config = ap (λ (s : State). s.config) (sym machine) ∙ (calls_go_on outbox.made (beginning state inbox now) on.goes.calls on.goes.may).config;
  ready = record {
    awaits = subst (λ (s : State). s.facts.recorded.inbox_next ≡ next_number (inbox_of c)) machine on.goes.at.stands.agrees.recorded;
    range = subst (λ (s : State). IsInRange s) machine
        (written_is_legal outbox.made state inbox now on.goes.calls ready.range enough ready.entries time on.goes.may on.goes.fits).range;
    entries = ready.entries;
  };
  enough = subst (λ (s : State). s.facts.recorded.sent ≤ length half.seen.made) on.stands.machine on.stands.stands.own.enough;
}
  where
    c : Course
    c = course_after (beginning state inbox now) on.goes.calls

    machine : c.state ≡ half.line.machine
    machine = on.goes.at.machine

-- an end behind the loss of its connection may begin the next one
may_again : (outbox : History) (old new lost : Half) (state : State) (k : Left outbox state old) → new.line ≡ old.line → IsReady outbox lost.line.machine k.records → anew lost.line.machine ≡ anew old.line.machine
    → length old.seen.made ≤ length new.seen.made → Leaves outbox new lost → 4 ≤ old.line.per_turn → old.line.per_turn ≤ 256 → MayBegin outbox lost
may_again outbox old new lost state k line ready same more leaves least most = record {
  least = subst (λ (n : ℕ). 4 ≤ n) (sym turns) least;
  most = subst (λ (n : ℕ). n ≤ 256) (sym turns) most;
  begins = leaves.seen;
  enough = subst (λ (n : ℕ). n ≤ length lost.seen.made) (sym sent) (within old.line.machine.facts.recorded.sent (length old.seen.made) (length new.seen.made) (length lost.seen.made) k.enough more
      (prefix_length new.seen.made lost.seen.made leaves.more.made));
  next = subst (λ (n : ℕ). 1 ≤ n) (sym ready.awaits) (past_greatest-pos (settled k.records));
}
  where
    turns : lost.line.per_turn ≡ old.line.per_turn
    turns = leaves.per_turn ∙ ap (λ (l : Line). l.per_turn) line

    sent : lost.line.machine.facts.recorded.sent ≡ old.line.machine.facts.recorded.sent
    sent = ap (λ (m : State). m.facts.recorded.sent) same

    within : (a b c d : ℕ) → a ≤ b → b ≤ c → c ≤ d → a ≤ d
    within a b c d x y z = omega (arith, x, y, z)

-- both ends behind some rounds are a world, and a turn of each takes from 4 messages to 256
record Shown (s : Session) (j : Joint) : Type 0 where
  world_then : World
  shows : Shows s j world_then
  least_i : 4 ≤ j.initiator.line.per_turn
  most_i : j.initiator.line.per_turn ≤ 256
  least_a : 4 ≤ j.acceptor.line.per_turn
  most_a : j.acceptor.line.per_turn ≤ 256

module _ (outbox_i outbox_a : History) (drained now : ℕ) (j : Joint) (x : Joined outbox_i outbox_a drained now j) where
  abbrev session_is : Session
  session_is = session outbox_i outbox_a drained now j x

  abbrev start_is : Joint
  start_is = start outbox_i outbox_a drained now j x

  abbrev end_is : Joint
  end_is = end outbox_i outbox_a drained now j x

  shown_by : (rounds : List Joint) → AreRounds session_is x.first start_is rounds → Shown session_is (last_of start_is rounds)
  shown_by [] made =
      let b = begun_at outbox_i outbox_a drained now j x in
      record { world_then = world outbox_i outbox_a drained now j x; shows = b.shows; least_i = b.least; most_i = b.most; least_a = b.acceptor.least; most_a = b.acceptor.most }
  shown_by (k ∷ later) made =
      let w = drain_finishes.within session_is x.first start_is k (world outbox_i outbox_a drained now j x) later (begins_at outbox_i outbox_a drained now j x) made in
      record { world_then = w.world; shows = w.shows; least_i = w.sent.initiator.least; most_i = w.sent.initiator.most; least_a = w.sent.acceptor.least; most_a = w.sent.acceptor.most }

  shown : Shown session_is end_is
  shown = subst (λ (k : Joint). Shown session_is k) (last_append start_is x.before x.drain) (shown_by (x.before ++ x.drain) (all_rounds outbox_i outbox_a drained now j x))

  module _ (i a : Half) (leaves_i : Leaves outbox_i j.initiator i) (leaves_a : Leaves outbox_a j.acceptor a) where
    sh : Shows session_is end_is shown.world_then
    sh = shown.shows

    left_i : Left outbox_i x.i.line.machine end_is.initiator
    left_i = left_on outbox_i x.i.line.machine x.apart.inbox_i x.first end_is.initiator shown.world_then.initiator x.apart.agree.initiator x.apart.agree.agree.outward.sent x.time sh.initiator

    left_a : Left outbox_a x.a.line.machine end_is.acceptor
    left_a = left_on outbox_a x.a.line.machine x.apart.inbox_a x.first end_is.acceptor shown.world_then.acceptor x.apart.agree.acceptor x.apart.agree.agree.homeward.sent x.time sh.acceptor

    same_i : anew i.line.machine ≡ anew end_is.initiator.line.machine
    same_i = leaves_i.anew_is ∙ ap (λ (l : Line). anew l.machine) x.stands.initiator.line

    same_a : anew a.line.machine ≡ anew end_is.acceptor.line.machine
    same_a = leaves_a.anew_is ∙ ap (λ (l : Line). anew l.machine) x.stands.acceptor.line

    ready_i : IsReady outbox_i i.line.machine left_i.records
    ready_i = ready_anew outbox_i end_is.initiator.line.machine i.line.machine left_i.records same_i left_i.ready

    ready_a : IsReady outbox_a a.line.machine left_a.records
    ready_a = ready_anew outbox_a end_is.acceptor.line.machine a.line.machine left_a.records same_a left_a.ready

    -- of the world that they are both have recorded the same
    there_i : anew shown.world_then.initiator ≡ anew i.line.machine
    there_i = alike_anew shown.world_then.initiator end_is.initiator.line.machine sh.initiator.goes.alike ∙ sym same_i

    there_a : anew shown.world_then.acceptor ≡ anew a.line.machine
    there_a = alike_anew shown.world_then.acceptor end_is.acceptor.line.machine sh.acceptor.goes.alike ∙ sym same_a

    reaches : Reaches outbox_i.made outbox_a.made (two_anew x.i.line.machine x.a.line.machine) shown.world_then
    reaches = record { steps = meets sh.now_i sh.now_a ∷ sh.later; may = sh.may; there = sh.there }

    agree : Agree outbox_i.made outbox_a.made i.line.machine a.line.machine
    agree = agree_then outbox_i.made outbox_a.made x.i.line.machine x.a.line.machine shown.world_then i.line.machine a.line.machine x.apart.agree.agree reaches there_i there_a

    known_then : IsKnown shown.world_then
    known_then = subst (λ (w : World). IsKnown w) sh.there
        (agreed_holds outbox_i.made outbox_a.made session_is.start (meets sh.now_i sh.now_a ∷ sh.later) sh.known.0 sh.agreed sh.may).known

    known : i.line.machine.facts.recorded.negotiated ≡ true → a.line.machine.facts.recorded.negotiated ≡ true
    known e = ap (λ (m : State). m.facts.recorded.negotiated) (sym there_a) ∙ known_then (ap (λ (m : State). m.facts.recorded.negotiated) there_i ∙ e)

    interval : a.line.machine.config.keepalive ≡ x.a.line.machine.config.keepalive
    interval = ap (λ (m : State). m.config.keepalive) same_a ∙ ap (λ (c : EndConfig). c.keepalive) left_a.config

    apart_behind : Apart outbox_i outbox_a i a
    apart_behind = record {
      inbox_i = left_i.records;
      inbox_a = left_a.records;
      agree = record { initiator = ready_i; acceptor = ready_a; agree = agree };
      known = known;
      initiator = may_again outbox_i end_is.initiator j.initiator i x.i.line.machine left_i x.stands.initiator.line ready_i same_i
          (prefix_length end_is.initiator.seen.made j.initiator.seen.made x.stands.initiator.more.made) leaves_i shown.least_i shown.most_i;
      acceptor = may_again outbox_a end_is.acceptor j.acceptor a x.a.line.machine left_a x.stands.acceptor.line ready_a same_a
          (prefix_length end_is.acceptor.seen.made j.acceptor.seen.made x.stands.acceptor.more.made) leaves_a shown.least_a shown.most_a;
      sends = ap (λ (m : State). is_absent m.config.own_flow) same_i ∙ (ap (λ (c : EndConfig). is_absent c.own_flow) left_i.config ∙ x.apart.sends);
      least = subst (λ (n : ℕ). 100 ≤ n) (sym interval) x.apart.least;
      most = subst (λ (n : ℕ). n ≤ 60000) (sym interval) x.apart.most;
    }

pub loss_leaves_apart : LossLeavesApart
loss_leaves_apart = record {
  cut = cut_anew;
  apart = λ outbox_i outbox_a drained now j i a x leaves_i leaves_a. apart_behind outbox_i outbox_a drained now j x i a leaves_i leaves_a;
}
