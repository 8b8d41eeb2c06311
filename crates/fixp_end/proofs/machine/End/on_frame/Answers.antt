use Rattle.std.proofs.Common.{◌≡◌, ℕ, ◌+◌, ◌-◌, ◌<◌, ◌≤◌, true, List, Option, None, IsSome, arith, refl, sym, ap, subst, ◌∙◌}
use Rattle.std.specs.Prelude.{IfSome}
use Rattle.std.specs.List.{AllByRecursion}
use Rattle.std.proofs.lemmas.Bool.{false≢true}
use Rattle.session_model.specs.Inbox.{Numbered}
use Rattle.fixp_msgs.specs.Payload.{IsApplication}
use Rattle.fixp_msgs.specs.Numbering.{payload_of}
use Rattle.fixp_replies.specs.Incoming.{Incoming, incoming_of, payload_in}
use Rattle.fixp_replies.specs.Replies.{reply_of}
use Rattle.fixp_replies.specs.Outgoing.{outcome_of}
use Rattle.fixp_shake.specs.Flows.{is_recoverable}
use Rattle.fixp_replies.specs.declared.facts.Facts.{Facts}
use Rattle.fixp_replies.specs.declared.reply.Reply.{Reply}
use Rattle.fixp_machine.specs.Sound.{KeepsSound, GoesByOne}
use Rattle.flow_window.specs.Window.{front}
use Rattle.fixp_end.specs.Doing.{Serves}
use Rattle.fixp_end.specs.declared.machine.End.TheInside.{Inside}
use Rattle.fixp_machine.specs.Fitting.{CanTake, IsMessage}
use Rattle.fixp_machine.specs.Machine.{State, around, held_with, held_until, front_of, Windowed}
use Rattle.fixp_end.specs.Keeping.{Keeps, held_in, pending_in, Steps}
use Rattle.fixp_end.proofs.Doing.{takes_payload, is_payload}
use Rattle.fixp_end.proofs.machine.End.on_frame.Goals as goal
use Rattle.fixp_replies.specs.Outcomes.{Outcome}
use Rattle.fixp_end.specs.contracts.machine.End.{the_view}
use Rattle.fixp_end.proofs.Outcomes.{after-record, after-plain}
use Rattle.fixp_end.proofs.Held.{payload_is, held_alike, all_with}

pub returns-then-is_record-clause-takes : goal.returns-then-is_record-clause-takes
returns-then-is_record-clause-takes c =
    let s = c.args.self.now in
    let act = c.reply_to_frame-self-inside.result.act in
    let i = incoming_of c.classify.result in
    let inside = c.reply_to_frame-self-inside.ensures.takes in
    let can = subst (λ (t : State). CanTake t.config.peer_flow t.most t.facts.recorded (IsMessage i) act) c.self.view_is inside in
    takes_payload s.config.peer_flow s.most s.facts.recorded c.args.order c.args.message.now i act c.classify.ensures c.requires.header c.requires.most can

pub returns-then-is_record-clause-reply : goal.returns-then-is_record-clause-reply
returns-then-is_record-clause-reply c =
    let s : State = the_view c.self.inside in
    let i : Incoming = incoming_of c.classify.result in
    let around_is = ap (λ (h : Option ℕ). reply_of (record (around s c.args.at c.args.now) { held = h }) s.facts i) c.least.ensures in
    let same = c.reply_to_frame-self-inside.ensures.reply ∙ around_is in
    let is = sym c.is_record.ensures ∙ c.if-is_record.true in
    rw (← c.self.view_is) (record {
      incoming = i;
      is = c.classify.ensures;
      replies = ap (λ (o : Outcome). o.act) same;
      after = after-record s i _ _ c.args.now same is;
    })

pub returns-clause-reply : goal.returns-clause-reply
returns-clause-reply c =
    let s : State = the_view c.self.inside in
    let i : Incoming = incoming_of c.classify.result in
    let reply = c.reply_to_frame-self-inside.ensures in
    let around_is = ap (λ (h : Option ℕ). reply_of (record (around s c.args.at c.args.now) { held = h }) s.facts i) c.least.ensures in
    let same = reply.reply ∙ around_is in
    let is = sym c.is_record.ensures ∙ c.if-is_record.false in
    let holds = c.reply_to_frame-self-inside.result.holds in
    let payload = payload_of (record { order = c.args.order; message = c.args.message.now }) in
    rw (← c.self.view_is) (record {
      incoming = i;
      is = c.classify.ensures;
      replies = ap (λ (o : Outcome). o.act) same;
      after = ap (λ (ms : List Numbered). record (the_view c.self-2.inside) { held = ms }) c.hold_message.ensures.held
          ∙ (ap (λ (t : State). record t { held = held_with holds payload t.held }) (c.self-2.view_is ∙ c.did.ensures.reply)
          ∙ after-plain s i _ _ c.args.now payload same is
          (λ some. (reply.goes_on some, payload_is c.args.order c.args.message.now i c.classify.ensures (reply.message some))));
    })

pub hold_message-requires-clause-made : goal.hold_message-requires-clause-made
hold_message-requires-clause-made c = λ some. c.self-2.invariant.0.made
    ∙ (ap (λ (t : State). is_recoverable t.config.peer_flow) (c.self-2.view_is ∙ c.did.ensures.reply)
    ∙ c.reply_to_frame-self-inside.ensures.held_on some)

pub hold_message-requires-clause-near : goal.hold_message-requires-clause-near
hold_message-requires-clause-near c =
    let reply = c.reply_to_frame-self-inside.ensures in
    let holds = c.reply_to_frame-self-inside.result.holds in
    let still = reply.still (sym c.is_record.ensures ∙ c.if-is_record.false) in
    let near = subst (λ (next : ℕ). IfSome holds (λ n. (next < n) × (n ≤ next + 256))) (sym still) reply.near in
    subst (λ (t : State). IfSome holds (λ n. (t.facts.recorded.inbox_next < n) × (n ≤ t.facts.recorded.inbox_next + 256))) (sym (c.self-2.view_is ∙ c.did.ensures.reply)) near

pub invariant_of-self-3 : goal.invariant_of-self-3
invariant_of-self-3 c =
    let e = c.self.inside in
    let f = c.self-2.inside in
    let k = c.self-2.invariant.0 in
    let reply = c.reply_to_frame-self-inside.ensures in
    let holds = c.reply_to_frame-self-inside.result.holds in
    let ending = c.reply_to_frame-self-inside.result.ending in
    let i : Incoming = incoming_of c.classify.result in
    let payload = payload_of (record { order = c.args.order; message = c.args.message.now }) in
    let view = c.self-2.view_is ∙ c.did.ensures.reply in
    let none : pending_in f ≡ None = subst (λ (t : State). t.pending ≡ None) (sym view) refl in
    let drained = subst (λ (s : State). front_of s ≡ None) (sym c.self.view_is) c.requires.drained in
    let behind = (reply.window e.ending (held_in e.window) c.least.ensures c.self.invariant.0.windowed drained).behind in
    let alike = held_alike ending holds payload (payload_in i) (held_in e.window)
    (λ some. (reply.goes_on some, payload_is c.args.order c.args.message.now i c.classify.ensures (reply.message some))) in
    let fits = subst (λ (ms : List Numbered). Windowed e.config e.most c.reply_to_frame-self-inside.new.facts ending ms) (sym alike) behind in
    let windowed = subst (λ (t : State). Windowed t.config t.most t.facts t.ending (held_with holds payload t.held)) (sym view) fits in (
      record {
        most = k.most;
        facts = k.facts;
        pending = k.pending;
        serves = k.serves;
        serves_then = k.serves_then;
        applied = k.applied;
        room = k.room;
        start = k.start;
        sent = k.sent;
        received = k.received;
        made = c.hold_message.ensures.made ∙ k.made;
        awaits = c.hold_message.ensures.awaits;
        windowed = subst (λ (ms : List Numbered). Windowed f.config f.most f.facts f.ending ms) (sym c.hold_message.ensures.held) windowed;
        windowed_then = subst (λ (p : Option Outcome). IfSome p (λ o. Windowed f.config f.most o.next o.ending (held_until o.ending (held_in c.hold_message.new.window)))) (sym none) tt;
        steps = λ _. subst (λ (p : Option Outcome). Steps f.facts.recorded.inbox_next p) (sym none) tt;
        free = λ some. absurd (false≢true (subst (λ (p : Option Outcome). IsSome p) none some));
        messages = subst (AllByRecursion (λ (m : Numbered). IsApplication m.payload)) (sym c.hold_message.ensures.held)
            (all_with (λ (m : Numbered). IsApplication m.payload) holds payload (held_in f.window)
            (λ n some. is_payload c.args.order c.args.message.now i c.classify.ensures c.requires.header c.requires.most (reply.message some)) k.messages);
      },
      c.self-2.invariant.1,
    )

-- what is kept where a reply is pending from now on
pends : (e : Inside) (reply : Reply) (next : Facts) (now : ℕ) → Keeps e → KeepsSound e.config e.most e.facts (outcome_of e.config reply next) → Serves next
    → Windowed e.config e.most next reply.ending (held_until reply.ending (held_in e.window)) → (is_recoverable e.config.peer_flow ≡ true → GoesByOne e.facts.recorded.inbox_next next.recorded.inbox_next)
    → front e.facts.recorded.inbox_next (held_in e.window) ≡ None → 0 < e.room → e.moment ≤ now
    → Keeps (record e { moment = now; pending = true; reply = reply; next = next; room = e.room - 1; last_received = now })
pends e reply next now k keeps serves windowed steps drained some later = record {
  most = k.most;
  facts = k.facts;
  pending = keeps;
  serves = k.serves;
  serves_then = serves;
  applied = k.applied;
  room = omega (arith, k.room, some);
  start = (let b = k.start in omega (arith, b, later));
  sent = (let b = k.sent in omega (arith, b, later));
  received = omega arith;
  made = k.made;
  awaits = k.awaits;
  windowed = k.windowed;
  windowed_then = windowed;
  steps = λ some. steps (sym k.made ∙ some);
  free = λ some. drained;
  messages = k.messages;
}

pub invariant_of-self : goal.invariant_of-self
invariant_of-self c =
    let e = c.self.inside in
    let k = c.self.invariant.0 in
    let reply = c.reply_to_frame-self-inside.ensures in
    let drained = subst (λ (s : State). front_of s ≡ None) (sym c.self.view_is) c.requires.drained in
    let first = subst (λ (s : State). 0 < s.room) (sym c.self.view_is) c.requires.room in
    let later = subst (λ (s : State). s.moment ≤ c.args.now) (sym c.self.view_is) c.requires.time.0 in
    let windowed = (reply.window e.ending (held_in e.window) c.least.ensures k.windowed drained).before in
    (pends e _ _ c.args.now k reply.keeps reply.serves windowed reply.steps drained first later, λ _. reply.small)

pub invariant_of-self-2 : goal.invariant_of-self-2
invariant_of-self-2 c =
    let e = c.self.inside in
    let k = c.self.invariant.0 in
    let reply = c.reply_to_frame-self-inside.ensures in
    let drained = subst (λ (s : State). front_of s ≡ None) (sym c.self.view_is) c.requires.drained in
    let first = subst (λ (s : State). 0 < s.room) (sym c.self.view_is) c.requires.room in
    let later = subst (λ (s : State). s.moment ≤ c.args.now) (sym c.self.view_is) c.requires.time.0 in
    let windowed = (reply.window e.ending (held_in e.window) c.least.ensures k.windowed drained).before in
    (pends e _ _ c.args.now k reply.keeps reply.serves windowed reply.steps drained first later, λ _. reply.small)
