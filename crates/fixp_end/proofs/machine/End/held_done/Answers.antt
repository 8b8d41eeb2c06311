use Rattle.std.proofs.Common.{◌≡◌, ◌+◌, ◌<◌, ◌^◌, List, Option, None, IsSome, drop, arith, subst, sym, ◌∙◌}
use Rattle.std.specs.Prelude.{IfSome}
use Rattle.std.specs.List.{AllByRecursion}
use Rattle.std.proofs.lemmas.Bool.{false≢true}
use Rattle.session_model.specs.Inbox.{Numbered}
use Rattle.fixp_msgs.specs.Payload.{IsApplication}
use Rattle.fixp_replies.specs.declared.facts.Facts.{Facts}
use Rattle.fixp_replies.specs.Facts.{receiving, awaiting}
use Rattle.fixp_replies.specs.Outcomes.{Outcome}
use Rattle.fixp_machine.specs.Machine.{State, front_of, held_until, Windowed}
use Rattle.fixp_machine.specs.Sound.{Sound, KeepsSound}
use Rattle.fixp_machine.proofs.Windowing.{IsFront, front_there, past_sound, past_windowed}
use Rattle.fixp_end.specs.Doing.{Serves}
use Rattle.fixp_end.specs.Keeping.{held_in, pending_in, Steps}
use Rattle.fixp_end.proofs.Held.{not_idempotent, past_front}
use Rattle.fixp_end.proofs.machine.End.held_done.Goals as goal

pub invariant_of-self : goal.invariant_of-self
invariant_of-self c =
    let e = c.self.inside in
    let k = c.self.invariant.0 in
    let f = e.facts in
    let next = f.recorded.inbox_next in
    let held = held_in e.window in
    let top : e.most < 2 ^ 40 = (let m = k.most in omega (arith, m)) in
    let none : pending_in e ≡ None = subst (λ (s : State). s.pending ≡ None) (sym c.self.view_is) c.requires.done in
    let there : IsFront next held = front_there next held (subst (λ (s : State). IsSome (front_of s)) (sym c.self.view_is) c.requires.held) in (
      record {
        most = k.most;
        facts = past_front (λ (g : Facts). Sound e.config g) f next there.first _ there.number c.pass.ensures (past_sound e.config e.most f e.ending held top k.facts k.windowed there);
        pending = subst (λ (p : Option Outcome). IfSome p (λ o. KeepsSound e.config e.most (receiving (awaiting f (next + 1)) c.pass.new.self) o)) (sym none) tt;
        serves = k.serves;
        serves_then = subst (λ (p : Option Outcome). IfSome p (λ o. Serves o.next)) (sym none) tt;
        applied = λ i. absurd (not_idempotent e.config.peer_flow next held k.windowed.other there i);
        room = k.room;
        start = k.start;
        sent = k.sent;
        received = k.received;
        made = c.drop_front.ensures.made ∙ k.made;
        awaits = c.drop_front.ensures.awaits;
        windowed = subst (λ (ms : List Numbered). Windowed e.config e.most (receiving (awaiting f (next + 1)) c.pass.new.self) e.ending ms) (sym c.drop_front.ensures.held)
            (past_front (λ (g : Facts). Windowed e.config e.most g e.ending (drop 1 held)) f next there.first _ there.number c.pass.ensures
            (past_windowed e.config e.most f e.ending held k.windowed there));
        windowed_then = subst (λ (p : Option Outcome). IfSome p (λ o. Windowed e.config e.most o.next o.ending (held_until o.ending (held_in c.drop_front.new.window)))) (sym none) tt;
        steps = λ _. subst (λ (p : Option Outcome). Steps (next + 1) p) (sym none) tt;
        free = λ some. absurd (false≢true (subst (λ (p : Option Outcome). IsSome p) none some));
        messages = subst (AllByRecursion (λ (m : Numbered). IsApplication m.payload)) (sym c.drop_front.ensures.held)
            (subst (λ (ms : List Numbered). AllByRecursion (λ (m : Numbered). IsApplication m.payload) (drop 1 ms)) (sym there.held_is)
            (subst (AllByRecursion (λ (m : Numbered). IsApplication m.payload)) there.held_is k.messages).1);
      },
      c.self.invariant.1,
    )
