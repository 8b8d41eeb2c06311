use Rattle.std.proofs.Common.{◌≡◌, ℕ, arith, subst, sym, List, ◌∙◌}
use Rattle.std.specs.List.{AllByRecursion}
use Rattle.std.proofs.lemmas.Bool.{false≢true}
use Rattle.session_model.specs.Inbox.{Numbered}
use Rattle.fixp_msgs.specs.Payload.{IsApplication}
use Rattle.fixp_machine.specs.Machine.{State, held_until, Windowed}
use Rattle.fixp_machine.specs.Sound.{Sound}
use Rattle.fixp_end.specs.Keeping.{held_in, Awaits}
use Rattle.fixp_end.proofs.Held.{all_until}
use Rattle.fixp_end.proofs.machine.End.apply_reply.Goals as goal

pub invariant_of-self : goal.invariant_of-self
invariant_of-self c = (
  record {
    most = c.self.invariant.0.most;
    facts = subst (λ (s : State). Sound s.config c.args.next) (sym c.self.view_is) c.requires.keeps.next;
    pending = tt;
    serves = c.requires.serves;
    serves_then = tt;
    applied = c.take_act.ensures.next;
    room = omega (arith, c.self.invariant.0.room, c.take_act.ensures.kept c.requires.act);
    start = c.self.invariant.0.start;
    sent = c.write_reply.ensures.within c.self.invariant.0.sent;
    received = c.self.invariant.0.received;
    made = c.let_go_at.ensures.made ∙ c.self.invariant.0.made;
    awaits = subst (λ (n : ℕ). Awaits c.let_go_at.new.window n) (sym (subst (λ (s : State). c.args.next.recorded.inbox_next ≡ s.facts.recorded.inbox_next) (sym c.self.view_is) c.requires.still))
        c.let_go_at.ensures.awaits;
    windowed = subst (λ (ms : List Numbered). Windowed c.self.inside.config c.self.inside.most c.args.next c.args.reply.ending ms) (sym c.let_go_at.ensures.held)
        (subst (λ (s : State). Windowed s.config s.most c.args.next c.args.reply.ending (held_until c.args.reply.ending s.held)) (sym c.self.view_is) c.requires.window);
    windowed_then = tt;
    steps = λ _. tt;
    free = λ some. absurd (false≢true some);
    messages = subst (AllByRecursion (λ (m : Numbered). IsApplication m.payload)) (sym c.let_go_at.ensures.held)
        (all_until (λ (m : Numbered). IsApplication m.payload) c.args.reply.ending (held_in c.self.inside.window) c.self.invariant.0.messages);
  },
  λ some. absurd (false≢true some),
)
