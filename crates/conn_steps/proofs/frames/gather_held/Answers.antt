use Rattle.std.proofs.Common.{◌≡◌, ◌≤◌, ◌+◌, ℕ, List, [], ◌∷◌, ◌++◌, length, Some, None, refl, sym, ap, subst, ◌∙◌, arith}
use Rattle.std.specs.List.{AllByRecursion}
use Rattle.session_model.specs.Inbox.{Numbered}
use Rattle.session_model.proofs.Lists.{all_append}
use Rattle.fixp_msgs.specs.Payload.{IsApplication}
use Rattle.fixp_machine.specs.Machine.{front_of}
use Rattle.conn_turns.specs.Lines.{ready_in}
use Rattle.conn_steps.specs.Gathered.{payloads_in}
use Rattle.conn_steps.specs.Taking.{AppliedHeld}
use Rattle.conn_steps.proofs.Following.{keeps_self, keeps_on}
use Rattle.conn_steps.proofs.Holding.{draining_none, draining_more, all_drained, some_ready, in_turn_held, in_turn_drained, keeps_held}
use Rattle.conn_steps.proofs.frames.gather_held.Goals as goal

pub loop-message-init : goal.loop-message-init
loop-message-init c = record {
  draining = draining_none c.args.end.now (payloads_in c.args.gathered.now);
  done = c.requires.done;
  in_turn = λ now frames bytes h. h;
  applications = λ all. all;
  own = keeps_self c.args.end.now;
}

pub loop-message-preserved : goal.loop-message-preserved
loop-message-preserved c =
    let before = c.loop-message.invariant in
    let m = c.loop-message.end in
    let n = c.held_done.new.self in
    let d = c.held_done.ensures in
    let first : Numbered = record { number = c.in-Some.message.0; payload = c.in-Some.message.1.now } in
    let awaits : front_of m ≡ Some first = sym c.in-Some.ensures.value in
    let takes = c.in-Some.ensures.takes in
    let more = c.in_default-gather_held.ensures.ok in
    record {
      draining = draining_more c.args.end.now m n first (payloads_in c.args.gathered.now) (payloads_in c.loop-message.gathered) (payloads_in c.gather_held.new.self)
          before.draining awaits d.applied more d.recorded (omega (arith, takes.1, takes.2, before.own.most));
      done = d.done;
      in_turn = λ now frames bytes h. in_turn_held m n now frames bytes d.stays.begun d.done d.stays.moment d.room d.stays.config d.unsent d.untold (before.in_turn now frames bytes h);
      applications = λ all. subst (λ (ps : List (List ℕ)). AllByRecursion IsApplication ps) (sym more)
          (all_append IsApplication (payloads_in c.loop-message.gathered) (first.payload ∷ []) (before.applications all) (takes.0, tt));
      own = keeps_on c.args.end.now m n before.own (keeps_held m n (m.facts.recorded.inbox_next + 1) d.stays.config d.stays.most d.recorded);
    }

pub returns-in-Err-clause-lacks : goal.returns-in-Err-clause-lacks
returns-in-Err-clause-lacks c =
    let awaits : front_of c.loop-message.end ≡ Some (record { number = c.in-Some.message.0; payload = c.in-Some.message.1.now }) = sym c.in-Some.ensures.value in (
      refl,
      some_ready c.args.end.now c.loop-message.end (record { number = c.in-Some.message.0; payload = c.in-Some.message.1.now }) (payloads_in c.args.gathered.now) (payloads_in c.loop-message.gathered)
          c.loop-message.invariant.draining awaits,
    )

pub returns-clause-applied : goal.returns-clause-applied
returns-clause-applied c =
    let d = c.loop-message.invariant.draining in
    let none : front_of c.loop-message.end ≡ None = sym c.in_default.ensures.value in
    subst (λ (n : ℕ). AppliedHeld n c.args.end.now c.loop-message.end (payloads_in c.args.gathered.now) (payloads_in c.loop-message.gathered))
    (all_drained c.args.end.now c.loop-message.end (payloads_in c.args.gathered.now) (payloads_in c.loop-message.gathered) d none) d.helds

pub returns-clause-recorded : goal.returns-clause-recorded
returns-clause-recorded c =
    let d = c.loop-message.invariant.draining in
    let none : front_of c.loop-message.end ≡ None = sym c.in_default.ensures.value in
    d.recorded ∙ ap (λ (n : ℕ). record c.args.end.now.facts.recorded { inbox_next = c.args.end.now.facts.recorded.inbox_next + n })
    (all_drained c.args.end.now c.loop-message.end (payloads_in c.args.gathered.now) (payloads_in c.loop-message.gathered) d none)

pub returns-clause-numbers : goal.returns-clause-numbers
returns-clause-numbers c = λ some.
    let d = c.loop-message.invariant.draining in
    let none : front_of c.loop-message.end ≡ None = sym c.in_default.ensures.value in
    d.numbers (omega (arith, some, all_drained c.args.end.now c.loop-message.end (payloads_in c.args.gathered.now) (payloads_in c.loop-message.gathered) d none))

pub returns-clause-in_turn : goal.returns-clause-in_turn
returns-clause-in_turn c = λ now frames bytes h.
    let none : front_of c.loop-message.end ≡ None = sym c.in_default.ensures.value in
    in_turn_drained c.loop-message.end now frames bytes none (c.loop-message.invariant.in_turn now frames bytes h)
