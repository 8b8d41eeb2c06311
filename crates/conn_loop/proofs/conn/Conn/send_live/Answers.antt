use Rattle.std.proofs.Common.{◌≡◌, ◌+◌, ℕ, Bool, List, length, Option, Some, None, true, if◌then◌else◌, sym, ap, subst, ◌∙◌, refl, arith}
use Rattle.session_model.proofs.Lists.{prefix_length}
use Rattle.fixp_end.specs.Sending.{AreFrom, payloads_of}
use Rattle.fixp_end.proofs.Frames.{frames_fit}
use Rattle.fixp_machine.specs.Machine.{State, front_of}
use Rattle.gate_turn.specs.Places.{known}
use Rattle.conn_turns.specs.Turns.{payloads_from, sends_live, live_of}
use Rattle.conn_turns.specs.Exact.{IsAsDue}
use Rattle.conn_steps.proofs.Following.{line_is}
use Rattle.conn_loop.proofs.Entries.{sized, given_as, applied_as, due_given, told_given, numbers_given, length_given, length_payloads}
use Rattle.conn_loop.proofs.Machine.{seen_on, finish_marked, live_flow}
use Rattle.conn_loop.proofs.conn.Conn.send_live.Goals as goal

pub send_live-requires-clause-last : goal.send_live-requires-clause-last
send_live-requires-clause-last g c =
    let h = (known c.look.new.pass).seen in
    let given = given_as c.as_slice.ensures.value c.in-Ok.ensures.given in
    omega (arith, length_given h (c.sent.result + 1) c.args.self.now.per_turn c.as_slice.result.now given, c.sent.ensures, c.requires.serve.sent, c.look.ensures.few)

pub send_live-requires-clause-numbered : goal.send_live-requires-clause-numbered
send_live-requires-clause-numbered g c =
    let h = (known c.look.new.pass).seen in
    let given = given_as c.as_slice.ensures.value c.in-Ok.ensures.given in
    subst (λ (n : ℕ). AreFrom (n + 1) c.as_slice.result.now) c.sent.ensures (numbers_given h (c.sent.result + 1) c.args.self.now.per_turn c.as_slice.result.now given)

pub send_live-requires-clause-output : goal.send_live-requires-clause-output
send_live-requires-clause-output g c =
    let given = given_as c.as_slice.ensures.value c.in-Ok.ensures.given in
    omega (
      arith,
      length_given (known c.look.new.pass).seen (c.sent.result + 1) c.args.self.now.per_turn c.as_slice.result.now given,
      frames_fit c.as_slice.result.now (sized c.as_slice.ensures.value c.in-Ok.ensures.sizes),
      c.requires.serve.little,
    )

pub returns-in-Ok-clause-live : goal.returns-in-Ok-clause-live
returns-in-Ok-clause-live g c =
    let m = c.args.self.now.end in
    let h = (known c.look.new.pass).seen in
    let given = given_as c.as_slice.ensures.value c.in-Ok.ensures.given in
    let sends : sends_live m ≡ true = cc in
    let from : c.sent.result + 1 ≡ m.facts.recorded.sent + 1 = ap (λ (n : ℕ). n + 1) c.sent.ensures in
    let pays = payloads_of c.as_slice.result.now in
    let due : Some (payloads_from h (c.sent.result + 1) c.args.self.now.per_turn) ≡ live_of c.args.self.now.per_turn m h =
    ap (λ (n : ℕ). Some (payloads_from h n c.args.self.now.per_turn)) from ∙ sym (ap (λ (b : Bool). if b then Some (payloads_from h (m.facts.recorded.sent + 1) c.args.self.now.per_turn) else None) sends) in
    record {
      sent = Some pays;
      as_due = subst (λ (o : Option (List (List ℕ))). IsAsDue o (Some pays)) due
          (due_given h (c.sent.result + 1) c.args.self.now.per_turn c.as_slice.result.now given (applied_as c.as_slice.ensures.value c.in-Ok.ensures.applications));
      told = λ tells. told_given h (c.sent.result + 1) c.args.self.now.per_turn c.as_slice.result.now given tells ∙ due;
      line = line_is _ _ c.send_live.ensures.live refl refl refl refl refl refl;
    }

pub returns-in-Ok-clause-mark : goal.returns-in-Ok-clause-mark
returns-in-Ok-clause-mark g c =
    let m = c.args.self.now.end in
    let sends : sends_live m ≡ true = cc in
    finish_marked m (known c.look.new.pass).seen c.in-Ok.field-0.mark (live_flow m sends) c.in-Ok.ensures.some c.in-Ok.ensures.none

pub returns-in-Ok-clause-serve : goal.returns-in-Ok-clause-serve
returns-in-Ok-clause-serve g c =
    let m = c.args.self.now.end in
    let n = c.send_live.new.self in
    let h = (known c.look.new.pass).seen in
    let given = given_as c.as_slice.ensures.value c.in-Ok.ensures.given in
    let live = c.send_live.ensures.live in
    let many = length_given h (c.sent.result + 1) c.args.self.now.per_turn c.as_slice.result.now given in
    let pays = length_payloads c.as_slice.result.now in
    let sent = ap (λ (s : State). s.facts.recorded.sent) live in
    record {
      begun = ap (λ (s : State). s.begun) live ∙ c.requires.serve.begun;
      done = ap (λ (s : State). s.pending) live ∙ c.requires.serve.done;
      drained = ap (λ (s : State). front_of s) live ∙ c.requires.serve.drained;
      time = omega (arith, ap (λ (s : State). s.moment) live);
      credentials = omega (arith, ap (λ (s : State). length s.config.credentials) live, c.requires.serve.credentials);
      little = omega (
        arith,
        many,
        frames_fit c.as_slice.result.now (sized c.as_slice.ensures.value c.in-Ok.ensures.sizes),
        c.requires.serve.little,
        c.send_live.ensures.small,
      );
      sent = omega (arith, sent, pays, many, c.sent.ensures, c.requires.serve.sent, c.look.ensures.few);
      seen = seen_on m n (known c.args.pass.now) (known c.look.new.pass) c.look.ensures.turn.seen (ap (λ (s : State). s.facts.recorded.finish) live)
          (omega (
            arith,
            sent,
            pays,
            many,
            c.sent.ensures,
            c.requires.serve.seen.entries,
            prefix_length (known c.args.pass.now).seen.made h.made c.look.ensures.turn.seen.made,
          )) c.requires.serve.seen;
    }
