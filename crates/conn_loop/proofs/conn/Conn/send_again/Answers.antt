use Rattle.std.proofs.Common.{◌≡◌, ℕ, ◌+◌, ◌<◌, ◌≤◌, length, Option, Some, false, sym, ap, subst, ◌∙◌, refl, arith}
use Rattle.std.specs.Prelude.{is_some, IfSome}
use Rattle.session_model.proofs.Lists.{prefix_length}
use Rattle.fixp_msgs.specs.declared.numbering.Range.{Range}
use Rattle.fixp_shake.specs.declared.config.EndConfig.{EndConfig}
use Rattle.fixp_replies.specs.declared.facts.EndState.{EndState}
use Rattle.fixp_end.specs.Sending.{AreFrom, payloads_of}
use Rattle.fixp_end.proofs.Frames.{frames_fit}
use Rattle.fixp_machine.specs.Machine.{State, front_of, sent_again}
use Rattle.gate_turn.specs.Places.{known}
use Rattle.conn_turns.specs.Turns.{payloads_from, served_of}
use Rattle.conn_turns.specs.Exact.{IsAsDue}
use Rattle.conn_steps.proofs.Following.{line_is}
use Rattle.conn_loop.proofs.Entries.{sized, given_as, applied_as, due_given, told_given, numbers_given, length_given}
use Rattle.conn_loop.proofs.Machine.{again_is, served_some, seen_on}
use Rattle.conn_loop.proofs.conn.Conn.send_again.Goals as goal

pub send_again-requires-clause-front : goal.send_again-requires-clause-front
send_again-requires-clause-front g c =
    let h = (known c.fetch.new.pass).seen in
    let given = given_as c.as_slice.ensures.value c.in-Ok.ensures.given in
    let serving = sym c.serving.ensures.value ∙ c.in-Some.is in
    subst (λ (o : Option Range). IfSome o (λ r. AreFrom r.from c.as_slice.result.now)) (sym serving)
    (numbers_given h c.in-Some.range.from c.entries_of-most.result c.as_slice.result.now given)

pub send_again-requires-clause-within : goal.send_again-requires-clause-within
send_again-requires-clause-within g c =
    let h = (known c.fetch.new.pass).seen in
    let given = given_as c.as_slice.ensures.value c.in-Ok.ensures.given in
    let serving = sym c.serving.ensures.value ∙ c.in-Some.is in
    subst (λ (o : Option Range). IfSome o (λ r. length c.as_slice.result.now ≤ r.count)) (sym serving)
    (omega (arith, length_given h c.in-Some.range.from c.entries_of-most.result c.as_slice.result.now given, c.entries_of-most.ensures))

pub send_again-requires-clause-ranged : goal.send_again-requires-clause-ranged
send_again-requires-clause-ranged g c =
    let h = (known c.fetch.new.pass).seen in
    let given = given_as c.as_slice.ensures.value c.in-Ok.ensures.given in
    let serving = sym c.serving.ensures.value ∙ c.in-Some.is in
    subst (λ (o : Option Range). IfSome o (λ r. r.from + length c.as_slice.result.now < 18446744073709551616)) (sym serving)
    (omega (arith, length_given h c.in-Some.range.from c.entries_of-most.result c.as_slice.result.now given, c.entries_of-most.ensures, c.in-Some.ensures.sent.last, c.requires.serve.sent))

pub send_again-requires-clause-output : goal.send_again-requires-clause-output
send_again-requires-clause-output g c =
    let h = (known c.fetch.new.pass).seen in
    let given = given_as c.as_slice.ensures.value c.in-Ok.ensures.given in
    omega (
      arith,
      length_given h c.in-Some.range.from c.entries_of-most.result c.as_slice.result.now given,
      c.entries_of-most.ensures,
      frames_fit c.as_slice.result.now (sized c.as_slice.ensures.value c.in-Ok.ensures.sizes),
      c.requires.serve.little,
    )

pub returns-in-Ok-clause-again : goal.returns-in-Ok-clause-again
returns-in-Ok-clause-again g c =
    let m = c.args.self.now.end in
    let h = (known c.fetch.new.pass).seen in
    let from = c.in-Some.range.from in
    let most = c.entries_of-most.result in
    let given = given_as c.as_slice.ensures.value c.in-Ok.ensures.given in
    let serving = sym c.serving.ensures.value ∙ c.in-Some.is in
    let goes : is_some m.ending ≡ false = cc in
    let pays = payloads_of c.as_slice.result.now in
    let served = served_some m c.in-Some.range goes serving in
    record {
      sent = Some pays;
      as_due = subst (λ (o : Option Range). IsAsDue (served_of c.args.self.now.per_turn o h) (Some pays)) (sym served)
          (subst (λ (n : ℕ). IsAsDue (Some (payloads_from h from n)) (Some pays)) c.entries_of-most.ensures
          (due_given h from most c.as_slice.result.now given (applied_as c.as_slice.ensures.value c.in-Ok.ensures.applications)));
      told = λ tells. told_given h from most c.as_slice.result.now given tells
          ∙ (ap (λ (n : ℕ). Some (payloads_from h from n)) c.entries_of-most.ensures ∙ ap (λ (o : Option Range). served_of c.args.self.now.per_turn o h) (sym served));
      line = line_is _ _ (again_is m c.send_again.new.self m.facts.connection.serving c.in-Some.range _ _ c.args.now serving refl c.send_again.ensures.again) refl refl refl refl refl refl;
    }

pub returns-in-Ok-clause-serve : goal.returns-in-Ok-clause-serve
returns-in-Ok-clause-serve g c =
    let m = c.args.self.now.end in
    let n = c.send_again.new.self in
    let h = (known c.fetch.new.pass).seen in
    let given = given_as c.as_slice.ensures.value c.in-Ok.ensures.given in
    let serving = sym c.serving.ensures.value ∙ c.in-Some.is in
    let exact : n ≡ sent_again m c.in-Some.range (payloads_of c.as_slice.result.now) c.args.now
    = subst (λ (o : Option Range). IfSome o (λ r. n ≡ sent_again m r (payloads_of c.as_slice.result.now) c.args.now)) serving c.send_again.ensures.again in
    let stays = c.send_again.ensures.stays in
    let recorded = c.send_again.ensures.recorded in
    let sent = ap (λ (r : EndState). r.sent) recorded in
    record {
      begun = stays.begun ∙ c.requires.serve.begun;
      done = ap (λ (s : State). s.pending) exact ∙ c.requires.serve.done;
      drained = ap (λ (s : State). front_of s) exact ∙ c.requires.serve.drained;
      time = omega (arith, stays.moment);
      credentials = omega (arith, ap (λ (x : EndConfig). length x.credentials) stays.config, c.requires.serve.credentials);
      little = omega (
        arith,
        length_given h c.in-Some.range.from c.entries_of-most.result c.as_slice.result.now given,
        c.entries_of-most.ensures,
        frames_fit c.as_slice.result.now (sized c.as_slice.ensures.value c.in-Ok.ensures.sizes),
        c.requires.serve.little,
        c.send_again.ensures.small,
      );
      sent = omega (arith, sent, c.requires.serve.sent);
      seen = seen_on m n (known c.args.pass.now) (known c.fetch.new.pass) c.in-Ok.ensures.turn.seen (ap (λ (r : EndState). r.finish) recorded)
          (omega (arith, sent, c.requires.serve.seen.entries, prefix_length (known c.args.pass.now).seen.made h.made c.in-Ok.ensures.turn.seen.made)) c.requires.serve.seen;
    }

pub returns-in-Ok-clause-some : goal.returns-in-Ok-clause-some
returns-in-Ok-clause-some g c =
    let m = c.args.self.now.end in
    let serving = sym c.serving.ensures.value ∙ c.in-Some.is in
    let goes : is_some m.ending ≡ false = cc in
    sym (ap (λ (o : Option Range). is_some o) (served_some m c.in-Some.range goes serving))
