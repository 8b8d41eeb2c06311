use Rattle.std.proofs.Common.{◌≡◌, ℕ, ◌*◌, List, ◌++◌, ◌∙◌, ap, subst, arith}
use Rattle.text_dates.specs.Dates.{millis_text, seconds_text}
use Rattle.text_seconds.proofs.Behind.{is_long, without}
use Rattle.text_seconds.proofs.seconds.Seconds.turn_to.Goals as goal

pub overflow_sub-size : goal.overflow_sub-size
overflow_sub-size c =
    let written : c.push_millis.new.line.items ≡ millis_text (c.args.second * 1000) = c.in_ok-push_millis.ensures ∙ ap (λ (xs : List ℕ). xs ++ millis_text (c.args.second * 1000)) c.clear.ensures.items in
    omega (arith, is_long c.push_millis.new.line.items c.args.second written, c.len-size.ensures)

pub invariant_of-self-2 : goal.invariant_of-self-2
invariant_of-self-2 c =
    let written : c.push_millis.new.line.items ≡ millis_text (c.args.second * 1000) = c.in_ok-push_millis.ensures ∙ ap (λ (xs : List ℕ). xs ++ millis_text (c.args.second * 1000)) c.clear.ensures.items in
    record {
      kept = λ s e.
          let same : c.args.second ≡ s = cc (e) in
          c.truncate.ensures.items ∙ without c.push_millis.new.line.items c.args.second _ written (omega (arith, c.len-size.ensures)) ∙ ap seconds_text same;
    }
