use Rattle.std.proofs.Common.{◌≡◌, ℕ, sym, subst, ◌∙◌, arith}
use Rattle.conn_tail.specs.Places.{Passed}
use Rattle.conn_tail.proofs.Walk.{one_passed, none_tells, this_tells}
use Rattle.conn_tail.proofs.tail.last_number.Goals as goal

pub returns-in-Some-clause-last : goal.returns-in-Some-clause-last
returns-in-Some-clause-last g c = λ content e.
    let at_loop = c.loop-end.invariant.content ∙ e in
    let at_number = c.in_ok-start.ensures.content ∙ at_loop in
    let tells = rw c.in-Some.is at c.in_ok-number.ensures.found in
    this_tells content c.in_ok-start.start c.loop-end.end c.args.whole c.in-Some.number (c.loop-end.invariant.passed content at_loop) c.loop-end-test.true
    (c.in_ok-start.ensures.start content at_loop) (tells content at_number)

pub loop-end-preserved : goal.loop-end-preserved
loop-end-preserved g c =
    let none = rw c.in_default.is at c.in_ok-number.ensures.none in
    record {
      within = omega (arith, c.loop-end.invariant.within, c.in_ok-start.ensures.before);
      passed = λ content e.
          let at_number = sym c.in_ok-number.ensures.content ∙ e in
          let at_loop = sym c.in_ok-start.ensures.content ∙ at_number in
          one_passed content c.in_ok-start.start c.loop-end.end c.args.whole (c.loop-end.invariant.passed content at_loop) c.loop-end-test.true
          (c.in_ok-start.ensures.start content at_loop) (none content at_number);
      stands = λ content e. c.in_ok-number.ensures.stands content (sym c.in_ok-number.ensures.content ∙ e);
      most = c.in_ok-number.ensures.most;
      content = c.in_ok-number.ensures.content ∙ c.in_ok-start.ensures.content ∙ c.loop-end.invariant.content;
      counted = omega (arith, c.loop-end.invariant.counted, c.in_ok-start.ensures.counted, c.in_ok-number.ensures.counted);
    }

pub returns-clause-last : goal.returns-clause-last
returns-clause-last g c = λ content e.
    let first : c.loop-end.end ≡ 0 = omega (arith, c.loop-end-test.false) in
    none_tells content c.args.whole (subst (λ (n : ℕ). Passed content n c.args.whole) first (c.loop-end.invariant.passed content (c.loop-end.invariant.content ∙ e)))
