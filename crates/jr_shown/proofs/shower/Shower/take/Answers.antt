use Rattle.std.proofs.Common.{ℕ, ◌+◌, ◌-◌, sym, ◌∙◌, ap, arith}
use Rattle.jr_dated.specs.Dated.{stamped}
use Rattle.jr_stream.specs.Images.{counted}
use Rattle.jr_shown.proofs.Going.{passed, spent, added}
use Rattle.jr_shown.proofs.shower.Shower.take.Goals as goal

pub returns-then-not-is_shown : goal.returns-then-not-is_shown
returns-then-not-is_shown c =
    passed c.args.plan.now (stamped c.args.moment c.args.what.now) c.args.self.now c.count.new.self (sym c.is_shown.ensures ∙ c.if-not-is_shown.true) c.count.ensures.number c.count.ensures.left
    c.count.ensures.start c.count.ensures.style c.count.ensures.showing c.count.ensures.lines

pub returns-then-self-eq0 : goal.returns-then-self-eq0
returns-then-self-eq0 c =
    spent c.args.plan.now (stamped c.args.moment c.args.what.now) c.args.self.now c.count-then-self-eq0.new.self (sym c.is_shown.ensures ∙ c.if-not-is_shown.false) c.if-self-eq0.true
    c.count-then-self-eq0.ensures.left c.count-then-self-eq0.ensures.style c.count-then-self-eq0.ensures.showing c.count-then-self-eq0.ensures.lines

pub returns : goal.returns
returns c =
    added c.args.plan.now (stamped c.args.moment c.args.what.now) c.args.self.now c.count-2.new.self (sym c.is_shown.ensures ∙ c.if-not-is_shown.false) (λ e. absurd (omega (arith, c.if-self-eq0.false, e)))
    (c.count-2.ensures.number ∙ ap (λ (n : ℕ). counted (n + 1)) c.push.ensures.number) (c.count-2.ensures.left ∙ ap (λ (n : ℕ). n - 1) c.push.ensures.left) (c.count-2.ensures.style ∙ c.push.ensures.style)
    (c.count-2.ensures.showing ∙ c.push.ensures.showing) (c.count-2.ensures.lines ∙ c.in_ok-push.ensures.lines)
