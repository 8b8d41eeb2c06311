use Rattle.std.proofs.Common.{ℕ, ◌++◌, sym, ap, ◌∙◌, arith}
use Rattle.std.specs.Int.{w16, to_be_bytes}
use Rattle.std.proofs.lemmas.Bool.{false≢true}
use Rattle.sbe_prim.specs.declared.Order.TheVariants.{Little, Big}
use Rattle.plan_feed.proofs.Judged.{of_session}
use Rattle.plan_feed.proofs.reading.lacking.Goals as goal

pub returns-in-60240 : goal.returns-in-60240
returns-in-60240 c = record {
  exact = of_session c.args.payload.now c.in-Some.message.now Little (ap (λ (n : ℕ). to_be_bytes w16 n ++ c.in-Some.message.now) (sym c.in-60240.is) ∙ c.in-Some.ensures.found)
      (omega arith) (omega arith) (λ a. false≢true (sym c.if-is_application.false ∙ c.is_application.ensures.exact.1 a));
}

pub returns-in-23520 : goal.returns-in-23520
returns-in-23520 c = record {
  exact = of_session c.args.payload.now c.in-Some.message.now Big (ap (λ (n : ℕ). to_be_bytes w16 n ++ c.in-Some.message.now) (sym c.in-23520.is) ∙ c.in-Some.ensures.found)
      (omega arith) (omega arith) (λ a. false≢true (sym c.if-is_application.false ∙ c.is_application.ensures.exact.1 a));
}
