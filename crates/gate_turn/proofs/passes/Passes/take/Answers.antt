use Rattle.std.proofs.Common.{rules, ◌≡◌, ◌-◌, length, sym, ◌∙◌, arith}
use Rattle.std.proofs.lemmas.Option.{none-some}
use Rattle.gate_turn.proofs.Placed.{set_in_place, if_some, at_place}
use Rattle.gate_turn.proofs.passes.Passes.take.Goals as goal

pub invariant_of-self : goal.invariant_of-self
invariant_of-self g c = record {
  in_place =
      let at : c.from.result ≡ c.args.number = c.from.ensures in
      let long : length c.args.self.now.places ≡ 18 = search rules in
      set_in_place _ _ _ (omega (arith, c.if-number-lt1.false, c.if-number-gt18.false)) c.args.self.now.in_place (λ p e. absurd (none-some p (sym c.take.ensures.after ∙ e)));
}

pub returns-clause-number : goal.returns-clause-number
returns-clause-number g c = if_some c.take.result (λ p. p.number ≡ c.args.number)
    (λ p e.
    let at : c.from.result ≡ c.args.number = c.from.ensures in
    c.args.self.now.in_place c.args.number p (at_place c.args.self.now.places c.args.number (c.from.result - 1) _ _ (omega (arith, c.if-number-lt1.false)) (omega (arith, c.if-number-gt18.false)) (sym c.take.ensures.value ∙ e)))
