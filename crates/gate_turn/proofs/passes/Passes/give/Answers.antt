use Rattle.std.proofs.Common.{rules, ◌≡◌, ◌-◌, length, Some, sym, ap, ◌∙◌, arith}
use Rattle.std.proofs.lemmas.Option.{same_Some}
use Rattle.gate_turn.proofs.Placed.{set_in_place}
use Rattle.gate_turn.proofs.passes.Passes.give.Goals as goal

pub invariant_of-self : goal.invariant_of-self
invariant_of-self g c =
    let i = c.args.pass.in_range in
    let at : c.from-place.result ≡ c.args.pass.number = c.from-place.ensures in
    let long : length c.args.self.now.places ≡ 18 = search rules in (
      set_in_place c.args.self.now.places (c.from-place.result - 1) (Some c.args.pass) (omega (arith, i.0, i.1)) c.args.self.now.in_place
          (λ p e. ap (λ q. q.number) (sym (same_Some _ _ e)) ∙ omega (arith, i.0, i.1)),
      tt,
    )
