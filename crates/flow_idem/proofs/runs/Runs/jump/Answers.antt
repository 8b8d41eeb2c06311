use Rattle.std.proofs.Common.{◌≡◌, ◌+◌, ◌-◌, ◌<◌, ◌≤◌, [], ◌∷◌, ◌++◌, ap, sym, ◌∙◌, subst, arith}
use Rattle.flow_idem.specs.Runs.{Growing, AreApart}
use Rattle.flow_idem.proofs.Told.{apart_more, apart_later}
use Rattle.flow_idem.proofs.runs.Runs.jump.Goals.{then-self+in-Ok, else-self}
use Rattle.flow_idem.proofs.runs.Runs.jump.Goals as goal

pub invariant_of-self : goal.invariant_of-self
invariant_of-self c =
    let rs = c.self.inside.whole.items in
    let f = c.self.inside.first in
    let e = c.self.inside.end in
    let n = c.args.number in
    let forward : e ≤ n = omega (arith, c.requires.forward, ap (λ (g : Growing). g.end) c.self.view_is) in
    let before : AreApart rs f = c.self.invariant.1 in
    let beyond : e < n = omega (arith, forward, c.if-number-self.false) in
    let apart : AreApart c.if-self.self-inside.whole.items n = elim c.if-self.branch [
      | then-self+in-Ok w ↦
          let some : 1 ≤ e - f = omega (arith, w.if-self.true) in
          let end : f + (e - f) < n = omega (arith, w.if-self.true, beyond) in
          let now : c.if-self.self-inside.whole.items ≡ rs ++ record { from = f; count = e - f } ∷ [] = ap (λ i. i.whole.items) w.self-inside-is ∙ w.in-Ok.ensures.items in
          subst (λ qs. AreApart qs n) (sym now) (apart_more rs f (e - f) n before some end)
      | else-self w ↦
          subst (λ qs. AreApart qs n) (sym (ap (λ i. i.whole.items) w.self-inside-is)) (apart_later rs f n before (omega (arith, beyond, c.self.invariant.0)))
    ] in (omega arith, apart)
