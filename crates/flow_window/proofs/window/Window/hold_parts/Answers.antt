use Rattle.std.proofs.Common.{◌≡◌, ◌+◌, ◌-◌, ◌<◌, ◌++◌, length, slice_set, sym, ap, subst, ◌∙◌, arith}
use Rattle.std.specs.Int.{from_bool}
use Rattle.flow_window.specs.Window.{holding}
use Rattle.flow_window.specs.Places.{held_from, Fit}
use Rattle.flow_window.proofs.Places.{held_from-set, count_set, count_most, from_bool_most}
use Rattle.flow_window.proofs.Reach.{fit_holding}
use Rattle.flow_window.proofs.window.Window.hold_parts.Goals as goal

pub overflow_add-self : goal.overflow_add-self
overflow_add-self c =
    let w = c.self.inside in
    let most = count_most w.next w.places.items in
    omega (arith, most, c.self.invariant.count_is, c.self.invariant.len_is, w.places.ok.0, c.from.ensures, from_bool_most c.hold.result)

pub invariant_of-self : goal.invariant_of-self
invariant_of-self c =
    let w = c.self.inside in
    let at = c.args.number - w.next in
    let payload = c.args.first.now ++ c.args.second.now in
    let x = c.index_mut.result.now in
    let y = c.hold.new.self in
    let next : w.next ≡ c.args.self.now.next = ap (λ h. h.next) c.self.view_is in
    let inside : at < length w.places.items = omega (arith, next, c.requires.near, c.self.invariant.len_is, w.places.ok.0) in
    let here : w.next + at ≡ c.args.number = omega (arith, next, c.requires.near.0) in
    let held : held_from w.next (slice_set w.places.items at y) ≡ holding c.args.number payload (held_from w.next w.places.items) =
    held_from-set w.next c.args.number at payload w.places.items x y inside c.index_mut.ensures.value c.hold.ensures.holds here in
    record {
      len_is = c.self.invariant.len_is;
      count_is = ap (λ n. n + c.from.result) c.self.invariant.count_is
          ∙ (ap (λ n. length (held_from w.next w.places.items) + n) (c.from.ensures ∙ ap from_bool c.hold.ensures.fresh)
          ∙ sym (count_set w.next at payload w.places.items x y inside c.index_mut.ensures.value c.hold.ensures.holds));
      fit = subst Fit (sym held) (fit_holding c.args.number payload (held_from w.next w.places.items) c.ranges.number.fits c.self.invariant.fit);
    }

pub returns : goal.returns
returns c =
    let w = c.self.inside in
    let at = c.args.number - w.next in
    let payload = c.args.first.now ++ c.args.second.now in
    let x = c.index_mut.result.now in
    let y = c.hold.new.self in
    let next : w.next ≡ c.args.self.now.next = ap (λ h. h.next) c.self.view_is in
    let inside : at < length w.places.items = omega (arith, next, c.requires.near, c.self.invariant.len_is, w.places.ok.0) in
    let here : w.next + at ≡ c.args.number = omega (arith, next, c.requires.near.0) in
    rw (← c.self.view_is) (ap (λ ms. record { next = w.next; held = ms })
    (held_from-set w.next c.args.number at payload w.places.items x y inside c.index_mut.ensures.value c.hold.ensures.holds here))
