use Rattle.std.proofs.Common.{◌≡◌, ◌+◌, ◌<◌, length, is_some, sym, ap, subst, ◌∙◌, arith}
use Rattle.std.specs.Int.{from_bool}
use Rattle.flow_window.specs.Places.{held_from, without, Fit}
use Rattle.flow_window.proofs.Places.{held_from-turn, count_turn}
use Rattle.flow_window.proofs.Reach.{fit_without}
use Rattle.flow_window.proofs.window.Window.turn.Goals as goal

pub invariant_of-self : goal.invariant_of-self
invariant_of-self c =
    let w = c.self.inside in
    let x = c.index_mut.result.now in
    let y = c.free.new.self in
    let some : 0 < length w.places.items = omega (arith, c.self.invariant.len_is, w.places.ok.0) in
    let held : held_from (w.next + 1) c.rotate_left.new.self.items ≡ without w.next (held_from w.next w.places.items) =
    ap (held_from (w.next + 1)) c.rotate_left.ensures.items ∙ held_from-turn w.next w.places.items y some c.free.ensures.free in
    let long : length (held_from (w.next + 1) c.rotate_left.new.self.items) + from_bool (is_some x) ≡ length (held_from w.next w.places.items) =
    subst (λ items. length (held_from (w.next + 1) items) + from_bool (is_some x) ≡ length (held_from w.next w.places.items)) (sym c.rotate_left.ensures.items)
    (count_turn w.next w.places.items x y some c.index_mut.ensures.value c.free.ensures.free) in
    let freed : c.from.result ≡ from_bool (is_some x) = c.from.ensures ∙ ap from_bool c.free.ensures.was in
    record {
      len_is = c.rotate_left.ensures.len ∙ c.self.invariant.len_is;
      count_is = omega (arith, long, freed, c.self.invariant.count_is);
      fit = subst Fit (sym held) (fit_without w.next (held_from w.next w.places.items) c.self.invariant.fit);
    }

pub returns : goal.returns
returns c =
    let w = c.self.inside in
    let some : 0 < length w.places.items = omega (arith, c.self.invariant.len_is, w.places.ok.0) in
    rw (← c.self.view_is) (ap (λ ms. record { next = w.next + 1; held = ms })
    (ap (held_from (w.next + 1)) c.rotate_left.ensures.items ∙ held_from-turn w.next w.places.items c.free.new.self some c.free.ensures.free))
