use Rattle.std.proofs.Common.{◌≡◌, [], length, None, sym, ap, subst, ◌∙◌, arith}
use Rattle.std.proofs.lemmas.List.{length-replicate}
use Rattle.flow_window.specs.Places.{held_from, Fit}
use Rattle.flow_window.proofs.Places.{held_from-replicate}
use Rattle.flow_window.proofs.window.Window.new.Goals as goal

pub invariant_of-result : goal.invariant_of-result
invariant_of-result c =
    let q = c.loop.places in
    let none : held_from c.args.next q.items ≡ [] = ap (held_from c.args.next) c.loop.invariant ∙ held_from-replicate c.args.next c.loop.counter in
    let long : length q.items ≡ c.loop.counter = ap length c.loop.invariant ∙ length-replicate c.loop.counter None in
    record {
      len_is = omega (arith, q.ok.0, long, c.loop-test.false, c.loop.auto.counter-end);
      count_is = sym (ap length none);
      fit = subst Fit (sym none) tt;
    }
