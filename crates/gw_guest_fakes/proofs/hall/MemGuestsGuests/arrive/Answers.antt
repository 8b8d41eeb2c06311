use Rattle.std.proofs.Common.{arith, sym, ap, subst, length}
use Rattle.std.specs.List.{All}
use Rattle.std.proofs.lemmas.List.Elements.{All-drop}
use Rattle.gw_guest_fakes.specs.Guests.{IsFresh}
use Rattle.gw_guest_fakes.proofs.hall.MemGuestsGuests.arrive.Goals as goal

pub invariant_of-self : goal.invariant_of-self
invariant_of-self c = (
  subst (All IsFresh) (sym c.pop_front.ensures.rest) (All-drop IsFresh 1 c.self.inside.coming.items c.self.invariant.0),
  omega (arith, ap length c.in-Some.ensures.items, c.self.invariant.1),
  omega (arith, ap length c.in-Some.ensures.items, c.self.invariant.2),
  λ _. (omega (arith, ap length c.in-Some.ensures.items, c.self.invariant.1), omega (arith, ap length c.in-Some.ensures.items, c.self.invariant.2)),
)
