use Rattle.std.proofs.Common.{arith, ap, length, length-drop}
use Rattle.gw_link_fakes.proofs.Dials.{rest_unused, told_fewer}
use Rattle.gw_link_fakes.proofs.dialer.MemDialerDialer.next.Goals as goal

pub invariant_of-self-2 : goal.invariant_of-self-2
invariant_of-self-2 c =
    let rest = c.pop_front.ensures.rest in
    let old = c.self.inside.links in
    let some = c.if-self-eq0.false in (
      omega (arith, c.self.invariant.0, ap length rest, length-drop 1 old.items),
      λ _. omega (arith, c.self.invariant.0, ap length rest, length-drop 1 old.items, c.pop_front.ensures.capacity, old.small.1, old.ok.0, some),
      rest_unused old.items _ c.self.inside.left rest (omega (arith, some)) c.self.invariant.2,
    )

pub returns-clause-told : goal.returns-clause-told
returns-clause-told c =
    let old = c.self.inside.links in
    let some = c.if-self-eq0.false in
    rw (← c.self.view_is) (told_fewer old.items _ c.self.inside.left c.in-Some.link c.pop_front.ensures.rest (omega (arith, some)) c.self.invariant.0)
