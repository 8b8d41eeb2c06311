-- A dialer over tapes, as its front link is lent.
use Rattle.std.proofs.Common.{◌≡◌, ℕ, ◌+◌, ◌<◌, ◌≤◌, List, Some, length, take, drop, map, arith, sym, ap, subst, ◌∙◌, length-take, length-drop}
use Rattle.std.proofs.lemmas.List.{drop-drop, drop-take}
use Rattle.std.proofs.lemmas.List.Elements.{All-drop}
use Rattle.std.specs.List.{All}
use Rattle.std.specs.Prelude.{◌-◌, Ok}
use Rattle.gw_outside.specs.declared.faults.Failed.{Failed}
use Rattle.gw_links.specs.Dialers.{dialed}
use Rattle.gw_links.specs.declared.dialer.Next.TheVariants as nexts
use Rattle.gw_link_fakes.specs.Dialing.{told_carried}
use Rattle.gw_link_fakes.specs.Tapes.{IsUnused, Tape}

-- the links behind the first one are left
pub rest_unused : (items rest : List Tape) (left : ℕ) → rest ≡ drop 1 items → 0 < left → All IsUnused (take left items) → All IsUnused (take (left - 1) rest)
rest_unused items rest left is some unused =
    let e : 1 + (left - 1) ≡ left = omega (arith, some) in
    subst (All IsUnused)
    (ap (λ n. drop 1 (take n items)) (sym e) ∙ drop-take 1 (left - 1) items ∙ sym (ap (take (left - 1)) is))
    (All-drop IsUnused 1 (take left items) unused)

-- and what came back stays
pub told_fewer : (items rest : List Tape) (left : ℕ) (link : Tape) → rest ≡ drop 1 items → 0 < left → left ≤ length items
    → Some (record { left = length (take (left - 1) rest); back = map told_carried (drop (left - 1) rest) })
    ≡ Some (dialed {L = Tape} {E = Failed} (Ok (nexts.Link link)) (record { left = length (take left items); back = map told_carried (drop left items) }))
told_fewer items rest left link is some within =
    let count : length (take (left - 1) rest) ≡ length (take left items) - 1 =
    omega (arith, length-take (left - 1) rest, length-take left items, ap length is, length-drop 1 items, some, within) in
    let e : 1 + (left - 1) ≡ left = omega (arith, some) in
    let back : drop (left - 1) rest ≡ drop left items = ap (drop (left - 1)) is ∙ drop-drop (left - 1) 1 items ∙ ap (λ n. drop n items) e in
    λ i. Some (record { left = count i; back = map told_carried (back i) })
