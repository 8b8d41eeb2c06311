use Rattle.std.proofs.Common.{◌≡◌, ◌++◌, ◌<◌, ◌^◌, ℕ, ℤ, true, pos, Ok, List, subst, arith}
use Rattle.std.specs.Int.{w128}
use Rattle.std.proofs.lemmas.Int.{to_z_pos}
use Rattle.sbe_value.specs.declared.item.Item.TheVariants.{Num}
use Rattle.sbe_grammar.specs.Canonical.{is_admitted, item_bytes}
use Rattle.text_words.specs.Lines.{lines_in}
use Rattle.sbe_text.specs.Tokens.{natural_of}
use Rattle.sbe_text.specs.Reading.{read_element}
use Rattle.sbe_from_text.proofs.Lined.{number_written}
use Rattle.sbe_from_text.proofs.items.write_item.Goals as goal

pub returns-in-Some : goal.returns-in-Some
returns-in-Some c =
    let p = c.args.plan.now in
    let n = c.in-Some.number in
    let listings = c.args.listings.now in
    let order = c.args.order in
    let old = c.args.out.now.items in
    let new = c.write_integer.new.out.items in
    let Line : List ℕ → Type 0 = λ name. read_element c.args.before.now name natural_of (lines_in c.args.left.now) ≡ Ok (n, lines_in c.in-Some.rest.now) in
    let Admitted : ℤ → Type 0 = λ z. is_admitted listings p.kind (Num z) ≡ true in
    let Added : ℤ → Type 0 = λ z. new ≡ old ++ item_bytes order p (Num z) in
    let short : n < 2 ^ 127 = omega arith in
    let number = to_z_pos w128 n short in
    number_written listings order c.args.before.now old new p n (lines_in c.args.left.now) (lines_in c.in-Some.rest.now) (c.holds_numbers.ensures c.if-holds_numbers.true) (omega arith) (subst Line c.as_slice.ensures c.in-Some.ensures) (subst Admitted number c.in_ok-write_integer.ensures.admitted) (subst Added number c.in_ok-write_integer.ensures.bytes)
