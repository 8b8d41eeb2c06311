use Rattle.std.proofs.Common.{◌≡◌, true, false, slice_get, sym, ◌∙◌}
use Rattle.sbe_schema.specs.Kinds.{is_char}
use Rattle.text_names.specs.Called.{uncalled}
use Rattle.text_names.specs.Values.{is_named}
use Rattle.text_names.proofs.value.enum_value.Goals as goal

pub returns-then-is_named : goal.returns-then-is_named
returns-then-is_named c =
    let named : is_named c.args.text.now ≡ true = sym c.is_named.ensures ∙ c.if-is_named.true in
    rw named (c.listed.ensures c.args.room.now.items)

pub returns-then-is_char : goal.returns-then-is_char
returns-then-is_char c =
    let unnamed : is_named c.args.text.now ≡ false = sym c.is_named.ensures ∙ c.if-is_named.false in
    let char : is_char c.args.prim ≡ true = sym c.is_char.ensures ∙ c.if-is_char.true in
    let same : c.in_ok-number.number.now ≡ uncalled (slice_get c.args.listings.now c.args.at) c.args.text.now = c.in_ok-number.ensures in
    rw (unnamed, char, sym same) c.character.ensures
