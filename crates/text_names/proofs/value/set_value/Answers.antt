use Rattle.std.proofs.Common.{◌≡◌, true, sym, ◌∙◌}
use Rattle.text_names.specs.Values.{is_named}
use Rattle.text_names.proofs.value.set_value.Goals as goal

pub returns-then-is_named : goal.returns-then-is_named
returns-then-is_named c =
    let named : is_named c.args.text.now ≡ true = sym c.is_named.ensures ∙ c.if-is_named.true in
    rw named (c.listed.ensures c.args.room.now.items)
