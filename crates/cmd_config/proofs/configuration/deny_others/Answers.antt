-- The keys that are listed in each branch are those that are known there.
use Rattle.std.proofs.Common.{Bool, sym, ◌∙◌, subst}
use Rattle.toml.specs.View.{view}
use Rattle.toml_walk.specs.Reading.{Reads}
use Rattle.toml_walk.specs.Keys.{deny_unknown_keys}
use Rattle.cmd_config.specs.Settings.{keys_with}
use Rattle.cmd_config.proofs.configuration.deny_others.Goals as goal

pub returns-then-is_accept : goal.returns-then-is_accept
returns-then-is_accept c =
    let asked = c.deny_unknown_keys in
    subst (λ (book : Bool). Reads asked.result (deny_unknown_keys (keys_with book) (view c.args.keys.now))) (sym c.if-is_accept.true ∙ c.is_accept.ensures) asked.ensures

pub returns-else-is_accept : goal.returns-else-is_accept
returns-else-is_accept c =
    let asked = c.deny_unknown_keys-else-is_accept in
    subst (λ (book : Bool). Reads asked.result (deny_unknown_keys (keys_with book) (view c.args.keys.now))) (sym c.if-is_accept.false ∙ c.is_accept.ensures) asked.ensures
