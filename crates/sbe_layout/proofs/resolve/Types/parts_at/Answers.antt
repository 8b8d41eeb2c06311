use Rattle.std.proofs.Common.{◌∙◌}
use Rattle.sbe_layout.proofs.Composites.{parts_behind, parts_in_place}
use Rattle.sbe_layout.proofs.resolve.Types.parts_at.Goals as goal

pub returns-in-None : goal.returns-in-None
returns-in-None c =
    parts_behind c.args.self.now.index.schema.now.types c.deref.result.now c.args.at (c.deref.ensures.value ∙ c.requires.parts) c.in-None.ensures.lookup.3

pub returns-in-Some : goal.returns-in-Some
returns-in-Some c =
    let lookup = c.in-Some.ensures.lookup in
    c.as_slice.ensures
    ∙ parts_in_place c.args.self.now.index.schema.now.types c.deref.result.now c.args.at c.in-Some.parts.now (c.deref.ensures.value ∙ c.requires.parts) lookup.3.0 lookup.1
