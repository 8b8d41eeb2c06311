-- What is found of the session's schema by computing it.
use Rattle.std.proofs.Common.{refl}
use Rattle.sbe_prim.specs.Names.{primitive_named}
use Rattle.sbe_schema.specs.Checked.{is_checked}
use Rattle.session_grammar.specs.SchemaLaws.{SessionIsChecked, SessionBlocks, ProjectsToZero}

pub session_is_checked : SessionIsChecked
unfolding primitive_named is_checked
session_is_checked = record { older = refl; newer = refl }

pub session_blocks : SessionBlocks
unfolding primitive_named
session_blocks = record { older = refl; newer = refl }

pub projects_to_zero : ProjectsToZero
projects_to_zero = refl
