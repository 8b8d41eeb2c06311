-- The answer that an outcome tells.
use Rattle.std.proofs.Common.{◌≡◌, inl, inr, ℕ, List, Option, Some, Result, Ok, refl, ap, sym, subst, ◌∙◌}
use Rattle.std.specs.Option.{option_map}
use Rattle.gw_outside.specs.Faults.{TakesFront}
use Rattle.sbe_value.specs.declared.path.Step.{Step}
use Rattle.schema_types.specs.declared.schema.Schema.{Schema}
use Rattle.sbe_skew.specs.Extends.{Extends, Explains, difference_of}
use Rattle.sbe_skew.specs.declared.fault.SkewFault.TheVariants.{Differs}
use Rattle.schema_toml.specs.declared.fault.ConfigFault.{ConfigFault}
use Rattle.cmd_extends.specs.declared.outcome.Outcome.{Outcome}
use Rattle.cmd_extends.specs.declared.outcome.Outcome.TheVariants as outcomes
use Rattle.cmd_extends.specs.Answer.{DiffersAt, IsAnswer, first_place, place_of, differs_line, extends_line}
use Rattle.cmd_extends.specs.Promise.{Gave}
use Rattle.cmd_extends.proofs.Judging.{same_schema}

-- the place of a difference that is told
pub differs_at : (newer older : Schema) (path place : List Step) → Explains newer older (Differs path) → place ≡ place_of newer older path → DiffersAt newer older place
differs_at newer older path place told is = record {
  refuted = told.0;
  first = ap (option_map (place_of newer older)) told.1 ∙ ap Some (sym is);
}

-- a push of the line failed in the middle
pub differs_front : (newer older : Schema) (place : List Step) (line : List ℕ) (old new : Option (List ℕ)) → DiffersAt newer older place → line ≡ differs_line place → TakesFront old new line
    → Gave newer older old new outcomes.OutputFault
differs_front newer older place line old new differs is front = (line, inr (place, differs, is), front)

pub extends_front : (newer older : Schema) (old new : Option (List ℕ)) → Extends newer older → TakesFront old new extends_line → Gave newer older old new outcomes.OutputFault
extends_front newer older old new extends front = (extends_line, inl (extends, refl), front)

-- what was given of the schemas that were read was given of those that both texts spell
pub gave_of : (one other : Result Schema ConfigFault) (a b c d : Schema) (old new : Option (List ℕ)) (o : Outcome) → one ≡ Ok a → one ≡ Ok b → other ≡ Ok c → other ≡ Ok d
    → Gave a c old new o → Gave b d old new o
gave_of one other a b c d old new o first second third fourth gave =
    subst (λ (s : Schema). Gave s d old new o) (same_schema one a b first second) (subst (λ (s : Schema). Gave a s old new o) (same_schema other c d third fourth) gave)
