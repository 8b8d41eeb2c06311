-- The links of two ends, by what each tells that it carried.
use Rattle.std.specs.Prelude.{ℕ, List, [], ◌∷◌, Option, Some, None, Result, Ok, Err}
use Rattle.std.specs.List.{AllZip, flat_map}
use mathlib.Core.List.{IsPrefix}
use Rattle.fixp_shake.specs.declared.config.EndConfig.{EndConfig}
use Rattle.fixp_shake.specs.declared.config.Role.{Role}
use Rattle.gw_links.specs.Links.{Carried, HasCarried}
use Rattle.turn_laws.specs.Legs.{TurnedLeg, given_on, sent_on}
use Rattle.two_ends.specs.Loops.{IsStrangeTo, LinkedLinks}
use Rattle.cmd_config.specs.declared.configuration.Configuration.{Configuration}
use Rattle.cmd_session.specs.Inputs.{configuration_at, end_of}
use Rattle.cmd_session.specs.Outsides.{Sees}
use Rattle.run_laws.specs.Several.{Run}

-- the bytes that the link gave one end are the first of those that it took of the other
abbrev pub GaveOf : (reader writer : Option Carried) → Type 0
GaveOf None writer = ⊥
GaveOf (Some r) None = ⊥
GaveOf (Some r) (Some w) = IsPrefix r.given w.taken

-- what it gave opens the session under none of these configurations
abbrev pub GaveStrange : List EndConfig → Option Carried → Type 0
GaveStrange configs None = ⊥
GaveStrange configs (Some c) = IsStrangeTo configs c.given

-- The links of two ends: paired in the same order at both, each in at most one pair. In a pair the link gave each end of what it took of
-- the other; one in no pair gave what a stranger to the configurations of its end gives
pub data LinkedCarried (configs_a configs_b : List EndConfig) : List (Option Carried) → List (Option Carried) → Type 0 where
  no_more : LinkedCarried configs_a configs_b [] []
  left_alone : {a : Option Carried} {as' bs : List (Option Carried)} → GaveStrange configs_a a → LinkedCarried configs_a configs_b as' bs
      → LinkedCarried configs_a configs_b (a ∷ as') bs
  right_alone : {b : Option Carried} {as' bs : List (Option Carried)} → GaveStrange configs_b b → LinkedCarried configs_a configs_b as' bs
      → LinkedCarried configs_a configs_b as' (b ∷ bs)
  paired : {a b : Option Carried} {as' bs : List (Option Carried)} → GaveOf a b → GaveOf b a → LinkedCarried configs_a configs_b as' bs
      → LinkedCarried configs_a configs_b (a ∷ as') (b ∷ bs)

-- the configuration of an end of this role that a text spells, where it spells one
abbrev pub config_in : {E : Type 0} → Role → Result Configuration E → List EndConfig
config_in role (Ok c) = end_of role c.link ∷ []
config_in role (Err fault) = []

abbrev pub config_by : Role → Option (List ℕ) → List EndConfig
config_by role None = []
config_by role (Some text) = config_in role (configuration_at role text)

module _ {S K D N C : Type 0} where
  -- those that the CONFIGs of some runs spell
  abbrev pub configs_by : Sees S K D N C → Role → List (Run S K D N C) → List EndConfig
  configs_by sees role runs = flat_map (λ (r : Run S K D N C). config_by role (sees.left r.before.config)) runs

-- a link that tells it carried what the turns of its connection say
abbrev pub CarriedOn : Option Carried → TurnedLeg → Type 0
CarriedOn c t = HasCarried c (given_on t) (sent_on t)

-- so connections whose links are linked are linked
abbrev pub CarriedAreLinked : Type 0
CarriedAreLinked = (configs_a configs_b : List EndConfig) (as' bs : List (Option Carried)) (ts us : List TurnedLeg)
    → AllZip CarriedOn as' ts → AllZip CarriedOn bs us → LinkedCarried configs_a configs_b as' bs → LinkedLinks configs_a configs_b ts us
