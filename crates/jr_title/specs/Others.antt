-- What in a title differs from what is asked for.
use Rattle.std.specs.Prelude.{◌≡◌, ℕ, List, [], ◌∷◌, Option, Some, None, ⊤}
use Rattle.std.specs.List.{AllByRecursion}
use Rattle.jr_title.specs.declared.title.Title.{Title}
use Rattle.jr_title.specs.declared.title.Binding.{Binding}
use Rattle.jr_title.specs.declared.comparing.Part.{Part}
use Rattle.jr_title.specs.declared.comparing.Part.TheVariants as parts
use Rattle.jr_title.specs.Firsts.{IsFirst}

pub record HasFlows (binding asked : Binding) : Type 0 where
  pub client : binding.client_flow ≡ asked.client_flow
  pub server : binding.server_flow ≡ asked.server_flow

-- a pair is asked for, or none is
abbrev pub HasPair : ℕ → Option ℕ → Type 0
HasPair pair None = ⊤
HasPair pair (Some asked) = pair ≡ asked

-- a title has a part as it is asked for
abbrev pub HasPart : Title → Binding → Option ℕ → Part → Type 0
HasPart t asked pair parts.Box = t.binding.which ≡ asked.which
HasPart t asked pair parts.Role = t.binding.role ≡ asked.role
HasPart t asked pair parts.Session = t.binding.session ≡ asked.session
HasPart t asked pair parts.Flows = HasFlows t.binding asked
HasPart t asked pair parts.Senders = t.binding.who_sends ≡ asked.who_sends
HasPart t asked pair parts.Pair = HasPair t.pair pair

abbrev pub all_parts : List Part
all_parts = parts.Box ∷ parts.Role ∷ parts.Session ∷ parts.Flows ∷ parts.Senders ∷ parts.Pair ∷ []

-- the first part that it has not, or none: it has all
abbrev pub IsFirstOther : Title → Binding → Option ℕ → Option Part → Type 0
IsFirstOther t asked pair (Some part) = IsFirst all_parts (HasPart t asked pair) part
IsFirstOther t asked pair None = AllByRecursion (HasPart t asked pair) all_parts
