-- A message of a template is found exactly where some message has it.
use Rattle.std.proofs.Common.{◌≡◌, ℕ, inl, inr, ◌∙◌, sym, ap, refl, true, false, Option, Some, None, is_some, IsNone, if◌then◌else◌, ◌==◌, List, [], ◌∷◌, rules, eqb-true, eq-eqb}
use Rattle.std.proofs.lemmas.Bool.{false≢true}
use Rattle.std.specs.Option.{option_copied}
use denote.Bor.{Bor}
use Rattle.sbe_layout.specs.declared.plan.MessagePlan.{MessagePlan}
use Rattle.sbe_layout.specs.Plans.{message_of, HasTemplate}

has_some : (t : ℕ) (ms : List MessagePlan) → HasTemplate t ms → is_some (message_of t ms) ≡ true
has_some t [] h = absurd h
has_some t (m ∷ ms) (inl e) = ap (λ b. is_some (if b then Some m else message_of t ms)) (eq-eqb m.template t e)
has_some t (m ∷ ms) (inr h) =
    elim (m.template == t) as (λ b. is_some (if b then Some m else message_of t ms) ≡ true) [ true ↦ refl | false ↦ has_some t ms h ]

some_has : (t : ℕ) (ms : List MessagePlan) → is_some (message_of t ms) ≡ true → HasTemplate t ms
some_has t [] e = absurd (false≢true e)
some_has t (m ∷ ms) e =
    elim (m.template == t) as (λ b. (m.template == t) ≡ b → is_some (if b then Some m else message_of t ms) ≡ true → HasTemplate t (m ∷ ms)) [
      | true ↦ λ same _. inl (eqb-true m.template t same)
      | false ↦ λ _ later. inr (some_has t ms later)
    ] refl e

pub lacks : (t : ℕ) (ms : List MessagePlan) (r : Option (Bor MessagePlan)) → option_copied r ≡ message_of t ms → (IsNone r → HasTemplate t ms → ⊥) × ((HasTemplate t ms → ⊥) → IsNone r)
lacks t ms None e = (λ _ h. false≢true (ap is_some e ∙ has_some t ms h), λ _. search rules)
lacks t ms (Some x) e = (λ n h. search rules, λ no. absurd (no (some_has t ms (sym (ap is_some e)))))
