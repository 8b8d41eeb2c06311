-- What bytes spell by a checked schema, they spell by an older version of it, but for the later elements.
use Rattle.std.proofs.Common.{◌≡◌, inl, inr, ℕ, ◌∙◌, Bool, true, false, cond, if◌then◌else◌, ◌==◌, filter, map, refl, sym, ap, subst, IsTrue, Some, List, [], ◌∷◌, eqb-true, eq-eqb}
use Rattle.std.specs.Prelude.{nat_eq, unwrap_or}
use Rattle.std.specs.List.{AllByRecursion, list_any}
use Rattle.std.proofs.lemmas.Bool.{or_parts, false≢true}
use Rattle.sbe_value.specs.declared.message.Message.{Message}
use Rattle.schema_types.specs.declared.schema.Schema.{Schema}
use Rattle.schema_types.specs.declared.types.TypeDef.{TypeDef}
use Rattle.schema_types.specs.declared.messages.MessageDef.{MessageDef}
use Rattle.sbe_schema.specs.Checked.{is_checked}
use Rattle.sbe_schema.specs.Faults.{any_pair}
use Rattle.sbe_layout.specs.declared.plan.MessagePlan.{MessagePlan}
use Rattle.sbe_layout.specs.Plans.{plan_of, message_plan, message_plans, message_of, HasTemplate}
use Rattle.sbe_grammar.specs.Values.{is_in}
use Rattle.sbe_grammar.specs.Spelling.{SpellsBy, Spells}
use Rattle.sbe_skew.specs.Restricted.{kept_root, restricted}
use Rattle.sbe_skew.specs.Projected.{projected, projected_message, projected_messages}
use Rattle.sbe_skew.proofs.OlderBlocks.{block_kept}
use Rattle.sbe_skew.proofs.OlderGroups.{behind_map, then_map, right, data_first, data_none, groups_first}
use Rattle.sbe_skew.proofs.OlderFacts.{Grows, facts}

-- ---- the message of a template

record Found (types : List TypeDef) (w t : ℕ) (ms : List MessageDef) (layout : MessagePlan) : Type 0 where
  message : MessageDef
  is : layout ≡ message_plan types message
  older : Some (message_plan types (projected_message w message)) ≡ message_of t (message_plans types (projected_messages w ms))
  grows : Grows w message

some_same : {A : Type 0} (x y : A) → Some x ≡ Some y → x ≡ y
some_same x y p = ap (λ o. unwrap_or o x) p

-- the older version of the messages before which one stands
abbrev Before : List TypeDef → ℕ → MessageDef → List MessageDef → Bool → List MessagePlan
Before types w m ms b = message_plans types (map (projected_message w) (cond b (m ∷ filter (λ m. is_in w m.since) ms) (filter (λ m. is_in w m.since) ms)))

no_other : (types : List TypeDef) (w t : ℕ) (id : ℕ) (ms : List MessageDef) → (id == t) ≡ true → list_any (λ later. nat_eq later id) (map (λ m. m.id) ms) ≡ false → HasTemplate t (message_plans types (projected_messages w ms)) → ⊥
no_other types w t id [] e h k = k
no_other types w t id (m ∷ ms) e h k =
    let p = or_parts (nat_eq m.id id) (list_any (λ later. nat_eq later id) (map (λ m. m.id) ms)) h in
    let here : m.id ≡ t → ⊥ = λ same. false≢true (sym p.0 ∙ eq-eqb m.id id (same ∙ sym (eqb-true id t e))) in
    let later : HasTemplate t (message_plans types (projected_messages w ms)) → ⊥ = no_other types w t id ms e p.1 in
    (elim (is_in w m.since) as (λ b. HasTemplate t (Before types w m ms b) → ⊥) [
      | true ↦ λ has. elim has [ inl same ↦ here same | inr other ↦ later other ]
      | false ↦ later
    ]) k

finds : (types : List TypeDef) (w t : ℕ) (ms : List MessageDef) (layout : MessagePlan) → AllByRecursion (Grows w) ms → any_pair nat_eq (map (λ m. m.id) ms) ≡ false → HasTemplate t (message_plans types (projected_messages w ms)) → Some layout ≡ message_of t (message_plans types ms) → Found types w t ms layout
finds types w t [] layout g h k f = absurd k
finds types w t (m ∷ ms) layout g h k f =
    let p = or_parts (list_any (λ later. nat_eq later m.id) (map (λ m. m.id) ms)) (any_pair nat_eq (map (λ m. m.id) ms)) h in
    let rest = message_of t (message_plans types ms) in
    let older_rest = message_of t (message_plans types (projected_messages w ms)) in
    let here : (m.id == t) ≡ true → Found types w t (m ∷ ms) layout = λ e.
    (elim (is_in w m.since) as (λ b. is_in w m.since ≡ b → HasTemplate t (Before types w m ms b) → Found types w t (m ∷ ms) layout) [
      | true ↦ λ i _. record {
        message = m;
        is = some_same layout (message_plan types m) (f ∙ (λ j. if e j then Some (message_plan types m) else rest));
        older = sym ((λ j. message_of t (Before types w m ms (i j))) ∙ (λ j. if e j then Some (message_plan types (projected_message w m)) else older_rest));
        grows = g.0;
      }
      | false ↦ λ i has. absurd (no_other types w t m.id ms e p.0 has)
    ]) refl k in
    let later : (m.id == t) ≡ false → Found types w t (m ∷ ms) layout = λ e.
    (elim (is_in w m.since) as (λ b. is_in w m.since ≡ b → HasTemplate t (Before types w m ms b) → Found types w t (m ∷ ms) layout) [
      | true ↦ λ i has. (
          let has_later : HasTemplate t (message_plans types (projected_messages w ms)) = elim has [ inl same ↦ absurd (false≢true (sym e ∙ eq-eqb m.id t same)) | inr other ↦ other ] in
          let found = finds types w t ms layout g.1 p.1 has_later (f ∙ (λ j. if e j then Some (message_plan types m) else rest)) in
          record {
            message = found.message;
            is = found.is;
            older = found.older ∙ sym ((λ j. message_of t (Before types w m ms (i j))) ∙ (λ j. if e j then Some (message_plan types (projected_message w m)) else older_rest));
            grows = found.grows;
          })
      | false ↦ λ i has. (
          let found = finds types w t ms layout g.1 p.1 has (f ∙ (λ j. if e j then Some (message_plan types m) else rest)) in
          record {
            message = found.message;
            is = found.is;
            older = found.older ∙ sym (λ j. message_of t (Before types w m ms (i j)));
            grows = found.grows;
          })
    ]) refl k in
    (elim (m.id == t) as (λ b. (m.id == t) ≡ b → Found types w t (m ∷ ms) layout) [ true ↦ here | false ↦ later ]) refl

-- ---- the message

spells_older : (s : Schema) (w : ℕ) (bytes : List ℕ) (m : Message) (d : MessageDef) → Grows w d → Some (message_plan s.types (projected_message w d)) ≡ message_of m.template (plan_of (projected w s)).messages → SpellsBy (plan_of s) (message_plan s.types d) bytes m → Spells (plan_of (projected w s)) bytes (restricted (plan_of s) m w)
spells_older s w bytes m d g older k =
    let at = message_plan s.types (projected_message w d) in
    let order = s.order in (
      at,
      subst (λ o. SpellsBy (plan_of (projected w s)) at bytes (record { template = m.template; root = kept_root w o m.root })) k.found (record {
        size = k.size;
        version = k.version;
        found = older;
        joined = behind_map (behind_map (behind_map (behind_map (then_map (λ x b. block_kept w s.types order k.version k.size d.fields m.root.items x g.fields b) (λ x b.
            groups_first w s.types order k.version m.root.groups d.groups _ g.groups (λ out y. data_none w order k.version m.root.vars d.vars (g.behind out) y) x
            (behind_map (λ y c. behind_map (λ z _. tt) y (right y (then_map (data_first w order k.version m.root.vars d.vars g.vars) (λ z q. q) y c))) x b)))))) bytes k.joined;
      }),
    )

pub version_law : (s : Schema) (w : ℕ) (bytes : List ℕ) (m : Message) → IsTrue (is_checked s) → HasTemplate m.template (plan_of (projected w s)).messages → Spells (plan_of s) bytes m → Spells (plan_of (projected w s)) bytes (restricted (plan_of s) m w)
version_law s w bytes m c has k =
    let known = facts w s c in
    let f = finds s.types w m.template s.messages k.0 known.messages known.own_ids has k.1.found in
    spells_older s w bytes m f.message f.grows f.older (subst (λ layout. SpellsBy (plan_of s) layout bytes m) f.is k.1)
