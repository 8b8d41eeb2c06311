-- The law of ids: what the test tells, at each kind of table.
use Rattle.std.proofs.Common.{◌≡◌, ℕ, ℤ, pos, ◌⊎◌, inl, inr, ◌↔◌, Bool, true, false, ◌&&◌, Option, Some, None, List, [], ◌∷◌, ◌++◌, refl, sym, ap, subst, ◌∙◌, Contains}
use Rattle.std.proofs.lemmas.Bool.{false≢true, and_parts, and_from}
use Rattle.std.specs.List.{list_any}
use Rattle.std.specs.Ordering.{int_cmp, is_eq}
use Rattle.std.specs.Cmp.{Equal-is, tied_itself, int_cmp_total}
use Rattle.std.specs.FinSet as set
use Rattle.sbe_schema.specs.declared.fault.PathStep.{PathStep}
use Rattle.sbe_schema.specs.declared.fault.TableArray.TheVariants.{Messages}
use Rattle.sbe_schema.specs.Names.{Numbers}
use Rattle.sbe_schema.specs.Places.{Place, Table, whole, type_table, value_table, bit_table, member_table, message_table, field_table, group_table, data_table}
use Rattle.sbe_schema.specs.Identity.{is_duplicate_id}
use Rattle.schema_laws.specs.Pairs.{id_of, AreMessages, AreWithinOneMessage, HaveOneId, DuplicateIdsAreFound}
use Rattle.schema_laws.proofs.PathSteps.{same_array, same_array-same, same_path_step, same_path_step-same, same_path_step-itself}
use Rattle.schema_laws.proofs.State.{knows_at, adds, adds-start}
use Rattle.schema_laws.proofs.Found.{known_pair}
use Rattle.schema_laws.proofs.Ids.{is_message, rivals, numbered_as, numbered, KnowsAt, Knows, Tells, walk_tells}

abbrev AreRivals : List PathStep → List PathStep → Type 0
AreRivals p q = AreMessages p q ⊎ AreWithinOneMessage p q

rivals_tell : (xs ys : List PathStep) → rivals xs ys ≡ true → AreRivals xs ys
rivals_tell [] ys e = absurd (false≢true e)
rivals_tell (x ∷ xs) [] e = absurd (false≢true e)
rivals_tell (x ∷ []) (y ∷ []) e =
    let both = and_parts (is_message x) (is_message y) e in
    inl (x, y, refl, refl, same_array-same x.array Messages both.0, same_array-same y.array Messages both.1)
rivals_tell (x ∷ []) (y ∷ w ∷ ws) e = absurd (false≢true e)
rivals_tell (x ∷ z ∷ zs) (y ∷ []) e = absurd (false≢true e)
rivals_tell (x ∷ z ∷ zs) (y ∷ w ∷ ws) e =
    let both = and_parts (is_message x) (same_path_step x y) e in
    inr (x, z, w, zs, ws, refl, ap (λ s. s ∷ w ∷ ws) (sym (same_path_step-same x y both.1)), same_array-same x.array Messages both.0)

is_message-at : (x : PathStep) → x.array ≡ Messages → is_message x ≡ true
is_message-at x e = ap (λ p. same_array p Messages) e

messages_are : (xs ys : List PathStep) → AreMessages xs ys → rivals xs ys ≡ true
messages_are xs ys s = (λ i. rivals (s.2 i) (s.3 i)) ∙ and_from (is_message s.0) (is_message s.1) (is_message-at s.0 s.4) (is_message-at s.1 s.5)

within_are : (xs ys : List PathStep) → AreWithinOneMessage xs ys → rivals xs ys ≡ true
within_are xs ys s = (λ i. rivals (s.5 i) (s.6 i)) ∙ and_from (is_message s.0) (same_path_step s.0 s.0) (is_message-at s.0 s.7) (same_path_step-itself s.0)

rivals_are : (xs ys : List PathStep) → AreRivals xs ys → rivals xs ys ≡ true
rivals_are xs ys s = elim s [ inl m ↦ messages_are xs ys m | inr w ↦ within_are xs ys w ]

numbered_tells : (o : Option ℕ) (n : ℕ) → numbered_as o (pos n) ≡ true → o ≡ Some n
numbered_tells None n e = absurd (false≢true e)
numbered_tells (Some m) n e =
    let same : pos n ≡ pos m = set.int_cmp-IsAntisymmetric (pos n) (pos m) ((Equal-is (int_cmp (pos n) (pos m))).0 e) in
    cc

numbered_is : (o : Option ℕ) (n : ℕ) → o ≡ Some n → numbered_as o (pos n) ≡ true
numbered_is o n e = (λ i. numbered_as (e i) (pos n)) ∙ ap is_eq (tied_itself int_cmp_total (pos n))

-- a place before has the same id, among the messages or within the message
abbrev IdBefore : List Place → Place → Type 0
IdBefore before p = (q : Place) × Contains before q × (AreMessages q.path_steps p.path_steps ⊎ AreWithinOneMessage q.path_steps p.path_steps) × HaveOneId q.table p.table

id_pair : (before : List Place) (p : Place) (id : ℕ) → id_of p.table ≡ Some id → set.contains p.numbers (pos id) ≡ list_any (λ q. rivals q.path_steps p.path_steps && numbered q.table (pos id)) before
    → (set.contains p.numbers (pos id) ≡ true) ↔ IdBefore before p
id_pair before p id e known =
    known_pair rivals AreRivals rivals_tell rivals_are before p.path_steps (λ t. numbered t (pos id)) (λ t. HaveOneId t p.table)
    (λ t yes. (id, numbered_tells (id_of t) id yes, e))
    (λ t same. numbered_is (id_of t) id (same.1 ∙ (sym same.2 ∙ e)))
    (set.contains p.numbers (pos id)) known

-- the rule, at each kind of table
id_rule : (ids : Numbers) (t : Table) (Q : Type 0) → ((id : ℕ) → id_of t ≡ Some id → (set.contains ids (pos id) ≡ true) ↔ Q) → (id_of t ≡ None → Q → ⊥)
    → (is_duplicate_id ids t ≡ true) ↔ Q
id_rule ids whole Q at none = (λ e. absurd (false≢true e), λ q. absurd (none refl q))
id_rule ids (type_table t) Q at none = (λ e. absurd (false≢true e), λ q. absurd (none refl q))
id_rule ids (value_table prim v) Q at none = (λ e. absurd (false≢true e), λ q. absurd (none refl q))
id_rule ids (bit_table prim b) Q at none = (λ e. absurd (false≢true e), λ q. absurd (none refl q))
id_rule ids (member_table end m) Q at none = (λ e. absurd (false≢true e), λ q. absurd (none refl q))
id_rule ids (message_table m) Q at none = at m.id refl
id_rule ids (field_table least_since end f) Q at none = at f.id refl
id_rule ids (group_table parent least_since g) Q at none = at g.id refl
id_rule ids (data_table parent least_since d) Q at none = at d.id refl

known : (o : Option ℕ) (ids : Numbers) (f : ℤ → Bool) (id : ℕ) → o ≡ Some id → KnowsAt o ids f → (n : ℤ) → set.contains ids n ≡ f n
known None ids f id e k = absurd cc
known (Some m) ids f id e k = k

pub duplicate_ids_are_found : DuplicateIdsAreFound
duplicate_ids_are_found schema before p after split =
    let tells : Tells (λ _ _. false) (before ++ p ∷ after) = subst (λ (ps : List Place). Tells (λ _ _. false) ps) split (walk_tells schema) in
    let knows = knows_at rivals numbered Knows (λ _ _. false) before p after tells in
    id_rule p.numbers p.table (IdBefore before p)
    (λ id e. id_pair before p id e (known (id_of p.table) p.numbers (adds rivals numbered (λ _ _. false) before p.path_steps) id e knows (pos id) ∙ adds-start rivals numbered before p.path_steps (pos id)))
    (λ none s. cc (none, s.3.2))
