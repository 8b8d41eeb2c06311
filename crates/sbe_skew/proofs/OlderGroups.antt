-- What groups and data spell by a schema, they spell by an older version of that schema, but for the later ones. In an entry
-- all groups and data came with its group. In a root block the later ones are the last, and what they spell stands behind.
use Rattle.std.proofs.Common.{◌≡◌, ◌⊎◌, inl, inr, ℕ, ◌+◌, ◌∙◌, Bool, true, false, cond, if◌then◌else◌, refl, sym, ap, subst, List, [], ◌∷◌, ◌++◌}
use Rattle.std.specs.Prelude.{⊤}
use Rattle.sbe_prim.specs.declared.Order.{Order}
use Rattle.sbe_value.specs.declared.datum.Datum.{Datum}
use Rattle.sbe_value.specs.declared.datum.Datum.TheVariants.{Absent, Present}
use Rattle.sbe_value.specs.Trees.{GroupList, BlockList, no_groups, absent, entries, no_blocks, block, count_of_blocks}
use Rattle.schema_types.specs.declared.types.TypeDef.{TypeDef}
use Rattle.schema_types.specs.declared.messages.DataDef.{DataDef}
use Rattle.schema_types.specs.Groups.{GroupHead, GroupTree, group, no_groups as no_defs}
use Rattle.sbe_layout.specs.declared.items.ItemPlan.{ItemPlan}
use Rattle.sbe_layout.specs.declared.items.DataPlan.{DataPlan}
use Rattle.sbe_layout.specs.Trees.{PlanTree}
use Rattle.sbe_layout.specs.Plans.{data_of, group_head, groups_plan, items_of_fields}
use Rattle.sbe_grammar.specs.Parts.{Then, IsNumber}
use Rattle.sbe_grammar.specs.Values.{is_in}
use Rattle.sbe_grammar.specs.Spelling.{SpellsData, SpellsGroups, SpellsEntries}
use Rattle.sbe_skew.specs.Restricted.{kept_data, kept_groups, kept_entries}
use Rattle.sbe_skew.specs.Projected.{projected_data, projected_head, projected_groups}
use Rattle.sbe_skew.proofs.OlderBlocks.{AllIn, AllOut, Ends, filter_out, keep_field, block_kept}

-- ---- parts one behind another

module _ {P Q R S : List ℕ → Type 0} where
  pub then_map : ((x : List ℕ) → P x → R x) → ((x : List ℕ) → Q x → S x) → (bytes : List ℕ) → Then P Q bytes → Then R S bytes
  then_map f g bytes t = record {
    front = t.front;
    behind = t.behind;
    joined = t.joined;
    is_front = f t.front t.is_front;
    is_behind = g t.behind t.is_behind;
  }

append_assoc : {A : Type 0} (xs ys zs : List A) → (xs ++ ys) ++ zs ≡ xs ++ (ys ++ zs)
append_assoc [] ys zs = refl
append_assoc (x ∷ xs) ys zs = ap (λ r. x ∷ r) (append_assoc xs ys zs)

module _ {P Q R : List ℕ → Type 0} where
  pub front_map : ((x : List ℕ) → P x → R x) → (bytes : List ℕ) → Then P Q bytes → Then R Q bytes
  front_map f bytes t = then_map f (λ x q. q) bytes t

  pub behind_map : ((x : List ℕ) → Q x → R x) → (bytes : List ℕ) → Then P Q bytes → Then P R bytes
  behind_map f bytes t = then_map (λ x p. p) f bytes t

  -- two parts and a third
  pub right : (bytes : List ℕ) → Then (Then P Q) R bytes → Then P (Then Q R) bytes
  right bytes t = record {
    front = t.is_front.front;
    behind = t.is_front.behind ++ t.behind;
    joined = t.joined ∙ ap (λ x. x ++ t.behind) t.is_front.joined ∙ append_assoc t.is_front.front t.is_front.behind t.behind;
    is_front = t.is_front.is_front;
    is_behind = record {
      front = t.is_front.behind;
      behind = t.behind;
      joined = refl;
      is_front = t.is_front.is_behind;
      is_behind = t.is_behind;
    };
  }

module _ {P Q R S : List ℕ → Type 0} where
  -- what stands behind is two parts of its own
  carry : ((x : List ℕ) → Q x → Then R S x) → (bytes : List ℕ) → Then P Q bytes → Then (Then P R) S bytes
  carry f bytes t =
      let u = f t.behind t.is_behind in
      record {
        front = t.front ++ u.front;
        behind = u.behind;
        joined = t.joined ∙ ap (λ x. t.front ++ x) u.joined ∙ sym (append_assoc t.front u.front u.behind);
        is_front = record { front = t.front; behind = u.front; joined = refl; is_front = t.is_front; is_behind = u.is_front };
        is_behind = u.is_behind;
      }

-- ---- data

abbrev pub keep_datum : ℕ → DataDef → Bool
keep_datum w d = is_in w d.since

data_kept : (w : ℕ) (order : Order) (version : ℕ) (vs : List Datum) (ds : List DataDef) → AllIn (keep_datum w) ds → (bytes : List ℕ) → SpellsData order version vs (data_of ds) bytes → SpellsData order version (kept_data w (data_of ds) vs) (data_of (projected_data w ds)) bytes
data_kept w order version [] [] a bytes s = s
data_kept w order version [] (d ∷ ds) a bytes s = absurd s
data_kept w order version (v ∷ vs) [] a bytes s = absurd s
data_kept w order version (Absent ∷ vs) (d ∷ ds) a bytes s =
    subst (λ b. SpellsData order version (if b then Absent ∷ kept_data w (data_of ds) vs else kept_data w (data_of ds) vs) (data_of (cond b (d ∷ projected_data w ds) (projected_data w ds))) bytes) (sym a.0) (s.0, data_kept w order version vs ds a.1 bytes s.1)
data_kept w order version (Present text ∷ vs) (d ∷ ds) a bytes s =
    subst (λ b. SpellsData order version (if b then Present text ∷ kept_data w (data_of ds) vs else kept_data w (data_of ds) vs) (data_of (cond b (d ∷ projected_data w ds) (projected_data w ds))) bytes) (sym a.0) (s.0, behind_map (behind_map (data_kept w order version vs ds a.1)) bytes s.1)

data_out : (w : ℕ) (vs : List Datum) (ds : List DataDef) → AllOut (keep_datum w) ds → kept_data w (data_of ds) vs ≡ []
data_out w vs [] o = refl
data_out w [] (d ∷ ds) o = refl
data_out w (v ∷ vs) (d ∷ ds) o =
    (λ i. if o.0 i then v ∷ kept_data w (data_of ds) vs else kept_data w (data_of ds) vs) ∙ data_out w vs ds o.1

-- nothing of later data is read, whatever stands there
pub data_none : (w : ℕ) (order : Order) (version : ℕ) (vs : List Datum) (ds : List DataDef) → AllOut (keep_datum w) ds → (bytes : List ℕ) → Then (SpellsData order version (kept_data w (data_of ds) vs) (data_of (projected_data w ds))) (λ rest. ⊤) bytes
data_none w order version vs ds o bytes =
    subst (λ vs. Then (SpellsData order version vs (data_of (projected_data w ds))) (λ rest. ⊤) bytes) (sym (data_out w vs ds o)) (subst (λ ds. Then (SpellsData order version [] (data_of ds)) (λ rest. ⊤) bytes) (sym (filter_out (keep_datum w) ds o)) (record {
      front = [];
      behind = bytes;
      joined = refl;
      is_front = refl;
      is_behind = tt;
    }))

pub data_first : (w : ℕ) (order : Order) (version : ℕ) (vs : List Datum) (ds : List DataDef) → Ends (keep_datum w) ds → (bytes : List ℕ) → SpellsData order version vs (data_of ds) bytes
    → Then (SpellsData order version (kept_data w (data_of ds) vs) (data_of (projected_data w ds))) (λ rest. ⊤) bytes
data_first w order version [] [] e bytes s = record {
  front = [];
  behind = bytes;
  joined = refl;
  is_front = refl;
  is_behind = tt;
}
data_first w order version [] (d ∷ ds) e bytes s = absurd s
data_first w order version (v ∷ vs) [] e bytes s = absurd s
data_first w order version (v ∷ vs) (d ∷ ds) (inr o) bytes s = data_none w order version (v ∷ vs) (d ∷ ds) o bytes
data_first w order version (Absent ∷ vs) (d ∷ ds) (inl e) bytes s =
    subst (λ b. Then (SpellsData order version (if b then Absent ∷ kept_data w (data_of ds) vs else kept_data w (data_of ds) vs) (data_of (cond b (d ∷ projected_data w ds) (projected_data w ds)))) (λ rest. ⊤) bytes) (sym e.0) (front_map (λ x y. (s.0, y)) bytes (data_first w order version vs ds e.1 bytes s.1))
data_first w order version (Present text ∷ vs) (d ∷ ds) (inl e) bytes s =
    subst (λ b. Then (SpellsData order version (if b then Present text ∷ kept_data w (data_of ds) vs else kept_data w (data_of ds) vs) (data_of (cond b (d ∷ projected_data w ds) (projected_data w ds)))) (λ rest. ⊤) bytes) (sym e.0) (front_map (λ x y. (s.0, y)) bytes (carry (carry (data_first w order version vs ds e.1)) bytes s.1))

-- ---- groups whose elements but fields came with them

pub record Held (w : ℕ) (g : GroupHead) : Type 0 where
  pub came : is_in w g.since ≡ true
  pub fields : Ends (keep_field w) g.fields
  pub vars : AllIn (keep_datum w) g.vars

abbrev pub Inside : ℕ → GroupTree → Type 0
Inside w no_defs = ⊤
Inside w (group g inner rest) = Held w g × (Inside w inner × Inside w rest)

entries_count : (w : ℕ) (items : List ItemPlan) (inner : PlanTree) (vars : List DataPlan) (bs : BlockList) → count_of_blocks (kept_entries w items inner vars bs) ≡ count_of_blocks bs
entries_count w items inner vars no_blocks = refl
entries_count w items inner vars (block is gs vs bs) = ap (λ n. 1 + n) (entries_count w items inner vars bs)

mutual
  groups_kept : (w : ℕ) (types : List TypeDef) (order : Order) (version : ℕ) (gs : GroupList) (t : GroupTree) → Inside w t → (bytes : List ℕ) → SpellsGroups order version gs (groups_plan types t) bytes → SpellsGroups order version (kept_groups w (groups_plan types t) gs) (groups_plan types (projected_groups w t)) bytes
  groups_kept w types order version no_groups no_defs h bytes s = s
  groups_kept w types order version no_groups (group g inner rest) h bytes s = absurd s
  groups_kept w types order version (absent gs) no_defs h bytes s = absurd s
  groups_kept w types order version (entries bs gs) no_defs h bytes s = absurd s
  groups_kept w types order version (absent gs) (group g inner rest) h bytes s =
      subst (λ b. SpellsGroups order version (if b then absent (kept_groups w (groups_plan types rest) gs) else kept_groups w (groups_plan types rest) gs) (groups_plan types (if b then group (projected_head w g) (projected_groups w inner) (projected_groups w rest) else projected_groups w rest)) bytes) (sym h.0.came) (s.0, groups_kept w types order version gs rest h.1.1 bytes s.1)
  groups_kept w types order version (entries bs gs) (group g inner rest) h bytes s =
      subst (λ b. SpellsGroups order version (if b then entries (kept_entries w (items_of_fields types 0 g.fields) (groups_plan types inner) (data_of g.vars) bs) (kept_groups w (groups_plan types rest) gs) else kept_groups w (groups_plan types rest) gs) (groups_plan types (if b then group (projected_head w g) (projected_groups w inner) (projected_groups w rest) else projected_groups w rest)) bytes) (sym h.0.came) (s.0, (s.1.0, behind_map (then_map (λ x n. subst (λ c. IsNumber order g.count_prim c x) (sym (entries_count w (items_of_fields types 0 g.fields) (groups_plan types inner) (data_of g.vars) bs)) n) (then_map (entries_kept w types order version bs g inner s.1.0 h.0 h.1.0) (groups_kept w types order version gs rest h.1.1))) bytes s.1.1))

  entries_kept : (w : ℕ) (types : List TypeDef) (order : Order) (version : ℕ) (bs : BlockList) (g : GroupHead) (inner : GroupTree) (size : ℕ) → Held w g → Inside w inner → (bytes : List ℕ) → SpellsEntries order version bs (group_head types g) (groups_plan types inner) size bytes
      → SpellsEntries order version (kept_entries w (items_of_fields types 0 g.fields) (groups_plan types inner) (data_of g.vars) bs) (group_head types (projected_head w g)) (groups_plan types (projected_groups w inner)) size bytes
  entries_kept w types order version no_blocks g inner size h k bytes s = s
  entries_kept w types order version (block is gs vs bs) g inner size h k bytes s =
      then_map (λ x b. block_kept w types order version size g.fields is x h.fields b) (then_map (groups_kept w types order version gs inner k) (then_map (data_kept w order version vs g.vars h.vars) (entries_kept w types order version bs g inner size h k))) bytes s

-- ---- groups of a root block

abbrev pub OutTree : ℕ → GroupTree → Type 0
OutTree w no_defs = ⊤
OutTree w (group g inner rest) = (is_in w g.since ≡ false) × OutTree w rest

abbrev pub Roots : ℕ → GroupTree → Type 0
Roots w no_defs = ⊤
Roots w (group g inner rest) = (Held w g × (Inside w inner × Roots w rest)) ⊎ ((is_in w g.since ≡ false) × OutTree w rest)

abbrev pub SomeOut : ℕ → GroupTree → Type 0
SomeOut w no_defs = ⊥
SomeOut w (group g inner rest) = (is_in w g.since ≡ false) ⊎ SomeOut w rest

groups_out : (w : ℕ) (types : List TypeDef) (t : GroupTree) (gs : GroupList) → OutTree w t → kept_groups w (groups_plan types t) gs ≡ no_groups
groups_out w types no_defs gs o = refl
groups_out w types (group g inner rest) no_groups o = refl
groups_out w types (group g inner rest) (absent gs) o =
    (λ i. if o.0 i then absent (kept_groups w (groups_plan types rest) gs) else kept_groups w (groups_plan types rest) gs) ∙ groups_out w types rest gs o.1
groups_out w types (group g inner rest) (entries bs gs) o =
    (λ i. if o.0 i then entries (kept_entries w (items_of_fields types 0 g.fields) (groups_plan types inner) (data_of g.vars) bs) (kept_groups w (groups_plan types rest) gs) else kept_groups w (groups_plan types rest) gs) ∙ groups_out w types rest gs o.1

tree_out : (w : ℕ) (t : GroupTree) → OutTree w t → projected_groups w t ≡ no_defs
tree_out w no_defs o = refl
tree_out w (group g inner rest) o =
    (λ i. if o.0 i then group (projected_head w g) (projected_groups w inner) (projected_groups w rest) else projected_groups w rest) ∙ tree_out w rest o.1

groups_none : (w : ℕ) (types : List TypeDef) (order : Order) (version : ℕ) (gs : GroupList) (t : GroupTree) → OutTree w t → (Q : List ℕ → Type 0) (bytes : List ℕ) → Q bytes → Then (SpellsGroups order version (kept_groups w (groups_plan types t) gs) (groups_plan types (projected_groups w t))) Q bytes
groups_none w types order version gs t o Q bytes q =
    subst (λ gs. Then (SpellsGroups order version gs (groups_plan types (projected_groups w t))) Q bytes) (sym (groups_out w types t gs o)) (subst (λ t. Then (SpellsGroups order version no_groups (groups_plan types t)) Q bytes) (sym (tree_out w t o)) (record {
      front = [];
      behind = bytes;
      joined = refl;
      is_front = refl;
      is_behind = q;
    }))

-- what stands behind the groups must not matter where a group is later
pub groups_first : (w : ℕ) (types : List TypeDef) (order : Order) (version : ℕ) (gs : GroupList) (t : GroupTree) (Q : List ℕ → Type 0) → Roots w t → (SomeOut w t → (x : List ℕ) → Q x) → (bytes : List ℕ) → Then (SpellsGroups order version gs (groups_plan types t)) Q bytes
    → Then (SpellsGroups order version (kept_groups w (groups_plan types t) gs) (groups_plan types (projected_groups w t))) Q bytes
groups_first w types order version no_groups no_defs Q r any bytes s = s
groups_first w types order version no_groups (group g inner rest) Q r any bytes s = absurd s.is_front
groups_first w types order version (absent gs) no_defs Q r any bytes s = absurd s.is_front
groups_first w types order version (entries bs gs) no_defs Q r any bytes s = absurd s.is_front
groups_first w types order version (absent gs) (group g inner rest) Q (inr o) any bytes s = groups_none w types order version (absent gs) (group g inner rest) o Q bytes (any (inl o.0) bytes)
groups_first w types order version (entries bs gs) (group g inner rest) Q (inr o) any bytes s = groups_none w types order version (entries bs gs) (group g inner rest) o Q bytes (any (inl o.0) bytes)
groups_first w types order version (absent gs) (group g inner rest) Q (inl h) any bytes s =
    subst (λ b. Then (SpellsGroups order version (if b then absent (kept_groups w (groups_plan types rest) gs) else kept_groups w (groups_plan types rest) gs) (groups_plan types (if b then group (projected_head w g) (projected_groups w inner) (projected_groups w rest) else projected_groups w rest))) Q bytes) (sym h.0.came) (front_map (λ x y. (s.is_front.0, y)) bytes (groups_first w types order version gs rest Q h.1.1 (λ o. any (inr o)) bytes (front_map (λ x y. y.1) bytes s)))
groups_first w types order version (entries bs gs) (group g inner rest) Q (inl h) any bytes s =
    let size = s.is_front.1.0 in
    let items = items_of_fields types 0 g.fields in
    let plans = groups_plan types inner in
    let four : Then (IsNumber order g.block_prim size) (Then (Then (IsNumber order g.count_prim (count_of_blocks bs)) (Then (SpellsEntries order version bs (group_head types g) plans size) (SpellsGroups order version gs (groups_plan types rest)))) Q) bytes =
    right bytes (record { front = s.front; behind = s.behind; joined = s.joined; is_front = s.is_front.1.1; is_behind = s.is_behind }) in
    let done : Then (Then (IsNumber order g.block_prim size) (Then (IsNumber order g.count_prim (count_of_blocks (kept_entries w items plans (data_of g.vars) bs))) (Then (SpellsEntries order version (kept_entries w items plans (data_of g.vars) bs) (group_head types (projected_head w g)) (groups_plan types (projected_groups w inner)) size) (SpellsGroups order version (kept_groups w (groups_plan types rest) gs) (groups_plan types (projected_groups w rest)))))) Q bytes =
    carry (λ x y. carry (λ u v. carry (λ p q. groups_first w types order version gs rest Q h.1.1 (λ o. any (inr o)) p q) u (front_map (entries_kept w types order version bs g inner size h.0 h.1.0) u (right u v))) x (front_map (λ u n. subst (λ c. IsNumber order g.count_prim c u) (sym (entries_count w items plans (data_of g.vars) bs)) n) x (right x y))) bytes four in
    subst (λ b. Then (SpellsGroups order version (if b then entries (kept_entries w items plans (data_of g.vars) bs) (kept_groups w (groups_plan types rest) gs) else kept_groups w (groups_plan types rest) gs) (groups_plan types (if b then group (projected_head w g) (projected_groups w inner) (projected_groups w rest) else projected_groups w rest))) Q bytes) (sym h.0.came) (front_map (λ x y. (s.is_front.0, (size, y))) bytes done)
