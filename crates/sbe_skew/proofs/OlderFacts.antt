-- What a checked schema says of its since marks: in each block the later elements are the last of their kind, in an entry
-- groups and data came with its group, and data of a root block are no older than a group before them.
use Rattle.std.proofs.Common.{◌≡◌, inl, inr, ℕ, suc, ◌∙◌, ℤ, pos, int_lt, not, Bool, true, false, ◌&&◌, ◌||◌, map, refl, sym, ap, IsTrue, List, [], ◌∷◌, ◌++◌, arith}
use Rattle.std.specs.Prelude.{nat_eq}
use Rattle.std.specs.Ordering.{int_eq}
use Rattle.std.specs.List.{AllByRecursion, list_any}
use Rattle.std.proofs.lemmas.Bool.{or_parts, not-false, false≢true}
use Rattle.std.proofs.lemmas.Bool.Decides.{nat_tests, Decides-int_eq}
use Rattle.std.proofs.lemmas.Int.{ints}
use Rattle.std.proofs.lemmas.List.Folds.{list_any-append}
use Rattle.schema_types.specs.declared.schema.Schema.{Schema}
use Rattle.schema_types.specs.declared.messages.FieldDef.{FieldDef}
use Rattle.schema_types.specs.declared.messages.DataDef.{DataDef}
use Rattle.schema_types.specs.declared.messages.MessageDef.{MessageDef}
use Rattle.schema_types.specs.Groups.{GroupHead, GroupTree, group, no_groups}
use Rattle.sbe_schema.specs.declared.fault.SchemaKind.TheVariants.{DuplicateName, DuplicateId, UnknownType, BadOffset, ShortLength, BadEnum, BadSet, BadDimension, BadData, IllegalExtension}
use Rattle.sbe_schema.specs.Checked.{is_checked}
use Rattle.sbe_schema.specs.Blocks.{Block, heads_of, entry_block, blocks_below, root_block, blocks_of}
use Rattle.sbe_schema.specs.Faults.{any_pair, is_outside, is_new_inside, is_behind_older, is_badly_extended, has_duplicate_id, has_illegal_extension, has_fault}
use Rattle.sbe_grammar.specs.Values.{is_in}
use Rattle.sbe_skew.proofs.OlderBlocks.{AllIn, AllOut, Ends, keep_field}
use Rattle.sbe_skew.proofs.OlderGroups.{keep_datum, Held, Inside, OutTree, Roots, SomeOut}

-- what came no earlier than something later is later too
above : (w : ℕ) (x y : ℤ) → is_in w x ≡ false → int_lt y x ≡ false → is_in w y ≡ false
above w x y = grind (arith, ints, nat_tests)

module _ {A : Type 0} (w : ℕ) (s : A → ℤ) where
  all_above : (y : ℤ) → is_in w y ≡ false → (xs : List A) → list_any (λ later. int_lt later y) (map s xs) ≡ false → AllOut (λ x. is_in w (s x)) xs
  all_above y e [] h = tt
  all_above y e (x ∷ xs) h =
      let p = or_parts (int_lt (s x) y) (list_any (λ later. int_lt later y) (map s xs)) h in (above w y (s x) e p.0, all_above y e xs p.1)

  pub sorted_ends : (xs : List A) → any_pair int_lt (map s xs) ≡ false → Ends (λ x. is_in w (s x)) xs
  sorted_ends [] h = tt
  sorted_ends (x ∷ xs) h =
      let p = or_parts (list_any (λ later. int_lt later (s x)) (map s xs)) (any_pair int_lt (map s xs)) h in
      elim (is_in w (s x)) as (λ b. is_in w (s x) ≡ b → Ends (λ x. is_in w (s x)) (x ∷ xs)) [
        | true ↦ λ e. inl (e, sorted_ends xs p.1)
        | false ↦ λ e. inr (e, all_above (s x) e xs p.0)
      ] refl

-- what an extended block of this level may not have
pub record Sound (version : ℕ) (b : Block) : Type 0 where
  pub fields : any_pair int_lt (map (λ f. f.since) b.fields) ≡ false
  pub each_group : list_any (λ g. is_outside version b.since g.since || (is_behind_older b.level b.vars g.since || is_new_inside b.level b.since g.since)) b.groups ≡ false
  pub groups : any_pair int_lt (map (λ g. g.since) b.groups) ≡ false
  pub each_datum : list_any (λ d. is_outside version b.since d.since || is_new_inside b.level b.since d.since) b.vars ≡ false
  pub vars : any_pair int_lt (map (λ d. d.since) b.vars) ≡ false

pub sound : (version : ℕ) (b : Block) → is_badly_extended version b ≡ false → Sound version b
sound version b h =
    let p = or_parts (list_any (λ f. is_outside version b.since f.since) b.fields || any_pair int_lt (map (λ f. f.since) b.fields)) _ h in
    let f = or_parts (list_any (λ f. is_outside version b.since f.since) b.fields) _ p.0 in
    let q = or_parts (list_any (λ g. is_outside version b.since g.since || (is_behind_older b.level b.vars g.since || is_new_inside b.level b.since g.since)) b.groups || any_pair int_lt (map (λ g. g.since) b.groups)) _ p.1 in
    let g = or_parts (list_any (λ g. is_outside version b.since g.since || (is_behind_older b.level b.vars g.since || is_new_inside b.level b.since g.since)) b.groups) _ q.0 in
    let d = or_parts (list_any (λ d. is_outside version b.since d.since || is_new_inside b.level b.since d.since) b.vars) _ q.1 in
    record { fields = f.1; each_group = g.0; groups = g.1; each_datum = d.0; vars = d.1 }

came_with : (w : ℕ) (since other : ℤ) → is_in w since ≡ true → not (int_eq other since) ≡ false → is_in w other ≡ true
came_with w since other e h = ap (is_in w) ((Decides-int_eq other since).0 (not-false (int_eq other since) h)) ∙ e

data_with : (w version : ℕ) (since : ℤ) (ds : List DataDef) → is_in w since ≡ true → list_any (λ d. is_outside version since d.since || not (int_eq d.since since)) ds ≡ false → AllIn (keep_datum w) ds
data_with w version since [] e h = tt
data_with w version since (d ∷ ds) e h =
    let p = or_parts (is_outside version since d.since || not (int_eq d.since since)) (list_any (λ d. is_outside version since d.since || not (int_eq d.since since)) ds) h in
    (came_with w since d.since e (or_parts (is_outside version since d.since) _ p.0).1, data_with w version since ds e p.1)

held : (w version level : ℕ) (g : GroupHead) (inner : GroupTree) → is_in w g.since ≡ true → Sound version (entry_block level g inner) → Held w g
held w version level g inner e k = record {
  came = e;
  fields = sorted_ends w (λ (f : FieldDef). f.since) g.fields k.fields;
  vars = data_with w version g.since g.vars e k.each_datum;
}

-- the groups of an entry, the blocks in which they are, and those behind them
inside : (w version level : ℕ) (since : ℤ) (vars : List DataDef) (t : GroupTree) → is_in w since ≡ true → list_any (λ g. is_outside version since g.since || (false || not (int_eq g.since since))) (heads_of t) ≡ false → list_any (is_badly_extended version) (blocks_below (suc level) t) ≡ false → Inside w t
inside w version level since vars no_groups e h k = tt
inside w version level since vars (group g inner rest) e h k =
    let p = or_parts (is_outside version since g.since || not (int_eq g.since since)) _ h in
    let came : is_in w g.since ≡ true = came_with w since g.since e (or_parts (is_outside version since g.since) _ p.0).1 in
    let q = or_parts (is_badly_extended version (entry_block (suc level) g inner)) (list_any (is_badly_extended version) (blocks_below (suc (suc level)) inner ++ blocks_below (suc level) rest)) k in
    let own = sound version (entry_block (suc level) g inner) q.0 in
    let r = or_parts (list_any (is_badly_extended version) (blocks_below (suc (suc level)) inner)) _ (sym (list_any-append (is_badly_extended version) (blocks_below (suc (suc level)) inner) (blocks_below (suc level) rest)) ∙ q.1) in
    (held w version (suc level) g inner came own, (inside w version (suc level) g.since g.vars inner came own.each_group r.0, inside w version level since vars rest e p.1 r.1))

trees_above : (w : ℕ) (y : ℤ) → is_in w y ≡ false → (t : GroupTree) → list_any (λ later. int_lt later y) (map (λ (g : GroupHead). g.since) (heads_of t)) ≡ false → OutTree w t
trees_above w y e no_groups h = tt
trees_above w y e (group g inner rest) h =
    let p = or_parts (int_lt g.since y) _ h in (above w y g.since e p.0, trees_above w y e rest p.1)

roots : (w version : ℕ) (t : GroupTree) → any_pair int_lt (map (λ (g : GroupHead). g.since) (heads_of t)) ≡ false → list_any (is_badly_extended version) (blocks_below 0 t) ≡ false → Roots w t
roots w version no_groups h k = tt
roots w version (group g inner rest) h k =
    let p = or_parts (list_any (λ later. int_lt later g.since) (map (λ (g : GroupHead). g.since) (heads_of rest))) _ h in
    let q = or_parts (is_badly_extended version (entry_block 0 g inner)) (list_any (is_badly_extended version) (blocks_below 1 inner ++ blocks_below 0 rest)) k in
    let own = sound version (entry_block 0 g inner) q.0 in
    let r = or_parts (list_any (is_badly_extended version) (blocks_below 1 inner)) _ (sym (list_any-append (is_badly_extended version) (blocks_below 1 inner) (blocks_below 0 rest)) ∙ q.1) in
    elim (is_in w g.since) as (λ b. is_in w g.since ≡ b → Roots w (group g inner rest)) [
      | true ↦ λ e. inl (held w version 0 g inner e own, (inside w version 0 g.since g.vars inner e own.each_group r.0, roots w version rest p.1 r.1))
      | false ↦ λ e. inr (e, trees_above w g.since e rest p.0)
    ] refl

data_above : (w : ℕ) (y : ℤ) → is_in w y ≡ false → (ds : List DataDef) → list_any (λ d. int_lt d.since y) ds ≡ false → AllOut (keep_datum w) ds
data_above w y e [] h = tt
data_above w y e (d ∷ ds) h = let p = or_parts (int_lt d.since y) _ h in (above w y d.since e p.0, data_above w y e ds p.1)

later_data : (w version : ℕ) (since : ℤ) (vars : List DataDef) (t : GroupTree) → list_any (λ g. is_outside version since g.since || (list_any (λ d. int_lt d.since g.since) vars || false)) (heads_of t) ≡ false → SomeOut w t → AllOut (keep_datum w) vars
later_data w version since vars no_groups h o = absurd o
later_data w version since vars (group g inner rest) h (inl e) =
    let p = or_parts (is_outside version since g.since || (list_any (λ d. int_lt d.since g.since) vars || false)) _ h in
    let q = or_parts (is_outside version since g.since) _ p.0 in
    data_above w g.since e vars (or_parts (list_any (λ d. int_lt d.since g.since) vars) _ q.1).0
later_data w version since vars (group g inner rest) h (inr o) =
    let p = or_parts (is_outside version since g.since || (list_any (λ d. int_lt d.since g.since) vars || false)) _ h in
    later_data w version since vars rest p.1 o

pub record Grows (w : ℕ) (m : MessageDef) : Type 0 where
  pub fields : Ends (keep_field w) m.fields
  pub groups : Roots w m.groups
  pub vars : Ends (keep_datum w) m.vars
  pub behind : SomeOut w m.groups → AllOut (keep_datum w) m.vars

grows : (w version : ℕ) (ms : List MessageDef) → list_any (is_badly_extended version) (blocks_of ms) ≡ false → AllByRecursion (Grows w) ms
grows w version [] h = tt
grows w version (m ∷ ms) h =
    let p = or_parts (is_badly_extended version (root_block m)) (list_any (is_badly_extended version) (blocks_below 0 m.groups ++ blocks_of ms)) h in
    let q = or_parts (list_any (is_badly_extended version) (blocks_below 0 m.groups)) _ (sym (list_any-append (is_badly_extended version) (blocks_below 0 m.groups) (blocks_of ms)) ∙ p.1) in
    let own = sound version (root_block m) p.0 in (
      record {
        fields = sorted_ends w (λ (f : FieldDef). f.since) m.fields own.fields;
        groups = roots w version m.groups own.groups q.0;
        vars = sorted_ends w (λ (d : DataDef). d.since) m.vars own.vars;
        behind = later_data w version m.since m.vars m.groups own.each_group;
      },
      grows w version ms q.1,
    )

-- ---- of a checked schema

pub and_parts : (a b : Bool) → (a && b) ≡ true → (a ≡ true) × (b ≡ true)
and_parts true b t = (refl, t)
and_parts false b t = absurd (false≢true t)

pub is_not : (a : Bool) → not a ≡ true → a ≡ false
is_not true t = absurd (false≢true t)
is_not false t = refl

pub record Facts (w : ℕ) (s : Schema) : Type 0 where
  pub own_ids : any_pair nat_eq (map (λ m. m.id) s.messages) ≡ false
  pub messages : AllByRecursion (Grows w) s.messages

pub facts : (w : ℕ) (s : Schema) → IsTrue (is_checked s) → Facts w s
unfolding is_checked
facts w s c =
    let a = and_parts (not (has_fault s DuplicateName)) _ c in
    let b = and_parts (not (has_fault s DuplicateId)) _ a.1 in
    let d = and_parts (not (has_fault s UnknownType)) _ b.1 in
    let e = and_parts (not (has_fault s BadOffset)) _ d.1 in
    let f = and_parts (not (has_fault s ShortLength)) _ e.1 in
    let g = and_parts (not (has_fault s BadEnum)) _ f.1 in
    let h = and_parts (not (has_fault s BadSet)) _ g.1 in
    let i = and_parts (not (has_fault s BadDimension)) _ h.1 in
    let j = and_parts (not (has_fault s BadData)) _ i.1 in
    let k = and_parts (not (has_fault s IllegalExtension)) _ j.1 in
    record {
      own_ids = (or_parts (any_pair nat_eq (map (λ m. m.id) s.messages)) _ (is_not (has_duplicate_id s) b.0)).0;
      messages = grows w s.version s.messages (or_parts (list_any (λ m. int_lt (pos s.version) m.since) s.messages) _ (is_not (has_illegal_extension s) k.0)).1;
    }
