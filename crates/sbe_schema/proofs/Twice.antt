-- Sets of what stands before tell what stands twice.
use Rattle.std.proofs.Common.{◌≡◌, ℕ, ℤ, pos, refl, sym, ap, ◌∙◌, Bool, true, false, ◌||◌, List, map, nat_eq}
use Rattle.std.proofs.lemmas.Bool.{eqb-true, eqb-false}
use Rattle.std.specs.Ordering.{nat_cmp, int_cmp, int_eq, is_eq}
use Rattle.std.specs.Cmp.{int_cmp_total, tied_itself, Equal-is}
use Rattle.std.specs.Cmp.Lexicographic.{slice_cmp, nat_list_cmp_total, texts_ties}
use Rattle.std.specs.FinSet as set
use Rattle.sbe_schema.specs.Names.{Names, Numbers, same_name}
use Rattle.sbe_schema.specs.Faults.{any_pair}
use Rattle.sbe_schema.proofs.Along.{along, along_part, along_pairs, along-map, any_none}

-- ---- names

abbrev pub put_name : Names → List ℕ → Names
put_name s n = set.insert s n

abbrev pub has_name : Names → List ℕ → Bool
has_name s n = set.contains s n

pub name_adds : (s : Names) (x y : List ℕ) → set.contains (set.insert s x) y ≡ (same_name y x || set.contains s y)
name_adds s x y = set.contains-insert nat_list_cmp_total s x y ∙ ap (λ b. b || set.contains s y) (sym (texts_ties y x))

pub no_name : (n : List ℕ) → set.contains {R = slice_cmp nat_cmp} set.empty n ≡ false
no_name n = set.contains-empty (slice_cmp nat_cmp) n

pub names_twice : (names : List (List ℕ)) → along put_name has_name set.empty names ≡ any_pair same_name names
names_twice names =
    along_pairs put_name has_name same_name name_adds set.empty names
    ∙ ap (λ b. b || any_pair same_name names) (any_none (has_name set.empty) no_name names)

-- a list whose state has the set of its names
module _ {A S : Type 0} (step : S → A → S) (test : S → A → Bool) (of : S → Names) (name : A → List ℕ) where
  pub names_along : ((s : S) (x : A) → of (step s x) ≡ set.insert (of s) (name x)) → ((s : S) (x : A) → test s x ≡ set.contains (of s) (name x)) → (s : S) (xs : List A) → along step test s xs ≡ along put_name has_name (of s) (map name xs)
  names_along stepped same s xs =
      along_part step test (λ r x. put_name r (name x)) (λ r x. has_name r (name x)) of stepped same s xs ∙ sym (along-map put_name has_name name (of s) xs)

-- ---- numbers

pub number_adds : (s : Numbers) (x y : ℤ) → set.contains (set.insert s x) y ≡ (int_eq y x || set.contains s y)
number_adds s x y = set.contains-insert int_cmp_total s x y

pub no_number : (n : ℤ) → set.contains {R = int_cmp} set.empty n ≡ false
no_number n = set.contains-empty int_cmp n

never : (b : Bool) → (b ≡ true → ⊥) → b ≡ false
never true none = absurd (none refl)
never false none = refl

pub same_ids : (x y : ℕ) → int_eq (pos y) (pos x) ≡ nat_eq y x
same_ids x y =
    elim (nat_eq y x) as (λ b. nat_eq y x ≡ b → int_eq (pos y) (pos x) ≡ b) [
      | true ↦ λ e. ap (λ n. int_eq (pos n) (pos x)) (eqb-true y x e) ∙ ap is_eq (tied_itself int_cmp_total (pos x))
      | false ↦ λ e. never (int_eq (pos y) (pos x)) (λ same. let is : pos y ≡ pos x = set.int_cmp-IsAntisymmetric (pos y) (pos x) ((Equal-is (int_cmp (pos y) (pos x))).0 same) in eqb-false y x e (cc))
    ] refl

abbrev pub put_id : Numbers → ℕ → Numbers
put_id s n = set.insert s (pos n)

abbrev pub has_id : Numbers → ℕ → Bool
has_id s n = set.contains s (pos n)

pub id_adds : (s : Numbers) (x y : ℕ) → has_id (put_id s x) y ≡ (nat_eq y x || has_id s y)
id_adds s x y = number_adds s (pos x) (pos y) ∙ ap (λ b. b || has_id s y) (same_ids x y)

pub ids_twice : (ids : List ℕ) → along put_id has_id set.empty ids ≡ any_pair nat_eq ids
ids_twice ids =
    along_pairs put_id has_id nat_eq id_adds set.empty ids
    ∙ ap (λ b. b || any_pair nat_eq ids) (any_none (has_id set.empty) (λ n. no_number (pos n)) ids)
