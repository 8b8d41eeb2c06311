-- The unknown key that is reported is the least of them.
use Rattle.std.proofs.Common.{◌≡◌, ℕ, inl, inr, true, false, ◌&&◌, if◌then◌else◌, Option, Some, None, List, [], ◌∷◌, Err, refl, sym, ap, subst, ◌∙◌}
use Rattle.std.proofs.lemmas.Bool.{false≢true, and_parts}
use Rattle.std.specs.Ordering.{nat_cmp, is_lt}
use Rattle.std.specs.declared.cmp.Ordering.{Ordering}
use Rattle.std.specs.declared.cmp.Ordering.TheVariants.{Less, Equal, Greater}
use Rattle.std.specs.Cmp.Lexicographic.{slice_cmp, nat_list_cmp_total}
use Rattle.sbe_value.specs.declared.path.Step.TheVariants.{Key}
use Rattle.toml.specs.Data.{Data, string, integer, float, boolean, datetime, array, table, Items, no_items, item, Members, no_members, member, is_before, is_sorted, items_are_sorted, members_are_sorted}
use Rattle.toml_walk.specs.declared.fault.TomlFault.TheVariants.{UnknownKey}
use Rattle.toml_walk.specs.Keys.{is_among, unknown_member, unless_unknown}
use Rattle.cmd_config.specs.Laws.{HasKey, IsAtMost, LiesIn, LiesInItems, LiesInMembers, UnknownKeyIsLeast}
use Rattle.cmd_config.proofs.Ascending.{documents_ascend}

lt_is : (r : Ordering) → is_lt r ≡ true → r ≡ Less
lt_is Less e = refl
lt_is Equal e = absurd (false≢true e)
lt_is Greater e = absurd (false≢true e)

-- a key before the first of ascending keys is before each of them
before_all : (k : List ℕ) (ms : Members) → is_before k ms ≡ true → members_are_sorted ms ≡ true → (other : List ℕ) → HasKey ms other → slice_cmp nat_cmp k other ≡ Less
before_all k no_members b s other h = absurd h
before_all k (member l d ms) b s other h =
    let first : slice_cmp nat_cmp k l ≡ Less = lt_is (slice_cmp nat_cmp k l) b in
    let parts = and_parts (is_before l ms && is_sorted d) (members_are_sorted ms) s in
    let here = and_parts (is_before l ms) (is_sorted d) parts.0 in
    elim h [
      | inl e ↦ subst (λ o. slice_cmp nat_cmp k o ≡ Less) e first
      | inr more ↦ nat_list_cmp_total.trans k l other first (before_all l ms here.0 parts.1 other more)
    ]

abbrev Least : List (List ℕ) → Members → List ℕ → Type 0
Least known keys key = HasKey keys key × (is_among key known ≡ false) × ((other : List ℕ) → HasKey keys other → is_among other known ≡ false → IsAtMost key other)

least : (known : List (List ℕ)) (keys : Members) → members_are_sorted keys ≡ true → (key : List ℕ) → unknown_member known keys ≡ Some key → Least known keys key
least known no_members s key e = absurd cc
least known (member k d ms) s key e =
    let parts = and_parts (is_before k ms && is_sorted d) (members_are_sorted ms) s in
    let here = and_parts (is_before k ms) (is_sorted d) parts.0 in
    elim (is_among k known) as (λ b. is_among k known ≡ b → (if b then unknown_member known ms else Some k) ≡ Some key → Least known (member k d ms) key) [
      | true ↦ λ among rest_is. let rest = least known ms parts.1 key rest_is in (
        inr rest.0,
        rest.1,
        λ other h unknown. elim h [
          | inl same ↦ absurd (false≢true (sym unknown ∙ (ap (λ o. is_among o known) (sym same) ∙ among)))
          | inr more ↦ rest.2 other more unknown
        ],
      )
      | false ↦ λ among rest_is. let same : k ≡ key = cc in subst (Least known (member k d ms)) same (
        inl refl,
        among,
        λ other h unknown. elim h [ inl is ↦ inl is | inr more ↦ inr (before_all k ms here.0 parts.1 other more) ],
      )
    ] refl e

some_of_fault : (o : Option (List ℕ)) (key : List ℕ) → unless_unknown o ≡ Err (UnknownKey (Key key ∷ [])) → o ≡ Some key
some_of_fault None key e = absurd cc
some_of_fault (Some k) key e = cc

-- the keys of a table that lies in data ascend where those of all its tables do
mutual
  ascends_in : (keys : Members) (d : Data) → is_sorted d ≡ true → LiesIn keys d → members_are_sorted keys ≡ true
  ascends_in keys (table ms) s (inl same) = ap members_are_sorted same ∙ s
  ascends_in keys (table ms) s (inr inside) = ascends_in_members keys ms s inside
  ascends_in keys (array ds) s inside = ascends_in_items keys ds s inside
  ascends_in keys (string t) s inside = absurd inside
  ascends_in keys (integer z) s inside = absurd inside
  ascends_in keys (float x) s inside = absurd inside
  ascends_in keys (boolean b) s inside = absurd inside
  ascends_in keys (datetime t) s inside = absurd inside

  ascends_in_items : (keys : Members) (ds : Items) → items_are_sorted ds ≡ true → LiesInItems keys ds → members_are_sorted keys ≡ true
  ascends_in_items keys no_items s inside = absurd inside
  ascends_in_items keys (item d ds) s (inl here) = ascends_in keys d (and_parts (is_sorted d) (items_are_sorted ds) s).0 here
  ascends_in_items keys (item d ds) s (inr later) = ascends_in_items keys ds (and_parts (is_sorted d) (items_are_sorted ds) s).1 later

  ascends_in_members : (keys : Members) (ms : Members) → members_are_sorted ms ≡ true → LiesInMembers keys ms → members_are_sorted keys ≡ true
  ascends_in_members keys no_members s inside = absurd inside
  ascends_in_members keys (member k d ms) s (inl here) =
      let front = (and_parts (is_before k ms && is_sorted d) (members_are_sorted ms) s).0 in
      ascends_in keys d (and_parts (is_before k ms) (is_sorted d) front).1 here
  ascends_in_members keys (member k d ms) s (inr later) =
      ascends_in_members keys ms (and_parts (is_before k ms && is_sorted d) (members_are_sorted ms) s).1 later

pub unknown_key_is_least : UnknownKeyIsLeast
unknown_key_is_least known text document keys read inside key e =
    least known keys (ascends_in keys (table document) (documents_ascend text document read) inside) key (some_of_fault (unknown_member known keys) key e)
