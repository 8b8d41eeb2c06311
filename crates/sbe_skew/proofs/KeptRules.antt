-- An older version of a checked schema breaks no rule.
use Rattle.std.proofs.Common.{◌≡◌, inl, inr, ℕ, zero, suc, ◌-◌, ◌^◌, min, ◌≤◌, ◌∙◌, ℤ, pos, negsuc, int_lt, nat_lt, Bool, true, false, not, ◌||◌, cond, if◌then◌else◌, map, refl, sym, ap, subst, Option, Some, None, List, [], ◌∷◌, arith}
use Rattle.std.specs.List.{list_any}
use Rattle.std.proofs.lemmas.Bool.{or_parts, not-true, ltb-false, true≢false}
use Rattle.std.proofs.lemmas.Bool.Decides.{nat_tests}
use Rattle.std.proofs.lemmas.Int.{ints}
use Rattle.schema_types.specs.declared.types.TypeDef.{TypeDef}
use Rattle.schema_types.specs.declared.messages.FieldDef.{FieldDef}
use Rattle.schema_types.specs.Groups.{GroupHead, GroupTree, group, no_groups}
use Rattle.sbe_schema.specs.Names.{same_name}
use Rattle.sbe_schema.specs.Meanings.{meaning_of}
use Rattle.sbe_schema.specs.Identity.{is_unknown}
use Rattle.sbe_schema.specs.Kinds.{is_dimension, is_uint32}
use Rattle.sbe_schema.specs.Offsets.{offset_of}
use Rattle.sbe_schema.specs.Sums.{end_of_field, end_of_fields, bytes_of_block, stands_below}
use Rattle.sbe_schema.specs.Blocks.{Block, heads_of, names_in_block}
use Rattle.sbe_schema.specs.Faults.{any_pair, with_earlier, behind_one, is_outside, is_new_inside, is_behind_older, is_badly_extended, is_misplaced_field, is_bad_dimension_of, is_over_limit_in}
use Rattle.sbe_grammar.specs.Values.{is_in}
use Rattle.sbe_skew.specs.Projected.{projected_fields, projected_data, projected_head, projected_groups}
use Rattle.sbe_skew.proofs.OlderBlocks.{Ends, keep_field, filter_out}
use Rattle.sbe_skew.proofs.OlderFacts.{sound}
use Rattle.sbe_skew.proofs.Sublists.{or_none, Sub, sub_skip, pairs_sub, any_filter, sub_map, any_map}

pub in_version : (w : ℕ) (since : ℤ) → is_in w since ≡ true → int_lt (pos w) since ≡ false
in_version w since e = not-true (int_lt (pos w) since) e

pub below_less : (z : ℤ) (a b : ℕ) → a ≤ b → int_lt z (pos b) ≡ false → int_lt z (pos a) ≡ false
below_less z a b = grind (arith, ints, nat_tests)

pub not_above : (limit a b : ℕ) → a ≤ b → nat_lt limit b ≡ false → nat_lt limit a ≡ false
not_above limit a b = grind (arith, nat_tests)

stated_end : (stated : Option ℤ) (end : ℕ) → end ≤ 16384 → stands_below stated end ≡ false → end ≤ offset_of end stated
stated_end None end s h = omega arith
stated_end (Some (pos n)) end s h = let e : min end (2 ^ 128 - 1) ≤ n = ltb-false n (min end (2 ^ 128 - 1)) h in omega (arith, e, s)
stated_end (Some (negsuc n)) end s h = absurd (true≢false h)

module _ (T : List TypeDef) (w : ℕ) where
  -- ---- the heads of groups, and the elements of a block

  pub any_heads : (p q : GroupHead → Bool) → ((g : GroupHead) → is_in w g.since ≡ true → p g ≡ false → q (projected_head w g) ≡ false) → (t : GroupTree) → list_any p (heads_of t) ≡ false → list_any q (heads_of (projected_groups w t)) ≡ false
  any_heads p q f no_groups h = refl
  any_heads p q f (group g inner rest) h =
      let o = or_parts (p g) (list_any p (heads_of rest)) h in
      let later = any_heads p q f rest o.1 in
      elim (is_in w g.since) as (λ b. is_in w g.since ≡ b → list_any q (heads_of (if b then group (projected_head w g) (projected_groups w inner) (projected_groups w rest) else projected_groups w rest)) ≡ false) [
        | true ↦ λ e. or_none (q (projected_head w g)) (list_any q (heads_of (projected_groups w rest))) (f g e o.0) later
        | false ↦ λ e. later
      ] refl

  pub heads_sub : {A : Type 0} (f : GroupHead → A) → ((g : GroupHead) → f (projected_head w g) ≡ f g) → (t : GroupTree) → Sub (map f (heads_of (projected_groups w t))) (map f (heads_of t))
  heads_sub f e no_groups = tt
  heads_sub f e (group g inner rest) =
      elim (is_in w g.since) as (λ b. Sub (map f (heads_of (if b then group (projected_head w g) (projected_groups w inner) (projected_groups w rest) else projected_groups w rest))) (f g ∷ map f (heads_of rest))) [
        | true ↦ inl (e g, heads_sub f e rest)
        | false ↦ sub_skip (f g) (map f (heads_of (projected_groups w rest))) (map f (heads_of rest)) (heads_sub f e rest)
      ]

  -- ---- ends

  abbrev Misplaced : ℕ → List FieldDef × FieldDef → Bool
  Misplaced end p = stands_below p.1.offset (end_of_fields T end p.0) || nat_lt 16384 (end_of_field T (end_of_fields T end p.0) p.1)

  placed_step : (end : ℕ) (f : FieldDef) (fs : List FieldDef) → list_any (Misplaced end) (with_earlier (f ∷ fs)) ≡ false → (Misplaced end ([], f) ≡ false) × (list_any (Misplaced (end_of_field T end f)) (with_earlier fs) ≡ false)
  placed_step end f fs h =
      let o = or_parts (Misplaced end ([], f)) (list_any (Misplaced end) (map (behind_one f) (with_earlier fs))) h in
      (o.0, sym (any_map (Misplaced end) (behind_one f) (with_earlier fs)) ∙ o.1)

  ends_small : (end : ℕ) (fs : List FieldDef) → end ≤ 16384 → list_any (Misplaced end) (with_earlier fs) ≡ false → end_of_fields T end fs ≤ 16384
  ends_small end [] s h = s
  ends_small end (f ∷ fs) s h =
      let o = placed_step end f fs h in
      let here = (or_parts (stands_below f.offset end) (nat_lt 16384 (end_of_field T end f)) o.0).1 in
      ends_small (end_of_field T end f) fs (ltb-false 16384 (end_of_field T end f) here) o.1

  ends_grow : (end : ℕ) (fs : List FieldDef) → end ≤ 16384 → list_any (Misplaced end) (with_earlier fs) ≡ false → end ≤ end_of_fields T end fs
  ends_grow end [] s h = omega arith
  ends_grow end (f ∷ fs) s h =
      let o = placed_step end f fs h in
      let here = or_parts (stands_below f.offset end) (nat_lt 16384 (end_of_field T end f)) o.0 in
      let low : end ≤ offset_of end f.offset = stated_end f.offset end s here.0 in
      let next : end_of_field T end f ≤ end_of_fields T (end_of_field T end f) fs = ends_grow (end_of_field T end f) fs (ltb-false 16384 (end_of_field T end f) here.1) o.1 in
      omega (arith, low, next)

  ends_less : (end : ℕ) (fs : List FieldDef) → Ends (keep_field w) fs → end ≤ 16384 → list_any (Misplaced end) (with_earlier fs) ≡ false → end_of_fields T end (projected_fields w fs) ≤ end_of_fields T end fs
  ends_less end [] e s h = omega arith
  ends_less end (f ∷ fs) (inl e) s h =
      let o = placed_step end f fs h in
      let here = (or_parts (stands_below f.offset end) (nat_lt 16384 (end_of_field T end f)) o.0).1 in
      subst (λ b. end_of_fields T end (cond b (f ∷ projected_fields w fs) (projected_fields w fs)) ≤ end_of_fields T (end_of_field T end f) fs) (sym e.0) (ends_less (end_of_field T end f) fs e.1 (ltb-false 16384 (end_of_field T end f) here) o.1)
  ends_less end (f ∷ fs) (inr e) s h =
      subst (λ xs. end_of_fields T end xs ≤ end_of_fields T end (f ∷ fs)) (sym (filter_out (keep_field w) (f ∷ fs) e)) (ends_grow end (f ∷ fs) s h)

  pub placed_kept : (q : List FieldDef × FieldDef → Bool) (fs : List FieldDef) → Ends (keep_field w) fs → list_any q (with_earlier fs) ≡ false → list_any q (with_earlier (projected_fields w fs)) ≡ false
  placed_kept q [] e h = refl
  placed_kept q (f ∷ fs) (inl e) h =
      let o = or_parts (q ([], f)) (list_any q (map (behind_one f) (with_earlier fs))) h in
      let rest = placed_kept (λ p. q (behind_one f p)) fs e.1 (sym (any_map q (behind_one f) (with_earlier fs)) ∙ o.1) in
      subst (λ b. list_any q (with_earlier (cond b (f ∷ projected_fields w fs) (projected_fields w fs))) ≡ false) (sym e.0) (or_none (q ([], f)) (list_any q (map (behind_one f) (with_earlier (projected_fields w fs)))) o.0 (any_map q (behind_one f) (with_earlier (projected_fields w fs)) ∙ rest))
  placed_kept q (f ∷ fs) (inr e) h =
      subst (λ xs. list_any q (with_earlier xs) ≡ false) (sym (filter_out (keep_field w) (f ∷ fs) e)) refl

  pub bytes_less : (stated : Option ℤ) (fs : List FieldDef) → Ends (keep_field w) fs → list_any (is_misplaced_field T) (with_earlier fs) ≡ false → stands_below stated (end_of_fields T 0 fs) ≡ false → bytes_of_block T None (projected_fields w fs) ≤ bytes_of_block T stated fs
  bytes_less stated fs e h s =
      let small : 0 ≤ 16384 = omega arith in
      let a : end_of_fields T 0 (projected_fields w fs) ≤ end_of_fields T 0 fs = ends_less 0 fs e small h in
      let b : end_of_fields T 0 fs ≤ offset_of (end_of_fields T 0 fs) stated = stated_end stated (end_of_fields T 0 fs) (ends_small 0 fs small h) s in
      omega (arith, a, b)

-- ---- what a block breaks

pub record Good (T : List TypeDef) (version : ℕ) (b : Block) : Type 0 where
  pub names : any_pair same_name (names_in_block b) ≡ false
  pub known : list_any (λ f. is_unknown (meaning_of T f.type_name)) b.fields ≡ false
  pub placed : list_any (is_misplaced_field T) (with_earlier b.fields) ≡ false
  pub short : list_any (λ g. stands_below g.block_length (end_of_fields T 0 g.fields)) b.groups ≡ false
  pub dimensions : list_any (is_bad_dimension_of T) b.groups ≡ false
  pub lengths : list_any (λ d. not (is_dimension d.length || is_uint32 d.length)) b.vars ≡ false
  pub extended : is_badly_extended version b ≡ false
  pub limits : is_over_limit_in T b ≡ false

module _ (T : List TypeDef) (w version : ℕ) where
  pub extended_kept : (b : Block) (t : GroupTree) → heads_of t ≡ b.groups → is_badly_extended version b ≡ false → is_badly_extended w (record { level = b.level; since = b.since; stated = None; fields = projected_fields w b.fields; groups = heads_of (projected_groups w t); vars = projected_data w b.vars }) ≡ false
  extended_kept b t e h =
      let fields_out = (or_parts (list_any (λ f. is_outside version b.since f.since) b.fields) _ (or_parts (list_any (λ f. is_outside version b.since f.since) b.fields || any_pair int_lt (map (λ f. f.since) b.fields)) _ h).0).0 in
      let own = sound version b h in
      let heads : list_any (λ g. is_outside version b.since g.since || (is_behind_older b.level b.vars g.since || is_new_inside b.level b.since g.since)) (heads_of t) ≡ false =
      ap (list_any (λ g. is_outside version b.since g.since || (is_behind_older b.level b.vars g.since || is_new_inside b.level b.since g.since))) e ∙ own.each_group in
      let older : (level : ℕ) (since : ℤ) → is_behind_older level b.vars since ≡ false → is_behind_older level (projected_data w b.vars) since ≡ false = λ level since k. behind level since k in
      let a = any_filter (λ f. is_in w f.since) (λ f. is_outside version b.since f.since) (λ f. is_outside w b.since f.since) (λ f i o. or_none _ _ (in_version w f.since i) (or_parts (int_lt (pos version) f.since) _ o).1) b.fields fields_out in
      let c = pairs_sub int_lt (map (λ f. f.since) (projected_fields w b.fields)) (map (λ f. f.since) b.fields) (sub_map (λ f. f.since) (λ f. is_in w f.since) b.fields) own.fields in
      let g = any_heads T w (λ g. is_outside version b.since g.since || (is_behind_older b.level b.vars g.since || is_new_inside b.level b.since g.since)) (λ g. is_outside w b.since g.since || (is_behind_older b.level (projected_data w b.vars) g.since || is_new_inside b.level b.since g.since)) (λ g i o.
      let p = or_parts (is_outside version b.since g.since) _ o in
      let q = or_parts (is_behind_older b.level b.vars g.since) (is_new_inside b.level b.since g.since) p.1 in
      or_none _ _ (or_none _ _ (in_version w g.since i) (or_parts (int_lt (pos version) g.since) _ p.0).1) (or_none _ _ (older b.level g.since q.0) q.1)) t heads in
      let k = pairs_sub int_lt (map (λ g. g.since) (heads_of (projected_groups w t))) (map (λ g. g.since) b.groups) (subst (λ gs. Sub (map (λ (g : GroupHead). g.since) (heads_of (projected_groups w t))) (map (λ g. g.since) gs)) e (heads_sub T w (λ g. g.since) (λ g. refl) t)) own.groups in
      let d = any_filter (λ d. is_in w d.since) (λ d. is_outside version b.since d.since || is_new_inside b.level b.since d.since) (λ d. is_outside w b.since d.since || is_new_inside b.level b.since d.since) (λ d i o. (let p = or_parts (is_outside version b.since d.since) _ o in or_none (is_outside w b.since d.since) (is_new_inside b.level b.since d.since) (or_none (int_lt (pos w) d.since) (int_lt d.since b.since) (in_version w d.since i) (or_parts (int_lt (pos version) d.since) (int_lt d.since b.since) p.0).1) p.1)) b.vars own.each_datum in
      let v = pairs_sub int_lt (map (λ d. d.since) (projected_data w b.vars)) (map (λ d. d.since) b.vars) (sub_map (λ d. d.since) (λ d. is_in w d.since) b.vars) own.vars in
      or_none _ _ (or_none _ _ a c) (or_none _ _ (or_none _ _ g k) (or_none _ _ d v))
    where
      behind : (level : ℕ) (since : ℤ) → is_behind_older level b.vars since ≡ false → is_behind_older level (projected_data w b.vars) since ≡ false
      behind zero since k = any_filter (λ d. is_in w d.since) (λ d. int_lt d.since since) (λ d. int_lt d.since since) (λ d i o. o) b.vars k
      behind (suc level) since k = refl
