-- What paths mean in a block of a message, where names are plain.
use Rattle.std.proofs.Common.{◌≡◌, ◌≢◌, ◌⊎◌, inl, inr, ℕ, ◌^◌, ◌<◌, ◌==◌, Bool, true, false, ◌&&◌, List, [], ◌∷◌, ◌++◌, refl, ap, sym, ◌∙◌, arith, append_assoc, decimal}
use Rattle.std.specs.Prelude.{Option, Some, None, ◌||◌, nat_le, if◌then◌else◌}
use Rattle.std.specs.List.{AllByRecursion}
use Rattle.std.specs.Str.{bytes_eq}
use Rattle.std.proofs.lemmas.Slice.Eq.{bytes_eq-Decides}
use Rattle.std.proofs.lemmas.Fmt.{decimal_is_IsNumeral_wide}
use Rattle.std.proofs.lemmas.Bool.{false≢true}
use Rattle.sbe_layout.specs.declared.items.DataPlan.{DataPlan}
use Rattle.sbe_layout.specs.declared.items.ItemPlan.{ItemPlan}
use Rattle.sbe_layout.specs.declared.plan.MessagePlan.{MessagePlan}
use Rattle.sbe_layout.specs.Trees.{PlanHead, PlanTree, no_plans, plan}
use Rattle.sbe_text.specs.Tokens.{also, are_digits, behind, is_digit}
use Rattle.sbe_text.specs.Written.{before_in}
use Rattle.sbe_text.proofs.Texts.{behind_joined, digits_are}
use Rattle.text_names.specs.Plain.{NamesNoDatum, NamesNoGroup, NamesNoItem, ItemsApart, is_name, is_name_byte}
use Rattle.text_names.specs.Values.{begins_name}
use Rattle.text_names.specs.Paths.{behind_place, cut_meaning, element_named, entry_meaning, groups_meaning, has_datum, item_or_datum, kind_named, meaning_of, path_meaning}
use Rattle.text_names.specs.declared.path.Meaning.TheVariants.{Item, Datum, Other}
use Rattle.text_names.proofs.Bytes.{both, both_left, both_right, either_left, either_right, is_plain, are_plain, lacks, name_bytes, name_is_plain, names_lack, other_byte, plain_append, not_false}
use Rattle.text_names.proofs.Lined.{IsPath, cut_joined, cut_none, ends_behind, plain_begins, plain_ends}

pub same_bytes : (xs : List ℕ) → bytes_eq xs xs ≡ true
same_bytes xs = (bytes_eq-Decides xs xs).1 refl

pub other_bytes : (xs ys : List ℕ) → xs ≢ ys → bytes_eq xs ys ≡ false
other_bytes xs ys ne = by_test (bytes_eq xs ys) refl
  where
    by_test : (t : Bool) → bytes_eq xs ys ≡ t → t ≡ false
    by_test true h = absurd (ne ((bytes_eq-Decides xs ys).0 h))
    by_test false h = refl

-- ---- the elements of a block by their names

pub no_kind : (ps : List ItemPlan) (name : List ℕ) → NamesNoItem name ps → kind_named ps name ≡ None
no_kind [] name h = refl
no_kind (p ∷ ps) name h = ap (λ (t : Bool). if t then Some p.kind else kind_named ps name) (other_bytes p.name name h.0) ∙ no_kind ps name h.1

pub no_datum : (ds : List DataPlan) (name : List ℕ) → NamesNoDatum name ds → has_datum ds name ≡ false
no_datum [] name h = refl
no_datum (d ∷ ds) name h = ap (λ (t : Bool). t || has_datum ds name) (other_bytes d.name name h.0) ∙ no_datum ds name h.1

items_behind : (p : ItemPlan) (ps qs : List ItemPlan) → AllByRecursion (λ q. p.name ≢ q.name) qs → AllByRecursion (λ q. kind_named ps q.name ≡ Some q.kind) qs → AllByRecursion (λ q. kind_named (p ∷ ps) q.name ≡ Some q.kind) qs
items_behind p ps [] other found = tt
items_behind p ps (q ∷ qs) other found =
    (ap (λ (t : Bool). if t then Some p.kind else kind_named ps q.name) (other_bytes p.name q.name other.0) ∙ found.0, items_behind p ps qs other.1 found.1)

pub items_found : (ps : List ItemPlan) → ItemsApart ps → AllByRecursion (λ p. kind_named ps p.name ≡ Some p.kind) ps
items_found [] apart = tt
items_found (p ∷ ps) apart =
    (ap (λ (t : Bool). if t then Some p.kind else kind_named ps p.name) (same_bytes p.name), items_behind p ps ps apart.0 (items_found ps apart.1))

data_behind : (d : DataPlan) (ds es : List DataPlan) → AllByRecursion (λ e. has_datum ds e.name ≡ true) es → AllByRecursion (λ e. has_datum (d ∷ ds) e.name ≡ true) es
data_behind d ds [] found = tt
data_behind d ds (e ∷ es) found = (either_right (bytes_eq d.name e.name) (has_datum ds e.name) found.0, data_behind d ds es found.1)

pub data_found : (ds : List DataPlan) → AllByRecursion (λ d. has_datum ds d.name ≡ true) ds
data_found [] = tt
data_found (d ∷ ds) = (either_left (bytes_eq d.name d.name) (has_datum ds d.name) (same_bytes d.name), data_behind d ds ds (data_found ds))

-- ---- groups by their names

abbrev pub IsOneOf : List ℕ → PlanTree → Type 0
IsOneOf name no_plans = ⊥
IsOneOf name (plan g inner rest) = (g.name ≡ name) ⊎ IsOneOf name rest

-- the groups of a tree mean what they mean in a part of it
abbrev pub Holds : PlanTree → PlanTree → Type 0
Holds tree part = (name after : List ℕ) → IsOneOf name part → groups_meaning tree name after ≡ groups_meaning part name after

no_same : (tree : PlanTree) (a b : List ℕ) → NamesNoGroup a tree → IsOneOf b tree → a ≢ b
no_same no_plans a b none one = absurd one
no_same (plan g inner rest) a b none (inl e) = λ same. none.0 (e ∙ sym same)
no_same (plan g inner rest) a b none (inr one) = no_same rest a b none.1 one

pub holds_rest : (tree : PlanTree) (g : PlanHead) (inner rest : PlanTree) → NamesNoGroup g.name rest → Holds tree (plan g inner rest) → Holds tree rest
holds_rest tree g inner rest none holds = λ name after one.
    holds name after (inr one)
    ∙ ap (λ (t : Bool). if t then entry_meaning g.items g.vars (λ n a. groups_meaning inner n a) (behind_place after) else groups_meaning rest name after) (other_bytes g.name name (no_same rest g.name name none one))

pub holds_first : (tree : PlanTree) (g : PlanHead) (inner rest : PlanTree) → Holds tree (plan g inner rest) → (after : List ℕ)
    → groups_meaning tree g.name after ≡ entry_meaning g.items g.vars (λ n a. groups_meaning inner n a) (behind_place after)
holds_first tree g inner rest holds after =
    holds g.name after (inl refl)
    ∙ ap (λ (t : Bool). if t then entry_meaning g.items g.vars (λ n a. groups_meaning inner n a) (behind_place after) else groups_meaning rest g.name after) (same_bytes g.name)

-- ---- paths

pub name_path : (before name : List ℕ) → are_plain before ≡ true → is_name name ≡ true → IsPath (before ++ name)
name_path before [] p h = absurd (false≢true h)
name_path [] (b ∷ bs) p h = let plain = name_is_plain (b ∷ bs) h in record { plain = plain; begins = plain_begins b bs plain; ends = plain_ends b bs plain }
name_path (a ∷ cs) (b ∷ bs) p h =
    let plain = name_is_plain (b ∷ bs) h in
    let whole : are_plain ((a ∷ cs) ++ (b ∷ bs)) ≡ true = plain_append (a ∷ cs) (b ∷ bs) p plain in
    record { plain = whole; begins = plain_begins a (cs ++ (b ∷ bs)) whole; ends = ends_behind (a ∷ cs) (b ∷ bs) (plain_ends b bs plain) }

-- in a block, paths behind this mean what they mean in a message
abbrev pub Leads : Option MessagePlan → List ℕ → List ItemPlan → List DataPlan → PlanTree → Type 0
Leads layout before items vars tree = (path : List ℕ) → meaning_of layout (before ++ path) ≡ path_meaning items vars (λ n a. groups_meaning tree n a) path

name_lacks : (w : ℕ) → is_name_byte w ≡ false → (name : List ℕ) → is_name name ≡ true → lacks w name ≡ true
name_lacks w e name h = names_lack w e name (name_bytes name h)

named_path : (items : List ItemPlan) (vars : List DataPlan) (tree : PlanTree) (name : List ℕ) → is_name name ≡ true
    → path_meaning items vars (λ n a. groups_meaning tree n a) name ≡ element_named items vars name
named_path items vars tree name h = ap (cut_meaning items vars (λ n a. groups_meaning tree n a) name) (cut_none 91 name (name_lacks 91 refl name h))

module _ (layout : Option MessagePlan) (before : List ℕ) (items : List ItemPlan) (vars : List DataPlan) (tree : PlanTree) (leads : Leads layout before items vars tree) where
  pub item_means : (p : ItemPlan) → is_name p.name ≡ true → kind_named items p.name ≡ Some p.kind → meaning_of layout (before ++ p.name) ≡ Item p.kind
  item_means p h k = leads p.name ∙ named_path items vars tree p.name h ∙ ap (λ o. item_or_datum o (has_datum vars p.name)) k

  pub datum_means : (d : DataPlan) → is_name d.name ≡ true → kind_named items d.name ≡ None → has_datum vars d.name ≡ true → meaning_of layout (before ++ d.name) ≡ Datum
  datum_means d h k v = leads d.name ∙ named_path items vars tree d.name h ∙ ap (λ o. item_or_datum o (has_datum vars d.name)) k ∙ ap (item_or_datum None) v

  pub group_means : (name : List ℕ) → is_name name ≡ true → NamesNoItem name items → NamesNoDatum name vars → meaning_of layout (before ++ name) ≡ Other
  group_means name h k v = leads name ∙ named_path items vars tree name h ∙ ap (λ o. item_or_datum o (has_datum vars name)) (no_kind items name k) ∙ ap (item_or_datum None) (no_datum vars name v)

digits_lack : (ds : List ℕ) → are_digits ds ≡ true → lacks 93 ds ≡ true
digits_lack [] h = refl
digits_lack (d ∷ ds) h =
    both _ (lacks 93 ds) (not_false (d == 93) (other_byte is_digit d 93 (both_left (is_digit d) (are_digits ds) h) refl)) (digits_lack ds (both_right (is_digit d) (are_digits ds) h))

digit_plain : (d : ℕ) → is_digit d ≡ true → is_plain d ≡ true
digit_plain d h =
    either_left (is_name_byte d) _ (either_right (begins_name d) ((nat_le 48 d && nat_le d 57) || d == 46) (either_left (nat_le 48 d && nat_le d 57) (d == 46) h))

pub digits_plain : (ds : List ℕ) → are_digits ds ≡ true → are_plain ds ≡ true
digits_plain [] h = refl
digits_plain (d ∷ ds) h = both (is_plain d) (are_plain ds) (digit_plain d (both_left (is_digit d) (are_digits ds) h)) (digits_plain ds (both_right (is_digit d) (are_digits ds) h))

place_digits : (at : ℕ) → at < 2 ^ 127 → are_digits (decimal at) ≡ true
place_digits at small = digits_are (decimal at) (decimal_is_IsNumeral_wide at (omega arith)).0.1

place_behind : (at : ℕ) → at < 2 ^ 127 → (path : List ℕ) → behind_place (decimal at ++ 93 ∷ 46 ∷ path) ≡ Some path
place_behind at small path =
    ap (λ o. also o (λ p. behind (46 ∷ []) p.1)) (cut_joined 93 (decimal at) (46 ∷ path) (digits_lack (decimal at) (place_digits at small))) ∙ behind_joined (46 ∷ []) path

-- so they do in the entries of a group
pub entry_leads : (layout : Option MessagePlan) (before : List ℕ) (items : List ItemPlan) (vars : List DataPlan) (tree : PlanTree) (g : PlanHead) (inner rest : PlanTree)
    → Leads layout before items vars tree → Holds tree (plan g inner rest) → is_name g.name ≡ true → (at : ℕ) → at < 2 ^ 127 → Leads layout (before_in before g at) g.items g.vars inner
entry_leads layout before items vars tree g inner rest leads holds h at small = λ path.
    let assoc : before_in before g at ++ path ≡ before ++ (g.name ++ 91 ∷ (decimal at ++ 93 ∷ 46 ∷ path)) = simp append_assoc refl in
    ap (meaning_of layout) assoc
    ∙ leads (g.name ++ 91 ∷ (decimal at ++ 93 ∷ 46 ∷ path))
    ∙ ap (cut_meaning items vars (λ n a. groups_meaning tree n a) (g.name ++ 91 ∷ (decimal at ++ 93 ∷ 46 ∷ path))) (cut_joined 91 g.name (decimal at ++ 93 ∷ 46 ∷ path) (name_lacks 91 refl g.name h))
    ∙ holds_first tree g inner rest holds (decimal at ++ 93 ∷ 46 ∷ path)
    ∙ ap (entry_meaning g.items g.vars (λ n a. groups_meaning inner n a)) (place_behind at small path)

pub entry_plain : (before : List ℕ) (g : PlanHead) (at : ℕ) → are_plain before ≡ true → is_name g.name ≡ true → at < 2 ^ 127 → are_plain (before_in before g at) ≡ true
entry_plain before g at p h small =
    let tail : are_plain (91 ∷ (decimal at ++ 93 ∷ 46 ∷ [])) ≡ true = plain_append (decimal at) (93 ∷ 46 ∷ []) (digits_plain (decimal at) (place_digits at small)) refl in
    let whole : are_plain (before ++ (g.name ++ 91 ∷ (decimal at ++ 93 ∷ 46 ∷ []))) ≡ true = plain_append before (g.name ++ 91 ∷ (decimal at ++ 93 ∷ 46 ∷ [])) p (plain_append g.name (91 ∷ (decimal at ++ 93 ∷ 46 ∷ [])) (name_is_plain g.name h) tail) in
    let assoc : before_in before g at ≡ before ++ (g.name ++ 91 ∷ (decimal at ++ 93 ∷ 46 ∷ [])) = simp append_assoc refl in
    ap are_plain assoc ∙ whole
