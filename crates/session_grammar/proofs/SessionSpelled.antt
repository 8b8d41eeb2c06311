-- Bytes that spell a tree by the session's schema spell a session message, whose tree it is.
use Rattle.std.proofs.Common.{◌≡◌, ℕ, ◌+◌, ◌≤◌, Bool, true, false, not, ◌||◌, nat_le, nat_eq, List, [], ◌∷◌, ◌++◌, length, take, drop, sum_by, map, Option, Some, None, if◌then◌else◌, refl, sym, ap, ◌∙◌, subst, append_assoc, arith}
use Rattle.std.specs.Prelude.{◌==◌}
use Rattle.std.proofs.lemmas.Bool.{false≢true, le-leb, and_from}
use Rattle.std.proofs.lemmas.Bool.Decides.{nat_tests}
use Rattle.std.proofs.lemmas.List.{drop_at, length-append}
use Rattle.std.specs.List.{list_any, AllByRecursion}
use Rattle.std.specs.Int.{w16, from_le_bytes}
use Rattle.sbe_prim.specs.declared.Primitive.TheVariants.{UInt16}
use Rattle.sbe_prim.specs.declared.Order.TheVariants.{Little}
use Rattle.sbe_value.specs.declared.datum.Datum.{Datum}
use Rattle.sbe_value.specs.declared.datum.Datum.TheVariants as variable
use Rattle.sbe_value.specs.declared.message.Message as tree
use Rattle.sbe_value.specs.Trees.{GroupList, no_groups, absent, entries}
use Rattle.sbe_layout.specs.declared.items.DataPlan.{DataPlan}
use Rattle.sbe_layout.specs.declared.plan.MessagePlan.{MessagePlan}
use Rattle.sbe_layout.specs.Trees.{PlanTree, no_plans}
use Rattle.sbe_layout.specs.Plans as plans
use Rattle.sbe_grammar.specs.Parts.{Then, IsNumber}
use Rattle.sbe_grammar.specs.Spelling.{SpellsGroups, SpellsData, SpellsBy}
use Rattle.sbe_grammar.proofs.MessagesRead.{spelled_once}
use Rattle.session_grammar.specs.SessionSchema as session
use Rattle.fixp_msgs.specs.Header.{block_length_in, template_in, schema_in, version_in, session_schema}
use Rattle.fixp_msgs.specs.Message.{Message}
use Rattle.fixp_msgs.specs.Table.{row_of, size_of, block_size, is_template}
use Rattle.fixp_msgs.specs.Grammar.{Spells}
use Rattle.fixp_msgs.specs.Spelled.{message_at, has_datum, message_in}
use Rattle.fixp_msgs.proofs.Rows.{of_template}
use Rattle.fixp_msgs.proofs.Found.{spelled_is_found, fields_at}
use Rattle.session_grammar.specs.SessionTrees.{tree_of}
use Rattle.session_grammar.specs.Laws.{IsTreeOfSpelled}
use Rattle.session_grammar.proofs.Cutting.{number_in_front, behind_front}
use Rattle.session_grammar.proofs.Fields.{if_true, Timely, timely, covered}
use Rattle.session_grammar.proofs.SessionRows.{DataFit, Fits, FitsFound, plans_at, fits, same_templates, HasTemplate, have_templates}
use Rattle.session_grammar.proofs.TreeSpelled.{SpellsWith, there, tree_spelled}

-- ---- the template

-- a template that some message of the plan has is one of the plan's templates
among_by : (b : Bool) (template id : ℕ) (rest : Bool) → (template == id) ≡ b → (b ≡ false → rest ≡ true) → (nat_eq id template || rest) ≡ true
among_by true template id rest same more = let yes : nat_eq id template ≡ true = grind (arith, nat_tests) in rw yes refl
among_by false template id rest same more = let no : nat_eq id template ≡ false = grind (arith, nat_tests) in rw no (more refl)

-- where the first of the plans is not the one, it is among those behind
behind_first : (b : Bool) (l : MessagePlan) (rest : Option MessagePlan) (layout : MessagePlan) → (if b then Some l else rest) ≡ Some layout → b ≡ false → rest ≡ Some layout
behind_first true l rest layout e other = absurd (false≢true (sym other))
behind_first false l rest layout e other = e

among : (ls : List MessagePlan) (id : ℕ) (layout : MessagePlan) → plans.message_of id ls ≡ Some layout → list_any (nat_eq id) (map (λ (l : MessagePlan). l.template) ls) ≡ true
among [] id layout e = cc
among (l ∷ ls) id layout e =
    among_by (l.template == id) l.template id (list_any (nat_eq id) (map (λ (x : MessagePlan). x.template) ls)) refl (λ other. among ls id layout (behind_first (l.template == id) l (plans.message_of id ls) layout e other))

is_template_of_plan : (version id : ℕ) (layout : MessagePlan) → plans.message_of id (plans_at true version) ≡ Some layout → is_template id ≡ true
is_template_of_plan version id layout e = ap (list_any (nat_eq id)) (sym (same_templates version)) ∙ among (plans_at true version) id layout e

-- the plan that is found of a template fits the row of each message of that template
fits_found : (version told id : ℕ) (layout : MessagePlan) (block behind : List ℕ) → plans.message_of id (plans_at true version) ≡ Some layout → Fits layout (row_of (message_at told id block behind))
fits_found version told id layout block behind e =
    let m = message_at told id block behind in
    let same : id ≡ (row_of m).template = of_template HasTemplate have_templates id (is_template_of_plan version id layout e) told block behind in
    let found : plans.message_of (row_of m).template (plans_at true version) ≡ Some layout = ap (λ (n : ℕ). plans.message_of n (plans_at true version)) (sym same) ∙ e in
    let P : Option MessagePlan → Type 0 = λ x. FitsFound x (row_of m) in
    subst P found (fits version m)

-- ---- groups and data

-- by a plan without groups a tree has none, and they take no bytes
no_groups_there : (version : ℕ) (gs : GroupList) (ps : PlanTree) (bytes : List ℕ) → ps ≡ no_plans → SpellsGroups Little version gs ps bytes → bytes ≡ []
no_groups_there version gs ps bytes none s = no_groups_by gs (subst (λ (x : PlanTree). SpellsGroups Little version gs x bytes) none s)
  where
    no_groups_by : (gs : GroupList) → SpellsGroups Little version gs no_plans bytes → bytes ≡ []
    no_groups_by no_groups s = s
    no_groups_by (absent gs) s = absurd s
    no_groups_by (entries bs gs) s = absurd s

-- a number in front and so many bytes behind it
datum_whole : (front text more rest behind : List ℕ) (n : ℕ) → behind ≡ (front ++ (text ++ more)) ++ rest → length front ≡ 2 → from_le_bytes w16 front ≡ n → length text ≡ n → nat_le (2 + from_le_bytes w16 behind) (length behind) ≡ true
datum_whole front text more rest behind n joined two number whole =
    let size : from_le_bytes w16 behind ≡ n = ap (from_le_bytes w16) (joined ∙ append_assoc front (text ++ more) rest) ∙ number_in_front front ((text ++ more) ++ rest) two ∙ number in
    let long : length behind ≡ 2 + (n + length more) + length rest = ap length joined ∙ length-append (front ++ (text ++ more)) rest ∙ omega (arith, length-append front (text ++ more), length-append text more, two, whole) in
    le-leb (2 + from_le_bytes w16 behind) (length behind) (omega (arith, size, long))

-- where a row has a datum, it stands whole behind the block
datum_there : (version : ℕ) (datum : Option (List ℕ)) (ds : List DataPlan) (vs : List Datum) (front rest behind : List ℕ) → DataFit datum ds → behind ≡ front ++ rest → SpellsData Little version vs ds front → has_datum datum behind ≡ true
datum_there version None ds vs front rest behind fit joined s = refl
datum_there version (Some datum) [] vs front rest behind fit joined s = absurd fit
datum_there version (Some datum) (d ∷ e ∷ ds) vs front rest behind fit joined s = absurd fit
datum_there version (Some datum) (d ∷ []) [] front rest behind fit joined s = absurd s
datum_there version (Some datum) (d ∷ []) (variable.Absent ∷ vs) front rest behind is joined s =
    absurd (false≢true (subst (λ (b : Bool). not b ≡ true) (there version d is) s.0))
datum_there version (Some datum) (d ∷ []) (variable.Present text ∷ vs) front rest behind is joined s =
    let parts : Then (IsNumber Little d.length (length text)) (Then (λ part. part ≡ text) (SpellsData Little version vs [])) front = s.1 in
    let number : IsNumber Little UInt16 (length text) parts.front = subst (λ (x : DataPlan). IsNumber Little x.length (length text) parts.front) is parts.is_front in
    let texts = parts.is_behind in
    datum_whole parts.front texts.front texts.behind rest behind (length text) (joined ∙ ap (λ (xs : List ℕ). xs ++ rest) (parts.joined ∙ ap (λ (xs : List ℕ). parts.front ++ xs) texts.joined)) number.whole number.number (ap length texts.is_front)

-- ---- the whole

-- the block of the stated length, what stands behind it, and the message of these for the template in the bytes
abbrev block_in : List ℕ → List ℕ
block_in bytes = take (block_length_in bytes) (drop 8 bytes)

abbrev behind_in : List ℕ → List ℕ
behind_in bytes = drop (block_length_in bytes) (drop 8 bytes)

abbrev message_here : List ℕ → Message
message_here bytes = message_at (version_in bytes) (template_in bytes) (block_in bytes) (behind_in bytes)

-- what has to hold of bytes that spell that message
record Stands (bytes : List ℕ) : Type 0 where
  template : is_template (template_in bytes) ≡ true
  schema : (schema_in bytes == session_schema) ≡ true
  covers : block_size (row_of (message_here bytes)) ≤ block_length_in bytes
  whole : 8 + block_length_in bytes ≤ length bytes
  datum : has_datum (row_of (message_here bytes)).datum (behind_in bytes) ≡ true

-- then that message is found
found : (bytes : List ℕ) → Stands bytes → message_in bytes ≡ Some (message_here bytes)
unfolding message_in
found bytes s =
    if_true _ (Some (message_here bytes)) None (and_from _ _ s.template (and_from _ _ s.schema (and_from _ _ (le-leb _ _ s.covers) (and_from _ _ (le-leb _ _ s.whole) s.datum))))

-- and it holds of bytes that spell a tree
stands : (version : ℕ) (bytes : List ℕ) (t : tree.Message) (layout : MessagePlan) → SpellsBy (plans.plan_of (session.schema_with true version)) layout bytes t → Stands bytes
stands version bytes t layout by =
    let sizes = by.joined in
    let ids = sizes.is_behind in
    let schemas = ids.is_behind in
    let versions = schemas.is_behind in
    let blocks = versions.is_behind in
    let groups = blocks.is_behind in
    let vars = groups.is_behind in
    let at_two : drop 2 bytes ≡ ids.front ++ ids.behind = behind_front sizes.front sizes.behind 2 0 bytes sizes.joined sizes.is_front.whole ∙ ids.joined in
    let at_four : drop 4 bytes ≡ schemas.front ++ schemas.behind = behind_front ids.front ids.behind 2 2 bytes at_two ids.is_front.whole ∙ schemas.joined in
    let at_six : drop 6 bytes ≡ versions.front ++ versions.behind = behind_front schemas.front schemas.behind 2 4 bytes at_four schemas.is_front.whole ∙ versions.joined in
    let at_eight : drop 8 bytes ≡ blocks.front ++ blocks.behind = behind_front versions.front versions.behind 2 6 bytes at_six versions.is_front.whole ∙ blocks.joined in
    let size : block_length_in bytes ≡ by.size = ap (from_le_bytes w16) sizes.joined ∙ number_in_front sizes.front sizes.behind sizes.is_front.whole ∙ sizes.is_front.number in
    let id : template_in bytes ≡ t.template = ap (from_le_bytes w16) at_two ∙ number_in_front ids.front ids.behind ids.is_front.whole ∙ ids.is_front.number in
    let schema : schema_in bytes ≡ session_schema = ap (from_le_bytes w16) at_four ∙ number_in_front schemas.front schemas.behind schemas.is_front.whole ∙ schemas.is_front.number in
    let found : plans.message_of (template_in bytes) (plans_at true version) ≡ Some layout = ap (λ (n : ℕ). plans.message_of n (plans_at true version)) id ∙ sym by.found in
    let version_is : version_in bytes ≡ by.version = ap (from_le_bytes w16) at_six ∙ number_in_front versions.front versions.behind versions.is_front.whole ∙ versions.is_front.number in
    let fit = fits_found version (version_in bytes) (template_in bytes) layout (block_in bytes) (behind_in bytes) found in
    let r = row_of (message_here bytes) in
    let nothing : groups.front ≡ [] = no_groups_there by.version t.root.groups layout.root.groups groups.front fit.groups groups.is_front in
    let after : behind_in bytes ≡ vars.front ++ vars.behind =
    ap (drop (block_length_in bytes)) at_eight
    ∙ drop_at blocks.front blocks.behind (block_length_in bytes) (blocks.is_front.whole ∙ sym size)
    ∙ groups.joined
    ∙ ap (λ (xs : List ℕ). xs ++ groups.behind) nothing
    ∙ vars.joined in
    let long : length bytes ≡ 8 + by.size + length blocks.behind =
    ap length sizes.joined
    ∙ length-append sizes.front sizes.behind
    ∙ omega (arith, ap length ids.joined ∙ length-append ids.front ids.behind, ap length schemas.joined ∙ length-append schemas.front schemas.behind, ap length versions.joined ∙ length-append versions.front versions.behind, ap length blocks.joined ∙ length-append blocks.front blocks.behind, sizes.is_front.whole, ids.is_front.whole, schemas.is_front.whole, versions.is_front.whole, blocks.is_front.whole) in
    let covers : 0 + sum_by size_of r.fields ≤ by.size = covered by.version by.size 0 r.fields layout.root.marks fit.lasts
    (subst (λ (n : ℕ). AllByRecursion (Timely n) r.fields) version_is
    (timely (version_in bytes) 0 (block_in bytes) r.fields (fields_at (version_in bytes) (template_in bytes) (block_in bytes) (behind_in bytes) (is_template_of_plan version (template_in bytes) layout found))))
    fit.marks (omega arith) blocks.is_front.fields_within in
    record {
      template = is_template_of_plan version (template_in bytes) layout found;
      schema = ap (λ (n : ℕ). n == session_schema) schema;
      covers = omega (arith, covers, size);
      whole = omega (arith, long, size);
      datum = datum_there by.version r.datum layout.root.vars t.root.vars vars.front vars.behind (behind_in bytes) fit.vars after vars.is_front;
    }

pub session_spelled : (version : ℕ) (bytes : List ℕ) (t : tree.Message) → SpellsWith true version bytes t → IsTreeOfSpelled bytes t
session_spelled version bytes t s =
    let m = message_here bytes in
    let here : Spells bytes m = (spelled_is_found bytes m).1 (found bytes (stands version bytes t s.0 s.1)) in
    record {
      message = m;
      spelled = here;
      tree_is = spelled_once (plans.plan_of (session.schema_with true version)) bytes t (tree_of m) s (tree_spelled version bytes m here);
    }
