-- Each line of the elements of a message that is read is one of a path and of a value that what the path means takes.
use Rattle.std.proofs.Common.{◌≡◌, ℕ, ◌^◌, ◌<◌, true, List, [], ◌∷◌, ◌++◌, refl, ap, sym, subst}
use Rattle.std.specs.Prelude.{Option, Some, IsTrue}
use Rattle.std.specs.List.{AllByRecursion}
use Rattle.sbe_layout.specs.declared.items.DataPlan.{DataPlan}
use Rattle.sbe_layout.specs.declared.items.ItemPlan.{ItemPlan}
use Rattle.sbe_layout.specs.declared.plan.MessagePlan.{MessagePlan}
use Rattle.sbe_layout.specs.Trees.{PlanHead, PlanTree, no_plans, plan}
use Rattle.sbe_grammar.specs.Fits.{form_of}
use Rattle.sbe_text.specs.Tokens.{value_of, datum_of, count_of}
use Rattle.sbe_text.specs.Written.{before_in}
use Rattle.sbe_text.specs.Reading.{entry_at, read_element, read_item, read_datum, read_elements, read_group, read_groups, read_counted}
use Rattle.text_names.specs.Paths.{has_datum, kind_named, meaning_of}
use Rattle.text_names.specs.Plain.{HasPlainBlock, HavePlainGroups, NamesNoItem, is_name}
use Rattle.text_names.specs.declared.path.Meaning.TheVariants as meaning
use Rattle.text_names.proofs.Bytes.{are_plain}
use Rattle.text_names.proofs.Lined.{IsPath, joined_line}
use Rattle.text_names.proofs.Contexts.{Holds, Leads, data_found, datum_means, entry_leads, entry_plain, group_means, holds_rest, item_means, items_found, name_path, no_kind}
use Rattle.text_names.proofs.Passing.{Passes, Takes, counted_passes, element_made, element_passes, elements_pass, here, known_passes, next_passes}

-- what is shown of each line of an element
abbrev pub Judges : Option MessagePlan → (List ℕ → Type 0) → Type 0
Judges layout P = (path value : List ℕ) → IsPath path → Takes (meaning_of layout path) value → P (joined_line path value)

module _ (P : List ℕ → Type 0) (layout : Option MessagePlan) (judged : Judges layout P) where
  item_passes : (before : List ℕ) (p : ItemPlan) → IsPath (before ++ p.name) → meaning_of layout (before ++ p.name) ≡ meaning.Item p.kind → (ls : List (List ℕ)) → Passes P ls (read_item before p ls)
  item_passes before p path means ls =
      element_passes P before p.name (value_of (form_of p)) (λ value x e.
      judged (before ++ p.name) value path (subst (λ m. Takes m value) (sym means) (record { presence = p.presence; size = p.size; item = x; is = e }))) ls

  datum_passes : (before : List ℕ) (d : DataPlan) → IsPath (before ++ d.name) → meaning_of layout (before ++ d.name) ≡ meaning.Datum → (ls : List (List ℕ)) → Passes P ls (read_datum before d ls)
  datum_passes before d path means ls =
      element_passes P before d.name datum_of (λ value x e. judged (before ++ d.name) value path (subst (λ m. Takes m value) (sym means) (record { datum = x; is = e }))) ls

  items_pass : (before : List ℕ) (items : List ItemPlan) (vars : List DataPlan) (tree : PlanTree) → Leads layout before items vars tree → are_plain before ≡ true
      → (ps : List ItemPlan) → AllByRecursion (λ p. IsTrue (is_name p.name)) ps → AllByRecursion (λ p. kind_named items p.name ≡ Some p.kind) ps
      → AllByRecursion (λ p. (ls : List (List ℕ)) → Passes P ls (read_item before p ls)) ps
  items_pass before items vars tree leads plain [] named found = tt
  items_pass before items vars tree leads plain (p ∷ ps) named found =
      (item_passes before p (name_path before p.name plain named.0) (item_means layout before items vars tree leads p named.0 found.0), items_pass before items vars tree leads plain ps named.1 found.1)

  data_pass : (before : List ℕ) (items : List ItemPlan) (vars : List DataPlan) (tree : PlanTree) → Leads layout before items vars tree → are_plain before ≡ true
      → (ds : List DataPlan) → AllByRecursion (λ d. IsTrue (is_name d.name)) ds → AllByRecursion (λ d. NamesNoItem d.name items) ds → AllByRecursion (λ d. has_datum vars d.name ≡ true) ds
      → AllByRecursion (λ d. (ls : List (List ℕ)) → Passes P ls (read_datum before d ls)) ds
  data_pass before items vars tree leads plain [] named apart found = tt
  data_pass before items vars tree leads plain (d ∷ ds) named apart found = (
    datum_passes before d (name_path before d.name plain named.0) (datum_means layout before items vars tree leads d named.0 (no_kind items d.name apart.0) found.0),
    data_pass before items vars tree leads plain ds named.1 apart.1 found.1,
  )

  -- the elements of a block, where its groups pass
  block_passes : (before : List ℕ) (items : List ItemPlan) (vars : List DataPlan) (tree : PlanTree) → Leads layout before items vars tree → are_plain before ≡ true → HasPlainBlock items vars
      → ((ls : List (List ℕ)) → Passes P ls (read_groups before tree ls)) → (ls : List (List ℕ)) → Passes P ls (read_elements before items (read_groups before tree) vars ls)
  block_passes before items vars tree leads plain named groups ls =
      elements_pass P before items (read_groups before tree) vars
      (items_pass before items vars tree leads plain items named.items_named (items_found items named.items_apart))
      groups
      (data_pass before items vars tree leads plain vars named.vars_named named.vars_apart (data_found vars)) ls

  -- a group, where the groups of its entries pass
  group_passes : (g : PlanHead) (inner rest : PlanTree) (before : List ℕ) (items : List ItemPlan) (vars : List DataPlan) (tree : PlanTree) → Leads layout before items vars tree → are_plain before ≡ true
      → HavePlainGroups items vars (plan g inner rest) → Holds tree (plan g inner rest)
      → ((deep : List ℕ) → Leads layout deep g.items g.vars inner → are_plain deep ≡ true → (more : List (List ℕ)) → Passes P more (read_groups deep inner more))
      → (ls : List (List ℕ)) → Passes P ls (read_group before g (λ path. read_groups path inner) ls)
  group_passes g inner rest before items vars tree leads plain named holds within ls =
      known_passes P ls (read_element before g.name count_of ls) (λ told rest. read_counted before g (λ path. read_groups path inner) told rest) own
      (λ told rest e. counted_passes P before g (λ path. read_groups path inner) entry told (element_made before g.name count_of ls told rest e) rest)
    where
      own : Passes P ls (read_element before g.name count_of ls)
      own = element_passes P before g.name count_of (λ value x e.
          judged (before ++ g.name) value (name_path before g.name plain named.0.named)
          (subst (λ m. Takes m value) (sym (group_means layout before items vars tree leads g.name named.0.named named.0.no_item named.0.no_datum)) (record { told = x; is = e }))) ls

      entry : (at : ℕ) → at < 2 ^ 127 → (ls : List (List ℕ)) → Passes P ls (entry_at before g (λ path. read_groups path inner) at ls)
      entry at small ls =
          let deeper : Leads layout (before_in before g at) g.items g.vars inner = entry_leads layout before items vars tree g inner rest leads holds named.0.named at small in
          let deep_plain : are_plain (before_in before g at) ≡ true = entry_plain before g at plain named.0.named small in
          block_passes (before_in before g at) g.items g.vars inner deeper deep_plain named.1.0 (within (before_in before g at) deeper deep_plain) ls

  -- the groups of a part of the tree of a block
  pub groups_pass : (part : PlanTree) (before : List ℕ) (items : List ItemPlan) (vars : List DataPlan) (tree : PlanTree) → Leads layout before items vars tree → are_plain before ≡ true
      → HavePlainGroups items vars part → Holds tree part → (ls : List (List ℕ)) → Passes P ls (read_groups before part ls)
  groups_pass no_plans before items vars tree leads plain named holds ls = here P ls
  groups_pass (plan g inner rest) before items vars tree leads plain named holds ls =
      next_passes P ls (read_group before g (λ path. read_groups path inner) ls) _
      (group_passes g inner rest before items vars tree leads plain named holds
      (λ deep deeper deep_plain more. groups_pass inner deep g.items g.vars inner deeper deep_plain named.1.1.0 (λ name after one. refl) more) ls)
      (λ x behind. next_passes P behind (read_groups before rest behind) _ (groups_pass rest before items vars tree leads plain named.1.1.1 (holds_rest tree g inner rest named.0.apart holds) behind) (λ gs end. here P end))

  -- the elements of a message
  pub elements_of_message_pass : (m : MessagePlan) → layout ≡ Some m → HasPlainBlock m.root.items m.root.vars → HavePlainGroups m.root.items m.root.vars m.root.groups
      → (ls : List (List ℕ)) → Passes P ls (read_elements [] m.root.items (read_groups [] m.root.groups) m.root.vars ls)
  elements_of_message_pass m is block groups ls =
      let leads : Leads layout [] m.root.items m.root.vars m.root.groups = λ path. ap (λ l. meaning_of l path) is in
      block_passes [] m.root.items m.root.vars m.root.groups leads refl block
      (λ more. groups_pass m.root.groups [] m.root.items m.root.vars m.root.groups leads refl groups (λ name after one. refl) more) ls
