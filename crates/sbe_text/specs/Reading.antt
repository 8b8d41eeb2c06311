-- The message that a text spells by a plan, or the first of its lines that is not as it has to be (this project's profile).
use Rattle.std.specs.Prelude.{ℕ, zero, suc, ◌+◌, ◌-◌, if◌then◌else◌, Option, Some, None, Result, Ok, Err, List, [], ◌∷◌, length, codes}
use Rattle.std.specs.Str.{bytes_eq}
use Rattle.sbe_value.specs.declared.item.Item.{Item}
use Rattle.sbe_value.specs.declared.datum.Datum.{Datum}
use Rattle.sbe_value.specs.declared.message.Message.{Message}
use Rattle.sbe_value.specs.declared.tree.Group.{Group}
use Rattle.sbe_value.specs.declared.tree.Group.TheVariants as group
use Rattle.sbe_value.specs.Trees.{GroupList, BlockList, no_groups, no_blocks, block}
use Rattle.sbe_layout.specs.declared.items.ItemPlan.{ItemPlan}
use Rattle.sbe_layout.specs.declared.items.DataPlan.{DataPlan}
use Rattle.sbe_layout.specs.declared.plan.MessagePlan.{MessagePlan}
use Rattle.sbe_layout.specs.declared.plan.Plan.{Plan}
use Rattle.sbe_layout.specs.Plans.{message_of}
use Rattle.sbe_layout.specs.Trees.{PlanHead, PlanTree, no_plans, plan}
use Rattle.sbe_grammar.specs.Fits.{form_of}
use Rattle.sbe_grammar.specs.Reading.{Entry, group_before}
use Rattle.sbe_text.specs.declared.token.Count.{Count}
use Rattle.sbe_text.specs.declared.token.Count.TheVariants as count
use Rattle.text_words.specs.Lines.{lines_in}
use Rattle.sbe_text.specs.Read.{Read, next, taken, read_line, read_each}
use Rattle.sbe_text.specs.Tokens.{also, behind, value_on, is_line, value_of, datum_of, count_of}
use Rattle.sbe_text.specs.Written.{before_in}

-- the line of an element of that name, where its value makes something
abbrev pub read_element : {A : Type 0} → List ℕ → List ℕ → (List ℕ → Option A) → List (List ℕ) → Read A
read_element before name made ls =
    next (read_line (value_on before name) ls) (λ value rest. taken (length ls) (made value) rest)

abbrev pub read_item : List ℕ → ItemPlan → List (List ℕ) → Read Item
read_item before p ls = read_element before p.name (value_of (form_of p)) ls

abbrev pub read_datum : List ℕ → DataPlan → List (List ℕ) → Read Datum
read_datum before d ls = read_element before d.name datum_of ls

-- ---- groups

-- the elements of a block, given how its groups are read; `before` stands before their names
abbrev pub read_elements : List ℕ → List ItemPlan → (List (List ℕ) → Read GroupList) → List DataPlan → List (List ℕ) → Read Entry
read_elements before plans inner data_plans ls =
    next (read_each (read_item before) plans ls) (λ items after. next (inner after)
    (λ groups behind. next (read_each (read_datum before) data_plans behind)
    (λ vars rest. Ok (record { items = items; groups = groups; vars = vars }, rest))))

-- so many entries, the first of them at the place `at`
abbrev pub repeated : ℕ → ℕ → (ℕ → List (List ℕ) → Read Entry) → List (List ℕ) → Read BlockList
repeated zero at read ls = Ok (no_blocks, ls)
repeated (suc n) at read ls =
    next (read at ls) (λ e rest. next (repeated n (at + 1) read rest) (λ es end. Ok (block e.items e.groups e.vars es, end)))

-- the entry at a place, given how the groups of each are read
abbrev pub entry_at : List ℕ → PlanHead → (List ℕ → List (List ℕ) → Read GroupList) → ℕ → List (List ℕ) → Read Entry
entry_at before g inner at ls =
    read_elements (before_in before g at) g.items (inner (before_in before g at)) g.vars ls

abbrev pub read_entries : List ℕ → PlanHead → (List ℕ → List (List ℕ) → Read GroupList) → ℕ → List (List ℕ) → Read BlockList
read_entries before g inner n ls =
    repeated n 0 (entry_at before g inner) ls

abbrev pub read_counted : List ℕ → PlanHead → (List ℕ → List (List ℕ) → Read GroupList) → Count → List (List ℕ) → Read Group
read_counted before g inner count.Absent ls = Ok (group.Absent, ls)
read_counted before g inner (count.Entries n) ls = next (read_entries before g inner n ls) (λ bs rest. Ok (group.Entries bs, rest))

-- the line of a group, which tells the number of its entries, and those
abbrev pub read_group : List ℕ → PlanHead → (List ℕ → List (List ℕ) → Read GroupList) → List (List ℕ) → Read Group
read_group before g inner ls =
    next (read_element before g.name count_of ls) (λ told rest. read_counted before g inner told rest)

abbrev pub read_groups : List ℕ → PlanTree → List (List ℕ) → Read GroupList
read_groups before no_plans ls = Ok (no_groups, ls)
read_groups before (plan g inner rest) ls =
    next (read_group before g (λ path. read_groups path inner) ls) (λ x behind. next (read_groups before rest behind) (λ gs end. Ok (group_before x gs, end)))

-- ---- messages

-- the first message of a name
abbrev pub named : List MessagePlan → List ℕ → Option MessagePlan
named [] name = None
named (m ∷ ms) name = if bytes_eq m.name name then Some m else named ms name

-- the layout of the template that the line of a message names
abbrev pub layout_on : List MessagePlan → List ℕ → Option MessagePlan
layout_on messages line =
    also (also (behind (codes "message ") line) (named messages)) (λ m. message_of m.template messages)

abbrev pub message_with : ℕ → Entry → Message
message_with template e = record { template = template; root = record { items = e.items; groups = e.groups; vars = e.vars } }

-- the elements of a message by its layout, and the line `end`; nothing stands before the names in the root block
abbrev pub read_body : MessagePlan → List (List ℕ) → Read Message
read_body layout ls =
    next (read_elements [] layout.root.items (read_groups [] layout.root.groups) layout.root.vars ls)
    (λ e rest. next (read_line (is_line (codes "end")) rest) (λ _ end. Ok (message_with layout.template e, end)))

-- a message at the front of these lines
abbrev pub read_message : List MessagePlan → List (List ℕ) → Read Message
read_message messages ls = next (read_line (layout_on messages) ls) (λ layout rest. read_body layout rest)

-- nothing stands behind the line `end`
abbrev pub alone : {A : Type 0} → Read A → Result A ℕ
alone (Ok read) = none_behind read.0 read.1
  where
    none_behind : {A : Type 0} → A → List (List ℕ) → Result A ℕ
    none_behind made [] = Ok made
    none_behind made (line ∷ rest) = Err (length (line ∷ rest))
alone (Err left) = Err left

-- lines are numbered from 1
abbrev pub numbered : {A : Type 0} → ℕ → Result A ℕ → Result A ℕ
numbered total (Ok made) = Ok made
numbered total (Err left) = Err (total - left + 1)

-- the message that the lines of a text spell by the plan of its schema; else the number of the first line that is not as it
-- has to be, which is one past the last where the text ends too early
abbrev pub message_of_text : Plan → List ℕ → Result Message ℕ
message_of_text schema text =
    numbered (length (lines_in text)) (alone (read_message schema.messages (lines_in text)))
