-- The message that bytes spell, or the first fault of bytes that spell none, with its place (SBE 1.0, "Message structure").
-- Each reader takes the bytes that are left and gives what they begin with and the bytes behind it; `total` is the
-- length of the whole message, so that what begins with the bytes left stands at the place `total` less their number.
use Rattle.std.specs.Prelude.{ℕ, zero, suc, ◌+◌, ◌-◌, max, nat_lt, ◌==◌, if◌then◌else◌, Option, Some, None, Result, Ok, Err, List, [], ◌∷◌, length, take, drop}
use Rattle.sbe_prim.specs.declared.Primitive.TheVariants.{UInt16}
use Rattle.sbe_prim.specs.declared.Order.{Order}
use Rattle.sbe_prim.specs.Primitives.{size_of}
use Rattle.sbe_value.specs.declared.item.Item.{Item}
use Rattle.sbe_value.specs.declared.datum.Datum.{Datum}
use Rattle.sbe_value.specs.declared.datum.Datum.TheVariants as datum
use Rattle.sbe_value.specs.declared.message.Message.{Message}
use Rattle.sbe_value.specs.declared.tree.Group.{Group}
use Rattle.sbe_value.specs.declared.tree.Group.TheVariants as group
use Rattle.sbe_value.specs.Trees.{GroupList, BlockList, no_groups, absent, entries, no_blocks, block}
use Rattle.sbe_layout.specs.declared.items.ItemPlan.{ItemPlan}
use Rattle.sbe_layout.specs.declared.items.Mark.{Mark}
use Rattle.sbe_layout.specs.declared.items.DataPlan.{DataPlan}
use Rattle.sbe_layout.specs.declared.blocks.BlockPlan.{BlockPlan}
use Rattle.sbe_layout.specs.declared.plan.MessagePlan.{MessagePlan}
use Rattle.sbe_layout.specs.declared.plan.Plan.{Plan}
use Rattle.sbe_layout.specs.Trees.{PlanHead, PlanTree, no_plans, plan}
use Rattle.sbe_layout.specs.Plans.{message_of}
use Rattle.sbe_grammar.specs.declared.fault.DecodeFault.{DecodeFault}
use Rattle.sbe_grammar.specs.declared.fault.DecodeFault.TheVariants.{Truncated, OtherSchema, UnknownTemplate, ShortBlock}
use Rattle.sbe_grammar.specs.Parts.{unsigned}
use Rattle.sbe_grammar.specs.Values.{is_in, items_in}

-- what a reader gives: a value and the bytes behind it, or a fault
abbrev pub Read : Type 0 → Type 0
Read A = Result (A × List ℕ) DecodeFault

-- what is read, and then something of the bytes behind it
abbrev pub next : {A B : Type 0} → Read A → (A → List ℕ → Read B) → Read B
next (Ok read) more = more read.0 read.1
next (Err fault) more = Err fault

-- the first n bytes, where they are there
abbrev pub read_bytes : ℕ → ℕ → List ℕ → Read (List ℕ)
read_bytes total n left = if nat_lt (length left) n then Err (Truncated (total - length left)) else Ok (take n left, drop n left)

-- where the last of the fields ends that a message of this version has
abbrev pub needed_by : ℕ → List Mark → ℕ
needed_by version [] = 0
needed_by version (m ∷ ms) = if is_in version m.since then max m.end (needed_by version ms) else needed_by version ms

-- the bytes of a block of that size; that it is too short is told before that it is not whole
abbrev pub read_whole : ℕ → ℕ → ℕ → List Mark → List ℕ → Read (List ℕ)
read_whole version total size marks left =
    if nat_lt size (needed_by version marks)
    then Err (ShortBlock (total - length left) size (needed_by version marks))
    else read_bytes total size left

-- the values of the items of such a block
abbrev pub read_block : Order → ℕ → ℕ → ℕ → List Mark → List ItemPlan → List ℕ → Read (List Item)
read_block order version total size marks plans left =
    next (read_whole version total size marks left) (λ bytes rest. Ok (items_in order version bytes plans, rest))

-- ---- data

abbrev pub read_datum : Order → ℕ → DataPlan → List ℕ → Read Datum
read_datum order total d left =
    next (read_bytes total (size_of d.length) left) (λ bytes after. next (read_bytes total (unsigned order d.length bytes) after)
    (λ text rest. Ok (datum.Present text, rest)))

abbrev pub read_if_in : ℕ → DataPlan → Read Datum → List ℕ → Read Datum
read_if_in version d present left = if is_in version d.since then present else Ok (datum.Absent, left)

abbrev pub read_data : Order → ℕ → ℕ → List DataPlan → List ℕ → Read (List Datum)
read_data order version total [] left = Ok ([], left)
read_data order version total (d ∷ ds) left =
    next (read_if_in version d (read_datum order total d left) left) (λ v rest. next (read_data order version total ds rest) (λ vs end. Ok (v ∷ vs, end)))

-- ---- groups

-- a dimension: the length of the entries' blocks, and how many entries there are
pub record Dimension : Type 0 where
  pub size : ℕ
  pub count : ℕ

abbrev pub read_dimension : Order → ℕ → PlanHead → List ℕ → Read Dimension
read_dimension order total head left =
    next (read_bytes total (size_of head.block_prim + size_of head.count_prim) left)
    (λ bytes rest. Ok (
      record {
        size = unsigned order head.block_prim (take (size_of head.block_prim) bytes);
        count = unsigned order head.count_prim (drop (size_of head.block_prim) bytes);
      },
      rest,
    ))

-- an entry: the values of its block, its groups, its data
pub record Entry : Type 0 where
  pub items : List Item
  pub groups : GroupList
  pub vars : List Datum

-- an entry, given how its groups are read
abbrev pub read_entry : Order → ℕ → ℕ → PlanHead → ℕ → (List ℕ → Read GroupList) → List ℕ → Read Entry
read_entry order version total head size inner left =
    next (read_block order version total size head.marks head.items left)
    (λ items after. next (inner after) (λ groups behind. next (read_data order version total head.vars behind)
    (λ vars rest. Ok (record { items = items; groups = groups; vars = vars }, rest))))

-- so many entries
abbrev pub repeated : ℕ → (List ℕ → Read Entry) → List ℕ → Read BlockList
repeated zero read left = Ok (no_blocks, left)
repeated (suc n) read left =
    next (read left) (λ e rest. next (repeated n read rest) (λ es end. Ok (block e.items e.groups e.vars es, end)))

-- the entries of a group that the message has, given how their groups are read
abbrev pub read_present : Order → ℕ → ℕ → PlanHead → (List ℕ → Read GroupList) → List ℕ → Read BlockList
read_present order version total head inner left =
    next (read_dimension order total head left) (λ d after. repeated d.count (read_entry order version total head d.size inner) after)

-- a group, absent where the message's version does not have it
abbrev pub read_group : Order → ℕ → ℕ → PlanHead → (List ℕ → Read GroupList) → List ℕ → Read Group
read_group order version total head inner left =
    if is_in version head.since
    then next (read_present order version total head inner left) (λ bs rest. Ok (group.Entries bs, rest))
    else Ok (group.Absent, left)

-- a group in front of others
abbrev pub group_before : Group → GroupList → GroupList
group_before group.Absent gs = absent gs
group_before (group.Entries bs) gs = entries bs gs

abbrev pub read_groups : Order → ℕ → ℕ → PlanTree → List ℕ → Read GroupList
read_groups order version total no_plans left = Ok (no_groups, left)
read_groups order version total (plan head inner rest) left =
    next (read_group order version total head (read_groups order version total inner) left)
    (λ g behind. next (read_groups order version total rest behind) (λ gs end. Ok (group_before g gs, end)))

-- ---- the whole message

-- the four numbers of the message header
pub record Header : Type 0 where
  pub size : ℕ
  pub template : ℕ
  pub id : ℕ
  pub version : ℕ

abbrev pub header_in : Order → List ℕ → Header
header_in order bytes = record {
  size = unsigned order UInt16 (take 2 bytes);
  template = unsigned order UInt16 (take 2 (drop 2 bytes));
  id = unsigned order UInt16 (take 2 (drop 4 bytes));
  version = unsigned order UInt16 (take 2 (drop 6 bytes));
}

abbrev pub read_body : Order → ℕ → ℕ → ℕ → BlockPlan → ℕ → List ℕ → Read Message
read_body order version total size root template left =
    next (read_block order version total size root.marks root.items left)
    (λ items after. next (read_groups order version total root.groups after)
    (λ groups behind. next (read_data order version total root.vars behind)
    (λ vars rest. Ok (record { template = template; root = record { items = items; groups = groups; vars = vars } }, rest))))

abbrev pub read_by : Order → ℕ → Header → Option MessagePlan → List ℕ → Read Message
read_by order total h None left = Err (UnknownTemplate h.template)
read_by order total h (Some layout) left = read_body order h.version total h.size layout.root h.template left

abbrev pub read_headed : Plan → ℕ → Header → List ℕ → Read Message
read_headed schema total h left =
    if h.id == schema.id then read_by schema.order total h (message_of h.template schema.messages) left else Err (OtherSchema h.id)

-- what is read, without the bytes behind it
abbrev pub alone : {A : Type 0} → Read A → Result A DecodeFault
alone (Ok read) = Ok read.0
alone (Err fault) = Err fault

-- the message that the bytes spell by the plan of its schema, or their first fault
abbrev pub message_in : Plan → List ℕ → Result Message DecodeFault
message_in schema bytes =
    alone (next (read_bytes (length bytes) 8 bytes) (λ header left. read_headed schema (length bytes) (header_in schema.order header) left))
