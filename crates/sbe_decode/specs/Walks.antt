-- What the parts of the decoder read, by the grammar's reading of the same bytes.
use Rattle.std.specs.Prelude.{ℕ, ◌==◌, if◌then◌else◌, Option, Some, None, Result, Ok, Err, List, length}
use Rattle.sbe_prim.specs.declared.Order.{Order}
use Rattle.sbe_value.specs.declared.tree.Block.{Block}
use Rattle.sbe_value.specs.declared.message.Message.{Message}
use Rattle.sbe_layout.specs.declared.blocks.BlockPlan.{BlockPlan}
use Rattle.sbe_layout.specs.declared.plan.MessagePlan.{MessagePlan}
use Rattle.sbe_layout.specs.declared.plan.Plan.{Plan}
use Rattle.sbe_layout.specs.Plans.{message_of}
use Rattle.sbe_grammar.specs.declared.fault.DecodeFault.{DecodeFault}
use Rattle.sbe_grammar.specs.declared.fault.DecodeFault.TheVariants.{OtherSchema, UnknownTemplate}
use Rattle.sbe_grammar.specs.Reading as reading
use Rattle.sbe_grammar.specs.Reading.{Read, next, alone, read_bytes, read_block, read_groups, read_data, Entry, header_in}
use Rattle.sbe_decode.specs.declared.header.Header.{Header}
use Rattle.sbe_decode.specs.declared.blocks.Dimension.{Dimension}

-- what is read, changed
abbrev pub along : {A B : Type 0} → (A → B) → Read A → Read B
along f read = next read (λ x rest. Ok (f x, rest))

-- the bytes behind what is read
abbrev pub behind : {A : Type 0} → Read A → Result (List ℕ) DecodeFault
behind (Ok read) = Ok read.1
behind (Err fault) = Err fault

abbrev pub header_of : Header → reading.Header
header_of h = record { size = h.size; template = h.template; id = h.id; version = h.version }

abbrev pub read_header : Order → List ℕ → Read reading.Header
read_header order bytes = along (header_in order) (read_bytes (length bytes) 8 bytes)

abbrev pub layout_found : reading.Header → Option MessagePlan → Result MessagePlan DecodeFault
layout_found h None = Err (UnknownTemplate h.template)
layout_found h (Some layout) = Ok layout

-- the layout of a header's template
abbrev pub layout_by : Plan → reading.Header → Result MessagePlan DecodeFault
layout_by schema h =
    if h.id == schema.id then layout_found h (message_of h.template schema.messages) else Err (OtherSchema h.id)

abbrev pub dimension_of : Dimension → reading.Dimension
dimension_of d = record { size = d.size; count = d.count }

abbrev pub entry_of : Block → Entry
entry_of b = record { items = b.items; groups = b.groups; vars = b.vars }

-- a block of that size with its groups and its data
abbrev pub read_parts : Order → ℕ → ℕ → ℕ → BlockPlan → List ℕ → Read Entry
read_parts order version total size plan left =
    next (read_block order version total size plan.marks plan.items left)
    (λ items after. next (read_groups order version total plan.groups after)
    (λ groups rest. next (read_data order version total plan.vars rest) (λ vars end. Ok (record { items = items; groups = groups; vars = vars }, end))))

-- something by the layout that is found
abbrev pub laid : {A : Type 0} → Result MessagePlan DecodeFault → (MessagePlan → Read A) → Read A
laid (Ok layout) more = more layout
laid (Err fault) more = Err fault

abbrev pub message_by : ℕ → Entry → Message
message_by template root =
    record { template = template; root = record { items = root.items; groups = root.groups; vars = root.vars } }

-- the whole message: its header, the layout of its template, its root block
abbrev pub read_message : Plan → List ℕ → Result Message DecodeFault
read_message schema bytes =
    alone (next (read_header schema.order bytes) (λ h left. laid (layout_by schema h)
    (λ layout. along (message_by h.template) (read_parts schema.order h.version (length bytes) h.size layout.root left))))
