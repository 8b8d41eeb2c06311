-- The lines of a message by the bytes that spell it.
use Rattle.std.specs.Prelude.{◌≡◌, ℕ, Result, Ok, Err, List, [], ◌++◌, codes, decimal}
use Rattle.std.specs.Borrow.{Bor}
use Rattle.sbe_value.specs.declared.message.Message.{Message}
use Rattle.sbe_value.specs.declared.tree.Group.{Group}
use Rattle.sbe_value.specs.declared.tree.Group.TheVariants as group
use Rattle.sbe_value.specs.Trees.{count_of_blocks}
use Rattle.sbe_layout.specs.declared.blocks.BlockPlan.{BlockPlan}
use Rattle.sbe_layout.specs.declared.listings.Listing.{Listing}
use Rattle.sbe_layout.specs.declared.plan.Plan.{Plan}
use Rattle.sbe_layout.specs.Plans.{message_of}
use Rattle.sbe_layout.specs.Trees.{PlanHead, PlanTree}
use Rattle.sbe_grammar.specs.declared.fault.DecodeFault.{DecodeFault}
use Rattle.sbe_grammar.specs.Reading.{Read, Entry, message_in}
use Rattle.sbe_decode.specs.declared.error.DecodeError.{DecodeError}
use Rattle.sbe_decode.specs.Answers.{Gives}
use Rattle.sbe_decode.specs.Walks.{along}
use Rattle.sbe_text.specs.Written.{element_line, item_lines, lines_of_data, group_lines, entry_lines, message_lines}

-- the bytes spell a message, and its lines are added, with names by listings
pub record HasNamed (listings : List Listing) (schema : Plan) (bytes old new : List ℕ) : Type 0 where
  pub message : Message
  pub spelled : message_in schema bytes ≡ Ok message
  pub added : new ≡ old ++ message_lines listings message (message_of message.template schema.messages)

-- the same without names
abbrev pub HasAdded : Plan → List ℕ → List ℕ → List ℕ → Type 0
HasAdded schema bytes old new = HasNamed [] schema bytes old new

-- the lines of what is read of a whole message, with names by listings
abbrev pub lines_told : List Listing → Plan → Result Message DecodeFault → Result (List ℕ) DecodeFault
lines_told listings schema (Ok m) = Ok (message_lines listings m (message_of m.template schema.messages))
lines_told listings schema (Err fault) = Err fault

-- ---- parts of a message

abbrev pub lines_of_group : List Listing → List ℕ → PlanHead → PlanTree → Group → List ℕ
lines_of_group listings before g inner group.Absent = element_line before g.name (codes "absent")
lines_of_group listings before g inner (group.Entries bs) =
    element_line before g.name (decimal (count_of_blocks bs)) ++ entry_lines listings before 0 bs g inner

abbrev pub lines_of_block : List Listing → List ℕ → BlockPlan → Entry → List ℕ
lines_of_block listings before plan e =
    item_lines listings before e.items plan.items ++ group_lines listings before e.groups plan.groups ++ lines_of_data before e.vars plan.vars

-- the lines of what is read, behind others
abbrev pub printed : {A : Type 0} → List ℕ → (A → List ℕ) → Read A → Read (List ℕ)
printed old lines read = along (λ x. old ++ lines x) read

-- the lines of what is read are added, and the bytes behind it are given
abbrev pub Prints : {A : Type 0} → (A → List ℕ) → Read A → List ℕ → List ℕ → Result (Bor (List ℕ)) DecodeError → Type 0
Prints lines read old new result = Gives (λ rest. (new, rest.now)) result (printed old lines read)
