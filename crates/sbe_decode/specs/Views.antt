-- The message that a view shows, and what its parts are to it.
use Rattle.std.specs.Prelude.{◌≡◌, ℕ, Result, Ok, Err, List, []}
use Rattle.sbe_value.specs.declared.message.Message.{Message}
use Rattle.sbe_value.specs.Trees.{no_groups}
use Rattle.sbe_layout.specs.declared.plan.MessagePlan.{MessagePlan}
use Rattle.sbe_layout.specs.declared.plan.Plan.{Plan}
use Rattle.sbe_grammar.specs.declared.fault.DecodeFault.{DecodeFault}
use Rattle.sbe_grammar.specs.Values.{items_in}
use Rattle.sbe_grammar.specs.Reading.{message_in}

-- the message that is told, and a message of nothing where there is a fault
abbrev pub message_told : Result Message DecodeFault → Message
message_told (Ok m) = m
message_told (Err fault) = record { template = 0; root = record { items = []; groups = no_groups; vars = [] } }

-- bytes that spell the message: its template, and the block of the items by a layout
pub record IsSeen (schema : Plan) (bytes : List ℕ) (template version : ℕ) (layout : MessagePlan) (block : List ℕ) : Type 0 where
  pub spelled : message_in schema bytes ≡ Ok (message_told (message_in schema bytes))
  pub template_is : (message_told (message_in schema bytes)).template ≡ template
  pub items_are : (message_told (message_in schema bytes)).root.items ≡ items_in schema.order version block layout.root.items
