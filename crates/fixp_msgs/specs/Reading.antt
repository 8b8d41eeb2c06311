-- What reading a session message answers.
use Rattle.std.specs.Prelude.{◌≡◌, ℕ, Bool, true, false, IsTrue, List, Option, Some, None, Result, Ok, Err}
use Rattle.fixp_msgs.specs.declared.messages.SessionMsg.{SessionMsg}
use Rattle.fixp_msgs.specs.declared.reading.MsgFault.{MsgFault}
use Rattle.fixp_msgs.specs.declared.reading.MsgFault.TheVariants.{BadTemplate, Short}
use Rattle.fixp_msgs.specs.Header.{template_in}
use Rattle.fixp_msgs.specs.Message.{Message, message_of}
use Rattle.fixp_msgs.specs.Table.{row_of, is_template}
use Rattle.fixp_msgs.specs.Grammar.{Spells, IsBlock, BeginsWithDatum, HasBody}

-- why a fault comes: the template is none of the table, and is named; or it is, and no message is spelled
abbrev pub HasCause : List ℕ → MsgFault → Type 0
HasCause bytes (BadTemplate id) = (template_in bytes ≡ id) × (is_template id ≡ false)
HasCause bytes Short = IsTrue (is_template (template_in bytes)) × ((m : Message) → Spells bytes m → ⊥)

-- the message that the bytes spell, or a fault that has its cause
abbrev pub Answers : List ℕ → Result SessionMsg MsgFault → Type 0
Answers bytes (Ok m) = Spells bytes (message_of m)
Answers bytes (Err fault) = HasCause bytes fault

-- no block of at least this length stands in the bytes, or no datum behind it where there is to be one
abbrev pub Lacks : List ℕ → ℕ → Bool → Type 0
Lacks bytes least false = (block behind : List ℕ) → IsBlock bytes least block behind → ⊥
Lacks bytes least true = (block behind datum : List ℕ) → IsBlock bytes least block behind → BeginsWithDatum behind datum → ⊥

-- a message of this template whose body stands in the bytes; or none, as they lack a block so long or the datum
abbrev pub Finds : List ℕ → ℕ → ℕ → Bool → Option SessionMsg → Type 0
Finds bytes template least datum None = Lacks bytes least datum
Finds bytes template least datum (Some m) = ((row_of (message_of m)).template ≡ template)
    × HasBody bytes (row_of (message_of m)).fields (row_of (message_of m)).datum
