-- The laws that tie the grammar of the session messages to the grammar of messages of a schema.
use Rattle.std.specs.Prelude.{◌≡◌, ◌↔◌, ℕ, ◌≤◌, List}
use Rattle.sbe_value.specs.declared.message.Message as tree
use Rattle.sbe_layout.specs.Plans.{plan_of}
use Rattle.sbe_grammar.specs.Spelling as grammar
use Rattle.session_grammar.specs.SessionSchema.{session_schema}
use Rattle.fixp_msgs.specs.Message.{Message}
use Rattle.fixp_msgs.specs.Grammar.{Spells}
use Rattle.session_grammar.specs.SessionTrees.{tree_of, tree_before}

-- the bytes spell the tree by the plan of the session's schema, at this version of the schema
abbrev pub SpellsTree : ℕ → List ℕ → tree.Message → Type 0
SpellsTree version bytes t = grammar.Spells (plan_of (session_schema version)) bytes t

-- bytes spell a session message exactly where they spell its tree by the session's schema, from its version 1 on
abbrev pub SpelledAlike : Type 0
SpelledAlike = (version : ℕ) (bytes : List ℕ) (m : Message) → 1 ≤ version → Spells bytes m ↔ SpellsTree version bytes (tree_of m)

-- a session message that the bytes spell, and whose tree this is
pub record IsTreeOfSpelled (bytes : List ℕ) (t : tree.Message) : Type 0 where
  pub message : Message
  pub spelled : Spells bytes message
  pub tree_is : t ≡ tree_of message

-- each tree that bytes spell by the session's schema is that of a session message, which they spell too
abbrev pub EveryTree : Type 0
EveryTree = (version : ℕ) (bytes : List ℕ) (t : tree.Message) → 1 ≤ version → SpellsTree version bytes t → IsTreeOfSpelled bytes t

-- bytes spell no session message exactly where they spell no tree by the session's schema
abbrev pub ShortAlike : Type 0
ShortAlike = (version : ℕ) (bytes : List ℕ) → 1 ≤ version → ((m : Message) → Spells bytes m → ⊥) ↔ ((t : tree.Message) → SpellsTree version bytes t → ⊥)

-- a reader of version 0 finds of a session message what that version has of it
abbrev pub OlderReads : Type 0
OlderReads = (bytes : List ℕ) (m : Message) → Spells bytes m → SpellsTree 0 bytes (tree_before m)
