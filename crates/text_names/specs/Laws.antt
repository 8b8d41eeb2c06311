-- What strict text becomes, and what is shown of it.
use Rattle.std.specs.Prelude.{◌≡◌, ℕ, Ok, List, [], ◌++◌}
use Rattle.sbe_value.specs.declared.message.Message.{Message}
use Rattle.sbe_layout.specs.declared.plan.Plan.{Plan}
use Rattle.text_words.specs.Lines.{lines_in}
use Rattle.sbe_text.specs.Reading.{read_message, message_of_text}
use Rattle.text_names.specs.Lines.{Narrowed, narrowed_message}
use Rattle.text_names.specs.Named.{named_text}

-- the strict lines and those behind them are these lines, and spell the message that they spell
pub record StaysStrict (schema : Plan) (lines : List (List ℕ)) (m : Message) (rest : List (List ℕ)) (n : Narrowed) : Type 0 where
  pub behind : n.rest ≡ Ok rest
  pub same : lines_in n.text ++ rest ≡ lines
  pub spelled : read_message schema.messages (lines_in n.text ++ rest) ≡ Ok (m, rest)

-- the lines of a message without names, of a text that names were written in
abbrev pub unnamed : Plan → List ℕ → Narrowed
unnamed schema text = narrowed_message schema (lines_in (named_text schema (lines_in text)))

-- they spell the message
pub record ReadsBack (schema : Plan) (m : Message) (n : Narrowed) : Type 0 where
  pub behind : n.rest ≡ Ok []
  pub spelled : message_of_text schema n.text ≡ Ok m
