-- What stands at the front of lines that a person wrote: a message, as the strict form or else the wider one has it, or none (this
-- project's profile).
use Rattle.std.specs.Prelude.{ℕ, ◌-◌, Option, Some, None, Result, Ok, Err, List, [], ◌∷◌, length, slice_get}
use Rattle.sbe_value.specs.declared.message.Message.{Message}
use Rattle.sbe_layout.specs.declared.plan.Plan.{Plan}
use Rattle.text_words.specs.Lines.{lines_in}
use Rattle.sbe_text.specs.Read.{Read}
use Rattle.sbe_text.specs.Reading.{read_message}
use Rattle.text_names.specs.Lines.{Fault, narrowed_message}

-- a message and the lines behind it, or none where every line is empty; else how many lines are left at the first that is refused
abbrev pub Front : Type 0
Front = Result (Option (Message × List (List ℕ))) ℕ

-- how many lines are left at the line of this number, and none where the text ends too early
abbrev pub left_at : ℕ → Option ℕ → ℕ
left_at count None = 0
left_at count (Some number) = count - (number - 1)

-- what the strict lines spell, or the line that the refused one of them came from
abbrev pub spelled : ℕ → List ℕ → List (List ℕ) → Read Message → Front
spelled count numbers rest (Ok read) = Ok (Some (read.0, rest))
spelled count numbers rest (Err left) = Err (left_at count (slice_get numbers (length numbers - left)))

abbrev pub read_narrowed : Plan → ℕ → List ℕ → List ℕ → Result (List (List ℕ)) Fault → Front
read_narrowed schema count text numbers (Err fault) = Err (left_at count (Some fault.line))
read_narrowed schema count [] numbers (Ok rest) = Ok None
read_narrowed schema count (b ∷ bs) numbers (Ok rest) = spelled count numbers rest (read_message schema.messages (lines_in (b ∷ bs)))

abbrev pub wide_front : Plan → List (List ℕ) → Front
wide_front schema lines =
    let n = narrowed_message schema lines in
    read_narrowed schema (length lines) n.text n.numbers n.rest

abbrev pub strict_or_wide : Plan → List (List ℕ) → Read Message → Front
strict_or_wide schema lines (Ok read) = Ok (Some read)
strict_or_wide schema lines (Err left) = wide_front schema lines

-- strict lines first
abbrev pub front_of : Plan → List (List ℕ) → Front
front_of schema lines = strict_or_wide schema lines (read_message schema.messages lines)
