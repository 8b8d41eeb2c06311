-- The strict lines of a text that a person wrote: each line's form, and those of a message one after another (this project's profile).
use Rattle.std.specs.Prelude.{ℕ, ◌+◌, Bool, false, if◌then◌else◌, Option, Some, None, Result, Ok, Err, List, [], ◌∷◌, ◌++◌, codes}
use Rattle.std.specs.Str.{bytes_eq}
use Rattle.sbe_layout.specs.declared.plan.MessagePlan.{MessagePlan}
use Rattle.sbe_layout.specs.declared.plan.Plan.{Plan}
use Rattle.sbe_layout.specs.declared.listings.Listing.{Listing}
use Rattle.sbe_text.specs.Tokens.{behind}
use Rattle.sbe_text.specs.Reading.{layout_on}
use Rattle.text_names.specs.Bare.{bare, cut_at, is_blank, trimmed, unindented}
use Rattle.text_names.specs.Paths.{meaning_of}
use Rattle.text_names.specs.Values.{Told, told_by, strict_value}
use Rattle.text_names.specs.declared.mistake.Wrong.{Wrong}

-- ---- one line

-- what stands on a line: nothing, words, or the path and the value of an element
pub data Line : Type 0 where
  empty : Line
  words : List ℕ → Line
  element : List ℕ → List ℕ → Line

abbrev pub begins_blank : List ℕ → Bool
begins_blank [] = false
begins_blank (b ∷ bs) = is_blank b

-- one blank stands between `message` and the name
abbrev pub spaced : List ℕ → Option (List ℕ) → List ℕ
spaced line None = line
spaced line (Some rest) = if begins_blank rest then codes "message " ++ unindented rest else line

abbrev pub without_element : List ℕ → Line
without_element [] = empty
without_element (b ∷ bs) = words (spaced (b ∷ bs) (behind (codes "message") (b ∷ bs)))

-- the path of an element stands in front of the first `=` (61), and its value behind it
abbrev pub by_parts : List ℕ → Option (List ℕ × List ℕ) → Line
by_parts line None = without_element line
by_parts line (Some p) = element (trimmed p.0) (trimmed p.1)

abbrev pub line_of : List ℕ → Line
line_of line = by_parts (bare line) (cut_at 61 (bare line))

-- the strict line of an element
abbrev pub element_line : List Listing → Option MessagePlan → List ℕ → List ℕ → Told (List ℕ)
element_line listings layout path value =
    told_by (λ strict. path ++ codes " = " ++ strict) (strict_value listings (meaning_of layout path) value)

-- the message that was named last: on this line, or before it
abbrev pub layout_behind : Plan → Option MessagePlan → List ℕ → Option (List ℕ) → Option MessagePlan
layout_behind schema layout line None = layout
layout_behind schema layout line (Some name) = layout_on schema.messages line

abbrev pub layout_from : Plan → Option MessagePlan → List ℕ → Option MessagePlan
layout_from schema layout line = layout_behind schema layout line (behind (codes "message ") line)

-- ---- a message

-- a line that is wrong: its number, what is wrong, and the word that is
pub record Fault : Type 0 where
  pub line : ℕ
  pub wrong : Wrong
  pub word : List ℕ

-- the strict lines as a text, for each of them the number of the line that it came from, and the lines behind, or what is wrong
pub record Narrowed : Type 0 where
  pub text : List ℕ
  pub numbers : List ℕ
  pub rest : Result (List (List ℕ)) Fault

abbrev pub no_more : Result (List (List ℕ)) Fault → Narrowed
no_more rest = record { text = []; numbers = []; rest = rest }

-- a line of this number, which a line feed (10) ends, before others
abbrev pub with_line : ℕ → List ℕ → Narrowed → Narrowed
with_line number line n = record { text = line ++ 10 ∷ n.text; numbers = number ∷ n.numbers; rest = n.rest }

-- a line that may be wrong
abbrev pub with_told : ℕ → Told (List ℕ) → Narrowed → Narrowed
with_told number (Ok line) n = with_line number line n
with_told number (Err slip) n = no_more (Err (record { line = number; wrong = slip.0; word = slip.1 }))

abbrev pub is_end : List ℕ → Bool
is_end line = bytes_eq line (codes "end")

-- what a line makes, given what those behind it make of the message that was named last
abbrev pub by_line : Plan → Option MessagePlan → ℕ → Line → List (List ℕ) → (Option MessagePlan → Narrowed) → Narrowed
by_line schema layout number empty ls more = more layout
by_line schema layout number (words w) ls more =
    with_line number w (if is_end w then no_more (Ok ls) else more (layout_from schema layout w))
by_line schema layout number (element path value) ls more =
    with_told number (element_line schema.listings layout path value) (more layout)

-- the lines of a message, up to the line `end`: by the message that was named last, the first of them having this number
abbrev pub narrowed : Plan → Option MessagePlan → ℕ → List (List ℕ) → Narrowed
narrowed schema layout number [] = no_more (Ok [])
narrowed schema layout number (l ∷ ls) =
    by_line schema layout number (line_of l) ls (λ following. narrowed schema following (number + 1) ls)

-- those of the message at the front of a text
abbrev pub narrowed_message : Plan → List (List ℕ) → Narrowed
narrowed_message schema lines = narrowed schema None 1 lines
