-- How what the code answers is tied to what the definitions tell.
use Rattle.std.specs.Prelude.{◌≡◌, ⊤, ℕ, ◌+◌, Option, Some, None, Result, Ok, Err, List, ◌++◌, decimal}
use Rattle.std.specs.Fmt.{signed_decimal}
use Rattle.std.specs.Option.{option_copied}
use Rattle.std.specs.Borrow.{Bor}
use Rattle.sbe_value.specs.declared.item.Item.TheVariants.{Text}
use Rattle.sbe_layout.specs.declared.blocks.GroupPlan.{GroupPlan}
use Rattle.text_names.specs.Paths.{behind_place, entry_meaning, groups_meaning}
use Rattle.text_names.specs.declared.path.Meaning.{Meaning}
use Rattle.text_names.specs.declared.path.Meaning.TheVariants as meaning
use Rattle.sbe_layout.specs.declared.plan.MessagePlan.{MessagePlan}
use Rattle.sbe_layout.specs.declared.plan.Plan.{Plan}
use Rattle.sbe_text.specs.Written.{raw_text, value_text}
use Rattle.text_words.specs.Lines.{lines_in}
use Rattle.text_names.specs.Values.{Told}
use Rattle.text_names.specs.Lines.{Fault, Narrowed, by_line, narrowed, no_more, words}
use Rattle.text_names.specs.declared.mistake.Wrong.{Wrong}
use Rattle.text_names.specs.declared.mistake.Slip.{Slip}
use Rattle.text_names.specs.declared.mistake.Slip.TheVariants as slip
use Rattle.text_names.specs.declared.mistake.NarrowError.{NarrowError}
use Rattle.text_names.specs.declared.mistake.NarrowError.TheVariants as error
use Rattle.text_names.specs.declared.value.Strict.{Strict}
use Rattle.text_names.specs.declared.value.Strict.TheVariants as strict
use Rattle.text_names.specs.declared.narrow.Step.{Step}
use Rattle.text_names.specs.declared.narrow.Step.TheVariants as step

-- what is wrong is what is told; nothing is said where memory ran out
abbrev pub Slips : {A : Type 0} → Slip → Told A → Type 0
Slips (slip.Mistake wrong word) told = told ≡ Err (wrong, word.now)
Slips slip.Memory told = ⊤

-- what is answered, seen by `view`, is what is told
abbrev pub Tells : {A B : Type 0} → (A → B) → Result A Slip → Told B → Type 0
Tells view (Ok a) told = told ≡ Ok (view a)
Tells view (Err e) told = Slips e told

-- the text of a value whose bytes stand in a room
abbrev pub text_of : List ℕ → Strict → List ℕ
text_of room (strict.Same text) = text.now
text_of room (strict.Number z) = signed_decimal z
text_of room (strict.Natural n) = decimal n
text_of room strict.Text = value_text (Text room)
text_of room strict.Raw = raw_text room

-- what a group means, if there is one, with what stands behind its bracket
abbrev pub group_meaning : List ℕ → Option GroupPlan → Meaning
group_meaning after None = meaning.Other
group_meaning after (Some g) = entry_meaning g.block.items g.block.vars (λ n a. groups_meaning g.block.groups n a) (behind_place after)

-- lines before others
abbrev pub ahead : List ℕ → List ℕ → Narrowed → Narrowed
ahead text numbers n = record { text = text ++ n.text; numbers = numbers ++ n.numbers; rest = n.rest }

abbrev pub fault_of : ℕ → Wrong → List ℕ → Fault
fault_of line wrong word = record { line = line; wrong = wrong; word = word }

-- what is wrong with a line
abbrev pub fails : List ℕ → List ℕ → Fault → Narrowed
fails text numbers fault = record { text = text; numbers = numbers; rest = Err fault }

-- a line is added before those behind it, or is wrong
abbrev pub Adds : Narrowed → List ℕ → List ℕ → Narrowed → Result ⊤ NarrowError → Type 0
Adds all text numbers more (Ok added) = all ≡ ahead text numbers more
Adds all text numbers more (Err (error.Mistake line wrong word)) = all ≡ fails text numbers (fault_of line wrong word.now)
Adds all text numbers more (Err error.Memory) = ⊤

-- a line of words, and those behind it
abbrev pub words_added : Plan → Option MessagePlan → ℕ → List ℕ → List (List ℕ) → Narrowed
words_added schema layout number w ls = by_line schema layout number (words w) ls (λ following. narrowed schema following (number + 1) ls)

-- the lines behind one, by the message that was named last, or none where the message has ended
abbrev pub behind_step : Plan → ℕ → List (List ℕ) → Step → Narrowed
behind_step schema number ls (step.Next layout) = narrowed schema (option_copied layout) (number + 1) ls
behind_step schema number ls step.End = no_more (Ok ls)

-- behind a line, what was kept and what is told of those behind it is all
abbrev pub Goes : Plan → ℕ → List (List ℕ) → Narrowed → List ℕ → List ℕ → Result Step NarrowError → Type 0
Goes schema number ls all text numbers (Ok next) = all ≡ ahead text numbers (behind_step schema number ls next)
Goes schema number ls all text numbers (Err (error.Mistake line wrong word)) = all ≡ fails text numbers (fault_of line wrong word.now)
Goes schema number ls all text numbers (Err error.Memory) = ⊤

-- the text and the numbers that are kept, and what is answered, are those of the message
abbrev pub Narrows : Narrowed → List ℕ → List ℕ → Result (Bor (List ℕ)) NarrowError → Type 0
Narrows all text numbers (Ok rest) = all ≡ record { text = text; numbers = numbers; rest = Ok (lines_in rest.now) }
Narrows all text numbers (Err (error.Mistake line wrong word)) = all ≡ fails text numbers (fault_of line wrong word.now)
Narrows all text numbers (Err error.Memory) = ⊤
