-- What stands at the front of lines, by the strict lines of it.
use Rattle.std.proofs.Common.{◌≡◌, ℕ, ◌+◌, ◌-◌, ◌<◌, ◌≤◌, Bool, true, false, List, [], ◌∷◌, length, refl, ap, ◌∙◌, arith}
use Rattle.std.specs.Prelude.{Option, Some, None, Ok, Err, if◌then◌else◌, slice_get}
use Rattle.sbe_value.specs.declared.message.Message.{Message}
use Rattle.sbe_layout.specs.declared.plan.MessagePlan.{MessagePlan}
use Rattle.sbe_layout.specs.declared.plan.Plan.{Plan}
use Rattle.text_words.specs.Lines.{lines_in}
use Rattle.sbe_text.specs.Reading.{read_message}
use Rattle.text_names.specs.Fronts.{left_at, read_narrowed, spelled, wide_front}
use Rattle.text_names.specs.Lines.{Line, Narrowed, by_line, element, element_line, empty, is_end, layout_from, line_of, narrowed, narrowed_message, no_more, with_told, words}
use Rattle.text_names.specs.Steps.{fails, fault_of}
use Rattle.text_names.specs.Values.{Told}
use Rattle.text_names.specs.declared.mistake.Wrong.{Wrong}

-- ---- by what is made of the lines

wide_is : (schema : Plan) (lines : List (List ℕ)) (n : Narrowed) → narrowed_message schema lines ≡ n → wide_front schema lines ≡ read_narrowed schema (length lines) n.text n.numbers n.rest
wide_is schema lines n e = ap (λ (x : Narrowed). read_narrowed schema (length lines) x.text x.numbers x.rest) e

pub wrong_front : (schema : Plan) (lines : List (List ℕ)) (text numbers word : List ℕ) (line : ℕ) (wrong : Wrong) → narrowed_message schema lines ≡ fails text numbers (fault_of line wrong word)
    → wide_front schema lines ≡ Err (left_at (length lines) (Some line))
wrong_front schema lines text numbers word line wrong e = wide_is schema lines (fails text numbers (fault_of line wrong word)) e

pub none_front : (schema : Plan) (lines : List (List ℕ)) (text numbers : List ℕ) (rest : List (List ℕ)) → narrowed_message schema lines ≡ record { text = text; numbers = numbers; rest = Ok rest } → text ≡ []
    → wide_front schema lines ≡ Ok None
none_front schema lines text numbers rest e none =
    wide_is schema lines (record { text = text; numbers = numbers; rest = Ok rest }) e ∙ ap (λ (t : List ℕ). read_narrowed schema (length lines) t numbers (Ok rest)) none

some_text : (schema : Plan) (count : ℕ) (text numbers : List ℕ) (rest : List (List ℕ)) → 0 < length text
    → read_narrowed schema count text numbers (Ok rest) ≡ spelled count numbers rest (read_message schema.messages (lines_in text))
some_text schema count [] numbers rest some = absurd (omega (arith, some))
some_text schema count (b ∷ bs) numbers rest some = refl

pub read_front : (schema : Plan) (lines behind rest : List (List ℕ)) (text numbers : List ℕ) (m : Message) → narrowed_message schema lines ≡ record { text = text; numbers = numbers; rest = Ok rest } → 0 < length text
    → read_message schema.messages (lines_in text) ≡ Ok (m, behind) → wide_front schema lines ≡ Ok (Some (m, rest))
read_front schema lines behind rest text numbers m e some is =
    wide_is schema lines (record { text = text; numbers = numbers; rest = Ok rest }) e ∙ some_text schema (length lines) text numbers rest some ∙ ap (spelled (length lines) numbers rest) is

pub refused_front : (schema : Plan) (lines rest : List (List ℕ)) (text numbers : List ℕ) (left : ℕ) → narrowed_message schema lines ≡ record { text = text; numbers = numbers; rest = Ok rest } → 0 < length text
    → read_message schema.messages (lines_in text) ≡ Err left → wide_front schema lines ≡ Err (left_at (length lines) (slice_get numbers (length numbers - left)))
refused_front schema lines rest text numbers left e some is =
    wide_is schema lines (record { text = text; numbers = numbers; rest = Ok rest }) e ∙ some_text schema (length lines) text numbers rest some ∙ ap (spelled (length lines) numbers rest) is

-- ---- the lines behind a message are fewer

line_within : (schema : Plan) (layout : Option MessagePlan) (number : ℕ) (line : Line) (ls rest : List (List ℕ))
    → ((following : Option MessagePlan) → (narrowed schema following (number + 1) ls).rest ≡ Ok rest → length rest ≤ length ls)
    → (by_line schema layout number line ls (λ following. narrowed schema following (number + 1) ls)).rest ≡ Ok rest → length rest ≤ length ls
line_within schema layout number empty ls rest again e = again layout e
line_within schema layout number (words w) ls rest again e = by_end (is_end w) e
  where
    by_end : (t : Bool) → (if t then no_more (Ok ls) else narrowed schema (layout_from schema layout w) (number + 1) ls).rest ≡ Ok rest → length rest ≤ length ls
    by_end true e = let same : ls ≡ rest = cc in let sizes : length ls ≡ length rest = ap length same in omega (arith, sizes)
    by_end false e = again (layout_from schema layout w) e
line_within schema layout number (element path value) ls rest again e = by_told (element_line schema.listings layout path value) e
  where
    by_told : (told : Told (List ℕ)) → (with_told number told (narrowed schema layout (number + 1) ls)).rest ≡ Ok rest → length rest ≤ length ls
    by_told (Ok strict) e = again layout e
    by_told (Err slip) e = absurd (cc)

rest_within : (schema : Plan) (layout : Option MessagePlan) (number : ℕ) (ls rest : List (List ℕ)) → (narrowed schema layout number ls).rest ≡ Ok rest → length rest ≤ length ls
rest_within schema layout number [] rest e = let same : [] ≡ rest = cc in let sizes : 0 ≡ length rest = ap length same in omega (arith, sizes)
rest_within schema layout number (l ∷ ls) rest e =
    let less : length rest ≤ length ls = line_within schema layout number (line_of l) ls rest (λ following f. rest_within schema following (number + 1) ls rest f) e in
    omega (arith, less)

pub front_shorter : (schema : Plan) (lines rest : List (List ℕ)) (text numbers : List ℕ) → narrowed_message schema lines ≡ record { text = text; numbers = numbers; rest = Ok rest } → 0 < length text
    → length rest < length lines
front_shorter schema [] rest text numbers e some =
    let none : [] ≡ text = ap (λ (n : Narrowed). n.text) e in
    let sizes : 0 ≡ length text = ap length none in
    absurd (omega (arith, sizes, some))
front_shorter schema (l ∷ ls) rest text numbers e some =
    let less : length rest ≤ length ls = line_within schema None 1 (line_of l) ls rest (λ following f. rest_within schema following 2 ls rest f) (ap (λ (n : Narrowed). n.rest) e) in
    omega (arith, less)
