-- Lines that are kept, before those that come.
use Rattle.std.proofs.Common.{◌≡◌, ℕ, ◌+◌, ◌<◌, Bool, true, false, List, [], ◌∷◌, ◌++◌, length, refl, ap, sym, ◌∙◌, append_assoc, append-nil, arith}
use Rattle.std.specs.Prelude.{Option, Some, None, Ok, Err, codes, if◌then◌else◌}
use Rattle.sbe_layout.specs.declared.plan.MessagePlan.{MessagePlan}
use Rattle.sbe_layout.specs.declared.plan.Plan.{Plan}
use Rattle.sbe_text.specs.Tokens.{behind}
use Rattle.text_names.specs.Bare.{bare, cut_at, trimmed}
use Rattle.text_names.specs.Lines.{Narrowed, by_line, by_parts, element_line, is_end, layout_from, narrowed, no_more, spaced, with_line, with_told, without_element}
use Rattle.text_names.specs.Named.{named_by_line, named_lines, named_value}
use Rattle.text_names.specs.Paths.{meaning_of}
use Rattle.text_names.specs.Steps.{Adds, Goes, Narrows, ahead, fails, fault_of, words_added}
use Rattle.text_names.specs.Values.{Told, told_by}
use Rattle.text_names.specs.declared.mistake.NarrowError.{NarrowError}
use Rattle.text_names.specs.declared.mistake.NarrowError.TheVariants as error
use Rattle.text_names.specs.declared.mistake.Wrong.{Wrong}

lined : (text line more : List ℕ) → text ++ (line ++ 10 ∷ more) ≡ (text ++ line ++ 10 ∷ []) ++ more
lined text line more = simp append_assoc refl

-- a line more
pub ahead_line : (text numbers line : List ℕ) (number : ℕ) (n : Narrowed) → ahead text numbers (with_line number line n) ≡ ahead (text ++ line ++ 10 ∷ []) (numbers ++ number ∷ []) n
ahead_line text numbers line number n =
    ap (λ (t : List ℕ). record { text = t; numbers = numbers ++ number ∷ n.numbers; rest = n.rest }) (lined text line n.text)
    ∙ ap (λ (ns : List ℕ). record { text = (text ++ line ++ 10 ∷ []) ++ n.text; numbers = ns; rest = n.rest }) (sym (append_assoc numbers (number ∷ []) n.numbers))

-- ---- an element

abbrev pub with_path : List ℕ → List ℕ → List ℕ
with_path path strict = path ++ codes " = " ++ strict

pub element_added : (text numbers path value : List ℕ) (number : ℕ) (told : Told (List ℕ)) (more : Narrowed) → told ≡ Ok value
    → ahead text numbers (with_told number (told_by (λ strict. path ++ codes " = " ++ strict) told) more) ≡ ahead (((text ++ path) ++ codes " = ") ++ value ++ 10 ∷ []) (numbers ++ number ∷ []) more
element_added text numbers path value number told more e =
    let assoc : text ++ (path ++ codes " = " ++ value) ++ 10 ∷ [] ≡ ((text ++ path) ++ codes " = ") ++ value ++ 10 ∷ [] = simp append_assoc refl in
    ap (λ r. ahead text numbers (with_told number (told_by (λ strict. path ++ codes " = " ++ strict) r) more)) e
    ∙ ahead_line text numbers (path ++ codes " = " ++ value) number more
    ∙ ap (λ (t : List ℕ). ahead t (numbers ++ number ∷ []) more) assoc

pub element_fails : (text numbers path word : List ℕ) (number : ℕ) (wrong : Wrong) (told : Told (List ℕ)) (more : Narrowed) → told ≡ Err (wrong, word)
    → ahead text numbers (with_told number (told_by (λ strict. path ++ codes " = " ++ strict) told) more) ≡ fails text numbers (fault_of number wrong word)
element_fails text numbers path word number wrong told more e =
    ap (λ r. ahead text numbers (with_told number (told_by (λ strict. path ++ codes " = " ++ strict) r) more)) e
    ∙ ap (λ (t : List ℕ). record { text = t; numbers = numbers ++ []; rest = Err (fault_of number wrong word) }) (append-nil text)
    ∙ ap (λ (ns : List ℕ). record { text = text; numbers = ns; rest = Err (fault_of number wrong word) }) (append-nil numbers)

-- ---- words

pub words_end : (schema : Plan) (layout : Option MessagePlan) (number : ℕ) (text numbers w : List ℕ) (ls : List (List ℕ)) → is_end w ≡ true
    → ahead text numbers (words_added schema layout number w ls) ≡ ahead (text ++ w ++ 10 ∷ []) (numbers ++ number ∷ []) (no_more (Ok ls))
words_end schema layout number text numbers w ls e =
    ap (λ (t : Bool). ahead text numbers (with_line number w (if t then no_more (Ok ls) else narrowed schema (layout_from schema layout w) (number + 1) ls))) e ∙ ahead_line text numbers w number (no_more (Ok ls))

pub words_next : (schema : Plan) (layout : Option MessagePlan) (number : ℕ) (text numbers w : List ℕ) (ls : List (List ℕ)) → is_end w ≡ false
    → ahead text numbers (words_added schema layout number w ls) ≡ ahead (text ++ w ++ 10 ∷ []) (numbers ++ number ∷ []) (narrowed schema (layout_from schema layout w) (number + 1) ls)
words_next schema layout number text numbers w ls e =
    ap (λ (t : Bool). ahead text numbers (with_line number w (if t then no_more (Ok ls) else narrowed schema (layout_from schema layout w) (number + 1) ls))) e
    ∙ ahead_line text numbers w number (narrowed schema (layout_from schema layout w) (number + 1) ls)

-- ---- the first line

pub element_step : (schema : Plan) (layout : Option MessagePlan) (number : ℕ) (line path value : List ℕ) (ls : List (List ℕ)) → cut_at 61 (bare line) ≡ Some (path, value)
    → narrowed schema layout number (line ∷ ls) ≡ with_told number (element_line schema.listings layout (trimmed path) (trimmed value)) (narrowed schema layout (number + 1) ls)
element_step schema layout number line path value ls e =
    ap (λ o. by_line schema layout number (by_parts (bare line) o) ls (λ following. narrowed schema following (number + 1) ls)) e

pub other_step : (schema : Plan) (layout : Option MessagePlan) (number : ℕ) (line : List ℕ) (ls : List (List ℕ)) → cut_at 61 (bare line) ≡ None
    → narrowed schema layout number (line ∷ ls) ≡ by_line schema layout number (without_element (bare line)) ls (λ following. narrowed schema following (number + 1) ls)
other_step schema layout number line ls e = ap (λ o. by_line schema layout number (by_parts (bare line) o) ls (λ following. narrowed schema following (number + 1) ls)) e

pub some_words : (schema : Plan) (layout : Option MessagePlan) (number : ℕ) (l : List ℕ) (ls : List (List ℕ)) → 0 < length l
    → by_line schema layout number (without_element l) ls (λ following. narrowed schema following (number + 1) ls) ≡ words_added schema layout number (spaced l (behind (codes "message") l)) ls
some_words schema layout number [] ls some = absurd (omega arith)
some_words schema layout number (b ∷ bs) ls some = refl

-- ---- a line that is wrong

pub adds_goes : (schema : Plan) (number : ℕ) (ls : List (List ℕ)) (all more : Narrowed) (text numbers : List ℕ) (e : NarrowError) → Adds all text numbers more (Err e) → Goes schema number ls all text numbers (Err e)
adds_goes schema number ls all more text numbers (error.Mistake line wrong word) is = is
adds_goes schema number ls all more text numbers error.Memory is = tt

pub goes_narrows : (schema : Plan) (number : ℕ) (ls : List (List ℕ)) (all : Narrowed) (text numbers : List ℕ) (e : NarrowError) → Goes schema number ls all text numbers (Err e) → Narrows all text numbers (Err e)
goes_narrows schema number ls all text numbers (error.Mistake line wrong word) is = is
goes_narrows schema number ls all text numbers error.Memory is = tt

-- ---- lines with names

pub shown_element : (schema : Plan) (layout : Option MessagePlan) (old line path value : List ℕ) (ls : List (List ℕ)) → cut_at 61 (bare line) ≡ Some (path, value)
    → old ++ named_lines schema layout (line ∷ ls) ≡ ((((old ++ trimmed path) ++ codes " = ") ++ named_value schema.listings (meaning_of layout (trimmed path)) (trimmed value)) ++ 10 ∷ []) ++ named_lines schema layout ls
shown_element schema layout old line path value ls e =
    ap (λ o. old ++ named_by_line schema layout (by_parts (bare line) o) (λ following. named_lines schema following ls)) e ∙ simp append_assoc refl

pub shown_other : (schema : Plan) (layout : Option MessagePlan) (old line : List ℕ) (ls : List (List ℕ)) → cut_at 61 (bare line) ≡ None
    → old ++ named_lines schema layout (line ∷ ls) ≡ old ++ named_by_line schema layout (without_element (bare line)) (λ following. named_lines schema following ls)
shown_other schema layout old line ls e =
    ap (λ o. old ++ named_by_line schema layout (by_parts (bare line) o) (λ following. named_lines schema following ls)) e

pub shown_words : (schema : Plan) (layout : Option MessagePlan) (old line : List ℕ) (ls : List (List ℕ)) → 0 < length line
    → old ++ named_by_line schema layout (without_element line) (λ following. named_lines schema following ls)
    ≡ ((old ++ spaced line (behind (codes "message") line)) ++ 10 ∷ []) ++ named_lines schema (layout_from schema layout (spaced line (behind (codes "message") line))) ls
shown_words schema layout old [] ls some = absurd (omega arith)
shown_words schema layout old (b ∷ bs) ls some = simp append_assoc refl
