-- A message that lines begin with is the one that `encode` reads at their front.
use Rattle.std.proofs.Common.{◌≡◌, ℕ, zero, suc, ◌+◌, ◌<◌, Bool, true, false, List, [], ◌∷◌, ◌++◌, length, refl, ap, sym, subst, ◌∙◌, append_assoc, length-append, arith}
use Rattle.std.specs.Prelude.{Option, Some, None, Result, Ok, Err, codes, if◌then◌else◌}
use Rattle.sbe_value.specs.declared.message.Message.{Message}
use Rattle.sbe_layout.specs.declared.plan.MessagePlan.{MessagePlan}
use Rattle.sbe_layout.specs.declared.plan.Plan.{Plan}
use Rattle.text_words.specs.Lines.{lines_in}
use Rattle.sbe_text.specs.Read.{Read}
use Rattle.sbe_text.specs.Reading.{read_message}
use Rattle.text_names.specs.Bare.{bare, cut_at}
use Rattle.text_names.specs.Fronts.{front_of, read_narrowed, spelled, strict_or_wide, wide_front}
use Rattle.text_names.specs.Lines.{Fault, Line, Narrowed, by_line, by_parts, element, element_line, empty, is_end, layout_from, line_of, narrowed, narrowed_message, no_more, with_line, with_told, words}
use Rattle.text_names.specs.Values.{Told}
use Rattle.plan_lines.specs.Entries.{BeginsMessage}
use Rattle.plan_lines.specs.Laws.{ReadsAsEncode}
use Rattle.plan_lines.proofs.Fronts.{message_steady}
use Rattle.plan_lines.proofs.OneReading.{same_pair}

-- ---- the strict lines of a message, before others

-- `end` is a line of words
end_line : (line : List ℕ) → bare line ≡ codes "end" → line_of line ≡ words (codes "end")
end_line line e = ap (λ (l : List ℕ). by_parts l (cut_at 61 l)) e

ended : (schema : Plan) (layout : Option MessagePlan) (number : ℕ) (last : List ℕ) (more : List (List ℕ)) → bare last ≡ codes "end"
    → narrowed schema layout number (last ∷ more) ≡ with_line number (codes "end") (no_more (Ok more))
ended schema layout number last more e = ap (λ (x : Line). by_line schema layout number x more (λ following. narrowed schema following (number + 1) more)) (end_line last e)

-- where these are all
abbrev followed_by : List (List ℕ) → Narrowed → Narrowed
followed_by more n = record n { rest = Ok more }

some_lines : (front : List (List ℕ)) (last : List ℕ) (r : Result (List (List ℕ)) Fault) → r ≡ Ok (front ++ last ∷ []) → r ≡ Ok [] → ⊥
some_lines [] last r p q = let both = sym p ∙ q in cc
some_lines (l ∷ front) last r p q = let both = sym p ∙ q in cc

-- what is so of the lines behind one
abbrev Further : Plan → List (List ℕ) → List (List ℕ) → List ℕ → ℕ → Type 0
Further schema front more last number = (layout : Option MessagePlan) → (narrowed schema layout number (front ++ last ∷ [])).rest ≡ Ok []
    → narrowed schema layout number (front ++ last ∷ more) ≡ followed_by more (narrowed schema layout number (front ++ last ∷ []))

narrowed_more : (schema : Plan) (front more : List (List ℕ)) (last : List ℕ) (layout : Option MessagePlan) (number : ℕ) → bare last ≡ codes "end"
    → (narrowed schema layout number (front ++ last ∷ [])).rest ≡ Ok [] → narrowed schema layout number (front ++ last ∷ more) ≡ followed_by more (narrowed schema layout number (front ++ last ∷ []))
narrowed_more schema [] more last layout number e r = ended schema layout number last more e ∙ ap (followed_by more) (sym (ended schema layout number last [] e))
narrowed_more schema (l ∷ front) more last layout number e r = by_kind (λ (following : Option MessagePlan). narrowed_more schema front more last following (number + 1) e) (line_of l) r
  where
    by_end : Further schema front more last (number + 1) → (w : List ℕ) (t : Bool) → (with_line number w (if t then no_more (Ok (front ++ last ∷ [])) else narrowed schema (layout_from schema layout w) (number + 1) (front ++ last ∷ []))).rest ≡ Ok []
        → with_line number w (if t then no_more (Ok (front ++ last ∷ more)) else narrowed schema (layout_from schema layout w) (number + 1) (front ++ last ∷ more))
        ≡ followed_by more (with_line number w (if t then no_more (Ok (front ++ last ∷ [])) else narrowed schema (layout_from schema layout w) (number + 1) (front ++ last ∷ [])))
    by_end further w true r = absurd (some_lines front last (Ok (front ++ last ∷ [])) refl r)
    by_end further w false r = ap (with_line number w) (further (layout_from schema layout w) r)

    by_told : Further schema front more last (number + 1) → (told : Told (List ℕ)) → (with_told number told (narrowed schema layout (number + 1) (front ++ last ∷ []))).rest ≡ Ok []
        → with_told number told (narrowed schema layout (number + 1) (front ++ last ∷ more)) ≡ followed_by more (with_told number told (narrowed schema layout (number + 1) (front ++ last ∷ [])))
    by_told further (Ok line) r = ap (with_line number line) (further layout r)
    by_told further (Err slip) r = absurd (cc)

    by_kind : Further schema front more last (number + 1) → (x : Line) → (by_line schema layout number x (front ++ last ∷ []) (λ following. narrowed schema following (number + 1) (front ++ last ∷ []))).rest ≡ Ok []
        → by_line schema layout number x (front ++ last ∷ more) (λ following. narrowed schema following (number + 1) (front ++ last ∷ more))
        ≡ followed_by more (by_line schema layout number x (front ++ last ∷ []) (λ following. narrowed schema following (number + 1) (front ++ last ∷ [])))
    by_kind further empty r = further layout r
    by_kind further (words w) r = by_end further w (is_end w) r
    by_kind further (element path value) r = by_told further (element_line schema.listings layout path value) r

-- ---- what is read of them

-- all lines are those of the message, and with others behind it is the same
record ReadsAll (schema : Plan) (text numbers : List ℕ) (rest : Result (List (List ℕ)) Fault) (m : Message) : Type 0 where
  none_left : rest ≡ Ok []
  again : (count : ℕ) (more : List (List ℕ)) → read_narrowed schema count text numbers (Ok more) ≡ Ok (Some (m, more))

reads_all : (schema : Plan) (count : ℕ) (text numbers : List ℕ) (rest : Result (List (List ℕ)) Fault) (m : Message) → read_narrowed schema count text numbers rest ≡ Ok (Some (m, []))
    → ReadsAll schema text numbers rest m
reads_all schema count text numbers (Err fault) m e = absurd (cc)
reads_all schema count [] numbers (Ok rest) m e = absurd (cc)
reads_all schema count (b ∷ bs) numbers (Ok rest) m e = by_read (read_message schema.messages (lines_in (b ∷ bs))) refl e
  where
    by_read : (t : Read Message) → read_message schema.messages (lines_in (b ∷ bs)) ≡ t → spelled count numbers rest t ≡ Ok (Some (m, [])) → ReadsAll schema (b ∷ bs) numbers (Ok rest) m
    by_read (Ok read) is e =
        let pair = same_pair read.0 m rest [] (spelled count numbers rest (Ok read)) refl e in
        let none : rest ≡ [] = ap (λ (p : Message × List (List ℕ)). p.1) pair in
        let same : read.0 ≡ m = ap (λ (p : Message × List (List ℕ)). p.0) pair in
        record {
          none_left = ap Ok none;
          again = λ count more. ap (spelled count numbers more) is ∙ ap (λ (x : Message). Ok (Some (x, more))) same;
        }
    by_read (Err left) is e = absurd (cc)

wide_more : (schema : Plan) (front more : List (List ℕ)) (last : List ℕ) (m : Message) → bare last ≡ codes "end" → wide_front schema (front ++ last ∷ []) ≡ Ok (Some (m, []))
    → wide_front schema (front ++ last ∷ more) ≡ Ok (Some (m, more))
wide_more schema front more last m e w =
    let n = narrowed_message schema (front ++ last ∷ []) in
    let all = reads_all schema (length (front ++ last ∷ [])) n.text n.numbers n.rest m w in
    ap (λ (x : Narrowed). read_narrowed schema (length (front ++ last ∷ more)) x.text x.numbers x.rest) (narrowed_more schema front more last None 1 e all.none_left)
    ∙ all.again (length (front ++ last ∷ more)) more

-- ---- at the front of lines

module _ (plan : Plan) (front more : List (List ℕ)) (last : List ℕ) (m : Message) where
  by_strict : bare last ≡ codes "end" → (read_message plan.messages (front ++ last ∷ []) ≡ Err 0 → ⊥) → (t : Read Message) → read_message plan.messages (front ++ last ∷ []) ≡ t
      → strict_or_wide plan (front ++ last ∷ []) t ≡ Ok (Some (m, [])) → front_of plan ((front ++ last ∷ []) ++ more) ≡ Ok (Some (m, more))
  by_strict e settled (Ok read) is w =
      let pair : read ≡ (m, []) = cc in
      let one : read_message plan.messages (front ++ last ∷ []) ≡ Ok (m, []) = is ∙ ap (λ (p : Message × List (List ℕ)). Ok p) pair in
      ap (strict_or_wide plan ((front ++ last ∷ []) ++ more)) ((message_steady plan.messages).fixed.more (front ++ last ∷ []) more m [] one)
  by_strict e settled (Err zero) is w = absurd (settled is)
  by_strict e settled (Err (suc k)) is w =
      ap (strict_or_wide plan ((front ++ last ∷ []) ++ more)) ((message_steady plan.messages).fixed.fails (front ++ last ∷ []) more (suc k) (omega arith) is)
      ∙ ap (wide_front plan) (append_assoc front (last ∷ []) more)
      ∙ wide_more plan front more last m e w

pub reads_as_encode : ReadsAsEncode
reads_as_encode plan lines m rest b =
    let front = b.whole.front in
    let last = b.whole.last in
    let read : front_of plan (front ++ last ∷ []) ≡ Ok (Some (m, [])) = ap (front_of plan) (sym b.whole.split) ∙ b.read in
    ap (front_of plan) (b.split ∙ ap (λ (own : List (List ℕ)). own ++ rest) b.whole.split)
    ∙ by_strict plan front rest last m b.whole.ends.says b.whole.ends.whole (read_message plan.messages (front ++ last ∷ [])) refl read
