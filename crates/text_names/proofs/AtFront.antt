-- What is shown with names stands at the front of its own lines.
use Rattle.std.proofs.Common.{◌≡◌, ℕ, List, [], ◌∷◌, ◌++◌, length, refl, ap, sym, ◌∙◌, append-nil}
use Rattle.std.specs.Prelude.{Some, Result, Ok, Err}
use Rattle.sbe_value.specs.declared.message.Message.{Message}
use Rattle.sbe_layout.specs.declared.plan.Plan.{Plan}
use Rattle.text_words.specs.Lines.{lines_in}
use Rattle.sbe_text.specs.Read.{Read}
use Rattle.sbe_text.specs.Reading.{alone, message_of_text, numbered, read_message}
use Rattle.text_names.specs.Fronts.{front_of, read_narrowed, spelled, strict_or_wide}
use Rattle.text_names.specs.Laws.{ReadsBack, unnamed}
use Rattle.text_names.specs.Lines.{Fault, narrowed_message}
use Rattle.text_names.specs.Named.{named_text}
use Rattle.text_names.specs.Plain.{HasPlainNames}
use Rattle.text_names.proofs.Kept.{stays}
use Rattle.text_names.proofs.ShownBack.{shown_back}

-- a text that spells one message is read to its end
alone_of : (schema : Plan) (text : List ℕ) (m : Message) → message_of_text schema text ≡ Ok m → read_message schema.messages (lines_in text) ≡ Ok (m, [])
alone_of schema text m e = by_read (read_message schema.messages (lines_in text)) e
  where
    by_read : (r : Read Message) → numbered (length (lines_in text)) (alone r) ≡ Ok m → r ≡ Ok (m, [])
    by_read (Err left) e = absurd (cc)
    by_read (Ok (x, [])) e = let same : x ≡ m = cc in ap (λ (y : Message). Ok (y, [])) same
    by_read (Ok (x, l ∷ ls)) e = absurd (cc)

wide : (schema : Plan) (m : Message) (count : ℕ) (text numbers : List ℕ) (rest : Result (List (List ℕ)) Fault) → rest ≡ Ok [] → message_of_text schema text ≡ Ok m
    → read_narrowed schema count text numbers rest ≡ Ok (Some (m, []))
wide schema m count [] numbers rest f e = absurd (cc)
wide schema m count (b ∷ bs) numbers rest f e = ap (read_narrowed schema count (b ∷ bs) numbers) f ∙ ap (spelled count numbers []) (alone_of schema (b ∷ bs) m e)

-- two readings of the same lines
one_reading : (schema : Plan) (m x : Message) (text : List ℕ) (rest : List (List ℕ)) → read_message schema.messages (lines_in text) ≡ Ok (m, []) → rest ≡ []
    → read_message schema.messages (lines_in text ++ rest) ≡ Ok (x, rest) → x ≡ m
one_reading schema m x text rest e none f =
    let joined : lines_in text ++ rest ≡ lines_in text = ap (λ (ls : List (List ℕ)). lines_in text ++ ls) none ∙ append-nil (lines_in text) in
    one_message (read_message schema.messages (lines_in text)) x m rest [] (sym (ap (read_message schema.messages) joined) ∙ f) e
  where
    one_message : (r : Read Message) (x y : Message) (xs ys : List (List ℕ)) → r ≡ Ok (x, xs) → r ≡ Ok (y, ys) → x ≡ y
    one_message r x y xs ys e f = let pair : (x, xs) ≡ (y, ys) = cc in ap (λ (p : Message × List (List ℕ)). p.0) pair

pub shown_at_front : (schema : Plan) (text : List ℕ) (m : Message) → HasPlainNames schema → message_of_text schema text ≡ Ok m
    → front_of schema (lines_in (named_text schema (lines_in text))) ≡ Ok (Some (m, []))
shown_at_front schema text m plain e = by_read (read_message schema.messages ls) refl
  where
    ls : List (List ℕ)
    ls = lines_in (named_text schema (lines_in text))

    back : ReadsBack schema m (unnamed schema text)
    back = shown_back schema text m plain e

    by_read : (r : Read Message) → read_message schema.messages ls ≡ r → strict_or_wide schema ls r ≡ Ok (Some (m, []))
    by_read (Err left) f = wide schema m (length ls) (narrowed_message schema ls).text (narrowed_message schema ls).numbers (narrowed_message schema ls).rest back.behind back.spelled
    by_read (Ok (x, rest)) f =
        let kept = stays schema ls x rest plain f in
        let ends : Ok rest ≡ Ok [] = sym kept.behind ∙ back.behind in
        let none : rest ≡ [] = cc in
        let same : x ≡ m = one_reading schema m x (narrowed_message schema ls).text rest (alone_of schema (narrowed_message schema ls).text m back.spelled) none kept.spelled in
        ap (λ (y : Message). Ok (Some (y, rest))) same ∙ ap (λ (r : List (List ℕ)). Ok (Some (m, r))) none
