-- A message that is shown with names reads back.
use Rattle.std.proofs.Common.{◌≡◌, ℕ, ◌+◌, List, [], ◌∷◌, ◌++◌, length, refl, ap, sym, ◌∙◌, subst, append-nil}
use Rattle.std.specs.Prelude.{Option, Some, None, Result, Ok, Err, codes}
use Rattle.std.specs.List.{AllByRecursion}
use Rattle.text_words.specs.Lines.{lines_in}
use Rattle.sbe_value.specs.declared.message.Message.{Message}
use Rattle.sbe_layout.specs.declared.plan.MessagePlan.{MessagePlan}
use Rattle.sbe_layout.specs.declared.plan.Plan.{Plan}
use Rattle.sbe_text.specs.Read.{Read}
use Rattle.sbe_text.specs.Reading.{alone, layout_on, message_of_text, numbered, read_message}
use Rattle.text_names.specs.Laws.{ReadsBack, StaysStrict, unnamed}
use Rattle.text_names.specs.Lines.{Line, narrowed, narrowed_message, with_line}
use Rattle.text_names.specs.Named.{named_by_line, named_lines, named_text}
use Rattle.text_names.specs.Plain.{HasPlainNames}
use Rattle.text_names.proofs.Kept.{IsRead, NamesMessage, message_is_read, message_layout, message_line, message_narrowed, message_words, name_word, stays, word_lined}
use Rattle.text_names.proofs.Shown.{Shows, shows}

-- lines that a message is shown on
abbrev shown_of : (schema : Plan) (layout : Option MessagePlan) (front : List (List ℕ)) → AllByRecursion (Shows schema layout) front → List (List ℕ)
shown_of schema layout [] each = []
shown_of schema layout (line ∷ front) each = each.0.shown ∷ shown_of schema layout front each.1

-- the lines of elements and the line `end`, shown, are these lines
front_shown : (schema : Plan) (layout : Option MessagePlan) (front : List (List ℕ)) (each : AllByRecursion (Shows schema layout) front)
    → lines_in (named_lines schema layout (front ++ codes "end" ∷ [])) ≡ shown_of schema layout front each ++ codes "end" ∷ []
front_shown schema layout [] each = refl
front_shown schema layout (line ∷ front) each =
    ap lines_in (each.0.shows (λ following. named_lines schema following (front ++ codes "end" ∷ [])))
    ∙ word_lined each.0.shown (named_lines schema layout (front ++ codes "end" ∷ [])) each.0.word
    ∙ ap (λ (ls : List (List ℕ)). each.0.shown ∷ ls) (front_shown schema layout front each.1)

-- and they become the lines that they were shown of
front_back : (schema : Plan) (layout : Option MessagePlan) (front : List (List ℕ)) (each : AllByRecursion (Shows schema layout) front) (number : ℕ)
    → narrowed schema layout number (shown_of schema layout front each ++ codes "end" ∷ []) ≡ narrowed schema layout number (front ++ codes "end" ∷ [])
front_back schema layout [] each number = refl
front_back schema layout (line ∷ front) each number =
    let rest = shown_of schema layout front each.1 ++ codes "end" ∷ [] in
    each.0.back number rest (λ following. narrowed schema following (number + 1) rest)
    ∙ ap (with_line number line) (front_back schema layout front each.1 (number + 1))
    ∙ sym (each.0.keeps.kept number (front ++ codes "end" ∷ []) (λ following. narrowed schema following (number + 1) (front ++ codes "end" ∷ [])))

message_shown : (schema : Plan) (layout : MessagePlan) (line : List ℕ) (ls : List (List ℕ)) → layout_on schema.messages line ≡ Some layout → NamesMessage line layout
    → named_text schema (line ∷ ls) ≡ line ++ 10 ∷ named_lines schema (Some layout) ls
message_shown schema layout line ls on n =
    subst (λ (l : List ℕ). layout_on schema.messages l ≡ Some layout → named_text schema (l ∷ ls) ≡ l ++ 10 ∷ named_lines schema (Some layout) ls) (sym n.split)
    (λ found.
    ap (λ (l : Line). named_by_line schema None l (λ following. named_lines schema following ls)) (message_words n.name n.named)
    ∙ ap (λ o. message_line n.name ++ 10 ∷ named_lines schema o ls) (message_layout schema None n.name ∙ found)) on

-- shown and read again, a message of these lines becomes what it was
whole_back : (schema : Plan) (lines : List (List ℕ)) → IsRead schema (Shows schema) lines [] → narrowed_message schema (lines_in (named_text schema lines)) ≡ narrowed_message schema lines
whole_back schema lines r =
    let layout = Some r.layout in
    let tail = r.front ++ codes "end" ∷ [] in
    let shown = shown_of schema layout r.front r.each ++ codes "end" ∷ [] in
    let seen : lines_in (named_text schema (r.line ∷ tail)) ≡ r.line ∷ shown =
    ap lines_in (message_shown schema r.layout r.line tail r.on r.names)
    ∙ word_lined r.line (named_lines schema layout tail) (name_word r.line r.layout r.names)
    ∙ ap (λ (ls : List (List ℕ)). r.line ∷ ls) (front_shown schema layout r.front r.each) in
    let back : narrowed_message schema (r.line ∷ shown) ≡ narrowed_message schema (r.line ∷ tail) =
    message_narrowed schema r.layout r.line shown r.on r.names
    ∙ ap (with_line 1 r.line) (front_back schema layout r.front r.each 2)
    ∙ sym (message_narrowed schema r.layout r.line tail r.on r.names) in
    subst (λ (ls : List (List ℕ)). narrowed_message schema (lines_in (named_text schema ls)) ≡ narrowed_message schema ls) (sym r.split) (ap (narrowed_message schema) seen ∙ back)

-- ---- a text that is a message alone

alone_read : (r : Read Message) (m : Message) → alone r ≡ Ok m → r ≡ Ok (m, [])
alone_read (Ok read) m e = by_rest read.0 read.1 e
  where
    by_rest : (x : Message) (rest : List (List ℕ)) → alone (Ok (x, rest)) ≡ Ok m → ◌≡◌ {A = Read Message} (Ok (x, rest)) (Ok (m, []))
    by_rest x [] e = let same : x ≡ m = cc in subst (λ (y : Message). ◌≡◌ {A = Read Message} (Ok (x, [])) (Ok (y, []))) same refl
    by_rest x (line ∷ rest) e = absurd (cc)
alone_read (Err left) m e = absurd (cc)

numbered_read : (total : ℕ) (r : Result Message ℕ) (m : Message) → numbered total r ≡ Ok m → r ≡ Ok m
numbered_read total (Ok x) m e = e
numbered_read total (Err left) m e = absurd (cc)

read_alone : (schema : Plan) (text : List ℕ) (m : Message) → message_of_text schema text ≡ Ok m → read_message schema.messages (lines_in text) ≡ Ok (m, [])
read_alone schema text m e = alone_read (read_message schema.messages (lines_in text)) m (numbered_read (length (lines_in text)) (alone (read_message schema.messages (lines_in text))) m e)

spelled_alone : (schema : Plan) (text : List ℕ) (m : Message) → read_message schema.messages (lines_in text) ≡ Ok (m, []) → message_of_text schema text ≡ Ok m
spelled_alone schema text m e = ap (λ r. numbered (length (lines_in text)) (alone r)) e

pub shown_back : (schema : Plan) (text : List ℕ) (m : Message) → HasPlainNames schema → message_of_text schema text ≡ Ok m → ReadsBack schema m (unnamed schema text)
shown_back schema text m plain e =
    let read : read_message schema.messages (lines_in text) ≡ Ok (m, []) = read_alone schema text m e in
    let s : StaysStrict schema (lines_in text) m [] (narrowed_message schema (lines_in text)) = stays schema (lines_in text) m [] plain read in
    let same : unnamed schema text ≡ narrowed_message schema (lines_in text) = whole_back schema (lines_in text) (message_is_read schema (Shows schema) (shows schema plain) (lines_in text) m [] plain read) in
    let n = narrowed_message schema (lines_in text) in
    let back : ReadsBack schema m n = record {
      behind = s.behind;
      spelled = spelled_alone schema n.text m (ap (read_message schema.messages) (sym (append-nil (lines_in n.text))) ∙ s.spelled);
    } in
    subst (ReadsBack schema m) (sym same) back
