-- The lines of a message that is read stay as they are.
use Rattle.std.proofs.Common.{◌≡◌, ℕ, ◌+◌, ◌==◌, Bool, true, false, ◌&&◌, not, List, [], ◌∷◌, ◌++◌, length, refl, ap, sym, ◌∙◌, subst, append-nil}
use Rattle.std.specs.Prelude.{Option, Some, None, Ok, Err, codes, if◌then◌else◌}
use Rattle.std.specs.List.{AllByRecursion}
use Rattle.std.specs.Str.{bytes_eq}
use Rattle.std.proofs.lemmas.Bool.{false≢true}
use Rattle.std.proofs.lemmas.Slice.Eq.{bytes_eq-Decides}
use Rattle.text_words.specs.Lines.{lines_in, unreturned}
use Rattle.text_words.proofs.Feeds.{first_of_lines, no_feeds}
use Rattle.sbe_value.specs.declared.message.Message.{Message}
use Rattle.sbe_layout.specs.declared.plan.MessagePlan.{MessagePlan}
use Rattle.sbe_layout.specs.declared.plan.Plan.{Plan}
use Rattle.sbe_layout.specs.Plans.{message_of}
use Rattle.sbe_grammar.specs.Reading.{Entry}
use Rattle.sbe_text.specs.Held.{is_word}
use Rattle.sbe_text.specs.Read.{Read, next, taken, read_line}
use Rattle.sbe_text.specs.Tokens.{also, behind, is_line}
use Rattle.sbe_text.specs.Reading.{layout_on, message_with, named, read_body, read_elements, read_groups, read_message}
use Rattle.sbe_text.proofs.Texts.{behind_joined}
use Rattle.text_names.specs.Bare.{bare, cut_at, trimmed, uncommented}
use Rattle.text_names.specs.declared.bare.Quote.TheVariants.{Outside}
use Rattle.text_names.specs.Lines.{Line, Narrowed, by_line, by_parts, layout_behind, layout_from, line_of, narrowed, narrowed_message, spaced, with_line, with_told, words}
use Rattle.text_names.specs.Laws.{StaysStrict}
use Rattle.text_names.specs.Paths.{meaning_of}
use Rattle.text_names.specs.Plain.{HasPlainMessage, HasPlainNames, is_name}
use Rattle.text_names.specs.Values.{told_by}
use Rattle.text_names.proofs.Bytes.{both, both_left, both_right, are_plain, lacks_append, name_is_plain, plain_lacks}
use Rattle.text_names.proofs.Lined.{BeginsDark, EndsDark, begun_same, cut_none, element_parted, ends_behind, joined_line, plain_begins, plain_ends, plain_kept, trimmed_same}
use Rattle.text_names.proofs.Passing.{Front, Passes, behind_is, second_same}
use Rattle.text_names.proofs.Taken.{plain_word, value_stays, word_append}
use Rattle.text_names.proofs.Walk.{Judges, elements_of_message_pass}

-- ---- lines and their ends

word_feeds : (bs : List ℕ) → is_word bs ≡ true → no_feeds bs ≡ true
word_feeds [] h = refl
word_feeds (b ∷ bs) h =
    both _ (no_feeds bs) (both_left (not (b == 10)) (not (b == 13)) (both_left _ (is_word bs) h)) (word_feeds bs (both_right (not (b == 10) && not (b == 13)) (is_word bs) h))

last_by : (b : ℕ) (t : Bool) → not t ≡ true → (if t then [] else b ∷ []) ≡ b ∷ []
last_by b true h = absurd (false≢true h)
last_by b false h = refl

word_whole : (bs : List ℕ) → is_word bs ≡ true → unreturned bs ≡ bs
word_whole [] h = refl
word_whole (b ∷ []) h = last_by b (b == 13) (both_right (not (b == 10)) (not (b == 13)) (both_left (not (b == 10) && not (b == 13)) true h))
word_whole (b ∷ c ∷ cs) h = ap (λ (xs : List ℕ). b ∷ xs) (word_whole (c ∷ cs) (both_right (not (b == 10) && not (b == 13)) (is_word (c ∷ cs)) h))

pub word_lined : (line rest : List ℕ) → is_word line ≡ true → lines_in (line ++ 10 ∷ rest) ≡ line ∷ lines_in rest
word_lined line rest h = first_of_lines line rest (word_feeds line h) ∙ ap (λ (l : List ℕ). l ∷ lines_in rest) (word_whole line h)

-- ---- a line that stays

pub record Keeps (schema : Plan) (layout : Option MessagePlan) (line : List ℕ) : Type 0 where
  pub kept : (number : ℕ) (ls : List (List ℕ)) (more : Option MessagePlan → Narrowed) → by_line schema layout number (line_of line) ls more ≡ with_line number line (more layout)
  pub word : is_word line ≡ true

pub line_word : (path value : List ℕ) → are_plain path ≡ true → is_word value ≡ true → is_word (joined_line path value) ≡ true
line_word path value p v = word_append (path ++ codes " = ") value (word_append path (codes " = ") (plain_word path p) refl) v

pub keeps : (schema : Plan) (layout : Option MessagePlan) → Judges layout (Keeps schema layout)
keeps schema layout path value p t =
    let s = value_stays schema.listings (meaning_of layout path) value t in
    record {
      kept = λ number ls more.
          ap (λ (l : Line). by_line schema layout number l ls more) (element_parted path value p s.quiet)
          ∙ ap (λ told. with_told number (told_by (λ strict. path ++ codes " = " ++ strict) told) (more layout)) s.same;
      word = line_word path value p.plain s.word;
    }

-- ---- the line of a message

abbrev pub message_line : List ℕ → List ℕ
message_line name = codes "message " ++ name

ends_message : (name : List ℕ) → is_name name ≡ true → EndsDark (message_line name)
ends_message [] h = absurd (false≢true h)
ends_message (b ∷ bs) h = ends_behind (codes "message ") (b ∷ bs) (plain_ends b bs (name_is_plain (b ∷ bs) h))

begins_name : (name : List ℕ) → is_name name ≡ true → BeginsDark name
begins_name [] h = absurd (false≢true h)
begins_name (b ∷ bs) h = plain_begins b bs (name_is_plain (b ∷ bs) h)

name_kept : (name : List ℕ) → is_name name ≡ true → uncommented Outside name ≡ name
name_kept name h = ap (uncommented Outside) (sym (append-nil name)) ∙ plain_kept name [] (name_is_plain name h) ∙ append-nil name

message_bare : (name : List ℕ) → is_name name ≡ true → bare (message_line name) ≡ message_line name
message_bare name h =
    ap trimmed (ap (λ (xs : List ℕ). codes "message " ++ xs) (name_kept name h))
    ∙ trimmed_same (message_line name) (record { first = 109; rest = codes "essage " ++ name; split = refl; dark = refl }) (ends_message name h)

message_spaced : (name : List ℕ) → is_name name ≡ true → spaced (message_line name) (behind (codes "message") (message_line name)) ≡ message_line name
message_spaced name h =
    ap (spaced (message_line name)) (behind_joined (codes "message") (32 ∷ name))
    ∙ ap (λ (xs : List ℕ). codes "message " ++ xs) (begun_same name (begins_name name h))

pub message_words : (name : List ℕ) → is_name name ≡ true → line_of (message_line name) ≡ words (message_line name)
message_words name h =
    ap (λ (line : List ℕ). by_parts line (cut_at 61 line)) (message_bare name h)
    ∙ ap (by_parts (message_line name)) (cut_none 61 (message_line name) (lacks_append 61 (codes "message ") name refl (plain_lacks 61 refl name (name_is_plain name h))))
    ∙ ap words (message_spaced name h)

pub message_layout : (schema : Plan) (layout : Option MessagePlan) (name : List ℕ) → layout_from schema layout (message_line name) ≡ layout_on schema.messages (message_line name)
message_layout schema layout name = ap (layout_behind schema layout (message_line name)) (behind_joined (codes "message ") name)

-- ---- the message that a line names

named_plain : (P : MessagePlan → Type 0) (messages : List MessagePlan) (name : List ℕ) (m : MessagePlan) → AllByRecursion P messages → named messages name ≡ Some m → P m × (m.name ≡ name)
named_plain P [] name m all e = absurd (cc)
named_plain P (x ∷ xs) name m all e = by_test (named_plain P xs name m all.1) (bytes_eq x.name name) refl e
  where
    by_test : (named xs name ≡ Some m → P m × (m.name ≡ name)) → (t : Bool) → bytes_eq x.name name ≡ t → (if t then Some x else named xs name) ≡ Some m → P m × (m.name ≡ name)
    by_test again true h e = let same : x ≡ m = cc in (subst P same all.0, ap (λ (y : MessagePlan). y.name) (sym same) ∙ (bytes_eq-Decides x.name name).0 h)
    by_test again false h e = again e

found_plain : (P : MessagePlan → Type 0) (messages : List MessagePlan) (template : ℕ) (m : MessagePlan) → AllByRecursion P messages → message_of template messages ≡ Some m → P m
found_plain P [] template m all e = absurd (cc)
found_plain P (x ∷ xs) template m all e = by_test (found_plain P xs template m all.1) (x.template == template) e
  where
    by_test : (message_of template xs ≡ Some m → P m) → (t : Bool) → (if t then Some x else message_of template xs) ≡ Some m → P m
    by_test again true e = let same : x ≡ m = cc in subst P same all.0
    by_test again false e = again e

pub record NamesMessage (line : List ℕ) (m : MessagePlan) : Type 0 where
  pub name : List ℕ
  pub split : line ≡ message_line name
  pub named : is_name name ≡ true
  pub plain : HasPlainMessage m

pub names_message : (schema : Plan) (line : List ℕ) (m : MessagePlan) → HasPlainNames schema → layout_on schema.messages line ≡ Some m → NamesMessage line m
names_message schema line m plain e = by_front (behind (codes "message ") line) refl e
  where
    by_name : (name : List ℕ) → line ≡ message_line name → (o : Option MessagePlan) → named schema.messages name ≡ o → also o (λ x. message_of x.template schema.messages) ≡ Some m → NamesMessage line m
    by_name name split None f e = absurd (cc)
    by_name name split (Some x) f e =
        let found = named_plain HasPlainMessage schema.messages name x plain.messages f in
        record { name = name; split = split; named = subst (λ (n : List ℕ). is_name n ≡ true) found.1 found.0.named; plain = found_plain HasPlainMessage schema.messages x.template m plain.messages e }

    by_front : (o : Option (List ℕ)) → behind (codes "message ") line ≡ o → also (also o (named schema.messages)) (λ x. message_of x.template schema.messages) ≡ Some m → NamesMessage line m
    by_front None f e = absurd (cc)
    by_front (Some name) f e = by_name name (behind_is (codes "message ") line name f) (named schema.messages name) refl e

-- ---- the lines of a message that is read

pub record IsRead (schema : Plan) (P : Option MessagePlan → List ℕ → Type 0) (ls rest : List (List ℕ)) : Type 0 where
  pub layout : MessagePlan
  pub line : List ℕ
  pub front : List (List ℕ)
  pub split : ls ≡ line ∷ (front ++ codes "end" ∷ rest)
  pub on : layout_on schema.messages line ≡ Some layout
  pub names : NamesMessage line layout
  pub each : AllByRecursion (P (Some layout)) front

pub message_is_read : (schema : Plan) (P : Option MessagePlan → List ℕ → Type 0) → ((layout : Option MessagePlan) → Judges layout (P layout)) → (ls : List (List ℕ)) (m : Message) (rest : List (List ℕ))
    → HasPlainNames schema → read_message schema.messages ls ≡ Ok (m, rest) → IsRead schema P ls rest
message_is_read schema P judged [] m rest plain e = absurd (cc)
message_is_read schema P judged (line ∷ more) m rest plain e = by_layout (layout_on schema.messages line) refl e
  where
    by_end : (layout : MessagePlan) → layout_on schema.messages line ≡ Some layout → (x : Entry) (mid : List (List ℕ)) → Front (P (Some layout)) more mid
        → next (read_line (is_line (codes "end")) mid) (λ _ end. Ok (message_with layout.template x, end)) ≡ Ok (m, rest) → IsRead schema P (line ∷ more) rest
    by_end layout on x [] front e = absurd (cc)
    by_end layout on x (last ∷ tail) front e = by_test (bytes_eq last (codes "end")) refl e
      where
        by_test : (t : Bool) → bytes_eq last (codes "end") ≡ t
            → next (taken (length (last ∷ tail)) (if t then Some last else None) tail) (λ _ end. Ok (message_with layout.template x, end)) ≡ Ok (m, rest) → IsRead schema P (line ∷ more) rest
        by_test true h e =
            let pair : (message_with layout.template x, tail) ≡ (m, rest) = cc in
            let ends : tail ≡ rest = second_same (message_with layout.template x, tail) (m, rest) pair in
            let is_end : last ≡ codes "end" = (bytes_eq-Decides last (codes "end")).0 h in
            record {
              layout = layout;
              line = line;
              front = front.front;
              split = ap (λ (xs : List (List ℕ)). line ∷ xs) (front.split ∙ ap (λ (l : List ℕ). front.front ++ l ∷ tail) is_end ∙ ap (λ (xs : List (List ℕ)). front.front ++ codes "end" ∷ xs) ends);
              on = on;
              names = names_message schema line layout plain on;
              each = front.each;
            }
        by_test false h e = absurd (cc)

    by_elements : (layout : MessagePlan) → layout_on schema.messages line ≡ Some layout → (r : Read Entry) → Passes (P (Some layout)) more r
        → next r (λ x mid. next (read_line (is_line (codes "end")) mid) (λ _ end. Ok (message_with layout.template x, end))) ≡ Ok (m, rest) → IsRead schema P (line ∷ more) rest
    by_elements layout on (Ok read) front e = by_end layout on read.0 read.1 front e
    by_elements layout on (Err left) front e = absurd (cc)

    by_layout : (o : Option MessagePlan) → layout_on schema.messages line ≡ o → next (taken (length (line ∷ more)) o more) (λ layout rest. read_body layout rest) ≡ Ok (m, rest) → IsRead schema P (line ∷ more) rest
    by_layout None f e = absurd (cc)
    by_layout (Some layout) f e =
        let named = names_message schema line layout plain f in
        by_elements layout f (read_elements [] layout.root.items (read_groups [] layout.root.groups) layout.root.vars more)
        (elements_of_message_pass (P (Some layout)) (Some layout) (judged (Some layout)) layout refl named.plain.block named.plain.groups more) e

-- ---- strict lines stay

abbrev pub Keeping : List (List ℕ) → List (List ℕ) → Narrowed → Type 0
Keeping ls rest n = (n.rest ≡ Ok rest) × (lines_in n.text ++ rest ≡ ls)

one_more : (number : ℕ) (line : List ℕ) (ls rest : List (List ℕ)) (n : Narrowed) → is_word line ≡ true → Keeping ls rest n → Keeping (line ∷ ls) rest (with_line number line n)
one_more number line ls rest n word k = (k.0, ap (λ (xs : List (List ℕ)). xs ++ rest) (word_lined line n.text word) ∙ ap (λ (xs : List (List ℕ)). line ∷ xs) k.1)

front_keeps : (schema : Plan) (layout : Option MessagePlan) (front rest : List (List ℕ)) (number : ℕ) → AllByRecursion (Keeps schema layout) front → Keeping (front ++ codes "end" ∷ rest) rest (narrowed schema layout number (front ++ codes "end" ∷ rest))
front_keeps schema layout [] rest number each = (refl, refl)
front_keeps schema layout (line ∷ front) rest number each =
    subst (Keeping (line ∷ (front ++ codes "end" ∷ rest)) rest)
    (sym (each.0.kept number (front ++ codes "end" ∷ rest) (λ following. narrowed schema following (number + 1) (front ++ codes "end" ∷ rest))))
    (one_more number line (front ++ codes "end" ∷ rest) rest (narrowed schema layout (number + 1) (front ++ codes "end" ∷ rest)) each.0.word (front_keeps schema layout front rest (number + 1) each.1))

pub message_narrowed : (schema : Plan) (layout : MessagePlan) (line : List ℕ) (ls : List (List ℕ)) → layout_on schema.messages line ≡ Some layout → NamesMessage line layout
    → narrowed_message schema (line ∷ ls) ≡ with_line 1 line (narrowed schema (Some layout) 2 ls)
message_narrowed schema layout line ls on n =
    subst (λ (l : List ℕ). layout_on schema.messages l ≡ Some layout → narrowed_message schema (l ∷ ls) ≡ with_line 1 l (narrowed schema (Some layout) 2 ls)) (sym n.split)
    (λ found.
    ap (λ (l : Line). by_line schema None 1 l ls (λ following. narrowed schema following 2 ls)) (message_words n.name n.named)
    ∙ ap (λ o. with_line 1 (message_line n.name) (narrowed schema o 2 ls)) (message_layout schema None n.name ∙ found)) on

pub name_word : (line : List ℕ) (m : MessagePlan) → NamesMessage line m → is_word line ≡ true
name_word line m n = subst (λ (l : List ℕ). is_word l ≡ true) (sym n.split) (word_append (codes "message ") n.name refl (plain_word n.name (name_is_plain n.name n.named)))

pub stays : (schema : Plan) (lines : List (List ℕ)) (m : Message) (rest : List (List ℕ)) → HasPlainNames schema → read_message schema.messages lines ≡ Ok (m, rest)
    → StaysStrict schema lines m rest (narrowed_message schema lines)
stays schema lines m rest plain e =
    let r = message_is_read schema (Keeps schema) (keeps schema) lines m rest plain e in
    let tail = r.front ++ codes "end" ∷ rest in
    let k : Keeping (r.line ∷ tail) rest (narrowed_message schema (r.line ∷ tail)) =
    subst (Keeping (r.line ∷ tail) rest) (sym (message_narrowed schema r.layout r.line tail r.on r.names))
    (one_more 1 r.line tail rest (narrowed schema (Some r.layout) 2 tail) (name_word r.line r.layout r.names) (front_keeps schema (Some r.layout) r.front rest 2 r.each)) in
    let whole : Keeping lines rest (narrowed_message schema lines) = subst (λ (ls : List (List ℕ)). Keeping ls rest (narrowed_message schema ls)) (sym r.split) k in
    record { behind = whole.0; same = whole.1; spelled = ap (read_message schema.messages) whole.1 ∙ e }
