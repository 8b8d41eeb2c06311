-- The walk back over lines.
use Rattle.std.proofs.Common.{◌≡◌, ℕ, ◌+◌, ◌-◌, ◌<◌, ◌≤◌, ◌⊎◌, inl, inr, List, [], ◌∷◌, ◌++◌, length, get_or, take, drop, refl, ap, sym, subst, ◌∙◌, append_assoc, append-nil, take-append-drop, arith}
use Rattle.std.specs.Prelude.{Option, Some, None}
use Rattle.std.specs.List.{slice_range}
use Rattle.std.proofs.lemmas.List.{take_more, length-take-le, length-drop, get_or-drop}
use Rattle.std.proofs.lemmas.List.Elements.{All-nil, All-cons, All-append}
use Rattle.gw_lines.specs.Lines.{IsFeedless, with_feeds}
use Rattle.conn_tail.specs.Tails.{IsDeliver, TellsNothing, TellsLast, HasTail}
use Rattle.conn_tail.specs.Places.{BeginsLine, IsLine, Passed}
use Rattle.conn_tail.proofs.Contents.{at_line, range_feedless}
use Rattle.conn_tail.proofs.Whole.{Lines, nothing, ended}

-- lines behind lines
joined : (lines more : List (List ℕ)) (rest : List ℕ) → with_feeds (lines ++ more) rest ≡ with_feeds lines (with_feeds more rest)
joined [] more rest = refl
joined (line ∷ lines) more rest = ap (λ (bs : List ℕ). line ++ 10 ∷ bs) (joined lines more rest)

within_lines : (lines : List (List ℕ)) (rest : List ℕ) → with_feeds lines rest ≡ with_feeds lines [] ++ rest
within_lines [] rest = refl
within_lines (line ∷ lines) rest = ap (λ (bs : List ℕ). line ++ 10 ∷ bs) (within_lines lines rest) ∙ sym (append_assoc line (10 ∷ with_feeds lines []) rest)

-- the line before a place, and what was passed behind it
before : (content line : List ℕ) (lines : List (List ℕ)) (start end whole : ℕ) → take end content ≡ take start content ++ line ++ 10 ∷ [] → take whole content ≡ take end content ++ with_feeds lines []
    → take whole content ≡ take start content ++ with_feeds (line ∷ lines) []
before content line lines start end whole e f =
    f ∙ ap (λ (bs : List ℕ). bs ++ with_feeds lines []) e ∙ ap (λ (bs : List ℕ). bs ++ with_feeds lines []) (append_assoc (take start content) line (10 ∷ []))
    ∙ append_assoc (take start content) (line ++ 10 ∷ []) (with_feeds lines []) ∙ ap (λ (bs : List ℕ). take start content ++ bs) (append_assoc line (10 ∷ []) (with_feeds lines []))

-- the line feed before a place where a line begins
feed_before : (content : List ℕ) (end : ℕ) → BeginsLine content end → 0 < end → get_or content (end - 1) 0 ≡ 10
feed_before content end b some = by_cases b.behind
  where
    by_cases : (end ≡ 0) ⊎ ((1 ≤ end) × (get_or content (end - 1) 0 ≡ 10)) → get_or content (end - 1) 0 ≡ 10
    by_cases (inl none) = absurd (omega arith)
    by_cases (inr feed) = feed.1

-- the content to a line's end
to_line : (content : List ℕ) (start end : ℕ) → BeginsLine content end → 0 < end → start ≤ end - 1 → take end content ≡ take start content ++ slice_range content start (end - 1) ++ 10 ∷ []
to_line content start end b some order =
    let size : end ≡ (end - 1) + 1 = omega arith in
    ap (λ (n : ℕ). take n content) size ∙ at_line content start (end - 1) order (omega (arith, b.within)) (feed_before content end b some)

pub none_passed : (content : List ℕ) (whole : ℕ) → BeginsLine content whole → Passed content whole whole
none_passed content whole b = record { begins = b; lines = []; each = All-nil IsFeedless; bytes = sym (append-nil (take whole content)); none = All-nil TellsNothing }

pub one_passed : (content : List ℕ) (start end whole : ℕ) → Passed content end whole → 0 < end → IsLine content start (end - 1) → TellsNothing (slice_range content start (end - 1)) → Passed content start whole
one_passed content start end whole p some line none = record {
  begins = line.begins;
  lines = slice_range content start (end - 1) ∷ p.lines;
  each = All-cons IsFeedless (slice_range content start (end - 1)) p.lines (range_feedless content start (end - 1) line.feedless) p.each;
  bytes = before content (slice_range content start (end - 1)) p.lines start end whole (to_line content start end p.begins some line.within) p.bytes;
  none = All-cons TellsNothing (slice_range content start (end - 1)) p.lines none p.none;
}

-- no line tells of an applied message
pub none_tells : (content : List ℕ) (whole : ℕ) → Passed content 0 whole → TellsLast (take whole content) None
none_tells content whole p = record { lines = p.lines; each = p.each; bytes = p.bytes; told = p.none }

-- the lines before a place where a line begins
lines_before : (content : List ℕ) (place : ℕ) → BeginsLine content place → Lines (take place content)
lines_before content place b = by_cases b.behind
  where
    by_cases : (place ≡ 0) ⊎ ((1 ≤ place) × (get_or content (place - 1) 0 ≡ 10)) → Lines (take place content)
    by_cases (inl none) = subst (λ (n : ℕ). Lines (take n content)) (sym none) nothing
    by_cases (inr feed) =
        let size : (place - 1) + 1 ≡ place = omega arith in
        let at : take place content ≡ take (place - 1) content ++ 10 ∷ [] =
        ap (λ (n : ℕ). take n content) (sym size) ∙ take_more content (place - 1) 0 (omega (arith, b.within)) ∙ ap (λ (b : ℕ). take (place - 1) content ++ b ∷ []) feed.1 in
        subst Lines (sym at) (ended (take (place - 1) content))

-- the line before a place tells of an applied message
pub this_tells : (content : List ℕ) (start end whole number : ℕ) → Passed content end whole → 0 < end → IsLine content start (end - 1) → IsDeliver (slice_range content start (end - 1)) number
    → TellsLast (take whole content) (Some number)
this_tells content start end whole number p some line tells =
    let l = lines_before content start line.begins in
    let here : List ℕ = slice_range content start (end - 1) in
    record {
      lines = l.lines ++ here ∷ p.lines;
      each = All-append IsFeedless l.lines (here ∷ p.lines) l.each (All-cons IsFeedless here p.lines (range_feedless content start (end - 1) line.feedless) p.each);
      bytes =
          before content here p.lines start end whole (to_line content start end p.begins some line.within) p.bytes ∙ ap (λ (bs : List ℕ). bs ++ with_feeds (here ∷ p.lines) []) l.bytes
          ∙ sym (within_lines l.lines (with_feeds (here ∷ p.lines) [])) ∙ sym (joined l.lines (here ∷ p.lines) []);
      told = record { before = l.lines; line = here; behind = p.lines; split = refl; tells = tells; none = p.none };
    }

-- the end of a content
pub has_tail : (content : List ℕ) (whole size : ℕ) (last : Option ℕ) → size ≡ length content → IsLine content whole size → TellsLast (take whole content) last → HasTail content whole last
has_tail content whole size last all line tells = record {
  text = take whole content;
  rest = drop whole content;
  bytes = sym (take-append-drop whole content);
  size = sym (length-take-le whole content line.begins.within);
  tells = tells;
  feedless = rest_feedless content whole (λ k a b. line.feedless k a (omega (arith, all)));
}
  where
    rest_feedless : (content : List ℕ) (whole : ℕ) → ((k : ℕ) → whole ≤ k → k < length content → get_or content k 0 ≡ 10 → ⊥) → IsFeedless (drop whole content)
    rest_feedless content whole none k l e =
        let size : length (drop whole content) ≡ length content - whole = length-drop whole content in
        none (whole + k) (omega arith) (omega arith) (sym (get_or-drop whole content k 0) ∙ e)
