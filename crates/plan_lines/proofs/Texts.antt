-- Lines of a message as one text, and back.
use Rattle.std.proofs.Common.{◌≡◌, ℕ, zero, suc, ◌+◌, ◌<◌, ◌≤◌, ◌==◌, Bool, true, false, not, ◌&&◌, if◌then◌else◌, List, [], ◌∷◌, ◌++◌, length, map, refl, ap, sym, ◌∙◌, append_assoc, append-nil, length-append, arith}
use Rattle.std.specs.Prelude.{All}
use Rattle.std.proofs.lemmas.List.Sums.{sum_by-append}
use Rattle.std.proofs.lemmas.List.Elements.{All-head, All-tail}
use Rattle.text_words.specs.Lines.{lines_in, unreturned}
use Rattle.text_words.proofs.Feeds.{no_feeds, first_of_lines, unreturned_last}
use Rattle.gw_lines.specs.Lines.{IsFeedless}
use Rattle.gw_lines.proofs.Streams.{none_is}
use Rattle.plan_lines.specs.Entries.{size_of}
use Rattle.plan_lines.specs.Progress.{returned}

-- ---- lines without line feeds

with_return : (line : List ℕ) → no_feeds line ≡ true → no_feeds (line ++ 13 ∷ []) ≡ true
with_return [] h = refl
with_return (b ∷ bs) h = elim (b == 10) as (λ t. (not t && no_feeds bs) ≡ true → (not t && no_feeds (bs ++ 13 ∷ [])) ≡ true) [ true ↦ λ e. cc e | false ↦ λ e. with_return bs e ] h

-- ---- the lines of the text

-- no line loses a carriage return of its own
pub lines_returned : (front : List (List ℕ)) → All IsFeedless front → lines_in (returned front) ≡ front
lines_returned [] each = refl
lines_returned (line ∷ front) each =
    ap lines_in (sym (append_assoc line (13 ∷ []) (10 ∷ returned front)))
    ∙ first_of_lines (line ++ 13 ∷ []) (returned front) (with_return line (none_is line (All-head IsFeedless line front each)))
    ∙ ap (λ (l : List ℕ). l ∷ lines_in (returned front)) (unreturned_last line 13)
    ∙ ap (λ (ls : List (List ℕ)). line ∷ ls) (lines_returned front (All-tail IsFeedless line front each))

pub returned_more : (front : List (List ℕ)) (line : List ℕ) → returned (front ++ line ∷ []) ≡ returned front ++ (line ++ 13 ∷ 10 ∷ [])
returned_more [] line = refl
returned_more (first ∷ front) line =
    ap (λ (bs : List ℕ). first ++ 13 ∷ 10 ∷ bs) (returned_more front line) ∙ sym (append_assoc first (13 ∷ 10 ∷ returned front) (line ++ 13 ∷ 10 ∷ []))

pub size_append : (first more : List (List ℕ)) → size_of (first ++ more) ≡ size_of first + size_of more
size_append first more = sum_by-append (λ line. length line + 2) first more

pub returned_long : (front : List (List ℕ)) → length (returned front) ≡ size_of front
returned_long [] = refl
returned_long (line ∷ front) =
    let long = length-append line (13 ∷ 10 ∷ returned front) in
    let rest = returned_long front in
    let more = size_append (line ∷ []) front in
    omega (arith, long, rest, more)

pub size_more : (front : List (List ℕ)) (line : List ℕ) → size_of (front ++ line ∷ []) ≡ size_of front + (length line + 2)
size_more front line = let more = size_append front (line ∷ []) in omega (arith, more)

pub none_returned : (front : List (List ℕ)) → returned front ≡ [] → front ≡ []
none_returned [] e = refl
none_returned (line ∷ front) e = let long = ap length e in let more = length-append line (13 ∷ 10 ∷ returned front) in absurd (omega (arith, long, more))
