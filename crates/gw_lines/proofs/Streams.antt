-- The lines that a reader gave, those of the text that was read, and sources and sinks that tell what they carry: for whoever reads lines.
use Rattle.std.proofs.Common.{◌≡◌, ℕ, zero, suc, ◌+◌, ◌<◌, ◌≤◌, ◌==◌, true, false, if◌then◌else◌, List, [], ◌∷◌, ◌++◌, length, map, take, refl, ap, sym, subst, ◌∙◌, append-nil, length-append, arith}
use Rattle.std.specs.Prelude.{All, Option, Some, None, slice_index}
use Rattle.std.proofs.lemmas.Bool.Decides.{nat_tests}
use Rattle.std.proofs.lemmas.List.Elements.{All-head, All-tail}
use Rattle.std.proofs.Math.Seq.{take-append-add}
use Rattle.std.specs.Io.KnownBytes.{Appends, Consumes, IsAtEnd}
use Rattle.std.proofs.KnownBytes.{Appends-trans}
use Rattle.gw_outside.specs.Faults.{TakesFront}
use Rattle.text_words.specs.Lines.{lines_in, unreturned}
use Rattle.text_words.proofs.Feeds.{no_feeds, first_of_lines, last_of_lines}
use Rattle.gw_lines.specs.Lines.{IsFeedless, with_feeds}

-- ---- lines

pub none_is : (bytes : List ℕ) → IsFeedless bytes → no_feeds bytes ≡ true
none_is [] h = refl
none_is (b ∷ bs) h =
    let other : (b == 10) ≡ false = differs b (h 0 (omega arith)) in
    rw other (none_is bs (λ k l. h (suc k) (omega arith)))
  where
    differs : (b : ℕ) → (b ≡ 10 → ⊥) → (b == 10) ≡ false
    differs b h = grind (arith, nat_tests)

-- lines with their feeds are the first of a text, whatever stands behind them
pub first_lines : (lines : List (List ℕ)) (rest : List ℕ) → All IsFeedless lines → lines_in (with_feeds lines rest) ≡ map unreturned lines ++ lines_in rest
first_lines [] rest each = refl
first_lines (line ∷ lines) rest each =
    first_of_lines line (with_feeds lines rest) (none_is line (All-head IsFeedless line lines each))
    ∙ ap (λ (ls : List (List ℕ)). unreturned line ∷ ls) (first_lines lines rest (All-tail IsFeedless line lines each))

-- what stands behind the last line feed is a line
pub last_is : (b : ℕ) (bs : List ℕ) → IsFeedless (b ∷ bs) → lines_in (b ∷ bs) ≡ (b ∷ bs) ∷ []
last_is b bs h = last_of_lines b bs (none_is (b ∷ bs) h)

-- a line loses one byte at most
pub unreturned_long : (line : List ℕ) → length line ≤ length (unreturned line) + 1
unreturned_long [] = omega arith
unreturned_long (b ∷ []) = omega arith
unreturned_long (b ∷ c ∷ cs) = let rest = unreturned_long (c ∷ cs) in omega (arith, rest)

feedless_behind : (b : ℕ) (bs : List ℕ) → (b ≡ 10 → ⊥) → IsFeedless bs → (k : ℕ) → k < length (b ∷ bs) → slice_index (b ∷ bs) k ≡ 10 → ⊥
feedless_behind b bs first rest zero l e = first e
feedless_behind b bs first rest (suc k) l e = rest k (omega (arith, l)) e

pub feedless_none : (k : ℕ) → k < length {A = ℕ} [] → slice_index [] k ≡ 10 → ⊥
feedless_none k l e = omega (arith, l)

-- and has no line feed where it had none
pub unreturned_feedless : (line : List ℕ) → IsFeedless line → IsFeedless (unreturned line)
unreturned_feedless [] h = h
unreturned_feedless (b ∷ []) h = elim (b == 13) as (λ t. IsFeedless (if t then [] else b ∷ [])) [ true ↦ feedless_none | false ↦ h ]
unreturned_feedless (b ∷ c ∷ cs) h =
    feedless_behind b (unreturned (c ∷ cs)) (h 0 (omega arith)) (unreturned_feedless (c ∷ cs) (λ k l. h (suc k) (omega (arith, l))))

pub said_long : (raw : List (List ℕ)) → length (map unreturned raw) ≡ length raw
said_long [] = refl
said_long (line ∷ raw) = ap suc (said_long raw)

pub said_more : (raw : List (List ℕ)) (line : List ℕ) → map unreturned (raw ++ line ∷ []) ≡ map unreturned raw ++ unreturned line ∷ []
said_more [] line = refl
said_more (first ∷ raw) line = ap (λ (ls : List (List ℕ)). unreturned first ∷ ls) (said_more raw line)

-- all lines of what was read
pub no_rest : (read : List ℕ) (raw : List (List ℕ)) → All IsFeedless raw → read ≡ with_feeds raw [] → lines_in read ≡ map unreturned raw
no_rest read raw each e = ap lines_in e ∙ first_lines raw [] each ∙ append-nil (map unreturned raw)

pub some_rest : (read : List ℕ) (raw : List (List ℕ)) (rest : List ℕ) → All IsFeedless raw → IsFeedless rest → 0 < length rest → read ≡ with_feeds raw rest → lines_in read ≡ map unreturned raw ++ rest ∷ []
some_rest read raw [] each feedless some e = absurd (omega (arith, some))
some_rest read raw (b ∷ bs) each feedless some e = ap lines_in e ∙ first_lines raw (b ∷ bs) each ∙ ap (λ (ls : List (List ℕ)). map unreturned raw ++ ls) (last_is b bs feedless)

-- ---- sources and sinks that tell

-- what was told of an input is what was read of it and what is left
pub told : (before now : Option (List ℕ)) (read input : List ℕ) → Consumes before now read → before ≡ Some input → (left : List ℕ) × (input ≡ read ++ left) × (now ≡ Some left)
told None now read input consumed e = cc
told (Some xs) None read input consumed e = absurd consumed
told (Some xs) (Some ys) read input consumed e = let same : xs ≡ input = cc in (ys, sym same ∙ consumed, refl)

pub at_end : (now : Option (List ℕ)) (left : List ℕ) → IsAtEnd now → now ≡ Some left → left ≡ []
at_end None left end e = cc
at_end (Some xs) left end e = let same : xs ≡ left = cc in sym same ∙ end

-- a front of some text behind what was pushed is a front of both
pub front_behind : (old mid new : Option (List ℕ)) (pushed text : List ℕ) → Appends old mid pushed → TakesFront mid new text → TakesFront old new (pushed ++ text)
front_behind old mid new pushed text gained front =
    let taken : take (length pushed + front.count) (pushed ++ text) ≡ pushed ++ take front.count text = take-append-add pushed text front.count in
    let long : length (pushed ++ text) ≡ length pushed + length text = length-append pushed text in
    record {
      count = length pushed + front.count;
      within = omega (arith, long, front.within);
      appended = subst (Appends old new) (sym taken) (Appends-trans old mid new pushed (take front.count text) gained front.appended);
    }
