-- What is known of a content, where the file tells it.
use Rattle.std.proofs.Common.{◌≡◌, ℕ, ◌+◌, ◌-◌, ◌<◌, ◌≤◌, ◌⊎◌, min, inl, inr, List, length, length-append, drop, get_or, refl, ap, sym, subst, ◌∙◌, arith}
use Rattle.std.specs.Prelude.{Option, Some, None, IfSome, IfNone}
use Rattle.std.specs.Option.{ForSome}
use Rattle.std.proofs.lemmas.Bool.{cases_lt}
use Rattle.std.specs.List.{slice_range}
use Rattle.std.proofs.lemmas.List.{length-take, length-drop}
use Rattle.gw_outside.specs.Disk.{ReadsAt}
use Rattle.conn_tail.specs.Tails.{IsDeliver, TellsNothing, HasTail}
use Rattle.conn_tail.specs.Places.{StandsAt, IsLine}
use Rattle.conn_tail.proofs.Contents.{stands, nothing_stands, reaches, line_stands}

-- a read that is not short
read_told : (told : Option (List ℕ)) (content piece : List ℕ) (at n : ℕ) → told ≡ Some content → IfSome told (λ all. ReadsAt all at piece n) → ReadsAt content at piece n
read_told told content piece at n e r = subst (λ (o : Option (List ℕ)). IfSome o (λ all. ReadsAt all at piece n)) e r

pub piece_stands : (told : Option (List ℕ)) (piece : List ℕ) (at n : ℕ) → IfSome told (λ content. ReadsAt content at piece n) → ForSome told (λ content. StandsAt content piece at n)
piece_stands told piece at n r content e = stands content piece at n (read_told told content piece at n e r)

pub none_stands : (told : Option (List ℕ)) (piece : List ℕ) → ForSome told (λ content. StandsAt content piece 0 0)
none_stands told piece content e = nothing_stands content piece

pub never_short : (told : Option (List ℕ)) (piece : List ℕ) (at n place : ℕ) → IfSome told (λ content. ReadsAt content at piece n) → ForSome told (λ content. place < length content)
    → length piece ≡ 65536 → at ≡ (place + 1) - 65536 → at + n ≤ place → told ≡ None
never_short None piece at n place r within size is few = refl
never_short (Some content) piece at n place r within size is few =
    let enough = reaches content piece at n place r size is (within content refl) in
    absurd (omega (arith, enough, few))

pub line_told : (told : Option (List ℕ)) (piece : List ℕ) (at size start end : ℕ) → ForSome told (λ content. StandsAt content piece at size) → at ≤ start → start ≤ end → end < at + size
    → ForSome told (λ content. end < length content) → size ≤ length piece → ForSome told (λ content. slice_range piece (start - at) (end - at) ≡ slice_range content start end)
line_told told piece at size start end s before order behind within most content e =
    line_stands content piece at size start end (s content e) before order behind (let l = within content e in omega (arith, l)) most

-- a byte of the piece is one of the content
pub byte_told : (told : Option (List ℕ)) (piece : List ℕ) (at size place byte : ℕ) → ForSome told (λ content. StandsAt content piece at size) → at ≤ place → place < at + size
    → byte ≡ get_or piece (place - at) 0 → ForSome told (λ content. byte ≡ get_or content place 0)
byte_told told piece at size place byte s least most is content e =
    let there : at + (place - at) ≡ place = omega arith in
    is ∙ (s content e).each (place - at) (omega arith) ∙ ap (λ (k : ℕ). get_or content k 0) there

-- no line feed from one place more
pub one_back : (told : Option (List ℕ)) (start end byte : ℕ) → 0 < start → ForSome told (λ content. (k : ℕ) → start ≤ k → k < end → get_or content k 0 ≡ 10 → ⊥)
    → ForSome told (λ content. byte ≡ get_or content (start - 1) 0) → (byte ≡ 10 → ⊥) → ForSome told (λ content. (k : ℕ) → start - 1 ≤ k → k < end → get_or content k 0 ≡ 10 → ⊥)
one_back told start end byte some none is other content e k l m f = by_place (behind_or_here start k some l)
  where
    behind_or_here : (start k : ℕ) → 0 < start → start - 1 ≤ k → (start ≤ k) ⊎ (k ≡ start - 1)
    behind_or_here start k some l = elim (cases_lt k start) [ inl below ↦ inr (omega arith) | inr behind ↦ inl behind ]

    by_place : (start ≤ k) ⊎ (k ≡ start - 1) → ⊥
    by_place (inl behind) = none content e k behind m f
    by_place (inr here) = other (is content e ∙ ap (λ (i : ℕ). get_or content i 0) (sym here) ∙ f)

-- the line begins behind a line feed, or at the front
pub begins_behind : (told : Option (List ℕ)) (start end byte : ℕ) → 0 < start → start ≤ end → ForSome told (λ content. end ≤ length content)
    → ForSome told (λ content. (k : ℕ) → start ≤ k → k < end → get_or content k 0 ≡ 10 → ⊥) → ForSome told (λ content. byte ≡ get_or content (start - 1) 0) → byte ≡ 10
    → ForSome told (λ content. IsLine content start end)
begins_behind told start end byte some order within none is feed content e = record {
  begins = record { within = omega (arith, order, within content e); behind = inr (some, sym (is content e) ∙ feed) };
  within = order;
  feedless = none content e;
}

pub begins_first : (told : Option (List ℕ)) (start end : ℕ) → start ≤ 0 → ForSome told (λ content. (k : ℕ) → start ≤ k → k < end → get_or content k 0 ≡ 10 → ⊥)
    → ForSome told (λ content. IsLine content 0 end)
begins_first told start end first none content e = record {
  begins = record { within = omega arith; behind = inl refl };
  within = omega arith;
  feedless = λ k l m f. none content e k (omega arith) m f;
}

-- the length that a file told
pub size_told : (told : Option (List ℕ)) (content : List ℕ) (n : ℕ) → told ≡ Some content → IfSome told (λ all. n ≡ length all) → n ≡ length content
size_told told content n e is = subst (λ (o : Option (List ℕ)). IfSome o (λ all. n ≡ length all)) e is

-- a line that was read tells of no applied message
pub none_told : (o : Option ℕ) (told : Option (List ℕ)) (line lent : List ℕ) (start end : ℕ) → IfNone o (TellsNothing lent) → lent ≡ line → ForSome told (λ content. line ≡ slice_range content start end)
    → IfNone o (ForSome told (λ content. TellsNothing (slice_range content start end)))
none_told None told line lent start end none same there = λ content e. subst TellsNothing (same ∙ there content e) none
none_told (Some n) told line lent start end none same there = tt

-- a line between two places that are far apart is long
pub long_range : (content : List ℕ) (start end : ℕ) → start ≤ end → end ≤ length content → 32801 < end - start → 32801 < length (slice_range content start end)
long_range content start end order within long =
    numbers start end (length content) (length (drop start content)) (length (slice_range content start end)) (length-drop start content) (length-take (end - start) (drop start content)) order within long
  where
    numbers : (start end all rest size : ℕ) → rest ≡ all - start → size ≡ min (end - start) rest → start ≤ end → end ≤ all → 32801 < end - start → 32801 < size
    numbers start end all rest size e f order within long = omega arith

-- the whole lines of a content are no longer than it
pub within_tail : (content : List ℕ) (whole : ℕ) (last : Option ℕ) → HasTail content whole last → whole ≤ length content
within_tail content whole last t = omega (arith, t.size, ap length t.bytes, length-append t.text t.rest)

-- and so tells one of an applied message
pub found_told : (o : Option ℕ) (told : Option (List ℕ)) (line lent : List ℕ) (start end : ℕ) → IfSome o (IsDeliver lent) → lent ≡ line → ForSome told (λ content. line ≡ slice_range content start end)
    → IfSome o (λ number. ForSome told (λ content. IsDeliver (slice_range content start end) number))
found_told None told line lent start end found same there = tt
found_told (Some n) told line lent start end found same there = λ content e. subst (λ (bs : List ℕ). IsDeliver bs n) (same ∙ there content e) found
