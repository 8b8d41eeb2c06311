-- A title's bytes, put one piece behind another.
use Rattle.std.proofs.Common.{◌≡◌, ℕ, ◌≤◌, List, ◌++◌, length, take, sym, ap, ◌∙◌, arith}
use Rattle.std.proofs.lemmas.List.{take_all}
use Rattle.std.specs.Int.{w32, to_le_bytes}
use Rattle.crc32c.specs.Sums.{crc_of}
use Rattle.jr_title.specs.declared.title.Title.{Title}
use Rattle.jr_title.specs.Titles.{front_of, image_of}

pub behind : (x y a b : List ℕ) → x ≡ a → y ≡ b → x ++ y ≡ a ++ b
behind x y a b e f = ap (λ (z : List ℕ). z ++ y) e ∙ ap (λ (z : List ℕ). a ++ z) f

-- the last piece is the sum
pub summed : (t : Title) (new old piece : List ℕ) (end from : ℕ) → end ≡ 64 → from ≡ 60 → length new ≡ 64 → take from old ≡ front_of t
    → piece ≡ to_le_bytes w32 (crc_of (take 60 old)) → take end new ≡ take from old ++ piece → new ≡ image_of t
summed t new old piece end from e f size was is put =
    let short : length new ≤ 64 = omega (arith, size) in
    let front : take 60 old ≡ front_of t = ap (λ (n : ℕ). take n old) (sym f) ∙ was in
    sym (take_all 64 new short) ∙ ap (λ (n : ℕ). take n new) (sym e) ∙ put
    ∙ behind (take from old) piece (front_of t) (to_le_bytes w32 (crc_of (front_of t))) was (is ∙ ap (λ (xs : List ℕ). to_le_bytes w32 (crc_of xs)) front)
