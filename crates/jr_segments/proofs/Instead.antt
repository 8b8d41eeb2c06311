-- A list with a record in the place of the one at an index.
use Rattle.std.proofs.Common.{◌≡◌, ℕ, ◌+◌, ◌<◌, List, [], ◌∷◌, ◌++◌, length, take, drop, slice_get, Some, sym, ◌∙◌, ap, arith, append_assoc, length-append}
use Rattle.std.proofs.lemmas.List.{take_at, length-take}
use Rattle.jr_dated.specs.Dated.{Dated}
use Rattle.jr_segments.specs.Journal.{instead}
use Rattle.jr_segments.proofs.Spanning.{get_here}

-- the record that was put in
pub get_instead : (i : ℕ) (e : Dated) (h : List Dated) → i < length h → slice_get (instead i e h) i ≡ Some e
get_instead i e h within = get_here (take i h) (drop (i + 1) h) e i (omega (arith, length-take i h, within))

-- those before it, and with it
pub take_before : (i : ℕ) (e : Dated) (h : List Dated) → i < length h → take i (instead i e h) ≡ take i h
take_before i e h within = take_at (take i h) (e ∷ drop (i + 1) h) i (omega (arith, length-take i h, within))

pub take_instead : (i : ℕ) (e : Dated) (h : List Dated) → i < length h → take (i + 1) (instead i e h) ≡ take i h ++ e ∷ []
take_instead i e h within =
    ap (take (i + 1)) (sym (append_assoc (take i h) (e ∷ []) (drop (i + 1) h)))
    ∙ take_at (take i h ++ e ∷ []) (drop (i + 1) h) (i + 1) (omega (arith, length-take i h, length-append (take i h) (e ∷ []), within))
