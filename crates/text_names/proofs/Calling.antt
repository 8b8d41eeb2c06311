-- A number in front of its names.
use Rattle.std.proofs.Common.{◌≡◌, ℕ, Bool, true, false, List, refl, ap, sym, ◌∙◌, subst}
use Rattle.std.specs.Prelude.{Option, Some, None, codes, if◌then◌else◌}
use Rattle.std.specs.Option.{option_map}
use Rattle.std.specs.Str.{bytes_eq}
use Rattle.std.proofs.lemmas.Slice.Eq.{bytes_eq-Decides}
use Rattle.sbe_text.specs.declared.token.Count.{Count}
use Rattle.sbe_text.specs.declared.token.Count.TheVariants as count
use Rattle.sbe_text.specs.Tokens.{also, count_of, held, natural_of}

-- the number of a count
abbrev entries_in : Option Count → Option ℕ
entries_in None = None
entries_in (Some count.Absent) = None
entries_in (Some (count.Entries n)) = Some n

counted : (text : List ℕ) → entries_in (count_of text) ≡ also (natural_of text) held
counted text = by_absent (bytes_eq text (codes "absent")) refl
  where
    same : (o : Option ℕ) → entries_in (option_map count.Entries o) ≡ o
    same None = refl
    same (Some n) = refl

    by_absent : (t : Bool) → bytes_eq text (codes "absent") ≡ t → entries_in (if t then Some count.Absent else option_map count.Entries (also (natural_of text) held)) ≡ also (natural_of text) held
    by_absent true h = ap (λ (ts : List ℕ). also (natural_of ts) held) (sym ((bytes_eq-Decides text (codes "absent")).0 h))
    by_absent false h = same (also (natural_of text) held)

-- what a count tells is the number
pub natural_counted : (text : List ℕ) (o : Option Count) → o ≡ count_of text → entries_in o ≡ also (natural_of text) held
natural_counted text o e = ap entries_in e ∙ counted text
