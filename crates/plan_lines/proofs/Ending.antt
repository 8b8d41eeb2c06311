-- Where a message ends, and what was told of its lines.
use Rattle.std.proofs.Common.{◌≡◌, ℕ, ◌==◌, Bool, true, false, List, [], ◌∷◌, refl, ap, sym, ◌∙◌, subst, Bor}
use Rattle.std.specs.Prelude.{◌||◌, Option, None, codes, if◌then◌else◌}
use Rattle.std.proofs.lemmas.Bool.{false≢true}
use Rattle.std.proofs.lemmas.Bool.Decides.{Decides-eqb}
use Rattle.sbe_layout.specs.declared.plan.Plan.{Plan}
use Rattle.text_words.specs.Lines.{lines_in}
use Rattle.text_names.specs.Bare.{bare, is_blank, trimmed, unended, unindented, unless_last}
use Rattle.plan_lines.specs.Entries.{Ends, MayStand}
use Rattle.plan_lines.specs.Progress.{RefusesIn, TellsEnd}
use Rattle.plan_lines.proofs.Fronts.{asks_none}

-- the strict form goes on behind no line `end`
pub ends_strict : (plan : Plan) (text line : List ℕ) → line ≡ codes "end" → TellsEnd plan text line true
ends_strict plan text line e = λ front split. subst (Ends plan front) (sym e) (record { says = refl; whole = asks_none plan.messages front })

pub told_end : (plan : Plan) (a b line : List ℕ) (t u : Bool) → a ≡ b → t ≡ u → TellsEnd plan a line t → TellsEnd plan b line u
told_end plan a b line t u e f told = subst (λ (x : Bool). TellsEnd plan b line x) f (subst (λ (bs : List ℕ). TellsEnd plan bs line t) e told)

pub told_none : (plan : Plan) (a b : List ℕ) (o : Option (Bor (List ℕ))) → a ≡ b → o ≡ None → RefusesIn plan (lines_in a) o → MayStand plan (lines_in b)
told_none plan a b o e f told =
    subst (λ (x : Option (Bor (List ℕ))). RefusesIn plan (lines_in b) x) f (subst (λ (bs : List ℕ). RefusesIn plan (lines_in bs) o) e told)

-- ---- a line that says `end` begins with an `e` (101) or a blank

pub no_end : bare [] ≡ codes "end" → ⊥
no_end e = absurd (cc)

neither : (a b : Bool) → (a || b) ≡ false → (a ≡ false) × (b ≡ false)
neither true b e = absurd (false≢true (sym e))
neither false b e = (refl, e)

other_front : (b : ℕ) (more : List ℕ) → (b == 101) ≡ false → is_blank b ≡ false → unless_last b more ≡ codes "end" → ⊥
other_front b [] e f h = let one : b ∷ [] ≡ codes "end" = sym (ap (λ (t : Bool). if t then [] else b ∷ []) f) ∙ h in absurd (cc)
other_front b (c ∷ cs) e f h = let same : b ≡ 101 = cc in absurd (false≢true (sym e ∙ (Decides-eqb b 101).1 same))

by_comment : (b : ℕ) (rest : List ℕ) (t : Bool) → (b == 101) ≡ false → is_blank b ≡ false → trimmed (if t then [] else b ∷ rest) ≡ codes "end" → ⊥
by_comment b rest true e f h = absurd (cc)
by_comment b rest false e f h = other_front b (unended rest) e f (sym (ap (λ (t : Bool). unended (if t then unindented rest else b ∷ rest)) f) ∙ h)

pub other_beginning : (b : ℕ) (bs : List ℕ) → (b == 101 || is_blank b) ≡ false → bare (b ∷ bs) ≡ codes "end" → ⊥
other_beginning b bs h e = by_comment b _ (b == 35) is.0 is.1 e
  where
    is : ((b == 101) ≡ false) × (is_blank b ≡ false)
    is = neither (b == 101) (is_blank b) h
