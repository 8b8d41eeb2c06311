-- The choices of a set, one after another.
use Rattle.std.proofs.Common.{◌≡◌, ℕ, List, Ok, Err, refl, ap, sym, ◌∙◌, subst}
use Rattle.std.specs.Prelude.{Some, None}
use Rattle.schema_types.specs.declared.types.BitDef.{BitDef}
use Rattle.text_names.specs.Bare.{cut_at, trimmed}
use Rattle.text_names.specs.Steps.{Slips}
use Rattle.text_names.specs.Values.{Told, and_on, bit_named, parts_at, with_bit, with_choices}
use Rattle.text_names.specs.declared.mistake.Slip.{Slip}
use Rattle.text_names.specs.declared.mistake.Slip.TheVariants as slip
use Rattle.text_names.proofs.Cuts.{cut_parts, uncut_parts}

-- what a word makes of a number
abbrev pub chosen : List BitDef → ℕ → List ℕ → Told ℕ
chosen bits number word = with_bit number (trimmed word) (bit_named bits (trimmed word))

first_word : (bits : List BitDef) (text word rest : List ℕ) (number : ℕ) → cut_at 124 text ≡ Some (word, rest)
    → with_choices bits (parts_at 124 text) number ≡ and_on (chosen bits number word) (with_choices bits (parts_at 124 rest))
first_word bits text word rest number e = ap (λ (ws : List (List ℕ)). with_choices bits ws number) (cut_parts 124 text (word, rest) e)

pub first_choice : (bits : List BitDef) (text word rest : List ℕ) (number more : ℕ) → cut_at 124 text ≡ Some (word, rest) → chosen bits number word ≡ Ok more
    → with_choices bits (parts_at 124 rest) more ≡ with_choices bits (parts_at 124 text) number
first_choice bits text word rest number more e is = sym (first_word bits text word rest number e ∙ ap (λ r. and_on r (with_choices bits (parts_at 124 rest))) is)

slips_on : (told : Told ℕ) (more : ℕ → Told ℕ) (s : Slip) → Slips s told → Slips s (and_on told more)
slips_on told more (slip.Mistake wrong word) e = ap (λ r. and_on r more) e
slips_on told more slip.Memory e = tt

pub wrong_choice : (bits : List BitDef) (text word rest : List ℕ) (number : ℕ) (s : Slip) (all : Told ℕ) → cut_at 124 text ≡ Some (word, rest) → Slips s (chosen bits number word)
    → with_choices bits (parts_at 124 text) number ≡ all → Slips s all
wrong_choice bits text word rest number s all e is same =
    let told : and_on (chosen bits number word) (with_choices bits (parts_at 124 rest)) ≡ all = sym (first_word bits text word rest number e) ∙ same in
    subst (Slips s) told (slips_on (chosen bits number word) (with_choices bits (parts_at 124 rest)) s is)

one_more : (told : Told ℕ) → and_on told (λ number. Ok number) ≡ told
one_more (Ok number) = refl
one_more (Err slip) = refl

-- the last word
pub last_choice : (bits : List BitDef) (text : List ℕ) (number : ℕ) → cut_at 124 text ≡ None → with_choices bits (parts_at 124 text) number ≡ chosen bits number text
last_choice bits text number e = ap (λ (ws : List (List ℕ)). with_choices bits ws number) (uncut_parts 124 text e) ∙ one_more (chosen bits number text)
