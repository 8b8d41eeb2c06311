-- Bytes that are written in quotes are read as they were.
use Rattle.std.proofs.Common.{◌≡◌, ℕ, ◌==◌, Bool, true, false, List, [], ◌∷◌, ◌++◌, refl, ap, sym, ◌∙◌, subst, append_assoc}
use Rattle.std.specs.Prelude.{Some, Ok, if◌then◌else◌}
use Rattle.std.proofs.lemmas.Bool.{false≢true}
use Rattle.std.proofs.lemmas.Bool.Decides.{Decides-eqb}
use Rattle.sbe_text.specs.Held.{is_word}
use Rattle.text_names.specs.Bare.{uncommented}
use Rattle.text_names.specs.declared.bare.Quote.TheVariants.{Outside, Inside, Escaped}
use Rattle.text_names.specs.Quotes.{characters, ended, escape, escaped, in_quotes, led_by, shown, unquoted}
use Rattle.text_names.proofs.Bytes.{both, not_false}
use Rattle.text_names.proofs.Lined.{IsQuiet}
use Rattle.text_names.proofs.Taken.{word_append}

-- what is shown of a byte is its own kind, or itself where it is no byte of those
record IsShownSo (b : ℕ) : Type 0 where
  reads : (rest : List ℕ) → characters (shown b ++ rest) ≡ led_by (Some b) (characters rest)
  kept : (rest : List ℕ) → uncommented Inside rest ≡ rest → uncommented Inside (shown b ++ rest) ≡ shown b ++ rest
  word : is_word (shown b) ≡ true

shown_quote : IsShownSo 34
shown_quote = record { reads = λ rest. refl; kept = λ rest h. ap (λ (xs : List ℕ). 92 ∷ 34 ∷ xs) h; word = refl }

shown_slash : IsShownSo 92
shown_slash = record { reads = λ rest. refl; kept = λ rest h. ap (λ (xs : List ℕ). 92 ∷ 92 ∷ xs) h; word = refl }

shown_feed : IsShownSo 10
shown_feed = record { reads = λ rest. refl; kept = λ rest h. ap (λ (xs : List ℕ). 92 ∷ 110 ∷ xs) h; word = refl }

shown_return : IsShownSo 13
shown_return = record { reads = λ rest. refl; kept = λ rest h. ap (λ (xs : List ℕ). 92 ∷ 114 ∷ xs) h; word = refl }

shown_tab : IsShownSo 9
shown_tab = record { reads = λ rest. refl; kept = λ rest h. ap (λ (xs : List ℕ). 92 ∷ 116 ∷ xs) h; word = refl }

same_read : (b : ℕ) (rest : List ℕ) (t u : Bool) → t ≡ false → u ≡ false → (if t then ended rest else (if u then escape rest else led_by (Some b) (characters rest))) ≡ led_by (Some b) (characters rest)
same_read b rest true u e f = absurd (false≢true (sym e))
same_read b rest false true e f = absurd (false≢true (sym f))
same_read b rest false false e f = refl

same_kept : (b : ℕ) (rest : List ℕ) (t u : Bool) → t ≡ false → u ≡ false → uncommented Inside rest ≡ rest → b ∷ uncommented (if t then Outside else (if u then Escaped else Inside)) rest ≡ b ∷ rest
same_kept b rest true u e f h = absurd (false≢true (sym e))
same_kept b rest false true e f h = absurd (false≢true (sym f))
same_kept b rest false false e f h = ap (λ (xs : List ℕ). b ∷ xs) h

shown_other : (b : ℕ) → (b == 34) ≡ false → (b == 92) ≡ false → (b == 10) ≡ false → (b == 13) ≡ false → shown b ≡ b ∷ [] → IsShownSo b
shown_other b q s f r e = record {
  reads = λ rest. ap (λ (xs : List ℕ). characters (xs ++ rest)) e ∙ same_read b rest (b == 34) (b == 92) q s;
  kept = λ rest h. ap (λ (xs : List ℕ). uncommented Inside (xs ++ rest)) e ∙ same_kept b rest (b == 34) (b == 92) q s h ∙ ap (λ (xs : List ℕ). xs ++ rest) (sym e);
  word = ap is_word e ∙ both _ true (both _ _ (not_false (b == 10) f) (not_false (b == 13) r)) refl;
}

shown_is : (b : ℕ) → IsShownSo b
shown_is b = by_quote (b == 34) refl (b == 92) refl (b == 10) refl (b == 13) refl (b == 9) refl
  where
    same : (w : ℕ) → (b == w) ≡ true → IsShownSo w → IsShownSo b
    same w h s = subst IsShownSo (sym ((Decides-eqb b w).0 h)) s

    by_quote : (q : Bool) → (b == 34) ≡ q → (s : Bool) → (b == 92) ≡ s → (f : Bool) → (b == 10) ≡ f → (r : Bool) → (b == 13) ≡ r → (t : Bool) → (b == 9) ≡ t → IsShownSo b
    by_quote true hq s hs f hf r hr t ht = same 34 hq shown_quote
    by_quote false hq true hs f hf r hr t ht = same 92 hs shown_slash
    by_quote false hq false hs true hf r hr t ht = same 10 hf shown_feed
    by_quote false hq false hs false hf true hr t ht = same 13 hr shown_return
    by_quote false hq false hs false hf false hr true ht = same 9 ht shown_tab
    by_quote false hq false hs false hf false hr false ht = shown_other b hq hs hf hr (rw (hq, hs, hf, hr, ht) refl)

escaped_characters : (bytes : List ℕ) → characters (escaped bytes ++ 34 ∷ []) ≡ Ok bytes
escaped_characters [] = refl
escaped_characters (b ∷ bs) =
    ap characters (append_assoc (shown b) (escaped bs) (34 ∷ [])) ∙ (shown_is b).reads (escaped bs ++ 34 ∷ []) ∙ ap (led_by (Some b)) (escaped_characters bs)

pub quotes_read : (bytes : List ℕ) → unquoted (in_quotes bytes) ≡ Some (Ok bytes)
quotes_read bytes = ap (λ r. Some r) (escaped_characters bytes)

escaped_kept : (bytes : List ℕ) → uncommented Inside (escaped bytes ++ 34 ∷ []) ≡ escaped bytes ++ 34 ∷ []
escaped_kept [] = refl
escaped_kept (b ∷ bs) =
    ap (uncommented Inside) (append_assoc (shown b) (escaped bs) (34 ∷ [])) ∙ (shown_is b).kept (escaped bs ++ 34 ∷ []) (escaped_kept bs) ∙ sym (append_assoc (shown b) (escaped bs) (34 ∷ []))

pub quotes_quiet : (bytes : List ℕ) → IsQuiet (in_quotes bytes)
quotes_quiet bytes = record {
  kept = ap (λ (xs : List ℕ). 34 ∷ xs) (escaped_kept bytes);
  begins = record { first = 34; rest = escaped bytes ++ 34 ∷ []; split = refl; dark = refl };
  ends = record { front = 34 ∷ escaped bytes; last = 34; split = refl; dark = refl };
}

escaped_word : (bytes : List ℕ) → is_word (escaped bytes) ≡ true
escaped_word [] = refl
escaped_word (b ∷ bs) = word_append (shown b) (escaped bs) (shown_is b).word (escaped_word bs)

pub quotes_word : (bytes : List ℕ) → is_word (in_quotes bytes) ≡ true
quotes_word bytes = word_append (escaped bytes) (34 ∷ []) (escaped_word bytes) refl
