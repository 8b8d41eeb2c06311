-- Bytes of a text in quotes that are read, before those that are left.
use Rattle.std.proofs.Common.{◌≡◌, ℕ, ◌+◌, ◌<◌, List, [], ◌∷◌, ◌++◌, length, drop, get_or, refl, ap, sym, ◌∙◌, append_assoc}
use Rattle.std.specs.Prelude.{Some, Ok, Err}
use Rattle.std.proofs.lemmas.List.{drop_more}
use Rattle.text_names.specs.Quotes.{Unquoted, characters, led_by}
use Rattle.text_names.specs.Unquoting.{goes_on, left_at, led_by_all}
use Rattle.text_names.specs.declared.quotes.Place.{Place}
use Rattle.text_names.specs.declared.quotes.Seen.{Seen}
use Rattle.text_names.specs.declared.quotes.Seen.TheVariants as seen

-- none yet
pub led_none : (told : Unquoted) → led_by_all [] told ≡ told
led_none (Ok bytes) = refl
led_none (Err wrong) = refl

-- one more
led_byte : (room : List ℕ) (b : ℕ) (told : Unquoted) → led_by_all room (led_by (Some b) told) ≡ led_by_all (room ++ b ∷ []) told
led_byte room b (Ok bytes) = ap (λ (bs : List ℕ). Ok bs) (sym (append_assoc room (b ∷ []) bytes))
led_byte room b (Err wrong) = refl

-- the byte at a place is read
at_place : (text room : List ℕ) (i : ℕ) (place : Place) (read : Seen) → i < length text → ((bs : List ℕ) → left_at place (get_or text i 0 ∷ bs) ≡ goes_on read bs)
    → led_by_all room (left_at place (drop i text)) ≡ led_by_all room (goes_on read (drop (i + 1) text))
at_place text room i place read inside next =
    ap (λ (bs : List ℕ). led_by_all room (left_at place bs)) (drop_more text i 0 inside) ∙ ap (led_by_all room) (next (drop (i + 1) text))

pub byte_read : (text room : List ℕ) (i b : ℕ) (place : Place) (read : Seen) → i < length text → ((bs : List ℕ) → left_at place (get_or text i 0 ∷ bs) ≡ goes_on read bs) → read ≡ seen.Byte b
    → led_by_all room (left_at place (drop i text)) ≡ characters text → led_by_all (room ++ b ∷ []) (characters (drop (i + 1) text)) ≡ characters text
byte_read text room i b place read inside next is before =
    sym (led_byte room b (characters (drop (i + 1) text))) ∙ sym (ap (λ s. led_by_all room (goes_on s (drop (i + 1) text))) is) ∙ sym (at_place text room i place read inside next) ∙ before

pub part_read : (text room : List ℕ) (i : ℕ) (place behind : Place) (read : Seen) → i < length text → ((bs : List ℕ) → left_at place (get_or text i 0 ∷ bs) ≡ goes_on read bs) → read ≡ seen.Part behind
    → led_by_all room (left_at place (drop i text)) ≡ characters text → led_by_all room (left_at behind (drop (i + 1) text)) ≡ characters text
part_read text room i place behind read inside next is before =
    sym (ap (λ s. led_by_all room (goes_on s (drop (i + 1) text))) is) ∙ sym (at_place text room i place read inside next) ∙ before
