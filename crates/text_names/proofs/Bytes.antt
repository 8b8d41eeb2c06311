-- Bytes of paths and of values without quotes: none of them is a blank, a quote, a `#`, a `=` or a line's end.
use Rattle.std.proofs.Common.{◌≡◌, ℕ, ◌==◌, Bool, true, false, ◌&&◌, not, List, [], ◌∷◌, ◌++◌, refl, ap, sym, ◌∙◌}
use Rattle.std.specs.Prelude.{◌||◌, nat_le}
use Rattle.std.proofs.lemmas.Bool.{false≢true}
use Rattle.std.proofs.lemmas.Bool.Decides.{Decides-eqb}
use Rattle.text_names.specs.Plain.{is_name, is_name_byte, are_name_bytes}
use Rattle.text_names.specs.Values.{begins_name}

pub both_left : (a b : Bool) → (a && b) ≡ true → a ≡ true
both_left true b p = refl
both_left false b p = absurd (false≢true p)

pub both_right : (a b : Bool) → (a && b) ≡ true → b ≡ true
both_right true b p = p
both_right false b p = absurd (false≢true p)

pub both : (a b : Bool) → a ≡ true → b ≡ true → (a && b) ≡ true
both true b p q = q
both false b p q = p

pub either_left : (a b : Bool) → a ≡ true → (a || b) ≡ true
either_left true b p = refl
either_left false b p = absurd (false≢true p)

pub either_right : (a b : Bool) → b ≡ true → (a || b) ≡ true
either_right true b p = refl
either_right false b p = p

-- a byte of a name, a bracket (91, 93), a minus (45), a bar (124)
abbrev pub is_plain : ℕ → Bool
is_plain b = is_name_byte b || (b == 91 || (b == 93 || (b == 45 || b == 124)))

abbrev pub are_plain : List ℕ → Bool
are_plain [] = true
are_plain (b ∷ bs) = is_plain b && are_plain bs

-- a byte of which something holds is none of which it does not
pub other_byte : (test : ℕ → Bool) (b w : ℕ) → test b ≡ true → test w ≡ false → (b == w) ≡ false
other_byte test b w h e =
    let P : Bool → Type 0 = λ t. (b == w) ≡ t → t ≡ false in
    elim (b == w) as P [ true ↦ λ s. absurd (false≢true (sym e ∙ ap test (sym ((Decides-eqb b w).0 s)) ∙ h)) | false ↦ λ s. refl ] refl

pub plain_other : (b w : ℕ) → is_plain b ≡ true → is_plain w ≡ false → (b == w) ≡ false
plain_other b w = other_byte is_plain b w

pub name_plain : (b : ℕ) → is_name_byte b ≡ true → is_plain b ≡ true
name_plain b h = either_left (is_name_byte b) _ h

pub plain_append : (xs ys : List ℕ) → are_plain xs ≡ true → are_plain ys ≡ true → are_plain (xs ++ ys) ≡ true
plain_append [] ys p q = q
plain_append (x ∷ xs) ys p q =
    both (is_plain x) (are_plain (xs ++ ys)) (both_left (is_plain x) (are_plain xs) p) (plain_append xs ys (both_right (is_plain x) (are_plain xs) p) q)

names_plain : (bs : List ℕ) → are_name_bytes bs ≡ true → are_plain bs ≡ true
names_plain [] h = refl
names_plain (b ∷ bs) h =
    both (is_plain b) (are_plain bs) (name_plain b (both_left (is_name_byte b) (are_name_bytes bs) h)) (names_plain bs (both_right (is_name_byte b) (are_name_bytes bs) h))

pub name_bytes : (name : List ℕ) → is_name name ≡ true → are_name_bytes name ≡ true
name_bytes [] h = absurd (false≢true h)
name_bytes (b ∷ bs) h =
    both (is_name_byte b) (are_name_bytes bs)
    (either_left (begins_name b) ((nat_le 48 b && nat_le b 57) || b == 46) (both_left (begins_name b) (are_name_bytes bs) h))
    (both_right (begins_name b) (are_name_bytes bs) h)

pub name_is_plain : (name : List ℕ) → is_name name ≡ true → are_plain name ≡ true
name_is_plain name h = names_plain name (name_bytes name h)

-- ---- a byte that does not stand in a text

abbrev pub lacks : ℕ → List ℕ → Bool
lacks w [] = true
lacks w (b ∷ bs) = not (b == w) && lacks w bs

pub not_false : (t : Bool) → t ≡ false → not t ≡ true
not_false true e = absurd (false≢true (sym e))
not_false false e = refl

pub lacks_append : (w : ℕ) (xs ys : List ℕ) → lacks w xs ≡ true → lacks w ys ≡ true → lacks w (xs ++ ys) ≡ true
lacks_append w [] ys p q = q
lacks_append w (x ∷ xs) ys p q =
    both (not (x == w)) (lacks w (xs ++ ys)) (both_left (not (x == w)) (lacks w xs) p) (lacks_append w xs ys (both_right (not (x == w)) (lacks w xs) p) q)

pub plain_lacks : (w : ℕ) → is_plain w ≡ false → (bs : List ℕ) → are_plain bs ≡ true → lacks w bs ≡ true
plain_lacks w e [] h = refl
plain_lacks w e (b ∷ bs) h =
    both (not (b == w)) (lacks w bs) (not_false (b == w) (plain_other b w (both_left (is_plain b) (are_plain bs) h) e)) (plain_lacks w e bs (both_right (is_plain b) (are_plain bs) h))

pub names_lack : (w : ℕ) → is_name_byte w ≡ false → (bs : List ℕ) → are_name_bytes bs ≡ true → lacks w bs ≡ true
names_lack w e [] h = refl
names_lack w e (b ∷ bs) h =
    both (not (b == w)) (lacks w bs) (not_false (b == w) (other_byte is_name_byte b w (both_left (is_name_byte b) (are_name_bytes bs) h) e)) (names_lack w e bs (both_right (is_name_byte b) (are_name_bytes bs) h))
