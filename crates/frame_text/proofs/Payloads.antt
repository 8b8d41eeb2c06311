-- A payload in hexadecimal, part by part.
use Rattle.std.proofs.Common.{◌≡◌, ℕ, ◌/◌, ◌%◌, List, [], ◌∷◌, ◌++◌, refl, ap, sym, ◌∙◌, append_assoc}
use Rattle.std.specs.Prelude.{slice_index}
use Rattle.std.specs.Int.{w16, to_be_bytes}
use Rattle.sbe_prim.specs.declared.Order.{Order}
use Rattle.sofh_frame.specs.Framing.{encoding_of}
use Rattle.fixp_msgs.specs.Numbering.{payload_of}
use Rattle.hex.specs.Hex.{encode_with, encode_lower, lower_digits}

encode_with-append : (t xs ys : List ℕ) → encode_with t (xs ++ ys) ≡ encode_with t xs ++ encode_with t ys
unfolding encode_with
encode_with-append t [] ys = refl
encode_with-append t (x ∷ xs) ys = ap (λ (rest : List ℕ). slice_index t (x / 16) ∷ slice_index t (x % 16) ∷ rest) (encode_with-append t xs ys)

-- the encoding type and the message, behind other lines
pub joined : (start message : List ℕ) (order : Order)
    → start ++ encode_lower (to_be_bytes w16 (encoding_of order)) ++ encode_lower message ≡ start ++ encode_lower (payload_of (record { order = order; message = message }))
joined start message order =
    append_assoc start (encode_lower (to_be_bytes w16 (encoding_of order))) (encode_lower message)
    ∙ ap (λ (hex : List ℕ). start ++ hex) (sym (encode_with-append lower_digits (to_be_bytes w16 (encoding_of order)) message))

-- a word and a number, and the end
pub truncated-parts : (start one two word part end : List ℕ) → one ≡ start ++ (word ++ part) → two ≡ one ++ end → two ≡ start ++ (word ++ part ++ end)
truncated-parts start one two word part end p q = rw (q, p) (simp append_assoc)

-- a word and a number, three times
pub short-parts : (start one two three four w1 p1 w2 p2 w3 p3 : List ℕ) → one ≡ start ++ (w1 ++ p1) → two ≡ one ++ (w2 ++ p2) → three ≡ two ++ w3 → four ≡ three ++ p3
    → four ≡ start ++ (w1 ++ p1 ++ w2 ++ p2 ++ w3 ++ p3)
short-parts start one two three four w1 p1 w2 p2 w3 p3 p q r s = rw (s, r, q, p) (simp append_assoc)
