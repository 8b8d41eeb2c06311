-- Hexadecimal text, part by part.
use Rattle.std.proofs.Common.{◌≡◌, ℕ, ◌/◌, ◌%◌, List, [], ◌∷◌, ◌++◌, refl, ap, sym, ◌∙◌, append_assoc, codes}
use Rattle.std.specs.Prelude.{slice_index, decimal}
use Rattle.std.specs.Int.{w16, to_be_bytes}
use Rattle.sbe_prim.specs.declared.Order.{Order}
use Rattle.sofh_frame.specs.Framing.{encoding_of}
use Rattle.fixp_msgs.specs.Numbering.{payload_of}
use Rattle.hex.specs.Hex.{encode_with, encode_lower, lower_digits}

pub encode_with-append : (t xs ys : List ℕ) → encode_with t (xs ++ ys) ≡ encode_with t xs ++ encode_with t ys
unfolding encode_with
encode_with-append t [] ys = refl
encode_with-append t (x ∷ xs) ys = ap (λ (rest : List ℕ). slice_index t (x / 16) ∷ slice_index t (x % 16) ∷ rest) (encode_with-append t xs ys)

regroup : (s a b c d e f : List ℕ) → s ++ (a ++ b) ++ c ++ d ++ e ++ f ≡ s ++ (a ++ b ++ c ++ (d ++ e) ++ f)
regroup s a b c d e f = simp append_assoc

-- the line of a message, given its frame, from its parts
pub frame_line : (start end : List ℕ) (message : List ℕ) (number : ℕ) (order : Order)
    → start ++ (codes "deliver " ++ decimal number) ++ codes " " ++ encode_lower (to_be_bytes w16 (encoding_of order)) ++ encode_lower message ++ end
    ≡ start ++ (codes "deliver " ++ decimal number ++ codes " " ++ encode_lower (payload_of (record { order = order; message = message })) ++ end)
frame_line start end message number order =
    regroup start (codes "deliver ") (decimal number) (codes " ") (encode_lower (to_be_bytes w16 (encoding_of order))) (encode_lower message) end
    ∙ ap (λ (hex : List ℕ). start ++ (codes "deliver " ++ decimal number ++ codes " " ++ hex ++ end)) (sym (encode_with-append lower_digits (to_be_bytes w16 (encoding_of order)) message))
