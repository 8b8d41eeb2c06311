-- Lines that tell of an applied message, part by part.
use Rattle.std.proofs.Common.{◌≡◌, ℕ, suc, ◌+◌, ◌*◌, ◌<◌, ◌≤◌, ◌^◌, List, [], ◌∷◌, ◌++◌, length, ap, sym, ◌∙◌, append_assoc, length-append, codes, decimal, arith}
use Rattle.std.specs.Prelude.{Ok}
use Rattle.std.proofs.lemmas.List.{append_cancel_left, append_cancel_right}
use Rattle.std.proofs.lemmas.Fmt.{length-decimal-le}
use Rattle.hex.specs.Hex.{decode_of, encode_lower, lower_digits}
use Rattle.hex.proofs.HexLemmas.{decode_of-encode_lower, decode_of-ok, decode_of-same, length-encode_with}
use Rattle.conn_lines.specs.Lines.{deliver_line}
use Rattle.conn_tail.specs.Tails.{IsDeliver, TellsNothing}

-- a line that tells of an applied message, without its line feed
front : (line : List ℕ) (number : ℕ) → (h : IsDeliver line number) → line ≡ codes "deliver " ++ (decimal number ++ 32 ∷ encode_lower h.payload)
front line number h =
    append_cancel_right line (codes "deliver " ++ decimal number ++ codes " " ++ encode_lower h.payload) (10 ∷ []) h.written
    ∙ append_assoc (codes "deliver " ++ decimal number) (codes " ") (encode_lower h.payload) ∙ append_assoc (codes "deliver ") (decimal number) (codes " " ++ encode_lower h.payload)

-- what stands behind the first word
behind : (line rest : List ℕ) (number : ℕ) → (h : IsDeliver line number) → line ≡ codes "deliver " ++ rest → rest ≡ decimal number ++ 32 ∷ encode_lower h.payload
behind line rest number h e = append_cancel_left (codes "deliver ") rest (decimal number ++ 32 ∷ encode_lower h.payload) (sym e ∙ front line number h)

pub no_word : (line : List ℕ) → ((rest : List ℕ) → line ≡ codes "deliver " ++ rest → ⊥) → TellsNothing line
no_word line none number h = none (decimal number ++ 32 ∷ encode_lower h.payload) (front line number h)

pub no_number : (line rest : List ℕ) → line ≡ codes "deliver " ++ rest → ((n : ℕ) (digits : List ℕ) → n < 2 ^ 64 → rest ≡ decimal n ++ 32 ∷ digits → ⊥) → TellsNothing line
no_number line rest e none number h = none number (encode_lower h.payload) h.size (behind line rest number h e)

pub no_payload : (line rest digits : List ℕ) (n : ℕ) → line ≡ codes "deliver " ++ rest
    → ((m : ℕ) (more : List ℕ) → m < 2 ^ 64 → rest ≡ decimal m ++ 32 ∷ more → (m ≡ n) × (more ≡ digits))
    → ((bytes : List ℕ) → length bytes ≤ 16386 → decode_of digits ≡ Ok bytes → ⊥) → TellsNothing line
no_payload line rest digits n e only none number h =
    let same = only number (encode_lower h.payload) h.size (behind line rest number h e) in
    none h.payload h.short (ap decode_of (sym same.1) ∙ decode_of-encode_lower h.payload h.each)

pub not_written : (line rest digits payload : List ℕ) (n : ℕ) → line ≡ codes "deliver " ++ rest
    → ((m : ℕ) (more : List ℕ) → m < 2 ^ 64 → rest ≡ decimal m ++ 32 ∷ more → (m ≡ n) × (more ≡ digits))
    → decode_of digits ≡ Ok payload → (line ++ 10 ∷ [] ≡ deliver_line n payload → ⊥) → TellsNothing line
not_written line rest digits payload n e only spelled none number h =
    let same = only number (encode_lower h.payload) h.size (behind line rest number h e) in
    let bytes : h.payload ≡ payload = decode_of-same digits h.payload payload (ap decode_of (sym same.1) ∙ decode_of-encode_lower h.payload h.each) spelled in
    none (h.written ∙ ap (λ (k : ℕ). deliver_line k h.payload) same.0 ∙ ap (deliver_line n) bytes)

-- a line of more bytes tells of no applied message
pub too_long : (line : List ℕ) → 32801 < length line → TellsNothing line
too_long line long number h =
    let word : length (decimal number) ≤ 20 = length-decimal-le 20 number (omega arith) (omega (arith, h.size)) h.size in
    let digits : length (encode_lower h.payload) ≡ 2 * length h.payload = length-encode_with lower_digits h.payload in
    let size : length line ≡ 8 + length (decimal number ++ 32 ∷ encode_lower h.payload) = ap length (front line number h) ∙ length-append (codes "deliver ") (decimal number ++ 32 ∷ encode_lower h.payload) in
    numbers (length line) (length (decimal number)) (length (encode_lower h.payload)) (length h.payload) long word digits h.short
    (size ∙ ap (λ (k : ℕ). 8 + k) (length-append (decimal number) (32 ∷ encode_lower h.payload)))
  where
    numbers : (line word digits payload : ℕ) → 32801 < line → word ≤ 20 → digits ≡ 2 * payload → payload ≤ 16386 → line ≡ 8 + (word + suc digits) → ⊥
    numbers line word digits payload long few twice short size = omega arith

-- a line that is written of a number and of what its digits spell
pub is_deliver : (line digits bytes lent : List ℕ) (n : ℕ) → n < 2 ^ 64 → length bytes ≤ 16386 → decode_of digits ≡ Ok bytes → lent ≡ bytes → line ++ 10 ∷ [] ≡ deliver_line n lent → IsDeliver line n
is_deliver line digits bytes lent n small short spelled same written = record {
  size = small;
  payload = bytes;
  short = short;
  each = (decode_of-ok digits bytes spelled).3;
  written = written ∙ ap (deliver_line n) same;
}
