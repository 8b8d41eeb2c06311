-- What stands behind the second of a moment.
use Rattle.std.proofs.Common.{◌≡◌, ℕ, ◌+◌, ◌-◌, ◌*◌, ◌/◌, ◌%◌, ◌≤◌, List, [], ◌∷◌, ◌++◌, codes, length, take, refl, sym, ◌∙◌, ap, arith, append_assoc, length-append}
use Rattle.std.proofs.lemmas.List.{take_at}
use Rattle.text_dates.specs.Dates.{digits, millis_text, seconds_text}

-- the point, the digits and the Z
behind : ℕ → List ℕ
behind m = codes "." ++ (digits 3 m ++ codes "Z")

long : (m : ℕ) → length (behind m) ≡ 5
unfolding digits behind
long m = refl

parts : (second : ℕ) → millis_text (second * 1000) ≡ seconds_text second ++ behind (second * 1000 % 1000)
unfolding millis_text behind
parts second =
    let m = second * 1000 % 1000 in
    let same : second * 1000 / 1000 ≡ second = omega arith in
    ap (λ (s : ℕ). seconds_text s ++ codes "." ++ digits 3 m ++ codes "Z") same
    ∙ append_assoc (seconds_text second ++ codes ".") (digits 3 m) (codes "Z") ∙ append_assoc (seconds_text second) (codes ".") (digits 3 m ++ codes "Z")

pub is_long : (text : List ℕ) (second : ℕ) → text ≡ millis_text (second * 1000) → 5 ≤ length text
is_long text second e = omega (arith, ap length e, ap length (parts second), length-append (seconds_text second) (behind (second * 1000 % 1000)), long (second * 1000 % 1000))

pub without : (text : List ℕ) (second size : ℕ) → text ≡ millis_text (second * 1000) → size ≡ length text - 5 → take size text ≡ seconds_text second
without text second size e is =
    let rest = behind (second * 1000 % 1000) in
    let place : length (seconds_text second) ≡ size =
    omega (arith, is, ap length e, ap length (parts second), length-append (seconds_text second) rest, long (second * 1000 % 1000)) in
    ap (take size) (e ∙ parts second) ∙ take_at (seconds_text second) rest size place
