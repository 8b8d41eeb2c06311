-- Two digits, times of day of them, and what a word says.
use Rattle.std.proofs.Common.{◌≡◌, ◌⊎◌, inl, inr, ℕ, ◌+◌, ◌*◌, ◌/◌, ◌%◌, ◌<◌, ◌≤◌, true, false, List, [], ◌∷◌, ◌++◌, length, refl, sym, ◌∙◌, ap, arith, append_assoc, length-append}
use Rattle.std.proofs.lemmas.Bool.Decides.{nat_tests}
use Rattle.std.specs.Prelude.{codes}
use Rattle.std.specs.Bool.{◌==◌}
use Rattle.text_dates.specs.Dates.{digits, time_text}
use Rattle.jr_shown.specs.declared.choice.Begin.{Begin}
use Rattle.jr_shown.specs.declared.choice.Begin.TheVariants as begins
use Rattle.jr_shown.specs.Words.{IsBegin, SaysLast, SaysNumber, SaysTime}

-- ---- two digits

-- the first of them is missing
pub none_first : (text : List ℕ) (n : ℕ) (rest : List ℕ) → ((m : ℕ) (behind : List ℕ) → m < 10 → text ≡ (48 + m) ∷ behind → ⊥) → text ≡ digits 2 n ++ rest → ⊥
unfolding digits
none_first text n rest none e = none (n / 10 % 10) ((48 + n % 10) ∷ rest) (omega arith) e

-- or the second
pub none_second : (text behind : List ℕ) (tens n : ℕ) (rest : List ℕ) → text ≡ (48 + tens) ∷ behind → ((m : ℕ) (more : List ℕ) → m < 10 → behind ≡ (48 + m) ∷ more → ⊥) → text ≡ digits 2 n ++ rest → ⊥
unfolding digits
none_second text behind tens n rest first none e =
    let both : (48 + tens) ∷ behind ≡ (48 + n / 10 % 10) ∷ (48 + n % 10) ∷ rest = sym first ∙ e in
    let second : behind ≡ (48 + n % 10) ∷ rest = cc in
    none (n % 10) rest (omega arith) second

pub two_found : (text behind rest : List ℕ) (tens ones : ℕ) → tens < 10 → ones < 10 → text ≡ (48 + tens) ∷ behind → behind ≡ (48 + ones) ∷ rest → text ≡ digits 2 (tens * 10 + ones) ++ rest
unfolding digits
two_found text behind rest tens ones few less first second =
    let n = tens * 10 + ones in
    let high : tens ≡ n / 10 % 10 = omega (arith, few, less) in
    let low : ones ≡ n % 10 = omega (arith, few, less) in
    first ∙ ap (λ (l : List ℕ). (48 + tens) ∷ l) second ∙ ap (λ (k : ℕ). (48 + k) ∷ (48 + ones) ∷ rest) high ∙ ap (λ (k : ℕ). (48 + n / 10 % 10) ∷ (48 + k) ∷ rest) low

-- they are no number below this one
pub two_great : (text behind more : List ℕ) (tens ones below n : ℕ) (rest : List ℕ) → tens < 10 → ones < 10 → text ≡ (48 + tens) ∷ behind → behind ≡ (48 + ones) ∷ more → below ≤ tens * 10 + ones
    → below ≤ 100 → n < below → text ≡ digits 2 n ++ rest → ⊥
unfolding digits
two_great text behind more tens ones below n rest few less first second great small lower e =
    let both : (48 + tens) ∷ (48 + ones) ∷ more ≡ (48 + n / 10 % 10) ∷ (48 + n % 10) ∷ rest = ap (λ (l : List ℕ). (48 + tens) ∷ l) (sym second) ∙ sym first ∙ e in
    let high : 48 + tens ≡ 48 + n / 10 % 10 = cc in
    let low : 48 + ones ≡ 48 + n % 10 = cc in
    omega (arith, high, low, few, less, great, small, lower)

-- two numbers of two digits at the front of one text are one
pub same_digits : (a b : ℕ) (x y : List ℕ) → a < 100 → b < 100 → digits 2 a ++ x ≡ digits 2 b ++ y → (a ≡ b) × (x ≡ y)
unfolding digits
same_digits a b x y small_a small_b e =
    let high : 48 + a / 10 % 10 ≡ 48 + b / 10 % 10 = cc in
    let low : 48 + a % 10 ≡ 48 + b % 10 = cc in
    let same : x ≡ y = cc in
    (omega (arith, high, low, small_a, small_b), same)

length_two : (n : ℕ) → length (digits 2 n) ≡ 2
unfolding digits
length_two n = refl

zeros : codes ":00" ≡ 58 ∷ digits 2 0
unfolding digits
zeros = refl

-- ---- times of day

time_is : (seconds : ℕ) → time_text seconds ≡ digits 2 (seconds / 3600) ++ 58 ∷ (digits 2 (seconds / 60 % 60) ++ 58 ∷ digits 2 (seconds % 60))
unfolding time_text
time_is seconds =
    let h = digits 2 (seconds / 3600) in
    let m = digits 2 (seconds / 60 % 60) in
    let s = digits 2 (seconds % 60) in
    append_assoc (h ++ codes ":" ++ m) (codes ":") s ∙ append_assoc (h ++ codes ":") m (codes ":" ++ s) ∙ append_assoc h (codes ":") (m ++ (codes ":" ++ s))

written : (h m s : ℕ) → m < 60 → s < 60 → time_text (h * 3600 + m * 60 + s) ≡ digits 2 h ++ 58 ∷ (digits 2 m ++ 58 ∷ digits 2 s)
written h m s few less =
    let n = h * 3600 + m * 60 + s in
    let hours : n / 3600 ≡ h = omega (arith, few, less) in
    let minutes : n / 60 % 60 ≡ m = omega (arith, few, less) in
    let seconds : n % 60 ≡ s = omega (arith, few, less) in
    time_is n ∙ ap (λ (k : ℕ). digits 2 k ++ 58 ∷ (digits 2 (n / 60 % 60) ++ 58 ∷ digits 2 (n % 60))) hours
    ∙ ap (λ (k : ℕ). digits 2 h ++ 58 ∷ (digits 2 k ++ 58 ∷ digits 2 (n % 60))) minutes ∙ ap (λ (k : ℕ). digits 2 h ++ 58 ∷ (digits 2 m ++ 58 ∷ digits 2 k)) seconds

-- the parts of a word, from its front on
pub says_time : (word one two three : List ℕ) (h m s : ℕ) → h < 24 → m < 60 → s < 60 → word ≡ digits 2 h ++ one → one ≡ 58 ∷ two → two ≡ digits 2 m ++ three
    → (three ≡ 58 ∷ digits 2 s) ⊎ ((s ≡ 0) × (three ≡ [])) → SaysTime word (h * 3600 + m * 60 + s)
says_time word one two three h m s early few less p q r last = record {
  within = omega (arith, early, few, less);
  written = elim last [
    | inl e ↦ inl (start ∙ ap (λ (l : List ℕ). digits 2 h ++ 58 ∷ (digits 2 m ++ l)) e ∙ sym (written h m s few less))
    | inr e ↦ inr (
        ap (λ (l : List ℕ). l ++ codes ":00") (start ∙ ap (λ (l : List ℕ). digits 2 h ++ 58 ∷ (digits 2 m ++ l)) e.1)
        ∙ append_assoc (digits 2 h) (58 ∷ (digits 2 m ++ [])) (codes ":00")
        ∙ ap (λ (l : List ℕ). digits 2 h ++ 58 ∷ l) (append_assoc (digits 2 m) [] (codes ":00") ∙ ap (λ (l : List ℕ). digits 2 m ++ l) (zeros ∙ ap (λ (k : ℕ). 58 ∷ digits 2 k) (sym e.0)))
        ∙ sym (written h m s few less)
        )
  ];
}
  where
    start : word ≡ digits 2 h ++ 58 ∷ (digits 2 m ++ three)
    start = p ∙ ap (λ (l : List ℕ). digits 2 h ++ l) (q ∙ ap (λ (l : List ℕ). 58 ∷ l) r)

-- a word that says a time has these parts
pub record Parts (word : List ℕ) (seconds : ℕ) : Type 0 where
  pub behind_hours : List ℕ
  pub behind_minutes : List ℕ
  pub early : seconds / 3600 < 24
  pub few : seconds / 60 % 60 < 60
  pub less : seconds % 60 < 60
  pub hours : word ≡ digits 2 (seconds / 3600) ++ behind_hours
  pub minutes : behind_hours ≡ 58 ∷ (digits 2 (seconds / 60 % 60) ++ behind_minutes)
  pub last : (behind_minutes ≡ []) ⊎ (behind_minutes ≡ 58 ∷ digits 2 (seconds % 60))

-- what stands in front of two ends of one length is one
same_front : (a b x y : List ℕ) → length x ≡ length y → a ++ x ≡ b ++ y → a ≡ b
same_front [] [] x y size e = refl
same_front [] (c ∷ b) x y size e = absurd (omega (arith, size, ap length e, length-append b y))
same_front (c ∷ a) [] x y size e = absurd (omega (arith, size, ap length e, length-append a x))
same_front (c ∷ a) (d ∷ b) x y size e =
    let head : c ≡ d = cc in
    let tails : a ++ x ≡ b ++ y = cc in
    let rest = same_front a b x y size tails in
    cc (head, rest)

pub parts : (word : List ℕ) (seconds : ℕ) → SaysTime word seconds → Parts word seconds
parts word seconds says =
    let h = seconds / 3600 in
    let m = seconds / 60 % 60 in
    let s = seconds % 60 in
    elim says.written as (λ _. Parts word seconds) [
      | inl e ↦ record {
        behind_hours = 58 ∷ (digits 2 m ++ 58 ∷ digits 2 s);
        behind_minutes = 58 ∷ digits 2 s;
        early = omega (arith, says.within);
        few = omega arith;
        less = omega arith;
        hours = e ∙ time_is seconds;
        minutes = refl;
        last = inr refl;
      }
      | inr e ↦ record {
        behind_hours = 58 ∷ (digits 2 m ++ []);
        behind_minutes = [];
        early = omega (arith, says.within);
        few = omega arith;
        less = omega arith;
        hours =
            same_front word (digits 2 h ++ 58 ∷ (digits 2 m ++ [])) (codes ":00") (58 ∷ digits 2 s) (omega (arith, length_two s))
            (e ∙ time_is seconds
            ∙ sym (append_assoc (digits 2 h) (58 ∷ (digits 2 m ++ [])) (58 ∷ digits 2 s) ∙ ap (λ (l : List ℕ). digits 2 h ++ 58 ∷ l) (append_assoc (digits 2 m) [] (58 ∷ digits 2 s))));
        minutes = refl;
        last = inl refl;
      }
    ]

-- ---- words

pub nothing : (xs : List ℕ) → true ≡ (length xs == 0) → xs ≡ []
nothing [] e = refl
nothing (x ∷ xs) e = absurd (grind (arith, nat_tests, e))

pub something : (xs : List ℕ) → false ≡ (length xs == 0) → xs ≡ [] → ⊥
something [] e none = grind (arith, nat_tests, e)
something (x ∷ xs) e none = cc (none)

-- a word says no first record that is neither a time, nor a number, nor one from the last
pub says_nothing : (word : List ℕ) → ((seconds : ℕ) → SaysTime word seconds → ⊥) → ((n : ℕ) → SaysNumber word n → ⊥) → ((n : ℕ) → SaysLast word n → ⊥) → (begin : Begin) → IsBegin word begin → ⊥
says_nothing word no_time no_number no_last (begins.Number n) says = no_number n says
says_nothing word no_time no_number no_last (begins.Last n) says = no_last n says
says_nothing word no_time no_number no_last (begins.TimeOfDay time) says = no_time says.0 says.2
