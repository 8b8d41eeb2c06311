-- What is read of the lines of a text, one after another (this project's profile).
use Rattle.std.specs.Prelude.{ℕ, Option, Some, None, Result, Ok, Err, List, [], ◌∷◌, length}

-- what is read of the lines left, and the lines behind it; or how many are left at a line that is refused, this one among
-- them, and none where the text ended too early
abbrev pub Read : Type 0 → Type 0
Read A = Result (A × List (List ℕ)) ℕ

-- what is read, and then something of the lines behind it
abbrev pub next : {A B : Type 0} → Read A → (A → List (List ℕ) → Read B) → Read B
next (Ok read) more = more read.0 read.1
next (Err left) more = Err left

-- what a line makes, if it may stand there
abbrev pub taken : {A : Type 0} → ℕ → Option A → List (List ℕ) → Read A
taken left None rest = Err left
taken left (Some made) rest = Ok (made, rest)

-- the first line, where it makes something
abbrev pub read_line : {A : Type 0} → (List ℕ → Option A) → List (List ℕ) → Read A
read_line made [] = Err 0
read_line made (line ∷ rest) = taken (length (line ∷ rest)) (made line) rest

-- what each of some plans tells, one after another
abbrev pub read_each : {P A : Type 0} → (P → List (List ℕ) → Read A) → List P → List (List ℕ) → Read (List A)
read_each one [] ls = Ok ([], ls)
read_each one (p ∷ ps) ls = next (one p ls) (λ x rest. next (read_each one ps rest) (λ xs end. Ok (x ∷ xs, end)))
