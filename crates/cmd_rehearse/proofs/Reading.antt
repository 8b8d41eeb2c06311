-- What a text says, where so much of it was read as tells that.
use Rattle.std.proofs.Common.{◌≡◌, ℕ, ◌≤◌, Bool, true, false, nat_le, List, [], ◌++◌, length, cond, Option, Some, None, Result, Ok, Err, refl, sym, ap, subst, ◌∙◌, arith, append-nil, length-append}
use Rattle.std.proofs.lemmas.Bool.Decides.{nat_tests}
use Rattle.std.specs.Io.KnownBytes.{Consumes, IsAtEnd}
use Rattle.schema_toml.specs.declared.fault.ConfigFault.{ConfigFault}
use Rattle.schema_toml.specs.declared.fault.ConfigFault.TheVariants.{TooLong}
use Rattle.schema_toml.specs.Faults.{text_limit, limited, of_text}
use Rattle.cmd_script.specs.declared.script.Script.{Script}
use Rattle.cmd_script.specs.Script.{script_of_document, script_of_text}

-- a text that is too long, and a beginning of it that is
both_long : {A : Type 0} (f : List ℕ → Result A ConfigFault) (items more : List ℕ) → nat_le (length items) text_limit ≡ false → limited f items ≡ limited f (items ++ more)
both_long f items more long =
    let longer : nat_le (length (items ++ more)) text_limit ≡ false = grind (arith, nat_tests, length-append items more, long) in
    ap (λ (b : Bool). cond b (f items) (Err TooLong)) long ∙ sym (ap (λ (b : Bool). cond b (f (items ++ more)) (Err TooLong)) longer)

by_length : {A : Type 0} (f : List ℕ → Result A ConfigFault) (items more : List ℕ) (b : Bool) → nat_le (length items) text_limit ≡ b → (length items ≤ text_limit → more ≡ []) → limited f items ≡ limited f (items ++ more)
by_length f items more false long ends = both_long f items more long
by_length f items more true short ends =
    let none : more ≡ [] = ends (grind (arith, nat_tests, short)) in
    ap (limited f) (sym (ap (λ (ys : List ℕ). items ++ ys) none ∙ append-nil items))

read_of : {A : Type 0} (f : List ℕ → Result A ConfigFault) (new : Option (List ℕ)) (items text : List ℕ) → Consumes (Some text) new items → (length items ≤ text_limit → IsAtEnd new) → limited f items ≡ limited f text
read_of f None items text read ends = absurd read
read_of f (Some ys) items text read ends = by_length f items ys (nat_le (length items) text_limit) refl ends ∙ ap (limited f) (sym read)

-- what was read of a text that a source told, to its end or past the greatest length, says what the text does
pub same_reading : (old new : Option (List ℕ)) (items text : List ℕ) → old ≡ Some text → Consumes old new items → (length items ≤ text_limit → IsAtEnd new) → script_of_text items ≡ script_of_text text
same_reading old new items text told read ends =
    read_of (λ (t : List ℕ). of_text (script_of_document t)) new items text (subst (λ (o : Option (List ℕ)). Consumes o new items) told read) ends

-- a text says one script
pub same_script : (r : Result Script ConfigFault) (a b : Script) → r ≡ Ok a → r ≡ Ok b → a ≡ b
same_script r a b x y = cc
