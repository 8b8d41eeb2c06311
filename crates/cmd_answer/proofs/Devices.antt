-- What was read and taken, part by part.
use Rattle.std.proofs.Common.{◌≡◌, ℕ, List, [], ◌++◌, Option, Some, None, refl, length, arith, sym, ◌∙◌, subst}
use Rattle.std.proofs.Math.Seq.{take-length}
use Rattle.std.specs.Io.KnownBytes.{Appends, Consumes, IsAtEnd}
use Rattle.gw_outside.specs.Faults.{TakesFront}

-- what was told of an input is what was read of it and what is left
pub told : (before now : Option (List ℕ)) (read input : List ℕ) → Consumes before now read → before ≡ Some input → (left : List ℕ) × (input ≡ read ++ left) × (now ≡ Some left)
told None now read input consumed e = cc
told (Some xs) None read input consumed e = absurd consumed
told (Some xs) (Some ys) read input consumed e = let same : xs ≡ input = cc in (ys, sym same ∙ consumed, refl)

pub at_end : (now : Option (List ℕ)) (left : List ℕ) → IsAtEnd now → now ≡ Some left → left ≡ []
at_end None left end e = cc
at_end (Some xs) left end e = let same : xs ≡ left = cc in sym same ∙ end

pub takes_all : (old new : Option (List ℕ)) (bytes : List ℕ) → Appends old new bytes → TakesFront old new bytes
takes_all old new bytes appended = record { count = length bytes; within = omega arith; appended = subst (Appends old new) (sym (take-length bytes)) appended }
