-- Pushing a list of bytes part by part.
use Rattle.std.proofs.Common.{◌≡◌, ℕ, List, Option, [], ◌++◌, length, take, drop, arith, refl, sym, ap, subst, ◌∙◌, append_assoc, append-nil, take-append-drop, length-append}
use Rattle.std.proofs.KnownBytes.{Appends-trans, Appends-kept}
use lib.Seq.{take-append_seam}
use Rattle.std.specs.Io.KnownBytes.{Appends, Keeps}
use Rattle.gw_outside.specs.Faults.{TakesFront}

-- a front of the bytes was taken, and the rest is still to be pushed
pub record Pushed (old now : Option (List ℕ)) (bytes rest : List ℕ) : Type 0 where
  pub front : List ℕ
  pub split : bytes ≡ front ++ rest
  pub appended : Appends old now front

pub nothing_pushed : (old : Option (List ℕ)) (bytes : List ℕ) → Appends old old [] → Pushed old old bytes bytes
nothing_pushed old bytes same = record { front = []; split = refl; appended = same }

-- n more bytes are taken from the front of the rest
pub more_pushed : (old now new : Option (List ℕ)) (bytes rest : List ℕ) (n : ℕ) → Pushed old now bytes rest → Appends now new (take n rest) → Pushed old new bytes (drop n rest)
more_pushed old now new bytes rest n so_far step = record {
  front = so_far.front ++ take n rest;
  split = so_far.split ∙ ap (λ l. so_far.front ++ l) (sym (take-append-drop n rest)) ∙ sym (append_assoc so_far.front (take n rest) (drop n rest));
  appended = Appends-trans old now new so_far.front (take n rest) so_far.appended step;
}

pub all_pushed : (old new : Option (List ℕ)) (bytes rest : List ℕ) → Pushed old new bytes rest → rest ≡ [] → Appends old new bytes
all_pushed old new bytes rest so_far none = subst (Appends old new) (sym (so_far.split ∙ ap (λ l. so_far.front ++ l) none ∙ append-nil so_far.front)) so_far.appended

-- what stands where the next push takes nothing
pub front_pushed : (old now new : Option (List ℕ)) (bytes rest : List ℕ) → Pushed old now bytes rest → Keeps now new → TakesFront old new bytes
front_pushed old now new bytes rest so_far kept = record {
  count = length so_far.front;
  within = rw so_far.split (omega (arith, length-append so_far.front rest));
  appended = subst (Appends old new) (sym (ap (take (length so_far.front)) so_far.split ∙ take-append_seam so_far.front rest)) (Appends-kept old now new so_far.front so_far.appended kept);
}
