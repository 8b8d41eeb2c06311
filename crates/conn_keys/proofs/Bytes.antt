-- Bytes that are the same at each place, and the size of a reject.
use Rattle.std.proofs.Common.{◌≡◌, ◌≢◌, ℕ, ◌+◌, ◌<◌, ◌≤◌, max, Bool, true, false, List, [], length, get_or, refl, sym, ap, ◌∙◌, arith}
use Rattle.std.specs.Str.{bytes_eq}
use Rattle.std.proofs.lemmas.Bool.{false_from_ne_true}
use Rattle.std.proofs.lemmas.List.{ext_get_or, length-append}
use Rattle.std.proofs.lemmas.Slice.Eq.{bytes_eq-Decides}
use Rattle.fixp_msgs.specs.Canonical.{frame_bytes}
use Rattle.fixp_msgs.specs.Message.{negotiation_reject, establishment_reject}

-- a test that is true only where two lists have one length and are the same below n, and false only where they differ
pub record Tests (same : Bool) (a b : List ℕ) (n : ℕ) : Type 0 where
  pub alike : same ≡ true → (length a ≡ length b) × ((k : ℕ) → k < n → get_or a k 0 ≡ get_or b k 0)
  pub unlike : same ≡ false → a ≢ b

-- once it went over the longer it is the comparison
pub tests_all : (same : Bool) (a b : List ℕ) (n : ℕ) → Tests same a b n → length a ≤ n → same ≡ bytes_eq a b
tests_all true a b n t all =
    let h = t.alike refl in
    sym ((bytes_eq-Decides a b).1 (ext_get_or 0 a b h.0 (λ k below. h.1 k (omega arith))))
tests_all false a b n t all = sym (false_from_ne_true (bytes_eq a b) (λ e. t.unlike refl ((bytes_eq-Decides a b).0 e)))

pub negotiation_reject_size : (id : List ℕ) (timestamp code : ℕ) → length id ≡ 16 → length (frame_bytes (negotiation_reject id timestamp code [])) ≡ 41
negotiation_reject_size id timestamp code sixteen = simp length-append (omega arith)

pub establishment_reject_size : (id : List ℕ) (timestamp code : ℕ) → length id ≡ 16 → length (frame_bytes (establishment_reject id timestamp code [])) ≡ 41
establishment_reject_size id timestamp code sixteen = simp length-append (omega arith)
