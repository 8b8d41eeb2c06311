-- The runs of some numbers are no more than these, and none has more numbers; and what is written for them, one after another.
use Rattle.std.proofs.Common.{◌≡◌, ℕ, zero, suc, ◌+◌, ◌≤◌, ◌==◌, Bool, true, false, if◌then◌else◌, List, [], ◌∷◌, ◌++◌, length, take, slice_get, Some, refl, sym, subst, ap, ◌∙◌, append_assoc, arith}
use Rattle.std.specs.Bool.{⊤}
use Rattle.std.proofs.lemmas.List.{take_more}
use Rattle.std.proofs.lemmas.Option.{slice_get_within, get_or_from_slice_get}
use Rattle.std.proofs.lemmas.Grind.{flat_map-append}
use Rattle.fixp_msgs.specs.declared.numbering.Range.{Range}
use Rattle.fixp_msgs.specs.Message.{Message}
use Rattle.fixp_msgs.specs.Canonical.{frame_bytes}
use Rattle.flow_idem.specs.Runs.{joined, runs_of}
use Rattle.fixp_replies.specs.Events.{applied_runs}
use Rattle.fixp_machine.specs.Machine.{bytes_of}

abbrev Small : ℕ → List Range → Type 0
Small k [] = ⊤
Small k (r ∷ rs) = (r.count ≤ k) × Small k rs

wider : (k : ℕ) (rs : List Range) → Small k rs → Small (k + 1) rs
wider k [] s = tt
wider k (r ∷ rs) s = (omega (arith, s.0), wider k rs s.1)

either : (P : List Range → Type 0) (b : Bool) (first second : List Range) → P first → P second → P (if b then first else second)
either P true first second p q = p
either P false first second p q = q

joined_small : (n k : ℕ) (rs : List Range) → Small k rs → Small (k + 1) (joined n rs)
joined_small n k [] s = (omega (arith), tt)
joined_small n k (r ∷ rs) s = either (Small (k + 1)) (r.from == n + 1) (record { from = n; count = r.count + 1 } ∷ rs) (record { from = n; count = 1 } ∷ r ∷ rs)
    (omega (arith, s.0), wider k rs s.1) (omega (arith), wider k (r ∷ rs) s)

runs_small : (ns : List ℕ) → Small (length ns) (runs_of ns)
runs_small [] = tt
runs_small (n ∷ ns) =
    let e : length ns + 1 ≡ length (n ∷ ns) = omega (arith) in
    subst (λ (m : ℕ). Small m (runs_of (n ∷ ns))) e (joined_small n (length ns) (runs_of ns) (runs_small ns))

small_at : (k : ℕ) (rs : List Range) (i : ℕ) (r : Range) → Small k rs → slice_get rs i ≡ Some r → r.count ≤ k
small_at k [] i r s e = grind arith
small_at k (q ∷ rs) zero r s e = grind arith
small_at k (q ∷ rs) (suc i) r s e = small_at k rs i r s.1 e

-- a run has at most as many numbers as there are
pub run_is_small : (ns : List ℕ) (i : ℕ) (r : Range) → slice_get (runs_of ns) i ≡ Some r → r.count ≤ length ns
run_is_small ns i r e = small_at (length ns) (runs_of ns) i r (runs_small ns) e

joined_few : (n : ℕ) (rs : List Range) → length (joined n rs) ≤ length rs + 1
joined_few n [] = omega (arith)
joined_few n (r ∷ rs) = either (λ qs. length qs ≤ length (r ∷ rs) + 1) (r.from == n + 1) (record { from = n; count = r.count + 1 } ∷ rs) (record { from = n; count = 1 } ∷ r ∷ rs)
    (omega (arith)) (omega (arith))

-- there are at most as many runs as numbers
pub runs_are_few : (ns : List ℕ) → length (runs_of ns) ≤ length ns
runs_are_few [] = omega (arith)
runs_are_few (n ∷ ns) = omega (arith, joined_few n (runs_of ns), runs_are_few ns)

applied_runs-append : (first second : List Range) → applied_runs (first ++ second) ≡ applied_runs first ++ applied_runs second
applied_runs-append [] second = refl
applied_runs-append (r ∷ first) second = ap (λ (ms : List Message). Message.applied r.from r.count ∷ ms) (applied_runs-append first second)

-- what is written for one run more
pub run_written : (rs : List Range) (i : ℕ) (r : Range) (start now more : List ℕ) → slice_get rs i ≡ Some r
    → now ≡ start ++ bytes_of (applied_runs (take i rs)) → more ≡ now ++ bytes_of (applied_runs (r ∷ []))
    → more ≡ start ++ bytes_of (applied_runs (take (i + 1) rs))
run_written rs i r start now more here so_far last =
    let front = bytes_of (applied_runs (take i rs)) in
    let one = bytes_of (applied_runs (r ∷ [])) in
    let taken : take (i + 1) rs ≡ take i rs ++ r ∷ [] =
    take_more rs i r (slice_get_within rs i r here) ∙ ap (λ (q : Range). take i rs ++ q ∷ []) (get_or_from_slice_get rs i r r here) in
    let all : bytes_of (applied_runs (take (i + 1) rs)) ≡ front ++ one =
    ap (λ (qs : List Range). bytes_of (applied_runs qs)) taken
    ∙ (ap (λ (ms : List Message). bytes_of ms) (applied_runs-append (take i rs) (r ∷ []))
    ∙ flat_map-append frame_bytes (applied_runs (take i rs)) (applied_runs (r ∷ []))) in
    last ∙ (ap (λ (bytes : List ℕ). bytes ++ one) so_far ∙ (append_assoc start front one ∙ ap (λ (bytes : List ℕ). start ++ bytes) (sym all)))
