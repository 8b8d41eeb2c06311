-- What is under way behind a finish: no message of it is live, since each that is would raise the number that its reader awaits.
use Rattle.std.proofs.Common.{◌≡◌, ℕ, zero, suc, ◌+◌, ◌≤◌, Bool, true, List, [], ◌∷◌, ◌++◌, Option, Some, None, refl, sym, subst, ◌∙◌, arith, true≢false}
use Rattle.std.specs.Prelude.{⊤, is_some, unwrap_or, IfSome}
use Rattle.fixp_msgs.specs.declared.flow.Flow.{Flow}
use Rattle.fixp_msgs.specs.Message.{Message, sequence, retransmission}
use Rattle.connection_laws.specs.Writing.{Piece, said, entry, said_all}
use Rattle.honest_ends.specs.Numbers.{exactly, announces, live_after, left_after, Runs}
use Rattle.honest_ends.proofs.Finishing.{sendings, total}
use Rattle.honest_ends.proofs.Asking.{turns, inside}
use Rattle.honest_ends.proofs.Running.{runs_top}

-- a message of the flow that comes behind so many finishes belongs to a retransmission, where it stands inside of one so
abbrev pub InPlace : ℕ → Bool → Piece → Type 0
InPlace k b (entry payload) = 1 ≤ k → b ≡ true
InPlace k b (said m) = ⊤

abbrev pub NoneLive : ℕ → Bool → List Piece → Type 0
NoneLive k b [] = ⊤
NoneLive k b (p ∷ ps) = InPlace k b p × NoneLive (k + sendings p) (turns p b) ps

in_place_behind : (p : Piece) (k j : ℕ) (b : Bool) → (1 ≤ k → 1 ≤ j) → InPlace j b p → InPlace k b p
in_place_behind (entry payload) k j b f h = λ some. h (f some)
in_place_behind (said m) k j b f h = tt

more_behind : (k j n : ℕ) → (1 ≤ k → 1 ≤ j) → 1 ≤ k + n → 1 ≤ j + n
more_behind zero j zero f h = absurd (omega (arith, h))
more_behind zero j (suc n) f h = omega arith
more_behind (suc k) j n f h = let one = f (omega arith) in omega (arith, one)

pub behind_fewer : (ps : List Piece) (k j : ℕ) (b : Bool) → (1 ≤ k → 1 ≤ j) → NoneLive j b ps → NoneLive k b ps
behind_fewer [] k j b f h = tt
behind_fewer (p ∷ ps) k j b f h = (in_place_behind p k j b f h.0, behind_fewer ps (k + sendings p) (j + sendings p) (turns p b) (λ some. more_behind k j (sendings p) f some) h.1)

pub none_live_append : (ps qs : List Piece) (k : ℕ) (b : Bool) → NoneLive k b ps → NoneLive (k + total sendings ps) (inside b ps) qs → NoneLive k b (ps ++ qs)
none_live_append [] qs k b h g = behind_fewer qs k (k + 0) b (λ some. omega (arith, some)) g
none_live_append (p ∷ ps) qs k b h g =
    (h.0, none_live_append ps qs (k + sendings p) (turns p b) h.1 (behind_fewer qs (k + sendings p + total sendings ps) (k + (sendings p + total sendings ps)) (inside (turns p b) ps) (λ some. omega (arith, some)) g))

-- session messages alone
pub said_live : (ms : List Message) (k : ℕ) (b : Bool) → NoneLive k b (said_all ms)
said_live [] k b = tt
said_live (m ∷ ms) k b = (tt, said_live ms _ _)

-- no finish is told yet
pub unfinished_live : (ps : List Piece) (k : ℕ) (b : Bool) → k + total sendings ps ≡ 0 → NoneLive k b ps
unfinished_live [] k b e = tt
unfinished_live (p ∷ ps) k b e = (by_piece p (omega (arith, e)), unfinished_live ps (k + sendings p) (turns p b) (omega (arith, e)))
  where
    by_piece : (q : Piece) → k ≡ 0 → InPlace k b q
    by_piece (entry payload) none = λ some. absurd (omega (arith, none, some))
    by_piece (said m) none = tt

pub left_turns : (p : Piece) (l : Option ℕ) → is_some (left_after p l) ≡ turns p (is_some l)
left_turns (entry payload) None = refl
left_turns (entry payload) (Some n) = refl
left_turns (said (sequence next)) l = refl
left_turns (said (retransmission id next timestamp count)) l = refl
left_turns (said _) l = refl

-- an announcement leaves a number that is awaited exactly
same_number : (o : Option ℕ) (b : ℕ) → IfSome o (λ n. b ≡ n) → unwrap_or o b ≡ b
same_number None b h = refl
same_number (Some n) b h = sym h

-- where the number does not rise none is live
pub level_live : (flow : Flow) (b : ℕ) (l : Option ℕ) (ps : List Piece) (c : ℕ) (m : Option ℕ) (k : ℕ) → Runs flow (exactly b) l ps c m → c ≤ b → NoneLive k (is_some l) ps
level_live flow b l [] c m k r low = tt
level_live flow b l (p ∷ ps) c m k r low =
    let up = stays p l r in
    (here p l r low, subst (λ (b : Bool). NoneLive (k + sendings p) b ps) (left_turns p l) (level_live flow (live_after flow p b l) (left_after p l) ps c m (k + sendings p) r.1 (omega (arith, up, low))))
  where
    here : (q : Piece) (j : Option ℕ) → Runs flow (exactly b) j (q ∷ ps) c m → c ≤ b → InPlace k (is_some j) q
    here (entry payload) None r low = let top = runs_top flow (exactly (b + 1)) None ps c m r.1 in absurd (omega (arith, top, low))
    here (entry payload) (Some n) r low = λ _. refl
    here (said q) j r low = tt

    stays : (q : Piece) (j : Option ℕ) → Runs flow (exactly b) j (q ∷ ps) c m → b ≤ live_after flow q b j
    stays (entry payload) None r = omega arith
    stays (entry payload) (Some n) r = omega arith
    stays (said q) j r = let e = same_number (announces flow (said q)) b r.0.0 in omega (arith, e)

-- and where none is live it does not rise
pub live_level : (flow : Flow) (b : ℕ) (l : Option ℕ) (ps : List Piece) (c : ℕ) (m : Option ℕ) (k : ℕ) → 1 ≤ k → Runs flow (exactly b) l ps c m → NoneLive k (is_some l) ps → b ≡ c
live_level flow b l [] c m k some r h = r.0
live_level flow b l (p ∷ ps) c m k some r h =
    sym (same p l r h) ∙ live_level flow (live_after flow p b l) (left_after p l) ps c m (k + sendings p) (omega (arith, some)) r.1 (subst (λ (b : Bool). NoneLive (k + sendings p) b ps) (sym (left_turns p l)) h.1)
  where
    same : (q : Piece) (j : Option ℕ) → Runs flow (exactly b) j (q ∷ ps) c m → NoneLive k (is_some j) (q ∷ ps) → live_after flow q b j ≡ b
    same (entry payload) None r h = absurd (true≢false (sym (h.0 some)))
    same (entry payload) (Some n) r h = refl
    same (said q) j r h = same_number (announces flow (said q)) b r.0.0
