-- Whose turn it is, and what a desk's plan says of more messages.
use Rattle.std.proofs.Common.{◌≡◌, ℕ, ◌+◌, ◌%◌, ◌/◌, ◌*◌, ◌-◌, ◌≤◌, ◌<◌, Bool, true, false, List, [], ◌∷◌, ◌++◌, length, if◌then◌else◌, refl, sym, ap, ◌∙◌, subst, arith}
use Rattle.std.specs.Prelude.{◌==◌, nat_le, ◌&&◌, flat_map, ℤ}
use Rattle.std.proofs.lemmas.List.Concat.{flat_map-append}
use Rattle.std.proofs.lemmas.Bool.Decides.{nat_tests}
use native.Mathlib.Nat.{add-mul-mod_self_right, div-add-mod'}
use Rattle.sbe_layout.specs.declared.plan.Plan.{Plan}
use Rattle.gate_turn.specs.Rule.{In}
use Rattle.order_desk.specs.Schema.{order_plan}
use Rattle.order_desk.specs.Plans.{answers, desk_at, share, desk_plan}
use Rattle.order_desk.proofs.Shares.{share_goes_on}
use Rattle.order_gate.specs.Desks.{due}

-- a remainder, and more
pub turned : (a b d : ℕ) → (a % d + b) % d ≡ (a + b) % d
turned a b d =
    let e : a + b ≡ a % d + b + a / d * d = omega (arith, div-add-mod' a d) in
    sym (add-mul-mod_self_right (a % d + b) (a / d) d) ∙ ap (λ k. k % d) (sym e)

pick : (b c : Bool) (m : List ℕ) (xs ys : List (List ℕ)) → b ≡ c → xs ≡ ys → (if b then m ∷ xs else xs) ≡ (if c then m ∷ ys else ys)
pick b c m xs ys e f = ap (λ t. if t then m ∷ xs else xs) e ∙ ap (λ zs. if c then m ∷ zs else zs) f

-- the share goes by the remainder alone
pub share_turned : (d s a b : ℕ) (ms : List (List ℕ)) → a % d ≡ b % d → share d s (a + 1) ms ≡ share d s (b + 1) ms
share_turned d s a b [] e = refl
share_turned d s a b (m ∷ ms) e =
    let next : (a + 1) % d ≡ (b + 1) % d = sym (turned a 1 d) ∙ ap (λ k. (k + 1) % d) e ∙ turned b 1 d in
    let at : desk_at d (a + 1) ≡ desk_at d (b + 1) = ap (λ k. k % d + 1) (less a) ∙ ap (λ k. k + 1) e ∙ sym (ap (λ k. k % d + 1) (less b)) in
    pick (desk_at d (a + 1) == s) (desk_at d (b + 1) == s) m (share d s (a + 1 + 1) ms) (share d s (b + 1 + 1) ms) (ap (λ k. k == s) at) (share_turned d s (a + 1) (b + 1) ms next)
  where
    less : (k : ℕ) → k + 1 - 1 ≡ k
    less k = omega arith

is_one_of : (n d : ℕ) → In d n → (nat_le 1 n && nat_le n d) ≡ true
is_one_of n d inside = let least = inside.from_one in let most = inside.up_to in grind (arith, nat_tests)

-- a desk's plan over more messages: what is due of them stands behind
pub plan_on : (d version : ℕ) (reference : ℤ) (n turn : ℕ) (plan : Plan) (earlier more : List (List ℕ)) → In d n → plan ≡ order_plan version → turn ≡ length earlier % d
    → desk_plan d version reference n (earlier ++ more) ≡ desk_plan d version reference n earlier ++ due plan reference d turn more n
plan_on d version reference n turn plan earlier more inside is at =
    whole (earlier ++ more)
    ∙ ap (λ ms. flat_map F ms) (share_goes_on d n 1 earlier more)
    ∙ flat_map-append F (share d n 1 earlier) (share d n (1 + length earlier) more)
    ∙ ap (λ xs. xs ++ flat_map F (share d n (1 + length earlier) more)) (sym (whole earlier))
    ∙ ap (λ xs. desk_plan d version reference n earlier ++ xs) (ap (λ ms. flat_map F ms) same ∙ ap (λ p. flat_map (answers p n reference) (share d n (turn + 1) more)) (sym is))
  where
    F : List ℕ → List (List ℕ)
    F = answers (order_plan version) n reference

    whole : (l : List (List ℕ)) → desk_plan d version reference n l ≡ flat_map F (share d n 1 l)
    whole l = ap (λ b. if b then flat_map F (share d n 1 l) else []) (is_one_of n d inside)

    twice : (a : ℕ) → a % d % d ≡ a % d
    twice a = let e : a % d ≡ a % d + 0 = omega arith in let f : a + 0 ≡ a = omega arith in ap (λ k. k % d) e ∙ turned a 0 d ∙ ap (λ k. k % d) f

    same : share d n (1 + length earlier) more ≡ share d n (turn + 1) more
    same =
        let e : 1 + length earlier ≡ length earlier + 1 = omega arith in
        ap (λ k. share d n k more) e ∙ share_turned d n (length earlier) turn more (sym (ap (λ k. k % d) at ∙ twice (length earlier)))
