-- What is asked for is what is known to have been sent.
use Rattle.std.proofs.Common.{◌≡◌, ◌↔◌, ℕ, ◌+◌, ◌-◌, ◌<◌, ◌≤◌, ◌⊎◌, inl, inr, max, min, ◌==◌, eqb-true, unwrap_or, nat_lt, Bool, true, false, if◌then◌else◌, List, [], ◌∷◌, Option, Some, None, IfSome, refl, sym, ap, subst, ◌∙◌, arith}
use Rattle.std.proofs.lemmas.Bool.Decides.{nat_tests}
use Rattle.fixp_msgs.specs.declared.flow.Flow.TheVariants.{Recoverable}
use Rattle.fixp_datagram.specs.Receiving.{Receiver, fresh, may_begin, next_behind, started, number, counted, most_asked, asked, ask, ask_on}
use Rattle.fixp_datagram.specs.Calls.{Call, start, app, called, IsKnown, IsIn}
use Rattle.fixp_datagram.specs.Laws.{AsksKnown}

-- the number of the next message is at most one past what is known
abbrev IsFit : Receiver → Type 0
IsFit r = IfSome r.counting (λ n. n ≤ r.known)

fit_started : (r : Receiver) (first : ℕ) → IsFit (started r first)
fit_started r first = by_test (may_begin r.most first)
  where
    by_test : (b : Bool)
        → IsFit (if b then record r { next = next_behind r.flow r.next first; known = max r.known first; counting = Some first } else record r { counting = None })
    by_test true = omega arith
    by_test false = tt

fit_counted : (r : Receiver) → IsFit r → IsFit (counted r)
fit_counted r fit = by_test (nat_lt r.most (number r))
  where
    by_test : (b : Bool)
        → IsFit (if b then r else record r {
          next = if number r == r.next then r.next + 1 else r.next;
          known = max r.known (number r + 1);
          counting = Some (number r + 1);
        })
    by_test true = fit
    by_test false = omega arith

-- below the greater of two is below one of them
less_max : (n a b : ℕ) → n < max a b → (n < a) ⊎ (n < b)
less_max n a b h = by_test (nat_lt n a) refl
  where
    by_test : (t : Bool) → nat_lt n a ≡ t → (n < a) ⊎ (n < b)
    by_test true t = inl (grind (arith, nat_tests))
    by_test false t =
        let above : a ≤ n = grind (arith, nat_tests) in
        inr (omega (arith, above, h))

-- what one call makes known
start_known : (r : Receiver) (first n : ℕ) → (n < (started r first).known) ↔ ((n < r.known) ⊎ ((may_begin r.most first ≡ true) × (n < first)))
start_known r first n = by_test (may_begin r.most first)
  where
    by_test : (b : Bool)
        → (n < (if b then record r { next = next_behind r.flow r.next first; known = max r.known first; counting = Some first } else record r { counting = None }).known)
        ↔ ((n < r.known) ⊎ ((b ≡ true) × (n < first)))
    by_test true = (
      λ h. elim (less_max n r.known first h) [ inl a ↦ inl a | inr b ↦ inr (refl, b) ],
      λ h. elim h [ inl a ↦ omega (arith, a) | inr b ↦ omega (arith, b.1) ],
    )
    by_test false = (λ h. inl h, λ h. elim h [ inl a ↦ a | inr b ↦ absurd (cc (b.0)) ])

app_known : (r : Receiver) (n : ℕ) → IsFit r → (n < (counted r).known) ↔ ((n < r.known) ⊎ ((number r ≤ r.most) × (n ≡ number r)))
app_known r n fit = by_test (nat_lt r.most (number r)) refl
  where
    -- what lies below the number of the next message is known, where there is one; else that number is 0
    below_next : (o : Option ℕ) → IfSome o (λ m. m ≤ r.known) → n < unwrap_or o 0 → n < r.known
    below_next None f h = absurd (omega (arith, h))
    below_next (Some m) f h = omega (arith, f, h)

    by_place : (b : Bool) → (n == number r) ≡ b → n < number r + 1 → number r ≤ r.most → (n < r.known) ⊎ ((number r ≤ r.most) × (n ≡ number r))
    by_place true t h within = inr (within, eqb-true n (number r) t)
    by_place false t h within =
        let less : n < number r = grind (arith, nat_tests) in
        inl (below_next r.counting fit less)

    by_test : (b : Bool) → nat_lt r.most (number r) ≡ b
        → (n < (if b then r else record r {
          next = if number r == r.next then r.next + 1 else r.next;
          known = max r.known (number r + 1);
          counting = Some (number r + 1);
        }).known)
        ↔ ((n < r.known) ⊎ ((number r ≤ r.most) × (n ≡ number r)))
    by_test true t =
        let above : r.most < number r = grind (arith, nat_tests) in
        (λ h. inl h, λ h. elim h [ inl a ↦ a | inr b ↦ absurd (omega (arith, above, b.0)) ])
    by_test false t =
        let within : number r ≤ r.most = grind (arith, nat_tests) in (
          λ h. elim (less_max n r.known (number r + 1) h) [ inl a ↦ inl a | inr b ↦ by_place (n == number r) refl b within ],
          λ h. elim h [ inl a ↦ omega (arith, a) | inr b ↦ omega (arith, b.1) ],
        )

-- the same over calls
known_behind : (r : Receiver) (calls : List Call) (n : ℕ) → IsFit r → (n < (called r calls).known) ↔ ((n < r.known) ⊎ IsKnown r calls n)
known_behind r [] n fit = (λ h. inl h, λ h. elim h [ inl a ↦ a | inr b ↦ absurd b ])
known_behind r (start first ∷ calls) n fit =
    let later = known_behind (started r first) calls n (fit_started r first) in
    let here = start_known r first n in (
      λ h. elim (later.0 h) [ inl a ↦ elim (here.0 a) [ inl x ↦ inl x | inr y ↦ inr (inl y) ] | inr b ↦ inr (inr b) ],
      λ h. elim h [ inl a ↦ later.1 (inl (here.1 (inl a))) | inr b ↦ elim b [ inl x ↦ later.1 (inl (here.1 (inr x))) | inr y ↦ later.1 (inr y) ] ],
    )
known_behind r (app p ∷ calls) n fit =
    let later = known_behind (counted r) calls n (fit_counted r fit) in
    let here = app_known r n fit in (
      λ h. elim (later.0 h) [ inl a ↦ elim (here.0 a) [ inl x ↦ inl x | inr y ↦ inr (inl y) ] | inr b ↦ inr (inr b) ],
      λ h. elim h [ inl a ↦ later.1 (inl (here.1 (inl a))) | inr b ↦ elim b [ inl x ↦ later.1 (inl (here.1 (inr x))) | inr y ↦ later.1 (inr y) ] ],
    )

-- no call changes the flow
flow_started : (r : Receiver) (first : ℕ) → (started r first).flow ≡ r.flow
flow_started r first = by_test (may_begin r.most first)
  where
    by_test : (b : Bool)
        → (if b then record r { next = next_behind r.flow r.next first; known = max r.known first; counting = Some first } else record r { counting = None }).flow ≡ r.flow
    by_test true = refl
    by_test false = refl

flow_counted : (r : Receiver) → (counted r).flow ≡ r.flow
flow_counted r = by_test (nat_lt r.most (number r))
  where
    by_test : (b : Bool)
        → (if b then r else record r {
          next = if number r == r.next then r.next + 1 else r.next;
          known = max r.known (number r + 1);
          counting = Some (number r + 1);
        }).flow ≡ r.flow
    by_test true = refl
    by_test false = refl

flow_called : (r : Receiver) (calls : List Call) → (called r calls).flow ≡ r.flow
flow_called r [] = refl
flow_called r (start first ∷ calls) = flow_called (started r first) calls ∙ flow_started r first
flow_called r (app p ∷ calls) = flow_called (counted r) calls ∙ flow_counted r

-- the numbers asked for
asked_holds : (next known n : ℕ) → IsIn (asked next known) n ↔ ((next ≤ n) × (n < next + 256) × (n < known))
asked_holds next known n = by_test (nat_lt next known) refl
  where
    by_test : (b : Bool) → nat_lt next known ≡ b
        → IsIn (if b then Some (record { from = next; count = min most_asked (known - next) }) else None) n ↔ ((next ≤ n) × (n < next + 256) × (n < known))
    by_test true t = (λ h. (h.0, omega (arith, h.1), omega (arith, h.0, h.1)), λ h. (h.0, omega (arith, h.0, h.1, h.2)))
    by_test false t =
        let none : known ≤ next = grind (arith, nat_tests) in
        (λ h. absurd h, λ h. absurd (omega (arith, none, h.0, h.2)))

pub asks_known : AsksKnown
asks_known next most calls n =
    let begun = fresh Recoverable next most in
    let r = called begun calls in
    let known = known_behind begun calls n tt in
    let holds = asked_holds r.next r.known n in
    let same : ask r ≡ asked r.next r.known = ap (λ f. ask_on f r.next r.known) (flow_called begun calls) in (
      λ h. let a = holds.0 (subst (λ o. IsIn o n) same h) in
          (a.0, a.1, elim (known.0 a.2) [ inl x ↦ absurd (omega (arith, x)) | inr y ↦ y ]),
      λ h. subst (λ o. IsIn o n) (sym same) (holds.1 (h.0, h.1, known.1 (inr h.2))),
    )
