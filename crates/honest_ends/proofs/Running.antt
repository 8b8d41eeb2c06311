-- The numbers under way between two ends: how far what is under way brings a reader.
use Rattle.std.proofs.Common.{◌≡◌, ℕ, ◌+◌, ◌-◌, ◌≤◌, min, Bool, true, false, if◌then◌else◌, List, [], ◌∷◌, ◌++◌, length, Option, Some, None, refl, sym, ap, subst, ◌∙◌, arith, true≢false}
use Rattle.std.specs.Prelude.{is_some, unwrap_or, IfSome}
use Rattle.std.specs.List.{AllByRecursion}
use Rattle.fixp_msgs.specs.declared.flow.Flow.{Flow}
use Rattle.fixp_msgs.specs.Message.{Message}
use Rattle.connection_laws.specs.Writing.{Piece, said, entry, entries}
use Rattle.honest_ends.specs.Numbers.{Awaited, exactly, at_most, softly, Allows, IsAt, announces, starts, live_after, awaited_after, left_after, FitsLeft, Fits, Runs}

-- the number of what is awaited, or the least of the two
abbrev pub number_of : Awaited → ℕ
number_of (exactly b) = b
number_of (at_most b) = b
number_of (softly low live) = min low live

-- whatever the one allows the other allows
abbrev pub Below : Awaited → Awaited → Type 0
Below (exactly b) (exactly c) = b ≡ c
Below (exactly b) (at_most c) = ⊥
Below (exactly b) (softly low live) = ⊥
Below (at_most b) a = b ≤ number_of a
Below (softly low live) (exactly c) = (low ≤ c) × (live ≡ c)
Below (softly low live) (at_most c) = ⊥
Below (softly low live) (softly least top) = (low ≤ least) × (live ≡ top)

pub below_same : (a : Awaited) → Below a a
below_same (exactly b) = refl
below_same (at_most b) = omega arith
below_same (softly low live) = (omega arith, refl)

allows_below : (a d : Awaited) (n : ℕ) → Below a d → Allows d n → Allows a n
allows_below (exactly b) (exactly c) n h k = h ∙ k
allows_below (exactly b) (at_most c) n h k = absurd h
allows_below (exactly b) (softly low live) n h k = absurd h
allows_below (at_most b) (exactly c) n h k = omega (arith, h, k)
allows_below (at_most b) (at_most c) n h k = omega (arith, h, k)
allows_below (at_most b) (softly low live) n h k = omega (arith, h, k)
allows_below (softly low live) (exactly c) n h k = omega (arith, h.0, k)
allows_below (softly low live) (at_most c) n h k = absurd h
allows_below (softly low live) (softly least top) n h k = omega (arith, h.0, k)

is_at_below : (a d : Awaited) (n : ℕ) → Below a d → IsAt d n → IsAt a n
is_at_below (exactly b) (exactly c) n h k = h ∙ k
is_at_below (exactly b) (at_most c) n h k = absurd h
is_at_below (exactly b) (softly low live) n h k = absurd h
is_at_below (at_most b) (exactly c) n h k = omega (arith, h, k)
is_at_below (at_most b) (at_most c) n h k = omega (arith, h, k)
is_at_below (at_most b) (softly low live) n h k = omega (arith, h, k.0)
is_at_below (softly low live) (exactly c) n h k = (omega (arith, h.0, k), h.1 ∙ k)
is_at_below (softly low live) (at_most c) n h k = absurd h
is_at_below (softly low live) (softly least top) n h k = (omega (arith, h.0, k.0), h.1 ∙ k.1)

some_weaker : (o : Option ℕ) (P Q : ℕ → Type 0) → ((n : ℕ) → P n → Q n) → IfSome o P → IfSome o Q
some_weaker None P Q f h = tt
some_weaker (Some n) P Q f h = f n h

pub fits_below : (flow : Flow) (p : Piece) (a d : Awaited) (l : Option ℕ) → Below a d → Fits flow p d l → Fits flow p a l
fits_below flow (entry payload) a d l h f = f
fits_below flow (said m) a d l h f = (some_weaker (announces flow (said m)) (Allows d) (Allows a) (λ n k. allows_below a d n h k) f.0, f.1)

unwrap_grows : (o : Option ℕ) (b c : ℕ) → b ≤ c → unwrap_or o b ≤ unwrap_or o c
unwrap_grows None b c h = h
unwrap_grows (Some n) b c h = omega arith

live_grows : (flow : Flow) (p : Piece) (b c : ℕ) (l : Option ℕ) → b ≤ c → live_after flow p b l ≤ live_after flow p c l
live_grows flow (entry payload) b c None h = omega (arith, h)
live_grows flow (entry payload) b c (Some n) h = h
live_grows flow (said m) b c l h = unwrap_grows (announces flow (said m)) b c h

unwrap_same : (o : Option ℕ) (b c : ℕ) → is_some o ≡ true → unwrap_or o b ≡ unwrap_or o c
unwrap_same None b c e = absurd (true≢false (sym e))
unwrap_same (Some n) b c e = refl

live_same : (flow : Flow) (p : Piece) (b c : ℕ) (l : Option ℕ) → is_some (announces flow p) ≡ true → live_after flow p b l ≡ live_after flow p c l
live_same flow (entry payload) b c l e = absurd (true≢false (sym e))
live_same flow (said m) b c l e = unwrap_same (announces flow (said m)) b c e

-- a flow that starts, and one that does not
started : (flow : Flow) (p : Piece) (low live : ℕ) (l : Option ℕ) → starts flow p ≡ true → awaited_after flow p (softly low live) l ≡ exactly (live_after flow p live l)
started flow p low live l e = ap (λ t. if t then exactly (live_after flow p live l) else softly low live) e

waits_on : (flow : Flow) (p : Piece) (low live : ℕ) (l : Option ℕ) → starts flow p ≡ false → awaited_after flow p (softly low live) l ≡ softly low live
waits_on flow p low live l e = ap (λ t. if t then exactly (live_after flow p live l) else softly low live) e

unstarted : (flow : Flow) (p : Piece) → starts flow p ≡ false → is_some (announces flow p) ≡ false
unstarted flow (entry payload) e = refl
unstarted flow (said m) e = e

unmoved : (flow : Flow) (p : Piece) (b : ℕ) (l : Option ℕ) → starts flow p ≡ false → live_after flow p b l ≡ b
unmoved flow (entry payload) b l e = absurd (true≢false e)
unmoved flow (said m) b l e = by_number (announces flow (said m)) e
  where
    by_number : (o : Option ℕ) → is_some o ≡ false → unwrap_or o b ≡ b
    by_number None e = refl
    by_number (Some n) e = absurd (true≢false e)

after_exactly : (flow : Flow) (p : Piece) (b low live : ℕ) (l : Option ℕ) → b ≤ min low live → (t : Bool) → starts flow p ≡ t
    → Below (awaited_after flow p (at_most b) l) (awaited_after flow p (softly low live) l)
after_exactly flow p b low live l h true e =
    subst (λ (d : Awaited). Below (awaited_after flow p (at_most b) l) d) (sym (started flow p low live l e)) (by_number (is_some (announces flow p)) refl)
  where
    by_number : (t : Bool) → is_some (announces flow p) ≡ t → Below (if t then exactly (live_after flow p b l) else at_most (live_after flow p b l)) (exactly (live_after flow p live l))
    by_number true s = live_same flow p b live l s
    by_number false s = live_grows flow p b live l (omega (arith, h))
after_exactly flow p b low live l h false e =
    subst (λ (d : Awaited). Below (awaited_after flow p (at_most b) l) d) (sym (waits_on flow p low live l e))
    (subst (λ (t : Bool). Below (if t then exactly (live_after flow p b l) else at_most (live_after flow p b l)) (softly low live)) (sym (unstarted flow p e))
    (subst (λ (n : ℕ). n ≤ min low live) (sym (unmoved flow p b l e)) h))

after_softly : (flow : Flow) (p : Piece) (low live : ℕ) (d : Awaited) (l : Option ℕ) → Below (softly low live) d → (t : Bool) → starts flow p ≡ t
    → Below (awaited_after flow p (softly low live) l) (awaited_after flow p d l)
after_softly flow p low live (at_most c) l h t e = absurd h
after_softly flow p low live (exactly c) l h true e =
    subst (λ (a : Awaited). Below a (exactly (live_after flow p c l))) (sym (started flow p low live l e)) (ap (λ (n : ℕ). live_after flow p n l) h.1)
after_softly flow p low live (exactly c) l h false e =
    subst (λ (a : Awaited). Below a (exactly (live_after flow p c l))) (sym (waits_on flow p low live l e))
    (subst (λ (n : ℕ). (low ≤ n) × (live ≡ n)) (sym (unmoved flow p c l e)) h)
after_softly flow p low live (softly least top) l h true e =
    subst (λ (a : Awaited). Below a (awaited_after flow p (softly least top) l)) (sym (started flow p low live l e))
    (subst (λ (d : Awaited). Below (exactly (live_after flow p live l)) d) (sym (started flow p least top l e)) (ap (λ (n : ℕ). live_after flow p n l) h.1))
after_softly flow p low live (softly least top) l h false e =
    subst (λ (a : Awaited). Below a (awaited_after flow p (softly least top) l)) (sym (waits_on flow p low live l e))
    (subst (λ (d : Awaited). Below (softly low live) d) (sym (waits_on flow p least top l e)) h)

after_below : (flow : Flow) (p : Piece) (a d : Awaited) (l : Option ℕ) → Below a d → Below (awaited_after flow p a l) (awaited_after flow p d l)
after_below flow p (exactly b) (exactly c) l h = ap (λ (n : ℕ). live_after flow p n l) h
after_below flow p (exactly b) (at_most c) l h = absurd h
after_below flow p (at_most b) (exactly c) l h = by_test (is_some (announces flow p)) refl
  where
    by_test : (t : Bool) → is_some (announces flow p) ≡ t → Below (if t then exactly (live_after flow p b l) else at_most (live_after flow p b l)) (exactly (live_after flow p c l))
    by_test true e = live_same flow p b c l e
    by_test false e = live_grows flow p b c l h
after_below flow p (exactly b) (softly low live) l h = absurd h
after_below flow p (at_most b) (softly low live) l h = after_exactly flow p b low live l h (starts flow p) refl
after_below flow p (softly low live) d l h = after_softly flow p low live d l h (starts flow p) refl
after_below flow p (at_most b) (at_most c) l h = by_test (is_some (announces flow p)) refl
  where
    by_test : (t : Bool) → is_some (announces flow p) ≡ t
        → Below (if t then exactly (live_after flow p b l) else at_most (live_after flow p b l)) (if t then exactly (live_after flow p c l) else at_most (live_after flow p c l))
    by_test true e = live_same flow p b c l e
    by_test false e = live_grows flow p b c l h

pub lower : (flow : Flow) (a d : Awaited) (l : Option ℕ) (ps : List Piece) (c : ℕ) (m : Option ℕ) → Below a d → Runs flow d l ps c m → Runs flow a l ps c m
lower flow a d l [] c m h r = (is_at_below a d c h r.0, r.1)
lower flow a d l (p ∷ ps) c m h r =
    (fits_below flow p a d l h r.0, lower flow (awaited_after flow p a l) (awaited_after flow p d l) (left_after p l) ps c m (after_below flow p a d l h) r.1)

below_allowed : (a : Awaited) (n : ℕ) → IsAt a n → Below a (exactly n)
below_allowed (exactly b) n h = h
below_allowed (at_most b) n h = h
below_allowed (softly low live) n h = h

pub runs_append : (flow : Flow) (a : Awaited) (l : Option ℕ) (ps qs : List Piece) (c : ℕ) (m : Option ℕ) (d : ℕ) (n : Option ℕ) → Runs flow a l ps c m → Runs flow (exactly c) m qs d n
    → Runs flow a l (ps ++ qs) d n
runs_append flow a l [] qs c m d n r s = lower flow a (exactly c) l qs d n (below_allowed a c r.0) (subst (λ (k : Option ℕ). Runs flow (exactly c) k qs d n) (sym r.1) s)
runs_append flow a l (p ∷ ps) qs c m d n r s = (r.0, runs_append flow (awaited_after flow p a l) (left_after p l) ps qs c m d n r.1 s)

-- a message that announces nothing leaves what is awaited, and one that announces a number makes it that
pub after_silent : (flow : Flow) (m : Message) (a : Awaited) (l : Option ℕ) → announces flow (said m) ≡ None → awaited_after flow (said m) a l ≡ a
after_silent flow m (exactly b) l e = ap (λ (o : Option ℕ). exactly (unwrap_or o b)) e
after_silent flow m (at_most b) l e = ap (λ (o : Option ℕ). if is_some o then exactly (unwrap_or o b) else at_most (unwrap_or o b)) e
after_silent flow m (softly low live) l e = ap (λ (o : Option ℕ). if is_some o then exactly (unwrap_or o live) else softly low live) e

pub after_announced : (flow : Flow) (m : Message) (a : Awaited) (l : Option ℕ) (n : ℕ) → announces flow (said m) ≡ Some n → awaited_after flow (said m) a l ≡ exactly n
after_announced flow m (exactly b) l n e = ap (λ (o : Option ℕ). exactly (unwrap_or o b)) e
after_announced flow m (at_most b) l n e = ap (λ (o : Option ℕ). if is_some o then exactly (unwrap_or o b) else at_most (unwrap_or o b)) e
after_announced flow m (softly low live) l n e = ap (λ (o : Option ℕ). if is_some o then exactly (unwrap_or o live) else softly low live) e

pub silent_runs : (flow : Flow) (m : Message) (a : Awaited) (l k : Option ℕ) (ps : List Piece) (c : ℕ) (n : Option ℕ) → announces flow (said m) ≡ None → FitsLeft m l → left_after (said m) l ≡ k → Runs flow a k ps c n
    → Runs flow a l (said m ∷ ps) c n
silent_runs flow m a l k ps c n e fits same h = (
  (subst (λ (o : Option ℕ). IfSome o (λ n. Allows a n)) (sym e) tt, fits),
  subst (λ (d : Awaited). Runs flow d (left_after (said m) l) ps c n) (sym (after_silent flow m a l e)) (subst (λ (j : Option ℕ). Runs flow a j ps c n) (sym same) h),
)

pub announced_runs : (flow : Flow) (m : Message) (a : Awaited) (l k : Option ℕ) (b : ℕ) (ps : List Piece) (c : ℕ) (n : Option ℕ) → announces flow (said m) ≡ Some b → Allows a b → FitsLeft m l → left_after (said m) l ≡ k
    → Runs flow (exactly b) k ps c n → Runs flow a l (said m ∷ ps) c n
announced_runs flow m a l k b ps c n e ok fits same h = (
  (subst (λ (o : Option ℕ). IfSome o (λ n. Allows a n)) (sym e) ok, fits),
  subst (λ (d : Awaited). Runs flow d (left_after (said m) l) ps c n) (sym (after_announced flow m a l b e)) (subst (λ (j : Option ℕ). Runs flow (exactly b) j ps c n) (sym same) h),
)

-- a flow that has not started: what is awaited stays, and more may come behind
pub runs_through : (flow : Flow) (a : Awaited) (l : Option ℕ) (ps qs : List Piece) (c : ℕ) (m : Option ℕ) (d : ℕ) (n : Option ℕ) → AllByRecursion (λ p. starts flow p ≡ false) ps
    → Runs flow a l ps c m → Runs flow a m qs d n → Runs flow a l (ps ++ qs) d n
runs_through flow a l [] qs c m d n silent r s = subst (λ (k : Option ℕ). Runs flow a k qs d n) (sym r.1) s
runs_through flow a l (entry payload ∷ ps) qs c m d n silent r s = absurd (true≢false silent.0)
runs_through flow a l (said k ∷ ps) qs c m d n silent r s =
    let e = unannounced (announces flow (said k)) silent.0 in (
      r.0,
      subst (λ (b : Awaited). Runs flow b (left_after (said k) l) (ps ++ qs) d n) (sym (after_silent flow k a l e))
          (runs_through flow a (left_after (said k) l) ps qs c m d n silent.1 (subst (λ (b : Awaited). Runs flow b (left_after (said k) l) ps c m) (after_silent flow k a l e) r.1) s),
    )
  where
    unannounced : (o : Option ℕ) → is_some o ≡ false → o ≡ None
    unannounced None e = refl
    unannounced (Some n) e = absurd (true≢false e)

pub silent_end : (flow : Flow) (a : Awaited) (l : Option ℕ) (ps : List Piece) (c : ℕ) (m : Option ℕ) → AllByRecursion (λ p. starts flow p ≡ false) ps → Runs flow a l ps c m → IsAt a c
silent_end flow a l [] c m silent r = r.0
silent_end flow a l (entry payload ∷ ps) c m silent r = absurd (true≢false silent.0)
silent_end flow a l (said k ∷ ps) c m silent r =
    silent_end flow a (left_after (said k) l) ps c m silent.1 (subst (λ (b : Awaited). Runs flow b (left_after (said k) l) ps c m) (after_silent flow k a l (unannounced (announces flow (said k)) silent.0)) r.1)
  where
    unannounced : (o : Option ℕ) → is_some o ≡ false → o ≡ None
    unannounced None e = refl
    unannounced (Some n) e = absurd (true≢false e)

-- behind a message the number is no lower than before
allows_above : (a : Awaited) (n : ℕ) → Allows a n → number_of a ≤ n
allows_above (exactly b) n h = omega (arith, h)
allows_above (at_most b) n h = h
allows_above (softly low live) n h = omega (arith, h)

is_at_above : (a : Awaited) (n : ℕ) → IsAt a n → number_of a ≤ n
is_at_above (exactly b) n h = omega (arith, h)
is_at_above (at_most b) n h = h
is_at_above (softly low live) n h = omega (arith, h.0)

pub grows : (flow : Flow) (p : Piece) (a : Awaited) (l : Option ℕ) → Fits flow p a l → number_of a ≤ number_of (awaited_after flow p a l)
grows flow (entry payload) (exactly b) None f = omega arith
grows flow (entry payload) (exactly b) (Some n) f = omega arith
grows flow (entry payload) (at_most b) None f = omega arith
grows flow (entry payload) (at_most b) (Some n) f = omega arith
grows flow (entry payload) (softly low live) None f = omega arith
grows flow (entry payload) (softly low live) (Some n) f = omega arith
grows flow (said m) a l f = by_number (announces flow (said m)) refl f.0
  where
    by_number : (o : Option ℕ) → announces flow (said m) ≡ o → IfSome o (λ n. Allows a n) → number_of a ≤ number_of (awaited_after flow (said m) a l)
    by_number None e h = let same = ap number_of (after_silent flow m a l e) in omega (arith, same)
    by_number (Some n) e h = let same = ap number_of (after_announced flow m a l n e) in let low = allows_above a n h in omega (arith, same, low)

pub runs_top : (flow : Flow) (a : Awaited) (l : Option ℕ) (ps : List Piece) (c : ℕ) (m : Option ℕ) → Runs flow a l ps c m → number_of a ≤ c
runs_top flow a l [] c m r = is_at_above a c r.0
runs_top flow a l (p ∷ ps) c m r =
    let one = grows flow p a l r.0 in
    let more = runs_top flow (awaited_after flow p a l) (left_after p l) ps c m r.1 in
    omega (arith, one, more)

-- what the first message makes of the number awaited, where it is none but the live one
pub number_after : (flow : Flow) (p : Piece) (b : ℕ) (l : Option ℕ) → number_of (awaited_after flow p (at_most b) l) ≡ live_after flow p b l
number_after flow p b l = by_test (is_some (announces flow p))
  where
    by_test : (t : Bool) → number_of (if t then exactly (live_after flow p b l) else at_most (live_after flow p b l)) ≡ live_after flow p b l
    by_test true = refl
    by_test false = refl

pub number_started : (flow : Flow) (p : Piece) (low live : ℕ) (l : Option ℕ) → starts flow p ≡ true → number_of (awaited_after flow p (softly low live) l) ≡ live_after flow p live l
number_started flow p low live l e = ap number_of (started flow p low live l e)

-- entries live, and again
pub live_run : (flow : Flow) (b : ℕ) (payloads : List (List ℕ)) → Runs flow (exactly b) None (entries payloads) (b + length payloads) None
live_run flow b [] = (omega arith, refl)
live_run flow b (p ∷ payloads) = (tt, subst (λ (n : ℕ). Runs flow (exactly (b + 1)) None (entries payloads) n None) (omega arith) (live_run flow (b + 1) payloads))

pub again_run : (flow : Flow) (b n : ℕ) (payloads : List (List ℕ)) → length payloads ≤ n → Runs flow (exactly b) (Some n) (entries payloads) b (Some (n - length payloads))
again_run flow b n [] h = (refl, ap (λ (k : ℕ). Some k) (omega arith))
again_run flow b n (p ∷ payloads) h =
    (omega (arith, h), subst (λ (k : ℕ). Runs flow (exactly b) (Some (n - 1)) (entries payloads) b (Some k)) (omega arith) (again_run flow b (n - 1) payloads (omega (arith, h))))
