-- A share of some messages, by its places.
use Rattle.std.proofs.Common.{◌≡◌, ℕ, zero, suc, ◌+◌, ◌-◌, ◌<◌, ◌≤◌, ◌==◌, cond, Bool, true, false, List, [], ◌∷◌, ◌++◌, length, slice_get, slice_index_or, flat_map, option_to_list, Some, None, refl, sym, ap, subst, ◌∙◌, arith, append-nil, append_assoc, length-append, ℤ, Result, Ok, Err}
use Rattle.std.specs.Prelude.{IfOk}
use Rattle.std.proofs.lemmas.Grind.{flat_map-append}
use Rattle.std.proofs.lemmas.Option.{slice_get-get_or}
use Rattle.sbe_layout.specs.declared.plan.Plan.{Plan}
use Rattle.order_desk.specs.Plans.{answers, desk_at, share}
use Rattle.order_gate.specs.Desks.{due}
use Rattle.order_gate.specs.Places.{places, at_places}

abbrev list_of_one : ℕ → List ℕ
list_of_one i = i ∷ []

choose_more : (b : Bool) (i : ℕ) (long short rest : List ℕ) → long ≡ short ++ rest → cond b (i ∷ long) long ≡ cond b (i ∷ short) short ++ rest
choose_more true i long short rest e = ap (λ l. i ∷ l) e
choose_more false i long short rest e = e

-- one place more
pub places_more : (d s n i k : ℕ) → places d s n i (suc k) ≡ places d s n i k ++ cond (desk_at d (n + k) == s) (list_of_one (i + k)) []
places_more d s n i zero =
    let e : n ≡ n + 0 = omega arith in
    let h : i ≡ i + 0 = omega arith in
    ap (λ (m : ℕ). cond (desk_at d m == s) (list_of_one i) []) e ∙ ap (λ (m : ℕ). cond (desk_at d (n + 0) == s) (list_of_one m) []) h
places_more d s n i (suc k) =
    let e : n + 1 + k ≡ n + suc k = omega arith in
    let h : i + 1 + k ≡ i + suc k = omega arith in
    choose_more (desk_at d n == s) i (places d s (n + 1) (i + 1) (suc k)) (places d s (n + 1) (i + 1) k) (cond (desk_at d (n + suc k) == s) (list_of_one (i + suc k)) [])
    (places_more d s (n + 1) (i + 1) k ∙ ap (λ m. places d s (n + 1) (i + 1) k ++ cond (desk_at d m == s) (list_of_one (i + 1 + k)) []) e
    ∙ ap (λ m. places d s (n + 1) (i + 1) k ++ cond (desk_at d (n + suc k) == s) (list_of_one m) []) h)

pub place_taken : (d s n i k : ℕ) (was now : List ℕ) → was ≡ places d s n i k → (desk_at d (n + k) == s) ≡ true → (at : ℕ) → at ≡ i + k → now ≡ was ++ list_of_one at → now ≡ places d s n i (k + 1)
place_taken d s n i k was now is test at here e =
    let h : suc k ≡ k + 1 = omega arith in
    e ∙ ap (λ (m : ℕ). was ++ list_of_one m) here ∙ ap (λ (l : List ℕ). l ++ list_of_one (i + k)) is ∙ ap (λ (b : Bool). places d s n i k ++ cond b (list_of_one (i + k)) []) (sym test) ∙ sym (places_more d s n i k) ∙ ap (places d s n i) h

pub place_passed : (d s n i k : ℕ) (was now : List ℕ) → was ≡ places d s n i k → (desk_at d (n + k) == s) ≡ false → now ≡ was → now ≡ places d s n i (k + 1)
place_passed d s n i k was now is test e =
    let h : suc k ≡ k + 1 = omega arith in
    e ∙ is ∙ sym (append-nil (places d s n i k)) ∙ ap (λ (b : Bool). places d s n i k ++ cond b (list_of_one (i + k)) []) (sym test) ∙ sym (places_more d s n i k) ∙ ap (places d s n i) h

get_here : (before more : List (List ℕ)) (m : List ℕ) → slice_get (before ++ m ∷ more) (length before) ≡ Some m
get_here [] more m = refl
get_here (x ∷ before) more m = get_here before more m

pick_more : (all : List (List ℕ)) (at : ℕ) (m : List ℕ) (list : List ℕ) (later : List (List ℕ)) (b : Bool) → slice_get all at ≡ Some m → at_places all list ≡ later
    → at_places all (cond b (at ∷ list) list) ≡ cond b (m ∷ later) later
pick_more all at m list later true here h = ap (λ o. option_to_list o ++ at_places all list) here ∙ ap (λ l. m ∷ l) h
pick_more all at m list later false here h = h

-- the messages at the places of a share are the share
shared_from : (d s n : ℕ) (before rest all : List (List ℕ)) → all ≡ before ++ rest → at_places all (places d s n (length before) (length rest)) ≡ share d s n rest
shared_from d s n before [] all e = refl
shared_from d s n before (m ∷ ms) all e =
    pick_more all (length before) m (places d s (n + 1) (length before + 1) (length ms)) (share d s (n + 1) ms) (desk_at d n == s)
    (ap (λ l. slice_get l (length before)) e ∙ get_here before ms m)
    (ap (λ i. at_places all (places d s (n + 1) i (length ms))) (sym (length-append before (m ∷ []))) ∙ shared_from d s (n + 1) (before ++ m ∷ []) ms all (e ∙ sym (append_assoc before (m ∷ []) ms)))

pub shared : (d s n : ℕ) (payloads : List (List ℕ)) → at_places payloads (places d s n 0 (length payloads)) ≡ share d s n payloads
shared d s n payloads = shared_from d s n [] payloads payloads refl

pub at_append : (payloads : List (List ℕ)) (xs ys : List ℕ) → at_places payloads (xs ++ ys) ≡ at_places payloads xs ++ at_places payloads ys
at_append payloads xs ys = flat_map-append (λ i. option_to_list (slice_get payloads i)) xs ys

pub get_read : (xs : List (List ℕ)) (i : ℕ) (x : List ℕ) → i < length xs → x ≡ slice_index_or xs i x → slice_get xs i ≡ Some x
get_read xs i x lt e = slice_get-get_or xs i x lt ∙ ap Some (sym e)

pub get_past : (xs : List (List ℕ)) (i : ℕ) → length xs ≤ i → slice_get xs i ≡ None
get_past [] zero le = refl
get_past [] (suc i) le = refl
get_past (x ∷ xs) zero le = absurd (omega (arith, le))
get_past (x ∷ xs) (suc i) le = get_past xs i (omega (arith, le))

pub at_some : (F : List ℕ → List (List ℕ)) (payloads : List (List ℕ)) (place : ℕ) (x : List ℕ) → slice_get payloads place ≡ Some x → flat_map F (option_to_list (slice_get payloads place)) ≡ F x
at_some F payloads place x e = ap (λ o. flat_map F (option_to_list o)) e ∙ append-nil (F x)

pub at_none : (F : List ℕ → List (List ℕ)) (payloads : List (List ℕ)) (place : ℕ) → slice_get payloads place ≡ None → flat_map F (option_to_list (slice_get payloads place)) ≡ []
at_none F payloads place e = ap (λ o. flat_map F (option_to_list o)) e

no_more : (items : List ℕ) → length items ≡ 0 → items ≡ []
no_more [] e = refl
no_more (x ∷ items) e = absurd (cc e)

pub same_list : (all popped items : List ℕ) → all ≡ popped ++ items → length popped ≡ length all → popped ≡ all
same_list all popped items e long =
    let sum : length all ≡ length popped + length items = ap length e ∙ length-append popped items in
    sym (e ∙ ap (λ l. popped ++ l) (no_more items (omega (arith, sum, long))) ∙ append-nil popped)

-- ---- messages that come through a line, answered one after another: F are the answers of a desk

module _ (F : List ℕ → List (List ℕ)) (payloads : List (List ℕ)) where
  abbrev pub sent_at : List ℕ → List (List ℕ)
  sent_at list = flat_map F (at_places payloads list)

  pub sent_append : (xs ys : List ℕ) → sent_at (xs ++ ys) ≡ sent_at xs ++ sent_at ys
  sent_append xs ys = ap (λ l. flat_map F l) (at_append payloads xs ys) ∙ flat_map-append F (at_places payloads xs) (at_places payloads ys)

  pub sent_one : (popped now : List ℕ) (place : ℕ) → now ≡ popped ++ place ∷ [] → sent_at now ≡ sent_at popped ++ flat_map F (option_to_list (slice_get payloads place))
  sent_one popped now place e = ap sent_at e ∙ sent_append popped (place ∷ []) ∙ ap (λ l. sent_at popped ++ flat_map F l) (append-nil (option_to_list (slice_get payloads place)))

pub due_of : (plan : Plan) (reference : ℤ) (d turn : ℕ) (payloads : List (List ℕ)) (s : ℕ) (all : List ℕ) → all ≡ places d s (turn + 1) 0 (length payloads)
    → flat_map (answers plan s reference) (at_places payloads all) ≡ due plan reference d turn payloads s
due_of plan reference d turn payloads s all e = ap (λ l. flat_map (answers plan s reference) (at_places payloads l)) e ∙ ap (λ l. flat_map (answers plan s reference) l) (shared d s (turn + 1) payloads)

-- of an answer that has one thing and another
pub both_ok : {X E : Type 0} (r : Result X E) (P Q R : X → Type 0) → ((x : X) → P x → Q x → R x) → IfOk r P → IfOk r Q → IfOk r R
both_ok (Ok x) P Q R f p q = f x p q
both_ok (Err e) P Q R f p q = tt
