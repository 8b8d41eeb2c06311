-- One entry more of a sender, and its front.
use Rattle.std.proofs.Common.{◌≡◌, ℕ, zero, suc, ◌+◌, ◌-◌, ◌<◌, ◌≤◌, ◌==◌, Bool, true, false, true≢false, if◌then◌else◌, List, [], ◌∷◌, ◌++◌, length, take, get_or, Some, slice_get, refl, sym, ap, subst, ◌∙◌, arith, length-append}
use mathlib.Core.Bool.{not}
use Rattle.std.proofs.Math.ListN.{set, length-set}
use Rattle.std.proofs.lemmas.List.{get_or-set_same, get_or-set_other, get_or_default}
use Rattle.std.proofs.lemmas.Option.{none-some, slice_get_past}
use Rattle.std.proofs.lemmas.Bool.Decides.{nat_tests}
use mathlib.Core.Logic.{dite}
use native.Mathlib.Decide.{ℕ_discrete}
use Rattle.jr_record.specs.declared.record.Record.{Record}
use Rattle.jr_record.specs.declared.record.Record.TheVariants.{Entry, Apply, Skip, Negotiated, PeerFinished, Finish}
use Rattle.plan_values.specs.Plans.{payloads_of}
use Rattle.plan_values.specs.declared.plan.Plan.{Plan}
use Rattle.plan_outbox.specs.declared.front.Front.{Front}
use Rattle.plan_outbox.specs.Progress.{payloads_in, IsFront, AreFronts}

-- an element of a list with one more behind it
pub get_earlier : {A : Type 0} (xs : List A) (x : A) (k : ℕ) → k < length xs → slice_get (xs ++ x ∷ []) k ≡ slice_get xs k
get_earlier [] x k lt = absurd (omega (arith, lt))
get_earlier (y ∷ xs) x zero lt = refl
get_earlier (y ∷ xs) x (suc k) lt = get_earlier xs x k (omega (arith, lt))

pub get_last : {A : Type 0} (xs : List A) (x : A) → slice_get (xs ++ x ∷ []) (length xs) ≡ Some x
get_last [] x = refl
get_last (y ∷ xs) x = get_last xs x

pub shut_of : (b : Bool) → not b ≡ true → b ≡ false
shut_of true e = absurd (true≢false (sym e))
shut_of false e = refl

pub open_of : (b : Bool) → not b ≡ false → b ≡ true
open_of true e = refl
open_of false e = absurd (true≢false e)

-- nothing stands past the end of a list
pub not_past : {A : Type 0} (xs : List A) (k : ℕ) (x : A) → length xs ≤ k → slice_get xs k ≡ Some x → ⊥
not_past xs k x past there = none-some x (sym (slice_get_past xs k past) ∙ there)

pub front_new : (plan : List (List ℕ)) (f : Front) → f.places ≡ 0 → f.is_open ≡ true → IsFront plan [] f
front_new plan f none is = record {
  within = omega (arith, none);
  same = λ k lt. absurd (omega (arith, lt, none));
  all = λ _. none;
  shut = λ e. absurd (true≢false (sym is ∙ e));
}

module _ (plan sent : List (List ℕ)) (payload : List ℕ) (f : Front) (front : IsFront plan sent f) where
  longer : length (sent ++ payload ∷ []) ≡ length sent + 1
  longer = length-append sent (payload ∷ [])

  pub front_shut : f.is_open ≡ false → IsFront plan (sent ++ payload ∷ []) f
  front_shut is = record {
    within = omega (arith, front.within, longer);
    same = λ k lt. get_earlier sent payload k (omega (arith, lt, front.within)) ∙ front.same k lt;
    all = λ e. absurd (true≢false (sym e ∙ is));
    shut = λ _. let s = front.shut is in (omega (arith, s.0, longer), λ e. s.1 (e ∙ get_earlier sent payload f.places s.0));
  }

  pub front_agrees : (new : Front) → f.is_open ≡ true → slice_get plan f.places ≡ Some payload → new.places ≡ f.places + 1 → new.is_open ≡ true → IsFront plan (sent ++ payload ∷ []) new
  front_agrees new is there more now = record {
    within = omega (arith, front.all is, longer, more);
    same = λ k lt. dite (ℕ_discrete k f.places)
        (λ (e : k ≡ f.places).
        let at : k ≡ length sent = e ∙ front.all is in
        subst (λ (j : ℕ). slice_get (sent ++ payload ∷ []) j ≡ Some payload) (sym at) (get_last sent payload) ∙ sym (subst (λ (j : ℕ). slice_get plan j ≡ Some payload) (sym e) there))
        (λ ne.
        let below : k < f.places = omega (arith, lt, more, ne) in
        get_earlier sent payload k (omega (arith, below, front.within)) ∙ front.same k below);
    all = λ _. omega (arith, front.all is, longer, more);
    shut = λ e. absurd (true≢false (sym now ∙ e));
  }

  pub front_differs : (new : Front) → f.is_open ≡ true → (slice_get plan f.places ≡ Some payload → ⊥) → new.places ≡ f.places → new.is_open ≡ false → IsFront plan (sent ++ payload ∷ []) new
  front_differs new is not same shut = record {
    within = omega (arith, front.within, longer, same);
    same = λ k lt.
        let below : k < f.places = omega (arith, lt, same) in
        get_earlier sent payload k (omega (arith, below, front.within)) ∙ front.same k below;
    all = λ e. absurd (true≢false (sym e ∙ shut));
    shut = λ _. (
      omega (arith, front.all is, longer, same),
      λ e. not (
          subst (λ (j : ℕ). slice_get plan j ≡ slice_get (sent ++ payload ∷ []) j) same e
          ∙ subst (λ (j : ℕ). slice_get (sent ++ payload ∷ []) j ≡ Some payload) (sym (front.all is)) (get_last sent payload)
          ),
    );
  }

-- payloads of a sender, one record more
behind : (t u : Bool) (p q : List ℕ) (rest all : List (List ℕ)) → all ≡ (if u then rest ++ q ∷ [] else rest)
    → (if t then p ∷ all else all) ≡ (if u then (if t then p ∷ rest else rest) ++ q ∷ [] else (if t then p ∷ rest else rest))
behind true true p q rest all e = ap (λ (ps : List (List ℕ)). p ∷ ps) e
behind true false p q rest all e = ap (λ (ps : List (List ℕ)). p ∷ ps) e
behind false true p q rest all e = e
behind false false p q rest all e = e

in_entry : (s : ℕ) (records : List Record) (sender k : ℕ) (payload : List ℕ) → payloads_in s (records ++ Entry sender k payload ∷ []) ≡ (if sender == s then payloads_in s records ++ payload ∷ [] else payloads_in s records)
in_entry s [] sender k payload = refl
in_entry s (Entry t j p ∷ records) sender k payload = behind (t == s) (sender == s) p payload (payloads_in s records) (payloads_in s (records ++ Entry sender k payload ∷ [])) (in_entry s records sender k payload)
in_entry s (Apply _ _ ∷ records) sender k payload = in_entry s records sender k payload
in_entry s (Skip _ _ ∷ records) sender k payload = in_entry s records sender k payload
in_entry s (Negotiated ∷ records) sender k payload = in_entry s records sender k payload
in_entry s (PeerFinished _ ∷ records) sender k payload = in_entry s records sender k payload
in_entry s (Finish ∷ records) sender k payload = in_entry s records sender k payload

in_other : (s : ℕ) (records : List Record) (r : Record) → payloads_in s (r ∷ []) ≡ [] → payloads_in s (records ++ r ∷ []) ≡ payloads_in s records
in_other s [] r none = none
in_other s (Entry t j p ∷ records) r none = ap (λ (ps : List (List ℕ)). if t == s then p ∷ ps else ps) (in_other s records r none)
in_other s (Apply _ _ ∷ records) r none = in_other s records r none
in_other s (Skip _ _ ∷ records) r none = in_other s records r none
in_other s (Negotiated ∷ records) r none = in_other s records r none
in_other s (PeerFinished _ ∷ records) r none = in_other s records r none
in_other s (Finish ∷ records) r none = in_other s records r none

-- a record that is no entry of a sender with a plan leaves the fronts as they are
pub fronts_same : (plans : List Plan) (records : List Record) (fronts : List Front) (r : Record) → ((i : ℕ) → i < length plans → payloads_in (i + 1) (r ∷ []) ≡ []) → AreFronts plans records fronts → AreFronts plans (records ++ r ∷ []) fronts
fronts_same plans records fronts r none a = record {
  many = a.many;
  each = λ i p f lt. subst (λ (ps : List (List ℕ)). IsFront (payloads_of (get_or plans i p)) ps (get_or fronts i f)) (sym (in_other (i + 1) records r (none i lt))) (a.each i p f lt);
}

not_its : (sender i k : ℕ) (payload : List ℕ) → (sender ≡ i + 1 → ⊥) → payloads_in (i + 1) (Entry sender k payload ∷ []) ≡ []
not_its sender i k payload ne = elim (sender == i + 1) as (λ t. (sender == i + 1) ≡ t → (if t then payload ∷ [] else []) ≡ []) [
  | true ↦ λ e. absurd (ne (grind (arith, nat_tests)))
  | false ↦ λ e. refl
] refl

pub past_its : (plans sender i k : ℕ) (payload : List ℕ) → plans ≤ sender - 1 → 1 ≤ sender → i < plans → payloads_in (i + 1) (Entry sender k payload ∷ []) ≡ []
past_its plans sender i k payload past least lt = not_its sender i k payload (λ e. omega (arith, past, least, lt, e))

its : (sender i k : ℕ) (payload : List ℕ) (records : List Record) → sender ≡ i + 1 → payloads_in (i + 1) (records ++ Entry sender k payload ∷ []) ≡ payloads_in (i + 1) records ++ payload ∷ []
its sender i k payload records e = in_entry (i + 1) records sender k payload ∙ (elim (sender == i + 1) as (λ t. (sender == i + 1) ≡ t → (if t then payloads_in (i + 1) records ++ payload ∷ [] else payloads_in (i + 1) records) ≡ payloads_in (i + 1) records ++ payload ∷ []) [
  | true ↦ λ x. refl
  | false ↦ λ x. absurd (grind (arith, nat_tests))
] refl)

-- an entry of a sender moves its front alone
pub fronts_moved : (plans : List Plan) (records : List Record) (fronts : List Front) (sender k : ℕ) (payload : List ℕ) (new front : Front) (plan : Plan) → 1 ≤ sender → sender - 1 < length plans
    → front ≡ get_or fronts (sender - 1) front → plan ≡ get_or plans (sender - 1) plan
    → ((sent : List (List ℕ)) → IsFront (payloads_of plan) sent front → IsFront (payloads_of plan) (sent ++ payload ∷ []) new)
    → AreFronts plans records fronts → AreFronts plans (records ++ Entry sender k payload ∷ []) (set fronts (sender - 1) new)
fronts_moved plans records fronts sender k payload new front plan least lt front_is plan_is step a = record { many = length-set fronts (sender - 1) new ∙ a.many; each = each }
  where
    each : (i : ℕ) (p : Plan) (f : Front) → i < length plans → IsFront (payloads_of (get_or plans i p)) (payloads_in (i + 1) (records ++ Entry sender k payload ∷ [])) (get_or (set fronts (sender - 1) new) i f)
    each i p f inside = dite (ℕ_discrete i (sender - 1))
        (λ (e : i ≡ sender - 1).
        let sender_is : sender ≡ i + 1 = omega (arith, e, least) in
        let its_plan : plan ≡ get_or plans i p = plan_is ∙ (get_or_default plans (sender - 1) plan p lt ∙ ap (λ (j : ℕ). get_or plans j p) (sym e)) in
        let its_front : get_or fronts i f ≡ front = ap (λ (j : ℕ). get_or fronts j f) e ∙ (get_or_default fronts (sender - 1) f front (omega (arith, lt, a.many)) ∙ sym front_is) in
        let here : IsFront (payloads_of plan) (payloads_in (i + 1) records) front =
        subst (λ (g : Front). IsFront (payloads_of plan) (payloads_in (i + 1) records) g) its_front
        (subst (λ (q : Plan). IsFront (payloads_of q) (payloads_in (i + 1) records) (get_or fronts i f)) (sym its_plan) (a.each i p f inside)) in
        let moved : IsFront (payloads_of plan) (payloads_in (i + 1) records ++ payload ∷ []) new = step (payloads_in (i + 1) records) here in
        let now : new ≡ get_or (set fronts (sender - 1) new) i f = sym (ap (λ (j : ℕ). get_or (set fronts (sender - 1) new) j f) e ∙ get_or-set_same fronts (sender - 1) new f (omega (arith, lt, a.many))) in
        subst (λ (q : Plan). IsFront (payloads_of q) (payloads_in (i + 1) (records ++ Entry sender k payload ∷ [])) (get_or (set fronts (sender - 1) new) i f)) its_plan
        (subst (λ (ps : List (List ℕ)). IsFront (payloads_of plan) ps (get_or (set fronts (sender - 1) new) i f)) (sym (its sender i k payload records sender_is))
        (subst (λ (g : Front). IsFront (payloads_of plan) (payloads_in (i + 1) records ++ payload ∷ []) g) now moved)))
        (λ ne.
        let others : payloads_in (i + 1) (records ++ Entry sender k payload ∷ []) ≡ payloads_in (i + 1) records = in_other (i + 1) records (Entry sender k payload) (not_its sender i k payload (λ e. ne (omega (arith, e)))) in
        subst (λ (ps : List (List ℕ)). IsFront (payloads_of (get_or plans i p)) ps (get_or (set fronts (sender - 1) new) i f)) (sym others)
        (subst (λ (g : Front). IsFront (payloads_of (get_or plans i p)) (payloads_in (i + 1) records) g) (sym (get_or-set_other fronts (sender - 1) i new f ne)) (a.each i p f inside)))

-- a record that is no entry is none of a sender
pub other_record : (s : ℕ) (r : Record) → ((sender k : ℕ) (payload : List ℕ) → r ≡ Entry sender k payload → ⊥) → payloads_in s (r ∷ []) ≡ []
other_record s (Entry sender k payload) not = absurd (not sender k payload refl)
other_record s (Apply _ _) not = refl
other_record s (Skip _ _) not = refl
other_record s Negotiated not = refl
other_record s (PeerFinished _) not = refl
other_record s Finish not = refl

-- fronts of senders that sent nothing
pub fronts_new : (plans : List Plan) (fronts : List Front) → length fronts ≡ length plans → ((i : ℕ) (d : Front) → i < length plans → (get_or fronts i d).places ≡ 0)
    → ((i : ℕ) (d : Front) → i < length plans → (get_or fronts i d).is_open ≡ true) → AreFronts plans [] fronts
fronts_new plans fronts many none all_open = record {
  many = many;
  each = λ i p f lt. front_new (payloads_of (get_or plans i p)) (get_or fronts i f) (none i f lt) (all_open i f lt);
}

-- a list written back over one as long
pub written : {A : Type 0} (n : ℕ) (xs ys : List A) → length xs ≡ n → take n (xs ++ ys) ≡ xs
written zero [] ys e = refl
written zero (x ∷ xs) ys e = absurd (omega (arith, e))
written (suc n) [] ys e = absurd (omega (arith, e))
written (suc n) (x ∷ xs) ys e = ap (λ (zs : List _). x ∷ zs) (written n xs ys (omega (arith, e)))
