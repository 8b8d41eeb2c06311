-- What is true of a journal, and what rises through it.
use Rattle.std.proofs.Common.{◌≡◌, ℕ, zero, suc, ◌+◌, ◌-◌, ◌≤◌, List, [], ◌∷◌, ◌++◌, map, length, take, drop, slice_get, Option, Some, None, unwrap_or, refl, sym, ap, subst, ◌∙◌, arith, add-one}
use Rattle.std.specs.List.{AllByRecursion}
use Rattle.session_model.specs.Journal.{Entry, IsEntry, payloads}
use Rattle.session_model.specs.Inbox.{Numbered}
use Rattle.session_model.specs.Events.{Event, announce, message, standing, numbered, announced, TrueOfJournal, Rising}
use Rattle.session_model.specs.Laws.{TrueSplits, AnnouncedEntriesAreTrue, TrueStaysTrue, RisingStaysRising, RisingGoesOn}
use Rattle.session_model.proofs.Lists.{prefix_length, all_weaker, all_append, all_first, all_second}
use Rattle.session_model.proofs.Journals.{entry_stays, entry_within}
use Rattle.session_model.proofs.Numbering.{numbered-append, announced-append}

pub true_stays_true : TrueStaysTrue
true_stays_true h longer c es begins t = record {
  entries = all_weaker _ _ (λ m e. entry_stays h longer m.number m.payload begins e) (numbered c es) t.entries;
  announced = all_weaker _ _ (λ n b. (b.0, omega (arith, b.1, prefix_length h longer begins))) (announced es) t.announced;
}

pub true_first : (h : List Entry) (c : Option ℕ) (first second : List Event) → TrueOfJournal h c (first ++ second) → TrueOfJournal h c first
true_first h c first second t =
    let P : Numbered → Type 0 = λ m. IsEntry h m.number m.payload in
    let Q : ℕ → Type 0 = λ n. (1 ≤ n) × (n ≤ length h + 1) in
    record {
      entries = all_first P (numbered c first) (numbered (standing c first) second) (subst (AllByRecursion P) (numbered-append c first second) t.entries);
      announced = all_first Q (announced first) (announced second) (subst (AllByRecursion Q) (announced-append first second) t.announced);
    }

pub true_second : (h : List Entry) (c : Option ℕ) (first second : List Event) → TrueOfJournal h c (first ++ second) → TrueOfJournal h (standing c first) second
true_second h c first second t =
    let P : Numbered → Type 0 = λ m. IsEntry h m.number m.payload in
    let Q : ℕ → Type 0 = λ n. (1 ≤ n) × (n ≤ length h + 1) in
    record {
      entries = all_second P (numbered c first) (numbered (standing c first) second) (subst (AllByRecursion P) (numbered-append c first second) t.entries);
      announced = all_second Q (announced first) (announced second) (subst (AllByRecursion Q) (announced-append first second) t.announced);
    }

true_joined : (h : List Entry) (c : Option ℕ) (first second : List Event) → TrueOfJournal h c first → TrueOfJournal h (standing c first) second → TrueOfJournal h c (first ++ second)
true_joined h c first second t u =
    let P : Numbered → Type 0 = λ m. IsEntry h m.number m.payload in
    let Q : ℕ → Type 0 = λ n. (1 ≤ n) × (n ≤ length h + 1) in
    record {
      entries = subst (AllByRecursion P) (sym (numbered-append c first second)) (all_append P (numbered c first) (numbered (standing c first) second) t.entries u.entries);
      announced = subst (AllByRecursion Q) (sym (announced-append first second)) (all_append Q (announced first) (announced second) t.announced u.announced);
    }

pub true_splits : TrueSplits
true_splits h c first second = (λ t. (true_first h c first second t, true_second h c first second t), λ p. true_joined h c first second p.0 p.1)

pub rising_stays_rising : RisingStaysRising
rising_stays_rising h longer n [] begins r = tt
rising_stays_rising h longer n (p ∷ ps) begins r = (r.0, r.1, entry_stays h longer r.0 p begins r.2, rising_stays_rising h longer r.0 ps begins r.3)

-- what rises above a number rises above each lower one
pub rising_lower : (h : List Entry) (n m : ℕ) (ps : List (List ℕ)) → m ≤ n → Rising h n ps → Rising h m ps
rising_lower h n m [] le r = tt
rising_lower h n m (p ∷ ps) le r = (r.0, omega (arith, r.1), r.2, r.3)

pub rising_goes_on : RisingGoesOn
rising_goes_on h longer n [] second begins le r s = rising_lower longer (length h) n second le s
rising_goes_on h longer n (p ∷ first) second begins le r s =
    (r.0, r.1, entry_stays h longer r.0 p begins r.2, rising_goes_on h longer r.0 first second begins (entry_within h r.0 p r.2) r.3 s)

-- behind events that are true, the number that stands announced is at most one past the journal
pub standing_within : (h : List Entry) (next : ℕ) (c : Option ℕ) (es : List Event) → TrueOfJournal h c es
    → next ≤ length h + 1 → unwrap_or c next ≤ length h + 1 → unwrap_or (standing c es) next ≤ length h + 1
standing_within h next c [] t low le = le
standing_within h next c (announce _ None ∷ es) t low le = standing_within h next None es (record { entries = t.entries; announced = t.announced }) low low
standing_within h next c (announce _ (Some n) ∷ es) t low le =
    standing_within h next (Some n) es (record { entries = t.entries; announced = t.announced.1 }) low t.announced.0.1
standing_within h next None (message p ∷ es) t low le = standing_within h next None es (record { entries = t.entries; announced = t.announced }) low low
standing_within h next (Some n) (message p ∷ es) t low le =
    standing_within h next (Some (n + 1)) es (record { entries = t.entries.1; announced = t.announced }) low (omega (arith, entry_within h n p t.entries.0))

-- messages announce nothing
none_announced : (ps : List (List ℕ)) → announced (map message ps) ≡ []
none_announced [] = refl
none_announced (p ∷ ps) = none_announced ps

-- what stands first behind so many
first_behind : (ps : List (List ℕ)) (m : ℕ) (p : List ℕ) (later : List (List ℕ)) → drop m ps ≡ p ∷ later → (slice_get ps m ≡ Some p) × (drop (suc m) ps ≡ later)
first_behind [] zero p later e = absurd cc
first_behind [] (suc m) p later e = absurd cc
first_behind (q ∷ ps) zero p later e = (cc e, cc e)
first_behind (q ∷ ps) (suc m) p later e = first_behind ps m p later e

-- entries from a number on, numbered from it, are those entries
entries_from : (h : List Entry) (m k : ℕ) (ps : List (List ℕ)) → drop m (payloads h) ≡ ps
    → AllByRecursion (λ (e : Numbered). IsEntry h e.number e.payload) (numbered (Some (m + 1)) (map message (take k ps)))
entries_from h m zero ps e = tt
entries_from h m (suc k) [] e = tt
entries_from h m (suc k) (p ∷ ps) e =
    let here = first_behind (payloads h) m p ps e in
    let place : m ≡ m + 1 - 1 = omega arith in (
      record { from_one = omega arith; found = subst (λ j. slice_get (payloads h) j ≡ Some p) place here.0 },
      entries_from h (m + 1) k ps (ap (λ j. drop j (payloads h)) (add-one m) ∙ here.1),
    )

pub announced_entries_are_true : AnnouncedEntriesAreTrue
announced_entries_are_true h c who n k low high =
    let m = n - 1 in
    let ps = take k (drop m (payloads h)) in
    let P : Numbered → Type 0 = λ e. IsEntry h e.number e.payload in
    let Q : ℕ → Type 0 = λ a. (1 ≤ a) × (a ≤ length h + 1) in
    let from : m + 1 ≡ n = omega arith in
    record {
      entries = subst (λ a. AllByRecursion P (numbered (Some a) (map message ps))) from (entries_from h m k (drop m (payloads h)) refl);
      announced = ((low, high), subst (AllByRecursion Q) (sym (none_announced ps)) tt);
    }
