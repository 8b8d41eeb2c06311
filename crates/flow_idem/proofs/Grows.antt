-- What the steps of an idempotent flow record is the growth of an idempotent inbox, and the receiver follows it.
use Rattle.std.proofs.Common.{◌≡◌, ℕ, ◌+◌, ◌-◌, ◌≤◌, nat_lt, Bool, true, false, if◌then◌else◌, List, [], ◌∷◌, ◌++◌, map, Option, Some, None, IfSome, unwrap_or, option_map, option_to_list, refl, sym, ap, subst, ◌∙◌, append_assoc, append-nil}
use Rattle.session_model.specs.Journal.{counts_from}
use Rattle.session_model.specs.Inbox.{InboxRecord, applied, skips, numbers_of, next_number, settled, SameNumbers}
use Rattle.session_model.specs.Events.{numbered, standing}
use Rattle.session_model.specs.Growth.{jump, jumps}
use Rattle.session_model.proofs.Inboxes.{applied-append, skips-append}
use Rattle.session_model.proofs.Idempotent.{idempotent_settles}
use Rattle.flow_idem.specs.Applying.{jump_of, jumped, applied_next}
use Rattle.flow_idem.specs.Laws.{Arrival, announcement, message, event_of, skipped, recorded, reached, IsAnnounced, GrowsIdempotent, MissesTheJumps, FollowsRecords}

-- the record of a jump applies nothing, and skips it
abbrev jump_recorded : ℕ → ℕ → List InboxRecord
jump_recorded next n = option_to_list (option_map skipped (jump_of next n))

jump_applies : (next n : ℕ) → applied (jump_recorded next n) ≡ []
jump_applies next n = by_test (nat_lt next n)
  where
    by_test : (b : Bool) → applied (option_to_list (option_map skipped (if b then Some (record { from = next; count = n - next }) else None))) ≡ []
    by_test true = refl
    by_test false = refl

jump_skips : (next n : ℕ) → skips (jump_recorded next n) ≡ jump next (Some n)
jump_skips next n = by_test (nat_lt next n)
  where
    by_test : (b : Bool) → skips (option_to_list (option_map skipped (if b then Some (record { from = next; count = n - next }) else None)))
        ≡ (if b then record { first = next; count = n - next } ∷ [] else [])
    by_test true = refl
    by_test false = refl

applied_behind : (next n : ℕ) (later : List Arrival) → applied (jump_recorded next n ++ recorded n later) ≡ applied (recorded n later)
applied_behind next n later = applied-append (jump_recorded next n) (recorded n later) ∙ ap (λ ms. ms ++ applied (recorded n later)) (jump_applies next n)

-- from a number that stands announced
recorded_applies : (next : ℕ) (arrivals : List Arrival) → applied (recorded next arrivals) ≡ numbered (Some next) (map event_of arrivals)
recorded_applies next [] = refl
recorded_applies next (announcement who n ∷ later) = applied_behind next n later ∙ recorded_applies n later
recorded_applies next (message payload ∷ later) = ap (λ ms. record { number = next; payload = payload } ∷ ms) (recorded_applies (next + 1) later)

recorded_skips : (first next : ℕ) (arrivals : List Arrival) → skips (recorded next arrivals) ≡ jumps first (Some next) (map event_of arrivals)
recorded_skips first next [] = refl
recorded_skips first next (announcement who n ∷ later) =
    skips-append (jump_recorded next n) (recorded n later)
    ∙ (ap (λ rs. rs ++ skips (recorded n later)) (jump_skips next n) ∙ ap (λ rs. jump next (Some n) ++ rs) (recorded_skips first n later))
recorded_skips first next (message payload ∷ later) = recorded_skips first (next + 1) later

recorded_reaches : (next : ℕ) (arrivals : List Arrival) → standing (Some next) (map event_of arrivals) ≡ Some (reached next arrivals)
recorded_reaches next [] = refl
recorded_reaches next (announcement who n ∷ later) = recorded_reaches n later
recorded_reaches next (message payload ∷ later) = recorded_reaches (next + 1) later

-- from what stands announced, or from nothing where an announcement comes first
numbered_as : (c : Option ℕ) (next : ℕ) (arrivals : List Arrival) → IfSome c (λ n. n ≡ next) → IsAnnounced c arrivals
    → numbered (Some next) (map event_of arrivals) ≡ numbered c (map event_of arrivals)
numbered_as (Some n) next arrivals e a = ap (λ k. numbered (Some k) (map event_of arrivals)) (sym e)
numbered_as None next [] e a = refl
numbered_as None next (announcement who n ∷ later) e a = refl
numbered_as None next (message payload ∷ later) e a = absurd a

jumps_as : (c : Option ℕ) (next : ℕ) (arrivals : List Arrival) → IfSome c (λ n. n ≡ next) → IsAnnounced c arrivals
    → jumps next (Some next) (map event_of arrivals) ≡ jumps next c (map event_of arrivals)
jumps_as (Some n) next arrivals e a = ap (λ k. jumps next (Some k) (map event_of arrivals)) (sym e)
jumps_as None next [] e a = refl
jumps_as None next (announcement who n ∷ later) e a = refl
jumps_as None next (message payload ∷ later) e a = absurd a

reached_as : (c : Option ℕ) (next : ℕ) (arrivals : List Arrival) → IfSome c (λ n. n ≡ next) → IsAnnounced c arrivals
    → unwrap_or (standing c (map event_of arrivals)) next ≡ reached next arrivals
reached_as (Some n) next arrivals e a =
    ap (λ k. unwrap_or (standing (Some k) (map event_of arrivals)) next) e ∙ ap (λ o. unwrap_or o next) (recorded_reaches next arrivals)
reached_as None next [] e a = refl
reached_as None next (announcement who n ∷ later) e a = ap (λ o. unwrap_or o next) (recorded_reaches n later)
reached_as None next (message payload ∷ later) e a = absurd a

pub grows_idempotent : GrowsIdempotent
grows_idempotent c arrivals before m =
    let next = next_number before in
    record {
      added = recorded next arrivals;
      behind = refl;
      agrees = m.agrees;
      never_back = m.never_back;
      applies = recorded_applies next arrivals ∙ numbered_as c next arrivals m.agrees m.announced;
      skips_jumps = recorded_skips next next arrivals ∙ jumps_as c next arrivals m.agrees m.announced;
    }

pub misses_the_jumps : MissesTheJumps
unfolding grows_idempotent
misses_the_jumps c arrivals before m =
    let next = next_number before in
    let after = before ++ recorded next arrivals in
    let all = idempotent_settles c (map event_of arrivals) before after (grows_idempotent c arrivals before m) in
    let there : next_number after ≡ reached next arrivals = all.0 ∙ reached_as c next arrivals m.agrees m.announced in (
      subst (λ k. SameNumbers (settled (recorded next arrivals)) (counts_from next (k - next))) there all.2,
      subst (λ k. next ≤ k) there all.1,
      all.3,
    )

pub follows_records : FollowsRecords
follows_records a [] = record { waits = refl; has = sym (append-nil a.applied); owes = sym (append-nil a.untold) }
follows_records a (announcement who n ∷ later) =
    let rest = follows_records (jumped a n) later in
    let same = applied_behind a.next n later in
    record {
      waits = rest.waits;
      has = rest.has ∙ ap (λ ms. a.applied ++ numbers_of ms) (sym same);
      owes = rest.owes ∙ ap (λ ms. a.untold ++ numbers_of ms) (sym same);
    }
follows_records a (message payload ∷ later) =
    let rest = follows_records (applied_next a) later in
    record {
      waits = rest.waits;
      has = rest.has ∙ append_assoc a.applied (a.next ∷ []) _;
      owes = rest.owes ∙ append_assoc a.untold (a.next ∷ []) _;
    }
