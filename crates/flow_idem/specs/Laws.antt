-- The laws of the receiver of an idempotent flow, in the words of the session model.
use Rattle.std.specs.Prelude.{◌≡◌, ℕ, ◌-◌, ◌≤◌, List, [], ◌∷◌, ◌++◌, map, Option, Some, None, IfSome, option_to_list, option_map, ⊤}
use Rattle.session_model.specs.Journal.{counts_from}
use Rattle.session_model.specs.Inbox.{InboxRecord, next_number, applied, numbers_of, missing, settled, SameNumbers, Ascending}
use Rattle.session_model.specs.Inbox.InboxRecord.{apply, skip}
use Rattle.session_model.specs.Events.{Announcer, Event}
use Rattle.session_model.specs.Growth.{NeverBack, GrownIdempotent}
use Rattle.fixp_msgs.specs.declared.numbering.Range.{Range}
use Rattle.flow_idem.specs.Applying.{Applying, jump_of, after_message, jumped, applied_next}
use Rattle.flow_idem.specs.Runs.{runs_of, numbers_in, AreRuns}

-- what comes on an idempotent flow: an announcement, or an application message with its payload
pub data Arrival : Type 0 where
  announcement : Announcer → ℕ → Arrival
  message : List ℕ → Arrival

-- as an event of the session model
abbrev pub event_of : Arrival → Event
event_of (announcement who n) = Event.announce who (Some n)
event_of (message payload) = Event.message payload

-- the record of numbers that were jumped over
abbrev pub skipped : Range → InboxRecord
skipped r = skip (record { first = r.from; count = r.count })

-- the records that an inbox adds where its next number is this: what each announcement jumps over, and each message
abbrev pub recorded : ℕ → List Arrival → List InboxRecord
recorded next [] = []
recorded next (announcement who n ∷ later) = option_to_list (option_map skipped (jump_of next n)) ++ recorded n later
recorded next (message payload ∷ later) = apply (record { number = next; payload = payload }) ∷ recorded (after_message next) later

-- the next number behind them
abbrev pub reached : ℕ → List Arrival → ℕ
reached next [] = next
reached next (announcement who n ∷ later) = reached n later
reached next (message payload ∷ later) = reached (after_message next) later

-- the receiver behind them
abbrev pub behind : Applying → List Arrival → Applying
behind a [] = a
behind a (announcement who n ∷ later) = behind (jumped a n) later
behind a (message payload ∷ later) = behind (applied_next a) later

-- an announcement stands before each message: one stood before, or they begin with one
abbrev pub IsAnnounced : Option ℕ → List Arrival → Type 0
IsAnnounced (Some n) arrivals = ⊤
IsAnnounced None [] = ⊤
IsAnnounced None (announcement who n ∷ later) = ⊤
IsAnnounced None (message payload ∷ later) = ⊥

-- what an inbox that waits for `next` is to have of the arrivals: that number stands announced, or nothing does and an
-- announcement comes first; and none goes back
pub record MayCome (c : Option ℕ) (next : ℕ) (arrivals : List Arrival) : Type 0 where
  pub agrees : IfSome c (λ n. n ≡ next)
  pub announced : IsAnnounced c arrivals
  pub never_back : NeverBack next c (map event_of arrivals)

-- an inbox that adds these records is grown as an idempotent one
abbrev pub GrowsIdempotent : Type 0
GrowsIdempotent = (c : Option ℕ) (arrivals : List Arrival) (before : List InboxRecord) → MayCome c (next_number before) arrivals
    → GrownIdempotent c (map event_of arrivals) before (before ++ recorded (next_number before) arrivals)

-- the missing numbers are exactly those jumped over: with the numbers applied they are all from the next one on up to the one
-- reached, each once; and they rise
abbrev pub MissesTheJumps : Type 0
MissesTheJumps = (c : Option ℕ) (arrivals : List Arrival) (before : List InboxRecord) → MayCome c (next_number before) arrivals
    → SameNumbers (settled (recorded (next_number before) arrivals))
    (counts_from (next_number before) (reached (next_number before) arrivals - next_number before))
    × (next_number before ≤ reached (next_number before) arrivals)
    × Ascending (next_number before) (missing (recorded (next_number before) arrivals))

-- the receiver follows such an inbox: it waits for the same number, and has applied, and not told, what the records apply
pub record Follows (a : Applying) (arrivals : List Arrival) : Type 0 where
  pub waits : (behind a arrivals).next ≡ reached a.next arrivals
  pub has : (behind a arrivals).applied ≡ a.applied ++ numbers_of (applied (recorded a.next arrivals))
  pub owes : (behind a arrivals).untold ≡ a.untold ++ numbers_of (applied (recorded a.next arrivals))

abbrev pub FollowsRecords : Type 0
FollowsRecords = (a : Applying) (arrivals : List Arrival) → Follows a arrivals

-- the runs of some numbers have all of them, in order, and no two of them could be one
abbrev pub RunsAreWhole : Type 0
RunsAreWhole = (ns : List ℕ) → (numbers_in (runs_of ns) ≡ ns) × AreRuns (runs_of ns)

-- and there is no other way to tell them by such runs
abbrev pub RunsAreOne : Type 0
RunsAreOne = (rs : List Range) → AreRuns rs → rs ≡ runs_of (numbers_in rs)
