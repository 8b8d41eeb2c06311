-- How far plans and an outbox are compared. These are steps of the proof: nothing that a user relies on needs them.
use Rattle.std.specs.Prelude.{◌≡◌, ◌≢◌, ◌⊎◌, ℕ, ◌+◌, ◌-◌, ◌<◌, ◌≤◌, ◌==◌, if◌then◌else◌, Bool, true, false, List, [], ◌∷◌, ◌++◌, length, slice_get, slice_index_or}
use Rattle.jr_record.specs.declared.record.Record.{Record}
use Rattle.jr_record.specs.declared.record.Record.TheVariants.{Entry, Apply, Skip, Negotiated, PeerFinished, Finish}
use Rattle.plan_values.specs.Plans.{payloads_of}
use Rattle.plan_values.specs.declared.plan.Plan.{Plan}
use Rattle.text_words.specs.Lines.{lines_in}
use Rattle.plan_text.specs.Plans.{Gift, AreGiven, payloads_of_sender}
use Rattle.session_model.specs.Journal.{History, OutboxRecord}
use Rattle.jr_dated.specs.declared.journal.Journal.{Ghosts}
use Rattle.jr_kept.specs.declared.outbox.Outbox.{Outbox}
use Rattle.jr_kept.specs.Outbox.{journal_of, SameContent, HoldsBox, moment_of, faults_of, limits_of}
use Rattle.plan_outbox.specs.declared.front.Front.{Front}

-- the payloads of one sender's entries
abbrev pub payloads_in : ℕ → List Record → List (List ℕ)
payloads_in s [] = []
payloads_in s (Entry sender k payload ∷ later) = if sender == s then payload ∷ payloads_in s later else payloads_in s later
payloads_in s (Apply _ _ ∷ later) = payloads_in s later
payloads_in s (Skip _ _ ∷ later) = payloads_in s later
payloads_in s (Negotiated ∷ later) = payloads_in s later
payloads_in s (PeerFinished _ ∷ later) = payloads_in s later
payloads_in s (Finish ∷ later) = payloads_in s later

-- at so many places a plan has what was sent; more may follow where nothing else was sent, and else what was sent next is not the plan's
pub record IsFront (plan sent : List (List ℕ)) (f : Front) : Type 0 where
  pub within : f.places ≤ length sent
  pub same : (k : ℕ) → k < f.places → slice_get sent k ≡ slice_get plan k
  pub all : f.is_open ≡ true → f.places ≡ length sent
  pub shut : f.is_open ≡ false → (f.places < length sent) × (slice_get plan f.places ≢ slice_get sent f.places)

-- so it is of each of some plans, by the entries of these records
pub record AreFronts (plans : List Plan) (records : List Record) (fronts : List Front) : Type 0 where
  pub many : length fronts ≡ length plans
  pub each : (i : ℕ) (p : Plan) (f : Front) → i < length plans
      → IsFront (payloads_of (slice_index_or plans i p)) (payloads_in (i + 1) records) (slice_index_or fronts i f)

-- so many lines of a sender were taken from its front: all may stand there, or no more than those at its places
pub record IsLeft (f : Front) (finished : Bool) (taken : ℕ) (left : Front) : Type 0 where
  pub kind : left.is_open ≡ f.is_open
  pub places : left.places ≡ f.places - taken
  pub within : ((f.is_open ≡ true) × (finished ≡ false)) ⊎ (taken ≤ f.places)

-- the next line of a sender of which so many were taken may stand by its front
abbrev pub StandsBy : Front → (finished : Bool) → (taken : ℕ) → Type 0
StandsBy f finished taken = (taken < f.places) ⊎ ((f.places ≤ taken) × (f.is_open ≡ true) × (finished ≡ false))

-- so it is of each sender, by the lines that give these
pub record AreLeft (fronts : List Front) (finished : Bool) (gifts : List Gift) (left : List Front) : Type 0 where
  pub many : length left ≡ length fronts
  pub each : (i : ℕ) (d : Front) → i < length fronts
      → IsLeft (slice_index_or fronts i d) finished (length (payloads_of_sender (i + 1) gifts)) (slice_index_or left i d)

-- each of these gifts may stand by its sender's front
abbrev pub AllStandBy : List Front → (finished : Bool) → List Gift → Type 0
AllStandBy fronts finished gifts = (first rest : List Gift) (g : Gift) → gifts ≡ first ++ g ∷ rest
    → (i : ℕ) (d : Front) → g.sender ≡ i + 1 → StandsBy (slice_index_or fronts i d) finished (length (payloads_of_sender (i + 1) first))

-- the gift of the line of this number is the first that may not: it comes right behind its sender's front
pub record IsLinePast (fronts : List Front) (finished : Bool) (gifts : List Gift) (line : ℕ) : Type 0 where
  pub before : List Gift
  pub here : Gift
  pub behind : List Gift
  pub gifts_are : gifts ≡ before ++ here ∷ behind
  pub stand : AllStandBy fronts finished before
  pub number : line ≡ length before + 1
  pub past : (i : ℕ) (d : Front) → here.sender ≡ i + 1
      → (length (payloads_of_sender (i + 1) before) ≡ (slice_index_or fronts i d).places) × ((slice_index_or fronts i d).is_open ≡ true → finished ≡ true)

-- the lines in front of those that are left were taken, and may stand
pub record HaveTaken (fronts : List Front) (finished : Bool) (text rest : List ℕ) (left : List Front) (count : ℕ) : Type 0 where
  pub before : List (List ℕ)
  pub lines : lines_in text ≡ before ++ lines_in rest
  pub counted : count ≡ length before
  pub many : length left ≡ length fronts
  pub taken : (gifts : List Gift) → AreGiven (length fronts) before gifts → AreLeft fronts finished gifts left × AllStandBy fronts finished gifts

-- an outbox was only read: it holds what it held, and its numbers are the same; a call of its disk may have failed
pub record WasRead {J : Type 0} {G : Ghosts J} (old new : Outbox J G) : Type 0 where
  pub content : SameContent old new
  pub holds : (h : History) (refused : List OutboxRecord) → HoldsBox old h refused → HoldsBox new h refused
  pub told : G.is_told (journal_of old) → G.is_told (journal_of new)
  pub moment : moment_of new ≡ moment_of old
  pub limits : limits_of new ≡ limits_of old
  pub never_falls : faults_of old ≤ faults_of new
