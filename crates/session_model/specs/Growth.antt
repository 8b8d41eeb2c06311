-- How an inbox grows over what a connection carried, for each kind of flow.
use Rattle.std.specs.Prelude.{◌≡◌, ℕ, ◌+◌, ◌-◌, ◌≤◌, ◌==◌, nat_lt, if◌then◌else◌, List, [], ◌∷◌, ◌++◌, length, Option, Some, None, option_map, unwrap_or, IfSome, Contains, ⊤}
use Rattle.std.specs.List.{AllByRecursion}
use mathlib.Core.List.{IsPrefix}
use Rattle.session_model.specs.Journal.{Entry, IsEntry, payloads, counts_from}
use Rattle.session_model.specs.Inbox.{Numbered, Range, InboxRecord, applied, skips, settled, next_number, numbers_of, payloads_of, SameNumbers}
use Rattle.session_model.specs.Events.{Event, announce, message, standing, numbered, messages, Rising}

-- the first message with number n, the first behind it with number n + 1, and so on as long as there is one
abbrev pub chain : ℕ → List Numbered → List Numbered
chain n [] = []
chain n (m ∷ ms) = if m.number == n then m ∷ chain (n + 1) ms else chain n ms

-- Recoverable (FIXP 1.1, recoverable flow type: exactly once, in order). Nothing is skipped; what is applied has consecutive
-- numbers from the next one on; each was carried, now or earlier; and at least as many are applied as the chain of what is
-- carried now has. So a message that came too early may be held, and applied once its turn has come
pub record GrownInOrder (earlier carried : List Numbered) (before after : List InboxRecord) : Type 0 where
  pub added : List InboxRecord
  pub behind : after ≡ before ++ added
  pub none_skipped : skips added ≡ []
  pub consecutive : numbers_of (applied added) ≡ counts_from (next_number before) (length (applied added))
  pub from_carried : AllByRecursion (λ m. Contains (earlier ++ carried) m) (applied added)
  pub reaches : length (chain (next_number before) carried) ≤ length (applied added)

-- over events of one connection, where c stood announced before them and nothing was held
abbrev pub GrownRecoverable : Option ℕ → List Event → List InboxRecord → List InboxRecord → Type 0
GrownRecoverable c es before after = GrownInOrder [] (numbered c es) before after

-- the range from a number reached up to one announced beyond it
abbrev pub jump : ℕ → Option ℕ → List Range
jump from None = []
jump from (Some n) = if nat_lt from n then record { first = from; count = n - from } ∷ [] else []

-- the jumps of the announcements: the number reached is what stands announced, and next before the first announcement
abbrev pub jumps : ℕ → Option ℕ → List Event → List Range
jumps next c [] = []
jumps next c (announce _ n ∷ es) = jump (unwrap_or c next) n ++ jumps next n es
jumps next c (message _ ∷ es) = jumps next (option_map (λ n. n + 1) c) es

-- each announcement has a number, and none goes back behind the number reached
abbrev pub NeverBack : ℕ → Option ℕ → List Event → Type 0
NeverBack next c [] = ⊤
NeverBack next c (announce _ None ∷ es) = ⊥
NeverBack next c (announce _ (Some n) ∷ es) = (unwrap_or c next ≤ n) × NeverBack next (Some n) es
NeverBack next c (message _ ∷ es) = NeverBack next (option_map (λ n. n + 1) c) es

-- Idempotent (FIXP 1.1, idempotent flow type: at most once, and the sender learns which were not applied). Every numbered
-- message is applied, and each skip is one announcement's jump. What stands announced is the inbox's next number
pub record GrownIdempotent (c : Option ℕ) (es : List Event) (before after : List InboxRecord) : Type 0 where
  pub added : List InboxRecord
  pub behind : after ≡ before ++ added
  pub agrees : IfSome c (λ n. n ≡ next_number before)
  pub never_back : NeverBack (next_number before) c es
  pub applies : applied added ≡ numbered c es
  pub skips_jumps : skips added ≡ jumps (next_number before) c es

-- Unsequenced (FIXP 1.1, unsequenced flow type: best effort). Every message is applied; the inbox numbers by its own count
pub record GrownUnsequenced (es : List Event) (before after : List InboxRecord) : Type 0 where
  pub added : List InboxRecord
  pub behind : after ≡ before ++ added
  pub none_skipped : skips added ≡ []
  pub delivers : payloads_of (applied added) ≡ messages es
  pub counts : numbers_of (applied added) ≡ counts_from (next_number before) (length (messages es))

-- no flow in this direction: nothing is applied, nothing skipped
pub record GrownByNone (before after : List InboxRecord) : Type 0 where
  pub added : List InboxRecord
  pub behind : after ≡ before ++ added
  pub none_skipped : skips added ≡ []
  pub none_applied : applied added ≡ []

-- the kind of a flow (FIXP 1.1, FlowType)
pub data Flow : Type 0 where
  recoverable idempotent unsequenced no_flow : Flow

-- growth over events of one connection, where c stood announced before them: None at the connection's beginning
abbrev pub Grown : Flow → Option ℕ → List Event → List InboxRecord → List InboxRecord → Type 0
Grown recoverable c es before after = GrownRecoverable c es before after
Grown idempotent c es before after = GrownIdempotent c es before after
Grown unsequenced c es before after = GrownUnsequenced es before after
Grown no_flow c es before after = GrownByNone before after

-- growth over a later part of one connection, where c stood announced before its earlier part: what that part carried may
-- have been held, and be applied now. Only a recoverable flow holds messages
abbrev pub GrownLater : Flow → Option ℕ → List Event → List Event → List InboxRecord → List InboxRecord → Type 0
GrownLater recoverable c earlier es before after = GrownInOrder (numbered c earlier) (numbered (standing c earlier) es) before after
GrownLater idempotent c earlier es before after = GrownIdempotent (standing c earlier) es before after
GrownLater unsequenced c earlier es before after = GrownUnsequenced es before after
GrownLater no_flow c earlier es before after = GrownByNone before after

-- growth over several connections, one after another; each begins with no announcement
abbrev pub GrownThrough : Flow → List (List Event) → List InboxRecord → List InboxRecord → Type 0
GrownThrough flow [] before after = after ≡ before
GrownThrough flow (es ∷ later) before after = (between : List InboxRecord) × Grown flow None es before between × GrownThrough flow later between after

-- what a recoverable inbox keeps: it has applied the beginning of the peer's journal, each entry under its number
pub record AppliesPrefix (h : List Entry) (inbox : List InboxRecord) : Type 0 where
  pub prefix : IsPrefix (payloads_of (applied inbox)) (payloads h)
  pub counted : numbers_of (applied inbox) ≡ counts_from 1 (length (applied inbox))
  pub whole : skips inbox ≡ []

-- what an idempotent inbox keeps: the numbers applied and missing are together those below the next one, each once; what
-- is applied is the journal's entry of that number; and the next number is at most one past the journal
pub record SettlesOnce (h : List Entry) (inbox : List InboxRecord) : Type 0 where
  pub once : SameNumbers (settled inbox) (counts_from 1 (next_number inbox - 1))
  pub entries : AllByRecursion (λ (m : Numbered). IsEntry h m.number m.payload) (applied inbox)
  pub within : next_number inbox ≤ length h + 1

-- what an unsequenced inbox keeps: only what was sent, in the order in which it was sent, nothing twice
pub record DeliversRising (h : List Entry) (inbox : List InboxRecord) : Type 0 where
  pub rising : Rising h 0 (payloads_of (applied inbox))
  pub counted : numbers_of (applied inbox) ≡ counts_from 1 (length (applied inbox))
  pub whole : skips inbox ≡ []

-- growth over several idempotent connections, said at once: the jumps of each, from the number that those before it reached
abbrev pub jumps_through : ℕ → List (List Event) → List Range
jumps_through next [] = []
jumps_through next (es ∷ later) = jumps next None es ++ jumps_through (unwrap_or (standing None es) next) later
