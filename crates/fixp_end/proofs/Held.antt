-- What is held in an end, and the facts that it fits.
use Rattle.std.proofs.Common.{◌≡◌, ℕ, ◌+◌, ◌<◌, ◌≤◌, ◌==◌, Bool, true, false, if◌then◌else◌, List, [], ◌∷◌, drop, Option, Some, None, IsSome, refl, sym, ap, subst, ◌∙◌, nat_lt, eqb-true, true≢false}
use Rattle.std.specs.Prelude.{IfSome, option_map}
use Rattle.std.specs.List.{AllByRecursion}
use Rattle.std.proofs.lemmas.Bool.{false≢true}
use Rattle.std.proofs.lemmas.Option.{none-some}
use Rattle.session_model.specs.Inbox.{Numbered, numbers_of}
use Rattle.flow_window.specs.Window.{holding, front}
use Rattle.sbe_prim.specs.declared.Order.{Order}
use Rattle.fixp_msgs.specs.Numbering.{payload_of}
use Rattle.fixp_msgs.specs.Payload.{IsApplication}
use Rattle.fixp_shake.specs.declared.config.EndConfig.{EndConfig}
use Rattle.fixp_msgs.specs.declared.flow.Flow.{Flow}
use Rattle.fixp_msgs.specs.declared.flow.Flow.TheVariants as flows
use Rattle.flow_recover.specs.Receiving.{Receiving, past}
use Rattle.fixp_replies.specs.declared.facts.EndState.{EndState}
use Rattle.fixp_machine.proofs.Windowing.{IsFront}
use Rattle.fixp_shake.specs.Flows.{is_recoverable, is_idempotent}
use Rattle.fixp_replies.specs.declared.act.Act.{Act}
use Rattle.fixp_replies.specs.declared.act.Act.TheVariants as acts
use Rattle.fixp_replies.specs.declared.act.Ending.{Ending}
use Rattle.fixp_replies.specs.declared.facts.Facts.{Facts}
use Rattle.fixp_msgs.specs.declared.numbering.Range.{Range}
use Rattle.fixp_replies.specs.Acts.{is_record}
use Rattle.fixp_replies.specs.Facts.{Around, receiving, awaiting}
use Rattle.fixp_replies.specs.Incoming.{Incoming, IsIncoming, application, session, wrong_order, too_short, unknown, payload_in}
use Rattle.fixp_replies.specs.Events.{tells_finish, finish_told, closes, turn_ended}
use Rattle.fixp_replies.specs.Outcomes.{Outcome}
use Rattle.fixp_machine.specs.Fitting.{IsMessage, CanTake}
use Rattle.fixp_machine.specs.Sound.{Advances, HeldFits, MayHold, KeepsHeld}
use Rattle.fixp_machine.specs.Machine.{State, held_until, held_with, past_held, held_applied, front_of}
use Rattle.fixp_end.proofs.Told.{told_as}
use Rattle.fixp_end.proofs.Turn.{turn_as}

-- an act that is no record leaves the number that the inbox awaits
pub plain_stays : (act : Act) (before after : ℕ) → is_record act ≡ false → Advances act before after → after ≡ before
plain_stays acts.Nothing before after is a = a
plain_stays (acts.Apply number) before after is a = absurd (true≢false is)
plain_stays (acts.Skip from count) before after is a = absurd (true≢false is)
plain_stays acts.Negotiated before after is a = absurd (true≢false is)
plain_stays (acts.PeerFinished last) before after is a = absurd (true≢false is)
plain_stays (acts.Told from count) before after is a = a
plain_stays acts.Ended before after is a = a

-- the outbox's finish and the end of a turn leave what is held fitting
pub told_fits : (x : Around) (f : Facts) (last : ℕ) (held : Option ℕ) → HeldFits held f → HeldFits held (finish_told x f last).next
told_fits x f last held k = by_case (tells_finish x f last)
  where
    by_case : (b : Bool) → HeldFits held (told_as x f last b).next
    by_case true = record { opening = k.opening; soft = k.soft }
    by_case false = record { opening = k.opening; soft = k.soft }

pub turn_fits : (x : Around) (f : Facts) (runs : List Range) (held : Option ℕ) → HeldFits held f → HeldFits held (turn_ended x f runs).next
turn_fits x f runs held k = by_case (closes x f)
  where
    by_case : (b : Bool) → HeldFits held (turn_as x f runs b).next
    by_case true = record { opening = λ n. absurd (true≢false n); soft = k.soft }
    by_case false = k

-- what holds of all that is held holds of what is left where a connection ends
pub all_until : (P : Numbered → Type 0) (ending : Option Ending) (ms : List Numbered) → AllByRecursion P ms → AllByRecursion P (held_until ending ms)
all_until P None ms all = all
all_until P (Some e) ms all = tt

-- and with one more
pub all_holding : (P : Numbered → Type 0) (n : ℕ) (p : List ℕ) (ms : List Numbered) → P (record { number = n; payload = p }) → AllByRecursion P ms → AllByRecursion P (holding n p ms)
all_holding P n p [] new all = (new, tt)
all_holding P n p (m ∷ ms) new all = by_tests (m.number == n) (nat_lt n m.number) (all_holding P n p ms new all.1)
  where
    by_tests : (same below : Bool) → AllByRecursion P (holding n p ms)
        → AllByRecursion P (if same then m ∷ ms else if below then record { number = n; payload = p } ∷ m ∷ ms else m ∷ holding n p ms)
    by_tests true below later = all
    by_tests false true later = (new, all)
    by_tests false false later = (all.0, later)

pub all_with : (P : Numbered → Type 0) (h : Option ℕ) (p : List ℕ) (ms : List Numbered) → ((n : ℕ) → IsSome h → P (record { number = n; payload = p })) → AllByRecursion P ms
    → AllByRecursion P (held_with h p ms)
all_with P None p ms new all = all
all_with P (Some n) p ms new all = all_holding P n p ms (new n refl) all

-- of the one that the inbox awaits too
pub front_all : (P : Numbered → Type 0) (next : ℕ) (ms : List Numbered) (m : Numbered) → front next ms ≡ Some m → AllByRecursion P ms → P m × (m.number ≡ next)
front_all P next [] m e all = absurd cc
front_all P next (k ∷ ks) m e all = by_test (k.number == next) refl e
  where
    by_test : (b : Bool) → (k.number == next) ≡ b → (if b then Some k else None) ≡ Some m → P m × (m.number ≡ next)
    by_test true t e = let same : k ≡ m = cc e in (subst P same all.0, sym (ap (λ (j : Numbered). j.number) same) ∙ eqb-true k.number next t)
    by_test false t e = absurd cc

-- a message that is held is the frame's
pub payload_is : (order : Order) (message : List ℕ) (i : Incoming) → IsIncoming order message i → IsMessage i → payload_in i ≡ payload_of (record { order = order; message = message })
payload_is order message (application p) is here = is.1
payload_is order message (session m) is here = absurd here
payload_is order message wrong_order is here = absurd here
payload_is order message too_short is here = absurd here
payload_is order message (unknown template) is here = absurd here

-- it is held before or behind the ending, if the connection goes on with it
pub held_alike : (ending : Option Ending) (h : Option ℕ) (p q : List ℕ) (ms : List Numbered) → (IsSome h → (ending ≡ None) × (q ≡ p))
    → held_with h p (held_until ending ms) ≡ held_until ending (held_with h q ms)
held_alike ending None p q ms fits = refl
held_alike None (Some n) p q ms fits = ap (λ (b : List ℕ). holding n b ms) (sym (fits refl).1)
held_alike (Some e) (Some n) p q ms fits = absurd (none-some e (sym (fits refl).0))

-- where a message is held, the flow is recoverable, and the connection goes on; its number is near
pub record HoldsOne (cfg : EndConfig) (o : Outcome) : Type 0 where
  pub flow : is_recoverable cfg.peer_flow ≡ true
  pub ends_not : o.ending ≡ None

pub may_hold : (cfg : EndConfig) (top : ℕ) (f : Facts) (o : Outcome) → KeepsHeld cfg top f o → IsSome o.holds → HoldsOne cfg o
may_hold cfg top f o k some = by_number o.holds k.holds some
  where
    by_number : (h : Option ℕ) → IfSome h (λ n. MayHold cfg top f o n) → IsSome h → HoldsOne cfg o
    by_number None m some = absurd (false≢true some)
    by_number (Some n) m some = record { flow = m.flow; ends_not = m.goes_on }

pub hold_near : (cfg : EndConfig) (top : ℕ) (f : Facts) (o : Outcome) → KeepsHeld cfg top f o → IfSome o.holds (λ n. (f.recorded.inbox_next < n) × (n ≤ f.recorded.inbox_next + 256))
hold_near cfg top f o k = by_number o.holds k.holds
  where
    by_number : (h : Option ℕ) → IfSome h (λ n. MayHold cfg top f o n) → IfSome h (λ n. (f.recorded.inbox_next < n) × (n ≤ f.recorded.inbox_next + 256))
    by_number None m = tt
    by_number (Some n) m = (m.above, m.near)

-- what the inbox awaits of what is held, it can take
both_all : (top : ℕ) (ms : List Numbered) → AllByRecursion (λ (m : Numbered). IsApplication m.payload) ms → AllByRecursion (λ n. n ≤ top) (numbers_of ms)
    → AllByRecursion (λ (m : Numbered). IsApplication m.payload × (m.number ≤ top)) ms
both_all top [] messages numbers = tt
both_all top (m ∷ ms) messages numbers = ((messages.0, numbers.0), both_all top ms messages.1 numbers.1)

pub front_takes : {A : Type 0} (of : A → Numbered) (flow : Flow) (top : ℕ) (r : EndState) (ms : List Numbered) (o : Option A) → option_map of o ≡ front r.inbox_next ms
    → AllByRecursion (λ (m : Numbered). IsApplication m.payload) ms → AllByRecursion (λ n. n ≤ top) (numbers_of ms)
    → IfSome o (λ h. CanTake flow top r (IsApplication (of h).payload) (acts.Apply (of h).number))
front_takes of flow top r ms None e messages numbers = tt
front_takes of flow top r ms (Some h) e messages numbers =
    let k = front_all (λ (m : Numbered). IsApplication m.payload × (m.number ≤ top)) r.inbox_next ms (of h) (sym e) (both_all top ms messages numbers) in
    (k.0.0, k.1, k.0.1)

-- it is applied
pub applied_front : (s : State) → IsFront s.facts.recorded.inbox_next s.held
    → record s { facts = receiving (awaiting s.facts (s.facts.recorded.inbox_next + 1)) (past s.facts.connection.receiver); held = drop 1 s.held } ≡ held_applied s (front_of s)
applied_front s k =
    subst (λ (o : Option Numbered). record s { facts = receiving (awaiting s.facts (s.facts.recorded.inbox_next + 1)) (past s.facts.connection.receiver); held = drop 1 s.held } ≡ held_applied s o)
    (sym k.front_is) (ap (λ (n : ℕ). record s { facts = receiving (awaiting s.facts (n + 1)) (past s.facts.connection.receiver); held = drop 1 s.held }) (sym k.number))

pub not_both : (flow : Flow) → is_recoverable flow ≡ true → is_idempotent flow ≡ true → ⊥
not_both flows.Recoverable r i = true≢false (sym i)
not_both flows.Idempotent r i = true≢false (sym r)
not_both flows.Unsequenced r i = true≢false (sym r)
not_both flows.None r i = true≢false (sym r)

-- what is held is held on a recoverable flow
pub not_idempotent : (flow : Flow) (next : ℕ) (held : List Numbered) → (is_recoverable flow ≡ false → held ≡ []) → IsFront next held → is_idempotent flow ≡ true → ⊥
not_idempotent flow next held other k i = by_test (is_recoverable flow) refl
  where
    by_test : (b : Bool) → is_recoverable flow ≡ b → ⊥
    by_test true r = not_both flow r i
    by_test false r = let is = k.held_is in let none = other r in cc (is, none)

-- what holds of the facts once the message was applied that the inbox awaited
pub past_front : (P : Facts → Type 0) (f : Facts) (next : ℕ) (m : Numbered) (r : Receiving) → m.number ≡ next → r ≡ past f.connection.receiver → P (past_held f m)
    → P (receiving (awaiting f (next + 1)) r)
past_front P f next m r number passed k =
    subst (λ (q : Receiving). P (receiving (awaiting f (next + 1)) q)) (sym passed)
    (subst (λ (n : ℕ). P (receiving (awaiting f (n + 1)) (past f.connection.receiver))) number k)
