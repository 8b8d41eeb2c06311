-- The laws: nothing comes behind a finish, over any steps of two ends; and what is left of the violations is of time.
use Rattle.std.proofs.Common.{◌≡◌, inl, ℕ, ◌+◌, ◌≤◌, ◌&&◌, Bool, true, List, [], ◌∷◌, length, Option, Some, None, refl, sym, ap, subst, ◌∙◌, arith}
use Rattle.std.specs.Prelude.{is_some, IfSome}
use Rattle.std.specs.List.{AllByRecursion}
use Rattle.session_model.specs.Journal.{Entry}
use Rattle.fixp_msgs.specs.Message.{finished_sending}
use Rattle.fixp_shake.specs.declared.violation.Violation.{Violation}
use Rattle.fixp_shake.specs.declared.violation.Violation.TheVariants.{BadFrame, UnknownTemplate, NotInPhase, OtherSession, WentBack, MissingNext, NumberTooLarge, BadRetransmission, AfterFinish, FlowNone, Silent, HandshakeLate}
use Rattle.fixp_replies.specs.Facts.{peer_last}
use Rattle.fixp_machine.specs.Machine.{State, fresh}
use Rattle.connection_laws.specs.Writing.{Piece, said, entry}
use Rattle.honest_ends.specs.PhaseLaws.{IsLeft, IsOfTime}
use Rattle.honest_ends.specs.Numbers.{left_after, to_come}
use Rattle.honest_ends.specs.Worlds.{world_after}
use Rattle.honest_ends.proofs.Finishing.{finishes, Learned, sendings, total}
use Rattle.honest_ends.proofs.Telling.{Complete, NamesLast}
use Rattle.honest_ends.proofs.Asking.{turns}
use Rattle.honest_ends.proofs.Phased.{holds_after, holds_at_first, phases_hold}
use Rattle.std.proofs.lemmas.Bool.{and_parts}
use Rattle.fixp_shake.specs.Flows.{is_recoverable, is_sequenced}
use Rattle.fixp_replies.specs.Expecting.{is_newer}
use Rattle.honest_ends.proofs.Lining.{sequenced_of}
use Rattle.honest_ends.proofs.Settling.{Ends as Ended}
use Rattle.honest_ends.specs.Knowing.{Knows, goes_back, last_told}
use Rattle.honest_ends.specs.NumberLaws.{NoNumber}
use Rattle.honest_ends.specs.Numbered.{Follows}
use Rattle.honest_ends.proofs.NumberLaws.{numbers_hold, numbered_holds}
use Rattle.honest_ends.specs.Finished.{IsLast, IsFinish, IsTold, NoneLive, NoneLiveBehind, Tells}
use Rattle.honest_ends.specs.FinishLaws.{NoFinish, FinishedHolds, FinishesHold, OnlyTimeEnds, StaysKnown}
use Rattle.honest_ends.proofs.Living as counted
use Rattle.honest_ends.proofs.Living.{left_turns}
use Rattle.honest_ends.proofs.Behind.{Behind, known, last_entry, last_of, there_known}
use Rattle.honest_ends.proofs.Past.{to_come_some}
use Rattle.honest_ends.proofs.FinishStepping.{ends_hold, past_after}

pub finishes_hold : FinishesHold
finishes_hold hi ha w steps known may = let h = ends_hold hi ha w steps known may in (h.initiator, h.acceptor)

-- behind one finish at least none is live
shown_live : (ps : List Piece) (k : ℕ) (b : Bool) (l : Option ℕ) → is_some l ≡ b → 1 ≤ k → counted.NoneLive k b ps → NoneLive l ps
shown_live [] k b l e some h = tt
shown_live (entry payload ∷ ps) k b l e some h =
    (e ∙ h.0 some, shown_live ps (k + 0) b (left_after (entry payload) l) (left_turns (entry payload) l ∙ e) (omega (arith, some)) h.1)
shown_live (said m ∷ ps) k b l e some h =
    shown_live ps (k + sendings (said m)) (turns (said m) b) (left_after (said m) l) (left_turns (said m) l ∙ ap (λ (t : Bool). turns (said m) t) e) (omega (arith, some)) h.1

shown_behind : (ps : List Piece) (k : ℕ) (b : Bool) (l : Option ℕ) → is_some l ≡ b → counted.NoneLive k b ps → NoneLiveBehind l ps
shown_behind [] k b l e h = tt
shown_behind (p ∷ ps) k b l e h =
    let same = left_turns p l ∙ ap (λ (t : Bool). turns p t) e in
    (λ is. shown_live ps (k + sendings p) (turns p b) (left_after p l) same (by_piece p is) h.1, shown_behind ps (k + sendings p) (turns p b) (left_after p l) same h.1)
  where
    by_piece : (q : Piece) → IsFinish q → 1 ≤ k + sendings q
    by_piece (said (finished_sending id last)) is = omega arith
    by_piece _ is = absurd is

if_known : (o : Option ℕ) (P : ℕ → Type 0) → ((n : ℕ) → o ≡ Some n → P n) → IfSome o P
if_known None P h = tt
if_known (Some n) P h = h n refl

all_told : (h : List Entry) (writer : State) (ps : List Piece) → (1 ≤ total sendings ps → Complete (length h) writer.facts) → AllByRecursion (NamesLast writer.config.own_flow (length h)) ps → AllByRecursion (IsTold h writer) ps
all_told h writer [] complete names = tt
all_told h writer (p ∷ ps) complete names = (by_piece p (λ some. complete (omega (arith, some))) names.0, all_told h writer ps (λ some. complete (omega (arith, some))) names.1)
  where
    by_piece : (q : Piece) → (1 ≤ sendings q → Complete (length h) writer.facts) → NamesLast writer.config.own_flow (length h) q → IsTold h writer q
    by_piece (said (finished_sending id last)) complete names = let c = complete (omega arith) in (record { finish = c.finish; sent = c.sent }, names)
    by_piece _ complete names = tt

told_so : (h : List Entry) (writer reader : State) (way : List Piece) → Behind writer.config.own_flow h writer.facts reader.facts reader.ending way → Tells h writer reader way
told_so h writer reader way b = record {
  recorded = if_known reader.facts.recorded.peer_last (λ last. IsLast h writer last) (λ last e. is_last last (inl e));
  known = if_known (peer_last reader.facts) (λ last. IsLast h writer last) (λ last e. is_last last (last_of reader.facts.recorded.peer_last reader.facts.connection.peer_finish last e));
  under_way = all_told h writer way b.told b.names;
  behind = λ going yet. shown_behind way (known (peer_last reader.facts)) _ (to_come reader.facts.connection.requester) (to_come_some reader.facts.connection.requester) (b.none_live going yet);
  behind_known = λ going yet some. shown_live way (known (peer_last reader.facts)) _ (to_come reader.facts.connection.requester) (to_come_some reader.facts.connection.requester) (there_known (peer_last reader.facts) some) (b.none_live going yet);
}
  where
    is_last : (last : ℕ) → Learned (finishes reader.facts) last → IsLast h writer last
    is_last last l = let c = b.learned last l in (record { finish = c.0.finish; sent = c.0.sent }, c.1)

pub finished_holds : FinishedHolds
finished_holds hi ha w steps known may =
    let h = ends_hold hi ha w steps known may in
    let now = world_after w steps in
    record { outward = told_so hi now.initiator now.acceptor now.outward h.outward; homeward = told_so ha now.acceptor now.initiator now.homeward h.homeward }

-- what none of the laws excludes
of_time : (v : Violation) → IsLeft v → NoNumber v → NoFinish v → IsOfTime v
of_time (BadFrame at) l n f = l
of_time (UnknownTemplate id) l n f = l
of_time (NotInPhase template phase) l n f = l
of_time (OtherSession template) l n f = l
of_time (WentBack announced expected) l n f = n
of_time (MissingNext template) l n f = l
of_time (NumberTooLarge announced) l n f = n
of_time (BadRetransmission expected found) l n f = n
of_time (AfterFinish last found) l n f = f
of_time (FlowNone template) l n f = l
of_time (Silent last now) l n f = tt
of_time (HandshakeLate start now) l n f = tt

pub only_time_ends : OnlyTimeEnds
only_time_ends hi ha w steps known may =
    let phases = phases_hold hi ha w steps known.0 may in
    let numbers = numbers_hold hi ha w steps known may in
    let finishes = finishes_hold hi ha w steps known may in
    (λ v is. of_time v (phases.0 v is) (numbers.0 v is) (finishes.0 v is), λ v is. of_time v (phases.1 v is) (numbers.1 v is) (finishes.1 v is))

-- what is recorded of one flow is as at a beginning
knows_again : (h : List Entry) (writer reader : State) (way back : List Piece) → Follows h writer reader way back → Behind writer.config.own_flow h writer.facts reader.facts reader.ending way
    → reader.config.peer_flow ≡ writer.config.own_flow → (goes_back writer.config reader.config ≡ true → Ended reader.config.peer_flow reader.facts)
    → Knows h (fresh writer.config writer.facts.recorded writer.most) (fresh reader.config reader.facts.recorded reader.most)
knows_again h writer reader way back f b flow past = record {
  sent = f.sent;
  most = f.most;
  one = f.one;
  next = f.next;
  finish = b.finish;
  last = if_known reader.facts.recorded.peer_last (λ n. (writer.facts.recorded.finish ≡ Some (length h)) × (writer.facts.recorded.sent ≡ length h) × (n ≡ last_told writer.config.own_flow h))
      (λ last e. let c = b.learned last (inl e) in (c.0.finish, c.0.sent, c.1));
  ends = λ goes. if_known reader.facts.recorded.peer_last (λ n. reader.facts.recorded.inbox_next ≡ n + 1) (λ last e. at_last goes last e);
}
  where
    if_there : (o : Option ℕ) (P : ℕ → Type 0) (n : ℕ) → IfSome o P → o ≡ Some n → P n
    if_there None P n h e = absurd cc
    if_there (Some k) P n h e = let same : k ≡ n = cc e in subst P same h

    at_last : goes_back writer.config reader.config ≡ true → (last : ℕ) → reader.facts.recorded.peer_last ≡ Some last → reader.facts.recorded.inbox_next ≡ last + 1
    at_last goes last e =
        let numbered = sequenced_of reader.config.peer_flow (and_parts (is_newer writer.config && is_newer reader.config) (is_recoverable reader.config.peer_flow) goes).1 in
        let c = b.learned last (inl e) in
        let sent = c.0.sent in
        let is = last_entry writer.config.own_flow h last (sym (ap is_sequenced flow) ∙ numbered) c.1 in
        let high = if_there reader.facts.recorded.peer_last (λ n. n + 1 ≤ reader.facts.recorded.inbox_next) last ((past goes).reached numbered) e in
        let next = f.next in
        omega (arith, sent, is, high, next)

pub stays_known : StaysKnown
stays_known hi ha w steps known may =
    let holds = holds_after hi ha w steps (holds_at_first w known.0) may in
    let numbers = numbered_holds hi ha w steps known may in
    let ends = ends_hold hi ha w steps known may in
    let past = past_after hi ha w steps known may in
    let now = world_after w steps in (
      record { matches = holds.matches; initiator = refl; acceptor = refl; outward = refl; homeward = refl },
      knows_again hi now.initiator now.acceptor now.outward now.homeward numbers.outward ends.outward holds.matches.outward past.outward,
      knows_again ha now.acceptor now.initiator now.homeward now.outward numbers.homeward ends.homeward holds.matches.homeward past.homeward,
    )
