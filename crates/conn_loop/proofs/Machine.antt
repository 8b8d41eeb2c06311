-- Calls of the machine in a turn.
use Rattle.std.proofs.Common.{◌≡◌, ◌≤◌, ◌&&◌, not, ℕ, Bool, true, false, if◌then◌else◌, List, [], length, drop, Option, Some, None, refl, sym, ap, subst, ◌∙◌, true≢false}
use Rattle.std.specs.Prelude.{◌≢◌, is_some, is_none, IfSome, IfNone}
use Rattle.fixp_msgs.specs.declared.numbering.Range.{Range}
use Rattle.fixp_replies.specs.declared.act.Ending.{Ending}
use Rattle.fixp_replies.specs.declared.facts.EndState.{EndState}
use Rattle.fixp_replies.specs.declared.act.Ending.TheVariants as endings
use Rattle.fixp_replies.specs.Facts.{finishes_exchanged}
use Rattle.fixp_replies.specs.Events.{link_ending, turn_ended, outbox_finished, finish_told}
use Rattle.flow_idem.specs.Runs.{runs_of}
use Rattle.session_model.specs.Inbox.{Numbered}
use Rattle.session_model.specs.Journal.{History, BeginsHistory}
use Rattle.flow_window.specs.Window.{front}
use Rattle.fixp_shake.specs.declared.config.EndConfig.{EndConfig}
use Rattle.fixp_shake.specs.Flows.{is_absent}
use Rattle.fixp_shake.specs.Phases.{is_established}
use Rattle.gate_turn.specs.Views.{Part}
use Rattle.conn_turns.specs.Turns.{served_now, sends_live, finish_of}
use Rattle.conn_loop.specs.Conn.{HasSeen}
use Rattle.fixp_machine.specs.Machine.{State, around, made, connected, front_of, sent_again, served_again, link_ended, after_bad_frame, after_turn, after_closed}

-- a range that is served was sent again
pub again_is : (old new : State) (p : Option Range) (r : Range) (payloads others : List (List ℕ)) (now : ℕ) → p ≡ Some r → payloads ≡ others → IfSome p (λ x. new ≡ sent_again old x payloads now)
    → new ≡ served_again old p others now
again_is old new None r payloads others now some same h = absurd (true≢false (sym (ap is_some some)))
again_is old new (Some x) r payloads others now some same h = h ∙ ap (λ (ps : List (List ℕ)). sent_again old x ps now) same

abbrev link_as : State → Option Ending → State
link_as s o = if is_some o then s else record s { ending = Some (link_ending (around s 0 s.moment) s.facts); pending = None; held = [] }

-- the end of a link leaves what is unsent, and what is still to be told
pub link_keeps : (s : State) → ((link_ended s).unsent ≡ s.unsent) × ((link_ended s).untold ≡ s.untold) × (s.pending ≡ None → (link_ended s).pending ≡ None)
link_keeps s = by_case s.ending
  where
    by_case : (o : Option Ending) → ((link_as s o).unsent ≡ s.unsent) × ((link_as s o).untold ≡ s.untold) × (s.pending ≡ None → (link_as s o).pending ≡ None)
    by_case None = (refl, refl, λ _. refl)
    by_case (Some e) = (refl, refl, λ e. e)

-- a range is served where the connection is open
pub served_some : (m : State) (r : Range) → is_some m.ending ≡ false → m.facts.connection.serving ≡ Some r → served_now m ≡ Some r
served_some m r goes serving = ap (λ (b : Bool). if b then None else m.facts.connection.serving) goes ∙ serving

finish_on : (o : Option ℕ) (p q : History) → BeginsHistory p q → IfSome o (λ n. (p.finished ≡ true) × (length p.made ≡ n)) → IfSome o (λ n. (q.finished ≡ true) × (length q.made ≡ n))
finish_on None p q begins h = tt
finish_on (Some n) p q begins h = subst (λ (x : History). (x.finished ≡ true) × (length x.made ≡ n)) (begins.alone h.0) h

-- what a pass has seen then is enough for what was sent
pub seen_on : (m n : State) (p q : Part) → BeginsHistory p.seen q.seen → n.facts.recorded.finish ≡ m.facts.recorded.finish → n.facts.recorded.sent ≤ length q.seen.made → HasSeen m p → HasSeen n q
seen_on m n p q begins finish enough h = record {
  entries = enough;
  finish = subst (λ (o : Option ℕ). IfSome o (λ k. (q.seen.finished ≡ true) × (length q.seen.made ≡ k))) (sym finish) (finish_on m.facts.recorded.finish p.seen q.seen begins h.finish);
}

abbrev turn_as : State → ℕ → Bool → State
turn_as s now b =
    if b then record s { moment = now }
    else record (made (record s { moment = now }) (turn_ended (around s 0 now) s.facts (runs_of s.untold)) now) { untold = [] }

-- the end of a turn leaves how the connection ended
pub turn_keeps : (s : State) (now : ℕ) → (after_turn s now).ending ≡ s.ending
turn_keeps s now = by_case (is_some s.ending)
  where
    by_case : (b : Bool) → (turn_as s now b).ending ≡ s.ending
    by_case true = refl
    by_case false = refl

abbrev closed_as : State → ℕ → ℕ → Bool → State
closed_as s last now b = if b then record s { moment = now; facts = outbox_finished s.facts last } else made (record s { moment = now }) (finish_told (around s 0 now) s.facts last) now

-- and so does the outbox's finish
pub closed_keeps : (s : State) (last now : ℕ) → (after_closed s last now).ending ≡ s.ending
closed_keeps s last now = by_case (is_some s.ending)
  where
    by_case : (b : Bool) → (closed_as s last now b).ending ≡ s.ending
    by_case true = refl
    by_case false = refl

-- no held message comes to be awaited as bytes come that are no frame, a link ends, a turn ends, or the outbox's finish is told
pub bad_drained : (s : State) (at now : ℕ) → front_of (after_bad_frame s at now) ≡ None
bad_drained s at now = refl

pub link_drained : (s : State) → front_of s ≡ None → front_of (link_ended s) ≡ None
link_drained s none = by_case s.ending
  where
    by_case : (o : Option Ending) → front_of (link_as s o) ≡ None
    by_case None = refl
    by_case (Some e) = none

pub turn_drained : (s n : State) (now : ℕ) → n ≡ after_turn s now → n.facts.recorded ≡ s.facts.recorded → front_of s ≡ None → front_of n ≡ None
turn_drained s n now is recorded none =
    ap (λ (r : EndState). front r.inbox_next n.held) recorded
    ∙ (ap (λ (ms : List Numbered). front s.facts.recorded.inbox_next ms) (ap (λ (t : State). t.held) is ∙ by_case (is_some s.ending)) ∙ none)
  where
    by_case : (b : Bool) → (turn_as s now b).held ≡ s.held
    by_case true = refl
    by_case false = refl

pub closed_drained : (s n : State) (last now : ℕ) → n ≡ after_closed s last now → n.facts.recorded ≡ record s.facts.recorded { finish = Some last } → front_of s ≡ None → front_of n ≡ None
closed_drained s n last now is recorded none =
    ap (λ (r : EndState). front r.inbox_next n.held) recorded
    ∙ (ap (λ (ms : List Numbered). front s.facts.recorded.inbox_next ms) (ap (λ (t : State). t.held) is ∙ by_case (is_some s.ending)) ∙ none)
  where
    by_case : (b : Bool) → (closed_as s last now b).held ≡ s.held
    by_case true = refl
    by_case false = refl

-- nor as bytes are taken by the link, or a connection begins
pub taken_drained : (s n : State) (count : ℕ) → n ≡ record s { unsent = drop count s.unsent } → front_of s ≡ None → front_of n ≡ None
taken_drained s n count is none = ap front_of is ∙ none

pub begun_drained : (s : State) (now : ℕ) → front_of (connected s now) ≡ None
begun_drained s now = refl

-- the finish that is told depends on the own flow alone
pub finish_same : (m n : State) (h : History) → n.config ≡ m.config → finish_of n h ≡ finish_of m h
finish_same m n h config = ap (λ (x : EndConfig). if not (is_absent x.own_flow) && h.finished then Some (length h.made) else None) config

-- the finish that is told is the mark that was seen, where there is an own flow
pub finish_marked : (m : State) (h : History) (mark : Option ℕ) → is_absent m.config.own_flow ≡ false
    → IfSome mark (λ n. (h.finished ≡ true) × (length h.made ≡ n)) → IfNone mark (h.finished ≢ true) → mark ≡ finish_of m h
finish_marked m h mark flow some none =
    by_case h.finished mark some none ∙ sym (ap (λ (b : Bool). if not b && h.finished then Some (length h.made) else None) flow)
  where
    by_case : (b : Bool) (o : Option ℕ) → IfSome o (λ n. (b ≡ true) × (length h.made ≡ n)) → IfNone o (b ≢ true) → o ≡ (if b then Some (length h.made) else None)
    by_case true None s n = absurd (n refl)
    by_case true (Some k) s n = ap (λ (x : ℕ). Some x) (sym s.1)
    by_case false None s n = refl
    by_case false (Some k) s n = absurd (true≢false (sym s.0))

-- and none where there is no own flow
pub finish_none : (m : State) (h : History) → is_absent m.config.own_flow ≡ true → None ≡ finish_of m h
finish_none m h flow = sym (ap (λ (b : Bool). if not b && h.finished then Some (length h.made) else None) flow)

-- where entries are sent live there is an own flow
pub live_flow : (m : State) → sends_live m ≡ true → is_absent m.config.own_flow ≡ false
live_flow m sends = by_case (is_none m.ending) (is_established m.facts.connection.phase) (is_none m.facts.connection.serving) (is_absent m.config.own_flow) sends
  where
    by_case : (a b d absent : Bool) → (a && b && d && not absent) ≡ true → absent ≡ false
    by_case true true true false e = refl
    by_case true true true true e = absurd (true≢false (sym e))
    by_case true true false absent e = absurd (true≢false (sym e))
    by_case true false d absent e = absurd (true≢false (sym e))
    by_case false b d absent e = absurd (true≢false (sym e))

-- a finish that is told was seen
pub finish_seen : (m : State) (h : History) → IfSome (finish_of m h) (λ n. (h.finished ≡ true) × (length h.made ≡ n))
finish_seen m h = by_case (not (is_absent m.config.own_flow)) h.finished refl
  where
    by_case : (flow b : Bool) → h.finished ≡ b → IfSome (if flow && b then Some (length h.made) else None) (λ n. (h.finished ≡ true) × (length h.made ≡ n))
    by_case true true e = (e, refl)
    by_case true false e = tt
    by_case false b e = tt

-- a connection that had not ended, and whose link's end does not finish it, ends as one whose link has ended
pub link_ends : (s : State) → s.ending ≡ None → (link_ended s).ending ≢ Some endings.Finished → (link_ended s).ending ≡ Some endings.LinkEnded
link_ends s unended unfinished = by_case s.ending unended unfinished
  where
    by_finishes : (b : Bool) → Some (if b then endings.Finished else endings.LinkEnded) ≢ Some endings.Finished → Some (if b then endings.Finished else endings.LinkEnded) ≡ Some endings.LinkEnded
    by_finishes true unfinished = absurd (unfinished refl)
    by_finishes false unfinished = refl

    by_case : (o : Option Ending) → o ≡ None → (link_as s o).ending ≢ Some endings.Finished → (link_as s o).ending ≡ Some endings.LinkEnded
    by_case None e unfinished = by_finishes (finishes_exchanged (around s 0 s.moment) s.facts) unfinished
    by_case (Some x) e unfinished = absurd (cc)
