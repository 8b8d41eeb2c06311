-- Where the last connection of a life ended as finished, the own finish stands in the outbox, as far as it was seen, and the peer's in the inbox.
use Rattle.std.proofs.Common.{◌≡◌, ◌⊎◌, inl, inr, ⊎_elim, ℕ, zero, suc, ◌-◌, ◌&&◌, Bool, true, false, not, if◌then◌else◌, List, [], ◌∷◌, ◌++◌, length, Option, Some, None, refl, sym, ap, subst, ◌∙◌, true≢false, append-nil, append_assoc}
use Rattle.std.specs.Prelude.{⊤, is_some, IfSome, replicate, Result, Ok}
use Rattle.std.specs.List.{AllByRecursion}
use Rattle.std.proofs.lemmas.Option.{same_Some}
use Rattle.session_model.specs.Journal.{History, BeginsHistory}
use Rattle.session_model.specs.Inbox.{InboxRecord, has_peer_finished}
use Rattle.session_model.proofs.Lists.{all_append}
use Rattle.fixp_msgs.specs.declared.numbering.Range.{Range}
use Rattle.fixp_msgs.specs.Message.{terminate, finished_sending}
use Rattle.session_model.specs.Inbox.{Numbered}
use Rattle.flow_idem.specs.Runs.{runs_of}
use Rattle.fixp_shake.specs.declared.config.EndConfig.{EndConfig}
use Rattle.fixp_shake.specs.declared.phase.Phase.{Phase}
use Rattle.fixp_shake.specs.declared.phase.Phase.TheVariants as phases
use Rattle.fixp_shake.specs.declared.violation.Violation.{Violation}
use Rattle.fixp_shake.specs.declared.violation.Violation.TheVariants.{BadFrame}
use Rattle.fixp_shake.specs.Flows.{is_absent, is_sequenced}
use Rattle.fixp_replies.specs.declared.act.Act.{Act}
use Rattle.fixp_replies.specs.declared.act.Act.TheVariants as acts
use Rattle.fixp_replies.specs.declared.act.Ending.{Ending}
use Rattle.fixp_replies.specs.declared.act.Ending.TheVariants as endings
use Rattle.fixp_replies.specs.declared.facts.EndState.{EndState}
use Rattle.fixp_replies.specs.declared.facts.Facts.{Facts}
use Rattle.fixp_replies.specs.declared.facts.OwnFinish.TheVariants as own
use Rattle.fixp_replies.specs.Acts.{is_record}
use Rattle.fixp_replies.specs.Incoming.{Incoming, payload_in}
use Rattle.fixp_replies.specs.Facts.{Around, is_initiator, connecting, in_phase, serves}
use Rattle.fixp_replies.specs.Outcomes.{Outcome, ends_as, opening_negotiate, opening_establish}
use Rattle.fixp_replies.specs.Events.{Made, begun, heartbeats, lateness, turn_ended, closes, applied_runs, outbox_finished, tells_finish, finish_told}
use Rattle.fixp_replies.specs.Serving.{own_finishing}
use Rattle.fixp_replies.specs.Replies.{reply_of}
use Rattle.fixp_machine.specs.Machine.{State, Call, begin, frame, bad_frame, did, tick, turn_done, closed, link_end, live, again, taken, reserve, held_done, around, made, wrote, bytes_of, broken_by, ticked, connected, reply_applied, after_frame, held_with, front_of, held_applied, done_pending, served_again, link_ended, after_turn, after_closed, step, run, fresh}
use Rattle.fixp_machine.specs.Accepting.{records_of}
use Rattle.conn_lines.specs.declared.close.Close.{Close}
use Rattle.conn_lines.specs.declared.close.Close.TheVariants as closings
use Rattle.conn_turns.specs.declared.news.NewsItem.{NewsItem}
use Rattle.conn_turns.specs.Lines.{Line, TakenFrame, reply_at, act_calls, frame_calls, line_after, IsTaken, AreTaken}
use Rattle.conn_turns.specs.Frames.{adds, added, applies}
use Rattle.conn_turns.specs.Turns.{Work, Turn, only_sends, works, link_lost, cut_short, not_begun, first_calls, calls_of_frames, closing_calls, again_calls, live_calls, finish_calls, outbox_calls, sending_calls, call_for, finish_of}
use Rattle.conn_turns.specs.Exact.{Served, closed_at}
use Rattle.conn_turns.proofs.Taking.{run_append, due_unless}
use Rattle.turn_laws.specs.Turns.{IsTurn, adds_in, line_received}
use Rattle.turn_laws.specs.Made.{TurnAt}
use Rattle.turn_laws.proofs.Each.{closing_all}
use Rattle.gate_turn.proofs.Histories.{begins_on}
use Rattle.jr_dated.specs.declared.journal.Journal.{Ghosts}
use Rattle.jr_kept.specs.declared.inbox.Inbox.{Inbox}
use Rattle.jr_kept.specs.Inbox.{HoldsBox, peer_last_of}
use Rattle.conn_door.specs.declared.answer.ServeFault.{ServeFault}
use Rattle.conn_door.specs.declared.answer.LifeEnd.{LifeEnd}
use Rattle.conn_door.specs.declared.answer.LifeEnd.TheVariants as ends
use Rattle.conn_serve.specs.Connections.{Connection, WereTurns, ClosesAs, HasEnded, AllEnded, all_of, adds_of}
use Rattle.conn_serve.specs.Moments.{LifeAt}
use Rattle.conn_serve.specs.Opening.{opened_state}
use Rattle.conn_serve.specs.Served.{EndsWith, WasGivenUp, IsLifeAnswer, ServedLife}
use Rattle.conn_serve.proofs.Upto.{finished_in}
use Rattle.life_laws.proofs.Meeting.{Met, Meets, met_on, Both, Records, KeepsBy, ended_both, reply_keeps}

-- a machine of this configuration whose finishes are those of the journals, and which has ended as finished only where both are
pub record Stand (cfg : EndConfig) (Own Peer : Type 0) (m : State) : Type 0 where
  pub config : m.config ≡ cfg
  pub facts : Meets Own Peer m.facts
  pub over : m.ending ≡ Some endings.Finished → Both cfg Own Peer

stand_on : {cfg : EndConfig} {Own Peer Own' Peer' : Type 0} (m : State) → (Own → Own') → (Peer → Peer') → Stand cfg Own Peer m → Stand cfg Own' Peer' m
stand_on m first second s = record {
  config = s.config;
  facts = met_on first second s.facts;
  over = λ e. let b = s.over e in (λ none. first (b.0 none), λ none. second (b.1 none));
}

-- calls that no frame is told by; the finish of the outbox is told only where it has it
abbrev Plain : Type 0 → Call → Type 0
Plain Own (begin now) = ⊤
Plain Own (frame incoming at now) = ⊥
Plain Own (bad_frame at now) = ⊤
Plain Own (did now) = ⊥
Plain Own (tick now) = ⊤
Plain Own (turn_done now) = ⊤
Plain Own (closed last now) = Own
Plain Own link_end = ⊤
Plain Own (live payloads now) = ⊤
Plain Own (again payloads now) = ⊤
Plain Own (taken count) = ⊤
Plain Own reserve = ⊤
Plain Own held_done = ⊤

module _ (cfg : EndConfig) (Own Peer : Type 0) where
  over_ending : (x : Around) (g : Facts) (e : Ending) → x.config ≡ cfg → (e ≡ endings.Finished → ⊥) → Meets Own Peer g → Some (ends_as x g e) ≡ Some endings.Finished → Both cfg Own Peer
  over_ending x g e is other m same = subst (λ (c : EndConfig). Both c Own Peer) is (ended_both Own Peer x g e other m same)

  begun_met : (x : Around) (recorded : EndState) → (is_some recorded.peer_last ≡ true → Peer) → Meets Own Peer (begun x recorded).next
  begun_met x recorded last = by_test (not (is_initiator x.config.role)) recorded.negotiated
    where
      chosen : (a b : Bool) → Made
      chosen a b = if a then record { written = []; next = connecting recorded phases.Idle }
          else if b then record { written = opening_establish x (connecting recorded phases.Establishing) ∷ []; next = connecting recorded phases.Establishing }
          else record { written = opening_negotiate x ∷ []; next = connecting recorded phases.Negotiating }

      fresh_met : (phase : Phase) → Meets Own Peer (connecting recorded phase)
      fresh_met phase = record { own_is = λ e. absurd (true≢false e); peer_is = λ e. absurd (true≢false (sym e)); last_is = last }

      by_test : (a b : Bool) → Meets Own Peer (chosen a b).next
      by_test true b = fresh_met phases.Idle
      by_test false true = fresh_met phases.Establishing
      by_test false false = fresh_met phases.Negotiating

  tick_stands : (m : State) (now : ℕ) → Stand cfg Own Peer m → Stand cfg Own Peer (ticked m now)
  tick_stands m now s = by_end (is_some m.ending)
    where
      w : State
      w = wrote (record m { moment = now }) (bytes_of (heartbeats (around m 0 now) m.facts m.last_sent m.unsent)) now

      by_late : (v : Option Violation) → Stand cfg Own Peer (broken_by w v now)
      by_late None = record { config = s.config; facts = s.facts; over = s.over }
      by_late (Some v) = record { config = s.config; facts = s.facts; over = over_ending (around w 0 now) w.facts (endings.Violation v) s.config (λ e. cc e) s.facts }

      by_end : (b : Bool) → Stand cfg Own Peer (if b then record m { moment = now } else broken_by w (lateness (around m 0 now) m.facts m.start m.last_received) now)
      by_end true = record { config = s.config; facts = s.facts; over = s.over }
      by_end false = by_late (lateness (around m 0 now) m.facts m.start m.last_received)

  turn_done_stands : (m : State) (now : ℕ) → Stand cfg Own Peer m → Stand cfg Own Peer (after_turn m now)
  turn_done_stands m now s = by_end (is_some m.ending)
    where
      x : Around
      x = around m 0 now

      runs : List Range
      runs = runs_of m.untold

      chosen : Bool → Made
      chosen b = if b then record { written = applied_runs runs ++ terminate x.config.session 1 [] ∷ []; next = in_phase m.facts phases.Closing } else record { written = applied_runs runs; next = m.facts }

      next_met : (b : Bool) → Meets Own Peer (chosen b).next
      next_met true = s.facts
      next_met false = s.facts

      by_end : (b : Bool) → Stand cfg Own Peer (if b then record m { moment = now } else record (made (record m { moment = now }) (turn_ended x m.facts runs) now) { untold = [] })
      by_end true = record { config = s.config; facts = s.facts; over = s.over }
      by_end false = record { config = s.config; facts = next_met (closes x m.facts); over = s.over }

  closed_stands : (m : State) (last now : ℕ) → Own → Stand cfg Own Peer m → Stand cfg Own Peer (after_closed m last now)
  closed_stands m last now has s = by_end (is_some m.ending)
    where
      x : Around
      x = around m 0 now

      chosen : Bool → Made
      chosen b = if b then record {
        written = finished_sending x.config.session (if is_sequenced x.config.own_flow then Some last else None) ∷ [];
        next = own_finishing (outbox_finished m.facts last) own.Told;
      }
          else record { written = []; next = outbox_finished m.facts last }

      next_met : (b : Bool) → Meets Own Peer (chosen b).next
      next_met true = record { own_is = λ _. has; peer_is = s.facts.peer_is; last_is = s.facts.last_is }
      next_met false = s.facts

      by_end : (b : Bool) → Stand cfg Own Peer (if b then record m { moment = now; facts = outbox_finished m.facts last } else made (record m { moment = now }) (finish_told x m.facts last) now)
      by_end true = record { config = s.config; facts = s.facts; over = s.over }
      by_end false = record { config = s.config; facts = next_met (tells_finish x m.facts last); over = s.over }

  link_stands : (m : State) → Stand cfg Own Peer m → Stand cfg Own Peer (link_ended m)
  link_stands m s = by_end (is_some m.ending)
    where
      by_end : (b : Bool) → Stand cfg Own Peer (if b then m else record m { ending = Some (ends_as (around m 0 m.moment) m.facts endings.LinkEnded); pending = None; held = [] })
      by_end true = s
      by_end false = record { config = s.config; facts = s.facts; over = over_ending (around m 0 m.moment) m.facts endings.LinkEnded s.config (λ e. cc e) s.facts }

  again_stands : (m : State) (r : Option Range) (payloads : List (List ℕ)) (now : ℕ) → Stand cfg Own Peer m → Stand cfg Own Peer (served_again m r payloads now)
  again_stands m None payloads now s = s
  again_stands m (Some r) payloads now s = record { config = s.config; facts = s.facts; over = s.over }

  held_stands : (m : State) (o : Option Numbered) → Stand cfg Own Peer m → Stand cfg Own Peer (held_applied m o)
  held_stands m None s = s
  held_stands m (Some n) s = record { config = s.config; facts = s.facts; over = s.over }

  call_stands : (call : Call) → Plain Own call → (m : State) → Stand cfg Own Peer m → Stand cfg Own Peer (step m call)
  call_stands (begin now) p m s = record { config = s.config; facts = begun_met (around m 0 now) m.facts.recorded s.facts.last_is; over = λ e. absurd (cc e) }
  call_stands (frame incoming at now) p m s = absurd p
  call_stands (bad_frame at now) p m s = record { config = s.config; facts = s.facts; over = over_ending (around m at now) m.facts (endings.Violation (BadFrame at)) s.config (λ e. cc e) s.facts }
  call_stands (did now) p m s = absurd p
  call_stands (tick now) p m s = tick_stands m now s
  call_stands (turn_done now) p m s = turn_done_stands m now s
  call_stands (closed last now) p m s = closed_stands m last now p s
  call_stands link_end p m s = link_stands m s
  call_stands (live payloads now) p m s = record { config = s.config; facts = s.facts; over = s.over }
  call_stands (again payloads now) p m s = again_stands m m.facts.connection.serving payloads now s
  call_stands (taken count) p m s = record { config = s.config; facts = s.facts; over = s.over }
  call_stands reserve p m s = record { config = s.config; facts = s.facts; over = s.over }
  call_stands held_done p m s = held_stands m (front_of m) s

  calls_stand : (cs : List Call) → AllByRecursion (Plain Own) cs → (m : State) → Stand cfg Own Peer m → Stand cfg Own Peer (run m cs)
  calls_stand [] all m s = s
  calls_stand (call ∷ later) all m s = calls_stand later all.1 (step m call) (call_stands call all.0 m s)

  -- a frame, and its act
  act_stands : (now : ℕ) (l : Line) (t : TakenFrame) → t.recorded ≡ is_record (reply_at now l t).act → Stand cfg Own Peer l.machine
      → Stand cfg Own (Peer ⊎ Records (reply_at now l t).act) (run l.machine (act_calls now t))
  act_stands now l t recorded s = by_test t.recorded recorded
    where
      m : State
      m = l.machine

      o : Outcome
      o = reply_at now l t

      keeps : KeepsBy Own Peer (around m t.at now) o
      keeps = reply_keeps Own Peer (around m t.at now) m.facts s.facts t.incoming

      -- the outcome took effect
      so : (k : State) → k.config ≡ cfg → k.facts ≡ o.next → k.ending ≡ o.ending → Stand cfg Own (Peer ⊎ Records o.act) k
      so k config facts ending = record {
        config = config;
        facts = subst (λ (f : Facts). Meets Own (Peer ⊎ Records o.act) f) (sym facts) keeps.facts;
        over = λ e. let b = subst (λ (c : EndConfig). Both c Own Peer) s.config (keeps.over (sym ending ∙ e)) in (b.0, λ none. inl (b.1 none));
      }

      got : State
      got = record m { moment = now; last_received = now; room = m.room - 1; pending = Some o }

      more : State
      more = record m { moment = now; last_received = now; room = m.room - 1; held = held_with o.holds (payload_in t.incoming) m.held }

      by_test : (b : Bool) → b ≡ is_record o.act → Stand cfg Own (Peer ⊎ Records o.act) (run m (frame t.incoming t.at now ∷ (if b then did now ∷ [] else [])))
      by_test false e = subst (λ (b : Bool). Stand cfg Own (Peer ⊎ Records o.act) (if b then got else reply_applied more o now)) e (so (reply_applied more o now) s.config refl refl)
      by_test true e =
          subst (λ (b : Bool). Stand cfg Own (Peer ⊎ Records o.act) (done_pending (if b then got else reply_applied more o now) (if b then got else reply_applied more o now).pending now)) e
          (so (reply_applied (record got { moment = now }) o now) s.config refl refl)

-- ---- the frames of a turn

abbrev InInbox : List InboxRecord → Type 0
InInbox i = has_peer_finished i ≡ true

in_more : (i j : List InboxRecord) → InInbox i → InInbox (i ++ j)
in_more [] j e = absurd (true≢false (sym e))
in_more (InboxRecord.apply m ∷ i) j e = in_more i j e
in_more (InboxRecord.skip r ∷ i) j e = in_more i j e
in_more (InboxRecord.negotiated ∷ i) j e = in_more i j e
in_more (InboxRecord.peer_finished last ∷ i) j e = refl

in_behind : (i : List InboxRecord) (last : ℕ) (rest : List InboxRecord) → InInbox (i ++ (InboxRecord.peer_finished last ∷ rest))
in_behind [] last rest = refl
in_behind (InboxRecord.apply m ∷ i) last rest = in_behind i last rest
in_behind (InboxRecord.skip r ∷ i) last rest = in_behind i last rest
in_behind (InboxRecord.negotiated ∷ i) last rest = in_behind i last rest
in_behind (InboxRecord.peer_finished x ∷ i) last rest = refl

-- an act records it
in_act : (i : List InboxRecord) (a : Act) (incoming : Incoming) (rest : List InboxRecord) → InInbox i ⊎ Records a → InInbox (i ++ (records_of a incoming ++ rest))
in_act i a incoming rest (inl before) = in_more i (records_of a incoming ++ rest) before
in_act i acts.Nothing incoming rest (inr r) = absurd r
in_act i (acts.Apply number) incoming rest (inr r) = absurd r
in_act i (acts.Skip from count) incoming rest (inr r) = absurd r
in_act i acts.Negotiated incoming rest (inr r) = absurd r
in_act i (acts.PeerFinished last) incoming rest (inr r) = in_behind i last rest
in_act i (acts.Told from count) incoming rest (inr r) = absurd r
in_act i acts.Ended incoming rest (inr r) = absurd r

abbrev InOutbox : History → Type 0
InOutbox h = h.finished ≡ true

out_more : (h later : History) → BeginsHistory h later → InOutbox h → InOutbox later
out_more h later b is = ap (λ (x : History). x.finished) (sym (b.alone is)) ∙ is

module _ (cfg : EndConfig) where
  helds_plain : (Own : Type 0) (k : ℕ) → AllByRecursion (Plain Own) (replicate k held_done)
  helds_plain Own zero = tt
  helds_plain Own (suc k) = (tt, helds_plain Own k)

  frame_stands : (Own : Type 0) (now : ℕ) (l : Line) (t : TakenFrame) (i : List InboxRecord) → IsTaken now l t → Stand cfg Own (InInbox i) l.machine → Stand cfg Own (InInbox (i ++ adds now l t)) (run l.machine (frame_calls now t))
  unfolding adds
  frame_stands Own now l t i k s =
      subst (Stand cfg Own (InInbox (i ++ adds now l t))) (sym (run_append l.machine (act_calls now t) (replicate t.helds held_done)))
      (calls_stand cfg Own (InInbox (i ++ adds now l t)) (replicate t.helds held_done) (helds_plain Own t.helds) (run l.machine (act_calls now t))
      (stand_on (run l.machine (act_calls now t)) (λ o. o) (in_act i (reply_at now l t).act t.incoming (applies _)) (act_stands cfg Own (InInbox i) now l t k.recorded s)))

  frames_stand : (Own : Type 0) (now : ℕ) (l : Line) (frames : List TakenFrame) (i : List InboxRecord) → AreTaken now l frames → Stand cfg Own (InInbox i) l.machine
      → Stand cfg Own (InInbox (i ++ added now l frames)) (run l.machine (calls_of_frames now frames))
  unfolding line_after
  frames_stand Own now l [] i k s = subst (λ (j : List InboxRecord). Stand cfg Own (InInbox j) l.machine) (sym (append-nil i)) s
  frames_stand Own now l (t ∷ later) i k s =
      subst (Stand cfg Own (InInbox (i ++ added now l (t ∷ later)))) (sym (run_append l.machine (frame_calls now t) (calls_of_frames now later)))
      (subst (λ (j : List InboxRecord). Stand cfg Own (InInbox j) (run (run l.machine (frame_calls now t)) (calls_of_frames now later))) (append_assoc i (adds now l t) (added now (line_after now l t) later))
      (frames_stand Own now (line_after now l t) later (i ++ adds now l t) k.1 (frame_stands Own now l t i k.0 s)))

  -- ---- a turn

  -- the finish is told only where it was seen
  told_seen : (m : State) (h : History) (n : ℕ) → finish_of m h ≡ Some n → InOutbox h
  told_seen m h n e = by_tests (not (is_absent m.config.own_flow)) h.finished e
    where
      by_tests : (a b : Bool) → (if a && b then Some (length h.made) else None) ≡ Some n → b ≡ true
      by_tests true true e = refl
      by_tests true false e = absurd (cc e)
      by_tests false b e = absurd (cc e)

  option_plain : {A : Type 0} (Own : Type 0) (call : A → Call) (o : Option A) → ((a : A) → o ≡ Some a → Plain Own (call a)) → AllByRecursion (Plain Own) (call_for call o)
  option_plain Own call None p = tt
  option_plain Own call (Some a) p = (p a refl, tt)

  sending_plain : (Own : Type 0) (sent : List ℕ) (lost : Bool) → AllByRecursion (Plain Own) (sending_calls sent lost)
  sending_plain Own sent true = (tt, tt)
  sending_plain Own sent false = (tt, tt)

  served_stands : (before after : History) (l behind : Line) (w : Work) (i : List InboxRecord) → Served before after l behind w → Stand cfg (InOutbox before) (InInbox i) l.machine
      → Stand cfg (InOutbox after) (InInbox (i ++ added w.now l w.frames)) behind.machine
  served_stands before after l behind w i v s =
      let begins : BeginsHistory before after = subst (BeginsHistory before) v.seen (begins_on before w.at_live w.at_finish (begins_on before w.at_again w.at_live v.seen_again v.seen_live) v.seen_finish) in
      let frames : List Call = calls_of_frames w.now w.frames in
      let j : List InboxRecord = i ++ added w.now l w.frames in
      let first : Stand cfg (InOutbox after) (InInbox j) (run l.machine frames) =
      frames_stand (InOutbox after) w.now l w.frames i v.frames (stand_on l.machine (out_more before after begins) (λ p. p) s) in
      let plain : AllByRecursion (Plain (InOutbox after)) (closing_calls w ++ outbox_calls w) =
      all_append (Plain (InOutbox after)) (closing_calls w) (outbox_calls w) (closing_all (Plain (InOutbox after)) w.now w.broken w.link_over (λ _. tt) tt tt)
      (all_append (Plain (InOutbox after)) (again_calls w.now w.again) (live_calls w.now w.live ++ finish_calls w.now w.finish) (option_plain (InOutbox after) (λ sent. again sent w.now) w.again (λ _ _. tt))
      (all_append (Plain (InOutbox after)) (live_calls w.now w.live) (finish_calls w.now w.finish) (option_plain (InOutbox after) (λ sent. live sent w.now) w.live (λ _ _. tt))
      (due_unless l (finish_of (closed_at l w) w.at_finish) w.finish (λ (o : Option ℕ). AllByRecursion (Plain (InOutbox after)) (finish_calls w.now o)) v.finish tt
      (option_plain (InOutbox after) (λ last. closed last w.now) (finish_of (closed_at l w) w.at_finish) (λ n e. subst InOutbox v.seen (told_seen (closed_at l w) w.at_finish n e)))))) in
      subst (Stand cfg (InOutbox after) (InInbox j)) (sym (v.machine ∙ run_append l.machine frames (closing_calls w ++ outbox_calls w)))
      (calls_stand cfg (InOutbox after) (InInbox j) (closing_calls w ++ outbox_calls w) plain (run l.machine frames) first)

  turn_stands : (before after : History) (old new : Line) (t : Turn) (i : List InboxRecord) → IsTurn before after old new t → Stand cfg (InOutbox before) (InInbox i) old.machine
      → Stand cfg (InOutbox after) (InInbox (i ++ adds_in old t)) new.machine
  turn_stands before after old new (only_sends now sent lost) i k s =
      subst (λ (j : List InboxRecord). Stand cfg (InOutbox after) (InInbox j) new.machine) (sym (append-nil i))
      (subst (λ (h : History). Stand cfg (InOutbox h) (InInbox i) new.machine) (sym k.1)
      (subst (Stand cfg (InOutbox before) (InInbox i)) (sym (ap (λ (l : Line). l.machine) k.0.line))
      (calls_stand cfg (InOutbox before) (InInbox i) (sending_calls sent lost) (sending_plain (InOutbox before) sent lost) (run old.machine (first_calls now))
      (calls_stand cfg (InOutbox before) (InInbox i) (first_calls now) (tt, (tt, tt)) old.machine s))))
  turn_stands before after old new (works w) i k s =
      subst (Stand cfg (InOutbox after) (InInbox (i ++ adds_in old (works w)))) (sym (ap (λ (l : Line). l.machine) k.sends.line))
      (calls_stand cfg (InOutbox after) (InInbox (i ++ adds_in old (works w))) (sending_calls w.sent w.lost) (sending_plain (InOutbox after) w.sent w.lost) k.behind.machine
      (served_stands before after (line_received old w.now w.received w.got) k.behind w i k.served (calls_stand cfg (InOutbox before) (InInbox i) (first_calls w.now) (tt, (tt, tt)) old.machine s)))
  turn_stands before after old new (link_lost now) i k s =
      subst (λ (j : List InboxRecord). Stand cfg (InOutbox after) (InInbox j) new.machine) (sym (append-nil i))
      (subst (λ (h : History). Stand cfg (InOutbox h) (InInbox i) new.machine) (sym k.1)
      (subst (Stand cfg (InOutbox before) (InInbox i)) (sym (ap (λ (l : Line). l.machine) k.0))
      (calls_stand cfg (InOutbox before) (InInbox i) (link_end ∷ []) (tt, tt) (run old.machine (first_calls now))
      (calls_stand cfg (InOutbox before) (InInbox i) (first_calls now) (tt, (tt, tt)) old.machine s))))
  turn_stands before after old new (cut_short now received frames refused) i k s = absurd k
  turn_stands before after old new not_begun i k s = absurd k

  turns_stand : (eager : Bool) (old new : TurnAt) (turns : List Turn) (news : List NewsItem) (records i : List InboxRecord) → WereTurns eager old new turns news records → Stand cfg (InOutbox old.seen) (InInbox i) old.line.machine
      → Stand cfg (InOutbox new.seen) (InInbox (i ++ records)) new.line.machine
  turns_stand eager old new [] news records i were s =
      subst (λ (rs : List InboxRecord). Stand cfg (InOutbox new.seen) (InInbox (i ++ rs)) new.line.machine) (sym were.2)
      (subst (λ (x : TurnAt). Stand cfg (InOutbox x.seen) (InInbox (i ++ [])) x.line.machine) (sym were.0)
      (subst (λ (j : List InboxRecord). Stand cfg (InOutbox old.seen) (InInbox j) old.line.machine) (sym (append-nil i)) s))
  turns_stand eager old new (t ∷ later) news records i were s =
      let (unended, mid, made_so, more, rest, news_is, records_are, behind) = were in
      subst (λ (rs : List InboxRecord). Stand cfg (InOutbox new.seen) (InInbox (i ++ rs)) new.line.machine) (sym records_are)
      (subst (λ (rs : List InboxRecord). Stand cfg (InOutbox new.seen) (InInbox rs) new.line.machine) (append_assoc i (adds_in old.line t) rest)
      (turns_stand eager mid new later more rest (i ++ adds_in old.line t) behind (turn_stands old.seen mid.seen old.line mid.line t i made_so.is s)))

  -- ---- the connections of a life

  connection_stands : (before after : History) (m new : State) (c : Connection) (i : List InboxRecord) → HasEnded before after m new c → Stand cfg (InOutbox before) (InInbox i) m → Stand cfg (InOutbox after) (InInbox (i ++ c.adds)) new
  connection_stands before after m new c i e s =
      let k = e.is in
      let first : Stand cfg (InOutbox c.link.first.seen) (InInbox i) c.link.first.line.machine =
      subst (λ (h : History). Stand cfg (InOutbox h) (InInbox i) c.link.first.line.machine) (sym k.began.seen_is)
      (subst (λ (l : Line). Stand cfg (InOutbox before) (InInbox i) l.machine) (sym k.began.line) (call_stands cfg (InOutbox before) (InInbox i) (begin c.leg.moment) tt m s)) in
      let last : Stand cfg (InOutbox k.behind.seen) (InInbox (i ++ k.added)) k.behind.line.machine = turns_stand c.link.eager c.link.first k.behind c.leg.turns k.told k.added i k.turns first in
      let is : k.behind.line.machine ≡ new = ap (λ (l : Line). l.machine) k.line ∙ sym e.machine in
      subst (λ (rs : List InboxRecord). Stand cfg (InOutbox after) (InInbox (i ++ rs)) new) (sym k.adds)
      (stand_on new (out_more k.behind.seen after k.grows) (λ p. subst InInbox (append_assoc i k.added k.cut_added) (in_more (i ++ k.added) k.cut_added p))
      (subst (Stand cfg (InOutbox k.behind.seen) (InInbox (i ++ k.added))) is last))

  all_stand : (before after : History) (m new : State) (cs : List Connection) (i : List InboxRecord) → AllEnded before after m new cs → Stand cfg (InOutbox before) (InInbox i) m → Stand cfg (InOutbox after) (InInbox (i ++ adds_of cs)) new
  all_stand before after m new [] i were s =
      subst (λ (x : State). Stand cfg (InOutbox after) (InInbox (i ++ [])) x) (sym were.0)
      (subst (λ (h : History). Stand cfg (InOutbox h) (InInbox (i ++ [])) m) (sym were.1)
      (subst (λ (j : List InboxRecord). Stand cfg (InOutbox before) (InInbox j) m) (sym (append-nil i)) s))
  all_stand before after m new (c ∷ later) i were s =
      let (between, mid, ended, behind) = were in
      subst (λ (j : List InboxRecord). Stand cfg (InOutbox after) (InInbox j) new) (append_assoc i c.adds (adds_of later))
      (all_stand between after mid new later (i ++ c.adds) behind (connection_stands before between m mid c i ended s))

-- what closed the last of some connections is how the machine ended
last_ending : (close : Close) (before after : History) (m new : State) (earlier : List Connection) (c : Connection) → AllEnded before after m new (earlier ++ c ∷ []) → c.close ≡ Some close → ClosesAs close new.ending
last_ending close before after m new [] c were shut =
    let (between, mid, ended, behind) = were in
    let same : ended.close ≡ close = same_Some ended.close close (sym ended.closed ∙ shut) in
    subst (λ (x : State). ClosesAs close x.ending) (sym behind.0) (subst (λ (k : Close). ClosesAs k mid.ending) same ended.ending)
last_ending close before after m new (x ∷ earlier) c were shut =
    let (between, mid, ended, behind) = were in
    last_ending close between after mid new earlier c behind shut

module _ {J : Type 0} {G : Ghosts J} where
  -- a life opens on what its journals hold
  opens_standing : (cfg : EndConfig) (most : ℕ) (opening : History) (box : Inbox J G) (i : List InboxRecord) → HoldsBox box i [] → Stand cfg (InOutbox opening) (InInbox i) (fresh cfg (opened_state opening box) most)
  opens_standing cfg most opening box i holds = record {
    config = refl;
    facts = record { own_is = λ e. absurd (true≢false e); peer_is = λ e. absurd (true≢false (sym e)); last_is = λ e. sym (finished_in box i holds) ∙ e };
    over = λ e. absurd (cc e);
  }

  -- where its last connection ended as finished, both finishes stand, but for an absent flow
  pub finishes_stand : (told : Type 0) (cfg : EndConfig) (most : ℕ) (old new : LifeAt J G) (opening : History) (i : List InboxRecord) → HoldsBox old.box i [] → old.seen ≡ opening → (result : Result LifeEnd ServeFault)
      → (s : ServedLife told old new (fresh cfg (opened_state opening old.box) most) result) → result ≡ Ok ends.Finished → Both cfg (new.seen.finished ≡ true) (has_peer_finished (i ++ adds_of (all_of s.ended s.given_up)) ≡ true)
  finishes_stand told cfg most old new opening i holds opened result s done =
      let answer : (s.given_up ≡ None) × EndsWith (closings.Ended endings.Finished) s.ended =
      subst (λ (r : Result LifeEnd ServeFault). IsLifeAnswer s.behind new.seen s.mid new.dialed s.ended s.given_up r) done s.answer in
      let last = answer.1 in
      let m : State = fresh cfg (opened_state opening old.box) most in
      let stand : Stand cfg (InOutbox s.behind) (InInbox (i ++ adds_of s.ended)) s.mid =
      all_stand cfg old.seen s.behind m s.mid s.ended i s.were
      (subst (λ (h : History). Stand cfg (InOutbox h) (InInbox i) m) (sym opened) (opens_standing cfg most opening old.box i holds)) in
      let over : s.mid.ending ≡ Some endings.Finished =
      last_ending (closings.Ended endings.Finished) old.seen s.behind m s.mid last.earlier last.last (subst (λ (cs : List Connection). AllEnded old.seen s.behind m s.mid cs) last.are s.were) last.closed in
      let both = stand.over over in
      let seen : new.seen ≡ s.behind = subst (WasGivenUp s.behind new.seen s.mid) answer.0 s.gave_up in
      let all : all_of s.ended s.given_up ≡ s.ended = ap (all_of s.ended) answer.0 ∙ append-nil s.ended in (
        λ none. ap (λ (h : History). h.finished) seen ∙ both.0 none,
        λ none. subst (λ (cs : List Connection). has_peer_finished (i ++ adds_of cs) ≡ true) (sym all) (both.1 none),
      )
