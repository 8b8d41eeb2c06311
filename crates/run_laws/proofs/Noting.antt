-- What a machine knows of the peer's finish and of its own, over the calls of a connection: the peer's is the one that its inbox has.
use Rattle.std.proofs.Common.{◌≡◌, ℕ, ◌-◌, Bool, true, false, if◌then◌else◌, List, [], ◌∷◌, ◌++◌, Option, Some, None, IfSome, refl, sym, ap, subst, ◌∙◌, append-nil, append_assoc}
use Rattle.std.specs.Prelude.{⊤, is_some, option_map}
use Rattle.std.specs.List.{AllByRecursion}
use Rattle.std.proofs.lemmas.Option.{same_Some}
use Rattle.session_model.specs.Journal.{Entry}
use Rattle.session_model.specs.Inbox.{InboxRecord, negotiated, peer_finished, Numbered}
use Rattle.fixp_msgs.specs.declared.flow.Flow.{Flow}
use Rattle.fixp_msgs.specs.declared.numbering.Range.{Range}
use Rattle.flow_idem.specs.Runs.{runs_of}
use Rattle.fixp_shake.specs.declared.violation.Violation.{Violation}
use Rattle.fixp_replies.specs.declared.act.Act.{Act}
use Rattle.fixp_replies.specs.declared.act.Act.TheVariants as acts
use Rattle.fixp_replies.specs.declared.facts.EndState.{EndState}
use Rattle.fixp_replies.specs.declared.facts.Facts.{Facts}
use Rattle.fixp_replies.specs.Acts.{is_record}
use Rattle.fixp_replies.specs.Events.{Made, heartbeats, lateness, closes, tells_finish, outbox_finished, turn_ended, finish_told, link_ending}
use Rattle.fixp_replies.specs.Incoming.{Incoming, payload_in}
use Rattle.fixp_replies.specs.Outcomes.{Outcome}
use Rattle.fixp_replies.specs.Replies.{reply_of}
use Rattle.fixp_machine.specs.Machine.{State, Call, begin, frame, bad_frame, did, tick, turn_done, closed, link_end, live, again, taken, reserve, around, bytes_of, wrote, made, reply_applied, broken_by, done_pending, served_again, step, StaysSound, held_done, held_applied, held_with, past_held, front_of}
use Rattle.fixp_machine.specs.Fitting.{IsMessage, CanTake, recorded_after, Fits}
use Rattle.fixp_machine.specs.Accepting.{records_of}
use Rattle.fixp_machine.proofs.Calls.{calls_keep_sound}
use Rattle.fixp_machine.proofs.Moving.{acts_fit}
use Rattle.jr_boxes.specs.Inboxes.{peer_last_in}
use Rattle.jr_boxes.proofs.Settling.{peer_last_in-push, peer_last_in-other}
use Rattle.connection_laws.specs.Courses.{Waiting, Course, inbox_of, reply_to, counting, called, next_done, next_course, course_after, next_held}
use Rattle.connection_laws.specs.Standing.{Stands, MayStand, AllMayStand}
use Rattle.connection_laws.proofs.Continuing.{state_is_run}
use Rattle.connection_laws.proofs.Going.{call_keeps}

-- of a call that tells the outbox's finish the number is such
abbrev pub TellsFinish : (ℕ → Type 0) → Call → Type 0
TellsFinish P (closed last now) = P last
TellsFinish P _ = ⊤

-- the machine is sound, what it has recorded of the peer's finish its inbox has, and what it has recorded of its own is such
pub record Noted (P : ℕ → Type 0) (c : Course) : Type 0 where
  pub sound : StaysSound c.state
  pub last : c.state.facts.recorded.peer_last ≡ peer_last_in (inbox_of c)
  pub finish : IfSome c.state.facts.recorded.finish P

-- an act that an inbox can take
act_last : (flow : Flow) (most : ℕ) (r : EndState) (M : Type 0) (a : Act) (i : Incoming) (inbox : List InboxRecord) → CanTake flow most r M a → r.peer_last ≡ peer_last_in inbox
    → (recorded_after a r).peer_last ≡ peer_last_in (inbox ++ records_of a i)
act_last flow most r M acts.Nothing i inbox takes e = e ∙ ap peer_last_in (sym (append-nil inbox))
act_last flow most r M (acts.Apply n) i inbox takes e = e ∙ sym (peer_last_in-other inbox _ refl)
act_last flow most r M (acts.Skip from count) i inbox takes e = e ∙ sym (peer_last_in-other inbox _ refl)
act_last flow most r M acts.Negotiated i inbox takes e = e ∙ sym (peer_last_in-other inbox negotiated refl)
act_last flow most r M (acts.PeerFinished last) i inbox takes e = sym (peer_last_in-push inbox (peer_finished last) (sym e ∙ takes))
act_last flow most r M (acts.Told from count) i inbox takes e = e ∙ ap peer_last_in (sym (append-nil inbox))
act_last flow most r M acts.Ended i inbox takes e = e ∙ ap peer_last_in (sym (append-nil inbox))

act_finish : (a : Act) (r : EndState) → (recorded_after a r).finish ≡ r.finish
act_finish acts.Nothing r = refl
act_finish (acts.Apply n) r = refl
act_finish (acts.Skip from count) r = refl
act_finish acts.Negotiated r = refl
act_finish (acts.PeerFinished last) r = refl
act_finish (acts.Told from count) r = refl
act_finish acts.Ended r = refl

-- what facts know, and what an inbox has
record Knows (P : ℕ → Type 0) (f : Facts) (inbox : List InboxRecord) : Type 0 where
  last : f.recorded.peer_last ≡ peer_last_in inbox
  finish : IfSome f.recorded.finish P

knows : (P : ℕ → Type 0) (c : Course) → Noted P c → Knows P c.state.facts (inbox_of c)
knows P c n = record { last = n.last; finish = n.finish }

-- behind a reply, once its act is done
replied : (P : ℕ → Type 0) (s : State) (i : Incoming) (o : Outcome) (inbox : List InboxRecord) → Fits s.config s.most s.facts i o → Knows P s.facts inbox → Knows P o.next (inbox ++ records_of o.act i)
replied P s i o inbox fits k = record {
  last = ap (λ (r : EndState). r.peer_last) fits.recorded ∙ act_last s.config.peer_flow s.most s.facts.recorded (IsMessage i) o.act i inbox fits.takes k.last;
  finish = subst (λ (n : Option ℕ). IfSome n P) (sym (ap (λ (r : EndState). r.finish) fits.recorded ∙ act_finish o.act s.facts.recorded)) k.finish;
}

-- a frame, and its act where it is no record
framed : (P : ℕ → Type 0) (c : Course) (i : Incoming) (at now : ℕ) → Noted P c → Knows P (next_course c (frame i at now)).state.facts (inbox_of (next_course c (frame i at now)))
framed P c i at now n = by_test (is_record o.act) refl
  where
    s : State
    s = c.state

    o : Outcome
    o = reply_of (around s at now) s.facts i

    w : Waiting
    w = record { incoming = i; at = at; moment = now }

    got : State
    got = record s { moment = now; last_received = now; room = s.room - 1 }

    more : State
    more = record got { held = held_with o.holds (payload_in i) s.held }

    d : Course
    d = called c (frame i at now)

    by_test : (b : Bool) → is_record o.act ≡ b → Knows P (if b then record d { waiting = Some w } else counting d o i).state.facts (inbox_of (if b then record d { waiting = Some w } else counting d o i))
    by_test true e =
        let same : s.facts ≡ d.state.facts = sym (ap (λ (b : Bool). (if b then record got { pending = Some o } else reply_applied more o now).facts) e) in
        subst (λ (f : Facts). Knows P f (inbox_of c)) same (knows P c n)
    by_test false e =
        let same : o.next ≡ d.state.facts = sym (ap (λ (b : Bool). (if b then record got { pending = Some o } else reply_applied more o now).facts) e) in
        subst (λ (f : Facts). Knows P f (c.start ++ (c.added ++ records_of o.act i))) same
        (subst (λ (rs : List InboxRecord). Knows P o.next rs) (append_assoc c.start c.added (records_of o.act i)) (replied P s i o (inbox_of c) (acts_fit.frames (around s at now) s.facts i n.sound.most n.sound.facts n.sound.windowed.fits) (knows P c n)))

-- the act of the frame that waits
acted : (P : ℕ → Type 0) (h : List Entry) (c : Course) (now : ℕ) → Stands h c → Noted P c → Knows P (next_course c (did now)).state.facts (inbox_of (next_course c (did now)))
acted P h c now st n = by_case c.state.pending c.waiting refl st.pends
  where
    s : State
    s = c.state

    d : Course
    d = called c (did now)

    by_case : (p : Option Outcome) (w : Option Waiting) → s.pending ≡ p → p ≡ option_map (reply_to s) w → Knows P (next_done d p w).state.facts (inbox_of (next_done d p w))
    by_case None w e pends = subst (λ (f : Facts). Knows P f (inbox_of c)) (sym (ap (λ (p : Option Outcome). (done_pending s p now).facts) e)) (knows P c n)
    by_case (Some o) None e pends = absurd (cc pends)
    by_case (Some o) (Some w) e pends =
        let is : o ≡ reply_to s w = same_Some o (reply_to s w) pends in
        subst (λ (f : Facts). Knows P f (c.start ++ (c.added ++ records_of o.act w.incoming))) (sym (ap (λ (p : Option Outcome). (done_pending s p now).facts) e))
        (subst (λ (rs : List InboxRecord). Knows P o.next rs) (append_assoc c.start c.added (records_of o.act w.incoming))
        (replied P s w.incoming o (inbox_of c) (subst (λ (x : Outcome). Fits s.config s.most s.facts w.incoming x) (sym is) (acts_fit.frames (around s w.at w.moment) s.facts w.incoming n.sound.most n.sound.facts n.sound.windowed.fits)) (knows P c n)))

-- a held message is applied
held_known : (P : ℕ → Type 0) (c : Course) → Noted P c → Knows P (next_course c held_done).state.facts (inbox_of (next_course c held_done))
held_known P c n = by_front (front_of c.state) refl
  where
    d : Course
    d = called c held_done

    by_front : (o : Option Numbered) → front_of c.state ≡ o → Knows P (next_held d o).state.facts (inbox_of (next_held d o))
    by_front None e = subst (λ (k : Option Numbered). Knows P (held_applied c.state k).facts (inbox_of c)) (sym e) (knows P c n)
    by_front (Some m) e = subst (λ (k : Option Numbered). Knows P (held_applied c.state k).facts (c.start ++ (c.added ++ InboxRecord.apply m ∷ []))) (sym e)
        (subst (λ (rs : List InboxRecord). Knows P (past_held c.state.facts m) rs) (append_assoc c.start c.added (InboxRecord.apply m ∷ []))
        (record { last = n.last ∙ sym (peer_last_in-other (inbox_of c) (InboxRecord.apply m) refl); finish = n.finish }))

-- what another call leaves of what is recorded
record Leaves (s m : State) : Type 0 where
  last : m.facts.recorded.peer_last ≡ s.facts.recorded.peer_last
  finish : m.facts.recorded.finish ≡ s.facts.recorded.finish

stays : (s : State) → Leaves s s
stays s = record { last = refl; finish = refl }

ticks : (s : State) (now : ℕ) → Leaves s (step s (tick now))
ticks s now = by_ending (is_some s.ending) (lateness (around s 0 now) s.facts s.start s.last_received)
  where
    beat : State
    beat = wrote (record s { moment = now }) (bytes_of (heartbeats (around s 0 now) s.facts s.last_sent s.unsent)) now

    by_ending : (b : Bool) (v : Option Violation) → Leaves s (if b then record s { moment = now } else broken_by beat v now)
    by_ending true v = record { last = refl; finish = refl }
    by_ending false None = record { last = refl; finish = refl }
    by_ending false (Some v) = record { last = refl; finish = refl }

-- of either of two
one_of : (Q : Facts → Type 0) (b : Bool) (x y : Made) → Q x.next → Q y.next → Q (if b then x else y).next
one_of Q true x y p q = p
one_of Q false x y p q = q

turns : (s : State) (now : ℕ) → Leaves s (step s (turn_done now))
turns s now = by_ending (is_some s.ending)
  where
    m : Made
    m = turn_ended (around s 0 now) s.facts (runs_of s.untold)

    same : m.next.recorded ≡ s.facts.recorded
    same = one_of (λ (f : Facts). f.recorded ≡ s.facts.recorded) (closes (around s 0 now) s.facts) _ _ refl refl

    by_ending : (b : Bool) → Leaves s (if b then record s { moment = now } else record (made (record s { moment = now }) m now) { untold = [] })
    by_ending true = record { last = refl; finish = refl }
    by_ending false = record { last = ap (λ (r : EndState). r.peer_last) same; finish = ap (λ (r : EndState). r.finish) same }

ends : (s : State) → Leaves s (step s link_end)
ends s = by_ending (is_some s.ending)
  where
    by_ending : (b : Bool) → Leaves s (if b then s else record s { ending = Some (link_ending (around s 0 s.moment) s.facts); pending = None; held = [] })
    by_ending true = stays s
    by_ending false = record { last = refl; finish = refl }

agains : (s : State) (payloads : List (List ℕ)) (now : ℕ) → Leaves s (step s (again payloads now))
agains s payloads now = by_range s.facts.connection.serving
  where
    by_range : (r : Option Range) → Leaves s (served_again s r payloads now)
    by_range None = stays s
    by_range (Some r) = record { last = refl; finish = refl }

-- where the finish of the outbox is told, it is recorded
record Tells (s m : State) (n : ℕ) : Type 0 where
  last : m.facts.recorded.peer_last ≡ s.facts.recorded.peer_last
  finish : m.facts.recorded.finish ≡ Some n

finishes : (s : State) (n now : ℕ) → Tells s (step s (closed n now)) n
finishes s n now = by_ending (is_some s.ending)
  where
    m : Made
    m = finish_told (around s 0 now) s.facts n

    same : m.next.recorded ≡ record s.facts.recorded { finish = Some n }
    same = one_of (λ (f : Facts). f.recorded ≡ record s.facts.recorded { finish = Some n }) (tells_finish (around s 0 now) s.facts n) _ _ refl refl

    by_ending : (b : Bool) → Tells s (if b then record s { moment = now; facts = outbox_finished s.facts n } else made (record s { moment = now }) m now) n
    by_ending true = record { last = refl; finish = refl }
    by_ending false = record { last = ap (λ (r : EndState). r.peer_last) same; finish = ap (λ (r : EndState). r.finish) same }

-- so behind such a call the machine knows what it did
left_so : (P : ℕ → Type 0) (c : Course) (m : State) → Leaves c.state m → Noted P c → Knows P m.facts (inbox_of c)
left_so P c m l n = record { last = l.last ∙ n.last; finish = subst (λ (o : Option ℕ). IfSome o P) (sym l.finish) n.finish }

next_known : (P : ℕ → Type 0) (h : List Entry) (c : Course) (call : Call) → Stands h c → MayStand h c.state call → TellsFinish P call → Noted P c
    → Knows P (next_course c call).state.facts (inbox_of (next_course c call))
next_known P h c (begin now) st may tells n = absurd may.comes
next_known P h c (frame i at now) st may tells n = framed P c i at now n
next_known P h c (bad_frame at now) st may tells n = left_so P c (step c.state (bad_frame at now)) (record { last = refl; finish = refl }) n
next_known P h c (did now) st may tells n = acted P h c now st n
next_known P h c (tick now) st may tells n = left_so P c (step c.state (tick now)) (ticks c.state now) n
next_known P h c (turn_done now) st may tells n = left_so P c (step c.state (turn_done now)) (turns c.state now) n
next_known P h c (closed last now) st may tells n =
    let t = finishes c.state last now in
    record { last = t.last ∙ n.last; finish = subst (λ (o : Option ℕ). IfSome o P) (sym t.finish) tells }
next_known P h c link_end st may tells n = left_so P c (step c.state link_end) (ends c.state) n
next_known P h c (live payloads now) st may tells n = left_so P c (step c.state (live payloads now)) (record { last = refl; finish = refl }) n
next_known P h c (again payloads now) st may tells n = left_so P c (step c.state (again payloads now)) (agains c.state payloads now) n
next_known P h c (taken count) st may tells n = left_so P c (step c.state (taken count)) (record { last = refl; finish = refl }) n
next_known P h c held_done st may tells n = held_known P c n
next_known P h c reserve st may tells n = left_so P c (step c.state reserve) (record { last = refl; finish = refl }) n

next_noted : (P : ℕ → Type 0) (h : List Entry) (c : Course) (call : Call) → Stands h c → MayStand h c.state call → TellsFinish P call → Noted P c → Noted P (next_course c call)
next_noted P h c call st may tells n =
    let k = next_known P h c call st may tells n in
    record {
      sound = subst StaysSound (sym (state_is_run c (call ∷ []))) (calls_keep_sound c.state call n.sound may.may_call);
      last = k.last;
      finish = k.finish;
    }

-- over all calls of a connection
pub calls_noted : (P : ℕ → Type 0) (h : List Entry) (c : Course) (calls : List Call) → Stands h c → AllMayStand h c calls → AllByRecursion (TellsFinish P) calls → Noted P c → Noted P (course_after c calls)
calls_noted P h c [] st may tells n = n
calls_noted P h c (call ∷ later) st may tells n =
    calls_noted P h (next_course c call) later (call_keeps h c call st may.0) may.1 tells.1 (next_noted P h c call st may.0 tells.0 n)
