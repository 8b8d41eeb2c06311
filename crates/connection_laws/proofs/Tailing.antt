-- A connection on which the call failed that was to make several records stable: each image holds a beginning of them, over as many of the events behind.
use Rattle.std.proofs.Common.{◌≡◌, ℕ, zero, suc, ◌+◌, ◌<◌, ◌≤◌, ◌⊎◌, inl, inr, ⊎_elim, Bool, true, false, List, [], ◌∷◌, ◌++◌, length, take, Option, Some, None, refl, sym, ap, subst, ◌∙◌, arith, append_assoc, append-nil, length-append, add-zero, if◌then◌else◌}
use mathlib.Core.List.{IsPrefix}
use Rattle.session_model.specs.Journal.{Entry}
use Rattle.session_model.specs.Inbox.{InboxRecord, Numbered, skips}
use Rattle.session_model.specs.Events.{Event}
use Rattle.session_model.specs.Growth as model
use Rattle.session_model.specs.Growth.{Grown, GrownThrough}
use Rattle.session_model.specs.Lives.{IsImage, ReportsSkips, first_events}
use Rattle.session_model.proofs.Lists.{prefix_length}
use Rattle.fixp_replies.specs.declared.act.Act.{Act}
use Rattle.fixp_replies.specs.declared.act.Act.TheVariants as acts
use Rattle.fixp_replies.specs.Acts.{is_record}
use Rattle.fixp_replies.specs.Incoming.{Incoming, payload_in}
use Rattle.fixp_replies.specs.Outcomes.{Outcome}
use Rattle.fixp_replies.specs.Replies.{reply_of}
use Rattle.fixp_machine.specs.Machine.{State, Call, begin, frame, bad_frame, did, tick, turn_done, closed, link_end, live, again, taken, reserve, held_done, front_of, around}
use Rattle.fixp_machine.specs.Accepting.{model_flow, records_of}
use Rattle.connection_laws.specs.Writing.{Piece, events_written}
use Rattle.connection_laws.specs.Courses.{Waiting, Course, called, counting, next_done, next_held, next_course, course_after, inbox_of, Continues}
use Rattle.connection_laws.specs.Standing.{Stands, MayStand, AllMayStand}
use Rattle.connection_laws.specs.Connections.{AddsBehind, TailKept, WasTaken, connection_of}
use Rattle.fixp_shake.specs.declared.config.EndConfig.{EndConfig}
use Rattle.connection_laws.proofs.Continuing.{calls_go_on}
use Rattle.connection_laws.proofs.Going.{calls_keep}
use Rattle.connection_laws.proofs.Lived.{one_grown, grown_to, reports_first, first_written, first_handshakes, writes_one}

-- a call adds one record, or none
abbrev AddsFew : (before after : List InboxRecord) → Type 0
AddsFew before after = (after ≡ before) ⊎ ((r : InboxRecord) × (after ≡ before ++ r ∷ []))

act_adds_few : (c : Course) (act : Act) (i : Incoming) → AddsFew c.added (c.added ++ records_of act i)
act_adds_few c acts.Nothing i = inl (append-nil c.added)
act_adds_few c (acts.Apply n) i = inr (InboxRecord.apply (record { number = n; payload = payload_in i }), refl)
act_adds_few c (acts.Skip from count) i = inr (InboxRecord.skip (record { first = from; count = count }), refl)
act_adds_few c acts.Negotiated i = inr (InboxRecord.negotiated, refl)
act_adds_few c (acts.PeerFinished last) i = inr (InboxRecord.peer_finished last, refl)
act_adds_few c (acts.Told from count) i = inl (append-nil c.added)
act_adds_few c acts.Ended i = inl (append-nil c.added)

call_adds_few : (h : List Entry) (c : Course) (call : Call) → MayStand h c.state call → AddsFew c.added (next_course c call).added
call_adds_few h c (begin now) may = absurd may.comes
call_adds_few h c (frame incoming at now) may = by_record (is_record o.act)
  where
    o : Outcome
    o = reply_of (around c.state at now) c.state.facts incoming

    here : Course
    here = called c (frame incoming at now)

    by_record : (b : Bool) → AddsFew c.added (if b then record here { waiting = Some (record { incoming = incoming; at = at; moment = now }) } else counting here o incoming).added
    by_record true = inl refl
    by_record false = act_adds_few here o.act incoming
call_adds_few h c (bad_frame at now) may = inl refl
call_adds_few h c (did now) may = by_pending c.state.pending c.waiting
  where
    by_pending : (p : Option Outcome) (w : Option Waiting) → AddsFew c.added (next_done (called c (did now)) p w).added
    by_pending None w = inl refl
    by_pending (Some o) None = inl refl
    by_pending (Some o) (Some w) = act_adds_few (called c (did now)) o.act w.incoming
call_adds_few h c (tick now) may = inl refl
call_adds_few h c (turn_done now) may = inl refl
call_adds_few h c (closed last now) may = inl refl
call_adds_few h c link_end may = inl refl
call_adds_few h c (live payloads now) may = inl refl
call_adds_few h c (again payloads now) may = inl refl
call_adds_few h c (taken count) may = inl refl
call_adds_few h c reserve may = inl refl
call_adds_few h c held_done may = by_front (front_of c.state)
  where
    by_front : (m : Option Numbered) → AddsFew c.added (next_held (called c held_done) m).added
    by_front None = inl refl
    by_front (Some m) = inr (InboxRecord.apply m, refl)

-- calls up to the one that adds the last of so many records
pub record UpTo (h : List Entry) (c : Course) (calls : List Call) (records : List InboxRecord) : Type 0 where
  pub front : List Call
  pub back : List Call
  pub are : calls ≡ front ++ back
  pub may : AllMayStand h c front
  pub later : AllMayStand h (course_after c front) back
  pub added : (course_after c front).added ≡ c.added ++ records

cancel : (xs ys zs : List InboxRecord) → xs ++ ys ≡ xs ++ zs → ys ≡ zs
cancel [] ys zs e = e
cancel (x ∷ xs) ys zs e = cancel xs ys zs (cc (e))

pub up_to : (h : List Entry) (c : Course) (calls : List Call) (records more : List InboxRecord) → AllMayStand h c calls → (course_after c calls).added ≡ c.added ++ (records ++ more) → UpTo h c calls records
up_to h c calls [] more all e = record { front = []; back = calls; are = refl; may = tt; later = all; added = sym (append-nil c.added) }
up_to h c [] (r ∷ records) more all e = absurd (omega (arith, ap (λ (rs : List InboxRecord). length rs) e, length-append c.added ((r ∷ records) ++ more)))
up_to h c (call ∷ calls) (r ∷ records) more all e = ⊎_elim
    (λ same. (let u = up_to h (next_course c call) calls (r ∷ records) more all.1 (e ∙ ap (λ (rs : List InboxRecord). rs ++ ((r ∷ records) ++ more)) (sym same)) in record {
      front = call ∷ u.front;
      back = u.back;
      are = ap (λ (cs : List Call). call ∷ cs) u.are;
      may = (all.0, u.may);
      later = u.later;
      added = u.added ∙ ap (λ (rs : List InboxRecord). rs ++ r ∷ records) same;
    }))
    (λ one.
    (let k = calls_go_on h (next_course c call) calls all.1 in
    let rest : one.0 ∷ k.added.0 ≡ r ∷ (records ++ more) = cancel c.added (one.0 ∷ k.added.0) (r ∷ (records ++ more))
    (sym (append_assoc c.added (one.0 ∷ []) k.added.0) ∙ (ap (λ (rs : List InboxRecord). rs ++ k.added.0) (sym one.1) ∙ (k.added.1 ∙ e))) in
    let first : one.0 ≡ r = cc (rest) in
    let later : k.added.0 ≡ records ++ more = cc (rest) in
    let u = up_to h (next_course c call) calls records more all.1 (sym k.added.1 ∙ ap (λ (rs : List InboxRecord). (next_course c call).added ++ rs) later) in record {
      front = call ∷ u.front;
      back = u.back;
      are = ap (λ (cs : List Call). call ∷ cs) u.are;
      may = (all.0, u.may);
      later = u.later;
      added = u.added ∙ (ap (λ (rs : List InboxRecord). rs ++ records) (one.1 ∙ ap (λ (x : InboxRecord). c.added ++ x ∷ []) first) ∙ append_assoc c.added (r ∷ []) records);
    }))
    (call_adds_few h c call all.0)

after_append : (c : Course) (front back : List Call) → course_after c (front ++ back) ≡ course_after (course_after c front) back
after_append c [] back = refl
after_append c (call ∷ front) back = after_append (next_course c call) front back

-- the first so many of a list that begins with a front of that length are that front
front_taken : (front es : List Event) → IsPrefix front es → take (length front) es ≡ front
front_taken [] es p = refl
front_taken (x ∷ front) [] p = absurd (cc (p.1))
front_taken (x ∷ front) (y ∷ es) p = (let first : x ≡ y = cc (p.1) in ap (λ (e : Event). e ∷ take (length front) es) (sym first) ∙ ap (λ (fs : List Event). x ∷ fs) (front_taken front es (p.0, cc (p.1))))

pub tail_kept : TailKept
tail_kept opened h c calls tried whole drained st b low t = record {
  inbox_adds = ap (λ rs. c.start ++ rs) (sym (append-nil c.added));
  inbox_grown = images;
  none_lost = one_grown flow d.accepted c.start (inbox_of c ++ tried) (grown_at d (calls_keep h c calls st b.may) k tried b.added);
  all_processed = λ none. ap (λ (cs : List Call). length (course_after c cs).accepted) (sym (b.none none)) ∙ sym (add-zero (length d.accepted));
  begins = ((calls_keep h c calls st b.may).begins, tt);
  handshakes = (first_handshakes (events_written whole) (events_written c.output) (first_written whole c.output t.first) st.own.handshakes, tt);
  writes = writes_one c.state.config.own_flow opened h c.sent_before c.state.facts (events_written c.output) (events_written whole) st.own (first_written whole c.output t.first) low;
  reports = (record { in_order = reported.in_order; all = reported.all }, tt);
}
  where
    flow : model.Flow
    flow = model_flow c.state.config.peer_flow

    d : Course
    d = course_after c calls

    k : Continues c d
    k = calls_go_on h c calls b.may

    reported : ReportsSkips (connection_of c whole drained)
    reported = reports_first h c whole drained st t

    grown_at : (e : Course) → Stands h e → Continues c e → (records : List InboxRecord) → e.added ≡ c.added ++ records → Grown flow None e.accepted c.start (inbox_of c ++ records)
    grown_at e stands on records adds =
        subst (λ (rs : List InboxRecord). Grown flow None e.accepted c.start rs) (ap (λ (rs : List InboxRecord). c.start ++ rs) adds ∙ sym (append_assoc c.start c.added records))
        (subst (λ (rs : List InboxRecord). Grown flow None e.accepted rs (rs ++ e.added)) on.start
        (subst (λ (cfg : EndConfig). Grown (model_flow cfg.peer_flow) None e.accepted e.start (e.start ++ e.added)) on.config stands.grown))

    images : (image : List InboxRecord) → IsImage (inbox_of c) tried image → (j : ℕ) × GrownThrough flow (first_events j (d.accepted ∷ [])) c.start image × (length c.accepted ≤ j)
    images image i =
        let u = up_to h c calls i.kept i.beginning.0 b.may (b.added ∙ ap (λ (rs : List InboxRecord). c.added ++ rs) (sym i.beginning.1)) in
        let e : Course = course_after c u.front in
        let on : Continues c e = calls_go_on h c u.front u.may in
        let later : Continues e (course_after e u.back) = calls_go_on h e u.back u.later in
        let same : course_after e u.back ≡ d = sym (after_append c u.front u.back) ∙ ap (λ (cs : List Call). course_after c cs) (sym u.are) in
        let begins : IsPrefix e.accepted d.accepted = subst (λ (x : Course). IsPrefix e.accepted x.accepted) same later.accepted in
        subst (λ (rs : List InboxRecord). (j : ℕ) × GrownThrough flow (first_events j (d.accepted ∷ [])) c.start rs × (length c.accepted ≤ j)) (sym i.holds)
        (grown_to flow d.accepted e.accepted (length e.accepted) (length c.accepted) c.start (inbox_of c ++ i.kept) (front_taken e.accepted d.accepted begins)
        (prefix_length c.accepted e.accepted on.accepted) (grown_at e (calls_keep h c u.front st u.may) on i.kept u.added))
