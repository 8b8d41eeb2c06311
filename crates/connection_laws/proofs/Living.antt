-- Over any connections a life keeps what the session model asks of it.
use Rattle.std.proofs.Common.{◌≡◌, ℕ, ◌≤◌, List, [], ◌∷◌, ◌++◌, length, refl, sym, ap, subst, ◌∙◌, arith, append-nil, append_assoc}
use Rattle.std.proofs.lemmas.List.{map-append}
use Rattle.session_model.specs.Journal.{Entry}
use Rattle.session_model.specs.Inbox.{InboxRecord}
use Rattle.session_model.specs.Events.{Event}
use Rattle.session_model.specs.Growth as model
use Rattle.session_model.specs.Growth.{GrownThrough}
use Rattle.session_model.specs.Lives.{Connection, Served, written_of, first_events, Writes, KeepsConnections}
use Rattle.session_model.proofs.Images.{image_of_none}
use Rattle.session_model.proofs.Kept.{serving_goes_on}
use Rattle.session_model.proofs.Lists.{prefix_self}
use Rattle.fixp_shake.specs.declared.config.EndConfig.{EndConfig}
use Rattle.fixp_machine.specs.Machine.{State, Call}
use Rattle.fixp_machine.specs.Accepting.{model_flow}
use Rattle.connection_laws.specs.Writing.{events_written}
use Rattle.connection_laws.specs.Courses.{Course, inbox_of, beginning, course_after, Continues}
use Rattle.connection_laws.specs.Standing.{Stands}
use Rattle.connection_laws.specs.Connections.{served_by, refused_by, refused_held, refused_tail, sent_part}
use Rattle.connection_laws.specs.Living.{Leg, course_of, MayRun, AllMayRun, state_behind, inbox_behind, life_on, Opens, LifeServes, LifeRefused, LifeRefusedHeld, LifeRefusedTail}
use Rattle.connection_laws.proofs.Continuing.{calls_go_on}
use Rattle.connection_laws.proofs.Going.{calls_keep, connection_begins}
use Rattle.connection_laws.proofs.Tailing.{tail_kept}
use Rattle.connection_laws.proofs.Lived.{connection_kept, refused_kept, refused_held_kept, writing_goes_on, part_is_written}

-- one connection that ran
pub record Ran (opened h : List Entry) (s : State) (inbox : List InboxRecord) (leg : Leg) : Type 0 where
  pub stands : Stands h (course_of s inbox leg)
  pub config : (course_of s inbox leg).state.config ≡ s.config
  pub start : (course_of s inbox leg).start ≡ inbox
  pub sent_before : (course_of s inbox leg).sent_before ≡ s.facts.recorded.sent
  pub next : Opens opened h (course_of s inbox leg).state (inbox_of (course_of s inbox leg))

pub ran : (opened h : List Entry) (s : State) (inbox : List InboxRecord) (leg : Leg) → Opens opened h s inbox → MayRun h s inbox leg → Ran opened h s inbox leg
ran opened h s inbox leg o may =
    let c : Course = beginning s inbox leg.moment in
    let d : Course = course_of s inbox leg in
    let k : Continues c d = calls_go_on h c leg.calls may.calls in
    let st : Stands h d = calls_keep h c leg.calls (connection_begins h s inbox leg.moment o.awaits o.enough) may.calls in
    record {
      stands = st;
      config = k.config;
      start = k.start;
      sent_before = k.sent_before;
      next = record {
        awaits = st.agrees.recorded;
        enough = st.own.enough;
        before = λ u.
            let low : length opened ≤ s.facts.recorded.sent = o.before (ap (λ cfg. cfg.own_flow) (sym k.config) ∙ u) in
            let grows : d.sent_before ≤ d.state.facts.recorded.sent = st.own.grows u in
            let same : d.sent_before ≡ s.facts.recorded.sent = k.sent_before in
            omega (arith, low, grows, same);
      };
    }

-- what a connection wrote behind others
writes_behind : (opened h : List Entry) (s : State) (inbox : List InboxRecord) (leg : Leg) (earlier : List (List Event)) → Opens opened h s inbox → MayRun h s inbox leg
    → Writes (model_flow s.config.own_flow) opened (sent_part (model_flow s.config.own_flow) s.facts.recorded.sent h) earlier
    → Writes (model_flow s.config.own_flow) opened (sent_part (model_flow s.config.own_flow) (course_of s inbox leg).state.facts.recorded.sent h) (earlier ++ events_written leg.whole ∷ [])
writes_behind opened h s inbox leg earlier o may w =
    let r = ran opened h s inbox leg o may in
    let d : Course = course_of s inbox leg in
    subst (λ (cfg : EndConfig). Writes (model_flow cfg.own_flow) opened (sent_part (model_flow cfg.own_flow) d.state.facts.recorded.sent h) (earlier ++ events_written leg.whole ∷ [])) r.config
    (writing_goes_on opened h h d leg.whole earlier (prefix_self h) (subst (λ n. n ≤ length h) (sym r.sent_before) o.enough) r.stands
    (λ u. subst (λ n. length opened ≤ n) (sym r.sent_before) (o.before (ap (λ cfg. cfg.own_flow) (sym r.config) ∙ u))) may.taken.first
    (subst (λ (cfg : EndConfig). Writes (model_flow cfg.own_flow) opened (sent_part (model_flow cfg.own_flow) d.sent_before h) earlier) (sym r.config)
    (subst (λ n. Writes (model_flow s.config.own_flow) opened (sent_part (model_flow s.config.own_flow) n h) earlier) (sym r.sent_before) w)))

-- what all of them wrote, behind others
all_write : (opened h : List Entry) (s : State) (inbox : List InboxRecord) (legs : List Leg) (earlier : List (List Event)) → Opens opened h s inbox → AllMayRun h s inbox legs
    → Writes (model_flow s.config.own_flow) opened (sent_part (model_flow s.config.own_flow) s.facts.recorded.sent h) earlier
    → Writes (model_flow s.config.own_flow) opened (sent_part (model_flow s.config.own_flow) (state_behind s inbox legs).facts.recorded.sent h) (earlier ++ written_of (life_on s inbox legs).connections)
all_write opened h s inbox [] earlier o all w = subst (λ es. Writes (model_flow s.config.own_flow) opened (sent_part (model_flow s.config.own_flow) s.facts.recorded.sent h) es) (sym (append-nil earlier)) w
all_write opened h s inbox (leg ∷ later) earlier o all w =
    let r = ran opened h s inbox leg o all.0 in
    let d : Course = course_of s inbox leg in
    let t : State = state_behind d.state (inbox_of d) later in
    let rest : List (List Event) = written_of (life_on d.state (inbox_of d) later).connections in
    subst (λ es. Writes (model_flow s.config.own_flow) opened (sent_part (model_flow s.config.own_flow) t.facts.recorded.sent h) es) (append_assoc earlier (events_written leg.whole ∷ []) rest)
    (subst (λ (cfg : EndConfig). Writes (model_flow cfg.own_flow) opened (sent_part (model_flow cfg.own_flow) t.facts.recorded.sent h) ((earlier ++ events_written leg.whole ∷ []) ++ rest)) r.config
    (all_write opened h d.state (inbox_of d) later (earlier ++ events_written leg.whole ∷ []) r.next all.1
    (subst (λ (cfg : EndConfig). Writes (model_flow cfg.own_flow) opened (sent_part (model_flow cfg.own_flow) d.state.facts.recorded.sent h) (earlier ++ events_written leg.whole ∷ [])) (sym r.config)
    (writes_behind opened h s inbox leg earlier o all.0 w))))

nothing_written : (flow : model.Flow) (opened h : List Entry) → Writes flow opened h []
nothing_written model.recoverable opened h = tt
nothing_written model.idempotent opened h = tt
nothing_written model.unsequenced opened h = tt
nothing_written model.no_flow opened h = refl

-- one connection, as a life
one_kept : (opened h : List Entry) (s : State) (inbox : List InboxRecord) (leg : Leg) → Opens opened h s inbox → MayRun h s inbox leg
    → KeepsConnections (model_flow s.config.own_flow) (model_flow s.config.peer_flow) opened h (served_by (course_of s inbox leg) leg.whole leg.drained)
one_kept opened h s inbox leg o may =
    let r = ran opened h s inbox leg o may in
    let d : Course = course_of s inbox leg in
    subst (λ (cfg : EndConfig). KeepsConnections (model_flow cfg.own_flow) (model_flow cfg.peer_flow) opened h (served_by d leg.whole leg.drained)) r.config
    (connection_kept opened h d leg.whole leg.drained r.stands (λ u. subst (λ n. length opened ≤ n) (sym r.sent_before) (o.before (ap (λ cfg. cfg.own_flow) (sym r.config) ∙ u))) may.taken)

no_connection : (own peer : model.Flow) (opened h : List Entry) (inbox : List InboxRecord)
    → KeepsConnections own peer opened h (record { opening_inbox = inbox; closing_inbox = inbox; refused_inbox = []; processed = 0; connections = [] })
no_connection own peer opened h inbox = record {
  inbox_adds = sym (append-nil inbox);
  inbox_grown = λ image i. image_of_none (λ image. (k : ℕ) × GrownThrough peer (first_events k []) inbox image × (0 ≤ k)) inbox image (0, refl, omega arith) i;
  none_lost = append-nil inbox;
  all_processed = λ _. refl;
  begins = tt;
  handshakes = tt;
  writes = nothing_written own opened h;
  reports = tt;
}

pub opening_on : (s : State) (inbox : List InboxRecord) (legs : List Leg) (opened h : List Entry) → Opens opened h s inbox → AllMayRun h s inbox legs → (life_on s inbox legs).opening_inbox ≡ inbox
opening_on s inbox [] opened h o all = refl
opening_on s inbox (leg ∷ later) opened h o all = (ran opened h s inbox leg o all.0).start

pub none_refused : (s : State) (inbox : List InboxRecord) (legs : List Leg) → (life_on s inbox legs).refused_inbox ≡ []
none_refused s inbox [] = refl
none_refused s inbox (leg ∷ later) = none_refused (course_of s inbox leg).state (inbox_of (course_of s inbox leg)) later

pub closing_on : (s : State) (inbox : List InboxRecord) (legs : List Leg) → (life_on s inbox legs).closing_inbox ≡ inbox_behind s inbox legs
closing_on s inbox [] = refl
closing_on s inbox (leg ∷ later) = closing_on (course_of s inbox leg).state (inbox_of (course_of s inbox leg)) later

pub life_serves : LifeServes
life_serves opened h s inbox [] o all = no_connection (model_flow s.config.own_flow) (model_flow s.config.peer_flow) opened h inbox
life_serves opened h s inbox (leg ∷ later) o all =
    let r = ran opened h s inbox leg o all.0 in
    let d : Course = course_of s inbox leg in
    let own : model.Flow = model_flow s.config.own_flow in
    serving_goes_on own (model_flow s.config.peer_flow) opened h (served_by d leg.whole leg.drained) (life_on d.state (inbox_of d) later) refl
    (opening_on d.state (inbox_of d) later opened h r.next all.1) (one_kept opened h s inbox leg o all.0)
    (subst (λ (cfg : EndConfig). KeepsConnections (model_flow cfg.own_flow) (model_flow cfg.peer_flow) opened h (life_on d.state (inbox_of d) later)) r.config (life_serves opened h d.state (inbox_of d) later r.next all.1))
    (part_is_written own opened h (state_behind d.state (inbox_of d) later).facts.recorded.sent (written_of (life_on s inbox (leg ∷ later)).connections)
    (all_write opened h s inbox (leg ∷ later) [] o all (nothing_written own opened (sent_part own s.facts.recorded.sent h))))

-- where a life has come to on some connections
pub record Behind (opened h : List Entry) (s : State) (inbox : List InboxRecord) (legs : List Leg) : Type 0 where
  pub config : (state_behind s inbox legs).config ≡ s.config
  pub opens : Opens opened h (state_behind s inbox legs) (inbox_behind s inbox legs)

pub behind : (opened h : List Entry) (s : State) (inbox : List InboxRecord) (legs : List Leg) → Opens opened h s inbox → AllMayRun h s inbox legs → Behind opened h s inbox legs
behind opened h s inbox [] o all = record { config = refl; opens = o }
behind opened h s inbox (leg ∷ later) o all =
    let r = ran opened h s inbox leg o all.0 in
    let b = behind opened h (course_of s inbox leg).state (inbox_of (course_of s inbox leg)) later r.next all.1 in
    record { config = b.config ∙ r.config; opens = b.opens }

pub life_refused : LifeRefused
life_refused opened h s inbox legs last w o all may waits =
    let b = behind opened h s inbox legs o all in
    let t : State = state_behind s inbox legs in
    let box : List InboxRecord = inbox_behind s inbox legs in
    let r = ran opened h t box last b.opens may in
    let d : Course = course_of t box last in
    let own : model.Flow = model_flow s.config.own_flow in
    let same : d.state.config ≡ s.config = r.config ∙ b.config in
    let first : Served = life_on s inbox legs in
    serving_goes_on own (model_flow s.config.peer_flow) opened h first (refused_by d w last.whole last.drained) (none_refused s inbox legs)
    (r.start ∙ sym (closing_on s inbox legs)) (life_serves opened h s inbox legs o all)
    (subst (λ (cfg : EndConfig). KeepsConnections (model_flow cfg.own_flow) (model_flow cfg.peer_flow) opened h (refused_by d w last.whole last.drained)) same
    (refused_kept opened h d w last.whole last.drained r.stands waits (λ u. subst (λ n. length opened ≤ n) (sym r.sent_before) (b.opens.before (ap (λ cfg. cfg.own_flow) (sym r.config) ∙ u))) may.taken))
    (part_is_written own opened h d.state.facts.recorded.sent (written_of (first.connections ++ (refused_by d w last.whole last.drained).connections))
    (subst (λ es. Writes own opened (sent_part own d.state.facts.recorded.sent h) es) (sym (map-append (λ (c : Connection). c.written) first.connections (refused_by d w last.whole last.drained).connections))
    (subst (λ (cfg : EndConfig). Writes (model_flow cfg.own_flow) opened (sent_part (model_flow cfg.own_flow) d.state.facts.recorded.sent h) (written_of first.connections ++ events_written last.whole ∷ [])) b.config
    (writes_behind opened h t box last (written_of first.connections) b.opens may
    (subst (λ (cfg : EndConfig). Writes (model_flow cfg.own_flow) opened (sent_part (model_flow cfg.own_flow) t.facts.recorded.sent h) (written_of first.connections)) (sym b.config)
    (all_write opened h s inbox legs [] o all (nothing_written own opened (sent_part own s.facts.recorded.sent h))))))))

pub life_refused_held : LifeRefusedHeld
life_refused_held opened h s inbox legs last m o all may front =
    let b = behind opened h s inbox legs o all in
    let t : State = state_behind s inbox legs in
    let box : List InboxRecord = inbox_behind s inbox legs in
    let r = ran opened h t box last b.opens may in
    let d : Course = course_of t box last in
    let own : model.Flow = model_flow s.config.own_flow in
    let same : d.state.config ≡ s.config = r.config ∙ b.config in
    let first : Served = life_on s inbox legs in
    serving_goes_on own (model_flow s.config.peer_flow) opened h first (refused_held d m last.whole last.drained) (none_refused s inbox legs)
    (r.start ∙ sym (closing_on s inbox legs)) (life_serves opened h s inbox legs o all)
    (subst (λ (cfg : EndConfig). KeepsConnections (model_flow cfg.own_flow) (model_flow cfg.peer_flow) opened h (refused_held d m last.whole last.drained)) same
    (refused_held_kept opened h d m last.whole last.drained r.stands front (λ u. subst (λ n. length opened ≤ n) (sym r.sent_before) (b.opens.before (ap (λ cfg. cfg.own_flow) (sym r.config) ∙ u))) may.taken))
    (part_is_written own opened h d.state.facts.recorded.sent (written_of (first.connections ++ (refused_held d m last.whole last.drained).connections))
    (subst (λ es. Writes own opened (sent_part own d.state.facts.recorded.sent h) es) (sym (map-append (λ (c : Connection). c.written) first.connections (refused_held d m last.whole last.drained).connections))
    (subst (λ (cfg : EndConfig). Writes (model_flow cfg.own_flow) opened (sent_part (model_flow cfg.own_flow) d.state.facts.recorded.sent h) (written_of first.connections ++ events_written last.whole ∷ [])) b.config
    (writes_behind opened h t box last (written_of first.connections) b.opens may
    (subst (λ (cfg : EndConfig). Writes (model_flow cfg.own_flow) opened (sent_part (model_flow cfg.own_flow) t.facts.recorded.sent h) (written_of first.connections)) (sym b.config)
    (all_write opened h s inbox legs [] o all (nothing_written own opened (sent_part own s.facts.recorded.sent h))))))))

pub life_refused_tail : LifeRefusedTail
life_refused_tail opened h s inbox legs last calls tried o all may adds =
    let b = behind opened h s inbox legs o all in
    let t : State = state_behind s inbox legs in
    let box : List InboxRecord = inbox_behind s inbox legs in
    let r = ran opened h t box last b.opens may in
    let d : Course = course_of t box last in
    let e : Course = course_after d calls in
    let own : model.Flow = model_flow s.config.own_flow in
    let same : d.state.config ≡ s.config = r.config ∙ b.config in
    let first : Served = life_on s inbox legs in
    serving_goes_on own (model_flow s.config.peer_flow) opened h first (refused_tail d e tried last.whole last.drained) (none_refused s inbox legs)
    (r.start ∙ sym (closing_on s inbox legs)) (life_serves opened h s inbox legs o all)
    (subst (λ (cfg : EndConfig). KeepsConnections (model_flow cfg.own_flow) (model_flow cfg.peer_flow) opened h (refused_tail d e tried last.whole last.drained)) same
    (tail_kept opened h d calls tried last.whole last.drained r.stands adds (λ u. subst (λ n. length opened ≤ n) (sym r.sent_before) (b.opens.before (ap (λ cfg. cfg.own_flow) (sym r.config) ∙ u))) may.taken))
    (part_is_written own opened h d.state.facts.recorded.sent (written_of (first.connections ++ (refused_tail d e tried last.whole last.drained).connections))
    (subst (λ es. Writes own opened (sent_part own d.state.facts.recorded.sent h) es) (sym (map-append (λ (c : Connection). c.written) first.connections (refused_tail d e tried last.whole last.drained).connections))
    (subst (λ (cfg : EndConfig). Writes (model_flow cfg.own_flow) opened (sent_part (model_flow cfg.own_flow) d.state.facts.recorded.sent h) (written_of first.connections ++ events_written last.whole ∷ [])) b.config
    (writes_behind opened h t box last (written_of first.connections) b.opens may
    (subst (λ (cfg : EndConfig). Writes (model_flow cfg.own_flow) opened (sent_part (model_flow cfg.own_flow) t.facts.recorded.sent h) (written_of first.connections)) (sym b.config)
    (all_write opened h s inbox legs [] o all (nothing_written own opened (sent_part own s.facts.recorded.sent h))))))))
