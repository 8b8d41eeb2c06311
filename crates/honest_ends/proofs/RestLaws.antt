-- The laws of two ends at rest.
use Rattle.honest_ends.proofs.Past.{Lies, least_above}
use Rattle.honest_ends.proofs.Lying.{LiesSo}
use Rattle.honest_ends.proofs.PhaseOpening.{asks_unheld}
use Rattle.flow_window.specs.Window.{front, least}
use Rattle.std.proofs.Common.{◌≡◌, inl, inr, ℕ, ◌+◌, ◌≤◌, ◌&&◌, ◌||◌, nat_lt, Bool, true, false, if◌then◌else◌, List, [], ◌++◌, length, Option, Some, None, refl, sym, ap, subst, ◌∙◌, arith, append-nil, length-append, true≢false}
use Rattle.std.specs.Prelude.{is_some, IfSome}
use Rattle.std.proofs.lemmas.Bool.{ltb-false, and_parts}
use Rattle.std.proofs.lemmas.List.{length-map, nil_from_length}
use Rattle.session_model.specs.Journal.{Entry}
use Rattle.session_model.specs.Inbox.{applied, payloads_of, Numbered}
use Rattle.session_model.proofs.Inboxes.{length-payloads_of}
use Rattle.session_model.proofs.Recoverable.{next_of_counted}
use Rattle.fixp_msgs.specs.declared.flow.Flow.{Flow}
use Rattle.fixp_msgs.specs.declared.flow.Flow.TheVariants as flows
use Rattle.flow_retrans.specs.declared.request.Request.{Request}
use Rattle.flow_retrans.specs.declared.request.Request.TheVariants as requests
use Rattle.flow_retrans.specs.Requests.{outstanding, is_coming}
use Rattle.fixp_shake.specs.Flows.{is_recoverable, is_sequenced, is_absent}
use Rattle.fixp_shake.specs.Phases.{is_shaken}
use Rattle.fixp_shake.specs.declared.phase.Phase.TheVariants as phases
use Rattle.fixp_replies.specs.declared.facts.Facts.{Facts}
use Rattle.fixp_replies.specs.Facts.{gap_to_ask, finishes_exchanged, own_is_exchanged, peer_is_exchanged, Around, connecting, gap_of}
use Rattle.fixp_machine.specs.Machine.{State, around, fresh}
use Rattle.fixp_machine.proofs.Tests.{no_gap}
use Rattle.fixp_machine.proofs.Tests.{is_done}
use Rattle.connection_laws.specs.Writing.{Piece}
use Rattle.honest_ends.specs.Numbers.{Awaited, exactly, IsAt, Runs, served, to_come, goes_softly}
use Rattle.honest_ends.specs.Worlds.{World, Step, world_after, AllMayStep}
use Rattle.honest_ends.specs.Knowing.{StartsKnown}
use Rattle.honest_ends.specs.Numbered.{Expects, Follows, ReturnsFirst, awaits, awaited, next_live}
use Rattle.honest_ends.proofs.Awaiting.{awaited_then, live_is, inbox_of}
use Rattle.honest_ends.proofs.Numbering.{counted_at_first, counted_after, numbered_of}
use Rattle.honest_ends.specs.Finished.{IsLast, Tells}
use Rattle.honest_ends.proofs.Held.{open_not_closing}
use Rattle.honest_ends.proofs.FinishLaws.{finished_holds}
use Rattle.honest_ends.specs.Resting.{IsIdle, HasAll, EndsLast}
use Rattle.honest_ends.specs.RestLaws.{QuietHasAll, OverHasAll, RestHasAll, StaysEnded, AllIsEqual}
use Rattle.honest_ends.proofs.Serving.{by_bool}
use Rattle.honest_ends.proofs.Settling.{Ends, gap_reached, recoverable_gap}
use Rattle.honest_ends.proofs.RestStepping.{first_ends, past_last, keep_after, gap_in}

-- a machine that is fresh has no gap
first_gap : (s : State) → s ≡ fresh s.config s.facts.recorded s.most → gap_in s ≡ None
first_gap s new = ap (λ (t : State). gap_in t) new ∙ asks_unheld (around (fresh s.config s.facts.recorded s.most) 0 0) (connecting s.facts.recorded phases.Idle) refl (no_gap s.facts.recorded.inbox_next s.facts.recorded.inbox_next refl)

-- where nothing is asked for, a gap would be to be asked for
unasked_gap : (x : Around) (f : Facts) → f.connection.soft ≡ false → f.connection.requester ≡ requests.Nothing → gap_to_ask x f ≡ None → gap_of x f ≡ None
unasked_gap x f firm e none = subst (λ (q : Request). (if is_some (outstanding q) then None else gap_of x f) ≡ None) e
    (subst (λ (b : Bool). (if b || is_some (outstanding f.connection.requester) then None else gap_of x f) ≡ None) firm none)

-- and no message waits to be applied that is held, as none comes again
none_ready : (s : State) → Lies s.facts s.held → s.facts.connection.requester ≡ requests.Nothing → front s.facts.recorded.inbox_next s.held ≡ None
none_ready s lies idle = by_front (front s.facts.recorded.inbox_next s.held) refl
  where
    by_front : (m : Option Numbered) → front s.facts.recorded.inbox_next s.held ≡ m → front s.facts.recorded.inbox_next s.held ≡ None
    by_front None e = e
    by_front (Some m) e = absurd (true≢false (sym (lies.coming (ap (λ (k : Option Numbered). is_some k) e)) ∙ ap (λ (q : Request). is_coming q) idle))

-- one flow whose reader is idle, where nothing is under way to it
quiet_one : (own h : List Entry) (writer reader : State) (way back : List Piece) → Follows h writer reader way back → way ≡ [] → IsIdle h writer → IsIdle own reader → LiesSo reader → gap_in reader ≡ None → HasAll h reader
quiet_one own h writer reader way back follows none sends idle so gap numbered = by_flow (is_recoverable reader.config.peer_flow) refl
  where
    f : Facts
    f = reader.facts

    k : ℕ
    k = writer.facts.recorded.sent + 1

    sent : writer.facts.recorded.sent ≡ length h
    sent = sends.sent

    expects : Expects writer reader way back
    expects = follows.expects idle.going (open_not_closing f.connection.phase idle.established)

    never_soft : goes_softly f ≡ false
    never_soft = by_bool (goes_softly f ≡ false) (goes_softly f)
        (λ soft. absurd (subst (λ (ps : List Piece). ReturnsFirst f.connection.receiver.next ps) none (expects.restarts soft (is_done writer.facts.connection.phase sends.established)))) (λ e. e)

    exact : awaited reader.config f ≡ exactly (next_live reader.config f)
    exact = awaited_then reader.config f never_soft (is_done f.connection.phase idle.established) ∙ ap (λ b. awaits b (next_live reader.config f)) numbered

    live : next_live reader.config f ≡ k
    live = subst (λ (a : Awaited). IsAt a k) exact
        (subst (λ (ps : List Piece). Runs writer.config.own_flow (awaited reader.config f) (to_come f.connection.requester) ps k (served writer.facts.connection.serving)) none expects.runs).0

    lies : Lies f reader.held
    lies = so idle.going (open_not_closing f.connection.phase idle.established)

    reached : is_recoverable reader.config.peer_flow ≡ true → f.connection.receiver.live ≤ f.connection.receiver.next
    reached rec = by_bool (f.connection.receiver.live ≤ f.connection.receiver.next) f.connection.soft
        (λ soft. ltb-false f.connection.receiver.next f.connection.receiver.live (sym (ap (λ b. b && nat_lt f.connection.receiver.next f.connection.receiver.live) soft) ∙ never_soft))
        (λ firm. gap_reached (least reader.held) f.connection.receiver f.recorded.inbox_next (expects.line rec).waits
        (least_above f.recorded.inbox_next reader.held lies.reach (none_ready reader lies idle.unasked))
        (sym (recoverable_gap (around reader 0 0) f rec) ∙ unasked_gap (around reader 0 0) f firm idle.unasked gap))

    by_flow : (r : Bool) → is_recoverable reader.config.peer_flow ≡ r → f.recorded.inbox_next ≡ length h + 1
    by_flow true rec =
        let line = expects.line rec in
        let waits = line.waits in
        let low = line.low in
        let high = reached rec in
        let is = live_is reader.config f rec in
        let all = live in
        omega (arith, waits, low, high, is, all, sent)
    by_flow false other =
        let is = inbox_of reader.config f other in
        let all = live in
        omega (arith, is, all, sent)

pub quiet_has_all : QuietHasAll
quiet_has_all hi ha w steps known may quiet =
    let n = counted_at_first hi ha w known in
    let now = world_after w steps in
    let counted = counted_after hi ha w steps n may in
    let numbers = numbered_of hi ha now counted in
    let keeps = keep_after hi ha w steps n may in (
      quiet_one hi ha now.acceptor now.initiator now.homeward now.outward numbers.homeward quiet.homeward quiet.acceptor quiet.initiator counted.initiator_lies (keeps.initiator.asked (λ _. first_gap w.initiator known.0.initiator) quiet.initiator.going),
      quiet_one ha hi now.initiator now.acceptor now.outward now.homeward numbers.outward quiet.outward quiet.initiator quiet.acceptor counted.acceptor_lies (keeps.acceptor.asked (λ _. first_gap w.acceptor known.0.acceptor) quiet.acceptor.going),
    )

-- what holds of one flow, where a finish that was recorded at first came behind all of it
record OneFlow (h : List Entry) (writer reader : State) (way back : List Piece) : Type 0 where
  flow : reader.config.peer_flow ≡ writer.config.own_flow
  follows : Follows h writer reader way back
  tells : Tells h writer reader way
  ends : Ends reader.config.peer_flow reader.facts

both_read : (hi ha : List Entry) (w : World) (steps : List Step) → StartsKnown hi ha w → EndsLast w.initiator → EndsLast w.acceptor → AllMayStep hi ha w steps
    → OneFlow ha (world_after w steps).acceptor (world_after w steps).initiator (world_after w steps).homeward (world_after w steps).outward
    × OneFlow hi (world_after w steps).initiator (world_after w steps).acceptor (world_after w steps).outward (world_after w steps).homeward
both_read hi ha w steps known ended_i ended_a may =
    let n = counted_at_first hi ha w known in
    let counted = counted_after hi ha w steps n may in
    let numbers = numbered_of hi ha (world_after w steps) counted in
    let finishes = finished_holds hi ha w steps known may in
    let keeps = keep_after hi ha w steps n may in (
      record { flow = counted.holds.matches.homeward; follows = numbers.homeward; tells = finishes.homeward; ends = keeps.initiator.ends (first_ends w.initiator known.0.initiator (λ numbered. past_last w.initiator.facts.recorded.inbox_next w.initiator.facts.recorded.peer_last (ended_i numbered))) },
      record { flow = counted.holds.matches.outward; follows = numbers.outward; tells = finishes.outward; ends = keeps.acceptor.ends (first_ends w.acceptor known.0.acceptor (λ numbered. past_last w.acceptor.facts.recorded.inbox_next w.acceptor.facts.recorded.peer_last (ended_a numbered))) },
    )

-- where its reader has recorded a finish, its inbox awaits one past all of it, and the last number is that of its last entry
at_last : (h : List Entry) (writer reader : State) (way back : List Piece) (n : ℕ) → OneFlow h writer reader way back → is_sequenced reader.config.peer_flow ≡ true → IsLast h writer n
    → n + 1 ≤ reader.facts.recorded.inbox_next → (reader.facts.recorded.inbox_next ≡ length h + 1) × (n ≡ length h)
at_last h writer reader way back n r numbered last past =
    let is : n ≡ length h = last.1 ∙ ap (λ (b : Bool). if b then length h else 0) (sym (ap is_sequenced r.flow) ∙ numbered) in
    let sent = last.0.sent in
    let next = r.follows.next in
    (omega (arith, is, sent, next, past), is)

-- a flow with numbers is there
present : (flow : Flow) → is_sequenced flow ≡ true → is_absent flow ≡ false
present flows.Recoverable e = refl
present flows.Idempotent e = refl
present flows.Unsequenced e = refl
present flows.None e = absurd (true≢false (sym e))

-- both finishes are exchanged: that of a flow with numbers was read
theirs_exchanged : (s : State) → finishes_exchanged (around s 0 0) s.facts ≡ true → is_sequenced s.config.peer_flow ≡ true → peer_is_exchanged s.facts.connection.peer_finish ≡ true
theirs_exchanged s over numbered =
    let phase = is_shaken s.facts.connection.phase in
    let theirs = peer_is_exchanged s.facts.connection.peer_finish in
    not_absent theirs (is_absent s.config.peer_flow) phase
    (and_parts (own_is_exchanged s.facts.connection.own_finish || (is_absent s.config.own_flow && phase)) (theirs || (is_absent s.config.peer_flow && phase)) over).1 (present s.config.peer_flow numbered)
  where
    not_absent : (a b c : Bool) → (a || (b && c)) ≡ true → b ≡ false → a ≡ true
    not_absent true b c e n = refl
    not_absent false true c e n = absurd (true≢false n)
    not_absent false false c e n = absurd (true≢false (sym e))

over_one : (h : List Entry) (writer reader : State) (way back : List Piece) → OneFlow h writer reader way back → finishes_exchanged (around reader 0 0) reader.facts ≡ true → HasAll h reader
over_one h writer reader way back r over numbered =
    by_last reader.facts.recorded.peer_last (r.ends.recorded (theirs_exchanged reader over numbered)) r.tells.recorded (r.ends.reached numbered)
  where
    by_last : (o : Option ℕ) → is_some o ≡ true → IfSome o (λ n. IsLast h writer n) → IfSome o (λ n. n + 1 ≤ reader.facts.recorded.inbox_next) → reader.facts.recorded.inbox_next ≡ length h + 1
    by_last None some last past = absurd (true≢false (sym some))
    by_last (Some n) some last past = (at_last h writer reader way back n r numbered last past).0

pub over_has_all : OverHasAll
over_has_all hi ha w steps known ended_i ended_a may over =
    let now = world_after w steps in
    let both = both_read hi ha w steps known ended_i ended_a may in
    (over_one ha now.acceptor now.initiator now.homeward now.outward both.0 over.initiator, over_one hi now.initiator now.acceptor now.outward now.homeward both.1 over.acceptor)

pub rest_has_all : RestHasAll
rest_has_all hi ha w steps known ended_i ended_a may (inl quiet) = quiet_has_all hi ha w steps known may quiet
rest_has_all hi ha w steps known ended_i ended_a may (inr over) = over_has_all hi ha w steps known ended_i ended_a may over

stays_one : (h : List Entry) (writer reader : State) (way back : List Piece) → OneFlow h writer reader way back → EndsLast reader
stays_one h writer reader way back r numbered = by_last reader.facts.recorded.peer_last r.tells.recorded (r.ends.reached numbered)
  where
    by_last : (o : Option ℕ) → IfSome o (λ n. IsLast h writer n) → IfSome o (λ n. n + 1 ≤ reader.facts.recorded.inbox_next) → IfSome o (λ n. reader.facts.recorded.inbox_next ≡ n + 1)
    by_last None last past = tt
    by_last (Some n) last past = let a = at_last h writer reader way back n r numbered last past in let next = a.0 in let is = a.1 in omega (arith, next, is)

pub stays_ended : StaysEnded
stays_ended hi ha w steps known ended_i ended_a may =
    let now = world_after w steps in
    let both = both_read hi ha w steps known ended_i ended_a may in
    (stays_one ha now.acceptor now.initiator now.homeward now.outward both.0, stays_one hi now.initiator now.acceptor now.outward now.homeward both.1)

pub all_is_equal : AllIsEqual
all_is_equal h inbox a next =
    let xs = payloads_of (applied inbox) in
    let counted = next_of_counted inbox a.counted a.whole in
    let whole = sym (ap length a.prefix.1) ∙ length-append xs a.prefix.0 in
    let mine = length-payloads_of (applied inbox) in
    let theirs = length-map h (λ (e : Entry). e.payload) in
    let none : a.prefix.0 ≡ [] = nil_from_length a.prefix.0 (omega (arith, next, counted, whole, mine, theirs)) in
    sym (append-nil xs) ∙ (ap (λ (more : List (List ℕ)). xs ++ more) (sym none) ∙ a.prefix.1)
