-- Over accepted frames an inbox grows as the session model has it, row by row.
use Rattle.std.proofs.Common.{◌≡◌, ℕ, ◌+◌, ◌==◌, ◌&&◌, ◌||◌, max, min, not, IsTrue, Bool, true, false, if◌then◌else◌, List, [], ◌∷◌, ◌++◌, map, Option, Some, None, option_to_list, refl, sym, ap, subst, ◌∙◌, arith, append-nil, eq-eqb, true≢false}
use Rattle.std.specs.Prelude.{is_none, is_some, unwrap_or, Result, Ok, Err}
use Rattle.std.proofs.lemmas.Grind.{flat_map-append}
use Rattle.session_model.specs.Inbox.{Numbered, InboxRecord, apply, applied, skips, next_number}
use Rattle.session_model.specs.Events.{Event, announce, handshake, in_flow, standing}
use Rattle.session_model.specs.Growth.{GrownRecoverable}
use Rattle.session_model.proofs.Inboxes.{next_number-append}
use Rattle.fixp_msgs.specs.declared.messages.Expected.{Expected}
use Rattle.fixp_msgs.specs.declared.numbering.Range.{Range}
use Rattle.fixp_msgs.specs.declared.flow.Flow.{Flow}
use Rattle.fixp_msgs.specs.declared.flow.Flow.TheVariants as flows
use Rattle.fixp_msgs.specs.Flow.{flow_code}
use Rattle.fixp_msgs.specs.Message.{Message, negotiate, negotiation_response, negotiation_reject, establish, establishment_ack, establishment_reject, sequence, unsequenced_heartbeat, retransmit_request, retransmission, retransmit_reject, applied as applied_message, not_applied, finished_sending, finished_receiving, terminate}
use Rattle.flow_recover.specs.declared.numbers.Seen.{Seen}
use Rattle.flow_recover.specs.declared.numbers.Seen.TheVariants.{Deliver, Hold, Gap, Repeat}
use Rattle.flow_recover.specs.Receiving as receiver_is
use Rattle.flow_recover.specs.Laws.{message, given}
use Rattle.flow_recover.proofs.Chains.{grows_recoverable, number_counted, next_counted}
use Rattle.flow_retrans.specs.declared.requester.BadStart.{BadStart}
use Rattle.flow_retrans.specs.declared.judging.RetransmitCode.{RetransmitCode}
use Rattle.flow_retrans.specs.Requests as request_is
use Rattle.fixp_shake.specs.declared.phase.Phase.{Phase}
use Rattle.fixp_shake.specs.declared.phase.Phase.TheVariants as phases
use Rattle.fixp_shake.specs.declared.violation.Violation.{Violation}
use Rattle.fixp_shake.specs.Flows.{is_sequenced, is_recoverable}
use Rattle.fixp_shake.specs.Phases.{is_negotiating, is_establishing, is_established, is_closing, is_shaken}
use Rattle.fixp_replies.specs.declared.act.Act.{Act}
use Rattle.fixp_replies.specs.declared.act.Act.TheVariants as acts
use Rattle.fixp_replies.specs.declared.act.Ending.TheVariants as endings
use Rattle.fixp_replies.specs.declared.facts.Facts.{Facts}
use Rattle.fixp_replies.specs.declared.facts.PeerFinish.TheVariants as peer
use Rattle.fixp_replies.specs.declared.facts.OwnFinish.TheVariants as own
use Rattle.fixp_replies.specs.Incoming.{Incoming, application, session, wrong_order, too_short, unknown}
use Rattle.fixp_replies.specs.Facts.{Around, is_initiator, connecting, in_phase, requesting, serves, negotiated as as_negotiated, awaiting, awaits_gap, gap_of, gap_to_ask, holding_too, announced_number, finishes_exchanged}
use Rattle.fixp_replies.specs.Outcomes.{Outcome, Row, row, goes_on, accepts, ignores, ends, not_in_phase, request_for, skip_of, told_skip, opening_negotiate, opening_establish}
use Rattle.fixp_replies.specs.Events.{Made, applied_runs, outbox_finished, tells_finish}
use Rattle.fixp_machine.specs.Machine.{counted_sent}
use Rattle.fixp_replies.specs.Announcing.{Announced, announced, announcement_fault, refuses}
use Rattle.fixp_replies.specs.Handshake.{awaits_client, serves_client, established, acknowledges, establish_rows, established_again_rows, establish_rows_in, shaken, reached}
use Rattle.fixp_replies.specs.Expecting.{number_in, answers_next, takes, returned, told_return, softened}
use Rattle.fixp_replies.specs.Flowing.{bad_retransmission, counted, taken_as, finish_act, peer_finished, answers_finish, is_filled, is_past_finish, sequence_taken, sequence_follows, restarted, finished_last, finish_fault, finished}
use Rattle.fixp_replies.specs.Serving.{request_answered, own_finishing}
use Rattle.fixp_replies.specs.Replies.{reply_of, template_of, rows_of, answer_of, terminates}
use Rattle.fixp_machine.proofs.Calls.{begun_as}
use Rattle.fixp_machine.proofs.Expecting.{returned_stays}
use Rattle.fixp_machine.proofs.Rows.{AllRows, by_row, all_rows, all_within, announced_rows, own_rows}
use Rattle.fixp_machine.proofs.Tests.{not_true, not_false, none-some, delivers, passes, other_gap, is_done, not_negotiated, not_established}
use Rattle.fixp_machine.specs.Accepting.{records_of, event_of, next_message, AsksNothing, Agrees, GrowsBy, told_in, AcceptedFrameGrows, RefusedFrameSpares, FrameTells, BeginsAgreeing, turn_end, outbox_finish, live, again, OwnKeepsAgreeing}
use Rattle.fixp_machine.proofs.Growing.{announced_on, fault_on, in_order, IsOf, agrees_asked, Behind, quiet_grows, recoverable_announced, announced_grows, message_grows}

-- what an outcome leaves: where it is accepted the inbox is grown, and else it stays; and what is skipped is told
record Leaves (flow : Flow) (c : Option ℕ) (inbox : List InboxRecord) (i : Incoming) (o : Outcome) : Type 0 where
  grows : IsTrue o.accepted → GrowsBy flow c inbox (option_to_list (event_of i)) (records_of o.act i) o.next
  spares : o.accepted ≡ false → (records_of o.act i ≡ []) × Agrees flow c o.next inbox
  tells : told_in o.written ≡ skips (records_of o.act i)

-- an outcome that is not accepted
refused : (flow : Flow) (c : Option ℕ) (inbox : List InboxRecord) (i : Incoming) (o : Outcome) → o.accepted ≡ false → records_of o.act i ≡ [] → told_in o.written ≡ []
    → Agrees flow c o.next inbox → Leaves flow c inbox i o
refused flow c inbox i o e none told a = record { grows = λ t. absurd (true≢false (sym t ∙ e)); spares = λ _. (none, a); tells = told ∙ sym (ap (λ rs. skips rs) none) }

asks_no_range : (x : Around) (g : Option Range) → told_in (request_for x g) ≡ []
asks_no_range x None = refl
asks_no_range x (Some g) = refl

told_asking : (x : Around) (written : List Message) (g : Option Range) → told_in (written ++ request_for x g) ≡ told_in written
told_asking x written g = flat_map-append _ written (request_for x g) ∙ (ap (λ rs. told_in written ++ rs) (asks_no_range x g) ∙ append-nil (told_in written))

-- the connection goes on
going : (flow : Flow) (c : Option ℕ) (inbox : List InboxRecord) (i : Incoming) (x : Around) → IsOf flow x → (act : Act) (written : List Message) (f : Facts)
    → GrowsBy flow c inbox (option_to_list (event_of i)) (records_of act i) f → told_in written ≡ skips (records_of act i) → Leaves flow c inbox i (goes_on x act written f)
going flow c inbox i x of act written f g told = record {
  grows = λ _. record { grown = g.grown; agrees = agrees_asked flow x (standing c (option_to_list (event_of i))) f (inbox ++ records_of act i) of g.agrees };
  spares = λ e. absurd (true≢false e);
  tells = told_asking x written (gap_to_ask x f) ∙ told;
}

bad : (flow : Flow) (c : Option ℕ) (inbox : List InboxRecord) (i : Incoming) (x : Around) (f : Facts) (b : Option BadStart) → Agrees flow c f inbox → Leaves flow c inbox i (bad_retransmission x f b)
bad flow c inbox i x f None a = refused flow c inbox i (bad_retransmission x f None) refl refl refl a
bad flow c inbox i x f (Some b) a = refused flow c inbox i (bad_retransmission x f (Some b)) refl refl refl a

refusing : (flow : Flow) (c : Option ℕ) (inbox : List InboxRecord) (i : Incoming) (x : Around) (f : Facts) → Agrees flow c f inbox → (v : Option Violation) → Leaves flow c inbox i (refuses x f v)
refusing flow c inbox i x f a None = refused flow c inbox i (refuses x f None) refl refl refl a
refusing flow c inbox i x f a (Some v) = refused flow c inbox i (refuses x f (Some v)) refl refl refl a

-- the handshake goes on, and nothing stands announced yet
still_shaking : (flow : Flow) (c : Option ℕ) (f g : Facts) (inbox : List InboxRecord) → Agrees flow c f inbox → is_shaken f.connection.phase ≡ false → is_shaken g.connection.phase ≡ false
    → g.recorded.inbox_next ≡ f.recorded.inbox_next → g.connection.receiver ≡ f.connection.receiver → g.connection.requester ≡ f.connection.requester
    → g.connection.peer_finish ≡ f.connection.peer_finish → Agrees flow c g inbox
still_shaking flow c f g inbox a before now next receiver requester finish = record {
  recorded = next ∙ a.recorded;
  waits = λ r. ap (λ k. k.next) receiver ∙ a.waits r;
  quiet = λ r. let q = a.quiet r in record {
    no_request = requester ∙ q.no_request;
    no_gap = ap (λ k. k.live) receiver ∙ (q.no_gap ∙ sym (ap (λ k. k.next) receiver));
    no_finish = ap awaits_gap finish ∙ q.no_finish;
  };
  stands = λ t. a.stands t ∙ (ap (λ b. if b then Some (next_message flow f) else None) before ∙ sym (ap (λ b. if b then Some (next_message flow g) else None) now));
}

shaking : (flow : Flow) (c : Option ℕ) (inbox : List InboxRecord) (i : Incoming) (x : Around) (f : Facts) → IsOf flow x → event_of i ≡ None → Agrees flow c f inbox → is_shaken f.connection.phase ≡ false → Leaves flow c inbox i (shaken x f)
shaking flow c inbox i x f of none a before =
    let g : Facts = in_phase (as_negotiated f) phases.Establishing in
    let act : Act = if f.recorded.negotiated then acts.Nothing else acts.Negotiated in
    going flow c inbox i x of act (opening_establish x f ∷ []) g
    (subst (λ e. GrowsBy flow c inbox (option_to_list e) (records_of act i) g) (sym none)
    (quiet_grows flow c inbox (records_of act i) f g a (still_shaking flow c f g inbox a before refl refl refl refl refl) (applies f.recorded.negotiated) (skipping f.recorded.negotiated)))
    (sym (skipping f.recorded.negotiated))
  where
    applies : (b : Bool) → applied (records_of (if b then acts.Nothing else acts.Negotiated) i) ≡ []
    applies true = refl
    applies false = refl

    skipping : (b : Bool) → skips (records_of (if b then acts.Nothing else acts.Negotiated) i) ≡ []
    skipping true = refl
    skipping false = refl

-- what is skipped is told
told_as : (s : Option Range) (i : Incoming) → told_in (told_skip s) ≡ skips (records_of (skip_of s) i)
told_as None i = refl
told_as (Some s) i = refl

-- the handshake is done, behind an announcement
handshaken : (x : Around) (f : Facts) (template : ℕ) (c : Option ℕ) (inbox : List InboxRecord) (i : Incoming) (next : Option ℕ) (g : Facts) → event_of i ≡ Some (announce handshake next)
    → Agrees x.config.peer_flow c f inbox → announcement_fault x f template next ≡ None → Behind (announced x f next).facts g
    → GrowsBy x.config.peer_flow c inbox (option_to_list (event_of i)) (records_of (skip_of (announced x f next).skipped) i) g
handshaken x f template c inbox i next g e a none b =
    subst (λ k. GrowsBy x.config.peer_flow c inbox (option_to_list k) (records_of (skip_of (announced x f next).skipped) i) g) (sym e)
    (announced_grows x.config.peer_flow x.most template c inbox i handshake next f g a none b)

-- the number that the peer expects was taken, and the handshake is done
behind_return : (x : Around) (f : Facts) (e : Expected) (interval : ℕ) → Behind f (established (returned x f e) interval)
behind_return x f e interval = let r = returned_stays x f e in record {
  inbox_next = r.inbox_next;
  receiver = ap (λ c. c.receiver) r.connection;
  requester = ap (λ c. c.requester) r.connection;
  finish = ap (λ c. awaits_gap c.peer_finish) r.connection;
  shaken = refl;
}

-- and no range is told
return_tells_nothing : (x : Around) (f : Facts) (e : Expected) → told_in (told_return x f e) ≡ []
return_tells_nothing x f e = by_test (takes x f e && not (number_in e == f.recorded.sent + 1))
  where
    by_test : (b : Bool) → told_in (if b then sequence (number_in e) ∷ [] else []) ≡ []
    by_test true = refl
    by_test false = refl

-- Establish was acknowledged
reaching : (x : Around) (f : Facts) (c : Option ℕ) (inbox : List InboxRecord) (i : Incoming) (keepalive : ℕ) (next : Option ℕ) (e : Expected) → event_of i ≡ Some (announce handshake next)
    → Agrees x.config.peer_flow c f inbox → announcement_fault x f 5 next ≡ None → Leaves x.config.peer_flow c inbox i (reached x keepalive e (announced x f next))
reaching x f c inbox i keepalive next e is a none =
    let d : Announced = announced x f next in
    let interval : ℕ = min 60000 (max 100 keepalive) in
    going x.config.peer_flow c inbox i x (λ e. e) (skip_of d.skipped) (told_skip d.skipped ++ told_return x d.facts e) (established (returned x d.facts e) interval)
    (handshaken x f 5 c inbox i next (established (returned x d.facts e) interval) is a none (behind_return x d.facts e interval))
    (flat_map-append _ (told_skip d.skipped) (told_return x d.facts e)
    ∙ (ap (λ rs. told_in (told_skip d.skipped) ++ rs) (return_tells_nothing x d.facts e) ∙ (append-nil (told_in (told_skip d.skipped)) ∙ told_as d.skipped i)))

establish_all : (x : Around) (f : Facts) (id : List ℕ) (timestamp keepalive : ℕ) (next : Option ℕ) (expected : Expected) (credentials : List ℕ) (c : Option ℕ) (inbox : List InboxRecord) → Agrees x.config.peer_flow c f inbox
    → AllRows (Leaves x.config.peer_flow c inbox (session (establish id timestamp keepalive next expected credentials))) (establish_rows_in x f id timestamp keepalive next expected credentials)
establish_all x f id timestamp keepalive next expected credentials c inbox a = by_place (awaits_client x f) (serves_client x f)
  where
    i : Incoming
    i = session (establish id timestamp keepalive next expected credentials)

    P : Outcome → Type 0
    P = Leaves x.config.peer_flow c inbox i

    acknowledged : announcement_fault x f 4 next ≡ None → P (acknowledges x timestamp keepalive expected (announced x f next))
    acknowledged none =
        let d : Announced = announced x f next in
        let g : Facts = returned x d.facts expected in
        let b = behind_return x d.facts expected keepalive in
        going x.config.peer_flow c inbox i x (λ e. e) (skip_of d.skipped)
        (establishment_ack x.config.session timestamp x.config.keepalive (announced_number x g) (answers_next x expected g) ∷ told_skip d.skipped)
        (established (softened x expected g) keepalive)
        (handshaken x f 4 c inbox i next (established (softened x expected g) keepalive) refl a none
        (record { inbox_next = b.inbox_next; receiver = b.receiver; requester = b.requester; finish = b.finish; shaken = refl }))
        (told_as d.skipped i)

    by_place : (p q : Bool) → AllRows P (if p then establish_rows x f id timestamp keepalive next expected credentials else if q then established_again_rows x f id timestamp else [])
    by_place true q = (
      λ _. refused x.config.peer_flow c inbox i _ refl refl refl a,
      λ _. (
        λ _. refused x.config.peer_flow c inbox i _ refl refl refl a,
        λ _. (
          λ _. refused x.config.peer_flow c inbox i _ refl refl refl a,
          λ _. announced_rows P x f 4 next (acknowledges x timestamp keepalive expected) (refusing x.config.peer_flow c inbox i x f a) acknowledged,
        ),
      ),
    )
    by_place false true = (λ _. refused x.config.peer_flow c inbox i _ refl refl refl a, λ _. (λ _. refused x.config.peer_flow c inbox i _ refl refl refl a, λ _. tt))
    by_place false false = tt

-- facts that differ in nothing that is agreed on
unchanged : (flow : Flow) (c : Option ℕ) (inbox : List InboxRecord) (i : Incoming) (x : Around) → IsOf flow x → (act : Act) (written : List Message) (f g : Facts) → event_of i ≡ None → Agrees flow c f inbox → Agrees flow c g inbox
    → applied (records_of act i) ≡ [] → skips (records_of act i) ≡ [] → told_in written ≡ [] → Leaves flow c inbox i (goes_on x act written g)
unchanged flow c inbox i x of act written f g none a b applies skipping told =
    going flow c inbox i x of act written g
    (subst (λ e. GrowsBy flow c inbox (option_to_list e) (records_of act i) g) (sym none) (quiet_grows flow c inbox (records_of act i) f g a b applies skipping))
    (told ∙ sym skipping)

finish_applies : (recorded : Option ℕ) (last : ℕ) (i : Incoming) → applied (records_of (finish_act recorded last) i) ≡ []
finish_applies None last i = refl
finish_applies (Some _) last i = refl

finish_skips : (recorded : Option ℕ) (last : ℕ) (i : Incoming) → skips (records_of (finish_act recorded last) i) ≡ []
finish_skips None last i = refl
finish_skips (Some _) last i = refl

-- the finish is answered: nothing waits for a gap
answered_agrees : (flow : Flow) (c : Option ℕ) (f : Facts) (inbox : List InboxRecord) (last : ℕ) (recorded : Option ℕ) → Agrees flow c f inbox → Agrees flow c (peer_finished f (peer.Exchanged last) recorded) inbox
answered_agrees flow c f inbox last recorded a = record {
  recorded = a.recorded;
  waits = a.waits;
  quiet = λ r. let q = a.quiet r in record { no_request = q.no_request; no_gap = q.no_gap; no_finish = refl };
  stands = a.stands;
}

-- Sequence: where it stands the handshake is done
sequence_all : (flow : Flow) (x : Around) (f : Facts) (next : ℕ) (c : Option ℕ) (inbox : List InboxRecord) → IsOf flow x → Agrees flow c f inbox → is_shaken f.connection.phase ≡ true
    → fault_on flow x.most f 7 (Some next) ≡ None → Leaves flow c inbox (session (sequence next)) (sequence_follows x f next (announced_on flow f (Some next)))
sequence_all flow x f next c inbox of a settled none =
    by_row P (is_past_finish x f next) _ (sequence_taken x (announced_on flow f (Some next))) (λ _. refused flow c inbox i _ refl refl refl a)
    (λ _. by_row P (is_filled x (announced_on flow f (Some next)).facts) (answers_finish x (announced_on flow f (Some next)).facts (unwrap_or (awaits_gap (announced_on flow f (Some next)).facts.connection.peer_finish) 0)) _ (filled flow a none)
    (λ _. going flow c inbox i x of (skip_of (announced_on flow f (Some next)).skipped) (told_skip (announced_on flow f (Some next)).skipped) (announced_on flow f (Some next)).facts
    (announced_grows flow x.most 7 c inbox i in_flow (Some next) f (announced_on flow f (Some next)).facts a none
    (record { inbox_next = refl; receiver = refl; requester = refl; finish = refl; shaken = same_phase flow ∙ settled }))
    (told_as (announced_on flow f (Some next)).skipped i)))
  where
    i : Incoming
    i = session (sequence next)

    P : Outcome → Type 0
    P = Leaves flow c inbox i

    same_phase : (k : Flow) → is_shaken (announced_on k f (Some next)).facts.connection.phase ≡ is_shaken f.connection.phase
    same_phase flows.Recoverable = refl
    same_phase flows.Idempotent = refl
    same_phase flows.Unsequenced = refl
    same_phase flows.None = refl

    and_left : (p q : Bool) → (p && q) ≡ true → p ≡ true
    and_left true q t = refl
    and_left false q t = absurd (true≢false (sym t))

    grown_behind : (added : List InboxRecord) (g : Facts) → g.recorded.inbox_next ≡ f.recorded.inbox_next → g.connection.receiver ≡ receiver_is.announced f.connection.receiver next
        → is_shaken g.connection.phase ≡ true → Agrees flows.Recoverable c f inbox → applied added ≡ [] → skips added ≡ []
        → GrowsBy flows.Recoverable c inbox (announce in_flow (Some next) ∷ []) added g
    grown_behind added g same receiver done b applies skipping = recoverable_announced c inbox added in_flow (Some next) f g b refl same receiver done applies skipping

    filled_grows : (h : Facts) (last : ℕ) → Agrees flows.Recoverable c f inbox → h ≡ (announced_on flows.Recoverable f (Some next)).facts
        → GrowsBy flows.Recoverable c inbox (announce in_flow (Some next) ∷ []) (records_of (finish_act h.recorded.peer_last last) i) (peer_finished h (peer.Exchanged last) (Some (unwrap_or h.recorded.peer_last last)))
    filled_grows h last b e = grown_behind (records_of (finish_act h.recorded.peer_last last) i) (peer_finished h (peer.Exchanged last) (Some (unwrap_or h.recorded.peer_last last)))
        (ap (λ k. k.recorded.inbox_next) e) (ap (λ k. k.connection.receiver) e) (ap (λ k. is_shaken k.connection.phase) e ∙ settled) b (finish_applies h.recorded.peer_last last i) (finish_skips h.recorded.peer_last last i)

    filled : (k : Flow) → Agrees k c f inbox → fault_on k x.most f 7 (Some next) ≡ None → is_filled x (announced_on k f (Some next)).facts ≡ true
        → Leaves k c inbox i (answers_finish x (announced_on k f (Some next)).facts (unwrap_or (awaits_gap (announced_on k f (Some next)).facts.connection.peer_finish) 0))
    filled flows.Recoverable b e t =
        let h : Facts = (announced_on flows.Recoverable f (Some next)).facts in
        let last : ℕ = unwrap_or (awaits_gap h.connection.peer_finish) 0 in
        going flows.Recoverable c inbox i x (λ r. absurd (true≢false r)) (finish_act h.recorded.peer_last last) (finished_receiving x.config.session ∷ []) (peer_finished h (peer.Exchanged last) (Some (unwrap_or h.recorded.peer_last last)))
        (filled_grows h last b refl)
        (sym (finish_skips h.recorded.peer_last last i))
    filled flows.Idempotent b e t = absurd (none-some (awaits_gap f.connection.peer_finish) (and_left _ _ t) (b.quiet refl).no_finish)
    filled flows.Unsequenced b e t = absurd (none-some (awaits_gap f.connection.peer_finish) (and_left _ _ t) (b.quiet refl).no_finish)
    filled flows.None b e t = absurd (none-some (awaits_gap f.connection.peer_finish) (and_left _ _ t) (b.quiet refl).no_finish)

-- what stands behind a message that was counted, where the handshake is done
counted_stands : (f : Facts) → is_shaken f.connection.phase ≡ true
    → Some (receiver_is.number f.connection.receiver + 1) ≡ (if is_shaken f.connection.phase then Some (receiver_is.number (receiver_is.after_message f.connection.receiver)) else None)
counted_stands f e =
    let r = f.connection.receiver in
    ap Some (sym (number_counted r.next r.live r.again)) ∙ ap (λ b. if b then Some (receiver_is.number (receiver_is.after_message r)) else None) (sym e)

-- a message of a recoverable flow that is not delivered
left_out : (f : Facts) (inbox : List InboxRecord) (p : List ℕ) → is_shaken f.connection.phase ≡ true → Agrees flows.Recoverable (Some (receiver_is.number f.connection.receiver)) f inbox
    → (receiver_is.number f.connection.receiver == f.connection.receiver.next) ≡ false
    → GrownRecoverable (Some (receiver_is.number f.connection.receiver)) (Event.message p ∷ []) inbox (inbox ++ [])
    → GrowsBy flows.Recoverable (Some (receiver_is.number f.connection.receiver)) inbox (Event.message p ∷ []) [] (counted f)
left_out f inbox p e a other grown =
    let r = f.connection.receiver in
    let same : next_number (inbox ++ []) ≡ next_number inbox = ap (λ rs. next_number rs) (append-nil inbox) in
    record {
      grown = grown;
      agrees = record {
        recorded = a.recorded ∙ sym same;
        waits = λ _. next_counted r.next r.live r.again ∙ (ap (λ b. if b then r.next + 1 else r.next) other ∙ (a.waits refl ∙ sym same));
        quiet = λ t. absurd (true≢false t);
        stands = λ _. counted_stands f e;
      };
    }

taking : (x : Around) (f : Facts) (inbox : List InboxRecord) (p : List ℕ) → is_shaken f.connection.phase ≡ true → Agrees flows.Recoverable (Some (receiver_is.number f.connection.receiver)) f inbox
    → (s : Seen) → receiver_is.seen f.connection.receiver ≡ s → Leaves flows.Recoverable (Some (receiver_is.number f.connection.receiver)) inbox (application p) (taken_as x (counted f) s)
taking x f inbox p e a (Deliver n) is =
    let r = f.connection.receiver in
    let d = delivers r.next (receiver_is.number r) n is in
    let m : Numbered = record { number = n; payload = p } in
    let w : r.next ≡ next_number inbox = a.waits refl in
    let base = grows_recoverable r (message p ∷ []) inbox (sym w) in
    let step : next_number (inbox ++ apply m ∷ []) ≡ n + 1 = omega (arith, next_number-append inbox (apply m ∷ []), d.0, d.1, w) in
    going flows.Recoverable (Some (receiver_is.number r)) inbox (application p) x (λ t. absurd (true≢false t)) (acts.Apply n) [] (awaiting (counted f) (n + 1)) (record {
      grown = subst (λ s. GrownRecoverable (Some (receiver_is.number r)) (Event.message p ∷ []) inbox (inbox ++ map apply (given s p ++ []))) is base;
      agrees = record {
        recorded = sym step;
        waits = λ _.
            next_counted r.next r.live r.again
            ∙ (ap (λ b. if b then r.next + 1 else r.next) (eq-eqb (receiver_is.number r) r.next d.1)
            ∙ omega (arith, d.0, d.1, step));
        quiet = λ t. absurd (true≢false t);
        stands = λ _. counted_stands f e;
      };
    }) refl
taking x f inbox p e a (Hold n) is =
    let r = f.connection.receiver in
    let base = grows_recoverable r (message p ∷ []) inbox (sym (a.waits refl)) in
    let k = going flows.Recoverable (Some (receiver_is.number r)) inbox (application p) (holding_too x n) (λ t. absurd (true≢false t)) acts.Nothing [] (counted f)
    (left_out f inbox p e a ((passes r.next (receiver_is.number r) n).hold is)
    (subst (λ s. GrownRecoverable (Some (receiver_is.number r)) (Event.message p ∷ []) inbox (inbox ++ map apply (given s p ++ []))) is base)) refl in
    record { grows = k.grows; spares = k.spares; tells = k.tells }
taking x f inbox p e a (Gap n) is =
    let r = f.connection.receiver in
    let base = grows_recoverable r (message p ∷ []) inbox (sym (a.waits refl)) in
    going flows.Recoverable (Some (receiver_is.number r)) inbox (application p) x (λ t. absurd (true≢false t)) acts.Nothing [] (counted f) (left_out f inbox p e a ((passes r.next (receiver_is.number r) n).gap is)
    (subst (λ s. GrownRecoverable (Some (receiver_is.number r)) (Event.message p ∷ []) inbox (inbox ++ map apply (given s p ++ []))) is base)) refl
taking x f inbox p e a (Repeat n) is =
    let r = f.connection.receiver in
    let base = grows_recoverable r (message p ∷ []) inbox (sym (a.waits refl)) in
    going flows.Recoverable (Some (receiver_is.number r)) inbox (application p) x (λ t. absurd (true≢false t)) acts.Nothing [] (counted f) (left_out f inbox p e a ((passes r.next (receiver_is.number r) n).repeat is)
    (subst (λ s. GrownRecoverable (Some (receiver_is.number r)) (Event.message p ∷ []) inbox (inbox ++ map apply (given s p ++ []))) is base)) refl

-- a message of a recoverable flow, whichever number it has
taken_all : (flow : Flow) (x : Around) (f : Facts) (p : List ℕ) (c : Option ℕ) (inbox : List InboxRecord) → is_recoverable flow ≡ true → is_shaken f.connection.phase ≡ true → Agrees flow c f inbox
    → Leaves flow c inbox (application p) (taken_as x (counted f) (receiver_is.seen f.connection.receiver))
taken_all flows.Recoverable x f p c inbox rec e a =
    let r = f.connection.receiver in
    let s : c ≡ Some (receiver_is.number r) = a.stands refl ∙ ap (λ b. if b then Some (receiver_is.number r) else None) e in
    subst (λ k. Leaves flows.Recoverable k inbox (application p) (taken_as x (counted f) (receiver_is.seen r))) (sym s)
    (taking x f inbox p e (subst (λ k. Agrees flows.Recoverable k f inbox) s a) (receiver_is.seen r) refl)
taken_all flows.Idempotent x f p c inbox rec e a = absurd (true≢false (sym rec))
taken_all flows.Unsequenced x f p c inbox rec e a = absurd (true≢false (sym rec))
taken_all flows.None x f p c inbox rec e a = absurd (true≢false (sym rec))

message_rows : (x : Around) (f : Facts) (p : List ℕ) (c : Option ℕ) (inbox : List InboxRecord) → Agrees x.config.peer_flow c f inbox
    → AllRows (Leaves x.config.peer_flow c inbox (application p)) (rows_of x f (application p))
message_rows x f p c inbox a =
    let i = application p in
    let flow = x.config.peer_flow in
    all_within (Leaves flow c inbox i) (is_established f.connection.phase) _ (λ done. (
      λ _. refused flow c inbox i _ refl refl refl a,
      λ present. (
        λ _. refused flow c inbox i _ refl refl refl a,
        λ _. (
          λ _. refused flow c inbox i _ refl refl refl a,
          λ _. (
            λ other. going flow c inbox i x (λ e. e) (acts.Apply f.recorded.inbox_next) [] (awaiting f (f.recorded.inbox_next + 1))
                (message_grows flow c inbox p f a (not_false (is_recoverable flow) other) present (is_done f.connection.phase done)) refl,
            λ rec. (
              λ _. bad flow c inbox i x f (request_is.message_fault f.connection.requester) a,
              λ _. (λ _. taken_all flow x f p c inbox (not_true (is_recoverable flow) rec) (is_done f.connection.phase done) a, λ _. tt),
            ),
          ),
        ),
      ),
    ))

-- a Retransmission announces the number of its first message
recoverable_retransmitted : (c : Option ℕ) (inbox : List InboxRecord) (next count : ℕ) (f : Facts) → Agrees flows.Recoverable c f inbox → is_shaken f.connection.phase ≡ true
    → GrowsBy flows.Recoverable c inbox (announce in_flow (Some next) ∷ []) [] (restarted f next count)
recoverable_retransmitted c inbox next count f a shaken =
    let same : next_number (inbox ++ []) ≡ next_number inbox = ap (λ rs. next_number rs) (append-nil inbox) in
    record {
      grown = in_order inbox [] refl refl;
      agrees = record {
        recorded = a.recorded ∙ sym same;
        waits = λ _. a.waits refl ∙ sym same;
        quiet = λ t. absurd (true≢false t);
        stands = λ _. ap (λ b. if b then Some next else None) (sym shaken);
      };
    }

-- a Retransmission answers a request, and so comes on a recoverable flow alone
restarted_grows : (flow : Flow) (c : Option ℕ) (inbox : List InboxRecord) (f : Facts) (next count : ℕ) → Agrees flow c f inbox → is_shaken f.connection.phase ≡ true
    → is_some (request_is.start_fault (request_is.outstanding f.connection.requester) next count) ≡ false
    → GrowsBy flow c inbox (announce in_flow (Some next) ∷ []) [] (restarted f next count)
restarted_grows flow c inbox f next count a shaken asked = by_flow flow a
  where
    not_asked : AsksNothing f → ⊥
    not_asked q = true≢false (sym (ap (λ r. is_some (request_is.start_fault (request_is.outstanding r) next count)) q.no_request) ∙ asked)

    by_flow : (k : Flow) → Agrees k c f inbox → GrowsBy k c inbox (announce in_flow (Some next) ∷ []) [] (restarted f next count)
    by_flow flows.Recoverable b = recoverable_retransmitted c inbox next count f b shaken
    by_flow flows.Idempotent b = absurd (not_asked (b.quiet refl))
    by_flow flows.Unsequenced b = absurd (not_asked (b.quiet refl))
    by_flow flows.None b = absurd (not_asked (b.quiet refl))

answered : (x : Around) (f : Facts) (i : Incoming) (id : List ℕ) (timestamp : ℕ) (r : Result Range RetransmitCode) (c : Option ℕ) (inbox : List InboxRecord) → event_of i ≡ None → Agrees x.config.peer_flow c f inbox
    → Leaves x.config.peer_flow c inbox i (request_answered x f id timestamp r)
answered x f i id timestamp (Ok range) c inbox none a =
    unchanged x.config.peer_flow c inbox i x (λ e. e) acts.Nothing (retransmission x.config.session range.from timestamp range.count ∷ []) f (serves f (Some range)) none a
    (record { recorded = a.recorded; waits = a.waits; quiet = λ r. let q = a.quiet r in record { no_request = q.no_request; no_gap = q.no_gap; no_finish = q.no_finish }; stands = a.stands })
    refl refl refl
answered x f i id timestamp (Err code) c inbox none a = refused x.config.peer_flow c inbox i _ refl refl refl a

ended_agrees : (flow : Flow) (c : Option ℕ) (f : Facts) (inbox : List InboxRecord) → Agrees flow c f inbox → Agrees flow c (requesting f (request_is.after_sequence f.connection.requester)) inbox
ended_agrees flow c f inbox a = record {
  recorded = a.recorded;
  waits = a.waits;
  quiet = λ r. let q = a.quiet r in record { no_request = ap (λ k. request_is.after_sequence k) q.no_request; no_gap = q.no_gap; no_finish = q.no_finish };
  stands = a.stands;
}

finishing : (x : Around) (f : Facts) (i : Incoming) (last : ℕ) (c : Option ℕ) (inbox : List InboxRecord) → event_of i ≡ None → Agrees x.config.peer_flow c f inbox → Leaves x.config.peer_flow c inbox i (finished x f last)
finishing x f i last c inbox none a =
    by_row (Leaves x.config.peer_flow c inbox i) (is_some (gap_of x f)) (accepts x [] (peer_finished f (peer.Read last) f.recorded.peer_last)) (answers_finish x f last)
    (λ g. unchanged x.config.peer_flow c inbox i x (λ e. e) acts.Nothing [] f (peer_finished f (peer.Read last) f.recorded.peer_last) none a
    (record { recorded = a.recorded; waits = a.waits; quiet = λ r. absurd (true≢false (sym g ∙ ap is_some (other_gap x f r))); stands = a.stands }) refl refl refl)
    (λ _. unchanged x.config.peer_flow c inbox i x (λ e. e) (finish_act f.recorded.peer_last last) (finished_receiving x.config.session ∷ []) f
    (peer_finished f (peer.Exchanged last) (Some (unwrap_or f.recorded.peer_last last))) none a (answered_agrees x.config.peer_flow c f inbox last (Some (unwrap_or f.recorded.peer_last last)) a)
    (finish_applies f.recorded.peer_last last i) (finish_skips f.recorded.peer_last last i) refl)

session_rows : (x : Around) (f : Facts) (m : Message) (c : Option ℕ) (inbox : List InboxRecord) → Agrees x.config.peer_flow c f inbox
    → AllRows (Leaves x.config.peer_flow c inbox (session m)) (rows_of x f (session m))
session_rows x f (negotiate id timestamp flow credentials) c inbox a =
    let i = session (negotiate id timestamp flow credentials) in
    all_within (Leaves x.config.peer_flow c inbox i) (awaits_client x f) _ (λ _. (
      λ _. refused x.config.peer_flow c inbox i _ refl refl refl a,
      λ _. (
        λ _. refused x.config.peer_flow c inbox i _ refl refl refl a,
        λ _. (
          λ _. refused x.config.peer_flow c inbox i _ refl refl refl a,
          λ _. (
            λ _. refused x.config.peer_flow c inbox i _ refl refl refl a,
            λ _. (
              λ _. unchanged x.config.peer_flow c inbox i x (λ e. e) acts.Negotiated (negotiation_response x.config.session timestamp (flow_code x.config.own_flow) [] ∷ []) f (as_negotiated f) refl a
                  (record { recorded = a.recorded; waits = a.waits; quiet = λ r. let q = a.quiet r in record { no_request = q.no_request; no_gap = q.no_gap; no_finish = q.no_finish }; stands = a.stands }) refl refl refl,
              λ _. tt,
            ),
          ),
        ),
      ),
    ))
session_rows x f (negotiation_response id timestamp flow credentials) c inbox a =
    let i = session (negotiation_response id timestamp flow credentials) in
    own_rows (Leaves x.config.peer_flow c inbox i) x f 2 id _ (λ e. refused x.config.peer_flow c inbox i _ refl refl refl a) (all_within (Leaves x.config.peer_flow c inbox i) (is_negotiating f.connection.phase) _ (λ n. (
      λ _. refused x.config.peer_flow c inbox i _ refl refl refl a,
      λ _. (λ _. shaking x.config.peer_flow c inbox i x f (λ e. e) refl a (not_negotiated f.connection.phase n), λ _. tt),
    )))
session_rows x f (negotiation_reject id timestamp code reason) c inbox a =
    let i = session (negotiation_reject id timestamp code reason) in
    own_rows (Leaves x.config.peer_flow c inbox i) x f 3 id _ (λ e. refused x.config.peer_flow c inbox i _ refl refl refl a) (all_within (Leaves x.config.peer_flow c inbox i) (is_negotiating f.connection.phase) _ (λ n. (
      λ _. shaking x.config.peer_flow c inbox i x f (λ e. e) refl a (not_negotiated f.connection.phase n),
      λ _. (λ _. refused x.config.peer_flow c inbox i _ refl refl refl a, λ _. tt),
    )))
session_rows x f (establish id timestamp keepalive next expected credentials) c inbox a = establish_all x f id timestamp keepalive next expected credentials c inbox a
session_rows x f (establishment_ack id timestamp keepalive next expected) c inbox a =
    let i = session (establishment_ack id timestamp keepalive next expected) in
    own_rows (Leaves x.config.peer_flow c inbox i) x f 5 id _ (λ e. refused x.config.peer_flow c inbox i _ refl refl refl a) (all_within (Leaves x.config.peer_flow c inbox i) (is_establishing f.connection.phase) _ (λ _.
    announced_rows (Leaves x.config.peer_flow c inbox i) x f 5 next (reached x keepalive expected) (refusing x.config.peer_flow c inbox i x f a)
    (λ none. reaching x f c inbox i keepalive next expected refl a none)))
session_rows x f (establishment_reject id timestamp code reason) c inbox a =
    let i = session (establishment_reject id timestamp code reason) in
    own_rows (Leaves x.config.peer_flow c inbox i) x f 6 id _ (λ e. refused x.config.peer_flow c inbox i _ refl refl refl a) (all_within (Leaves x.config.peer_flow c inbox i) (is_establishing f.connection.phase) _ (λ n. (
      λ _. unchanged x.config.peer_flow c inbox i x (λ e. e) acts.Nothing (opening_negotiate x ∷ []) f (in_phase f phases.Negotiating) refl a
          (still_shaking x.config.peer_flow c f (in_phase f phases.Negotiating) inbox a (not_established f.connection.phase n) refl refl refl refl refl) refl refl refl,
      λ _. (λ _. refused x.config.peer_flow c inbox i _ refl refl refl a, λ _. tt),
    )))
session_rows x f (sequence next) c inbox a =
    let i = session (sequence next) in
    let ended = requesting f (request_is.after_sequence f.connection.requester) in
    all_within (Leaves x.config.peer_flow c inbox i) (is_established f.connection.phase) _ (λ done. (
      λ _. bad x.config.peer_flow c inbox i x f (request_is.sequence_fault f.connection.requester) a,
      λ _. announced_rows (Leaves x.config.peer_flow c inbox i) x ended 7 (Some next) (sequence_follows x ended next) (refusing x.config.peer_flow c inbox i x ended (ended_agrees x.config.peer_flow c f inbox a))
          (λ none. sequence_all x.config.peer_flow x ended next c inbox (λ e. e) (ended_agrees x.config.peer_flow c f inbox a) (is_done f.connection.phase done) none),
    ))
session_rows x f unsequenced_heartbeat c inbox a = (λ _. unchanged x.config.peer_flow c inbox (session unsequenced_heartbeat) x (λ e. e) acts.Nothing [] f f refl a a refl refl refl, λ _. tt)
session_rows x f (retransmit_request id timestamp first count) c inbox a =
    let i = session (retransmit_request id timestamp first count) in
    all_within (Leaves x.config.peer_flow c inbox i) (is_established f.connection.phase) _ (λ _. (
      λ _. refused x.config.peer_flow c inbox i _ refl refl refl a,
      λ _. (λ _. answered x f i id timestamp _ c inbox refl a, λ _. tt),
    ))
session_rows x f (retransmission id next timestamp count) c inbox a =
    let i = session (retransmission id next timestamp count) in
    own_rows (Leaves x.config.peer_flow c inbox i) x f 10 id _ (λ e. refused x.config.peer_flow c inbox i _ refl refl refl a) (all_within (Leaves x.config.peer_flow c inbox i) (is_established f.connection.phase) _ (λ done. (
      λ _. bad x.config.peer_flow c inbox i x f (request_is.start_fault (request_is.outstanding f.connection.requester) next count) a,
      λ asked. (
        λ _. going x.config.peer_flow c inbox i x (λ e. e) acts.Nothing [] (restarted f next count) (restarted_grows x.config.peer_flow c inbox f next count a (is_done f.connection.phase done) asked) refl,
        λ _. tt,
      ),
    )))
session_rows x f (retransmit_reject id timestamp code reason) c inbox a =
    let i = session (retransmit_reject id timestamp code reason) in
    own_rows (Leaves x.config.peer_flow c inbox i) x f 11 id _ (λ e. refused x.config.peer_flow c inbox i _ refl refl refl a) (all_within (Leaves x.config.peer_flow c inbox i) (is_established f.connection.phase) _ (λ _.
    (λ _. refused x.config.peer_flow c inbox i _ refl refl refl a, λ _. tt)))
session_rows x f (applied_message first count) c inbox a = (λ _. unchanged x.config.peer_flow c inbox (session (applied_message first count)) x (λ e. e) acts.Nothing [] f f refl a a refl refl refl, λ _. tt)
session_rows x f (not_applied first count) c inbox a =
    let i = session (not_applied first count) in (
      λ _. unchanged x.config.peer_flow c inbox i x (λ e. e) (acts.Told first count) [] f f refl a a refl refl refl,
      λ _. (λ _. unchanged x.config.peer_flow c inbox i x (λ e. e) acts.Nothing [] f f refl a a refl refl refl, λ _. tt),
    )
session_rows x f (finished_sending id last) c inbox a =
    let i = session (finished_sending id last) in
    own_rows (Leaves x.config.peer_flow c inbox i) x f 14 id _ (λ e. refused x.config.peer_flow c inbox i _ refl refl refl a) (all_within (Leaves x.config.peer_flow c inbox i) (is_established f.connection.phase) _ (λ _. (
      λ _. refusing x.config.peer_flow c inbox i x f a (finish_fault x f last),
      λ _. (λ _. finishing x f i (finished_last x last) c inbox refl a, λ _. tt),
    )))
session_rows x f (finished_receiving id) c inbox a =
    let i = session (finished_receiving id) in
    own_rows (Leaves x.config.peer_flow c inbox i) x f 15 id _ (λ e. refused x.config.peer_flow c inbox i _ refl refl refl a) (all_within (Leaves x.config.peer_flow c inbox i) (is_established f.connection.phase) _ (λ _. (
      λ _. unchanged x.config.peer_flow c inbox i x (λ e. e) acts.Nothing [] f (own_finishing f own.Exchanged) refl a
          (record { recorded = a.recorded; waits = a.waits; quiet = λ r. let q = a.quiet r in record { no_request = q.no_request; no_gap = q.no_gap; no_finish = q.no_finish }; stands = a.stands }) refl refl refl,
      λ _. tt,
    )))
session_rows x f (terminate id code reason) c inbox a =
    let i = session (terminate id code reason) in
    let answer : Row = row true (ends x f 1 (endings.PeerTerminated code)) in
    let rest : AllRows (Leaves x.config.peer_flow c inbox i) (answer ∷ []) = (λ _. refused x.config.peer_flow c inbox i answer.outcome refl refl refl a, λ _. tt) in
    own_rows (Leaves x.config.peer_flow c inbox i) x f 16 id (answer ∷ []) (λ e. refused x.config.peer_flow c inbox i _ refl refl refl a) rest

each_row : (x : Around) (f : Facts) (i : Incoming) (c : Option ℕ) (inbox : List InboxRecord) → Agrees x.config.peer_flow c f inbox
    → AllRows (Leaves x.config.peer_flow c inbox i) (rows_of x f i)
each_row x f (application p) c inbox a = message_rows x f p c inbox a
each_row x f (session m) c inbox a = session_rows x f m c inbox a
each_row x f wrong_order c inbox a = (λ _. refused x.config.peer_flow c inbox wrong_order _ refl refl refl a, λ _. tt)
each_row x f too_short c inbox a = (λ _. refused x.config.peer_flow c inbox too_short _ refl refl refl a, λ _. tt)
each_row x f (unknown template) c inbox a = (λ _. refused x.config.peer_flow c inbox (unknown template) _ refl refl refl a, λ _. tt)

leaves : (x : Around) (f : Facts) (i : Incoming) (c : Option ℕ) (inbox : List InboxRecord) → Agrees x.config.peer_flow c f inbox
    → Leaves x.config.peer_flow c inbox i (reply_of x f i)
leaves x f i c inbox a =
    by_row (Leaves x.config.peer_flow c inbox i) (is_closing f.connection.phase && not (terminates x i)) (ignores f) (answer_of x f i)
    (λ _. refused x.config.peer_flow c inbox i (ignores f) refl refl refl a)
    (λ _. all_rows (Leaves x.config.peer_flow c inbox i) (not_in_phase x f (template_of i)) (rows_of x f i) (refused x.config.peer_flow c inbox i _ refl refl refl a) (each_row x f i c inbox a))

pub accepted_frame_grows : AcceptedFrameGrows
accepted_frame_grows x f i c inbox a t = (leaves x f i c inbox a).grows t

pub refused_frame_spares : RefusedFrameSpares
refused_frame_spares x f i c inbox a t = (leaves x f i c inbox a).spares t

pub frame_tells : FrameTells
frame_tells x f i c inbox a = (leaves x f i c inbox a).tells

-- a connection begins with nothing announced, and nothing asked for
pub begins_agreeing : BeginsAgreeing
begins_agreeing x recorded inbox flow e = by_role (is_initiator x.config.role) recorded.negotiated
  where
    fresh : (phase : Phase) → is_shaken phase ≡ false → Agrees flow None (connecting recorded phase) inbox
    fresh phase s = record {
      recorded = e;
      waits = λ _. e;
      quiet = λ _. record { no_request = refl; no_gap = refl; no_finish = refl };
      stands = λ _. ap (λ b. if b then Some (next_message flow (connecting recorded phase)) else None) (sym s);
    }

    by_role : (initiates negotiated : Bool) → Agrees flow None (begun_as x recorded initiates negotiated).next inbox
    by_role true true = fresh phases.Establishing refl
    by_role true false = fresh phases.Negotiating refl
    by_role false negotiated = fresh phases.Idle refl

abbrev turned : Around → Facts → List Range → Bool → Made
turned x f runs closing =
    if closing then record { written = applied_runs runs ++ terminate x.config.session 1 [] ∷ []; next = in_phase f phases.Closing }
    else record { written = applied_runs runs; next = f }

abbrev told_as_finished : Around → Facts → (last : ℕ) → Bool → Made
told_as_finished x f last told =
    if told
    then record { written = finished_sending x.config.session (if is_sequenced x.config.own_flow then Some last else None) ∷ []; next = own_finishing (outbox_finished f last) own.Told }
    else record { written = []; next = outbox_finished f last }

-- facts that differ in nothing that is agreed on but the phase, where the handshake stays as it was
pub alike : (flow : Flow) (c : Option ℕ) (f g : Facts) (inbox : List InboxRecord) → Agrees flow c f inbox → g.recorded.inbox_next ≡ f.recorded.inbox_next
    → g.connection.receiver ≡ f.connection.receiver → g.connection.requester ≡ f.connection.requester → g.connection.peer_finish ≡ f.connection.peer_finish
    → is_shaken g.connection.phase ≡ is_shaken f.connection.phase → Agrees flow c g inbox
alike flow c f g inbox a next receiver requester finish phase = record {
  recorded = next ∙ a.recorded;
  waits = λ r. ap (λ k. k.next) receiver ∙ a.waits r;
  quiet = λ r. let q = a.quiet r in record {
    no_request = requester ∙ q.no_request;
    no_gap = ap (λ k. k.live) receiver ∙ (q.no_gap ∙ sym (ap (λ k. k.next) receiver));
    no_finish = ap awaits_gap finish ∙ q.no_finish;
  };
  stands = λ t. a.stands t ∙ (ap (λ b. if b then Some (next_message flow f) else None) (sym phase) ∙ ap (λ n. if is_shaken g.connection.phase then Some n else None) (same_number (is_recoverable flow)));
}
  where
    same_number : (b : Bool) → (if b then receiver_is.number f.connection.receiver else f.recorded.inbox_next) ≡ (if b then receiver_is.number g.connection.receiver else g.recorded.inbox_next)
    same_number true = ap (λ k. receiver_is.number k) (sym receiver)
    same_number false = sym next

pub own_keeps_agreeing : OwnKeepsAgreeing
own_keeps_agreeing flow c f inbox (turn_end x runs) a = by_test (is_initiator x.config.role) (is_established f.connection.phase) refl (finishes_exchanged x f) (is_none f.connection.serving)
  where
    by_test : (b e : Bool) → is_established f.connection.phase ≡ e → (d n : Bool)
        → Agrees flow c (turned x f runs (b && e && d && n)).next inbox
    by_test true true e true true = alike flow c f (in_phase f phases.Closing) inbox a refl refl refl refl (sym (is_done f.connection.phase e))
    by_test true true e true false = a
    by_test true true e false n = a
    by_test true false e d n = a
    by_test false t e d n = a
own_keeps_agreeing flow c f inbox (outbox_finish x last) a = by_test (tells_finish x f last)
  where
    by_test : (b : Bool) → Agrees flow c (told_as_finished x f last b).next inbox
    by_test true = alike flow c f (own_finishing (outbox_finished f last) own.Told) inbox a refl refl refl refl refl
    by_test false = alike flow c f (outbox_finished f last) inbox a refl refl refl refl refl
own_keeps_agreeing flow c f inbox (live count) a = alike flow c f (counted_sent f count) inbox a refl refl refl refl refl
own_keeps_agreeing flow c f inbox (again rest) a = alike flow c f (serves f rest) inbox a refl refl refl refl refl
