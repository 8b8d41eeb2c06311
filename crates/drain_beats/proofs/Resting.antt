-- What two ends have to do at most where nothing is under way.
use Rattle.std.proofs.Common.{◌≡◌, ℕ, ◌+◌, ◌*◌, ◌-◌, ◌≤◌, max, Bool, true, false, List, [], length, Option, Some, None, refl, sym, ap, subst, ◌∙◌, arith, true≢false}
use Rattle.std.specs.Prelude.{IfSome}
use Rattle.session_model.specs.Journal.{Entry}
use Rattle.fixp_msgs.specs.declared.flow.Flow.{Flow}
use Rattle.fixp_msgs.specs.declared.flow.Flow.TheVariants as flows
use Rattle.fixp_msgs.specs.declared.numbering.Range.{Range}
use Rattle.flow_retrans.specs.declared.request.Request.{Request}
use Rattle.flow_retrans.specs.declared.request.Request.TheVariants as requests
use Rattle.fixp_shake.specs.declared.config.EndConfig.{EndConfig}
use Rattle.fixp_shake.specs.declared.phase.Phase.{Phase}
use Rattle.fixp_shake.specs.Flows.{is_recoverable, is_idempotent}
use Rattle.fixp_shake.specs.Phases.{is_closing, is_shaken}
use Rattle.fixp_replies.specs.declared.act.Ending.{Ending}
use Rattle.fixp_replies.specs.declared.facts.OwnFinish.{OwnFinish}
use Rattle.fixp_replies.specs.declared.facts.OwnFinish.TheVariants as own
use Rattle.fixp_replies.specs.declared.facts.PeerFinish.{PeerFinish}
use Rattle.fixp_replies.specs.declared.facts.PeerFinish.TheVariants as peer
use Rattle.fixp_replies.specs.Facts.{is_initiator}
use Rattle.fixp_machine.specs.Machine.{State}
use Rattle.connection_laws.specs.Writing.{Piece}
use Rattle.honest_ends.specs.Worlds.{World, world_after}
use Rattle.honest_ends.specs.Numbers.{served, to_come}
use Rattle.honest_ends.specs.Numbered.{Expects, Follows}
use Rattle.honest_ends.proofs.Serving.{by_bool}
use Rattle.honest_ends.proofs.Numbering.{Counted, counted_at_first, counted_after, numbered_of}
use Rattle.drain_laws.specs.Counts.{read_of, told_of, unanswered_of}
use Rattle.drain_laws.specs.Frames.{Fills}
use Rattle.drain_laws.specs.Calls.{weights_out}
use Rattle.drain_laws.specs.Loads.{unsent, sent_load, served_load, told_load, own_load, end_of, open_load, asked, lost_load, read_load, peer_load, closing_load, close_load}
use Rattle.drain_ends.specs.Standing.{Exact, Standing}
use Rattle.drain_ends.proofs.Stood.{standing_holds, acceptor_phase}
use Rattle.drain_steps.specs.Ranges.{InRange, Ranged}
use Rattle.drain_steps.proofs.Ranging.{ranged_holds}
use Rattle.drain_beats.specs.Quiet.{QuietWithin}

-- a finish that waits for a gap was told
finish_most : (o : OwnFinish) (p : PeerFinish) → (0 + read_of p) + 0 ≡ told_of o → told_load o + read_load p ≤ 16
finish_most own.Open peer.Open e = omega arith
finish_most own.Open (peer.Read last) e = absurd (omega (arith, e))
finish_most own.Open (peer.Exchanged last) e = omega arith
finish_most own.Told peer.Open e = omega arith
finish_most own.Told (peer.Read last) e = omega arith
finish_most own.Told (peer.Exchanged last) e = omega arith
finish_most own.Exchanged peer.Open e = omega arith
finish_most own.Exchanged (peer.Read last) e = omega arith
finish_most own.Exchanged (peer.Exchanged last) e = omega arith

-- what is still to be sent again was asked for, and counts as lost no more
asks_most : (q : Request) (s : Option Range) (next m sent : ℕ) → 1 ≤ next → sent ≤ m → to_come q ≡ served s → 0 + 0 ≡ unanswered_of q → Fills next q
    → IfSome s (λ r. (1 ≤ r.count) × (r.from + r.count ≤ sent + 1) × (1 ≤ r.from)) → served_load s + (21 * ((m + 1) - max next (end_of q)) + open_load q) ≤ 21 * m + 12
asks_most requests.Nothing None next m sent one few same none fills range = omega (arith, one)
asks_most requests.Nothing (Some r) next m sent one few same none fills range = absurd (cc same)
asks_most (requests.Asked asked) s next m sent one few same none fills range = absurd (omega (arith, none))
asks_most (requests.Coming asked number left) None next m sent one few same none fills range = absurd (cc same)
asks_most (requests.Coming asked number left) (Some r) next m sent one few same none fills range =
    let count : left ≡ r.count = cc same in
    let ends = fills.0 in
    let some = range.0 in
    let within = range.1 in
    by_numbers r.count left number asked.from asked.count r.from next m sent count ends some within few
  where
    by_numbers : (c l n f k g next m sent : ℕ) → l ≡ c → n + l ≡ f + k → 1 ≤ c → g + c ≤ sent + 1 → sent ≤ m → 9 * c + (21 * ((m + 1) - max next (f + k)) + 3) ≤ 21 * m + 12
    by_numbers c l n f k g next m sent e h i j o = omega arith

not_both : (f : Flow) → is_recoverable f ≡ true → is_idempotent f ≡ false
not_both flows.None e = refl
not_both flows.Unsequenced e = refl
not_both flows.Recoverable e = refl
not_both flows.Idempotent e = absurd (true≢false (sym e))

unsent_most : (shaken : Bool) (m sent : ℕ) → unsent shaken m sent ≤ m
unsent_most true m sent = omega arith
unsent_most false m sent = omega arith

sent_most : (idempotent : Bool) (k m : ℕ) → k ≤ m → sent_load idempotent k ≤ 12 * m
sent_most true k m few = omega (arith, few)
sent_most false k m few = omega (arith, few)

sent_eight : (idempotent : Bool) (k m : ℕ) → idempotent ≡ false → k ≤ m → sent_load idempotent k ≤ 8 * m
sent_eight true k m e few = absurd (true≢false e)
sent_eight false k m e few = omega (arith, few)

lost_all : (recoverable : Bool) (n k : ℕ) → recoverable ≡ true → lost_load recoverable n k ≡ 21 * ((n + 1) - k)
lost_all true n k e = refl
lost_all false n k e = absurd (true≢false (sym e))

lost_none : (recoverable : Bool) (n k : ℕ) → recoverable ≡ false → lost_load recoverable n k ≡ 0
lost_none true n k e = absurd (true≢false e)
lost_none false n k e = refl

-- what is left of one flow, of m entries
flow_most : (h : List Entry) (writer reader : State) → Exact writer reader [] [] → Follows h writer reader [] [] → reader.ending ≡ None → is_closing reader.facts.connection.phase ≡ false
    → reader.config.peer_flow ≡ writer.config.own_flow → InRange writer.facts → own_load writer.config (length h) writer.facts + peer_load reader.config (length h) reader.facts ≤ 29 * length h + 28
flow_most h writer reader e f none yet same range =
    by_bool _ (is_recoverable reader.config.peer_flow)
    (λ rec. let a = sent_eight (is_idempotent writer.config.own_flow) unsent_now (length h) (ap (λ (k : Flow). is_idempotent k) (sym same) ∙ not_both reader.config.peer_flow rec) unsent_few in
    let b = asks_most reader.facts.connection.requester writer.facts.connection.serving reader.facts.connection.receiver.next (length h) writer.facts.recorded.sent (one rec) f.sent x.runs.1 e.request e.fills range in
    let c = lost_all (is_recoverable reader.config.peer_flow) (length h) (asked reader.facts) rec in
    recoverable (sent_load (is_idempotent writer.config.own_flow) unsent_now) (served_load writer.facts.connection.serving) (told_load writer.facts.connection.own_finish)
    (lost_load (is_recoverable reader.config.peer_flow) (length h) (asked reader.facts)) (open_load reader.facts.connection.requester) (read_load reader.facts.connection.peer_finish) (21 * ((length h + 1) - asked reader.facts)) (length h) a b c finish)
    (λ other. let a = sent_most (is_idempotent writer.config.own_flow) unsent_now (length h) unsent_few in
    let none_asked = (x.idle other).none in
    let b = nothing_served writer.facts.connection.serving (sym x.runs.1 ∙ ap (λ (q : Request). to_come q) none_asked) in
    let c = lost_none (is_recoverable reader.config.peer_flow) (length h) (asked reader.facts) other in
    let d = ap (λ (q : Request). open_load q) none_asked in
    without (sent_load (is_idempotent writer.config.own_flow) unsent_now) (served_load writer.facts.connection.serving) (told_load writer.facts.connection.own_finish)
    (lost_load (is_recoverable reader.config.peer_flow) (length h) (asked reader.facts)) (open_load reader.facts.connection.requester) (read_load reader.facts.connection.peer_finish) (length h) a b c d finish)
  where
    x : Expects writer reader [] []
    x = f.expects none yet

    unsent_now : ℕ
    unsent_now = unsent (is_shaken writer.facts.connection.phase) (length h) writer.facts.recorded.sent

    unsent_few : unsent_now ≤ length h
    unsent_few = unsent_most (is_shaken writer.facts.connection.phase) (length h) writer.facts.recorded.sent

    one : is_recoverable reader.config.peer_flow ≡ true → 1 ≤ reader.facts.connection.receiver.next
    one rec = let a = f.one rec in let b = (x.line rec).waits in omega (arith, a, b)

    finish : told_load writer.facts.connection.own_finish + read_load reader.facts.connection.peer_finish ≤ 16
    finish = finish_most writer.facts.connection.own_finish reader.facts.connection.peer_finish e.finish

    nothing_served : (s : Option Range) → served s ≡ None → served_load s ≡ 0
    nothing_served None e = refl
    nothing_served (Some r) e = absurd (cc e)

    recoverable : (s v t l o r k m : ℕ) → s ≤ 8 * m → v + (k + o) ≤ 21 * m + 12 → l ≡ k → t + r ≤ 16 → (s + (v + t)) + (l + (o + r)) ≤ 29 * m + 28
    recoverable s v t l o r k m a b c d = omega arith

    without : (s v t l o r m : ℕ) → s ≤ 12 * m → v ≡ 0 → l ≡ 0 → o ≡ 0 → t + r ≤ 16 → (s + (v + t)) + (l + (o + r)) ≤ 29 * m + 28
    without s v t l o r m a b c d e = omega arith

close_most : (c : EndConfig) (p : Phase) (ending : Option Ending) → close_load c p ending ≤ 12
close_most c p None = by_case (is_initiator c.role) (is_closing p)
  where
    by_case : (i k : Bool) → closing_load i k ≤ 12
    by_case true true = omega arith
    by_case true false = omega arith
    by_case false k = omega arith
close_most c p (Some e) = omega arith

close_four : (c : EndConfig) (p : Phase) (ending : Option Ending) → is_initiator c.role ≡ false → close_load c p ending ≤ 4
close_four c p None other = by_case (is_initiator c.role) (is_closing p) other
  where
    by_case : (i k : Bool) → i ≡ false → closing_load i k ≤ 4
    by_case true k e = absurd (true≢false e)
    by_case false k e = omega arith
close_four c p (Some e) other = omega arith

pub quiet_within : QuietWithin
quiet_within hi ha w steps known may go quiet =
    let a = flow_most hi i c outward follows_out go.acceptor yet_a n.holds.matches.outward ranges.initiator in
    let b = flow_most ha c i homeward follows_home go.initiator go.yet n.holds.matches.homeward ranges.acceptor in
    let d = close_most i.config i.facts.connection.phase i.ending in
    let e = close_four c.config c.facts.connection.phase c.ending (ap (λ r. is_initiator r) n.holds.matches.accepts) in
    let f = ap length quiet.told_i in
    let g = ap length quiet.told_a in
    let h = ap (λ (ps : List Piece). weights_out i.config ps) quiet.outward in
    let k = ap (λ (ps : List Piece). weights_out c.config ps) quiet.homeward in
    by_numbers (own_load i.config (length hi) i.facts) (peer_load i.config (length ha) i.facts) (close_load i.config i.facts.connection.phase i.ending) (length i.untold) (own_load c.config (length ha) c.facts) (peer_load c.config (length hi) c.facts)
    (close_load c.config c.facts.connection.phase c.ending) (length c.untold) (weights_out i.config now.outward) (weights_out c.config now.homeward) (length hi) (length ha) a b d e f g h k
  where
    now : World
    now = world_after w steps

    i : State
    i = now.initiator

    c : State
    c = now.acceptor

    n : Counted hi ha now
    n = counted_after hi ha w steps (counted_at_first hi ha w known) may

    st : Standing now
    st = standing_holds hi ha w steps known may go

    ranges : Ranged now
    ranges = ranged_holds hi ha w steps known may

    yet_a : is_closing c.facts.connection.phase ≡ false
    yet_a = (acceptor_phase i.config c.config i.facts i.ending c.facts now.outward now.homeward n.holds.shaking).1

    outward : Exact i c [] []
    outward = subst (λ (ps : List Piece). Exact i c ps []) quiet.outward (subst (λ (ps : List Piece). Exact i c now.outward ps) quiet.homeward st.outward)

    homeward : Exact c i [] []
    homeward = subst (λ (ps : List Piece). Exact c i ps []) quiet.homeward (subst (λ (ps : List Piece). Exact c i now.homeward ps) quiet.outward st.homeward)

    follows_out : Follows hi i c [] []
    follows_out = subst (λ (ps : List Piece). Follows hi i c ps []) quiet.outward (subst (λ (ps : List Piece). Follows hi i c now.outward ps) quiet.homeward (numbered_of hi ha now n).outward)

    follows_home : Follows ha c i [] []
    follows_home = subst (λ (ps : List Piece). Follows ha c i ps []) quiet.homeward (subst (λ (ps : List Piece). Follows ha c i now.homeward ps) quiet.outward (numbered_of hi ha now n).homeward)

    by_numbers : (oi pi ci ui oa pa ca ua wo wh m n : ℕ) → oi + pa ≤ 29 * m + 28 → oa + pi ≤ 29 * n + 28 → ci ≤ 12 → ca ≤ 4 → ui ≡ 0 → ua ≡ 0 → wo ≡ 0 → wh ≡ 0
        → ((oi + pi + ci) + 4 * ui) + ((oa + pa + ca) + 4 * ua) + (wo + wh) ≤ 29 * (m + n) + 77
    by_numbers oi pi ci ui oa pa ca ua wo wh m n a b d e f g h k = omega arith
