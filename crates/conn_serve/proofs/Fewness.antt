-- A turn tells at most 512 news: each frame that it takes tells once, or is held and tells nothing, and at most 256 messages are held.
use Rattle.std.proofs.Common.{◌≡◌, ℕ, ◌+◌, ◌-◌, ◌≤◌, ◌==◌, ◌&&◌, not, nat_lt, zero, suc, Bool, true, false, if◌then◌else◌, List, [], ◌∷◌, ◌++◌, length, Option, Some, None, refl, sym, ap, subst, ◌∙◌, arith, length-append}
use Rattle.std.specs.Prelude.{IfSome, is_some, replicate, take, drop}
use Rattle.std.specs.List.{AllByRecursion}
use Rattle.std.proofs.lemmas.List.{length-map, length-take}
use Rattle.session_model.specs.Journal.{History}
use Rattle.session_model.specs.Inbox.{Numbered, Ascending, numbers_of}
use Rattle.flow_recover.specs.declared.numbers.Seen.{Seen}
use Rattle.flow_recover.specs.declared.numbers.Seen.TheVariants.{Deliver, Hold, Gap, Repeat}
use Rattle.flow_recover.specs.Receiving as receiver_is
use Rattle.flow_retrans.specs.declared.requester.BadStart.{BadStart}
use Rattle.flow_retrans.specs.Requests as request_is
use Rattle.flow_window.specs.Window.{front, holding}
use Rattle.flow_window.proofs.Staying.{past_in_reach}
use Rattle.fixp_shake.specs.declared.config.EndConfig.{EndConfig}
use Rattle.fixp_shake.specs.declared.violation.Violation.{Violation}
use Rattle.fixp_shake.specs.Phases.{is_established, is_closing}
use Rattle.fixp_replies.specs.declared.act.Act.{Act}
use Rattle.fixp_replies.specs.declared.act.Act.TheVariants as acts
use Rattle.fixp_replies.specs.declared.act.Ending.{Ending}
use Rattle.fixp_replies.specs.declared.facts.Facts.{Facts}
use Rattle.fixp_replies.specs.Acts.{is_record}
use Rattle.fixp_replies.specs.Events.{heartbeats, lateness}
use Rattle.fixp_replies.specs.Facts.{Around}
use Rattle.fixp_replies.specs.Incoming.{Incoming, application, session, wrong_order, too_short, unknown, payload_in}
use Rattle.fixp_replies.specs.Outcomes.{Outcome, ignores, breaks, not_in_phase}
use Rattle.fixp_replies.specs.Flowing.{bad_retransmission, counted, taken_as}
use Rattle.fixp_replies.specs.Replies.{rows_of, answer_of, terminates, reply_of}
use Rattle.fixp_machine.specs.Machine.{State, frames_reserved, around, did, held_done, step, run, front_of, held_until, held_with, after_frame, reply_applied, held_applied, broken_by, ticked, wrote, bytes_of, Windowed}
use Rattle.fixp_machine.proofs.Rows.{AllRows, by_row, all_rows, all_within}
use Rattle.fixp_machine.proofs.Holding.{holds_messages}
use Rattle.conn_turns.specs.declared.news.NewsItem.TheVariants as items
use Rattle.conn_turns.specs.News.{told_by}
use Rattle.conn_turns.specs.Lines.{Line, TakenFrame, IsTaken, AreTaken, reply_at, act_calls, ready_in, ready_behind, line_after, lines_after}
use Rattle.conn_turns.specs.Frames.{tells, told, delivers}
use Rattle.conn_turns.specs.Refusals.{IsRefused}
use Rattle.conn_turns.specs.Turns.{Turn, Refusal, of_act, of_held, only_sends, works, link_lost, cut_short, not_begun}
use Rattle.conn_turns.specs.Exact.{line_ticked}
use Rattle.conn_turns.proofs.Taking.{run_append}
use Rattle.conn_turns.specs.Refusals.{told_of}
use Rattle.turn_laws.specs.Turns.{line_received, IsTurn, tells_in}
use Rattle.turn_laws.proofs.Draining.{awaited_in, fewer, helds_ready}

-- ---- a message that is held is not told of

abbrev Silent : Outcome → Type 0
Silent o = IfSome o.holds (λ (_ : ℕ). o.act ≡ acts.Nothing)

bad_silent : (x : Around) (f : Facts) (b : Option BadStart) → Silent (bad_retransmission x f b)
bad_silent x f None = tt
bad_silent x f (Some b) = tt

taken_silent : (x : Around) (f : Facts) (s : Seen) → Silent (taken_as x f s)
taken_silent x f (Deliver n) = tt
taken_silent x f (Hold n) = refl
taken_silent x f (Gap n) = tt
taken_silent x f (Repeat n) = tt

silent_rows : (x : Around) (f : Facts) (p : List ℕ) → AllRows Silent (rows_of x f (application p))
silent_rows x f p = all_within Silent (is_established f.connection.phase) _ (λ est. (
  λ _. tt,
  λ _. (
    λ _. tt,
    λ _. (
      λ _. tt,
      λ _. (
        λ _. tt,
        λ _. (
          λ _. bad_silent x f (request_is.message_fault f.connection.requester),
          λ _. (
            λ _. taken_silent x (counted f) (receiver_is.seen f.connection.receiver),
            λ _. tt,
          ),
        ),
      ),
    ),
  ),
))

message_silent : (x : Around) (f : Facts) (p : List ℕ) → Silent (reply_of x f (application p))
message_silent x f p =
    by_row Silent (is_closing f.connection.phase && not (terminates x (application p))) (ignores f) (answer_of x f (application p))
    (λ _. tt)
    (λ _. all_rows Silent (not_in_phase x f 0) (rows_of x f (application p)) tt (silent_rows x f p))

nothing_held : (o : Outcome) (n : ℕ) → o.holds ≡ Some n → Silent o → o.act ≡ acts.Nothing
nothing_held o n e silent = subst (λ (h : Option ℕ). IfSome h (λ (_ : ℕ). o.act ≡ acts.Nothing)) e silent

holds_nothing : (x : Around) (f : Facts) (i : Incoming) (n : ℕ) → (reply_of x f i).holds ≡ Some n → (reply_of x f i).act ≡ acts.Nothing
holds_nothing x f (application p) n e = nothing_held (reply_of x f (application p)) n e (message_silent x f p)
holds_nothing x f (session m) n e = absurd (holds_messages x f (session m) n e)
holds_nothing x f wrong_order n e = absurd (holds_messages x f wrong_order n e)
holds_nothing x f too_short n e = absurd (holds_messages x f too_short n e)
holds_nothing x f (unknown template) n e = absurd (holds_messages x f (unknown template) n e)

-- ---- an act tells at most once, and a frame that is told of is not held

act_few : (a : Act) (i : Incoming) → length (told_by a i) ≤ 1
act_few acts.Nothing i = omega arith
act_few (acts.Apply number) i = omega arith
act_few (acts.Skip from count) i = omega arith
act_few acts.Negotiated i = omega arith
act_few (acts.PeerFinished last) i = omega arith
act_few (acts.Told from count) i = omega arith
act_few acts.Ended i = omega arith

until_few : (e : Option Ending) (ms : List Numbered) → length (held_until e ms) ≤ length ms
until_few None ms = omega arith
until_few (Some e) ms = omega arith

either_few : (b : Bool) (xs ys : List Numbered) (k : ℕ) → length xs ≤ k → length ys ≤ k → length (if b then xs else ys) ≤ k
either_few true xs ys k first later = first
either_few false xs ys k first later = later

holding_few : (n : ℕ) (p : List ℕ) (ms : List Numbered) → length (holding n p ms) ≤ length ms + 1
holding_few n p [] = omega arith
holding_few n p (m ∷ ms) =
    either_few (m.number == n) (m ∷ ms) (if nat_lt n m.number then record { number = n; payload = p } ∷ m ∷ ms else m ∷ holding n p ms) (length (m ∷ ms) + 1) (omega arith)
    (either_few (nat_lt n m.number) (record { number = n; payload = p } ∷ m ∷ ms) (m ∷ holding n p ms) (length (m ∷ ms) + 1) (omega arith) (let rest = holding_few n p ms in omega (arith, rest)))

act_counts : (s : State) (i : Incoming) (o : Outcome) (now : ℕ) (recorded : Bool) → recorded ≡ is_record o.act → ((n : ℕ) → o.holds ≡ Some n → o.act ≡ acts.Nothing)
    → length (told_by o.act i) + length (run (after_frame s i o now) (if recorded then did now ∷ [] else [])).held ≤ length s.held + 1
act_counts s i o now recorded is silent = subst (λ (b : Bool). length (told_by o.act i) + length (run (by_act b) (if recorded then did now ∷ [] else [])).held ≤ length s.held + 1) is (by_kind recorded)
  where
    by_act : Bool → State
    by_act b =
        if b
        then record s { moment = now; last_received = now; room = s.room - 1; pending = Some o }
        else reply_applied (record s { moment = now; last_received = now; room = s.room - 1; held = held_with o.holds (payload_in i) s.held }) o now

    by_number : (h : Option ℕ) → o.holds ≡ h → length (told_by o.act i) + length (held_until o.ending (held_with h (payload_in i) s.held)) ≤ length s.held + 1
    by_number None e = omega (arith, act_few o.act i, until_few o.ending s.held)
    by_number (Some n) e =
        omega (arith, ap (λ (a : Act). length (told_by a i)) (silent n e), until_few o.ending (holding n (payload_in i) s.held), holding_few n (payload_in i) s.held)

    by_kind : (b : Bool) → length (told_by o.act i) + length (run (by_act b) (if b then did now ∷ [] else [])).held ≤ length s.held + 1
    by_kind true = omega (arith, act_few o.act i, until_few o.ending s.held)
    by_kind false = by_number o.holds refl

-- ---- each held message that is applied is held no more

front_held : (next : ℕ) (ms : List Numbered) (m : Numbered) → front next ms ≡ Some m → length (drop 1 ms) + 1 ≤ length ms
front_held next [] m e = cc
front_held next (x ∷ ms) m e = omega arith

one_less : (s : State) (m : Numbered) → front_of s ≡ Some m → length (step s held_done).held + 1 ≤ length s.held
one_less s m e = subst (λ (o : Option Numbered). length (held_applied s o).held + 1 ≤ length s.held) (sym e) (front_held s.facts.recorded.inbox_next s.held m e)

helds_less : (s : State) (k : ℕ) → k ≤ length (ready_in s) → length (run s (replicate k held_done)).held + k ≤ length s.held
helds_less s zero all = omega arith
helds_less s (suc k) some =
    let a = awaited_in s k some in
    omega (arith, helds_less (step s held_done) k (fewer s k a some), one_less s a.first a.front_is)

-- ---- what is told, with what is held behind it

delivers_many : (ms : List Numbered) → length (delivers ms) ≡ length ms
delivers_many ms = length-map ms (λ (m : Numbered). items.Delivered m.number m.payload)

act_told : (now : ℕ) (l : Line) (t : TakenFrame) → t.recorded ≡ is_record (reply_at now l t).act
    → length (told_by (reply_at now l t).act t.incoming) + length (run l.machine (act_calls now t)).held ≤ length l.machine.held + 1
act_told now l t recorded = act_counts l.machine t.incoming (reply_at now l t) now t.recorded recorded (holds_nothing (around l.machine t.at now) l.machine.facts t.incoming)

frame_few : (now : ℕ) (l : Line) (t : TakenFrame) → IsTaken now l t → length (tells now l t) + length (line_after now l t).machine.held ≤ length l.machine.held + 1
unfolding tells line_after
frame_few now l t is =
    let s : State = run l.machine (act_calls now t) in
    omega (
      arith,
      act_told now l t is.recorded,
      helds_less s t.helds (omega (arith, is.helds)),
      is.helds,
      ap (λ (x : State). length x.held) (run_append l.machine (act_calls now t) (replicate t.helds held_done)),
      length-append (told_by (reply_at now l t).act t.incoming) (delivers (ready_behind now l t)),
      delivers_many (ready_behind now l t),
    )

pub told_few : (now : ℕ) (l : Line) (frames : List TakenFrame) → AreTaken now l frames → length (told now l frames) + length (lines_after now l frames).machine.held ≤ length l.machine.held + length frames
told_few now l [] taken = omega arith
told_few now l (t ∷ later) taken =
    omega (arith, frame_few now l t taken.0, told_few now (line_after now l t) later taken.1, length-append (tells now l t) (told now (line_after now l t) later))

-- before one that was refused stood fewer than are held
refused_few : (now : ℕ) (l : Line) (r : Option Refusal) → IfSome r (IsRefused now l) → length (told_of now l r) ≤ length l.machine.held
refused_few now l None is = omega arith
refused_few now l (Some (of_act t)) is = omega arith
refused_few now l (Some (of_held t m)) is =
    let s : State = run l.machine (act_calls now t) in
    let awaits : front_of (run s (replicate t.helds held_done)) ≡ Some m = ap (λ (x : State). front_of x) (sym (run_append l.machine (act_calls now t) (replicate t.helds held_done))) ∙ is.awaits in
    omega (
      arith,
      act_told now l t is.recorded,
      helds_less s t.helds (helds_ready now l t m is),
      front_held (run s (replicate t.helds held_done)).facts.recorded.inbox_next (run s (replicate t.helds held_done)).held m awaits,
      length-append (told_by (reply_at now l t).act t.incoming) (delivers (take t.helds (ready_behind now l t))),
      delivers_many (take t.helds (ready_behind now l t)),
      length-take t.helds (ready_behind now l t),
    )

-- ---- at most 256 are held

rising_few : (low high : ℕ) (ns : List ℕ) → Ascending low ns → AllByRecursion (λ (n : ℕ). n ≤ high) ns → low ≤ high + 1 → length ns + low ≤ high + 1
rising_few low high [] rising near within = omega (arith, within)
rising_few low high (n ∷ ns) rising near within = omega (arith, rising.0, rising_few (n + 1) high ns rising.1 near.1 (omega (arith, near.0)))

pub held_few : (cfg : EndConfig) (top : ℕ) (f : Facts) (ending : Option Ending) (held : List Numbered) → Windowed cfg top f ending held → front f.recorded.inbox_next held ≡ None → length held ≤ 256
held_few cfg top f ending held w none =
    let next : ℕ = f.recorded.inbox_next in
    omega (arith, rising_few (next + 1) (next + 256) (numbers_of held) (past_in_reach next held w.reach none).rising w.reach.near (omega arith), length-map held (λ (m : Numbered). m.number))

-- a tick leaves no more
broken_few : (s : State) (v : Option Violation) (now : ℕ) → length (broken_by s v now).held ≤ length s.held
broken_few s None now = omega arith
broken_few s (Some v) now = until_few (breaks (around s 0 now) s.facts v).ending s.held

picked_few : (b : Bool) (x y : State) (k : ℕ) → length x.held ≤ k → length y.held ≤ k → length (if b then x else y).held ≤ k
picked_few true x y k first later = first
picked_few false x y k first later = later

tick_few : (s : State) (now : ℕ) → length (ticked s now).held ≤ length s.held
tick_few s now =
    let at : State = record s { moment = now } in
    let beaten : State = wrote at (bytes_of (heartbeats (around s 0 now) s.facts s.last_sent s.unsent)) now in
    let late : Option Violation = lateness (around s 0 now) s.facts s.start s.last_received in
    picked_few (is_some s.ending) at (broken_by beaten late now) (length s.held) (omega arith) (broken_few beaten late now)

pub ticked_few : (l : Line) (now : ℕ) → length (line_ticked l now).machine.held ≤ length l.machine.held
ticked_few l now = tick_few (record l.machine { room = frames_reserved }) now

-- ---- so of a turn

pub turn_few : (before after : History) (old new : Line) (t : Turn) → IsTurn before after old new t → old.per_turn ≤ 256 → length old.machine.held ≤ 256 → length (tells_in old t) ≤ 512
turn_few before after old new (only_sends now sent lost) is number held = omega arith
turn_few before after old new (works w) is number held =
    omega (arith, told_few w.now (line_received old w.now w.received w.got) w.frames is.served.frames, is.served.few, number, ticked_few old w.now, held)
turn_few before after old new (link_lost now) is number held = omega arith
turn_few before after old new (cut_short now received frames refused) is number held = absurd is
turn_few before after old new not_begun is number held = absurd is

-- and of one that was cut short
pub cut_few : (now : ℕ) (l : Line) (frames : List TakenFrame) (refusal : Option Refusal) → AreTaken now l frames → IfSome refusal (IsRefused now (lines_after now l frames)) → length frames ≤ 256
    → length l.machine.held ≤ 256 → length (told now l frames ++ told_of now (lines_after now l frames) refusal) ≤ 512
cut_few now l frames refusal taken is few held =
    omega (
      arith,
      told_few now l frames taken,
      refused_few now (lines_after now l frames) refusal is,
      few,
      held,
      length-append (told now l frames) (told_of now (lines_after now l frames) refusal),
    )
