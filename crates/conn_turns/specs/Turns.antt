-- What a turn of a connection did, and the calls of the session machine that it made (this project's profile).
use Rattle.std.specs.Prelude.{◌≡◌, ⊤, ℕ, ◌+◌, ◌-◌, ◌&&◌, Bool, true, false, not, is_some, is_none, if◌then◌else◌, List, [], ◌∷◌, ◌++◌, length, take, drop, min, Option, Some, None}
use Rattle.std.specs.List.{flat_map}
use Rattle.session_model.specs.Journal.{History, payloads}
use Rattle.session_model.specs.Inbox.{Numbered}
use Rattle.fixp_msgs.specs.declared.numbering.Range.{Range}
use Rattle.fixp_shake.specs.Flows.{is_absent}
use Rattle.fixp_shake.specs.Phases.{is_established}
use Rattle.gw_links.specs.declared.link.Got.{Got}
use Rattle.gw_links.specs.declared.link.Got.TheVariants as gots
use Rattle.fixp_machine.specs.Machine.{State, Call, bad_frame, tick, turn_done, closed, link_end, live, again, taken, reserve}
use Rattle.fixp_machine.specs.Machine as calls
use Rattle.conn_turns.specs.Lines.{TakenFrame, frame_calls}

-- What a turn did that did not only send. now: its moment in milliseconds. got: what its one receive found, None where the framer
-- had no room; received: the bytes of it. frames: those that it took; broken: the machine was told of bytes that no frame begins
-- with, at this place. link_over: the machine was told that the link has ended. due_again, due_live: the payloads that were to be
-- sent again and live, of the outbox as it was seen; again, live: those that were sent, as they were read of it. at_again, at_live,
-- at_finish: what the connection's pass had seen of the outbox at each of its three looks, the one before where it did not look.
-- finish: the finish of the outbox, as told to the machine. sent: the bytes that the link took; lost: the link failed as it sent
pub record Work : Type 0 where
  pub now : ℕ
  pub got : Option Got
  pub received : List ℕ
  pub frames : List TakenFrame
  pub broken : Option ℕ
  pub link_over : Bool
  pub due_again : Option (List (List ℕ))
  pub due_live : Option (List (List ℕ))
  pub again : Option (List (List ℕ))
  pub live : Option (List (List ℕ))
  pub at_again : History
  pub at_live : History
  pub at_finish : History
  pub finish : Option ℕ
  pub sent : List ℕ
  pub lost : Bool

-- what the inbox refused: the act of a frame; or, behind the act of a frame and as many held messages as are counted with it, the next
-- one that was held
pub data Refusal : Type 0 where
  of_act : TakenFrame → Refusal
  of_held : TakenFrame → Numbered → Refusal

-- What a turn did: it only sent, where more output was unsent at its start than an end receives beside, or its tick ended the connection; it worked; its link
-- failed as it received; it was cut short, by a journal or by memory, behind these frames, and behind them by what was refused, if
-- something was; or it had no memory to begin
pub data Turn : Type 0 where
  only_sends : (now : ℕ) (sent : List ℕ) (lost : Bool) → Turn
  works : Work → Turn
  link_lost : (now : ℕ) → Turn
  cut_short : (now : ℕ) (received : List ℕ) (frames : List TakenFrame) (refused : Option Refusal) → Turn
  not_begun : Turn

-- what a turn sent of the outbox is what it had seen of it: each entry was read as it had been written
abbrev pub IsFaithful : Turn → Type 0
IsFaithful (only_sends now sent lost) = ⊤
IsFaithful (works w) = (w.again ≡ w.due_again) × (w.live ≡ w.due_live)
IsFaithful (link_lost now) = ⊤
IsFaithful (cut_short now received frames refused) = ⊤
IsFaithful not_begun = ⊤

-- calls under a condition
abbrev pub calls_if : Bool → List Call → List Call
calls_if condition cs = if condition then cs else []

abbrev pub call_for : {A : Type 0} → (A → Call) → Option A → List Call
call_for call None = []
call_for call (Some a) = call a ∷ []

-- the calls of the machine before the frames, of the frames, behind them, and of the outbox
abbrev pub first_calls : ℕ → List Call
first_calls now = reserve ∷ tick now ∷ []

abbrev pub calls_of_frames : ℕ → List TakenFrame → List Call
calls_of_frames now = flat_map (frame_calls now)

abbrev pub bad_calls : ℕ → Option ℕ → List Call
bad_calls now broken = call_for (λ at. bad_frame at now) broken

abbrev pub end_calls : Bool → List Call
end_calls over = calls_if over (link_end ∷ [])

abbrev pub closing_calls : Work → List Call
closing_calls w = bad_calls w.now w.broken ++ (end_calls w.link_over ++ turn_done w.now ∷ [])

abbrev pub again_calls : ℕ → Option (List (List ℕ)) → List Call
again_calls now sent = call_for (λ payloads. again payloads now) sent

abbrev pub live_calls : ℕ → Option (List (List ℕ)) → List Call
live_calls now sent = call_for (λ payloads. live payloads now) sent

abbrev pub finish_calls : ℕ → Option ℕ → List Call
finish_calls now finish = call_for (λ last. closed last now) finish

abbrev pub outbox_calls : Work → List Call
outbox_calls w = again_calls w.now w.again ++ (live_calls w.now w.live ++ finish_calls w.now w.finish)

-- a link that fails as it sends does not say how much it took
abbrev pub sending_calls : List ℕ → Bool → List Call
sending_calls sent lost = if lost then link_end ∷ [] else taken (length sent) ∷ []

-- the machine was told of a frame whose act was refused alone, and of one behind which a held message was, of its act, and of those that
-- were applied
abbrev pub refused_calls : ℕ → Refusal → List Call
refused_calls now (of_act t) = calls.frame t.incoming t.at now ∷ []
refused_calls now (of_held t m) = frame_calls now t

-- the calls of the machine that a turn made, in order
abbrev pub calls_of : Turn → List Call
calls_of (only_sends now sent lost) = first_calls now ++ sending_calls sent lost
calls_of (works w) = first_calls w.now ++ (calls_of_frames w.now w.frames ++ (closing_calls w ++ (outbox_calls w ++ sending_calls w.sent w.lost)))
calls_of (link_lost now) = first_calls now ++ link_end ∷ []
calls_of (cut_short now received frames None) = first_calls now ++ calls_of_frames now frames
calls_of (cut_short now received frames (Some r)) = first_calls now ++ (calls_of_frames now frames ++ refused_calls now r)
calls_of not_begun = []

-- a receive told that no byte will come
abbrev pub is_end : Option Got → Bool
is_end None = false
is_end (Some (gots.Bytes n)) = false
is_end (Some gots.Quiet) = false
is_end (Some gots.End) = true

-- the payloads of a history from a number on, at most so many
abbrev pub payloads_from : History → ℕ → ℕ → List (List ℕ)
payloads_from h from most = payloads (take most (drop (from - 1) h.made))

-- what is sent again where this is served: the front of its range of the outbox, so many at most, as it was seen then
abbrev pub served_of : (most : ℕ) → Option Range → History → Option (List (List ℕ))
served_of most None h = None
served_of most (Some r) h = Some (payloads_from h r.from (min most r.count))

-- nothing is sent live beside what was sent again
abbrev pub live_beside : Option (List (List ℕ)) → Option (List (List ℕ)) → Option (List (List ℕ))
live_beside None due = due
live_beside (Some sent) due = None

-- entries are sent live: in phase Established, where the connection is open, nothing is served, and there is an own flow
abbrev pub sends_live : State → Bool
sends_live m = is_none m.ending && is_established m.facts.connection.phase && is_none m.facts.connection.serving && not (is_absent m.config.own_flow)

-- the payloads that are sent live, where entries are: those behind the last that was sent, of the outbox as it was seen then, so many at most
abbrev pub live_of : (most : ℕ) → State → History → Option (List (List ℕ))
live_of most m h = if sends_live m then Some (payloads_from h (m.facts.recorded.sent + 1) most) else None

-- the finish of the outbox is told: the number of its entries, where there is an own flow and the mark was seen
abbrev pub finish_of : State → History → Option ℕ
finish_of m h = if not (is_absent m.config.own_flow) && h.finished then Some (length h.made) else None

-- the end of an open connection is served where it is open
abbrev pub served_now : State → Option Range
served_now m = if is_some m.ending then None else m.facts.connection.serving
