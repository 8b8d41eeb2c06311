-- What a turn did, and what it leaves (this project's profile).
use Rattle.std.specs.Prelude.{◌≡◌, ◌⊎◌, ℕ, ◌+◌, ◌<◌, ◌≤◌, ◌||◌, Bool, false, List, [], ◌∷◌, ◌++◌, length, Option, None, IsSome, IfSome, ◌^◌, true, Result, Ok}
use mathlib.Core.List.{IsPrefix}
use Rattle.sofh_frame.specs.Framing.{IsBytes}
use Rattle.gw_outside.specs.Faults.{HasRisen}
use Rattle.gw_links.specs.declared.link.Got.{Got}
use Rattle.gw_links.specs.Links.{Moved}
use Rattle.session_model.specs.Inbox.{InboxRecord}
use Rattle.session_model.specs.Journal.{History}
use Rattle.fixp_machine.specs.Machine.{State, link_end, run}
use Rattle.jr_dated.specs.declared.journal.Journal.{Ghosts}
use Rattle.jr_kept.specs.declared.inbox.Inbox.{Inbox}
use Rattle.jr_kept.specs.Inbox.{limits_of}
use Rattle.conn_turns.specs.declared.news.NewsItem.{NewsItem}
use Rattle.conn_turns.specs.declared.answer.TurnEnd.{TurnEnd}
use Rattle.conn_turns.specs.declared.answer.TurnFault.{TurnFault}
use Rattle.conn_turns.specs.declared.answer.TurnFault.TheVariants as faults
use Rattle.conn_turns.specs.Lines.{Line, TakenFrame, AreTaken, lines_after}
use Rattle.conn_turns.specs.Frames.{added, told}
use Rattle.conn_turns.specs.Turns.{Work, Refusal, works, IsFaithful, first_calls, is_end}
use Rattle.conn_turns.specs.Refusals.{IsRefused, IsTried, IsOfRecord, stood_of, told_of, wanted_of}
use Rattle.conn_turns.specs.Exact.{Served, Received, receives, line_ticked, line_sent, most_held}
use Rattle.conn_steps.specs.Ends.{TakingEnd}
use Rattle.conn_steps.specs.Settling.{IsPast, Gains, Refuses}
use Rattle.conn_steps.specs.Taking.{OfInbox, refused_by}
use Rattle.gate_turn.specs.Views.{Part}
use Rattle.conn_steps.specs.Agreeing.{Agrees}
use Rattle.conn_loop.specs.Conn.{HasSeen, answer_of}
use Rattle.conn_loop.specs.Live.{EndAt}
use Rattle.conn_loop.specs.Moving.{ReceivedOnce, SentOnce, IsLossOf, link_at}

-- the line with these bytes received behind those held, and whether its link has given its end
abbrev pub received_on : Line → List ℕ → (over : Bool) → Line
received_on l received over = record l { held = l.held ++ received; over = over }

-- the line as the frames of a turn's work are taken of it: behind its receive
abbrev pub received_by : Line → Work → Line
received_by l w = received_on l w.received (l.over || is_end w.got)

module _ {J : Type 0} {G : Ghosts J} where
  -- frames were served, and the inbox and the news gained what is theirs; what was sent of an outbox whose disk tells its content is what
  -- was seen of it
  pub record ServedFrames (tells : Type 0) (now : ℕ) (seen seen' : History) (old new : TakingEnd J G) : Type 0 where
    pub work : Work
    pub faithful : tells → IsFaithful (works work)
    pub at : work.now ≡ now
    pub served : Served seen seen' old.line new.line work
    pub gains : Gains old.box new.box (added now old.line work.frames)
    pub news_are : new.news ≡ old.news ++ told now old.line work.frames

  -- A turn was cut short behind frames whose records are all stable: by the first record that is not, of the act of the next frame or of a held
  -- message behind that act, or by the outbox. The inbox gained what is theirs and what stood before that record, and was told of; behind these a
  -- stop may leave all that a failed call of its disk tried with it, or nothing. At Full it is a record which the journal has no room for; it is
  -- one anyhow, unless memory ran out; and where something was refused the fault is not the link's nor the outbox's
  pub record CutShort (now : ℕ) (l : Line) (box box' : Inbox J G) (news news' : List NewsItem) (fault : TurnFault) : Type 0 where
    pub frames : List TakenFrame
    pub few : length frames ≤ l.per_turn
    pub taken : AreTaken now l frames
    pub refusal : Option Refusal
    pub is : IfSome refusal (IsRefused now (lines_after now l frames))
    pub tried : List InboxRecord
    pub is_tried : IsTried now l frames refusal tried
    pub refuses : Refuses box box' (added now l frames ++ stood_of now (lines_after now l frames) refusal) (refused_by fault tried)
    pub past : (entries bytes : ℕ) → fault ≡ faults.Full entries bytes
        → IsPast (limits_of box').bytes bytes (wanted_of now (lines_after now l frames) refusal)
    pub recorded : IfSome refusal (λ r. (fault ≡ faults.Memory → ⊥) → IsOfRecord now (lines_after now l frames) r)
    pub of_inbox : IfSome refusal (λ r. OfInbox fault)
    pub news_are : news' ≡ news ++ (told now l frames ++ told_of now (lines_after now l frames) refusal)

  -- behind its tick a turn received, its frames were served, and what was to be sent was sent; what was sent of an outbox whose disk tells
  -- its content is what was seen of it. Where its link failed as it sent, the link's count of faults rose, and it answers as that says: the fault,
  -- where nothing had ended the connection before; and else how the connection then stands
  pub record DidWork (tells : Type 0) (losses losses' : ℕ) (now : ℕ) (eager : Bool) (old new : EndAt J G) (result : Result TurnEnd TurnFault) : Type 0 where
    pub work : Work
    pub faithful : tells → IsFaithful (works work)
    pub at : work.now ≡ now
    pub bytes : IsBytes work.received
    pub received : (room : ℕ) → room + length old.line.held ≡ most_held → Received eager old.told room work.received work.got
    pub behind : Line
    pub served : Served old.seen new.seen (received_by old.line work) behind work
    pub front : IsPrefix work.sent behind.machine.unsent
    pub whole : work.lost ≡ false → behind.machine.unsent ≡ work.sent ++ new.line.machine.unsent
    pub full : work.lost ≡ false → 0 < length new.line.machine.unsent → IfSome new.told (λ t. t.room ≡ 0)
    pub answer : work.lost ≡ true → IsLossOf behind.machine new.line.machine result
    pub cause : work.lost ≡ true → HasRisen losses losses'
    pub kept : work.lost ≡ false → result ≡ Ok (answer_of new.line.machine.ending)
    pub line : new.line ≡ line_sent behind work.sent work.lost
    pub gains : Gains old.box new.box (added now (received_by old.line work) work.frames)
    pub news_are : new.news ≡ old.news ++ told now (received_by old.line work) work.frames
    pub moved : Moved old.told new.told old.carried new.carried work.received work.sent

  -- the link of a turn failed as it received, and its count of faults rose: the turn answers the fault, unless both finishes were exchanged
  pub record LostLink (losses losses' : ℕ) (old new : EndAt J G) (result : Result TurnEnd TurnFault) : Type 0 where
    pub line : new.line ≡ record old.line { machine = run old.line.machine (link_end ∷ []) }
    pub answer : IsLossOf old.line.machine new.line.machine result
    pub cause : HasRisen losses losses'
    pub moved : Moved old.told new.told old.carried new.carried [] []
    pub same_box : new.box ≡ old.box
    pub same_news : new.news ≡ old.news
    pub same_seen : new.seen ≡ old.seen

  -- behind its tick a turn did its work, or its link failed as it received
  abbrev pub Exchanged : (tells : Type 0) (losses losses' : ℕ) (now : ℕ) (eager : Bool) (old new : EndAt J G) (result : Result TurnEnd TurnFault) → Type 0
  Exchanged tells losses losses' now eager old new result = DidWork tells losses losses' now eager old new result ⊎ LostLink losses losses' old new result

  -- behind its tick a turn received once, and then it was cut short behind frames; it sent nothing
  pub record CutWork (now : ℕ) (eager : Bool) (old new : EndAt J G) (fault : TurnFault) : Type 0 where
    pub got : Option Got
    pub line : Line
    pub receives : ReceivedOnce eager old.told new.told old.carried new.carried old.line line got
    pub cut : CutShort now line old.box new.box old.news new.news fault

  -- A turn only sent: more was unsent at its start than an end receives beside, or its tick ended the connection. The inbox, the pass and the news are as
  -- they were, and it answers as what it sent says
  pub record OnlySent (losses losses' : ℕ) (now : ℕ) (old new : EndAt J G) (result : Result TurnEnd TurnFault) : Type 0 where
    pub why : (receives old.line ≡ false) ⊎ IsSome (run old.line.machine (first_calls now)).ending
    pub sent : SentOnce (link_at losses old.told old.carried) (link_at losses' new.told new.carried) (line_ticked old.line now) new.line result
    pub same_box : new.box ≡ old.box
    pub same_news : new.news ≡ old.news
    pub same_seen : new.seen ≡ old.seen

  -- no more was unsent than an end receives beside, and its tick left the connection open: it did more
  pub record DidMore (tells : Type 0) (losses losses' : ℕ) (now : ℕ) (eager : Bool) (old new : EndAt J G) (result : Result TurnEnd TurnFault) : Type 0 where
    pub little : receives old.line ≡ true
    pub unended : (run old.line.machine (first_calls now)).ending ≡ None
    pub exchanged : Exchanged tells losses losses' now eager (record old { line = line_ticked old.line now }) new result

  -- what a turn did that was not cut short, over a link that counted so many faults before and behind it: it only sent, or it did more
  abbrev pub DidTurn : (tells : Type 0) (losses losses' : ℕ) (now : ℕ) (eager : Bool) (old new : EndAt J G) (result : Result TurnEnd TurnFault) → Type 0
  DidTurn tells losses losses' now eager old new result = OnlySent losses losses' now old new result ⊎ DidMore tells losses losses' now eager old new result

  -- a turn had no memory to begin, and all is as it was
  abbrev pub NotBegun : (old new : EndAt J G) → TurnFault → Type 0
  NotBegun old new fault = (fault ≡ faults.Memory) × (new ≡ old)

  -- a turn was cut short in its work: no more was unsent than an end receives beside, and its tick left the connection open
  pub record CutMore (now : ℕ) (eager : Bool) (old new : EndAt J G) (fault : TurnFault) : Type 0 where
    pub little : receives old.line ≡ true
    pub unended : (run old.line.machine (first_calls now)).ending ≡ None
    pub work : CutWork now eager (record old { line = line_ticked old.line now }) new fault

  -- what a turn did that was cut short: it had not begun, or its work was cut short
  abbrev pub CutTurn : (now : ℕ) (eager : Bool) (old new : EndAt J G) → TurnFault → Type 0
  CutTurn now eager old new fault = NotBegun old new fault ⊎ CutMore now eager old new fault

  -- what a turn that did not give the connection up leaves, also where the connection has ended: the next one may begin, and the
  -- inbox and the pass go on to agree with the machine
  pub record Leaves (m : State) (p : Part) (box : Inbox J G) : Type 0 where
    pub begun : m.begun ≡ true
    pub time : m.moment < 2 ^ 44
    pub sent : m.facts.recorded.sent < 2 ^ 40
    pub credentials : length m.config.credentials ≤ 2048
    pub seen : HasSeen m p
    pub agrees : Agrees m box
