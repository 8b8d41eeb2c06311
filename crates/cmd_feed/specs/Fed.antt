-- A life that was fed, over the boxes of a session, and the status that it ends with (this project's profile).
use Rattle.std.specs.Prelude.{◌≡◌, ◌⊎◌, ℕ, true, List, Option, Some, None, IfSome, Result, Err}
use Rattle.gw_outside.specs.Faults.{HasRisen}
use Rattle.session_model.specs.Journal.{History}
use Rattle.fixp_shake.specs.declared.config.EndConfig.{EndConfig}
use Rattle.jr_dated.specs.declared.journal.Journal.{Ghosts}
use Rattle.jr_kept.specs.declared.inbox.Inbox.{Inbox}
use Rattle.jr_kept.specs.declared.outbox.Outbox.{Outbox}
use Rattle.plan_text.specs.Plans.{Gift}
use Rattle.conn_door.specs.declared.answer.ServeFault.{ServeFault}
use Rattle.conn_door.specs.declared.answer.ServeFault.TheVariants as faults
use Rattle.conn_door.specs.declared.answer.LifeEnd.{LifeEnd}
use Rattle.conn_door.specs.Answers.{answer_of, IsOfSender, IsUnrefused}
use Rattle.conn_feed.specs.declared.end.FeedEnd.{FeedEnd}
use Rattle.conn_feed.specs.declared.end.FeedEnd.TheVariants as ends
use Rattle.life_laws.specs.Plans.{submitting}
use Rattle.fed_laws.specs.Answers.{fed_refusal}
use Rattle.fed_laws.specs.Given.{GiveThese, fed_plans}
use Rattle.fed_laws.specs.Told.{WasFed, is_done, MarksDone}
use Rattle.cmd_base.specs.declared.status.Status.{Status}
use Rattle.cmd_base.specs.declared.status.Status.TheVariants.{InputFault, OutputFault}
use Rattle.cmd_session.specs.Lived.{status_of, HasLived}
use Rattle.cmd_session.specs.declared.outside.OverBoxes.{OverBoxes}
use Rattle.cmd_session.specs.Outsides.{Hears}

-- what a feeding that ended so is to its life, where neither INPUT nor ACCEPTED failed: a refusal of a sender, or that of the mark, or none
abbrev pub refusal_of : FeedEnd → Option ServeFault → Option ServeFault
refusal_of ends.Ended mark = mark
refusal_of ends.Closed mark = mark
refusal_of ends.Stopped mark = mark
refusal_of ends.Input mark = mark
refusal_of ends.Accepted mark = mark
refusal_of ends.Journal mark = Some faults.Journal
refusal_of (ends.Full entries bytes) mark = Some (faults.Full entries bytes)
refusal_of ends.Memory mark = Some faults.Memory

-- The status of a life whose connections ended so, whose feeding ended so, and whose mark was refused so, if it was. Where INPUT or ACCEPTED ended the
-- feeding, the status is that; else it is that of any life whose senders were refused so
abbrev pub status_of_feeding : Result LifeEnd ServeFault → FeedEnd → Option ServeFault → Status
status_of_feeding connections ends.Ended mark = status_of (answer_of connections (refusal_of ends.Ended mark))
status_of_feeding connections ends.Closed mark = status_of (answer_of connections (refusal_of ends.Closed mark))
status_of_feeding connections ends.Stopped mark = status_of (answer_of connections (refusal_of ends.Stopped mark))
status_of_feeding connections ends.Input mark = InputFault
status_of_feeding connections ends.Accepted mark = OutputFault
status_of_feeding connections ends.Journal mark = status_of (answer_of connections (refusal_of ends.Journal mark))
status_of_feeding connections (ends.Full entries bytes) mark = status_of (answer_of connections (refusal_of (ends.Full entries bytes) mark))
status_of_feeding connections ends.Memory mark = status_of (answer_of connections (refusal_of ends.Memory mark))

-- the faults that blame a journal: a failed call of its disk, a record that it gave otherwise than it was written, and a limit
abbrev pub BlamesJournals : ServeFault → Type 0
BlamesJournals faults.Journal = Unit {0}
BlamesJournals (faults.Changed which at) = Unit {0}
BlamesJournals (faults.Full entries bytes) = Unit {0}
BlamesJournals _ = ⊥

-- What the status of a life that was fed says of it. Where it blames a journal, the life answers so to the laws on senders, which have the cause; and where
-- it is one with which nothing was refused, it is that of the connections alone
pub record StatusSays (connections : Result LifeEnd ServeFault) (result : Result (Unit {0}) ServeFault) (status : Status) : Type 0 where
  pub journals : (fault : ServeFault) → BlamesJournals fault → status ≡ status_of (Err fault) → result ≡ Err fault
  pub alone : (answer : Result (Unit {0}) ServeFault) → IsUnrefused answer → status ≡ status_of answer → answer_of connections None ≡ answer

-- what INPUT has left, and what ACCEPTED has taken, where they tell it
pub record Streams : Type 0 where
  pub left : Option (List ℕ)
  pub taken : Option (List ℕ)

abbrev pub streams : (left taken : Option (List ℕ)) → Streams
streams left taken = record { left = left; taken = taken }

module _ {K N C J O : Type 0} {G : Ghosts J} {H : Ghosts O} where
  -- It lived over the boxes, fed beside its connections: as an end whose senders submit what the outbox had of them, and behind it what the lines gave that
  -- were answered. Behind the opening history each sender's entries are exactly those that were accepted, and ACCEPTED took what came of the lines; the mark
  -- stands, or may, only where those who send said that they are done, and was refused only there. To the laws on senders it answers as these have it, and
  -- its status is that of the connections and of the feeding
  pub record HasLivedFed (hears : Hears K N C) (config : EndConfig) (senders : ℕ) (before after : OverBoxes K N C (Outbox O H) (Inbox J G))
      (old new : Streams) (status : Status) : Type 0 where
    pub opening : History
    pub gifts : List Gift
    pub answer : Status
    pub lived : HasLived hears config (submitting (fed_plans senders opening.made gifts)) before after answer
    pub opened : lived.boxes.opening ≡ opening
    pub end : FeedEnd
    pub mark : Option ServeFault
    pub refusal : lived.boxes.refused ≡ fed_refusal end mark
    pub fed : WasFed senders opening.made lived.boxes.closing.made old.left new.left old.taken new.taken end
    pub give : GiveThese senders fed.first gifts
    pub status_is : status ≡ status_of_feeding lived.boxes.connections end mark
    pub marks : MarksDone (is_done end) opening lived.boxes.closing lived.boxes.lost
    pub marking : IfSome mark (λ fault. (is_done end ≡ true) × IsOfSender fault)
    pub says : StatusSays lived.boxes.connections lived.result status
