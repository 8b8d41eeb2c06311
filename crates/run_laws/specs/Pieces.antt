-- What the laws over several runs are made of: journals tell their boxes, configurations fit the machine, and each inbox that a stop may leave
-- of a life awaits a number that the next one may take.
use Rattle.std.specs.Prelude.{◌≡◌, ℕ, ◌+◌, ◌≤◌, List, map, length, Ok}
use Rattle.session_model.specs.Journal.{OutboxRecord}
use Rattle.session_model.specs.Inbox.{InboxRecord, next_number}
use Rattle.session_model.specs.Lives.{IsImage}
use Rattle.fixp_msgs.specs.declared.flow.Flow.{Flow}
use Rattle.fixp_shake.specs.declared.config.Role.{Role}
use Rattle.turn_laws.specs.LoopLives.{LoopLife, MayTurn}
use Rattle.jr_boxes.specs.Outboxes.{record_of}
use Rattle.jr_boxes.specs.Inboxes.{records_of_inbox}
use Rattle.cmd_config.specs.declared.configuration.Link.{Link}
use Rattle.cmd_config.specs.declared.configuration.Configuration.{Configuration}
use Rattle.life_laws.specs.Lives.{served_of}
use Rattle.cmd_session.specs.Inputs.{configuration_at}

-- records are those of one list of either box, and where they are an image of records of lists, that list is one of those
pub record BoxesTell : Type 0 where
  pub outbox : (xs ys : List OutboxRecord) → map record_of xs ≡ map record_of ys → xs ≡ ys
  pub inbox : (xs ys : List InboxRecord) → records_of_inbox xs ≡ records_of_inbox ys → xs ≡ ys
  pub outbox_image : (closing refused image : List OutboxRecord) → IsImage (map record_of closing) (map record_of refused) (map record_of image)
      → IsImage closing refused image
  pub inbox_image : (closing refused image : List InboxRecord) → IsImage (records_of_inbox closing) (records_of_inbox refused) (records_of_inbox image)
      → IsImage closing refused image

-- the session has 16 bytes, and the interval and the credentials fit the machine
pub record LinkFits (l : Link) : Type 0 where
  pub session : length l.session ≡ 16
  pub interval : 100 ≤ l.keepalive
  pub keepalive : l.keepalive ≤ 60000
  pub credentials : length l.credentials ≤ 2048

-- so it is of each configuration that a text spells
abbrev pub ConfigurationsFit : Type 0
ConfigurationsFit = (role : Role) (text : List ℕ) (c : Configuration) → configuration_at role text ≡ Ok c → LinkFits c.link

-- a life that may turn leaves no inbox that awaits a number past the greatest that it takes and one more
abbrev pub ImagesWithin : Type 0
ImagesWithin = (own peer : Flow) (l : LoopLife) → MayTurn own peer l
    → (image : List InboxRecord) → IsImage (served_of l).closing_inbox (served_of l).refused_inbox image → next_number image ≤ l.state.most + 1
