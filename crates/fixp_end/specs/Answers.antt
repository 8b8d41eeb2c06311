-- What the session machine's code answers to a frame, in the terms of the machine's definitions.
use Rattle.std.specs.Prelude.{◌≡◌, ℕ, List}
use Rattle.sbe_prim.specs.declared.Order.{Order}
use Rattle.fixp_replies.specs.declared.act.Act.{Act}
use Rattle.fixp_replies.specs.Incoming.{Incoming, IsIncoming}
use Rattle.fixp_replies.specs.Replies.{reply_of}
use Rattle.fixp_machine.specs.Machine.{State, around, after_frame}

-- the end answers a frame by the reply table: by the row of the one message that the frame is
pub record AnswersFrame (old new : State) (order : Order) (message : List ℕ) (at now : ℕ) (act : Act) : Type 0 where
  pub incoming : Incoming
  pub is : IsIncoming order message incoming
  pub replies : act ≡ (reply_of (around old at now) old.facts incoming).act
  pub after : new ≡ after_frame old incoming (reply_of (around old at now) old.facts incoming) now
