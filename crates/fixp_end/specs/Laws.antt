-- The laws of the session machine.
use Rattle.std.specs.Prelude.{◌≡◌, List, ℕ}
use Rattle.sbe_prim.specs.declared.Order.{Order}
use Rattle.fixp_replies.specs.Incoming.{Incoming, IsIncoming}

-- the message of a frame is classified in one way
abbrev pub ClassifiedOnce : Type 0
ClassifiedOnce = (order : Order) (message : List ℕ) (a b : Incoming) → IsIncoming order message a → IsIncoming order message b → a ≡ b
