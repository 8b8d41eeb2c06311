-- Who answers the orders of the peer in a session, and what each is to send (this project's profile).
use Rattle.std.specs.Prelude.{◌≡◌, ℕ, ◌<◌, ◌≤◌, if◌then◌else◌, List, pos}
use Rattle.cmd_config.specs.declared.configuration.Trade.{Trade}
use Rattle.order_desk.specs.Schema.{IsVersion}
use Rattle.order_desk.specs.Plans.{desk_plan}
use Rattle.order_book_gate.specs.Plan.{book_plan}
use Rattle.life_laws.specs.Plans.{Senders}
use Rattle.life_laws.specs.Answered.{answering}
use Rattle.cmd_session.specs.declared.answering.Answerer.{Answerer}
use Rattle.cmd_session.specs.declared.answering.Answerer.TheVariants.{Desks, Book}

-- what the desks of a session, or its book, are to send, by their numbers, over the applied messages
abbrev pub answers_of : Trade → ℕ → List (List ℕ) → List (List ℕ)
answers_of trade = if trade.book then book_plan trade.order_version else desk_plan trade.desks trade.order_version (pos trade.reference)

-- as senders: their mark waits for the peer's finish
abbrev pub answerers : Trade → Senders
answerers trade = answering (answers_of trade) trade.desks

-- how many of those who answer send
abbrev pub desks_of : Answerer → ℕ
desks_of (Desks terms) = terms.desks
desks_of (Book version) = 1

-- and what each of them is to send, by its number
abbrev pub plan_of : Answerer → ℕ → List (List ℕ) → List (List ℕ)
plan_of (Desks terms) = desk_plan terms.desks terms.version terms.reference
plan_of (Book version) = book_plan version

-- the version of the order schema that they speak
abbrev pub version_of : Answerer → ℕ
version_of (Desks terms) = terms.version
version_of (Book version) = version

-- they may answer: some, 16 at most, of a version that there is
pub record MayAnswer (a : Answerer) : Type 0 where
  pub some : 0 < desks_of a
  pub few : desks_of a ≤ 16
  pub version : IsVersion (version_of a)

-- they are those of a configuration that has desks
pub record AreOf (trade : Trade) (a : Answerer) : Type 0 where
  pub desks : desks_of a ≡ trade.desks
  pub plan : plan_of a ≡ answers_of trade
  pub able : MayAnswer a
