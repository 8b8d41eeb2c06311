-- What an order book is to send, as a plan over the applied messages (this project's profile): each message is taken as an order, or as what is
-- none, and the payloads of the book's reports on them are sent, in their order.
use Rattle.std.specs.Prelude.{ℕ, ◌==◌, if◌then◌else◌, List, [], map}
use Rattle.sbe_layout.specs.declared.plan.Plan.{Plan}
use Rattle.order_desk.specs.Schema.{order_plan}
use Rattle.order_desk.specs.Orders.{order_in}
use Rattle.order_desk.specs.Reports.{report_bytes}
use Rattle.order_book.specs.declared.entries.BookOrder.{BookOrder}
use Rattle.order_book.specs.Book.{reports_behind, book_behind}

-- the payloads of what is reported of some messages, where these orders rest before them
abbrev pub answers : Plan → List BookOrder → List (List ℕ) → List (List ℕ)
answers plan resting messages = map (report_bytes plan) (reports_behind resting (map (order_in plan) messages))

-- and the orders that rest behind them
abbrev pub resting_behind : Plan → List BookOrder → List (List ℕ) → List BookOrder
resting_behind plan resting messages = book_behind resting (map (order_in plan) messages)

-- the plan of a book of a version: sender 1 sends what is reported of the applied messages, from an empty book on; another sends nothing
abbrev pub book_plan : ℕ → ℕ → List (List ℕ) → List (List ℕ)
book_plan version n applied = if n == 1 then answers (order_plan version) [] applied else []
