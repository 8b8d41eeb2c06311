-- A book desk, and what a call makes of it (this project's profile).
use Rattle.std.specs.Prelude.{◌≡◌, ◌⊎◌, ℕ, ◌-◌, ◌==◌, ◌≤◌, if◌then◌else◌, Bool, true, List, [], length, drop, Option, None, Result, OnOk}
use Rattle.std.specs.List.{AllByRecursion}
use Rattle.atomic_table.specs.Seated.{TableId}
use Rattle.jr_dated.specs.declared.journal.Journal.{Ghosts}
use Rattle.jr_boxes.specs.declared.faults.SubmitFault.{SubmitFault}
use Rattle.gate_turn.specs.Views.{Part, new_part, nothing}
use Rattle.order_book.specs.Laws.{IsRested}
use Rattle.order_gate.specs.Reported.{Reported}
use Rattle.order_gate.specs.Desks.{known_of, counted_if, IsSeated, IsManned, IsReadyAt}
use Rattle.order_book_gate.specs.Plan.{answers, resting_behind, book_plan}
use Rattle.order_book_gate.specs.declared.book_desk.BookDesk.{BookDesk}

module _ {J : Type 0} {G : Ghosts J} where
  -- how many passes it has
  abbrev pub count_of : BookDesk J G → ℕ
  count_of b = 1

  -- what the pass of a number knows: it has one, of the number 1
  abbrev pub part_of : BookDesk J G → ℕ → Part
  part_of b n = if n == 1 then known_of b.desk else new_part 0 0 nothing

  abbrev pub plan_of : BookDesk J G → ℕ → List (List ℕ) → List (List ℕ)
  plan_of b = book_plan b.form.version

  -- how many entries its pass made, where they are counted
  abbrev pub own_of : BookDesk J G → ℕ → Option ℕ
  own_of b n = counted_if b.counted b.desk.made

  abbrev pub is_met : BookDesk J G → Bool
  is_met b = b.met

  -- it has its pass, and once they are counted, the count of its entries; where the mark was met, the pass has seen it; and what rests may be
  -- reported
  pub record HasPass (lock : TableId) (b : BookDesk J G) : Type 0 where
    pub seated : IsSeated lock b.desk
    pub number : b.desk.number ≡ 1
    pub made : b.counted ≡ true → IsManned lock b.desk
    pub met : b.met ≡ true → (known_of b.desk).seen.finished ≡ true
    pub rested : AllByRecursion IsRested b.book

  -- its pass is lent
  pub record LacksPass (b : BookDesk J G) : Type 0 where
    pub none : b.desk.pass ≡ None
    pub number : b.desk.number ≡ 1
    pub rested : AllByRecursion IsRested b.book

  -- it can answer, at a gate of so many senders
  pub record IsAble (lock : TableId) (senders : ℕ) (b : BookDesk J G) : Type 0 where
    pub ready : IsReadyAt lock senders b.desk
    pub number : b.desk.number ≡ 1
    pub rested : AllByRecursion IsRested b.book

  -- what the outbox has of its plan over these messages is sent, what it has beyond is owed, and what rests behind them rests
  pub record StandsAt (b : BookDesk J G) (applied : List (List ℕ)) : Type 0 where
    pub resting : b.book ≡ resting_behind b.form.plan [] applied
    pub least : length (answers b.form.plan [] applied) ≤ b.desk.made
    pub owed : b.desk.owed ≡ b.desk.made - length (answers b.form.plan [] applied)

  -- its entries are counted, and it stands behind these messages, or has met the mark, behind which nothing is sent
  pub record StandsBehind (b : BookDesk J G) (applied : List (List ℕ)) : Type 0 where
    pub counted : b.counted ≡ true
    pub there : (b.met ≡ true) ⊎ StandsAt b applied

  -- the same but for its book and what its pass sent
  pub record SameBut (b c : BookDesk J G) : Type 0 where
    pub form : c.form ≡ b.form
    pub counted : c.counted ≡ b.counted
    pub met : c.met ≡ b.met

  -- It took these messages as orders, one after another, and sent what is reported of them, behind the reports that it owed no more; at Ok all of
  -- them, and then their orders are in the book. b is before, c behind
  pub record Took (lock : TableId) (senders : ℕ) (messages : List (List ℕ)) (b c : BookDesk J G) (result : Result (Unit {0}) SubmitFault) : Type 0 where
    pub able : IsAble lock senders c
    pub same : SameBut b c
    pub reported : Reported (known_of b.desk) (known_of c.desk) (drop b.desk.owed (answers b.form.plan b.book messages)) result
    pub owed : OnOk result (c.desk.owed ≡ b.desk.owed - length (answers b.form.plan b.book messages))
    pub resting : OnOk result (c.book ≡ resting_behind b.form.plan b.book messages)
