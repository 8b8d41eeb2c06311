-- What a book desk takes, put together from parts.
use Rattle.std.proofs.Common.{◌≡◌, ℕ, ◌+◌, ◌-◌, ◌<◌, List, [], ◌∷◌, ◌++◌, length, map, take, drop, slice_index_or, Option, Result, Ok, Err, OnOk, refl, sym, ap, subst, ◌∙◌, append-nil}
use Rattle.sbe_layout.specs.declared.plan.Plan.{Plan}
use Rattle.std.proofs.lemmas.List.{take_more}
use Rattle.atomic_table.specs.Seated.{TableId}
use Rattle.jr_dated.specs.declared.journal.Journal.{Ghosts}
use Rattle.jr_boxes.specs.declared.faults.SubmitFault.{SubmitFault}
use Rattle.jr_boxes.specs.declared.faults.SubmitFault.TheVariants as submit
use Rattle.std.specs.Prelude.{IfOk}
use Rattle.std.specs.List.{AllByRecursion}
use Rattle.std.specs.Result.{result_ok}
use Rattle.order_desk.specs.declared.order.Order.{Order}
use Rattle.order_desk.specs.declared.order.OrderFault.{OrderFault}
use Rattle.order_desk.specs.Orders.{order_in, answer_of}
use Rattle.order_desk.proofs.Ranged.{read_back}
use Rattle.order_desk.specs.Reports.{report_bytes}
use Rattle.order_book.specs.declared.entries.BookOrder.{BookOrder}
use Rattle.order_book.specs.Laws.{IsRested}
use Rattle.order_book.specs.Book.{reports_of}
use Rattle.order_gate.specs.declared.desk.Desk.{Desk}
use Rattle.order_gate.specs.Reported.{Reported}
use Rattle.order_gate.specs.Desks.{known_of, IsReadyAt}
use Rattle.order_gate.proofs.Parts.{reported_nothing}
use Rattle.order_book_gate.specs.declared.book_desk.BookDesk.{BookDesk}
use Rattle.order_book_gate.specs.Plan.{answers, resting_behind}
use Rattle.order_book_gate.specs.Desk.{IsAble, Took}
use Rattle.order_book_gate.specs.Standing.{answers_on, resting_on}

pub ok_then : (result : Result (Unit {0}) SubmitFault) {A B : Type 0} → (A → B) → OnOk result A → OnOk result B
ok_then (Ok _) f a = f a
ok_then (Err e) f a = tt

-- the order that a message was read as
pub read_as : (read : Result Order OrderFault) (found : Option Order) → read ≡ answer_of found → result_ok read ≡ found
read_as read found told = ap result_ok told ∙ read_back found

-- what is reported of one message alone
pub answers_one : (p : Plan) (rs : List BookOrder) (payload : List ℕ) → map (report_bytes p) (reports_of rs (order_in p payload)) ≡ answers p rs (payload ∷ [])
answers_one p rs payload = ap (λ l. map (report_bytes p) l) (sym (append-nil (reports_of rs (order_in p payload))))

-- the message at the place i is taken, behind those before it
module _ (p : Plan) (rs : List BookOrder) (xs : List (List ℕ)) (i : ℕ) (x : List ℕ) (inside : i < length xs) (is : x ≡ slice_index_or xs i x) where
  taken : take i xs ++ x ∷ [] ≡ take (i + 1) xs
  taken = ap (λ y. take i xs ++ y ∷ []) is ∙ sym (take_more xs i x inside)

  pub answers_next : answers p rs (take i xs) ++ answers p (resting_behind p rs (take i xs)) (x ∷ []) ≡ answers p rs (take (i + 1) xs)
  answers_next = sym (answers_on p rs (take i xs) (x ∷ [])) ∙ ap (answers p rs) taken

  pub resting_next : resting_behind p (resting_behind p rs (take i xs)) (x ∷ []) ≡ resting_behind p rs (take (i + 1) xs)
  resting_next = sym (resting_on p rs (take i xs) (x ∷ [])) ∙ ap (resting_behind p rs) taken

-- whatever it answers
pub any_ok : {X E : Type 0} (r : Result X E) {A : Type 0} → A → IfOk r (λ x. A)
any_ok (Ok x) a = a
any_ok (Err e) a = tt

-- where it answers Ok, of what it gives
pub ok_of : {X E : Type 0} (r : Result X E) (P Q : X → Type 0) → ((x : X) → P x → Q x) → IfOk r P → IfOk r Q
ok_of (Ok x) P Q f p = f x p
ok_of (Err e) P Q f p = tt

module _ {J : Type 0} {G : Ghosts J} (lock : TableId) (senders : ℕ) where
  -- memory ran out: nothing was sent, whatever rests
  pub took_failed : (b : BookDesk J G) → IsAble lock senders b → (rs : List BookOrder) → AllByRecursion IsRested rs → (messages : List (List ℕ)) → Took lock senders messages b (record b { book = rs }) (Err submit.Memory)
  took_failed b able rs rested messages = record {
    able = record { ready = able.ready; number = able.number; rested = rested };
    same = record { form = refl; counted = refl; met = refl };
    reported = reported_nothing (known_of b.desk) (drop b.desk.owed (answers b.form.plan b.book messages));
    owed = tt;
    resting = tt;
  }

  -- the reports on messages were sent, or one was refused
  pub took_sent : (b : BookDesk J G) → IsAble lock senders b → (messages : List (List ℕ)) (rs : List BookOrder) → rs ≡ resting_behind b.form.plan b.book messages → AllByRecursion IsRested rs
      → (k : Desk J G) (result : Result (Unit {0}) SubmitFault) → IsReadyAt lock senders k → k.number ≡ b.desk.number
      → (list : List (List ℕ)) → list ≡ answers b.form.plan b.book messages
      → Reported (known_of b.desk) (known_of k) (drop b.desk.owed list) result → OnOk result (k.owed ≡ b.desk.owed - length list)
      → Took lock senders messages b (record b { desk = k; book = rs }) result
  took_sent b able messages rs after rested k result ready number list all reported owed = record {
    able = record { ready = ready; number = number ∙ able.number; rested = rested };
    same = record { form = refl; counted = refl; met = refl };
    reported = subst (λ l. Reported (known_of b.desk) (known_of k) (drop b.desk.owed l) result) all reported;
    owed = ok_then result (λ e. e ∙ ap (λ l. b.desk.owed - length l) all) owed;
    resting = on_any result after;
  }
    where
      on_any : (r : Result (Unit {0}) SubmitFault) {A : Type 0} → A → OnOk r A
      on_any (Ok _) a = a
      on_any (Err f) a = tt
