use Rattle.std.proofs.Common.{rules, ◌≡◌, ◌⊎◌, ◌++◌, true, false, inl, inr, refl, sym, ap, ◌∙◌, subst, Ok, Err}
use Rattle.gate_senders.specs.Gate.{senders_of}
use Rattle.gate_staff.specs.Business.{lock_of, Answered}
use Rattle.order_book_gate.specs.Plan.{book_plan}
use Rattle.order_book_gate.specs.Desk.{part_of, plan_of, Took}
use Rattle.order_book_gate.proofs.Calls.{able_of, idle, idle_stay, idle_stands, took_stay, finish_stay, ok_own, ok_stands, ok_answered, err_own, err_stands, err_answered, err_shown, finish_answered, finish_refused, finish_stands}
use Rattle.order_book_gate.proofs.book_desk.BookDesk.answer_call.Goals as goal
use Rattle.order_book_gate.proofs.book_desk.BookDesk.answer_call.Goals.{then-self-via-then-self, then-self-via-else-self+then-not-self}

pub returns-then-self-clause-stays : goal.returns-then-self-clause-stays
returns-then-self-clause-stays g c = idle_stay c.args.self.now

pub returns-then-self-clause-answered : goal.returns-then-self-clause-answered
returns-then-self-clause-answered g c = λ l st.
    let either : (c.args.self.now.met ≡ true) ⊎ (c.args.self.now.counted ≡ false) =
    elim c.then-self.branch [ then-self-via-then-self w ↦ inl (search (rules, w.if-self.true)) | then-self-via-else-self+then-not-self w ↦ inr (search (rules, w.if-not-self.true)) ] in
    idle (lock_of c.args.gate.now) c.args.self.now c.requires.own either l c.args.payloads.now st c.args.finished

pub returns-then-self-clause-stands : goal.returns-then-self-clause-stands
returns-then-self-clause-stands g c = λ l st.
    let either : (c.args.self.now.met ≡ true) ⊎ (c.args.self.now.counted ≡ false) =
    elim c.then-self.branch [ then-self-via-then-self w ↦ inl (search (rules, w.if-self.true)) | then-self-via-else-self+then-not-self w ↦ inr (search (rules, w.if-not-self.true)) ] in
    idle_stands c.args.self.now either l c.args.payloads.now st

pub answer_each-requires : goal.answer_each-requires
answer_each-requires g c =
    let counted : c.args.self.now.counted ≡ true = search (rules, c.if-not-self.false) in
    record { able = able_of (lock_of c.args.gate.now) (senders_of c.args.gate.now) c.args.self.now c.requires.own counted c.requires.few }

pub returns-in-Err-clause-own : goal.returns-in-Err-clause-own
returns-in-Err-clause-own g c =
    let counted : c.args.self.now.counted ≡ true = search (rules, c.if-not-self.false) in
    let unmet : c.args.self.now.met ≡ false = search (rules, c.if-self.false) in
    let took = subst (λ l. Took (lock_of c.args.gate.now) (senders_of c.args.gate.now) l c.args.self.now c.answer_each.new.self (Err c.in-Err.fault)) c.as_slice.ensures c.in-Err.ensures.took in
    err_own (lock_of c.args.gate.now) (senders_of c.args.gate.now) c.args.payloads.now c.args.self.now c.answer_each.new.self c.requires.own counted unmet (Err c.in-Err.fault) took c.in-Err.fault refl
    c.is_closed-self.result c.is_closed-self.ensures.0

pub returns-in-Err-clause-same : goal.returns-in-Err-clause-same
returns-in-Err-clause-same g c = ap (λ f. book_plan f.version) c.in-Err.ensures.took.same.form

pub returns-in-Err-clause-stands : goal.returns-in-Err-clause-stands
returns-in-Err-clause-stands g c = λ l st.
    let counted : c.args.self.now.counted ≡ true = search (rules, c.if-not-self.false) in
    let unmet : c.args.self.now.met ≡ false = search (rules, c.if-self.false) in
    let took = subst (λ l. Took (lock_of c.args.gate.now) (senders_of c.args.gate.now) l c.args.self.now c.answer_each.new.self (Err c.in-Err.fault)) c.as_slice.ensures c.in-Err.ensures.took in
    err_stands (lock_of c.args.gate.now) (senders_of c.args.gate.now) c.args.payloads.now c.args.self.now c.answer_each.new.self c.requires.own counted unmet (Err c.in-Err.fault) took c.in-Err.fault
    c.is_closed-self.result c.is_closed-self.ensures.1 (l ++ c.args.payloads.now)

pub returns-in-Err-clause-stays : goal.returns-in-Err-clause-stays
returns-in-Err-clause-stays g c =
    let counted : c.args.self.now.counted ≡ true = search (rules, c.if-not-self.false) in
    let unmet : c.args.self.now.met ≡ false = search (rules, c.if-self.false) in
    let took = subst (λ l. Took (lock_of c.args.gate.now) (senders_of c.args.gate.now) l c.args.self.now c.answer_each.new.self (Err c.in-Err.fault)) c.as_slice.ensures c.in-Err.ensures.took in
    took_stay (lock_of c.args.gate.now) (senders_of c.args.gate.now) c.args.payloads.now c.args.self.now c.answer_each.new.self c.requires.own counted unmet (Err c.in-Err.fault) took

pub returns-in-Err-clause-answered : goal.returns-in-Err-clause-answered
returns-in-Err-clause-answered g c = λ l st.
    let counted : c.args.self.now.counted ≡ true = search (rules, c.if-not-self.false) in
    let unmet : c.args.self.now.met ≡ false = search (rules, c.if-self.false) in
    let took = subst (λ l. Took (lock_of c.args.gate.now) (senders_of c.args.gate.now) l c.args.self.now c.answer_each.new.self (Err c.in-Err.fault)) c.as_slice.ensures c.in-Err.ensures.took in
    err_answered (lock_of c.args.gate.now) (senders_of c.args.gate.now) c.args.payloads.now c.args.self.now c.answer_each.new.self c.requires.own counted unmet (Err c.in-Err.fault) took l st c.in-Err.fault refl c.args.finished

pub returns-in-Err-clause-refused : goal.returns-in-Err-clause-refused
returns-in-Err-clause-refused g c = λ f is ne.
    let counted : c.args.self.now.counted ≡ true = search (rules, c.if-not-self.false) in
    let unmet : c.args.self.now.met ≡ false = search (rules, c.if-self.false) in
    let took = subst (λ l. Took (lock_of c.args.gate.now) (senders_of c.args.gate.now) l c.args.self.now c.answer_each.new.self (Err c.in-Err.fault)) c.as_slice.ensures c.in-Err.ensures.took in
    err_shown (lock_of c.args.gate.now) (senders_of c.args.gate.now) c.args.payloads.now c.args.self.now c.answer_each.new.self c.requires.own counted unmet (Err c.in-Err.fault) took f is ne

pub finish-requires-clause-able : goal.finish-requires-clause-able
finish-requires-clause-able g c = c.in_default.ensures.took.able

pub finish-requires-clause-unmet : goal.finish-requires-clause-unmet
finish-requires-clause-unmet g c = let unmet : c.args.self.now.met ≡ false = search (rules, c.if-self.false) in c.in_default.ensures.took.same.met ∙ unmet

pub returns-then-finished-clause-same : goal.returns-then-finished-clause-same
returns-then-finished-clause-same g c = ap (λ f. book_plan f.version) (c.finish.ensures.same.0 ∙ c.in_default.ensures.took.same.form)

pub returns-then-finished-clause-stands : goal.returns-then-finished-clause-stands
returns-then-finished-clause-stands g c = λ l st.
    let counted : c.args.self.now.counted ≡ true = search (rules, c.if-not-self.false) in
    let unmet : c.args.self.now.met ≡ false = search (rules, c.if-self.false) in
    let took = subst (λ l. Took (lock_of c.args.gate.now) (senders_of c.args.gate.now) l c.args.self.now c.answer_each.new.self (Ok tt)) c.as_slice.ensures c.in_default.ensures.took in
    finish_stands (lock_of c.args.gate.now) (senders_of c.args.gate.now) c.args.payloads.now c.args.self.now c.answer_each.new.self c.requires.own counted unmet (Ok tt) took
    c.finish.new.self c.finish.result c.finish.ensures.finished c.finish.ensures.same.1 c.finish.ensures.met (l ++ c.args.payloads.now)

pub returns-then-finished-clause-stays : goal.returns-then-finished-clause-stays
returns-then-finished-clause-stays g c =
    let counted : c.args.self.now.counted ≡ true = search (rules, c.if-not-self.false) in
    let unmet : c.args.self.now.met ≡ false = search (rules, c.if-self.false) in
    let took = subst (λ l. Took (lock_of c.args.gate.now) (senders_of c.args.gate.now) l c.args.self.now c.answer_each.new.self (Ok tt)) c.as_slice.ensures c.in_default.ensures.took in
    finish_stay (lock_of c.args.gate.now) (senders_of c.args.gate.now) c.args.payloads.now c.args.self.now c.answer_each.new.self c.requires.own counted unmet (Ok tt) took c.finish.new.self c.finish.result c.finish.ensures.finished

pub returns-then-finished-clause-answered : goal.returns-then-finished-clause-answered
returns-then-finished-clause-answered g c = λ l st.
    let counted : c.args.self.now.counted ≡ true = search (rules, c.if-not-self.false) in
    let unmet : c.args.self.now.met ≡ false = search (rules, c.if-self.false) in
    let took = subst (λ l. Took (lock_of c.args.gate.now) (senders_of c.args.gate.now) l c.args.self.now c.answer_each.new.self (Ok tt)) c.as_slice.ensures c.in_default.ensures.took in
    subst (λ f. Answered (λ n. plan_of c.args.self.now n (l ++ c.args.payloads.now)) 1 (part_of c.args.self.now) (part_of c.finish.new.self) f c.finish.result) (sym c.if-finished.true)
    (finish_answered (lock_of c.args.gate.now) (senders_of c.args.gate.now) c.args.payloads.now c.args.self.now c.answer_each.new.self c.requires.own counted unmet (Ok tt) took l st
    c.finish.new.self c.finish.result refl c.finish.ensures.finished)

pub returns-then-finished-clause-refused : goal.returns-then-finished-clause-refused
returns-then-finished-clause-refused g c = λ f is ne.
    let counted : c.args.self.now.counted ≡ true = search (rules, c.if-not-self.false) in
    let unmet : c.args.self.now.met ≡ false = search (rules, c.if-self.false) in
    let took = subst (λ l. Took (lock_of c.args.gate.now) (senders_of c.args.gate.now) l c.args.self.now c.answer_each.new.self (Ok tt)) c.as_slice.ensures c.in_default.ensures.took in
    finish_refused (lock_of c.args.gate.now) (senders_of c.args.gate.now) c.args.payloads.now c.args.self.now c.answer_each.new.self c.requires.own counted unmet (Ok tt) took
    c.finish.new.self c.finish.result c.finish.ensures.finished f is

pub returns-else-finished-clause-own : goal.returns-else-finished-clause-own
returns-else-finished-clause-own g c =
    let counted : c.args.self.now.counted ≡ true = search (rules, c.if-not-self.false) in
    let unmet : c.args.self.now.met ≡ false = search (rules, c.if-self.false) in
    let took = subst (λ l. Took (lock_of c.args.gate.now) (senders_of c.args.gate.now) l c.args.self.now c.answer_each.new.self (Ok tt)) c.as_slice.ensures c.in_default.ensures.took in
    ok_own (lock_of c.args.gate.now) (senders_of c.args.gate.now) c.args.payloads.now c.args.self.now c.answer_each.new.self c.requires.own counted unmet (Ok tt) took

pub returns-else-finished-clause-same : goal.returns-else-finished-clause-same
returns-else-finished-clause-same g c = ap (λ f. book_plan f.version) c.in_default.ensures.took.same.form

pub returns-else-finished-clause-stands : goal.returns-else-finished-clause-stands
returns-else-finished-clause-stands g c = λ l st.
    let counted : c.args.self.now.counted ≡ true = search (rules, c.if-not-self.false) in
    let unmet : c.args.self.now.met ≡ false = search (rules, c.if-self.false) in
    let took = subst (λ l. Took (lock_of c.args.gate.now) (senders_of c.args.gate.now) l c.args.self.now c.answer_each.new.self (Ok tt)) c.as_slice.ensures c.in_default.ensures.took in
    ok_stands (lock_of c.args.gate.now) (senders_of c.args.gate.now) c.args.payloads.now c.args.self.now c.answer_each.new.self c.requires.own counted unmet (Ok tt) took l st refl

pub returns-else-finished-clause-stays : goal.returns-else-finished-clause-stays
returns-else-finished-clause-stays g c =
    let counted : c.args.self.now.counted ≡ true = search (rules, c.if-not-self.false) in
    let unmet : c.args.self.now.met ≡ false = search (rules, c.if-self.false) in
    let took = subst (λ l. Took (lock_of c.args.gate.now) (senders_of c.args.gate.now) l c.args.self.now c.answer_each.new.self (Ok tt)) c.as_slice.ensures c.in_default.ensures.took in
    took_stay (lock_of c.args.gate.now) (senders_of c.args.gate.now) c.args.payloads.now c.args.self.now c.answer_each.new.self c.requires.own counted unmet (Ok tt) took

pub returns-else-finished-clause-answered : goal.returns-else-finished-clause-answered
returns-else-finished-clause-answered g c = λ l st.
    let counted : c.args.self.now.counted ≡ true = search (rules, c.if-not-self.false) in
    let unmet : c.args.self.now.met ≡ false = search (rules, c.if-self.false) in
    let took = subst (λ l. Took (lock_of c.args.gate.now) (senders_of c.args.gate.now) l c.args.self.now c.answer_each.new.self (Ok tt)) c.as_slice.ensures c.in_default.ensures.took in
    ok_answered (lock_of c.args.gate.now) (senders_of c.args.gate.now) c.args.payloads.now c.args.self.now c.answer_each.new.self c.requires.own counted unmet (Ok tt) took l st refl c.args.finished
    (λ e. cc (c.if-finished.false, e))
