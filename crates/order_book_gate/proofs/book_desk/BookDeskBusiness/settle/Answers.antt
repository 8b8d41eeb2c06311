use Rattle.std.proofs.Common.{◌++◌, refl, sym, ap, subst, ◌∙◌}
use Rattle.gate_staff.specs.Business.{lock_of, AllStay, Answered, ShownByOne}
use Rattle.order_book_gate.specs.Desk.{part_of, plan_of, HasPass, StandsBehind}
use Rattle.order_book_gate.proofs.book_desk.BookDeskBusiness.settle.Goals as goal

pub answer_call-requires-clause-own : goal.answer_call-requires-clause-own
answer_call-requires-clause-own g c = let r = c.requires.again in subst (λ b. HasPass (lock_of c.args.gate.now) b) (sym r.3.took_back) r.1

pub answer_call-requires-clause-few : goal.answer_call-requires-clause-few
answer_call-requires-clause-few g c = c.requires.again.2

pub returns-clause-own : goal.returns-clause-own
returns-clause-own g c = λ before has few again. (c.answer_call.ensures.own, refl, c.answer_call.ensures.same ∙ ap plan_of again.took_back)

pub returns-clause-stands : goal.returns-clause-stands
returns-clause-stands g c = λ before has few again l st. c.answer_call.ensures.stands l (subst (λ b. StandsBehind b l) (sym again.took_back) st)

pub returns-clause-stays : goal.returns-clause-stays
returns-clause-stays g c = λ before has few again. subst (λ b. AllStay 1 (part_of b) (part_of c.answer_call.new.self)) again.took_back c.answer_call.ensures.stays

pub returns-clause-answered : goal.returns-clause-answered
returns-clause-answered g c = λ before has few again l st.
    subst (λ b. Answered (λ n. plan_of b n (l ++ c.args.payloads.now)) 1 (part_of b) (part_of c.answer_call.new.self) c.args.finished c.answer_call.result) again.took_back
    (c.answer_call.ensures.answered l (subst (λ b. StandsBehind b l) (sym again.took_back) st))

pub returns-clause-refused : goal.returns-clause-refused
returns-clause-refused g c = λ before has few again f is ne.
    subst (λ b. ShownByOne 1 (part_of b) (part_of c.answer_call.new.self) f) again.took_back (c.answer_call.ensures.refused f is ne)
