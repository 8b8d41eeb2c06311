use Rattle.std.proofs.Common.{rules, true, ◌∙◌}
use Rattle.gate_staff.specs.Business.{lock_of}
use Rattle.gate_senders.specs.Gate.{senders_of}
use Rattle.order_book_gate.proofs.Calls.{pass_of}
use Rattle.order_book_gate.proofs.book_desk.BookDesk.finish.Goals as goal

pub returns-then-is_ok-clause-own : goal.returns-then-is_ok-clause-own
returns-then-is_ok-clause-own g c =
    let e = c.finish-answer.ensures in
    let able = c.requires.able in
    pass_of (lock_of c.args.gate.now) (senders_of c.args.gate.now) (record c.args.self.now { desk = c.finish-answer.new.self }) (record { ready = e.ready; number = e.same.0 ∙ able.number; rested = able.rested }) true
    (λ _. search (rules, c.if-is_ok.true, c.if-is_ok.ensures.value, e.finished.marked))

pub returns-else-is_ok-clause-own : goal.returns-else-is_ok-clause-own
returns-else-is_ok-clause-own g c =
    let e = c.finish-answer.ensures in
    let able = c.requires.able in
    pass_of (lock_of c.args.gate.now) (senders_of c.args.gate.now) (record c.args.self.now { desk = c.finish-answer.new.self }) (record { ready = e.ready; number = e.same.0 ∙ able.number; rested = able.rested }) c.args.self.now.met
    (λ met. absurd (cc (met, c.requires.unmet)))
