use Rattle.gate_staff.specs.Business.{lock_of}
use Rattle.order_book_gate.proofs.Lending.{begun_own, begun_stands, begun_silent}
use Rattle.order_book_gate.proofs.book_desk.BookDeskBusiness.begin.Goals as goal

pub returns-clause-own : goal.returns-clause-own
returns-clause-own g c =
    let e = c.count.ensures in
    begun_own (lock_of c.args.gate.now) c.args.self.now c.requires.own c.count.new.self e.manned e.number e.counted c.new.result c.new.ensures

pub returns-clause-stands : goal.returns-clause-stands
returns-clause-stands g c =
    let e = c.count.ensures in
    begun_stands (lock_of c.args.gate.now) c.args.self.now c.requires.own c.count.new.self e.manned e.number e.counted c.new.result c.new.ensures e.owed

pub returns-clause-silent : goal.returns-clause-silent
returns-clause-silent g c =
    let e = c.count.ensures in
    begun_silent (lock_of c.args.gate.now) c.args.self.now c.requires.own c.count.new.self e.manned e.number e.counted c.new.result c.new.ensures
