use Rattle.std.proofs.Common.{◌∙◌}
use Rattle.gate_senders.specs.Gate.{senders_of}
use Rattle.gate_staff.specs.Business.{lock_of}
use Rattle.order_book_gate.proofs.Taking.{took_failed, took_sent}
use Rattle.order_book_gate.proofs.book_desk.BookDesk.answer_each.Goals as goal

pub returns-in_default : goal.returns-in_default
returns-in_default g c =
    record {
      took = took_failed (lock_of c.args.gate.now) (senders_of c.args.gate.now) c.args.self.now c.requires.able c.take_orders.new.book c.take_orders.ensures.rested c.args.payloads.now;
    }

pub returns : goal.returns
returns g c =
    let b = c.args.self.now in
    let e = c.send_all.ensures in
    record {
      took = took_sent (lock_of c.args.gate.now) (senders_of c.args.gate.now) b c.requires.able c.args.payloads.now c.take_orders.new.book c.in-Ok.ensures.book c.take_orders.ensures.rested
          c.send_all.new.self c.send_all.result e.ready e.number _ (c.as_slice.ensures.value ∙ c.in-Ok.ensures.reports) e.reported e.owed;
    }
