use Rattle.std.proofs.Common.{◌≡◌, OnOk, ◌++◌, Some, subst}
use Rattle.std.proofs.lemmas.Result.{on_ok_weaker}
use Rattle.fixp_datagram.specs.Datagrams.{Contents}
use Rattle.fixp_datagram.specs.Delivering.{received}
use Rattle.cmd_datagram.specs.Lines.{lines_at}
use Rattle.cmd_datagram.proofs.Listed.{delivered_receiver, delivered_reports, lines_of_delivery, on_any}
use Rattle.cmd_datagram.proofs.delivering.deliver.Goals as goal

pub unreachable-requires : goal.unreachable-requires
unreachable-requires c = c.in-Err.ensures.only c.requires.packed.0 c.requires.packed.1.short c.requires.packed.1.spells

pub returns-clause-lines : goal.returns-clause-lines
returns-clause-lines c = λ d is.
    let after = delivered_receiver c.args.receiver.now c.on_start-start.new.self c.push_behind.new.receiver c.in-Ok.datagram c.first.result c.on_start-start.result
    c.first.ensures c.on_start-start.ensures.answer c.on_start-start.ensures.after c.in_ok-push_behind.ensures.after in
    let found = delivered_reports c.args.receiver.now c.on_start-start.new.self c.in-Ok.datagram c.first.result c.on_start-start.result
    c.first.ensures c.on_start-start.ensures.answer c.on_start-start.ensures.after in
    subst (λ (x : Contents). OnOk c.push_ask.result (c.push_ask.new.lines.items ≡ c.args.lines.now.items ++ lines_at c.args.receiver.now (Some x))) (c.in-Ok.ensures.only d is.short is.spells)
    (on_ok_weaker c.push_ask.result (lines_of_delivery c.args.receiver.now c.push_behind.new.receiver c.in-Ok.datagram _ c.ask.result c.args.lines.now.items c.push_behind.new.lines.items c.push_ask.new.lines.items
    found after c.in_ok-push_behind.ensures.lines c.ask.ensures.exact) c.push_ask.ensures)

pub returns-clause-after : goal.returns-clause-after
returns-clause-after c = λ d is.
    let after = delivered_receiver c.args.receiver.now c.on_start-start.new.self c.push_behind.new.receiver c.in-Ok.datagram c.first.result c.on_start-start.result
    c.first.ensures c.on_start-start.ensures.answer c.on_start-start.ensures.after c.in_ok-push_behind.ensures.after in
    subst (λ (x : Contents). OnOk c.push_ask.result (c.push_behind.new.receiver ≡ received c.args.receiver.now x)) (c.in-Ok.ensures.only d is.short is.spells)
    (on_any c.push_ask.result after)
