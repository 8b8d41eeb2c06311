use Rattle.std.proofs.Common.{◌≡◌, true, rules, arith}
use Rattle.std.proofs.lemmas.Grind.{common_steps}
use Rattle.cmd_codec.specs.Decoded.{is_order}
use Rattle.cmd_codec.proofs.Framed.{frame_added, frame_wrong}
use Rattle.cmd_codec.proofs.print.print_frame.Goals as goal

pub returns-in-Ok : goal.returns-in-Ok
returns-in-Ok c =
    let f = c.args.frame in
    let same : is_order f.order c.args.plan.now.order ≡ true = first_of (search rules, grind (arith, common_steps)) in
    frame_added c.args.shown c.args.plan.now f.number f.place (record { order = f.order; message = f.message.now }) c.args.lines.now.items c.print_shown.new.lines.items same c.in-Ok.ensures.lines

pub returns-in-Err-Fault : goal.returns-in-Err-Fault
returns-in-Err-Fault c =
    let f = c.args.frame in
    let same : is_order f.order c.args.plan.now.order ≡ true = first_of (search rules, grind (arith, common_steps)) in
    frame_wrong c.args.shown c.args.plan.now f.number f.place (record { order = f.order; message = f.message.now }) c.in-Err-Fault.fault c.args.lines.now.items c.print_shown.new.lines.items same (c.print_shown.ensures.fault c.in-Err-Fault.fault (search rules)) (c.print_shown.ensures.kept c.in-Err-Fault.fault (search rules))
