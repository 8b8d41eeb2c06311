use Rattle.std.proofs.Common.{sym}
use Rattle.cmd_codec.proofs.Going.{there, takes-ok, takes-err, broken}
use Rattle.cmd_codec.proofs.decoder.Decoder.take_frame.Goals as goal

pub pass-requires : goal.pass-requires
pass-requires c = there c.args.self.now.framer.held c.in-Frame.order c.in-Frame.message.now c.in-Frame.size (sym c.in-Frame.ensures.exact)

pub returns-in-Ok : goal.returns-in-Ok
returns-in-Ok c =
    takes-ok c.args.shown c.args.plan.now c.args.self.now c.pass.new.self c.in-Frame.order c.in-Frame.message.now c.in-Frame.size _ (sym c.in-Frame.ensures.exact) c.in-Ok.ensures
    c.pass.ensures.lines c.pass.ensures.held c.pass.ensures.number c.pass.ensures.place

pub returns-in-Err : goal.returns-in-Err
returns-in-Err c =
    takes-err (Unit {0}) c.args.shown c.args.plan.now c.args.self.now (record c.args.self.now { lines = c.print_frame.new.lines; page = c.print_frame.new.page }) c.in-Frame.order c.in-Frame.message.now c.in-Frame.size c.in-Err.status (sym c.in-Frame.ensures.exact) c.in-Err.ensures

pub returns-in-BadLength : goal.returns-in-BadLength
returns-in-BadLength c = broken c.args.shown c.args.plan.now c.args.self.now _ (sym c.in-BadLength.ensures.exact) tt

pub returns-in-BadEncoding : goal.returns-in-BadEncoding
returns-in-BadEncoding c = broken c.args.shown c.args.plan.now c.args.self.now _ (sym c.in-BadEncoding.ensures.exact) tt
