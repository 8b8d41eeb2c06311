use Rattle.std.proofs.Common.{sym, refl}
use Rattle.cmd_dump.proofs.Going.{there, takes, keeps-self, broken}
use Rattle.cmd_dump.proofs.dumper.Dumper.take_frame.Goals as goal

pub pass-requires : goal.pass-requires
pass-requires c = there c.args.self.now.framer.held c.in-Frame.order c.in-Frame.message.now c.in-Frame.size (sym c.in-Frame.ensures.exact)

pub returns-in_ok-push_frame-in-Frame : goal.returns-in_ok-push_frame-in-Frame
returns-in_ok-push_frame-in-Frame c =
    takes c.args.plan.now c.args.self.now c.pass.new.self c.in-Frame.order c.in-Frame.message.now c.in-Frame.size _ _ (sym c.in-Frame.ensures.exact) c.in_ok-push_frame-in-Frame.ensures
    c.pass.ensures.counter c.pass.ensures.lines c.pass.ensures.held c.pass.ensures.number c.pass.ensures.place

pub returns-in-Rest : goal.returns-in-Rest
returns-in-Rest c = record { same = keeps-self c.args.plan.now c.args.self.now; waits = sym c.in-Rest.ensures.exact }

pub returns-in_ok-push_broken-in-BadLength : goal.returns-in_ok-push_broken-in-BadLength
returns-in_ok-push_broken-in-BadLength c = broken c.args.plan.now c.args.self.now (record c.args.self.now { lines = c.push_broken.new.lines }) _ (sym c.in-BadLength.ensures.exact) tt c.in_ok-push_broken-in-BadLength.ensures refl

pub returns-in_ok-push_broken-in-BadEncoding : goal.returns-in_ok-push_broken-in-BadEncoding
returns-in_ok-push_broken-in-BadEncoding c = broken c.args.plan.now c.args.self.now (record c.args.self.now { lines = c.push_broken-in-BadEncoding.new.lines }) _ (sym c.in-BadEncoding.ensures.exact) tt c.in_ok-push_broken-in-BadEncoding.ensures refl
