use Rattle.std.proofs.Common.{refl, ap, ◌∙◌, length}
use Rattle.order_gate.proofs.Sending.{ready_still, its_made}
use Rattle.order_gate.proofs.desk.Desk.finish.Goals as goal

pub returns-in-Ok-clause-ready : goal.returns-in-Ok-clause-ready
returns-in-Ok-clause-ready g c =
    let d = c.args.self.now in
    let p = c.in-Some.pass in
    let q = c.finish.new.pass in
    let e = c.finish.ensures in
    ready_still c.args.gate.now d p q c.requires.ready c.in-Some.is _ refl refl e.own e.free e.turn.number (ap (λ es. length es) e.mine ∙ its_made c.args.gate.now d p q c.requires.ready c.in-Some.is)

pub returns-in-Err-Closed-clause-ready : goal.returns-in-Err-Closed-clause-ready
returns-in-Err-Closed-clause-ready g c =
    let d = c.args.self.now in
    let p = c.in-Some.pass in
    let q = c.finish.new.pass in
    let e = c.finish.ensures in
    ready_still c.args.gate.now d p q c.requires.ready c.in-Some.is _ refl refl e.own e.free e.turn.number (ap (λ es. length es) e.mine ∙ its_made c.args.gate.now d p q c.requires.ready c.in-Some.is)

pub returns-in-Err-Broken-clause-ready : goal.returns-in-Err-Broken-clause-ready
returns-in-Err-Broken-clause-ready g c =
    let d = c.args.self.now in
    let p = c.in-Some.pass in
    let q = c.finish.new.pass in
    let e = c.finish.ensures in
    ready_still c.args.gate.now d p q c.requires.ready c.in-Some.is _ refl refl e.own e.free e.turn.number (ap (λ es. length es) e.mine ∙ its_made c.args.gate.now d p q c.requires.ready c.in-Some.is)

pub returns-in-Err-Memory-clause-ready : goal.returns-in-Err-Memory-clause-ready
returns-in-Err-Memory-clause-ready g c =
    let d = c.args.self.now in
    let p = c.in-Some.pass in
    let q = c.finish.new.pass in
    let e = c.finish.ensures in
    ready_still c.args.gate.now d p q c.requires.ready c.in-Some.is _ refl refl e.own e.free e.turn.number (ap (λ es. length es) e.mine ∙ its_made c.args.gate.now d p q c.requires.ready c.in-Some.is)

pub returns-in-Err-Fault-clause-ready : goal.returns-in-Err-Fault-clause-ready
returns-in-Err-Fault-clause-ready g c =
    let d = c.args.self.now in
    let p = c.in-Some.pass in
    let q = c.finish.new.pass in
    let e = c.finish.ensures in
    ready_still c.args.gate.now d p q c.requires.ready c.in-Some.is _ refl refl e.own e.free e.turn.number (ap (λ es. length es) e.mine ∙ its_made c.args.gate.now d p q c.requires.ready c.in-Some.is)
