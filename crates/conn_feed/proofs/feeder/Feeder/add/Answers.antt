use Rattle.std.proofs.Common.{ap, sym, subst}
use Rattle.gate_turn.specs.Rule.{In}
use Rattle.conn_feed.proofs.Feeders.{ends_at_line, add_goes, add_over, add_sound}
use Rattle.conn_feed.proofs.feeder.Feeder.add.Goals as goal

pub returns-in-Ok-clause-sound : goal.returns-in-Ok-clause-sound
returns-in-Ok-clause-sound g c =
    add_sound c.args.gate.now c.let_in.new.self c.hold.new.self c.args.sender c.in-Ok.ensures.sound (ap (λ v. v.items) c.hold.ensures.senders) c.hold.ensures.sender
    (subst (λ n. In n c.args.sender) (sym c.in-Ok.ensures.long) c.requires.there)

pub returns-in-Ok-clause-goes : goal.returns-in-Ok-clause-goes
returns-in-Ok-clause-goes g c =
    let h = c.hold.ensures in
    add_goes g.K.Sink.taken c.args.self.now c.let_in.new.self c.hold.new.self c.args.number c.args.sender _ c.args.payload c.hold.result c.in-Ok.ensures.goes c.in-Ok.ensures.long c.in-Ok.ensures.takes
    h.added (ap (λ v. v.items) h.senders) (ap g.K.Sink.taken h.accepted) h.fresh h.kept

pub returns-in-Ok-clause-over : goal.returns-in-Ok-clause-over
returns-in-Ok-clause-over g c =
    let h = c.hold.ensures in
    add_over g.K.Sink.taken c.args.self.now c.let_in.new.self c.hold.new.self c.args.number c.hold.result c.in-Ok.ensures.goes (ap (λ v. v.items) h.senders) (ap g.K.Sink.taken h.accepted) h.which

pub returns-in-Err-clause-over : goal.returns-in-Err-clause-over
returns-in-Err-clause-over g c = λ line. ends_at_line g.K.Sink.taken c.args.self.now c.let_in.new.self c.in-Err.end c.args.number line c.in-Err.ensures.over
