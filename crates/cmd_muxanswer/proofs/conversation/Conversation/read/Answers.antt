use Rattle.std.proofs.Common.{ℕ, List, [], ◌++◌, length, take, refl, ap, ◌∙◌, arith}
use Rattle.std.proofs.KnownBytes.{Consumes-kept, Consumes-nil, Consumes-trans}
use Rattle.cmd_base.proofs.Giving.{gave}
use Rattle.cmd_muxanswer.proofs.Given.{written_over-same, room_left}
use Rattle.cmd_muxanswer.proofs.Rounds.{kept_front, after_finished, stands_filled, once_of}
use Rattle.cmd_muxanswer.proofs.conversation.Conversation.read.Goals as goal

pub returns-in_default-clause-after : goal.returns-in_default-clause-after
returns-in_default-clause-after g c = λ sessions before wire out talks.
    kept_front sessions (once_of sessions talks.read talks.wire talks.out c.args.self.now talks.stands c.requires.idle.ready.known.once) before _ c.args.self.now talks (record { input = g.S.Source.left c.pull.new.self; wire = wire; out = out }) refl refl

pub returns-then-count-eq0-clause-after : goal.returns-then-count-eq0-clause-after
returns-then-count-eq0-clause-after g c = λ sessions before wire out talks.
    let bytes = rw c.if-count-eq0.true at c.in-Ok.ensures.bytes in
    after_finished sessions before _ (record { input = g.S.Source.left c.pull.new.self; wire = wire; out = out }) c.args.self.now _ c.finish.result
    talks c.requires.idle.bytes c.requires.idle.lines c.requires.waits bytes.0 (bytes.1 refl (rw c.pull.auto.into (room_left c.args.self.now.framer.held (length c.room.result.now) c.requires.waits c.room.ensures.size))) refl refl
    c.finish.ensures.whole c.finish.ensures.cut

pub returns-clause-after : goal.returns-clause-after
returns-clause-after g c = λ sessions before wire out talks.
    let kept = c.pull.auto.into ∙ ap length c.room.ensures.value in
    let held = c.filled.ensures.held ∙ ap (λ (l : List ℕ). c.args.self.now.framer.held ++ take c.in-Ok.count l) (written_over-same c.args.self.now.framer.room c.pull.new.into kept) in
    record {
      read = talks.read ++ take c.in-Ok.count c.pull.new.into;
      wire = talks.wire;
      out = talks.out;
      stands = stands_filled sessions talks.read talks.wire talks.out (take c.in-Ok.count c.pull.new.into) c.args.self.now _ talks.stands refl refl held;
      consumed = Consumes-trans _ _ _ _ _ talks.consumed c.in-Ok.ensures.bytes.0;
      wire_gained = talks.wire_gained;
      out_gained = talks.out_gained;
    }

pub returns-in_default-clause-consumed : goal.returns-in_default-clause-consumed
returns-in_default-clause-consumed g c = ([], Consumes-kept _ _ _ [] (Consumes-nil _) c.in_default.ensures.bytes)

pub returns-then-count-eq0-clause-consumed : goal.returns-then-count-eq0-clause-consumed
returns-then-count-eq0-clause-consumed g c = ([], (rw c.if-count-eq0.true at c.in-Ok.ensures.bytes).0)

pub returns-clause-consumed : goal.returns-clause-consumed
returns-clause-consumed g c = (take c.in-Ok.count c.pull.new.into, c.in-Ok.ensures.bytes.0)

pub returns-clause-given : goal.returns-clause-given
returns-clause-given g c = λ e. gave _ _ c.in-Ok.count c.pull.new.into (omega (arith, c.if-count-eq0.false)) c.in-Ok.ensures.count c.in-Ok.ensures.bytes.0
