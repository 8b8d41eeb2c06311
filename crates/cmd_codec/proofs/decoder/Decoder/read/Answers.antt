use Rattle.std.proofs.Common.{length, refl, ap, ◌∙◌, arith}
use Rattle.cmd_base.proofs.Giving.{gave}
use Rattle.cmd_codec.proofs.Streaming.{piece, room_left}
use Rattle.cmd_codec.proofs.decoder.Decoder.read.Goals as goal

pub returns-then-count-eq0-clause-nothing : goal.returns-then-count-eq0-clause-nothing
returns-then-count-eq0-clause-nothing g c = λ e. (rw c.if-count-eq0.true at c.in-Ok.ensures.bytes).0

pub returns-then-count-eq0-clause-end : goal.returns-then-count-eq0-clause-end
returns-then-count-eq0-clause-end g c = λ e.
    let bytes = rw c.if-count-eq0.true at c.in-Ok.ensures.bytes in
    bytes.1 refl (rw c.pull.auto.into (room_left c.args.self.now.framer.held (length c.room.result.now) c.requires.waits c.room.ensures.size))

pub returns-clause-more : goal.returns-clause-more
returns-clause-more g c = λ e shown plan before out stands.
    piece shown plan before _ (g.S.Source.left c.pull.new.self) out c.args.self.now _ c.in-Ok.count c.pull.new.into stands c.filled.ensures.held (c.pull.auto.into ∙ ap length c.room.ensures.value) refl refl refl c.in-Ok.ensures.bytes.0

pub returns-clause-given : goal.returns-clause-given
returns-clause-given g c = λ e. gave _ _ c.in-Ok.count c.pull.new.into (omega (arith, c.if-count-eq0.false)) c.in-Ok.ensures.count c.in-Ok.ensures.bytes.0
