use Rattle.std.proofs.Common.{refl}
use Rattle.conn_tail.proofs.Told.{byte_told}
use Rattle.conn_tail.proofs.piece.byte_at.Goals as goal

pub returns-clause-byte : goal.returns-clause-byte
returns-clause-byte g c =
    byte_told (g.A.Sink.taken c.args.out.now) c.bring.new.piece c.bring.new.part.at c.bring.new.part.size c.args.place _
    c.in_ok-bring.ensures.stands c.in_ok-bring.ensures.before c.in_ok-bring.ensures.behind refl
