use Rattle.std.proofs.Common.{◌+◌, take, All, Ok, Err, sym, ap, ◌∙◌, subst, arith}
use Rattle.std.proofs.lemmas.List.Elements.{All-drop, All-take, recursion_from_All}
use Rattle.fixp_msgs.specs.Payload.{IsApplication}
use Rattle.order_gate.specs.Desks.{known_of}
use Rattle.order_gate.specs.Reported.{Reported}
use Rattle.order_gate.proofs.Parts.{piece_sent, piece_refused}
use Rattle.order_gate.proofs.desk.Desk.send_rest.Goals as goal

pub send_piece-requires-clause-applications : goal.send_piece-requires-clause-applications
send_piece-requires-clause-applications g c =
    let piece = c.split_at-in-pieces.result.0.now in
    let rest = c.split_at.result.1.now in
    let behind : All IsApplication rest = subst (λ xs. All IsApplication xs) (sym c.split_at.ensures.back) (All-drop IsApplication c.pieces.sent c.args.reports.now c.requires.applications) in
    recursion_from_All IsApplication piece
    (subst (λ xs. All IsApplication xs) (sym c.split_at-in-pieces.ensures.front) (All-take IsApplication c.next_piece-count.result rest behind))

pub returns-in-Err-clause-reported : goal.returns-in-Err-clause-reported
returns-in-Err-clause-reported g c =
    let at = c.pieces.invariant in
    let n = c.next_piece-count.result in
    piece_refused (known_of c.args.self.now) (known_of c.pieces.self) (known_of c.send_piece.new.self) c.args.reports.now c.pieces.sent n at.reported c.in-Err.fault
    (subst (λ xs. Reported (known_of c.pieces.self) (known_of c.send_piece.new.self) xs (Err c.in-Err.fault)) (c.split_at-in-pieces.ensures.front ∙ ap (λ xs. take n xs) c.split_at.ensures.back) c.in-Err.ensures.reported)

pub pieces-preserved : goal.pieces-preserved
pieces-preserved g c =
    let at = c.pieces.invariant in
    let n = c.next_piece-count.result in
    let e = c.in_default.ensures in
    record {
      ready = e.ready;
      number = e.number ∙ at.number;
      owed = e.owed ∙ at.owed;
      within = omega (arith, c.next_piece-count.ensures.within, c.min.ensures, c.split_at.ensures.back_len);
      reported = piece_sent (known_of c.args.self.now) (known_of c.pieces.self) (known_of c.send_piece.new.self) c.args.reports.now c.pieces.sent n at.reported
          (subst (λ xs. Reported (known_of c.pieces.self) (known_of c.send_piece.new.self) xs (Ok tt)) (c.split_at-in-pieces.ensures.front ∙ ap (λ xs. take n xs) c.split_at.ensures.back) e.reported);
    }
