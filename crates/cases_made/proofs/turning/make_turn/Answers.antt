use Rattle.std.proofs.Common.{◌+◌, [], is_some, sym, ap, subst, arith}
use Rattle.std.proofs.lemmas.Result.{on_ok_weaker}
use Rattle.gate_turn.specs.Places.{known}
use Rattle.conn_loop.specs.Conn.{line_of}
use Rattle.conn_loop.specs.Live.{live_end}
use Rattle.cases_made.specs.Driving.{Stands}
use Rattle.cases_made.proofs.Driving.{turn_place, stands_behind}
use Rattle.cases_made.proofs.turning.make_turn.Goals as goal

pub turn-requires-clause-place : goal.turn-requires-clause-place
turn-requires-clause-place g c = let place = c.requires.can.place in omega (arith, place)

pub returns-clause-stands : goal.returns-clause-stands
returns-clause-stands g c =
    let e = c.turn.ensures in
    let most = (line_of c.args.conn.now).place + 4195840 in
    subst (λ s. Stands s (line_of c.turn.new.self) most (known c.turn.new.pass) c.turn.new.inbox) (sym c.behind.ensures)
    (stands_behind c.turn.result (line_of c.turn.new.self) most (known c.turn.new.pass) c.turn.new.inbox
    (on_ok_weaker c.turn.result (λ did. turn_place _ _ _ _ _ (live_end _ _ _ (line_of c.args.conn.now) c.args.inbox.now []) (live_end _ _ _ (line_of c.turn.new.self) c.turn.new.inbox _) c.turn.result did c.args.conn.now.number.1) e.did)
    e.goes e.leaves e.leaves_lost e.answer (λ lost. ap is_some (e.ended_lost lost)))
