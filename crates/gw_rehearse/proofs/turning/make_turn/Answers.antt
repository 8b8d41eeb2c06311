use Rattle.std.proofs.Common.{◌+◌, [], is_some, refl, sym, ap, subst, ◌∙◌}
use Rattle.std.proofs.lemmas.Result.{on_ok_weaker}
use Rattle.gate_turn.specs.Places.{known}
use Rattle.conn_loop.specs.Conn.{line_of}
use Rattle.conn_loop.specs.Live.{live_end}
use Rattle.gw_rehearse.specs.Standing.{Stands, is_failed, is_given}
use Rattle.gw_rehearse.proofs.Driving.{turn_place, told_whole, stands_behind, made_behind, sent_stands, sent_made, all_sent, err_then}
use Rattle.turn_laws.proofs.Repacking.{turn_is_one, cut_is_one}
use Rattle.gw_rehearse.proofs.turning.make_turn.Goals as goal

pub returns-clause-stands : goal.returns-clause-stands
returns-clause-stands g c =
    let t = c.turn-answer in
    let e = t.ensures in
    subst (λ s. Stands s (line_of t.new.self) ((line_of c.args.conn.now).place + 4195840) (known t.new.pass) t.new.inbox) (sym c.sent.ensures)
    (sent_stands c.behind.result c.is_sent.result (line_of t.new.self) ((line_of c.args.conn.now).place + 4195840) (known t.new.pass) t.new.inbox
    (subst (λ s. Stands s (line_of t.new.self) ((line_of c.args.conn.now).place + 4195840) (known t.new.pass) t.new.inbox) (sym c.behind.ensures)
    (stands_behind t.result (line_of t.new.self) ((line_of c.args.conn.now).place + 4195840) (known t.new.pass) t.new.inbox
    (on_ok_weaker t.result (λ did. turn_place _ _ _ _ _ (live_end _ _ _ (line_of c.args.conn.now) c.args.inbox.now []) (live_end _ _ _ (line_of t.new.self) t.new.inbox _) t.result did c.args.conn.now.number.1) e.did)
    e.goes e.leaves e.leaves_lost e.answer (λ lost. ap is_some (e.ended_lost lost)))))

pub returns-clause-turned : goal.returns-clause-turned
returns-clause-turned g c =
    let t = c.turn-answer in
    let e = t.ensures in
    let old = live_end _ _ (known c.args.pass.now).seen (line_of c.args.conn.now) c.args.inbox.now [] in
    let new = live_end _ _ (known t.new.pass).seen (line_of t.new.self) t.new.inbox _ in
    let one = turn_is_one _ c.args.inbox.now _ _ _ _ _ old new t.result in
    sent_made c.behind.result c.sent.result c.is_sent.result _ _ _ _ old new c.sent.ensures
    (made_behind t.result c.behind.result _ _ _ _ old new c.behind.ensures
    (on_ok_weaker t.result (λ d. told_whole _ _ _ _ _ old new (one e.limit e.ticks d) (λ disk. refl)) e.did)
    (λ lost. told_whole _ _ _ _ _ old new (one e.limit e.ticks (e.lost lost)) (λ disk. refl))
    (err_then t.result (λ fault k other. cut_is_one c.args.inbox.now _ _ _ old new fault e.limit e.ticks (k other)) e.cut))

pub returns-clause-sent : goal.returns-clause-sent
returns-clause-sent g c = λ given failed. all_sent c.behind.result c.is_sent.result _ c.is_sent.ensures (ap is_given (sym c.sent.ensures) ∙ given) (ap is_failed (sym c.sent.ensures) ∙ failed)

pub returns-clause-clock : goal.returns-clause-clock
returns-clause-clock g c = let same = c.turn-answer.ensures.clock in cc same

pub returns-clause-never_falls : goal.returns-clause-never_falls
returns-clause-never_falls g c = c.turn-answer.ensures.never_falls.1
