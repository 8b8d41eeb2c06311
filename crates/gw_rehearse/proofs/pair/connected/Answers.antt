use Rattle.std.proofs.Common.{Some, sym, subst, ◌∙◌}
use Rattle.gw_rehearse.specs.Together.{Together}
use Rattle.gw_rehearse.proofs.Together.{both_begin, lost_back}
use Rattle.gw_rehearse.proofs.pair.connected.Goals as goal

pub returns-clause-together : goal.returns-clause-together
returns-clause-together c = λ client server t.
    let none = subst (λ o. Together client server c.args.initiator.now c.args.acceptor.now o) c.in_default.is t in
    subst (λ p. Together client server c.begin.new.self c.begin-2.new.self (Some p)) (sym c.in_ok-pipe.ensures)
    (both_begin client server c.args.initiator.now c.args.acceptor.now c.begin.new.self c.begin-2.new.self _ c.begin.ensures.begun c.begin-2.ensures.begun none)

pub returns-clause-sound : goal.returns-clause-sound
returns-clause-sound c = lost_back _ _ _ _ (λ e. sym c.begin.ensures.given ∙ e) (λ e. sym c.begin-2.ensures.given ∙ e)
