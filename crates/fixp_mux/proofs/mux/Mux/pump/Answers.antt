-- The mark of the transport's end is kept.
use Rattle.std.proofs.Common.{◌∙◌, ap}
use Rattle.fixp_mux.specs.State.{State}
use Rattle.fixp_mux.proofs.Answering.{did_pump}
use Rattle.fixp_mux.proofs.mux.Mux.pump.Goals as goal

pub returns-clause-did : goal.returns-clause-did
returns-clause-did g c =
    let w = c.self.inside in
    rw (← c.self.view_is) (did_pump _ _ _ _ w.router c.run-answer.new.self w.has_ended c.is_last-self-inside.result c.run-answer.result (ap (λ (m : State). m.has_ended) c.self.view_is ∙ c.requires) c.is_last-self-inside.ensures c.run-answer.ensures.did)
