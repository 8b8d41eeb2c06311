use Rattle.std.proofs.Common.{◌∙◌, arith}
use Rattle.flow_window.proofs.Places.{front_payload}
use Rattle.flow_window.proofs.window.Window.front.Goals as goal

pub returns : goal.returns
returns c =
    let w = c.self.inside in
    rw (← c.self.view_is)
    (c.payload.ensures ∙ front_payload w.next w.places.items c.index.result.now (omega (arith, c.self.invariant.len_is, w.places.ok.0)) c.index.ensures)
