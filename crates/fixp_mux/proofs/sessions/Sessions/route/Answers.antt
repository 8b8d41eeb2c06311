-- A Context names its session.
use Rattle.std.proofs.Common.{◌≡◌, Bool, ◌∙◌, ap, sym, subst}
use Rattle.sofh_frame.specs.Framing.{Frame}
use Rattle.fixp_mux.specs.Context.{names, says}
use Rattle.fixp_mux.specs.Routing.{IsNamed}
use Rattle.fixp_mux.specs.Saying.{said}
use Rattle.fixp_mux.proofs.Given.{passed_named}
use Rattle.fixp_mux.proofs.sessions.Sessions.route.Goals as goal

pub returns-then-name : goal.returns-then-name
returns-then-name c =
    let f : Frame = record { order = c.args.order; message = c.args.message.now } in
    let is : says f ≡ names c.in-Names.id = sym c.read_saying.ensures ∙ ap said c.in-Names.is in
    passed_named c.args.self.now c.in-Names.id c.name.new.self f is (subst (λ (b : Bool). IsNamed c.args.self.now c.in-Names.id b c.name.new.self) c.if-name.true c.name.ensures)
