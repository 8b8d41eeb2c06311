-- One session is released, and no other changes.
use Rattle.std.proofs.Common.{◌<◌, length, ap, arith}
use Rattle.fixp_mux.specs.State.{Session}
use Rattle.fixp_mux.specs.Routing.{Table}
use Rattle.fixp_mux.specs.Calls.{Lets}
use Rattle.fixp_mux.proofs.Placing.{changes_set, router_set, table_set}
use Rattle.fixp_mux.proofs.sessions.Sessions.release.Goals as goal

pub invariant_of-self : goal.invariant_of-self
invariant_of-self c =
    let w = c.self.inside in
    router_set w.routes c.args.place w.channels.items w.named w.writing c.index_mut.result.now c.release.new.self c.index_mut.ensures.value (ap (λ (s : Session). s.id) c.release.ensures) c.self.invariant

pub returns-clause-released : goal.returns-clause-released
returns-clause-released c =
    let w = c.self.inside in
    let within : c.args.place < length w.channels.items = omega (arith, c.requires, ap (λ (t : Table). length t.sessions) c.self.view_is) in
    rw (← c.self.view_is) (changes_set c.args.place Lets w.channels.items c.index_mut.result.now c.release.new.self within c.index_mut.ensures.value c.release.ensures)

pub returns-clause-same : goal.returns-clause-same
returns-clause-same c =
    let w = c.self.inside in
    rw (← c.self.view_is) (table_set c.args.place w.channels.items w.named w.writing c.index_mut.result.now c.release.new.self c.index_mut.ensures.value (ap (λ (s : Session). s.id) c.release.ensures))
