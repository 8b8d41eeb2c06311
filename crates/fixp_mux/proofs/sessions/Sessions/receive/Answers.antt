-- One session receives, and no other changes.
use Rattle.std.proofs.Common.{◌≡◌, ◌<◌, length, min, take, ap, arith}
use Rattle.fixp_mux.specs.State.{Session}
use Rattle.fixp_mux.specs.Routing.{Table}
use Rattle.fixp_mux.specs.Calls.{Receives}
use Rattle.fixp_mux.proofs.Placing.{changes_set, if_some_at, receives_of, router_set, table_set}
use Rattle.fixp_mux.proofs.sessions.Sessions.receive.Goals as goal

pub invariant_of-self : goal.invariant_of-self
invariant_of-self c =
    let w = c.self.inside in
    router_set w.routes c.args.place w.channels.items w.named w.writing c.index_mut.result.now c.receive.new.self c.index_mut.ensures.value (ap (λ (s : Session). s.id) c.receive.ensures.value) c.self.invariant

pub returns-clause-count : goal.returns-clause-count
returns-clause-count c =
    let w = c.self.inside in
    let within : c.args.place < length w.channels.items = omega (arith, c.requires, ap (λ (t : Table). length t.sessions) c.self.view_is) in
    rw (← c.self.view_is) (if_some_at c.args.place w.channels.items c.index_mut.result.now (λ (s : Session). c.receive.result ≡ min (length c.args.into.now) (length s.input)) within c.index_mut.ensures.value c.receive.ensures.count)

pub returns-clause-given : goal.returns-clause-given
returns-clause-given c =
    let w = c.self.inside in
    let within : c.args.place < length w.channels.items = omega (arith, c.requires, ap (λ (t : Table). length t.sessions) c.self.view_is) in
    let x = c.index_mut.result.now in
    let y = c.receive.new.self in
    rw (← c.self.view_is) (changes_set c.args.place (Receives (take c.receive.result c.receive.new.into)) w.channels.items x y within c.index_mut.ensures.value (receives_of x y c.receive.result c.receive.new.into c.receive.ensures.front c.receive.ensures.value))

pub returns-clause-same : goal.returns-clause-same
returns-clause-same c =
    let w = c.self.inside in
    rw (← c.self.view_is) (table_set c.args.place w.channels.items w.named w.writing c.index_mut.result.now c.receive.new.self c.index_mut.ensures.value (ap (λ (s : Session). s.id) c.receive.ensures.value))
