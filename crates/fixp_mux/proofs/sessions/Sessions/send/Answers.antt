-- One session sends, and no other changes.
use Rattle.std.proofs.Common.{◌≡◌, ◌<◌, ◌-◌, length, min, take, ap, arith}
use Rattle.fixp_mux.specs.State.{Session, session_room}
use Rattle.fixp_mux.specs.Routing.{Table}
use Rattle.fixp_mux.specs.Calls.{Sends}
use Rattle.fixp_mux.proofs.Placing.{changes_set, if_some_at, router_set, table_set}
use Rattle.fixp_mux.proofs.sessions.Sessions.send.Goals as goal

pub invariant_of-self : goal.invariant_of-self
invariant_of-self c =
    let w = c.self.inside in
    router_set w.routes c.args.place w.channels.items w.named w.writing c.index_mut.result.now c.send.new.self c.index_mut.ensures.value (ap (λ (s : Session). s.id) c.send.ensures.value) c.self.invariant

pub returns-clause-count : goal.returns-clause-count
returns-clause-count c =
    let w = c.self.inside in
    let within : c.args.place < length w.channels.items = omega (arith, c.requires, ap (λ (t : Table). length t.sessions) c.self.view_is) in
    rw (← c.self.view_is) (if_some_at c.args.place w.channels.items c.index_mut.result.now (λ (s : Session). c.send.result ≡ min (length c.args.bytes.now) (session_room - length s.output)) within c.index_mut.ensures.value c.send.ensures.count)

pub returns-clause-taken : goal.returns-clause-taken
returns-clause-taken c =
    let w = c.self.inside in
    let within : c.args.place < length w.channels.items = omega (arith, c.requires, ap (λ (t : Table). length t.sessions) c.self.view_is) in
    rw (← c.self.view_is) (changes_set c.args.place (Sends (take c.send.result c.args.bytes.now)) w.channels.items c.index_mut.result.now c.send.new.self within c.index_mut.ensures.value c.send.ensures.value)

pub returns-clause-same : goal.returns-clause-same
returns-clause-same c =
    let w = c.self.inside in
    rw (← c.self.view_is) (table_set c.args.place w.channels.items w.named w.writing c.index_mut.result.now c.send.new.self c.index_mut.ensures.value (ap (λ (s : Session). s.id) c.send.ensures.value))
