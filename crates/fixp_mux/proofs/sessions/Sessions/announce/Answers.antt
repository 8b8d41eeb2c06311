-- A Context is written where the last one does not name the session.
use Rattle.std.proofs.Common.{◌≡◌, ℕ, ◌∙◌, ◌<◌, ap, sym, length, arith, List}
use Rattle.sofh_frame.specs.Framing.{spelled}
use Rattle.fixp_mux.specs.Context.{context_frame}
use Rattle.fixp_mux.specs.Routing.{Table}
use Rattle.fixp_mux.proofs.Beginning.{announced_before, announced_now, names_other, names_place}
use Rattle.fixp_mux.proofs.Given.{stands_at}
use Rattle.fixp_mux.proofs.sessions.Sessions.announce.Goals as goal

pub returns-then-eq : goal.returns-then-eq
returns-then-eq c =
    let w = c.self.inside in
    let x = c.index.result.now in
    let within : c.args.place < length w.channels.items = omega (arith, c.requires.place, ap (λ (t : Table). length t.sessions) c.self.view_is) in
    let size : length x.id ≡ 16 = ap length (sym c.id-id.ensures.value) ∙ c.id-id.ensures.size in
    rw (← c.self.view_is) (announced_before w.channels.items w.named w.writing c.args.unsent.now c.args.place x (stands_at w.channels.items c.args.place x within c.index.ensures) size (names_place w.writing c.args.place (sym c.eq.ensures ∙ c.if-eq.true)))

pub returns : goal.returns
returns c =
    let w = c.self.inside in
    let x = c.index.result.now in
    let within : c.args.place < length w.channels.items = omega (arith, c.requires.place, ap (λ (t : Table). length t.sessions) c.self.view_is) in
    let size : length x.id ≡ 16 = ap length (sym c.id-id.ensures.value) ∙ c.id-id.ensures.size in
    rw (← c.self.view_is) (announced_now w.routes w.channels.items w.named w.writing c.args.unsent.now c.put.new.self c.context_bytes.result c.args.place x c.self.invariant (stands_at w.channels.items c.args.place x within c.index.ensures) size
    (names_other w.writing c.args.place (sym c.eq.ensures ∙ c.if-eq.false)) (c.context_bytes.ensures ∙ ap (λ (id : List ℕ). spelled (context_frame id)) c.id-id.ensures.value) c.put.ensures)
