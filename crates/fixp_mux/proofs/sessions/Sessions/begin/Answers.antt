-- The next frame of a session is moved, behind its Context.
use Rattle.std.proofs.Common.{◌≡◌, ◌<◌, ◌++◌, ℕ, ◌∙◌, List, length, take, ap, sym, subst, arith, length-append}
use Rattle.sofh_frame.specs.Framing.{BeginsWith, Frame}
use Rattle.sofh_frame.specs.Splits.{spelled_all}
use Rattle.fixp_mux.specs.Begun.{contexts_before}
use Rattle.fixp_mux.specs.Context.{carries, says}
use Rattle.fixp_mux.specs.Routing.{Table}
use Rattle.fixp_mux.specs.Saying.{said}
use Rattle.fixp_mux.specs.State.{Session}
use Rattle.fixp_mux.proofs.Beginning.{began_in, contexts_short}
use Rattle.fixp_mux.proofs.Given.{same_read}
use Rattle.fixp_mux.proofs.Placing.{router_set}
use Rattle.fixp_mux.proofs.sessions.Sessions.begin.Goals as goal

pub put-requires : goal.put-requires
put-requires c =
    let a = c.announce.ensures in
    let ctx : List ℕ = spelled_all (contexts_before c.args.self.now.writing a.session.id) in
    omega (arith, ap length a.wrote, length-append c.args.unsent.now ctx, contexts_short c.args.self.now.writing a.session.id a.size, c.split_at.ensures.front_len, c.if-len-size-gt-SESSION_ROOM.false, c.len.ensures.value)

pub invariant_of-self : goal.invariant_of-self
invariant_of-self c =
    let w = c.self-2.inside in
    router_set w.routes c.args.place w.channels.items w.named w.writing c.index_mut.result.now c.drop_output.new.self c.index_mut.ensures.value (ap (λ (s : Session). s.id) c.drop_output.ensures) c.self-2.invariant

pub returns : goal.returns
returns c =
    let w = c.self.inside in
    let v = c.self-2.inside in
    let place = c.args.place in
    let x = c.index.result.now in
    let y = c.index_mut.result.now in
    let size = c.in-Frame.size in
    let f : Frame = record { order = c.in-Frame.order; message = c.in-Frame.message.now } in
    let within : place < length w.channels.items = omega (arith, c.requires, ap (λ (t : Table). length t.sessions) c.self.view_is) in
    let is : says f ≡ carries = sym c.read_saying.ensures ∙ ap said c.in-Carries.is in
    let within' : place < length v.channels.items = omega (arith, within, ap (λ (t : Table). length t.sessions) c.self.view_is, ap (λ (t : Table). length t.sessions) c.self-2.view_is, ap (λ (t : Table). length t.sessions) c.announce.ensures.is) in
    let there = same_read v.channels.items place c.index-2.result.now y within' c.index-2.ensures c.index_mut.ensures.value in
    let put : c.put.new.self ≡ c.announce.new.unsent ++ take size y.output =
    c.put.ensures ∙ ap (λ (bs : List ℕ). c.announce.new.unsent ++ bs) (c.split_at.ensures.front ∙ ap (take size) (c.output-2.ensures ∙ ap (λ (s : Session). s.output) there)) in
    record {
      moved = began_in w.routes c.args.self.now c.announce.new.self c.args.unsent.now c.announce.new.unsent c.put.new.self w.channels.items v.channels.items w.named w.writing v.named v.writing place x y c.drop_output.new.self f size
          c.self.invariant c.self.view_is c.announce.ensures c.self-2.view_is within c.index.ensures c.index_mut.ensures.value
          (subst (λ (bs : List ℕ). BeginsWith bs f size) c.output.ensures c.in-Frame.ensures.found) is c.drop_output.ensures put;
      none = λ e. absurd (cc e);
    }
