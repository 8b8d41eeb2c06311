-- The session named last is given the frame, or it stays or is dropped.
use Rattle.std.proofs.Common.{◌≡◌, ◌∙◌, ◌+◌, false, ap, sym, length}
use Rattle.sofh_frame.specs.Framing.{Frame}
use Rattle.fixp_mux.specs.State.{Session}
use Rattle.fixp_mux.proofs.Given.{full_at, gave_at, last_is, over_room, passed_released, same_session}
use Rattle.fixp_mux.proofs.Placing.{router_set}
use Rattle.fixp_mux.proofs.sessions.Sessions.give.Goals as goal

pub returns-then-is_released : goal.returns-then-is_released
returns-then-is_released c =
    let w = c.self.inside in
    let place = c.in-Some.place in
    let x = c.index.result.now in
    let f : Frame = record { order = c.args.order; message = c.args.message.now } in
    rw (← c.self.view_is) (passed_released w.channels.items w.named w.writing place x f (last_is w.routes w.channels.items w.named w.writing place x c.self.invariant c.in-Some.is c.index.ensures) c.requires.carries (sym c.is_released.ensures ∙ c.if-is_released.true))

pub returns-then-not-has_room : goal.returns-then-not-has_room
returns-then-not-has_room c =
    let w = c.self.inside in
    let place = c.in-Some.place in
    let x = c.index.result.now in
    let y = c.index-2.result.now in
    let f : Frame = record { order = c.args.order; message = c.args.message.now } in
    let one = last_is w.routes w.channels.items w.named w.writing place x c.self.invariant c.in-Some.is c.index.ensures in
    let other = last_is w.routes w.channels.items w.named w.writing place y c.self.invariant c.in-Some.is c.index-2.ensures in
    let kept : y.is_released ≡ false = ap (λ (s : Session). s.is_released) (same_session w.channels.items w.named place y x other one) ∙ sym c.is_released.ensures ∙ c.if-is_released.false in
    rw (← c.self.view_is) (full_at w.channels.items w.named w.writing place y f other c.requires.carries kept (over_room c.has_room.result (length y.input + (6 + length c.args.message.now)) 65560 c.has_room.ensures c.if-not-has_room.true))

pub invariant_of-self : goal.invariant_of-self
invariant_of-self c =
    let w = c.self.inside in
    router_set w.routes c.in-Some.place w.channels.items w.named w.writing c.index_mut.result.now c.give_frame.new.self c.index_mut.ensures.value (ap (λ (s : Session). s.id) c.give_frame.ensures) c.self.invariant

pub returns : goal.returns
returns c =
    let w = c.self.inside in
    let place = c.in-Some.place in
    let x = c.index.result.now in
    let y = c.index_mut.result.now in
    let f : Frame = record { order = c.args.order; message = c.args.message.now } in
    let one = last_is w.routes w.channels.items w.named w.writing place x c.self.invariant c.in-Some.is c.index.ensures in
    let other = last_is w.routes w.channels.items w.named w.writing place y c.self.invariant c.in-Some.is c.index_mut.ensures.value in
    let kept : y.is_released ≡ false = ap (λ (s : Session). s.is_released) (same_session w.channels.items w.named place y x other one) ∙ sym c.is_released.ensures ∙ c.if-is_released.false in
    rw (← c.self.view_is) (gave_at w.channels.items w.named w.writing place y c.give_frame.new.self f other c.index_mut.ensures.value c.requires.carries kept c.give_frame.ensures)
