use Rattle.std.proofs.Common.{rules, ◌≡◌, ◌<◌, true, false, length, slice_index_or, Ok, OnOk, sym, ◌∙◌, arith}
use Rattle.gate_staff.specs.Business.{lock_of}
use Rattle.gate_senders.specs.Gate.{senders_of}
use Rattle.order_gate.specs.declared.hand.Hand.{Hand}
use Rattle.order_gate.specs.Standing.{at_place}
use Rattle.order_gate.proofs.Settling.{others_stay, first_ready, first_closed}
use Rattle.order_gate.proofs.desks.Desks.finish.Goals as goal

pub finish-answer-requires : goal.finish-answer-requires
finish-answer-requires g c =
    let d = c.args.self.now in
    let own = c.requires.own in
    let inside : 0 < length d.hands.items = omega (arith, c.requires.some, own.hands.long) in
    let there = at_place d.hands.items 0 inside in
    record { ready = first_ready (lock_of c.args.gate.now) d own c.requires.counted c.requires.some c.index_mut-first.result.now (λ h. there.at h ∙ sym (c.index_mut-first.ensures.value ∙ there.at _)) (senders_of c.args.gate.now) c.requires.few }

pub returns-then-is_ok-clause-own : goal.returns-then-is_ok-clause-own
returns-then-is_ok-clause-own g c =
    let d = c.args.self.now in
    let own = c.requires.own in
    let inside : 0 < length d.hands.items = omega (arith, c.requires.some, own.hands.long) in
    let there = at_place d.hands.items 0 inside in
    first_closed (lock_of c.args.gate.now) d own c.requires.counted c.requires.some c.index_mut-first.result.now (λ h. there.at h ∙ sym (c.index_mut-first.ensures.value ∙ there.at _))
    c.finish-answer.new.self c.finish-answer.ensures.ready.manned c.finish-answer.ensures.same.0 true (λ e. search (rules, c.if-is_ok.true, c.if-is_ok.ensures.value, c.finish-answer.ensures.finished.marked))

pub returns-then-is_ok-clause-others : goal.returns-then-is_ok-clause-others
returns-then-is_ok-clause-others g c = λ n ne. others_stay c.args.self.now.hands.items _ n ne

pub returns-else-is_ok-clause-own : goal.returns-else-is_ok-clause-own
returns-else-is_ok-clause-own g c =
    let d = c.args.self.now in
    let own = c.requires.own in
    let inside : 0 < length d.hands.items = omega (arith, c.requires.some, own.hands.long) in
    let there = at_place d.hands.items 0 inside in
    first_closed (lock_of c.args.gate.now) d own c.requires.counted c.requires.some c.index_mut-first.result.now (λ h. there.at h ∙ sym (c.index_mut-first.ensures.value ∙ there.at _))
    c.finish-answer.new.self c.finish-answer.ensures.ready.manned c.finish-answer.ensures.same.0 d.met (λ e. absurd (cc (e, c.requires.unmet)))

pub returns-else-is_ok-clause-others : goal.returns-else-is_ok-clause-others
returns-else-is_ok-clause-others g c = λ n ne. others_stay c.args.self.now.hands.items _ n ne
