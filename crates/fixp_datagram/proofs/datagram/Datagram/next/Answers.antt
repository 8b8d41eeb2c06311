-- The frame at the front is that of the next message, and behind it are those of the others.
use Rattle.std.proofs.Common.{◌≡◌, ◌∷◌, take, drop, sym, ap, subst, ◌∙◌, arith}
use Rattle.sofh_frame.specs.Framing.{length_in}
use Rattle.fixp_msgs.specs.Payload.{IsApplication}
use Rattle.fixp_datagram.specs.Datagrams.{Contents}
use Rattle.fixp_datagram.specs.Opened.{payloads_in, AreApplications}
use Rattle.fixp_datagram.proofs.Reading.{IsNext, next_in, none_in}
use Rattle.fixp_datagram.proofs.datagram.Datagram.next.Goals as goal

pub returns-then-is_empty-clause-end : goal.returns-then-is_empty-clause-end
returns-then-is_empty-clause-end c =
    sym (ap (λ (d : Contents). d.payloads) c.self.view_is) ∙ none_in c.self.inside.rest.now (sym c.is_empty.ensures ∙ c.if-is_empty.true)

pub stated_size-requires : goal.stated_size-requires
stated_size-requires c =
    let next = next_in c.self.inside.rest.now c.self.invariant (sym c.is_empty.ensures ∙ c.if-is_empty.false) in
    omega (arith, next.some, next.whole)

pub split_at-requires : goal.split_at-requires
split_at-requires c =
    let next = next_in c.self.inside.rest.now c.self.invariant (sym c.is_empty.ensures ∙ c.if-is_empty.false) in
    omega (arith, next.whole, c.stated_size.ensures)

pub split_at-requires-2 : goal.split_at-requires-2
split_at-requires-2 c =
    let next = next_in c.self.inside.rest.now c.self.invariant (sym c.is_empty.ensures ∙ c.if-is_empty.false) in
    omega (arith, next.some, c.stated_size.ensures, c.split_at.ensures.front_len)

pub invariant_of-self : goal.invariant_of-self
invariant_of-self c =
    let held = c.self.inside.rest.now in
    let next = next_in held c.self.invariant (sym c.is_empty.ensures ∙ c.if-is_empty.false) in
    let is : c.split_at.result.1.now ≡ drop (length_in held) held = c.split_at.ensures.back ∙ ap (λ n. drop n held) c.stated_size.ensures in
    subst AreApplications (sym is) next.behind

pub returns-clause-given : goal.returns-clause-given
returns-clause-given c =
    let held = c.self.inside.rest.now in
    let size = length_in held in
    let next = next_in held c.self.invariant (sym c.is_empty.ensures ∙ c.if-is_empty.false) in
    let front : c.split_at.result.0.now ≡ take size held = c.split_at.ensures.front ∙ ap (λ n. take n held) c.stated_size.ensures in
    let back : c.split_at.result.1.now ≡ drop size held = c.split_at.ensures.back ∙ ap (λ n. drop n held) c.stated_size.ensures in
    let payload : c.split_at-2.result.1.now ≡ drop 4 (take size held) = c.split_at-2.ensures.back ∙ ap (drop 4) front in
    sym (ap (λ (d : Contents). d.payloads) c.self.view_is)
    ∙ (next.payloads
    ∙ (ap (λ p. p ∷ payloads_in (drop size held)) (sym payload)
    ∙ ap (λ behind. c.split_at-2.result.1.now ∷ payloads_in behind) (sym back)))

pub returns-clause-application : goal.returns-clause-application
returns-clause-application c =
    let held = c.self.inside.rest.now in
    let size = length_in held in
    let next = next_in held c.self.invariant (sym c.is_empty.ensures ∙ c.if-is_empty.false) in
    let front : c.split_at.result.0.now ≡ take size held = c.split_at.ensures.front ∙ ap (λ n. take n held) c.stated_size.ensures in
    let payload : c.split_at-2.result.1.now ≡ drop 4 (take size held) = c.split_at-2.ensures.back ∙ ap (drop 4) front in
    subst IsApplication (sym payload) next.application
