use Rattle.std.proofs.Common.{ap, ◌∙◌, arith, le_refl}
use Rattle.gate_turn.specs.Listed.{pass_at}
use Rattle.gate_senders.specs.Gate.{opening_of}
use Rattle.gate_turn.proofs.Returning.{number_of, back_again}
use Rattle.cases_threads.proofs.sender_at_gate.at_once.Goals as goal

pub taken-first-requires : goal.taken-first-requires
taken-first-requires g c = record { back = (c.requires.made.each 1 (record { from_one = le_refl 1; up_to = omega arith })).0 }

pub taken-second-requires : goal.taken-second-requires
taken-second-requires g c =
    let b = (c.requires.made.each 2 (record { from_one = omega arith; up_to = le_refl 2 })).0 in
    record { back = record { pass = b.pass; there = c.taken-first.ensures.others 2 (λ e. omega arith) ∙ b.there; own = b.own; free = b.free } }

pub give-requires : goal.give-requires
give-requires g c = (
  omega arith,
  ap (pass_at c.taken-second.new.passes) (number_of c.args.passes 1 c.taken-first.result c.join-first.result.0 c.taken-first.ensures.there c.join-first.ensures.first.2)
      ∙ (c.taken-second.ensures.others 1 (λ e. omega arith) ∙ c.taken-first.ensures.gone),
)

pub give-requires-2 : goal.give-requires-2
give-requires-2 g c =
    let one = number_of c.args.passes 1 c.taken-first.result c.join-first.result.0 c.taken-first.ensures.there c.join-first.ensures.first.2 in
    let two = number_of c.taken-first.new.passes 2 c.taken-second.result c.ended-last.result c.taken-second.ensures.there (c.ended-last.ensures.kept.0 ∙ c.join-first.ensures.second.2) in (
      omega arith,
      ap (pass_at c.give.new.self) two ∙ (c.give.ensures.others 2 (λ e. let f = e ∙ one in omega arith) ∙ c.taken-second.ensures.gone),
    )

pub close-requires : goal.close-requires
close-requires g c = (
  omega arith,
  back_again c.args.gate.lock (opening_of c.args.gate) c.args.passes c.taken-first.new.passes c.taken-second.new.passes c.give.new.self c.give-2.new.self
      c.taken-first.result c.taken-second.result c.join-first.result.0 c.ended-last.result c.requires.made
      c.taken-first.ensures.there c.taken-first.ensures.others c.taken-second.ensures.there c.taken-second.ensures.others
      c.join-first.ensures.first
      (c.ended-last.ensures.own, c.ended-last.ensures.free, c.ended-last.ensures.kept.0 ∙ c.join-first.ensures.second.2, c.ended-last.ensures.kept.1 ∙ c.join-first.ensures.second.3)
      c.give.ensures.there c.give.ensures.others c.give-2.ensures.there c.give-2.ensures.others,
)
