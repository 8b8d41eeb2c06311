use Rattle.std.proofs.Common.{◌≡◌, ◌+◌, refl, sym, ap, ◌∙◌, subst, arith, le_refl}
use Rattle.std.proofs.lemmas.Option.{none-some, same_Some}
use Rattle.gate_turn.specs.Listed.{known_if, known_at}
use Rattle.gate_turn.specs.Calls.{IsFree}
use Rattle.gate_senders.specs.Gate.{IsPassAt, HasBackAt}
use Rattle.gate_staff.specs.Seats.{IsBehind}
use Rattle.gate_staff.proofs.Seating.{last_back, taken_out}
use Rattle.gate_staff.proofs.seats.take_last.Goals as goal

pub unreachable-requires : goal.unreachable-requires
unreachable-requires g c = let b = last_back c.args.gate.now (c.args.senders + 1) c.args.passes.now c.args.senders refl c.requires.behind in none-some b.pass (sym c.in_default.is ∙ (c.take.ensures.exact ∙ b.there))

pub returns : goal.returns
returns g c =
    let b = last_back c.args.gate.now (c.args.senders + 1) c.args.passes.now c.args.senders refl c.requires.behind in
    let same = same_Some b.pass c.in-Some.pass (sym b.there ∙ (sym c.take.ensures.exact ∙ c.in-Some.is)) in
    let there = sym c.take.ensures.exact ∙ c.in-Some.is in
    let at : c.in-Some.pass.number ≡ c.args.senders + 1 = c.args.passes.now.in_place (c.args.senders + 1) c.in-Some.pass (sym c.take.ensures.exact ∙ c.in-Some.is) in
    record {
      own = subst (λ p. IsPassAt c.args.gate.now p) same b.own;
      free = subst (λ p. IsFree p) same b.free;
      number = c.in-Some.pass.numbered ∙ at;
      first = λ e.
          let one : 1 ≡ c.args.senders + 1 = omega (arith, e) in
          sym (ap (λ k. (known_at c.args.passes.now k).made) one ∙ ap (λ o. (known_if o).made) there) ∙ c.requires.behind.first e ∙ sym one;
      there = there;
      others = c.take.ensures.others;
      behind = taken_out c.args.gate.now (c.args.senders + 1) c.args.passes.now c.take.new.self c.args.senders c.take.ensures.gone c.take.ensures.others c.requires.behind;
    }
