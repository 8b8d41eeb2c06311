use Rattle.std.proofs.Common.{[], Ok, refl, sym, ap, subst, ◌∙◌}
use Rattle.std.proofs.lemmas.Option.{same_Some}
use Rattle.gate_senders.specs.Gate.{IsPassAt}
use Rattle.gate_turn.specs.Calls.{IsFree}
use Rattle.gate_turn.specs.Places.{known}
use Rattle.gate_turn.specs.Listed.{known_if}
use Rattle.order_gate.specs.Reported.{Reported}
use Rattle.order_gate.proofs.Parts.{reported_counted}
use Rattle.order_gate.proofs.desk.Desk.count.Goals as goal

pub mine-made-requires-clause-own : goal.mine-made-requires-clause-own
mine-made-requires-clause-own g c = let s = c.requires.seated in subst (λ x. IsPassAt c.args.gate.now x) (same_Some s.pass c.in-Some.pass (sym s.there ∙ c.in-Some.is)) s.own

pub mine-made-requires-clause-free : goal.mine-made-requires-clause-free
mine-made-requires-clause-free g c = let s = c.requires.seated in subst (λ x. IsFree x) (same_Some s.pass c.in-Some.pass (sym s.there ∙ c.in-Some.is)) s.free

pub returns-clause-manned : goal.returns-clause-manned
returns-clause-manned g c =
    let s = c.requires.seated in
    let e = c.mine-made.ensures in
    record {
      pass = c.mine-made.new.pass;
      there = refl;
      own = e.own;
      free = e.free;
      number = e.turn.number ∙ ap (λ x. (known x).number) (sym (same_Some s.pass c.in-Some.pass (sym s.there ∙ c.in-Some.is))) ∙ s.number;
      made = sym e.exact;
    }

pub returns-clause-counted : goal.returns-clause-counted
returns-clause-counted g c =
    let q = c.mine-made.new.pass in
    let e = c.mine-made.ensures in
    subst (λ k. Reported k (known q) [] (Ok tt)) (sym (ap known_if c.in-Some.is)) (reported_counted (known c.in-Some.pass) (known q) e.turn e.same.1 e.same.0 e.unlost)
