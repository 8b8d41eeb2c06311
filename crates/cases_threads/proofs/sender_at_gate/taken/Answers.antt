use Rattle.std.proofs.Common.{sym, ◌∙◌, subst}
use Rattle.std.proofs.lemmas.Option.{none-some, same_Some}
use Rattle.gate_turn.specs.Calls.{IsFree}
use Rattle.gate_senders.specs.Gate.{IsPassAt}
use Rattle.cases_threads.proofs.sender_at_gate.taken.Goals as goal

pub unreachable-requires : goal.unreachable-requires
unreachable-requires c = let b = c.requires.back in none-some b.pass (sym c.in_default.is ∙ (c.take.ensures.exact ∙ b.there))

pub returns : goal.returns
returns c = let b = c.requires.back in
    let same = same_Some b.pass c.in-Some.pass (sym b.there ∙ (sym c.take.ensures.exact ∙ c.in-Some.is)) in
    record {
      there = sym c.in-Some.is ∙ c.take.ensures.exact;
      own = subst (λ p. IsPassAt c.args.gate.now p) same b.own;
      free = subst (λ p. IsFree p) same b.free;
      gone = c.take.ensures.gone;
      others = c.take.ensures.others;
    }
