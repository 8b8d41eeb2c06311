use Rattle.std.proofs.Common.{sym, ◌∙◌, subst}
use Rattle.std.proofs.lemmas.Option.{none-some, same_Some}
use Rattle.gate_turn.specs.Calls.{IsFree}
use Rattle.gate_senders.specs.Gate.{IsPassAt}
use Rattle.cases_made.proofs.Driving.{pass_back}
use Rattle.cases_made.proofs.passes.taken.Goals as goal

pub unreachable-requires : goal.unreachable-requires
unreachable-requires c =
    let b = pass_back c.args.gate.now c.args.passes.now c.args.senders c.args.number c.requires.has c.requires.within.0 c.requires.within.1 in
    none-some b.pass (sym c.in_default.is ∙ (c.take.ensures.exact ∙ b.there))

pub returns : goal.returns
returns c =
    let b = pass_back c.args.gate.now c.args.passes.now c.args.senders c.args.number c.requires.has c.requires.within.0 c.requires.within.1 in
    let there = sym c.take.ensures.exact ∙ c.in-Some.is in
    let same = same_Some b.pass c.in-Some.pass (sym b.there ∙ there) in
    record {
      there = there;
      own = subst (λ p. IsPassAt c.args.gate.now p) same b.own;
      free = subst (λ p. IsFree p) same b.free;
      number = c.in-Some.pass.numbered ∙ c.args.passes.now.in_place c.args.number c.in-Some.pass there;
      gone = c.take.ensures.gone;
      others = c.take.ensures.others;
    }
