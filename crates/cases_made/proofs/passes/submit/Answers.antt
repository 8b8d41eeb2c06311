use Rattle.std.proofs.Common.{◌≡◌, ◌+◌, sym, ◌∙◌, arith}
use Rattle.cases_made.proofs.Driving.{passes_kept, known_kept}
use Rattle.cases_made.proofs.passes.submit.Goals as goal

pub submit-answer-requires-clause-own : goal.submit-answer-requires-clause-own
submit-answer-requires-clause-own g c = record { own = c.taken-pass.ensures.own; sender = let n = c.taken-pass.ensures.number in let s = c.requires.has.count in let w = c.requires.within.1 in omega (arith, n, s, w) }

pub returns : goal.returns
returns g c =
    let q = c.submit-answer.new.pass in
    let at : q.number ≡ c.args.sender = sym q.numbered ∙ (c.submit-answer.ensures.turn.number ∙ c.taken-pass.ensures.number) in
    record {
      has = passes_kept c.args.gate.now c.args.passes.now c.taken-pass.new.passes c.give.new.self c.args.senders c.args.sender c.taken-pass.result q c.requires.has c.taken-pass.ensures.there c.taken-pass.ensures.others at
          c.submit-answer.ensures.own.own c.submit-answer.ensures.free c.submit-answer.ensures.turn.made c.give.ensures.there c.give.ensures.others;
      connection = known_kept c.args.passes.now c.taken-pass.new.passes c.give.new.self c.args.sender (c.args.senders + 1) q (λ e. let w = c.requires.within.1 in omega (arith, e, w)) at c.taken-pass.ensures.others c.give.ensures.others;
    }
