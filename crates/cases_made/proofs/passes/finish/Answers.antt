use Rattle.std.proofs.Common.{◌≡◌, ◌+◌, sym, ◌∙◌, arith}
use Rattle.cases_made.proofs.Driving.{passes_kept, known_kept}
use Rattle.cases_made.proofs.passes.finish.Goals as goal

pub returns : goal.returns
returns g c =
    let q = c.finish-answer.new.pass in
    let at : q.number ≡ 1 = sym q.numbered ∙ (c.finish-answer.ensures.turn.number ∙ c.taken-pass.ensures.number) in
    record {
      has = passes_kept c.args.gate.now c.args.passes.now c.taken-pass.new.passes c.give.new.self c.args.senders 1 c.taken-pass.result q c.requires.has c.taken-pass.ensures.there c.taken-pass.ensures.others at
          c.finish-answer.ensures.own c.finish-answer.ensures.free c.finish-answer.ensures.turn.made c.give.ensures.there c.give.ensures.others;
      connection = known_kept c.args.passes.now c.taken-pass.new.passes c.give.new.self 1 (c.args.senders + 1) q (λ e. let w = c.requires.has.some in omega (arith, e, w)) at c.taken-pass.ensures.others c.give.ensures.others;
    }
