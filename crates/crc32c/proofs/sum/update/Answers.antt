use Rattle.std.proofs.Common.{arith, ◌∙◌}
use Rattle.crc32c.proofs.Steps.{complement}
use Rattle.crc32c.proofs.Pieces.{ended, went_on}
use Rattle.crc32c.proofs.sum.update.Goals as goal

pub returns-clause-value : goal.returns-clause-value
returns-clause-value c =
    ended c.args.sum _ c.args.bytes.now c.take_last.result (omega arith) (complement c.args.sum (omega arith)) (c.take_last.ensures.value ∙ c.take_eights-register.ensures.value)

pub returns-clause-goes_on : goal.returns-clause-goes_on
returns-clause-goes_on c = λ front is.
    ended c.args.sum _ c.args.bytes.now c.take_last.result (omega arith) (complement c.args.sum (omega arith)) (c.take_last.ensures.value ∙ c.take_eights-register.ensures.value)
    ∙ went_on front c.args.bytes.now c.args.sum is
