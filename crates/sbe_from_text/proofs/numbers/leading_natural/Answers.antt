use Rattle.std.proofs.Common.{arith}
use Rattle.sbe_from_text.proofs.Lined.{few, leading_found, leading_word}
use Rattle.sbe_from_text.proofs.numbers.leading_natural.Goals as goal

pub returns-clause-number : goal.returns-clause-number
returns-clause-number c =
    leading_found c.args.text.now c.in_ok-number.number c.in_ok-number.count c.in-len1-up.len_at_least c.in_ok-number.ensures (omega arith) (omega arith) (few _ c.in_ok-number.count c.if-count-gt1.either)

pub returns-clause-word : goal.returns-clause-word
returns-clause-word c = leading_word c.args.text.now _ _ c.in_ok-number.ensures
