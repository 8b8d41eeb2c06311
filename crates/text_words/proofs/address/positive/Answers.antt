use Rattle.std.proofs.Common.{arith}
use Rattle.text_words.proofs.address.positive.Goals as goal

pub returns-in_default-clause-none : goal.returns-in_default-clause-none
returns-in_default-clause-none c n h = let same = c.in-Some.ensures.only n (omega (arith, h.most)) h.written in omega (arith, same, h.most)

pub returns-in_default-2-clause-none : goal.returns-in_default-2-clause-none
returns-in_default-2-clause-none c n h = let same = c.in-Some.ensures.only n (omega (arith, h.most)) h.written in omega (arith, same, h.least)
