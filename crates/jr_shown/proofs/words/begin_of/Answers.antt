use Rattle.std.proofs.Common.{refl}
use Rattle.jr_shown.proofs.Times.{says_nothing}
use Rattle.jr_shown.proofs.words.begin_of.Goals as goal

pub returns-in-Some-clause-found : goal.returns-in-Some-clause-found
returns-in-Some-clause-found c = (c.in-Some.seconds, refl, c.in-Some.ensures.found)

pub returns-in-Some-counted_from_one-clause-found : goal.returns-in-Some-counted_from_one-clause-found
returns-in-Some-counted_from_one-clause-found c = c.in-Some-counted_from_one.ensures.found

pub returns-in-Some-counted_from_last-clause-found : goal.returns-in-Some-counted_from_last-clause-found
returns-in-Some-counted_from_last-clause-found c = c.in-Some-counted_from_last.ensures.found

pub returns-in-None-clause-none : goal.returns-in-None-clause-none
returns-in-None-clause-none c = says_nothing c.args.word.now c.in_default.ensures.none c.in_default-counted_from_one.ensures.none c.in-None.ensures.none
