use Rattle.jr_shown.proofs.Times.{none_first, none_second, two_found, two_great}
use Rattle.jr_shown.proofs.words.two_digits.Goals as goal

pub returns-in_default-clause-none : goal.returns-in_default-clause-none
returns-in_default-clause-none c = λ n rest less e. none_first c.args.text.now n rest c.in_default.ensures.none e

pub returns-in_default-digit-clause-none : goal.returns-in_default-digit-clause-none
returns-in_default-digit-clause-none c = λ n rest less e.
    none_second c.args.text.now c.in-Some.rest.now c.in-Some.tens n rest c.in-Some.ensures.found.1 c.in_default-digit.ensures.none e

pub returns-then-number-below-clause-found : goal.returns-then-number-below-clause-found
returns-then-number-below-clause-found c = (
  c.if-number-below.true,
  two_found c.args.text.now c.in-Some.rest.now c.in-Some-digit.rest.now c.in-Some.tens c.in-Some-digit.ones c.in-Some.ensures.found.0 c.in-Some-digit.ensures.found.0 c.in-Some.ensures.found.1
      c.in-Some-digit.ensures.found.1,
)

pub returns-else-number-below-clause-none : goal.returns-else-number-below-clause-none
returns-else-number-below-clause-none c = λ n rest less e.
    two_great c.args.text.now c.in-Some.rest.now c.in-Some-digit.rest.now c.in-Some.tens c.in-Some-digit.ones c.args.below n rest c.in-Some.ensures.found.0 c.in-Some-digit.ensures.found.0
    c.in-Some.ensures.found.1 c.in-Some-digit.ensures.found.1 c.if-number-below.false c.requires less e
