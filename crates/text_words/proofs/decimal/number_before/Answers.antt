use Rattle.std.proofs.Common.{sym}
use Rattle.text_words.proofs.Decimals.{no_front, only_front}
use Rattle.text_words.proofs.decimal.number_before.Goals as goal

pub returns-in_default-clause-none : goal.returns-in_default-clause-none
returns-in_default-clause-none c n rest small e = no_front c.args.text.now rest c.args.end n c.in_default.ensures.none e

pub returns-in-None-clause-none : goal.returns-in-None-clause-none
returns-in-None-clause-none c n rest small e =
    c.in-None.ensures.none n small (only_front c.args.text.now _ _ rest c.args.end n c.in-Some.ensures.found c.in-Some.ensures.first small c.requires.no_digit e).0

pub returns-in-Some-number-clause-only : goal.returns-in-Some-number-clause-only
returns-in-Some-number-clause-only c m rest small e =
    let one = only_front c.args.text.now _ _ rest c.args.end m c.in-Some.ensures.found c.in-Some.ensures.first small c.requires.no_digit e in
    (c.in-Some-number.ensures.only m small one.0, sym one.1)
