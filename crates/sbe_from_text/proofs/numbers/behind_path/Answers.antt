use Rattle.std.proofs.Common.{◌≡◌, rules, arith}
use Rattle.std.proofs.lemmas.Grind.{common_steps}
use Rattle.sbe_from_text.proofs.Lined.{path_front}
use Rattle.sbe_from_text.proofs.numbers.behind_path.Goals as goal

pub returns : goal.returns
returns c =
    let same : c.in-Some.first.now ≡ c.in_ok-front.front.now = c.same_eight.ensures.0 (first_of (search rules, grind (arith, common_steps))) in
    path_front c.args.path.now c.args.text.now c.in-Some.first.now c.in_ok-front.front.now c.in-Some.others.now c.in_ok-front.rest.now c.in-Some.ensures.cases.0 c.in-Some.ensures.cases.1 c.in_ok-front.ensures.cases.0 c.in_ok-front.ensures.cases.1 same c.behind_word-2.result c.behind_word-2.ensures.front
