use Rattle.std.proofs.Common.{◌≡◌, ◌∙◌, ◌-◌, sym, get_or, length, take, drop, rules, arith}
use Rattle.std.proofs.lemmas.Grind.{common_steps}
use Rattle.sbe_from_text.proofs.Lined.{equals_and_rest, line_ended}
use Rattle.sbe_from_text.proofs.numbers.natural_line.Goals as goal

pub returns : goal.returns
returns c =
    let before = c.args.before.now in
    let name = c.args.name.now in
    let own = c.in_ok-own.own.now in
    let rest = c.in_ok-rest.rest.now in
    let text = take (length rest - 3) (drop 3 rest) in
    let blank : get_or rest 0 0 ≡ 32 = first_of (omega arith, search rules, grind (arith, common_steps)) in
    let equals : get_or rest 1 0 ≡ 61 = first_of (omega arith, search rules, grind (arith, common_steps)) in
    let second : get_or rest 2 0 ≡ 32 = first_of (omega arith, search rules, grind (arith, common_steps)) in
    line_ended before name c.args.left.now own rest text c.split_at.result.1.now c.in_ok-rest-2.rest.now c.in_ok-number.count c.in_ok-number.number c.requires c.in_ok-rest.ensures.word c.in_ok-own.ensures c.in_ok-rest.ensures.front (equals_and_rest rest c.in-32.len_at_least blank equals second) c.in_ok-number.ensures.number c.in_ok-number.ensures.word
    (sym c.split_at.ensures.back) c.in_ok-rest-2.ensures
