use Rattle.std.proofs.Common.{◌≡◌, ◌∷◌, [], ◌++◌, true, codes, rules, arith}
use Rattle.std.proofs.lemmas.Grind.{common_steps}
use Rattle.sbe_grammar.specs.Values.{is_in}
use Rattle.sbe_text.specs.Written.{raw_text}
use Rattle.sbe_text.proofs.Walked.{datum_printed}
use Rattle.sbe_text.proofs.wire.print_datum.Goals as goal

pub returns : goal.returns
returns c =
    let r = c.args.reading in
    let d = c.args.plan.now in
    let old = c.args.lines.now.items in
    let before = c.args.before.now in
    let bytes = c.in_ok-bytes.bytes.now in
    let here : is_in r.version d.since ≡ true = first_of (search rules, grind (arith, common_steps)) in
    let lines : c.extend_from_slice-2.new.self.items ≡ old ++ before ++ d.name ++ codes " = " ++ raw_text bytes ++ 10 ∷ [] = first_of (search rules, grind (arith, common_steps)) in
    datum_printed r.order r.version r.total before old c.extend_from_slice-2.new.self.items d c.args.left.now bytes c.in_ok-bytes.rest.now here c.in_ok-bytes.ensures lines
