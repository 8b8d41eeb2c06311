use Rattle.std.proofs.Common.{◌<◌, length, sym, subst, rules, arith}
use Rattle.std.proofs.lemmas.Grind.{common_steps}
use Rattle.std.specs.Option.{option_copied}
use Rattle.text_names.specs.Lines.{Narrowed}
use Rattle.text_names.specs.Steps.{Goes, ahead}
use Rattle.text_names.proofs.Narrowing.{some_words}
use Rattle.text_names.proofs.narrow.Narrow.add_other.Goals as goal

pub returns : goal.returns
returns c = λ ls.
    let old = c.args.self.now in
    let new = c.add_words.new.self in
    let some : 0 < length c.args.line.now = first_of (search rules, grind (arith, common_steps)) in
    subst (λ (n : Narrowed). Goes c.args.plan.now c.args.number ls (ahead old.text.items old.numbers.items n) new.text.items new.numbers.items c.add_words.result)
    (sym (some_words c.args.plan.now (option_copied c.args.layout) c.args.number c.args.line.now ls some))
    (c.add_words.ensures ls)
