use Rattle.std.proofs.Common.{Err, List, ℕ, ap, sym, ◌∙◌, subst}
use Rattle.std.specs.Option.{option_copied}
use Rattle.text_words.specs.Lines.{lines_in}
use Rattle.text_names.specs.Lines.{Narrowed, narrowed}
use Rattle.text_names.specs.Steps.{Goes, ahead}
use Rattle.text_names.proofs.Narrowing.{goes_narrows}
use Rattle.text_names.proofs.narrow.narrow_message.Goals as goal

pub returns-in-Err : goal.returns-in-Err
returns-in-Err c =
    let plan = c.args.plan.now in
    let out = c.loop-line.out in
    let new = c.add.new.self in
    let rest = lines_in c.in-Some.rest.now in
    let all = c.loop-line.invariant.0 ∙ ap (λ (ls : List (List ℕ)). ahead out.text.items out.numbers.items (narrowed plan (option_copied c.loop-line.layout) c.loop-line.number ls)) c.in-Some.ensures in
    record {
      narrowed =
          goes_narrows plan c.loop-line.number rest _ new.text.items new.numbers.items c.in-Err.e
          (subst (λ (n : Narrowed). Goes plan c.loop-line.number rest n new.text.items new.numbers.items (Err c.in-Err.e)) (sym all) (c.in-Err.ensures rest));
    }
