use Rattle.std.proofs.Common.{sym, ◌∙◌}
use Rattle.text_names.proofs.Choosing.{first_choice, wrong_choice}
use Rattle.text_names.proofs.Cuts.{cut_shorter}
use Rattle.text_names.proofs.names.number_of_choices.Goals as goal

pub loop-word-smaller : goal.loop-word-smaller
loop-word-smaller c = cut_shorter 124 c.loop-word.left.now (c.in-Some.word.now, c.in-Some.rest.now) (sym c.in-Some.ensures)

pub loop-word-preserved : goal.loop-word-preserved
loop-word-preserved c =
    first_choice c.args.bits.now c.loop-word.left.now c.in-Some.word.now c.in-Some.rest.now c.loop-word.number c.in-Ok.more (sym c.in-Some.ensures) (rw c.trimmed.ensures at c.in-Ok.ensures) ∙ c.loop-word.invariant

pub returns-in-Err : goal.returns-in-Err
returns-in-Err c =
    wrong_choice c.args.bits.now c.loop-word.left.now c.in-Some.word.now c.in-Some.rest.now c.loop-word.number c.in-Err.slip _ (sym c.in-Some.ensures) (rw c.trimmed.ensures at c.in-Err.ensures) c.loop-word.invariant
