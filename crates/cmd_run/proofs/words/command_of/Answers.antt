use Rattle.std.proofs.Common.{sym, ap, ◌∙◌}
use Rattle.std.specs.Prelude.{string_bytes}
use Rattle.cmd_run.specs.Words.{before_four, before_three}
use Rattle.cmd_run.proofs.Forms.{of_five_words, of_four_words}
use Rattle.cmd_run.proofs.words.command_of.Goals as goal

pub returns-in-len4 : goal.returns-in-len4
returns-in-len4 c =
    let one = c.command-item-then-words-lt5 in
    c.before_three.ensures ∙ ap before_three c.as_str-in-len4.ensures.value ∙ sym (of_four_words c.args.words.now one.result c.in-len4.len_at_least c.in-len4.len_below one.is)

pub returns-in-len5 : goal.returns-in-len5
returns-in-len5 c =
    let one = c.command-item-then-words-lt6 in
    let two = c.second-item in
    c.before_four.ensures ∙ ap (λ w. before_four w c.as_str-in-len5-2.result.now) c.as_str-in-len5.ensures.value ∙ ap (before_four (string_bytes one.result)) c.as_str-in-len5-2.ensures.value
    ∙ sym (of_five_words c.args.words.now one.result two.result c.in-len5.len_at_least c.in-len5.len_below one.is two.is)
