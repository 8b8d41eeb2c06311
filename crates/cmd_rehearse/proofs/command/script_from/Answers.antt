use Rattle.std.proofs.Common.{sym, ap, ◌∙◌}
use Rattle.cmd_script.specs.Script.{script_of_text}
use Rattle.cmd_rehearse.proofs.Reading.{same_reading}
use Rattle.cmd_rehearse.proofs.command.script_from.Goals as goal

pub returns-in-Ok-read_script-clause-ok : goal.returns-in-Ok-read_script-clause-ok
returns-in-Ok-read_script-clause-ok g c = λ text told.
    sym (same_reading (g.S.Source.left c.args.config.now) (g.S.Source.left c.read_text.new.source) c.in-Ok.text.items text told c.in-Ok.ensures.text c.in-Ok.ensures.whole)
    ∙ (ap script_of_text (sym c.as_slice.ensures.value) ∙ c.in-Ok-read_script.ensures.exact)

pub returns-clause-refused : goal.returns-clause-refused
returns-clause-refused g c = λ text told.
    sym (same_reading (g.S.Source.left c.args.config.now) (g.S.Source.left c.read_text.new.source) c.in-Ok.text.items text told c.in-Ok.ensures.text c.in-Ok.ensures.whole)
    ∙ (ap script_of_text (sym c.as_slice.ensures.value) ∙ c.in-Err.ensures.exact (sym c.is_memory.ensures ∙ c.if-is_memory.false))
