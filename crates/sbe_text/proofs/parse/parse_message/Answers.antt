use Rattle.std.proofs.Common.{ℕ, List, Ok, Err}
use Rattle.std.specs.Prelude.{Result, IfOk}
use Rattle.sbe_layout.specs.declared.plan.Plan.{Plan}
use Rattle.sbe_value.specs.declared.message.Message.{Message}
use Rattle.sbe_grammar.specs.Fits.{Fits}
use Rattle.sbe_text.specs.declared.error.TextError.{TextError}
use Rattle.sbe_text.specs.Answers.{Tells}
use Rattle.sbe_text.specs.Reading.{message_of_text}
use Rattle.sbe_text.proofs.Fitting.{read_fits}
use Rattle.sbe_text.proofs.parse.parse_message.Goals as goal

told_fits : (schema : Plan) (bytes : List ℕ) (r : Result Message TextError) → Tells r (message_of_text schema bytes) → IfOk r (Fits schema)
told_fits schema bytes (Ok m) h = read_fits schema bytes m h
told_fits schema bytes (Err e) h = tt

pub returns-clause-fits : goal.returns-clause-fits
returns-clause-fits c = told_fits c.args.plan.now c.args.lines.now c.parse.result c.parse.ensures
