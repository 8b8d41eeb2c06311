-- What the commands read of CONFIG, and what a status says of it.
use Rattle.std.specs.Prelude.{ℕ, List, IsErr}
use Rattle.cmd_config.specs.Settings.{settings_of_text}
use Rattle.schema_load.specs.Load.{plan_of_text}
use Rattle.cmd_base.specs.declared.status.Status.{Status}
use Rattle.cmd_base.specs.Texts.{Judges}
use Rattle.cmd_run.specs.declared.words.Command.{Command}
use Rattle.cmd_run.specs.declared.words.Command.TheVariants as commands

-- `answer` reads the settings of a session, `check`, `decode` and `encode` a schema, and `format`, `journal` and `migrate` nothing
abbrev pub JudgesBy : Command → List ℕ → Status → Type 0
JudgesBy commands.Answer text status = Judges status (settings_of_text text)
JudgesBy commands.Check text status = Judges status (plan_of_text text)
JudgesBy (commands.Decode shown) text status = Judges status (plan_of_text text)
JudgesBy commands.Encode text status = Judges status (plan_of_text text)
JudgesBy commands.Format text status = Unit {0}
JudgesBy commands.Journal text status = Unit {0}
JudgesBy commands.Migrate text status = Unit {0}

-- a text is no configuration of this command
abbrev pub IsRefused : Command → List ℕ → Type 0
IsRefused commands.Answer text = IsErr (settings_of_text text)
IsRefused commands.Check text = IsErr (plan_of_text text)
IsRefused (commands.Decode shown) text = IsErr (plan_of_text text)
IsRefused commands.Encode text = IsErr (plan_of_text text)
IsRefused commands.Format text = ⊥
IsRefused commands.Journal text = ⊥
IsRefused commands.Migrate text = ⊥
