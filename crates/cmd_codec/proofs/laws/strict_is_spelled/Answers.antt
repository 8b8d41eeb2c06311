use Rattle.text_words.specs.Lines.{lines_in}
use Rattle.cmd_codec.proofs.Rows.{strict-all}
use Rattle.cmd_codec.proofs.laws.strict_is_spelled.Goals as goal

pub returns : goal.returns
returns c = record { law = λ plan text messages are. strict-all plan (lines_in text) messages are }
