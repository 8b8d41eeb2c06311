use Rattle.text_words.specs.Lines.{lines_in}
use Rattle.text_names.proofs.Kept.{stays}
use Rattle.text_names.proofs.laws.strict_stays.Goals as goal

pub returns : goal.returns
returns c = record { law = λ schema text m rest plain e. stays schema (lines_in text) m rest plain e }
