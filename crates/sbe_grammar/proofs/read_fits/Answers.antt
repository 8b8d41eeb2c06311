use Rattle.sbe_grammar.proofs.Fitting.{fits}
use Rattle.sbe_grammar.proofs.read_fits.Goals as goal

pub returns : goal.returns
returns c = record { law = fits }
