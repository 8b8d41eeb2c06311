-- The identifier that stands twice is the table's.
use Rattle.std.proofs.Common.{Err, ap}
use Rattle.fixp_mux.proofs.mux.Mux.new.Goals as goal

pub returns-in-Err-clause-doubled : goal.returns-in-Err-clause-doubled
returns-in-Err-clause-doubled c = λ place e. c.in-Err.ensures.doubled place (ap Err (cc e))
