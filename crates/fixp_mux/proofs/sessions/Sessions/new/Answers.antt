-- The sessions of a new router.
use Rattle.std.proofs.Common.{◌∙◌, Err, ap, sym, subst}
use Rattle.routes.specs.Identifiers.{EachOnce}
use Rattle.fixp_mux.specs.State.{ids_of}
use Rattle.fixp_mux.proofs.Placing.{ids_new}
use Rattle.fixp_mux.proofs.sessions.Sessions.new.Goals as goal

pub returns-in-Err-clause-doubled : goal.returns-in-Err-clause-doubled
returns-in-Err-clause-doubled c = λ place e. c.in-Err.ensures.doubled place (ap Err (c.refused.ensures.doubled place (cc e)))

pub invariant_of-result : goal.invariant_of-result
invariant_of-result c = record {
  are = c.in-Ok.ensures.value ∙ sym (ap ids_of c.in-Ok-open_all.ensures ∙ ids_new c.args.ids.now);
  once = c.in-Ok.ensures.once;
  named = tt;
  writing = tt;
}

pub returns-clause-once : goal.returns-clause-once
returns-clause-once c = subst EachOnce c.in-Ok.ensures.value c.in-Ok.ensures.once
