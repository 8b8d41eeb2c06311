use Rattle.std.proofs.Common.{List, ap, subst, ◌∙◌, arith}
use Rattle.routes.specs.Identifiers.{EachOnce}
use Rattle.cmd_config.specs.declared.settings.Settings.{Settings}
use Rattle.cmd_muxanswer.specs.Sessions.{identifiers}
use Rattle.cmd_muxanswer.proofs.sessions.read_keys.Goals as goal

pub invariant_of-result : goal.invariant_of-result
invariant_of-result c = (
  record {
    some = omega (arith, c.in_ok-ensure_some.ensures.few.0, c.len.ensures, c.in_ok-list.list.ok.0);
    most = omega (arith, c.in_ok-ensure_some.ensures.few.1, c.len.ensures, c.in_ok-list.list.ok.0);
    once = subst (λ (l : List Settings). EachOnce (identifiers l)) c.as_slice.ensures.value c.in_ok-routes.ensures.once;
  },
  c.in_ok-routes.ensures.value ∙ ap identifiers c.as_slice.ensures.value,
)
