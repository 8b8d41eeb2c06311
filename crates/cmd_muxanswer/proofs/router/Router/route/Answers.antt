use Rattle.std.proofs.Common.{None, sym, subst}
use Rattle.std.proofs.lemmas.Result.{IfOk-weaker}
use Rattle.fixp_mux.specs.Context.{Says}
use Rattle.fixp_mux.specs.Parts.{named_behind}
use Rattle.cmd_muxanswer.specs.declared.unrouted.Unrouted.TheVariants.{BadFrame}
use Rattle.cmd_muxanswer.specs.Sessions.{identifiers}
use Rattle.cmd_muxanswer.specs.Input.{IsUnrouted}
use Rattle.cmd_muxanswer.proofs.router.Router.route.Goals as goal

pub returns-in-Names-clause-routed : goal.returns-in-Names-clause-routed
returns-in-Names-clause-routed c = λ sessions frames wire out holds. c.name.ensures.named sessions frames wire out _ (sym c.in-Names.ensures) holds

pub returns-in-Malformed-clause-routed : goal.returns-in-Malformed-clause-routed
returns-in-Malformed-clause-routed c = λ sessions frames wire out holds.
    (holds, subst (λ (s : Says). IsUnrouted (identifiers sessions) (named_behind None frames) s BadFrame) c.in-Malformed.ensures tt)

pub returns-in-Carries-clause-routed : goal.returns-in-Carries-clause-routed
returns-in-Carries-clause-routed c =
    IfOk-weaker c.carry.result _ _ (λ why p. λ sessions frames wire out holds. p sessions frames wire out (sym c.in-Carries.ensures) holds) c.carry.ensures.carried
