use Rattle.std.proofs.Common.{◌≡◌, IfOk, subst}
use Rattle.gw_rehearse.specs.declared.summary.EndSummary.{EndSummary}
use Rattle.gw_rehearse.specs.Summaries.{summary_of}
use Rattle.cmd_rehearse.specs.Lines.{summary_lines}
use Rattle.cmd_rehearse.proofs.command.lines_of.Goals as goal

pub returns : goal.returns
returns c =
    subst (λ (i : EndSummary). IfOk c.summary_lines.result (λ lines. lines.items ≡ summary_lines i (summary_of c.args.rehearsal.now.acceptor))) c.in_ok-initiator.ensures.value
    (subst (λ (a : EndSummary). IfOk c.summary_lines.result (λ lines. lines.items ≡ summary_lines c.in_ok-initiator.initiator a)) c.in_ok-acceptor.ensures.value c.summary_lines.ensures)
