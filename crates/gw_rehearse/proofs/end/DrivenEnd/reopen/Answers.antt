use Rattle.std.proofs.Common.{sym, ap, subst, ◌∙◌}
use Rattle.std.proofs.Math.Logic.{∥∥₁_map₂}
use Rattle.std.specs.Prelude.{IfSome}
use Rattle.jr_segments.specs.Journal.{disk_of}
use Rattle.gw_rehearse.specs.Stopped.{LeavesNoMore}
use Rattle.gw_rehearse.proofs.Opening.{begins_on_left, leaves_self}
use Rattle.gw_rehearse.proofs.end.DrivenEnd.reopen.Goals as goal

pub returns-in-Some-clause-begins : goal.returns-in-Some-clause-begins
returns-in-Some-clause-begins c =
    let out = c.in-Ok.ensures in
    let in_box = c.in-Ok-open_inbox.ensures in
    ∥∥₁_map₂ c.in-Some.ensures.stands in_box.holds
    (begins_on_left c.args.config.own_flow c.args.config.peer_flow c.args.disks c.in-Ok.outbox c.in-Ok-open_inbox.inbox c.in-Some.end out.few out.left in_box.left c.in-Some.ensures.begins)

pub returns-in-Err-Some-clause-returned : goal.returns-in-Err-Some-clause-returned
returns-in-Err-Some-clause-returned c =
    let came = c.in-Err-Some in
    let disk = c.args.disks.outbox in
    record {
      outbox = subst (λ d. LeavesNoMore disk d) (sym came.outbox-is) (subst (λ o. IfSome o (LeavesNoMore disk)) came.field-0-is came.ensures.returned);
      inbox = leaves_self c.args.disks.inbox;
    }

pub returns-in-Err-Some-open_inbox-clause-returned : goal.returns-in-Err-Some-open_inbox-clause-returned
returns-in-Err-Some-open_inbox-clause-returned c =
    let came = c.in-Err-Some-open_inbox in
    let disk = c.args.disks.inbox in
    record {
      outbox = subst (λ d. LeavesNoMore c.args.disks.outbox d) (sym (c.close-outbox.ensures ∙ ap disk_of c.into_journal.ensures.value)) c.in-Ok.ensures.kept;
      inbox = subst (λ d. LeavesNoMore disk d) (sym came.inbox-is) (subst (λ o. IfSome o (LeavesNoMore disk)) came.field-0-is came.ensures.returned);
    }
