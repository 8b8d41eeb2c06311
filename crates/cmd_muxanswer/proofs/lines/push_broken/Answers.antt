use Rattle.std.proofs.Common.{refl}
use Rattle.cmd_muxanswer.proofs.Lined.{violation_lined}
use Rattle.cmd_muxanswer.proofs.lines.push_broken.Goals as goal

pub returns : goal.returns
returns c =
    violation_lined c.args.number c.args.violation _ c.args.lines.now.items _ _ _ _ refl
    c.in_ok-push_decimal.ensures c.in_ok-extend_from_slice.ensures.items (rw (← c.number_of.ensures) c.in_ok-push_decimal-2.ensures) c.in_ok-extend_from_slice-2.ensures.items
