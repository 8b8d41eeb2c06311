use Rattle.std.proofs.Common.{codes, decimal}
use Rattle.frame_text.proofs.Payloads.{truncated-parts}
use Rattle.frame_text.proofs.unread.push_truncated.Goals as goal

pub returns : goal.returns
returns c =
    truncated-parts c.args.lines.now.items _ _ (codes "what begins at byte ") (decimal c.args.at) (codes " of the message is not whole")
    c.in_ok-push_number.ensures c.in_ok-extend_from_slice.ensures.items
