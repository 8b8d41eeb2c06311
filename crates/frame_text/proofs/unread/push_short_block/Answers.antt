use Rattle.std.proofs.Common.{codes, decimal}
use Rattle.frame_text.proofs.Payloads.{short-parts}
use Rattle.frame_text.proofs.unread.push_short_block.Goals as goal

pub returns : goal.returns
returns c =
    short-parts c.args.lines.now.items _ _ _ _ (codes "the block at byte ") (decimal c.args.at) (codes " of the message has ") (decimal c.args.found) (codes " bytes, and its fields take ") (decimal c.args.needed)
    c.in_ok-push_number.ensures c.in_ok-push_number-2.ensures c.in_ok-extend_from_slice.ensures.items c.in_ok-push_wide.ensures
