use Rattle.std.proofs.Common.{codes, decimal}
use Rattle.plan_feed.specs.Wrongs.{size_words}
use Rattle.plan_feed.proofs.Parts.{two-parts}
use Rattle.plan_feed.proofs.wrong.push_size.Goals as goal

pub returns : goal.returns
unfolding size_words
returns c =
    two-parts c.args.lines.now.items _ _ (codes "its payload has ") (decimal c.args.bytes) (codes " bytes, and a frame's encoding type and an application message have 10 to 16386")
    c.in_ok-push_number.ensures c.in_ok-extend_from_slice.ensures.items
