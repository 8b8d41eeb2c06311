use Rattle.std.proofs.Common.{codes, decimal, [], ◌∷◌}
use Rattle.conn_lines.proofs.Parts.{line-parts}
use Rattle.conn_lines.proofs.lines.push_not_applied_line.Goals as goal

pub returns : goal.returns
returns c =
    line-parts c.args.lines.now.items _ _ _ (codes "notapplied ") (decimal c.args.from) (codes " ") (decimal c.args.count) (10 ∷ [])
    c.in_ok-push_number.ensures c.in_ok-push_number-2.ensures c.in_ok-extend_from_slice.ensures.items
