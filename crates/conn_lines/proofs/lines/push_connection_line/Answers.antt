use Rattle.std.proofs.Common.{codes, decimal, [], ◌∷◌}
use Rattle.conn_lines.specs.Lines.{words_of}
use Rattle.conn_lines.proofs.Parts.{line-parts}
use Rattle.conn_lines.proofs.lines.push_connection_line.Goals as goal

pub returns : goal.returns
returns c =
    line-parts c.args.lines.now.items _ _ _ (codes "connection ") (decimal c.args.number) (codes " ") (words_of c.args.close) (10 ∷ [])
    c.in_ok-push_number.ensures c.in_ok-push_words.ensures c.in_ok-extend_from_slice.ensures.items
