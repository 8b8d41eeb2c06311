use Rattle.std.proofs.Common.{◌∙◌}
use Rattle.conn_tail.proofs.Walk.{has_tail}
use Rattle.conn_tail.proofs.tail.tail_of.Goals as goal

pub returns-clause-tail : goal.returns-clause-tail
returns-clause-tail g c = λ content e.
    let at_whole = c.in_ok-whole.ensures.content ∙ e in
    has_tail content c.in_ok-whole.whole c.args.size c.in_ok-last.last (c.requires.size content e) (c.in_ok-whole.ensures.start content e) (c.in_ok-last.ensures.last content at_whole)
