use Rattle.std.proofs.Common.{sym, ◌∙◌}
use Rattle.conn_tail.proofs.Told.{within_tail}
use Rattle.conn_tail.proofs.tail.cut_tail.Goals as goal

pub cut-requires : goal.cut-requires
cut-requires g c = record {
  within = λ content e.
      let tail = rw c.in-Some.is at c.in_ok-tail.ensures.tail in
      within_tail content c.in-Some.tail.whole c.in-Some.tail.last (tail content (sym c.in_ok-tail.ensures.content ∙ e));
}
