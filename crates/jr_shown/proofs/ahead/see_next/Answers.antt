use Rattle.jr_shown.proofs.Seeing.{sees, is_early}
use Rattle.jr_shown.proofs.ahead.see_next.Goals as goal

pub returns-clause-goes : goal.returns-clause-goes
returns-clause-goes g c = λ before records h. rw c.moment_of.ensures (sees before _ records c.next.new.self c.in_ok-found.found (c.in_ok-found.ensures.goes before records h))

pub returns-clause-early : goal.returns-clause-early
returns-clause-early g c = rw c.moment_of.ensures (is_early c.in_ok-found.found c.in_ok-found.ensures.legal)
