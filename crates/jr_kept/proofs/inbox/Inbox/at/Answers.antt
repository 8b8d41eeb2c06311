use Rattle.std.proofs.Common.{[], sym, ◌∙◌, arith}
use Rattle.jr_kept.proofs.Keeping.{kept_raised, some_on}
use Rattle.jr_kept.proofs.inbox.Inbox.at.Goals as goal

pub invariant_of-self : goal.invariant_of-self
invariant_of-self g c =
    let old = c.args.self.now in
    let new = c.at.new.self in
    record {
      limited = c.at.ensures.same.2 ∙ old.limited;
      within = λ k here. omega (arith, old.within k here, c.at.ensures.sizes.0);
      held = λ sound. some_on g.J.Journal.stands g.J.Journal.leaves old.journal new old.flow old.notes old.notes (λ i. i)
          (λ i held. kept_raised g.J.Journal.stands g.J.Journal.leaves old.journal new c.at.ensures.stands (λ o l. (c.at.ensures.images o).1 l) old.flow old.notes i [] held)
          (old.held (sym c.at.ensures.same.1 ∙ sound));
    }
