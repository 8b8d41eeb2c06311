use Rattle.std.proofs.Common.{[], sym, ◌∙◌, arith}
use Rattle.jr_kept.proofs.Held.{held_raised, some_on}
use Rattle.jr_kept.proofs.outbox.Outbox.at.Goals as goal

pub invariant_of-self : goal.invariant_of-self
invariant_of-self g c =
    let old = c.args.self.now in
    let new = c.at.new.self in
    record {
      limited = c.at.ensures.same.2 ∙ old.limited;
      within = record { all = omega (arith, old.within.all, c.at.ensures.sizes.0); each = λ i. omega (arith, old.within.each i, c.at.ensures.sizes.0) };
      held = λ sound. some_on g.J.Journal.stands g.J.Journal.leaves old.journal new old.tally old.tally (λ h. h)
          (λ h held. held_raised g.J.Journal.stands g.J.Journal.leaves old.journal new c.at.ensures.stands (λ o l. (c.at.ensures.images o).1 l) old.tally h [] held)
          (old.held (sym c.at.ensures.same.1 ∙ sound));
    }
