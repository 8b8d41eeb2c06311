use Rattle.std.proofs.Common.{refl, ◌∙◌}
use Rattle.std.proofs.Math.Logic.{∥∥₁_map}
use Rattle.jr_dated.specs.Dated.{undated}
use Rattle.jr_kept.proofs.Rereading.{held_noted}
use Rattle.jr_kept.proofs.inbox.Inbox.open.Goals as goal

pub invariant_of-result : goal.invariant_of-result
invariant_of-result g c = record {
  limited = c.in-Ok.ensures.limits ∙ c.requires.limited;
  within = c.in-Ok.ensures.within;
  held = λ sound. ∥∥₁_map c.in-Ok.ensures.noted (λ f. (f.2.list, held_noted g.J.Journal.stands g.J.Journal.leaves c.note_records.new.journal c.args.flow c.in-Ok.notes f.0 f.1 f.2));
}

pub returns-in-Ok-clause-opened : goal.returns-in-Ok-clause-opened
returns-in-Ok-clause-opened g c = ∥∥₁_map c.in-Ok.ensures.noted (λ f. (
  undated f.0,
  (f.0, (c.in-Ok.ensures.unchanged.records f.0).1 f.1.stands_for, refl),
  record { list = f.2.list; inbox = f.2.inbox; holds = held_noted g.J.Journal.stands g.J.Journal.leaves c.note_records.new.journal c.args.flow c.in-Ok.notes f.0 f.1 f.2 },
))
