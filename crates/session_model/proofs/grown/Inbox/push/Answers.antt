use Rattle.std.proofs.Common.{◌≡◌, sym, ap, ◌∙◌, arith}
use Rattle.session_model.specs.Views.{end_of}
use Rattle.session_model.proofs.Growing.{next_after_push}
use Rattle.session_model.proofs.grown.Inbox.push.Goals as goal
use Rattle.session_model.proofs.grown.Inbox.push.Goals.{in-Apply, in-Skip}

counted : (c : goal.Joined-added) → c.match-added.self ≡ end_of c.args.added
counted c = elim c.match-added.branch [
  | in-Apply w ↦ w.self-is ∙ ap (λ r. end_of r) (sym w.in-Apply.is)
  | in-Skip w ↦ w.self-is ∙ ap (λ r. end_of r) (sym w.in-Skip.is)
]

-- the new number is the one past the record's end
pub invariant_of-self-2 : goal.invariant_of-self-2
invariant_of-self-2 c = record {
  waits = counted c ∙ next_after_push c.args.self.now.records.items c.push.new.self.items c.args.added (c.requires.begins ∙ c.args.self.now.waits) c.in_ok-push.ensures.items;
  fits = omega (arith, counted c, c.requires.fits, c.in_ok-push.ensures.len);
}
