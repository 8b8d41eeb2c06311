use Rattle.std.proofs.Common.{List, ℕ, length, ap, ◌∙◌}
use Rattle.jr_boxes.proofs.Kept.{length-places}
use Rattle.jr_kept.proofs.inbox.Inbox.count.Goals as goal

pub returns-clause-counts : goal.returns-clause-counts
returns-clause-counts g c i stands = c.len.ensures.count ∙ ap (λ (ks : List ℕ). length ks) stands.noticed.places ∙ length-places 0 i
