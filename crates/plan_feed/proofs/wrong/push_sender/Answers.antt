use Rattle.std.proofs.Common.{ℕ, ◌++◌, ap, ◌∙◌, codes, decimal}
use Rattle.plan_feed.proofs.Parts.{four-parts}
use Rattle.plan_feed.proofs.wrong.push_sender.Goals as goal

pub returns : goal.returns
returns c =
    four-parts c.args.lines.now.items c.push_number.new.lines.items c.push_number-2.new.lines.items (codes "sender ") (decimal c.args.number) (codes " is not from 1 to ") (decimal c.args.senders)
    c.in_ok-push_number.ensures (c.in_ok-push_number-2.ensures ∙ ap (λ (n : ℕ). c.push_number.new.lines.items ++ (codes " is not from 1 to " ++ decimal n)) c.from.ensures)
