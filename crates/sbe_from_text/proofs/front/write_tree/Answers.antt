use Rattle.std.proofs.Common.{◌≤◌, length, ap, ◌∙◌, subst, sym, ℕ}
use Rattle.sbe_encode.proofs.Clear.{faultless_where_writable}
use Rattle.sbe_from_text.proofs.front.write_tree.Goals as goal

-- a message without a fault has at most so many bytes
pub returns-in-Ok-clause-short : goal.returns-in-Ok-clause-short
returns-in-Ok-clause-short c =
    subst (λ (n : ℕ). n ≤ 16384) (sym (ap length c.in-Ok.ensures.ok)) ((faultless_where_writable c.args.plan.now c.in-Ok-Some.message).0 c.in-Ok.ensures.faultless).short
