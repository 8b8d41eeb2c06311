use Rattle.std.proofs.Common.{[], ◌∷◌}
use Rattle.cmd_soak.proofs.Dealing.{made_counts}
use Rattle.cmd_soak.proofs.soak.soak_messages.Goals as goal

pub returns-clause-range : goal.returns-clause-range
returns-clause-range c = made_counts c.args.messages _ c.from_slice.result c.requires
    (λ i. c.dealt.ensures i ∷ c.dealt-2.ensures i ∷ c.dealt-3.ensures i ∷ c.dealt-4.ensures i ∷ []) c.from_slice.ensures
