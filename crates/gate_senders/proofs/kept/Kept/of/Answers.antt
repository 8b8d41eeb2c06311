use Rattle.std.proofs.Common.{[], refl, ◌∙◌}
use Rattle.std.proofs.Math.Logic.{∥∥₁_map}
use Rattle.gate_senders.proofs.kept.Kept.of.Goals as goal

pub of-told-requires : goal.of-told-requires
of-told-requires g c = record { found = ∥∥₁_map (c.broken.ensures.held (c.broken.ensures.value ∙ c.requires.sound)) (λ h. (h.0, [], (h.1, refl))) }
