-- Worlds that steps reach, and a world seen from its other end.
use Rattle.std.proofs.Common.{◌≡◌, ℕ, List, [], ◌∷◌, ◌++◌, map, refl, sym, ap, subst, ◌∙◌}
use Rattle.session_model.specs.Journal.{Entry}
use Rattle.connection_laws.specs.Writing.{Piece}
use Rattle.honest_ends.specs.Worlds.{World, Step, meets, initiator_reads, acceptor_reads, initiator_does, acceptor_does, initiator_read, acceptor_read, after, MayStep, world_after, AllMayStep}
use Rattle.honest_turns.specs.Steps.{turned_step}

-- steps lead from one world to another, and each may come
pub record Reaches (hi ha : List Entry) (w v : World) : Type 0 where
  pub steps : List Step
  pub may : AllMayStep hi ha w steps
  pub there : world_after w steps ≡ v

abbrev pub stays : (hi ha : List Entry) (w : World) → Reaches hi ha w w
stays hi ha w = record { steps = []; may = tt; there = refl }

abbrev pub one : (hi ha : List Entry) (w : World) (s : Step) → MayStep hi ha w s → Reaches hi ha w (after w s)
one hi ha w s may = record { steps = s ∷ []; may = (may, tt); there = refl }

pub may_append : (hi ha : List Entry) (w : World) (first later : List Step) → AllMayStep hi ha w first → AllMayStep hi ha (world_after w first) later → AllMayStep hi ha w (first ++ later)
may_append hi ha w [] later x y = y
may_append hi ha w (s ∷ first) later x y = (x.0, may_append hi ha (after w s) first later x.1 y)

pub after_append : (w : World) (first later : List Step) → world_after w (first ++ later) ≡ world_after (world_after w first) later
after_append w [] later = refl
after_append w (s ∷ first) later = after_append (after w s) first later

abbrev pub and_then : (hi ha : List Entry) (w v u : World) → Reaches hi ha w v → Reaches hi ha v u → Reaches hi ha w u
and_then hi ha w v u x y = record {
  steps = x.steps ++ y.steps;
  may = may_append hi ha w x.steps y.steps x.may (subst (λ (k : World). AllMayStep hi ha k y.steps) (sym x.there) y.may);
  there = after_append w x.steps y.steps ∙ (ap (λ (k : World). world_after k y.steps) x.there ∙ y.there);
}

-- the same steps lead to a world by another name
abbrev pub leads : (hi ha : List Entry) (w v u : World) → Reaches hi ha w v → v ≡ u → Reaches hi ha w u
leads hi ha w v u x e = record { steps = x.steps; may = x.may; there = x.there ∙ e }

-- the world seen from its other end
abbrev pub turned : World → World
turned w = record { initiator = w.acceptor; acceptor = w.initiator; outward = w.homeward; homeward = w.outward }

acceptor_turned : (w : World) (ps : List Piece) (at now : ℕ) → acceptor_read (turned w) ps at now ≡ turned (initiator_read w ps at now)
acceptor_turned w [] at now = refl
acceptor_turned w (p ∷ later) at now = refl

initiator_turned : (w : World) (ps : List Piece) (at now : ℕ) → initiator_read (turned w) ps at now ≡ turned (acceptor_read w ps at now)
initiator_turned w [] at now = refl
initiator_turned w (p ∷ later) at now = refl

pub after_turned : (w : World) (s : Step) → after (turned w) (turned_step s) ≡ turned (after w s)
after_turned w (meets now_i now_a) = refl
after_turned w (initiator_reads at now) = acceptor_turned w w.homeward at now
after_turned w (acceptor_reads at now) = initiator_turned w w.outward at now
after_turned w (initiator_does call) = refl
after_turned w (acceptor_does call) = refl

may_turned : (hi ha : List Entry) (w : World) (s : Step) → MayStep hi ha w s → MayStep ha hi (turned w) (turned_step s)
may_turned hi ha w (meets now_i now_a) may = tt
may_turned hi ha w (initiator_reads at now) may = may
may_turned hi ha w (acceptor_reads at now) may = may
may_turned hi ha w (initiator_does call) may = may
may_turned hi ha w (acceptor_does call) may = may

pub all_turned : (hi ha : List Entry) (w : World) (steps : List Step) → AllMayStep hi ha w steps → AllMayStep ha hi (turned w) (map turned_step steps)
all_turned hi ha w [] may = tt
all_turned hi ha w (s ∷ later) may =
    (may_turned hi ha w s may.0, subst (λ (k : World). AllMayStep ha hi k (map turned_step later)) (sym (after_turned w s)) (all_turned hi ha (after w s) later may.1))

pub world_turned : (w : World) (steps : List Step) → world_after (turned w) (map turned_step steps) ≡ turned (world_after w steps)
world_turned w [] = refl
world_turned w (s ∷ later) = ap (λ (k : World). world_after k (map turned_step later)) (after_turned w s) ∙ world_turned (after w s) later

abbrev pub reaches_turned : (hi ha : List Entry) (w v : World) → Reaches hi ha w v → Reaches ha hi (turned w) (turned v)
reaches_turned hi ha w v x = record {
  steps = map turned_step x.steps;
  may = all_turned hi ha w x.steps x.may;
  there = world_turned w x.steps ∙ ap (λ (k : World). turned k) x.there;
}
