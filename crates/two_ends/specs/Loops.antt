-- Two ends that run the connection loop over their lives, whose connections are linked by what the links gave and took.
use Rattle.std.specs.Prelude.{ℕ, List, [], ◌∷◌, map, flat_map}
use Rattle.std.specs.List.{AllByRecursion}
use mathlib.Core.List.{IsPrefix}
use Rattle.session_model.specs.Lives.{Life, KeepsOutbox, Chained}
use Rattle.session_model.specs.Guarantee.{OneEnd}
use Rattle.fixp_msgs.specs.declared.flow.Flow.{Flow}
use Rattle.fixp_shake.specs.declared.config.EndConfig.{EndConfig}
use Rattle.turn_laws.specs.MachineLives.{MachineLife, life_in}
use Rattle.turn_laws.specs.LoopLives.{LoopLife, machine_life, legs_in, MayTurn}
use Rattle.turn_laws.specs.Legs.{TurnedLeg, given_on, sent_on}
use Rattle.stranger_laws.specs.Opening.{IsStrange}
use Rattle.two_ends.specs.GoingOn.{Boxes, new_boxes}

-- the lives of an end that runs the loop, as those of the session model
abbrev pub lives_of : List LoopLife → List Life
lives_of lives = map life_in (map machine_life lives)

-- what the link gave one end are the first of the bytes that it took of the other
abbrev pub ReadsOf : (reader writer : TurnedLeg) → Type 0
ReadsOf reader writer = IsPrefix (given_on reader) (sent_on writer)

-- bytes that open the session under none of these configurations
abbrev pub IsStrangeTo : List EndConfig → (given : List ℕ) → Type 0
IsStrangeTo configs given = AllByRecursion (λ cfg. IsStrange cfg given) configs

-- Connections linked by what went over their links: paired in the same order at both ends, each in at most one pair. In a pair the
-- link gives each end of what it took of the other; to a connection in no pair it gave what a stranger to the configurations of its end gives
pub data LinkedLinks (configs_a configs_b : List EndConfig) : List TurnedLeg → List TurnedLeg → Type 0 where
  no_more : LinkedLinks configs_a configs_b [] []
  left_alone : {a : TurnedLeg} {as' bs : List TurnedLeg} → IsStrangeTo configs_a (given_on a) → LinkedLinks configs_a configs_b as' bs
      → LinkedLinks configs_a configs_b (a ∷ as') bs
  right_alone : {b : TurnedLeg} {as' bs : List TurnedLeg} → IsStrangeTo configs_b (given_on b) → LinkedLinks configs_a configs_b as' bs
      → LinkedLinks configs_a configs_b as' (b ∷ bs)
  paired : {a b : TurnedLeg} {as' bs : List TurnedLeg} → ReadsOf a b → ReadsOf b a → LinkedLinks configs_a configs_b as' bs
      → LinkedLinks configs_a configs_b (a ∷ as') (b ∷ bs)

-- the configurations of an end over its lives
abbrev pub configs_of : List LoopLife → List EndConfig
configs_of lives = map (λ (l : LoopLife). l.state.config) lives

-- Two ends that run the loop, whose journals held this at first: the flow that one sends the other receives; the lives of each are chained from those, may
-- leave these now, and keep their outboxes; and their connections are linked by what went over their links
pub record TwoLoopsFrom (from_a from_b : Boxes) (a b : OneEnd Flow LoopLife) : Type 0 where
  pub lives_a : AllByRecursion (MayTurn a.flow b.flow) a.lives
  pub lives_b : AllByRecursion (MayTurn b.flow a.flow) b.lives
  pub chained_a : Chained from_a.outbox from_a.inbox (lives_of a.lives) a.outbox a.inbox
  pub chained_b : Chained from_b.outbox from_b.inbox (lives_of b.lives) b.outbox b.inbox
  pub outboxes_a : AllByRecursion (KeepsOutbox a.plan) (lives_of a.lives)
  pub outboxes_b : AllByRecursion (KeepsOutbox b.plan) (lives_of b.lives)
  pub linked : LinkedLinks (configs_of a.lives) (configs_of b.lives) (flat_map legs_in a.lives) (flat_map legs_in b.lives)

-- and so from empty journals on
abbrev pub TwoLoops : (a b : OneEnd Flow LoopLife) → Type 0
TwoLoops a b = TwoLoopsFrom new_boxes new_boxes a b

-- an end that runs the loop, as one of the machine
abbrev pub machine_end : OneEnd Flow LoopLife → OneEnd Flow MachineLife
machine_end e = record { flow = e.flow; plan = e.plan; lives = map machine_life e.lives; outbox = e.outbox; inbox = e.inbox }
