-- All that comes of each of two ends, put together along what went over their links.
use Rattle.std.proofs.Common.{List, [], ◌∷◌, ◌++◌}
use Rattle.std.specs.Prelude.{⊤}
use Rattle.std.specs.List.{AllByRecursion}
use Rattle.honest_ends.specs.PhaseLaws.{IsOfTime, EndsBy}
use Rattle.turn_laws.specs.Legs.{TurnedLeg}
use Rattle.honest_turns.specs.Sides.{behind, MakesTurns}
use Rattle.honest_turns.specs.Lives.{InTime, no_more, initiator_alone, acceptor_alone, paired, End, side_of, end_behind, sides, end_after, AgreeAt, EndInTime}
use Rattle.honest_turns.specs.Sessions.{Reopens}
use Rattle.honest_turns.proofs.Living.{life_holds}
use Rattle.honest_turns.proofs.Renewing.{new_life_agrees}

-- from one end to another by these connections, with new lives before, between and behind them
pub data Path : End → List TurnedLeg → End → Type 0 where
  arrives : {e : End} → Path e [] e
  connects : {e f : End} {t : TurnedLeg} {ts : List TurnedLeg} → MakesTurns (side_of e t) → Path (end_behind e t) ts f → Path e (t ∷ ts) f
  opens : {e f : End} {ts : List TurnedLeg} (j : End) → Reopens e j → Path j ts f → Path e ts f

-- none of its connections ended by a violation but one of time
abbrev pub AllInTime : (e f : End) (ts : List TurnedLeg) → Path e ts f → Type 0
AllInTime e f [] arrives = ⊤
AllInTime e f (t ∷ ts) (connects m p) = EndsBy IsOfTime (behind (side_of e t)) × AllInTime (end_behind e t) f ts p
AllInTime e f ts (opens j r p) = AllInTime j f ts p

-- so it is of both
pub record BothHold (e_i f_i e_a f_a : End) (ts us : List TurnedLeg) (p : Path e_i ts f_i) (q : Path e_a us f_a) : Type 0 where
  pub initiator : AllInTime e_i f_i ts p
  pub acceptor : AllInTime e_a f_a us q
  pub agree : AgreeAt f_i f_a

-- what is so of the rest of the initiator's way, whatever the acceptor's is
abbrev Holds : (e f : End) (ts : List TurnedLeg) → Path e ts f → Type 0
Holds e f ts p = (e_a f_a : End) (us : List TurnedLeg) (q : Path e_a us f_a) → InTime ts us → AgreeAt e e_a → BothHold e f e_a f_a ts us p q

-- the initiator has come to its end
at_end : (e : End) → Holds e e [] arrives
at_end e e_a f_a [] arrives no_more k = record { initiator = tt; acceptor = tt; agree = k }
at_end e e_a f_a (u ∷ us) (connects m p) (acceptor_alone none rest) k =
    let one = life_holds e e_a [] (u ∷ []) k tt (m, tt) (acceptor_alone none no_more) in
    let more = at_end e (end_behind e_a u) f_a us p rest one.2 in
    record { initiator = tt; acceptor = (one.1.0, more.acceptor); agree = more.agree }
at_end e e_a f_a us (opens b r p) link k =
    let more = at_end e b f_a us p link ((new_life_agrees e e_a e b k).1 r) in
    record { initiator = more.initiator; acceptor = more.acceptor; agree = more.agree }

-- the initiator has a connection next
at_connection : (e f : End) (t : TurnedLeg) (ts : List TurnedLeg) (m : MakesTurns (side_of e t)) (p : Path (end_behind e t) ts f) → Holds (end_behind e t) f ts p
    → Holds e f (t ∷ ts) (connects m p)
at_connection e f t ts m p later e_a f_a [] arrives (initiator_alone none rest) k =
    let one = life_holds e e_a (t ∷ []) [] k (m, tt) tt (initiator_alone none no_more) in
    let more = later e_a e_a [] arrives rest one.2 in
    record { initiator = (one.0.0, more.initiator); acceptor = tt; agree = more.agree }
at_connection e f t ts m p later e_a f_a (u ∷ us) (connects n q) (initiator_alone none rest) k =
    let one = life_holds e e_a (t ∷ []) [] k (m, tt) tt (initiator_alone none no_more) in
    let more = later e_a f_a (u ∷ us) (connects n q) rest one.2 in
    record { initiator = (one.0.0, more.initiator); acceptor = more.acceptor; agree = more.agree }
at_connection e f t ts m p later e_a f_a (u ∷ us) (connects n q) (acceptor_alone none rest) k =
    let one = life_holds e e_a [] (u ∷ []) k tt (n, tt) (acceptor_alone none no_more) in
    let more = at_connection e f t ts m p later (end_behind e_a u) f_a us q rest one.2 in
    record { initiator = more.initiator; acceptor = (one.1.0, more.acceptor); agree = more.agree }
at_connection e f t ts m p later e_a f_a (u ∷ us) (connects n q) (paired link rest) k =
    let one = life_holds e e_a (t ∷ []) (u ∷ []) k (m, tt) (n, tt) (paired link no_more) in
    let more = later (end_behind e_a u) f_a us q rest one.2 in
    record { initiator = (one.0.0, more.initiator); acceptor = (one.1.0, more.acceptor); agree = more.agree }
at_connection e f t ts m p later e_a f_a us (opens b r q) link k =
    let more = at_connection e f t ts m p later b f_a us q link ((new_life_agrees e e_a e b k).1 r) in
    record { initiator = more.initiator; acceptor = more.acceptor; agree = more.agree }

pub both_hold : (e f : End) (ts : List TurnedLeg) (p : Path e ts f) → Holds e f ts p
both_hold e f [] arrives e_a f_a us q link k = at_end e e_a f_a us q link k
both_hold e f (t ∷ ts) (connects m p) e_a f_a us q link k =
    at_connection e f t ts m p (λ x y vs w l n. both_hold (end_behind e t) f ts p x y vs w l n) e_a f_a us q link k
both_hold e f ts (opens j r p) e_a f_a us q link k =
    let more = both_hold j f ts p e_a f_a us q link ((new_life_agrees e e_a j e_a k).0 r) in
    record { initiator = more.initiator; acceptor = more.acceptor; agree = more.agree }

-- the connections of a life, and what comes behind it
abbrev pub along : (e f : End) (ts later : List TurnedLeg) → AllByRecursion MakesTurns (sides e ts) → Path (end_after e ts) later f → Path e (ts ++ later) f
along e f [] later m p = p
along e f (t ∷ ts) later m p = connects m.0 (along (end_behind e t) f ts later m.1 p)

pub along_in_time : (e f : End) (ts later : List TurnedLeg) (m : AllByRecursion MakesTurns (sides e ts)) (p : Path (end_after e ts) later f)
    → AllInTime e f (ts ++ later) (along e f ts later m p) → EndInTime (sides e ts) × AllInTime (end_after e ts) f later p
along_in_time e f [] later m p k = (tt, k)
along_in_time e f (t ∷ ts) later m p k =
    let more = along_in_time (end_behind e t) f ts later m.1 p k.1 in
    ((k.0, more.0), more.1)
