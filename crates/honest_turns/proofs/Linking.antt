-- The turns of two connections over one link, in their order, as steps of a world.
use Rattle.std.proofs.Common.{◌≡◌, ℕ, List, [], ◌∷◌, ◌++◌, Option, Some, None, refl, sym, ap, subst, ◌∙◌, append-nil, append_assoc}
use Rattle.std.specs.Prelude.{option_to_list}
use Rattle.std.specs.List.{AllByRecursion, flat_map}
use Rattle.session_model.specs.Journal.{Entry, History, BeginsHistory}
use Rattle.gate_turn.proofs.Histories.{begins_self, begins_on}
use Rattle.fixp_machine.specs.Machine.{State, reserve, step}
use Rattle.conn_turns.specs.Lines.{Line}
use Rattle.conn_turns.specs.Turns.{Turn, IsFaithful, only_sends, works, link_lost, cut_short, not_begun}
use Rattle.connection_laws.specs.Courses.{Course}
use Rattle.turn_laws.specs.Turns.{IsTurn}
use Rattle.turn_laws.specs.Legs.{AreTurns, given_in, sent_in, IsTimelyTurn}
use Rattle.honest_ends.specs.Worlds.{World}
use Rattle.honest_turns.specs.Links.{Move, initiator_turns, acceptor_turns, of_initiator, of_acceptor, Passes}
use Rattle.honest_turns.proofs.Reaching.{Reaches, stays, and_then, turned, reaches_turned}
use Rattle.honest_turns.specs.Opened.{WritesLegal, Open, Way, Passed}
use Rattle.honest_turns.proofs.Opening.{Moved, turn_moves}
use Rattle.honest_turns.proofs.Stopping.{StopsIn, Stopped, turn_stops}

-- what was seen before turns begins what was seen behind them
pub seen_on : (before after : History) (old new : Line) (t : Turn) → IsTurn before after old new t → BeginsHistory before after
seen_on before after old new (only_sends now sent lost) k = subst (λ (x : History). BeginsHistory before x) (sym k.1) (begins_self before)
seen_on before after old new (works w) k =
    let v = k.served in
    subst (λ (x : History). BeginsHistory before x) v.seen (begins_on before w.at_again w.at_finish v.seen_again (begins_on w.at_again w.at_live w.at_finish v.seen_live v.seen_finish))
seen_on before after old new (link_lost now) k = subst (λ (x : History). BeginsHistory before x) (sym k.1) (begins_self before)
seen_on before after old new (cut_short now received frames refused) k = absurd k
seen_on before after old new not_begun k = absurd k

pub all_seen : (before after : History) (old new : Line) (turns : List Turn) → AreTurns before after old new turns → BeginsHistory before after
all_seen before after old new [] a = subst (λ (x : History). BeginsHistory before x) (sym a.1) (begins_self before)
all_seen before after old new (t ∷ later) a =
    begins_on before a.2 after (seen_on before a.2 old a.1 t a.3) (begins_on a.2 a.4 after a.5 (all_seen a.4 after a.1 new later a.6))

-- how an end stands behind its turns, the last of which was cut short, if one was
abbrev pub Stops : Line → Option Turn → State → List ℕ → Type 0
Stops last None m held = (last.machine ≡ m) × (last.held ≡ held)
Stops last (Some t) m held = StopsIn last t m held

-- what an end has before it: its turns, or none; and how it stands behind them
pub data Ahead (outbox : History) (b : Course) (s m : State) (held : List ℕ) (turns : List Turn) (last_m : State) (last_held : List ℕ) : Type 0 where
  going : (l last : Line) (before after : History) (whole : List Turn) (cut : Option Turn) → l.machine ≡ m → l.held ≡ held → Open outbox b s l → AreTurns before after l last whole → AllByRecursion IsFaithful whole
      → Passed outbox after → AllByRecursion IsTimelyTurn turns → turns ≡ whole ++ option_to_list cut → Stops last cut last_m last_held → Ahead outbox b s m held turns last_m last_held
  over : turns ≡ [] → step s reserve ≡ step last_m reserve → m ≡ last_m → held ≡ last_held → Ahead outbox b s m held turns last_m last_held

record Ended (s m : State) (held : List ℕ) (last_m : State) (last_held : List ℕ) : Type 0 where
  alike : step s reserve ≡ step last_m reserve
  machine : m ≡ last_m
  holds : held ≡ last_held

ended : (outbox : History) (b : Course) (s m : State) (held : List ℕ) (last_m : State) (last_held : List ℕ) → Ahead outbox b s m held [] last_m last_held → Ended s m held last_m last_held
ended outbox b s m held last_m last_held (going l last before after [] None is holds o a f passed timely e stops) = record {
  alike = o.alike ∙ ap (λ (x : State). step x reserve) (ap (λ (k : Line). k.machine) (sym a.0) ∙ stops.0);
  machine = sym is ∙ (ap (λ (k : Line). k.machine) (sym a.0) ∙ stops.0);
  holds = sym holds ∙ (ap (λ (k : Line). k.held) (sym a.0) ∙ stops.1);
}
ended outbox b s m held last_m last_held (going l last before after [] (Some t) is holds o a f passed timely e stops) = absurd (cc e)
ended outbox b s m held last_m last_held (going l last before after (u ∷ whole) cut is holds o a f passed timely e stops) = absurd (cc e)
ended outbox b s m held last_m last_held (over none alike is holds) = record { alike = alike; machine = is; holds = holds }

passed_so_far : (outbox before after : History) (old new : Line) (t : Turn) (later : List Turn) → Passed outbox after → (a : AreTurns before after old new (t ∷ later)) → Passed outbox a.2
passed_so_far outbox before after old new t later passed a = record {
  begins = begins_on a.2 after outbox (begins_on a.2 a.4 after a.5 (all_seen a.4 after a.1 new later a.6)) passed.begins;
  few = passed.few;
}

-- one turn of the initiator, and what it has before it then
record OneTurn (outbox : History) (ha : List Entry) (b : Course) (w : World) (theirs : State) (held out home : List ℕ) (later : List Turn) (last_m : State) (last_held : List ℕ) : Type 0 where
  world : World
  reaches : Reaches outbox.made ha w world
  acceptor : world.acceptor ≡ w.acceptor
  m : State
  own_held : List ℕ
  ahead : Ahead outbox b world.initiator m own_held later last_m last_held
  outward : Way world.outward m held out
  homeward : Way world.homeward theirs own_held home

one_turn : (outbox : History) (ha : List Entry) (b : Course) (w : World) (m theirs : State) (own_held held out home : List ℕ) (t : Turn) (later : List Turn) (last_m : State) (last_held : List ℕ)
    → WritesLegal outbox b → Ahead outbox b w.initiator m own_held (t ∷ later) last_m last_held → Way w.outward m held out → Way w.homeward theirs own_held (given_in t ++ home)
    → OneTurn outbox ha b w theirs held (out ++ sent_in t) home later last_m last_held
one_turn outbox ha b w m theirs own_held held out home t later last_m last_held legal (over none alike is holds) outward homeward = absurd (cc none)
one_turn outbox ha b w m theirs own_held held out home t later last_m last_held legal (going l last before after [] None is holds o a f passed timely e stops) outward homeward = absurd (cc e)
one_turn outbox ha b w m theirs own_held held out home t later last_m last_held legal (going l last before after [] (Some u) is holds o a f passed timely e stops) outward homeward =
    let same : t ≡ u = cc e in
    let none : later ≡ [] = cc e in
    let k : StopsIn l t last_m last_held = subst (λ (x : Turn). StopsIn l x last_m last_held) (sym same) (subst (λ (x : Line). StopsIn x u last_m last_held) a.0 stops) in
    let x : Stopped outbox ha w last_m theirs last_held held (out ++ sent_in t) home =
    turn_stops outbox ha b w l t last_m theirs last_held held out home legal o k timely.0
    (subst (λ (y : State). Way w.outward y held out) (sym is) outward) (subst (λ (bs : List ℕ). Way w.homeward theirs bs (given_in t ++ home)) (sym holds) homeward) in
    record {
      world = x.world;
      reaches = x.reaches;
      acceptor = x.acceptor;
      m = last_m;
      own_held = last_held;
      ahead = over none x.alike refl refl;
      outward = x.outward;
      homeward = x.homeward;
    }
one_turn outbox ha b w m theirs own_held held out home t later last_m last_held legal (going l last before after (u ∷ whole) cut is holds o b' f passed timely e stops) outward homeward =
    let same : t ≡ u = cc e in
    let rest : later ≡ whole ++ option_to_list cut = cc e in
    let a : AreTurns before after l last (t ∷ whole) = subst (λ (x : Turn). AreTurns before after l last (x ∷ whole)) (sym same) b' in
    let x : Moved outbox ha b w l a.1 t theirs held (out ++ sent_in t) home =
    turn_moves outbox ha b w before a.2 l a.1 t theirs held out home legal (passed_so_far outbox before after l last t whole passed a) o a.0 a.3 (subst IsFaithful (sym same) f.0) timely.0
    (subst (λ (y : State). Way w.outward y held out) (sym is) outward) (subst (λ (bs : List ℕ). Way w.homeward theirs bs (given_in t ++ home)) (sym holds) homeward) in
    record {
      world = x.world;
      reaches = x.reaches;
      acceptor = x.acceptor;
      m = a.1.machine;
      own_held = a.1.held;
      ahead = going a.1 last a.4 after whole cut refl refl x.here a.6 f.1 passed timely.1 rest stops;
      outward = x.outward;
      homeward = x.homeward;
    }

-- the world behind the turns of both
pub record Linked (hi ha : List Entry) (w : World) (last_i last_a : State) (held_i held_a out home : List ℕ) (order : List Move) : Type 0 where
  pub world : World
  pub reaches : Reaches hi ha w world
  pub initiator : step world.initiator reserve ≡ step last_i reserve
  pub acceptor : step world.acceptor reserve ≡ step last_a reserve
  pub under_out : List ℕ
  pub under_home : List ℕ
  pub outward : Way world.outward last_i held_a under_out
  pub homeward : Way world.homeward last_a held_i under_home
  pub sum_out : out ++ flat_map sent_in (of_initiator order) ≡ flat_map given_in (of_acceptor order) ++ under_out
  pub sum_home : home ++ flat_map sent_in (of_acceptor order) ≡ flat_map given_in (of_initiator order) ++ under_home

-- behind one more turn
pub sum_sent : (out sent all given under : List ℕ) → (out ++ sent) ++ all ≡ given ++ under → out ++ (sent ++ all) ≡ given ++ under
sum_sent out sent all given under e = sym (append_assoc out sent all) ∙ e

pub sum_given : (way given left all more under : List ℕ) → way ≡ given ++ left → left ++ all ≡ more ++ under → way ++ all ≡ (given ++ more) ++ under
sum_given way given left all more under is e =
    ap (λ (bs : List ℕ). bs ++ all) is ∙ (append_assoc given left all ∙ (ap (λ (bs : List ℕ). given ++ bs) e ∙ sym (append_assoc given more under)))

pub linked : (hi ha : History) (bi ba : Course) (w : World) (mi ma last_i last_a : State) (held_i held_a end_i end_a out home : List ℕ) (order : List Move)
    → WritesLegal hi bi → WritesLegal ha ba
    → Ahead hi bi w.initiator mi held_i (of_initiator order) last_i end_i → Ahead ha ba w.acceptor ma held_a (of_acceptor order) last_a end_a
    → Way w.outward mi held_a out → Way w.homeward ma held_i home → Passes out home order → Linked hi.made ha.made w last_i last_a end_i end_a out home order
linked hi ha bi ba w mi ma last_i last_a held_i held_a end_i end_a out home [] legal_i legal_a x y outward homeward passes =
    let i = ended hi bi w.initiator mi held_i last_i end_i x in
    let a = ended ha ba w.acceptor ma held_a last_a end_a y in
    record {
      world = w;
      reaches = stays hi.made ha.made w;
      initiator = i.alike;
      acceptor = a.alike;
      under_out = out;
      under_home = home;
      outward = subst (λ (m : State). Way w.outward m end_a out) i.machine (subst (λ (bs : List ℕ). Way w.outward mi bs out) a.holds outward);
      homeward = subst (λ (m : State). Way w.homeward m end_i home) a.machine (subst (λ (bs : List ℕ). Way w.homeward ma bs home) i.holds homeward);
      sum_out = append-nil out;
      sum_home = append-nil home;
    }
linked hi ha bi ba w mi ma last_i last_a held_i held_a end_i end_a out home (initiator_turns t ∷ later) legal_i legal_a x y outward homeward passes =
    let left : List ℕ = passes.0 in
    let m : OneTurn hi ha.made bi w ma held_a (out ++ sent_in t) left (of_initiator later) last_i end_i =
    one_turn hi ha.made bi w mi ma held_i held_a out left t (of_initiator later) last_i end_i legal_i x outward (subst (λ (bs : List ℕ). Way w.homeward ma held_i bs) passes.1 homeward) in
    let k = linked hi ha bi ba m.world m.m ma last_i last_a m.own_held held_a end_i end_a (out ++ sent_in t) left later legal_i legal_a m.ahead
    (subst (λ (s : State). Ahead ha ba s ma held_a (of_acceptor later) last_a end_a) (sym m.acceptor) y) m.outward m.homeward passes.2 in
    record {
      world = k.world;
      reaches = and_then hi.made ha.made w m.world k.world m.reaches k.reaches;
      initiator = k.initiator;
      acceptor = k.acceptor;
      under_out = k.under_out;
      under_home = k.under_home;
      outward = k.outward;
      homeward = k.homeward;
      sum_out = sum_sent out (sent_in t) (flat_map sent_in (of_initiator later)) (flat_map given_in (of_acceptor later)) k.under_out k.sum_out;
      sum_home = sum_given home (given_in t) left (flat_map sent_in (of_acceptor later)) (flat_map given_in (of_initiator later)) k.under_home passes.1 k.sum_home;
    }
linked hi ha bi ba w mi ma last_i last_a held_i held_a end_i end_a out home (acceptor_turns t ∷ later) legal_i legal_a x y outward homeward passes =
    let left : List ℕ = passes.0 in
    let m : OneTurn ha hi.made ba (turned w) mi held_i (home ++ sent_in t) left (of_acceptor later) last_a end_a =
    one_turn ha hi.made ba (turned w) ma mi held_a held_i home left t (of_acceptor later) last_a end_a legal_a y homeward (subst (λ (bs : List ℕ). Way w.outward mi held_a bs) passes.1 outward) in
    let v : World = turned m.world in
    let k = linked hi ha bi ba v mi m.m last_i last_a held_i m.own_held end_i end_a left (home ++ sent_in t) later legal_i legal_a
    (subst (λ (s : State). Ahead hi bi s mi held_i (of_initiator later) last_i end_i) (sym m.acceptor) x) m.ahead m.homeward m.outward passes.2 in
    record {
      world = k.world;
      reaches = and_then hi.made ha.made w v k.world (reaches_turned ha.made hi.made (turned w) m.world m.reaches) k.reaches;
      initiator = k.initiator;
      acceptor = k.acceptor;
      under_out = k.under_out;
      under_home = k.under_home;
      outward = k.outward;
      homeward = k.homeward;
      sum_out = sum_given out (given_in t) left (flat_map sent_in (of_initiator later)) (flat_map given_in (of_acceptor later)) k.under_out passes.1 k.sum_out;
      sum_home = sum_sent home (sent_in t) (flat_map sent_in (of_acceptor later)) (flat_map given_in (of_initiator later)) k.under_home k.sum_home;
    }
