-- That what is left in any rounds stays within what a drain finishes: a message under way pays for the time that passes, and where none is, little is left.
use Rattle.std.proofs.Common.{◌≡◌, ◌⊎◌, inl, inr, ℕ, ◌+◌, ◌*◌, ◌-◌, ◌≤◌, min, if◌then◌else◌, true, List, [], ◌∷◌, ◌++◌, length, Option, Some, None, refl, sym, ap, subst, ◌∙◌, arith, append-nil, length-append, true≢false}
use Rattle.std.specs.Prelude.{is_some, IsSome}
use mathlib.Core.List.{IsPrefix}
use Rattle.session_model.specs.Journal.{BeginsHistory}
use Rattle.fixp_shake.specs.declared.config.EndConfig.{EndConfig}
use Rattle.fixp_shake.specs.declared.config.Role.{Role}
use Rattle.fixp_shake.specs.declared.config.Role.TheVariants as roles
use Rattle.fixp_shake.specs.Phases.{is_closing}
use Rattle.fixp_replies.specs.declared.act.Ending.{Ending}
use Rattle.fixp_machine.specs.Machine.{State}
use Rattle.conn_turns.specs.Lines.{Line}
use Rattle.connection_laws.specs.Writing.{Piece}
use Rattle.turn_laws.specs.Legs.{sent_in}
use Rattle.honest_ends.specs.Worlds.{World, Step, meets, after, world_after}
use Rattle.honest_ends.proofs.Serving.{by_bool}
use Rattle.drain_laws.specs.Calls.{beats_at}
use Rattle.drain_laws.specs.Counts.{shutting, under_way}
use Rattle.drain_laws.specs.Beginning.{bound}
use Rattle.drain_ends.specs.Standing.{BothGo}
use Rattle.drain_ends.specs.Closing.{BothTold}
use Rattle.drain_ends.proofs.Closed.{ends_are_told}
use Rattle.drain_turns.specs.Joints.{Half, Joint, Session, measure, Shows}
use Rattle.drain_turns.specs.Turning.{TakesTurn, DueIn, other_of, written_by, Turned}
use Rattle.drain_turns.specs.Turning as due_is
use Rattle.drain_turns.proofs.Fallen.{initiator_turns, acceptor_turns}
use Rattle.drain_rounds.specs.Rounds.{InRound, IsInTime, Round, Begun, IsSent, AreSent, open_of, left_of, entries_of, last_of}
use Rattle.drain_rounds.proofs.Rounding.{all_sent, same_number, ending_is, open_most, open_going, open_over, same_ways, none_is, found, looks, midway, left_at_first, drain_ends}
use Rattle.drain_beats.specs.Quiet.{IsQuiet}
use Rattle.drain_beats.specs.Beats.{AreTimely, IsWithin, BeatsHold, DrainFollows}
use Rattle.drain_beats.proofs.Paying.{silent_for, silent_later, silent_most, Paid, turn_pays}
use Rattle.drain_beats.proofs.Resting.{quiet_within}

-- an end that goes on, all of whose output is sent, is in time for a message under way to it
record OneIn (now : ℕ) (half : Half) (m : State) (way : List Piece) : Type 0 where
  sent : half.line.machine.unsent ≡ []
  in_time : IsInTime now half
  goes : m.ending ≡ None
  some : 1 ≤ length way

-- One half of a round. What is left, and the time in which this end wrote nothing, come to no more than before; and where a message was under way to the
-- end, to 1 of what is left less
record Halved (s : Session) (now : ℕ) (j : Joint) (old new : Half) (w : World) (IsDue : Type 0) (end : Role) : Type 0 where
  world : World
  shows : Shows s j world
  sent : IsSent new
  same : other_of end world ≡ other_of end w
  adds : IsPrefix (written_by end w) (written_by end world)
  told : new.line.machine.ending ≡ None → new.line.machine.untold ≡ []
  config : new.line.machine.config ≡ old.line.machine.config
  rises : 100 * left_of s world + silent_for now new.line.machine ≤ 100 * left_of s w + silent_for now old.line.machine
  falls : IsDue → 100 * left_of s world + silent_for now new.line.machine + 100 ≤ 100 * left_of s w + silent_for now old.line.machine

-- what an end brings into its half
record Brings (now : ℕ) (half : Half) : Type 0 where
  least : 4 ≤ half.line.per_turn
  most : half.line.per_turn ≤ 256
  ready : (half.line.machine.ending ≡ None) ⊎ (half.line.machine.unsent ≡ [])
  told : half.line.machine.ending ≡ None → half.line.machine.untold ≡ []
  interval : 100 ≤ half.line.machine.config.keepalive

over_sent : (half : Half) (now : ℕ) → Brings now half → is_some half.line.machine.ending ≡ true → half.line.machine.unsent ≡ []
over_sent half now b over = by_ready b.ready
  where
    by_ready : (half.line.machine.ending ≡ None) ⊎ (half.line.machine.unsent ≡ []) → half.line.machine.unsent ≡ []
    by_ready (inl going) = absurd (true≢false (sym over ∙ ap (λ (e : Option Ending). is_some e) going))
    by_ready (inr sent) = sent

initiator_goes : (s : Session) (j : Joint) (w : World) (now : ℕ) (new : Half) (left sent : List ℕ) → Shows s j w → Brings now j.initiator → j.acceptor.line.machine.unsent ≡ [] → InRound now s.outbox_i j.initiator new j.homeward left sent
    → j.initiator.line.machine.ending ≡ None → Halved s now (record { initiator = new; acceptor = j.acceptor; outward = j.outward ++ sent; homeward = left }) j.initiator new w (OneIn now j.initiator w.initiator w.homeward) roles.Initiator
initiator_goes s j w now new left sent sh b theirs turn going = record {
  world = g.world;
  shows = same_ways s new j.acceptor (j.outward ++ sent_in t.turn) (j.outward ++ sent) left left g.world (ap (λ (bs : List ℕ). j.outward ++ bs) k.1) refl g.shows;
  sent = record {
    least = let e = same_number now j.initiator new j.homeward left t in let n = b.least in omega (arith, e, n);
    most = let e = same_number now j.initiator new j.homeward left t in let n = b.most in omega (arith, e, n);
    all = all_sent now j.initiator new j.homeward left t;
  };
  same = g.same;
  adds = g.adds;
  told = p.told b.told;
  config = p.config;
  rises = up (measure s w) (measure s g.world) beats (silent_for now j.initiator.line.machine) (silent_for now new.line.machine) (open_of w.initiator.ending) (open_of g.world.initiator.ending) (open_of w.acceptor.ending) (open_of g.world.acceptor.ending)
      g.rises p.pays (open_going w.initiator.ending (mine ∙ going)) (open_most g.world.initiator.ending) (ap (λ (m : State). open_of m.ending) g.same);
  falls = λ due. by_fall (g.falls 1 (record { sent = due.sent; in_time = due.in_time going }, due_is.reads refl due.some));
}
  where
    mine : w.initiator.ending ≡ j.initiator.line.machine.ending
    mine = ending_is j.initiator w.initiator sh.initiator

    k : (t : TakesTurn now j.initiator new j.homeward left) × (sent_in t.turn ≡ sent) × BeginsHistory new.seen s.outbox_i
    k = turn.turns going

    t : TakesTurn now j.initiator new j.homeward left
    t = k.0

    p : Paid now j.initiator.line.machine new.line.machine
    p = turn_pays now j.initiator new j.homeward left t going b.interval

    beats : ℕ
    beats = beats_at j.initiator.line.machine now

    g : Turned s (record { initiator = new; acceptor = j.acceptor; outward = j.outward ++ sent_in t.turn; homeward = left }) w (beats_at j.initiator.line.machine now) (DueIn j.initiator w.initiator w.homeward now) roles.Initiator
    g = initiator_turns s j w now new left sh b.least b.most going t k.2 theirs

    up : (a c q x y o p u v : ℕ) → c ≤ a + q → 100 * q + y ≤ x → o ≡ 4 → p ≤ 4 → v ≡ u → 100 * (c + (p + v)) + y ≤ 100 * (a + (o + u)) + x
    up a c q x y o p u v d e f h i = omega arith

    by_fall : (measure s g.world + 1 ≤ measure s w + beats_at j.initiator.line.machine now) ⊎ IsSome g.world.initiator.ending
        → 100 * left_of s g.world + silent_for now new.line.machine + 100 ≤ 100 * left_of s w + silent_for now j.initiator.line.machine
    by_fall (inl h) = down (measure s w) (measure s g.world) beats (silent_for now j.initiator.line.machine) (silent_for now new.line.machine) (open_of w.initiator.ending) (open_of g.world.initiator.ending) (open_of w.acceptor.ending) (open_of g.world.acceptor.ending)
        h p.pays (open_going w.initiator.ending (mine ∙ going)) (open_most g.world.initiator.ending) (ap (λ (m : State). open_of m.ending) g.same)
      where
        down : (a c q x y o p u v : ℕ) → c + 1 ≤ a + q → 100 * q + y ≤ x → o ≡ 4 → p ≤ 4 → v ≡ u → 100 * (c + (p + v)) + y + 100 ≤ 100 * (a + (o + u)) + x
        down a c q x y o p u v d e f h i = omega arith
    by_fall (inr over) = down (measure s w) (measure s g.world) beats (silent_for now j.initiator.line.machine) (silent_for now new.line.machine) (open_of w.initiator.ending) (open_of g.world.initiator.ending) (open_of w.acceptor.ending) (open_of g.world.acceptor.ending)
        g.rises p.pays (open_going w.initiator.ending (mine ∙ going)) (open_over g.world.initiator.ending over) (ap (λ (m : State). open_of m.ending) g.same)
      where
        down : (a c q x y o p u v : ℕ) → c ≤ a + q → 100 * q + y ≤ x → o ≡ 4 → p ≡ 0 → v ≡ u → 100 * (c + (p + v)) + y + 100 ≤ 100 * (a + (o + u)) + x
        down a c q x y o p u v d e f h i = omega arith

acceptor_goes : (s : Session) (j : Joint) (w : World) (now : ℕ) (new : Half) (left sent : List ℕ) → Shows s j w → Brings now j.acceptor → j.initiator.line.machine.unsent ≡ [] → InRound now s.outbox_a j.acceptor new j.outward left sent
    → j.acceptor.line.machine.ending ≡ None → Halved s now (record { initiator = j.initiator; acceptor = new; outward = left; homeward = j.homeward ++ sent }) j.acceptor new w (OneIn now j.acceptor w.acceptor w.outward) roles.Acceptor
acceptor_goes s j w now new left sent sh b theirs turn going = record {
  world = g.world;
  shows = same_ways s j.initiator new left left (j.homeward ++ sent_in t.turn) (j.homeward ++ sent) g.world refl (ap (λ (bs : List ℕ). j.homeward ++ bs) k.1) g.shows;
  sent = record {
    least = let e = same_number now j.acceptor new j.outward left t in let n = b.least in omega (arith, e, n);
    most = let e = same_number now j.acceptor new j.outward left t in let n = b.most in omega (arith, e, n);
    all = all_sent now j.acceptor new j.outward left t;
  };
  same = g.same;
  adds = g.adds;
  told = p.told b.told;
  config = p.config;
  rises = up (measure s w) (measure s g.world) beats (silent_for now j.acceptor.line.machine) (silent_for now new.line.machine) (open_of w.initiator.ending) (open_of g.world.initiator.ending) (open_of w.acceptor.ending) (open_of g.world.acceptor.ending)
      g.rises p.pays (open_going w.acceptor.ending (mine ∙ going)) (open_most g.world.acceptor.ending) (ap (λ (m : State). open_of m.ending) g.same);
  falls = λ due. by_fall (g.falls 1 (record { sent = due.sent; in_time = due.in_time going }, due_is.reads refl due.some));
}
  where
    mine : w.acceptor.ending ≡ j.acceptor.line.machine.ending
    mine = ending_is j.acceptor w.acceptor sh.acceptor

    k : (t : TakesTurn now j.acceptor new j.outward left) × (sent_in t.turn ≡ sent) × BeginsHistory new.seen s.outbox_a
    k = turn.turns going

    t : TakesTurn now j.acceptor new j.outward left
    t = k.0

    p : Paid now j.acceptor.line.machine new.line.machine
    p = turn_pays now j.acceptor new j.outward left t going b.interval

    beats : ℕ
    beats = beats_at j.acceptor.line.machine now

    g : Turned s (record { initiator = j.initiator; acceptor = new; outward = left; homeward = j.homeward ++ sent_in t.turn }) w (beats_at j.acceptor.line.machine now) (DueIn j.acceptor w.acceptor w.outward now) roles.Acceptor
    g = acceptor_turns s j w now new left sh b.least b.most going t k.2 theirs

    up : (a c q x y o p u v : ℕ) → c ≤ a + q → 100 * q + y ≤ x → u ≡ 4 → v ≤ 4 → p ≡ o → 100 * (c + (p + v)) + y ≤ 100 * (a + (o + u)) + x
    up a c q x y o p u v d e f h i = omega arith

    by_fall : (measure s g.world + 1 ≤ measure s w + beats_at j.acceptor.line.machine now) ⊎ IsSome g.world.acceptor.ending
        → 100 * left_of s g.world + silent_for now new.line.machine + 100 ≤ 100 * left_of s w + silent_for now j.acceptor.line.machine
    by_fall (inl h) = down (measure s w) (measure s g.world) beats (silent_for now j.acceptor.line.machine) (silent_for now new.line.machine) (open_of w.initiator.ending) (open_of g.world.initiator.ending) (open_of w.acceptor.ending) (open_of g.world.acceptor.ending)
        h p.pays (open_going w.acceptor.ending (mine ∙ going)) (open_most g.world.acceptor.ending) (ap (λ (m : State). open_of m.ending) g.same)
      where
        down : (a c q x y o p u v : ℕ) → c + 1 ≤ a + q → 100 * q + y ≤ x → u ≡ 4 → v ≤ 4 → p ≡ o → 100 * (c + (p + v)) + y + 100 ≤ 100 * (a + (o + u)) + x
        down a c q x y o p u v d e f h i = omega arith
    by_fall (inr over) = down (measure s w) (measure s g.world) beats (silent_for now j.acceptor.line.machine) (silent_for now new.line.machine) (open_of w.initiator.ending) (open_of g.world.initiator.ending) (open_of w.acceptor.ending) (open_of g.world.acceptor.ending)
        g.rises p.pays (open_going w.acceptor.ending (mine ∙ going)) (open_over g.world.acceptor.ending over) (ap (λ (m : State). open_of m.ending) g.same)
      where
        down : (a c q x y o p u v : ℕ) → c ≤ a + q → 100 * q + y ≤ x → u ≡ 4 → v ≡ 0 → p ≡ o → 100 * (c + (p + v)) + y + 100 ≤ 100 * (a + (o + u)) + x
        down a c q x y o p u v d e f h i = omega arith

-- an end whose connection has ended is left as it is
initiator_half : (s : Session) (j : Joint) (w : World) (now : ℕ) (new : Half) (left sent : List ℕ) → Shows s j w → Brings now j.initiator → j.acceptor.line.machine.unsent ≡ [] → InRound now s.outbox_i j.initiator new j.homeward left sent
    → Halved s now (record { initiator = new; acceptor = j.acceptor; outward = j.outward ++ sent; homeward = left }) j.initiator new w (OneIn now j.initiator w.initiator w.homeward) roles.Initiator
initiator_half s j w now new left sent sh b theirs turn =
    by_bool _ (is_some j.initiator.line.machine.ending) rested (λ on. initiator_goes s j w now new left sent sh b theirs turn (none_is j.initiator.line.machine.ending on))
  where
    rested : is_some j.initiator.line.machine.ending ≡ true
        → Halved s now (record { initiator = new; acceptor = j.acceptor; outward = j.outward ++ sent; homeward = left }) j.initiator new w (OneIn now j.initiator w.initiator w.homeward) roles.Initiator
    rested over = record {
      world = w;
      shows = same_ways s new j.acceptor j.outward (j.outward ++ sent) j.homeward left w (sym (append-nil j.outward) ∙ ap (λ (bs : List ℕ). j.outward ++ bs) (sym k.2)) (sym k.1)
          (subst (λ (h : Half). Shows s (record { initiator = h; acceptor = j.acceptor; outward = j.outward; homeward = j.homeward }) w) (sym k.0) sh);
      sent = subst (λ (h : Half). IsSent h) (sym k.0) (record { least = b.least; most = b.most; all = over_sent j.initiator now b over });
      same = refl;
      adds = ([], append-nil w.outward);
      told = subst (λ (h : Half). h.line.machine.ending ≡ None → h.line.machine.untold ≡ []) (sym k.0) b.told;
      config = ap (λ (h : Half). h.line.machine.config) k.0;
      rises = let e = ap (λ (h : Half). silent_for now h.line.machine) k.0 in still (left_of s w) (silent_for now new.line.machine) (silent_for now j.initiator.line.machine) e;
      falls = λ due. absurd (true≢false (sym over ∙ ap (λ (e : Option Ending). is_some e) (sym (ending_is j.initiator w.initiator sh.initiator) ∙ due.goes)));
    }
      where
        k : (new ≡ j.initiator) × (left ≡ j.homeward) × (sent ≡ [])
        k = turn.rests over

        still : (a x y : ℕ) → x ≡ y → 100 * a + x ≤ 100 * a + y
        still a x y e = omega arith

acceptor_half : (s : Session) (j : Joint) (w : World) (now : ℕ) (new : Half) (left sent : List ℕ) → Shows s j w → Brings now j.acceptor → j.initiator.line.machine.unsent ≡ [] → InRound now s.outbox_a j.acceptor new j.outward left sent
    → Halved s now (record { initiator = j.initiator; acceptor = new; outward = left; homeward = j.homeward ++ sent }) j.acceptor new w (OneIn now j.acceptor w.acceptor w.outward) roles.Acceptor
acceptor_half s j w now new left sent sh b theirs turn =
    by_bool _ (is_some j.acceptor.line.machine.ending) rested (λ on. acceptor_goes s j w now new left sent sh b theirs turn (none_is j.acceptor.line.machine.ending on))
  where
    rested : is_some j.acceptor.line.machine.ending ≡ true
        → Halved s now (record { initiator = j.initiator; acceptor = new; outward = left; homeward = j.homeward ++ sent }) j.acceptor new w (OneIn now j.acceptor w.acceptor w.outward) roles.Acceptor
    rested over = record {
      world = w;
      shows = same_ways s j.initiator new j.outward left j.homeward (j.homeward ++ sent) w (sym k.1) (sym (append-nil j.homeward) ∙ ap (λ (bs : List ℕ). j.homeward ++ bs) (sym k.2))
          (subst (λ (h : Half). Shows s (record { initiator = j.initiator; acceptor = h; outward = j.outward; homeward = j.homeward }) w) (sym k.0) sh);
      sent = subst (λ (h : Half). IsSent h) (sym k.0) (record { least = b.least; most = b.most; all = over_sent j.acceptor now b over });
      same = refl;
      adds = ([], append-nil w.homeward);
      told = subst (λ (h : Half). h.line.machine.ending ≡ None → h.line.machine.untold ≡ []) (sym k.0) b.told;
      config = ap (λ (h : Half). h.line.machine.config) k.0;
      rises = let e = ap (λ (h : Half). silent_for now h.line.machine) k.0 in still (left_of s w) (silent_for now new.line.machine) (silent_for now j.acceptor.line.machine) e;
      falls = λ due. absurd (true≢false (sym over ∙ ap (λ (e : Option Ending). is_some e) (sym (ending_is j.acceptor w.acceptor sh.acceptor) ∙ due.goes)));
    }
      where
        k : (new ≡ j.acceptor) × (left ≡ j.outward) × (sent ≡ [])
        k = turn.rests over

        still : (a x y : ℕ) → x ≡ y → 100 * a + x ≤ 100 * a + y
        still a x y e = omega arith

-- a message is under way to an end that goes on
abbrev Waits : World → Type 0
Waits w = ((w.initiator.ending ≡ None) × (1 ≤ length w.homeward)) ⊎ ((w.acceptor.ending ≡ None) × (1 ≤ length w.outward))

-- what is left, and the time in which both ends wrote nothing, at this moment
abbrev weighed : Session → ℕ → World → Joint → ℕ
weighed s now w j = 100 * left_of s w + (silent_for now j.initiator.line.machine + silent_for now j.acceptor.line.machine)

-- both ends between two rounds: what an end brings into the next, and little is left
record Even (s : Session) (now : ℕ) (j : Joint) (w : World) : Type 0 where
  shows : Shows s j w
  initiator : Brings now j.initiator
  acceptor : Brings now j.acceptor
  sent_a : j.acceptor.line.machine.unsent ≡ []
  low : weighed s now w j ≤ 100 * bound (entries_of s) + 1002

-- a whole round
record Rounded (s : Session) (now : ℕ) (j k : Joint) (w : World) : Type 0 where
  world : World
  shows : Shows s k world
  sent : AreSent k
  initiator : Brings (now + 1) k.initiator
  acceptor : Brings (now + 1) k.acceptor
  rises : weighed s now world k ≤ weighed s now w j
  falls : j.initiator.line.machine.unsent ≡ [] → Waits w → weighed s now world k + 100 ≤ weighed s now w j

brings_same : (now : ℕ) (old new : Half) → new.line ≡ old.line → Brings now old → Brings now new
brings_same now old new e b = record {
  least = subst (λ (l : Line). 4 ≤ l.per_turn) (sym e) b.least;
  most = subst (λ (l : Line). l.per_turn ≤ 256) (sym e) b.most;
  ready = subst (λ (l : Line). (l.machine.ending ≡ None) ⊎ (l.machine.unsent ≡ [])) (sym e) b.ready;
  told = subst (λ (l : Line). l.machine.ending ≡ None → l.machine.untold ≡ []) (sym e) b.told;
  interval = subst (λ (l : Line). 100 ≤ l.machine.config.keepalive) (sym e) b.interval;
}

brings_next : (now : ℕ) (old new : Half) → IsSent new → (new.line.machine.ending ≡ None → new.line.machine.untold ≡ []) → new.line.machine.config ≡ old.line.machine.config → Brings now old → Brings (now + 1) new
brings_next now old new sent told config b = record {
  least = sent.least;
  most = sent.most;
  ready = inr sent.all;
  told = told;
  interval = let e = ap (λ (c : EndConfig). c.keepalive) config in let i = b.interval in omega (arith, e, i);
}

round_goes : (s : Session) (now : ℕ) (j k : Joint) (w : World) → Shows s j w → Brings now j.initiator → Brings now j.acceptor → j.acceptor.line.machine.unsent ≡ [] → (r : Round s now j k) → IsInTime now r.initiator → IsInTime now r.acceptor
    → Rounded s now j k w
round_goes s now j k w sh bi ba theirs r time_i time_a = record {
  world = b.world;
  shows = same_ways s k.initiator k.acceptor k.outward k.outward (r.left ++ r.sent_a) k.homeward b.world refl (sym r.home) b.shows;
  sent = record { initiator = a.sent; acceptor = b.sent };
  initiator = brings_next now r.initiator k.initiator a.sent a.told a.config brings_i;
  acceptor = brings_next now r.acceptor k.acceptor b.sent b.told b.config brings_a;
  rises = up (left_of s w) (left_of s a.world) (left_of s b.world) (silent_for now j.initiator.line.machine) (silent_for now r.initiator.line.machine) (silent_for now k.initiator.line.machine)
      (silent_for now j.acceptor.line.machine) (silent_for now r.acceptor.line.machine) (silent_for now k.acceptor.line.machine) same_i same_a a.rises b.rises;
  falls = by_way;
}
  where
    brings_i : Brings now r.initiator
    brings_i = brings_same now j.initiator r.initiator r.finds_i.line bi

    brings_a : Brings now r.acceptor
    brings_a = brings_same now j.acceptor r.acceptor r.finds_a.line ba

    sent_a : r.acceptor.line.machine.unsent ≡ []
    sent_a = ap (λ (l : Line). l.machine.unsent) r.finds_a.line ∙ theirs

    a : Halved s now (midway s now j k r) r.initiator k.initiator w (OneIn now r.initiator w.initiator w.homeward) roles.Initiator
    a = initiator_half s (found s now j k r) w now k.initiator r.left r.sent_i (looks s now j k w sh r) brings_i sent_a r.turns_i

    b : Halved s now (record { initiator = k.initiator; acceptor = k.acceptor; outward = k.outward; homeward = r.left ++ r.sent_a }) r.acceptor k.acceptor a.world
        (OneIn now r.acceptor a.world.acceptor a.world.outward) roles.Acceptor
    b = acceptor_half s (midway s now j k r) a.world now k.acceptor k.outward r.sent_a a.shows brings_a a.sent.all r.turns_a

    same_i : silent_for now r.initiator.line.machine ≡ silent_for now j.initiator.line.machine
    same_i = ap (λ (l : Line). silent_for now l.machine) r.finds_i.line

    same_a : silent_for now r.acceptor.line.machine ≡ silent_for now j.acceptor.line.machine
    same_a = ap (λ (l : Line). silent_for now l.machine) r.finds_a.line

    up : (x y z ji ri ki ja ra ka : ℕ) → ri ≡ ji → ra ≡ ja → 100 * y + ki ≤ 100 * x + ri → 100 * z + ka ≤ 100 * y + ra → 100 * z + (ki + ka) ≤ 100 * x + (ji + ja)
    up x y z ji ri ki ja ra ka e f g h = omega arith

    by_way : j.initiator.line.machine.unsent ≡ [] → Waits w → weighed s now b.world k + 100 ≤ weighed s now w j
    by_way all (inl (going, some)) =
        down (left_of s w) (left_of s a.world) (left_of s b.world) (silent_for now j.initiator.line.machine) (silent_for now r.initiator.line.machine) (silent_for now k.initiator.line.machine)
        (silent_for now j.acceptor.line.machine) (silent_for now r.acceptor.line.machine) (silent_for now k.acceptor.line.machine) same_i same_a
        (a.falls (record { sent = ap (λ (l : Line). l.machine.unsent) r.finds_i.line ∙ all; in_time = time_i; goes = going; some = some })) b.rises
      where
        down : (x y z ji ri ki ja ra ka : ℕ) → ri ≡ ji → ra ≡ ja → 100 * y + ki + 100 ≤ 100 * x + ri → 100 * z + ka ≤ 100 * y + ra → 100 * z + (ki + ka) + 100 ≤ 100 * x + (ji + ja)
        down x y z ji ri ki ja ra ka e f g h = omega arith
    by_way all (inr (going, some)) =
        down (left_of s w) (left_of s a.world) (left_of s b.world) (silent_for now j.initiator.line.machine) (silent_for now r.initiator.line.machine) (silent_for now k.initiator.line.machine)
        (silent_for now j.acceptor.line.machine) (silent_for now r.acceptor.line.machine) (silent_for now k.acceptor.line.machine) same_i same_a a.rises
        (b.falls (record { sent = sent_a; in_time = time_a; goes = ap (λ (m : State). m.ending) a.same ∙ going; some = longer }))
      where
        down : (x y z ji ri ki ja ra ka : ℕ) → ri ≡ ji → ra ≡ ja → 100 * y + ki ≤ 100 * x + ri → 100 * z + ka + 100 ≤ 100 * y + ra → 100 * z + (ki + ka) + 100 ≤ 100 * x + (ji + ja)
        down x y z ji ri ki ja ra ka e f g h = omega arith

        longer : 1 ≤ length a.world.outward
        longer = let e = ap length a.adds.1 in let f = length-append w.outward a.adds.0 in omega (arith, e, f, some)

-- a message is under way to an end that goes on; or nothing is, and both go on; or both connections have ended
by_waits : (P : Type 0) (s : Session) (j : Joint) (w : World) → Shows s j w → (Waits w → P) → (BothGo w → w.outward ≡ [] → w.homeward ≡ [] → P) → (IsSome w.initiator.ending → IsSome w.acceptor.ending → P) → P
by_waits P s j w sh waits quiet over = by_ends w.initiator.ending w.acceptor.ending w.homeward w.outward refl refl refl refl
  where
    told : BothTold w
    told = subst (λ (v : World). BothTold v) sh.there (ends_are_told s.outbox_i.made s.outbox_a.made s.start [] sh.later sh.now_i sh.now_a sh.known sh.may sh.keeps)

    some : (way : List Piece) (p : Piece) (more : List Piece) → way ≡ p ∷ more → 1 ≤ length way
    some way p more e = let size = ap length e in omega (arith, size)

    never : (o : Option Ending) → o ≡ None → IsSome o → ⊥
    never o e is = true≢false (sym is ∙ ap (λ (k : Option Ending). is_some k) e)

    by_ends : (x y : Option Ending) (home out : List Piece) → w.initiator.ending ≡ x → w.acceptor.ending ≡ y → w.homeward ≡ home → w.outward ≡ out → P
    by_ends (Some x) (Some y) home out e f g h = over (ap (λ (k : Option Ending). is_some k) e) (ap (λ (k : Option Ending). is_some k) f)
    by_ends None y (p ∷ more) out e f g h = waits (inl (e, some w.homeward p more g))
    by_ends x None home (p ∷ more) e f g h = waits (inr (f, some w.outward p more h))
    by_ends None (Some y) [] out e f g h = by_told (told.homeward (inl (ap (λ (k : Option Ending). is_some k) f)))
      where
        by_told : (1 ≤ under_way shutting w.homeward) ⊎ IsSome w.initiator.ending → P
        by_told (inl one) = let e = ap (λ (ps : List Piece). under_way shutting ps) g in absurd (omega (arith, one, e))
        by_told (inr is) = absurd (never w.initiator.ending e is)
    by_ends (Some x) None home [] e f g h = by_told (told.outward (inl (ap (λ (k : Option Ending). is_some k) e)))
      where
        by_told : (1 ≤ under_way shutting w.outward) ⊎ IsSome w.acceptor.ending → P
        by_told (inl one) = let e = ap (λ (ps : List Piece). under_way shutting ps) h in absurd (omega (arith, one, e))
        by_told (inr is) = absurd (never w.acceptor.ending f is)
    by_ends None None [] [] e f g h = by_bool P (is_closing w.initiator.facts.connection.phase) (λ shut. by_told (told.outward (inr shut))) (λ yet. quiet (record { initiator = e; acceptor = f; yet = yet }) h g)
      where
        by_told : (1 ≤ under_way shutting w.outward) ⊎ IsSome w.acceptor.ending → P
        by_told (inl one) = let e = ap (λ (ps : List Piece). under_way shutting ps) h in absurd (omega (arith, one, e))
        by_told (inr is) = absurd (never w.acceptor.ending f is)

-- where nothing is under way little is left
quiet_low : (s : Session) (now : ℕ) (j : Joint) (w : World) → Shows s j w → Brings now j.initiator → Brings now j.acceptor → BothGo w → w.outward ≡ [] → w.homeward ≡ [] → weighed s now w j ≤ 100 * bound (entries_of s) + 1000
quiet_low s now j w sh bi ba go out home =
    by_numbers (measure s w) (bound (entries_of s)) (open_of w.initiator.ending) (open_of w.acceptor.ending) (silent_for now j.initiator.line.machine) (silent_for now j.acceptor.line.machine)
    within (open_most w.initiator.ending) (open_most w.acceptor.ending) (silent_most now j.initiator.line.machine) (silent_most now j.acceptor.line.machine)
  where
    told_i : w.initiator.untold ≡ []
    told_i = ap (λ (m : State). m.untold) sh.initiator.goes.alike ∙ bi.told (sym (ending_is j.initiator w.initiator sh.initiator) ∙ go.initiator)

    told_a : w.acceptor.untold ≡ []
    told_a = ap (λ (m : State). m.untold) sh.acceptor.goes.alike ∙ ba.told (sym (ending_is j.acceptor w.acceptor sh.acceptor) ∙ go.acceptor)

    within : measure s w ≤ bound (entries_of s)
    within = subst (λ (v : World). measure s v ≤ bound (entries_of s)) sh.there
        (quiet_within s.outbox_i.made s.outbox_a.made s.start (meets sh.now_i sh.now_a ∷ sh.later) sh.known sh.may (subst (λ (v : World). BothGo v) (sym sh.there) go)
        (subst (λ (v : World). IsQuiet v) (sym sh.there) (record { outward = out; homeward = home; told_i = told_i; told_a = told_a })))

    by_numbers : (m b o u x y : ℕ) → m ≤ b → o ≤ 4 → u ≤ 4 → x ≤ 100 → y ≤ 100 → 100 * (m + (o + u)) + (x + y) ≤ 100 * b + 1000
    by_numbers m b o u x y e f g h i = omega arith

-- a millisecond later
later_two : (s : Session) (now : ℕ) (k : Joint) (w : World) → weighed s (now + 1) w k ≤ weighed s now w k + 2
later_two s now k w =
    let a = silent_later now k.initiator.line.machine in
    let b = silent_later now k.acceptor.line.machine in
    by_numbers (left_of s w) (silent_for now k.initiator.line.machine) (silent_for (now + 1) k.initiator.line.machine) (silent_for now k.acceptor.line.machine) (silent_for (now + 1) k.acceptor.line.machine) a b
  where
    by_numbers : (l x x' y y' : ℕ) → x' ≤ x + 1 → y' ≤ y + 1 → 100 * l + (x' + y') ≤ 100 * l + (x + y) + 2
    by_numbers l x x' y y' e f = omega arith

-- connections that have ended write nothing, however long
silent_over : (now : ℕ) (m : State) → IsSome m.ending → silent_for now m ≡ 0
silent_over now m over = by_end m.ending over
  where
    by_end : (e : Option Ending) → IsSome e → (if is_some e then 0 else min 100 (now - m.last_sent)) ≡ 0
    by_end (Some x) is = refl
    by_end None is = absurd (true≢false (sym is))

record Goes (s : Session) (now : ℕ) (k : Joint) : Type 0 where
  world : World
  even : Even s now k world
  sent : AreSent k

even_step : (s : Session) (now : ℕ) (j k : Joint) (w : World) → Even s now j w → AreSent j → (r : Round s now j k) → IsInTime now r.initiator → IsInTime now r.acceptor → Goes s (now + 1) k
even_step s now j k w e are r time_i time_a = record {
  world = x.world;
  even = record { shows = x.shows; initiator = x.initiator; acceptor = x.acceptor; sent_a = x.sent.acceptor.all; low = low };
  sent = x.sent;
}
  where
    x : Rounded s now j k w
    x = round_goes s now j k w e.shows e.initiator e.acceptor e.sent_a r time_i time_a

    low : weighed s (now + 1) x.world k ≤ 100 * bound (entries_of s) + 1002
    low = by_waits _ s j w e.shows
        (λ waits. paid (weighed s (now + 1) x.world k) (weighed s now x.world k) (weighed s now w j) (100 * bound (entries_of s) + 1002) (later_two s now k x.world) (x.falls are.initiator.all waits) e.low)
        (λ go out home. quiet (weighed s (now + 1) x.world k) (weighed s now x.world k) (weighed s now w j) (100 * bound (entries_of s)) (later_two s now k x.world) x.rises (quiet_low s now j w e.shows e.initiator e.acceptor go out home))
        (λ over_i over_a. still over_i over_a)
      where
        paid : (a b c d : ℕ) → a ≤ b + 2 → b + 100 ≤ c → c ≤ d → a ≤ d
        paid a b c d f g h = omega arith

        quiet : (a b c d : ℕ) → a ≤ b + 2 → b ≤ c → c ≤ d + 1000 → a ≤ d + 1002
        quiet a b c d f g h = omega arith

        still : IsSome w.initiator.ending → IsSome w.acceptor.ending → weighed s (now + 1) x.world k ≤ 100 * bound (entries_of s) + 1002
        still over_i over_a =
            let a = silent_over (now + 1) k.initiator.line.machine first in
            let b = silent_over (now + 1) k.acceptor.line.machine second in
            let c = x.rises in
            let d = e.low in
            none (left_of s x.world) (silent_for (now + 1) k.initiator.line.machine) (silent_for (now + 1) k.acceptor.line.machine) (silent_for now k.initiator.line.machine) (silent_for now k.acceptor.line.machine)
            (weighed s now w j) (100 * bound (entries_of s) + 1002) a b c d
          where
            none : (l x' y' x y c d : ℕ) → x' ≡ 0 → y' ≡ 0 → 100 * l + (x + y) ≤ c → c ≤ d → 100 * l + (x' + y') ≤ d
            none l x' y' x y c d f g h i = omega arith

            over_r : IsSome r.initiator.line.machine.ending
            over_r = ap (λ (o : Option Ending). is_some o) (ap (λ (l : Line). l.machine.ending) r.finds_i.line ∙ sym (ending_is j.initiator w.initiator e.shows.initiator)) ∙ over_i

            over_s : IsSome r.acceptor.line.machine.ending
            over_s = ap (λ (o : Option Ending). is_some o) (ap (λ (l : Line). l.machine.ending) r.finds_a.line ∙ sym (ending_is j.acceptor w.acceptor e.shows.acceptor)) ∙ over_a

            first : IsSome k.initiator.line.machine.ending
            first = subst (λ (h : Half). IsSome h.line.machine.ending) (sym (r.turns_i.rests over_r).0) over_r

            second : IsSome k.acceptor.line.machine.ending
            second = subst (λ (h : Half). IsSome h.line.machine.ending) (sym (r.turns_a.rests over_s).0) over_s

even_on : (s : Session) (now : ℕ) (j : Joint) (w : World) (rounds : List Joint) → Even s now j w → AreSent j → AreTimely s now j rounds → IsWithin s (last_of j rounds)
even_on s now j w [] e are timely = record {
  world = w;
  shows = e.shows;
  sent = are;
  within = by_numbers (left_of s w) (silent_for now j.initiator.line.machine) (silent_for now j.acceptor.line.machine) (bound (entries_of s)) e.low;
}
  where
    by_numbers : (l x y b : ℕ) → 100 * l + (x + y) ≤ 100 * b + 1002 → l ≤ b + 10
    by_numbers l x y b h = omega arith
even_on s now j w (k ∷ later) e are timely =
    let x = even_step s now j k w e are timely.0.0 timely.0.1.0 timely.0.1.1 in
    even_on s (now + 1) k x.world later x.even x.sent timely.1

-- where both begin a connection
begun_there : (s : Session) (j : Joint) (w : World) (b : Begun s j w) → after s.start (meets b.shows.now_i b.shows.now_a) ≡ w
begun_there s j w b = ap (λ (l : List Step). world_after s.start (meets b.shows.now_i b.shows.now_a ∷ l)) (sym b.first) ∙ b.shows.there

begun_initiator : (s : Session) (now : ℕ) (j : Joint) (w : World) → Begun s j w → Brings now j.initiator
begun_initiator s now j w b = record {
  least = b.least;
  most = b.most;
  ready = inl b.goes;
  told = λ _. ap (λ (m : State). m.untold) (sym b.shows.initiator.goes.alike) ∙ ap (λ (v : World). v.initiator.untold) (sym (begun_there s j w b));
  interval = let e : j.initiator.line.machine.config.keepalive ≡ s.start.initiator.config.keepalive =
      ap (λ (m : State). m.config.keepalive) (sym b.shows.initiator.goes.alike) ∙ ap (λ (v : World). v.initiator.config.keepalive) (sym (begun_there s j w b)) in
      let k = b.shows.known.0.matches.keepalive.0 in omega (arith, e, k);
}

begun_acceptor : (s : Session) (now : ℕ) (j : Joint) (w : World) → Begun s j w → 100 ≤ j.acceptor.line.machine.config.keepalive → Brings now j.acceptor
begun_acceptor s now j w b interval = record {
  least = b.acceptor.least;
  most = b.acceptor.most;
  ready = inr b.acceptor.all;
  told = λ _. ap (λ (m : State). m.untold) (sym b.shows.acceptor.goes.alike) ∙ ap (λ (v : World). v.acceptor.untold) (sym (begun_there s j w b));
  interval = interval;
}

pub beats_hold : BeatsHold
beats_hold s now j k w later b interval timely = even_on s (now + 1) k x.world later first x.sent timely.1
  where
    x : Rounded s now j k w
    x = round_goes s now j k w b.shows (begun_initiator s now j w b) (begun_acceptor s now j w b interval) b.acceptor.all timely.0.0 timely.0.1.0 timely.0.1.1

    first : Even s (now + 1) k x.world
    first = record {
      shows = x.shows;
      initiator = x.initiator;
      acceptor = x.acceptor;
      sent_a = x.sent.acceptor.all;
      low = by_numbers (weighed s (now + 1) x.world k) (weighed s now x.world k) (left_of s w) (silent_for now j.initiator.line.machine) (silent_for now j.acceptor.line.machine) (bound (entries_of s))
          (later_two s now k x.world) x.rises (left_at_first s j w b) (silent_most now j.initiator.line.machine) (silent_most now j.acceptor.line.machine);
    }
      where
        by_numbers : (a c l x y b : ℕ) → a ≤ c + 2 → c ≤ 100 * l + (x + y) → l ≤ b + 4 → x ≤ 100 → y ≤ 100 → a ≤ 100 * b + 1002
        by_numbers a c l x y b e f g h i = omega arith

pub drain_follows : DrainFollows
drain_follows s now j k w later drain b interval timely drains enough = drain_ends s (now + 1 + length later) (last_of k later) x.world drain x.shows x.sent drains (by_numbers (left_of s x.world) (entries_of s) (length drain) x.within enough)
  where
    x : IsWithin s (last_of k later)
    x = beats_hold s now j k w later b interval timely

    by_numbers : (l m n : ℕ) → l ≤ (29 * m + 77) + 10 → 64 + 16 * m ≤ n → l ≤ 2 * n
    by_numbers l m n e f = omega arith
