-- That each turn of either end lowers what both have still to do.
use Rattle.std.proofs.Common.{◌≡◌, ◌⊎◌, inl, inr, ℕ, ◌+◌, ◌≤◌, true, false, List, [], ◌∷◌, ◌++◌, map, Option, None, sym, ap, subst, ◌∙◌, arith, true≢false}
use Rattle.std.specs.Prelude.{IsSome}
use Rattle.std.specs.List.{AllByRecursion}
use Rattle.session_model.specs.Journal.{Entry, History, BeginsHistory}
use Rattle.session_model.proofs.Lists.{all_append}
use Rattle.gw_links.specs.Links.{LinkTold, Carried}
use Rattle.fixp_shake.specs.declared.config.Role.TheVariants as roles
use Rattle.fixp_machine.specs.Machine.{State}
use Rattle.conn_turns.specs.Turns.{Turn, IsFaithful, only_sends, works, link_lost, cut_short, not_begun, calls_of}
use Rattle.connection_laws.specs.Courses.{Course}
use Rattle.turn_laws.specs.Legs.{is_lost, sent_in, IsTimelyTurn}
use Rattle.turn_laws.specs.Made.{MadeTurn}
use Rattle.honest_ends.specs.Worlds.{World, Step, meets, initiator_reads, acceptor_reads, initiator_does, acceptor_does, written, world_after, AllMayStep}
use Rattle.honest_turns.specs.Steps.{turned_step, initiator_steps}
use Rattle.honest_turns.proofs.Reaching.{Reaches, may_append, turned, reaches_turned}
use Rattle.drain_laws.specs.Calls.{beats_at}
use Rattle.drain_ends.specs.Closing.{KeepsLink}
use Rattle.drain_ends.specs.Falling as falling
use Rattle.drain_turns.specs.Joints.{Half, Joint, Session, measure, IsOn, IsUnread, Shows}
use Rattle.drain_turns.specs.Turning.{turn_at, TakesTurn, DueIn, Turned, TurnsFall}
use Rattle.drain_steps.proofs.Stepping.{FallsFrom, from_initiator, from_acceptor, measure_turned, world_append}
use Rattle.drain_turns.proofs.Turned.{Goes, sends_goes, works_goes}

by_turn : (outbox : History) (ha : List Entry) (b : Course) (w : World) (now : ℕ) (old new : Half) (way left : List ℕ) (theirs : State) (held out : List ℕ) (turn : Turn) (told told' : LinkTold) (carried carried' : Option Carried) (clock : ℕ)
    → FallsFrom outbox.made ha w → IsOn outbox b old w.initiator → IsUnread w.outward old.line.machine held out → IsUnread w.homeward theirs old.line.held way → theirs.unsent ≡ [] → old.line.machine.ending ≡ None
    → 4 ≤ old.line.per_turn → old.line.per_turn ≤ 256 → MadeTurn true (turn_at old told carried clock) (turn_at new told' carried' now) turn → told.waits ≡ way → told'.waits ≡ left → told.over ≡ false
    → is_lost turn ≡ false → old.line.machine.moment ≤ now → IsFaithful turn → IsTimelyTurn turn → BeginsHistory new.seen outbox
    → Goes outbox ha b w new turn theirs held out left (beats_at old.line.machine now) (DueIn old w.initiator w.homeward now)
by_turn outbox ha b w now old new way left theirs held out (only_sends at sent true) told told' carried carried' clock falls on outward homeward all_sent going least most made waits leaves link_on sound later faithful timely begins = absurd (true≢false sound)
by_turn outbox ha b w now old new way left theirs held out (only_sends at sent false) told told' carried carried' clock falls on outward homeward all_sent going least most made waits leaves link_on sound later faithful timely begins =
    sends_goes outbox ha b w now old new way left theirs held out at sent told told' carried carried' clock falls on outward homeward going made (sym waits ∙ (made.moved.tells.waited ∙ leaves)) later timely begins
by_turn outbox ha b w now old new way left theirs held out (works k) told told' carried carried' clock falls on outward homeward all_sent going least most made waits leaves link_on sound later faithful timely begins =
    let waited : told.waits ≡ k.received ++ left = made.moved.tells.waited ∙ ap (λ (bs : List ℕ). k.received ++ bs) leaves in
    works_goes outbox ha b w now old new way left theirs held out k told told' carried carried' clock falls on outward homeward all_sent going least most made waited (sym waits ∙ waited) link_on sound later faithful timely begins
by_turn outbox ha b w now old new way left theirs held out (link_lost at) told told' carried carried' clock falls on outward homeward all_sent going least most made waits leaves link_on sound later faithful timely begins = absurd (true≢false sound)
by_turn outbox ha b w now old new way left theirs held out (cut_short at received frames refused) told told' carried carried' clock falls on outward homeward all_sent going least most made waits leaves link_on sound later faithful timely begins = absurd (true≢false sound)
by_turn outbox ha b w now old new way left theirs held out not_begun told told' carried carried' clock falls on outward homeward all_sent going least most made waits leaves link_on sound later faithful timely begins = absurd (true≢false sound)

pub turn_goes : (outbox : History) (ha : List Entry) (b : Course) (w : World) (now : ℕ) (old new : Half) (way left : List ℕ) (theirs : State) (held out : List ℕ)
    → FallsFrom outbox.made ha w → IsOn outbox b old w.initiator → IsUnread w.outward old.line.machine held out → IsUnread w.homeward theirs old.line.held way → theirs.unsent ≡ [] → old.line.machine.ending ≡ None
    → 4 ≤ old.line.per_turn → old.line.per_turn ≤ 256 → (t : TakesTurn now old new way left) → BeginsHistory new.seen outbox
    → Goes outbox ha b w new t.turn theirs held out left (beats_at old.line.machine now) (DueIn old w.initiator w.homeward now)
turn_goes outbox ha b w now old new way left theirs held out falls on outward homeward all_sent going least most t begins =
    by_turn outbox ha b w now old new way left theirs held out t.turn t.told t.told_then t.carried t.carried_then t.clock falls on outward homeward all_sent going least most t.made t.waits t.leaves t.goes_on t.sound t.later t.faithful t.timely begins

-- the steps of one end, seen from the other, leave the link standing too
pub turned_keeps : (steps : List Step) → AllByRecursion KeepsLink steps → AllByRecursion KeepsLink (map turned_step steps)
turned_keeps [] k = tt
turned_keeps (s ∷ later) k = (one s k.0, turned_keeps later k.1)
  where
    one : (s : Step) → KeepsLink s → KeepsLink (turned_step s)
    one (meets now_i now_a) k = absurd k
    one (initiator_reads at now) k = k
    one (acceptor_reads at now) k = k
    one (initiator_does call) k = k
    one (acceptor_does call) k = k

-- more steps behind those that led to a world
pub shown : (s : Session) (j j' : Joint) (w v : World) (steps : List Step) → Shows s j w → AllMayStep s.outbox_i.made s.outbox_a.made w steps → AllByRecursion KeepsLink steps → world_after w steps ≡ v
    → IsOn s.outbox_i s.course_i j'.initiator v.initiator → IsOn s.outbox_a s.course_a j'.acceptor v.acceptor → IsUnread v.outward j'.initiator.line.machine j'.acceptor.line.held j'.outward
    → IsUnread v.homeward j'.acceptor.line.machine j'.initiator.line.held j'.homeward → Shows s j' v
shown s j j' w v steps sh may keeps there on_i on_a outward homeward = record {
  known = sh.known;
  agreed = sh.agreed;
  now_i = sh.now_i;
  now_a = sh.now_a;
  later = sh.later ++ steps;
  may = may_append s.outbox_i.made s.outbox_a.made s.start (meets sh.now_i sh.now_a ∷ sh.later) steps sh.may (subst (λ (u : World). AllMayStep s.outbox_i.made s.outbox_a.made u steps) (sym sh.there) may);
  keeps = all_append KeepsLink sh.later steps sh.keeps keeps;
  there = world_append s.start (meets sh.now_i sh.now_a ∷ sh.later) steps ∙ (ap (λ (u : World). world_after u steps) sh.there ∙ there);
  initiator = on_i;
  acceptor = on_a;
  outward = outward;
  homeward = homeward;
}

pub reached : (s : Session) (j : Joint) (w : World) → Shows s j w → Reaches s.outbox_i.made s.outbox_a.made s.start w
reached s j w sh = record { steps = meets sh.now_i sh.now_a ∷ sh.later; may = sh.may; there = sh.there }

pub initiator_turns : (s : Session) (j : Joint) (w : World) (now : ℕ) (new : Half) (left : List ℕ) → Shows s j w → 4 ≤ j.initiator.line.per_turn → j.initiator.line.per_turn ≤ 256
    → j.initiator.line.machine.ending ≡ None → (t : TakesTurn now j.initiator new j.homeward left) → BeginsHistory new.seen s.outbox_i → j.acceptor.line.machine.unsent ≡ []
    → Turned s (record { initiator = new; acceptor = j.acceptor; outward = j.outward ++ sent_in t.turn; homeward = left }) w (beats_at j.initiator.line.machine now)
    (DueIn j.initiator w.initiator w.homeward now) roles.Initiator
initiator_turns s j w now new left sh least most going t begins all_sent = record {
  world = g.world;
  shows = shown s j (record { initiator = new; acceptor = j.acceptor; outward = j.outward ++ sent_in t.turn; homeward = left }) w g.world (initiator_steps t.turn) sh g.may g.keeps g.there
      g.on (subst (λ (m : State). IsOn s.outbox_a s.course_a j.acceptor m) (sym g.acceptor) sh.acceptor) g.outward g.homeward;
  same = g.acceptor;
  adds = (written w.initiator (calls_of t.turn), sym g.says);
  rises = g.rises;
  falls = g.falls;
}
  where
    g : Goes s.outbox_i s.outbox_a.made s.course_i w new t.turn j.acceptor.line.machine j.acceptor.line.held j.outward left (beats_at j.initiator.line.machine now) (DueIn j.initiator w.initiator w.homeward now)
    g = turn_goes s.outbox_i s.outbox_a.made s.course_i w now j.initiator new j.homeward left j.acceptor.line.machine j.acceptor.line.held j.outward
        (from_initiator s.outbox_i.made s.outbox_a.made s.start w sh.known sh.agreed (reached s j w sh)) sh.initiator sh.outward sh.homeward all_sent going least most t begins

pub acceptor_turns : (s : Session) (j : Joint) (w : World) (now : ℕ) (new : Half) (left : List ℕ) → Shows s j w → 4 ≤ j.acceptor.line.per_turn → j.acceptor.line.per_turn ≤ 256
    → j.acceptor.line.machine.ending ≡ None → (t : TakesTurn now j.acceptor new j.outward left) → BeginsHistory new.seen s.outbox_a → j.initiator.line.machine.unsent ≡ []
    → Turned s (record { initiator = j.initiator; acceptor = new; outward = left; homeward = j.homeward ++ sent_in t.turn }) w (beats_at j.acceptor.line.machine now)
    (DueIn j.acceptor w.acceptor w.outward now) roles.Acceptor
acceptor_turns s j w now new left sh least most going t begins all_sent = record {
  world = turned g.world;
  shows = shown s j (record { initiator = j.initiator; acceptor = new; outward = left; homeward = j.homeward ++ sent_in t.turn }) w (turned g.world) (map turned_step (initiator_steps t.turn)) sh
      back.may (turned_keeps (initiator_steps t.turn) g.keeps) back.there
      (subst (λ (m : State). IsOn s.outbox_i s.course_i j.initiator m) (sym g.acceptor) sh.initiator) g.on g.homeward g.outward;
  same = g.acceptor;
  adds = (written w.acceptor (calls_of t.turn), sym g.says);
  rises = less (measure s w) (falling.measure ha hi (turned w)) (measure s (turned g.world)) (falling.measure ha hi g.world) (beats_at j.acceptor.line.machine now) g.rises (measure_turned hi ha g.world) (measure_turned ha hi w);
  falls = λ k due. by_fall k (g.falls k due);
}
  where
    hi : List Entry
    hi = s.outbox_i.made

    ha : List Entry
    ha = s.outbox_a.made

    g : Goes s.outbox_a hi s.course_a (turned w) new t.turn j.initiator.line.machine j.initiator.line.held j.homeward left (beats_at j.acceptor.line.machine now) (DueIn j.acceptor w.acceptor w.outward now)
    g = turn_goes s.outbox_a hi s.course_a (turned w) now j.acceptor new j.outward left j.initiator.line.machine j.initiator.line.held j.homeward
        (from_acceptor hi ha s.start w sh.known sh.agreed (reached s j w sh)) sh.acceptor sh.homeward sh.outward all_sent going least most t begins

    back : Reaches hi ha w (turned g.world)
    back = reaches_turned ha hi (turned w) g.world (record { steps = initiator_steps t.turn; may = g.may; there = g.there })

    less : (a b c d q : ℕ) → d ≤ b + q → c ≡ d → b ≡ a → c ≤ a + q
    less a b c d q h e f = omega arith

    by_fall : (k : ℕ) → (falling.measure ha hi g.world + k ≤ falling.measure ha hi (turned w) + beats_at j.acceptor.line.machine now) ⊎ IsSome g.world.initiator.ending
        → (measure s (turned g.world) + k ≤ measure s w + beats_at j.acceptor.line.machine now) ⊎ IsSome (turned g.world).acceptor.ending
    by_fall k (inl h) = inl (numbers (measure s w) (falling.measure ha hi (turned w)) (measure s (turned g.world)) (falling.measure ha hi g.world) (beats_at j.acceptor.line.machine now) k h (measure_turned hi ha g.world) (measure_turned ha hi w))
      where
        numbers : (a b c d q k : ℕ) → d + k ≤ b + q → c ≡ d → b ≡ a → c + k ≤ a + q
        numbers a b c d q k h e f = omega arith
    by_fall k (inr over) = inr over

pub turns_fall : TurnsFall
turns_fall = record { initiator = initiator_turns; acceptor = acceptor_turns }
