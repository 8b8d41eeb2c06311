-- Both ends once their gates are closed: the session guarantee.
use Rattle.std.proofs.Common.{◌≡◌, ◌<◌, ◌^◌, false, List, [], ◌∷◌, ◌++◌, length, Option, Some, None, refl, sym, subst, append-nil, arith}
use Rattle.std.specs.List.{AllByRecursion, AllZip}
use Rattle.std.proofs.Math.Logic.{∥∥₁_map₂}
use Rattle.session_model.specs.Journal.{Entry, OutboxRecord, History, entries, InOrder}
use Rattle.session_model.specs.Inbox.{InboxRecord}
use Rattle.fixp_msgs.specs.Payload.{IsApplication}
use Rattle.fixp_msgs.specs.declared.flow.Flow.{Flow}
use Rattle.jr_dated.specs.declared.journal.Journal.{Ghosts}
use Rattle.jr_boxes.specs.Outboxes.{outbox_of}
use Rattle.jr_kept.specs.declared.outbox.Outbox.{Outbox}
use Rattle.jr_kept.specs.Outbox as outboxes
use Rattle.jr_kept.specs.declared.inbox.Inbox.{Inbox}
use Rattle.jr_kept.specs.Inbox as inboxes
use Rattle.gate_senders.specs.Gate.{opening_of}
use Rattle.gate_turn.specs.Places.{known}
use Rattle.gw_link_fakes.specs.Pipes.{Held}
use Rattle.turn_laws.specs.Standing.{Has}
use Rattle.turn_laws.specs.Legs.{TurnedLeg}
use Rattle.two_ends.specs.Meeting.{Holds}
use Rattle.two_ends.specs.Pairing.{ReadEachOther}
use Rattle.two_ends.specs.Stories.{Story, lived, OutboxGoesOn}
use Rattle.two_ends.proofs.Driven.{stories_hold}
use Rattle.gw_rehearse.specs.declared.end.DrivenEnd.{DrivenEnd}
use Rattle.gw_rehearse.specs.declared.journals.Journals.{Journals}
use Rattle.gw_rehearse.specs.Standing.{is_given}
use Rattle.gw_rehearse.specs.Driven.{IsEnded, ClosedOn}
use Rattle.gw_rehearse.specs.Together.{Lives, Together, is_lost, KeepsSession}
use Rattle.gw_rehearse.proofs.Stories.{ended_none, ended_one}
use Rattle.gw_rehearse.proofs.Together.{neither, paired_more}
use Rattle.gw_rehearse.proofs.Outboxes.{entries-outbox_of, outbox_goes_on}

-- an outbox has as many entries as it counts
made_front : {J : Type 0} {G : Ghosts J} (box : Outbox J G) (h : History) → outboxes.StandsFor box h → outboxes.front_of box < 2 ^ 40 → length h.made < 2 ^ 40
made_front box h s few = omega (arith, s.tallied.all, few)

-- of both, paired in order
pub record BothOver (client server : Flow) (i a : DrivenEnd) : Type 0 where
  lives : Lives client server
  lives_a : Lives server client
  legs : List TurnedLeg
  legs_a : List TurnedLeg
  paired : AllZip ReadEachOther (lives.legs ++ legs) (lives_a.legs ++ legs_a)
  over : IsEnded lives.begins legs i
  over_a : IsEnded lives_a.begins legs_a a

pub both_over : (client server : Flow) (i a : DrivenEnd) (pipe : Option Held) → is_lost i a ≡ false → Together client server i a pipe → BothOver client server i a
both_over client server i a None sound t = record {
  lives = t.lives;
  lives_a = t.lives_a;
  legs = t.past;
  legs_a = t.past_a;
  paired = t.paired;
  over = ended_none t.lives.begins t.past i t.lives.began.awaits t.meet.0;
  over_a = ended_none t.lives_a.begins t.past_a a t.lives_a.began.awaits t.meet.1;
}
both_over client server i a (Some p) sound t =
    let k = t.meet in
    let parts = neither (is_given i.standing) (is_given a.standing) sound in
    record {
      lives = t.lives;
      lives_a = t.lives_a;
      legs = t.past ++ k.leg ∷ [];
      legs_a = t.past_a ++ k.leg_a ∷ [];
      paired = paired_more t.lives.legs t.past t.lives_a.legs t.past_a k.leg k.leg_a t.paired ((p.to_left, sym k.way.homeward), (p.to_right, sym k.way.outward));
      over = ended_one t.lives.begins t.past k.leg i t.lives.began.awaits parts.0 k.runs;
      over_a = ended_one t.lives_a.begins t.past_a k.leg_a a t.lives_a.began.awaits parts.1 k.runs_a;
    }

-- the story of an end, with the life that is over where it is closed
ended : (own peer : Flow) (l : Lives own peer) (legs : List TurnedLeg) (e : DrivenEnd) (j : Journals) (c : ClosedOn e j) → (o : IsEnded l.begins legs e) → outboxes.StandsFor j.outbox c.history
    → Story own peer (l.legs ++ legs) (outbox_of c.history) o.inbox
ended own peer l legs e j c o s =
    let is : entries (outbox_of c.history) ≡ c.history.made = entries-outbox_of c.history in
    lived {b = l.begins} l.story (record {
      began = l.began;
      came_to = o.inbox;
      refused = o.refused;
      over = o.over (outbox_of c.history)
          (subst (λ (es : List Entry). Has es (known e.pass).seen) (sym is) (record { begins = c.seen.made; few = made_front j.outbox c.history s c.few }));
      image = record { kept = []; beginning = (o.refused, refl); holds = sym (append-nil o.inbox) };
      goes_on = subst (λ (rs : List OutboxRecord). OutboxGoesOn rs (outbox_of c.history)) (sym o.opens) (outbox_goes_on (opening_of e.gate).history c.history c.opened);
      payloads = subst (λ (es : List Entry). AllByRecursion (λ (x : Entry). IsApplication x.payload) es) (sym is) s.outbox.payloads;
      in_order = subst (λ (es : List Entry). InOrder es) (sym is) s.outbox.in_order;
    })

-- an inbox that holds a list stands for it
holds_stands : {J : Type 0} {G : Ghosts J} (box : Inbox J G) (i refused : List InboxRecord) → inboxes.HoldsBox box i refused → inboxes.StandsFor box i
holds_stands box i refused held = record { dated = held.dated; bare = held.bare; journal = held.journal.stands_for; inbox = held.inbox; noticed = held.noticed }

kept : (client server : Flow) (i a : DrivenEnd) (j k : Journals) (c : ClosedOn i j) (d : ClosedOn a k) → BothOver client server i a → outboxes.StandsFor j.outbox c.history → outboxes.StandsFor k.outbox d.history
    → KeepsSession client server j k
kept client server i a j k c d b s s' =
    let held = stories_hold client server (outbox_of c.history) (outbox_of d.history) (b.lives.legs ++ b.legs) (b.lives_a.legs ++ b.legs_a) b.over.inbox b.over_a.inbox
    (ended client server b.lives b.legs i j c b.over s) (ended server client b.lives_a b.legs_a a k d b.over_a s') b.paired in
    record {
      history = c.history;
      history_a = d.history;
      inbox = b.over.inbox;
      inbox_a = b.over_a.inbox;
      stands = s;
      stands_a = s';
      holds = subst (λ box. inboxes.StandsFor box b.over.inbox) (sym c.inbox) (holds_stands i.inbox b.over.inbox b.over.refused b.over.holds);
      holds_a = subst (λ box. inboxes.StandsFor box b.over_a.inbox) (sym d.inbox) (holds_stands a.inbox b.over_a.inbox b.over_a.refused b.over_a.holds);
      outward = subst (λ (es : List Entry). Holds client es b.over_a.inbox) (entries-outbox_of c.history) held.0;
      homeward = subst (λ (es : List Entry). Holds server es b.over.inbox) (entries-outbox_of d.history) held.1;
    }

-- two ends that are ends of one session keep its guarantee in their journals
pub keeps_session : (client server : Flow) (i a : DrivenEnd) (j k : Journals) (pipe : Option Held) → is_lost i a ≡ false → ClosedOn i j → ClosedOn a k → Together client server i a pipe → ∥ KeepsSession client server j k ∥₁
keeps_session client server i a j k pipe sound c d t =
    ∥∥₁_map₂ c.stands d.stands (λ s s'. kept client server i a j k c d (both_over client server i a pipe sound t) s s')
