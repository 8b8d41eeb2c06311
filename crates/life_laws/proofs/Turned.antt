-- A connection of a served life is a list of turns, and adds to the inbox what it is said to add.
use Rattle.std.proofs.Common.{◌≡◌, ◌≤◌, List, [], ◌∷◌, ◌++◌, length, Option, Some, None, refl, sym, ap, subst, ◌∙◌, append-nil, append_assoc}
use Rattle.std.specs.Prelude.{IfSome, option_to_list}
use Rattle.std.specs.List.{AllByRecursion, flat_map}
use Rattle.std.proofs.lemmas.Grind.{flat_map-append}
use mathlib.Core.List.{IsPrefix}
use Rattle.session_model.specs.Journal.{Entry, History}
use Rattle.session_model.specs.Inbox.{InboxRecord, next_number}
use Rattle.session_model.proofs.Lists.{prefix_trans}
use Rattle.fixp_machine.specs.Machine.{State, Call}
use Rattle.conn_turns.specs.declared.news.NewsItem.{NewsItem}
use Rattle.conn_turns.specs.Lines.{Line}
use Rattle.conn_turns.specs.Frames.{added}
use Rattle.conn_turns.specs.Turns.{Turn, IsFaithful, calls_of}
use Rattle.connection_laws.specs.Courses.{Course, inbox_of, beginning, course_after}
use Rattle.connection_laws.proofs.Continuing.{calls_go_on}
use Rattle.turn_laws.specs.Turns.{IsCut, adds_in}
use Rattle.turn_laws.specs.Standing.{StandsAt, Has}
use Rattle.turn_laws.specs.Legs.{AreTurns, TurnedLeg, calls_on, first_line, AreTurnsOf, course_on}
use Rattle.turn_laws.proofs.Going.{after_append}
use Rattle.turn_laws.proofs.Working.{turn_may_stand}
use Rattle.turn_laws.proofs.Running.{all_seen, turns_stand, begin_stands, leg_stands}
use Rattle.turn_laws.proofs.Adding.{turn_adds, cut_adds}
use Rattle.conn_serve.specs.Connections.{Connection, IsFaithfulLeg, IsConnection}
use Rattle.conn_serve.proofs.Following.{PlainTurns, PlainCut, PlainConnection, plain, plain_are_turns}

-- an outbox that begins with what was seen begins with what was seen before
pub has_before : (h : List Entry) (before after : History) → Has h after → IsPrefix before.made after.made → Has h before
has_before h before after has p = record { begins = prefix_trans before.made after.made h p has.begins; few = has.few }

-- what whole turns add
turns_add : (h : List Entry) (before after : History) (old new : Line) (ts : List Turn) (news : List NewsItem) (adds : List InboxRecord) (c : Course) → StandsAt h c old → Has h after
    → PlainTurns before after old new ts news adds → AllByRecursion IsFaithful ts → (course_after c (flat_map calls_of ts)).added ≡ c.added ++ adds
turns_add h before after old new [] news adds c s has w faithful = sym (append-nil c.added) ∙ ap (λ (rs : List InboxRecord). c.added ++ rs) (sym w.3)
turns_add h before after old new (t ∷ later) news adds c s has w faithful =
    let mid : Line = w.1 in
    let between : History = w.2 in
    let so_far : Has h between = has_before h between after has (all_seen between after mid new later (plain_are_turns between after mid new later w.4 w.5 w.8)) in
    let x = turn_may_stand h before between old mid t c s so_far w.3 faithful.0 in
    let d : Course = course_after c (calls_of t) in
    ap (λ (e : Course). e.added) (after_append c (calls_of t) (flat_map calls_of later))
    ∙ (turns_add h between after mid new later w.4 w.5 d x.after has w.8 faithful.1
    ∙ (ap (λ (rs : List InboxRecord). rs ++ w.5) (turn_adds h before between old mid t c s w.3)
    ∙ (append_assoc c.added (adds_in old t) w.5 ∙ ap (λ (rs : List InboxRecord). c.added ++ rs) (sym w.7))))

cut_part_adds : (h : List Entry) (c : Course) (last : Line) (cut : Option Turn) (news : List NewsItem) (adds refused wanted : List InboxRecord) → StandsAt h c last → PlainCut last cut news adds refused wanted
    → (course_after c (flat_map calls_of (option_to_list cut))).added ≡ c.added ++ adds
cut_part_adds h c last None news adds refused wanted s k = sym (append-nil c.added) ∙ ap (λ (rs : List InboxRecord). c.added ++ rs) (sym k.1)
cut_part_adds h c last (Some t) news adds refused wanted s k =
    ap (λ (cs : List Call). (course_after c cs).added) (append-nil (calls_of t) ∙ ap calls_of k.is)
    ∙ (cut_adds h last k.now k.received k.frames k.refusal c s k.cut ∙ ap (λ (rs : List InboxRecord). c.added ++ rs) (sym k.adds_are))

is_cut : (last : Line) (cut : Option Turn) (news : List NewsItem) (adds refused wanted : List InboxRecord) → PlainCut last cut news adds refused wanted → IfSome cut (IsCut last)
is_cut last None news adds refused wanted k = tt
is_cut last (Some t) news adds refused wanted k = subst (λ (u : Turn). IsCut last u) (sym k.is) k.cut

-- a connection: its whole turns, where it stands behind them, and what it adds
pub record IsTurnedOne (h : List Entry) (m : State) (i : List InboxRecord) (last : Line) (c : Connection) : Type 0 where
  pub turns : AreTurnsOf h m c.leg
  pub line : turns.last ≡ last
  pub stands : StandsAt h (course_after (beginning m i c.leg.moment) (flat_map calls_of c.leg.turns)) last
  pub joined : course_on m i c.leg ≡ course_after (course_after (beginning m i c.leg.moment) (flat_map calls_of c.leg.turns)) (flat_map calls_of (option_to_list c.leg.cut))
  pub adds : inbox_of (course_on m i c.leg) ≡ i ++ c.adds

pub connection_turned : (h : List Entry) (before after : History) (m : State) (i : List InboxRecord) (last : Line) (c : Connection) → m.facts.recorded.inbox_next ≡ next_number i → m.facts.recorded.sent ≤ length h
    → Has h after → IsConnection before after m last c → IsFaithfulLeg c.leg → IsTurnedOne h m i last c
connection_turned h before after m i last c awaits enough has real faithful =
    let k : PlainConnection before after m last c = plain before after m last c real in
    let t : TurnedLeg = c.leg in
    let b : Course = beginning m i t.moment in
    let first : List Call = flat_map calls_of t.turns in
    let so_far : Has h k.seen = has_before h k.seen after has k.grows.made in
    let are : AreTurns before k.seen (first_line t.per_turn m t.moment) last t.turns = plain_are_turns before k.seen (first_line t.per_turn m t.moment) last t.turns k.told k.added k.turns in
    let turns : AreTurnsOf h m t = record { before = before; after = k.seen; last = last; turns = are; cut = is_cut last t.cut k.cut_told k.cut_added c.refused c.wanted k.cut; has = so_far; faithful = faithful } in
    let start : StandsAt h b (first_line t.per_turn m t.moment) = begin_stands h t.per_turn m i t.moment awaits enough in
    let x = turns_stand h before k.seen (first_line t.per_turn m t.moment) last t.turns b start so_far are faithful in
    let joined : course_on m i t ≡ course_after (course_after b first) (flat_map calls_of (option_to_list t.cut)) =
    ap (λ (cs : List Call). course_after b cs) (flat_map-append calls_of t.turns (option_to_list t.cut)) ∙ after_append b first (flat_map calls_of (option_to_list t.cut)) in
    let adds : (course_on m i t).added ≡ c.adds =
    ap (λ (d : Course). d.added) joined
    ∙ (cut_part_adds h (course_after b first) last t.cut k.cut_told k.cut_added c.refused c.wanted x.after k.cut
    ∙ (ap (λ (rs : List InboxRecord). rs ++ k.cut_added) (turns_add h before k.seen (first_line t.per_turn m t.moment) last t.turns k.told k.added b start so_far k.turns faithful) ∙ sym k.adds)) in
    let begun : (course_on m i t).start ≡ i = (calls_go_on h b (calls_on t) (leg_stands h m i t awaits enough turns)).start in
    record {
      turns = turns;
      line = refl;
      stands = x.after;
      joined = joined;
      adds = ap (λ (rs : List InboxRecord). rs ++ (course_on m i t).added) begun ∙ ap (λ (rs : List InboxRecord). i ++ rs) adds;
    }
