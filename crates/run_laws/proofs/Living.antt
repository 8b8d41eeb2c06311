-- A life over both journals: its connections as sides, and what the next life may find of it.
use Rattle.std.proofs.Common.{◌≡◌, ◌≤◌, ◌+◌, ◌^◌, ◌⊎◌, inl, inr, Bool, true, false, if◌then◌else◌, List, [], ◌∷◌, ◌++◌, length, Option, Some, None, IfSome, Result, refl, sym, ap, subst, ◌∙◌, append-nil, arith, ℕ, true≢false}
use Rattle.std.specs.Prelude.{option_to_list}
use Rattle.std.proofs.lemmas.Option.{same_Some}
use Rattle.std.specs.List.{AllByRecursion, AllZip}
use mathlib.Core.List.{IsPrefix}
use Rattle.session_model.specs.Journal.{History, BeginsHistory, history_of}
use Rattle.session_model.specs.Inbox.{InboxRecord, next_number}
use Rattle.session_model.specs.Lives.{IsImage}
use Rattle.session_model.proofs.Lists.{prefix_self, prefix_length, all_first, all_second, all_append}
use Rattle.gate_turn.proofs.Histories.{begins_on}
use Rattle.fixp_shake.specs.declared.config.EndConfig.{EndConfig}
use Rattle.fixp_machine.specs.Machine.{State, fresh}
use Rattle.fixp_machine.proofs.Windowing.{windowed_empty}
use Rattle.connection_laws.specs.Courses.{inbox_of}
use Rattle.connection_laws.specs.Ranges.{IsInRange, IsOutbox}
use Rattle.conn_turns.specs.Lines.{Line}
use Rattle.conn_turns.specs.Turns.{Turn}
use Rattle.turn_laws.specs.Standing.{Has}
use Rattle.turn_laws.specs.Legs.{TurnedLeg, AreTurns, first_line, course_on}
use Rattle.jr_dated.specs.declared.journal.Journal.{Ghosts}
use Rattle.jr_boxes.specs.Outboxes.{outbox_of}
use Rattle.jr_kept.specs.Inbox.{HoldsBox, next_of}
use Rattle.conn_door.specs.declared.answer.ServeFault.{ServeFault}
use Rattle.conn_door.specs.declared.answer.LifeEnd.{LifeEnd}
use Rattle.conn_serve.specs.Connections.{Connection, turned, IsFaithfulLeg, IsConnection, all_of, adds_of, refused_of_all}
use Rattle.conn_serve.specs.Moments.{LifeAt}
use Rattle.conn_serve.specs.Opening.{opened_state}
use Rattle.conn_serve.specs.Served.{WasGivenUp, ServedLife}
use Rattle.life_laws.proofs.Opened.{opened_in_range}
use Rattle.life_laws.proofs.Behind.{last_faithful, served_is_turned}
use Rattle.life_laws.proofs.Waits.{FailedTurn, failed_or_none}
use Rattle.run_laws.proofs.Ordered.{begins_within, history_of-records}
use Rattle.honest_turns.specs.Sides.{Side, MakesTurns}
use Rattle.honest_turns.specs.Lives.{End, side_of, sides, end_after, EndInTime}
use Rattle.run_laws.specs.Served.{ClosesInTime}
use Rattle.run_laws.proofs.Serving.{turns_of, seen_all, seen_given, all_close, turned_append, MadeTo, makes_to, ServedAs, served_as}
use Rattle.run_laws.specs.TimedRuns.{line_given, machine_left}
use Rattle.run_laws.proofs.Closing.{IsLast}
use Rattle.run_laws.proofs.Leaving.{LedTo, EndsIn}
use Rattle.run_laws.proofs.Keeping.{Stays, StaysBehind, stays_after, state_behind_all, inbox_behind_all, sides_append, after_append}
use Rattle.run_laws.proofs.Counting.{SameLink, same_links, links_append, CountedOn, counted_on}

-- a history of records that begin those of another begins it
pub begins_records : (a b : History) → IsPrefix (outbox_of a) (outbox_of b) → BeginsHistory a b
begins_records a b p =
    subst (λ (x : History). BeginsHistory x b) (history_of-records a)
    (subst (λ (x : History). BeginsHistory (history_of (outbox_of a)) x) (history_of-records b) (begins_within (outbox_of a) (outbox_of b) b p (prefix_self (outbox_of b))))

-- of the last of some connections this is so
pub record Left (P : End → TurnedLeg → Type 0) (e : End) (ts : List TurnedLeg) : Type 0 where
  pub front : List TurnedLeg
  pub last : TurnedLeg
  pub are : ts ≡ front ++ last ∷ []
  pub led : P (end_after e front) last

-- the last of some connections
record LastOf (ts : List TurnedLeg) : Type 0 where
  front : List TurnedLeg
  last : TurnedLeg
  are : ts ≡ front ++ last ∷ []

last_of : (t : TurnedLeg) (ts : List TurnedLeg) → LastOf (t ∷ ts)
last_of t [] = record { front = []; last = t; are = refl }
last_of t (u ∷ ts) = let l = last_of u ts in record { front = t ∷ l.front; last = l.last; are = ap (λ (us : List TurnedLeg). t ∷ us) l.are }

-- what a life keeps in the place of its connections, so that its inbox is one that a stop may have left; `line`: what the one that was given up left
pub record Legs (e : End) (ended : List Connection) (given_up : Option Connection) (line : Option Line) (machine : Option State) (waiting : List InboxRecord) : Type 0 where
  pub given : List TurnedLeg
  pub links : AllZip SameLink (turned (all_of ended given_up)) (turned ended ++ given)
  pub makes : AllByRecursion MakesTurns (sides e (turned ended ++ given))
  pub inbox : (end_after e (turned ended ++ given)).inbox ≡ waiting
  pub close : EndInTime (sides e (turned ended ++ given)) → AllByRecursion ClosesInTime ended
  pub left : (x : Line) → line ≡ Some x → Left (λ f t. LedTo f t x) e (turned ended ++ given)
  pub over : (s : State) → machine ≡ Some s → Left (EndsIn s) e (turned ended ++ given)

-- the outbox went on over a life
pub went_on : {J : Type 0} {G : Ghosts J} {tells : Type 0} (at behind : LifeAt J G) (m : State) (result : Result LifeEnd ServeFault) (opening closing : History) → ServedLife tells at behind m result → at.seen ≡ opening
    → BeginsHistory behind.seen closing → BeginsHistory opening closing
went_on at behind m result opening closing k opened begins =
    subst (λ (h : History). BeginsHistory h closing) opened
    (begins_on at.seen k.behind closing (seen_all at.seen k.behind m k.mid k.ended k.were) (begins_on k.behind behind.seen closing (seen_given k.behind behind.seen k.mid k.given_up k.gave_up) begins))

module _ {J : Type 0} {G : Ghosts J} {tells : Type 0} (at behind : LifeAt J G) (opening closing : History) (config : EndConfig) (result : Result LifeEnd ServeFault) (inbox : List InboxRecord) (holds : HoldsBox at.box inbox [])
    (k : ServedLife tells at behind (fresh config (opened_state opening at.box) (2 ^ 26)) result) (told : tells) (opened : at.seen ≡ opening) (begins : BeginsHistory behind.seen closing)
    (entries : IsOutbox closing.made) (session : length config.session ≡ 16) (keepalive : config.keepalive ≤ 60000) (credentials : length config.credentials ≤ 2048) (next : next_number inbox ≤ 2 ^ 26 + 1) where
  abbrev pub m : State
  m = fresh config (opened_state opening at.box) (2 ^ 26)

  abbrev pub end : End
  end = record { outbox = closing; state = m; inbox = inbox }

  on : BeginsHistory opening closing
  on = went_on at behind m result opening closing k opened begins

  range : IsInRange m
  range = opened_in_range at.box opening config (2 ^ 26) session keepalive credentials (omega arith) (let is : next_of at.box ≡ next_number inbox = holds.noticed.next in omega (arith, is, next))

  enough : length opening.made ≤ length closing.made
  enough = prefix_length opening.made closing.made on.made

  finish : IfSome m.facts.recorded.finish (IsLast closing)
  finish = by_mark opening.finished refl
    where
      by_mark : (b : Bool) → opening.finished ≡ b → IfSome (if b then Some (length opening.made) else None) (IsLast closing)
      by_mark true e = record { marked = ap (λ (h : History). h.finished) (sym (on.alone e)) ∙ e; last = ap (λ (h : History). length h.made) (on.alone e) }
      by_mark false e = tt

  abbrev line : Option Line
  line = line_given k.behind behind.seen k.mid k.given_up k.gave_up

  pub opens : Stays end
  opens = record {
    ready = record { awaits = holds.noticed.next; range = range; entries = entries };
    enough = enough;
    sound = record {
      most = omega arith;
      facts = record {
        waits = λ _. refl;
        even = λ _. refl;
        unread = λ _. refl;
        credentials = credentials;
        sent = let few = entries.few in let less = enough in omega (arith, few, less);
        next = λ _. let low = range.next in omega (arith, low);
        opening = λ _. record { no_request = refl; no_gap = refl; no_range = refl; firm = refl };
        soft = λ t. absurd (true≢false (sym t));
        role = λ _. refl;
      };
      windowed = windowed_empty m.config m.most m.facts m.ending;
      pending = tt;
      holding = tt;
      waits = λ _. refl;
    };
    last = holds.noticed.peer_last;
    finish = finish;
  }

  served : ServedAs at behind end k.ended k.given_up
  served = served_as at behind end result k told opens.ready enough begins

  has : Has closing.made behind.seen
  has = record { begins = begins.made; few = entries.few }

  all_inbox : (end_after end (turned (all_of k.ended k.given_up))).inbox ≡ inbox ++ adds_of (all_of k.ended k.given_up)
  all_inbox = inbox_behind_all end (turned (all_of k.ended k.given_up)) ∙ (served_is_turned tells at.box at behind m result closing.made inbox k told holds has opens.ready.awaits enough).adds

  there : (end_after end (turned k.ended)).state ≡ k.mid
  there = state_behind_all end (turned k.ended) ∙ (served_is_turned tells at.box at behind m result closing.made inbox k told holds has opens.ready.awaits enough).machine

  -- the connection that was given up left that line
  led_to : (c : Connection) (g : WasGivenUp k.behind behind.seen k.mid (Some c)) (t : TurnedLeg) → t.per_turn ≡ c.leg.per_turn → t.moment ≡ c.leg.moment → t.turns ≡ c.leg.turns → LedTo (end_after end (turned k.ended)) t g.0
  led_to c g t number moment same = record {
    before = k.behind;
    after = g.1.behind.seen;
    turns = subst (λ (s : State). AreTurns k.behind g.1.behind.seen (first_line t.per_turn s t.moment) g.0 t.turns) (sym there)
        (subst (λ (n : ℕ). AreTurns k.behind g.1.behind.seen (first_line n k.mid t.moment) g.0 t.turns) (sym number)
        (subst (λ (n : ℕ). AreTurns k.behind g.1.behind.seen (first_line c.leg.per_turn k.mid n) g.0 t.turns) (sym moment)
        (subst (λ (ts : List Turn). AreTurns k.behind g.1.behind.seen (first_line c.leg.per_turn k.mid c.leg.moment) g.0 ts) (sym same) (turns_of k.behind behind.seen k.mid g.0 c g.1))));
  }

  left_by : (t : TurnedLeg) (ts : List TurnedLeg) (o : Option Connection) (g : WasGivenUp k.behind behind.seen k.mid o) (x : Line) → line_given k.behind behind.seen k.mid o g ≡ Some x
      → ((c : Connection) → o ≡ Some c → (ts ≡ t ∷ []) × (t.per_turn ≡ c.leg.per_turn) × (t.moment ≡ c.leg.moment) × (t.turns ≡ c.leg.turns)) → Left (λ f u. LedTo f u x) end (turned k.ended ++ ts)
  left_by t ts None g x e as' = absurd (cc e)
  left_by t ts (Some c) g x e as' =
      let s = as' c refl in
      record {
        front = turned k.ended;
        last = t;
        are = ap (λ (us : List TurnedLeg). turned k.ended ++ us) s.0;
        led = subst (λ (y : Line). LedTo (end_after end (turned k.ended)) t y) (same_Some g.0 x e) (led_to c g t s.1 s.2 s.3);
      }

  -- so its machine is that of the line
  over_by : (t : TurnedLeg) (ts : List TurnedLeg) (c : Connection) (g : WasGivenUp k.behind behind.seen k.mid (Some c)) (s : State) → g.0.machine ≡ s
      → ts ≡ t ∷ [] → t.per_turn ≡ c.leg.per_turn → t.moment ≡ c.leg.moment → t.turns ≡ c.leg.turns → Left (EndsIn s) end (turned k.ended ++ ts)
  over_by t ts c g s is are number moment same = record {
    front = turned k.ended;
    last = t;
    are = ap (λ (us : List TurnedLeg). turned k.ended ++ us) are;
    led = inl (g.0, led_to c g t number moment same, is);
  }

  -- and where none was given up it is the one behind those that ended
  over_ended : (cs : List Connection) (s : State) → k.ended ≡ cs → machine_left cs k.mid None ≡ Some s → Left (EndsIn s) end (turned k.ended ++ [])
  over_ended [] s are e = absurd (cc e)
  over_ended (c ∷ cs) s are e =
      let l = last_of c.leg (turned cs) in
      let all : turned k.ended ≡ l.front ++ l.last ∷ [] = ap turned are ∙ l.are in
      record {
        front = l.front;
        last = l.last;
        are = append-nil (turned k.ended) ∙ all;
        led = inr (ap (λ (f : End). f.state) (sym (after_append end l.front (l.last ∷ []))) ∙ (ap (λ (ts : List TurnedLeg). (end_after end ts).state) (sym all) ∙ (there ∙ same_Some k.mid s e)));
      }

  over_given : (o : Option Connection) (g : WasGivenUp k.behind behind.seen k.mid o) (s : State) → machine_left k.ended k.mid (line_given k.behind behind.seen k.mid o g) ≡ Some s
      → Left (EndsIn s) end (turned k.ended ++ turned (option_to_list o))
  over_given None g s e = over_ended k.ended s refl e
  over_given (Some c) g s e = over_by c.leg (c.leg ∷ []) c g s (same_Some g.0.machine s e) refl refl refl refl

  -- where none of the refused records was kept
  plain : (waiting : List InboxRecord) → waiting ≡ inbox ++ adds_of (all_of k.ended k.given_up) → Legs end k.ended k.given_up line (machine_left k.ended k.mid line) waiting
  plain waiting is =
      let same : turned (all_of k.ended k.given_up) ≡ turned k.ended ++ turned (option_to_list k.given_up) = turned_append k.ended (option_to_list k.given_up) in
      record {
        given = turned (option_to_list k.given_up);
        links = subst (λ (ts : List TurnedLeg). AllZip SameLink (turned (all_of k.ended k.given_up)) ts) same (same_links (turned (all_of k.ended k.given_up)));
        makes = subst (λ (ts : List TurnedLeg). AllByRecursion MakesTurns (sides end ts)) same served.makes;
        inbox = ap (λ (ts : List TurnedLeg). (end_after end ts).inbox) (sym same) ∙ (all_inbox ∙ sym is);
        close = all_close end at.seen served.behind served.mid k.ended (turned (option_to_list k.given_up)) served.on;
        left = λ x e. by_given k.given_up k.gave_up x e;
        over = λ s e. over_given k.given_up k.gave_up s e;
      }
    where
      by_given : (o : Option Connection) (g : WasGivenUp k.behind behind.seen k.mid o) (x : Line) → line_given k.behind behind.seen k.mid o g ≡ Some x → Left (λ f u. LedTo f u x) end (turned k.ended ++ turned (option_to_list o))
      by_given None g x e = absurd (cc e)
      by_given (Some c) g x e = left_by c.leg (c.leg ∷ []) (Some c) g x e (λ d is. let same : c ≡ d = same_Some c d is in (refl, ap (λ (y : Connection). y.leg.per_turn) same, ap (λ (y : Connection). y.leg.moment) same, ap (λ (y : Connection). y.leg.turns) same))

  -- where those of the connection that was given up were kept
  with_last : (c : Connection) (given_is : k.given_up ≡ Some c) (g : WasGivenUp k.behind behind.seen k.mid (Some c)) (faithful : IsFaithfulLeg c.leg) (kept rest waiting : List InboxRecord)
      → FailedTurn g.0 c.leg.cut c.refused → kept ++ rest ≡ c.refused → waiting ≡ (inbox ++ adds_of (all_of k.ended k.given_up)) ++ kept → Legs end k.ended k.given_up line (machine_left k.ended k.mid line) waiting
  with_last c given_is g faithful kept rest waiting w all is =
      record {
        given = x.leg ∷ [];
        links = subst (λ (ts : List TurnedLeg). AllZip SameLink ts (turned k.ended ++ x.leg ∷ [])) (sym same)
            (links_append (turned k.ended) (turned k.ended) (c.leg ∷ []) (x.leg ∷ []) (same_links (turned k.ended)) (x.link, tt));
        makes = subst (λ (ss : List Side). AllByRecursion MakesTurns ss) (sym (sides_append end (turned k.ended) (x.leg ∷ [])))
            (all_append MakesTurns (sides end (turned k.ended)) (side_of behind_ended x.leg ∷ []) ended_make (x.makes, tt));
        inbox = ap (λ (f : End). f.inbox) (after_append end (turned k.ended) (x.leg ∷ []))
            ∙ (x.inbox ∙ (ap (λ (rs : List InboxRecord). rs ++ kept) before ∙ sym is));
        close = all_close end at.seen served.behind served.mid k.ended (x.leg ∷ []) served.on;
        left = λ y e. left_by x.leg (x.leg ∷ []) k.given_up k.gave_up y e
            (λ d is. let same : c ≡ d = same_Some c d (sym given_is ∙ is) in (refl, x.number ∙ ap (λ (z : Connection). z.leg.per_turn) same, x.moment ∙ ap (λ (z : Connection). z.leg.moment) same, x.turns ∙ ap (λ (z : Connection). z.leg.turns) same));
        over = λ s e. by_over k.given_up k.gave_up given_is s e;
      }
    where
      behind_ended : End
      behind_ended = end_after end (turned k.ended)

      same : turned (all_of k.ended k.given_up) ≡ turned k.ended ++ c.leg ∷ []
      same = ap (λ (o : Option Connection). turned (all_of k.ended o)) given_is ∙ turned_append k.ended (c ∷ [])

      makes : AllByRecursion MakesTurns (sides end (turned k.ended) ++ side_of behind_ended c.leg ∷ [])
      makes = subst (λ (ss : List Side). AllByRecursion MakesTurns ss) (sides_append end (turned k.ended) (c.leg ∷ []))
          (subst (λ (ts : List TurnedLeg). AllByRecursion MakesTurns (sides end ts)) same served.makes)

      ended_make : AllByRecursion MakesTurns (sides end (turned k.ended))
      ended_make = all_first MakesTurns (sides end (turned k.ended)) (side_of behind_ended c.leg ∷ []) makes

      stays : StaysBehind end behind_ended
      stays = stays_after end (turned k.ended) opens ended_make

      last_makes : MakesTurns (side_of behind_ended c.leg)
      last_makes = (all_second MakesTurns (sides end (turned k.ended)) (side_of behind_ended c.leg ∷ []) makes).0

      made : MadeTo behind_ended g.0 c
      made = makes_to behind_ended k.behind behind.seen g.0 c last_makes.ready (subst (λ (h : History). BeginsHistory behind.seen h) (sym stays.alike.outbox) begins) last_makes.timely faithful
          (subst (λ (s : State). IsConnection k.behind behind.seen s g.0 c) (sym there) g.1)

      x : CountedOn (side_of behind_ended c.leg) kept
      x = counted_on (side_of behind_ended c.leg) c.refused kept rest made.makes stays.stays.enough (subst (λ (l : Line). FailedTurn l c.leg.cut c.refused) (sym made.line) w) all

      before : inbox_of (course_on behind_ended.state behind_ended.inbox c.leg) ≡ inbox ++ adds_of (all_of k.ended k.given_up)
      before = sym (ap (λ (f : End). f.inbox) (after_append end (turned k.ended) (c.leg ∷ []))) ∙ (ap (λ (ts : List TurnedLeg). (end_after end ts).inbox) (sym same) ∙ all_inbox)

      by_over : (o : Option Connection) (g : WasGivenUp k.behind behind.seen k.mid o) → o ≡ Some c → (s : State) → machine_left k.ended k.mid (line_given k.behind behind.seen k.mid o g) ≡ Some s
          → Left (EndsIn s) end (turned k.ended ++ x.leg ∷ [])
      by_over None g is s e = absurd (cc is)
      by_over (Some d) g is s e =
          let same : c ≡ d = same_Some c d (sym is) in
          over_by x.leg (x.leg ∷ []) d g s (same_Some g.0.machine s e) refl (x.number ∙ ap (λ (z : Connection). z.leg.per_turn) same) (x.moment ∙ ap (λ (z : Connection). z.leg.moment) same) (x.turns ∙ ap (λ (z : Connection). z.leg.turns) same)

  -- whatever a stop may leave of its inbox
  pub legs : (waiting : List InboxRecord) → IsImage (inbox ++ adds_of (all_of k.ended k.given_up)) (refused_of_all (option_to_list k.given_up)) waiting → Legs end k.ended k.given_up line (machine_left k.ended k.mid line) waiting
  legs waiting g = by_given k.given_up refl k.gave_up
    where
      closing_inbox : List InboxRecord
      closing_inbox = inbox ++ adds_of (all_of k.ended k.given_up)

      none_kept : g.kept ≡ [] → Legs end k.ended k.given_up line (machine_left k.ended k.mid line) waiting
      none_kept e = plain waiting (g.holds ∙ (ap (λ (rs : List InboxRecord). closing_inbox ++ rs) e ∙ append-nil closing_inbox))

      no_more : (kept : List InboxRecord) → IsPrefix kept [] → kept ≡ []
      no_more [] p = refl
      no_more (x ∷ xs) p = absurd (cc (p.1))

      by_given : (given_up : Option Connection) → k.given_up ≡ given_up → WasGivenUp k.behind behind.seen k.mid given_up → Legs end k.ended k.given_up line (machine_left k.ended k.mid line) waiting
      by_given None e g' = none_kept (no_more g.kept (subst (λ (o : Option Connection). IsPrefix g.kept (refused_of_all (option_to_list o))) e g.beginning))
      by_given (Some c) e g' = by_failing (failed_or_none k.behind behind.seen k.mid g'.0 c g'.1)
        where
          beginning : IsPrefix g.kept c.refused
          beginning = subst (λ (rs : List InboxRecord). IsPrefix g.kept rs) (append-nil c.refused) (subst (λ (o : Option Connection). IsPrefix g.kept (refused_of_all (option_to_list o))) e g.beginning)

          faithful : IsFaithfulLeg c.leg
          faithful = last_faithful k.ended c (subst (λ (o : Option Connection). AllByRecursion IsFaithfulLeg (turned (all_of k.ended o))) e (k.faithful told))

          by_failing : (c.refused ≡ []) ⊎ FailedTurn g'.0 c.leg.cut c.refused → Legs end k.ended k.given_up line (machine_left k.ended k.mid line) waiting
          by_failing (inl none) = none_kept (no_more g.kept (subst (λ (rs : List InboxRecord). IsPrefix g.kept rs) none beginning))
          by_failing (inr w) = with_last c e g' faithful g.kept beginning.0 waiting w beginning.1 g.holds
