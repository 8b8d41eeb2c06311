-- Two ends whose stories are told are a session.
use Rattle.std.proofs.Common.{◌≡◌, inl, ℕ, true, List, [], ◌∷◌, ◌++◌, flat_map, map, drop, length, Option, Some, None, refl, sym, ap, subst, ◌∙◌, append-nil, append_assoc, arith}
use Rattle.std.proofs.lemmas.List.{map-append}
use Rattle.std.proofs.lemmas.Grind.{flat_map-append}
use Rattle.std.specs.List.{AllByRecursion, AllZip}
use mathlib.Core.List.{IsPrefix}
use Rattle.session_model.specs.Journal.{OutboxRecord, entries, history_of, is_finished, History, BeginsHistory, InOrder}
use Rattle.session_model.specs.Inbox.{InboxRecord}
use Rattle.session_model.specs.Plans.{sent_by, Continues, SendersDone}
use Rattle.session_model.specs.Lives.{Life, IsImage, KeepsOutbox, Leads, Chained}
use Rattle.session_model.proofs.Lists.{prefix_self, prefix_map, drop_length, all_append}
use Rattle.session_model.proofs.Journals.{prefix_entries_of}
use Rattle.session_model.proofs.Images.{image_of_none}
use Rattle.session_model.proofs.Chains.{chained_splits}
use Rattle.session_model.proofs.Planned.{histories_go_on}
use Rattle.fixp_msgs.specs.declared.flow.Flow.{Flow}
use Rattle.connection_laws.specs.Living.{AllMayRun, Opens}
use Rattle.connection_laws.proofs.Living.{opening_on}
use Rattle.turn_laws.specs.Legs.{TurnedLeg, IsTimely}
use Rattle.fixp_shake.specs.declared.config.EndConfig.{EndConfig}
use Rattle.turn_laws.specs.Lives.{legs_of}
use Rattle.turn_laws.proofs.Running.{all_run}
use Rattle.turn_laws.specs.MachineLives.{life_in}
use Rattle.turn_laws.specs.LoopLives.{LoopLife, RefusedLeg, machine_life, legs_in, MayTurn}
use Rattle.two_ends.specs.Loops.{lives_of, LinkedLinks, configs_of, no_more, paired}
use Rattle.two_ends.proofs.Ends.{loops_hold}
use Rattle.two_ends.specs.Driving.{Beginning}
use Rattle.two_ends.specs.Pairing.{ReadEachOther}
use Rattle.two_ends.specs.Stories.{life_of, served_by, LivedOn, Story, untold, lived}
use Rattle.two_ends.specs.DrivingLaws.{StoriesHold}

-- connections that are paired in order are linked
linked : (A B : List EndConfig) (as' bs : List TurnedLeg) → AllZip ReadEachOther as' bs → LinkedLinks A B as' bs
linked A B [] [] all = no_more
linked A B [] (b ∷ bs) all = absurd all
linked A B (a ∷ as') [] all = absurd all
linked A B (a ∷ as') (b ∷ bs) all = paired all.0.0 all.0.1 (linked A B as' bs all.1)

-- what each sender has sent in the end, which is its plan
abbrev sent_plan : List OutboxRecord → ℕ → List (List ℕ) → List (List ℕ)
sent_plan outbox s applied = sent_by (entries outbox) s

-- what a sender sent begins what it sends later
sent_begins : (h longer : List OutboxRecord) (s : ℕ) → BeginsHistory (history_of h) (history_of longer) → IsPrefix (sent_by (entries h) s) (sent_by (entries longer) s)
sent_begins h longer s b = prefix_map _ _ _ (prefix_entries_of (entries h) (entries longer) s b.made)

-- what stands behind the first of three lists, each of which begins the next
middle_continues : (before after plan : List (List ℕ)) → IsPrefix before after → IsPrefix after plan → Continues plan before after
middle_continues before after plan p q = record {
  more = p.0;
  behind = sym p.1;
  planned = (q.0, sym (ap (λ (xs : List (List ℕ)). drop (length before) xs) (sym q.1 ∙ (ap (λ (xs : List (List ℕ)). xs ++ q.0) (sym p.1) ∙ append_assoc before p.0 q.0)) ∙ drop_length before (p.0 ++ q.0)));
}

rest_behind : (before after : List (List ℕ)) → IsPrefix before after → after ≡ before ++ drop (length before) after
rest_behind before after p = sym p.1 ∙ ap (λ (xs : List (List ℕ)). before ++ xs) (sym (ap (λ (xs : List (List ℕ)). drop (length before) xs) (sym p.1) ∙ drop_length before p.0))

module _ (own peer : Flow) (b : Beginning) (legs : List TurnedLeg) (outbox : List OutboxRecord) (inbox : List InboxRecord) (k : LivedOn own peer b legs outbox inbox) where
  abbrev pub loop_life : LoopLife
  loop_life = life_of b outbox k.over.done k.over.last

  abbrev life : Life
  life = life_in (machine_life loop_life)

  opens : Opens (entries b.outbox) (entries outbox) b.machine b.inbox
  opens = record { awaits = k.began.awaits; enough = k.over.made.enough; before = λ _. let sent = k.began.sent in omega (arith, sent) }

  may_run : AllMayRun (entries outbox) b.machine b.inbox (legs_of b.machine b.inbox k.over.done)
  may_run = all_run (entries outbox) b.machine b.inbox k.over.done opens.awaits opens.enough k.over.made.turns

  opening_with : (last : Option RefusedLeg) → (served_by (life_of b outbox k.over.done last)).opening_inbox ≡ b.inbox
  opening_with None = opening_on b.machine b.inbox (legs_of b.machine b.inbox k.over.done) (entries b.outbox) (entries outbox) opens may_run
  opening_with (Some r) = opening_on b.machine b.inbox (legs_of b.machine b.inbox k.over.done) (entries b.outbox) (entries outbox) opens may_run

  opening : life.served.opening_inbox ≡ b.inbox
  opening = opening_with k.over.last

  pub may_turn : MayTurn own peer loop_life
  may_turn = record {
    own_flow = k.began.own_flow;
    peer_flow = k.began.peer_flow;
    range = k.began.range;
    opens = opens;
    payloads = k.payloads;
    turns = k.over.made.turns;
    last = k.over.waits;
    timely = subst (λ (ts : List TurnedLeg). AllByRecursion IsTimely ts) (sym k.over.legs_are) k.over.timely;
  }

  pub leads : Leads life b.outbox b.inbox outbox inbox
  leads = record {
    opens_outbox = refl;
    opens_inbox = opening;
    outbox_image = record { kept = []; beginning = ([], refl); holds = sym (append-nil outbox) };
    inbox_image = subst (λ (rs : List InboxRecord). IsImage rs life.served.refused_inbox inbox) (sym k.over.inbox_is)
        (subst (λ (rs : List InboxRecord). IsImage k.came_to rs inbox) (sym k.over.refused_are) k.image);
  }

  -- what holds of the records holds of each image
  each_image : (P : List OutboxRecord → Type 0) → P outbox → (image : List OutboxRecord) → IsImage outbox [] image → P image
  each_image P p image g = image_of_none P outbox image p g

  done : (final : List OutboxRecord) → BeginsHistory (history_of outbox) (history_of final) → is_finished outbox ≡ true
      → SendersDone (sent_plan final) (entries b.outbox) (entries outbox) life.served.opening_inbox life.served.closing_inbox
  done final later marked =
      let same : history_of outbox ≡ history_of final = later.alone marked in
      record {
        answered = life.served.closing_inbox;
        opened = subst (λ (rs : List InboxRecord). IsPrefix rs life.served.closing_inbox) (sym opening) (subst (λ (rs : List InboxRecord). IsPrefix b.inbox rs) (sym k.over.inbox_is) k.over.grows);
        reached = prefix_self life.served.closing_inbox;
        peer_done = inl (λ s applied other. refl);
        all_sent = λ s. record {
          behind = subst (λ (h : History). sent_by (entries outbox) s ≡ sent_by (entries b.outbox) s ++ drop (length (sent_by (entries b.outbox) s)) (sent_by h.made s)) same
              (rest_behind (sent_by (entries b.outbox) s) (sent_by (entries outbox) s) (sent_begins b.outbox outbox s k.goes_on.history));
        };
      }

  pub keeps : (final : List OutboxRecord) → BeginsHistory (history_of outbox) (history_of final) → KeepsOutbox (sent_plan final) life
  keeps final later = record {
    outbox_grows = k.goes_on.begins;
    history_grows = each_image (λ (rs : List OutboxRecord). BeginsHistory (history_of b.outbox) (history_of rs)) k.goes_on.history;
    in_order = each_image (λ (rs : List OutboxRecord). InOrder (entries rs)) k.in_order;
    plans = λ image g s.
        each_image (λ (rs : List OutboxRecord). Continues (sent_by (entries final) s) (sent_by (entries b.outbox) s) (sent_by (entries rs) s))
        (middle_continues (sent_by (entries b.outbox) s) (sent_by (entries outbox) s) (sent_by (entries final) s) (sent_begins b.outbox outbox s k.goes_on.history) (sent_begins outbox final s later)) image g;
    finishes = λ image g unmarked marked.
        each_image (λ (rs : List OutboxRecord). is_finished rs ≡ true → SendersDone (sent_plan final) (entries b.outbox) (entries rs) life.served.opening_inbox life.served.closing_inbox)
        (done final later) image g marked;
  }

-- the lives of a story, chained from empty journals on, whose connections are those of the story
record Told (own peer : Flow) (legs : List TurnedLeg) (outbox : List OutboxRecord) (inbox : List InboxRecord) : Type 0 where
  lives : List LoopLife
  legs_are : flat_map legs_in lives ≡ legs
  may : AllByRecursion (MayTurn own peer) lives
  chained : Chained [] [] (lives_of lives) outbox inbox
  keeps_all : (final : List OutboxRecord) → BeginsHistory (history_of outbox) (history_of final) → AllByRecursion (KeepsOutbox (sent_plan final)) (lives_of lives)

lives_append : (ls ms : List LoopLife) → lives_of (ls ++ ms) ≡ lives_of ls ++ lives_of ms
lives_append ls ms = ap (λ xs. map life_in xs) (map-append machine_life ls ms) ∙ map-append life_in (map machine_life ls) (map machine_life ms)

told_more : (own peer : Flow) (before legs : List TurnedLeg) (b : Beginning) (outbox : List OutboxRecord) (inbox : List InboxRecord)
    → Told own peer before b.outbox b.inbox → LivedOn own peer b legs outbox inbox → Told own peer (before ++ legs) outbox inbox
told_more own peer before legs b outbox inbox t k =
    let l : LoopLife = loop_life own peer b legs outbox inbox k in
    let both : lives_of (t.lives ++ l ∷ []) ≡ lives_of t.lives ++ life_in (machine_life l) ∷ [] = lives_append t.lives (l ∷ []) in
    record {
      lives = t.lives ++ l ∷ [];
      legs_are = flat_map-append legs_in t.lives (l ∷ []) ∙ (ap (λ (ts : List TurnedLeg). flat_map legs_in t.lives ++ ts) (append-nil (legs_in l) ∙ k.over.legs_are) ∙ ap (λ (ts : List TurnedLeg). ts ++ legs) t.legs_are);
      may = all_append (MayTurn own peer) t.lives (l ∷ []) t.may (may_turn own peer b legs outbox inbox k, tt);
      chained = subst (λ (ls : List Life). Chained [] [] ls outbox inbox) (sym both)
          ((chained_splits [] outbox [] inbox (lives_of t.lives) (life_in (machine_life l) ∷ [])).1 (b.outbox, b.inbox, t.chained, (outbox, inbox, leads own peer b legs outbox inbox k, (refl, refl))));
      keeps_all = λ final later. subst (λ (ls : List Life). AllByRecursion (KeepsOutbox (sent_plan final)) ls) (sym both)
          (all_append (KeepsOutbox (sent_plan final)) (lives_of t.lives) (life_in (machine_life l) ∷ [])
          (t.keeps_all final (histories_go_on (history_of b.outbox) (history_of outbox) (history_of final) k.goes_on.history later)) (keeps own peer b legs outbox inbox k final later, tt));
    }

told_by : (own peer : Flow) (legs : List TurnedLeg) (outbox : List OutboxRecord) (inbox : List InboxRecord) → Story own peer legs outbox inbox → Told own peer legs outbox inbox
told_by own peer _ _ _ untold = record { lives = []; legs_are = refl; may = tt; chained = (refl, refl); keeps_all = λ final later. tt }
told_by own peer _ outbox inbox (lived {legs} {more} {b} before k) = told_more own peer legs more b outbox inbox (told_by own peer legs b.outbox b.inbox before) k

self : (h : History) → BeginsHistory h h
self h = record { made = prefix_self h.made; alone = λ _. refl }

pub stories_hold : StoriesHold
stories_hold client server outbox_a outbox_b legs_a legs_b inbox_a inbox_b a b zip =
    let t = told_by client server legs_a outbox_a inbox_a a in
    let u = told_by server client legs_b outbox_b inbox_b b in
    loops_hold
    (record { flow = client; plan = sent_plan outbox_a; lives = t.lives; outbox = outbox_a; inbox = inbox_a })
    (record { flow = server; plan = sent_plan outbox_b; lives = u.lives; outbox = outbox_b; inbox = inbox_b })
    (record {
      lives_a = t.may;
      lives_b = u.may;
      chained_a = t.chained;
      chained_b = u.chained;
      outboxes_a = t.keeps_all outbox_a (self (history_of outbox_a));
      outboxes_b = u.keeps_all outbox_b (self (history_of outbox_b));
      linked = subst (λ (ts : List TurnedLeg). LinkedLinks (configs_of t.lives) (configs_of u.lives) ts (flat_map legs_in u.lives)) (sym t.legs_are)
          (subst (λ (ts : List TurnedLeg). LinkedLinks (configs_of t.lives) (configs_of u.lives) legs_a ts) (sym u.legs_are) (linked (configs_of t.lives) (configs_of u.lives) legs_a legs_b zip));
    })
