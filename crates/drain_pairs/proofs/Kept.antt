-- The moves of a rehearsal keep what is said of two ends between two of its steps.
use Rattle.std.proofs.Common.{◌≡◌, ◌⊎◌, inl, inr, ℕ, suc, ◌+◌, ◌≤◌, Bool, true, false, List, [], ◌∷◌, ◌++◌, length, Option, Some, None, refl, sym, ap, subst, ◌∙◌, arith, length-append, append-nil}
use Rattle.std.specs.Prelude.{is_some, IsSome}
use Rattle.session_model.specs.Journal.{History, BeginsHistory}
use Rattle.session_model.proofs.Lists.{prefix_trans, prefix_length}
use Rattle.fixp_shake.specs.Flows.{is_absent}
use Rattle.fixp_replies.specs.declared.act.Ending.{Ending}
use Rattle.fixp_replies.specs.declared.act.Ending.TheVariants as endings
use Rattle.fixp_machine.specs.Machine.{State}
use Rattle.conn_turns.specs.Lines.{Line}
use Rattle.honest_ends.specs.Worlds.{World, Step, meets, after, world_after}
use Rattle.honest_turns.specs.Sessions.{Reopens}
use Rattle.honest_turns.proofs.Renewing.{new_life_agrees}
use Rattle.drain_laws.specs.Counts.{answered}
use Rattle.drain_ends.specs.Acting.{IsWhole}
use Rattle.drain_turns.specs.Joints.{Half, Joint, Session}
use Rattle.drain_rounds.specs.Rounds.{Begun, Finds, InRound, Round, Sees, last_of, IsOver, rounds_for, entries_of}
use Rattle.drain_rounds.specs.Starting.{start_of}
use Rattle.drain_rounds.proofs.Begun.{begins_show}
use Rattle.drain_time.specs.Times.{AreRounds, AreSeen, BeginsAt, AreFinished}
use Rattle.drain_time.proofs.Timed.{seen_rounds, drain_finishes, rounds_finish}
use Rattle.drain_finish.specs.Finishing.{GoesOrFinished}
use Rattle.drain_pairs.specs.Pairs.{end_of, MayBegin, Apart, begun, both_begun, SeesMore, Joined, session_on}
use Rattle.drain_pairs.specs.Keeping.{BeginsJoined, RoundsJoin, MoreIsSeen, StopLeavesApart, DrainFinishesBoth}

-- ---- what passes see

begins_self : (h : History) → BeginsHistory h h
begins_self h = record { made = ([], append-nil h.made); alone = λ _. refl }

begins_then : (x y z : History) → BeginsHistory x y → BeginsHistory y z → BeginsHistory x z
begins_then x y z a b = record { made = prefix_trans x.made y.made z.made a.made b.made; alone = λ e. same (a.alone e) e }
  where
    same : x ≡ y → x.finished ≡ true → x ≡ z
    same is e = is ∙ b.alone (ap (λ (h : History). h.finished) (sym is) ∙ e)

finds_then : (outbox : History) (x y z : Half) → Finds outbox x y → Finds outbox y z → Finds outbox x z
finds_then outbox x y z a b = record { line = b.line ∙ a.line; more = begins_then x.seen y.seen z.seen a.more b.more; seen = b.seen }

finds_self : (outbox : History) (half : Half) → BeginsHistory half.seen outbox → Finds outbox half half
finds_self outbox half begins = record { line = refl; more = begins_self half.seen; seen = begins }

sees_then : (outbox_i outbox_a : History) (x y z : Joint) → SeesMore outbox_i outbox_a x y → SeesMore outbox_i outbox_a y z → SeesMore outbox_i outbox_a x z
sees_then outbox_i outbox_a x y z a b = record {
  initiator = finds_then outbox_i x.initiator y.initiator z.initiator a.initiator b.initiator;
  acceptor = finds_then outbox_a x.acceptor y.acceptor z.acceptor a.acceptor b.acceptor;
  outward = b.outward ∙ a.outward;
  homeward = b.homeward ∙ a.homeward;
}

sees_self : (outbox_i outbox_a : History) (j : Joint) → BeginsHistory j.initiator.seen outbox_i → BeginsHistory j.acceptor.seen outbox_a → SeesMore outbox_i outbox_a j j
sees_self outbox_i outbox_a j i a = record { initiator = finds_self outbox_i j.initiator i; acceptor = finds_self outbox_a j.acceptor a; outward = refl; homeward = refl }

-- a round of ends whose passes have seen more since is one of what they were
round_from : (s : Session) (now : ℕ) (l j k : Joint) → SeesMore s.outbox_i s.outbox_a l j → Round s now j k → Round s now l k
round_from s now l j k f r = record {
  initiator = r.initiator;
  acceptor = r.acceptor;
  finds_i = finds_then s.outbox_i l.initiator j.initiator r.initiator f.initiator r.finds_i;
  finds_a = finds_then s.outbox_a l.acceptor j.acceptor r.acceptor f.acceptor r.finds_a;
  left = r.left;
  sent_i = r.sent_i;
  sent_a = r.sent_a;
  turns_i = subst (λ (way : List ℕ). InRound now s.outbox_i r.initiator k.initiator way r.left r.sent_i) f.homeward r.turns_i;
  turns_a = subst (λ (way : List ℕ). InRound now s.outbox_a r.acceptor k.acceptor (way ++ r.sent_i) k.outward r.sent_a) f.outward r.turns_a;
  home = r.home;
}

sees_from : (s : Session) (l j : Joint) (i a : Half) → SeesMore s.outbox_i s.outbox_a l j → Sees s j i a → Sees s l i a
sees_from s l j i a f e = record {
  initiator = e.initiator;
  acceptor = subst (λ (x : Line). (answered x.machine.facts ≡ 1) ⊎ (is_absent x.machine.config.peer_flow ≡ true) → IsWhole s.outbox_a.made a.seen) f.acceptor.line e.acceptor;
}

-- behind a round a pass has seen no more than the outbox comes to have
round_seen : (now : ℕ) (outbox : History) (first old new : Half) (way left sent : List ℕ) → Finds outbox first old → InRound now outbox old new way left sent → BeginsHistory new.seen outbox
round_seen now outbox first old new way left sent f r = by_end old.line.machine.ending refl
  where
    by_end : (o : Option Ending) → old.line.machine.ending ≡ o → BeginsHistory new.seen outbox
    by_end None e = (r.turns e).2
    by_end (Some ending) e = subst (λ (h : Half). BeginsHistory h.seen outbox) (sym (r.rests (ap (λ (o : Option Ending). is_some o) e)).0) f.seen

-- ---- rounds behind rounds

zero_more : (n : ℕ) → n + 0 ≡ n
zero_more n = omega arith

one_more : (n l : ℕ) → n + suc l ≡ (n + 1) + l
one_more n l = omega arith

last_more : (j k : Joint) (rounds : List Joint) → last_of j (rounds ++ k ∷ []) ≡ k
last_more j k [] = refl
last_more j k (l ∷ later) = last_more l k later

pub last_append : (j : Joint) (first later : List Joint) → last_of j (first ++ later) ≡ last_of (last_of j first) later
last_append j [] later = refl
last_append j (k ∷ first) later = last_append k first later

rounds_behind : (s : Session) (now : ℕ) (j : Joint) (first later : List Joint) → AreRounds s now j first → AreRounds s (now + length first) (last_of j first) later → AreRounds s now j (first ++ later)
rounds_behind s now j [] later a b = subst (λ (n : ℕ). AreRounds s n j later) (zero_more now) b
rounds_behind s now j (k ∷ first) later a b =
    (a.0, rounds_behind s (now + 1) k first later a.1 (subst (λ (n : ℕ). AreRounds s n (last_of k first) later) (one_more now (length first)) b))

abbrev SeenRound : (s : Session) (now : ℕ) (l k : Joint) → Type 0
SeenRound s now l k = (r : Round s now l k) × Sees s l r.initiator r.acceptor

seen_more : (s : Session) (now : ℕ) (j k : Joint) (rounds : List Joint) → AreSeen s now j rounds → SeenRound s (now + length rounds) (last_of j rounds) k → AreSeen s now j (rounds ++ k ∷ [])
seen_more s now j k [] a r = (subst (λ (n : ℕ). SeenRound s n j k) (zero_more now) r, tt)
seen_more s now j k (l ∷ later) a r =
    (a.0, seen_more s (now + 1) l k later a.1 (subst (λ (n : ℕ). SeenRound s n (last_of l later) k) (one_more now (length later)) r))

-- ---- a connection that stands

pub begins_joined : BeginsJoined
begins_joined outbox_i outbox_a now i a x time = record {
  i = i;
  a = a;
  apart = x;
  first = now;
  time = time;
  before = [];
  made = tt;
  drain = [];
  seen = tt;
  count = refl;
  moment = omega arith;
  stands = sees_self outbox_i outbox_a (both_begun i a now) x.initiator.begins x.acceptor.begins;
}

-- all its rounds, with which it began
module _ (outbox_i outbox_a : History) (drained now : ℕ) (j : Joint) (x : Joined outbox_i outbox_a drained now j) where
  abbrev pub session : Session
  session = session_on outbox_i outbox_a drained now j x

  abbrev pub start : Joint
  start = both_begun x.i x.a x.first

  abbrev pub end : Joint
  end = last_of (last_of start x.before) x.drain

  abbrev pub world : World
  world = after (start_of (end_of outbox_i x.apart.inbox_i x.i) (end_of outbox_a x.apart.inbox_a x.a)) (meets x.first x.first)

  pub begun_at : Begun session start world
  begun_at =
      begins_show (end_of outbox_i x.apart.inbox_i x.i) (end_of outbox_a x.apart.inbox_a x.a) x.i.seen x.a.seen x.i.line.per_turn x.a.line.per_turn x.first x.first x.apart.agree x.apart.known
      (record { time = x.time; least = x.apart.initiator.least; most = x.apart.initiator.most; begins = x.apart.initiator.begins; enough = x.apart.initiator.enough; next = x.apart.initiator.next })
      (record { time = x.time; least = x.apart.acceptor.least; most = x.apart.acceptor.most; begins = x.apart.acceptor.begins; enough = x.apart.acceptor.enough; next = x.apart.acceptor.next })

  -- the moments at which both began are in their machines
  began : after session.start (meets begun_at.shows.now_i begun_at.shows.now_a) ≡ world
  began = ap (λ (l : List Step). world_after session.start (meets begun_at.shows.now_i begun_at.shows.now_a ∷ l)) (sym begun_at.first) ∙ begun_at.shows.there

  pub begins_at : BeginsAt session x.first start world
  begins_at = record {
    begun = begun_at;
    moment_i = ap (λ (v : World). v.initiator.start) began;
    moment_a = ap (λ (v : World). v.acceptor.start) began;
    least = x.apart.least;
    most = x.apart.most;
  }

  pub all_rounds : AreRounds session x.first start (x.before ++ x.drain)
  all_rounds = rounds_behind session x.first start x.before x.drain x.made (seen_rounds session (x.first + length x.before) (last_of start x.before) x.drain x.seen)

  finished_each : GoesOrFinished end.initiator.line.machine × GoesOrFinished end.acceptor.line.machine
  finished_each = subst (λ (k : Joint). GoesOrFinished k.initiator.line.machine × GoesOrFinished k.acceptor.line.machine) (last_append start x.before x.drain)
      (rounds_finish.each session x.first start world (x.before ++ x.drain) begins_at x.apart.sends all_rounds)

  over_by : (before : List Joint) → AreRounds session x.first start before → AreSeen session (x.first + length before) (last_of start before) x.drain → rounds_for (entries_of session) ≤ length x.drain
      → IsOver (last_of (last_of start before) x.drain)
  over_by [] made seen enough = drain_finishes.begins session x.first start world x.drain begins_at (subst (λ (n : ℕ). AreSeen session n start x.drain) (zero_more x.first) seen) enough
  over_by (k ∷ later) made seen enough =
      drain_finishes.ends session x.first start k world later x.drain begins_at made
      (subst (λ (n : ℕ). AreSeen session n (last_of k later) x.drain) (one_more x.first (length later)) seen) enough

  -- the round behind them
  next : (k : Joint) → Round session now j k → Round session ((x.first + length x.before) + length x.drain) end k
  next k r = subst (λ (n : ℕ). Round session n end k) (x.moment ∙ ap (λ (n : ℕ). (x.first + length x.before) + n) (sym x.count)) (round_from session now end j k x.stands r)

  seen_in : (k : Joint) (r : Round session now j k) → Sees session j r.initiator r.acceptor → SeenRound session ((x.first + length x.before) + length x.drain) end k
  unfolding round_from
  seen_in k r e = subst (λ (n : ℕ). SeenRound session n end k) (x.moment ∙ ap (λ (n : ℕ). (x.first + length x.before) + n) (sym x.count))
      (round_from session now end j k x.stands r, sees_from session end j r.initiator r.acceptor x.stands e)

  behind : (k l : Joint) → Round session now j k → l ≡ k → SeesMore outbox_i outbox_a l k
  behind k l r is = subst (λ (m : Joint). SeesMore outbox_i outbox_a m k) (sym is) (sees_self outbox_i outbox_a k
      (round_seen now outbox_i j.initiator r.initiator k.initiator j.homeward r.left r.sent_i r.finds_i r.turns_i)
      (round_seen now outbox_a j.acceptor r.acceptor k.acceptor (j.outward ++ r.sent_i) k.outward r.sent_a r.finds_a r.turns_a))

  longer : (rounds : List Joint) (k : Joint) → length (rounds ++ k ∷ []) ≡ length rounds + 1
  longer rounds k = length-append rounds (k ∷ [])

  whole : length (x.before ++ x.drain) ≡ length x.before + length x.drain
  whole = length-append x.before x.drain

  joined_any : (k : Joint) → Round session now j k → Joined outbox_i outbox_a 0 (now + 1) k
  joined_any k r = record {
    i = x.i;
    a = x.a;
    apart = x.apart;
    first = x.first;
    time = x.time;
    before = x.before ++ (x.drain ++ k ∷ []);
    made = rounds_behind session x.first start x.before (x.drain ++ k ∷ []) x.made
        (rounds_behind session (x.first + length x.before) (last_of start x.before) x.drain (k ∷ [])
        (seen_rounds session (x.first + length x.before) (last_of start x.before) x.drain x.seen) (next k r, tt));
    drain = [];
    seen = tt;
    count = refl;
    moment = let m = x.moment in let c = x.count in let one = longer x.drain k in let two = length-append x.before (x.drain ++ k ∷ []) in omega (arith, m, c, one, two);
    stands = behind k (last_of start (x.before ++ (x.drain ++ k ∷ []))) r (last_append start x.before (x.drain ++ k ∷ []) ∙ last_more (last_of start x.before) k x.drain);
  }

  joined_drains : (k : Joint) (r : Round session now j k) → Sees session j r.initiator r.acceptor → Joined outbox_i outbox_a (drained + 1) (now + 1) k
  joined_drains k r e = record {
    i = x.i;
    a = x.a;
    apart = x.apart;
    first = x.first;
    time = x.time;
    before = x.before;
    made = x.made;
    drain = x.drain ++ k ∷ [];
    seen = seen_more session (x.first + length x.before) (last_of start x.before) k x.drain x.seen (seen_in k r e);
    count = let c = x.count in let one = longer x.drain k in omega (arith, c, one);
    moment = let m = x.moment in omega (arith, m);
    stands = behind k (last_of (last_of start x.before) (x.drain ++ k ∷ [])) r (last_more (last_of start x.before) k x.drain);
  }

  joined_more : (k : Joint) → SeesMore outbox_i outbox_a j k → Joined outbox_i outbox_a drained now k
  joined_more k f = record {
    i = x.i;
    a = x.a;
    apart = x.apart;
    first = x.first;
    time = x.time;
    before = x.before;
    made = x.made;
    drain = x.drain;
    seen = x.seen;
    count = x.count;
    moment = x.moment;
    stands = sees_then outbox_i outbox_a end j k x.stands f;
  }

  as_end : (P : State → Type 0) → P end.initiator.line.machine × P end.acceptor.line.machine → P j.initiator.line.machine × P j.acceptor.line.machine
  as_end P both = (subst (λ (l : Line). P l.machine) (sym x.stands.initiator.line) both.0, subst (λ (l : Line). P l.machine) (sym x.stands.acceptor.line) both.1)

  both_finished : IsOver end → IsOver j × AreFinished j
  both_finished over =
      let over_at : IsOver (last_of start (x.before ++ x.drain)) = subst IsOver (sym (last_append start x.before x.drain)) over in
      let f = rounds_finish.both session x.first start world (x.before ++ x.drain) begins_at x.apart.sends all_rounds over_at in
      let g = subst AreFinished (last_append start x.before x.drain) f in
      let ends = as_end (λ m. IsSome m.ending) (over.initiator, over.acceptor) in
      let fins = as_end (λ m. m.ending ≡ Some endings.Finished) (g.initiator, g.acceptor) in
      (record { initiator = ends.0; acceptor = ends.1 }, record { initiator = fins.0; acceptor = fins.1 })

pub rounds_join : RoundsJoin
rounds_join = record {
  any = λ outbox_i outbox_a drained now j k x r. joined_any outbox_i outbox_a drained now j x k r;
  drains = λ outbox_i outbox_a drained now j k x r e. joined_drains outbox_i outbox_a drained now j x k r e;
}

-- ---- no connection stands

-- an end that finds more of its outbox may begin as it might
may_still : (outbox : History) (old new : Half) → Finds outbox old new → MayBegin outbox old → MayBegin outbox (record { line = old.line; seen = new.seen })
may_still outbox old new f m = record {
  least = m.least;
  most = m.most;
  begins = f.seen;
  enough = let e = m.enough in let l = prefix_length old.seen.made new.seen.made f.more.made in omega (arith, e, l);
  next = m.next;
}

apart_more : (outbox_i outbox_a : History) (i a j b : Half) → Apart outbox_i outbox_a i a → Finds outbox_i i j → Finds outbox_a a b → Apart outbox_i outbox_a j b
apart_more outbox_i outbox_a i a j b x f g =
    subst (λ (l : Line). Apart outbox_i outbox_a (record { line = l; seen = j.seen }) b) (sym f.line)
    (subst (λ (l : Line). Apart outbox_i outbox_a (record { line = i.line; seen = j.seen }) (record { line = l; seen = b.seen })) (sym g.line) same)
  where
    same : Apart outbox_i outbox_a (record { line = i.line; seen = j.seen }) (record { line = a.line; seen = b.seen })
    same = record {
      inbox_i = x.inbox_i;
      inbox_a = x.inbox_a;
      agree = x.agree;
      known = x.known;
      initiator = may_still outbox_i i j f x.initiator;
      acceptor = may_still outbox_a a b g x.acceptor;
      sends = x.sends;
      least = x.least;
      most = x.most;
    }

pub more_is_seen : MoreIsSeen
more_is_seen = record {
  joined = λ outbox_i outbox_a drained now j k x f. joined_more outbox_i outbox_a drained now j x k f;
  apart = apart_more;
}

pub stop_leaves_apart : StopLeavesApart
stop_leaves_apart = record { initiator = initiator; acceptor = acceptor }
  where
    initiator : (outbox_i outbox_a : History) (i a j : Half) (x : Apart outbox_i outbox_a i a) → Reopens (end_of outbox_i x.inbox_i i) (end_of outbox_i x.inbox_i j)
        → j.line.machine.facts.recorded.negotiated ≡ i.line.machine.facts.recorded.negotiated → MayBegin outbox_i j → Apart outbox_i outbox_a j a
    initiator outbox_i outbox_a i a j x r same m = record {
      inbox_i = x.inbox_i;
      inbox_a = x.inbox_a;
      agree = (new_life_agrees (end_of outbox_i x.inbox_i i) (end_of outbox_a x.inbox_a a) (end_of outbox_i x.inbox_i j) (end_of outbox_a x.inbox_a a) x.agree).0 r;
      known = λ e. x.known (sym same ∙ e);
      initiator = m;
      acceptor = x.acceptor;
      sends = ap (λ f. is_absent f) r.config.own ∙ x.sends;
      least = x.least;
      most = x.most;
    }

    acceptor : (outbox_i outbox_a : History) (i a b : Half) (x : Apart outbox_i outbox_a i a) → Reopens (end_of outbox_a x.inbox_a a) (end_of outbox_a x.inbox_a b)
        → b.line.machine.facts.recorded.negotiated ≡ a.line.machine.facts.recorded.negotiated → MayBegin outbox_a b → Apart outbox_i outbox_a i b
    acceptor outbox_i outbox_a i a b x r same m = record {
      inbox_i = x.inbox_i;
      inbox_a = x.inbox_a;
      agree = (new_life_agrees (end_of outbox_i x.inbox_i i) (end_of outbox_a x.inbox_a a) (end_of outbox_i x.inbox_i i) (end_of outbox_a x.inbox_a b) x.agree).1 r;
      known = λ e. same ∙ x.known e;
      initiator = x.initiator;
      acceptor = m;
      sends = x.sends;
      least = r.config.interval.0;
      most = r.config.interval.1;
    }

-- ---- how a drain ends

pub drain_finishes_both : DrainFinishesBoth
drain_finishes_both = record {
  each = λ outbox_i outbox_a drained now j x. as_end outbox_i outbox_a drained now j x GoesOrFinished (finished_each outbox_i outbox_a drained now j x);
  over = λ outbox_i outbox_a drained now j x enough. both_finished outbox_i outbox_a drained now j x
      (over_by outbox_i outbox_a drained now j x x.before x.made x.seen (subst (λ (n : ℕ). rounds_for (length outbox_i.made + length outbox_a.made) ≤ n) (sym x.count) enough));
}
