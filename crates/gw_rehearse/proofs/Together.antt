-- Both ends together, behind each call of a pair.
use Rattle.std.proofs.Common.{◌≡◌, ℕ, true, false, ◌||◌, if◌then◌else◌, Bool, List, [], ◌∷◌, ◌++◌, Option, Some, None, refl, sym, ap, subst, ◌∙◌, append-nil, append_assoc, true≢false}
use Rattle.std.specs.List.{AllZip}
use Rattle.std.proofs.Math.Logic.{∥∥₁_map, ∥∥₁_elim, ∥∥₁_prop}
use Rattle.session_model.specs.Journal.{BeginsHistory, entries}
use Rattle.session_model.specs.Inbox.{InboxRecord}
use Rattle.jr_kept.specs.Inbox.{HoldsBox}
use Rattle.gate_turn.specs.Places.{known}
use Rattle.gate_turn.proofs.Histories.{begins_self}
use Rattle.conn_loop.specs.Conn.{line_of}
use Rattle.std.proofs.lemmas.List.Elements.{AllZip-push}
use Rattle.fixp_msgs.specs.declared.flow.Flow.{Flow}
use Rattle.gw_link_fakes.specs.Pipes.{Held, new_pipe, told_at}
use Rattle.gw_link_fakes.specs.declared.pipe.Side.TheVariants.{Left, Right}
use Rattle.turn_laws.specs.Standing.{Has}
use Rattle.turn_laws.specs.Legs.{TurnedLeg}
use Rattle.two_ends.specs.Driving.{EndNow, Beginning, Awaits, begun_leg, Between, During}
use Rattle.two_ends.specs.Pairing.{ReadEachOther, UnderWay}
use Rattle.two_ends.specs.Stories.{untold}
use Rattle.two_ends.proofs.Moving.{bytes_move, turned_round}
use Rattle.gw_rehearse.specs.declared.end.DrivenEnd.{DrivenEnd}
use Rattle.gw_rehearse.specs.declared.standing.Standing.{Standing}
use Rattle.gw_rehearse.specs.declared.standing.Standing.TheVariants as standings
use Rattle.gw_rehearse.specs.Standing.{is_given, is_going, is_failed}
use Rattle.gw_rehearse.specs.Driven.{FindsMore, now_of, StandsBehind, RunsOver, TurnsOn, BeginsOn, beginning_on}
use Rattle.cmd_script.specs.declared.script.Script.{Script}
use Rattle.gw_rehearse.specs.Together.{GoesOnBehind, IsPairOf, Together, is_lost, PairNow, StaysSound}
use Rattle.gw_rehearse.proofs.Stories.{opens_same, ended_over, ended_none, ended_one, has_less, during_finds, between_finds}

pub neither : (a b : Bool) → (a || b) ≡ false → (a ≡ false) × (b ≡ false)
neither true b e = absurd (true≢false e)
neither false b e = (refl, e)

pub neither_is : (a b : Bool) → a ≡ false → b ≡ false → (a || b) ≡ false
neither_is a b e f = ap (λ (x : Bool). x || b) e ∙ f

pub lost_back : (a b a' b' : Bool) → (a' ≡ false → a ≡ false) → (b' ≡ false → b ≡ false) → (a' || b') ≡ false → (a || b) ≡ false
lost_back a b a' b' left right e =
    let parts = neither a' b' e in
    ap (λ (x : Bool). x || b) (left parts.0) ∙ right parts.1

-- one that neither goes on nor was given up is over
pub is_over : (s : Standing) → is_going s ≡ false → is_given s ≡ false → s ≡ standings.Over
is_over standings.Over going given = refl
is_over standings.Open going given = absurd (true≢false going)
is_over standings.Failed going given = absurd (true≢false going)
is_over standings.GivenUp going given = absurd (true≢false given)

-- it stays so over several calls
pub stays_self : (p : PairNow) → StaysSound p p
stays_self p = record { client = refl; server = refl; sound = λ e. e }

pub stays_on : (p q r : PairNow) → StaysSound p q → StaysSound q r → StaysSound p r
stays_on p q r s t = record { client = t.client ∙ s.client; server = t.server ∙ s.server; sound = λ e. t.sound (s.sound e) }

pub pair_on : (script : Script) (p q : PairNow) → IsPairOf script p → StaysSound p q → IsPairOf script q
pair_on script p q is s = record { client = s.client ∙ is.client; server = s.server ∙ is.server }

-- one more connection of both is paired
pub paired_more : (ls ms ks ns : List TurnedLeg) (a b : TurnedLeg) → AllZip ReadEachOther (ls ++ ms) (ks ++ ns) → ReadEachOther a b → AllZip ReadEachOther (ls ++ (ms ++ a ∷ [])) (ks ++ (ns ++ b ∷ []))
paired_more ls ms ks ns a b all one = subst (λ (xs : List TurnedLeg). AllZip ReadEachOther xs (ks ++ (ns ++ b ∷ []))) (append_assoc ls ms (a ∷ []))
    (subst (λ (ys : List TurnedLeg). AllZip ReadEachOther ((ls ++ ms) ++ a ∷ []) ys) (append_assoc ks ns (b ∷ [])) (AllZip-push ReadEachOther (ls ++ ms) (ks ++ ns) a b all one))

-- an end whose connection and inbox are the same, and whose pass has seen no less
record SameEnd (e e' : DrivenEnd) : Type 0 where
  standing : e'.standing ≡ e.standing
  conn : e'.conn ≡ e.conn
  inbox : e'.inbox ≡ e.inbox
  gate : e'.gate ≡ e.gate
  seen : BeginsHistory (known e.pass).seen (known e'.pass).seen

same_of : (e e' : DrivenEnd) → FindsMore e e' → SameEnd e e'
same_of e e' finds = record {
  standing = ap (λ (x : DrivenEnd). x.standing) finds.same;
  conn = ap (λ (x : DrivenEnd). x.conn) finds.same;
  inbox = ap (λ (x : DrivenEnd). x.inbox) finds.same;
  gate = ap (λ (x : DrivenEnd). x.gate) finds.same;
  seen = finds.seen;
}

-- where its pass is as it was
pub finds_none : (e e' : DrivenEnd) → e' ≡ record e { staff = e'.staff } → FindsMore e e'
finds_none e e' same =
    let pass : e'.pass ≡ e.pass = ap (λ (x : DrivenEnd). x.pass) same in
    record {
      same = same ∙ ap (λ p. record e { staff = e'.staff; pass = p }) (sym pass);
      seen = subst (λ p. BeginsHistory (known e.pass).seen (known p).seen) (sym pass) (begins_self (known e.pass).seen);
    }

-- one behind the other
pub finds_on : (e e' e'' : DrivenEnd) → e' ≡ record e { staff = e'.staff } → e'' ≡ record e' { pass = e''.pass } → BeginsHistory (known e'.pass).seen (known e''.pass).seen → FindsMore e e''
finds_on e e' e'' same then_same seen =
    let pass : e'.pass ≡ e.pass = ap (λ (x : DrivenEnd). x.pass) same in
    let staff : e''.staff ≡ e'.staff = ap (λ (x : DrivenEnd). x.staff) then_same in
    record {
      same = then_same ∙ (ap (λ (x : DrivenEnd). record x { pass = e''.pass }) same ∙ ap (λ s. record e { staff = s; pass = e''.pass }) (sym staff));
      seen = subst (λ p. BeginsHistory (known p).seen (known e''.pass).seen) pass seen;
    }

now_found : (e e' : DrivenEnd) (i : List InboxRecord) → SameEnd e e' → record (now_of e i) { seen = (known e'.pass).seen } ≡ now_of e' i
now_found e e' i s = ap (λ c. record { line = line_of c; seen = (known e'.pass).seen; inbox = i }) (sym s.conn)

stands_same : (b : Beginning) (legs : List TurnedLeg) (e e' : DrivenEnd) → SameEnd e e' → StandsBehind b legs e → StandsBehind b legs e'
stands_same b legs e e' s k = record {
  over = s.standing ∙ k.over;
  opens = opens_same b e e' s.gate k.opens;
  inbox = k.inbox;
  holds = subst (λ box. HoldsBox box k.inbox []) (sym s.inbox) k.holds;
  between = subst (λ (x : EndNow). Between b legs x) (now_found e e' k.inbox s) (between_finds b legs (now_of e k.inbox) (known e'.pass).seen s.seen k.between);
}

runs_same : (b : Beginning) (past : List TurnedLeg) (leg : TurnedLeg) (e e' : DrivenEnd) → SameEnd e e' → RunsOver b past leg e → RunsOver b past leg e'
runs_same b past leg e e' s k = record {
  opens = opens_same b e e' s.gate k.opens;
  inbox = k.inbox;
  refused = k.refused;
  holds = subst (λ box. HoldsBox box k.inbox k.refused) (sym s.inbox) k.holds;
  whole = λ whole. k.whole (ap is_failed (sym s.standing) ∙ whole);
  failed = λ failed closing has. k.failed (sym s.standing ∙ failed) closing (has_less (entries closing) (known e.pass).seen (known e'.pass).seen s.seen has);
  during = λ going. subst (λ (x : EndNow). During b past leg x) (now_found e e' k.inbox s) (during_finds b past leg (now_of e k.inbox) (known e'.pass).seen s.seen (k.during (sym s.standing ∙ going)));
  between = λ over. subst (λ (x : EndNow). Between b (past ++ leg ∷ []) x) (now_found e e' k.inbox s)
      (between_finds b (past ++ leg ∷ []) (now_of e k.inbox) (known e'.pass).seen s.seen (k.between (sym s.standing ∙ over)));
}

module _ (client server : Flow) where
  -- what its senders submit changes nothing of an end's connections
  together_same : (i i' a : DrivenEnd) (pipe : Option Held) → SameEnd i i' → Together client server i a pipe → Together client server i' a pipe
  together_same i i' a None s t = record {
    lives = t.lives;
    lives_a = t.lives_a;
    past = t.past;
    past_a = t.past_a;
    paired = t.paired;
    meet = (stands_same t.lives.begins t.past i i' s t.meet.0, t.meet.1);
  }
  together_same i i' a (Some p) s t = record {
    lives = t.lives;
    lives_a = t.lives_a;
    past = t.past;
    past_a = t.past_a;
    paired = t.paired;
    meet = record { leg = t.meet.leg; leg_a = t.meet.leg_a; way = t.meet.way; runs = runs_same t.lives.begins t.past t.meet.leg i i' s t.meet.runs; runs_a = t.meet.runs_a };
  }

  pub submitted : (i i' a : DrivenEnd) (pipe : Option Held) → FindsMore i i' → (is_lost i a ≡ false → ∥ Together client server i a pipe ∥₁)
      → is_lost i' a ≡ false → ∥ Together client server i' a pipe ∥₁
  submitted i i' a pipe finds k sound =
      let s = same_of i i' finds in
      ∥∥₁_map (k (ap (λ x. is_given x || is_given a.standing) (sym s.standing) ∙ sound)) (λ t. together_same i i' a pipe s t)

  -- two new ends
  pub new_pair : (i a : DrivenEnd) → BeginsOn client server [] [] i → BeginsOn server client [] [] a → Together client server i a None
  new_pair i a k l = record {
    lives = record { legs = []; begins = beginning_on k.machine [] []; story = untold; began = k.began };
    lives_a = record { legs = []; begins = beginning_on l.machine [] []; story = untold; began = l.began };
    past = [];
    past_a = [];
    paired = tt;
    meet = (k.stands, l.stands);
  }

  -- both begin a connection
  pub both_begin : (i a i' a' : DrivenEnd) (room : ℕ) → ((b : Beginning) (legs : List TurnedLeg) → StandsBehind b legs i → (now : ℕ) × RunsOver b legs (begun_leg (line_of i.conn).per_turn now) i')
      → ((b : Beginning) (legs : List TurnedLeg) → StandsBehind b legs a → (now : ℕ) × RunsOver b legs (begun_leg (line_of a.conn).per_turn now) a') → Together client server i a None → Together client server i' a' (Some (new_pipe room))
  both_begin i a i' a' room begins begins_a t =
      let x = begins t.lives.begins t.past t.meet.0 in
      let y = begins_a t.lives_a.begins t.past_a t.meet.1 in
      record {
        lives = t.lives;
        lives_a = t.lives_a;
        past = t.past;
        past_a = t.past_a;
        paired = t.paired;
        meet = record { leg = begun_leg (line_of i.conn).per_turn x.0; leg_a = begun_leg (line_of a.conn).per_turn y.0; way = record { homeward = refl; outward = refl }; runs = x.1; runs_a = y.1 };
      }

  -- the initiator makes a turn
  pub left_turns : (i i' a : DrivenEnd) (p q : Held) → TurnsOn i i' (Some (told_at Left p)) (Some (told_at Left q)) → is_given i'.standing ≡ false → Together client server i a (Some p) → Together client server i' a (Some q)
  left_turns i i' a p q turns sound t =
      let k = t.meet in
      let x = turns.goes t.lives.begins t.past k.leg t.lives.began.awaits k.runs sound in
      record {
        lives = t.lives;
        lives_a = t.lives_a;
        past = t.past;
        past_a = t.past_a;
        paired = t.paired;
        meet = record {
          leg = x.later;
          leg_a = k.leg_a;
          way = bytes_move k.leg x.later k.leg_a x.given x.sent p.to_left p.to_right q.to_left q.to_right x.carries k.way x.moved.waited x.moved.took;
          runs = x.runs;
          runs_a = k.runs_a;
        };
      }

  -- and the acceptor
  pub right_turns : (i a a' : DrivenEnd) (p q : Held) → TurnsOn a a' (Some (told_at Right p)) (Some (told_at Right q)) → is_given a'.standing ≡ false → Together client server i a (Some p) → Together client server i a' (Some q)
  right_turns i a a' p q turns sound t =
      let k = t.meet in
      let x = turns.goes t.lives_a.begins t.past_a k.leg_a t.lives_a.began.awaits k.runs_a sound in
      record {
        lives = t.lives;
        lives_a = t.lives_a;
        past = t.past;
        past_a = t.past_a;
        paired = t.paired;
        meet = record {
          leg = k.leg;
          leg_a = x.later;
          way = turned_round x.later k.leg q.to_right q.to_left
              (bytes_move k.leg_a x.later k.leg x.given x.sent p.to_right p.to_left q.to_right q.to_left x.carries (turned_round k.leg k.leg_a p.to_left p.to_right k.way) x.moved.waited x.moved.took);
          runs = k.runs;
          runs_a = x.runs;
        };
      }

  -- one behind the other
  pub both_turn : (i i' a a' : DrivenEnd) (p q r : Held) → TurnsOn i i' (Some (told_at Left p)) (Some (told_at Left q)) → TurnsOn a a' (Some (told_at Right q)) (Some (told_at Right r)) → is_lost i' a' ≡ false
      → Together client server i a (Some p) → Together client server i' a' (Some r)
  both_turn i i' a a' p q r left right sound t =
      let parts = neither (is_given i'.standing) (is_given a'.standing) sound in
      right_turns i' a a' q r right parts.1 (left_turns i i' a p q left parts.0 t)

  -- of two connections over one pipe each was given of what the other sent
  read : (a b : TurnedLeg) (to_a to_b : List ℕ) → UnderWay a b to_a to_b → ReadEachOther a b
  read a b to_a to_b w = ((to_a, sym w.homeward), (to_b, sym w.outward))

  -- once the connections of both are over no pipe stands
  pub all_over : (i a i' a' : DrivenEnd) (p : Held) → ((b : Beginning) (past : List TurnedLeg) (leg : TurnedLeg) → Awaits b → RunsOver b past leg i → StandsBehind b (past ++ leg ∷ []) i')
      → ((b : Beginning) (past : List TurnedLeg) (leg : TurnedLeg) → Awaits b → RunsOver b past leg a → StandsBehind b (past ++ leg ∷ []) a') → Together client server i a (Some p) → Together client server i' a' None
  all_over i a i' a' p over over_a t =
      let k = t.meet in
      record {
        lives = t.lives;
        lives_a = t.lives_a;
        past = t.past ++ k.leg ∷ [];
        past_a = t.past_a ++ k.leg_a ∷ [];
        paired = paired_more t.lives.legs t.past t.lives_a.legs t.past_a k.leg k.leg_a t.paired (read k.leg k.leg_a p.to_left p.to_right k.way);
        meet = (over t.lives.begins t.past k.leg t.lives.began.awaits k.runs, over_a t.lives_a.begins t.past_a k.leg_a t.lives_a.began.awaits k.runs_a);
      }

  -- as where both ended by themselves
  pub both_ended : (i a : DrivenEnd) (p : Held) → i.standing ≡ standings.Over → a.standing ≡ standings.Over → Together client server i a (Some p) → Together client server i a None
  both_ended i a p over over_a = all_over i a i a p (λ b past leg first k. ended_over b past leg i over k) (λ b past leg first k. ended_over b past leg a over_a k)

  -- and where the connection that stands is cut, if one stands
  pub both_cut : (i a i' a' : DrivenEnd) (pipe : Option Held) → ((b : Beginning) (past : List TurnedLeg) (leg : TurnedLeg) → Awaits b → RunsOver b past leg i → is_given i.standing ≡ false → is_failed i.standing ≡ false → StandsBehind b (past ++ leg ∷ []) i')
      → (i.standing ≡ standings.Over → i' ≡ i) → ((b : Beginning) (past : List TurnedLeg) (leg : TurnedLeg) → Awaits b → RunsOver b past leg a → is_given a.standing ≡ false → is_failed a.standing ≡ false → StandsBehind b (past ++ leg ∷ []) a')
      → (a.standing ≡ standings.Over → a' ≡ a) → is_lost i a ≡ false → is_failed i.standing ≡ false → is_failed a.standing ≡ false → Together client server i a pipe → Together client server i' a' None
  both_cut i a i' a' None over rests over_a rests_a sound whole whole_a t = record {
    lives = t.lives;
    lives_a = t.lives_a;
    past = t.past;
    past_a = t.past_a;
    paired = t.paired;
    meet = (
      subst (λ (e : DrivenEnd). StandsBehind t.lives.begins t.past e) (sym (rests t.meet.0.over)) t.meet.0,
      subst (λ (e : DrivenEnd). StandsBehind t.lives_a.begins t.past_a e) (sym (rests_a t.meet.1.over)) t.meet.1,
    );
  }
  both_cut i a i' a' (Some p) over rests over_a rests_a sound whole whole_a t =
      let parts = neither (is_given i.standing) (is_given a.standing) sound in
      all_over i a i' a' p (λ b past leg first k. over b past leg first k parts.0 whole) (λ b past leg first k. over_a b past leg first k parts.1 whole_a) t

  -- behind a round the pipe stands where the connection goes on
  pub round_behind : (i a : DrivenEnd) (q : Held) (b : Bool) (o : Option Held) → o ≡ (if b then Some q else None) → b ≡ (is_going i.standing || is_going a.standing) → is_lost i a ≡ false
      → Together client server i a (Some q) → Together client server i a o
  round_behind i a q true o is going sound t = subst (λ (x : Option Held). Together client server i a x) (sym is) t
  round_behind i a q false o is going sound t =
      let parts = neither (is_given i.standing) (is_given a.standing) sound in
      let over = neither (is_going i.standing) (is_going a.standing) (sym going) in
      subst (λ (x : Option Held). Together client server i a x) (sym is) (both_ended i a q (is_over i.standing over.0 parts.0) (is_over a.standing over.1 parts.1) t)

  -- the initiator goes on from its journals, as its life is over and the connection that stood is given up by the acceptor
  pub initiator_next : (i a i' a' : DrivenEnd) (pipe : Option Held) → ((b : Beginning) (past : List TurnedLeg) (leg : TurnedLeg) → Awaits b → RunsOver b past leg a → is_given a.standing ≡ false → is_failed a.standing ≡ false
      → StandsBehind b (past ++ leg ∷ []) a') → (a.standing ≡ standings.Over → a' ≡ a) → is_lost i a ≡ false → is_failed a.standing ≡ false → GoesOnBehind client server i i' → Together client server i a pipe
      → ∥ Together client server i' a' None ∥₁
  initiator_next i a i' a' None over rests sound whole n t =
      ∥∥₁_map (n.next t.lives t.past (ended_none t.lives.begins t.past i t.lives.began.awaits t.meet.0)) (λ x. record {
        lives = x.lives;
        lives_a = t.lives_a;
        past = [];
        past_a = t.past_a;
        paired = subst (λ (ts : List TurnedLeg). AllZip ReadEachOther ts (t.lives_a.legs ++ t.past_a)) (sym (append-nil x.lives.legs ∙ x.legs_are)) t.paired;
        meet = (x.stands, subst (λ (e : DrivenEnd). StandsBehind t.lives_a.begins t.past_a e) (sym (rests t.meet.1.over)) t.meet.1);
      })
  initiator_next i a i' a' (Some p) over rests sound whole n t =
      let k = t.meet in
      let parts = neither (is_given i.standing) (is_given a.standing) sound in
      ∥∥₁_map (n.next t.lives (t.past ++ k.leg ∷ []) (ended_one t.lives.begins t.past k.leg i t.lives.began.awaits parts.0 k.runs)) (λ x. record {
        lives = x.lives;
        lives_a = t.lives_a;
        past = [];
        past_a = t.past_a ++ k.leg_a ∷ [];
        paired = subst (λ (ts : List TurnedLeg). AllZip ReadEachOther ts (t.lives_a.legs ++ (t.past_a ++ k.leg_a ∷ []))) (sym (append-nil x.lives.legs ∙ x.legs_are))
            (paired_more t.lives.legs t.past t.lives_a.legs t.past_a k.leg k.leg_a t.paired (read k.leg k.leg_a p.to_left p.to_right k.way));
        meet = (x.stands, over t.lives_a.begins t.past_a k.leg_a t.lives_a.began.awaits k.runs_a parts.1 whole);
      })

  -- and so the acceptor
  pub acceptor_next : (i a i' a' : DrivenEnd) (pipe : Option Held) → ((b : Beginning) (past : List TurnedLeg) (leg : TurnedLeg) → Awaits b → RunsOver b past leg i → is_given i.standing ≡ false → is_failed i.standing ≡ false
      → StandsBehind b (past ++ leg ∷ []) i') → (i.standing ≡ standings.Over → i' ≡ i) → is_lost i a ≡ false → is_failed i.standing ≡ false → GoesOnBehind server client a a' → Together client server i a pipe
      → ∥ Together client server i' a' None ∥₁
  acceptor_next i a i' a' None over rests sound whole n t =
      ∥∥₁_map (n.next t.lives_a t.past_a (ended_none t.lives_a.begins t.past_a a t.lives_a.began.awaits t.meet.1)) (λ x. record {
        lives = t.lives;
        lives_a = x.lives;
        past = t.past;
        past_a = [];
        paired = subst (λ (ts : List TurnedLeg). AllZip ReadEachOther (t.lives.legs ++ t.past) ts) (sym (append-nil x.lives.legs ∙ x.legs_are)) t.paired;
        meet = (subst (λ (e : DrivenEnd). StandsBehind t.lives.begins t.past e) (sym (rests t.meet.0.over)) t.meet.0, x.stands);
      })
  acceptor_next i a i' a' (Some p) over rests sound whole n t =
      let k = t.meet in
      let parts = neither (is_given i.standing) (is_given a.standing) sound in
      ∥∥₁_map (n.next t.lives_a (t.past_a ++ k.leg_a ∷ []) (ended_one t.lives_a.begins t.past_a k.leg_a a t.lives_a.began.awaits parts.1 k.runs_a)) (λ x. record {
        lives = t.lives;
        lives_a = x.lives;
        past = t.past ++ k.leg ∷ [];
        past_a = [];
        paired = subst (λ (ts : List TurnedLeg). AllZip ReadEachOther (t.lives.legs ++ (t.past ++ k.leg ∷ [])) ts) (sym (append-nil x.lives.legs ∙ x.legs_are))
            (paired_more t.lives.legs t.past t.lives_a.legs t.past_a k.leg k.leg_a t.paired (read k.leg k.leg_a p.to_left p.to_right k.way));
        meet = (over t.lives.begins t.past k.leg t.lives.began.awaits k.runs parts.0 whole, x.stands);
      })

  -- so it is of a pair in which the initiator is stopped, whatever its senders do then
  pub initiator_on : (i a i' i'' a' : DrivenEnd) (pipe : Option Held) → ((b : Beginning) (past : List TurnedLeg) (leg : TurnedLeg) → Awaits b → RunsOver b past leg a → is_given a.standing ≡ false → is_failed a.standing ≡ false
      → StandsBehind b (past ++ leg ∷ []) a') → (a.standing ≡ standings.Over → a' ≡ a) → is_lost i a ≡ false → is_failed a.standing ≡ false → GoesOnBehind client server i i' → i'' ≡ record i' { staff = i''.staff }
      → (is_lost i a ≡ false → ∥ Together client server i a pipe ∥₁) → ∥ Together client server i'' a' None ∥₁
  initiator_on i a i' i'' a' pipe over rests sound whole n same k =
      ∥∥₁_elim (k sound) ∥∥₁_prop (λ t. ∥∥₁_map (initiator_next i a i' a' pipe over rests sound whole n t) (λ u. together_same i' i'' a' None (same_of i' i'' (finds_none i' i'' same)) u))

  pub acceptor_on : (i a i' a' : DrivenEnd) (pipe : Option Held) → ((b : Beginning) (past : List TurnedLeg) (leg : TurnedLeg) → Awaits b → RunsOver b past leg i → is_given i.standing ≡ false → is_failed i.standing ≡ false
      → StandsBehind b (past ++ leg ∷ []) i') → (i.standing ≡ standings.Over → i' ≡ i) → is_lost i a ≡ false → is_failed i.standing ≡ false → GoesOnBehind server client a a'
      → (is_lost i a ≡ false → ∥ Together client server i a pipe ∥₁) → ∥ Together client server i' a' None ∥₁
  acceptor_on i a i' a' pipe over rests sound whole n k = ∥∥₁_elim (k sound) ∥∥₁_prop (λ t. acceptor_next i a i' a' pipe over rests sound whole n t)

-- the same by flows that are those
pub behind_as : (own peer own' peer' : Flow) (e e' : DrivenEnd) → own' ≡ own → peer' ≡ peer → GoesOnBehind own peer e e' → GoesOnBehind own' peer' e e'
behind_as own peer own' peer' e e' is is_peer n = subst (λ (f : Flow). GoesOnBehind f peer' e e') (sym is) (subst (λ (f : Flow). GoesOnBehind own f e e') (sym is_peer) n)
