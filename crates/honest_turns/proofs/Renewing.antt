-- Two ends over any lives of both.
use Rattle.std.proofs.Common.{◌≡◌, ◌≤◌, ◌+◌, ◌&&◌, ℕ, Bool, true, false, List, length, Option, Some, None, IfSome, refl, sym, ap, subst, ◌∙◌, arith}
use Rattle.session_model.specs.Journal.{Entry, History}
use Rattle.fixp_msgs.specs.declared.flow.Flow.{Flow}
use Rattle.fixp_msgs.specs.declared.flow.Flow.TheVariants as flows
use Rattle.fixp_shake.specs.Flows.{is_recoverable, is_sequenced}
use Rattle.fixp_shake.specs.declared.config.EndConfig.{EndConfig}
use Rattle.fixp_replies.specs.Expecting.{is_newer}
use Rattle.fixp_machine.specs.Machine.{State}
use Rattle.honest_ends.specs.Worlds.{Match}
use Rattle.honest_ends.specs.Knowing.{Knows, goes_back, last_told}
use Rattle.honest_ends.specs.Resting.{EndsLast}
use Rattle.honest_turns.specs.Lives.{End, end_after, AgreeAt}
use Rattle.honest_turns.specs.Sessions.{Reopens, no_more, connects, initiator_opens, acceptor_opens, SessionHolds, NewLifeAgrees}
use Rattle.honest_turns.proofs.Living.{life_holds}

-- who goes back does so on a flow with numbers, a finish of which comes behind all of it, whichever versions both speak
last_of : (a b c : Bool) → (a && b && c) ≡ true → c ≡ true
last_of true true c e = e
last_of true false c e = absurd (cc e)
last_of false true c e = absurd (cc e)
last_of false false c e = absurd (cc e)

has_numbers : (flow : Flow) → is_recoverable flow ≡ true → is_sequenced flow ≡ true
has_numbers flows.Recoverable e = refl
has_numbers flows.Idempotent e = refl
has_numbers flows.Unsequenced e = absurd (cc e)
has_numbers flows.None e = absurd (cc e)

ends_so : (writer : EndConfig) (reader : State) → EndsLast reader → goes_back writer reader.config ≡ true → IfSome reader.facts.recorded.peer_last (λ n. reader.facts.recorded.inbox_next ≡ n + 1)
ends_so writer reader last goes =
    last (has_numbers reader.config.peer_flow (last_of (is_newer writer) (is_newer reader.config) (is_recoverable reader.config.peer_flow) goes))

-- a reader knows no more of a writer's next life
writer_anew : (i j : End) (reader : State) → Reopens i j → EndsLast reader → Knows i.outbox.made i.state reader → Knows j.outbox.made j.state reader
writer_anew i j reader r ends k = subst (λ (h : History). Knows h.made j.state reader) (sym r.outbox) (record {
  sent = enough;
  most = k.most;
  one = k.one;
  next = let next = k.next in let sent = r.sent in omega (arith, next, sent);
  finish = subst (λ (h : History). IfSome j.state.facts.recorded.finish (λ n. n ≡ length h.made)) r.outbox r.finish;
  last = by_last reader.facts.recorded.peer_last k.last;
  ends = ends_so j.state.config reader ends;
})
  where
    enough : j.state.facts.recorded.sent ≤ length i.outbox.made
    enough = subst (λ (h : History). j.state.facts.recorded.sent ≤ length h.made) r.outbox r.enough

    all_sent : i.state.facts.recorded.sent ≡ length i.outbox.made → j.state.facts.recorded.sent ≡ length i.outbox.made
    all_sent e = let sent = r.sent in let most = enough in omega (arith, e, sent, most)

    flow : i.state.config.own_flow ≡ j.state.config.own_flow
    flow = sym r.config.own

    by_last : (o : Option ℕ)
        → IfSome o (λ n. (i.state.facts.recorded.finish ≡ Some (length i.outbox.made)) × (i.state.facts.recorded.sent ≡ length i.outbox.made) × (n ≡ last_told i.state.config.own_flow i.outbox.made))
        → IfSome o (λ n. (j.state.facts.recorded.finish ≡ Some (length i.outbox.made)) × (j.state.facts.recorded.sent ≡ length i.outbox.made) × (n ≡ last_told j.state.config.own_flow i.outbox.made))
    by_last None k = tt
    by_last (Some n) k = (r.kept (length i.outbox.made) k.0, all_sent k.1, k.2 ∙ ap (λ f. last_told f i.outbox.made) flow)

-- nor does a reader's next life know more of the writer
reader_anew : (h : List Entry) (writer : State) (i j : End) → Reopens i j → EndsLast j.state → Knows h writer i.state → Knows h writer j.state
reader_anew h writer i j r ends k = record {
  sent = k.sent;
  most = subst (λ (n : ℕ). length h ≤ n) (sym r.most) k.most;
  one = λ rec. let one = k.one (ap is_recoverable (sym r.config.peer) ∙ rec) in let same = r.next in omega (arith, one, same);
  next = let next = k.next in let same = r.next in omega (arith, next, same);
  finish = k.finish;
  last = subst (λ (o : Option ℕ). IfSome o (λ n. (writer.facts.recorded.finish ≡ Some (length h)) × (writer.facts.recorded.sent ≡ length h) × (n ≡ last_told writer.config.own_flow h))) (sym r.last) k.last;
  ends = ends_so writer.config j.state ends;
}

last_anew : (i j : End) → Reopens i j → EndsLast i.state → EndsLast j.state
last_anew i j r k numbered =
    subst (λ (o : Option ℕ). IfSome o (λ last. j.state.facts.recorded.inbox_next ≡ last + 1)) (sym r.last)
    (subst (λ (n : ℕ). IfSome i.state.facts.recorded.peer_last (λ last. n ≡ last + 1)) (sym r.next) (k (ap is_sequenced (sym r.config.peer) ∙ numbered)))

initiator_anew : (i a j : End) → AgreeAt i a → Reopens i j → AgreeAt j a
initiator_anew i a j k r = record {
  initiator = r.ready;
  acceptor = k.acceptor;
  agree = record {
    matches = record {
      initiates = r.config.role ∙ k.agree.matches.initiates;
      accepts = k.agree.matches.accepts;
      session = k.agree.matches.session ∙ sym r.config.session;
      credentials = k.agree.matches.credentials ∙ sym r.config.credentials;
      outward = k.agree.matches.outward ∙ sym r.config.own;
      homeward = r.config.peer ∙ k.agree.matches.homeward;
      keepalive = r.config.interval;
    };
    outward = writer_anew i j a.state r k.agree.last_a k.agree.outward;
    homeward = reader_anew a.outbox.made a.state i j r (last_anew i j r k.agree.last_i) k.agree.homeward;
    last_i = last_anew i j r k.agree.last_i;
    last_a = k.agree.last_a;
  };
}

acceptor_anew : (i a b : End) → AgreeAt i a → Reopens a b → AgreeAt i b
acceptor_anew i a b k r = record {
  initiator = k.initiator;
  acceptor = r.ready;
  agree = record {
    matches = record {
      initiates = k.agree.matches.initiates;
      accepts = r.config.role ∙ k.agree.matches.accepts;
      session = r.config.session ∙ k.agree.matches.session;
      credentials = r.config.credentials ∙ k.agree.matches.credentials;
      outward = r.config.peer ∙ k.agree.matches.outward;
      homeward = k.agree.matches.homeward ∙ sym r.config.own;
      keepalive = k.agree.matches.keepalive;
    };
    outward = reader_anew i.outbox.made i.state a b r (last_anew a b r k.agree.last_a) k.agree.outward;
    homeward = writer_anew a b i.state r k.agree.last_i k.agree.homeward;
    last_i = k.agree.last_i;
    last_a = last_anew a b r k.agree.last_a;
  };
}

pub new_life_agrees : NewLifeAgrees
new_life_agrees i a j b k = (initiator_anew i a j k, acceptor_anew i a b k)

pub session_holds : SessionHolds
session_holds i a no_more k = (tt, k)
session_holds i a (connects is as' x y link later) k =
    let h = life_holds i a is as' k x y link in
    let more = session_holds (end_after i is) (end_after a as') later h.2 in
    ((h.0, h.1, more.0), more.1)
session_holds i a (initiator_opens j opens later) k = session_holds j a later (initiator_anew i a j k opens)
session_holds i a (acceptor_opens b opens later) k = session_holds i b later (acceptor_anew i a b k opens)
