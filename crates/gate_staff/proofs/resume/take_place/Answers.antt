use Rattle.std.proofs.Common.{◌≡◌, ◌+◌, ◌≤◌, ◌++◌, false, [], length, take, drop, is_some, Err, refl, sym, ap, ◌∙◌, subst, arith, append-nil, length-append}
use Rattle.std.proofs.lemmas.List.{length-map, take_all}
use Rattle.session_model.specs.Inbox.{Numbered, applied, payloads_of, has_peer_finished}
use Rattle.session_model.proofs.Lists.{prefix_of_append}
use Rattle.gate_staff.specs.Business.{AllStay, Answered, Resumed, ShownByOne, StandsOnResume}
use Rattle.gate_staff.proofs.Resuming.{all_stay, upto_none, same_terms, shown_on, unread_of, refused_of, refused_stands, is_peer_finished, padded, take_on, told_prefix, content_on, content_self, stands_there, upto_more, last_of, last_stands, resuming_of}
use Rattle.gate_staff.proofs.resume.take_place.Goals as goal

pub loop-read-init : goal.loop-read-init
loop-read-init g c = record {
  own = c.begin.ensures.own;
  count = c.begin.ensures.same.0;
  plan = c.begin.ensures.same.1;
  sound = c.requires.sound;
  content = content_self c.args.inbox.now;
  faults = omega arith;
  kind = (refl, refl);
  counted = c.count-count.ensures.value;
  counts = c.count-count.ensures.counts;
  finished = λ i stands. c.is_some-finished.ensures ∙ ap is_some (c.peer_last.ensures.mark i stands) ∙ is_peer_finished i;
  within = omega arith;
  done = [];
  behind = record {
    long = refl;
    at = c.begin.ensures.stands;
    upto = upto_none (g.B.Business.count c.args.business.now) (g.B.Business.part c.args.business.now) (g.B.Business.part c.begin.new.self) (λ n. g.B.Business.plan c.args.business.now n []) c.begin.ensures.silent;
  };
  told = λ tells i stands. refl;
}

-- ---- a message was not read

pub returns-in-Err-clause-stays : goal.returns-in-Err-clause-stays
returns-in-Err-clause-stays g c = c.loop-read.invariant.behind.upto.grew.same

pub returns-in-Err-clause-resumed : goal.returns-in-Err-clause-resumed
returns-in-Err-clause-resumed g c = λ i tells stands.
    let b = c.args.business.now in
    let at = c.loop-read.invariant in
    unread_of (g.B.Business.plan b) c.plans_go_on.ensures.law (g.B.Business.count b) (g.B.Business.part b) (g.B.Business.part c.loop-read.business) at.done at.behind.upto
    (payloads_of (applied i)) (has_peer_finished i) c.in-Err.fault (told_prefix at.done c.loop-read.read (payloads_of (applied i)) (at.told tells i stands))

pub returns-in-Err-clause-read : goal.returns-in-Err-clause-read
returns-in-Err-clause-read g c = λ i stands.
    let b = c.args.business.now in
    let at = c.loop-read.invariant in
    let all = payloads_of (applied i) in
    let long : length all ≡ length (applied i) = length-map (applied i) (λ (m : Numbered). m.payload) in
    ∣ (
      at.done ++ drop (length at.done) all,
      padded at.done all (omega (arith, at.behind.long, at.within, at.counts i stands, long)) ∙ long,
      tt,
      unread_of (g.B.Business.plan b) c.plans_go_on.ensures.law (g.B.Business.count b) (g.B.Business.part b) (g.B.Business.part c.loop-read.business) at.done at.behind.upto
          (at.done ++ drop (length at.done) all) (has_peer_finished i) c.in-Err.fault (prefix_of_append at.done (drop (length at.done) all)),
    ) ∣₁

-- ---- a message was refused

pub returns-in-Some-clause-stays : goal.returns-in-Some-clause-stays
returns-in-Some-clause-stays g c =
    let b = c.args.business.now in
    let was = c.loop-read.business in
    let now = c.on_applied-answer.new.self in
    let at = c.loop-read.invariant in
    all_stay (g.B.Business.count b) (g.B.Business.part b) (g.B.Business.part was) (g.B.Business.part now) at.behind.upto.grew.same
    (subst (λ k. AllStay k (g.B.Business.part was) (g.B.Business.part now)) at.count c.on_applied-answer.ensures.stays)

pub returns-in-Some-clause-resumed : goal.returns-in-Some-clause-resumed
returns-in-Some-clause-resumed g c = λ i tells stands.
    let b = c.args.business.now in
    let was = c.loop-read.business in
    let now = c.on_applied-answer.new.self in
    let at = c.loop-read.invariant in
    let more = c.in-Ok.payloads in
    let all = payloads_of (applied i) in
    let met = c.in-Some.ensures.some in
    let told : at.done ++ more ≡ take (c.loop-read.read + length more) all =
    ap (λ d. d ++ more) (at.told tells i stands) ∙ ap (λ m. take c.loop-read.read all ++ m) (c.in-Ok.ensures.payloads tells i ((at.content.stands i).0 stands)) ∙ take_on c.loop-read.read (length more) all in
    refused_of (g.B.Business.plan b) c.plans_go_on.ensures.law (g.B.Business.count b) (g.B.Business.part b) (g.B.Business.part was) at.done at.behind.upto (g.B.Business.part now) more
    all (has_peer_finished i) c.in-Some.fault (told_prefix (at.done ++ more) (c.loop-read.read + length more) all told) met.1
    (subst (λ r. Answered (λ n. g.B.Business.plan b n (at.done ++ more)) (g.B.Business.count b) (g.B.Business.part was) (g.B.Business.part now) false r) met.0
    (same_terms (g.B.Business.plan was) (g.B.Business.plan b) (g.B.Business.count was) (g.B.Business.count b) at.plan at.count (at.done ++ more) (g.B.Business.part was) (g.B.Business.part now) false c.on_applied-answer.result
    (c.on_applied-answer.ensures.answered at.done at.behind.at)))

pub returns-in-Some-clause-read : goal.returns-in-Some-clause-read
returns-in-Some-clause-read g c = λ i stands.
    let b = c.args.business.now in
    let was = c.loop-read.business in
    let now = c.on_applied-answer.new.self in
    let at = c.loop-read.invariant in
    let more = c.in-Ok.payloads in
    let done = at.done ++ more in
    let all = payloads_of (applied i) in
    let met = c.in-Some.ensures.some in
    let long : length all ≡ length (applied i) = length-map (applied i) (λ (m : Numbered). m.payload) in
    let few : length done ≤ length all = omega (arith, length-append at.done more, at.behind.long, c.in-Ok.ensures.within, at.content.count, at.counted, at.counts i stands, long) in
    ∣ (
      done ++ drop (length done) all,
      padded done all few ∙ long,
      refused_stands c.in-Some.fault (g.B.Business.stands now (done ++ drop (length done) all)) met.1,
      refused_of (g.B.Business.plan b) c.plans_go_on.ensures.law (g.B.Business.count b) (g.B.Business.part b) (g.B.Business.part was) at.done at.behind.upto (g.B.Business.part now) more
          (done ++ drop (length done) all) (has_peer_finished i) c.in-Some.fault (prefix_of_append done (drop (length done) all)) met.1
          (subst (λ r. Answered (λ n. g.B.Business.plan b n done) (g.B.Business.count b) (g.B.Business.part was) (g.B.Business.part now) false r) met.0
          (same_terms (g.B.Business.plan was) (g.B.Business.plan b) (g.B.Business.count was) (g.B.Business.count b) at.plan at.count done (g.B.Business.part was) (g.B.Business.part now) false c.on_applied-answer.result
          (c.on_applied-answer.ensures.answered at.done at.behind.at))),
    ) ∣₁

pub returns-in-Some-clause-refused : goal.returns-in-Some-clause-refused
returns-in-Some-clause-refused g c = λ f e ne.
    let b = c.args.business.now in
    let was = c.loop-read.business in
    let now = c.on_applied-answer.new.self in
    let at = c.loop-read.invariant in
    shown_on (g.B.Business.count b) (g.B.Business.part b) (g.B.Business.part was) (g.B.Business.part now) f at.behind.upto.grew.same
    (subst (λ k. ShownByOne k (g.B.Business.part was) (g.B.Business.part now) f) at.count (c.on_applied-answer.ensures.refused f (c.in-Some.ensures.some.0 ∙ ap Err (cc e)) ne))

pub returns-in-Some-clause-content : goal.returns-in-Some-clause-content
returns-in-Some-clause-content g c = content_on c.args.inbox.now c.loop-read.inbox c.read_next.new.inbox c.loop-read.invariant.content c.in-Ok.ensures.content

-- ---- all that were read are answered

pub loop-read-preserved : goal.loop-read-preserved
loop-read-preserved g c =
    let b = c.args.business.now in
    let was = c.loop-read.business in
    let now = c.on_applied-answer.new.self in
    let at = c.loop-read.invariant in
    let more = c.in-Ok.payloads in
    let e = c.in-Ok.ensures in
    let answer = c.on_applied-answer.ensures in
    record {
      own = answer.own;
      count = answer.same.0 ∙ at.count;
      plan = answer.same.1 ∙ at.plan;
      sound = e.unbroken;
      content = content_on c.args.inbox.now c.loop-read.inbox c.read_next.new.inbox at.content e.content;
      faults = omega (arith, at.faults, e.never_falls);
      kind = (e.kind.0 ∙ at.kind.0, e.kind.1 ∙ at.kind.1);
      counted = at.counted;
      counts = at.counts;
      finished = at.finished;
      within = omega (arith, c.len.ensures, e.within, at.content.count, at.counted);
      done = at.done ++ more;
      behind = record {
        long = omega (arith, length-append at.done more, at.behind.long, c.len.ensures);
        at = stands_there c.on_applied-answer.result (g.B.Business.stands now (at.done ++ more)) c.in_default.ensures.none (answer.stands at.done at.behind.at);
        upto = upto_more (g.B.Business.plan b) c.plans_go_on.ensures.law (g.B.Business.count b) (g.B.Business.part b) (g.B.Business.part was) at.done at.behind.upto (g.B.Business.part now) more
            c.on_applied-answer.result c.in_default.ensures.none
            (same_terms (g.B.Business.plan was) (g.B.Business.plan b) (g.B.Business.count was) (g.B.Business.count b) at.plan at.count (at.done ++ more) (g.B.Business.part was) (g.B.Business.part now) false c.on_applied-answer.result
            (answer.answered at.done at.behind.at));
      };
      told = λ tells i stands.
          ap (λ d. d ++ more) (at.told tells i stands) ∙ ap (λ m. take c.loop-read.read (payloads_of (applied i)) ++ m) (e.payloads tells i ((at.content.stands i).0 stands))
          ∙ take_on c.loop-read.read (length more) (payloads_of (applied i)) ∙ ap (λ n. take (c.loop-read.read + n) (payloads_of (applied i))) (sym c.len.ensures);
    }

-- ---- the last call

pub returns-in-Ok-on_applied-clause-stays : goal.returns-in-Ok-on_applied-clause-stays
returns-in-Ok-on_applied-clause-stays g c =
    let b = c.args.business.now in
    let was = c.loop-read.business in
    let now = c.on_applied.new.self in
    let at = c.loop-read.invariant in
    all_stay (g.B.Business.count b) (g.B.Business.part b) (g.B.Business.part was) (g.B.Business.part now) at.behind.upto.grew.same
    (subst (λ k. AllStay k (g.B.Business.part was) (g.B.Business.part now)) at.count c.on_applied.ensures.stays)

pub returns-in-Ok-on_applied-clause-resumed : goal.returns-in-Ok-on_applied-clause-resumed
returns-in-Ok-on_applied-clause-resumed g c = λ i tells stands.
    let b = c.args.business.now in
    let was = c.loop-read.business in
    let now = c.on_applied.new.self in
    let at = c.loop-read.invariant in
    let none = c.new-none.result in
    let all = payloads_of (applied i) in
    let long : length all ≡ length (applied i) = length-map (applied i) (λ (m : Numbered). m.payload) in
    let whole : at.done ++ none ≡ all =
    ap (λ x. at.done ++ x) c.new-none.ensures ∙ append-nil at.done ∙ at.told tells i stands ∙ take_all c.loop-read.read all (omega (arith, long, at.counts i stands, c.loop-read-test.false)) in
    subst (λ r. Resumed (λ n. g.B.Business.plan b n all) (g.B.Business.count b) (g.B.Business.part b) (g.B.Business.part now) (has_peer_finished i) r) (ap resuming_of c.in-Ok-on_applied.is)
    (last_of (g.B.Business.plan b) c.plans_go_on.ensures.law (g.B.Business.count b) (g.B.Business.part b) (g.B.Business.part was) at.done at.behind.upto (g.B.Business.part now) none
    all (has_peer_finished i) c.on_applied.result whole
    (same_terms (g.B.Business.plan was) (g.B.Business.plan b) (g.B.Business.count was) (g.B.Business.count b) at.plan at.count (at.done ++ none) (g.B.Business.part was) (g.B.Business.part now) (has_peer_finished i) c.on_applied.result
    (subst (λ f. Answered (λ n. g.B.Business.plan was n (at.done ++ none)) (g.B.Business.count was) (g.B.Business.part was) (g.B.Business.part now) f c.on_applied.result) (at.finished i stands)
    (c.on_applied.ensures.answered at.done at.behind.at))))

pub returns-in-Ok-on_applied-clause-read : goal.returns-in-Ok-on_applied-clause-read
returns-in-Ok-on_applied-clause-read g c = λ i stands.
    let b = c.args.business.now in
    let was = c.loop-read.business in
    let now = c.on_applied.new.self in
    let at = c.loop-read.invariant in
    let none = c.new-none.result in
    ∣ (
      at.done,
      omega (arith, at.behind.long, at.within, at.counts i stands, c.loop-read-test.false),
      subst (λ r. StandsOnResume r (g.B.Business.stands now at.done)) (ap resuming_of c.in-Ok-on_applied.is)
          (last_stands (g.B.Business.stands now) at.done none c.new-none.ensures c.on_applied.result (c.on_applied.ensures.stands at.done at.behind.at)),
      subst (λ r. Resumed (λ n. g.B.Business.plan b n at.done) (g.B.Business.count b) (g.B.Business.part b) (g.B.Business.part now) (has_peer_finished i) r) (ap resuming_of c.in-Ok-on_applied.is)
          (last_of (g.B.Business.plan b) c.plans_go_on.ensures.law (g.B.Business.count b) (g.B.Business.part b) (g.B.Business.part was) at.done at.behind.upto (g.B.Business.part now) none
          at.done (has_peer_finished i) c.on_applied.result (ap (λ x. at.done ++ x) c.new-none.ensures ∙ append-nil at.done)
          (same_terms (g.B.Business.plan was) (g.B.Business.plan b) (g.B.Business.count was) (g.B.Business.count b) at.plan at.count (at.done ++ none) (g.B.Business.part was) (g.B.Business.part now) (has_peer_finished i) c.on_applied.result
          (subst (λ f. Answered (λ n. g.B.Business.plan was n (at.done ++ none)) (g.B.Business.count was) (g.B.Business.part was) (g.B.Business.part now) f c.on_applied.result) (at.finished i stands)
          (c.on_applied.ensures.answered at.done at.behind.at)))),
    ) ∣₁

pub returns-clause-stays : goal.returns-clause-stays
returns-clause-stays g c =
    let b = c.args.business.now in
    let was = c.loop-read.business in
    let now = c.on_applied.new.self in
    let at = c.loop-read.invariant in
    all_stay (g.B.Business.count b) (g.B.Business.part b) (g.B.Business.part was) (g.B.Business.part now) at.behind.upto.grew.same
    (subst (λ k. AllStay k (g.B.Business.part was) (g.B.Business.part now)) at.count c.on_applied.ensures.stays)

pub returns-clause-resumed : goal.returns-clause-resumed
returns-clause-resumed g c = λ i tells stands.
    let b = c.args.business.now in
    let was = c.loop-read.business in
    let now = c.on_applied.new.self in
    let at = c.loop-read.invariant in
    let none = c.new-none.result in
    let all = payloads_of (applied i) in
    let long : length all ≡ length (applied i) = length-map (applied i) (λ (m : Numbered). m.payload) in
    let whole : at.done ++ none ≡ all =
    ap (λ x. at.done ++ x) c.new-none.ensures ∙ append-nil at.done ∙ at.told tells i stands ∙ take_all c.loop-read.read all (omega (arith, long, at.counts i stands, c.loop-read-test.false)) in
    subst (λ r. Resumed (λ n. g.B.Business.plan b n all) (g.B.Business.count b) (g.B.Business.part b) (g.B.Business.part now) (has_peer_finished i) r) (ap resuming_of c.in-Err-on_applied.is)
    (last_of (g.B.Business.plan b) c.plans_go_on.ensures.law (g.B.Business.count b) (g.B.Business.part b) (g.B.Business.part was) at.done at.behind.upto (g.B.Business.part now) none
    all (has_peer_finished i) c.on_applied.result whole
    (same_terms (g.B.Business.plan was) (g.B.Business.plan b) (g.B.Business.count was) (g.B.Business.count b) at.plan at.count (at.done ++ none) (g.B.Business.part was) (g.B.Business.part now) (has_peer_finished i) c.on_applied.result
    (subst (λ f. Answered (λ n. g.B.Business.plan was n (at.done ++ none)) (g.B.Business.count was) (g.B.Business.part was) (g.B.Business.part now) f c.on_applied.result) (at.finished i stands)
    (c.on_applied.ensures.answered at.done at.behind.at))))

pub returns-clause-read : goal.returns-clause-read
returns-clause-read g c = λ i stands.
    let b = c.args.business.now in
    let was = c.loop-read.business in
    let now = c.on_applied.new.self in
    let at = c.loop-read.invariant in
    let none = c.new-none.result in
    ∣ (
      at.done,
      omega (arith, at.behind.long, at.within, at.counts i stands, c.loop-read-test.false),
      subst (λ r. StandsOnResume r (g.B.Business.stands now at.done)) (ap resuming_of c.in-Err-on_applied.is)
          (last_stands (g.B.Business.stands now) at.done none c.new-none.ensures c.on_applied.result (c.on_applied.ensures.stands at.done at.behind.at)),
      subst (λ r. Resumed (λ n. g.B.Business.plan b n at.done) (g.B.Business.count b) (g.B.Business.part b) (g.B.Business.part now) (has_peer_finished i) r) (ap resuming_of c.in-Err-on_applied.is)
          (last_of (g.B.Business.plan b) c.plans_go_on.ensures.law (g.B.Business.count b) (g.B.Business.part b) (g.B.Business.part was) at.done at.behind.upto (g.B.Business.part now) none
          at.done (has_peer_finished i) c.on_applied.result (ap (λ x. at.done ++ x) c.new-none.ensures ∙ append-nil at.done)
          (same_terms (g.B.Business.plan was) (g.B.Business.plan b) (g.B.Business.count was) (g.B.Business.count b) at.plan at.count (at.done ++ none) (g.B.Business.part was) (g.B.Business.part now) (has_peer_finished i) c.on_applied.result
          (subst (λ f. Answered (λ n. g.B.Business.plan was n (at.done ++ none)) (g.B.Business.count was) (g.B.Business.part was) (g.B.Business.part now) f c.on_applied.result) (at.finished i stands)
          (c.on_applied.ensures.answered at.done at.behind.at)))),
    ) ∣₁

pub returns-clause-refused : goal.returns-clause-refused
returns-clause-refused g c = λ f e ne.
    let b = c.args.business.now in
    let was = c.loop-read.business in
    let now = c.on_applied.new.self in
    let at = c.loop-read.invariant in
    shown_on (g.B.Business.count b) (g.B.Business.part b) (g.B.Business.part was) (g.B.Business.part now) f at.behind.upto.grew.same
    (subst (λ k. ShownByOne k (g.B.Business.part was) (g.B.Business.part now) f) at.count (c.on_applied.ensures.refused f (c.in-Err-on_applied.is ∙ ap Err (cc e)) ne))
