use Rattle.std.proofs.Common.{Ok, refl, ap, ◌∙◌}
use Rattle.std.specs.Bool.{⊤}
use Rattle.conn_loop.specs.Ends.{box_in}
use Rattle.conn_serve.specs.Answers.{IsOfTurn}
use Rattle.conn_serve.specs.Answering.{business_at, AnswersMore}
use Rattle.conn_serve.proofs.Making.{blamed_since}
use Rattle.conn_serve.proofs.Living.{lived_none, lived_more, over_stopped, over_ok, over_err}
use Rattle.conn_serve.proofs.Upto.{more_none, more_on, round_at}
use Rattle.conn_serve.specs.Hears.{hears}
use Rattle.conn_serve.specs.Lives.{faults_in_life}
use Rattle.conn_serve.specs.Moments.{life_at}
use Rattle.conn_serve.proofs.Lasting.{goes_self, goes_further}
use Rattle.conn_serve.proofs.connections.serve_connections.Goals as goal

pub loop-number-init : goal.loop-number-init
loop-number-init g c = record {
  may = c.requires.may;
  goes = goes_self (hears g.K.Sink g.N.Dialer g.N.Link.Link g.C.Clock) c.args.life.now;
  lived = lived_none (λ adds. AnswersMore ⊤ (business_at g.B.Business.stands g.B.Business.plan g.B.Business.count g.B.Business.part c.args.answering.now) (business_at g.B.Business.stands g.B.Business.plan g.B.Business.count g.B.Business.part c.args.answering.now) (box_in c.args.life.now.end) adds) _ _ _ _ _ _ (box_in c.args.life.now.end) (more_none (business_at g.B.Business.stands g.B.Business.plan g.B.Business.count g.B.Business.part c.args.answering.now) (business_at g.B.Business.stands g.B.Business.plan g.B.Business.count g.B.Business.part c.args.answering.now) (box_in c.args.life.now.end));
  has = c.requires.has;
  same = (refl, refl);
}

pub returns-then-must_stop-clause-served : goal.returns-then-must_stop-clause-served
returns-then-must_stop-clause-served g c =
    let served = over_stopped (λ adds. AnswersMore ⊤ (business_at g.B.Business.stands g.B.Business.plan g.B.Business.count g.B.Business.part c.args.answering.now) (business_at g.B.Business.stands g.B.Business.plan g.B.Business.count g.B.Business.part c.loop-number.answering) (box_in c.args.life.now.end) adds) _ _ _ _ (life_at _ _ _ (box_in c.args.life.now.end)) (life_at _ _ _ (box_in c.loop-number.life.end)) _ _ c.loop-number.invariant.lived in
    (record { over = served.0; blamed = tt }, served.1)

pub returns-in-Some-clause-goes_on : goal.returns-in-Some-clause-goes_on
returns-in-Some-clause-goes_on g c = goes_further (hears g.K.Sink g.N.Dialer g.N.Link.Link g.C.Clock) _ _ _ c.loop-number.invariant.goes c.serve_next-answer.ensures.goes_on

pub returns-in-Some-clause-served : goal.returns-in-Some-clause-served
returns-in-Some-clause-served g c =
    let served = over_ok (λ adds. AnswersMore ⊤ (business_at g.B.Business.stands g.B.Business.plan g.B.Business.count g.B.Business.part c.args.answering.now) (business_at g.B.Business.stands g.B.Business.plan g.B.Business.count g.B.Business.part c.loop-number.answering) (box_in c.args.life.now.end) adds) (λ adds. AnswersMore ⊤ (business_at g.B.Business.stands g.B.Business.plan g.B.Business.count g.B.Business.part c.loop-number.answering) (business_at g.B.Business.stands g.B.Business.plan g.B.Business.count g.B.Business.part c.serve_next-answer.new.answering) (box_in c.loop-number.life.end) adds) (λ adds. AnswersMore ⊤ (business_at g.B.Business.stands g.B.Business.plan g.B.Business.count g.B.Business.part c.args.answering.now) (business_at g.B.Business.stands g.B.Business.plan g.B.Business.count g.B.Business.part c.serve_next-answer.new.answering) (box_in c.args.life.now.end) adds) _ _ _ _ c.in-Some.end _ (life_at _ _ _ (box_in c.args.life.now.end)) (life_at _ _ _ (box_in c.loop-number.life.end)) (life_at _ _ _ (box_in c.serve_next-answer.new.life.end)) _ _ _ c.loop-number.invariant.lived (round_at _ _ _ _ (business_at g.B.Business.stands g.B.Business.plan g.B.Business.count g.B.Business.part c.loop-number.answering) (business_at g.B.Business.stands g.B.Business.plan g.B.Business.count g.B.Business.part c.serve_next-answer.new.answering) (box_in c.loop-number.life.end) _ (life_at _ _ _ (box_in c.loop-number.life.end)) (life_at _ _ _ (box_in c.serve_next-answer.new.life.end)) _ _ _ _ (c.in-Ok.is ∙ ap Ok c.in-Some.is) c.serve_next-answer.ensures.round)
    (λ xs ys gains first later. more_on (business_at g.B.Business.stands g.B.Business.plan g.B.Business.count g.B.Business.part c.args.answering.now) (business_at g.B.Business.stands g.B.Business.plan g.B.Business.count g.B.Business.part c.loop-number.answering) (box_in c.args.life.now.end) ⊤ (business_at g.B.Business.stands g.B.Business.plan g.B.Business.count g.B.Business.part c.serve_next-answer.new.answering) (box_in c.loop-number.life.end) xs ys gains first later) c.serve_next-answer.ensures.goes_on.ticks in
    (record { over = served.0; blamed = tt }, served.1)

pub returns-in-Err-clause-goes_on : goal.returns-in-Err-clause-goes_on
returns-in-Err-clause-goes_on g c = goes_further (hears g.K.Sink g.N.Dialer g.N.Link.Link g.C.Clock) _ _ _ c.loop-number.invariant.goes c.serve_next-answer.ensures.goes_on

pub returns-in-Err-clause-served : goal.returns-in-Err-clause-served
returns-in-Err-clause-served g c =
    let blamed =
    let was = c.loop-number.invariant in
    blamed_since (faults_in_life (hears g.K.Sink g.N.Dialer g.N.Link.Link g.C.Clock) c.args.life.now) (faults_in_life (hears g.K.Sink g.N.Dialer g.N.Link.Link g.C.Clock) c.loop-number.life) (faults_in_life (hears g.K.Sink g.N.Dialer g.N.Link.Link g.C.Clock) c.serve_next-answer.new.life) c.in-Err.fault
    was.goes.out was.goes.dialer was.goes.looks.faults was.goes.inbox c.serve_next-answer.ensures.goes_on.inbox was.goes.kind c.in-Err.ensures.blamed in
    let served = over_err (λ adds. AnswersMore ⊤ (business_at g.B.Business.stands g.B.Business.plan g.B.Business.count g.B.Business.part c.args.answering.now) (business_at g.B.Business.stands g.B.Business.plan g.B.Business.count g.B.Business.part c.loop-number.answering) (box_in c.args.life.now.end) adds) (λ adds. AnswersMore (IsOfTurn c.in-Err.fault → ⊥) (business_at g.B.Business.stands g.B.Business.plan g.B.Business.count g.B.Business.part c.loop-number.answering) (business_at g.B.Business.stands g.B.Business.plan g.B.Business.count g.B.Business.part c.serve_next-answer.new.answering) (box_in c.loop-number.life.end) adds) (λ adds. AnswersMore (IsOfTurn c.in-Err.fault → ⊥) (business_at g.B.Business.stands g.B.Business.plan g.B.Business.count g.B.Business.part c.args.answering.now) (business_at g.B.Business.stands g.B.Business.plan g.B.Business.count g.B.Business.part c.serve_next-answer.new.answering) (box_in c.args.life.now.end) adds) _ _ _ _ c.in-Err.fault _ (life_at _ _ _ (box_in c.args.life.now.end)) (life_at _ _ _ (box_in c.loop-number.life.end)) (life_at _ _ _ (box_in c.serve_next-answer.new.life.end)) _ _ _ c.loop-number.invariant.lived c.in-Err.ensures.round
    (λ xs ys gains first later. more_on (business_at g.B.Business.stands g.B.Business.plan g.B.Business.count g.B.Business.part c.args.answering.now) (business_at g.B.Business.stands g.B.Business.plan g.B.Business.count g.B.Business.part c.loop-number.answering) (box_in c.args.life.now.end) (IsOfTurn c.in-Err.fault → ⊥) (business_at g.B.Business.stands g.B.Business.plan g.B.Business.count g.B.Business.part c.serve_next-answer.new.answering) (box_in c.loop-number.life.end) xs ys gains first later) c.serve_next-answer.ensures.goes_on.ticks in
    (record { over = served.0; blamed = blamed }, served.1)

pub loop-number-preserved : goal.loop-number-preserved
loop-number-preserved g c =
    let one = c.serve_next-answer.ensures in
    let was = c.loop-number.invariant in
    record {
      may = record { idle = one.idle; begins = one.begins (c.in-Ok.is ∙ ap Ok c.in_default.is) };
      goes = goes_further (hears g.K.Sink g.N.Dialer g.N.Link.Link g.C.Clock) _ _ _ was.goes one.goes_on;
      lived = lived_more (λ adds. AnswersMore ⊤ (business_at g.B.Business.stands g.B.Business.plan g.B.Business.count g.B.Business.part c.args.answering.now) (business_at g.B.Business.stands g.B.Business.plan g.B.Business.count g.B.Business.part c.loop-number.answering) (box_in c.args.life.now.end) adds) (λ adds. AnswersMore ⊤ (business_at g.B.Business.stands g.B.Business.plan g.B.Business.count g.B.Business.part c.loop-number.answering) (business_at g.B.Business.stands g.B.Business.plan g.B.Business.count g.B.Business.part c.serve_next-answer.new.answering) (box_in c.loop-number.life.end) adds) (λ adds. AnswersMore ⊤ (business_at g.B.Business.stands g.B.Business.plan g.B.Business.count g.B.Business.part c.args.answering.now) (business_at g.B.Business.stands g.B.Business.plan g.B.Business.count g.B.Business.part c.serve_next-answer.new.answering) (box_in c.args.life.now.end) adds) _ _ _ _ _ (life_at _ _ _ (box_in c.args.life.now.end)) (life_at _ _ _ (box_in c.loop-number.life.end)) (life_at _ _ _ (box_in c.serve_next-answer.new.life.end)) _ _ _ was.lived
          (round_at _ _ _ _ (business_at g.B.Business.stands g.B.Business.plan g.B.Business.count g.B.Business.part c.loop-number.answering) (business_at g.B.Business.stands g.B.Business.plan g.B.Business.count g.B.Business.part c.serve_next-answer.new.answering) (box_in c.loop-number.life.end) _ (life_at _ _ _ (box_in c.loop-number.life.end)) (life_at _ _ _ (box_in c.serve_next-answer.new.life.end)) _ _ _ _ (c.in-Ok.is ∙ ap Ok c.in_default.is) one.round)
          (λ xs ys gains first later. more_on (business_at g.B.Business.stands g.B.Business.plan g.B.Business.count g.B.Business.part c.args.answering.now) (business_at g.B.Business.stands g.B.Business.plan g.B.Business.count g.B.Business.part c.loop-number.answering) (box_in c.args.life.now.end) ⊤ (business_at g.B.Business.stands g.B.Business.plan g.B.Business.count g.B.Business.part c.serve_next-answer.new.answering) (box_in c.loop-number.life.end) xs ys gains first later);
      has = one.business.0;
      same = (one.business.1 ∙ was.same.0, one.business.2 ∙ was.same.1);
    }
