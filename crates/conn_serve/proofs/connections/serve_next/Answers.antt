use Rattle.std.proofs.Common.{◌≡◌, ◌≤◌, is_some, inl, inr, [], Ok, sym, ap, subst, ◌∙◌, arith}
use Rattle.std.specs.Bool.{⊤}
use Rattle.fixp_machine.specs.Machine.{phase_of}
use Rattle.conn_loop.specs.Ends.{line_in, pass_in, box_in}
use Rattle.conn_loop.proofs.Lasting.{stays_self}
use Rattle.conn_serve.specs.Lives.{machine_in}
use Rattle.conn_serve.specs.Answers.{IsOfTurn, end_behind}
use Rattle.conn_serve.specs.Answering.{business_at, AnswersMore, AnsweredEach}
use Rattle.conn_serve.specs.Served.{IsNext}
use Rattle.conn_serve.proofs.Upto.{more_none, more_weaker, round_at}
use Rattle.conn_serve.proofs.Living.{back_to, may_begin, made_none, round_none, lost_at, ended_one, gave_one, round_lacking, round_ended, round_given}
use Rattle.conn_serve.specs.Hears.{hears}
use Rattle.conn_serve.specs.Moments.{life_at}
use Rattle.conn_serve.proofs.Lasting.{goes_by}
use Rattle.conn_serve.proofs.connections.serve_next.Goals as goal

pub returns-in-Err-answer-clause-round : goal.returns-in-Err-answer-clause-round
returns-in-Err-answer-clause-round g c =
    round_given _ c.args.number (life_at _ _ _ (box_in c.args.life.now.end)) (life_at _ _ _ (box_in c.one_connection-answer.new.life.end)) _ _ c.in-Err-answer.fault c.in-Err-answer.ensures.blamed.1
    (gave_one (λ adds. AnswersMore (IsOfTurn c.in-Err-answer.fault → ⊥) (business_at g.B.Business.stands g.B.Business.plan g.B.Business.count g.B.Business.part c.args.answering.now) (business_at g.B.Business.stands g.B.Business.plan g.B.Business.count g.B.Business.part c.one_connection-answer.new.answering) (box_in c.args.life.now.end) adds) g.N.Link.Link c.in-Ok-Some.link c.one_connection-answer.new.link _ _ _ _ _ _ _ _ _ _ (line_in c.args.life.now.end) (line_in c.one_connection-answer.new.life.end) (box_in c.args.life.now.end) (box_in c.one_connection-answer.new.life.end) c.args.life.now.end.conn.number (subst (λ o. IsNext g.N.Link.Link.carried (g.N.Dialer.told c.args.life.now.dialer) (g.N.Dialer.told c.next_link.new.dialer) (Ok o)) c.in-Ok-Some.field-0-is c.in-Ok-Some.ensures.next)
    c.in-Err-answer.ensures.given_up (back_to g.N.Dialer.told _ _ _ _ c.back.ensures.told c.one_connection-answer.ensures.stays.1))

pub returns-in-Ok-None-clause-round : goal.returns-in-Ok-None-clause-round
returns-in-Ok-None-clause-round g c = inr (made_none _ _ _ _ _ (box_in c.args.life.now.end) (subst (λ o. IsNext g.N.Link.Link.carried (g.N.Dialer.told c.args.life.now.dialer) (g.N.Dialer.told c.next_link.new.dialer) (Ok o)) c.in-Ok-None.field-0-is c.in-Ok-None.ensures.next), more_none (business_at g.B.Business.stands g.B.Business.plan g.B.Business.count g.B.Business.part c.args.answering.now) (business_at g.B.Business.stands g.B.Business.plan g.B.Business.count g.B.Business.part c.args.answering.now) (box_in c.args.life.now.end))

pub returns-in-Err-clause-round : goal.returns-in-Err-clause-round
returns-in-Err-clause-round g c =
    round_none _ g.N.Link.Link.carried _ c.args.number _ _ _ _ _ (box_in c.args.life.now.end) c.in-Err.fault c.in-Err.ensures.next (λ phase e. c.in-Err.ensures.phase phase e ∙ ap phase_of c.end.ensures)
    (more_weaker (business_at g.B.Business.stands g.B.Business.plan g.B.Business.count g.B.Business.part c.args.answering.now) (business_at g.B.Business.stands g.B.Business.plan g.B.Business.count g.B.Business.part c.args.answering.now) (box_in c.args.life.now.end) ⊤ (IsOfTurn c.in-Err.fault → ⊥) [] (λ _. tt) (more_none (business_at g.B.Business.stands g.B.Business.plan g.B.Business.count g.B.Business.part c.args.answering.now) (business_at g.B.Business.stands g.B.Business.plan g.B.Business.count g.B.Business.part c.args.answering.now) (box_in c.args.life.now.end)))

pub returns-in_default-clause-round : goal.returns-in_default-clause-round
returns-in_default-clause-round g c =
    inl
    (gave_one (λ adds. AnswersMore ⊤ (business_at g.B.Business.stands g.B.Business.plan g.B.Business.count g.B.Business.part c.args.answering.now) (business_at g.B.Business.stands g.B.Business.plan g.B.Business.count g.B.Business.part c.one_connection-answer.new.answering) (box_in c.args.life.now.end) adds) g.N.Link.Link c.in-Ok-Some.link c.one_connection-answer.new.link _ _ _ _ _ _ _ _ _ _ (line_in c.args.life.now.end) (line_in c.one_connection-answer.new.life.end) (box_in c.args.life.now.end) (box_in c.one_connection-answer.new.life.end) c.args.life.now.end.conn.number (subst (λ o. IsNext g.N.Link.Link.carried (g.N.Dialer.told c.args.life.now.dialer) (g.N.Dialer.told c.next_link.new.dialer) (Ok o)) c.in-Ok-Some.field-0-is c.in-Ok-Some.ensures.next)
    (c.one_connection-answer.ensures.stopped (c.in-Ok.is ∙ ap Ok c.in_default.is)) (back_to g.N.Dialer.told _ _ _ _ c.back.ensures.told c.one_connection-answer.ensures.stays.1))

pub returns-in-Err-tell_close-clause-round : goal.returns-in-Err-tell_close-clause-round
returns-in-Err-tell_close-clause-round g c =
    let one = c.one_connection-answer.ensures in
    let is = c.in-Ok.is ∙ ap Ok c.in-Some.is in
    round_lacking _ c.args.number (life_at _ _ _ (box_in c.args.life.now.end)) (life_at _ _ _ (box_in c.one_connection-answer.new.life.end)) _ _ c.in-Some.close c.in-Err-tell_close.fault _ c.in-Err-tell_close.ensures.cause
    (ended_one (λ adds. AnswersMore (IsOfTurn c.in-Err-tell_close.fault → ⊥) (business_at g.B.Business.stands g.B.Business.plan g.B.Business.count g.B.Business.part c.args.answering.now) (business_at g.B.Business.stands g.B.Business.plan g.B.Business.count g.B.Business.part c.one_connection-answer.new.answering) (box_in c.args.life.now.end) adds) g.N.Link.Link c.in-Ok-Some.link c.one_connection-answer.new.link c.args.number _ _ _ _ _ _ _ _ _ _ _ (line_in c.args.life.now.end) (line_in c.one_connection-answer.new.life.end) (box_in c.args.life.now.end) (box_in c.one_connection-answer.new.life.end) c.in-Some.close c.args.life.now.end.conn.number
    (subst (λ o. IsNext g.N.Link.Link.carried (g.N.Dialer.told c.args.life.now.dialer) (g.N.Dialer.told c.next_link.new.dialer) (Ok o)) c.in-Ok-Some.field-0-is c.in-Ok-Some.ensures.next) ((one.turned c.in-Some.close is).0, more_weaker (business_at g.B.Business.stands g.B.Business.plan g.B.Business.count g.B.Business.part c.args.answering.now) (business_at g.B.Business.stands g.B.Business.plan g.B.Business.count g.B.Business.part c.one_connection-answer.new.answering) (box_in c.args.life.now.end) ⊤ (IsOfTurn c.in-Err-tell_close.fault → ⊥) (one.turned c.in-Some.close is).0.turned.adds (λ _. tt) (one.turned c.in-Some.close is).1) (back_to g.N.Dialer.told _ _ _ _ c.back.ensures.told c.one_connection-answer.ensures.stays.1) ((one.closed c.in-Some.close is).0) (lost_at _ c.in-Some.close c.one_connection-answer.result is one.lost) c.in-Err-tell_close.ensures.front)

pub returns-clause-round : goal.returns-clause-round
returns-clause-round g c =
    let one = c.one_connection-answer.ensures in
    let is = c.in-Ok.is ∙ ap Ok c.in-Some.is in
    round_at _ _ _ _ (business_at g.B.Business.stands g.B.Business.plan g.B.Business.count g.B.Business.part c.args.answering.now) (business_at g.B.Business.stands g.B.Business.plan g.B.Business.count g.B.Business.part c.one_connection-answer.new.answering) (box_in c.args.life.now.end) c.args.number (life_at _ _ _ (box_in c.args.life.now.end)) (life_at _ _ _ (box_in c.one_connection-answer.new.life.end)) _ _ _ _ (sym c.end_behind.ensures)
    (round_ended _ c.args.number (life_at _ _ _ (box_in c.args.life.now.end)) (life_at _ _ _ (box_in c.one_connection-answer.new.life.end)) _ _ c.in-Some.close
    (ended_one (λ adds. AnswersMore (AnsweredEach (end_behind c.in-Some.close)) (business_at g.B.Business.stands g.B.Business.plan g.B.Business.count g.B.Business.part c.args.answering.now) (business_at g.B.Business.stands g.B.Business.plan g.B.Business.count g.B.Business.part c.one_connection-answer.new.answering) (box_in c.args.life.now.end) adds) g.N.Link.Link c.in-Ok-Some.link c.one_connection-answer.new.link c.args.number _ _ _ _ _ _ _ _ _ _ _ (line_in c.args.life.now.end) (line_in c.one_connection-answer.new.life.end) (box_in c.args.life.now.end) (box_in c.one_connection-answer.new.life.end) c.in-Some.close c.args.life.now.end.conn.number
    (subst (λ o. IsNext g.N.Link.Link.carried (g.N.Dialer.told c.args.life.now.dialer) (g.N.Dialer.told c.next_link.new.dialer) (Ok o)) c.in-Ok-Some.field-0-is c.in-Ok-Some.ensures.next) ((one.turned c.in-Some.close is).0, more_weaker (business_at g.B.Business.stands g.B.Business.plan g.B.Business.count g.B.Business.part c.args.answering.now) (business_at g.B.Business.stands g.B.Business.plan g.B.Business.count g.B.Business.part c.one_connection-answer.new.answering) (box_in c.args.life.now.end) ⊤ (AnsweredEach (end_behind c.in-Some.close)) (one.turned c.in-Some.close is).0.turned.adds (λ _. tt) (one.turned c.in-Some.close is).1) (back_to g.N.Dialer.told _ _ _ _ c.back.ensures.told c.one_connection-answer.ensures.stays.1) ((one.closed c.in-Some.close is).0) (lost_at _ c.in-Some.close c.one_connection-answer.result is one.lost) c.in_default-tell_close.ensures.told))

pub returns-clause-begins : goal.returns-clause-begins
returns-clause-begins g c = λ e.
    let one = c.one_connection-answer.ensures in
    let is = c.in-Ok.is ∙ ap Ok c.in-Some.is in
    may_begin c.in-Some.close (machine_in c.one_connection-answer.new.life) (pass_in c.one_connection-answer.new.life.end) (box_in c.one_connection-answer.new.life.end) ((one.closed c.in-Some.close is).0) ((one.closed c.in-Some.close is).1)

pub back-requires : goal.back-requires
back-requires g c = ap g.N.Dialer.lent c.one_connection-answer.ensures.stays.1 ∙ subst (λ o. g.N.Dialer.lent c.next_link.new.dialer ≡ is_some o) c.in-Ok-Some.field-0-is c.in-Ok-Some.ensures.lent

pub returns-in-Ok-None-clause-goes_on : goal.returns-in-Ok-None-clause-goes_on
returns-in-Ok-None-clause-goes_on g c =
    let out : g.K.Sink.faults c.args.life.now.out ≤ g.K.Sink.faults c.args.life.now.out = omega arith in
    goes_by (hears g.K.Sink g.N.Dialer g.N.Link.Link g.C.Clock) c.args.life.now _ (stays_self g.C.Clock c.args.life.now.end) out c.next_link.ensures.never_falls

pub returns-in-Err-clause-goes_on : goal.returns-in-Err-clause-goes_on
returns-in-Err-clause-goes_on g c =
    let out : g.K.Sink.faults c.args.life.now.out ≤ g.K.Sink.faults c.args.life.now.out = omega arith in
    goes_by (hears g.K.Sink g.N.Dialer g.N.Link.Link g.C.Clock) c.args.life.now _ (stays_self g.C.Clock c.args.life.now.end) out c.next_link.ensures.never_falls

pub returns-in-Err-answer-clause-goes_on : goal.returns-in-Err-answer-clause-goes_on
returns-in-Err-answer-clause-goes_on g c =
    let one = c.one_connection-answer.ensures in
    let dials : g.N.Dialer.faults c.args.life.now.dialer ≤ g.N.Dialer.faults c.back.new.self = omega (arith, c.next_link.ensures.never_falls, ap g.N.Dialer.faults one.stays.1, c.back.ensures.faults) in
    goes_by (hears g.K.Sink g.N.Dialer g.N.Link.Link g.C.Clock) c.args.life.now _ one.stays.0 one.counts.0 dials

pub returns-in_default-clause-goes_on : goal.returns-in_default-clause-goes_on
returns-in_default-clause-goes_on g c =
    let one = c.one_connection-answer.ensures in
    let dials : g.N.Dialer.faults c.args.life.now.dialer ≤ g.N.Dialer.faults c.back.new.self = omega (arith, c.next_link.ensures.never_falls, ap g.N.Dialer.faults one.stays.1, c.back.ensures.faults) in
    goes_by (hears g.K.Sink g.N.Dialer g.N.Link.Link g.C.Clock) c.args.life.now _ one.stays.0 one.counts.0 dials

pub returns-in-Err-tell_close-clause-goes_on : goal.returns-in-Err-tell_close-clause-goes_on
returns-in-Err-tell_close-clause-goes_on g c =
    let one = c.one_connection-answer.ensures in
    let out : g.K.Sink.faults c.args.life.now.out ≤ g.K.Sink.faults c.tell_close.new.out = omega (arith, one.counts.0, c.tell_close.ensures.never_falls) in
    let dials : g.N.Dialer.faults c.args.life.now.dialer ≤ g.N.Dialer.faults c.back.new.self = omega (arith, c.next_link.ensures.never_falls, ap g.N.Dialer.faults one.stays.1, c.back.ensures.faults) in
    goes_by (hears g.K.Sink g.N.Dialer g.N.Link.Link g.C.Clock) c.args.life.now _ one.stays.0 out dials

pub returns-clause-goes_on : goal.returns-clause-goes_on
returns-clause-goes_on g c =
    let one = c.one_connection-answer.ensures in
    let out : g.K.Sink.faults c.args.life.now.out ≤ g.K.Sink.faults c.tell_close.new.out = omega (arith, one.counts.0, c.tell_close.ensures.never_falls) in
    let dials : g.N.Dialer.faults c.args.life.now.dialer ≤ g.N.Dialer.faults c.back.new.self = omega (arith, c.next_link.ensures.never_falls, ap g.N.Dialer.faults one.stays.1, c.back.ensures.faults) in
    goes_by (hears g.K.Sink g.N.Dialer g.N.Link.Link g.C.Clock) c.args.life.now _ one.stays.0 out dials
