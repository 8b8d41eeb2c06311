use Rattle.std.proofs.Common.{sym, subst, Err, inr, refl, arith}
use Rattle.std.proofs.KnownBytes.{Appends-nil}
use Rattle.fixp_machine.specs.Machine.{fresh}
use Rattle.gate_turn.specs.Calls.{IsFree}
use Rattle.gate_senders.specs.Gate.{opening_of}
use Rattle.conn_steps.specs.Settling.{SameKind}
use Rattle.conn_steps.proofs.Inboxes.{kind_self}
use Rattle.conn_door.specs.declared.answer.ServeFault.TheVariants as faults
use Rattle.conn_serve.specs.Hears.{hears}
use Rattle.conn_serve.specs.Opening.{opened_state}
use Rattle.conn_serve.specs.Lives.{ComesBack, ServedWith}
use Rattle.conn_serve.proofs.Lending.{lent_on, goes_lasts, all_back, served_with, unused, unserved_over}
use Rattle.conn_feed.specs.declared.end.FeedEnd.TheVariants as ends
use Rattle.conn_feed.specs.Fed.{parts_of}
use Rattle.conn_feed.specs.Course.{point_of}
use Rattle.conn_feed.proofs.Nothing.{none_fed}
use Rattle.conn_fed.proofs.serving.feed_lent.Goals as goal

pub returns-in-Err-clause-comes_back : goal.returns-in-Err-clause-comes_back
returns-in-Err-clause-comes_back g c =
    let heard = hears g.K.Sink g.N.Dialer g.N.Link.Link g.C.Clock in
    subst (λ l. ComesBack heard c.args.opening.gate.now c.args.lent l) (sym c.in-Err.ensures.back) (unused heard c.args.opening.gate.now c.args.opening.config c.args.opening.most c.args.lent c.requires.may)

pub returns-in-Err-clause-kind : goal.returns-in-Err-clause-kind
returns-in-Err-clause-kind g c = subst (λ l. SameKind c.args.lent.inbox l.inbox) (sym c.in-Err.ensures.back) (kind_self c.args.lent.inbox)

pub returns-in-Err-clause-served : goal.returns-in-Err-clause-served
returns-in-Err-clause-served g c =
    let heard = hears g.K.Sink g.N.Dialer g.N.Link.Link g.C.Clock in
    subst (λ l. ServedWith g.O.Journal.tells heard c.args.lent l (fresh c.args.opening.config (opened_state (opening_of c.args.opening.gate.now).history c.args.lent.inbox) c.args.opening.most) (Err faults.Memory)) (sym c.in-Err.ensures.back) (unserved_over heard g.O.Journal.tells c.args.lent _)

pub returns-in-Err-clause-fed : goal.returns-in-Err-clause-fed
returns-in-Err-clause-fed g c =
    let f = c.args.feeder.now in
    let none = none_fed (parts_of f.senders.items) (g.A.Sink.taken f.accepted) (g.S.Source.left c.args.input.now) ends.Memory (inr refl) in
    record {
      fed = point_of g.A.Sink.taken f;
      from = record {
        counted = point_of g.A.Sink.taken f;
        same = refl;
        feeding = none.0;
        counts = inr (record {
          front = record { count = 0; within = omega arith; appended = Appends-nil (g.A.Sink.taken f.accepted) };
          read_none = none.1;
          why = inr refl;
        });
      };
      marked = inr (refl, refl, λ e. cc e);
      taken = refl;
    }

pub returns-clause-comes_back : goal.returns-clause-comes_back
returns-clause-comes_back g c =
    let heard = hears g.K.Sink g.N.Dialer g.N.Link.Link g.C.Clock in
    let fed = c.serve_feeding-fed in
    let gate = c.args.opening.gate.now in
    lent_on (λ x y m. ComesBack heard gate x y) c.args.lent c.end.result c.in-Ok.life fed.new.life _ c.in-Ok.ensures.lent c.in-Ok.ensures.machine c.end.ensures.lent
    (all_back heard gate c.in-Ok.life fed.new.life (subst (λ l. IsFree l.pass) c.end.ensures.lent c.end.ensures.free) fed.ensures.idle (goes_lasts heard c.in-Ok.life fed.new.life fed.ensures.goes_on))

pub returns-clause-kind : goal.returns-clause-kind
returns-clause-kind g c =
    lent_on (λ x y m. SameKind x.inbox y.inbox) c.args.lent c.end.result c.in-Ok.life c.serve_feeding-fed.new.life _ c.in-Ok.ensures.lent c.in-Ok.ensures.machine c.end.ensures.lent c.serve_feeding-fed.ensures.goes_on.kind

pub returns-clause-served : goal.returns-clause-served
returns-clause-served g c =
    let heard = hears g.K.Sink g.N.Dialer g.N.Link.Link g.C.Clock in
    let fed = c.serve_feeding-fed in
    lent_on (λ x y m. ServedWith g.O.Journal.tells heard x y m fed.result.connections) c.args.lent c.end.result c.in-Ok.life fed.new.life _
    c.in-Ok.ensures.lent c.in-Ok.ensures.machine c.end.ensures.lent (served_with heard g.O.Journal.tells c.in-Ok.life fed.new.life fed.result.connections fed.ensures.served)
