use Rattle.std.proofs.Common.{drop, take, refl, ap, subst, ◌∙◌}
use Rattle.std.specs.Option.{option_map}
use Rattle.std.specs.Io.KnownBytes.{Appends}
use Rattle.gw_outside.specs.Faults.{TakesFront}
use Rattle.conn_out.specs.Messages.{messages_in, deliver_lines, IsPlaceBehind}
use Rattle.conn_out.proofs.GoingOn.{told_on, begun_on, cut_on, kept_on, any_err}
use Rattle.conn_out.proofs.going_on.go_on.Goals as goal

pub returns-in_err-tail-clause-err : goal.returns-in_err-tail-clause-err
returns-in_err-tail-clause-err g c = any_err c.from_residual.result (λ content h k is told st rising are projects.
    kept_on (g.A.Sink.taken c.args.out.now) (g.A.Sink.taken c.cut_out.new.out) content k (messages_in h) is c.in_err-tail.ensures.err projects)

pub returns-in_err-from-clause-err : goal.returns-in_err-from-clause-err
returns-in_err-from-clause-err g c = any_err c.from_residual-in_err-from.result (λ content h k is told st rising are projects.
    let tail = rw c.in-Some.is at c.in_ok-tail.ensures.tail in
    let cut = rw c.in-Some.is at c.in_ok-tail.ensures.cut in
    cut_on content c.in-Some.tail.whole c.in-Some.tail.last (tail content is) k (messages_in h) projects (g.A.Sink.taken c.cut_out.new.out)
    (g.A.Sink.taken c.cut_out.new.out)
    (cut ∙ ap (option_map (take c.in-Some.tail.whole)) is) refl)

pub returns-in_err-tell_from-clause-err : goal.returns-in_err-tell_from-clause-err
returns-in_err-tell_from-clause-err g c = any_err c.from_residual-in_err-tell_from.result (λ content h k is told st rising are projects.
    let tail = rw c.in-Some.is at c.in_ok-tail.ensures.tail in
    let cut = rw c.in-Some.is at c.in_ok-tail.ensures.cut in
    let from = c.in_ok-from.from in
    let new = g.A.Sink.taken c.tell_from.new.out in
    begun_on content c.in-Some.tail.whole c.in-Some.tail.last (tail content is) h k from rising are projects
    (subst (IsPlaceBehind h from) c.number_of-last.ensures (c.in_ok-from.ensures.behind h told st)) new
    (subst (λ old. TakesFront old new (deliver_lines (messages_in (drop from h)))) (cut ∙ ap (option_map (take c.in-Some.tail.whole)) is)
    (c.in_err-tell_from.ensures.err h (c.in_ok-from.ensures.told told) ((c.in_ok-from.ensures.unchanged.records h).0 st))))

pub returns-clause-projects : goal.returns-clause-projects
returns-clause-projects g c = λ content h k is told st rising are projects.
    let tail = rw c.in-Some.is at c.in_ok-tail.ensures.tail in
    let cut = rw c.in-Some.is at c.in_ok-tail.ensures.cut in
    let from = c.in_ok-from.from in
    let new = g.A.Sink.taken c.tell_from.new.out in
    told_on content c.in-Some.tail.whole c.in-Some.tail.last (tail content is) h k from rising are projects
    (subst (IsPlaceBehind h from) c.number_of-last.ensures (c.in_ok-from.ensures.behind h told st)) new
    (subst (λ old. Appends old new (deliver_lines (messages_in (drop from h)))) (cut ∙ ap (option_map (take c.in-Some.tail.whole)) is)
    (c.in_ok-tell_from.ensures.ok h (c.in_ok-from.ensures.told told) ((c.in_ok-from.ensures.unchanged.records h).0 st)))

pub returns-clause-last : goal.returns-clause-last
returns-clause-last g c = λ content is.
    let tail = rw c.in-Some.is at c.in_ok-tail.ensures.tail in
    record { whole = c.in-Some.tail.whole; last = c.in-Some.tail.last; tail = tail content is; is = c.number_of-last.ensures }
