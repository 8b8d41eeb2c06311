use Rattle.std.proofs.Common.{sym, ap, ◌∙◌, rules}
use Rattle.std.proofs.lemmas.Bool.{false≢true}
use Rattle.conn_lines.specs.Lines.{deliver_line}
use Rattle.conn_tail.proofs.Delivers.{no_word, no_payload, not_written, is_deliver}
use Rattle.conn_tail.proofs.line.number_of.Goals as goal

pub returns-in_default-clause-none : goal.returns-in_default-clause-none
returns-in_default-clause-none c = no_word c.args.line.now c.in_default.ensures.none

pub returns-in_default-2-clause-none : goal.returns-in_default-2-clause-none
returns-in_default-2-clause-none c =
    no_payload c.args.line.now c.in-Some.behind.now c.in-Some-number_before.digits.now c.in-Some-number_before.number c.in-Some.ensures.found c.in-Some-number_before.ensures.only
    (rw c.in_default-2.is at c.in_ok-payload.ensures.none)

pub returns-then-branch-clause-found : goal.returns-then-branch-clause-found
returns-then-branch-clause-found c =
    is_deliver c.args.line.now c.in-Some-number_before.digits.now c.in-Some-2.payload.items c.as_slice.result.now c.in-Some-number_before.number
    (search rules) (rw c.in-Some-2.is at c.in_ok-payload.ensures.short) (rw c.in-Some-2.is at c.in_ok-payload.ensures.found) c.as_slice.ensures.value
    (c.in_ok-is_written.ensures.0 c.if-branch.true)

pub returns-clause-none : goal.returns-clause-none
returns-clause-none c =
    not_written c.args.line.now c.in-Some.behind.now c.in-Some-number_before.digits.now c.in-Some-2.payload.items c.in-Some-number_before.number c.in-Some.ensures.found
    c.in-Some-number_before.ensures.only (rw c.in-Some-2.is at c.in_ok-payload.ensures.found)
    (λ w. false≢true (sym c.if-branch.false ∙ c.in_ok-is_written.ensures.1 (w ∙ ap (deliver_line c.in-Some-number_before.number) (sym c.as_slice.ensures.value))))
