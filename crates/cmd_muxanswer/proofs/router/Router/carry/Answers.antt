use Rattle.std.proofs.Common.{ℕ, ◌<◌, refl, subst, sym}
use Rattle.cmd_muxanswer.proofs.Routing.{holds_none, holds_either, open_either, on_ok_is, usable_at}
use Rattle.cmd_muxanswer.proofs.router.Router.carry.Goals as goal

pub returns-in_default-clause-carried : goal.returns-in_default-clause-carried
returns-in_default-clause-carried c = λ sessions frames wire out said holds. holds_none sessions frames wire out c.args.self.now _ holds c.in_default.is said

pub returns-clause-open : goal.returns-clause-open
returns-clause-open c =
    open_either c.args.self.now _ _ c.in-Some.place c.index_mut.result.now c.answer.new.self c.requires.open
    (subst (λ (n : ℕ). c.in-Some.place < n) (sym c.requires.open.seats) (rw c.in-Some.is at c.requires.open.named)) c.index_mut.ensures.value c.answer.ensures.over (λ going. on_ok_is c.answer.result c.in_ok-answer.field-0 c.in_ok-answer.was (c.answer.ensures.going going)) refl refl refl

pub returns-clause-carried : goal.returns-clause-carried
returns-clause-carried c = λ sessions frames wire out said holds.
    holds_either sessions frames wire out c.args.self.now _ _ c.in-Some.place c.index_mut.result.now c.answer.new.self holds c.in-Some.is said
    (subst (λ (n : ℕ). c.in-Some.place < n) (sym c.requires.open.seats) (rw c.in-Some.is at c.requires.open.named)) c.index_mut.ensures.value c.answer.ensures.over (λ going. on_ok_is c.answer.result c.in_ok-answer.field-0 c.in_ok-answer.was (c.answer.ensures.going going)) refl refl refl

pub answer-requires-clause-usable : goal.answer-requires-clause-usable
answer-requires-clause-usable c =
    usable_at c.args.self.now c.in-Some.place c.index_mut.result.now c.requires.open
    (subst (λ (n : ℕ). c.in-Some.place < n) (sym c.requires.open.seats) (rw c.in-Some.is at c.requires.open.named)) c.index_mut.ensures.value
