use Rattle.std.proofs.Common.{◌*◌, inl, refl, sym, ap, ◌∙◌, true≢false}
use Rattle.gate_turn.specs.Places.{known}
use Rattle.gate_turn.proofs.Histories.{begins_self}
use Rattle.conn_loop.specs.Conn.{line_of}
use Rattle.gw_rehearse.specs.declared.end.DrivenEnd.{DrivenEnd}
use Rattle.gw_rehearse.specs.Standing.{is_failed, is_given, marked_by}
use Rattle.gw_rehearse.proofs.Driving.{answered_stands, marked_follows, marked_seen}
use Rattle.gw_rehearse.proofs.end.DrivenEnd.see_end.Goals as goal

pub returns-then-has_failed-clause-answered : goal.returns-then-has_failed-clause-answered
returns-then-has_failed-clause-answered g c = record { same = refl; seen = begins_self _; stands = inl refl }

pub returns-then-has_failed-clause-sees : goal.returns-then-has_failed-clause-sees
returns-then-has_failed-clause-sees g c = λ given failed. absurd (true≢false (sym (sym c.has_failed.ensures ∙ c.if-has_failed.true) ∙ failed))

pub returns-then-is_given_up-clause-answered : goal.returns-then-is_given_up-clause-answered
returns-then-is_given_up-clause-answered g c = record { same = refl; seen = begins_self _; stands = inl refl }

pub returns-then-is_given_up-clause-sees : goal.returns-then-is_given_up-clause-sees
returns-then-is_given_up-clause-sees g c = λ given failed. absurd (true≢false (sym (sym c.is_given_up.ensures ∙ c.if-is_given_up.true) ∙ given))

pub returns-then-is_none-clause-answered : goal.returns-then-is_none-clause-answered
returns-then-is_none-clause-answered g c = record { same = refl; seen = begins_self _; stands = inl refl }

pub returns-then-not-only_answers-clause-answered : goal.returns-then-not-only_answers-clause-answered
returns-then-not-only_answers-clause-answered g c = record { same = refl; seen = begins_self _; stands = inl refl }

pub returns-then-not-only_answers-clause-sees : goal.returns-then-not-only_answers-clause-sees
returns-then-not-only_answers-clause-sees g c = λ given failed answers some. absurd (true≢false (sym answers ∙ (sym c.only_answers.ensures ∙ c.if-not-only_answers.true)))

pub returns-clause-answered : goal.returns-clause-answered
returns-clause-answered g c =
    let e = c.args.self.now in
    let new = c.see_mark-answer.new.self in
    let same = c.see_mark-answer.ensures.same in
    record {
      same = ap (λ (x : DrivenEnd). record x { standing = c.marked-self.result }) same
          ∙ (ap (λ s. record e { staff = s; pass = new.pass; standing = c.marked-self.result }) (sym (ap (λ (x : DrivenEnd). x.staff) same))
          ∙ ap (λ n. record e { staff = new.staff; pass = new.pass; news = n; standing = c.marked-self.result }) (sym (ap (λ (x : DrivenEnd). x.news) same)));
      seen = c.see_mark-answer.ensures.seen;
      stands = marked_follows e.standing c.marked-self.result c.see_mark-answer.result
          (c.marked-self.ensures ∙ ap (λ (x : DrivenEnd). marked_by x.standing c.see_mark-answer.result) c.see_mark-answer.ensures.same)
          (sym c.has_failed.ensures ∙ c.if-has_failed.false) (sym c.is_given_up.ensures ∙ c.if-is_given_up.false);
    }

pub returns-clause-driven : goal.returns-clause-driven
returns-clause-driven g c =
    let e = c.args.self.now in
    let k = c.see_mark-answer in (
      k.ensures.driven.0,
      answered_stands k.new.self.standing c.marked-self.result _ _ _ _
          (marked_follows k.new.self.standing c.marked-self.result k.result c.marked-self.ensures
          (ap (λ (x : DrivenEnd). is_failed x.standing) k.ensures.same ∙ (sym c.has_failed.ensures ∙ c.if-has_failed.false))
          (ap (λ (x : DrivenEnd). is_given x.standing) k.ensures.same ∙ (sym c.is_given_up.ensures ∙ c.if-is_given_up.false))) k.ensures.driven.1,
    )

pub returns-clause-sees : goal.returns-clause-sees
returns-clause-sees g c = λ given failed answers some.
    marked_seen _ c.marked-self.result c.see_mark-answer.result _ c.marked-self.ensures c.see_mark-answer.ensures.marked c.see_mark-answer.ensures.stood given failed
