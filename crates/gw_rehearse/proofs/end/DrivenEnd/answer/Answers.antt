use Rattle.std.proofs.Common.{inl, inr, refl, sym, ◌∙◌, subst}
use Rattle.gate_turn.proofs.Histories.{begins_self}
use Rattle.gw_rehearse.specs.Driven.{IsAnswered}
use Rattle.gw_rehearse.proofs.Driving.{answered_stands, given_follows, refused_follows, staff_kept}
use Rattle.gw_rehearse.proofs.end.DrivenEnd.answer.Goals as goal

pub returns-then-has_failed-clause-answered : goal.returns-then-has_failed-clause-answered
returns-then-has_failed-clause-answered g c = record { same = refl; seen = begins_self _; stands = inl refl }

pub returns-then-is_given_up-clause-answered : goal.returns-then-is_given_up-clause-answered
returns-then-is_given_up-clause-answered g c = record { same = refl; seen = begins_self _; stands = inl refl }

pub returns-in_default-clause-answered : goal.returns-in_default-clause-answered
returns-in_default-clause-answered g c = record {
  same = refl;
  seen = begins_self _;
  stands = given_follows c.args.self.now.standing (sym c.has_failed.ensures ∙ c.if-has_failed.false) (sym c.is_given_up.ensures ∙ c.if-is_given_up.false);
}

pub returns-then-len-gt-ANSWERED-clause-answered : goal.returns-then-len-gt-ANSWERED-clause-answered
returns-then-len-gt-ANSWERED-clause-answered g c = record {
  same = refl;
  seen = begins_self _;
  stands = given_follows c.args.self.now.standing (sym c.has_failed.ensures ∙ c.if-has_failed.false) (sym c.is_given_up.ensures ∙ c.if-is_given_up.false);
}

pub returns-clause-answered : goal.returns-clause-answered
returns-clause-answered g c = record {
  same = refl;
  seen = begins_self _;
  stands = refused_follows c.args.self.now.standing c.refused-self.result c.answer-answer.result c.refused-self.ensures (sym c.has_failed.ensures ∙ c.if-has_failed.false) (sym c.is_given_up.ensures ∙ c.if-is_given_up.false);
}

pub returns-clause-driven : goal.returns-clause-driven
returns-clause-driven g c =
    let e = c.args.self.now in
    let h = c.requires.driven in
    let came = c.answer-answer in (
      staff_kept e.gate e.staff came.new.self e.pass e.pass h.0 came.ensures.seated came.ensures.count h.0.own h.0.free refl refl,
      answered_stands e.standing c.refused-self.result _ _ _ _
          (refused_follows e.standing c.refused-self.result c.answer-answer.result c.refused-self.ensures (sym c.has_failed.ensures ∙ c.if-has_failed.false) (sym c.is_given_up.ensures ∙ c.if-is_given_up.false)) h.1,
    )
