-- Plans that are continued, and histories.
use Rattle.std.proofs.Common.{◌++◌, length, drop, sym, ap, subst, ◌∙◌, true≢false}
use mathlib.Core.List.{IsPrefix}
use Rattle.session_model.specs.Laws.{PlanGoesOn, PlanCompletes, HistoriesGoOn, RecordsBeginHistory}
use Rattle.session_model.proofs.Journals.{prefix_entries}
use Rattle.session_model.proofs.Lists.{prefix_trans, prefix_continued, drop_length}

pub plan_goes_on : PlanGoesOn
plan_goes_on plan before after begun c = subst (λ ps. IsPrefix ps plan) (sym c.behind) (prefix_continued before c.more plan begun c.planned)

pub plan_completes : PlanCompletes
plan_completes plan before after begun c =
    c.behind ∙ (ap (λ ps. before ++ drop (length before) ps) (sym begun.1) ∙ (ap (λ ps. before ++ ps) (drop_length before begun.0) ∙ begun.1))

pub histories_go_on : HistoriesGoOn
histories_go_on first second third p q = record {
  made = prefix_trans first.made second.made third.made p.made q.made;
  alone = λ marked. p.alone marked ∙ q.alone (ap (λ h. h.finished) (sym (p.alone marked)) ∙ marked);
}

pub records_begin_history : RecordsBeginHistory
records_begin_history first second p open_still = record { made = prefix_entries first second p; alone = λ marked. absurd (true≢false (sym marked ∙ open_still)) }
