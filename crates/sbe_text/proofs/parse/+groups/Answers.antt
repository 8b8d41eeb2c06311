use Rattle.std.proofs.Common.{◌≡◌, ◌∙◌, ◌++◌, ◌∷◌, [], ℕ, Ok, List, length, take, ap, sym, subst, rules, arith}
use Rattle.std.proofs.lemmas.Grind.{common_steps}
use Rattle.std.proofs.lemmas.Result.{err_from_is_err_and}
use Rattle.sbe_layout.specs.Views.{head_of}
use Rattle.sbe_text.specs.Answers.{Fails, entry_of}
use Rattle.sbe_text.specs.Written.{before_in}
use Rattle.text_words.specs.Lines.{lines_in}
use Rattle.sbe_text.specs.Reading.{read_elements, read_groups, entry_at}
use Rattle.sbe_text.proofs.Made.{groups_step, groups_fail, groups_end, entries_step, entries_fail, entries_end}
use Rattle.sbe_text.proofs.Walked.{names_in, opened_again}
use Rattle.sbe_text.proofs.Weights.{weight_at}
use Rattle.sbe_text.proofs.parse.+groups.Goals as goal

pub read_groups-read_group-requires : goal.read_groups-read_group-requires
read_groups-read_group-requires t c =
    (omega (arith, c.decreases, weight_at c.args.plans.now c.loop-plan.plan-index c.plan-item.result c.loop-plan-test.true c.plan-item.is), tt)

pub read_groups-returns-in_err-group : goal.read_groups-returns-in_err-group
read_groups-returns-in_err-group t c =
    let p = err_from_is_err_and c.from_residual-in_err-group.result c.from_residual-in_err-group.ensures.1 in
    rw (p.1, p.2) (groups_fail c.args.before.now c.loop-plan.groups.items c.args.plans.now c.loop-plan.plan-index c.plan-item.result (lines_in c.loop-plan.left.now) c.in_err-group.field-0.0 _ c.loop-plan-test.true c.plan-item.is c.in_err-group.ensures c.loop-plan.invariant)

pub read_groups-loop-plan-preserved : goal.read_groups-loop-plan-preserved
read_groups-loop-plan-preserved t c =
    rw c.in_ok-push.ensures.items (groups_step c.args.before.now c.loop-plan.groups.items c.in_ok-group.group c.args.plans.now c.loop-plan.plan-index c.plan-item.result (lines_in c.loop-plan.left.now) (lines_in c.in_ok-group.rest.now) _ c.loop-plan-test.true c.plan-item.is c.in_ok-group.ensures c.loop-plan.invariant)

pub read_groups-returns : goal.read_groups-returns
read_groups-returns t c =
    groups_end c.args.before.now c.loop-plan.groups.items c.args.plans.now c.loop-plan.plan-index (lines_in c.loop-plan.left.now) _ c.loop-plan-test.false c.loop-plan.invariant

-- the entry at a place stands behind the path that was made for it
pub read_entries-returns-in_err-entry : goal.read_entries-returns-in_err-entry
read_entries-returns-in_err-entry t c =
    let g = c.args.plan.now in
    let p = err_from_is_err_and c.from_residual-in_err-entry.result c.from_residual-in_err-entry.ensures.1 in
    let path : c.as_slice.result.now ≡ before_in c.args.before.now (head_of g) c.loop-at.at = c.as_slice.ensures.value ∙ names_in c.open_entry.new.names.items _ c.args.before.now (head_of g) c.loop-at.at c.loop-at.invariant.path c.in_ok-open_entry.ensures in
    let P : List ℕ → Type 0 = λ before. Fails c.in_err-entry.field-0.0 (read_elements before g.block.items (read_groups before g.block.groups) g.block.vars (lines_in c.loop-at.left.now)) in
    rw (p.1, p.2) (entries_fail (entry_at c.args.before.now (head_of g) (λ before. read_groups before g.block.groups)) c.loop-at.entries.items c.args.count c.loop-at.at (lines_in c.loop-at.left.now) c.in_err-entry.field-0.0 _ c.loop-at-test.true (subst P path c.in_err-entry.ensures) c.loop-at.invariant.read)

pub read_entries-loop-at-preserved : goal.read_entries-loop-at-preserved
read_entries-loop-at-preserved t c =
    let g = c.args.plan.now in
    let path : c.as_slice.result.now ≡ before_in c.args.before.now (head_of g) c.loop-at.at = c.as_slice.ensures.value ∙ names_in c.open_entry.new.names.items _ c.args.before.now (head_of g) c.loop-at.at c.loop-at.invariant.path c.in_ok-open_entry.ensures in
    let P : List ℕ → Type 0 = λ before. read_elements before g.block.items (read_groups before g.block.groups) g.block.vars (lines_in c.loop-at.left.now) ≡ Ok (entry_of c.in_ok-entry.entry, lines_in c.in_ok-entry.rest.now) in
    record {
      read = rw c.in_ok-push.ensures.items (entries_step (entry_at c.args.before.now (head_of g) (λ before. read_groups before g.block.groups)) c.loop-at.entries.items c.in_ok-entry.entry c.args.count c.loop-at.at (lines_in c.loop-at.left.now) (lines_in c.in_ok-entry.rest.now) _ c.loop-at-test.true (subst P path c.in_ok-entry.ensures) c.loop-at.invariant.read);
      path =
          let begun : c.extend_from_slice.new.self.items ≡ c.args.before.now = first_of (search rules, grind (arith, common_steps)) in
          let opened : c.len-opened.result ≡ length c.open_group.new.names.items = first_of (search rules, grind (arith, common_steps)) in
          opened_again c.open_entry.new.names.items (take c.len-opened.result c.loop-at.inner.items) c.loop-at.at c.len-opened.result c.in_ok-open_entry.ensures (opened ∙ ap length (c.in_ok-open_group.ensures ∙ ap (λ names. names ++ g.name ++ 91 ∷ []) begun ∙ sym c.loop-at.invariant.path))
          ∙ c.loop-at.invariant.path;
    }

pub read_entries-returns : goal.read_entries-returns
read_entries-returns t c =
    let g = c.args.plan.now in
    entries_end (entry_at c.args.before.now (head_of g) (λ before. read_groups before g.block.groups)) c.loop-at.entries.items c.args.count c.loop-at.at (lines_in c.loop-at.left.now) _ c.loop-at-test.false c.loop-at.invariant.read
