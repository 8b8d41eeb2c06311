use Rattle.std.proofs.Common.{◌≡◌, ◌∙◌, ◌∷◌, [], ◌++◌, ℕ, true, List, length, take, Ok, Bor, ap, subst, sym, codes, decimal, rules, arith}
use Rattle.std.proofs.lemmas.Grind.{common_steps}
use Rattle.std.proofs.lemmas.Result.{err_from_is_err_and}
use Rattle.sbe_layout.specs.Views.{head_of}
use Rattle.sbe_grammar.specs.Reading.{Read, repeated}
use Rattle.sbe_grammar.specs.Values.{is_in}
use Rattle.sbe_decode.specs.Answers.{Fails, Gives}
use Rattle.sbe_decode.specs.Walks.{dimension_of, read_parts}
use Rattle.sbe_text.specs.Written.{before_in, entry_lines}
use Rattle.sbe_text.specs.Wire.{printed, lines_of_block}
use Rattle.sbe_text.proofs.Weights.{weight_at}
use Rattle.sbe_text.proofs.Walked.{line_behind, names_in, opened_again, closed, group_is, groups_step, groups_fail, entries_step, entries_fail}
use Rattle.sbe_text.proofs.wire.+blocks.Goals as goal

pub print_groups-print_group-requires : goal.print_groups-print_group-requires
print_groups-print_group-requires t c =
    (omega (arith, c.decreases, weight_at c.args.plans.now c.loop-plan.plan-index c.plan-item.result c.loop-plan-test.true c.plan-item.is), tt)

pub print_groups-returns-in_err-left-clause-lines : goal.print_groups-returns-in_err-left-clause-lines
print_groups-returns-in_err-left-clause-lines t c =
    let r = c.args.reading in
    let p = err_from_is_err_and c.from_residual.result c.from_residual.ensures.1 in
    let lines = rw c.loop-plan.invariant.names at c.in_err-left.ensures.lines in
    rw (p.1, p.2) (groups_fail c.args.listings.now r.order r.version r.total c.args.draft.now.names.items c.loop-plan.draft.lines.items c.args.plans.now c.loop-plan.plan-index c.plan-item.result c.loop-plan.left.now c.in_err-left.field-0.0 _ c.loop-plan-test.true c.plan-item.is lines c.loop-plan.invariant.lines)

pub print_groups-loop-plan-preserved : goal.print_groups-loop-plan-preserved
print_groups-loop-plan-preserved t c =
    let r = c.args.reading in
    let lines = rw c.loop-plan.invariant.names at c.in_ok-left.ensures.lines in
    record {
      lines = groups_step c.args.listings.now r.order r.version r.total c.args.draft.now.names.items c.loop-plan.draft.lines.items c.print_group.new.draft.lines.items c.args.plans.now c.loop-plan.plan-index c.plan-item.result c.loop-plan.left.now c.in_ok-left.left.now _ c.loop-plan-test.true c.plan-item.is lines c.loop-plan.invariant.lines;
      names = c.in_ok-left.ensures.names ∙ c.loop-plan.invariant.names;
    }

pub print_group-returns-clause-lines : goal.print_group-returns-clause-lines
print_group-returns-clause-lines t c =
    let r = c.args.reading in
    let g = c.args.plan.now in
    let before = c.args.draft.now.names.items in
    let old = c.args.draft.now.lines.items in
    let d = dimension_of c.in_ok-dimension.dimension in
    let here : is_in r.version g.since ≡ true = first_of (search rules, grind (arith, common_steps)) in
    let lines : c.write_count.new.lines.items ≡ old ++ before ++ g.name ++ codes " = " ++ decimal d.count ++ 10 ∷ [] = first_of (search rules, grind (arith, common_steps)) in
    let told = group_is c.args.listings.now r.order r.version r.total before old g d c.args.left.now c.in_ok-dimension.after.now here c.in_ok-dimension.ensures in
    let P : Read (List ℕ) → Type 0 = λ told. Gives (λ (rest : Bor (List ℕ)). (c.print_entries.new.draft.lines.items, rest.now)) c.print_entries.result told in
    let entries : List ℕ → Read (List ℕ) = λ z. printed z (λ bs. entry_lines c.args.listings.now before 0 bs (head_of g) g.block.groups) (repeated d.count (read_parts r.order r.version r.total d.size g.block) c.in_ok-dimension.after.now) in
    subst P (ap entries (lines ∙ line_behind old before g.name (decimal d.count)) ∙ told) c.print_entries.ensures.lines

pub print_entries-returns-in_err-left-clause-lines : goal.print_entries-returns-in_err-left-clause-lines
print_entries-returns-in_err-left-clause-lines t c =
    let r = c.args.reading in
    let g = c.args.plan.now in
    let before = c.args.draft.now.names.items in
    let read = read_parts r.order r.version r.total c.args.dimension.size g.block in
    let p = err_from_is_err_and c.from_residual-in_err-left.result c.from_residual-in_err-left.ensures.1 in
    let path : c.open_entry.new.names.items ≡ before_in before (head_of g) c.loop-at.at = names_in c.open_entry.new.names.items _ before (head_of g) c.loop-at.at c.loop-at.invariant.names c.in_ok-open_entry.ensures in
    let P : List ℕ → Type 0 = λ names. Fails c.in_err-left.field-0.0 (printed c.loop-at.draft.lines.items (lines_of_block c.args.listings.now names g.block) (read c.loop-at.left.now)) in
    rw (p.1, p.2) (entries_fail c.args.listings.now before g read c.loop-at.draft.lines.items c.args.dimension.count c.loop-at.at c.loop-at.left.now c.in_err-left.field-0.0 _ c.loop-at-test.true (subst P path c.in_err-left.ensures.lines) c.loop-at.invariant.lines)

pub print_entries-loop-at-preserved : goal.print_entries-loop-at-preserved
print_entries-loop-at-preserved t c =
    let r = c.args.reading in
    let g = c.args.plan.now in
    let before = c.args.draft.now.names.items in
    let read = read_parts r.order r.version r.total c.args.dimension.size g.block in
    let path : c.open_entry.new.names.items ≡ before_in before (head_of g) c.loop-at.at = names_in c.open_entry.new.names.items _ before (head_of g) c.loop-at.at c.loop-at.invariant.names c.in_ok-open_entry.ensures in
    let P : List ℕ → Type 0 = λ names. printed c.loop-at.draft.lines.items (lines_of_block c.args.listings.now names g.block) (read c.loop-at.left.now) ≡ Ok (c.print_block.new.draft.lines.items, c.in_ok-left.left.now) in
    record {
      lines = entries_step c.args.listings.now before g read c.loop-at.draft.lines.items c.print_block.new.draft.lines.items c.args.dimension.count c.loop-at.at c.loop-at.left.now c.in_ok-left.left.now _ c.loop-at-test.true (subst P path c.in_ok-left.ensures.lines) c.loop-at.invariant.lines;
      names =
          let opened : c.len-opened.result ≡ length c.open_group.new.names.items = first_of (search rules, grind (arith, common_steps)) in
          ap (take c.len-opened.result) c.in_ok-left.ensures.names
          ∙ opened_again c.open_entry.new.names.items (take c.len-opened.result c.loop-at.draft.names.items) c.loop-at.at c.len-opened.result c.in_ok-open_entry.ensures (opened ∙ ap length (c.in_ok-open_group.ensures ∙ sym c.loop-at.invariant.names))
          ∙ c.loop-at.invariant.names;
    }

pub print_entries-returns-clause-names : goal.print_entries-returns-clause-names
print_entries-returns-clause-names t c =
    let begun : c.len-begun.result ≡ length c.args.draft.now.names.items = first_of (search rules, grind (arith, common_steps)) in
    c.truncate.ensures.items ∙ closed c.loop-at.draft.names.items c.args.draft.now.names.items c.args.plan.now.name c.len-begun.result c.len-opened.result c.loop-at.invariant.names begun
