use Rattle.std.proofs.Common.{◌≡◌, ◌∙◌, ◌∷◌, [], ◌++◌, ◌-◌, ◌^◌, ◌<◌, ℕ, Ok, None, true, List, length, take, ap, subst, sym, rules, arith}
use Rattle.std.proofs.lemmas.Grind.{common_steps}
use Rattle.sbe_layout.specs.Views.{head_of}
use Rattle.sbe_grammar.specs.Canonical.{holds_dimension}
use Rattle.text_words.specs.Lines.{lines_in}
use Rattle.sbe_text.specs.Held.{is_word}
use Rattle.sbe_text.specs.Written.{before_in}
use Rattle.sbe_text.specs.declared.token.Count.TheVariants as count
use Rattle.sbe_text.specs.Tokens.{count_of}
use Rattle.sbe_text.specs.Reading.{read_element, read_elements, read_groups}
use Rattle.sbe_text.proofs.Printed.{at_word}
use Rattle.sbe_text.proofs.Walked.{names_in, opened_again, closed}
use Rattle.sbe_text.proofs.Weights.{weight_at}
use Rattle.sbe_from_text.specs.Written.{written, entry_fault, entry_bytes}
use Rattle.sbe_from_text.proofs.Elements.{groups_step, groups_end, entries_step, entries_end, group_written, block_written}
use Rattle.sbe_from_text.proofs.blocks.+blocks.Goals as goal

pub write_groups-write_group-requires : goal.write_groups-write_group-requires
write_groups-write_group-requires t c =
    (omega (arith, c.decreases, weight_at c.args.plans.now c.loop-plan.plan-index c.plan-item.result c.loop-plan-test.true c.plan-item.is), ap is_word c.loop-plan.invariant.names ∙ c.requires)

pub write_groups-loop-plan-preserved : goal.write_groups-loop-plan-preserved
write_groups-loop-plan-preserved t c =
    let bytes = rw c.loop-plan.invariant.names at c.in_ok-left.ensures.bytes in
    record {
      bytes = groups_step c.args.listings.now c.args.order c.args.sheet.now.names.items c.loop-plan.sheet.bytes.items c.write_group.new.sheet.bytes.items c.args.plans.now c.loop-plan.plan-index c.plan-item.result (lines_in c.loop-plan.left.now) (lines_in c.in_ok-left.left.now) _ c.loop-plan-test.true c.plan-item.is bytes c.loop-plan.invariant.bytes;
      names = c.in_ok-left.ensures.names ∙ c.loop-plan.invariant.names;
    }

pub write_groups-returns-clause-bytes : goal.write_groups-returns-clause-bytes
write_groups-returns-clause-bytes t c =
    groups_end c.args.listings.now c.args.order c.args.sheet.now.names.items c.loop-plan.sheet.bytes.items c.args.plans.now c.loop-plan.plan-index (lines_in c.loop-plan.left.now) _ c.loop-plan-test.false c.loop-plan.invariant.bytes

pub write_group-returns-clause-bytes : goal.write_group-returns-clause-bytes
write_group-returns-clause-bytes t c =
    let g = c.args.plan.now in
    let before = c.args.sheet.now.names.items in
    let n = c.in_ok-count.count in
    let P : List ℕ → Type 0 = λ names. read_element names g.name count_of (lines_in c.args.left.now) ≡ Ok (count.Entries n, lines_in c.in_ok-count.rest.now) in
    let held : holds_dimension (head_of g) n ≡ true = first_of (search rules, grind (arith, common_steps)) in
    group_written c.args.listings.now c.args.order before c.args.sheet.now.bytes.items c.write_dimension.new.out.items c.write_entries.new.sheet.bytes.items (head_of g) g.block.groups n (lines_in c.args.left.now) (lines_in c.in_ok-count.rest.now) (lines_in c.in_ok-behind.behind.now) (subst P c.as_slice.ensures.value c.in_ok-count.ensures) held c.in-Ok.ensures c.in_ok-behind.ensures.bytes

pub write_block-returns-clause-bytes : goal.write_block-returns-clause-bytes
write_block-returns-clause-bytes t c =
    let p = c.args.plan.now in
    let before = c.args.sheet.now.names.items in
    let old = c.args.sheet.now.bytes.items in
    let none : length old - c.len.result ≡ 0 = first_of (search rules, grind (arith, common_steps)) in
    let items = rw (c.as_slice.ensures, c.as_slice-2.ensures.value, none) at c.in_ok-left.ensures in
    let groups = rw c.as_slice-3.ensures at c.in_ok-left-2.ensures.bytes in
    let names : c.as_slice-4.result.now ≡ before = c.as_slice-4.ensures.value ∙ c.in_ok-left-2.ensures.names in
    let vars = rw (c.as_slice-5.ensures, names) at c.in_ok-rest.ensures in
    block_written c.args.listings.now c.args.order before old c.write_items.new.out.items c.write_groups.new.sheet.bytes.items c.write_data.new.out.items p (lines_in c.args.left.now) (lines_in c.in_ok-left.left.now) (lines_in c.in_ok-left-2.left.now) (lines_in c.in_ok-rest.rest.now) items groups vars

pub write_entries-write_block-requires : goal.write_entries-write_block-requires
write_entries-write_block-requires t c =
    let g = c.args.plan.now in
    let before = c.args.sheet.now.names.items in
    let path : c.open_entry.new.names.items ≡ before_in before (head_of g) c.loop-at.at = names_in c.open_entry.new.names.items _ before (head_of g) c.loop-at.at c.loop-at.invariant.names c.in-Ok-open_entry.ensures in
    let word : is_word g.name ≡ true = first_of (search rules, grind (arith, common_steps)) in
    (omega (arith, c.decreases), ap is_word path ∙ at_word before (head_of g) c.loop-at.at c.requires word (omega arith))

pub write_entries-loop-at-preserved : goal.write_entries-loop-at-preserved
write_entries-loop-at-preserved t c =
    let g = c.args.plan.now in
    let before = c.args.sheet.now.names.items in
    let path : c.open_entry.new.names.items ≡ before_in before (head_of g) c.loop-at.at = names_in c.open_entry.new.names.items _ before (head_of g) c.loop-at.at c.loop-at.invariant.names c.in-Ok-open_entry.ensures in
    let P : List ℕ → Type 0 = λ names. written c.loop-at.sheet.bytes.items (entry_fault c.args.listings.now g.block) (entry_bytes c.args.order g.block) (read_elements names g.block.items (read_groups names g.block.groups) g.block.vars (lines_in c.loop-at.left.now)) ≡ Ok ((None, c.write_block.new.sheet.bytes.items), lines_in c.in_ok-left.left.now) in
    record {
      bytes = entries_step c.args.listings.now c.args.order before c.loop-at.sheet.bytes.items c.write_block.new.sheet.bytes.items g c.args.count c.loop-at.at (lines_in c.loop-at.left.now) (lines_in c.in_ok-left.left.now) _ c.loop-at-test.true (subst P path c.in_ok-left.ensures.bytes) c.loop-at.invariant.bytes;
      names =
          let opened : c.len-opened.result ≡ length c.open_group.new.names.items = first_of (search rules, grind (arith, common_steps)) in
          ap (take c.len-opened.result) c.in_ok-left.ensures.names
          ∙ opened_again c.open_entry.new.names.items (take c.len-opened.result c.loop-at.sheet.names.items) c.loop-at.at c.len-opened.result c.in-Ok-open_entry.ensures (opened ∙ ap length (c.in-Ok.ensures ∙ sym c.loop-at.invariant.names))
          ∙ c.loop-at.invariant.names;
    }

pub write_entries-returns-clause-bytes : goal.write_entries-returns-clause-bytes
write_entries-returns-clause-bytes t c =
    entries_end c.args.listings.now c.args.order c.args.sheet.now.names.items c.loop-at.sheet.bytes.items c.args.plan.now c.args.count c.loop-at.at (lines_in c.loop-at.left.now) _ c.loop-at-test.false c.loop-at.invariant.bytes

pub write_entries-returns-clause-names : goal.write_entries-returns-clause-names
write_entries-returns-clause-names t c =
    let begun : c.len-begun.result ≡ length c.args.sheet.now.names.items = first_of (search rules, grind (arith, common_steps)) in
    c.truncate.ensures.items ∙ closed c.loop-at.sheet.names.items c.args.sheet.now.names.items c.args.plan.now.name c.len-begun.result c.len-opened.result c.loop-at.invariant.names begun
