use Rattle.std.proofs.Common.{◌≡◌, List, ◌++◌, sym, ap, ◌∙◌, arith, rules, append_assoc, append-nil, ℕ}
use Rattle.std.proofs.lemmas.List.{nil_from_length}
use Rattle.std.specs.Slice.Iter.{chunks_rest}
use Rattle.hex.specs.Hex.{encode_with, encode_lower, lower_digits}
use Rattle.conn_lines.proofs.Hexadecimal.{encode_with-append}
use Rattle.conn_lines.proofs.deliver.push_parts.Goals as goal

pub loop-part-init : goal.loop-part-init
loop-part-init c = (search rules, tt, search rules, search rules)

pub loop-part-preserved : goal.loop-part-preserved
loop-part-preserved c =
    let steps = c.in-Some.ensures.steps in
    let rest = chunks_rest c.next.new.self in (
      search rules,
      tt,
      steps.0 ∙ c.loop-part.invariant.2,
      ap (λ (ls : List ℕ). ls ++ encode_lower rest) c.in_ok-push_hex.ensures
          ∙ (append_assoc c.loop-part.lines.items (encode_lower c.in-Some.part.now) (encode_lower rest)
          ∙ (ap (λ (ls : List ℕ). c.loop-part.lines.items ++ ls) (sym (encode_with-append lower_digits c.in-Some.part.now rest) ∙ ap (λ (ls : List ℕ). encode_lower ls) (sym steps.1.0))
          ∙ c.loop-part.invariant.3)),
    )

pub returns : goal.returns
unfolding encode_with
returns c = record {
  added =
      let none = nil_from_length _ c.in-None.ensures.steps.1.0 in
      sym (append-nil c.loop-part.lines.items) ∙ (ap (λ (ls : List ℕ). c.loop-part.lines.items ++ encode_lower ls) (sym none) ∙ c.loop-part.invariant.3);
}
