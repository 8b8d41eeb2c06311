-- The line of a rule that was broken.
use Rattle.std.proofs.Common.{◌≡◌, ℕ, List, ◌++◌, Option, Some, sym, ap, subst, ◌∙◌, append_assoc, append-nil}
use Rattle.std.specs.Prelude.{codes, decimal}
use Rattle.fixp_shake.specs.declared.violation.Violation.{Violation}
use Rattle.fixp_replies.specs.declared.act.Ending.{Ending}
use Rattle.fixp_replies.specs.declared.act.Ending.TheVariants as endings
use Rattle.conn_lines.specs.Lines.{number_of}
use Rattle.cmd_muxanswer.specs.Lines.{bytes_of_lines, lines_with, violation_text}

pub violation_lined : (number : ℕ) (v : Violation) (ending : Option Ending) (a b c d e : List ℕ) → ending ≡ Some (endings.Violation v) → b ≡ a ++ decimal number → c ≡ b ++ codes " violation "
    → d ≡ c ++ decimal (number_of v) → e ≡ d ++ codes "\n" → e ≡ a ++ bytes_of_lines (lines_with number (violation_text ending))
violation_lined number v ending a b c d e is first second third fourth =
    let s = decimal number in
    let n = decimal (number_of v) in
    let end = codes "\n" in
    let words = codes " violation " in
    let text = codes "violation " ++ (n ++ end) in
    let grown : e ≡ (((a ++ s) ++ words) ++ n) ++ end =
    fourth ∙ ap (λ (l : List ℕ). l ++ end) (third ∙ ap (λ (l : List ℕ). l ++ n) (second ∙ ap (λ (l : List ℕ). l ++ words) first)) in
    let flat : (((a ++ s) ++ words) ++ n) ++ end ≡ a ++ (s ++ (words ++ (n ++ end))) =
    append_assoc ((a ++ s) ++ words) n end ∙ append_assoc (a ++ s) words (n ++ end) ∙ append_assoc a s (words ++ (n ++ end)) in
    subst (λ (x : Option Ending). e ≡ a ++ bytes_of_lines (lines_with number (violation_text x))) (sym is)
    (grown ∙ flat ∙ ap (λ (l : List ℕ). a ++ l) (sym (append_assoc s (codes " ") text) ∙ sym (append-nil ((s ++ codes " ") ++ text))))
