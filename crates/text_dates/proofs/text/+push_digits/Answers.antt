use Rattle.std.proofs.Common.{◌≡◌, ℕ, List, [], ◌∷◌, ◌++◌, ◌/◌, ◌%◌, ◌+◌, ◌-◌, sym, ap, ◌∙◌, append-nil, append_assoc, arith}
use Rattle.std.proofs.lemmas.Bool.Decides.{nat_tests}
use Rattle.text_dates.specs.Dates.{digits}
use Rattle.text_dates.proofs.Digits.{digits_more, digits_none}
use Rattle.text_dates.proofs.text.+push_digits.Goals as goal

pub returns-then-count-eq0 : goal.returns-then-count-eq0
returns-then-count-eq0 t c =
    let none : c.args.count ≡ 0 = grind (arith, nat_tests, c.if-count-eq0.true) in
    sym (ap (λ (n : ℕ). c.args.line.now.items ++ digits n c.args.number) none ∙ (ap (λ (ds : List ℕ). c.args.line.now.items ++ ds) (digits_none c.args.number) ∙ append-nil c.args.line.now.items))

pub returns : goal.returns
returns t c =
    c.in_ok-push.ensures.items ∙ (ap (λ (ls : List ℕ). ls ++ (48 + c.args.number % 10) ∷ []) c.in_ok-push_digits.ensures
    ∙ (append_assoc c.args.line.now.items (digits (c.args.count - 1) (c.args.number / 10)) ((48 + c.args.number % 10) ∷ [])
    ∙ ap (λ (ds : List ℕ). c.args.line.now.items ++ ds) (sym (digits_more c.args.count c.args.number (λ e. absurd (grind (arith, nat_tests, c.if-count-eq0.false, e)))))))
