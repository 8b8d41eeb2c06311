use Rattle.std.proofs.Common.{◌≡◌, ℕ, ◌-◌, ◌≤◌, nat_lt, Bool, true, false, refl, sym, ◌∙◌, arith, ltb-true, ltb-false, ◌==◌}
use Rattle.std.proofs.lemmas.Bool.{lt-leb}
use Rattle.std.specs.List.{list_any}
use Rattle.session_model.specs.Journal.{counts_from}
use Rattle.flow_idem.proofs.Told.{any_counts, any_below, any_past}
use Rattle.flow_idem.proofs.runs.counts_to.Goals as goal

among : (n f k : ℕ) → f ≤ n → nat_lt (n - f) k ≡ list_any (λ m. m == n) (counts_from f k)
among n f k low = by_test (nat_lt (n - f) k) refl
  where
    by_test : (b : Bool) → nat_lt (n - f) k ≡ b → b ≡ list_any (λ m. m == n) (counts_from f k)
    by_test true t = sym (any_counts n f k low (omega (arith, low, ltb-true (n - f) k t)))
    by_test false t = sym (any_past n f k (omega (arith, low, ltb-false (n - f) k t)))

pub returns-then-first-number : goal.returns-then-first-number
returns-then-first-number c = among c.args.number c.args.first c.args.count c.if-first-number.true

pub returns-else-first-number : goal.returns-else-first-number
returns-else-first-number c =
    lt-leb c.args.first c.args.number c.if-first-number.false ∙ sym (any_below c.args.number c.args.first c.args.count c.if-first-number.false)
