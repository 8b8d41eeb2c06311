use Rattle.std.proofs.Common.{◌≡◌, [], codes, refl, sym, ◌∙◌, List, ℕ, ◌++◌, rules, arith}
use Rattle.std.proofs.lemmas.Grind.{common_steps}
use Rattle.text_names.specs.Bare.{bare}
use Rattle.plan_lines.proofs.Taking.{finished_ok, first_ok, first_err, named_ok, named_err, not_between, passed, takes_ok, takes_err}
use Rattle.plan_lines.proofs.place.Place.take_line.Goals as goal

pub returns-then-not-is_empty-clause-goes : goal.returns-then-not-is_empty-clause-goes
returns-then-not-is_empty-clause-goes c =
    let some : c.args.self.now.text.items ≡ [] → ⊥ = first_of (search rules, grind (arith, common_steps)) in
    takes_ok c.args.plan.now c.args.self.now c.take_text.new.self c.args.line.now c.args.number c.take_text.result (λ e. absurd (some e)) c.take_text.ensures.takes

pub returns-then-not-is_empty-clause-halts : goal.returns-then-not-is_empty-clause-halts
returns-then-not-is_empty-clause-halts c =
    let some : c.args.self.now.text.items ≡ [] → ⊥ = first_of (search rules, grind (arith, common_steps)) in
    takes_err c.args.plan.now c.args.self.now c.take_text.new.self c.args.line.now c.args.number c.take_text.result (λ e. absurd (some e)) c.take_text.ensures.takes

pub returns-then-is_empty-clause-goes : goal.returns-then-is_empty-clause-goes
returns-then-is_empty-clause-goes c =
    let empty : c.args.self.now.text.items ≡ [] = first_of (search rules, grind (arith, common_steps)) in
    let nothing : c.bare_line-words.result.now ≡ [] = first_of (search rules, grind (arith, common_steps)) in
    passed c.args.plan.now c.args.self.now c.args.line.now c.args.number empty (sym c.bare_line-words.ensures ∙ nothing)

pub returns-then-is_finish-clause-goes : goal.returns-then-is_finish-clause-goes
returns-then-is_finish-clause-goes c =
    let empty : c.args.self.now.text.items ≡ [] = first_of (search rules, grind (arith, common_steps)) in
    let word : c.bare_line-words.result.now ≡ codes "finish" = first_of (search rules, grind (arith, common_steps)) in
    finished_ok c.args.plan.now c.args.self.now c.finish.new.self c.args.line.now c.args.number c.finish.result empty (sym c.bare_line-words.ensures ∙ word) c.finish.ensures.finished

pub returns-in-Some-clause-goes : goal.returns-in-Some-clause-goes
returns-in-Some-clause-goes c =
    let empty : c.args.self.now.text.items ≡ [] = first_of (search rules, grind (arith, common_steps)) in
    named_ok c.args.plan.now c.args.self.now c.name.new.self c.args.line.now c.in-Some.digits.now c.args.number c.name.result empty (sym c.bare_line-words.ensures ∙ c.in-Some.ensures.found)
    c.name.ensures.named

pub returns-in-Some-clause-halts : goal.returns-in-Some-clause-halts
returns-in-Some-clause-halts c =
    let empty : c.args.self.now.text.items ≡ [] = first_of (search rules, grind (arith, common_steps)) in
    named_err c.args.plan.now c.args.self.now c.name.new.self c.args.line.now c.in-Some.digits.now c.args.number c.name.result empty (sym c.bare_line-words.ensures ∙ c.in-Some.ensures.found)
    c.name.ensures.refused

pub returns-in-None-clause-goes : goal.returns-in-None-clause-goes
returns-in-None-clause-goes c =
    let empty : c.args.self.now.text.items ≡ [] = first_of (search rules, grind (arith, common_steps)) in
    let some : c.bare_line-words.result.now ≡ [] → ⊥ = first_of (search rules, grind (arith, common_steps)) in
    let no_finish : c.bare_line-words.result.now ≡ codes "finish" → ⊥ = first_of (search rules, grind (arith, common_steps)) in
    let is = c.bare_line-words.ensures in
    let other = not_between c.args.line.now (λ e. some (is ∙ e)) (λ behind e. c.in-None.ensures.none behind (is ∙ e)) (λ e. no_finish (is ∙ e)) in
    first_ok c.args.plan.now c.args.self.now c.take_text-in-None.new.self c.args.line.now c.args.number c.take_text-in-None.result empty
    (takes_ok c.args.plan.now _ c.take_text-in-None.new.self c.args.line.now c.args.number c.take_text-in-None.result (λ e. (other, refl)) c.take_text-in-None.ensures.takes)

pub returns-in-None-clause-halts : goal.returns-in-None-clause-halts
returns-in-None-clause-halts c =
    let empty : c.args.self.now.text.items ≡ [] = first_of (search rules, grind (arith, common_steps)) in
    let some : c.bare_line-words.result.now ≡ [] → ⊥ = first_of (search rules, grind (arith, common_steps)) in
    let no_finish : c.bare_line-words.result.now ≡ codes "finish" → ⊥ = first_of (search rules, grind (arith, common_steps)) in
    let is = c.bare_line-words.ensures in
    let other = not_between c.args.line.now (λ e. some (is ∙ e)) (λ behind e. c.in-None.ensures.none behind (is ∙ e)) (λ e. no_finish (is ∙ e)) in
    first_err c.args.plan.now c.args.self.now c.take_text-in-None.new.self c.args.line.now c.args.number c.take_text-in-None.result empty
    (takes_err c.args.plan.now _ c.take_text-in-None.new.self c.args.line.now c.args.number c.take_text-in-None.result (λ e. (other, refl)) c.take_text-in-None.ensures.takes)
