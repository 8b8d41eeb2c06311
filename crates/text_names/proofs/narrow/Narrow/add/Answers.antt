use Rattle.std.proofs.Common.{◌≡◌, ◌+◌, ℕ, List, None, Some, Err, ap, sym, ◌∙◌, subst}
use Rattle.std.specs.Option.{option_copied}
use Rattle.text_names.specs.Bare.{bare, cut_at, trimmed}
use Rattle.text_names.specs.Lines.{Narrowed, by_line, element_line, narrowed, with_told, without_element}
use Rattle.text_names.specs.Steps.{Adds, Goes, ahead}
use Rattle.text_names.proofs.Narrowing.{adds_goes, element_step, other_step}
use Rattle.text_names.proofs.narrow.Narrow.add.Goals as goal

pub returns-in_default : goal.returns-in_default
returns-in_default c = λ ls.
    let old = c.args.self.now in
    let new = c.add_other.new.self in
    let layout = option_copied c.args.layout in
    let none : cut_at 61 (bare c.args.line.now) ≡ None = sym (c.in_default.ensures ∙ ap (cut_at 61) c.bare_line-line.ensures) in
    subst (λ (n : Narrowed). Goes c.args.plan.now c.args.number ls (ahead old.text.items old.numbers.items n) new.text.items new.numbers.items c.add_other.result)
    (sym (other_step c.args.plan.now layout c.args.number c.args.line.now ls none))
    (subst (λ (l : List ℕ). Goes c.args.plan.now c.args.number ls (ahead old.text.items old.numbers.items (by_line c.args.plan.now layout c.args.number (without_element l) ls (λ following. narrowed c.args.plan.now following (c.args.number + 1) ls))) new.text.items new.numbers.items c.add_other.result)
    c.bare_line-line.ensures (c.add_other.ensures ls))

pub returns-in-Err : goal.returns-in-Err
returns-in-Err c = λ ls.
    let old = c.args.self.now in
    let new = c.add_element.new.self in
    let layout = option_copied c.args.layout in
    let path = c.in-Some.path.now in
    let value = c.in-Some.value.now in
    let some : cut_at 61 (bare c.args.line.now) ≡ Some (path, value) = sym (c.in-Some.ensures ∙ ap (cut_at 61) c.bare_line-line.ensures) in
    let more = narrowed c.args.plan.now layout (c.args.number + 1) ls in
    let told : Adds (ahead old.text.items old.numbers.items (with_told c.args.number (element_line c.args.plan.now.listings layout (trimmed path) (trimmed value)) more)) new.text.items new.numbers.items more (Err c.in-Err.e) =
    subst (λ (v : List ℕ). Adds (ahead old.text.items old.numbers.items (with_told c.args.number (element_line c.args.plan.now.listings layout (trimmed path) v) more)) new.text.items new.numbers.items more (Err c.in-Err.e)) c.trimmed-2.ensures
    (subst (λ (p : List ℕ). Adds (ahead old.text.items old.numbers.items (with_told c.args.number (element_line c.args.plan.now.listings layout p c.trimmed-2.result.now) more)) new.text.items new.numbers.items more (Err c.in-Err.e)) c.trimmed.ensures
    (c.in-Err.ensures more)) in
    subst (λ (n : Narrowed). Goes c.args.plan.now c.args.number ls (ahead old.text.items old.numbers.items n) new.text.items new.numbers.items (Err c.in-Err.e))
    (sym (element_step c.args.plan.now layout c.args.number c.args.line.now path value ls some))
    (adds_goes c.args.plan.now c.args.number ls _ more new.text.items new.numbers.items c.in-Err.e told)
