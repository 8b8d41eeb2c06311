use Rattle.std.proofs.Common.{ℕ, ◌+◌, ◌-◌, ◌≤◌, ◌^◌, min, List, Option, length, drop, sym, ap, subst, ◌∙◌, arith}
use Rattle.std.specs.Prelude.{slice_range}
use Rattle.std.proofs.lemmas.List.{length-take}
use Rattle.gw_lines.specs.Reading.{Reading}
use Rattle.gw_lines.specs.Kept.{kept_behind, EndsAs}
use Rattle.gw_lines.proofs.Steps.{all_looked, next_given, none_between, range_behind}
use Rattle.gw_lines.proofs.reader.LineReader.next.Goals as goal

pub returns-in_default-clause-none : goal.returns-in_default-clause-none
returns-in_default-clause-none c =
    let v = c.self.view_is in
    let range = λ (xs : List ℕ). slice_range xs c.self.inside.at c.self.inside.end in
    λ read lines h.
    all_looked read lines c.args.self.now _ (range c.deref.result.now) h (sym (ap (λ (r : Reading). r.waiting) v) ∙ ap range (sym c.deref.ensures.value)) c.in_default.ensures.none
    (ap (λ (r : Reading). r.number) v) (none_between c.self.inside.piece.items c.self.inside.end) (c.add.ensures ∙ ap (λ (r : Reading). kept_behind r.front (range c.deref.result.now)) v)

-- the line with its feed is within what waits
size : (xs : List ℕ) (line at end : ℕ) → line + 1 ≤ length (slice_range xs at end) → at ≤ end → at + (line + 1) ≤ end
size xs line at end within order = numbers line at end (length (drop at xs)) (subst (λ (n : ℕ). line + 1 ≤ n) (length-take (end - at) (drop at xs)) within) order
  where
    numbers : (line at end all : ℕ) → line + 1 ≤ min (end - at) all → at ≤ end → at + (line + 1) ≤ end
    numbers line at end all within order = omega arith

pub returns-clause-line : goal.returns-clause-line
returns-clause-line c =
    let v = c.self.view_is in
    let range = λ (xs : List ℕ). slice_range xs c.self.inside.at c.self.inside.end in
    let part : List ℕ = c.in-Some.line.now in
    let fits : c.self.inside.at + (length part + 1) ≤ c.self.inside.end = size c.deref.result.now (length part) c.self.inside.at c.self.inside.end (omega (arith, c.in-Some.ensures.within)) (omega arith) in
    let waits = range_behind c.self.inside.piece.items c.self.inside.at c.self.inside.end (length part + 1) fits in
    λ read lines h.
    next_given read lines c.args.self.now c.give.new.self c.give.result part (drop (length part + 1) (range c.deref.result.now)) h
    (sym (ap (λ (r : Reading). r.waiting) v) ∙ ap range (sym c.deref.ensures.value) ∙ c.in-Some.ensures.found) c.in-Some.ensures.feedless
    (subst (λ (f : Option (List ℕ)). EndsAs f c.give.result c.give.new.self.line) (c.add-2.ensures ∙ ap (λ (r : Reading). kept_behind r.front part) v) c.give.ensures.told)
    c.give.ensures.front (c.give.ensures.waiting ∙ waits ∙ ap (λ (xs : List ℕ). drop (length part + 1) (range xs)) (sym c.deref.ensures.value))
    (c.give.ensures.number ∙ ap (λ (r : Reading). min (r.number + 1) (2 ^ 64 - 1)) v)
