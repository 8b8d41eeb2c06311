use Rattle.std.proofs.Common.{ℕ, ◌≡◌, List, ◌∷◌, ◌++◌, ◌∙◌, ap, sym}
use Rattle.std.proofs.lemmas.List.{nil_from_length}
use Rattle.std.proofs.lemmas.Result.{IfOk-weaker}
use Rattle.jr_record.specs.Records.{spelled}
use Rattle.jr_moments.proofs.Spelling.{with_moment, some_plain}
use Rattle.jr_moments.proofs.writing.dated.Goals as goal

pub returns-in_default : goal.returns-in_default
returns-in_default c =
    let r = c.args.r.now in
    let is : c.as_slice.result.now ≡ spelled r = c.as_slice.ensures ∙ c.in_ok-write_record.ensures.ok ∙ ap (λ (xs : List ℕ). xs ++ spelled r) c.new-plain.ensures in
    absurd (some_plain r (sym is ∙ nil_from_length c.as_slice.result.now c.in_default.ensures.cases))

pub returns : goal.returns
returns c =
    let r = c.args.r.now in
    let is : c.as_slice.result.now ≡ spelled r = c.as_slice.ensures ∙ c.in_ok-write_record.ensures.ok ∙ ap (λ (xs : List ℕ). xs ++ spelled r) c.new-plain.ensures in
    let split : c.as_slice.result.now ≡ c.in-Some.kind.now ∷ c.in-Some.behind.now = c.in-Some.ensures.cases.0 in
    record { bytes = IfOk-weaker c.with_moment.result _ _ (λ bytes made. made ∙ with_moment c.args.moment r c.in-Some.kind.now c.in-Some.behind.now (sym is ∙ split)) c.with_moment.ensures.bytes }
