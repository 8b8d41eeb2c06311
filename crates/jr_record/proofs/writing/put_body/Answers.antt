use Rattle.std.proofs.Common.{◌≡◌, ℕ, List, ◌++◌, sym, ap, ◌∙◌, append_assoc}
use Rattle.std.specs.Int.{w64, to_le_bytes}
use Rattle.jr_record.specs.Records.{body_of}
use Rattle.jr_record.proofs.writing.put_body.Goals as goal

pub returns-in-Skip : goal.returns-in-Skip
returns-in-Skip c =
    let from = c.to_le_bytes-in-Skip.result in
    let count = c.to_le_bytes-in-Skip-2.result in
    let body : from ++ count ≡ body_of c.args.r.now =
    ap (λ (xs : List ℕ). xs ++ count) c.to_le_bytes-in-Skip.ensures
    ∙ ap (λ (xs : List ℕ). to_le_bytes w64 c.in-Skip.from ++ xs) c.to_le_bytes-in-Skip-2.ensures
    ∙ sym (ap body_of c.in-Skip.is) in
    record {
      items = c.put-in-Skip-2.ensures.items ∙ ap (λ (xs : List ℕ). xs ++ count) c.put-in-Skip.ensures.items
          ∙ append_assoc c.args.out.now.items from count ∙ ap (λ (xs : List ℕ). c.args.out.now.items ++ xs) body;
    }
