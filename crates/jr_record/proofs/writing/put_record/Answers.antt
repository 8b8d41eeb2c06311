use Rattle.std.proofs.Common.{◌≡◌, ℕ, List, [], ◌∷◌, ◌++◌, length, ap, ◌∙◌, arith, append_assoc}
use Rattle.std.specs.Int.{w32, to_le_bytes}
use Rattle.jr_record.specs.Records.{kind_of, body_of, spelled}
use Rattle.jr_record.proofs.Spelling.{length-spelled}
use Rattle.jr_record.proofs.writing.put_record.Goals as goal

pub push_reserved-requires : goal.push_reserved-requires
push_reserved-requires c = omega (arith, length-spelled c.args.r.now, c.requires.room)

pub put-requires : goal.put-requires
put-requires c = record { room = omega (arith, length-spelled c.args.r.now, c.requires.room, c.push_reserved.ensures.len, c.push_reserved.ensures.capacity, ap length c.to_le_bytes.ensures) }

pub put_body-requires : goal.put_body-requires
put_body-requires c = record {
  room = omega (arith, length-spelled c.args.r.now, c.requires.room, c.push_reserved.ensures.len, c.push_reserved.ensures.capacity, ap length c.to_le_bytes.ensures, c.put.ensures.len, c.put.ensures.room);
}

pub returns : goal.returns
unfolding spelled
returns c =
    let old = c.args.out.now.items in
    let body = body_of c.args.r.now in
    let size : c.to_le_bytes.result ≡ to_le_bytes w32 (length body) = c.to_le_bytes.ensures ∙ ap (to_le_bytes w32) c.body_size.ensures.size in
    record {
      items = c.put_body.ensures.items
          ∙ ap (λ (xs : List ℕ). xs ++ body) (c.put.ensures.items ∙ ap (λ (xs : List ℕ). xs ++ c.to_le_bytes.result) c.push_reserved.ensures.items)
          ∙ append_assoc (old ++ c.kind.result ∷ []) c.to_le_bytes.result body
          ∙ append_assoc old (c.kind.result ∷ []) (c.to_le_bytes.result ++ body)
          ∙ ap (λ (k : ℕ). old ++ (k ∷ (c.to_le_bytes.result ++ body))) c.kind.ensures.kind
          ∙ ap (λ (xs : List ℕ). old ++ (kind_of c.args.r.now ∷ (xs ++ body))) size;
    }
