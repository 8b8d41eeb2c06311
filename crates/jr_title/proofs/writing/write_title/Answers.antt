use Rattle.std.proofs.Common.{◌≡◌, ℕ, List, ◌++◌, length, take, replicate, ap, ◌∙◌, arith}
use Rattle.std.specs.Int.{w16, w32, w64, to_le_bytes}
use Rattle.jr_title.specs.Titles.{magic, codes_of, version_of, reference_of, front_of}
use Rattle.jr_title.proofs.Written.{behind, summed}
use Rattle.jr_title.proofs.writing.write_title.Goals as goal

pub returns : goal.returns
unfolding front_of
returns c =
    let t = c.args.title.now in
    let who = t.binding.who_sends in
    let version : c.to_le_bytes.result ≡ to_le_bytes w16 (version_of who) = c.to_le_bytes.ensures ∙ ap (to_le_bytes w16) c.version.ensures in
    let reference : c.to_le_bytes-2.result ≡ to_le_bytes w64 (reference_of who) = c.to_le_bytes-2.ensures ∙ ap (to_le_bytes w64) c.reference.ensures in
    let was_8 : take c.put-at_8.result c.put-at_8.new.out ≡ magic = c.put-at_8.ensures.front in
    let was_14 : take c.put-at_14.result c.put-at_14.new.out ≡ magic ++ codes_of t =
    c.put-at_14.ensures.front ∙ behind (take c.put-at_8.result c.put-at_8.new.out) c.codes.result magic (codes_of t) was_8 c.codes.ensures.value in
    let was_16 = c.put-at_16.ensures.front ∙ behind (take c.put-at_14.result c.put-at_14.new.out) c.to_le_bytes.result (magic ++ codes_of t) (to_le_bytes w16 (version_of who)) was_14 version in
    let was_32 = c.put-at_32.ensures.front ∙ ap (λ (xs : List ℕ). xs ++ t.binding.session) was_16 in
    let was_40 =
    c.put-at_40.ensures.front
    ∙ behind (take c.put-at_32.result c.put-at_32.new.out) c.to_le_bytes-2.result (magic ++ codes_of t ++ to_le_bytes w16 (version_of who) ++ t.binding.session)
    (to_le_bytes w64 (reference_of who)) was_32 reference in
    let was_48 =
    c.put-at_48.ensures.front
    ∙ behind (take c.put-at_40.result c.put-at_40.new.out) c.to_le_bytes-3.result
    (magic ++ codes_of t ++ to_le_bytes w16 (version_of who) ++ t.binding.session ++ to_le_bytes w64 (reference_of who)) (to_le_bytes w64 t.pair) was_40 c.to_le_bytes-3.ensures in
    let was_60 : take c.put-at_60.result c.put-at_60.new.out ≡ front_of t =
    c.put-at_60.ensures.front ∙ ap (λ (xs : List ℕ). xs ++ replicate 12 0) was_48 in
    let sum = c.to_le_bytes-4.ensures ∙ ap (to_le_bytes w32) c.crc32c-sum.ensures.value in
    let from : c.put-at_60.result ≡ 60 =
    omega (
      arith,
      c.put-at_8.ensures.end,
      c.put-at_14.ensures.end,
      c.put-at_16.ensures.end,
      c.put-at_32.ensures.end,
      c.put-at_40.ensures.end,
      c.put-at_48.ensures.end,
      c.put-at_60.ensures.end,
      ap length c.codes.ensures.value,
      ap length c.to_le_bytes.ensures,
      ap length c.to_le_bytes-2.ensures,
      ap length c.to_le_bytes-3.ensures,
    ) in
    let end : c.put.result ≡ 64 = omega (arith, from, c.put.ensures.end, ap length c.to_le_bytes-4.ensures) in
    let size : length c.put.new.out ≡ 64 = omega arith in
    record { image = summed t c.put.new.out c.put-at_60.new.out c.to_le_bytes-4.result c.put.result c.put-at_60.result end from size was_60 sum c.put.ensures.front }
