use Rattle.std.proofs.Common.{◌≡◌, ℕ, List, ◌++◌, sym, ap, ap₂, ◌∙◌}
use Rattle.std.specs.Int.{w32, to_le_bytes}
use Rattle.crc32c.specs.Sums.{crc_of}
use Rattle.jr_moments.specs.Dated.{stamped, spelled}
use Rattle.jr_summed.specs.Summed.{sum_of}
use Rattle.jr_summed.proofs.Finding.{summed_is}
use Rattle.jr_summed.proofs.writing.with_sum.Goals as goal

pub returns : goal.returns
returns c =
    let d = stamped c.args.moment c.args.r.now in
    let is : c.write_record.new.out ≡ spelled d = c.in_ok-write_record.ensures.ok ∙ ap (λ (xs : List ℕ). xs ++ spelled d) c.new-bytes.ensures in
    let number : c.crc32c-sum.result ≡ crc_of (spelled d) = c.crc32c-sum.ensures.value ∙ ap crc_of (c.as_slice.ensures ∙ is) in
    let sum : c.to_le_bytes.result ≡ sum_of d = c.to_le_bytes.ensures ∙ ap (λ (n : ℕ). to_le_bytes w32 n) number in
    record { bytes = c.in_ok-extend_from_slice.ensures.ok ∙ ap₂ ◌++◌ is sum ∙ sym (summed_is d) }
