-- A content is a journal of one list of records, or is damaged at one place, or has not the header, whatever its moments are.
use Rattle.std.proofs.Common.{◌≡◌, ℕ, List, sym, ap, ◌∙◌}
use Rattle.jr_record.specs.declared.record.Record.{Record}
use Rattle.jr_dated.specs.Dated.{Dated, undated}
use Rattle.jr_dated.specs.Images.{IsDamaged, IsNotFormatted}
use Rattle.jr_dated.proofs.Verdicts as dated
use Rattle.cmd_session.specs.Journals.{IsJournal}

pub record AtMostOneVerdict : Type 0 where
  pub one_list : (image : List ℕ) (h k : List Record) → IsJournal image h → IsJournal image k → h ≡ k
  pub whole : (image : List ℕ) (h : List Record) (at : ℕ) → IsJournal image h → IsDamaged image at → ⊥
  pub formatted : (image : List ℕ) (h : List Record) → IsJournal image h → IsNotFormatted image → ⊥

pub at_most_one_verdict : AtMostOneVerdict
at_most_one_verdict = record {
  one_list = λ image h k is_h is_k. sym is_h.2 ∙ (ap (λ (ds : List Dated). undated ds) (dated.at_most_one_verdict.one_list image is_h.0 is_k.0 is_h.1 is_k.1) ∙ is_k.2);
  whole = λ image h at is damaged. dated.at_most_one_verdict.whole image is.0 at is.1 damaged;
  formatted = λ image h is broken. dated.at_most_one_verdict.formatted image is.0 is.1 broken;
}
