-- An image holds at most one list of dated records, or is damaged at one place, or is not formatted; and it is of one format.
use Rattle.std.proofs.Common.{◌≡◌, ℕ, List, ◌++◌, take, get_or, sym, ap, ◌∙◌, arith}
use Rattle.jr_record.proofs.Verdicts.{one_list, one_place, whole}
use Rattle.jr_dated.specs.Dated.{Dated, IsDated, spelled}
use Rattle.jr_dated.specs.Images.{header}
use Rattle.jr_dated.specs.Laws.{AtMostOneVerdict, AtMostOneFormat}
use Rattle.jr_dated.proofs.Spelling.{one}

pub one_at_front : (d e : Dated) (behind_d behind_e : List ℕ) → IsDated d → IsDated e → spelled d ++ behind_d ≡ spelled e ++ behind_e → (d ≡ e) × (behind_d ≡ behind_e)
one_at_front = one

pub at_most_one_verdict : AtMostOneVerdict
at_most_one_verdict = record {
  one_list = one_list IsDated spelled one header;
  one_place = one_place IsDated spelled one header;
  whole = whole IsDated spelled one header;
  formatted = λ image h held broken. broken (ap (λ (xs : List ℕ). take 16 xs) held.whole);
  damaged = λ image at held broken. broken (ap (λ (xs : List ℕ). take 16 xs) held.whole);
}

pub at_most_one_format : AtMostOneFormat
at_most_one_format image h k plain dated =
    let last : ◌≡◌ {A = ℕ} 0x31 0x32 = ap (λ (xs : List ℕ). get_or xs 7 0) (sym plain.whole ∙ dated.whole) in omega (arith, last)
