-- A record of which few neighbouring bytes were changed has another sum.
use Rattle.std.proofs.Common.{◌≡◌, ℕ, ◌^◌, ◌<◌, List, [], ◌∷◌, ◌++◌, length, sym, ap, ◌∙◌, subst, arith, append_assoc, length-append, lit<}
use Rattle.std.proofs.lemmas.Nat.{xor_of_32}
use Rattle.std.specs.List.{fold}
use Rattle.crc32c.specs.Laws.{AreBytes}
use Rattle.crc32c.specs.Sums.{all_set, with_byte, crc_from, crc_of}
use Rattle.crc32c.proofs.Bursts.{bytes_within, short_changes as sums_differ}
use Rattle.jr_moments.specs.Dated.{spelled}
use Rattle.jr_moments.proofs.Spelling.{same_4, same_front}
use Rattle.jr_summed.specs.Laws.{ShortChangesShow}
use Rattle.jr_summed.specs.Summed.{sum_of}

both_bytes : (a b : List ℕ) → AreBytes a → AreBytes b → AreBytes (a ++ b)
both_bytes [] b all_a all_b = all_b
both_bytes (x ∷ a) b all_a all_b = (all_a.0, both_bytes a b all_a.1 all_b)

-- a sum has 32 bits
within : (bytes : List ℕ) → AreBytes bytes → crc_of bytes < 2 ^ 32
unfolding crc_from
within bytes all = xor_of_32 all_set (fold with_byte all_set bytes) (lit< tt) (bytes_within all_set bytes (lit< tt) all)

pub short_changes : ShortChangesShow
short_changes d e front old new back sum behind all_front all_old all_new all_back n short differ was s same =
    let before = front ++ old ++ back in
    let now = front ++ new ++ back in
    let lengths : length (spelled e) ≡ length now =
    omega (arith, same, ap length was, n, length-append (front ++ old) back, length-append front old, length-append (front ++ new) back, length-append front new) in
    let both = same_front (spelled e) now (sum ++ s.behind) (sum_of d ++ behind) lengths (s.whole ∙ append_assoc now (sum_of d) behind) in
    let sums : sum ≡ sum_of d = (same_front sum (sum_of d) s.behind behind s.size both.1).0 in
    let small_e : crc_of (spelled e) < 2 ^ 32 =
    subst (λ (xs : List ℕ). crc_of xs < 2 ^ 32) (sym both.0) (within now (both_bytes (front ++ new) back (both_bytes front new all_front all_new) all_back)) in
    let small_d : crc_of (spelled d) < 2 ^ 32 =
    subst (λ (xs : List ℕ). crc_of xs < 2 ^ 32) was (within before (both_bytes (front ++ old) back (both_bytes front old all_front all_old) all_back)) in
    let crcs : sum ≡ sum_of e → crc_of (spelled e) ≡ crc_of (spelled d) =
    λ own. same_4 (crc_of (spelled e)) (crc_of (spelled d)) small_e small_d (sym own ∙ sums) in
    record {
      what = e;
      sum = sum;
      stands = s;
      other = λ own. sums_differ front old new back all_front all_old all_new all_back n short differ (ap crc_of was ∙ sym (crcs own) ∙ ap crc_of both.0);
    }
