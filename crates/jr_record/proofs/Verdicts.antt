-- An image holds at most one list of records, or is damaged at one place, or is not formatted.
use Rattle.std.proofs.Common.{◌≡◌, ◌≢◌, ℕ, List, [], ◌∷◌, ◌++◌, length, refl, sym, ap, ◌∙◌, arith, append_assoc, length-append, take}
use Rattle.std.proofs.lemmas.List.{append_cancel_left}
use Rattle.std.specs.List.{AllByRecursion}
use Rattle.jr_record.specs.Images.{gated, header, Breaks, ImageHolds, ImageDamaged}
use Rattle.jr_record.specs.Laws.{AtMostOneVerdict}
use Rattle.jr_record.specs.Records.{IsRecord, spelled}
use Rattle.jr_record.proofs.Spelling.{one}

module _ {R : Type 0} (Legal : R → Type 0) (spell : R → List ℕ) (one : (r s : R) (a b : List ℕ) → Legal r → Legal s → spell r ++ a ≡ spell s ++ b → (r ≡ s) × (a ≡ b)) where
  -- the same bytes begin with the same records, as far as both go
  pub same_records : (h k : List R) (x y : List ℕ) (c d : ℕ) → AllByRecursion Legal h → AllByRecursion Legal k → c ≢ 1 → d ≢ 1
      → gated spell h ++ c ∷ x ≡ gated spell k ++ d ∷ y → h ≡ k
  same_records [] [] x y c d all_h all_k shut_c shut_d e = refl
  same_records [] (s ∷ k) x y c d all_h all_k shut_c shut_d e = let gate : c ≡ 1 = cc in absurd (shut_c gate)
  same_records (r ∷ h) [] x y c d all_h all_k shut_c shut_d e = let gate : d ≡ 1 = cc in absurd (shut_d gate)
  same_records (r ∷ h) (s ∷ k) x y c d all_h all_k shut_c shut_d e =
      let tails : (spell r ++ gated spell h) ++ c ∷ x ≡ (spell s ++ gated spell k) ++ d ∷ y = cc in
      let both = one r s (gated spell h ++ c ∷ x) (gated spell k ++ d ∷ y) all_h.0 all_k.0
      (sym (append_assoc (spell r) (gated spell h) (c ∷ x)) ∙ tails ∙ append_assoc (spell s) (gated spell k) (d ∷ y)) in
      let rest = same_records h k x y c d all_h.1 all_k.1 shut_c shut_d both.1 in
      cc (both.0, rest)

  -- where the records end, no other record goes on
  pub no_record : (h : List R) (x y : List ℕ) → AllByRecursion Legal h → Breaks Legal spell y → gated spell h ++ x ≡ y → (gated spell h ≡ []) × (h ≡ [])
  no_record [] x y all breaks e = (refl, refl)
  no_record (r ∷ h) x [] all breaks e = absurd (cc (e))
  no_record (r ∷ h) x (g ∷ y) all breaks e =
      let tails : (spell r ++ gated spell h) ++ x ≡ y = cc in
      absurd (breaks.1 r (gated spell h ++ x) all.0 (sym (append_assoc (spell r) (gated spell h) x) ∙ tails))

  -- two damages are at one place
  pub same_damage : (h k : List R) (x y : List ℕ) → AllByRecursion Legal h → AllByRecursion Legal k → Breaks Legal spell x → Breaks Legal spell y
      → gated spell h ++ x ≡ gated spell k ++ y → length (gated spell h) ≡ length (gated spell k)
  same_damage [] k x y all_h all_k breaks_x breaks_y e = ap length (sym (no_record k y x all_k breaks_x (sym e)).0)
  same_damage (r ∷ h) [] x y all_h all_k breaks_x breaks_y e = ap length (no_record (r ∷ h) x y all_h breaks_y e).0
  same_damage (r ∷ h) (s ∷ k) x y all_h all_k breaks_x breaks_y e =
      let tails : (spell r ++ gated spell h) ++ x ≡ (spell s ++ gated spell k) ++ y = cc in
      let both = one r s (gated spell h ++ x) (gated spell k ++ y) all_h.0 all_k.0
      (sym (append_assoc (spell r) (gated spell h) x) ∙ tails ∙ append_assoc (spell s) (gated spell k) y) in
      let rest = same_damage h k x y all_h.1 all_k.1 breaks_x breaks_y both.1 in
      ap (λ (z : R). length (1 ∷ spell z ++ gated spell h)) both.0
      ∙ omega (arith, length-append (spell s) (gated spell h), length-append (spell s) (gated spell k), rest)

  -- what is closed is not damaged
  pub closed_whole : (h k : List R) (x y : List ℕ) (c : ℕ) → AllByRecursion Legal h → AllByRecursion Legal k → c ≢ 1 → Breaks Legal spell y
      → gated spell h ++ c ∷ x ≡ gated spell k ++ y → ⊥
  closed_whole [] [] x [] c all_h all_k shut breaks e = cc (e)
  closed_whole [] [] x (g ∷ y) c all_h all_k shut breaks e = let gate : c ≡ g = cc in shut (gate ∙ breaks.0)
  closed_whole [] (s ∷ k) x y c all_h all_k shut breaks e = let gate : c ≡ 1 = cc in shut gate
  closed_whole (r ∷ h) [] x y c all_h all_k shut breaks e =
      let none = (no_record (r ∷ h) (c ∷ x) y all_h breaks e).1 in cc (none)
  closed_whole (r ∷ h) (s ∷ k) x y c all_h all_k shut breaks e =
      let tails : (spell r ++ gated spell h) ++ c ∷ x ≡ (spell s ++ gated spell k) ++ y = cc in
      let both = one r s (gated spell h ++ c ∷ x) (gated spell k ++ y) all_h.0 all_k.0
      (sym (append_assoc (spell r) (gated spell h) (c ∷ x)) ∙ tails ∙ append_assoc (spell s) (gated spell k) y) in
      closed_whole h k x y c all_h.1 all_k.1 shut breaks both.1

  module _ (header : List ℕ) where
    behind_header : (a b x y : List ℕ) → header ++ a ++ x ≡ header ++ b ++ y → a ++ x ≡ b ++ y
    behind_header a b x y e = append_cancel_left header (a ++ x) (b ++ y) (sym (append_assoc header a x) ∙ e ∙ append_assoc header b y)

    pub one_list : (image : List ℕ) (h k : List R) → ImageHolds header Legal spell image h → ImageHolds header Legal spell image k → h ≡ k
    one_list image h k a b = same_records h k a.behind b.behind a.closed b.closed a.legal b.legal a.is_closed b.is_closed
        (behind_header (gated spell h) (gated spell k) (a.closed ∷ a.behind) (b.closed ∷ b.behind) (sym a.whole ∙ b.whole))

    pub one_place : (image : List ℕ) (m n : ℕ) → ImageDamaged header Legal spell image m → ImageDamaged header Legal spell image n → m ≡ n
    one_place image m n a b =
        let sizes = same_damage a.records b.records a.rest b.rest a.legal b.legal a.breaks b.breaks
        (behind_header (gated spell a.records) (gated spell b.records) a.rest b.rest (sym a.whole ∙ b.whole)) in
        omega (arith, a.place, b.place, sizes)

    pub whole : (image : List ℕ) (h : List R) (n : ℕ) → ImageHolds header Legal spell image h → ImageDamaged header Legal spell image n → ⊥
    whole image h n a b = closed_whole h b.records a.behind b.rest a.closed a.legal b.legal a.is_closed b.breaks
        (behind_header (gated spell h) (gated spell b.records) (a.closed ∷ a.behind) b.rest (sym a.whole ∙ b.whole))

pub at_most_one_verdict : AtMostOneVerdict
at_most_one_verdict = record {
  one_list = one_list IsRecord spelled one header;
  one_place = one_place IsRecord spelled one header;
  whole = whole IsRecord spelled one header;
  formatted = λ image h held broken. broken (ap (λ (xs : List ℕ). take 16 xs) held.whole);
  damaged = λ image at held broken. broken (ap (λ (xs : List ℕ). take 16 xs) held.whole);
}
