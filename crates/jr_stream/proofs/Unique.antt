-- What an image has of a journal is one list of records with one end.
use Rattle.std.proofs.Common.{◌≡◌, ℕ, List, [], ◌∷◌, ◌++◌, take, refl, sym, ap, ◌∙◌, append_assoc}
use Rattle.std.proofs.lemmas.List.{append_cancel_left}
use Rattle.std.specs.List.{AllByRecursion}
use Rattle.jr_record.specs.declared.record.Record.{Record}
use Rattle.jr_record.specs.Images.{gated, Breaks}
use Rattle.jr_record.specs.Laws.{AtMostOneRecord}
use Rattle.jr_record.proofs.Verdicts.{one_list, no_record, whole}
use Rattle.jr_dated.specs.declared.formats.Format.{Format}
use Rattle.jr_dated.specs.declared.formats.Format.TheVariants.{One, Two}
use Rattle.jr_dated.specs.Dated.{Dated, stamped}
use Rattle.jr_dated.specs.Formats.{header_of, LegalIn, spelled_in, IsNotFormattedIn}
use Rattle.jr_dated.proofs.Spelling.{one as one_dated}
use Rattle.jr_stream.specs.Images.{place_behind, HasRecords, IsDamagedBehind}
use Rattle.jr_stream.specs.Laws.{HasOneReading}
use Rattle.jr_stream.specs.declared.reader.End.{End}
use Rattle.jr_stream.specs.declared.reader.End.TheVariants.{Closed, Damaged}

-- at most one record is spelled at the front of given bytes
one_in : AtMostOneRecord → (format : Format) (d e : Dated) (a b : List ℕ) → LegalIn format d → LegalIn format e → spelled_in format d ++ a ≡ spelled_in format e ++ b → (d ≡ e) × (a ≡ b)
one_in one_plain One d e a b legal_d legal_e same =
    let both = one_plain d.what e.what a b legal_d.0 legal_e.0 same in
    let whats : d.what ≡ e.what = both.0 in
    let moments : d.moment ≡ e.moment = legal_d.1 ∙ sym legal_e.1 in
    (dated d e whats moments, both.1)
  where
    dated : (d e : Dated) → d.what ≡ e.what → d.moment ≡ e.moment → d ≡ e
    dated d e whats moments = ap (λ (r : Record). stamped d.moment r) whats ∙ ap (λ (m : ℕ). stamped m e.what) moments
one_in one_plain Two d e a b legal_d legal_e same = one_dated d e a b legal_d legal_e same

fronts : (format : Format) (behind : List ℕ) → take 16 (header_of format ++ behind) ≡ header_of format
fronts One behind = refl
fronts Two behind = refl

module _ (one_plain : AtMostOneRecord) (format : Format) where
  -- the records before two damages
  same_until : (h k : List Dated) (x y : List ℕ) → AllByRecursion (LegalIn format) h → AllByRecursion (LegalIn format) k → Breaks (LegalIn format) (spelled_in format) x
      → Breaks (LegalIn format) (spelled_in format) y → gated (spelled_in format) h ++ x ≡ gated (spelled_in format) k ++ y → h ≡ k
  same_until [] [] x y all_h all_k breaks_x breaks_y e = refl
  same_until [] (s ∷ k) x y all_h all_k breaks_x breaks_y e = sym (no_record (LegalIn format) (spelled_in format) (one_in one_plain format) (s ∷ k) y x all_k breaks_x (sym e)).1
  same_until (r ∷ h) [] x y all_h all_k breaks_x breaks_y e = (no_record (LegalIn format) (spelled_in format) (one_in one_plain format) (r ∷ h) x y all_h breaks_y e).1
  same_until (r ∷ h) (s ∷ k) x y all_h all_k breaks_x breaks_y e =
      let tails : (spelled_in format r ++ gated (spelled_in format) h) ++ x ≡ (spelled_in format s ++ gated (spelled_in format) k) ++ y = cc in
      let both = one_in one_plain format r s (gated (spelled_in format) h ++ x) (gated (spelled_in format) k ++ y) all_h.0 all_k.0
      (sym (append_assoc (spelled_in format r) (gated (spelled_in format) h) x) ∙ tails ∙ append_assoc (spelled_in format s) (gated (spelled_in format) k) y) in
      let rest = same_until h k x y all_h.1 all_k.1 breaks_x breaks_y both.1 in
      cc (both.0, rest)

  same_damaged : (image : List ℕ) (h k : List Dated) → IsDamagedBehind format image h → IsDamagedBehind format image k → h ≡ k
  same_damaged image h k a b =
      let front : gated (spelled_in format) a.damaged.records ++ a.damaged.rest ≡ gated (spelled_in format) b.damaged.records ++ b.damaged.rest =
      append_cancel_left (header_of format) _ _
      (sym (append_assoc (header_of format) (gated (spelled_in format) a.damaged.records) a.damaged.rest) ∙ sym a.damaged.whole ∙ b.damaged.whole
      ∙ append_assoc (header_of format) (gated (spelled_in format) b.damaged.records) b.damaged.rest) in
      sym a.records_are
      ∙ same_until a.damaged.records b.damaged.records a.damaged.rest b.damaged.rest a.damaged.legal b.damaged.legal a.damaged.breaks b.damaged.breaks front
      ∙ b.records_are

  one_end : (image : List ℕ) (h k : List Dated) (a b : End) → HasRecords format image h a → HasRecords format image k b → (h ≡ k) × (a ≡ b)
  one_end image h k (Closed m) (Closed n) p q =
      let same = one_list (LegalIn format) (spelled_in format) (one_in one_plain format) (header_of format) image h k p.0 q.0 in
      (same, ap Closed (p.1 ∙ ap (place_behind format) same ∙ sym q.1))
  one_end image h k (Closed m) (Damaged n) p q = absurd (whole (LegalIn format) (spelled_in format) (one_in one_plain format) (header_of format) image h q.0.place p.0 q.0.damaged)
  one_end image h k (Damaged m) (Closed n) p q = absurd (whole (LegalIn format) (spelled_in format) (one_in one_plain format) (header_of format) image k p.0.place q.0 p.0.damaged)
  one_end image h k (Damaged m) (Damaged n) p q =
      let same = same_damaged image h k p.0 q.0 in
      (same, ap Damaged (p.1 ∙ ap (place_behind format) same ∙ sym q.1))

  begins : (image : List ℕ) (h : List Dated) (a : End) → HasRecords format image h a → IsNotFormattedIn format image → ⊥
  begins image h (Closed n) p broken = broken (ap (λ (xs : List ℕ). take 16 xs) (p.0.whole ∙ append_assoc (header_of format) (gated (spelled_in format) h) (p.0.closed ∷ p.0.behind))
      ∙ fronts format (gated (spelled_in format) h ++ p.0.closed ∷ p.0.behind))
  begins image h (Damaged n) p broken = broken (ap (λ (xs : List ℕ). take 16 xs) (p.0.damaged.whole ∙ append_assoc (header_of format) (gated (spelled_in format) p.0.damaged.records) p.0.damaged.rest)
      ∙ fronts format (gated (spelled_in format) p.0.damaged.records ++ p.0.damaged.rest))

pub has_one_reading : AtMostOneRecord → HasOneReading
has_one_reading one_plain = record { one = one_end one_plain; formatted = begins one_plain }
