-- What the bytes of added records leave behind the old ones.
use Rattle.std.proofs.Common.{◌≡◌, ◌⊎◌, ⊎_elim, inl, inr, ℕ, ◌+◌, ◌-◌, ◌*◌, ◌<◌, ◌≤◌, ◌^◌, List, [], ◌∷◌, ◌++◌, Option, Some, false, length, take, refl, sym, ◌∙◌, ap, subst, arith, length-append}
use Rattle.std.proofs.Math.Logic.{∥∥₁_elim}
use Rattle.std.proofs.lemmas.List.{append-nil, take_at}
use Rattle.std.specs.Coded.{le_prop}
use Rattle.std.specs.List.{AllByRecursion}
use Rattle.std.specs.Option.{ForSome}
use Rattle.gw_outside.specs.declared.disk.Disk.{Ghosts}
use Rattle.jr_record.specs.declared.record.Record.{Record}
use Rattle.jr_record.specs.Records.{IsRecord}
use Rattle.jr_record.specs.Images.{gated}
use Rattle.jr_segments.specs.Behind.{IsClosedBehind, GoesOn, AllClosed}
use Rattle.jr_dated.specs.Dated.{Dated, IsDated, dated, undated, spelled, latest_of}
use Rattle.jr_dated.specs.Images.{IsJournal, sizes, journal_size}
use Rattle.jr_dated.specs.declared.formats.Format.TheVariants.{Two}
use Rattle.jr_places.specs.Numbers.{numbers_of}
use Rattle.jr_segments.specs.Resting.{Keeps, SomeRest, front_of}
use Rattle.jr_segments.proofs.Fronts.{holds_closed, goes_on_holds, dated_legal, length-front_of, length-gated, length-gated-dated, length-dated, first_gate, places_are, latest_within, two_each}
use Rattle.jr_segments.specs.Lawful.{length-places_from, length-undated}
use Rattle.jr_segments.specs.Settled.{closed_holds}
use Rattle.jr_segments.specs.Journal.{HasAdded}
use Rattle.jr_segments.specs.Opening.{IsFound}
use Rattle.jr_segments.specs.declared.journal.SegJournal.{SegJournal}
use Rattle.jr_segments.specs.declared.scan.Found.{Found}

-- where the closed byte stands
pub place_is : (h : List Dated) (size : ℕ) → journal_size (undated h) ≡ size → size - 1 ≡ length (front_of h)
place_is h size sized = omega (arith, sized, length-front_of h, length-gated h)

module _ (size moment : ℕ) (rs : List Record) (bytes : List ℕ) (is : bytes ≡ gated spelled (dated moment rs) ++ 0 ∷ []) where
  pub bytes_are : length bytes ≡ sizes rs + 1
  bytes_are = omega (arith, ap length is, length-append (gated spelled (dated moment rs)) (0 ∷ []), length-gated-dated moment rs)

  pub gate_is : 0 < length rs → take 1 bytes ≡ 1 ∷ []
  gate_is some = first_gate (dated moment rs) bytes (omega (arith, length-dated moment rs)) is

  module _ (early : moment < 2 ^ 44) (legal : AllByRecursion IsRecord rs) where
    pub goes_closed : (h : List Dated) → AllByRecursion IsDated h → (image : List ℕ) → GoesOn (front_of h) bytes image → IsClosedBehind (front_of (h ++ dated moment rs)) image
    goes_closed h all image goes_on = holds_closed (h ++ dated moment rs) image (goes_on_holds h (dated moment rs) bytes image all (dated_legal moment rs early legal) is goes_on)

    pub either : (h : List Dated) → AllByRecursion IsDated h → (image : List ℕ) → IsClosedBehind (front_of h) image ⊎ GoesOn (front_of h) bytes image
        → IsJournal image h ⊎ IsJournal image (h ++ dated moment rs)
    either h all image left = ⊎_elim
        (λ closed. inl (closed_holds h image all closed))
        (λ goes_on. inr (goes_on_holds h (dated moment rs) bytes image all (dated_legal moment rs early legal) is goes_on))
        left

-- the closed byte stands within the content
pub within_content : (told : Option (List ℕ)) (places : List ℕ) (size moment : ℕ) (may_leave : List ℕ → Type 0) → ((content : List ℕ) → told ≡ Some content → may_leave content)
    → SomeRest places size moment may_leave → ForSome told (λ content. size - 1 < length content)
within_content told places size moment may_leave left some content is = ∥∥₁_elim some le_prop (λ found.
    omega (arith, place_is found.0 size found.1.keeps.sized, (found.1.closed content (left content is)).longer))

-- no records were added
pub added_none : {D : Type 0} {G : Ghosts D} (j : SegJournal D G) (rs : List Record) → rs ≡ [] → j.broken ≡ false → HasAdded {D = D} {G = G} j j rs
added_none {G = G} j rs none sound = subst (λ (xs : List Record). HasAdded j j xs) (sym none) (record {
  places = sym (append-nil (numbers_of j.places));
  size = omega arith;
  moment = refl;
  sound = sound;
  limits = refl;
  quiet = refl;
  closed = λ h legal sized closed. subst (λ (ds : List Dated). AllClosed (front_of ds) (G.may_leave j.disk)) (sym (append-nil h)) closed;
})

-- cut back to the old places
pub cut_places : (old new shortened more : List ℕ) (n : ℕ) → n ≡ length old → new ≡ old ++ more → shortened ≡ take n new → shortened ≡ old
cut_places old new shortened more n count grown is = is ∙ ap (λ (ns : List ℕ). take n ns) grown ∙ take_at old more n (sym count)

-- what a scan found is kept
module _ (told : Option (List ℕ)) (found : Found) (is : IsFound Two told found) where
  pub found_keeps : Keeps (numbers_of found.index.places) found.size found.index.moment is.records
  found_keeps = record {
    legal = is.legal;
    places_are = is.places ∙ places_are 16 is.records;
    sized = omega (arith, is.sized, length-gated is.records);
    latest = latest_within is.records found.index.moment (omega (arith, is.moment));
  }

  pub found_closed : (may_leave : List ℕ → Type 0) → ((content : List ℕ) → may_leave content → told ≡ Some content) → AllClosed (front_of is.records) may_leave
  found_closed may_leave settled image left = holds_closed is.records image (is.content image (settled image left))

  pub found_early : found.index.moment < 2 ^ 44
  found_early = omega (arith, is.moment, early is.records is.legal)
    where
      early : (h : List Dated) → AllByRecursion IsDated h → latest_of h < 2 ^ 44
      early [] all = omega arith
      early (d ∷ h) all = omega (arith, all.0.1, early h all.1)

  pub found_few : 2 * length (numbers_of found.index.places) + 17 ≤ found.size
  found_few = omega (arith, found_keeps.sized, ap length found_keeps.places_are, length-places_from 16 (undated is.records), length-undated is.records, two_each is.records)
