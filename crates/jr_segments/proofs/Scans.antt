-- Reading on: what was taken, and what is left.
use Rattle.std.proofs.Common.{◌≡◌, inl, inr, ◌⊎◌, ℕ, ◌+◌, ◌-◌, ◌<◌, ◌≤◌, ◌^◌, max, Bool, true, false, List, [], ◌∷◌, ◌++◌, Option, Some, None, length, take, drop, refl, sym, ◌∙◌, ap, subst, arith, append_assoc, length-append, take-append-drop}
use Rattle.std.proofs.lemmas.List.{append-nil, drop_all, drop-drop, length-take, take-take}
use Rattle.std.specs.Option.{ForSome}
use Rattle.std.specs.Prelude.{IfSome, nat_eq}
use Rattle.gw_outside.specs.Disk.{ReadsAt}
use Rattle.jr_record.specs.declared.record.Record.{Record}
use Rattle.jr_record.specs.declared.faults.OpenFault.{OpenFault}
use Rattle.jr_record.specs.declared.faults.OpenFault.TheVariants.{Memory, Fault, NotFormatted, Damaged}
use Rattle.jr_record.specs.Images.{gated, Breaks, IsClosed}
use Rattle.std.proofs.lemmas.Bool.Decides.{nat_tests}
use Rattle.jr_dated.specs.declared.formats.Format.{Format}
use Rattle.jr_dated.specs.Dated.{Dated, stamped}
use Rattle.jr_dated.specs.Formats.{header_of, LegalIn, spelled_in, IsDamagedIn}
use Rattle.jr_dated.proofs.Sizes.{length-header, most_in}
use Rattle.jr_places.specs.Numbers.{numbers_of}
use Rattle.jr_segments.specs.Opening.{places_by, Refuses, LacksHeader, Takes, IsRead, IsFound}
use Rattle.jr_segments.specs.declared.index.Index.{Index}
use Rattle.jr_segments.specs.declared.scan.Found.{Found}
use Rattle.jr_segments.specs.Crossing.{all-append}
use Rattle.jr_segments.proofs.Fronts.{gated-append, places-append, latest-append}

-- a list at the front of another that is long enough is at the front of its front
fits_front : (a b x y : List ℕ) → length a ≤ length x → a ++ b ≡ x ++ y → (z : List ℕ) × (a ++ z ≡ x)
fits_front [] b x y short e = (x, refl)
fits_front (c ∷ a) b [] y short e = absurd (omega arith)
fits_front (c ∷ a) b (d ∷ x) y short e =
    let head : c ≡ d = cc in
    let tail : a ++ b ≡ x ++ y = cc in
    let found = fits_front a b x y (omega arith) tail in (found.0, cc (head, found.1))

-- what was read of a content that is told
pub told_reads : (told : Option (List ℕ)) (at : ℕ) (piece : List ℕ) (count : ℕ) → IfSome told (λ content. ReadsAt content at piece count) → ForSome told (λ content. ReadsAt content at piece count)
told_reads None at piece count reads content is = absurd (cc (is))
told_reads (Some other) at piece count reads content is = let same : other ≡ content = cc in subst (λ (xs : List ℕ). ReadsAt xs at piece count) same reads

-- bytes that are too few for the header, and such as begin otherwise
pub too_short : (format : Format) (first : List ℕ) → length first < 16 → take 16 first ≡ header_of format → ⊥
too_short format first short is = omega (arith, ap length is, length-take 16 first, length-header format)

pub another : (format : Format) (first front header : List ℕ) → front ≡ take 16 first → (front ≡ header → ⊥) → header ≡ header_of format → take 16 first ≡ header_of format → ⊥
another format first front header cut other is begins = other (cut ∙ begins ∙ sym is)

module _ (format : Format) where
  abbrev Legal : Dated → Type 0
  Legal = LegalIn format

  abbrev spell : Dated → List ℕ
  spell = spelled_in format

  abbrev front : List Dated → List ℕ
  front records = header_of format ++ gated spell records

  -- one record more was taken
  pub takes_more : (held : List ℕ) (at place : ℕ) (old middle new : Index) (rest behind : List ℕ) (r : Record) (moment : ℕ) → Legal (stamped moment r)
      → rest ≡ 1 ∷ (spell (stamped moment r) ++ behind) → place + length rest ≡ at + length held → numbers_of new.places ≡ numbers_of middle.places ++ place ∷ [] → new.moment ≡ max middle.moment moment
      → Takes format held at old middle rest → Takes format held at old new behind
  takes_more held at place old middle new rest behind r moment legal is where_is places moments takes =
      let d = stamped moment r in
      let here : at + length (gated spell takes.added) ≡ place = omega (arith, where_is, ap length takes.split, length-append (gated spell takes.added) rest) in
      record {
        added = takes.added ++ d ∷ [];
        legal = all-append Legal takes.added (d ∷ []) takes.legal (legal, tt);
        split =
            let last : 1 ∷ (spell d ++ behind) ≡ gated spell (d ∷ []) ++ behind = ap (λ (xs : List ℕ). 1 ∷ (xs ++ behind)) (sym (append-nil (spell d))) in
            takes.split ∙ ap (λ (xs : List ℕ). gated spell takes.added ++ xs) (is ∙ last)
            ∙ sym (append_assoc (gated spell takes.added) (gated spell (d ∷ [])) behind) ∙ ap (λ (xs : List ℕ). xs ++ behind) (sym (gated-append spell takes.added (d ∷ [])));
        places =
            places ∙ ap (λ (ns : List ℕ). ns ++ place ∷ []) takes.places
            ∙ append_assoc (numbers_of old.places) (places_by spell at takes.added) (place ∷ [])
            ∙ ap (λ (n : ℕ). numbers_of old.places ++ (places_by spell at takes.added ++ n ∷ [])) (sym here)
            ∙ ap (λ (ns : List ℕ). numbers_of old.places ++ ns) (sym (places-append spell at takes.added (d ∷ [])));
        moment = omega (arith, moments, takes.moment, latest-append takes.added (d ∷ []));
      }

  -- nothing was taken yet
  pub takes_none : (held : List ℕ) (at : ℕ) (index : Index) → Takes format held at index index held
  takes_none held at index = record { added = []; legal = tt; split = refl; places = sym (append-nil (numbers_of index.places)); moment = omega arith }

  -- what is damaged stays so, whatever follows
  pub damaged_stays : (rest : List ℕ) (more : Bool) → (more ≡ true → 16410 ≤ length rest) → Breaks Legal spell rest
      → (behind : List ℕ) → (more ≡ false → behind ≡ []) → Breaks Legal spell (rest ++ behind)
  damaged_stays rest false long breaks behind ends = subst (λ (xs : List ℕ). Breaks Legal spell xs) (sym (ap (λ (xs : List ℕ). rest ++ xs) (ends refl) ∙ append-nil rest)) breaks
  damaged_stays [] true long breaks behind ends = absurd (omega (arith, long refl))
  damaged_stays (g ∷ rest) true long breaks behind ends = (
    breaks.0,
    λ d after legal e.
        let found = fits_front (spell d) after rest behind (omega (arith, long refl, most_in format d legal)) e in
        breaks.1 d found.0 legal found.1,
  )

  -- reading stands behind what was taken
  pub read_taken : (told : Option (List ℕ)) (old new : Index) (held rest : List ℕ) (start at : ℕ) (more : Bool) → start + length held ≡ at
      → IsRead format told old held at more → Takes format held start old new rest → IsRead format told new rest at more
  read_taken told old new held rest start at more begins read takes =
      let records : gated spell (read.records ++ takes.added) ≡ gated spell read.records ++ gated spell takes.added = gated-append spell read.records takes.added in
      let here : start ≡ 16 + length (gated spell read.records) = omega (arith, begins, read.place) in
      record {
        records = read.records ++ takes.added;
        legal = all-append Legal read.records takes.added read.legal takes.legal;
        places =
            takes.places ∙ ap (λ (ns : List ℕ). ns ++ places_by spell start takes.added) read.places
            ∙ ap (λ (n : ℕ). places_by spell 16 read.records ++ places_by spell n takes.added) here
            ∙ sym (places-append spell 16 read.records takes.added);
        moment = omega (arith, takes.moment, read.moment, latest-append read.records takes.added);
        place = omega (arith, read.place, ap length records, ap length takes.split, length-append (gated spell read.records) (gated spell takes.added), length-append (gated spell takes.added) rest);
        bound = read.bound;
        short = read.short;
        content = λ content is.
            read.content content is
            ∙ ap (λ (xs : List ℕ). front read.records ++ (xs ++ drop at content)) takes.split
            ∙ ap (λ (xs : List ℕ). front read.records ++ xs) (append_assoc (gated spell takes.added) rest (drop at content))
            ∙ sym (append_assoc (front read.records) (gated spell takes.added) (rest ++ drop at content))
            ∙ ap (λ (xs : List ℕ). xs ++ (rest ++ drop at content)) (append_assoc (header_of format) (gated spell read.records) (gated spell takes.added) ∙ ap (λ (xs : List ℕ). header_of format ++ xs) (sym records));
        ended = read.ended;
      }

  -- one piece more was read
  pub read_piece : (told : Option (List ℕ)) (index : Index) (rest next : List ℕ) (piece : List ℕ) (at count : ℕ) (more : Bool)
      → IsRead format told index rest at true → ForSome told (λ content. ReadsAt content at piece count) → ((content : List ℕ) → told ≡ Some content → length content ≤ 2 ^ 40)
      → length piece ≡ 65536 → count ≤ 65536 → next ≡ rest ++ take count piece
      → (more ≡ true → (count ≡ 65536) × (at + count < 2 ^ 40)) → (more ≡ false → (count < 65536) ⊎ (2 ^ 40 ≤ at + count))
      → IsRead format told index next (at + count) more
  read_piece told index rest next piece at count more read reads limited whole within is goes_on stops =
      let size : length (take count piece) ≡ count = length-take count piece ∙ omega arith in
      record {
        records = read.records;
        legal = read.legal;
        places = read.places;
        moment = read.moment;
        place = omega (arith, read.place, ap length is, length-append rest (take count piece), size);
        bound = omega (arith, read.short refl);
        short = λ on. (goes_on on).1;
        content = λ content told_is.
            let piece_is = reads content told_is in
            let split : take count (drop at content) ++ drop (at + count) content ≡ drop at content =
            ap (λ (xs : List ℕ). take count (drop at content) ++ xs) (sym (drop-drop count at content)) ∙ take-append-drop count (drop at content) in
            read.content content told_is
            ∙ ap (λ (xs : List ℕ). front read.records ++ xs)
            (ap (λ (xs : List ℕ). rest ++ xs) (sym split ∙ ap (λ (xs : List ℕ). xs ++ drop (at + count) content) (sym piece_is.front))
            ∙ sym (append_assoc rest (take count piece) (drop (at + count) content))
            ∙ ap (λ (xs : List ℕ). xs ++ drop (at + count) content) (sym is));
        ended = λ off content told_is.
            let piece_is = reads content told_is in
            drop_all (at + count) content (elim (stops off) [
              | inl short ↦ omega (arith, piece_is.count)
              | inr far ↦ omega (arith, limited content told_is)
            ]);
      }

  -- where the closed byte stands, the content holds the records
  pub closed_journal : (told : Option (List ℕ)) (found : Found) (index : Index) (rest : List ℕ) (at : ℕ) (more : Bool) → found.index ≡ index → found.size + length rest ≡ at + 1
      → IsRead format told index rest at more → IsClosed rest → IsFound format told found
  closed_journal told found index rest at more is size read closed = record {
    records = read.records;
    legal = read.legal;
    places = ap (λ (i : Index). numbers_of i.places) is ∙ read.places;
    moment = ap (λ (i : Index). i.moment) is ∙ read.moment;
    sized = omega (arith, size, read.place);
    bound = omega (arith, size, read.place, read.bound, ap length closed.whole);
    content = λ content told_is. record {
      legal = read.legal;
      closed = closed.closed;
      is_closed = closed.is_closed;
      behind = closed.behind ++ drop at content;
      whole = read.content content told_is ∙ ap (λ (xs : List ℕ). front read.records ++ (xs ++ drop at content)) closed.whole;
    };
  }

  -- where nothing that may stand there does, it is damaged
  pub damaged_journal : (told : Option (List ℕ)) (index : Index) (rest : List ℕ) (at place : ℕ) (more : Bool) → place ≡ at - length rest → IsRead format told index rest at more
      → ((behind : List ℕ) → (more ≡ false → behind ≡ []) → Breaks Legal spell (rest ++ behind)) → ForSome told (λ content. IsDamagedIn format content place)
  damaged_journal told index rest at place more is read breaks content told_is = record {
    records = read.records;
    legal = read.legal;
    rest = rest ++ drop at content;
    whole = read.content content told_is;
    place = omega (arith, is, read.place, length-header format);
    breaks = breaks (drop at content) (λ off. read.ended off content told_is);
  }

  -- after the first piece
  pub begin_read : (told : Option (List ℕ)) (index : Index) (piece held : List ℕ) (count : ℕ) → numbers_of index.places ≡ [] → index.moment ≡ 0 → ForSome told (λ content. ReadsAt content 0 piece count)
      → length piece ≡ 65536 → count ≤ 65536 → take count piece ≡ header_of format ++ held → IsRead format told index held count (nat_eq count 65536)
  begin_read told index piece held count places moment reads whole within is =
      let size : length (take count piece) ≡ count = length-take count piece ∙ omega arith in
      record {
        records = [];
        legal = tt;
        places = places;
        moment = moment;
        place = omega (arith, size, ap length is, length-append (header_of format) held, length-header format);
        bound = omega arith;
        short = λ on. omega arith;
        content = λ content told_is.
            sym (take-append-drop count content) ∙ ap (λ (xs : List ℕ). xs ++ drop count content) (sym (reads content told_is).front ∙ is)
            ∙ append_assoc (header_of format) held (drop count content) ∙ ap (λ (xs : List ℕ). xs ++ (held ++ drop count content)) (sym (append-nil (header_of format)));
        ended = λ off content told_is.
            let short : count < 65536 = grind (arith, nat_tests) in
            drop_all count content (omega (arith, (reads content told_is).count));
      }

  -- where the first piece lacks the header, so does the content
  pub lacks_header : (told : Option (List ℕ)) (piece : List ℕ) (count : ℕ) (fault : OpenFault) → ForSome told (λ content. ReadsAt content 0 piece count)
      → length piece ≡ 65536 → LacksHeader format (take count piece) fault → ForSome told (Refuses format fault)
  lacks_header told piece count Memory reads whole lacks content is = tt
  lacks_header told piece count Fault reads whole lacks content is = tt
  lacks_header told piece count (Damaged at) reads whole lacks content is = absurd lacks
  lacks_header told piece count NotFormatted reads whole lacks content is = λ formatted.
      let piece_is = reads content is in
      let long : 16 ≤ count = omega (arith, ap length formatted, length-header format, length-take 16 content, piece_is.count) in
      lacks (ap (λ (xs : List ℕ). take 16 xs) piece_is.front ∙ take-take 16 count content long ∙ formatted)

  pub no_fault : (first : List ℕ) (fault : OpenFault) → LacksHeader format first fault → fault ≡ Fault → ⊥
  no_fault first Memory lacks is = cc
  no_fault first Fault lacks is = lacks
  no_fault first NotFormatted lacks is = cc
  no_fault first (Damaged at) lacks is = lacks
