-- Reading on: what was taken, and what is left.
use Rattle.std.proofs.Common.{◌≡◌, inl, inr, ◌⊎◌, ℕ, ◌+◌, ◌-◌, ◌<◌, ◌≤◌, ◌^◌, Bool, true, false, List, [], ◌∷◌, ◌++◌, Option, Some, None, length, take, drop, refl, sym, ◌∙◌, ap, subst, arith, append_assoc, length-append, take-append-drop}
use Rattle.std.proofs.lemmas.List.{append-nil, drop_all, drop-drop, length-take, take-take}
use Rattle.std.specs.List.{AllByRecursion}
use Rattle.std.specs.Option.{ForSome}
use Rattle.std.specs.Prelude.{IfSome, nat_eq}
use Rattle.gw_outside.specs.Disk.{ReadsAt}
use Rattle.jr_record.specs.declared.record.Record.{Record}
use Rattle.jr_record.specs.Records.{IsRecord, spelled}
use Rattle.jr_record.specs.Laws.{SizesAreBounded}
use Rattle.jr_record.specs.Images.{header, gated, Breaks, IsClosed, IsJournal, IsDamaged}
use Rattle.jr_record.specs.declared.faults.OpenFault.{OpenFault}
use Rattle.jr_record.specs.declared.faults.OpenFault.TheVariants.{Memory, Fault, NotFormatted, Damaged}
use Rattle.std.proofs.lemmas.Bool.Decides.{nat_tests}
use Rattle.jr_log.specs.Opening.{Refuses, LacksHeader, Takes, IsRead}
use Rattle.jr_log.proofs.Fronts.{gated-append, legal-append}

-- one record more was taken
pub takes_more : (held : List ℕ) (old records new : List Record) (rest behind : List ℕ) (r : Record) → IsRecord r → rest ≡ 1 ∷ (spelled r ++ behind) → new ≡ records ++ r ∷ []
    → Takes held old records rest → Takes held old new behind
takes_more held old records new rest behind r legal is items takes =
    record {
      added = takes.added ++ r ∷ [];
      grown = items ∙ ap (λ (rs : List Record). rs ++ r ∷ []) takes.grown ∙ append_assoc old takes.added (r ∷ []);
      legal = legal-append takes.added (r ∷ []) takes.legal (legal, tt);
      split =
          let last : 1 ∷ (spelled r ++ behind) ≡ gated spelled (r ∷ []) ++ behind = ap (λ (xs : List ℕ). 1 ∷ (xs ++ behind)) (sym (append-nil (spelled r))) in
          takes.split ∙ ap (λ (xs : List ℕ). gated spelled takes.added ++ xs) (is ∙ last)
          ∙ sym (append_assoc (gated spelled takes.added) (gated spelled (r ∷ [])) behind) ∙ ap (λ (xs : List ℕ). xs ++ behind) (sym (gated-append takes.added (r ∷ [])));
    }

-- a list at the front of another that is long enough is at the front of its front
fits_front : (a b x y : List ℕ) → length a ≤ length x → a ++ b ≡ x ++ y → (z : List ℕ) × (a ++ z ≡ x)
fits_front [] b x y short e = (x, refl)
fits_front (c ∷ a) b [] y short e = absurd (omega arith)
fits_front (c ∷ a) b (d ∷ x) y short e =
    let head : c ≡ d = cc in
    let tail : a ++ b ≡ x ++ y = cc in
    let found = fits_front a b x y (omega arith) tail in (found.0, cc (head, found.1))

-- what is damaged stays so, whatever follows
pub damaged_stays : SizesAreBounded → (rest : List ℕ) (more : Bool) → (more ≡ true → 16402 ≤ length rest) → Breaks IsRecord spelled rest
    → (behind : List ℕ) → (more ≡ false → behind ≡ []) → Breaks IsRecord spelled (rest ++ behind)
damaged_stays sizes rest false long breaks behind ends = subst (λ (xs : List ℕ). Breaks IsRecord spelled xs) (sym (ap (λ (xs : List ℕ). rest ++ xs) (ends refl) ∙ append-nil rest)) breaks
damaged_stays sizes [] true long breaks behind ends = absurd (omega (arith, long refl))
damaged_stays sizes (g ∷ rest) true long breaks behind ends = (
  breaks.0,
  λ r after legal e.
      let found = fits_front (spelled r) after rest behind (omega (arith, long refl, (sizes r legal).1)) e in
      breaks.1 r found.0 legal found.1,
)

-- reading stands behind what was taken
pub read_taken : (told : Option (List ℕ)) (old new : List Record) (held rest : List ℕ) (at : ℕ) (more : Bool) → IsRead told old held at more → Takes held old new rest → IsRead told new rest at more
read_taken told old new held rest at more read takes =
    let records : gated spelled new ≡ gated spelled old ++ gated spelled takes.added = ap (gated spelled) takes.grown ∙ gated-append old takes.added in
    record {
      legal = subst (AllByRecursion IsRecord) (sym takes.grown) (legal-append old takes.added read.legal takes.legal);
      place = omega (arith, read.place, ap length records, ap length takes.split, length-append (gated spelled old) (gated spelled takes.added), length-append (gated spelled takes.added) rest);
      bound = read.bound;
      short = read.short;
      content = λ content is.
          read.content content is
          ∙ ap (λ (xs : List ℕ). header ++ gated spelled old ++ (xs ++ drop at content)) takes.split
          ∙ ap (λ (xs : List ℕ). header ++ gated spelled old ++ xs) (append_assoc (gated spelled takes.added) rest (drop at content))
          ∙ sym (append_assoc (header ++ gated spelled old) (gated spelled takes.added) (rest ++ drop at content))
          ∙ ap (λ (xs : List ℕ). xs ++ (rest ++ drop at content)) (append_assoc header (gated spelled old) (gated spelled takes.added) ∙ ap (λ (xs : List ℕ). header ++ xs) (sym records));
      ended = read.ended;
    }

-- one piece more was read
pub read_piece : (told : Option (List ℕ)) (records : List Record) (rest next : List ℕ) (piece : List ℕ) (at count : ℕ) (more : Bool)
    → IsRead told records rest at true → ForSome told (λ content. ReadsAt content at piece count) → ((content : List ℕ) → told ≡ Some content → length content ≤ 2 ^ 40)
    → length piece ≡ 65536 → count ≤ 65536 → next ≡ rest ++ take count piece
    → (more ≡ true → (count ≡ 65536) × (at + count < 2 ^ 40)) → (more ≡ false → (count < 65536) ⊎ (2 ^ 40 ≤ at + count))
    → IsRead told records next (at + count) more
read_piece told records rest next piece at count more read reads limited whole within is goes_on stops =
    let size : length (take count piece) ≡ count = length-take count piece ∙ omega arith in
    record {
      legal = read.legal;
      place = omega (arith, read.place, ap length is, length-append rest (take count piece), size);
      bound = omega (arith, read.short refl);
      short = λ on. (goes_on on).1;
      content = λ content told_is.
          let piece_is = reads content told_is in
          let split : take count (drop at content) ++ drop (at + count) content ≡ drop at content =
          ap (λ (xs : List ℕ). take count (drop at content) ++ xs) (sym (drop-drop count at content)) ∙ take-append-drop count (drop at content) in
          read.content content told_is
          ∙ ap (λ (xs : List ℕ). header ++ gated spelled records ++ xs)
          (ap (λ (xs : List ℕ). rest ++ xs) (sym split ∙ ap (λ (xs : List ℕ). xs ++ drop (at + count) content) (sym piece_is.front))
          ∙ sym (append_assoc rest (take count piece) (drop (at + count) content))
          ∙ ap (λ (xs : List ℕ). xs ++ drop (at + count) content) (sym is));
      ended = λ off content told_is.
          let piece_is = reads content told_is in
          drop_all (at + count) content (elim (stops off) [
            | inl short ↦ omega (arith, piece_is.count)
            | inr far ↦ omega (arith, limited content told_is)
          ]);
    }

-- where the closed byte stands, the content holds the records
pub closed_journal : (told : Option (List ℕ)) (records : List Record) (rest : List ℕ) (at : ℕ) (more : Bool) → IsRead told records rest at more → IsClosed rest → ForSome told (λ content. IsJournal content records)
closed_journal told records rest at more read closed content is = record {
  legal = read.legal;
  closed = closed.closed;
  is_closed = closed.is_closed;
  behind = closed.behind ++ drop at content;
  whole = read.content content is ∙ ap (λ (xs : List ℕ). header ++ gated spelled records ++ (xs ++ drop at content)) closed.whole;
}

-- where nothing that may stand there does, it is damaged
pub damaged_journal : (told : Option (List ℕ)) (records : List Record) (rest : List ℕ) (at place : ℕ) (more : Bool) → place ≡ at - length rest → IsRead told records rest at more
    → ((behind : List ℕ) → (more ≡ false → behind ≡ []) → Breaks IsRecord spelled (rest ++ behind)) → ForSome told (λ content. IsDamaged content place)
damaged_journal told records rest at place more is read breaks content told_is = record {
  records = records;
  legal = read.legal;
  rest = rest ++ drop at content;
  whole = read.content content told_is;
  place = omega (arith, is, read.place);
  breaks = breaks (drop at content) (λ off. read.ended off content told_is);
}

-- what was read of a content that is told
pub told_reads : (told : Option (List ℕ)) (at : ℕ) (piece : List ℕ) (count : ℕ) → IfSome told (λ content. ReadsAt content at piece count) → ForSome told (λ content. ReadsAt content at piece count)
told_reads None at piece count reads content is = absurd (cc (is))
told_reads (Some other) at piece count reads content is = let same : other ≡ content = cc in subst (λ (xs : List ℕ). ReadsAt xs at piece count) same reads

-- after the first piece
pub begin_read : (told : Option (List ℕ)) (piece held : List ℕ) (count : ℕ) → ForSome told (λ content. ReadsAt content 0 piece count)
    → length piece ≡ 65536 → count ≤ 65536 → take count piece ≡ header ++ held → IsRead told [] held count (nat_eq count 65536)
begin_read told piece held count reads whole within is =
    let size : length (take count piece) ≡ count = length-take count piece ∙ omega arith in
    record {
      legal = tt;
      place = omega (arith, size, ap length is, length-append header held);
      bound = omega arith;
      short = λ on. omega arith;
      content = λ content told_is.
          sym (take-append-drop count content) ∙ ap (λ (xs : List ℕ). xs ++ drop count content) (sym (reads content told_is).front ∙ is);
      ended = λ off content told_is.
          let short : count < 65536 = grind (arith, nat_tests) in
          drop_all count content (omega (arith, (reads content told_is).count));
    }

-- where the first piece lacks the header, so does the content
pub lacks_header : (told : Option (List ℕ)) (piece : List ℕ) (count : ℕ) (fault : OpenFault) → ForSome told (λ content. ReadsAt content 0 piece count)
    → length piece ≡ 65536 → LacksHeader (take count piece) fault → ForSome told (Refuses fault)
lacks_header told piece count Memory reads whole lacks content is = tt
lacks_header told piece count Fault reads whole lacks content is = tt
lacks_header told piece count (Damaged at) reads whole lacks content is = absurd lacks
lacks_header told piece count NotFormatted reads whole lacks content is = λ formatted.
    let piece_is = reads content is in
    let long : 16 ≤ count = omega (arith, ap length formatted, length-take 16 content, piece_is.count) in
    lacks (ap (λ (xs : List ℕ). take 16 xs) piece_is.front ∙ take-take 16 count content long ∙ formatted)

pub no_fault : (first : List ℕ) (fault : OpenFault) → LacksHeader first fault → fault ≡ Fault → ⊥
no_fault first Memory lacks is = cc
no_fault first Fault lacks is = lacks
no_fault first NotFormatted lacks is = cc
no_fault first (Damaged at) lacks is = lacks
