-- Reading on: what was taken, what waits, and what is left.
use Rattle.std.proofs.Common.{◌≡◌, ◌≢◌, ◌⊎◌, inl, inr, ℕ, zero, suc, ◌+◌, ◌<◌, ◌≤◌, true, false, List, [], ◌∷◌, ◌++◌, Option, Some, None, length, take, drop, refl, sym, ◌∙◌, ap, subst, arith, append_assoc, append-nil, length-append, take-append-drop}
use Rattle.std.proofs.lemmas.List.{drop_at, length-take-le, take-append-le}
use Rattle.std.proofs.lemmas.Grind.{flat_map-append}
use Rattle.std.specs.Option.{ForSome}
use Rattle.std.specs.List.{AllByRecursion}
use Rattle.std.specs.Io.KnownBytes.{Consumes, IsAtEnd}
use Rattle.std.proofs.KnownBytes.{Consumes-nil, Consumes-trans}
use Rattle.jr_record.specs.declared.record.Record.{Record}
use Rattle.jr_record.specs.Images.{gated, Breaks, IsClosed}
use Rattle.jr_dated.specs.declared.formats.Format.{Format}
use Rattle.jr_dated.specs.declared.formats.Format.TheVariants.{One, Two}
use Rattle.jr_dated.specs.Dated.{Dated, IsDated, stamped}
use Rattle.jr_dated.specs.Formats.{header_of, LegalIn, spelled_in, IsJournalIn, IsNotFormattedIn}
use Rattle.jr_dated.proofs.Sizes.{length-header, most_in}
use Rattle.jr_stream.specs.declared.reader.Found.TheVariants.{Record as Found}
use Rattle.jr_stream.specs.Images.{counted, place_behind, BeginsWith, IsDamagedBehind}
use Rattle.jr_stream.specs.Reading.{Reading, HasTaken, GoesAgain, IsReady, ReadsOn, Passes, IsNew}

-- ---- lists

-- a list at the front of another that is long enough is at the front of its front
fits_front : (a b x y : List ℕ) → length a ≤ length x → a ++ b ≡ x ++ y → (z : List ℕ) × (a ++ z ≡ x)
fits_front [] b x y short e = (x, refl)
fits_front (c ∷ a) b [] y short e = absurd (omega arith)
fits_front (c ∷ a) b (d ∷ x) y short e =
    let head : c ≡ d = cc in
    let tail : a ++ b ≡ x ++ y = cc in
    let found = fits_front a b x y (omega arith) tail in (found.0, cc (head, found.1))

gated-append : (spell : Dated → List ℕ) (h k : List Dated) → gated spell (h ++ k) ≡ gated spell h ++ gated spell k
gated-append spell h k = flat_map-append (λ (d : Dated). 1 ∷ spell d) h k

all-append : (P : Dated → Type 0) (h k : List Dated) → AllByRecursion P h → AllByRecursion P k → AllByRecursion P (h ++ k)
all-append P [] k all_h all_k = all_k
all-append P (d ∷ h) k all_h all_k = (all_h.0, all-append P h k all_h.1 all_k)

-- ---- sources

-- what was told of a source is what was read of it and what is left
pub told : (before now : Option (List ℕ)) (read image : List ℕ) → Consumes before now read → before ≡ Some image → (left : List ℕ) × (image ≡ read ++ left) × (now ≡ Some left)
told None now read image consumed e = cc
told (Some xs) None read image consumed e = absurd consumed
told (Some xs) (Some ys) read image consumed e = let same : xs ≡ image = cc in (ys, sym same ∙ consumed, refl)

at_end : (now : Option (List ℕ)) (left : List ℕ) → IsAtEnd now → now ≡ Some left → left ≡ []
at_end None left end e = cc
at_end (Some xs) left end e = let same : xs ≡ left = cc in sym same ∙ end

-- ---- reading

pub reads_none : (now : Option (List ℕ)) (r : Reading) → ReadsOn now now r r
reads_none now r = record {
  bytes = [];
  consumed = Consumes-nil now;
  waiting = sym (append-nil r.waiting);
  format = refl;
  place = refl;
  over = λ was is. was is;
}

pub reads_more : (before mid after : Option (List ℕ)) (old r new : Reading) → ReadsOn before mid old r → ReadsOn mid after r new → ReadsOn before after old new
reads_more before mid after old r new one other = record {
  bytes = one.bytes ++ other.bytes;
  consumed = Consumes-trans before mid after one.bytes other.bytes one.consumed other.consumed;
  waiting = other.waiting ∙ ap (λ (w : List ℕ). w ++ other.bytes) one.waiting ∙ append_assoc old.waiting one.bytes other.bytes;
  format = other.format ∙ one.format;
  place = other.place ∙ one.place;
  over = λ was is. other.over (one.over was) is;
}

-- a piece was read
pub reads_piece : (before after : Option (List ℕ)) (old new : Reading) (piece : List ℕ) (count : ℕ) → Consumes before after (take count piece) → old.is_over ≡ false
    → new.waiting ≡ old.waiting ++ take count piece → new.format ≡ old.format → new.place ≡ old.place → (new.is_over ≡ true → IsAtEnd after) → ReadsOn before after old new
reads_piece before after old new piece count consumed on waiting format place end =
    record { bytes = take count piece; consumed = consumed; waiting = waiting; format = format; place = place; over = λ was is. end is }

-- it was not the last one
pub longer : (old next piece : List ℕ) (count : ℕ) → next ≡ old ++ take count piece → count ≤ 65536 → length piece ≡ 65536 → (count ≡ 0 → ⊥) → length old < length next
longer old next piece count is within size some = omega (arith, ap length is, length-append old (take count piece), length-take-le count piece (omega (arith, within, size)), some)

-- so what was taken stands
pub taken_on : (before now after : Option (List ℕ)) (records : List Dated) (old new : Reading) → HasTaken before now records old → ReadsOn now after old new → HasTaken before after records new
taken_on before now after records old new h more =
    let front = header_of old.format ++ gated (spelled_in old.format) records in
    let legal : AllByRecursion (LegalIn new.format) records = subst (λ (f : Format). AllByRecursion (LegalIn f) records) (sym more.format) h.legal in
    let bytes : h.read ++ more.bytes ≡ front ++ new.waiting =
    ap (λ (bs : List ℕ). bs ++ more.bytes) h.bytes ∙ append_assoc front old.waiting more.bytes ∙ ap (λ (w : List ℕ). front ++ w) (sym more.waiting) in
    record {
      legal = legal;
      read = h.read ++ more.bytes;
      consumed = Consumes-trans before now after h.read more.bytes h.consumed more.consumed;
      bytes = bytes ∙ ap (λ (f : Format). header_of f ++ gated (spelled_in f) records ++ new.waiting) (sym more.format);
      place = more.place ∙ h.place ∙ ap (λ (f : Format). place_behind f records) (sym more.format);
      over = more.over h.over;
    }

-- ---- the header

-- the header was read, and nothing behind it was taken
pub taken_none : (format : Format) (before now : Option (List ℕ)) (first old new : Reading) → IsNew format first → ReadsOn before now first old → take 16 old.waiting ≡ header_of format
    → Passes 16 old new → HasTaken before now [] new
taken_none format before now first old new fresh more header passes =
    let same : new.format ≡ format = passes.format ∙ more.format ∙ fresh.format_is in
    let waits : more.bytes ≡ old.waiting = sym (more.waiting ∙ ap (λ (w : List ℕ). w ++ more.bytes) fresh.waiting) in
    let front : header_of format ++ [] ++ new.waiting ≡ old.waiting =
    ap (λ (h : List ℕ). h ++ new.waiting) (append-nil (header_of format) ∙ sym header) ∙ ap (λ (w : List ℕ). take 16 old.waiting ++ w) passes.waiting
    ∙ take-append-drop 16 old.waiting in
    record {
      legal = tt;
      read = more.bytes;
      consumed = more.consumed;
      bytes = waits ∙ sym front ∙ ap (λ (f : Format). header_of f ++ [] ++ new.waiting) (sym same);
      place =
          passes.place ∙ ap (λ (n : ℕ). counted (n + 16)) (more.place ∙ fresh.place)
          ∙ sym (ap (λ (n : ℕ). counted (n + 0)) (length-header new.format));
      over = λ is. more.over (λ was. absurd (fresh.is_over was)) (sym passes.is_over ∙ is);
    }

-- bytes that are fewer than a header's begin with none
pub too_short : (format : Format) (bytes : List ℕ) → length bytes < 16 → take 16 bytes ≢ header_of format
too_short format bytes short e = omega (arith, short, ap length e, length-header format, length-take-least 16 bytes)
  where
    length-take-least : (n : ℕ) (xs : List ℕ) → length (take n xs) ≤ length xs
    length-take-least zero xs = omega arith
    length-take-least (suc n) [] = omega arith
    length-take-least (suc n) (x ∷ xs) = omega (arith, length-take-least n xs)

-- no header stands there
pub no_header : (format : Format) (before now : Option (List ℕ)) (first old : Reading) → IsNew format first → ReadsOn before now first old → IsReady 16 old
    → take 16 old.waiting ≢ header_of format → ForSome before (λ image. IsNotFormattedIn format image)
no_header format before now first old fresh more ready other image is formatted =
    let t = told before now more.bytes image more.consumed is in
    let waits : more.bytes ≡ old.waiting = sym (more.waiting ∙ ap (λ (w : List ℕ). w ++ more.bytes) fresh.waiting) in
    let whole : image ≡ old.waiting ++ t.0 = t.1 ∙ ap (λ (w : List ℕ). w ++ t.0) waits in
    elim ready [
      | inl enough ↦ other (sym (take-append-le 16 old.waiting t.0 enough) ∙ ap (λ (xs : List ℕ). take 16 xs) (sym whole) ∙ formatted)
      | inr over ↦
          let none : t.0 ≡ [] = at_end now t.0 (more.over (λ was. absurd (fresh.is_over was)) over) t.2 in
          other (ap (λ (xs : List ℕ). take 16 xs) (sym (whole ∙ ap (λ (xs : List ℕ). old.waiting ++ xs) none ∙ append-nil old.waiting)) ∙ formatted)
    ]

-- ---- records

-- a record was taken
pub taken_more : (before now : Option (List ℕ)) (records : List Dated) (old new : Reading) (d : Dated) (behind : List ℕ) (size : ℕ) → HasTaken before now records old → LegalIn old.format d
    → old.waiting ≡ 1 ∷ (spelled_in old.format d ++ behind) → size ≡ 1 + length (spelled_in old.format d) → Passes size old new → HasTaken before now (records ++ d ∷ []) new
taken_more before now records old new d behind size h legal split sized passes =
    let f = old.format in
    let spell = spelled_in f in
    let front = header_of f ++ gated spell records in
    let left : new.waiting ≡ behind =
    passes.waiting ∙ ap (λ (w : List ℕ). drop size w) split ∙ ap (λ (n : ℕ). drop n (1 ∷ (spell d ++ behind))) sized ∙ drop_at (1 ∷ spell d) behind (1 + length (spell d)) (omega arith) in
    let last : 1 ∷ (spell d ++ behind) ≡ gated spell (d ∷ []) ++ behind = ap (λ (xs : List ℕ). 1 ∷ (xs ++ behind)) (sym (append-nil (spell d))) in
    let more : gated spell (records ++ d ∷ []) ≡ gated spell records ++ gated spell (d ∷ []) = gated-append spell records (d ∷ []) in
    let bytes : h.read ≡ header_of f ++ gated spell (records ++ d ∷ []) ++ new.waiting =
    h.bytes ∙ ap (λ (w : List ℕ). front ++ w) (split ∙ last)
    ∙ sym (append_assoc front (gated spell (d ∷ [])) behind)
    ∙ ap (λ (xs : List ℕ). xs ++ behind) (append_assoc (header_of f) (gated spell records) (gated spell (d ∷ [])) ∙ ap (λ (xs : List ℕ). header_of f ++ xs) (sym more))
    ∙ ap (λ (w : List ℕ). header_of f ++ gated spell (records ++ d ∷ []) ++ w) (sym left) in
    let one : length (gated spell (d ∷ [])) ≡ 1 + length (spell d) = omega (arith, append-length (spell d)) in
    let here : new.place ≡ place_behind f (records ++ d ∷ []) =
    omega (arith, passes.place, h.place, sized, one, ap length more, length-append (gated spell records) (gated spell (d ∷ []))) in
    record {
      legal = subst (λ (g : Format). AllByRecursion (LegalIn g) (records ++ d ∷ [])) (sym passes.format) (all-append (LegalIn f) records (d ∷ []) h.legal (legal, tt));
      read = h.read;
      consumed = h.consumed;
      bytes = bytes ∙ ap (λ (g : Format). header_of g ++ gated (spelled_in g) (records ++ d ∷ []) ++ new.waiting) (sym passes.format);
      place = here ∙ ap (λ (g : Format). place_behind g (records ++ d ∷ [])) (sym passes.format);
      over = λ is. h.over (sym passes.is_over ∙ is);
    }
  where
    append-length : (xs : List ℕ) → length (xs ++ []) ≡ length xs
    append-length xs = ap length (append-nil xs)

-- the bytes of a record wait where it stands at the front
pub record_waits : (format : Format) (waiting behind : List ℕ) (d : Dated) (size : ℕ) → waiting ≡ 1 ∷ (spelled_in format d ++ behind) → size ≡ 1 + length (spelled_in format d) → size ≤ length waiting
record_waits format waiting behind d size split sized = omega (arith, sized, ap length split, length-append (spelled_in format d) behind)

-- a record of either format has a moment that a clock tells
pub is_dated : (format : Format) (d : Dated) → LegalIn format d → IsDated d
is_dated One d legal = (legal.0, omega (arith, legal.1))
is_dated Two d legal = legal

-- the record that was found is the one that was read
pub found_dated : (a b : Record) (m n : ℕ) → Found a m ≡ Found b n → IsDated (stamped m a) → IsDated (stamped n b)
found_dated a b m n e dated =
    let what : a ≡ b = cc in
    let when : m ≡ n = cc in
    subst (λ (r : Record). IsDated (stamped n r)) what (subst (λ (k : ℕ). IsDated (stamped k a)) when dated)

-- ---- the end

-- the closed byte stands there
pub closed : (before now : Option (List ℕ)) (records : List Dated) (r : Reading) → HasTaken before now records r → IsClosed r.waiting → ForSome before (λ image. IsJournalIn r.format image records)
closed before now records r h is image e =
    let t = told before now h.read image h.consumed e in
    let front = header_of r.format ++ gated (spelled_in r.format) records in
    record {
      legal = h.legal;
      closed = is.closed;
      is_closed = is.is_closed;
      behind = is.behind ++ t.0;
      whole = t.1 ∙ ap (λ (bs : List ℕ). bs ++ t.0) h.bytes ∙ append_assoc front r.waiting t.0 ∙ ap (λ (w : List ℕ). front ++ (w ++ t.0)) is.whole;
    }

-- what is damaged stays so, whatever follows
stays : (format : Format) (waiting left : List ℕ) → (16410 ≤ length waiting) ⊎ (left ≡ []) → Breaks (LegalIn format) (spelled_in format) waiting
    → Breaks (LegalIn format) (spelled_in format) (waiting ++ left)
stays format waiting left (inr none) breaks =
    subst (λ (xs : List ℕ). Breaks (LegalIn format) (spelled_in format) xs) (sym (ap (λ (xs : List ℕ). waiting ++ xs) none ∙ append-nil waiting)) breaks
stays format [] left (inl long) breaks = absurd (omega (arith, long))
stays format (gate ∷ behind) left (inl long) breaks = (
  breaks.0,
  λ d after legal e.
      let found = fits_front (spelled_in format d) after behind left (omega (arith, long, most_in format d legal)) e in
      breaks.1 d found.0 legal found.1,
)

-- no record and no closed byte stands there
pub damaged : (before now : Option (List ℕ)) (records : List Dated) (r : Reading) → HasTaken before now records r → IsReady 16410 r
    → Breaks (LegalIn r.format) (spelled_in r.format) r.waiting → ForSome before (λ image. IsDamagedBehind r.format image records)
damaged before now records r h ready breaks image e =
    let t = told before now h.read image h.consumed e in
    let front = header_of r.format ++ gated (spelled_in r.format) records in
    let long : (16410 ≤ length r.waiting) ⊎ (t.0 ≡ []) = elim ready [
      | inl enough ↦ inl enough
      | inr over ↦ inr (at_end now t.0 (h.over over) t.2)
    ] in
    record {
      place = length (header_of r.format) + length (gated (spelled_in r.format) records);
      damaged = record {
        records = records;
        legal = h.legal;
        rest = r.waiting ++ t.0;
        whole = t.1 ∙ ap (λ (bs : List ℕ). bs ++ t.0) h.bytes ∙ append_assoc front r.waiting t.0;
        place = refl;
        breaks = stays r.format r.waiting t.0 long breaks;
      };
      records_are = refl;
    }

-- what the source told begins with the records that were taken
pub begins : (before now : Option (List ℕ)) (records : List Dated) (r : Reading) → HasTaken before now records r → ForSome before (λ image. BeginsWith r.format image records)
begins before now records r h image e =
    let t = told before now h.read image h.consumed e in
    let front = header_of r.format ++ gated (spelled_in r.format) records in
    record { legal = h.legal; behind = r.waiting ++ t.0; whole = t.1 ∙ ap (λ (bs : List ℕ). bs ++ t.0) h.bytes ∙ append_assoc front r.waiting t.0 }

-- they were taken of another image too, by who goes on behind them there
pub taken_again : (at : ℕ) (r : Reading) → r.waiting ≡ [] → r.place ≡ at → r.is_over ≡ false → GoesAgain at r
taken_again at r waits is_there goes_on image records b place short =
    let front = header_of r.format ++ gated (spelled_in r.format) records in
    let long : at ≡ length front =
    omega (arith, place, short, ap length b.whole, length-append front b.behind, length-append (header_of r.format) (gated (spelled_in r.format) records)) in
    let left : drop at image ≡ b.behind = ap (λ (xs : List ℕ). drop at xs) b.whole ∙ drop_at front b.behind at (sym long) in
    record {
      legal = b.legal;
      read = front;
      consumed = b.whole ∙ ap (λ (xs : List ℕ). front ++ xs) (sym left);
      bytes = sym (append-nil front) ∙ ap (λ (w : List ℕ). front ++ w) (sym waits);
      place = is_there ∙ place;
      over = λ is. absurd (cc (goes_on, is));
    }
