-- How far a journal was read out of a source (this project's journal format).
use Rattle.std.specs.Prelude.{⊤, ◌≡◌, ◌≢◌, ◌⊎◌, ℕ, ◌+◌, ◌≤◌, ◌<◌, ◌^◌, Bool, true, Option, Some, List, [], ◌∷◌, ◌++◌, length, drop}
use Rattle.std.specs.Option.{ForSome}
use Rattle.std.specs.List.{AllByRecursion}
use Rattle.std.specs.Io.KnownBytes.{Consumes, IsAtEnd}
use Rattle.jr_record.specs.declared.faults.OpenFault.{OpenFault}
use Rattle.jr_record.specs.declared.faults.OpenFault.TheVariants as faults
use Rattle.jr_record.specs.Images.{gated, Breaks, IsClosed}
use Rattle.jr_dated.specs.declared.formats.Format.{Format}
use Rattle.jr_dated.specs.Dated.{Dated, stamped}
use Rattle.jr_dated.specs.Formats.{header_of, LegalIn, spelled_in, IsNotFormattedIn}
use Rattle.jr_stream.specs.declared.reader.Found.{Found}
use Rattle.jr_stream.specs.declared.reader.Found.TheVariants as found
use Rattle.jr_stream.specs.declared.reader.Front.{Front}
use Rattle.jr_stream.specs.declared.reader.Front.TheVariants as front
use Rattle.jr_stream.specs.Images.{counted, place_behind, BeginsWith, HasRecords}

-- What a reader shows: the bytes that were read and not taken, the place of the first of these in the journal, and whether the source has
-- ended
pub record Reading : Type 0 where
  pub format : Format
  pub waiting : List ℕ
  pub place : ℕ
  pub is_over : Bool

-- A source that told `before` and tells `now` gave a journal's header, these records, and the bytes that wait
pub record HasTaken (before now : Option (List ℕ)) (records : List Dated) (r : Reading) : Type 0 where
  pub legal : AllByRecursion (LegalIn r.format) records
  pub read : List ℕ
  pub consumed : Consumes before now read
  pub bytes : read ≡ header_of r.format ++ gated (spelled_in r.format) records ++ r.waiting
  pub place : r.place ≡ place_behind r.format records
  pub over : r.is_over ≡ true → IsAtEnd now

-- what stands behind some records that were taken: one more, or the end of them
abbrev pub GoesOn : Option (List ℕ) → Option (List ℕ) → List Dated → Reading → Found → Type 0
GoesOn before now records r (found.Record what moment) = HasTaken before now (records ++ stamped moment what ∷ []) r
GoesOn before now records r (found.End end) = ForSome before (λ image. HasRecords r.format image records end)

-- of an image that begins with some records, they were taken by who goes on behind them
abbrev pub GoesAgain : ℕ → Reading → Type 0
GoesAgain at r = (image : List ℕ) (records : List Dated) → BeginsWith r.format image records → at ≡ place_behind r.format records → length image < 2 ^ 63
    → HasTaken (Some image) (Some (drop at image)) records r

-- why no journal was found
abbrev pub Refuses : Format → OpenFault → List ℕ → Type 0
Refuses format faults.NotFormatted image = IsNotFormattedIn format image
Refuses format faults.Memory image = ⊤
Refuses format faults.Fault image = ⊤
Refuses format (faults.Damaged at) image = ⊥

-- a device or memory failed
abbrev pub IsUnread : OpenFault → Type 0
IsUnread faults.Memory = ⊤
IsUnread faults.Fault = ⊤
IsUnread faults.NotFormatted = ⊥
IsUnread (faults.Damaged at) = ⊥

-- ---- steps of the proof

-- what stands at the front of some bytes, where a gate or the closed byte is awaited
abbrev pub IsFront : Format → List ℕ → Front → Type 0
IsFront format bytes front.Closed = IsClosed bytes
IsFront format bytes front.Damaged = Breaks (LegalIn format) (spelled_in format) bytes
IsFront format bytes (front.Found what moment) = LegalIn format (stamped moment what)
    × (behind : List ℕ) × (bytes ≡ 1 ∷ (spelled_in format (stamped moment what) ++ behind))

-- so many bytes wait, or there are no more
abbrev pub IsReady : ℕ → Reading → Type 0
IsReady least r = (least ≤ length r.waiting) ⊎ (r.is_over ≡ true)

-- more bytes were read
pub record ReadsOn (before now : Option (List ℕ)) (old new : Reading) : Type 0 where
  pub bytes : List ℕ
  pub consumed : Consumes before now bytes
  pub waiting : new.waiting ≡ old.waiting ++ bytes
  pub format : new.format ≡ old.format
  pub place : new.place ≡ old.place
  pub over : (old.is_over ≡ true → IsAtEnd before) → new.is_over ≡ true → IsAtEnd now

-- bytes that wait were passed over
pub record Passes (size : ℕ) (old new : Reading) : Type 0 where
  pub waiting : new.waiting ≡ drop size old.waiting
  pub format : new.format ≡ old.format
  pub place : new.place ≡ counted (old.place + size)
  pub is_over : new.is_over ≡ old.is_over

-- nothing was read yet
pub record IsNew (format : Format) (r : Reading) : Type 0 where
  pub format_is : r.format ≡ format
  pub waiting : r.waiting ≡ []
  pub place : r.place ≡ 0
  pub is_over : r.is_over ≢ true
