-- The records of a journal with their moments, and their bytes (this project's journal format, version 2). All numbers are
-- little-endian. What a record is, and its body, are those of format 1.
use Rattle.std.specs.Prelude.{◌≡◌, ℕ, ◌+◌, ◌<◌, ◌^◌, max, List, [], ◌∷◌, ◌++◌, map, length, Option, Some, None}
use Rattle.std.specs.Int.{w32, w64, to_le_bytes}
use Rattle.jr_record.specs.declared.record.Record.{Record}
use Rattle.jr_record.specs.Records.{IsRecord, kind_of, body_of}

-- a record, and the moment that it carries, in milliseconds
pub record Dated : Type 0 where
  pub what : Record
  pub moment : ℕ

abbrev pub stamped : ℕ → Record → Dated
stamped m r = record { what = r; moment = m }

-- the dated records that the format has
abbrev pub IsDated : Dated → Type 0
IsDated d = IsRecord d.what × (d.moment < 2 ^ 44)

-- a dated record: its kind, its moment in eight bytes, the length of its body in four bytes, its body
unfoldable pub spelled : Dated → List ℕ
spelled d = kind_of d.what ∷ to_le_bytes w64 d.moment ++ (to_le_bytes w32 (length (body_of d.what)) ++ body_of d.what)

-- the bytes of a record with its gate; no moment changes them
abbrev pub record_size : Record → ℕ
record_size r = 14 + length (body_of r)

-- the records without their moments
abbrev pub undated : List Dated → List Record
undated ds = map (λ (d : Dated). d.what) ds

-- records that all carry one moment
abbrev pub dated : ℕ → List Record → List Dated
dated m rs = map (stamped m) rs

-- the greatest moment of these, or 0
abbrev pub latest_of : List Dated → ℕ
latest_of [] = 0
latest_of (d ∷ ds) = max d.moment (latest_of ds)

-- the record that was read with this moment
abbrev pub dated_of : Option (Record × ℕ) → Option Dated
dated_of None = None
dated_of (Some p) = Some (stamped p.1 p.0)

-- the dated record at the front of these bytes; none where they begin with none
abbrev pub BeginsWith : List ℕ → Option Dated → Type 0
BeginsWith bytes (Some d) = IsDated d × (behind : List ℕ) × (spelled d ++ behind ≡ bytes)
BeginsWith bytes None = (d : Dated) (behind : List ℕ) → IsDated d → spelled d ++ behind ≡ bytes → ⊥
