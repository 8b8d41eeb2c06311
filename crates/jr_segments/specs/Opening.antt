-- What opening a journal finds in the content that its disk tells. The records themselves are not kept.
use Rattle.std.specs.Prelude.{◌≡◌, ◌≢◌, ℕ, ◌+◌, ◌<◌, ◌≤◌, ◌^◌, max, Bool, true, false, List, [], ◌∷◌, ◌++◌, length, take, drop, Option, ⊤}
use Rattle.std.specs.Option.{ForSome}
use Rattle.std.specs.List.{AllByRecursion}
use Rattle.jr_record.specs.declared.faults.OpenFault.{OpenFault}
use Rattle.jr_record.specs.declared.faults.OpenFault.TheVariants.{Memory, Fault, NotFormatted, Damaged}
use Rattle.jr_record.specs.Images.{gated, Breaks, IsClosed}
use Rattle.jr_dated.specs.declared.formats.Format.{Format}
use Rattle.jr_dated.specs.Dated.{Dated, stamped, latest_of}
use Rattle.jr_dated.specs.Formats.{header_of, LegalIn, spelled_in, IsJournalIn, IsDamagedIn, IsNotFormattedIn}
use Rattle.jr_places.specs.Numbers.{numbers_of}
use Rattle.jr_segments.specs.declared.index.Index.{Index}
use Rattle.jr_segments.specs.declared.scan.Front.{Front}
use Rattle.jr_segments.specs.declared.scan.Front.TheVariants as front
use Rattle.jr_segments.specs.declared.scan.Stop.{Stop}
use Rattle.jr_segments.specs.declared.scan.Stop.TheVariants as stop
use Rattle.jr_segments.specs.declared.scan.Found.{Found}

-- where the gates of records stand that are spelled so, the first one's gate standing at this place
abbrev pub places_by : (Dated → List ℕ) → ℕ → List Dated → List ℕ
places_by spell at [] = []
places_by spell at (d ∷ ds) = at ∷ places_by spell (at + (1 + length (spell d))) ds

-- what a refusal says of the content
abbrev pub Refuses : Format → OpenFault → List ℕ → Type 0
Refuses format Memory content = ⊤
Refuses format Fault content = ⊤
Refuses format NotFormatted content = IsNotFormattedIn format content
Refuses format (Damaged at) content = IsDamagedIn format content at

-- what a refusal says of the first piece
abbrev pub LacksHeader : Format → List ℕ → OpenFault → Type 0
LacksHeader format first Memory = ⊤
LacksHeader format first Fault = ⊥
LacksHeader format first NotFormatted = take 16 first ≢ header_of format
LacksHeader format first (Damaged at) = ⊥

-- what stands at the front of some bytes, where a gate or the closed byte is awaited
abbrev pub IsFront : Format → List ℕ → Front → Type 0
IsFront format bytes front.Closed = IsClosed bytes
IsFront format bytes front.Damaged = Breaks (LegalIn format) (spelled_in format) bytes
IsFront format bytes (front.Found r moment) = LegalIn format (stamped moment r)
    × (behind : List ℕ) × (bytes ≡ 1 ∷ (spelled_in format (stamped moment r) ++ behind))

-- records were taken from the front of bytes at this place, and noted, and these are left
pub record Takes (format : Format) (held : List ℕ) (at : ℕ) (old new : Index) (rest : List ℕ) : Type 0 where
  pub added : List Dated
  pub legal : AllByRecursion (LegalIn format) added
  pub split : held ≡ gated (spelled_in format) added ++ rest
  pub places : numbers_of new.places ≡ numbers_of old.places ++ places_by (spelled_in format) at added
  pub moment : new.moment ≡ max old.moment (latest_of added)

-- Why no more were taken: the closed byte stands there; or no record, whatever follows, where anything may; or there are
-- fewer bytes than a record may have, and more may follow
abbrev pub Stops : Format → List ℕ → Bool → Stop → Type 0
Stops format rest more stop.Closed = IsClosed rest
Stops format rest more stop.Damaged = (behind : List ℕ) → (more ≡ false → behind ≡ []) → Breaks (LegalIn format) (spelled_in format) (rest ++ behind)
Stops format rest more stop.Short = more ≡ true

-- Where reading stands: the records noted, the bytes read and not yet taken, the place of the next ones, whether there
-- may be any
pub record IsRead (format : Format) (told : Option (List ℕ)) (index : Index) (held : List ℕ) (at : ℕ) (more : Bool) : Type 0 where
  pub records : List Dated
  pub legal : AllByRecursion (LegalIn format) records
  pub places : numbers_of index.places ≡ places_by (spelled_in format) 16 records
  pub moment : index.moment ≡ latest_of records
  pub place : at ≡ 16 + length (gated (spelled_in format) records) + length held
  pub bound : at ≤ 2 ^ 40 + 65536
  pub short : more ≡ true → at < 2 ^ 40
  pub content : ForSome told (λ content. content ≡ header_of format ++ gated (spelled_in format) records ++ (held ++ drop at content))
  pub ended : more ≡ false → ForSome told (λ content. drop at content ≡ [])

-- what a scan noted: each record of the journal that the disk told
pub record IsFound (format : Format) (told : Option (List ℕ)) (found : Found) : Type 0 where
  pub records : List Dated
  pub legal : AllByRecursion (LegalIn format) records
  pub places : numbers_of found.index.places ≡ places_by (spelled_in format) 16 records
  pub moment : found.index.moment ≡ latest_of records
  pub sized : found.size ≡ 17 + length (gated (spelled_in format) records)
  pub bound : found.size ≤ 2 ^ 41
  pub content : ForSome told (λ content. IsJournalIn format content records)
