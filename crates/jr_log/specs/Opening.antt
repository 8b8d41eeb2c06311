-- What opening a journal finds in the content that its disk tells.
use Rattle.std.specs.Prelude.{◌≡◌, ◌≢◌, ℕ, ◌+◌, ◌<◌, ◌≤◌, ◌^◌, Bool, true, false, List, [], ◌∷◌, ◌++◌, length, take, drop, Option, ⊤}
use Rattle.std.specs.Option.{ForSome}
use Rattle.std.specs.List.{AllByRecursion}
use Rattle.jr_record.specs.declared.record.Record.{Record}
use Rattle.jr_record.specs.declared.faults.OpenFault.{OpenFault}
use Rattle.jr_record.specs.declared.faults.OpenFault.TheVariants.{Memory, Fault, NotFormatted, Damaged}
use Rattle.jr_record.specs.Records.{IsRecord, spelled}
use Rattle.jr_record.specs.Images.{header, gated, Breaks, IsClosed, IsDamaged, IsNotFormatted}
use Rattle.jr_log.specs.declared.scan.Front.{Front}
use Rattle.jr_log.specs.declared.scan.Front.TheVariants as front
use Rattle.jr_log.specs.declared.scan.Stop.{Stop}
use Rattle.jr_log.specs.declared.scan.Stop.TheVariants as stop

-- what a refusal says of the content
abbrev pub Refuses : OpenFault → List ℕ → Type 0
Refuses Memory content = ⊤
Refuses Fault content = ⊤
Refuses NotFormatted content = IsNotFormatted content
Refuses (Damaged at) content = IsDamaged content at

-- what a refusal says of the first piece
abbrev pub LacksHeader : List ℕ → OpenFault → Type 0
LacksHeader first Memory = ⊤
LacksHeader first Fault = ⊥
LacksHeader first NotFormatted = take 16 first ≢ header
LacksHeader first (Damaged at) = ⊥

-- what stands at the front of some bytes, where a gate or the closed byte is awaited
abbrev pub IsFront : List ℕ → Front → Type 0
IsFront bytes front.Closed = IsClosed bytes
IsFront bytes front.Damaged = Breaks IsRecord spelled bytes
IsFront bytes (front.Found r) = IsRecord r × (behind : List ℕ) × (bytes ≡ 1 ∷ (spelled r ++ behind))

-- records were taken from the front of bytes, and these are left
pub record Takes (held : List ℕ) (old new : List Record) (rest : List ℕ) : Type 0 where
  pub added : List Record
  pub grown : new ≡ old ++ added
  pub legal : AllByRecursion IsRecord added
  pub split : held ≡ gated spelled added ++ rest

-- Why no more were taken: the closed byte stands there; or no record, whatever follows, where anything may; or there are
-- fewer bytes than a record may have, and more may follow
abbrev pub Stops : List ℕ → Bool → Stop → Type 0
Stops rest more stop.Closed = IsClosed rest
Stops rest more stop.Damaged = (behind : List ℕ) → (more ≡ false → behind ≡ []) → Breaks IsRecord spelled (rest ++ behind)
Stops rest more stop.Short = more ≡ true

-- Where reading stands: the records found, the bytes read and not yet taken, the place of the next ones, whether there
-- may be any
pub record IsRead (told : Option (List ℕ)) (records : List Record) (held : List ℕ) (at : ℕ) (more : Bool) : Type 0 where
  pub legal : AllByRecursion IsRecord records
  pub place : at ≡ 16 + length (gated spelled records) + length held
  pub bound : at ≤ 2 ^ 40 + 65536
  pub short : more ≡ true → at < 2 ^ 40
  pub content : ForSome told (λ content. content ≡ header ++ gated spelled records ++ (held ++ drop at content))
  pub ended : more ≡ false → ForSome told (λ content. drop at content ≡ [])
