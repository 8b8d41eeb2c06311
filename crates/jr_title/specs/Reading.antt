-- What bytes say as a title, field by field, and why they are none.
use Rattle.std.specs.Prelude.{◌≡◌, ◌≢◌, ℕ, ◌≤◌, ◌<◌, ◌^◌, List, [], ◌∷◌, ◌++◌, length, take, drop, replicate, slice_index, Result, Ok, Err}
use Rattle.std.specs.Int.{Width, w16, w32, w64, to_le_bytes, from_le_bytes, byte_len}
use Rattle.crc32c.specs.Sums.{crc_of}
use Rattle.jr_title.specs.declared.title.Title.{Title}
use Rattle.jr_title.specs.declared.title.WhoSends.{WhoSends}
use Rattle.jr_title.specs.declared.faults.Field.{Field}
use Rattle.jr_title.specs.declared.faults.Field.TheVariants as fields
use Rattle.jr_title.specs.declared.faults.TitleFault.{TitleFault}
use Rattle.jr_title.specs.declared.faults.TitleFault.TheVariants.{Magic, Short, Sum, Range}
use Rattle.jr_title.specs.Firsts.{IsFirst}
use Rattle.jr_title.specs.Titles.{IsTitle, IsWhoSends, magic, front_of, image_of, who_code, desks_of, version_of, reference_of}

-- ---- the fields

abbrev pub IsOneOf : (least most code : ℕ) → Type 0
IsOneOf least most code = (least ≤ code) × (code ≤ most)

-- the numbers of desks by the code of who sends: none with senders, and one that keeps a book
pub record IsDesks (code desks : ℕ) : Type 0 where
  pub none : code ≡ 0 → desks ≡ 0
  pub some : code ≡ 1 → IsOneOf 1 16 desks
  pub book : code ≡ 2 → desks ≡ 1

pub record IsVersion (code version : ℕ) : Type 0 where
  pub none : code ≡ 0 → version ≡ 0
  pub some : 1 ≤ code → IsOneOf 1 2 version

pub record IsReference (code reference : ℕ) : Type 0 where
  pub none : code ≡ 0 → reference ≡ 0
  pub some : 1 ≤ code → IsOneOf 1 (10 ^ 15) reference

-- the number that the bytes from a place on spell
abbrev pub number : Width → ℕ → List ℕ → ℕ
number w at b = from_le_bytes w (take (byte_len w) (drop at b))

abbrev pub HasZeros : List ℕ → Type 0
HasZeros b = take 12 (drop 48 b) ≡ replicate 12 0

-- a field is in its range
abbrev pub InRange : List ℕ → Field → Type 0
InRange b fields.Which = IsOneOf 1 2 (slice_index b 8)
InRange b fields.Role = IsOneOf 1 2 (slice_index b 9)
InRange b fields.ClientFlow = IsOneOf 1 4 (slice_index b 10)
InRange b fields.ServerFlow = IsOneOf 1 4 (slice_index b 11)
InRange b fields.WhoSends = slice_index b 12 ≤ 2
InRange b fields.Desks = IsDesks (slice_index b 12) (slice_index b 13)
InRange b fields.OrderVersion = IsVersion (slice_index b 12) (number w16 14 b)
InRange b fields.Reference = IsReference (slice_index b 12) (number w64 32 b)
InRange b fields.Zeros = HasZeros b

-- their order, and those of who sends
abbrev pub of_who : List Field
of_who = fields.WhoSends ∷ fields.Desks ∷ fields.OrderVersion ∷ fields.Reference ∷ []

abbrev pub all_fields : List Field
all_fields = fields.Which ∷ fields.Role ∷ fields.ClientFlow ∷ fields.ServerFlow ∷ of_who ++ fields.Zeros ∷ []

-- ---- reading

-- the last four of 64 bytes are the sum of those before them
abbrev pub HasSum : List ℕ → Type 0
HasSum b = take 4 (drop 60 b) ≡ to_le_bytes w32 (crc_of (take 60 b))

-- the bytes have the magic and the length of a title
pub record IsSized (b : List ℕ) : Type 0 where
  pub magical : take 8 b ≡ magic
  pub long : 64 ≤ length b

-- a title at the front of the bytes, or the first cause why there is none
abbrev pub IsReading : List ℕ → Result Title TitleFault → Type 0
IsReading b (Ok t) = IsTitle t × (take 64 b ≡ image_of t)
IsReading b (Err Magic) = take 8 b ≢ magic
IsReading b (Err Short) = (take 8 b ≡ magic) × (length b < 64)
IsReading b (Err Sum) = IsSized b × (HasSum b → ⊥)
IsReading b (Err (Range field)) = IsSized b × HasSum b × IsFirst all_fields (InRange b) field

-- ---- parts of it: what the fields say of 64 bytes, and what those of who sends do

abbrev pub IsFieldsReading : List ℕ → Result Title Field → Type 0
IsFieldsReading b (Ok t) = IsTitle t × (take 8 b ≡ magic → take 60 b ≡ front_of t)
IsFieldsReading b (Err field) = IsFirst all_fields (InRange b) field

pub record SaysWho (b : List ℕ) (who : WhoSends) : Type 0 where
  pub legal : IsWhoSends who
  pub code : who_code who ≡ slice_index b 12
  pub desks : desks_of who ≡ slice_index b 13
  pub version : version_of who ≡ number w16 14 b
  pub reference : reference_of who ≡ number w64 32 b

abbrev pub IsWhoReading : List ℕ → Result WhoSends Field → Type 0
IsWhoReading b (Ok who) = SaysWho b who
IsWhoReading b (Err field) = IsFirst of_who (InRange b) field
