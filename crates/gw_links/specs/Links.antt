-- What a link tells, and what its calls do to it (this project's profile).
use Rattle.std.specs.Prelude.{◌≡◌, ℕ, Bool, true, false, ◌+◌, ◌<◌, ◌≤◌, min, List, [], ◌++◌, length, take, Option, None, Some, Result, Ok, Err, ⊤}
use Rattle.std.specs.Option.{option_map}
use Rattle.gw_links.specs.declared.link.Got.{Got}
use Rattle.gw_links.specs.declared.link.Got.TheVariants.{Bytes, Quiet, End}

-- The bytes that wait to be received; the bytes that it took, as far as it has them still, the latest last; whether no byte
-- will come behind those that wait; and how many more bytes it takes. A tape has all that it took, and a pipe those that its
-- other end has not received.
pub record LinkTold : Type 0 where
  pub waits : List ℕ
  pub taken : List ℕ
  pub over : Bool
  pub room : ℕ

-- All bytes that a connection has given and taken so far.
pub record Carried : Type 0 where
  pub given : List ℕ
  pub taken : List ℕ

-- the bytes that a receive gave into the front of a piece
abbrev pub gave : {E : Type 0} → Result Got E → List ℕ → List ℕ
gave (Ok (Bytes n)) piece = take n piece
gave (Ok Quiet) piece = []
gave (Ok End) piece = []
gave (Err e) piece = []

-- at least one byte, and no more than a piece of that length holds
abbrev pub IsWithin : Got → ℕ → Type 0
IsWithin (Bytes n) len = (0 < n) × (n ≤ len)
IsWithin Quiet len = ⊤
IsWithin End len = ⊤

-- bytes come exactly where some wait, else the end exactly where no more will come, else nothing
abbrev pub IsAnswer : LinkTold → Got → Type 0
IsAnswer t (Bytes n) = 0 < length t.waits
IsAnswer t Quiet = (t.waits ≡ []) × (t.over ≡ false)
IsAnswer t End = (t.waits ≡ []) × (t.over ≡ true)

-- how many bytes came
abbrev pub count_of : Got → ℕ
count_of (Bytes n) = n
count_of Quiet = 0
count_of End = 0

-- as many bytes came as the piece takes of those that wait
abbrev pub gives_lesser : LinkTold → ℕ → Got → Type 0
gives_lesser t len got = count_of got ≡ min len (length t.waits)

-- A link gave these bytes, which had waited, and took those, for which it had room.
pub record Step (old new : LinkTold) (given taken : List ℕ) : Type 0 where
  pub waited : old.waits ≡ given ++ new.waits
  pub took : new.taken ≡ old.taken ++ taken
  pub over : new.over ≡ old.over
  pub fitted : old.room ≡ new.room + length taken

-- the same of a link that may tell nothing: it goes on to tell what it tells
abbrev pub Steps : Option LinkTold → Option LinkTold → List ℕ → List ℕ → Type 0
Steps None None given taken = ⊤
Steps None (Some new) given taken = ⊥
Steps (Some old) None given taken = ⊥
Steps (Some old) (Some new) given taken = Step old new given taken

-- a connection gave and took more
abbrev pub carry : List ℕ → List ℕ → Carried → Carried
carry given taken c = record { given = c.given ++ given; taken = c.taken ++ taken }

-- In one call or in several, a link gave these bytes and took those.
pub record Moved (told told' : Option LinkTold) (carried carried' : Option Carried) (given taken : List ℕ) : Type 0 where
  pub tells : Steps told told' given taken
  pub carries : carried' ≡ option_map (carry given taken) carried

-- A link took the first n of some bytes, and gave nothing.
pub record TookFront (told told' : Option LinkTold) (carried carried' : Option Carried) (bytes : List ℕ) : Type 0 where
  pub count : ℕ
  pub within : count ≤ length bytes
  pub moved : Moved told told' carried carried' [] (take count bytes)

-- A link that tells what it has carried carried exactly these bytes.
abbrev pub HasCarried : Option Carried → List ℕ → List ℕ → Type 0
HasCarried None given taken = ⊤
HasCarried (Some c) given taken = (c.given ≡ given) × (c.taken ≡ taken)

-- nothing so far
abbrev pub CarriedNothing : Option Carried → Type 0
CarriedNothing carried = HasCarried carried [] []
