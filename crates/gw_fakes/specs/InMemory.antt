-- The devices in memory: what they hold, and when a call of theirs fails (this project's profile).
use Rattle.std.specs.Prelude.{ℕ, Bool, ◌+◌, ◌-◌, ◌^◌, ◌==◌, ◌||◌, min, List, ◌++◌, length, drop, nat_lt, if◌then◌else◌}
use Rattle.std.specs.List.{list_any}

-- a source: the bytes that it has left, how many it gives a call at most, the calls that fail, the calls made and failed
pub record Input : Type 0 where
  pub left : List ℕ
  pub piece : ℕ
  pub fail : List ℕ
  pub calls : ℕ
  pub faults : ℕ

-- a sink: the bytes that it has taken, its room in bytes, the calls that fail, the calls made and failed
pub record Output : Type 0 where
  pub taken : List ℕ
  pub room : ℕ
  pub fail : List ℕ
  pub calls : ℕ
  pub faults : ℕ

-- one more, up to the greatest number of 64 bits
abbrev pub one_more : ℕ → ℕ
one_more n = min (n + 1) (2 ^ 64 - 1)

-- the next call is one of those that fail
abbrev pub fails_next : List ℕ → ℕ → Bool
fails_next fail calls = list_any (λ call. call == one_more calls) fail

-- the source after a pull of up to n bytes that fails, and after one that does not
abbrev pub pulled : Input → ℕ → Input
pulled s n =
    if fails_next s.fail s.calls
    then record s { calls = one_more s.calls; faults = one_more s.faults }
    else record s { left = drop (min s.piece n) s.left; calls = one_more s.calls }

-- a push of n bytes is refused
abbrev pub refuses : Output → ℕ → Bool
refuses k n = fails_next k.fail k.calls || nat_lt (k.room - length k.taken) n

-- the sink after a push that is refused, and after one that is taken whole
abbrev pub pushed : Output → List ℕ → Output
pushed k bytes =
    if refuses k (length bytes)
    then record k { calls = one_more k.calls; faults = one_more k.faults }
    else record k { taken = k.taken ++ bytes; calls = one_more k.calls }
