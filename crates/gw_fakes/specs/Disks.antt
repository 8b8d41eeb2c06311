-- A disk in memory: what it holds, what a stop may leave of it, and what each call does (this project's profile).
use Rattle.std.specs.Prelude.{ℕ, Bool, true, false, ◌+◌, ◌-◌, ◌^◌, ◌≤◌, ◌==◌, ◌&&◌, ◌||◌, nat_lt, nat_le, not, List, [], ◌∷◌, ◌++◌, length, take, drop, replicate, Option, None, Some, IsTrue, if◌then◌else◌}
use Rattle.gw_outside.specs.Disk.{written}
use Rattle.gw_fakes.specs.InMemory.{fails_next, one_more}
use Rattle.gw_fakes.specs.declared.meter.Meter.{Meter}
use Rattle.gw_fakes.specs.declared.disk.Pick.{Pick}
use Rattle.gw_fakes.specs.declared.disk.Pick.TheVariants.{Old, Kept, Noise}

-- What a read gives; what stood at the last sync; for each place whether a write since then reached it; the room in
-- bytes; and what counts the calls.
pub record DiskState : Type 0 where
  pub content : List ℕ
  pub synced : List ℕ
  pub pending : List Bool
  pub room : ℕ
  pub meter : Meter

-- What a stop may leave: any byte where a write is pending, the synced one elsewhere, and past the synced end any bytes
-- as far as a pending write reaches.
abbrev pub is_left : List ℕ → List Bool → List ℕ → Bool
is_left [] pending image = nat_le (length image) (length pending)
is_left (byte ∷ synced) [] image = false
is_left (byte ∷ synced) (is_pending ∷ pending) [] = false
is_left (byte ∷ synced) (is_pending ∷ pending) (b ∷ image) = (is_pending || (b == byte)) && is_left synced pending image

-- a disk that holds nothing
abbrev pub empty_disk : ℕ → List ℕ → DiskState
empty_disk room fail = record { content = []; synced = []; pending = []; room = room; meter = record { fail = fail; calls = 0; faults = 0; fuse = None } }

-- n bytes from a place on have a pending write
abbrev pub marked : ℕ → ℕ → List Bool → List Bool
marked at n pending = written at (replicate n true) pending

-- no write is pending in a disk of n bytes
abbrev pub none_pending : ℕ → List Bool
none_pending n = replicate n false

-- the places of a disk of n bytes where a write is pending: those of a part that begins at a place, and none before it and behind it
abbrev pub pending_from : ℕ → List Bool → ℕ → List Bool
pending_from low part n = none_pending low ++ (part ++ none_pending (n - (low + length part)))

-- no call passes any more
abbrev pub is_blown : Option ℕ → Bool
is_blown None = false
is_blown (Some left) = left == 0

-- so many more calls pass
abbrev pub fused : ℕ → DiskState → DiskState
fused calls d = record d { meter = record d.meter { fuse = Some calls } }

-- what is left of a fuse after a call
abbrev pub burnt : Option ℕ → Option ℕ
burnt None = None
burnt (Some left) = Some (left - 1)

-- the next call fails: the fuse is blown, or it is one of those that are to fail
abbrev pub refuses_call : Meter → Bool
refuses_call m = is_blown m.fuse || fails_next m.fail m.calls

-- after a call that passes, and after one that fails
abbrev pub counted : Meter → Meter
counted m = record m { calls = one_more m.calls; fuse = burnt m.fuse }

abbrev pub failed : Meter → Meter
failed m = record m { calls = one_more m.calls; fuse = burnt m.fuse; faults = one_more m.faults }

-- after a call that only looks
abbrev pub met : Meter → Meter
met m = if refuses_call m then failed m else counted m

-- the disk after a sync
abbrev pub after_sync : DiskState → DiskState
after_sync d =
    if refuses_call d.meter
    then record d { meter = failed d.meter }
    else record d { synced = d.content; pending = none_pending (length d.content); meter = counted d.meter }

-- the range of a write is pending, and its bytes stand or do not
abbrev pub placed : DiskState → ℕ → List ℕ → Bool → DiskState
placed d at bytes stands = record d { content = if stands then written at bytes d.content else d.content; pending = marked at (length bytes) d.pending }

-- The disk after a write. Past the fuse and past the room it changes nothing; one that is to fail leaves its range pending.
abbrev pub after_write : DiskState → ℕ → List ℕ → DiskState
after_write d at bytes =
    if is_blown d.meter.fuse || nat_lt d.room (at + length bytes)
    then record d { meter = failed d.meter }
    else if fails_next d.meter.fail d.meter.calls
    then record (placed d at bytes false) { meter = failed d.meter }
    else record (placed d at bytes true) { meter = counted d.meter }

-- a write of n bytes at a place fails
abbrev pub refuses_write : DiskState → ℕ → ℕ → Bool
refuses_write d at n = is_blown d.meter.fuse || nat_lt d.room (at + n) || fails_next d.meter.fail d.meter.calls

-- the bytes with 0xA5 in each place that has a pending write
abbrev pub spoiled : List ℕ → List Bool → List ℕ
spoiled (byte ∷ bytes) (is_pending ∷ pending) = (if is_pending then 165 else byte) ∷ spoiled bytes pending
spoiled bytes pending = bytes

-- What a stop leaves by each pick: the synced content, what a read gave, or 0xA5 in each byte that has a pending write.
abbrev pub image_of : Pick → List ℕ → List ℕ → List Bool → List ℕ
image_of Old content synced pending = synced
image_of Kept content synced pending = content
image_of Noise content synced pending = spoiled synced pending ++ replicate (length pending - length synced) 165

-- the disk after a stop: all of it as the pick says, with no fuse
abbrev pub stopped : Pick → DiskState → DiskState
stopped pick d =
    let image = image_of pick d.content d.synced d.pending in
    record d { content = image; synced = image; pending = none_pending (length image); meter = record d.meter { fuse = None } }

-- no write is pending in this part
abbrev pub is_still : List Bool → Bool
is_still [] = true
is_still (is_pending ∷ pending) = not is_pending && is_still pending

-- What a disk in memory keeps of its parts: no write is pending below `low`, nor from `high` on.
pub record IsSound (content synced : List ℕ) (pending : List Bool) (low high room : ℕ) : Type 0 where
  pub left : IsTrue (is_left synced pending content)
  pub grown : length synced ≤ length content
  pub within : length pending ≤ room
  pub limited : room ≤ 2 ^ 40
  pub below : IsTrue (is_still (take low pending))
  pub above : IsTrue (is_still (drop high pending))
