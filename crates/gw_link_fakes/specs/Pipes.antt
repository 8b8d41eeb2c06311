-- A pipe between two links: bytes under way both ways (this project's profile).
use Rattle.std.specs.Prelude.{ℕ, Bool, true, false, ◌-◌, List, [], ◌++◌, length, take, drop, if◌then◌else◌}
use Rattle.gw_links.specs.Links.{LinkTold}
use Rattle.gw_link_fakes.specs.declared.pipe.Side.{Side}
use Rattle.gw_link_fakes.specs.declared.pipe.Side.TheVariants.{Left, Right}

-- the bytes under way to each side, the earliest first; the room in bytes each way; and whether it was cut
pub record Held : Type 0 where
  pub to_left : List ℕ
  pub to_right : List ℕ
  pub room : ℕ
  pub is_cut : Bool

-- a pipe with nothing under way
abbrev pub new_pipe : ℕ → Held
new_pipe room = record { to_left = []; to_right = []; room = room; is_cut = false }

-- a pipe that was cut: what was under way is lost
abbrev pub cut_off : Held → Held
cut_off p = record p { to_left = []; to_right = []; is_cut = true }

-- how many more bytes are taken where these are under way; a pipe that was cut takes none
abbrev pub room_behind : Held → List ℕ → ℕ
room_behind p bytes = if p.is_cut then 0 else p.room - length bytes

-- what an end tells: what is under way to it waits, and what is under way to the other end is what it took
abbrev pub told_at : Side → Held → LinkTold
told_at Left p = record { waits = p.to_left; taken = p.to_right; over = p.is_cut; room = room_behind p p.to_right }
told_at Right p = record { waits = p.to_right; taken = p.to_left; over = p.is_cut; room = room_behind p p.to_left }

-- after a receive at an end into a piece of n bytes
abbrev pub received_at : Side → ℕ → Held → Held
received_at Left n p = record p { to_left = drop n p.to_left }
received_at Right n p = record p { to_right = drop n p.to_right }

-- after a send of these bytes at an end
abbrev pub sent_at : Side → List ℕ → Held → Held
sent_at Left bytes p = record p { to_right = p.to_right ++ take (room_behind p p.to_right) bytes }
sent_at Right bytes p = record p { to_left = p.to_left ++ take (room_behind p p.to_left) bytes }

-- an end of a pipe: of which pipe, and which side
pub record End : Type 0 where
  pub pipe : ℕ
  pub side : Side
