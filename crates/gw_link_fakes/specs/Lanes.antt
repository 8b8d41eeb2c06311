-- Bytes under way in one direction (this project's profile).
use Rattle.std.specs.Prelude.{ℕ, List, drop}
use Rattle.gw_link_fakes.specs.declared.lane.Lane.{Lane}

-- the bytes that are under way, the earliest first: those behind what was given
abbrev pub under_way : Lane → List ℕ
under_way l = drop l.given l.bytes.items
