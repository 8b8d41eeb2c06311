-- A tape: a link that gives bytes that were written down before, and keeps what it takes (this project's profile).
use Rattle.std.specs.Prelude.{◌≡◌, ℕ, ◌-◌, true, List, [], ◌++◌, length, take, drop, if◌then◌else◌}
use Rattle.gw_links.specs.Links.{Carried, LinkTold}
use Rattle.gw_link_fakes.specs.Tallies.{fails, met, new_tally}
use Rattle.gw_link_fakes.specs.declared.tally.Tally.{Tally}

-- the bytes that it has given and those that it has left; those that it has taken, its room in bytes, and its calls
pub record Tape : Type 0 where
  pub given : List ℕ
  pub left : List ℕ
  pub taken : List ℕ
  pub room : ℕ
  pub tally : Tally

-- a tape that was not used yet
abbrev pub new_tape : List ℕ → ℕ → List ℕ → Tape
new_tape bytes room fail = record { given = []; left = bytes; taken = []; room = room; tally = new_tally fail }

-- nothing was given and taken yet
pub record IsUnused (t : Tape) : Type 0 where
  pub given : t.given ≡ []
  pub taken : t.taken ≡ []

-- as a link: no byte will come behind those that are left
abbrev pub told_of : Tape → LinkTold
told_of t = record { waits = t.left; taken = t.taken; over = true; room = t.room - length t.taken }

abbrev pub carried_of : Tape → Carried
carried_of t = record { given = t.given; taken = t.taken }

-- after a receive into a piece of n bytes
abbrev pub tape_received : ℕ → Tape → Tape
tape_received n t =
    if fails t.tally
    then record t { tally = met t.tally }
    else record t { given = t.given ++ take n t.left; left = drop n t.left; tally = met t.tally }

-- after a send of these bytes
abbrev pub tape_sent : List ℕ → Tape → Tape
tape_sent bytes t =
    if fails t.tally
    then record t { tally = met t.tally }
    else record t { taken = t.taken ++ take (t.room - length t.taken) bytes; tally = met t.tally }
