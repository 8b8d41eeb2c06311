-- When a call of a device in memory fails, and what is counted (this project's profile).
use Rattle.std.specs.Prelude.{ℕ, Bool, List, if◌then◌else◌}
use Rattle.gw_fakes.specs.InMemory.{fails_next, one_more}
use Rattle.gw_link_fakes.specs.declared.tally.Tally.{Tally}

-- no call was made yet
abbrev pub new_tally : List ℕ → Tally
new_tally fail = record { fail = fail; calls = 0; faults = 0 }

-- the next call fails
abbrev pub fails : Tally → Bool
fails t = fails_next t.fail t.calls

-- after the next call
abbrev pub met : Tally → Tally
met t =
    if fails t
    then record t { calls = one_more t.calls; faults = one_more t.faults }
    else record t { calls = one_more t.calls }
