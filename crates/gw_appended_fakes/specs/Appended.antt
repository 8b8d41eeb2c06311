-- The sink in memory that appends, behind each call (this project's profile).
use Rattle.std.specs.Prelude.{ℕ, take, if◌then◌else◌}
use Rattle.gw_fakes.specs.InMemory.{Output, fails_next, one_more}

-- behind a call that only looks
abbrev pub met : Output → Output
met k =
    if fails_next k.fail k.calls
    then record k { calls = one_more k.calls; faults = one_more k.faults }
    else record k { calls = one_more k.calls }

-- behind a cut that leaves so many bytes
abbrev pub cut_to : Output → ℕ → Output
cut_to k size =
    if fails_next k.fail k.calls
    then record k { calls = one_more k.calls; faults = one_more k.faults }
    else record k { taken = take size k.taken; calls = one_more k.calls }
