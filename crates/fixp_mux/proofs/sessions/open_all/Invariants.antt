-- A session for each identifier so far.
use Rattle.std.proofs.Common.{◌≡◌, map, take}
use Rattle.fixp_mux.specs.State.{new_session}
use Rattle.fixp_mux.proofs.sessions.open_all.Given as goal

abbrev pub invariant-loop-id : goal.invariant-loop-id
invariant-loop-id l = l.channels.items ≡ map new_session (take l.id-index l.ids)
