-- A guest to whom nothing came yet.
use Rattle.std.proofs.Common.{◌≡◌, ℕ, Bool, List, [], refl, sym, subst}
use Rattle.gw_link_fakes.specs.Tapes.{IsUnused, new_tape}
use Rattle.gw_guest_fakes.specs.Guests.{Guest, IsFresh}

pub fresh_guest : (bytes : List ℕ) (room : ℕ) (is_broken : Bool) (g : Guest) → g ≡ record { tape = new_tape bytes room []; is_broken = is_broken; failed = 0 } → IsFresh g
fresh_guest bytes room is_broken g is =
    let unused : IsUnused (new_tape bytes room []) = record { given = refl; taken = refl } in
    let fresh : IsFresh (record { tape = new_tape bytes room []; is_broken = is_broken; failed = 0 }) = record { unused = unused; received = refl; looked = refl } in
    subst IsFresh (sym is) fresh
