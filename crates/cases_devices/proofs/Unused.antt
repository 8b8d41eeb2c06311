-- Tapes that were not used yet.
use Rattle.std.proofs.Common.{◌≡◌, ℕ, List, [], ◌∷◌, ◌++◌, refl, sym, subst}
use Rattle.std.proofs.lemmas.List.Elements.{All-append, All-cons, All-nil}
use Rattle.std.specs.List.{All}
use Rattle.gw_link_fakes.specs.Tapes.{IsUnused, Tape, new_tape}

-- one more that is new
pub one_more_unused : (tapes : List Tape) (tape : Tape) (bytes fail : List ℕ) (room : ℕ) → All IsUnused tapes → tape ≡ new_tape bytes room fail → All IsUnused (tapes ++ tape ∷ [])
one_more_unused tapes tape bytes fail room unused is =
    let new : IsUnused (new_tape bytes room fail) = record { given = refl; taken = refl } in
    All-append IsUnused tapes (tape ∷ []) unused (All-cons IsUnused tape [] (subst IsUnused (sym is) new) (All-nil IsUnused))
