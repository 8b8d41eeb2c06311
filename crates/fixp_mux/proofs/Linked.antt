-- What a receive of a session's link says of what waits for it.
use Rattle.std.proofs.Common.{◌≡◌, ℕ, ◌<◌, min, List, [], ◌∷◌, length, get_or, Option, Some, None, IfSome, slice_get, refl, ap, arith}
use Rattle.std.proofs.lemmas.Option.{slice_get-get_or}
use Rattle.fixp_mux.specs.State.{Session, State, new_session}
use Rattle.fixp_mux.specs.Linking.{HasNothing}

empty_of : (bytes : List ℕ) → length bytes ≡ 0 → bytes ≡ []
empty_of [] e = refl
empty_of (b ∷ bytes) e = absurd (omega (arith, e))

nothing_in : (o : Option Session) (n len : ℕ) → IfSome o (λ s. n ≡ min len (length s.input)) → 0 < len → n ≡ 0 → IfSome o (λ s. s.input ≡ [])
nothing_in None n len counted some none = tt
nothing_in (Some s) n len counted some none = empty_of s.input (omega (arith, counted, some, none))

-- where none came into a piece that has room, none wait
pub nothing_of : (place : ℕ) (m : State) (n len : ℕ) → IfSome (slice_get m.sessions place) (λ s. n ≡ min len (length s.input)) → 0 < len → n ≡ 0 → HasNothing place m
nothing_of place m n len counted some none = nothing_in (slice_get m.sessions place) n len counted some none

something_in : (o : Option Session) (s : Session) (n len : ℕ) → o ≡ Some s → IfSome o (λ t. n ≡ min len (length t.input)) → 0 < n → IfSome o (λ t. t.input ≡ []) → ⊥
something_in None s n len is counted some nothing = absurd (cc is)
something_in (Some t) s n len is counted some nothing = omega (arith, counted, some, ap length nothing)

-- where some came, some waited
pub something_of : (place : ℕ) (m : State) (n len : ℕ) → place < length m.sessions → IfSome (slice_get m.sessions place) (λ s. n ≡ min len (length s.input)) → 0 < n → HasNothing place m → ⊥
something_of place m n len within counted some nothing =
    let d : Session = new_session [] in
    something_in (slice_get m.sessions place) (get_or m.sessions place d) n len (slice_get-get_or m.sessions place d within) counted some nothing
