-- The session at a place changes, and no other does.
use Rattle.std.proofs.Common.{◌≡◌, ℕ, zero, suc, ◌<◌, List, [], ◌∷◌, ◌++◌, length, get_or, take, drop, take-append-drop, map, Option, Some, None, IfSome, slice_get, slice_set, refl, sym, ◌∙◌, ap, subst, arith}
use Rattle.std.proofs.lemmas.Option.{slice_get-map, slice_get-get_or}
use Rattle.std.proofs.lemmas.List.{length-set}
use Rattle.fixp_mux.specs.State.{Session, ids_of, new_session}
use Rattle.fixp_mux.specs.Calls.{Changes, Receives}
use Rattle.fixp_mux.specs.Routing.{IsTable, id_at, table_of}

pub changes_set : (place : ℕ) (R : Session → Session → Type 0) (sessions : List Session) (x y : Session) → place < length sessions → x ≡ get_or sessions place x → R x y → Changes place R sessions (slice_set sessions place y)
changes_set place R [] x y within is r = absurd (omega (arith, within))
changes_set zero R (s ∷ sessions) x y within is r = (subst (λ (z : Session). R z y) is r, refl)
changes_set (suc place) R (s ∷ sessions) x y within is r = (refl, changes_set place R sessions x y (omega (arith, within)) is r)

pub ids_set : (place : ℕ) (sessions : List Session) (x y : Session) → x ≡ get_or sessions place x → y.id ≡ x.id → ids_of (slice_set sessions place y) ≡ ids_of sessions
ids_set place [] x y is same = refl
ids_set zero (s ∷ sessions) x y is same = ap (λ (id : List ℕ). id ∷ ids_of sessions) (same ∙ ap (λ (z : Session). z.id) is)
ids_set (suc place) (s ∷ sessions) x y is same = ap (λ (ids : List (List ℕ)). s.id ∷ ids) (ids_set place sessions x y is same)

pub id_at_same : (old new : List Session) (named : Option ℕ) → ids_of new ≡ ids_of old → id_at new named ≡ id_at old named
id_at_same old new None same = refl
id_at_same old new (Some place) same =
    sym (slice_get-map (λ (s : Session). s.id) new place)
    ∙ ap (λ (ids : List (List ℕ)). slice_get ids place) same
    ∙ slice_get-map (λ (s : Session). s.id) old place

within_same : (old new : List Session) (named : Option ℕ) → length new ≡ length old → IfSome named (λ place. place < length old) → IfSome named (λ place. place < length new)
within_same old new None same within = tt
within_same old new (Some place) same within = omega (arith, same, within)

pub router_set : (ids : List (List ℕ)) (place : ℕ) (sessions : List Session) (named writing : Option ℕ) (x y : Session) → x ≡ get_or sessions place x → y.id ≡ x.id → IsTable ids sessions named writing → IsTable ids (slice_set sessions place y) named writing
router_set ids place sessions named writing x y is same router =
    let new = slice_set sessions place y in
    let long : length new ≡ length sessions = length-set sessions place y in
    record {
      are = router.are ∙ sym (ids_set place sessions x y is same);
      once = router.once;
      named = within_same sessions new named long router.named;
      writing = within_same sessions new writing long router.writing;
    }

-- the sessions of a new router
pub ids_new : (ids : List (List ℕ)) → ids_of (map new_session ids) ≡ ids
ids_new [] = refl
ids_new (id ∷ ids) = ap (λ (is : List (List ℕ)). id ∷ is) (ids_new ids)

-- what is said of the session at a place
pub if_some_at : (place : ℕ) (sessions : List Session) (x : Session) (P : Session → Type 0) → place < length sessions → x ≡ get_or sessions place x → P x → IfSome (slice_get sessions place) P
if_some_at place sessions x P within is p =
    let there : slice_get sessions place ≡ Some x = slice_get-get_or sessions place x within ∙ ap Some (sym is) in
    subst (λ (o : Option Session). IfSome o P) (sym there) p

-- a session received the front of its input
pub receives_of : (x y : Session) (n : ℕ) (piece : List ℕ) → take n piece ≡ take n x.input → y ≡ record x { input = drop n x.input } → Receives (take n piece) x y
receives_of x y n piece front is = record {
  front = sym (take-append-drop n x.input) ∙ ap (λ (bs : List ℕ). bs ++ drop n x.input) (sym front) ∙ ap (λ (bs : List ℕ). take n piece ++ bs) (sym (ap (λ (s : Session). s.input) is));
  same = is ∙ ap (λ (bs : List ℕ). let s : Session = record x { input = bs } in s) (sym (ap (λ (s : Session). s.input) is));
}

pub length-changes : (place : ℕ) (R : Session → Session → Type 0) (old new : List Session) → Changes place R old new → length new ≡ length old
length-changes place R [] new changes = absurd changes
length-changes place R (s ∷ old) [] changes = absurd changes
length-changes zero R (s ∷ old) (t ∷ new) changes = ap (λ (l : List Session). suc (length l)) changes.1
length-changes (suc place) R (s ∷ old) (t ∷ new) changes = ap suc (length-changes place R old new changes.1)

-- of a table one session changes, and keeps its identifier
pub table_set : (place : ℕ) (xs : List Session) (read written : Option ℕ) (x y : Session) → x ≡ get_or xs place x → y.id ≡ x.id → table_of (slice_set xs place y) read written ≡ record (table_of xs read written) { sessions = slice_set xs place y }
table_set place xs read written x y is same =
    let ids = ids_set place xs x y is same in
    λ i. record { sessions = slice_set xs place y; named = id_at_same xs (slice_set xs place y) read ids i; writing = id_at_same xs (slice_set xs place y) written ids i }
