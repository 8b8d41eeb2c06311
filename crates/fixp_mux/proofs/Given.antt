-- One frame is given out, to the session that was named last.
use Rattle.std.proofs.Common.{◌≡◌, ◌⊎◌, ⊎_elim, inl, inr, ℕ, zero, suc, ◌+◌, ◌<◌, ◌≤◌, Bool, true, false, if◌then◌else◌, List, [], ◌∷◌, ◌++◌, length, get_or, slice_get, slice_set, Option, Some, None, IsSome, IfSome, refl, sym, ◌∙◌, ap, subst, arith, append-nil}
use Rattle.std.specs.Option.{option_map}
use Rattle.std.specs.Prelude.{◌↔◌, IsTrue, nat_le}
use Rattle.std.proofs.lemmas.Bool.Decides.{nat_tests}
use Rattle.std.specs.Str.{bytes_eq}
use Rattle.std.proofs.lemmas.Option.{slice_get-map, slice_get-get_or}
use Rattle.std.proofs.lemmas.Slice.Eq.{bytes_eq-Decides}
use Rattle.sofh_frame.specs.Framing.{Frame, spelled}
use Rattle.sofh_frame.specs.Splits.{spelled_all}
use Rattle.routes.specs.Identifiers.{EachOnce, StandsAt}
use Rattle.fixp_mux.specs.Context.{Says, names, carries, says}
use Rattle.fixp_mux.specs.Parts.{named_by, own, part_of, IsWellSaid}
use Rattle.fixp_mux.specs.Routing.{IsNamed, IsRouted, IsTable, Table, id_at, table_of}
use Rattle.fixp_mux.specs.State.{Session, AllPairs, Fed, IsOf, ids_of, session_room}
use Rattle.fixp_mux.specs.declared.routed.Routed.TheVariants.{Gave, Passed, Full, NoContext, OtherSession}
use Rattle.fixp_mux.proofs.Placing.{id_at_same, ids_set}

-- each session keeps what it has, or one of them changes
pub all_each : (R : Session → Session → Type 0) (xs : List Session) → ((place : ℕ) (s : Session) → slice_get xs place ≡ Some s → R s s) → AllPairs R xs xs
all_each R [] each = tt
all_each R (x ∷ xs) each = (each 0 x refl, all_each R xs (λ place s stands. each (suc place) s stands))

pub all_set : (R : Session → Session → Type 0) (place : ℕ) (xs : List Session) (x y : Session) → slice_get xs place ≡ Some x → R x y → ((p : ℕ) (s : Session) → slice_get xs p ≡ Some s → (p ≡ place → ⊥) → R s s) → AllPairs R xs (slice_set xs place y)
all_set R place [] x y stands here others = absurd (cc stands)
all_set R zero (z ∷ xs) x y stands here others =
    let same : z ≡ x = cc stands in
    (subst (λ (s : Session). R s y) (sym same) here, all_each R xs (λ p s at. others (suc p) s at (λ e. omega (arith, e))))
all_set R (suc place) (z ∷ xs) x y stands here others =
    (others 0 z refl (λ e. omega (arith, e)), all_set R place xs x y stands here (λ p s at different. others (suc p) s at (λ e. different (omega (arith, e)))))

-- the identifier of a session stands at its place, and at no other
pub id_stands : (xs : List Session) (place : ℕ) (s : Session) → slice_get xs place ≡ Some s → StandsAt (ids_of xs) s.id place
id_stands xs place s stands = slice_get-map (λ (t : Session). t.id) xs place ∙ ap (option_map (λ (t : Session). t.id)) stands

order : (a b : ℕ) → (a ≡ b → ⊥) → (a < b) ⊎ (b < a)
order zero zero different = absurd (different refl)
order zero (suc b) different = inl (omega arith)
order (suc a) zero different = inr (omega arith)
order (suc a) (suc b) different = ⊎_elim (λ (l : a < b). inl (omega (arith, l))) (λ (l : b < a). inr (omega (arith, l))) (order a b (λ e. different (ap suc e)))

pub one_place : (ids : List (List ℕ)) (id : List ℕ) (p q : ℕ) → EachOnce ids → StandsAt ids id p → StandsAt ids id q → (p ≡ q → ⊥) → ⊥
one_place ids id p q once here there different =
    ⊎_elim
    (λ (l : p < q). once q (record { id = id; earlier = p; before = l; here = there; there = here }))
    (λ (l : q < p). once p (record { id = id; earlier = q; before = l; here = here; there = there }))
    (order p q different)

-- a session that is not the one at a place has another identifier
pub other_id : (xs : List Session) (place p : ℕ) (x s : Session) → EachOnce (ids_of xs) → slice_get xs place ≡ Some x → slice_get xs p ≡ Some s → (p ≡ place → ⊥) → x.id ≡ s.id → ⊥
other_id xs place p x s once here there different same =
    one_place (ids_of xs) s.id p place once (id_stands xs p s there) (subst (λ (i : List ℕ). StandsAt (ids_of xs) i place) same (id_stands xs place x here)) different

eq_yes : (a b : List ℕ) → a ≡ b → bytes_eq a b ≡ true
eq_yes a b e = (bytes_eq-Decides a b).1 e

pub eq_no : (a b : List ℕ) → (a ≡ b → ⊥) → bytes_eq a b ≡ false
eq_no a b d = by_test (bytes_eq a b) refl
  where
    by_test : (t : Bool) → bytes_eq a b ≡ t → bytes_eq a b ≡ false
    by_test true e = absurd (d ((bytes_eq-Decides a b).0 e))
    by_test false e = e

pub eq_same : (a : List ℕ) → bytes_eq a a ≡ true
eq_same a = eq_yes a a refl

-- the part of one frame
pub part_named : (last : Option (List ℕ)) (session id : List ℕ) (f : Frame) → says f ≡ names id → part_of last session (f ∷ []) ≡ []
part_named last session id f e = ap (λ (s : Says). own last s session f ++ []) e

pub part_other : (id session : List ℕ) (f : Frame) → says f ≡ carries → (id ≡ session → ⊥) → part_of (Some id) session (f ∷ []) ≡ []
part_other id session f e different =
    ap (λ (s : Says). own (Some id) s session f ++ []) e ∙ ap (λ (b : Bool). (if b then f ∷ [] else []) ++ []) (eq_no id session different)

pub part_own : (id : List ℕ) (f : Frame) → says f ≡ carries → part_of (Some id) id (f ∷ []) ≡ f ∷ []
part_own id f e =
    ap (λ (s : Says). own (Some id) s id f ++ []) e ∙ ap (λ (b : Bool). (if b then f ∷ [] else []) ++ []) (eq_same id)

-- a session that is given nothing
given_nothing : (b : Bool) (bytes part : List ℕ) → (b ≡ false → part ≡ []) → bytes ≡ bytes ++ (if b then [] else part)
given_nothing true bytes part none = sym (append-nil bytes)
given_nothing false bytes part none = sym (ap (λ (p : List ℕ). bytes ++ p) (none refl) ∙ append-nil bytes)

pub fed_nothing : (last writing : Option (List ℕ)) (f : Frame) (s : Session) → (s.is_released ≡ false → part_of last s.id (f ∷ []) ≡ []) → Fed last writing (f ∷ []) [] s s
fed_nothing last writing f s none = record {
  id = refl;
  released = refl;
  input = given_nothing s.is_released s.input (spelled_all (part_of last s.id (f ∷ []))) (λ e. ap spelled_all (none e));
  output = refl;
}

-- a Context names a session
pub passed_named : (old : Table) (id : List ℕ) (new : Table) (f : Frame) → says f ≡ names id → IsNamed old id true new → IsRouted old f Passed new
passed_named old id new f is named =
    let none : (s : List ℕ) → part_of old.named s (f ∷ []) ≡ [] = λ s. part_named old.named s id f is in
    let all : AllPairs (Fed old.named old.writing (f ∷ []) []) old.sessions old.sessions = all_each (Fed old.named old.writing (f ∷ []) []) old.sessions (λ place s stands. fed_nothing old.named old.writing f s (λ e. none s.id)) in (
      record {
        sessions = subst (AllPairs (Fed old.named old.writing (f ∷ []) []) old.sessions) (sym (ap (λ (t : Table). t.sessions) named.1)) all;
        named = ap (λ (t : Table). t.named) named.1 ∙ sym (ap (named_by old.named) is);
        writing = ap (λ (t : Table). t.writing) named.1;
        well = subst (IsWellSaid (IsOf (ids_of old.sessions)) old.named) (sym is) named.0;
      },
      λ gave. gave.some (none gave.session.id),
    )

pub other_named : (old : Table) (id : List ℕ) (new : Table) (f : Frame) → says f ≡ names id → IsNamed old id false new → IsRouted old f OtherSession new
other_named old id new f is named = (named.1, record { id = id; is = is; unknown = named.0 })

-- the session at a place was named last
pub record LastIs (xs : List Session) (read : Option ℕ) (place : ℕ) (x : Session) : Type 0 where
  pub once : EachOnce (ids_of xs)
  pub stands : slice_get xs place ≡ Some x
  pub named : id_at xs read ≡ Some x.id

pub stands_at : (xs : List Session) (place : ℕ) (x : Session) → place < length xs → x ≡ get_or xs place x → slice_get xs place ≡ Some x
stands_at xs place x within there = slice_get-get_or xs place x within ∙ ap Some (sym there)

-- two readings of one place
pub same_read : (xs : List Session) (place : ℕ) (x y : Session) → place < length xs → x ≡ get_or xs place x → y ≡ get_or xs place y → x ≡ y
same_read xs place x y within one other = (let e : Some x ≡ Some y = sym (stands_at xs place x within one) ∙ stands_at xs place y within other in cc e)

pub id_at_place : (xs : List Session) (read : Option ℕ) (place : ℕ) (x : Session) → read ≡ Some place → slice_get xs place ≡ Some x → id_at xs read ≡ Some x.id
id_at_place xs read place x is stands = ap (id_at xs) is ∙ ap (option_map (λ (s : Session). s.id)) stands

named_within : (n : ℕ) (read : Option ℕ) (place : ℕ) → read ≡ Some place → IfSome read (λ p. p < n) → place < n
named_within n None place e within = absurd (cc e)
named_within n (Some p) place e within = (let same : p ≡ place = cc e in omega (arith, within, same))

pub last_is : (ids : List (List ℕ)) (xs : List Session) (read written : Option ℕ) (place : ℕ) (x : Session) → IsTable ids xs read written → read ≡ Some place → x ≡ get_or xs place x → LastIs xs read place x
last_is ids xs read written place x table is there =
    let stands = stands_at xs place x (named_within (length xs) read place is table.named) there in
    record {
      once = subst EachOnce table.are table.once;
      stands = stands;
      named = id_at_place xs read place x is stands;
    }

pub same_session : (xs : List Session) (read : Option ℕ) (place : ℕ) (x y : Session) → LastIs xs read place x → LastIs xs read place y → x ≡ y
same_session xs read place x y one other = (let e : Some x ≡ Some y = sym one.stands ∙ other.stands in cc e)

-- the session named last was released: the frame is dropped
apart : (xs : List Session) (read : Option ℕ) (place : ℕ) (x s : Session) (p : ℕ) → LastIs xs read place x → slice_get xs p ≡ Some s → p ≡ place → x.is_released ≡ true → s.is_released ≡ false → ⊥
apart xs read place x s p last stands e gone kept =
    let there : Some x ≡ Some s = sym last.stands ∙ ap (slice_get xs) (sym e) ∙ stands in
    let same : x ≡ s = cc there in
    let t : true ≡ false = sym gone ∙ ap (λ (s : Session). s.is_released) same ∙ kept in
    absurd (cc t)

dropped_part : (xs : List Session) (read : Option ℕ) (place : ℕ) (x : Session) (f : Frame) → LastIs xs read place x → says f ≡ carries → x.is_released ≡ true
    → (p : ℕ) (s : Session) → slice_get xs p ≡ Some s → s.is_released ≡ false → part_of (id_at xs read) s.id (f ∷ []) ≡ []
dropped_part xs read place x f last is released p s stands kept =
    ap (λ (o : Option (List ℕ)). part_of o s.id (f ∷ [])) last.named
    ∙ part_other x.id s.id f is (λ same. other_id xs place p x s last.once last.stands stands (λ e. apart xs read place x s p last stands e released kept) same)

well_carried : (Known : List ℕ → Type 0) (last : Option (List ℕ)) (id : List ℕ) (f : Frame) → last ≡ Some id → says f ≡ carries → IsWellSaid Known last (says f)
well_carried Known last id f named is = subst (IsWellSaid Known last) (sym is) (subst (λ (o : Option (List ℕ)). IsSome o) (sym named) refl)

pub passed_released : (xs : List Session) (read writing : Option ℕ) (place : ℕ) (x : Session) (f : Frame)
    → LastIs xs read place x → says f ≡ carries → x.is_released ≡ true → IsRouted (table_of xs read writing) f Passed (table_of xs read writing)
passed_released xs read writing place x f last is released =
    let none = dropped_part xs read place x f last is released in (
      record {
        sessions = all_each (Fed (id_at xs read) (id_at xs writing) (f ∷ []) []) xs (λ p s stands. fed_nothing (id_at xs read) (id_at xs writing) f s (none p s stands));
        named = sym (ap (named_by (id_at xs read)) is);
        writing = refl;
        well = well_carried (IsOf (ids_of xs)) (id_at xs read) x.id f last.named is;
      },
      λ gave. gave.some (none gave.place gave.session gave.stands gave.kept),
    )

pub no_context : (xs : List Session) (read writing : Option ℕ) (f : Frame) → read ≡ None → says f ≡ carries → IsRouted (table_of xs read writing) f NoContext (table_of xs read writing)
no_context xs read writing f none is = (refl, (ap (id_at xs) none, is))

pub full_at : (xs : List Session) (read writing : Option ℕ) (place : ℕ) (x : Session) (f : Frame)
    → LastIs xs read place x → says f ≡ carries → x.is_released ≡ false → session_room < length x.input + (6 + length f.message) → IsRouted (table_of xs read writing) f Full (table_of xs read writing)
full_at xs read writing place x f last is kept full =
    (refl, record { place = place; session = x; stands = last.stands; named = last.named; kept = kept; carries = is; full = full })

-- the session named last is given the frame
fed_frame : (last writing : Option (List ℕ)) (f : Frame) (x y : Session) → last ≡ Some x.id → says f ≡ carries → x.is_released ≡ false → y ≡ record x { input = x.input ++ spelled f } → Fed last writing (f ∷ []) [] x y
fed_frame last writing f x y named is kept same = record {
  id = ap (λ (s : Session). s.id) same;
  released = ap (λ (s : Session). s.is_released) same;
  input =
      ap (λ (s : Session). s.input) same
      ∙ ap (λ (bs : List ℕ). x.input ++ bs) (sym (append-nil (spelled f)))
      ∙ ap (λ (fs : List Frame). x.input ++ spelled_all fs) (sym (ap (λ (o : Option (List ℕ)). part_of o x.id (f ∷ [])) named ∙ part_own x.id f is))
      ∙ ap (λ (b : Bool). x.input ++ (if b then [] else spelled_all (part_of last x.id (f ∷ [])))) (sym kept);
  output = sym (ap (λ (s : Session). s.output) same);
}

no_list : (f : Frame) → f ∷ [] ≡ [] → ⊥
no_list f e = absurd (cc e)

pub gave_at : (xs : List Session) (read writing : Option ℕ) (place : ℕ) (x y : Session) (f : Frame)
    → LastIs xs read place x → x ≡ get_or xs place x → says f ≡ carries → x.is_released ≡ false → y ≡ record x { input = x.input ++ spelled f }
    → IsRouted (table_of xs read writing) f Gave (table_of (slice_set xs place y) read writing)
gave_at xs read writing place x y f last there is kept same =
    let ids = ids_set place xs x y there (ap (λ (s : Session). s.id) same) in
    let new = slice_set xs place y in (
      record {
        sessions = all_set (Fed (id_at xs read) (id_at xs writing) (f ∷ []) []) place xs x y last.stands (fed_frame (id_at xs read) (id_at xs writing) f x y last.named is kept same)
            (λ p s stands different. fed_nothing (id_at xs read) (id_at xs writing) f s (λ e.
            ap (λ (o : Option (List ℕ)). part_of o s.id (f ∷ [])) last.named ∙ part_other x.id s.id f is (other_id xs place p x s last.once last.stands stands different)));
        named = id_at_same xs new read ids ∙ sym (ap (named_by (id_at xs read)) is);
        writing = id_at_same xs new writing ids;
        well = well_carried (IsOf (ids_of xs)) (id_at xs read) x.id f last.named is;
      },
      record {
        place = place;
        session = x;
        stands = last.stands;
        kept = kept;
        some = λ e. no_list f (sym (ap (λ (o : Option (List ℕ)). part_of o x.id (f ∷ [])) last.named ∙ part_own x.id f is) ∙ e);
      },
    )

-- a test of room that fails
pub over_room : (r : Bool) (n m : ℕ) → IsTrue r ↔ (n ≤ m) → r ≡ false → m < n
over_room r n m iff e = by_test (nat_le n m) refl
  where
    by_test : (t : Bool) → nat_le n m ≡ t → m < n
    by_test true t = (let within : n ≤ m = grind (arith, nat_tests) in let both : true ≡ false = sym (iff.1 within) ∙ e in absurd (cc both))
    by_test false t = grind (arith, nat_tests)
