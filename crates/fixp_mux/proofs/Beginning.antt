-- One frame of a session is moved behind what is unsent, with its Context.
use Rattle.std.proofs.Common.{◌≡◌, ◌≢◌, ◌⊎◌, ⊎_elim, inl, inr, ℕ, zero, suc, ◌+◌, ◌<◌, ◌≤◌, Bool, true, false, if◌then◌else◌, ◌||◌, List, [], ◌∷◌, ◌++◌, length, take, drop, get_or, slice_get, slice_set, Option, Some, None, refl, sym, ◌∙◌, ap, subst, arith, append_assoc, append-nil, length-append}
use Rattle.std.specs.Option.{option_eq, option_map}
use Rattle.std.specs.Str.{bytes_eq}
use Rattle.std.proofs.Math.Dec.{eqb}
use Rattle.std.proofs.lemmas.Bool.Decides.{nat_tests}
use Rattle.std.proofs.lemmas.Option.{get_or_from_slice_get, slice_get_within}
use Rattle.std.proofs.lemmas.Slice.Eq.{bytes_eq-Decides}
use Rattle.std.proofs.Math.Seq.{take-append_seam}
use Rattle.sofh_frame.specs.Framing.{Frame, spelled, BeginsWith}
use Rattle.sofh_frame.specs.Splits.{spelled_all}
use Rattle.sofh_frame.proofs.SplitLemmas.{length-spelled}
use Rattle.routes.specs.Identifiers.{EachOnce}
use Rattle.fixp_mux.specs.Begun.{Began, BeganSome, HasNone, IsAnnounced, IsBegun, IsBegunBetween, contexts_before, outputs}
use Rattle.fixp_mux.specs.Context.{Says, names, carries, says, context_frame, context_message}
use Rattle.fixp_mux.specs.Parts.{named_by, named_behind, own, part_of, IsWellSaid, WellRouted, IsTightSaid, Tight}
use Rattle.fixp_mux.specs.Routing.{IsTable, Table, id_at, table_of}
use Rattle.fixp_mux.specs.State.{Session, AllPairs, Fed, IsOf, ids_of}
use Rattle.fixp_mux.proofs.Composing.{all_more, fed_none, ids_fed, tight_more, well_more}
use Rattle.fixp_mux.proofs.Given.{all_set, eq_no, eq_same, id_at_place, id_stands, other_id, part_other, part_own, stands_at}
use Rattle.fixp_mux.proofs.Placing.{id_at_same, ids_set}
use Rattle.fixp_mux.proofs.Partings.{named_append, spelled_append}
use Rattle.fixp_mux.proofs.Spelling.{context_names}

-- a frame of a session as it is begun: behind its Context, where the last one does not name the session
abbrev pub begun_as : Option (List ℕ) → List ℕ → Frame → List Frame
begun_as last id f = contexts_before last id ++ f ∷ []

-- what is said of it, by whether a Context is written
record IsBehind (ids : List (List ℕ)) (last : Option (List ℕ)) (id : List ℕ) (f : Frame) (begun : List Frame) : Type 0 where
  named : named_behind last begun ≡ Some id
  own : part_of last id begun ≡ f ∷ []
  none : (other : List ℕ) → (id ≡ other → ⊥) → part_of last other begun ≡ []
  known : WellRouted (IsOf ids) last begun
  tight : Tight last begun

-- behind a frame that names it
behind_context : (ids : List (List ℕ)) (last : Option (List ℕ)) (id : List ℕ) (f : Frame) → IsOf ids id → length id ≡ 16 → says f ≡ carries → (last ≢ Some id) → IsBehind ids last id f (context_frame id ∷ f ∷ [])
behind_context ids last id f among size is other =
    let c = context_frame id in
    let n : says c ≡ names id = context_names id size in
    let by : named_by last (says c) ≡ Some id = ap (named_by last) n in
    let part : (i : List ℕ) → part_of last i (c ∷ f ∷ []) ≡ part_of (Some id) i (f ∷ []) =
    λ i. ap (λ (s : Says). own last s i c ++ part_of (named_by last s) i (f ∷ [])) n in
    record {
      named = ap (λ (o : Option (List ℕ)). named_by o (says f)) by ∙ ap (named_by (Some id)) is;
      own = part id ∙ part_own id f is;
      none = λ i different. part i ∙ part_other id i f is different;
      known =
          subst (λ (s : Says). IsWellSaid (IsOf ids) last s × WellRouted (IsOf ids) (named_by last s) (f ∷ [])) (sym n)
          (among, (subst (λ (s : Says). IsWellSaid (IsOf ids) (Some id) s) (sym is) refl, tt));
      tight =
          subst (λ (s : Says). IsTightSaid last s (f ∷ []) × Tight (named_by last s) (f ∷ [])) (sym n)
          ((other, is), (subst (λ (s : Says). IsTightSaid (Some id) s []) (sym is) refl, tt));
    }

behind_none : (ids : List (List ℕ)) (id : List ℕ) (f : Frame) → says f ≡ carries → IsBehind ids (Some id) id f (f ∷ [])
behind_none ids id f is = record {
  named = ap (named_by (Some id)) is;
  own = part_own id f is;
  none = λ i different. part_other id i f is different;
  known = (subst (λ (s : Says). IsWellSaid (IsOf ids) (Some id) s) (sym is) refl, tt);
  tight = (subst (λ (s : Says). IsTightSaid (Some id) s []) (sym is) refl, tt);
}

is_behind : (ids : List (List ℕ)) (last : Option (List ℕ)) (id : List ℕ) (f : Frame) → IsOf ids id → length id ≡ 16 → says f ≡ carries → IsBehind ids last id f (begun_as last id f)
is_behind ids None id f among size is = behind_context ids None id f among size is (λ e. absurd (cc e))
is_behind ids (Some i) id f among size is = by_test (bytes_eq i id) refl
  where
    other : bytes_eq i id ≡ false → bytes_eq i id ≡ true → ⊥
    other apart same = (let t : true ≡ false = sym same ∙ apart in absurd (cc t))

    by_test : (b : Bool) → bytes_eq i id ≡ b → IsBehind ids (Some i) id f ((if b then [] else context_frame id ∷ []) ++ f ∷ [])
    by_test true e = subst (λ (j : List ℕ). IsBehind ids (Some j) id f (f ∷ [])) (sym ((bytes_eq-Decides i id).0 e)) (behind_none ids id f is)
    by_test false e = behind_context ids (Some i) id f among size is (λ s. other e ((bytes_eq-Decides i id).1 (cc s)))

-- bytes that begin with a frame
pub take_begins : (bytes : List ℕ) (f : Frame) (size : ℕ) → BeginsWith bytes f size → take size bytes ≡ spelled f
take_begins bytes f size begins =
    ap (λ (n : ℕ). take n bytes) (begins.counts ∙ sym (length-spelled f))
    ∙ ap (take (length (spelled f))) begins.spells
    ∙ take-append_seam (spelled f) (drop size bytes)

pub size_begins : (bytes : List ℕ) (f : Frame) (size : ℕ) → BeginsWith bytes f size → length bytes ≡ size + length (drop size bytes)
size_begins bytes f size begins = omega (arith, ap length begins.spells, length-append (spelled f) (drop size bytes), begins.counts, length-spelled f)

fed_begun : (ids : List (List ℕ)) (named last : Option (List ℕ)) (f : Frame) (size : ℕ) (x y : Session) (begun : List Frame) → IsBehind ids last x.id f begun → BeginsWith x.output f size → y ≡ record x { output = drop size x.output } → Fed named last [] begun x y
fed_begun ids named last f size x y begun is begins same = record {
  id = ap (λ (s : Session). s.id) same;
  released = ap (λ (s : Session). s.is_released) same;
  input = ap (λ (s : Session). s.input) same ∙ (fed_none named last x).input;
  output =
      begins.spells
      ∙ ap (λ (bs : List ℕ). bs ++ drop size x.output) (sym (append-nil (spelled f)))
      ∙ ap (λ (fs : List Frame). spelled_all fs ++ drop size x.output) (sym is.own)
      ∙ ap (λ (bs : List ℕ). spelled_all (part_of last x.id begun) ++ bs) (sym (ap (λ (s : Session). s.output) same));
}

fed_other : (named last : Option (List ℕ)) (begun : List Frame) (s : Session) → part_of last s.id begun ≡ [] → Fed named last [] begun s s
fed_other named last begun s none = record {
  id = refl;
  released = refl;
  input = (fed_none named last s).input;
  output = ap (λ (fs : List Frame). spelled_all fs ++ s.output) (sym none);
}

-- how many bytes wait to be written
outputs_set : (place : ℕ) (xs : List Session) (x y : Session) → slice_get xs place ≡ Some x → outputs (slice_set xs place y) + length x.output ≡ outputs xs + length y.output
outputs_set place [] x y stands = absurd (cc stands)
outputs_set zero (z ∷ xs) x y stands =
    let same : z ≡ x = cc stands in
    omega (arith, ap (λ (s : Session). length s.output) same)
outputs_set (suc place) (z ∷ xs) x y stands = omega (arith, outputs_set place xs x y stands)

-- the frame of the session at a place is moved, behind its Context
pub began_at : (old mid : Table) (unsent unsent' : List ℕ) (place : ℕ) (x y : Session) (f : Frame) (size : ℕ) (new : Table)
    → EachOnce (ids_of old.sessions) → IsAnnounced place old unsent mid unsent' → slice_get old.sessions place ≡ Some x
    → BeginsWith x.output f size → says f ≡ carries → y ≡ record x { output = drop size x.output }
    → new ≡ record mid { sessions = slice_set old.sessions place y }
    → Began old unsent new (unsent' ++ take size x.output)
began_at old mid unsent unsent' place x y f size new once announced stands begins is same new_is =
    let begun = begun_as old.writing x.id f in
    let one : announced.session ≡ x = cc (sym announced.stands ∙ stands) in
    let sized : length x.id ≡ 16 = sym (ap (λ (s : Session). length s.id) one) ∙ announced.size in
    let here = id_stands old.sessions place x stands in
    let among : IsOf (ids_of old.sessions) x.id = (place, (slice_get_within (ids_of old.sessions) place x.id here, sym (get_or_from_slice_get (ids_of old.sessions) place x.id x.id here))) in
    let behind = is_behind (ids_of old.sessions) old.writing x.id f among sized is in
    let changed : new.sessions ≡ slice_set old.sessions place y = ap (λ (t : Table). t.sessions) new_is in
    let R : Session → Session → Type 0 = Fed old.named old.writing [] begun in
    let mid_is : mid ≡ record old { writing = Some x.id } = announced.is ∙ ap (λ (s : Session). let t : Table = record old { writing = Some s.id } in t) one in
    let less : length y.output < length x.output = omega (arith, ap (λ (s : Session). length s.output) same, size_begins x.output f size begins, begins.counts) in
    record {
      begun = begun;
      sessions =
          subst (AllPairs R old.sessions) (sym changed)
          (all_set R place old.sessions x y stands (fed_begun (ids_of old.sessions) old.named old.writing f size x y begun behind begins same)
          (λ p s at different. fed_other old.named old.writing begun s (behind.none s.id (other_id old.sessions place p x s once stands at different))));
      named = ap (λ (t : Table). t.named) new_is ∙ ap (λ (t : Table). t.named) mid_is;
      writing = ap (λ (t : Table). t.writing) new_is ∙ ap (λ (t : Table). t.writing) mid_is ∙ sym behind.named;
      known = behind.known;
      tight = behind.tight;
      wrote =
          ap (λ (bs : List ℕ). bs ++ take size x.output) (announced.wrote ∙ ap (λ (s : Session). unsent ++ spelled_all (contexts_before old.writing s.id)) one)
          ∙ append_assoc unsent (spelled_all (contexts_before old.writing x.id)) (take size x.output)
          ∙ ap (λ (bs : List ℕ). unsent ++ (spelled_all (contexts_before old.writing x.id) ++ bs)) (take_begins x.output f size begins ∙ sym (append-nil (spelled f)))
          ∙ ap (λ (bs : List ℕ). unsent ++ bs) (sym (spelled_append (contexts_before old.writing x.id) (f ∷ [])));
      less = omega (arith, ap outputs changed, outputs_set place old.sessions x y stands, less);
    }

-- frames were moved, and then more were
began_more : (x y z : Table) (a b c : List ℕ) → Began x a y b → Began y b z c → Began x a z c
began_more x y z a b c first second =
    let w : Option (List ℕ) = named_behind x.writing first.begun in
    let all : AllPairs (Fed x.named w [] second.begun) y.sessions z.sessions =
    subst (λ (n : Option (List ℕ)). AllPairs (Fed n w [] second.begun) y.sessions z.sessions) first.named
    (subst (λ (v : Option (List ℕ)). AllPairs (Fed y.named v [] second.begun) y.sessions z.sessions) first.writing second.sessions) in
    record {
      begun = first.begun ++ second.begun;
      sessions = all_more x.named x.writing [] [] first.begun second.begun x.sessions y.sessions z.sessions first.sessions all;
      named = second.named ∙ first.named;
      writing = second.writing ∙ ap (λ (v : Option (List ℕ)). named_behind v second.begun) first.writing ∙ sym (named_append x.writing first.begun second.begun);
      known =
          well_more (IsOf (ids_of x.sessions)) x.writing first.begun second.begun first.known
          (subst (λ (v : Option (List ℕ)). WellRouted (IsOf (ids_of x.sessions)) v second.begun) first.writing
          (subst (λ (ids : List (List ℕ)). WellRouted (IsOf ids) y.writing second.begun) (ids_fed x.named x.writing [] first.begun x.sessions y.sessions first.sessions) second.known));
      tight = tight_more x.writing first.begun second.begun first.tight (subst (λ (v : Option (List ℕ)). Tight v second.begun) first.writing second.tight);
      wrote =
          second.wrote
          ∙ ap (λ (bs : List ℕ). bs ++ spelled_all second.begun) first.wrote
          ∙ append_assoc a (spelled_all first.begun) (spelled_all second.begun)
          ∙ ap (λ (bs : List ℕ). a ++ bs) (sym (spelled_append first.begun second.begun));
      less = omega (arith, first.less, second.less);
    }

pub some_then : (x y z : Table) (a b c : List ℕ) (some : Bool) → BeganSome x a some y b → Began y b z c → Began x a z c
some_then x y z a b c true first second = began_more x y z a b c first second
some_then x y z a b c false first second =
    subst (λ (u : List ℕ). Began x u z c) first.1 (subst (λ (t : Table). Began t b z c) first.0 second)

pub some_stays : (x y z : Table) (a b c : List ℕ) (some : Bool) → BeganSome x a some y b → (z ≡ y) × (c ≡ b) → BeganSome x a some z c
some_stays x y z a b c some first second =
    subst (λ (t : Table). BeganSome x a some t c) (sym second.0) (subst (λ (u : List ℕ). BeganSome x a some y u) (sym second.1) first)

-- whether frames were moved by one or by another
pub some_both : (x y z : Table) (a b c : List ℕ) (one other : Bool) → BeganSome x a one y b → BeganSome y b other z c → BeganSome x a (one || other) z c
some_both x y z a b c true true first second = began_more x y z a b c first second
some_both x y z a b c true false first second = some_stays x y z a b c true first second
some_both x y z a b c false true first second = some_then x y z a b c false first second
some_both x y z a b c false false first second = some_stays x y z a b c false first second

-- a session that has nothing to write now, where nothing was moved before
pub none_then : (place : ℕ) (x y : Table) (a b : List ℕ) (some : Bool) → BeganSome x a some y b → (b ≡ [] → HasNone y place) → some ≡ false → a ≡ [] → HasNone x place
none_then place x y a b true moved none e empty = absurd (cc e)
none_then place x y a b false moved none e empty = subst (λ (t : Table). HasNone t place) moved.0 (none (moved.1 ∙ empty))

-- as many sessions as before
pub length_fed : (named writing : Option (List ℕ)) (g b : List Frame) (xs ys : List Session) → AllPairs (Fed named writing g b) xs ys → length ys ≡ length xs
length_fed named writing g b [] [] all = refl
length_fed named writing g b [] (y ∷ ys) all = absurd all
length_fed named writing g b (x ∷ xs) [] all = absurd all
length_fed named writing g b (x ∷ xs) (y ∷ ys) all = ap suc (length_fed named writing g b xs ys all.1)

pub length_moved : (x y : Table) (a b : List ℕ) (some : Bool) → BeganSome x a some y b → length y.sessions ≡ length x.sessions
length_moved x y a b true moved = length_fed x.named x.writing [] moved.begun x.sessions y.sessions moved.sessions
length_moved x y a b false moved = ap (λ (t : Table). length t.sessions) moved.0

-- whether the last Context written names the session at a place
eqb_same : (p q : ℕ) → eqb p q ≡ true → p ≡ q
eqb_same p q e = grind (arith, nat_tests)

eqb_refl : (p : ℕ) → eqb p p ≡ false → ⊥
eqb_refl p e = grind (arith, nat_tests)

pub names_place : (written : Option ℕ) (place : ℕ) → option_eq eqb written (Some place) ≡ true → written ≡ Some place
names_place None place e = absurd (cc e)
names_place (Some p) place e = ap Some (eqb_same p place e)

pub names_other : (written : Option ℕ) (place : ℕ) → option_eq eqb written (Some place) ≡ false → written ≡ Some place → ⊥
names_other written place e is = eqb_refl place (sym (ap (λ (w : Option ℕ). option_eq eqb w (Some place)) is) ∙ e)

-- its Context need not be written, or is
pub announced_before : (xs : List Session) (read written : Option ℕ) (unsent : List ℕ) (place : ℕ) (x : Session) → slice_get xs place ≡ Some x → length x.id ≡ 16 → written ≡ Some place
    → IsAnnounced place (table_of xs read written) unsent (table_of xs read written) unsent
announced_before xs read written unsent place x stands size is =
    let here : id_at xs written ≡ Some x.id = id_at_place xs written place x is stands in
    record {
      session = x;
      stands = stands;
      size = size;
      is = ap (λ (o : Option (List ℕ)). let t : Table = record { sessions = xs; named = id_at xs read; writing = o } in t) here;
      wrote = sym (ap (λ (o : Option (List ℕ)). unsent ++ spelled_all (contexts_before o x.id)) here ∙ ap (λ (b : Bool). unsent ++ spelled_all (if b then [] else context_frame x.id ∷ [])) (eq_same x.id) ∙ append-nil unsent);
    }

-- another session was written last
other_last : (xs : List Session) (written : Option ℕ) (place : ℕ) (x : Session) → EachOnce (ids_of xs) → slice_get xs place ≡ Some x → (written ≡ Some place → ⊥) → contexts_before (id_at xs written) x.id ≡ context_frame x.id ∷ []
other_last xs None place x once stands other = refl
other_last xs (Some p) place x once stands other = by_session (slice_get xs p) refl
  where
    by_session : (o : Option Session) → slice_get xs p ≡ o → contexts_before (option_map (λ (s : Session). s.id) o) x.id ≡ context_frame x.id ∷ []
    by_session None e = refl
    by_session (Some s) e = ap (λ (b : Bool). if b then [] else context_frame x.id ∷ []) (eq_no s.id x.id (λ same. other_id xs place p x s once stands e (λ here. other (ap Some here)) (sym same)))

pub announced_now : (ids : List (List ℕ)) (xs : List Session) (read written : Option ℕ) (unsent unsent' context : List ℕ) (place : ℕ) (x : Session) → IsTable ids xs read written → slice_get xs place ≡ Some x → length x.id ≡ 16
    → (written ≡ Some place → ⊥) → context ≡ spelled (context_frame x.id) → unsent' ≡ unsent ++ context
    → IsAnnounced place (table_of xs read written) unsent (table_of xs read (Some place)) unsent'
announced_now ids xs read written unsent unsent' context place x table stands size other spells put =
    let here : id_at xs (Some place) ≡ Some x.id = id_at_place xs (Some place) place x refl stands in
    let once : EachOnce (ids_of xs) = subst EachOnce table.are table.once in
    record {
      session = x;
      stands = stands;
      size = size;
      is = ap (λ (o : Option (List ℕ)). let t : Table = record { sessions = xs; named = id_at xs read; writing = o } in t) here;
      wrote =
          put
          ∙ ap (λ (bs : List ℕ). unsent ++ bs) (spells ∙ sym (append-nil (spelled (context_frame x.id))))
          ∙ ap (λ (fs : List Frame). unsent ++ spelled_all fs) (sym (other_last xs written place x once stands other));
    }

one_short : (id : List ℕ) → length id ≡ 16 → length (spelled (context_frame id) ++ []) ≤ 38
one_short id size =
    let nulls : List ℕ = 0xFF ∷ 0xFF ∷ 0xFF ∷ 0xFF ∷ 0xFF ∷ 0xFF ∷ 0xFF ∷ 0xFF ∷ [] in
    let long : length (context_message id) ≡ 32 = omega (arith, length-append id nulls, size) in
    omega (arith, ap length (append-nil (spelled (context_frame id))), length-spelled (context_frame id), long)

-- a Context and its frame fit
pub contexts_short : (last : Option (List ℕ)) (id : List ℕ) → length id ≡ 16 → length (spelled_all (contexts_before last id)) ≤ 38
contexts_short None id size = one_short id size
contexts_short (Some i) id size = by_test (bytes_eq i id)
  where
    by_test : (b : Bool) → length (spelled_all (if b then [] else context_frame id ∷ [])) ≤ 38
    by_test true = omega arith
    by_test false = one_short id size

table_eq : (t u : Table) → t.sessions ≡ u.sessions → t.named ≡ u.named → t.writing ≡ u.writing → t ≡ u
table_eq t u a b c = λ i. record { sessions = a i; named = b i; writing = c i }

-- the frame of the session at a place among these sessions is moved
pub began_in : (ids : List (List ℕ)) (old mid : Table) (unsent unsent' unsent'' : List ℕ) (xs ys : List Session) (r q read written : Option ℕ) (place : ℕ) (x y z : Session) (f : Frame) (size : ℕ)
    → IsTable ids xs r q → table_of xs r q ≡ old → IsAnnounced place old unsent mid unsent' → table_of ys read written ≡ mid
    → place < length xs → x ≡ get_or xs place x → y ≡ get_or ys place y
    → BeginsWith x.output f size → says f ≡ carries → z ≡ record y { output = drop size y.output }
    → unsent'' ≡ unsent' ++ take size y.output
    → Began old unsent (table_of (slice_set ys place z) read written) unsent''
began_in ids old mid unsent unsent' unsent'' xs ys r q read written place x y z f size table was announced is within here there begins carried same put =
    let mid_sessions : mid.sessions ≡ old.sessions = ap (λ (t : Table). t.sessions) announced.is in
    let old_sessions : old.sessions ≡ xs = sym (ap (λ (t : Table). t.sessions) was) in
    let sessions : ys ≡ xs = ap (λ (t : Table). t.sessions) is ∙ mid_sessions ∙ old_sessions in
    let stands : slice_get xs place ≡ Some x = stands_at xs place x within here in
    let within' : place < length ys = omega (arith, within, ap length sessions) in
    let stands' : slice_get ys place ≡ Some y = stands_at ys place y within' there in
    let one : x ≡ y = cc (sym stands ∙ ap (λ (l : List Session). slice_get l place) (sym sessions) ∙ stands') in
    let once : EachOnce (ids_of old.sessions) = subst (λ (l : List Session). EachOnce (ids_of l)) (sym old_sessions) (subst EachOnce table.are table.once) in
    let kept = ids_set place ys y z there (ap (λ (s : Session). s.id) same) in
    let new : Table = table_of (slice_set ys place z) read written in
    let new_is : new ≡ record mid { sessions = slice_set old.sessions place z } =
    table_eq new (record mid { sessions = slice_set old.sessions place z })
    (ap (λ (l : List Session). slice_set l place z) (sessions ∙ sym old_sessions))
    (id_at_same ys (slice_set ys place z) read kept ∙ ap (λ (t : Table). t.named) is)
    (id_at_same ys (slice_set ys place z) written kept ∙ ap (λ (t : Table). t.writing) is) in
    subst (λ (u : List ℕ). Began old unsent new u) (sym put)
    (began_at old mid unsent unsent' place y z f size new once announced (ap (λ (l : List Session). slice_get l place) old_sessions ∙ stands ∙ ap Some one)
    (subst (λ (s : Session). BeginsWith s.output f size) one begins) carried same new_is)

-- frames of one session, as long as there are some
pub begin_more : (place : ℕ) (x y z : Table) (a b c : List ℕ) (some result : Bool) → BeganSome x a some y b → IsBegun place y b result z c → result ≡ true → BeganSome x a true z c
begin_more place x y z a b c some result so_far begun is =
    some_then x y z a b c some so_far (subst (λ (r : Bool). BeganSome y b r z c) is begun.moved)

pub begin_less : (place : ℕ) (y z : Table) (b c : List ℕ) (result : Bool) → IsBegun place y b result z c → result ≡ true → outputs z.sessions < outputs y.sessions
begin_less place y z b c result begun is =
    let moved : Began y b z c = subst (λ (r : Bool). BeganSome y b r z c) is begun.moved in
    moved.less

pub begin_count : (place : ℕ) (y z : Table) (b c : List ℕ) (result : Bool) (n : ℕ) → length y.sessions ≡ n → IsBegun place y b result z c → length z.sessions ≡ n
begin_count place y z b c result n before begun = length_moved y z b c result begun.moved ∙ before

pub begin_end : (place : ℕ) (x y z : Table) (a b c : List ℕ) (some result : Bool) → BeganSome x a some y b → IsBegun place y b result z c → result ≡ false → IsBegun place x a some z c
begin_end place x y z a b c some result so_far begun is = record {
  moved = some_stays x y z a b c some so_far (subst (λ (r : Bool). BeganSome y b r z c) is begun.moved);
  none = λ e empty. none_then place x y a b some so_far (λ left. begun.none is left) e empty;
}

-- and of one session after another
pub between_none : (from : ℕ) (x : Table) (a : List ℕ) → IsBegunBetween from from x a false x a
between_none from x a = record {
  moved = (refl, refl);
  none = λ e empty p low high. absurd (omega (arith, low, high));
}

pub between_some : (from at : ℕ) (x y z : Table) (a b c : List ℕ) (some result : Bool) → IsBegunBetween from at x a some y b → IsBegun at y b result z c → result ≡ true → IsBegunBetween from (at + 1) x a true z c
between_some from at x y z a b c some result so_far begun is = record {
  moved = begin_more at x y z a b c some result so_far.moved begun is;
  none = λ e empty p low high. absurd (cc e);
}

last_or_before : (p at : ℕ) → p < at + 1 → (p < at) ⊎ (p ≡ at)
last_or_before zero zero l = inr refl
last_or_before zero (suc at) l = inl (omega arith)
last_or_before (suc p) zero l = absurd (omega (arith, l))
last_or_before (suc p) (suc at) l = ⊎_elim (λ (m : p < at). inl (omega (arith, m))) (λ (e : p ≡ at). inr (ap suc e)) (last_or_before p at (omega (arith, l)))

pub between_next : (from at : ℕ) (x y z : Table) (a b c : List ℕ) (some result : Bool) → IsBegunBetween from at x a some y b → IsBegun at y b result z c → result ≡ false → IsBegunBetween from (at + 1) x a some z c
between_next from at x y z a b c some result so_far begun is =
    let one = begin_end at x y z a b c some result so_far.moved begun is in
    record {
      moved = one.moved;
      none = λ e empty p low high.
          ⊎_elim
          (λ (l : p < at). so_far.none e empty p low l)
          (λ (same : p ≡ at). subst (λ (q : ℕ). HasNone x q) (sym same) (one.none e empty))
          (last_or_before p at high);
    }

pub between_end : (from at to : ℕ) (x y : Table) (a b : List ℕ) (some : Bool) → to ≤ at → IsBegunBetween from at x a some y b → IsBegunBetween from to x a some y b
between_end from at to x y a b some past so_far = record {
  moved = so_far.moved;
  none = λ e empty p low high. so_far.none e empty p low (omega (arith, high, past));
}

pub between_fits : (from at n : ℕ) (x y : Table) (a b : List ℕ) (some : Bool) → n ≤ length x.sessions → IsBegunBetween from at x a some y b → n ≤ length y.sessions
between_fits from at n x y a b some before so_far = omega (arith, before, length_moved x y a b some so_far.moved)

-- the sessions behind a place, and then those before it
below_or_from : (p at : ℕ) → (p < at) ⊎ (at ≤ p)
below_or_from p zero = inr (omega arith)
below_or_from zero (suc at) = inl (omega arith)
below_or_from (suc p) (suc at) = ⊎_elim (λ (l : p < at). inl (omega (arith, l))) (λ (l : at ≤ p). inr (omega (arith, l))) (below_or_from p at)

around : (first len : ℕ) (x y z : Table) (a b c : List ℕ) (one other : Bool) → IsBegunBetween first len x a one y b → IsBegunBetween 0 first y b other z c → IsBegunBetween 0 len x a (one || other) z c
around first len x y z a b c true other behind before = record {
  moved = some_both x y z a b c true other behind.moved before.moved;
  none = λ e empty p low high. absurd (cc e);
}
around first len x y z a b c false other behind before = record {
  moved = some_both x y z a b c false other behind.moved before.moved;
  none = λ e empty p low high.
      ⊎_elim
      (λ (l : p < first). subst (λ (t : Table). HasNone t p) behind.moved.0 (before.none e (behind.moved.1 ∙ empty) p low l))
      (λ (l : first ≤ p). behind.none refl empty p l high)
      (below_or_from p first);
}

pub around_behind : (first len : ℕ) (x y z : Table) (a b c : List ℕ) (one other : Bool) → IsBegunBetween first len x a one y b → IsBegunBetween 0 first y b other z c → one ≡ true → IsBegunBetween 0 len x a true z c
around_behind first len x y z a b c one other behind before is =
    subst (λ (t : Bool). IsBegunBetween 0 len x a (t || other) z c) is (around first len x y z a b c one other behind before)

pub around_before : (first len : ℕ) (x y z : Table) (a b c : List ℕ) (one other : Bool) → IsBegunBetween first len x a one y b → IsBegunBetween 0 first y b other z c → one ≡ false → IsBegunBetween 0 len x a other z c
around_before first len x y z a b c one other behind before is =
    subst (λ (t : Bool). IsBegunBetween 0 len x a (t || other) z c) is (around first len x y z a b c one other behind before)
