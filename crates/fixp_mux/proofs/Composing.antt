-- One pump behind another: what is done by both.
use Rattle.std.proofs.Common.{◌≡◌, ◌⊎◌, ⊎_elim, inl, inr, ℕ, ◌+◌, ◌<◌, ◌^◌, Bool, true, false, if◌then◌else◌, List, [], ◌∷◌, ◌++◌, length, slice_get, zero, suc, Option, Some, refl, sym, ◌∙◌, ap, subst, arith, append_assoc, append-nil, length-append}
use Rattle.sofh_frame.specs.Framing.{Frame}
use Rattle.sofh_frame.specs.Splits.{spelled_all}
use Rattle.fixp_mux.specs.Context.{Says, names, malformed, carries, says}
use Rattle.fixp_mux.specs.Parts.{named_by, named_behind, part_of, WellRouted, IsTightSaid, Tight, BeginsWithCarried}
use Rattle.fixp_mux.specs.State.{Session, State, AllPairs, Fed, Pumps, IsOf, ids_of, counted}
use Rattle.fixp_mux.specs.Giving.{GaveOne}
use Rattle.fixp_mux.proofs.Partings.{named_append, part_append, spelled_append}

-- the spelled parts of frames and of those behind them
pub joined : (last : Option (List ℕ)) (id : List ℕ) (xs ys : List Frame) → spelled_all (part_of last id xs) ++ spelled_all (part_of (named_behind last xs) id ys) ≡ spelled_all (part_of last id (xs ++ ys))
joined last id xs ys =
    sym (spelled_append (part_of last id xs) (part_of (named_behind last xs) id ys))
    ∙ ap spelled_all (sym (part_append last id xs ys))

kept_joined : (b : Bool) (front xs ys zs : List ℕ) → xs ++ ys ≡ zs → (front ++ (if b then [] else xs)) ++ (if b then [] else ys) ≡ front ++ (if b then [] else zs)
kept_joined true front xs ys zs e = append_assoc front [] []
kept_joined false front xs ys zs e = append_assoc front xs ys ∙ ap (λ (bs : List ℕ). front ++ bs) e

pub fed_more : (named writing : Option (List ℕ)) (g h b c : List Frame) (x y z : Session)
    → Fed named writing g b x y → Fed (named_behind named g) (named_behind writing b) h c y z → Fed named writing (g ++ h) (b ++ c) x z
fed_more named writing g h b c x y z first second = record {
  id = second.id ∙ first.id;
  released = second.released ∙ first.released;
  input =
      second.input
      ∙ ap (λ (i : List ℕ). y.input ++ (if y.is_released then [] else spelled_all (part_of (named_behind named g) i h))) first.id
      ∙ ap (λ (r : Bool). y.input ++ (if r then [] else spelled_all (part_of (named_behind named g) x.id h))) first.released
      ∙ ap (λ (bs : List ℕ). bs ++ (if x.is_released then [] else spelled_all (part_of (named_behind named g) x.id h))) first.input
      ∙ kept_joined x.is_released x.input (spelled_all (part_of named x.id g)) (spelled_all (part_of (named_behind named g) x.id h)) (spelled_all (part_of named x.id (g ++ h))) (joined named x.id g h);
  output =
      first.output
      ∙ ap (λ (bs : List ℕ). spelled_all (part_of writing x.id b) ++ bs) (second.output ∙ ap (λ (i : List ℕ). spelled_all (part_of (named_behind writing b) i c) ++ z.output) first.id)
      ∙ sym (append_assoc (spelled_all (part_of writing x.id b)) (spelled_all (part_of (named_behind writing b) x.id c)) z.output)
      ∙ ap (λ (bs : List ℕ). bs ++ z.output) (joined writing x.id b c);
}

pub all_more : (named writing : Option (List ℕ)) (g h b c : List Frame) (xs ys zs : List Session)
    → AllPairs (Fed named writing g b) xs ys → AllPairs (Fed (named_behind named g) (named_behind writing b) h c) ys zs → AllPairs (Fed named writing (g ++ h) (b ++ c)) xs zs
all_more named writing g h b c [] [] [] first second = tt
all_more named writing g h b c [] [] (z ∷ zs) first second = second
all_more named writing g h b c [] (y ∷ ys) zs first second = absurd first
all_more named writing g h b c (x ∷ xs) [] zs first second = absurd first
all_more named writing g h b c (x ∷ xs) (y ∷ ys) [] first second = second
all_more named writing g h b c (x ∷ xs) (y ∷ ys) (z ∷ zs) first second =
    (fed_more named writing g h b c x y z first.0 second.0, all_more named writing g h b c xs ys zs first.1 second.1)

-- sessions keep their identifiers
pub ids_fed : (named writing : Option (List ℕ)) (g b : List Frame) (xs ys : List Session) → AllPairs (Fed named writing g b) xs ys → ids_of ys ≡ ids_of xs
ids_fed named writing g b [] [] all = refl
ids_fed named writing g b [] (y ∷ ys) all = absurd all
ids_fed named writing g b (x ∷ xs) [] all = absurd all
ids_fed named writing g b (x ∷ xs) (y ∷ ys) all =
    ap (λ (id : List ℕ). id ∷ ids_of ys) all.0.id ∙ ap (λ (ids : List (List ℕ)). x.id ∷ ids) (ids_fed named writing g b xs ys all.1)

pub well_more : (Known : List ℕ → Type 0) (last : Option (List ℕ)) (xs ys : List Frame) → WellRouted Known last xs → WellRouted Known (named_behind last xs) ys → WellRouted Known last (xs ++ ys)
well_more Known last [] ys first second = second
well_more Known last (f ∷ xs) ys first second = (first.0, well_more Known (named_by last (says f)) xs ys first.1 second)

begins_more : (xs ys : List Frame) → BeginsWithCarried xs → BeginsWithCarried (xs ++ ys)
begins_more [] ys begins = absurd begins
begins_more (f ∷ xs) ys begins = begins

tight_said : (last : Option (List ℕ)) (s : Says) (xs ys : List Frame) → IsTightSaid last s xs → IsTightSaid last s (xs ++ ys)
tight_said last (names id) xs ys tight = (tight.0, begins_more xs ys tight.1)
tight_said last malformed xs ys tight = tight
tight_said last carries xs ys tight = tight

pub tight_more : (last : Option (List ℕ)) (xs ys : List Frame) → Tight last xs → Tight (named_behind last xs) ys → Tight last (xs ++ ys)
tight_more last [] ys first second = second
tight_more last (f ∷ xs) ys first second = (tight_said last (says f) xs ys first.0, tight_more (named_by last (says f)) xs ys first.1 second)

counted_more : (at a b : ℕ) → counted (counted at a) b ≡ counted at (a + b)
counted_more at a b = omega arith

taken_more : (given given' came came' old mid new : List ℕ) → given ++ mid ≡ old ++ came → given' ++ new ≡ mid ++ came' → (given ++ given') ++ new ≡ old ++ (came ++ came')
taken_more given given' came came' old mid new first second =
    append_assoc given given' new
    ∙ ap (λ (bs : List ℕ). given ++ bs) second
    ∙ sym (append_assoc given mid came')
    ∙ ap (λ (bs : List ℕ). bs ++ came') first
    ∙ append_assoc old came came'

pub pumps_more : (x y z : State) (g h b c : List Frame) (came came' sent sent' : List ℕ) → Pumps x y g b came sent → Pumps y z h c came' sent' → Pumps x z (g ++ h) (b ++ c) (came ++ came') (sent ++ sent')
pumps_more x y z g h b c came came' sent sent' first second =
    let all : AllPairs (Fed (named_behind x.named g) (named_behind x.writing b) h c) y.sessions z.sessions =
    subst (λ (n : Option (List ℕ)). AllPairs (Fed n (named_behind x.writing b) h c) y.sessions z.sessions) first.named
    (subst (λ (w : Option (List ℕ)). AllPairs (Fed y.named w h c) y.sessions z.sessions) first.writing second.sessions) in
    let spelled_given : spelled_all (g ++ h) ≡ spelled_all g ++ spelled_all h = spelled_append g h in
    record {
      sessions = all_more x.named x.writing g h b c x.sessions y.sessions z.sessions first.sessions all;
      named = second.named ∙ ap (λ (n : Option (List ℕ)). named_behind n h) first.named ∙ sym (named_append x.named g h);
      writing = second.writing ∙ ap (λ (n : Option (List ℕ)). named_behind n c) first.writing ∙ sym (named_append x.writing b c);
      reads =
          ap (λ (bs : List ℕ). bs ++ z.unread) spelled_given
          ∙ taken_more (spelled_all g) (spelled_all h) came came' x.unread y.unread z.unread first.reads second.reads;
      writes =
          taken_more sent sent' (spelled_all b) (spelled_all c) x.unsent y.unsent z.unsent first.writes second.writes
          ∙ ap (λ (bs : List ℕ). x.unsent ++ bs) (sym (spelled_append b c));
      at =
          second.at
          ∙ ap (λ (n : ℕ). counted n (length (spelled_all h))) first.at
          ∙ counted_more x.at (length (spelled_all g)) (length (spelled_all h))
          ∙ ap (counted x.at) (sym (ap length spelled_given ∙ length-append (spelled_all g) (spelled_all h)));
      well =
          well_more (IsOf (ids_of x.sessions)) x.named g h first.well
          (subst (λ (n : Option (List ℕ)). WellRouted (IsOf (ids_of x.sessions)) n h) first.named
          (subst (λ (ids : List (List ℕ)). WellRouted (IsOf ids) y.named h) (ids_fed x.named x.writing g b x.sessions y.sessions first.sessions) second.well));
      known =
          well_more (IsOf (ids_of x.sessions)) x.writing b c first.known
          (subst (λ (n : Option (List ℕ)). WellRouted (IsOf (ids_of x.sessions)) n c) first.writing
          (subst (λ (ids : List (List ℕ)). WellRouted (IsOf ids) y.writing c) (ids_fed x.named x.writing g b x.sessions y.sessions first.sessions) second.known));
      tight = tight_more x.writing b c first.tight (subst (λ (n : Option (List ℕ)). Tight n c) first.writing second.tight);
    }

-- no session changes
pub fed_none : (named writing : Option (List ℕ)) (s : Session) → Fed named writing [] [] s s
fed_none named writing s = record { id = refl; released = refl; input = stays s.is_released s.input; output = refl }
  where
    stays : (b : Bool) (bytes : List ℕ) → bytes ≡ bytes ++ (if b then [] else [])
    stays true bytes = sym (append-nil bytes)
    stays false bytes = sym (append-nil bytes)

pub all_none : (named writing : Option (List ℕ)) (xs : List Session) → AllPairs (Fed named writing [] []) xs xs
all_none named writing [] = tt
all_none named writing (x ∷ xs) = (fed_none named writing x, all_none named writing xs)

-- bytes came and were taken, and no frame was given out or begun
pub stays_at : (at : ℕ) → at < 2 ^ 64 → at ≡ counted at 0
stays_at at within = omega (arith, within)

pub pumps_bytes : (x : State) (unread unsent came sent : List ℕ) (over : Bool) → x.at < 2 ^ 64 → unread ≡ x.unread ++ came → sent ++ unsent ≡ x.unsent
    → Pumps x (record x { unread = unread; unsent = unsent; is_over = over }) [] [] came sent
pumps_bytes x unread unsent came sent over within reads writes = record {
  sessions = all_none x.named x.writing x.sessions;
  named = refl;
  writing = refl;
  reads = reads;
  writes = writes ∙ sym (append-nil x.unsent);
  at = stays_at x.at within;
  well = tt;
  known = tt;
  tight = tt;
}

-- whether a session was given a frame, over two pumps
record There (x y : List Session) (place : ℕ) (t : Session) : Type 0 where
  session : Session
  stands : slice_get x place ≡ Some session
  id : t.id ≡ session.id
  released : t.is_released ≡ session.is_released

before_at : (named writing : Option (List ℕ)) (g b : List Frame) (xs ys : List Session) (place : ℕ) (t : Session) → AllPairs (Fed named writing g b) xs ys → slice_get ys place ≡ Some t → There xs ys place t
before_at named writing g b [] [] place t all stands = absurd (cc stands)
before_at named writing g b [] (y ∷ ys) place t all stands = absurd all
before_at named writing g b (x ∷ xs) [] place t all stands = absurd all
before_at named writing g b (x ∷ xs) (y ∷ ys) zero t all stands =
    let same : y ≡ t = cc stands in
    record { session = x; stands = refl; id = sym (ap (λ (s : Session). s.id) same) ∙ all.0.id; released = sym (ap (λ (s : Session). s.is_released) same) ∙ all.0.released }
before_at named writing g b (x ∷ xs) (y ∷ ys) (suc place) t all stands =
    let found = before_at named writing g b xs ys place t all.1 stands in
    record { session = found.session; stands = found.stands; id = found.id; released = found.released }

behind_at : (named writing : Option (List ℕ)) (g b : List Frame) (xs ys : List Session) (place : ℕ) (s : Session) → AllPairs (Fed named writing g b) xs ys → slice_get xs place ≡ Some s → There ys xs place s
behind_at named writing g b [] [] place s all stands = absurd (cc stands)
behind_at named writing g b [] (y ∷ ys) place s all stands = absurd all
behind_at named writing g b (x ∷ xs) [] place s all stands = absurd all
behind_at named writing g b (x ∷ xs) (y ∷ ys) zero s all stands =
    let same : x ≡ s = cc stands in
    record { session = y; stands = refl; id = sym (ap (λ (t : Session). t.id) same) ∙ sym all.0.id; released = sym (ap (λ (t : Session). t.is_released) same) ∙ sym all.0.released }
behind_at named writing g b (x ∷ xs) (y ∷ ys) (suc place) s all stands =
    let found = behind_at named writing g b xs ys place s all.1 stands in
    record { session = found.session; stands = found.stands; id = found.id; released = found.released }

nil_both : (xs ys : List Frame) → xs ++ ys ≡ [] → (xs ≡ []) × (ys ≡ [])
nil_both [] ys e = (refl, e)
nil_both (f ∷ xs) ys e = absurd (cc e)

nil_front : (last : Option (List ℕ)) (id : List ℕ) (g h : List Frame) → part_of last id (g ++ h) ≡ [] → part_of last id g ≡ []
nil_front last id g h e = (nil_both (part_of last id g) (part_of (named_behind last g) id h) (sym (part_append last id g h) ∙ e)).0

nil_back : (last : Option (List ℕ)) (id : List ℕ) (g h : List Frame) → part_of last id (g ++ h) ≡ [] → part_of (named_behind last g) id h ≡ []
nil_back last id g h e = (nil_both (part_of last id g) (part_of (named_behind last g) id h) (sym (part_append last id g h) ∙ e)).1

pub gave_first : (xs : List Session) (last : Option (List ℕ)) (g h : List Frame) → GaveOne xs last g → GaveOne xs last (g ++ h)
gave_first xs last g h gave = record {
  place = gave.place;
  session = gave.session;
  stands = gave.stands;
  kept = gave.kept;
  some = λ e. gave.some (nil_front last gave.session.id g h e);
}

pub gave_then : (writing : Option (List ℕ)) (b : List Frame) (xs ys : List Session) (last : Option (List ℕ)) (g h : List Frame) → AllPairs (Fed last writing g b) xs ys → GaveOne ys (named_behind last g) h → GaveOne xs last (g ++ h)
gave_then writing b xs ys last g h all gave =
    let found = before_at last writing g b xs ys gave.place gave.session all gave.stands in
    record {
      place = gave.place;
      session = found.session;
      stands = found.stands;
      kept = sym found.released ∙ gave.kept;
      some = λ e. gave.some (ap (λ (i : List ℕ). part_of (named_behind last g) i h) found.id ∙ nil_back last found.session.id g h e);
    }

-- a session that was given a frame by both was given one by the first or by the second
some_of : (xs ys : List Frame) → (xs ++ ys ≡ [] → ⊥) → (xs ≡ [] → ⊥) ⊎ (ys ≡ [] → ⊥)
some_of [] ys some = inr some
some_of (f ∷ xs) ys some = inl (λ e. absurd (cc e))

pub gave_either : (writing : Option (List ℕ)) (b : List Frame) (xs ys : List Session) (last : Option (List ℕ)) (g h : List Frame) → AllPairs (Fed last writing g b) xs ys → GaveOne xs last (g ++ h) → GaveOne xs last g ⊎ GaveOne ys (named_behind last g) h
gave_either writing b xs ys last g h all gave =
    let id = gave.session.id in
    let found = behind_at last writing g b xs ys gave.place gave.session all gave.stands in
    ⊎_elim
    (λ (first : part_of last id g ≡ [] → ⊥). inl (record { place = gave.place; session = gave.session; stands = gave.stands; kept = gave.kept; some = first }))
    (λ (second : part_of (named_behind last g) id h ≡ [] → ⊥). inr (record {
      place = gave.place;
      session = found.session;
      stands = found.stands;
      kept = sym found.released ∙ gave.kept;
      some = λ e. second (ap (λ (i : List ℕ). part_of (named_behind last g) i h) found.id ∙ e);
    }))
    (some_of (part_of last id g) (part_of (named_behind last g) id h) (λ e. gave.some (part_append last id g h ∙ e)))
