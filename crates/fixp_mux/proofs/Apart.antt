-- One call after another, for the session at a place.
use Rattle.std.proofs.Common.{◌≡◌, ◌⊎◌, ⊎_elim, inl, inr, ℕ, zero, suc, ◌==◌, Bool, true, false, if◌then◌else◌, List, [], ◌∷◌, ◌++◌, map, slice_get, Option, Some, None, refl, sym, ◌∙◌, ap, subst, arith, append_assoc, append-nil, eq-eqb}
use Rattle.std.proofs.lemmas.Bool.{ne_eqb}
use Rattle.sofh_frame.specs.Framing.{Frame}
use Rattle.sofh_frame.specs.Splits.{spelled_all}
use Rattle.fixp_mux.specs.Parts.{named_behind, part_of}
use Rattle.fixp_mux.specs.State.{Session, State, AllPairs, Fed, new_session, new_mux}
use Rattle.fixp_mux.specs.Calls.{Call, pumped, received, sent, released, Changes, Receives, Sends, Lets, Happens, Ran, given_in, begun_in, received_in, sent_in}
use Rattle.fixp_mux.specs.Laws.{SessionsApart}
use Rattle.fixp_mux.proofs.Partings.{part_append, spelled_append}

-- what calls did to the session at a place, where the last Contexts before them named these sessions
record Follows (calls : List Call) (place : ℕ) (named writing : Option (List ℕ)) (old new : Session) : Type 0 where
  id : new.id ≡ old.id
  kept : new.is_released ≡ false → old.is_released ≡ false
  input : new.is_released ≡ false → received_in place calls ++ new.input ≡ old.input ++ spelled_all (part_of named old.id (given_in calls))
  output : old.output ++ sent_in place calls ≡ spelled_all (part_of writing old.id (begun_in calls)) ++ new.output

follows_none : (place : ℕ) (named writing : Option (List ℕ)) (s : Session) → Follows [] place named writing s s
follows_none place named writing s = record {
  id = refl;
  kept = λ e. e;
  input = λ e. sym (append-nil s.input);
  output = append-nil s.output;
}

-- the spelled parts of frames and of those behind them
joined : (named : Option (List ℕ)) (id : List ℕ) (xs ys : List Frame) → spelled_all (part_of named id xs) ++ spelled_all (part_of (named_behind named xs) id ys) ≡ spelled_all (part_of named id (xs ++ ys))
joined named id xs ys =
    sym (spelled_append (part_of named id xs) (part_of (named_behind named xs) id ys))
    ∙ ap spelled_all (sym (part_append named id xs ys))

unless_released : (b : Bool) (bytes : List ℕ) → b ≡ false → (if b then [] else bytes) ≡ bytes
unless_released b bytes e = ap (λ (c : Bool). if c then [] else bytes) e

follows_pumped : (given begun : List Frame) (calls : List Call) (place : ℕ) (named writing : Option (List ℕ)) (old mid new : Session)
    → Fed named writing given begun old mid → Follows calls place (named_behind named given) (named_behind writing begun) mid new
    → Follows (pumped given begun ∷ calls) place named writing old new
follows_pumped given begun calls place named writing old mid new fed behind =
    let id = fed.id in
    record {
      id = behind.id ∙ id;
      kept = λ e. sym fed.released ∙ behind.kept e;
      input = λ e.
          let free : old.is_released ≡ false = sym fed.released ∙ behind.kept e in
          let came : mid.input ≡ old.input ++ spelled_all (part_of named old.id given) = fed.input ∙ ap (λ (bs : List ℕ). old.input ++ bs) (unless_released old.is_released (spelled_all (part_of named old.id given)) free) in
          behind.input e
          ∙ ap (λ (i : List ℕ). mid.input ++ spelled_all (part_of (named_behind named given) i (given_in calls))) id
          ∙ ap (λ (bs : List ℕ). bs ++ spelled_all (part_of (named_behind named given) old.id (given_in calls))) came
          ∙ append_assoc old.input (spelled_all (part_of named old.id given)) (spelled_all (part_of (named_behind named given) old.id (given_in calls)))
          ∙ ap (λ (bs : List ℕ). old.input ++ bs) (joined named old.id given (given_in calls));
      output =
          ap (λ (bs : List ℕ). bs ++ sent_in place calls) fed.output
          ∙ append_assoc (spelled_all (part_of writing old.id begun)) mid.output (sent_in place calls)
          ∙ ap (λ (bs : List ℕ). spelled_all (part_of writing old.id begun) ++ bs) (behind.output ∙ ap (λ (i : List ℕ). spelled_all (part_of (named_behind writing begun) i (begun_in calls)) ++ new.output) id)
          ∙ sym (append_assoc (spelled_all (part_of writing old.id begun)) (spelled_all (part_of (named_behind writing begun) old.id (begun_in calls))) new.output)
          ∙ ap (λ (bs : List ℕ). bs ++ new.output) (joined writing old.id begun (begun_in calls));
    }

-- a call of another session
bytes_here : (place at : ℕ) (bytes : List ℕ) → place ≡ at → (if place == at then bytes else []) ≡ bytes
bytes_here place at bytes e = ap (λ (b : Bool). if b then bytes else []) (eq-eqb place at e)

bytes_elsewhere : (place at : ℕ) (bytes : List ℕ) → (place ≡ at → ⊥) → (if place == at then bytes else []) ≡ []
bytes_elsewhere place at bytes e = ap (λ (b : Bool). if b then bytes else []) (ne_eqb place at e)

-- what a call of one session is for the session at a place: its own, or none
abbrev Touches : ℕ → ℕ → (Session → Session → Type 0) → Session → Session → Type 0
Touches place at R s t = ((place ≡ at) × R s t) ⊎ ((place ≡ at → ⊥) × (t ≡ s))

follows_received : (bytes : List ℕ) (place at : ℕ) (calls : List Call) (named writing : Option (List ℕ)) (old mid new : Session)
    → Touches place at (Receives bytes) old mid → Follows calls at named writing mid new
    → Follows (received place bytes ∷ calls) at named writing old new
follows_received bytes place at calls named writing old mid new (inl here) behind =
    let same = here.1.same in
    let is = bytes_here place at bytes here.0 in
    record {
      id = behind.id ∙ ap (λ (s : Session). s.id) same;
      kept = λ e. sym (ap (λ (s : Session). s.is_released) same) ∙ behind.kept e;
      input = λ e.
          ap (λ (bs : List ℕ). (bs ++ received_in at calls) ++ new.input) is
          ∙ append_assoc bytes (received_in at calls) new.input
          ∙ ap (λ (bs : List ℕ). bytes ++ bs) (behind.input e ∙ ap (λ (s : Session). mid.input ++ spelled_all (part_of named s.id (given_in calls))) same)
          ∙ sym (append_assoc bytes mid.input (spelled_all (part_of named old.id (given_in calls))))
          ∙ ap (λ (bs : List ℕ). bs ++ spelled_all (part_of named old.id (given_in calls))) (sym here.1.front);
      output =
          sym (ap (λ (s : Session). s.output ++ sent_in at calls) same)
          ∙ behind.output
          ∙ ap (λ (s : Session). spelled_all (part_of writing s.id (begun_in calls)) ++ new.output) same;
    }
follows_received bytes place at calls named writing old mid new (inr other) behind =
    let is = bytes_elsewhere place at bytes other.0 in
    let F : Session → Type 0 = λ s. Follows (received place bytes ∷ calls) at named writing s new in
    subst F other.1 (record {
      id = behind.id;
      kept = behind.kept;
      input = λ e. ap (λ (bs : List ℕ). (bs ++ received_in at calls) ++ new.input) is ∙ behind.input e;
      output = behind.output;
    })

follows_sent : (bytes : List ℕ) (place at : ℕ) (calls : List Call) (named writing : Option (List ℕ)) (old mid new : Session)
    → Touches place at (Sends bytes) old mid → Follows calls at named writing mid new
    → Follows (sent place bytes ∷ calls) at named writing old new
follows_sent bytes place at calls named writing old mid new (inl here) behind =
    let same = here.1 in
    let is = bytes_here place at bytes here.0 in
    record {
      id = behind.id ∙ ap (λ (s : Session). s.id) same;
      kept = λ e. sym (ap (λ (s : Session). s.is_released) same) ∙ behind.kept e;
      input = λ e. behind.input e ∙ ap (λ (s : Session). s.input ++ spelled_all (part_of named s.id (given_in calls))) same;
      output =
          ap (λ (bs : List ℕ). old.output ++ (bs ++ sent_in at calls)) is
          ∙ sym (append_assoc old.output bytes (sent_in at calls))
          ∙ sym (ap (λ (s : Session). s.output ++ sent_in at calls) same)
          ∙ behind.output
          ∙ ap (λ (s : Session). spelled_all (part_of writing s.id (begun_in calls)) ++ new.output) same;
    }
follows_sent bytes place at calls named writing old mid new (inr other) behind =
    let is = bytes_elsewhere place at bytes other.0 in
    let F : Session → Type 0 = λ s. Follows (sent place bytes ∷ calls) at named writing s new in
    subst F other.1 (record {
      id = behind.id;
      kept = behind.kept;
      input = behind.input;
      output = ap (λ (bs : List ℕ). mid.output ++ (bs ++ sent_in at calls)) is ∙ behind.output;
    })

follows_released : (place at : ℕ) (calls : List Call) (named writing : Option (List ℕ)) (old mid new : Session)
    → Touches place at Lets old mid → Follows calls at named writing mid new
    → Follows (released place ∷ calls) at named writing old new
follows_released place at calls named writing old mid new (inl here) behind =
    let same = here.1 in
    let never : new.is_released ≡ false → ⊥ = λ e. (let yes : true ≡ false = sym (ap (λ (s : Session). s.is_released) same) ∙ behind.kept e in absurd (cc yes)) in
    record {
      id = behind.id ∙ ap (λ (s : Session). s.id) same;
      kept = λ e. absurd (never e);
      input = λ e. absurd (never e);
      output =
          sym (ap (λ (s : Session). s.output ++ sent_in at calls) same)
          ∙ behind.output
          ∙ ap (λ (s : Session). spelled_all (part_of writing s.id (begun_in calls)) ++ new.output) same;
    }
follows_released place at calls named writing old mid new (inr other) behind =
    let F : Session → Type 0 = λ s. Follows (released place ∷ calls) at named writing s new in
    subst F other.1 (record { id = behind.id; kept = behind.kept; input = behind.input; output = behind.output })

-- the session at a place before a call
pub record Before (sessions : List Session) (at : ℕ) (Was : Session → Type 0) : Type 0 where
  pub session : Session
  pub stands : slice_get sessions at ≡ Some session
  pub was : Was session

pub fed_before : (R : Session → Session → Type 0) (old new : List Session) (at : ℕ) (t : Session) → AllPairs R old new → slice_get new at ≡ Some t → Before old at (λ s. R s t)
fed_before R [] [] at t all stands = absurd (cc stands)
fed_before R [] (u ∷ new) at t all stands = absurd all
fed_before R (s ∷ old) [] at t all stands = absurd all
fed_before R (s ∷ old) (u ∷ new) zero t all stands =
    let same : u ≡ t = cc stands in
    record { session = s; stands = refl; was = subst (R s) same all.0 }
fed_before R (s ∷ old) (u ∷ new) (suc at) t all stands =
    let found = fed_before R old new at t all.1 stands in
    record { session = found.session; stands = found.stands; was = found.was }

touched_before : (R : Session → Session → Type 0) (place at : ℕ) (old new : List Session) (t : Session) → Changes place R old new → slice_get new at ≡ Some t → Before old at (λ s. Touches place at R s t)
touched_before R place at [] new t changes stands = absurd changes
touched_before R place at (s ∷ old) [] t changes stands = absurd changes
touched_before R zero zero (s ∷ old) (u ∷ new) t changes stands =
    let same : u ≡ t = cc stands in
    record { session = s; stands = refl; was = inl (refl, subst (R s) same changes.0) }
touched_before R zero (suc at) (s ∷ old) (u ∷ new) t changes stands =
    record { session = t; stands = ap (λ (l : List Session). slice_get l at) (sym changes.1) ∙ stands; was = inr ((λ e. omega (arith, e)), refl) }
touched_before R (suc place) zero (s ∷ old) (u ∷ new) t changes stands =
    let same : u ≡ t = cc stands in
    record { session = s; stands = refl; was = inr ((λ e. omega (arith, e)), sym same ∙ changes.0) }
touched_before R (suc place) (suc at) (s ∷ old) (u ∷ new) t changes stands =
    let found = touched_before R place at old new t changes.1 stands in
    record { session = found.session; stands = found.stands; was = ⊎_elim (λ (h : (place ≡ at) × R found.session t). inl (ap suc h.0, h.1)) (λ (h : (place ≡ at → ⊥) × (t ≡ found.session)). inr ((λ e. h.0 (omega (arith, e))), h.1)) found.was }

-- the session at a place before a list of calls
follows : (calls : List Call) (first last : State) (at : ℕ) (t : Session) → Ran first calls last → slice_get last.sessions at ≡ Some t → Before first.sessions at (λ s. Follows calls at first.named first.writing s t)
follows [] first last at t ran stands =
    record { session = t; stands = ap (λ (m : State). slice_get m.sessions at) ran ∙ stands; was = follows_none at first.named first.writing t }
follows (call ∷ calls) first last at t ran stands = step call ran.1.0 (follows calls ran.0 last at t ran.1.1 stands)
  where
    kept : (m : State) → m ≡ record first { sessions = m.sessions } → (s : Session) → Follows calls at m.named m.writing s t → Follows calls at first.named first.writing s t
    kept m same s f = subst (λ (n : Option (List ℕ)). Follows calls at n first.writing s t) (ap (λ (x : State). x.named) same) (subst (λ (w : Option (List ℕ)). Follows calls at m.named w s t) (ap (λ (x : State). x.writing) same) f)

    step : (call : Call) → Happens first call ran.0 → Before ran.0.sessions at (λ s. Follows calls at ran.0.named ran.0.writing s t) → Before first.sessions at (λ s. Follows (call ∷ calls) at first.named first.writing s t)
    step (pumped given begun) happens mid =
        let p = happens.pumps in
        let found = fed_before (Fed first.named first.writing given begun) first.sessions ran.0.sessions at mid.session p.sessions mid.stands in
        let F : Option (List ℕ) → Option (List ℕ) → Type 0 = λ n w. Follows calls at n w mid.session t in
        record {
          session = found.session;
          stands = found.stands;
          was = follows_pumped given begun calls at first.named first.writing found.session mid.session t found.was
              (subst (λ n. F n (named_behind first.writing begun)) p.named (subst (λ w. F ran.0.named w) p.writing mid.was));
        }
    step (received place bytes) happens mid =
        let found = touched_before (Receives bytes) place at first.sessions ran.0.sessions mid.session happens.session mid.stands in
        record {
          session = found.session;
          stands = found.stands;
          was = follows_received bytes place at calls first.named first.writing found.session mid.session t found.was (kept ran.0 happens.same mid.session mid.was);
        }
    step (sent place bytes) happens mid =
        let found = touched_before (Sends bytes) place at first.sessions ran.0.sessions mid.session happens.session mid.stands in
        record {
          session = found.session;
          stands = found.stands;
          was = follows_sent bytes place at calls first.named first.writing found.session mid.session t found.was (kept ran.0 happens.same mid.session mid.was);
        }
    step (released place) happens mid =
        let found = touched_before Lets place at first.sessions ran.0.sessions mid.session happens.session mid.stands in
        record {
          session = found.session;
          stands = found.stands;
          was = follows_released place at calls first.named first.writing found.session mid.session t found.was (kept ran.0 happens.same mid.session mid.was);
        }

-- the session at a place of a new router
record IsNew (s : Session) : Type 0 where
  input : s.input ≡ []
  output : s.output ≡ []

new_at : (ids : List (List ℕ)) (at : ℕ) (s : Session) → slice_get (map new_session ids) at ≡ Some s → IsNew s
new_at [] at s stands = absurd (cc stands)
new_at (id ∷ ids) zero s stands =
    let same : new_session id ≡ s = cc stands in
    subst IsNew same (record { input = refl; output = refl })
new_at (id ∷ ids) (suc at) s stands = new_at ids at s stands

pub sessions_apart : SessionsApart
sessions_apart ids calls last place t ran stands =
    let found = follows calls (new_mux ids) last place t ran stands in
    let s = found.session in
    let new = new_at ids place s found.stands in
    let f = found.was in
    record {
      reads = λ e.
          f.input e
          ∙ ap (λ (bs : List ℕ). bs ++ spelled_all (part_of None s.id (given_in calls))) new.input
          ∙ ap (λ (i : List ℕ). spelled_all (part_of None i (given_in calls))) (sym f.id);
      writes =
          ap (λ (bs : List ℕ). bs ++ sent_in place calls) (sym new.output)
          ∙ f.output
          ∙ ap (λ (i : List ℕ). spelled_all (part_of None i (begun_in calls)) ++ t.output) (sym f.id);
    }
