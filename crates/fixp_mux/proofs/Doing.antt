-- The steps of a pump one behind another.
use Rattle.std.proofs.Common.{◌≡◌, ⊎_elim, ℕ, ◌<◌, ◌^◌, Bool, true, false, ◌||◌, List, [], ◌∷◌, ◌++◌, length, drop, Option, refl, sym, ◌∙◌, ap, subst, append-nil}
use Rattle.sofh_frame.specs.Framing.{Frame, BeginsWith, spelled}
use Rattle.sofh_frame.specs.Splits.{spelled_all}
use Rattle.sofh_frame.proofs.SplitLemmas.{length-spelled}
use Rattle.fixp_mux.specs.Giving.{GaveOne}
use Rattle.fixp_mux.specs.Parts.{named_behind}
use Rattle.fixp_mux.specs.Routing.{Gives, table_in}
use Rattle.fixp_mux.specs.State.{State, AllPairs, Fed, Pumps, counted}
use Rattle.fixp_mux.specs.Stepping.{GivesOut}
use Rattle.fixp_mux.proofs.Composing.{gave_either, gave_first, gave_then, pumps_bytes, pumps_more}

-- what was done, and whether a session was given a frame
pub record Does (x y : State) (given begun : List Frame) (came sent : List ℕ) (some : Bool) : Type 0 where
  pub pumps : Pumps x y given begun came sent
  pub gave : some ≡ true → GaveOne x.sessions x.named given
  pub none : some ≡ false → GaveOne x.sessions x.named given → ⊥

no_true : false ≡ true → ⊥
no_true e = absurd (cc e)

or_true : (s : Bool) → (s || true) ≡ true
or_true true = refl
or_true false = refl

or_false : (s : Bool) → (s || false) ≡ s
or_false true = refl
or_false false = refl

flag_gave : (x y : State) (g h b : List Frame) (s t : Bool) → AllPairs (Fed x.named x.writing g b) x.sessions y.sessions → y.named ≡ named_behind x.named g
    → (s ≡ true → GaveOne x.sessions x.named g) → (t ≡ true → GaveOne y.sessions y.named h) → (s || t) ≡ true → GaveOne x.sessions x.named (g ++ h)
flag_gave x y g h b true t all named first second e = gave_first x.sessions x.named g h (first refl)
flag_gave x y g h b false t all named first second e =
    gave_then x.writing b x.sessions y.sessions x.named g h all (subst (λ (n : Option (List ℕ)). GaveOne y.sessions n h) named (second e))

flag_none : (x y : State) (g h b : List Frame) (s t : Bool) → AllPairs (Fed x.named x.writing g b) x.sessions y.sessions → y.named ≡ named_behind x.named g
    → (s ≡ false → GaveOne x.sessions x.named g → ⊥) → (t ≡ false → GaveOne y.sessions y.named h → ⊥) → (s || t) ≡ false → GaveOne x.sessions x.named (g ++ h) → ⊥
flag_none x y g h b true t all named first second e gave = absurd (no_true (sym e))
flag_none x y g h b false t all named first second e gave =
    ⊎_elim
    (λ (one : GaveOne x.sessions x.named g). first refl one)
    (λ (other : GaveOne y.sessions (named_behind x.named g) h). second e (subst (λ (n : Option (List ℕ)). GaveOne y.sessions n h) (sym named) other))
    (gave_either x.writing b x.sessions y.sessions x.named g h all gave)

pub does_more : (x y z : State) (g h b c : List Frame) (came came' sent sent' : List ℕ) (s t : Bool)
    → Does x y g b came sent s → Does y z h c came' sent' t → Does x z (g ++ h) (b ++ c) (came ++ came') (sent ++ sent') (s || t)
does_more x y z g h b c came came' sent sent' s t first second = record {
  pumps = pumps_more x y z g h b c came came' sent sent' first.pumps second.pumps;
  gave = flag_gave x y g h b s t first.pumps.sessions first.pumps.named first.gave second.gave;
  none = flag_none x y g h b s t first.pumps.sessions first.pumps.named first.none second.none;
}

-- no frame was given out
pub does_bytes : (x y : State) (b : List Frame) (came sent : List ℕ) → Pumps x y [] b came sent → Does x y [] b came sent false
does_bytes x y b came sent pumps = record { pumps = pumps; gave = λ e. absurd (no_true e); none = λ e gave. gave.some refl }

pub does_gives : (x y : State) (some : Bool) → (g : GivesOut x y some) → Does x y g.given [] [] [] some
does_gives x y some g = record { pumps = g.pumps; gave = g.gave; none = g.none }

gives_does : (x y : State) (given : List Frame) (some : Bool) → y.is_over ≡ x.is_over → Does x y given [] [] [] some → GivesOut x y some
gives_does x y given some over d = record { given = given; pumps = d.pumps; over = over; gave = d.gave; none = d.none }

pub gives_none : (x : State) → x.at < 2 ^ 64 → GivesOut x x false
gives_none x within = gives_does x x [] false refl (does_bytes x x [] [] [] (pumps_bytes x x.unread x.unsent [] [] x.is_over within (sym (append-nil x.unread)) refl))

gives_more : (x y z : State) (s t : Bool) → GivesOut x y s → GivesOut y z t → GivesOut x z (s || t)
gives_more x y z s t first second =
    gives_does x z (first.given ++ second.given) (s || t) (second.over ∙ first.over)
    (does_more x y z first.given second.given [] [] [] [] [] [] s t (does_gives x y s first) (does_gives y z t second))

pub gives_then : (x y z : State) (s : Bool) → GivesOut x y s → GivesOut y z true → GivesOut x z true
gives_then x y z s first second = subst (GivesOut x z) (or_true s) (gives_more x y z s true first second)

pub gives_pass : (x y z : State) (s : Bool) → GivesOut x y s → GivesOut y z false → GivesOut x z s
gives_pass x y z s first second = subst (GivesOut x z) (or_false s) (gives_more x y z s false first second)

-- the frame at the front is given out
pub gives_first : (x y z : State) (f : Frame) (size : ℕ) (some : Bool) → Gives (table_in x) (table_in y) f
    → (some ≡ true → GaveOne x.sessions x.named (f ∷ [])) → (some ≡ false → GaveOne x.sessions x.named (f ∷ []) → ⊥)
    → BeginsWith x.unread f size
    → y ≡ record x { sessions = y.sessions; named = y.named; writing = y.writing }
    → z ≡ record y { unread = drop size y.unread; at = counted y.at size }
    → GivesOut x z some
gives_first x y z f size some gives gave none begins is past =
    let unread : z.unread ≡ drop size x.unread = ap (λ (m : State). m.unread) past ∙ ap (λ (m : State). drop size m.unread) is in
    let sized : length (spelled_all (f ∷ [])) ≡ size = ap length (append-nil (spelled f)) ∙ length-spelled f ∙ sym begins.counts in
    record {
      given = f ∷ [];
      pumps = record {
        sessions = subst (AllPairs (Fed x.named x.writing (f ∷ []) []) x.sessions) (sym (ap (λ (m : State). m.sessions) past)) gives.sessions;
        named = ap (λ (m : State). m.named) past ∙ gives.named;
        writing = ap (λ (m : State). m.writing) past ∙ gives.writing;
        reads =
            ap (λ (bs : List ℕ). spelled_all (f ∷ []) ++ bs) unread
            ∙ ap (λ (bs : List ℕ). bs ++ drop size x.unread) (append-nil (spelled f))
            ∙ sym begins.spells
            ∙ sym (append-nil x.unread);
        writes = ap (λ (m : State). m.unsent) past ∙ ap (λ (m : State). m.unsent) is ∙ sym (append-nil x.unsent);
        at = ap (λ (m : State). m.at) past ∙ ap (λ (m : State). counted m.at size) is ∙ ap (counted x.at) (sym sized);
        well = (gives.well, tt);
        known = tt;
        tight = tt;
      };
      over = ap (λ (m : State). m.is_over) past ∙ ap (λ (m : State). m.is_over) is;
      gave = gave;
      none = none;
    }
