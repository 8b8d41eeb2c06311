-- Bytes come, and frames go out before and behind them.
use Rattle.std.proofs.Common.{◌≡◌, ◌⊎◌, ⊎_elim, inl, inr, ℕ, ◌<◌, ◌≤◌, ◌^◌, Bool, true, false, if◌then◌else◌, ◌||◌, List, [], ◌++◌, length, slice_range, Option, Some, None, Err, refl, sym, ◌∙◌, ap, subst, arith, append-nil}
use Rattle.std.proofs.lemmas.Bool.Decides.{nat_tests}
use Rattle.std.specs.Prelude.{nat_lt}
use Rattle.sbe_prim.specs.declared.Order.{Order}
use Rattle.sofh_frame.specs.Framing.{First, rest, frame, bad_encoding, bad_length, first_of, frame_in, order_of, encoding_in, length_in, is_admissible}
use Rattle.gw_links.specs.Links.{Carried, LinkTold, Moved}
use Rattle.gw_links.proofs.Moving.{moved_none}
use Rattle.gw_outside.specs.Faults.{HasRisen}
use Rattle.fixp_mux.specs.Pumping.{HasFailed, HasTrouble, IsBlocked, IsFault, IsLinkOver, IsOver, IsLinkQuiet}
use Rattle.fixp_mux.specs.State.{State, Pumps}
use Rattle.fixp_mux.specs.Stepping.{FailedToRead, GaveOut, GivesOut, HasStopped, IsReadIn, ReadIn, TookIn}
use Rattle.fixp_mux.specs.declared.pump.MuxFault.{MuxFault}
use Rattle.fixp_mux.specs.declared.pump.MuxFault.TheVariants.{NoContext, OtherSession, BadFrame, LinkFault}
use Rattle.fixp_mux.specs.declared.reading.Stop.{Stop}
use Rattle.fixp_mux.specs.declared.reading.Stop.TheVariants.{Waits, Full}
use Rattle.fixp_mux.proofs.Composing.{pumps_bytes}
use Rattle.fixp_mux.proofs.Doing.{Does, does_bytes, does_gives, does_more}

-- where less than a frame stands at the front, fewer bytes wait than the largest frame has
no_rest : (o : Order) (message : List ℕ) (size : ℕ) → frame o message size ≡ rest → ⊥
no_rest o message size e = absurd (cc e)

no_bad_length : (n : ℕ) → bad_length n ≡ rest → ⊥
no_bad_length n e = absurd (cc e)

no_bad_encoding : (n : ℕ) → bad_encoding n ≡ rest → ⊥
no_bad_encoding n e = absurd (cc e)

most_admitted : (n : ℕ) → is_admissible n ≡ true → n ≤ 16390
most_admitted n e = grind (arith, nat_tests)

not_below : (a b : ℕ) → b ≤ a → nat_lt a b ≡ false
not_below a b le = grind (arith, nat_tests)

in_frame : (bytes : List ℕ) (o : Option Order) → length_in bytes ≤ length bytes → frame_in bytes o ≡ rest → ⊥
in_frame bytes None whole e = no_bad_encoding (encoding_in bytes) e
in_frame bytes (Some order) whole e =
    no_rest order (slice_range bytes 6 (length_in bytes)) (length_in bytes) (ap (λ (b : Bool). if b then rest else frame order (slice_range bytes 6 (length_in bytes)) (length_in bytes)) (sym (not_below (length bytes) (length_in bytes) whole)) ∙ e)

by_length : (bytes : List ℕ) (b : Bool) → is_admissible (length_in bytes) ≡ b → 16390 ≤ length bytes
    → (if b then frame_in bytes (order_of (encoding_in bytes)) else bad_length (length_in bytes)) ≡ rest → ⊥
by_length bytes true admitted long e = in_frame bytes (order_of (encoding_in bytes)) (omega (arith, most_admitted (length_in bytes) admitted, long)) e
by_length bytes false admitted long e = no_bad_length (length_in bytes) e

pub rest_short : (bytes : List ℕ) → 16390 ≤ length bytes → first_of bytes ≡ rest → ⊥
rest_short bytes long e =
    let a : nat_lt (length bytes) 4 ≡ false = not_below (length bytes) 4 (omega (arith, long)) in
    let b : nat_lt (length bytes) 6 ≡ false = not_below (length bytes) 6 (omega (arith, long)) in
    let other : First = bad_length (length_in bytes) in
    let inner : First = frame_in bytes (order_of (encoding_in bytes)) in
    by_length bytes (is_admissible (length_in bytes)) refl long
    (ap (λ (t : Bool). if is_admissible (length_in bytes) then (if t then rest else inner) else other) (sym b)
    ∙ ap (λ (t : Bool). if t then rest else (if is_admissible (length_in bytes) then (if nat_lt (length bytes) 6 then rest else inner) else other)) (sym a)
    ∙ e)

-- bytes came
took_pumps : (t t' : Option LinkTold) (c c' : Option Carried) (x y : State) (some : Bool) → x.at < 2 ^ 64 → (k : TookIn t t' c c' x y some) → Pumps x y [] [] k.came []
took_pumps t t' c c' x y some within k =
    subst (λ (m : State). Pumps x m [] [] k.came []) (sym k.is) (pumps_bytes x (x.unread ++ k.came) x.unsent k.came [] y.is_over within refl refl)

over_then : (t : Option LinkTold) (x y z : State) → y.is_over ≡ x.is_over → IsOver t y z → IsOver t x z
over_then t x y z same over = record {
  stays = λ e. over.stays (same ∙ e);
  only = λ e. subst (λ (b : Bool). (b ≡ true) ⊎ IsLinkOver t) same (over.only e);
}

over_stays : (t : Option LinkTold) (x y z : State) → IsOver t x y → z.is_over ≡ y.is_over → IsOver t x z
over_stays t x y z over same = record {
  stays = λ e. same ∙ over.stays e;
  only = λ e. over.only (sym same ∙ e);
}

or_false : (s : Bool) → (s || false) ≡ s
or_false true = refl
or_false false = refl

-- frames went out, and bytes came or did not
pub read_first : (t t' : Option LinkTold) (c c' : Option Carried) (x y z : State) (s some : Bool) → y.at < 2 ^ 64 → GivesOut x y s → TookIn t t' c c' y z some → ReadIn t t' c c' x z s
read_first t t' c c' x y z s some within g k =
    let d : Does x z (g.given ++ []) [] k.came [] (s || false) =
    does_more x y z g.given [] [] [] [] k.came [] [] s false (does_gives x y s g) (does_bytes y z [] k.came [] (took_pumps t t' c c' y z some within k)) in
    record {
      given = g.given ++ [];
      came = k.came;
      pumps = d.pumps;
      moved = k.moved;
      over = over_then t' x y z g.over k.over;
      gave = λ e. d.gave (or_false s ∙ e);
      none = λ e. d.none (or_false s ∙ e);
    }

-- and frames went out behind them
pub read_then : (t t' : Option LinkTold) (c c' : Option Carried) (x y z : State) (s u : Bool) → ReadIn t t' c c' x y s → GivesOut y z u → ReadIn t t' c c' x z (s || u)
read_then t t' c c' x y z s u r g =
    let d : Does x z (r.given ++ g.given) [] (r.came ++ []) [] (s || u) =
    does_more x y z r.given g.given [] [] r.came [] [] [] s u (record { pumps = r.pumps; gave = r.gave; none = r.none }) (does_gives y z u g) in
    record {
      given = r.given ++ g.given;
      came = r.came ++ [];
      pumps = d.pumps;
      moved = subst (λ (l : List ℕ). Moved t t' c c' l []) (sym (append-nil r.came)) r.moved;
      over = over_stays t' x y z r.over g.over;
      gave = d.gave;
      none = d.none;
    }

-- no byte came: the same frame stands at the front
same_front : (t t' : Option LinkTold) (c c' : Option Carried) (y z : State) (k : TookIn t t' c c' y z false) → z ≡ record y { is_over = z.is_over }
same_front t t' c c' y z k =
    k.is ∙ ap (λ (bs : List ℕ). let m : State = record y { unread = bs; is_over = z.is_over } in m) (ap (λ (l : List ℕ). y.unread ++ l) (k.none_came refl) ∙ append-nil y.unread)

stopped_still : (stop : Stop) (y z : State) → z ≡ record y { is_over = z.is_over } → HasStopped stop y → HasStopped stop z
stopped_still Waits y z same stopped = subst (HasStopped Waits) (sym same) stopped
stopped_still Full y z same stopped = subst (HasStopped Full) (sym same) stopped

why_none : (t' : Option LinkTold) (stop : Stop) (y z : State) → z ≡ record y { is_over = z.is_over } → HasStopped stop y → IsLinkQuiet t' ⊎ ((z.is_over ≡ true) ⊎ (32780 ≤ length y.unread)) → IsLinkQuiet t' ⊎ ((z.is_over ≡ true) ⊎ IsBlocked z)
why_none t' stop y z same stopped why =
    ⊎_elim
    (λ (n : IsLinkQuiet t'). inl n)
    (λ (w : (z.is_over ≡ true) ⊎ (32780 ≤ length y.unread)). inr (⊎_elim (λ (o : z.is_over ≡ true). inl o) (λ (l : 32780 ≤ length y.unread). inr (blocked stop stopped l)) w))
    why
  where
    blocked : (s : Stop) → HasStopped s y → 32780 ≤ length y.unread → IsBlocked z
    blocked Waits is long = absurd (rest_short y.unread (omega (arith, long)) is)
    blocked Full is long = subst IsBlocked (sym same) is

read_nothing : (t t' : Option LinkTold) (c c' : Option Carried) (x y z : State) (s : Bool) (stop : Stop) → y.at < 2 ^ 64 → GivesOut x y s → HasStopped stop y → TookIn t t' c c' y z false
    → IsReadIn t t' c c' x z (record { came = false; gave_one = s; stop = stop })
unfolding read_first
read_nothing t t' c c' x y z s stop within g stopped k =
    let same = same_front t t' c c' y z k in
    record {
      did = read_first t t' c c' x y z s false within g k;
      some_came = λ e. absurd (cc e);
      none_came = λ e. k.none_came refl;
      stopped = stopped_still stop y z same stopped;
      why = λ e. why_none t' stop y z same stopped (k.why refl);
    }

longer : (l : List ℕ) → 0 < length l → 0 < length (l ++ [])
longer l some = subst (λ (m : List ℕ). 0 < length m) (sym (append-nil l)) some

read_bytes : (t t' : Option LinkTold) (c c' : Option Carried) (x y z w : State) (s u : Bool) (stop : Stop) → y.at < 2 ^ 64 → GivesOut x y s → TookIn t t' c c' y z true → GivesOut z w u → HasStopped stop w
    → IsReadIn t t' c c' x w (record { came = true; gave_one = s || u; stop = stop })
unfolding read_then read_first
read_bytes t t' c c' x y z w s u stop within g k h stopped =
    record {
      did = read_then t t' c c' x z w s u (read_first t t' c c' x y z s true within g k) h;
      some_came = λ e. longer k.came (k.some_came refl);
      none_came = λ e. absurd (cc e);
      stopped = stopped;
      why = λ e. absurd (cc e);
    }

-- where frames cannot go out, or the link failed
trouble_is_fault : (m : State) (fault : MuxFault) → HasTrouble m fault → IsFault m fault
trouble_is_fault m (NoContext at) t = t
trouble_is_fault m (OtherSession at) t = t
trouble_is_fault m (BadFrame at) t = t
trouble_is_fault m LinkFault t = absurd t

over_none : (t : Option LinkTold) (x y : State) → y.is_over ≡ x.is_over → IsOver t x y
over_none t x y same = record { stays = λ e. same ∙ e; only = λ e. inl (sym same ∙ e) }

gave_only : (t : Option LinkTold) (c : Option Carried) (x y : State) (s : Bool) → Moved t t c c [] [] → GivesOut x y s → ReadIn t t c c x y s
gave_only t c x y s still g = record {
  given = g.given;
  came = [];
  pumps = g.pumps;
  moved = still;
  over = over_none t x y g.over;
  gave = g.gave;
  none = g.none;
}

pub failed_before : (t : Option LinkTold) (c : Option Carried) (x y : State) (fault : MuxFault) → Moved t t c c [] [] → GaveOut x y fault → FailedToRead t t c c x y fault
failed_before t c x y fault still g = record {
  some = g.some;
  did = gave_only t c x y g.some still g.gives;
  is = trouble_is_fault y fault g.trouble;
}

pub failed_receiving : (t t' : Option LinkTold) (c c' : Option Carried) (x y z : State) (s : Bool) (fault : MuxFault) → GivesOut x y s → z ≡ y → fault ≡ LinkFault → Moved t t' c c' [] [] → FailedToRead t t' c c' x z fault
failed_receiving t t' c c' x y z s fault g same is moved =
    subst (λ (m : State). FailedToRead t t' c c' x m fault) (sym same) (record {
      some = s;
      did = record {
        given = g.given;
        came = [];
        pumps = g.pumps;
        moved = moved;
        over = over_none t' x y g.over;
        gave = g.gave;
        none = g.none;
      };
      is = subst (IsFault y) (sym is) tt;
    })

failed_then : (t t' : Option LinkTold) (c c' : Option Carried) (x y z w : State) (s : Bool) (fault : MuxFault) → y.at < 2 ^ 64 → GivesOut x y s → TookIn t t' c c' y z true → GaveOut z w fault → FailedToRead t t' c c' x w fault
failed_then t t' c c' x y z w s fault within g k h = record {
  some = s || h.some;
  did = read_then t t' c c' x z w s h.some (read_first t t' c c' x y z s true within g k) h.gives;
  is = trouble_is_fault w fault h.trouble;
}

pub failed_at_once : (t : Option LinkTold) (c : Option Carried) (x y : State) (fault : MuxFault) → GaveOut x y fault → FailedToRead t t c c x y fault
failed_at_once t c x y fault g = failed_before t c x y fault (moved_none t c) g

-- the link's count of failed calls, where frames cannot go out, and where the link failed
pub trouble_same : (m : State) (fault : MuxFault) (f g : ℕ) → HasTrouble m fault → g ≡ f → HasFailed (Err fault) f g
trouble_same m (NoContext at) f g t same = same
trouble_same m (OtherSession at) f g t same = same
trouble_same m (BadFrame at) f g t same = same
trouble_same m LinkFault f g t same = absurd t

pub failed_risen : (fault : MuxFault) (f g : ℕ) → fault ≡ LinkFault → HasRisen f g → HasFailed (Err fault) f g
failed_risen fault f g is risen = subst (λ (m : MuxFault). HasFailed (Err m) f g) (sym is) risen

pub failed_since : (fault : MuxFault) (f g h : ℕ) → g ≡ f → HasFailed (Err fault) g h → HasFailed (Err fault) f h
failed_since fault f g h same failed = subst (λ (n : ℕ). HasFailed (Err fault) n h) same failed

-- the same, by the test of whether bytes came
pub read_none : (t t' : Option LinkTold) (c c' : Option Carried) (x y z : State) (s came : Bool) (stop : Stop) → y.at < 2 ^ 64 → GivesOut x y s → HasStopped stop y → TookIn t t' c c' y z came → came ≡ false
    → IsReadIn t t' c c' x z (record { came = false; gave_one = s; stop = stop })
read_none t t' c c' x y z s came stop within g stopped k is =
    read_nothing t t' c c' x y z s stop within g stopped (subst (λ (b : Bool). TookIn t t' c c' y z b) is k)

read_again : (t t' : Option LinkTold) (c c' : Option Carried) (x y z w : State) (s u came : Bool) (stop : Stop) → y.at < 2 ^ 64 → GivesOut x y s → TookIn t t' c c' y z came → came ≡ true → GivesOut z w u → HasStopped stop w
    → IsReadIn t t' c c' x w (record { came = true; gave_one = s || u; stop = stop })
read_again t t' c c' x y z w s u came stop within g k is h stopped =
    read_bytes t t' c c' x y z w s u stop within g (subst (λ (b : Bool). TookIn t t' c c' y z b) is k) h stopped

pub read_gave : (t t' : Option LinkTold) (c c' : Option Carried) (x y z w : State) (s u came : Bool) (stop : Stop) → y.at < 2 ^ 64 → GivesOut x y s → TookIn t t' c c' y z came → came ≡ true → GivesOut z w u → HasStopped stop w → s ≡ true
    → IsReadIn t t' c c' x w (record { came = true; gave_one = true; stop = stop })
read_gave t t' c c' x y z w s u came stop within g k is h stopped gave =
    subst (λ (b : Bool). IsReadIn t t' c c' x w (record { came = true; gave_one = b || u; stop = stop })) gave (read_again t t' c c' x y z w s u came stop within g k is h stopped)

pub read_more : (t t' : Option LinkTold) (c c' : Option Carried) (x y z w : State) (s u came : Bool) (stop : Stop) → y.at < 2 ^ 64 → GivesOut x y s → TookIn t t' c c' y z came → came ≡ true → GivesOut z w u → HasStopped stop w → s ≡ false
    → IsReadIn t t' c c' x w (record { came = true; gave_one = u; stop = stop })
read_more t t' c c' x y z w s u came stop within g k is h stopped gave =
    subst (λ (b : Bool). IsReadIn t t' c c' x w (record { came = true; gave_one = b || u; stop = stop })) gave (read_again t t' c c' x y z w s u came stop within g k is h stopped)

pub failed_behind : (t t' : Option LinkTold) (c c' : Option Carried) (x y z w : State) (s came : Bool) (fault : MuxFault) → y.at < 2 ^ 64 → GivesOut x y s → TookIn t t' c c' y z came → came ≡ true → GaveOut z w fault → FailedToRead t t' c c' x w fault
failed_behind t t' c c' x y z w s came fault within g k is h =
    failed_then t t' c c' x y z w s fault within g (subst (λ (b : Bool). TookIn t t' c c' y z b) is k) h
