-- Frames are begun to be written, and the link takes bytes.
use Rattle.std.proofs.Common.{◌≡◌, ℕ, zero, suc, ◌+◌, ◌-◌, ◌<◌, ◌≤◌, ◌^◌, min, Bool, true, false, List, [], ◌∷◌, ◌++◌, length, take, drop, slice_get, Option, Some, refl, sym, ◌∙◌, ap, subst, arith, append-nil, take-append-drop, length-append, length-take, length-drop}
use Rattle.std.proofs.lemmas.Bool.Decides.{nat_tests}
use Rattle.std.specs.Prelude.{nat_lt}
use Rattle.gw_links.specs.Links.{Carried, LinkTold, Moved}
use Rattle.gw_links.proofs.Moving.{moved_more, moved_none}
use Rattle.fixp_mux.specs.Begun.{Began, outputs}
use Rattle.fixp_mux.specs.Routing.{Table, table_in}
use Rattle.fixp_mux.specs.State.{Session, State, Pumps}
use Rattle.fixp_mux.specs.Stepping.{BegunOn, FailedToSend, FailedToWrite, IsWritten, SentOn, WroteSome}
use Rattle.fixp_mux.specs.declared.pump.MuxFault.{MuxFault}
use Rattle.fixp_mux.proofs.Composing.{pumps_bytes, pumps_more, stays_at}

pub wrote_none : (t : Option LinkTold) (c : Option Carried) (x : State) → x.at < 2 ^ 64 → WroteSome t t c c x x 0
wrote_none t c x within = record {
  out = record {
    begun = [];
    sent = [];
    pumps = pumps_bytes x x.unread x.unsent [] [] x.is_over within (sym (append-nil x.unread)) refl;
    over = refl;
    moved = moved_none t c;
  };
  some = λ e. absurd (omega (arith, e));
  none = λ e. refl;
  within = within;
}

-- the link took the first of the unsent bytes
sent_bytes : (y : State) (n : ℕ) → y.at < 2 ^ 64 → Pumps y (record y { unsent = drop n y.unsent }) [] [] [] (take n y.unsent)
sent_bytes y n within = pumps_bytes y y.unread (drop n y.unsent) [] (take n y.unsent) y.is_over within (sym (append-nil y.unread)) (take-append-drop n y.unsent)

took_more : (a b c : Option LinkTold) (p q r : Option Carried) (sent unsent more : List ℕ) → Moved a b p q [] (sent ++ take 0 unsent) → Moved b c q r [] more → Moved a c p r [] (sent ++ more)
took_more a b c p q r sent unsent more first second =
    subst (λ (l : List ℕ). Moved a c p r [] (l ++ more)) (append-nil sent) (moved_more a b c p q r [] (sent ++ []) [] more first second)

some_sent : (count n : ℕ) (sent unsent : List ℕ) → n ≤ length unsent → (0 < count → 0 < length sent) → 0 < min (count + n) (2 ^ 64 - 1) → 0 < length (sent ++ take n unsent)
some_sent zero n sent unsent within some e = omega (arith, length-append sent (take n unsent), length-take n unsent, within, e)
some_sent (suc count) n sent unsent within some e = omega (arith, length-append sent (take n unsent), some (omega arith))

none_sent : (count n : ℕ) (sent unsent : List ℕ) → (count ≡ 0 → sent ≡ []) → min (count + n) (2 ^ 64 - 1) ≡ 0 → sent ++ take n unsent ≡ []
none_sent count n sent unsent none e =
    let no_more : n ≡ 0 = omega (arith, e) in
    let no_count : count ≡ 0 = omega (arith, e) in
    ap (λ (l : List ℕ). l ++ take n unsent) (none no_count) ∙ ap (λ (m : ℕ). take m unsent) no_more

pub wrote_sent : (a b d : Option LinkTold) (p q r : Option Carried) (x y z : State) (count n : ℕ) → WroteSome a b p q x y count → SentOn b d q r y z n → WroteSome a d p r x z (min (count + n) (2 ^ 64 - 1))
wrote_sent a b d p q r x y z count n w s =
    let sent : List ℕ = w.out.sent ++ take n y.unsent in
    subst (λ (m : State). WroteSome a d p r x m (min (count + n) (2 ^ 64 - 1))) (sym s.is) (record {
      out = record {
        begun = w.out.begun ++ [];
        sent = sent;
        pumps = pumps_more x y (record y { unsent = drop n y.unsent }) [] [] w.out.begun [] [] [] w.out.sent (take n y.unsent) w.out.pumps (sent_bytes y n w.within);
        over = w.out.over;
        moved = subst (Moved a d p r []) (sym (append-nil sent)) (took_more a b d p q r w.out.sent y.unsent (take n y.unsent) w.out.moved s.moved);
      };
      some = some_sent count n w.out.sent y.unsent s.within w.some;
      none = none_sent count n w.out.sent y.unsent w.none;
      within = w.within;
    })

-- frames are begun
begun_pumps : (y z : State) → y.at < 2 ^ 64 → (b : Began (table_in y) y.unsent (table_in z) z.unsent) → z ≡ record y { sessions = z.sessions; named = z.named; writing = z.writing; unsent = z.unsent } → Pumps y z [] b.begun [] []
begun_pumps y z within b is = record {
  sessions = b.sessions;
  named = b.named;
  writing = b.writing;
  reads = ap (λ (m : State). m.unread) is ∙ sym (append-nil y.unread);
  writes = b.wrote;
  at = ap (λ (m : State). m.at) is ∙ stays_at y.at within;
  well = tt;
  known = b.known;
  tight = b.tight;
}

wrote_began : (a b : Option LinkTold) (p q : Option Carried) (x y z : State) (count : ℕ) → WroteSome a b p q x y count → BegunOn y true z → WroteSome a b p q x z count
wrote_began a b p q x y z count w began = record {
  out = record {
    begun = w.out.begun ++ began.begun.moved.begun;
    sent = w.out.sent ++ [];
    pumps = pumps_more x y z [] [] w.out.begun began.begun.moved.begun [] [] w.out.sent [] w.out.pumps (begun_pumps y z w.within began.begun.moved began.is);
    over = ap (λ (m : State). m.is_over) began.is ∙ w.out.over;
    moved = subst (λ (l : List ℕ). Moved a b p q [] (l ++ [])) (sym (append-nil w.out.sent)) w.out.moved;
  };
  some = λ e. subst (λ (l : List ℕ). 0 < length l) (sym (append-nil w.out.sent)) (w.some e);
  none = λ e. append-nil w.out.sent ∙ w.none e;
  within = omega (arith, w.within, ap (λ (m : State). m.at) began.is);
}

-- one round: the link took the first of the unsent bytes, and then frames were begun
pub write_more : (a b d : Option LinkTold) (p q r : Option Carried) (x y z w : State) (count n : ℕ) (some : Bool) → WroteSome a b p q x y count → SentOn b d q r y z n → BegunOn z some w → some ≡ true → WroteSome a d p r x w (min (count + n) (2 ^ 64 - 1))
write_more a b d p q r x y z w count n some so_far sent begun is =
    wrote_began a d p r x z w (min (count + n) (2 ^ 64 - 1)) (wrote_sent a b d p q r x y z count n so_far sent) (subst (λ (t : Bool). BegunOn z t w) is begun)

less_of : (z w : State) → BegunOn z true w → outputs w.sessions < outputs z.sessions
less_of z w begun = begun.begun.moved.less

pub write_less : (b d : Option LinkTold) (q r : Option Carried) (y z w : State) (n : ℕ) (some : Bool) → SentOn b d q r y z n → BegunOn z some w → some ≡ true → outputs w.sessions < outputs y.sessions
write_less b d q r y z w n some sent begun is =
    omega (arith, less_of z w (subst (λ (t : Bool). BegunOn z t w) is begun), ap (λ (m : State). outputs m.sessions) sent.is)

-- or some bytes are left, which the link does not take now
test_true : (n : ℕ) (r : Bool) → r ≡ nat_lt 0 n → r ≡ true → 0 < n
test_true n r is e = (let t : nat_lt 0 n ≡ true = sym is ∙ e in grind (arith, nat_tests))

test_false : (l : List ℕ) (r : Bool) → r ≡ nat_lt 0 (length l) → r ≡ false → l ≡ []
test_false [] r is e = refl
test_false (b ∷ l) r is e = (let t : nat_lt 0 (length (b ∷ l)) ≡ false = sym is ∙ e in absurd (grind (arith, nat_tests)))

pub write_part : (a b d : Option LinkTold) (p q r : Option Carried) (x y z : State) (count n : ℕ) (left : Bool) → WroteSome a b p q x y count → SentOn b d q r y z n → left ≡ nat_lt 0 (length z.unsent) → left ≡ true
    → IsWritten a d p r x z (record { sent = min (count + n) (2 ^ 64 - 1); is_all = false })
write_part a b d p q r x y z count n left so_far sent tested is =
    let long : 0 < length z.unsent = test_true (length z.unsent) left tested is in
    let behind : n < length y.unsent = omega (arith, long, ap (λ (m : State). length m.unsent) sent.is, length-drop n y.unsent) in
    record {
      did = wrote_sent a b d p q r x y z count n so_far sent;
      all = λ e. absurd (cc e);
      left = λ e none. omega (arith, long, ap length none);
      full = λ e. sent.full behind;
    }

-- or nothing is left
below : (xs : List Session) (place : ℕ) (s : Session) → slice_get xs place ≡ Some s → place < length xs
below [] place s stands = absurd (cc stands)
below (x ∷ xs) zero s stands = omega arith
below (x ∷ xs) (suc place) s stands = omega (arith, below xs place s stands)

unchanged : (z w : State) → BegunOn z false w → w ≡ z
unchanged z w begun =
    begun.is
    ∙ ap (λ (t : Table). let m : State = record z { sessions = t.sessions; named = t.named; writing = t.writing; unsent = w.unsent } in m) begun.begun.moved.0
    ∙ ap (λ (u : List ℕ). let m : State = record z { unsent = u } in m) begun.begun.moved.1

whole : (a d : Option LinkTold) (p r : Option Carried) (x z w : State) (count : ℕ) → WroteSome a d p r x z count → z.unsent ≡ [] → BegunOn z false w → IsWritten a d p r x w (record { sent = count; is_all = true })
whole a d p r x z w count wrote empty begun =
    subst (λ (m : State). IsWritten a d p r x m (record { sent = count; is_all = true })) (sym (unchanged z w begun)) (record {
      did = wrote;
      all = λ e. record {
        unsent = empty;
        sessions = λ place s stands ready. begun.begun.none refl empty place (omega arith) (below z.sessions place s stands) s stands ready;
      };
      left = λ e. absurd (cc e);
      full = λ e. absurd (cc e);
    })

pub write_whole : (a b d : Option LinkTold) (p q r : Option Carried) (x y z w : State) (count n : ℕ) (left some : Bool) → WroteSome a b p q x y count → SentOn b d q r y z n → left ≡ nat_lt 0 (length z.unsent) → left ≡ false → BegunOn z some w → some ≡ false
    → IsWritten a d p r x w (record { sent = min (count + n) (2 ^ 64 - 1); is_all = true })
write_whole a b d p q r x y z w count n left some so_far sent tested is begun ends =
    whole a d p r x z w (min (count + n) (2 ^ 64 - 1)) (wrote_sent a b d p q r x y z count n so_far sent) (test_false z.unsent left tested is) (subst (λ (t : Bool). BegunOn z t w) ends begun)

-- or the link failed
pub write_failed : (a b d : Option LinkTold) (p q r : Option Carried) (x y z : State) (count : ℕ) (fault : MuxFault) → WroteSome a b p q x y count → FailedToSend b d q r y z fault → FailedToWrite a d p r x z fault
write_failed a b d p q r x y z count fault w f =
    subst (λ (m : State). FailedToWrite a d p r x m fault) (sym f.same) (record {
      is = f.is;
      failing = f.front.count;
      out = record {
        begun = w.out.begun;
        sent = w.out.sent;
        pumps = w.out.pumps;
        over = w.out.over;
        moved = took_more a b d p q r w.out.sent y.unsent (take f.front.count y.unsent) w.out.moved f.front.moved;
      };
    })
