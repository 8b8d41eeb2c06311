-- What each piece that is written makes of the own flow.
use Rattle.std.proofs.Common.{◌≡◌, ℕ, ◌+◌, ◌-◌, ◌≤◌, ◌<◌, ◌||◌, ◌&&◌, not, Bool, true, false, if◌then◌else◌, List, [], ◌∷◌, ◌++◌, map, length, take, get_or, slice_get, Option, Some, None, refl, sym, ap, subst, ◌∙◌, arith, append-nil, length-append, true≢false}
use Rattle.std.specs.List.{AllByRecursion}
use Rattle.std.proofs.lemmas.List.{length-take, take-take, take-map, get_or-take, take-append-le}
use Rattle.std.proofs.lemmas.Option.{slice_get_within, slice_get_read, get_or_from_slice_get}
use mathlib.Core.List.{IsPrefix}
use Rattle.session_model.specs.Journal.{Entry, IsEntry, payloads}
use Rattle.session_model.specs.Events.{Announcer, Event, announce, handshake, in_flow, message, standing, messages, TrueOfJournal, Rising, HandshakeFirst}
use Rattle.session_model.proofs.Handshakes.{OnlyHandshake, handshake_splits}
use Rattle.session_model.proofs.Journals.{entry_within}
use Rattle.session_model.proofs.Lists.{all_weaker, all_append, prefix_take, prefix_length}
use Rattle.session_model.proofs.Numbering.{standing-append, messages-append}
use Rattle.session_model.proofs.Truth.{true_splits, true_stays_true, rising_goes_on}
use Rattle.fixp_msgs.specs.declared.flow.Flow.{Flow}
use Rattle.fixp_msgs.specs.declared.flow.Flow.TheVariants as flows
use Rattle.fixp_shake.specs.Flows.{is_recoverable, is_sequenced, is_absent}
use Rattle.fixp_shake.specs.Phases.{is_idle, is_establishing, is_shaken}
use Rattle.fixp_machine.specs.Sound.{may_return}
use Rattle.fixp_machine.proofs.Tests.{not_opened}
use Rattle.fixp_replies.specs.Expecting.{is_newer}
use Rattle.fixp_replies.specs.declared.facts.Facts.{Facts}
use Rattle.fixp_replies.specs.Facts.{Around}
use Rattle.fixp_replies.specs.Outcomes.{Outcome}
use Rattle.connection_laws.specs.Writing.{events_in, SameOwn, Shakes, WritesOwn, nothing, shakes, returns, resends}
use Rattle.connection_laws.specs.Standing.{number_told, number_at, next_written, to_stand, OwnFlow, AreEntries}

same_next : (f g : Facts) → g.recorded.sent ≡ f.recorded.sent → g.connection.serving ≡ f.connection.serving → next_written g ≡ next_written f
same_next f g sent serving = ap (λ k. number_at (k + 1) g.connection.serving) sent ∙ ap (λ s. number_at (f.recorded.sent + 1) s) serving

told_same : (own : Flow) (f g : Facts) → g.recorded.sent ≡ f.recorded.sent → number_told own g ≡ number_told own f
told_same own f g sent = ap (λ k. if is_sequenced own then Some (k + 1) else None) sent

stood_same : (f g : Facts) (written : List Event) → next_written g ≡ next_written f → to_stand g written ≡ to_stand f written
stood_same f g [] e = refl
stood_same f g (w ∷ ws) e = ap Some e

stands_begun : (f : Facts) (written : List Event) → 1 ≤ length written → to_stand f written ≡ Some (next_written f)
stands_begun f [] some = let no : ⊥ = omega arith in absurd no
stands_begun f (w ∷ ws) some = refl

not_yet : (f g : Facts) → SameOwn f g → is_shaken g.connection.phase ≡ false → is_shaken f.connection.phase ≡ false
not_yet f g same n = by_phase (is_shaken f.connection.phase) refl
  where
    by_phase : (b : Bool) → is_shaken f.connection.phase ≡ b → is_shaken f.connection.phase ≡ false
    by_phase true e = absurd (true≢false (sym (same.stays e) ∙ n))
    by_phase false e = e

-- nothing is written
pub stays_own : (own : Flow) (h : List Entry) (before : ℕ) (f g : Facts) (written : List Event) → SameOwn f g → OwnFlow own h before f written → OwnFlow own h before g written
stays_own own h before f g written same o = record {
  enough = subst (λ k. k ≤ length h) (sym same.sent) o.enough;
  handshakes = o.handshakes;
  opening = λ n. subst (λ k. AllByRecursion (λ (e : Event). e ≡ announce handshake k) written) (sym (told_same own f g same.sent)) (o.opening (not_yet f g same n));
  unopened = λ t. o.unopened (same.idle t);
  free = λ n. same.serving ∙ o.free (not_yet f g same n);
  reached = λ t. o.reached (same.reached t);
  served = λ r. same.serving ∙ o.served r;
  true_of = o.true_of;
  stands = λ t. o.stands t ∙ sym (stood_same f g written (same_next f g same.sent same.serving));
  grows = λ u. subst (λ k. before ≤ k) (sym same.sent) (o.grows u);
  rises = λ u. subst (λ k. Rising (take k h) before (messages written)) (sym same.sent) (o.rises u);
  absent = o.absent;
}

no_messages : (written : List Event) (who : Announcer) (n : Option ℕ) → messages (written ++ announce who n ∷ []) ≡ messages written
no_messages written who n = messages-append written (announce who n ∷ []) ∙ append-nil (messages written)

begun_by : (written : List Event) (e : Event) → 1 ≤ length (written ++ e ∷ [])
begun_by written e = omega (arith, length-append written (e ∷ []))

-- the announcement of a number is true of an outbox that has the entries before it
announces_true : (h : List Entry) (c : Option ℕ) (who : Announcer) (n : ℕ) → 1 ≤ n → n ≤ length h + 1 → TrueOfJournal h c (announce who (Some n) ∷ [])
announces_true h c who n low high = record { entries = tt; announced = ((low, high), tt) }

numbered_told : (own : Flow) (f : Facts) → is_sequenced own ≡ true → number_told own f ≡ Some (f.recorded.sent + 1)
numbered_told own f t = ap (λ (b : Bool). if b then Some (f.recorded.sent + 1) else None) t

-- the handshake's announcement
pub shakes_own : (own : Flow) (h : List Entry) (before : ℕ) (f g : Facts) (written : List Event) → is_shaken f.connection.phase ≡ false → is_idle g.connection.phase ≡ false
    → g.recorded.sent ≡ f.recorded.sent → g.connection.serving ≡ f.connection.serving → OwnFlow own h before f written
    → OwnFlow own h before g (written ++ announce handshake (number_told own f) ∷ [])
shakes_own own h before f g written n begun sent serving o =
    let e : Event = announce handshake (number_told own f) in
    let copies = o.opening n in
    let none : g.connection.serving ≡ None = serving ∙ o.free n in
    let next : next_written g ≡ f.recorded.sent + 1 = ap (λ s. number_at (g.recorded.sent + 1) s) none ∙ ap (λ k. k + 1) sent in
    record {
      enough = subst (λ k. k ≤ length h) (sym sent) o.enough;
      handshakes = (handshake_splits written (e ∷ [])).1 (o.handshakes, (tt, tt), all_weaker (λ (w : Event). w ≡ e) (λ (w : Event). OnlyHandshake w (e ∷ [])) (λ w same. (λ _. sym same, tt)) written copies);
      opening = λ _. subst (λ k. AllByRecursion (λ (w : Event). w ≡ announce handshake k) (written ++ e ∷ [])) (sym (told_same own f g sent))
          (all_append (λ (w : Event). w ≡ e) written (e ∷ []) copies (refl, tt));
      unopened = λ t. absurd (true≢false (sym t ∙ begun));
      free = λ _. none;
      reached = λ _. begun_by written e;
      served = λ _. none;
      true_of = λ t. (true_splits h None written (e ∷ [])).1 (
        o.true_of t,
        subst (λ k. TrueOfJournal h (standing None written) (announce handshake k ∷ [])) (sym (numbered_told own f t))
            (let enough = o.enough in announces_true h (standing None written) handshake (f.recorded.sent + 1) (omega arith) (omega arith)),
      );
      stands = λ t. standing-append None written (e ∷ []) ∙ (numbered_told own f t ∙ (ap Some (sym next) ∙ sym (stands_begun g (written ++ e ∷ []) (begun_by written e))));
      grows = λ u. subst (λ k. before ≤ k) (sym sent) (o.grows u);
      rises = λ u. subst (λ ms. Rising (take g.recorded.sent h) before ms) (sym (no_messages written handshake (number_told own f))) (subst (λ k. Rising (take k h) before (messages written)) (sym sent) (o.rises u));
      absent = λ t. no_messages written handshake (number_told own f) ∙ o.absent t;
    }

-- the first announcement of the handshake, which ends it: fewer entries of a recoverable flow may count as sent from then on
first_own : (own : Flow) (h : List Entry) (before : ℕ) (f g : Facts) → is_recoverable own ≡ true → is_shaken f.connection.phase ≡ false → is_shaken g.connection.phase ≡ true
    → g.recorded.sent ≤ f.recorded.sent → g.connection.serving ≡ f.connection.serving → OwnFlow own h before f [] → OwnFlow own h before g (announce handshake (number_told own g) ∷ [])
first_own own h before f g rec n done low serving o =
    let e : Event = announce handshake (number_told own g) in
    let none : g.connection.serving ≡ None = serving ∙ o.free n in
    let next : next_written g ≡ g.recorded.sent + 1 = ap (λ s. number_at (g.recorded.sent + 1) s) none in
    let few : g.recorded.sent ≤ length h = omega (arith, low, o.enough) in
    record {
      enough = few;
      handshakes = (tt, tt);
      opening = λ k. absurd (true≢false (sym done ∙ k));
      unopened = λ t. absurd (true≢false (sym done ∙ not_opened g.connection.phase t));
      free = λ _. none;
      reached = λ _. begun_by [] e;
      served = λ _. none;
      true_of = λ t. subst (λ k. TrueOfJournal h None (announce handshake k ∷ [])) (sym (numbered_told own g t))
          (announces_true h None handshake (g.recorded.sent + 1) (omega arith) (omega (arith, few)));
      stands = λ t. numbered_told own g t ∙ ap Some (sym next);
      grows = λ u. absurd (true≢false (sym rec ∙ ap (λ k. is_recoverable k) u));
      rises = λ u. absurd (true≢false (sym rec ∙ ap (λ k. is_recoverable k) u));
      absent = λ _. refl;
    }

-- no announcement of the handshake stands behind
later_first : (first second : List Event) → HandshakeFirst first → HandshakeFirst second → ((e : Event) → OnlyHandshake e second) → HandshakeFirst (first ++ second)
later_first first second p q only = (handshake_splits first second).1 (p, q, everywhere first)
  where
    everywhere : (es : List Event) → AllByRecursion (λ (e : Event). OnlyHandshake e second) es
    everywhere [] = tt
    everywhere (e ∷ es) = (only e, everywhere es)

-- an announcement behind the handshake, of the number of the next message
pub announces_own : (own : Flow) (h : List Entry) (before n : ℕ) (f g : Facts) (written : List Event) → is_shaken f.connection.phase ≡ true → is_shaken g.connection.phase ≡ true
    → g.recorded.sent ≡ f.recorded.sent → (is_recoverable own ≡ false → g.connection.serving ≡ None) → next_written g ≡ n → 1 ≤ n → n ≤ length h + 1 → OwnFlow own h before f written
    → OwnFlow own h before g (written ++ announce in_flow (Some n) ∷ [])
announces_own own h before n f g written done now sent served next low high o =
    let e : Event = announce in_flow (Some n) in
    record {
      enough = subst (λ k. k ≤ length h) (sym sent) o.enough;
      handshakes = later_first written (e ∷ []) o.handshakes (tt, tt) (λ w. (λ opens. absurd opens, tt));
      opening = λ k. absurd (true≢false (sym now ∙ k));
      unopened = λ t. absurd (true≢false (sym now ∙ not_opened g.connection.phase t));
      free = λ k. absurd (true≢false (sym now ∙ k));
      reached = λ _. begun_by written e;
      served = served;
      true_of = λ t. (true_splits h None written (e ∷ [])).1 (o.true_of t, announces_true h (standing None written) in_flow n low high);
      stands = λ t. standing-append None written (e ∷ []) ∙ (ap Some (sym next) ∙ sym (stands_begun g (written ++ e ∷ []) (begun_by written e)));
      grows = λ u. subst (λ k. before ≤ k) (sym sent) (o.grows u);
      rises = λ u. subst (λ ms. Rising (take g.recorded.sent h) before ms) (sym (no_messages written in_flow (Some n))) (subst (λ k. Rising (take k h) before (messages written)) (sym sent) (o.rises u));
      absent = λ t. no_messages written in_flow (Some n) ∙ o.absent t;
    }

-- the handshake is done, and the number is told from which a recoverable flow starts again
returns_own : (own : Flow) (h : List Entry) (before : ℕ) (f g : Facts) (written : List Event) → is_recoverable own ≡ true → is_shaken f.connection.phase ≡ false → is_shaken g.connection.phase ≡ true
    → g.recorded.sent < f.recorded.sent → g.connection.serving ≡ f.connection.serving → OwnFlow own h before f written → OwnFlow own h before g (written ++ announce in_flow (Some (g.recorded.sent + 1)) ∷ [])
returns_own own h before f g written rec n done low serving o =
    let e : Event = announce in_flow (Some (g.recorded.sent + 1)) in
    let none : g.connection.serving ≡ None = serving ∙ o.free n in
    let next : next_written g ≡ g.recorded.sent + 1 = ap (λ s. number_at (g.recorded.sent + 1) s) none in
    let few : g.recorded.sent ≤ length h = omega (arith, low, o.enough) in
    record {
      enough = few;
      handshakes = later_first written (e ∷ []) o.handshakes (tt, tt) (λ w. (λ opens. absurd opens, tt));
      opening = λ k. absurd (true≢false (sym done ∙ k));
      unopened = λ t. absurd (true≢false (sym done ∙ not_opened g.connection.phase t));
      free = λ _. none;
      reached = λ _. begun_by written e;
      served = λ _. none;
      true_of = λ t. (true_splits h None written (e ∷ [])).1 (o.true_of t, announces_true h (standing None written) in_flow (g.recorded.sent + 1) (omega arith) (omega (arith, few)));
      stands = λ t. standing-append None written (e ∷ []) ∙ (ap Some (sym next) ∙ sym (stands_begun g (written ++ e ∷ []) (begun_by written e)));
      grows = λ u. absurd (true≢false (sym rec ∙ ap (λ k. is_recoverable k) u));
      rises = λ u. absurd (true≢false (sym rec ∙ ap (λ k. is_recoverable k) u));
      absent = λ t. no_messages written in_flow (Some (g.recorded.sent + 1)) ∙ o.absent t;
    }

-- what a reply that may take back what was sent is: of a recoverable flow, as the handshake ends
pub record MayReturn (x : Around) (f g : Facts) : Type 0 where
  pub own : is_recoverable x.config.own_flow ≡ true
  pub before : is_shaken f.connection.phase ≡ false
  pub done : is_shaken g.connection.phase ≡ true

pub returning : (x : Around) (f g : Facts) → may_return x.config f g ≡ true → MayReturn x f g
returning x f g = by_tests (is_newer x.config) (is_recoverable x.config.own_flow) (is_shaken f.connection.phase) (is_shaken g.connection.phase) refl refl refl
  where
    by_tests : (a b c d : Bool) → is_recoverable x.config.own_flow ≡ b → is_shaken f.connection.phase ≡ c → is_shaken g.connection.phase ≡ d
        → (a && b && not c && d) ≡ true → MayReturn x f g
    by_tests true true false true own before done t = record { own = own; before = before; done = done }
    by_tests false b c d own before done t = absurd (true≢false (sym t))
    by_tests true false c d own before done t = absurd (true≢false (sym t))
    by_tests true true true d own before done t = absurd (true≢false (sym t))
    by_tests true true false false own before done t = absurd (true≢false (sym t))

-- the handshake's announcement of the number from which the own flow goes on
shaken_own : (x : Around) (h : List Entry) (before : ℕ) (f : Facts) (o : Outcome) (written : List Event) → Shakes x f o → OwnFlow x.config.own_flow h before f written
    → OwnFlow x.config.own_flow h before o.next (written ++ announce handshake (number_told x.config.own_flow o.next) ∷ [])
shaken_own x h before f o written s w = by_test (may_return x.config f o.next) refl
  where
    own : Flow
    own = x.config.own_flow

    by_test : (b : Bool) → may_return x.config f o.next ≡ b → OwnFlow own h before o.next (written ++ announce handshake (number_told own o.next) ∷ [])
    by_test true may =
        let r = returning x f o.next may in
        let none : written ≡ [] = w.unopened (s.first may) in
        subst (λ es. OwnFlow own h before o.next (es ++ announce handshake (number_told own o.next) ∷ [])) (sym none)
        (first_own own h before f o.next r.own r.before r.done s.sent.most s.serving (subst (λ es. OwnFlow own h before f es) none w))
    by_test false stays =
        let same = s.sent.same stays in
        subst (λ k. OwnFlow own h before o.next (written ++ announce handshake k ∷ [])) (sym (told_same own f o.next same))
        (shakes_own own h before f o.next written s.before s.opened same s.serving w)

-- what a reply writes
pub replies_own : (x : Around) (h : List Entry) (before : ℕ) (f : Facts) (o : Outcome) (written : List Event) → WritesOwn x f o → OwnFlow x.config.own_flow h before f written
    → OwnFlow x.config.own_flow h before o.next (written ++ events_in o.written)
replies_own x h before f o written (nothing none same) w =
    subst (λ es. OwnFlow x.config.own_flow h before o.next (written ++ es)) (sym none)
    (subst (λ es. OwnFlow x.config.own_flow h before o.next es) (sym (append-nil written)) (stays_own x.config.own_flow h before f o.next written same w))
replies_own x h before f o written (shakes s) w =
    subst (λ es. OwnFlow x.config.own_flow h before o.next (written ++ es)) (sym s.tells)
    (shaken_own x h before f o written s w)
replies_own x h before f o written (returns r) w =
    let m = returning x f o.next r.may in
    subst (λ es. OwnFlow x.config.own_flow h before o.next (written ++ es)) (sym r.tells)
    (returns_own x.config.own_flow h before f o.next written m.own m.before m.done r.sent r.serving w)
replies_own x h before f o written (resends r) w =
    subst (λ es. OwnFlow x.config.own_flow h before o.next (written ++ es)) (sym r.tells)
    (announces_own x.config.own_flow h before r.range.from f o.next written r.done r.stays r.sent (λ k. absurd (true≢false (sym r.own ∙ k)))
    (ap (λ s. number_at (o.next.recorded.sent + 1) s) r.serving) r.from_one (let low = r.within in let enough = w.enough in omega arith) w)

-- messages are numbered from what stands announced
numbered_entries : (h : List Entry) (n : ℕ) (ps : List (List ℕ)) → AreEntries h n ps → TrueOfJournal h (Some n) (map message ps)
numbered_entries h n [] are = record { entries = tt; announced = tt }
numbered_entries h n (p ∷ ps) are =
    let rest = numbered_entries h (n + 1) ps are.1 in
    record { entries = (are.0, rest.entries); announced = rest.announced }

standing_behind : (n : ℕ) (ps : List (List ℕ)) → standing (Some n) (map message ps) ≡ Some (n + length ps)
standing_behind n [] = ap Some (omega arith)
standing_behind n (p ∷ ps) = standing_behind (n + 1) ps ∙ ap Some (omega arith)

messages_of : (ps : List (List ℕ)) → messages (map message ps) ≡ ps
messages_of [] = refl
messages_of (p ∷ ps) = ap (λ qs. p ∷ qs) (messages_of ps)

no_handshake : (e : Event) (ps : List (List ℕ)) → OnlyHandshake e (map message ps)
no_handshake e [] = tt
no_handshake e (p ∷ ps) = (λ opens. absurd opens, no_handshake e ps)

messages_first : (ps : List (List ℕ)) → HandshakeFirst (map message ps)
messages_first [] = tt
messages_first (p ∷ ps) = (no_handshake (message p) ps, messages_first ps)

-- entries reach no further than the outbox
pub entries_reach : (h : List Entry) (n : ℕ) (ps : List (List ℕ)) → n ≤ length h → AreEntries h (n + 1) ps → n + length ps ≤ length h
entries_reach h n [] low are = omega arith
entries_reach h n (p ∷ ps) low are =
    let here = entry_within h (n + 1) p are.0 in
    let rest = entries_reach h (n + 1) ps here are.1 in
    omega arith

-- an element among the first so many
found_among : (ps : List (List ℕ)) (m k : ℕ) (p : List ℕ) → k < m → slice_get ps k ≡ Some p → slice_get (take m ps) k ≡ Some p
found_among ps m k p low found =
    let within : k < length ps = slice_get_within ps k p found in
    let same : get_or (take m ps) k p ≡ p = get_or-take m ps k p low ∙ get_or_from_slice_get ps k p p found in
    slice_get_read (take m ps) (length (take m ps)) k p refl (simp length-take (omega arith)) (sym same)

entry_among : (h : List Entry) (m n : ℕ) (p : List ℕ) → n ≤ m → IsEntry h n p → IsEntry (take m h) n p
entry_among h m n p low e = record {
  from_one = e.from_one;
  found = subst (λ ps. slice_get ps (n - 1) ≡ Some p) (take-map (λ (e : Entry). e.payload) m h) (found_among (payloads h) m (n - 1) p (let one = e.from_one in omega arith) e.found);
}

-- and so entries from a number on rise among those up to the last of them
entries_rise : (h : List Entry) (n m : ℕ) (ps : List (List ℕ)) → n + length ps ≤ m → AreEntries h (n + 1) ps → Rising (take m h) n ps
entries_rise h n m [] top are = tt
entries_rise h n m (p ∷ ps) top are = (n + 1, omega arith, entry_among h m (n + 1) p (omega arith) are.0, entries_rise h (n + 1) m ps (omega arith) are.1)

-- entries of the outbox, from the number of the next message on
pub entries_own : (own : Flow) (h : List Entry) (before n : ℕ) (f g : Facts) (written : List Event) (ps : List (List ℕ)) → is_shaken f.connection.phase ≡ true → is_shaken g.connection.phase ≡ true
    → next_written f ≡ n → next_written g ≡ n + length ps → is_absent own ≡ false → (is_recoverable own ≡ false → g.connection.serving ≡ None) → g.recorded.sent ≤ length h
    → (own ≡ flows.Unsequenced → (f.recorded.sent + 1 ≡ n) × (g.recorded.sent ≡ f.recorded.sent + length ps))
    → AreEntries h n ps → OwnFlow own h before f written → OwnFlow own h before g (written ++ map message ps)
entries_own own h before n f g written ps done now at then_at present served enough counted are o =
    let some : 1 ≤ length (written ++ map message ps) = let few = o.reached (or_right (is_establishing f.connection.phase) (is_shaken f.connection.phase) done) in omega (arith, length-append written (map message ps)) in
    let stood : is_sequenced own ≡ true → standing None written ≡ Some n =
    λ t. o.stands t ∙ (stands_begun f written (o.reached (or_right (is_establishing f.connection.phase) (is_shaken f.connection.phase) done)) ∙ ap Some at) in
    record {
      enough = enough;
      handshakes = later_first written (map message ps) o.handshakes (messages_first ps) (λ w. no_handshake w ps);
      opening = λ k. absurd (true≢false (sym now ∙ k));
      unopened = λ t. absurd (true≢false (sym now ∙ not_opened g.connection.phase t));
      free = λ k. absurd (true≢false (sym now ∙ k));
      reached = λ _. some;
      served = served;
      true_of = λ t. (true_splits h None written (map message ps)).1 (o.true_of t, subst (λ c. TrueOfJournal h c (map message ps)) (sym (stood t)) (numbered_entries h n ps are));
      stands = λ t.
          standing-append None written (map message ps) ∙ (ap (λ c. standing c (map message ps)) (stood t)
          ∙ (standing_behind n ps ∙ (ap Some (sym then_at) ∙ sym (stands_begun g (written ++ map message ps) some))));
      grows = λ u. let c = counted u in let low = o.grows u in omega (arith, c.1, low);
      rises = λ u. rising u;
      absent = λ t. absurd (true≢false (sym t ∙ present));
    }
  where
    or_right : (a b : Bool) → b ≡ true → (a || b) ≡ true
    or_right true b e = refl
    or_right false b e = e

    rising : own ≡ flows.Unsequenced → Rising (take g.recorded.sent h) before (messages (written ++ map message ps))
    rising u =
        let c = counted u in
        let sent : ℕ = f.recorded.sent in
        let old : List Entry = take sent h in
        let new : List Entry = take g.recorded.sent h in
        let few : sent ≤ length h = o.enough in
        let count : length old ≡ sent = simp length-take (omega arith) in
        let longer : IsPrefix old new = subst (λ l. IsPrefix l new) (shorter sent g.recorded.sent (omega (arith, c.1))) (prefix_take sent new) in
        let behind : Rising new (length old) ps = subst (λ k. Rising new k ps) (sym count)
        (entries_rise h sent g.recorded.sent ps (omega (arith, c.1)) (subst (λ k. AreEntries h k ps) (sym c.0) are)) in
        subst (λ ms. Rising new before ms) (sym (messages-append written (map message ps) ∙ ap (λ ms. messages written ++ ms) (messages_of ps)))
        (rising_goes_on old new before (messages written) ps longer (let low = o.grows u in omega (arith, count, low)) (o.rises u) behind)
      where
        shorter : (k m : ℕ) → k ≤ m → take k (take m h) ≡ take k h
        shorter k m low = take-take k m h low

-- over a longer outbox
pub longer_own : (own : Flow) (h longer : List Entry) (before : ℕ) (f : Facts) (written : List Event) → IsPrefix h longer → OwnFlow own h before f written → OwnFlow own longer before f written
longer_own own h longer before f written begins o = record {
  enough = let few = o.enough in omega (arith, prefix_length h longer begins);
  handshakes = o.handshakes;
  opening = o.opening;
  unopened = o.unopened;
  free = o.free;
  reached = o.reached;
  served = o.served;
  true_of = λ t. true_stays_true h longer None written begins (o.true_of t);
  stands = o.stands;
  grows = o.grows;
  rises = λ u. subst (λ es. Rising es before (messages written)) (same_front f.recorded.sent o.enough) (o.rises u);
  absent = o.absent;
}
  where
    same_front : (k : ℕ) → k ≤ length h → take k h ≡ take k longer
    same_front k low = sym (take-append-le k h begins.0 low) ∙ ap (λ es. take k es) begins.1
