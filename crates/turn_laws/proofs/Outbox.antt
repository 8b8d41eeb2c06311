-- What a turn sends of its outbox are entries of it, and may go where it went.
use Rattle.std.proofs.Common.{◌≡◌, ◌<◌, ◌≤◌, ◌+◌, ◌-◌, ℕ, zero, suc, min, Bool, true, false, ◌&&◌, ◌||◌, not, if◌then◌else◌, List, [], ◌∷◌, ◌++◌, length, take, drop, slice_get, Option, Some, None, refl, sym, ap, subst, ◌∙◌, arith, true≢false, length-drop}
use Rattle.std.proofs.lemmas.List.{length-take, length-map}
use Rattle.std.specs.Prelude.{IfSome, is_some, is_none}
use Rattle.std.specs.List.{AllByRecursion}
use mathlib.Core.List.{IsPrefix}
use Rattle.session_model.specs.Journal.{Entry, History, payloads}
use Rattle.session_model.specs.Events.{Event, announce, message, standing, announced}
use Rattle.session_model.proofs.Lists.{prefix_trans, prefix_take, prefix_length}
use Rattle.fixp_msgs.specs.declared.numbering.Range.{Range}
use Rattle.fixp_msgs.specs.declared.flow.Flow.{Flow}
use Rattle.fixp_msgs.specs.declared.flow.Flow.TheVariants as flows
use Rattle.fixp_shake.specs.Flows.{is_recoverable, is_sequenced, is_absent}
use Rattle.fixp_shake.specs.Phases.{is_shaken, is_establishing, is_established}
use Rattle.fixp_replies.specs.declared.act.Ending.{Ending}
use Rattle.fixp_replies.specs.declared.facts.Facts.{Facts}
use Rattle.fixp_machine.specs.Machine.{State, live, again, served_again, step}
use Rattle.conn_turns.specs.Turns.{payloads_from, again_calls, live_calls, served_of, served_now, sends_live, live_of}
use Rattle.connection_laws.specs.Writing.{events_written}
use Rattle.connection_laws.specs.Courses.{Course}
use Rattle.connection_laws.specs.Standing.{number_at, to_stand, OwnFlow, AreEntries}
use Rattle.turn_laws.proofs.Going.{Steady, Goes, nothing, one, is_open}

-- the front of what is dropped of a longer list
prefix_drop : {A : Type 0} (i : ℕ) (xs ys : List A) → IsPrefix xs ys → IsPrefix (drop i xs) (drop i ys)
prefix_drop zero xs ys p = p
prefix_drop (suc i) [] ys p = (drop (suc i) ys, refl)
prefix_drop (suc i) (x ∷ xs) [] p = absurd (cc (p.1))
prefix_drop (suc i) (x ∷ xs) (y ∷ ys) p = prefix_drop i xs ys (p.0, cc (p.1))

-- what stands behind so many elements
found_at : (h : List Entry) (k : ℕ) (e : Entry) (es rest : List Entry) → (e ∷ es) ++ rest ≡ drop k h → (slice_get (payloads h) k ≡ Some e.payload) × (es ++ rest ≡ drop (suc k) h)
found_at [] zero e es rest p = absurd (cc p)
found_at [] (suc k) e es rest p = absurd (cc p)
found_at (x ∷ h) zero e es rest p = (cc p, cc p)
found_at (x ∷ h) (suc k) e es rest p = found_at h k e es rest p

are_entries : (h : List Entry) (k n : ℕ) (es : List Entry) → n ≡ suc k → IsPrefix es (drop k h) → AreEntries h n (payloads es)
are_entries h k n [] is p = tt
are_entries h k n (e ∷ es) is p =
    let x = found_at h k e es p.0 p.1 in
    (record { from_one = omega (arith, is); found = subst (λ (i : ℕ). slice_get (payloads h) i ≡ Some e.payload) (omega (arith, is)) x.0 }, are_entries h (suc k) (n + 1) es (omega (arith, is)) (p.0, x.1))

-- those of a history from a number on, where the outbox begins with it
pub entries_from : (h : List Entry) (seen : History) (n most : ℕ) → 1 ≤ n → IsPrefix seen.made h → AreEntries h n (payloads_from seen n most)
entries_from h seen n most one p =
    are_entries h (n - 1) n (take most (drop (n - 1) seen.made)) (omega (arith, one))
    (prefix_trans (take most (drop (n - 1) seen.made)) (drop (n - 1) seen.made) (drop (n - 1) h) (prefix_take most (drop (n - 1) seen.made)) (prefix_drop (n - 1) seen.made h p))

count_from : (seen : History) (n most : ℕ) → length (payloads_from seen n most) ≡ min most (length seen.made - (n - 1))
count_from seen n most = length-map (take most (drop (n - 1) seen.made)) (λ (e : Entry). e.payload) ∙ (length-take most (drop (n - 1) seen.made) ∙ ap (λ (k : ℕ). min most k) (length-drop (n - 1) seen.made))

at_most : (a b : ℕ) → min a b ≤ a
at_most a b = omega arith

-- a number that stands announced is at least one, where each that was announced is
standing_from_one : (most : ℕ) (c : Option ℕ) (es : List Event) → IfSome c (λ (n : ℕ). 1 ≤ n) → AllByRecursion (λ (n : ℕ). (1 ≤ n) × (n ≤ most)) (announced es) → IfSome (standing c es) (λ (n : ℕ). 1 ≤ n)
standing_from_one most c [] low all = low
standing_from_one most c (announce who None ∷ es) low all = standing_from_one most None es tt all
standing_from_one most c (announce who (Some n) ∷ es) low all = standing_from_one most (Some n) es all.0.0 all.1
standing_from_one most None (message p ∷ es) low all = standing_from_one most None es tt all
standing_from_one most (Some n) (message p ∷ es) low all = standing_from_one most (Some (n + 1)) es (omega arith) all

sequenced : (k : Flow) → is_recoverable k ≡ true → is_sequenced k ≡ true
sequenced flows.Recoverable t = refl
sequenced flows.Idempotent t = absurd (true≢false (sym t))
sequenced flows.Unsequenced t = absurd (true≢false (sym t))
sequenced flows.None t = absurd (true≢false (sym t))

or_right : (a b : Bool) → b ≡ true → (a || b) ≡ true
or_right true b e = refl
or_right false b e = e

-- the range that is served begins with a number of an entry
range_from : (own : Flow) (h : List Entry) (before : ℕ) (f : Facts) (written : List Event) (r : Range) → OwnFlow own h before f written → f.connection.serving ≡ Some r → 1 ≤ r.from
range_from own h before f written r o serves = by_shaken (is_shaken f.connection.phase) refl
  where
    by_written : (es : List Event) → 1 ≤ length es → standing None es ≡ to_stand f es → IfSome (standing None es) (λ (n : ℕ). 1 ≤ n) → 1 ≤ r.from
    by_written [] some stands low = absurd (omega (arith, some))
    by_written (e ∷ es) some stands low =
        let is : standing None (e ∷ es) ≡ Some r.from = stands ∙ ap (λ (s : Option Range). Some (number_at (f.recorded.sent + 1) s)) serves in
        subst (λ (p : Option ℕ). IfSome p (λ (n : ℕ). 1 ≤ n)) is low

    by_flow : (b : Bool) → is_recoverable own ≡ b → is_shaken f.connection.phase ≡ true → 1 ≤ r.from
    by_flow false e shaken = absurd (cc (o.served e, serves))
    by_flow true e shaken = by_written written (o.reached (or_right (is_establishing f.connection.phase) (is_shaken f.connection.phase) shaken)) (o.stands (sequenced own e))
        (standing_from_one (length h + 1) None written tt (o.true_of (sequenced own e)).announced)

    by_shaken : (b : Bool) → is_shaken f.connection.phase ≡ b → 1 ≤ r.from
    by_shaken false e = absurd (cc (o.free e, serves))
    by_shaken true e = by_flow (is_recoverable own) refl e

-- of a connection that stands
steady_from : (h : List Entry) (c : Course) (m : State) (r : Range) → Steady h c m → m.facts.connection.serving ≡ Some r → 1 ≤ r.from
steady_from h c m r s e = range_from c.state.config.own_flow h c.sent_before c.state.facts (events_written c.output) r s.stands.own (ap (λ (x : State). x.facts.connection.serving) s.is ∙ e)

steady_sent : (h : List Entry) (c : Course) (m : State) → Steady h c m → m.facts.recorded.sent ≤ length h
steady_sent h c m s = subst (λ (x : State). x.facts.recorded.sent ≤ length h) s.is s.stands.own.enough

-- a range that is served is sent again
pub again_goes : (h : List Entry) (c : Course) (m : State) (most now : ℕ) (seen : History) → Steady h c m → IsPrefix seen.made h → Goes h c m (again_calls now (served_of most (served_now m) seen))
again_goes h c m most now seen s p = by_case m.ending m.facts.connection.serving refl refl
  where
    by_range : (o : Option Range) → m.ending ≡ None → m.facts.connection.serving ≡ o → Goes h c m (again_calls now (served_of most o seen))
    by_range None goes k = nothing h c m s
    by_range (Some r) goes k =
        let sent : List (List ℕ) = payloads_from seen r.from (min most r.count) in
        one h c m (again sent now) s (record {
          may_call = s.done;
          comes = record {
            is_open = is_open h c m s goes;
            range = r;
            serves = k;
            within = omega (arith, count_from seen r.from (min most r.count), at_most (min most r.count) (length seen.made - (r.from - 1)));
            entries = entries_from h seen r.from (min most r.count) (steady_from h c m r s k) p;
          };
        }) (still sent)
      where
        still : (sent : List (List ℕ)) → (step m (again sent now)).pending ≡ None
        still sent = ap (λ (o : Option Range). (served_again m o sent now).pending) k ∙ s.done

    by_case : (e : Option Ending) (o : Option Range) → m.ending ≡ e → m.facts.connection.serving ≡ o → Goes h c m (again_calls now (served_of most (if is_some e then None else o) seen))
    by_case (Some x) o e k = nothing h c m s
    by_case None o e k = by_range o e k

-- entries may go live
record Lives (m : State) : Type 0 where
  goes : m.ending ≡ None
  established : is_established m.facts.connection.phase ≡ true
  free : m.facts.connection.serving ≡ None
  present : is_absent m.config.own_flow ≡ false

lives : (m : State) → sends_live m ≡ true → Lives m
lives m = by_case m.ending (is_established m.facts.connection.phase) m.facts.connection.serving (is_absent m.config.own_flow) refl refl refl refl
  where
    by_case : (e : Option Ending) (b : Bool) (r : Option Range) (x : Bool) → m.ending ≡ e → is_established m.facts.connection.phase ≡ b → m.facts.connection.serving ≡ r → is_absent m.config.own_flow ≡ x
        → (is_none e && b && is_none r && not x) ≡ true → Lives m
    by_case (Some y) b r x p q u v t = absurd (true≢false (sym t))
    by_case None false r x p q u v t = absurd (true≢false (sym t))
    by_case None true (Some y) x p q u v t = absurd (true≢false (sym t))
    by_case None true None true p q u v t = absurd (true≢false (sym t))
    by_case None true None false p q u v t = record { goes = p; established = q; free = u; present = v }

below : (most sent n made all : ℕ) → n ≡ min most (made - ((sent + 1) - 1)) → made ≤ all → sent ≤ all → all < 1099511627776 → sent + n < 1099511627776
below most sent n made all is low enough few = omega (arith, is, low, enough, few)

pub live_goes : (h : List Entry) (c : Course) (m : State) (most now : ℕ) (seen : History) → Steady h c m → IsPrefix seen.made h → length h < 1099511627776 → Goes h c m (live_calls now (live_of most m seen))
live_goes h c m most now seen s p few = by_test (sends_live m) refl
  where
    by_test : (b : Bool) → sends_live m ≡ b → Goes h c m (live_calls now (if b then Some (payloads_from seen (m.facts.recorded.sent + 1) most) else None))
    by_test false e = nothing h c m s
    by_test true e =
        let sent : ℕ = m.facts.recorded.sent in
        let l : Lives m = lives m e in
        one h c m (live (payloads_from seen (sent + 1) most) now) s (record {
          may_call = (s.done, below most sent (length (payloads_from seen (sent + 1) most)) (length seen.made) (length h) (count_from seen (sent + 1) most) (prefix_length seen.made h p) (steady_sent h c m s) few);
          comes = record {
            is_open = is_open h c m s l.goes;
            established = l.established;
            flow = l.present;
            free = l.free;
            entries = entries_from h seen (sent + 1) most (omega arith) p;
          };
        }) s.done
