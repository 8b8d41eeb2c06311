-- The plain inbox: one more record, and one more event.
use Rattle.std.proofs.Common.{◌≡◌, ℕ, zero, suc, ◌+◌, ◌-◌, ◌<◌, ◌≤◌, max, List, [], ◌∷◌, ◌++◌, take, drop, length, get_or, slice_get, Option, None, Some, IfSome, unwrap_or, option_to_list, option_map, append-nil, append_assoc, sym, ap, subst, ◌∙◌, arith, take-append-drop, Bool, IsTrue, bytes_eq}
use Rattle.std.proofs.lemmas.List.{map-append, take_more}
use Rattle.std.proofs.lemmas.Slice.Eq.{bytes_eq-Decides}
use Rattle.std.proofs.lemmas.Option.{slice_get-map, slice_get-get_or}
use Rattle.session_model.specs.Journal
use Rattle.session_model.specs.Journal.{counts_from}
use Rattle.session_model.specs.Inbox.{InboxRecord, next_number, past_greatest, settled}
use Rattle.session_model.specs.Events
use Rattle.session_model.specs.Events.{standing}
use Rattle.session_model.specs.Growth.{NeverBack, Grown}
use Rattle.session_model.specs.Views.{event_of, events_of, entry_of, journal_of, record_of, records_of, flow_of, first_in, end_of, MayGrow}
use Rattle.session_model.specs.declared.event.Entry.{Entry}
use Rattle.session_model.specs.declared.event.Event.{Event}
use Rattle.session_model.specs.declared.event.Range.{Range}
use Rattle.session_model.specs.declared.event.Record.{Record}
use Rattle.session_model.specs.declared.event.Record.TheVariants.{Apply, Skip}
use Rattle.session_model.specs.declared.event.Flow.{Flow}
use Rattle.session_model.specs.declared.event.Flow.TheVariants.{Recoverable, Idempotent, Unsequenced, NoFlow}
use Rattle.session_model.proofs.Lists.{past_greatest-pos, past_greatest-counts_from}
use Rattle.session_model.proofs.Inboxes.{next_number-append}
use Rattle.session_model.proofs.Idempotent.{settled_by, back_same, back_first, back_second, back-append, unwrap_twice}
use Rattle.session_model.proofs.Truth.{true_splits, true_first, true_second}
use Rattle.session_model.proofs.Through.{growth_goes_on}
use Rattle.session_model.proofs.Steps.{events_more}

records-push : (rs : List Record) (r : Record) → records_of (rs ++ r ∷ []) ≡ records_of rs ++ record_of r ∷ []
records-push rs r = map-append record_of rs (r ∷ [])

-- a record that begins with the number waited for leads to the one past its end
next_pushed : (inbox : List InboxRecord) (r : Record) → first_in r ≡ next_number inbox → next_number (inbox ++ record_of r ∷ []) ≡ end_of r
next_pushed inbox (Apply m) e = omega (arith, next_number-append inbox (record_of (Apply m) ∷ []), e, past_greatest-pos (settled inbox))
next_pushed inbox (Skip r) e =
    let own : settled (record_of (Skip r) ∷ []) ≡ counts_from r.first r.count = append-nil (counts_from r.first r.count) in
    omega (arith, next_number-append inbox (record_of (Skip r) ∷ []), ap (λ ns. past_greatest ns) own, past_greatest-counts_from r.first r.count (omega (arith, past_greatest-pos (settled inbox), e)), e)

pub next_after_push : (rs new : List Record) (r : Record) → first_in r ≡ next_number (records_of rs) → new ≡ rs ++ r ∷ [] → end_of r ≡ next_number (records_of new)
next_after_push rs new r e push = sym (ap (λ xs. next_number (records_of xs)) push ∙ (ap (λ i. next_number i) (records-push rs r) ∙ next_pushed (records_of rs) r e))

-- the event at i, and those behind it
events_from : (es : List Event) (i : ℕ) (d : Event) → i < length es → events_of es ≡ events_of (take i es) ++ (event_of (get_or es i d) ∷ [] ++ events_of (drop (i + 1) es))
events_from es i d h =
    ap (λ xs. events_of xs) (sym (take-append-drop (i + 1) es)) ∙ (map-append event_of (take (i + 1) es) (drop (i + 1) es)
    ∙ (ap (λ xs. xs ++ events_of (drop (i + 1) es)) (events_more es i d h) ∙ append_assoc (events_of (take i es)) (event_of (get_or es i d) ∷ []) (events_of (drop (i + 1) es))))

agrees_still : (c : Option ℕ) (next now : ℕ) → now ≡ unwrap_or c next → IfSome c (λ n. n ≡ now)
agrees_still None next now e = tt
agrees_still (Some n) next now e = sym e

-- what was asked of all events is asked of the next one
pub may_grow_here : (flow : Flow) (before now : List InboxRecord) (es : List Event) (i : ℕ) (d : Event) → i < length es
    → MayGrow flow (next_number before) None (events_of es) → Grown (flow_of flow) None (events_of (take i es)) before now
    → MayGrow flow (next_number now) (standing None (events_of (take i es))) (event_of (get_or es i d) ∷ [])
may_grow_here Recoverable before now es i d h m g = tt
may_grow_here Unsequenced before now es i d h m g = tt
may_grow_here NoFlow before now es i d h m g = tt
may_grow_here Idempotent before now es i d h m g =
    let first = events_of (take i es) in
    let e = event_of (get_or es i d) in
    let later = events_of (drop (i + 1) es) in
    let b = next_number before in
    let s = standing None first in
    let all = settled_by None first before now g in
    let reached : next_number now ≡ unwrap_or s b = omega (arith, all.next, all.reached) in
    let whole : NeverBack b None (first ++ (e ∷ [] ++ later)) = subst (λ xs. NeverBack b None xs) (events_from es i d h) m.1 in (
      agrees_still s b (next_number now) reached,
      back_first (next_number now) s (e ∷ []) later
          (back_same b (next_number now) s (e ∷ [] ++ later) (sym (unwrap_twice s b (next_number now) reached)) (back_second b None first (e ∷ [] ++ later) whole)),
    )

-- growth over one more event
pub grown_more : (flow : Flow) (before : List InboxRecord) (now new : List Record) (added : Option Record) (es : List Event) (i : ℕ) (d : Event) (s : Option ℕ) → i < length es
    → Grown (flow_of flow) None (events_of (take i es)) before (records_of now) → s ≡ standing None (events_of (take i es))
    → Grown (flow_of flow) s (event_of (get_or es i d) ∷ []) (records_of now) (records_of now ++ option_to_list (option_map record_of added))
    → new ≡ now ++ option_to_list added → Grown (flow_of flow) None (events_of (take (i + 1) es)) before (records_of new)
grown_more flow before now new added es i d s h g stands step pushed =
    let first = events_of (take i es) in
    let e = event_of (get_or es i d) in
    let after : records_of now ++ option_to_list (option_map record_of added) ≡ records_of new = sym (ap (λ xs. records_of xs) pushed ∙ both added) in
    let here : Grown (flow_of flow) (standing None first) (e ∷ []) (records_of now) (records_of new) =
    subst (λ c. Grown (flow_of flow) c (e ∷ []) (records_of now) (records_of new)) stands (subst (λ x. Grown (flow_of flow) s (e ∷ []) (records_of now) x) after step) in
    subst (λ xs. Grown (flow_of flow) None xs before (records_of new)) (sym (events_more es i d h))
    (growth_goes_on (flow_of flow) None first (e ∷ []) before (records_of now) (records_of new) g here)
  where
    both : (r : Option Record) → records_of (now ++ option_to_list r) ≡ records_of now ++ option_to_list (option_map record_of r)
    both None = map-append record_of now []
    both (Some r) = records-push now r

-- whether announcements go back, over one more event and over all
pub never_back_more : (next : ℕ) (s : Option ℕ) (es : List Event) (i : ℕ) (d : Event) → i < length es → NeverBack next None (events_of (take i es))
    → s ≡ standing None (events_of (take i es)) → NeverBack next s (event_of (get_or es i d) ∷ []) → NeverBack next None (events_of (take (i + 1) es))
never_back_more next s es i d h so_far stands here =
    let e = event_of (get_or es i d) in
    subst (λ xs. NeverBack next None xs) (sym (events_more es i d h))
    (back-append next None (events_of (take i es)) (e ∷ []) so_far (subst (λ c. NeverBack next c (e ∷ [])) stands here))

pub never_back_here : (next : ℕ) (s : Option ℕ) (es : List Event) (i : ℕ) (d : Event) → i < length es → s ≡ standing None (events_of (take i es))
    → NeverBack next None (events_of es) → NeverBack next s (event_of (get_or es i d) ∷ [])
never_back_here next s es i d h stands all =
    let first = events_of (take i es) in
    let e = event_of (get_or es i d) in
    let later = events_of (drop (i + 1) es) in
    subst (λ c. NeverBack next c (e ∷ [])) (sym stands)
    (back_first next (standing None first) (e ∷ []) later
    (back_second next None first (e ∷ [] ++ later) (subst (λ xs. NeverBack next None xs) (events_from es i d h) all)))

-- whether events are true of a journal, over one more event and over all
pub true_more : (h : List Journal.Entry) (s : Option ℕ) (es : List Event) (i : ℕ) (d : Event) → i < length es → Events.TrueOfJournal h None (events_of (take i es))
    → s ≡ standing None (events_of (take i es)) → Events.TrueOfJournal h s (event_of (get_or es i d) ∷ []) → Events.TrueOfJournal h None (events_of (take (i + 1) es))
true_more h s es i d l so_far stands here =
    let e = event_of (get_or es i d) in
    subst (λ xs. Events.TrueOfJournal h None xs) (sym (events_more es i d l))
    ((true_splits h None (events_of (take i es)) (e ∷ [])).1 (so_far, subst (λ c. Events.TrueOfJournal h c (e ∷ [])) stands here))

pub true_here : (h : List Journal.Entry) (s : Option ℕ) (es : List Event) (i : ℕ) (d : Event) → i < length es → s ≡ standing None (events_of (take i es))
    → Events.TrueOfJournal h None (events_of es) → Events.TrueOfJournal h s (event_of (get_or es i d) ∷ [])
true_here h s es i d l stands all =
    let first = events_of (take i es) in
    let e = event_of (get_or es i d) in
    let later = events_of (drop (i + 1) es) in
    subst (λ c. Events.TrueOfJournal h c (e ∷ [])) (sym stands)
    (true_first h (standing None first) (e ∷ []) later
    (true_second h None first (e ∷ [] ++ later) (subst (λ xs. Events.TrueOfJournal h None xs) (events_from es i d l) all)))

-- the payload that stands under a number within the journal
pub entry_found : (h : List Entry) (n : ℕ) (d : Entry) → 1 ≤ n → n ≤ length h → slice_get (Journal.payloads (journal_of h)) (n - 1) ≡ Some ((get_or h (n - 1) d).payload.now)
entry_found h n d low high =
    let within : n - 1 < length h = omega arith in
    slice_get-map (λ (e : Journal.Entry). e.payload) (journal_of h) (n - 1)
    ∙ ap (λ o. option_map (λ (e : Journal.Entry). e.payload) o) (slice_get-map entry_of h (n - 1) ∙ ap (λ o. option_map entry_of o) (slice_get-get_or h (n - 1) d within))

-- a comparison with the payload that stands there decides what the entry is
pub entry_decided : (h : List Entry) (n : ℕ) (d : Entry) (p : List ℕ) (r : Bool) → 1 ≤ n → n ≤ length h → r ≡ bytes_eq ((get_or h (n - 1) d).payload.now) p
    → (IsTrue r → Journal.IsEntry (journal_of h) n p) × (Journal.IsEntry (journal_of h) n p → IsTrue r)
entry_decided h n d p r low high e =
    let here = entry_found h n d low high in
    let decides = bytes_eq-Decides ((get_or h (n - 1) d).payload.now) p in (
      (λ t. record { from_one = low; found = here ∙ ap Some (decides.0 (sym e ∙ t)) }),
      λ is. e ∙ decides.1 (cc (here, is.found)),
    )

-- one past a range that is not empty
pub next_of_range : (r : Range) → 1 ≤ r.count → next_number (record_of (Skip r) ∷ []) ≡ r.first + r.count
next_of_range r some = ap (λ ns. past_greatest ns) (append-nil (counts_from r.first r.count)) ∙ past r.first r.count some
  where
    past : (f k : ℕ) → 1 ≤ k → past_greatest (counts_from f k) ≡ f + k
    past f zero h = absurd (omega arith)
    past f (suc k) h = omega (arith, past_greatest-counts_from (f + 1) k (omega arith))

-- what an inbox waits for over one more record, and over all of which one is a part
pub next_more : (rs : List Record) (i : ℕ) (d : Record) → i < length rs
    → next_number (records_of (take (i + 1) rs)) ≡ max (next_number (records_of (take i rs))) (next_number (record_of (get_or rs i d) ∷ []))
next_more rs i d h =
    ap (λ xs. next_number (records_of xs)) (take_more rs i d h)
    ∙ (ap (λ x. next_number x) (records-push (take i rs) (get_or rs i d)) ∙ next_number-append (records_of (take i rs)) (record_of (get_or rs i d) ∷ []))

pub next_within : (rs : List Record) (i : ℕ) (d : Record) → i < length rs → next_number (record_of (get_or rs i d) ∷ []) ≤ next_number (records_of rs)
next_within rs i d h =
    let parts : next_number (records_of rs) ≡ max (next_number (records_of (take (i + 1) rs))) (next_number (records_of (drop (i + 1) rs))) =
    ap (λ xs. next_number (records_of xs)) (sym (take-append-drop (i + 1) rs))
    ∙ (ap (λ x. next_number x) (map-append record_of (take (i + 1) rs) (drop (i + 1) rs)) ∙ next_number-append (records_of (take (i + 1) rs)) (records_of (drop (i + 1) rs))) in
    omega (arith, parts, next_more rs i d h)
