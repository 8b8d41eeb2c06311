-- Entries that are cut into datagrams are what a world writes.
use Rattle.std.proofs.Common.{◌≡◌, ℕ, zero, suc, ◌+◌, ◌-◌, ◌*◌, ◌≤◌, min, nat_lt, nat_le, Bool, true, false, if◌then◌else◌, List, [], ◌∷◌, ◌++◌, map, length, take, drop, refl, sym, ap, subst, ◌∙◌, arith, append_assoc, append-nil, length-append, length-drop, ◌<◌, slice_get, Some}
use Rattle.std.proofs.lemmas.Bool.Decides.{nat_tests}
use Rattle.std.proofs.lemmas.List.{take_all, length-map}
use Rattle.std.proofs.Math.Nat.{div-mul-le_self, mul-le-mul_right}
use Rattle.std.specs.List.{AllByRecursion}
use Rattle.session_model.specs.Journal.{Entry, payloads, counts_from}
use Rattle.fixp_datagram.specs.Datagrams.{Contents}
use Rattle.fixp_datagram.specs.Packing.{cut_count, cut_at, cut}
use Rattle.fixp_datagram.specs.World.{World, Event, write, begun, entries_from, are_entries, happens, run, accepts, writes, places_of, delivers}
use Rattle.fixp_datagram.specs.Laws.{CutIsWritten, CutIsDelivered}
use Rattle.fixp_datagram.proofs.Called.{deliveries_are_events}

run-append : (first second : List Event) (w : World) → run (first ++ second) w ≡ run second (run first w)
run-append [] second w = refl
run-append (e ∷ first) second w = run-append first second (happens w e)

-- entries for which there is room
run_accepts : (h : List Entry) (w : World) → length w.history + length h ≤ w.most → run (accepts h) w ≡ record w { history = w.history ++ h }
run_accepts [] w room = ap (λ es. record w { history = es }) (sym (append-nil w.history))
run_accepts (e ∷ h) w room =
    let next : World = record w { history = w.history ++ e ∷ [] } in
    let there : nat_lt (length w.history) w.most ≡ true = grind (arith, nat_tests) in
    ap (λ (b : Bool). run (accepts h) (if b then next else w)) there
    ∙ (run_accepts h next (omega (arith, room, length-append w.history (e ∷ [])))
    ∙ ap (λ es. record w { history = es }) (append_assoc w.history (e ∷ []) h))

-- a datagram of so many entries as there are
same_taken : (per : ℕ) (xs : List (List ℕ)) → take (min per (length xs)) xs ≡ take per xs
same_taken per xs = by_test (nat_le per (length xs)) refl
  where
    by_test : (b : Bool) → nat_le per (length xs) ≡ b → take (min per (length xs)) xs ≡ take per xs
    by_test true t =
        let least : min per (length xs) ≡ per = grind (arith, nat_tests) in
        ap (λ n. take n xs) least
    by_test false t =
        let less : length xs ≤ per = grind (arith, nat_tests) in
        take_all (min per (length xs)) xs (omega (arith, less)) ∙ sym (take_all per xs less)

entries_cut : (per : ℕ) (h : List Entry) (x : ℕ) → entries_from h (1 + x) (min per (length h - x)) ≡ record { first = 1 + x; payloads = take per (drop x (payloads h)) }
entries_cut per h x =
    let left = drop x (payloads h) in
    let place : 1 + x - 1 ≡ x = omega arith in
    let len : length h - x ≡ length left = omega (arith, length-drop x (payloads h), length-map h (λ (e : Entry). e.payload)) in
    ap (λ k. record { first = 1 + x; payloads = take (min per (length h - x)) (drop k (payloads h)) }) place
    ∙ (ap (λ n. record { first = 1 + x; payloads = take (min per n) left }) len
    ∙ ap (λ ps. record { first = 1 + x; payloads = ps }) (same_taken per left))

there_are : (per : ℕ) (h : List Entry) (x : ℕ) → x ≤ length h → are_entries h (1 + x) (min per (length h - x)) ≡ true
there_are per h x within = grind (arith, nat_tests)

-- the writing of one
abbrev write_at : (per count k : ℕ) → Event
write_at per count k = write (1 + (k - 1) * per) (min per (count - (k - 1) * per))

-- one of them is written where its first entry is there, or is the one behind the last
write_one : (per k : ℕ) (w : World) → (k - 1) * per ≤ length w.history
    → happens w (write_at per (length w.history) k) ≡ record w { written = w.written ++ cut_at per (payloads w.history) k ∷ [] }
write_one per k w within =
    let x = (k - 1) * per in
    let count = min per (length w.history - x) in
    ap (λ (b : Bool). if b then record w { written = w.written ++ entries_from w.history (1 + x) count ∷ [] } else w) (there_are per w.history x within)
    ∙ ap (λ d. record w { written = w.written ++ d ∷ [] }) (entries_cut per w.history x)

-- so many from the k-th on, the last of which is there
run_writes : (per m k : ℕ) (w : World) → 1 ≤ k → (k + m - 2) * per ≤ length w.history
    → run (map (write_at per (length w.history)) (counts_from k m)) w
    ≡ record w { written = w.written ++ map (cut_at per (payloads w.history)) (counts_from k m) }
run_writes per zero k w least within = ap (λ ds. record w { written = ds }) (sym (append-nil w.written))
run_writes per (suc m) k w least within =
    let d = cut_at per (payloads w.history) k in
    let next : World = record w { written = w.written ++ d ∷ [] } in
    let place : k - 1 ≤ k + suc m - 2 = omega (arith, least) in
    let here : (k - 1) * per ≤ length w.history = omega (arith, within, mul-le-mul_right per place) in
    let same : k + 1 + m - 2 ≡ k + suc m - 2 = omega arith in
    let later : (k + 1 + m - 2) * per ≤ length w.history = subst (λ n. n * per ≤ length w.history) (sym same) within in
    ap (λ w'. run (map (write_at per (length w.history)) (counts_from (k + 1) m)) w') (write_one per k w here)
    ∙ (run_writes per m (k + 1) next (omega arith) later
    ∙ ap (λ ds. record w { written = ds }) (append_assoc w.written (d ∷ []) (map (cut_at per (payloads w.history)) (counts_from (k + 1) m))))

-- the last of them is there
last_there : (per n : ℕ) → 1 ≤ per → (1 + cut_count per n - 2) * per ≤ n
last_there per n one =
    let c = cut_count per n in
    let most : c * per ≤ n + (per - 1) = div-mul-le_self (n + (per - 1)) per in
    by_count c most
  where
    by_count : (c : ℕ) → c * per ≤ n + (per - 1) → (1 + c - 2) * per ≤ n
    by_count zero most = let none : 1 + 0 - 2 ≡ 0 = omega arith in omega (arith, ap (λ k. k * per) none)
    by_count (suc c) most =
        let before : 1 + suc c - 2 ≡ c = omega arith in
        let more : suc c * per ≡ c * per + per = grind arith in
        omega (arith, ap (λ k. k * per) before, most, more, one)

pub cut_is_written : CutIsWritten
cut_is_written flow most per h one room =
    let w : World = record (begun flow most) { history = h } in
    run-append (accepts h) (writes per (length h)) (begun flow most)
    ∙ (ap (λ w'. run (writes per (length h)) w') (run_accepts h (begun flow most) (omega (arith, room)))
    ∙ (run_writes per (cut_count per (length h)) 1 w (omega arith) (last_there per (length h) one)
    ∙ ap (λ n. record w { written = map (cut_at per (payloads h)) (counts_from 1 (cut_count per n)) }) (sym (length-map h (λ (e : Entry). e.payload)))))

-- the one with a number stands at the place before it
get_counts : (f : ℕ → Contents) (m c j : ℕ) → j < c → slice_get (map f (counts_from m c)) j ≡ Some (f (m + j))
get_counts f m zero j h = absurd (omega arith)
get_counts f m (suc c) zero h = let same : m ≡ m + 0 = omega arith in ap (λ n. Some (f n)) same
get_counts f m (suc c) (suc j) h =
    let same : m + 1 + j ≡ m + suc j = omega arith in
    get_counts f (m + 1) c j (omega arith) ∙ ap (λ n. Some (f n)) same

stand_there : (per : ℕ) (h : List Entry) (ks : List ℕ) → AllByRecursion (λ k. (1 ≤ k) × (k ≤ cut_count per (length h))) ks
    → map (slice_get (cut per (payloads h))) (places_of ks) ≡ map Some (map (cut_at per (payloads h)) ks)
stand_there per h [] all = refl
stand_there per h (k ∷ ks) all =
    let f = cut_at per (payloads h) in
    let len : length (payloads h) ≡ length h = length-map h (λ (e : Entry). e.payload) in
    let number : 1 + (k - 1) ≡ k = omega (arith, all.0.0) in
    let within : k - 1 < cut_count per (length h) = omega (arith, all.0.0, all.0.1) in
    let here : slice_get (cut per (payloads h)) (k - 1) ≡ Some (f k) =
    ap (λ n. slice_get (map f (counts_from 1 (cut_count per n))) (k - 1)) len
    ∙ (get_counts f 1 (cut_count per (length h)) (k - 1) within ∙ ap (λ n. Some (f n)) number) in
    ap (λ o. o ∷ map (slice_get (cut per (payloads h))) (places_of ks)) here
    ∙ ap (λ os. Some (f k) ∷ os) (stand_there per h ks all.1)

pub cut_is_delivered : CutIsDelivered
cut_is_delivered flow most per h ks one room all =
    let w : World = record (begun flow most) { history = h; written = cut per (payloads h) } in
    let ds = map (cut_at per (payloads h)) ks in
    let same : run (accepts h ++ writes per (length h) ++ delivers ks) (begun flow most) ≡ run (delivers ks) w =
    run-append (accepts h ++ writes per (length h)) (delivers ks) (begun flow most)
    ∙ ap (λ w'. run (delivers ks) w') (cut_is_written flow most per h one room) in
    let told = deliveries_are_events w (places_of ks) ds (stand_there per h ks all) in
    record {
      receiver = ap (λ (x : World). x.receiver) same ∙ told.receiver;
      inbox = ap (λ (x : World). x.inbox) same ∙ told.inbox;
      delivered = ap (λ (x : World). x.delivered) same ∙ told.delivered;
    }
