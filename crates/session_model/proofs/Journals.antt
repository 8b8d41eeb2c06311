-- Journals grow, and their entries stay.
use Rattle.std.proofs.Common.{◌≡◌, ℕ, suc, ◌-◌, ◌≤◌, List, [], ◌∷◌, ◌++◌, length, refl, sym, ap, ◌∙◌, arith}
use Rattle.std.proofs.lemmas.Option.{slice_get_within}
use mathlib.Core.List.{IsPrefix}
use Rattle.session_model.specs.Journal.{Entry, IsEntry, payloads, entries_of, OutboxRecord, entry, finish, entries}
use Rattle.session_model.proofs.Lists.{prefix_map, prefix_get, prefix_filter}

pub entry_stays : (h longer : List Entry) (n : ℕ) (p : List ℕ) → IsPrefix h longer → IsEntry h n p → IsEntry longer n p
entry_stays h longer n p begins e = record { from_one = e.from_one; found = prefix_get (payloads h) (payloads longer) (n - 1) p (prefix_map (λ (e : Entry). e.payload) h longer begins) e.found }

pub length-payloads : (h : List Entry) → length (payloads h) ≡ length h
length-payloads [] = refl
length-payloads (e ∷ h) = ap suc (length-payloads h)

pub entry_within : (h : List Entry) (n : ℕ) (p : List ℕ) → IsEntry h n p → n ≤ length h
entry_within h n p e = omega (arith, slice_get_within (payloads h) (n - 1) p e.found, length-payloads h, e.from_one)

pub entries-append : (first second : List OutboxRecord) → entries (first ++ second) ≡ entries first ++ entries second
entries-append [] second = refl
entries-append (entry e ∷ first) second = ap (λ h. e ∷ h) (entries-append first second)
entries-append (finish ∷ first) second = entries-append first second

pub prefix_entries : (first second : List OutboxRecord) → IsPrefix first second → IsPrefix (entries first) (entries second)
prefix_entries first second p = (entries p.0, sym (entries-append first p.0) ∙ ap (λ r. entries r) p.1)

pub prefix_entries_of : (h longer : List Entry) (s : ℕ) → IsPrefix h longer → IsPrefix (entries_of h s) (entries_of longer s)
prefix_entries_of h longer s p = prefix_filter _ h longer p
