-- The lines of a script, by the receiver alone, are those of the world.
use Rattle.std.proofs.Common.{◌≡◌, ℕ, ◌+◌, ◌-◌, ◌*◌, min, ◌≤◌, codes, List, [], ◌∷◌, ◌++◌, length, map, Option, Some, None, refl, ap, sym, subst, ◌∙◌, arith, append_assoc, append-nil}
use Rattle.std.proofs.lemmas.List.{length-map}
use Rattle.std.specs.List.{flat_map, slice_get, AllByRecursion}
use Rattle.session_model.specs.Journal.{Entry, payloads, counts_from}
use Rattle.session_model.proofs.Lists.{length-counts_from}
use Rattle.fixp_datagram.specs.Datagrams.{Contents}
use Rattle.fixp_datagram.specs.Packing.{cut_at, cut_count, cut}
use Rattle.fixp_datagram.specs.Receiving.{Receiver, fresh, ask}
use Rattle.fixp_datagram.specs.Delivering.{Delivery, reports, received, deliveries, received_all}
use Rattle.fixp_datagram.specs.World.{World, Event, accept, write, accepts, writes, delivers, delivered_to, happens, run}
use Rattle.fixp_datagram.specs.Laws.{CutIsWritten}
use Rattle.cmd_datagram.specs.declared.script.Script.{Script}
use Rattle.cmd_datagram.specs.Script.{IsNumberOf, IsScript}
use Rattle.cmd_datagram.specs.Messages.{payload_of, entry_of, entries, most, begins}
use Rattle.cmd_datagram.specs.Lines.{delivery_lines, lines_at, event_lines, run_lines, script_lines, number_line}
use Rattle.cmd_datagram.specs.Delivered.{payloads_of, delivered, received_lines, delivered_lines}
use Rattle.cmd_datagram.proofs.Listed.{cut_has}
use Rattle.cmd_datagram.proofs.Payloads.{length-payloads_of}

-- what is accepted or written prints nothing
accepts_quiet : (w : World) (h : List Entry) (es : List Event) → run_lines w (accepts h ++ es) ≡ run_lines (run (accepts h) w) es
accepts_quiet w [] es = refl
accepts_quiet w (e ∷ h) es = accepts_quiet (happens w (accept e)) h es

writes_quiet : (first count : ℕ → ℕ) (w : World) (ks : List ℕ) (es : List Event)
    → run_lines w (map (λ k. write (first k) (count k)) ks ++ es) ≡ run_lines (run (map (λ k. write (first k) (count k)) ks) w) es
writes_quiet first count w [] es = refl
writes_quiet first count w (k ∷ ks) es = writes_quiet first count (happens w (write (first k) (count k))) ks es

run_both : (w : World) (es fs : List Event) → run (es ++ fs) w ≡ run fs (run es w)
run_both w [] fs = refl
run_both w (e ∷ es) fs = run_both (happens w e) es fs

-- deliveries of datagrams that were written print what the receiver makes of them
delivers_lines : (per : ℕ) (ps : List (List ℕ)) (w : World) (ks : List ℕ) → w.written ≡ cut per ps → AllByRecursion (IsNumberOf (cut_count per (length ps))) ks
    → run_lines w (delivers ks) ≡ received_lines w.receiver (map (cut_at per ps) ks)
delivers_lines per ps w [] same all = refl
delivers_lines per ps w (k ∷ ks) same all =
    let found : slice_get w.written (k - 1) ≡ Some (cut_at per ps k) = ap (λ (ds : List Contents). slice_get ds (k - 1)) same ∙ cut_has per ps k all.0.0 all.0.1 in
    let d : Contents = cut_at per ps k in
    let ds : List Contents = map (cut_at per ps) ks in
    let r : Receiver = received w.receiver d in
    ap (λ (o : Option Contents). lines_at w.receiver o ++ run_lines (delivered_to w o) (delivers ks)) found
    ∙ (ap (λ (xs : List ℕ). lines_at w.receiver (Some d) ++ xs) (delivers_lines per ps (delivered_to w (Some d)) ks same all.1)
    ∙ sym (append_assoc (lines_at w.receiver (Some d)) (flat_map delivery_lines (deliveries r ds)) (number_line (codes "next ") (received_all r ds).next)))

length-entries : (m : ℕ) → length (entries m) ≡ m
length-entries m = length-map (counts_from 1 m) entry_of ∙ length-counts_from 1 m

spelled_by : (ks : List ℕ) → payloads (map entry_of ks) ≡ map payload_of ks
spelled_by [] = refl
spelled_by (k ∷ ks) = ap (λ (xs : List (List ℕ)). payload_of k ∷ xs) (spelled_by ks)

-- a world in which all is accepted and written
all_written : Script → World
all_written s = record (begins s) { history = entries s.messages; written = cut s.per (payloads_of s.messages) }

is_written : CutIsWritten → (s : Script) → IsScript s → run (writes s.per s.messages) (run (accepts (entries s.messages)) (begins s)) ≡ all_written s
unfolding all_written
is_written law s is =
    let h : List Entry = entries s.messages in
    sym (run_both (begins s) (accepts h) (writes s.per s.messages))
    ∙ (ap (λ (n : ℕ). run (accepts h ++ writes s.per n) (begins s)) (sym (length-entries s.messages))
    ∙ (law s.flow most s.per h is.per.0 (omega (arith, length-entries s.messages, is.messages))
    ∙ ap (λ (ps : List (List ℕ)). record (begins s) { history = h; written = cut s.per ps }) (spelled_by (counts_from 1 s.messages))))

pub lines_are : CutIsWritten → (s : Script) → IsScript s → delivered_lines s ≡ script_lines s
unfolding all_written
lines_are law s is =
    let ps : List (List ℕ) = payloads_of s.messages in
    let first : ℕ → ℕ = λ k. 1 + (k - 1) * s.per in
    let count : ℕ → ℕ = λ k. min s.per (s.messages - (k - 1) * s.per) in
    let all : AllByRecursion (IsNumberOf (cut_count s.per (length ps))) s.deliver =
    subst (λ (n : ℕ). AllByRecursion (IsNumberOf (cut_count s.per n)) s.deliver) (sym (length-payloads_of s.messages)) is.deliver in
    sym (ap (run_lines (begins s)) (append_assoc (accepts (entries s.messages)) (writes s.per s.messages) (delivers s.deliver))
    ∙ (accepts_quiet (begins s) (entries s.messages) (writes s.per s.messages ++ delivers s.deliver)
    ∙ (writes_quiet first count (run (accepts (entries s.messages)) (begins s)) (counts_from 1 (cut_count s.per s.messages)) (delivers s.deliver)
    ∙ (ap (λ (w : World). run_lines w (delivers s.deliver)) (is_written law s is)
    ∙ delivers_lines s.per ps (all_written s) s.deliver refl all))))
