-- Writing into the room behind the bytes that are held.
use Rattle.std.proofs.Common.{◌≡◌, ℕ, ◌+◌, ◌-◌, ◌≤◌, zero, suc, List, [], ◌∷◌, ◌++◌, length, take, drop, refl, sym, ◌∙◌, ap, append_assoc, arith}
use Rattle.std.proofs.lemmas.List.{take-append-drop, length-append, length-take, length-drop, drop-append-le, take-append-le, take-take, drop-take, drop-drop}
use Rattle.std.specs.List.{slice_range}
use Rattle.std.proofs.lemmas.Bool.Decides.{nat_tests}
use Rattle.std.proofs.Math.Seq.{drop-append_seam, take-append_seam}
use Rattle.sofh_frame.specs.Buffered.{Buffered, buffered, written_over, IsPlaced}

-- what is written over a list, as far as some of its elements: the rest of the list plays no part
take-written : (n : ℕ) (bytes items : List ℕ) → take n (bytes ++ drop (length bytes) items) ≡ take n (bytes ++ drop (length bytes) (take n items))
take-written zero bytes items = refl
take-written (suc n) [] items = sym (take-take (suc n) (suc n) items (omega arith))
take-written (suc n) (b ∷ bytes) [] = refl
take-written (suc n) (b ∷ bytes) (x ∷ items) = ap (λ (xs : List ℕ). b ∷ xs) (take-written n bytes items)

-- what stands before a place stays, whatever comes behind it
front-kept : (items behind : List ℕ) (start end : ℕ) → start ≤ end → end ≤ length items → slice_range (take end items ++ behind) start end ≡ slice_range (take end items) start end
front-kept items behind start end ordered within =
    let long : length (take end items) ≡ end = simp length-take (omega arith) in
    let left : length (drop start (take end items)) ≡ end - start = simp (length-drop, length-take) (omega arith) in
    ap (take (end - start)) (drop-append-le start (take end items) behind (omega (arith, long)))
    ∙ take-append-le (end - start) (drop start (take end items)) behind (omega (arith, left))

held-written : (items bytes : List ℕ) (start end : ℕ) → start ≤ end → end ≤ length items → slice_range (take end items ++ bytes) start end ≡ slice_range items start end
held-written items bytes start end ordered within =
    front-kept items bytes start end ordered within
    ∙ sym (ap (λ (xs : List ℕ). slice_range xs start end) (sym (take-append-drop end items)) ∙ front-kept items (drop end items) start end ordered within)

-- bytes that are cut or filled up to a length, also where they have it
written_over-cut : (room bytes : List ℕ) → take (length room) (bytes ++ drop (length bytes) room) ≡ written_over room bytes
written_over-cut room bytes =
    let same : length bytes ≡ length room → take (length room) (bytes ++ drop (length bytes) room) ≡ bytes =
    λ e. ap (λ (n : ℕ). take n (bytes ++ drop (length bytes) room)) (sym e) ∙ take-append_seam bytes (drop (length bytes) room) in
    grind (arith, nat_tests)

room-written : (items bytes more : List ℕ) (end stop : ℕ) → end ≤ stop → stop ≤ length items → slice_range (take end items ++ ((bytes ++ drop (length bytes) (drop end items)) ++ more)) end stop ≡ written_over (slice_range items end stop) bytes
room-written items bytes more end stop ordered within =
    let long : length (take end items) ≡ end = simp length-take (omega arith) in
    let room : length (slice_range items end stop) ≡ stop - end = simp (length-take, length-drop) (omega arith) in
    let written = bytes ++ drop (length bytes) (drop end items) in
    let enough : stop - end ≤ length written = omega (arith, length-append bytes (drop (length bytes) (drop end items)), length-drop (length bytes) (drop end items), length-drop end items) in
    let at_room : drop end (take end items ++ (written ++ more)) ≡ written ++ more = ap (λ (n : ℕ). drop n (take end items ++ (written ++ more))) (sym long) ∙ drop-append_seam (take end items) (written ++ more) in
    ap (take (stop - end)) at_room
    ∙ take-append-le (stop - end) written more enough
    ∙ take-written (stop - end) bytes (drop end items)
    ∙ ap (λ (n : ℕ). take n (bytes ++ drop (length bytes) (slice_range items end stop))) (sym room)
    ∙ written_over-cut (slice_range items end stop) bytes

-- a cut behind a range leaves the range
slice_range-take : (items : List ℕ) (n start end : ℕ) → start ≤ end → end ≤ n → slice_range (take n items) start end ≡ slice_range items start end
slice_range-take items n start end ordered within =
    let apart : n ≡ start + (n - start) = omega arith in
    ap (λ (k : ℕ). slice_range (take k items) start end) apart
    ∙ ap (take (end - start)) (drop-take start (n - start) items)
    ∙ take-take (end - start) (n - start) (drop start items) (omega arith)

-- a framer whose room is written keeps what it holds
pub buffered-written : (items bytes : List ℕ) (len start end : ℕ) → len ≡ length items → IsPlaced start end len →
    let written = take end items ++ (bytes ++ drop (length bytes) (drop end items)) in
    let old = buffered items start end in
    buffered (take len (written ++ drop (length written) items)) start end ≡ record old { room = written_over old.room bytes }
buffered-written items bytes len start end counted placed =
    let stop = start + 32780 in
    let behind = bytes ++ drop (length bytes) (drop end items) in
    let written = take end items ++ behind in
    let more = drop (length written) items in
    let all = take len (written ++ more) in
    let joined : written ++ more ≡ take end items ++ (behind ++ more) = append_assoc (take end items) behind more in
    let within : stop ≤ length items = omega (arith, placed.front, placed.whole) in
    let held : slice_range all start end ≡ slice_range items start end =
    slice_range-take (written ++ more) len start end placed.ordered (omega (arith, placed.short))
    ∙ ap (λ (xs : List ℕ). slice_range xs start end) joined
    ∙ held-written items (behind ++ more) start end placed.ordered (omega (arith, placed.short)) in
    let room : slice_range all end stop ≡ written_over (slice_range items end stop) bytes =
    slice_range-take (written ++ more) len end stop placed.short (omega arith)
    ∙ ap (λ (xs : List ℕ). slice_range xs end stop) joined
    ∙ room-written items bytes more end stop placed.short within in
    ap (λ (xs : List ℕ). let b : Buffered = record { held = xs; room = slice_range all end stop } in b) held
    ∙ ap (λ (xs : List ℕ). let b : Buffered = record { held = slice_range items start end; room = xs } in b) room

-- a range without its first elements
pub slice_range-drop : (items : List ℕ) (n start end : ℕ) → start + n ≤ end → slice_range items (start + n) end ≡ drop n (slice_range items start end)
slice_range-drop items n start end within =
    let apart : end - start ≡ n + (end - (start + n)) = omega arith in
    sym (ap (λ (k : ℕ). drop n (take k (drop start items))) apart
    ∙ drop-take n (end - (start + n)) (drop start items)
    ∙ ap (take (end - (start + n))) (drop-drop n start items))

length-slice_range : (items : List ℕ) (start end : ℕ) → end ≤ length items → length (slice_range items start end) ≡ end - start
length-slice_range items start end within = simp (length-take, length-drop) (omega arith)

-- how much is held, and how much room there is
pub length-held : (items : List ℕ) (b : Buffered) (len start end : ℕ) → len ≡ length items → IsPlaced start end len → buffered items start end ≡ b → length b.held ≡ end - start
length-held items b len start end counted placed view_is =
    ap (λ (c : Buffered). length c.held) (sym view_is) ∙ length-slice_range items start end (omega (arith, placed.short, placed.front, placed.whole))

pub length-room : (items : List ℕ) (b : Buffered) (len start end : ℕ) → len ≡ length items → IsPlaced start end len → buffered items start end ≡ b → length b.room ≡ start + 32780 - end
length-room items b len start end counted placed view_is =
    ap (λ (c : Buffered). length c.room) (sym view_is) ∙ length-slice_range items end (start + 32780) (omega (arith, placed.front, placed.whole))

-- what stands behind the bytes held is the room
pub room-buffered : (items bytes : List ℕ) (b : Buffered) (start end : ℕ) → bytes ≡ slice_range items end (start + 32780) → buffered items start end ≡ b → bytes ≡ b.room
room-buffered items bytes b start end bytes_are view_is = bytes_are ∙ ap (λ (c : Buffered). c.room) view_is
