-- The bytes of the items and the data that are read so far, and those of what is left.
use Rattle.std.proofs.Common.{◌≡◌, ℕ, suc, ◌+◌, ◌-◌, ◌<◌, ◌≤◌, Option, Some, None, Ok, Err, List, [], ◌∷◌, ◌++◌, length, replicate, drop, get_or, refl, ap, sym, ◌∙◌, arith, add-one, drop-cons, append_assoc, append-nil}
use Rattle.std.specs.Prelude.{max}
use Rattle.std.proofs.Math.ListN.{drop_of_length-le}
use Rattle.std.proofs.lemmas.List.{length-append, length-replicate}
use Rattle.sbe_prim.specs.declared.Order.{Order}
use Rattle.sbe_value.specs.declared.item.Item.{Item}
use Rattle.sbe_value.specs.declared.datum.Datum.{Datum}
use Rattle.sbe_value.specs.declared.datum.Datum.TheVariants as datum
use Rattle.sbe_layout.specs.declared.items.ItemPlan.{ItemPlan}
use Rattle.sbe_layout.specs.declared.items.DataPlan.{DataPlan}
use Rattle.sbe_layout.specs.declared.listings.Listing.{Listing}
use Rattle.sbe_grammar.specs.Canonical.{zeros, item_bytes, block_bytes, count_bytes, data_bytes}
use Rattle.sbe_encode.specs.declared.fault.EncodeFault.{EncodeFault}
use Rattle.sbe_encode.specs.Faults.{or_else, item_fault, items_fault, datum_fault, data_fault}
use Rattle.sbe_text.specs.Read.{Read, next, read_each}
use Rattle.sbe_text.specs.Reading.{read_item, read_datum}
use Rattle.sbe_from_text.specs.Written.{written, datum_bytes}

-- what is read, and the lines behind it
abbrev pub made : {A : Type 0} → A → Read A → A
made other (Ok x) = x.0
made other (Err n) = other

abbrev pub left_behind : {A : Type 0} → Read A → List (List ℕ)
left_behind (Ok x) = x.1
left_behind (Err n) = []

abbrev fault_made : Read (Option EncodeFault × List ℕ) → Option EncodeFault
fault_made r = (made (None, []) r).0

abbrev bytes_made : Read (Option EncodeFault × List ℕ) → List ℕ
bytes_made r = (made (None, []) r).1

-- what is written was read, and has no fault
pub written_ok : {A : Type 0} (old new : List ℕ) (fault : A → Option EncodeFault) (bytes : A → List ℕ) (r : Read A) (rest : List (List ℕ)) (Q : Type 0) → written old fault bytes r ≡ Ok ((None, new), rest) → ((x : A) → r ≡ Ok (x, rest) → fault x ≡ None → old ++ bytes x ≡ new → Q) → Q
written_ok old new fault bytes (Ok x) rest Q e k =
    let left : x.1 ≡ rest = ap left_behind e in
    k x.0 (ap (λ z. Ok (x.0, z)) left) (ap fault_made e) (ap bytes_made e)
written_ok old new fault bytes (Err n) rest Q e k = absurd (cc)

front_written : {A : Type 0} (old new : List ℕ) (fault whole_fault : A → Option EncodeFault) (bytes whole_bytes : A → List ℕ) (f : A → A) → ((xs : A) → (whole_fault (f xs) ≡ fault xs) × (old ++ whole_bytes (f xs) ≡ new ++ bytes xs)) → (r : Read A) → written new fault bytes r ≡ written old whole_fault whole_bytes (next r (λ xs end. Ok (f xs, end)))
front_written old new fault whole_fault bytes whole_bytes f each (Ok x) =
    ap (λ z. Ok ((z, new ++ bytes x.0), x.1)) (sym (each x.0).0) ∙ ap (λ z. Ok ((whole_fault (f x.0), z), x.1)) (sym (each x.0).1)
front_written old new fault whole_fault bytes whole_bytes f each (Err n) = refl

-- a part is written: what is left stands behind it
pub one_more : {A B : Type 0} (old between new : List ℕ) (part_fault : B → Option EncodeFault) (part : B → List ℕ) (fault whole_fault : A → Option EncodeFault) (bytes whole_bytes : A → List ℕ) (cons : B → A → A) → ((x : B) → part_fault x ≡ None → between ++ part x ≡ new → (xs : A) → (whole_fault (cons x xs) ≡ fault xs) × (old ++ whole_bytes (cons x xs) ≡ new ++ bytes xs)) → (r : Read B) (after : List (List ℕ)) (rest : List (List ℕ) → Read A) → written between part_fault part r ≡ Ok ((None, new), after) → written new fault bytes (rest after) ≡ written old whole_fault whole_bytes (next r (λ x behind. next (rest behind) (λ xs end. Ok (cons x xs, end))))
one_more old between new part_fault part fault whole_fault bytes whole_bytes cons each (Ok x) after rest e =
    let left : x.1 ≡ after = ap left_behind e in
    ap (λ z. written new fault bytes (rest z)) (sym left)
    ∙ front_written old new fault whole_fault bytes whole_bytes (cons x.0) (each x.0 (ap fault_made e) (ap bytes_made e)) (rest x.1)
one_more old between new part_fault part fault whole_fault bytes whole_bytes cons each (Err n) after rest e = absurd (cc)

-- the element at a place, and those behind it
pub at_place : {A : Type 0} (xs : List A) (i : ℕ) (x : A) → i < length xs → x ≡ get_or xs i x → drop i xs ≡ x ∷ drop (i + 1) xs
at_place xs i x h e = rw (add-one, drop-cons xs i x) (ap (λ z. z ∷ drop (suc i) xs) (sym e))

-- past the last place nothing is left
pub none_left : {A : Type 0} (xs : List A) (i : ℕ) → length xs ≤ i → drop i xs ≡ []
none_left xs i h = drop_of_length-le xs h

-- ---- items

-- the bytes of the items that are left of a block that began behind `start` bytes
abbrev pub items_left : List Listing → Order → ℕ → ℕ → List ℕ → List ℕ → List ItemPlan → List (List ℕ) → Read (Option EncodeFault × List ℕ)
items_left listings order size start before out ps left =
    written out (items_fault listings ps) (block_bytes order size (length out - start) ps) (read_each (read_item before) ps left)

-- an item stands at its offset
stands : (old item : List ℕ) (offset start : ℕ) → start ≤ length old → length ((old ++ zeros (offset - (length old - start))) ++ item) - start ≡ max (length old - start) offset + length item
stands old item offset start h =
    let gap = offset - (length old - start) in
    let long : length ((old ++ zeros gap) ++ item) ≡ length old + gap + length item =
    length-append (old ++ zeros gap) item ∙ ap (λ n. n + length item) (length-append old (zeros gap) ∙ ap (λ n. length old + n) (length-replicate {A = ℕ} gap 0)) in
    omega (arith, long, h)

-- what is written is no shorter than what was before it
pub items_within : {A : Type 0} (start gap : ℕ) (old between new : List ℕ) (fault : A → Option EncodeFault) (bytes : A → List ℕ) (r : Read A) (after : List (List ℕ)) → start ≤ length old → between ≡ old ++ zeros gap → written between fault bytes r ≡ Ok ((None, new), after) → start ≤ length new
items_within start gap old between new fault bytes r after h zero e =
    written_ok between new fault bytes r after _ e (λ x is clear whole.
    let long : length new ≡ length old + length (zeros gap) + length (bytes x) =
    ap length (sym whole) ∙ length-append between (bytes x) ∙ ap (λ n. n + length (bytes x)) (ap length zero ∙ length-append old (zeros gap)) in
    omega (arith, long, h))

item_first : (listings : List Listing) (order : Order) (size start : ℕ) (old between new : List ℕ) (p : ItemPlan) (ps : List ItemPlan) → start ≤ length old → between ≡ old ++ zeros (p.offset - (length old - start)) → (x : Item) → item_fault listings p x ≡ None → between ++ item_bytes order p x ≡ new → (xs : List Item) → (items_fault listings (p ∷ ps) (x ∷ xs) ≡ items_fault listings ps xs) × (old ++ block_bytes order size (length old - start) (p ∷ ps) (x ∷ xs) ≡ new ++ block_bytes order size (length new - start) ps xs)
item_first listings order size start old between new p ps h zero x clear is xs =
    let item = item_bytes order p x in
    let pad = zeros (p.offset - (length old - start)) in
    let whole : new ≡ (old ++ pad) ++ item = sym is ∙ ap (λ z. z ++ item) zero in
    let place : length new - start ≡ max (length old - start) p.offset + length item = ap (λ z. length z - start) whole ∙ stands old item p.offset start h in
    let rest = block_bytes order size (max (length old - start) p.offset + length item) ps xs in (
      ap (λ t. or_else t (items_fault listings ps xs)) clear,
      sym (append_assoc old pad (item ++ rest)) ∙ sym (append_assoc (old ++ pad) item rest) ∙ ap (λ z. z ++ rest) (sym whole) ∙ ap (λ n. new ++ block_bytes order size n ps xs) (sym place),
    )

pub items_step : (listings : List Listing) (order : Order) (size start : ℕ) (before old between new : List ℕ) (ps : List ItemPlan) (i : ℕ) (p : ItemPlan) (left after : List (List ℕ)) (whole : Read (Option EncodeFault × List ℕ)) → i < length ps → p ≡ get_or ps i p → start ≤ length old → between ≡ old ++ zeros (p.offset - (length old - start)) → written between (item_fault listings p) (item_bytes order p) (read_item before p left) ≡ Ok ((None, new), after) → items_left listings order size start before old (drop i ps) left ≡ whole → items_left listings order size start before new (drop (i + 1) ps) after ≡ whole
items_step listings order size start before old between new ps i p left after whole h is long zero e inv =
    one_more old between new (item_fault listings p) (item_bytes order p) (items_fault listings (drop (i + 1) ps)) (items_fault listings (p ∷ drop (i + 1) ps)) (block_bytes order size (length new - start) (drop (i + 1) ps)) (block_bytes order size (length old - start) (p ∷ drop (i + 1) ps)) (λ x xs. x ∷ xs) (item_first listings order size start old between new p (drop (i + 1) ps) long zero) (read_item before p left) after (read_each (read_item before) (drop (i + 1) ps)) e
    ∙ ap (λ z. items_left listings order size start before old z left) (sym (at_place ps i p h is))
    ∙ inv

pub items_end : (listings : List Listing) (order : Order) (size start : ℕ) (before out : List ℕ) (ps : List ItemPlan) (i : ℕ) (left : List (List ℕ)) (whole : Read (Option EncodeFault × List ℕ)) → length ps ≤ i → items_left listings order size start before out (drop i ps) left ≡ whole → whole ≡ Ok ((None, out ++ zeros (size - (length out - start))), left)
items_end listings order size start before out ps i left whole h inv =
    sym inv ∙ ap (λ z. items_left listings order size start before out z left) (none_left ps i h)

-- ---- data

-- the bytes of the data that are left
abbrev pub data_left : Order → List ℕ → List ℕ → List DataPlan → List (List ℕ) → Read (Option EncodeFault × List ℕ)
data_left order before out ds left =
    written out (data_fault ds) (data_bytes order ds) (read_each (read_datum before) ds left)

datum_in_front : (order : Order) (d : DataPlan) (ds : List DataPlan) (v : Datum) (vs : List Datum) → data_bytes order (d ∷ ds) (v ∷ vs) ≡ datum_bytes order d v ++ data_bytes order ds vs
datum_in_front order d ds datum.Absent vs = refl
datum_in_front order d ds (datum.Present text) vs =
    let size = count_bytes order d.length (length text) in
    sym (append_assoc size text (data_bytes order ds vs)) ∙ ap (λ z. (size ++ z) ++ data_bytes order ds vs) (sym (append-nil text))

datum_first : (order : Order) (old new : List ℕ) (d : DataPlan) (ds : List DataPlan) (x : Datum) → datum_fault d x ≡ None → old ++ datum_bytes order d x ≡ new → (xs : List Datum) → (data_fault (d ∷ ds) (x ∷ xs) ≡ data_fault ds xs) × (old ++ data_bytes order (d ∷ ds) (x ∷ xs) ≡ new ++ data_bytes order ds xs)
datum_first order old new d ds x clear is xs = (
  ap (λ t. or_else t (data_fault ds xs)) clear,
  ap (λ z. old ++ z) (datum_in_front order d ds x xs) ∙ sym (append_assoc old (datum_bytes order d x) (data_bytes order ds xs)) ∙ ap (λ z. z ++ data_bytes order ds xs) is,
)

pub data_step : (order : Order) (before old new : List ℕ) (ds : List DataPlan) (i : ℕ) (d : DataPlan) (left after : List (List ℕ)) (whole : Read (Option EncodeFault × List ℕ)) → i < length ds → d ≡ get_or ds i d → written old (datum_fault d) (datum_bytes order d) (read_datum before d left) ≡ Ok ((None, new), after) → data_left order before old (drop i ds) left ≡ whole → data_left order before new (drop (i + 1) ds) after ≡ whole
data_step order before old new ds i d left after whole h is e inv =
    one_more old old new (datum_fault d) (datum_bytes order d) (data_fault (drop (i + 1) ds)) (data_fault (d ∷ drop (i + 1) ds)) (data_bytes order (drop (i + 1) ds)) (data_bytes order (d ∷ drop (i + 1) ds)) (λ x xs. x ∷ xs) (datum_first order old new d (drop (i + 1) ds)) (read_datum before d left) after (read_each (read_datum before) (drop (i + 1) ds)) e
    ∙ ap (λ z. data_left order before old z left) (sym (at_place ds i d h is))
    ∙ inv

pub data_end : (order : Order) (before out : List ℕ) (ds : List DataPlan) (i : ℕ) (left : List (List ℕ)) (whole : Read (Option EncodeFault × List ℕ)) → length ds ≤ i → data_left order before out (drop i ds) left ≡ whole → whole ≡ Ok ((None, out), left)
data_end order before out ds i left whole h inv =
    sym inv ∙ ap (λ z. data_left order before out z left) (none_left ds i h) ∙ ap (λ z. Ok ((None, z), left)) (append-nil out)
