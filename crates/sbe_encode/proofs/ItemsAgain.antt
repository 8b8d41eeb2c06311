-- The items of a block read back from its canonical bytes.
use Rattle.std.proofs.Common.{◌≡◌, ℕ, zero, suc, ◌+◌, ◌-◌, ◌*◌, ◌≤◌, max, ℤ, Bool, true, false, not, ◌&&◌, ◌==◌, if◌then◌else◌, Option, List, [], ◌∷◌, ◌++◌, length, take, drop, refl, sym, ap, ◌∙◌, subst, arith, append_assoc, length-append}
use Rattle.std.specs.Prelude.{nat_le}
use Rattle.std.specs.Ordering.{int_eq}
use Rattle.std.specs.List.{AllByRecursion, list_all}
use Rattle.std.proofs.lemmas.Bool.{false≢true}
use Rattle.std.proofs.lemmas.Bool.Decides.{nat_tests}
use Rattle.std.proofs.lemmas.List.{length-replicate}
use Rattle.std.proofs.Math.Seq.{take-append_seam, drop-append_seam}
use Rattle.sbe_prim.specs.declared.Primitive.{Primitive}
use Rattle.sbe_prim.specs.declared.Primitive.TheVariants.{Char, Int8, Int16, Int32, Int64, UInt8, UInt16, UInt32, UInt64, Float, Double}
use Rattle.sbe_prim.specs.declared.Order.{Order}
use Rattle.sbe_prim.specs.Primitives.{size_of, is_integer}
use Rattle.sbe_prim.specs.Numbers.{bytes_of}
use Rattle.schema_types.specs.declared.types.Presence.{Presence}
use Rattle.schema_types.specs.declared.types.Presence.TheVariants.{Required, Optional, Constant}
use Rattle.sbe_schema.specs.Kinds.{is_char}
use Rattle.sbe_value.specs.declared.item.Item.{Item}
use Rattle.sbe_value.specs.declared.item.Item.TheVariants.{Num, Null, Absent, Text, Raw}
use Rattle.sbe_layout.specs.declared.items.ItemKind.{ItemKind}
use Rattle.sbe_layout.specs.declared.items.ItemKind.TheVariants.{Number, Enum, Set}
use Rattle.sbe_layout.specs.declared.items.ItemPlan.{ItemPlan}
use Rattle.sbe_layout.specs.declared.items.Mark.{Mark}
use Rattle.sbe_layout.specs.declared.listings.Listing.{Listing}
use Rattle.sbe_layout.specs.Legal.{IsLegalItem, size_of_item}
use Rattle.sbe_grammar.specs.Values.{null_by, number_or_null, of_integer, text_in, array_value, value_by, item_in, items_in}
use Rattle.sbe_grammar.specs.Fits.{number, text, raw, form_by, form_of, has_form, is_optional}
use Rattle.sbe_grammar.specs.Canonical.{zeros, value_bytes, item_bytes, block_bytes, can_write, is_written, is_ranged, is_admitted, is_absent, admits_items}
use Rattle.sbe_encode.specs.ReadsBack.{is_none, is_plain, ArePlain}
use Rattle.sbe_encode.proofs.Current.{IsNext, AreInOrder}
use Rattle.sbe_encode.proofs.Again.{again}

pub and_split : (a b : Bool) → (a && b) ≡ true → (a ≡ true) × (b ≡ true)
and_split true b h = (refl, h)
and_split false b h = absurd (false≢true h)

int_self : (z : ℤ) → int_eq z z ≡ true
int_self z = grind (arith, nat_tests)

-- ---- one value

-- a number that the primitive writes is read from its bytes
integer_again : (order : Order) (p : Primitive) (made : ℤ → Item) (z : ℤ) → can_write p z ≡ true → of_integer order p made (bytes_of p order z) ≡ made z
integer_again order p made z h =
    let back = again p order z h in
    let int : is_integer p ≡ true = (and_split (is_integer p) _ h).0 in
    let test : (is_integer p && (length (bytes_of p order z) == size_of p)) ≡ true = rw (int, back.size) (grind (arith, nat_tests)) in
    rw test (ap made back.number)

-- what is no integer is carried as its bytes
float_again : (order : Order) (p : Primitive) (made : ℤ → Item) (bytes : List ℕ) → is_integer p ≡ false → of_integer order p made bytes ≡ Raw bytes
float_again order p made bytes h = rw h refl

null_again : (p : Primitive) (presence : Presence) (null : ℤ) → is_optional presence ≡ true → number_or_null presence null null ≡ Null
null_again p Required null h = absurd (false≢true h)
null_again p Optional null h = rw (int_self null) refl
null_again p Constant null h = absurd (false≢true h)

num_again : (presence : Presence) (p : Primitive) (count : ℕ) (null low high : Option ℤ) (z : ℤ) → not (is_none (Number p count null low high) presence z) ≡ true → number_or_null presence (null_by p null) z ≡ Num z
num_again Required p count null low high z h = refl
num_again Constant p count null low high z h = refl
num_again Optional p count null low high z h =
    elim (int_eq z (null_by p null)) as (λ t. not t ≡ true → (if t then Null else Num z) ≡ Num z) [ true ↦ λ k. absurd (false≢true k) | false ↦ λ k. refl ] h

one_taken : (k b : ℕ) (xs : List ℕ) → take (1 + k) (b ∷ xs) ≡ b ∷ take k xs
one_taken k b xs = let e : 1 + k ≡ suc k = omega arith in rw e refl

-- a text before zeros, none of whose characters is NUL
text_again : (t : List ℕ) (n : ℕ) → list_all (λ byte. not (byte == 0)) t ≡ true → text_in (t ++ zeros n) ≡ t
text_again [] zero h = refl
text_again [] (suc n) h = refl
text_again (b ∷ bs) n h =
    let parts = and_split (not (b == 0)) _ h in
    rw parts.0 (one_taken _ b _ ∙ ap (λ ts. b ∷ ts) (text_again bs n parts.1))

raw_again : (p : Primitive) (bytes : List ℕ) → is_char p ≡ false → array_value p bytes ≡ Raw bytes
raw_again Char bytes h = absurd (false≢true (sym h))
raw_again Int8 bytes h = refl
raw_again Int16 bytes h = refl
raw_again Int32 bytes h = refl
raw_again Int64 bytes h = refl
raw_again UInt8 bytes h = refl
raw_again UInt16 bytes h = refl
raw_again UInt32 bytes h = refl
raw_again UInt64 bytes h = refl
raw_again Float bytes h = refl
raw_again Double bytes h = refl

array_char : (p : Primitive) (bytes : List ℕ) → is_char p ≡ true → array_value p bytes ≡ Text (text_in bytes)
array_char Char bytes h = refl
array_char Int8 bytes h = absurd (false≢true h)
array_char Int16 bytes h = absurd (false≢true h)
array_char Int32 bytes h = absurd (false≢true h)
array_char Int64 bytes h = absurd (false≢true h)
array_char UInt8 bytes h = absurd (false≢true h)
array_char UInt16 bytes h = absurd (false≢true h)
array_char UInt32 bytes h = absurd (false≢true h)
array_char UInt64 bytes h = absurd (false≢true h)
array_char Float bytes h = absurd (false≢true h)
array_char Double bytes h = absurd (false≢true h)

-- a value that is read of bytes, and how many they are
record Back (read : Item) (bytes : List ℕ) (size : ℕ) (i : Item) : Type 0 where
  pub value : read ≡ i
  pub size_is : length bytes ≡ size

padded_size : (t : List ℕ) (size : ℕ) → nat_le (length t) size ≡ true → length (t ++ zeros (size - length t)) ≡ size
padded_size t size h =
    let short : length t ≤ size = grind (arith, nat_tests) in
    omega (arith, length-append t (zeros (size - length t)), length-replicate {A = ℕ} (size - length t) 0, short)

equal_size : (a b : ℕ) → (a == b) ≡ true → a ≡ b
equal_size a b h = grind (arith, nat_tests)

by_array : (c : Bool) (order : Order) (presence : Presence) (p : Primitive) (count : ℕ) (null low high : Option ℤ) (size : ℕ) (i : Item) → is_char p ≡ c → (not (is_absent i) && has_form (if c then text size else raw size) i) ≡ true → is_plain (Number p count null low high) presence i ≡ true → Back (array_value p (value_bytes order (Number p count null low high) size i)) (value_bytes order (Number p count null low high) size i) size i
by_array true order presence p count null low high size (Num z) e s plain = absurd (false≢true s)
by_array true order presence p count null low high size Null e s plain = absurd (false≢true s)
by_array true order presence p count null low high size Absent e s plain = absurd (false≢true s)
by_array true order presence p count null low high size (Text t) e s plain =
    record { value = array_char p _ e ∙ ap Text (text_again t _ plain); size_is = padded_size t size s }
by_array true order presence p count null low high size (Raw b) e s plain = absurd (false≢true s)
by_array false order presence p count null low high size (Num z) e s plain = absurd (false≢true s)
by_array false order presence p count null low high size Null e s plain = absurd (false≢true s)
by_array false order presence p count null low high size Absent e s plain = absurd (false≢true s)
by_array false order presence p count null low high size (Text t) e s plain = absurd (false≢true s)
by_array false order presence p count null low high size (Raw b) e s plain =
    record { value = raw_again p b e; size_is = equal_size (length b) size s }

by_integer : (d : Bool) (order : Order) (presence : Presence) (p : Primitive) (count : ℕ) (null low high : Option ℤ) (size : ℕ) (i : Item) → is_integer p ≡ d → (not (is_absent i) && has_form (if d then number (is_optional presence) else raw size) i) ≡ true → is_written (Number p count null low high) i ≡ true → is_plain (Number p count null low high) presence i ≡ true → size ≡ size_of p → Back (of_integer order p (number_or_null presence (null_by p null)) (value_bytes order (Number p count null low high) size i)) (value_bytes order (Number p count null low high) size i) size i
by_integer true order presence p count null low high size (Num z) e s w plain sized = record {
  value = integer_again order p (number_or_null presence (null_by p null)) z w ∙ num_again presence p count null low high z plain;
  size_is = (again p order z w).size ∙ sym sized;
}
by_integer true order presence p count null low high size Null e s w plain sized = record {
  value = integer_again order p (number_or_null presence (null_by p null)) (null_by p null) w ∙ null_again p presence (null_by p null) s;
  size_is = (again p order (null_by p null) w).size ∙ sym sized;
}
by_integer true order presence p count null low high size Absent e s w plain sized = absurd (false≢true s)
by_integer true order presence p count null low high size (Text t) e s w plain sized = absurd (false≢true s)
by_integer true order presence p count null low high size (Raw b) e s w plain sized = absurd (false≢true s)
by_integer false order presence p count null low high size (Num z) e s w plain sized = absurd (false≢true s)
by_integer false order presence p count null low high size Null e s w plain sized = absurd (false≢true s)
by_integer false order presence p count null low high size Absent e s w plain sized = absurd (false≢true s)
by_integer false order presence p count null low high size (Text t) e s w plain sized = absurd (false≢true s)
by_integer false order presence p count null low high size (Raw b) e s w plain sized =
    record { value = float_again order p (number_or_null presence (null_by p null)) b e; size_is = equal_size (length b) size s }

one_element : (n s : ℕ) → nat_le 2 n ≡ false → s * max n 1 ≡ s
one_element zero s h = omega arith
one_element (suc zero) s h = omega arith
one_element (suc (suc n)) s h = absurd (false≢true (sym h ∙ grind (arith, nat_tests)))

by_count : (t : Bool) (order : Order) (presence : Presence) (p : Primitive) (count : ℕ) (null low high : Option ℤ) (size : ℕ) (i : Item) → nat_le 2 count ≡ t → (not (is_absent i) && has_form (if t then (if is_char p then text size else raw size) else (if is_integer p then number (is_optional presence) else raw size)) i) ≡ true → is_written (Number p count null low high) i ≡ true → is_plain (Number p count null low high) presence i ≡ true → size ≡ size_of p * max count 1 → Back (if t then array_value p (value_bytes order (Number p count null low high) size i) else of_integer order p (number_or_null presence (null_by p null)) (value_bytes order (Number p count null low high) size i)) (value_bytes order (Number p count null low high) size i) size i
by_count true order presence p count null low high size i e s w plain sized =
    by_array (is_char p) order presence p count null low high size i refl s plain
by_count false order presence p count null low high size i e s w plain sized =
    by_integer (is_integer p) order presence p count null low high size i refl s w plain (sized ∙ one_element count (size_of p) e)

-- the raw number of an enum or a set
code_again : (order : Order) (p : Primitive) (z : ℤ) (size : ℕ) → can_write p z ≡ true → size ≡ size_of p → Back (of_integer order p Num (bytes_of p order z)) (bytes_of p order z) size (Num z)
code_again order p z size w sized = record { value = integer_again order p Num z w; size_is = (again p order z w).size ∙ sym sized }

value_again : (order : Order) (presence : Presence) (kind : ItemKind) (size : ℕ) (i : Item) → size ≡ size_of_item kind → (not (is_absent i) && has_form (form_by kind presence size) i) ≡ true → is_written kind i ≡ true → is_plain kind presence i ≡ true → Back (value_by order presence kind (value_bytes order kind size i)) (value_bytes order kind size i) size i
value_again order presence (Number p count null low high) size i sized s w plain =
    by_count (nat_le 2 count) order presence p count null low high size i refl s w plain sized
value_again order presence (Enum p at) size (Num z) sized s w plain = code_again order p z size w sized
value_again order presence (Enum p at) size Null sized s w plain = absurd (false≢true s)
value_again order presence (Enum p at) size Absent sized s w plain = absurd (false≢true s)
value_again order presence (Enum p at) size (Text t) sized s w plain = absurd (false≢true s)
value_again order presence (Enum p at) size (Raw b) sized s w plain = absurd (false≢true s)
value_again order presence (Set p at) size (Num z) sized s w plain = code_again order p z size w sized
value_again order presence (Set p at) size Null sized s w plain = absurd (false≢true s)
value_again order presence (Set p at) size Absent sized s w plain = absurd (false≢true s)
value_again order presence (Set p at) size (Text t) sized s w plain = absurd (false≢true s)
value_again order presence (Set p at) size (Raw b) sized s w plain = absurd (false≢true s)

-- ---- a block

slice_again : (front gap bytes rest : List ℕ) (o s : ℕ) → o ≡ length front + length gap → s ≡ length bytes → take s (drop o (front ++ (gap ++ (bytes ++ rest)))) ≡ bytes
slice_again front gap bytes rest o s at_o at_s =
    let place : o ≡ length (front ++ gap) = at_o ∙ sym (length-append front gap) in
    (λ k. take (at_s k) (drop (place k) (sym (append_assoc front gap (bytes ++ rest)) k)))
    ∙ ap (take (length bytes)) (drop-append_seam (front ++ gap) (bytes ++ rest))
    ∙ take-append_seam bytes rest

-- one item of a block that was written up to `at`, and where the next one begins
record Placed (order : Order) (version size at : ℕ) (p : ItemPlan) (i : Item) : Type 0 where
  pub reads : (front rest : List ℕ) → length front ≡ at → item_in order version (front ++ (zeros (p.offset - at) ++ (item_bytes order p i ++ rest))) p ≡ i
  pub size_is : length (item_bytes order p i) ≡ p.size
  pub ends : max at p.offset + length (item_bytes order p i) ≡ p.offset + p.size

placed : (marks : List Mark) (ls : List Listing) (order : Order) (version size at : ℕ) (p : ItemPlan) (i : Item) → IsLegalItem version ls size marks p → IsNext version at p → ((not (is_absent i) && has_form (form_of p) i) && is_admitted ls p.kind i) ≡ true → is_plain p.kind p.presence i ≡ true → Placed order version size at p i
placed marks ls order version size at p i legal next admitted plain =
    let parts = and_split _ (is_admitted ls p.kind i) admitted in
    let written : is_written p.kind i ≡ true = (and_split _ (is_ranged ls p.kind i) parts.1).0 in
    let back = value_again order p.presence p.kind p.size i legal.sized parts.0 written plain in
    let low : at ≤ p.offset = next.behind in
    let whole : length (item_bytes order p i) ≡ p.size = back.size_is in
    record {
      reads = λ front rest e.
          let slice : take p.size (drop p.offset (front ++ (zeros (p.offset - at) ++ (item_bytes order p i ++ rest)))) ≡ item_bytes order p i =
          slice_again front (zeros (p.offset - at)) (item_bytes order p i) rest p.offset p.size (omega (arith, length-replicate {A = ℕ} (p.offset - at) 0, e, low)) (sym whole) in
          rw next.present (ap (value_by order p.presence p.kind) slice ∙ back.value);
      size_is = whole;
      ends = omega (arith, whole, low);
    }

pub block_size : (marks : List Mark) (ls : List Listing) (order : Order) (version size at : ℕ) (ps : List ItemPlan) (is : List Item) → at ≤ size → AllByRecursion (IsLegalItem version ls size marks) ps → AreInOrder version at ps → admits_items ls ps is ≡ true → ArePlain ps is → length (block_bytes order size at ps is) ≡ size - at
block_size marks ls order version size at [] [] h legal next admitted plain = length-replicate (size - at) 0
block_size marks ls order version size at [] (i ∷ is) h legal next admitted plain = absurd (false≢true admitted)
block_size marks ls order version size at (p ∷ ps) [] h legal next admitted plain = absurd (false≢true admitted)
block_size marks ls order version size at (p ∷ ps) (i ∷ is) h legal next admitted plain =
    let parts = and_split _ (admits_items ls ps is) admitted in
    let here = placed marks ls order version size at p i legal.0 next.0 parts.0 plain.0 in
    let end : ℕ = max at p.offset + length (item_bytes order p i) in
    let within : p.offset + p.size ≤ size = legal.0.within in
    let low : at ≤ p.offset = next.0.behind in
    let fits : end ≤ size = omega (arith, here.ends, within) in
    let others : length (block_bytes order size end ps is) ≡ size - end =
    block_size marks ls order version size end ps is fits legal.1 (subst (λ n. AreInOrder version n ps) (sym here.ends) next.1) parts.1 plain.1 in
    omega (arith, length-append (zeros (p.offset - at)) (item_bytes order p i ++ block_bytes order size end ps is), length-append (item_bytes order p i) (block_bytes order size end ps is), length-replicate {A = ℕ} (p.offset - at) 0, others, here.ends, here.size_is, within, low, h)

pub items_again : (marks : List Mark) (ls : List Listing) (order : Order) (version size at : ℕ) (front : List ℕ) (ps : List ItemPlan) (is : List Item) → length front ≡ at → AllByRecursion (IsLegalItem version ls size marks) ps → AreInOrder version at ps → admits_items ls ps is ≡ true → ArePlain ps is → items_in order version (front ++ block_bytes order size at ps is) ps ≡ is
items_again marks ls order version size at front [] [] e legal next admitted plain = refl
items_again marks ls order version size at front [] (i ∷ is) e legal next admitted plain = absurd (false≢true admitted)
items_again marks ls order version size at front (p ∷ ps) [] e legal next admitted plain = absurd (false≢true admitted)
items_again marks ls order version size at front (p ∷ ps) (i ∷ is) e legal next admitted plain =
    let parts = and_split _ (admits_items ls ps is) admitted in
    let here = placed marks ls order version size at p i legal.0 next.0 parts.0 plain.0 in
    let end : ℕ = max at p.offset + length (item_bytes order p i) in
    let gap : List ℕ = zeros (p.offset - at) in
    let bytes : List ℕ = item_bytes order p i in
    let rest : List ℕ = block_bytes order size end ps is in
    let low : at ≤ p.offset = next.0.behind in
    let long : length (front ++ (gap ++ bytes)) ≡ end =
    omega (arith, length-append front (gap ++ bytes), length-append gap bytes, length-replicate {A = ℕ} (p.offset - at) 0, e, low) in
    let joined : front ++ (gap ++ (bytes ++ rest)) ≡ (front ++ (gap ++ bytes)) ++ rest =
    ap (λ xs. front ++ xs) (sym (append_assoc gap bytes rest)) ∙ sym (append_assoc front (gap ++ bytes) rest) in
    let others : items_in order version ((front ++ (gap ++ bytes)) ++ rest) ps ≡ is =
    items_again marks ls order version size end (front ++ (gap ++ bytes)) ps is long legal.1 (subst (λ n. AreInOrder version n ps) (sym here.ends) next.1) parts.1 plain.1 in
    λ k. here.reads front rest e k ∷ (ap (λ xs. items_in order version xs ps) joined ∙ others) k
