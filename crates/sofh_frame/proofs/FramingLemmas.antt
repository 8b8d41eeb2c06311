-- What the first frame of some bytes says of them, and that more bytes behind it change nothing.
use Rattle.std.proofs.Common.{◌≡◌, ℕ, ◌+◌, ◌-◌, ◌^◌, ◌<◌, ◌≤◌, List, ◌++◌, length, take, drop, get_or, Some, refl, sym, ◌∙◌, ap, arith, append_assoc, Fits, w8}
use Rattle.std.specs.Int.{w16, w32, from_be_bytes, to_be_bytes}
use Rattle.std.proofs.lemmas.Bool.Decides.{nat_tests}
use Rattle.std.proofs.lemmas.Grind.{common_steps}
use Rattle.std.proofs.lemmas.List.{take-append-drop, length-append, length-take, length-drop, drop-drop, take-append-le, drop-append-le, get_or_past, get_or_default}
use Rattle.std.proofs.lemmas.List.Folds.{drop_split}
use Rattle.std.proofs.Math.Seq.{take-append_seam}
use Rattle.std.proofs.lemmas.List.Elements.{All-take, All-drop}
use Rattle.std.proofs.lemmas.Nat.{be_bytes_2, be_bytes_4, from_be_bytes-to_be_bytes_2, from_be_bytes-to_be_bytes_4}
use Rattle.sbe_prim.specs.declared.Order.{Order}
use Rattle.sbe_prim.specs.declared.Order.TheVariants.{Little, Big}
use Rattle.sofh_frame.specs.Framing.{Frame, IsFrame, header_of, spelled, encoding_of, First, frame, rest, bad_length, bad_encoding, first_of, length_in, encoding_in, order_of, BeginsWith, IfFrame, IsBadLength, IsBadEncoding, IsBytes}

-- a frame's parts, as its numbers give them
pub record FrameParts (bytes : List ℕ) (order : Order) (message : List ℕ) (size : ℕ) : Type 0 where
  pub header : 6 ≤ length bytes
  pub least : 14 ≤ size
  pub most : size ≤ 16390
  pub there : size ≤ length bytes
  pub states : length_in bytes ≡ size
  pub known : order_of (encoding_in bytes) ≡ Some order
  pub between : message ≡ take (size - 6) (drop 6 bytes)

pub parts-frame : (bytes : List ℕ) (order : Order) (message : List ℕ) (size : ℕ) → first_of bytes ≡ frame order message size → FrameParts bytes order message size
parts-frame bytes order message size e = grind (arith, nat_tests)

pub frame-parts : (bytes : List ℕ) (order : Order) (message : List ℕ) (size : ℕ) → FrameParts bytes order message size → first_of bytes ≡ frame order message size
frame-parts bytes order message size parts = grind (arith, nat_tests)

-- an encoding type names the order that has it, and no other
pub encoding_of-order_of : (encoding : ℕ) (order : Order) → order_of encoding ≡ Some order → encoding ≡ encoding_of order
encoding_of-order_of encoding Little e = grind (arith, nat_tests)
encoding_of-order_of encoding Big e = grind (arith, nat_tests)

pub order_of-encoding_of : (order : Order) → order_of (encoding_of order) ≡ Some order
order_of-encoding_of Little = refl
order_of-encoding_of Big = refl

encoding_of-lt : (order : Order) → encoding_of order < 2 ^ 16
encoding_of-lt Little = omega arith
encoding_of-lt Big = omega arith

pub length-header_of : (f : Frame) → length (header_of f) ≡ 6
unfolding header_of
length-header_of f = refl

pub length_in-header_of : (f : Frame) (more : List ℕ) → length f.message ≤ 16384 → length_in (header_of f ++ more) ≡ 6 + length f.message
unfolding header_of length_in
length_in-header_of f more small = from_be_bytes-to_be_bytes_4 (6 + length f.message) (omega arith)

pub encoding_in-header_of : (f : Frame) (more : List ℕ) → encoding_in (header_of f ++ more) ≡ encoding_of f.order
unfolding header_of encoding_in
encoding_in-header_of f more = from_be_bytes-to_be_bytes_2 (encoding_of f.order) (encoding_of-lt f.order)

pub drop-header_of : (f : Frame) (more : List ℕ) → drop 6 (header_of f ++ more) ≡ more
unfolding header_of
drop-header_of f more = refl

-- the elements of a slice of `u8` are bytes
pub IsBytes-slice : (bytes : List ℕ) → ((k : ℕ) → Fits w8 (get_or bytes k 0)) → IsBytes bytes
IsBytes-slice bytes fits = λ k d within. rw (get_or_default bytes k d 0 within) (omega (arith, fits k))

-- past its end a list of bytes reads as 0
each_byte : (bytes : List ℕ) → IsBytes bytes → (i : ℕ) → get_or bytes i 0 < 256
each_byte bytes are_bytes i = grind (arith, common_steps, get_or_past, are_bytes i 0)

-- the numbers of a header give its bytes
header_of-numbers : (bytes : List ℕ) (f : Frame) → IsBytes bytes → 6 ≤ length bytes → length_in bytes ≡ 6 + length f.message → encoding_in bytes ≡ encoding_of f.order → header_of f ≡ take 4 bytes ++ take 2 (drop 4 bytes)
unfolding header_of length_in encoding_in
header_of-numbers bytes f are_bytes there length_is encoding_is =
    let four : to_be_bytes w32 (6 + length f.message) ≡ take 4 bytes = be_bytes_4 (take 4 bytes) _ (simp length-take (omega arith)) (each_byte (take 4 bytes) (All-take (λ b. b < 256) 4 bytes are_bytes)) (sym length_is) in
    let two : to_be_bytes w16 (encoding_of f.order) ≡ take 2 (drop 4 bytes) = be_bytes_2 (take 2 (drop 4 bytes)) _ (let long : length (take 2 (drop 4 bytes)) ≡ 2 = simp (length-take, length-drop) (omega arith) in long) (each_byte (take 2 (drop 4 bytes)) (All-take (λ b. b < 256) 2 (drop 4 bytes) (All-drop (λ b. b < 256) 4 bytes are_bytes))) (sym encoding_is) in
    ap (λ (xs : List ℕ). xs ++ to_be_bytes w16 (encoding_of f.order)) four ∙ ap (λ (xs : List ℕ). take 4 bytes ++ xs) two

-- a frame's size counts the header and the message, and is all there
pub counts-frame : (bytes : List ℕ) (order : Order) (message : List ℕ) (size : ℕ) → first_of bytes ≡ frame order message size → size ≡ 6 + length message
counts-frame bytes order message size e =
    let parts = parts-frame bytes order message size e in
    omega (arith, simp (length-take, length-drop) at (ap length parts.between), parts.least, parts.there)

pub IsFrame-frame : (bytes : List ℕ) (order : Order) (message : List ℕ) (size : ℕ) → first_of bytes ≡ frame order message size → IsFrame (record { order = order; message = message })
IsFrame-frame bytes order message size e =
    let parts = parts-frame bytes order message size e in
    let counted = counts-frame bytes order message size e in
    record { least = omega (arith, counted, parts.least); most = omega (arith, counted, parts.most) }

-- what is found is spelled
pub begins-frame : (bytes : List ℕ) (f : Frame) (size : ℕ) → IsBytes bytes → first_of bytes ≡ frame f.order f.message size → BeginsWith bytes f size
begins-frame bytes f size are_bytes e =
    let parts = parts-frame bytes f.order f.message size e in
    let counted = counts-frame bytes f.order f.message size e in
    let header_is : header_of f ≡ take 4 bytes ++ take 2 (drop 4 bytes) = header_of-numbers bytes f are_bytes parts.header (parts.states ∙ counted) (encoding_of-order_of (encoding_in bytes) f.order parts.known) in
    let behind : drop 6 bytes ≡ take (size - 6) (drop 6 bytes) ++ drop size bytes = drop_split bytes 6 size (omega (arith, parts.least)) in
    let twice : drop 2 (drop 4 bytes) ≡ drop 6 bytes = drop-drop 2 4 bytes in
    record {
      spells = rw (header_is, parts.between) (simp append_assoc (rw (← behind, ← twice, take-append-drop 2 (drop 4 bytes), take-append-drop 4 bytes) refl));
      counts = counted;
      admissible = IsFrame-frame bytes f.order f.message size e;
    }

-- the same, by the answer's cases
pub IfFrame-begins : (bytes : List ℕ) (first : First) → IsBytes bytes → first ≡ first_of bytes → IfFrame first (BeginsWith bytes)
IfFrame-begins bytes (frame order message size) are_bytes e = begins-frame bytes (record { order = order; message = message }) size are_bytes (sym e)
IfFrame-begins bytes rest are_bytes e = tt
IfFrame-begins bytes (bad_length n) are_bytes e = tt
IfFrame-begins bytes (bad_encoding encoding) are_bytes e = tt

at_end : (n : ℕ) → 6 + n - 6 ≡ n
at_end n = omega arith

-- what is spelled is found
pub frame-begins : (f : Frame) (more : List ℕ) → IsFrame f → first_of (spelled f ++ more) ≡ frame f.order f.message (6 + length f.message)
frame-begins f more admissible =
    let bytes = header_of f ++ (f.message ++ more) in
    let long : length bytes ≡ 6 + (length f.message + length more) = simp (length-append, length-header_of) in
    rw append_assoc (frame-parts bytes f.order f.message (6 + length f.message) (record {
      header = omega (arith, long);
      least = omega arith;
      most = omega arith;
      there = omega (arith, long);
      states = length_in-header_of f (f.message ++ more) admissible.most;
      known = ap order_of (encoding_in-header_of f (f.message ++ more)) ∙ order_of-encoding_of f.order;
      between = sym (rw (drop-header_of f (f.message ++ more), at_end (length f.message)) (take-append_seam f.message more));
    }))

-- bytes that begin with a frame are answered with it
pub frame-BeginsWith : (bytes : List ℕ) (f : Frame) (size : ℕ) → BeginsWith bytes f size → first_of bytes ≡ frame f.order f.message size
frame-BeginsWith bytes f size begins =
    ap first_of begins.spells ∙ frame-begins f (drop size bytes) begins.admissible ∙ ap (frame f.order f.message) (sym begins.counts)

-- the first 4 and the first 6 bytes keep their numbers when more bytes follow
length_in-append : (bytes more : List ℕ) → 4 ≤ length bytes → length_in (bytes ++ more) ≡ length_in bytes
unfolding length_in
length_in-append bytes more there = ap (from_be_bytes w32) (take-append-le 4 bytes more there)

encoding_in-append : (bytes more : List ℕ) → 6 ≤ length bytes → encoding_in (bytes ++ more) ≡ encoding_in bytes
unfolding encoding_in
encoding_in-append bytes more there =
    ap (λ (xs : List ℕ). from_be_bytes w16 (take 2 xs)) (drop-append-le 4 bytes more (omega arith))
    ∙ ap (from_be_bytes w16) (take-append-le 2 (drop 4 bytes) more (omega (arith, length-drop 4 bytes)))

-- a frame that is found stays found when more bytes follow
pub frame-append : (bytes more : List ℕ) (order : Order) (message : List ℕ) (size : ℕ) → first_of bytes ≡ frame order message size → first_of (bytes ++ more) ≡ frame order message size
frame-append bytes more order message size e =
    let parts = parts-frame bytes order message size e in
    let longer : length (bytes ++ more) ≡ length bytes + length more = length-append bytes more in
    frame-parts (bytes ++ more) order message size (record {
      header = omega (arith, longer, parts.header);
      least = parts.least;
      most = parts.most;
      there = omega (arith, longer, parts.there);
      states = length_in-append bytes more (omega (arith, parts.header)) ∙ parts.states;
      known = ap order_of (encoding_in-append bytes more parts.header) ∙ parts.known;
      between = parts.between ∙ sym (rw (drop-append-le 6 bytes more parts.header, take-append-le (size - 6) (drop 6 bytes) more (omega (arith, length-drop 6 bytes, parts.there))) refl);
    })

-- a bad length stays one, and so does a bad encoding type
pub bad_length-append : (bytes more : List ℕ) (n : ℕ) → first_of bytes ≡ bad_length n → first_of (bytes ++ more) ≡ bad_length n
bad_length-append bytes more n e =
    let bad : IsBadLength bytes n = grind (arith, nat_tests) in
    let longer : length (bytes ++ more) ≡ length bytes + length more = length-append bytes more in
    let same : length_in (bytes ++ more) ≡ length_in bytes = length_in-append bytes more bad.there in
    let still : IsBadLength (bytes ++ more) n = record { there = omega (arith, longer, bad.there); states = same ∙ bad.states; outside = bad.outside } in
    grind (arith, nat_tests)

pub bad_encoding-append : (bytes more : List ℕ) (encoding : ℕ) → first_of bytes ≡ bad_encoding encoding → first_of (bytes ++ more) ≡ bad_encoding encoding
bad_encoding-append bytes more encoding e =
    let bad : IsBadEncoding bytes encoding = grind (arith, nat_tests) in
    let longer : length (bytes ++ more) ≡ length bytes + length more = length-append bytes more in
    let same_length : length_in (bytes ++ more) ≡ length_in bytes = length_in-append bytes more (omega (arith, bad.there)) in
    let same_encoding : encoding_in (bytes ++ more) ≡ encoding_in bytes = encoding_in-append bytes more bad.there in
    grind (arith, nat_tests)
