-- The encoding type and the message of a payload.
use Rattle.std.proofs.Common.{◌≡◌, ℕ, zero, suc, ◌<◌, ◌≤◌, List, [], ◌∷◌, ◌++◌, length, get_or, take, drop, Bool, true, false, ◌==◌, if◌then◌else◌, eqb-true, refl, sym, ap, subst, ◌∙◌, arith, take-append-drop, Fits, w8, Some, None}
use Rattle.std.proofs.lemmas.Nat.{be_bytes_2}
use Rattle.std.specs.Int.{w16, from_be_bytes, to_be_bytes}
use Rattle.sbe_prim.specs.declared.Order.{Order}
use Rattle.sbe_prim.specs.declared.Order.TheVariants.{Little, Big}
use Rattle.sofh_frame.specs.Framing.{encoding_of, order_of}
use Rattle.fixp_msgs.specs.declared.frames.FrameKind.TheVariants.{App}
use Rattle.fixp_msgs.specs.Header.{kind_of}
use Rattle.fixp_msgs.specs.Payload.{IsApplication}

-- the number in the first two bytes, and what stands behind them
each_taken : (n : ℕ) (bytes : List ℕ) → ((k : ℕ) → Fits w8 (get_or bytes k 0)) → (i : ℕ) → get_or (take n bytes) i 0 < 256
each_taken zero bytes fits i = omega arith
each_taken (suc n) [] fits i = omega arith
each_taken (suc n) (b ∷ bytes) fits zero = omega (arith, fits 0)
each_taken (suc n) (b ∷ bytes) fits (suc i) = each_taken n bytes (λ k. fits (suc k)) i

pub joined : (bytes front behind : List ℕ) (n : ℕ) → ((k : ℕ) → Fits w8 (get_or bytes k 0)) → length front ≡ 2 → front ≡ take 2 bytes → behind ≡ drop 2 bytes
    → n ≡ from_be_bytes w16 front → to_be_bytes w16 n ++ behind ≡ bytes
joined bytes front behind n fits size at_front at_back is =
    ap (λ (xs : List ℕ). xs ++ behind) (be_bytes_2 front n size (λ i. subst (λ (xs : List ℕ). get_or xs i 0 < 256) (sym at_front) (each_taken 2 bytes fits i)) is ∙ at_front)
    ∙ ap (λ (xs : List ℕ). take 2 bytes ++ xs) at_back ∙ take-append-drop 2 bytes

-- an encoding type that names an order is that of the order
pub named : (encoding : ℕ) (order : Order) → order_of encoding ≡ Some order → encoding_of order ≡ encoding
named encoding order e = by_tests (encoding == 0xEB50) refl (encoding == 0x5BE0) refl e
  where
    by_tests : (b : Bool) → (encoding == 0xEB50) ≡ b → (c : Bool) → (encoding == 0x5BE0) ≡ c
        → (if b then Some Little else (if c then Some Big else None)) ≡ Some order → encoding_of order ≡ encoding
    by_tests true is _ _ r = let same : Little ≡ order = cc in ap encoding_of (sym same) ∙ sym (eqb-true encoding 0xEB50 is)
    by_tests false _ true is r = let same : Big ≡ order = cc in ap encoding_of (sym same) ∙ sym (eqb-true encoding 0x5BE0 is)
    by_tests false _ false _ r = absurd (cc)

-- a payload is told by its parts
pub is_payload : (encoding : ℕ) (order : Order) (message payload : List ℕ) → order_of encoding ≡ Some order → 8 ≤ length message → length message ≤ 16384
    → App ≡ kind_of order message → to_be_bytes w16 encoding ++ message ≡ payload → IsApplication payload
is_payload encoding order message payload names least most is split = record {
  frame = record { order = order; message = message };
  admissible = record { least = least; most = most };
  application = sym is;
  spelled = ap (λ (n : ℕ). to_be_bytes w16 n ++ message) (named encoding order names) ∙ split;
}
