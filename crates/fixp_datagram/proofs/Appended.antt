-- Frames that are put one behind another into the room of a datagram.
use Rattle.std.proofs.Common.{◌≡◌, ℕ, zero, suc, ◌+◌, ◌-◌, ◌<◌, ◌≤◌, List, [], ◌∷◌, ◌++◌, map, length, take, drop, get_or, sym, ap, subst, ◌∙◌, arith, append_assoc, append-nil, length-append, take-add}
use Rattle.std.specs.List.{AllByRecursion}
use Rattle.std.proofs.lemmas.List.{map-append}
use Rattle.std.proofs.lemmas.List.Elements.{All-from_recursion}
use Rattle.std.proofs.lemmas.Grind.{flat_map-append, take_at_read}
use Rattle.sofh_frame.specs.Framing.{spelled}
use Rattle.sofh_frame.specs.Splits.{spelled_all}
use Rattle.fixp_msgs.specs.Payload.{IsApplication}
use Rattle.fixp_datagram.specs.Packing.{frame_of}
use Rattle.fixp_datagram.proofs.Packed.{length-frame_of}

-- the bytes of the first frames
abbrev pub framed : ℕ → List (List ℕ) → List ℕ
framed n ps = spelled_all (map frame_of (take n ps))

-- one frame more
pub framed_more : (ps : List (List ℕ)) (n : ℕ) (p : List ℕ) → n < length ps → p ≡ get_or ps n p → framed (n + 1) ps ≡ framed n ps ++ spelled (frame_of p)
framed_more ps n p within is =
    let one : take (n + 1) ps ≡ take n ps ++ p ∷ [] = (take_at_read ps n p within).1 ∙ ap (λ q. take n ps ++ q ∷ []) (sym is) in
    ap (λ qs. spelled_all (map frame_of qs)) one
    ∙ (ap spelled_all (map-append frame_of (take n ps) (p ∷ []))
    ∙ (flat_map-append spelled (map frame_of (take n ps)) (frame_of p ∷ [])
    ∙ ap (λ bytes. framed n ps ++ bytes) (append-nil (spelled (frame_of p)))))

-- more frames are not shorter
pub framed_grows : (ps : List (List ℕ)) (k n : ℕ) → k ≤ n → length (framed k ps) ≤ length (framed n ps)
framed_grows ps k n h =
    let more = take (n - k) (drop k ps) in
    let there : k + (n - k) ≡ n = omega arith in
    let parts : take n ps ≡ take k ps ++ more = ap (λ m. take m ps) (sym there) ∙ take-add k (n - k) ps in
    let all : framed n ps ≡ framed k ps ++ spelled_all (map frame_of more) =
    ap (λ qs. spelled_all (map frame_of qs)) parts
    ∙ (ap spelled_all (map-append frame_of (take k ps) more) ∙ flat_map-append spelled (map frame_of (take k ps)) (map frame_of more)) in
    omega (arith, ap length all, length-append (framed k ps) (spelled_all (map frame_of more)))

pub application_at : (ps : List (List ℕ)) (n : ℕ) (p : List ℕ) → AllByRecursion IsApplication ps → n < length ps → p ≡ get_or ps n p → IsApplication p
application_at ps n p all within is = subst IsApplication (sym is) (All-from_recursion IsApplication ps all n p within)

-- where the next frame does not fit, no more of them do
pub no_more : (ps : List (List ℕ)) (n k head room : ℕ) (p : List ℕ) → AllByRecursion IsApplication ps → n < length ps → p ≡ get_or ps n p
    → room < head + length (framed n ps) + (length p + 4) → head + length (framed k ps) ≤ room → k ≤ n
no_more ps n k head room p all within is over fits =
    let size : length (framed (n + 1) ps) ≡ length (framed n ps) + (4 + length p) =
    ap length (framed_more ps n p within is)
    ∙ (length-append (framed n ps) (spelled (frame_of p)) ∙ ap (λ m. length (framed n ps) + m) (length-frame_of p (application_at ps n p all within is))) in
    by_order (k - n) (omega arith) size
  where
    by_order : (more : ℕ) → more ≡ k - n → length (framed (n + 1) ps) ≡ length (framed n ps) + (4 + length p) → k ≤ n
    by_order zero none size = omega (arith, none)
    by_order (suc more) some size = absurd (omega (arith, size, over, fits, framed_grows ps (n + 1) k (omega (arith, some))))

-- what was put so far: so many frames behind the first bytes
pub record IsPut (ps : List (List ℕ)) (before out : List ℕ) (head at taken : ℕ) : Type 0 where
  pub within : taken ≤ length ps
  pub front : take at out ≡ take head before ++ framed taken ps
  pub size : at ≡ head + length (framed taken ps)
  pub behind : (n : ℕ) → at ≤ n → drop n out ≡ drop n before

pub put_more : (ps : List (List ℕ)) (before out new : List ℕ) (head at taken end : ℕ) (p : List ℕ) → IsPut ps before out head at taken
    → taken < length ps → p ≡ get_or ps taken p → IsApplication p
    → end ≡ at + 4 + length p → take end new ≡ take at out ++ spelled (frame_of p) → ((n : ℕ) → end ≤ n → drop n new ≡ drop n out)
    → IsPut ps before new head end (taken + 1)
put_more ps before out new head at taken end p put within is application end_is front behind = record {
  within = omega (arith, within);
  front = front
      ∙ (ap (λ bytes. bytes ++ spelled (frame_of p)) put.front
      ∙ (append_assoc (take head before) (framed taken ps) (spelled (frame_of p))
      ∙ ap (λ bytes. take head before ++ bytes) (sym (framed_more ps taken p within is))));
  size = omega (arith, end_is, put.size, ap length (framed_more ps taken p within is), length-append (framed taken ps) (spelled (frame_of p)), length-frame_of p application);
  behind = λ n h. behind n h ∙ put.behind n (omega (arith, end_is, h));
}
