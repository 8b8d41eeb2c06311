-- The payloads of a script's messages: each is one of an application message, and its frame has 22 bytes.
use Rattle.std.proofs.Common.{◌≡◌, ℕ, ◌+◌, ◌-◌, ◌*◌, ◌≤◌, min, List, [], ◌∷◌, ◌++◌, length, map, take, drop, refl, ap, sym, subst, ◌∙◌, arith, length-append, length-drop}
use Rattle.std.proofs.lemmas.List.{take-map, drop-map, map-append, length-map, length-take, length-take-le, take_min}
use Rattle.std.specs.Int.{w64, to_le_bytes}
use Rattle.std.specs.List.{AllByRecursion}
use Rattle.session_model.specs.Journal.{counts_from}
use Rattle.session_model.proofs.Lists.{length-counts_from, counts_from-add}
use Rattle.sbe_prim.specs.declared.Order.TheVariants.{Little}
use Rattle.sofh_frame.specs.Framing.{Frame, spelled}
use Rattle.sofh_frame.specs.Splits.{spelled_all}
use Rattle.sofh_frame.proofs.SplitLemmas.{length-spelled}
use Rattle.fixp_msgs.specs.declared.frames.FrameKind.TheVariants.{App}
use Rattle.fixp_msgs.specs.Header.{kind_of}
use Rattle.fixp_msgs.specs.Payload.{IsApplication}
use Rattle.fixp_msgs.specs.Message.{sequence}
use Rattle.fixp_msgs.specs.Canonical.{frame_bytes}
use Rattle.fixp_msgs.specs.Numbering as numbering
use Rattle.fixp_datagram.specs.Datagrams.{Contents, most_bytes, SpellsDatagram}
use Rattle.fixp_datagram.specs.Packing.{frame_of, packed, cut_at}
use Rattle.cmd_datagram.specs.Messages.{payload_of}
use Rattle.cmd_datagram.specs.Delivered.{IsPacked, payloads_of}

message_of : ℕ → List ℕ
message_of k = 8 ∷ 0 ∷ 1 ∷ 0 ∷ 200 ∷ 0 ∷ 0 ∷ 0 ∷ to_le_bytes w64 k

its_frame : ℕ → Frame
its_frame k = record { order = Little; message = message_of k }

length-message : (k : ℕ) → length (message_of k) ≡ 16
unfolding message_of
length-message k = refl

application : (k : ℕ) → kind_of Little (message_of k) ≡ App
unfolding message_of
application k = refl

same_payload : (k : ℕ) → numbering.payload_of (its_frame k) ≡ payload_of k
unfolding message_of its_frame
same_payload k = refl

same_frame : (k : ℕ) → frame_of (payload_of k) ≡ its_frame k
unfolding message_of its_frame
same_frame k = refl

length-sequence : (n : ℕ) → length (frame_bytes (sequence n)) ≡ 22
length-sequence n = refl

length-its_message : (k : ℕ) → length (its_frame k).message ≡ 16
unfolding its_frame
length-its_message k = length-message k

one_frame : (k : ℕ) → length (spelled (frame_of (payload_of k))) ≡ 22
one_frame k = ap (λ (f : Frame). length (spelled f)) (same_frame k) ∙ (length-spelled (its_frame k) ∙ ap (λ (n : ℕ). 6 + n) (length-its_message k))

all_frames : (ks : List ℕ) → length (spelled_all (map frame_of (map payload_of ks))) ≡ 22 * length ks
all_frames [] = omega arith
all_frames (k ∷ ks) =
    omega (arith, length-append (spelled (frame_of (payload_of k))) (spelled_all (map frame_of (map payload_of ks))), one_frame k, all_frames ks)

length-packed : (first : ℕ) (ks : List ℕ) → length (packed first (map payload_of ks)) ≡ 22 + 22 * length ks
length-packed first ks =
    omega (arith, length-append (frame_bytes (sequence first)) (spelled_all (map frame_of (map payload_of ks))), length-sequence first, all_frames ks)

is_application : (k : ℕ) → IsApplication (payload_of k)
unfolding its_frame
is_application k = record {
  frame = its_frame k;
  admissible = record { least = omega (arith, length-message k); most = omega (arith, length-message k) };
  application = application k;
  spelled = same_payload k;
}

each_application : (ks : List ℕ) → AllByRecursion IsApplication (map payload_of ks)
each_application [] = tt
each_application (k ∷ ks) = (is_application k, each_application ks)

pub applications : (ps : List (List ℕ)) → ps ≡ payloads_of (length ps) → AllByRecursion IsApplication ps
applications ps is = subst (AllByRecursion IsApplication) (sym is) (each_application (counts_from 1 (length ps)))

-- ---- how many there are

pub length-payloads_of : (m : ℕ) → length (payloads_of m) ≡ m
length-payloads_of m = length-map (counts_from 1 m) payload_of ∙ length-counts_from 1 m

pub payloads_more : (k : ℕ) → payloads_of k ++ payload_of (k + 1) ∷ [] ≡ payloads_of (k + 1)
payloads_more k = sym (
    ap (map payload_of) (counts_from-add 1 k 1)
    ∙ (map-append payload_of (counts_from 1 k) (counts_from (1 + k) 1)
    ∙ ap (λ (n : ℕ). map payload_of (counts_from 1 k) ++ payload_of n ∷ []) (omega arith)))

-- ---- a datagram that is packed in room for so many

-- the size of a datagram with n of the payloads from a place on
size_of : (first from n : ℕ) (ps : List (List ℕ)) → ps ≡ payloads_of (length ps) → from + n ≤ length ps → length (packed first (take n (drop from ps))) ≡ 22 + 22 * n
size_of first from n ps is within =
    let ks : List ℕ = counts_from 1 (length ps) in
    let there : take n (drop from ps) ≡ map payload_of (take n (drop from ks)) =
    ap (λ (xs : List (List ℕ)). take n (drop from xs)) is ∙ (ap (take n) (drop-map payload_of from ks) ∙ take-map payload_of n (drop from ks)) in
    let left : length (drop from ks) ≡ length ps - from = length-drop from ks ∙ ap (λ (m : ℕ). m - from) (length-counts_from 1 (length ps)) in
    let count : length (take n (drop from ks)) ≡ n = length-take-le n (drop from ks) (omega (arith, left, within)) in
    ap (λ (xs : List (List ℕ)). length (packed first xs)) there ∙ (length-packed first (take n (drop from ks)) ∙ ap (λ (m : ℕ). 22 + 22 * m) count)

abbrev contents_of : ℕ → List (List ℕ) → Contents
contents_of first payloads = record { first = first; payloads = payloads }

pub packed_one : (per place size taken room : ℕ) (ps : List (List ℕ)) (out : List ℕ) → ps ≡ payloads_of (length ps) → 1 ≤ per → per ≤ 64 → room ≡ 22 * (per + 1)
    → place * per + taken ≤ length ps
    → SpellsDatagram (take size out) (record { first = place * per + 1; payloads = take taken (drop (place * per) ps) })
    → size ≡ length (packed (place * per + 1) (take taken (drop (place * per) ps)))
    → size ≤ min room most_bytes
    → ((n : ℕ) → place * per + n ≤ length ps → length (packed (place * per + 1) (take n (drop (place * per) ps))) ≤ min room most_bytes → n ≤ taken)
    → IsPacked (take size out) (cut_at per ps (place + 1))
packed_one per place size taken room ps out is least most roomy within spells counts fits longest =
    let from : ℕ = place * per in
    let left : List (List ℕ) = drop from ps in
    let behind : length left ≡ length ps - from = length-drop from ps in
    let its_size : size ≡ 22 + 22 * taken = counts ∙ size_of (from + 1) from taken ps is within in
    let few : taken ≤ per = omega (arith, its_size, fits, roomy) in
    let wanted : ℕ = min per (length left) in
    let wanted_within : from + wanted ≤ length ps = omega (arith, behind, within) in
    let wanted_size : length (packed (from + 1) (take wanted left)) ≡ 22 + 22 * wanted = size_of (from + 1) from wanted ps is wanted_within in
    let many : wanted ≤ taken = longest wanted wanted_within (omega (arith, wanted_size, roomy, most)) in
    let exactly : taken ≡ wanted = omega (arith, few, many, behind, within) in
    let same : take taken left ≡ take per left = ap (λ (n : ℕ). take n left) exactly ∙ take_min per left in
    let at : ℕ → Contents = λ p. record { first = 1 + p * per; payloads = take per (drop (p * per) ps) } in
    let contents : record { first = from + 1; payloads = take taken left } ≡ at (place + 1 - 1) =
    ap (λ (xs : List (List ℕ)). contents_of (from + 1) xs) same
    ∙ (ap (λ (n : ℕ). contents_of n (take per left)) (omega arith) ∙ ap at (omega arith)) in
    record {
      short = omega (arith, length-take size out, fits);
      spells = subst (SpellsDatagram (take size out)) contents spells;
    }
