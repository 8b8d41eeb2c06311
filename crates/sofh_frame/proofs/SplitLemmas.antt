-- A list of bytes has one split into frames and a tail, and it is found from the front.
use Rattle.std.proofs.Common.{◌≡◌, ℕ, zero, suc, ◌+◌, ◌<◌, ◌≤◌, List, [], ◌∷◌, ◌++◌, length, drop, refl, sym, ◌∙◌, ap, subst, arith, append_assoc}
use Rattle.std.specs.List.{AllByRecursion}
use Rattle.std.proofs.lemmas.List.{length-append, length-drop, drop-drop, append-nil}
use Rattle.std.proofs.lemmas.List.Elements.{All-drop}
use Rattle.std.proofs.lemmas.Grind.{flat_map-append}
use Rattle.std.proofs.Math.Seq.{drop-append_seam}
use Rattle.sofh_frame.specs.Framing.{Frame, IsFrame, header_of, spelled, IsBytes, First, frame, rest, bad_length, bad_encoding, first_of}
use Rattle.sofh_frame.specs.Splits.{spelled_all, place_behind, IsNoFrame, IsSplit, frames_from, frames_within, frames_of, tail_of, SplitsAreOne, BytesAreSplit, SplitBegins}
use Rattle.sofh_frame.proofs.FramingLemmas.{length-header_of, counts-frame, IsFrame-frame, begins-frame, frame-begins}

-- a frame has 6 bytes more than its message
pub length-spelled : (f : Frame) → length (spelled f) ≡ 6 + length f.message
length-spelled f = length-append (header_of f) f.message ∙ ap (λ (n : ℕ). n + length f.message) (length-header_of f)

-- behind a frame stands what was put there
pub drop-spelled : (f : Frame) (more : List ℕ) → drop (6 + length f.message) (spelled f ++ more) ≡ more
drop-spelled f more = ap (λ (n : ℕ). drop n (spelled f ++ more)) (sym (length-spelled f)) ∙ drop-append_seam (spelled f) more

-- one more frame behind others
pub spelled_all-push : (frames : List Frame) (f : Frame) → spelled_all (frames ++ f ∷ []) ≡ spelled_all frames ++ spelled f
spelled_all-push frames f = flat_map-append spelled frames (f ∷ []) ∙ ap (λ (xs : List ℕ). spelled_all frames ++ xs) (append-nil (spelled f))

pub AllByRecursion-push : {X : Type 0} (P : X → Type 0) (xs : List X) (x : X) → AllByRecursion P xs → P x → AllByRecursion P (xs ++ x ∷ [])
AllByRecursion-push P [] x each last = (last, tt)
AllByRecursion-push P (y ∷ xs) x each last = (each.0, AllByRecursion-push P xs x each.1 last)

-- a frame in front of a split
pub IsSplit-cons : (bytes : List ℕ) (f : Frame) (more : List ℕ) (frames : List Frame) (tail : List ℕ) → bytes ≡ spelled f ++ more → IsFrame f → IsSplit more frames tail → IsSplit bytes (f ∷ frames) tail
IsSplit-cons bytes f more frames tail begins admissible split = record {
  joins = begins ∙ ap (λ (xs : List ℕ). spelled f ++ xs) split.joins ∙ sym (append_assoc (spelled f) (spelled_all frames) tail);
  each = (admissible, split.each);
  ends = split.ends;
}

-- what is no frame gives no frames
frames_from-none : (first : First) (behind : ℕ → List Frame) → IsNoFrame first → frames_from first behind ≡ []
frames_from-none (frame order message size) behind none = absurd none
frames_from-none rest behind none = refl
frames_from-none (bad_length n) behind none = refl
frames_from-none (bad_encoding encoding) behind none = refl

-- the frames of a split are found from the front
frames_within-spelled : (count : ℕ) (frames : List Frame) (tail : List ℕ) → length frames ≤ count → AllByRecursion IsFrame frames → IsNoFrame (first_of tail) → frames_within count (spelled_all frames ++ tail) ≡ frames
unfolding frames_within
frames_within-spelled zero [] tail enough each none = refl
frames_within-spelled zero (f ∷ frames) tail enough each none = absurd (omega arith)
frames_within-spelled (suc count) [] tail enough each none = frames_from-none (first_of tail) (λ size. frames_within count (drop size tail)) none
frames_within-spelled (suc count) (f ∷ frames) tail enough each none =
    let more = spelled_all frames ++ tail in
    let bytes = (spelled f ++ spelled_all frames) ++ tail in
    let joined : bytes ≡ spelled f ++ more = append_assoc (spelled f) (spelled_all frames) tail in
    let found : first_of bytes ≡ frame f.order f.message (6 + length f.message) = ap first_of joined ∙ frame-begins f more each.0 in
    let behind : drop (6 + length f.message) bytes ≡ more = ap (drop (6 + length f.message)) joined ∙ drop-spelled f more in
    ap (λ (first : First). frames_from first (λ size. frames_within count (drop size bytes))) found
    ∙ ap (λ (xs : List ℕ). f ∷ frames_within count xs) behind
    ∙ ap (λ (fs : List Frame). f ∷ fs) (frames_within-spelled count frames tail (omega arith) each.1 none)

-- there are not more frames than bytes
length-spelled_all : (frames : List Frame) → length frames ≤ length (spelled_all frames)
length-spelled_all [] = omega arith
length-spelled_all (f ∷ frames) = omega (arith, length-append (spelled f) (spelled_all frames), length-spelled f, length-spelled_all frames)

-- whatever split is given, it is the one that is found
pub frames_of-split : (bytes : List ℕ) (frames : List Frame) (tail : List ℕ) → IsSplit bytes frames tail → frames_of bytes ≡ frames
unfolding frames_of
frames_of-split bytes frames tail split =
    let enough : length frames ≤ length bytes = omega (arith, length-spelled_all frames, length-append (spelled_all frames) tail, ap length split.joins) in
    ap (frames_within (length bytes)) split.joins ∙ frames_within-spelled (length bytes) frames tail enough split.each split.ends

pub tail_of-split : (bytes : List ℕ) (frames : List Frame) (tail : List ℕ) → IsSplit bytes frames tail → tail_of bytes ≡ tail
unfolding tail_of
tail_of-split bytes frames tail split =
    ap (λ (fs : List Frame). drop (place_behind fs) bytes) (frames_of-split bytes frames tail split)
    ∙ ap (drop (place_behind frames)) split.joins
    ∙ drop-append_seam (spelled_all frames) tail

pub splits_are_one : SplitsAreOne
splits_are_one bytes frames others tail end one other =
    (sym (frames_of-split bytes frames tail one) ∙ frames_of-split bytes others end other, sym (tail_of-split bytes frames tail one) ∙ tail_of-split bytes others end other)

-- the frames that are found are a split, whose tail is named below
record HasSplit (bytes : List ℕ) (frames : List Frame) : Type 0 where
  tail : List ℕ
  split : IsSplit bytes frames tail

ends_here : (bytes : List ℕ) → IsNoFrame (first_of bytes) → HasSplit bytes []
ends_here bytes none = record { tail = bytes; split = record { joins = refl; each = tt; ends = none } }

-- one step: what stands at the front, and the split of what is behind a frame
split-step : (bytes : List ℕ) (first : First) (behind : ℕ → List Frame) → IsBytes bytes → first_of bytes ≡ first → ((size : ℕ) → 14 ≤ size → HasSplit (drop size bytes) (behind size)) → HasSplit bytes (frames_from first behind)
split-step bytes (frame order message size) behind are_bytes e steps =
    let f : Frame = record { order = order; message = message } in
    let begins = begins-frame bytes f size are_bytes e in
    let more = steps size (omega (arith, begins.counts, begins.admissible.least)) in
    record { tail = more.tail; split = IsSplit-cons bytes f (drop size bytes) (behind size) more.tail begins.spells begins.admissible more.split }
split-step bytes rest behind are_bytes e steps = ends_here bytes (let P : First → Type 0 = IsNoFrame in subst P (sym e) tt)
split-step bytes (bad_length n) behind are_bytes e steps = ends_here bytes (let P : First → Type 0 = IsNoFrame in subst P (sym e) tt)
split-step bytes (bad_encoding encoding) behind are_bytes e steps = ends_here bytes (let P : First → Type 0 = IsNoFrame in subst P (sym e) tt)

frames_within-split : (count : ℕ) (bytes : List ℕ) → IsBytes bytes → length bytes ≤ count → HasSplit bytes (frames_within count bytes)
unfolding frames_within
frames_within-split zero [] are_bytes short = ends_here [] tt
frames_within-split zero (b ∷ bytes) are_bytes short = absurd (omega arith)
frames_within-split (suc count) bytes are_bytes short =
    split-step bytes (first_of bytes) (λ size. frames_within count (drop size bytes)) are_bytes refl
    (λ size least. frames_within-split count (drop size bytes) (All-drop (λ b. b < 256) size bytes are_bytes) (omega (arith, length-drop size bytes)))

pub bytes_are_split : BytesAreSplit
unfolding frames_of
bytes_are_split bytes are_bytes =
    let found = frames_within-split (length bytes) bytes are_bytes (omega arith) in
    let P : List ℕ → Type 0 = IsSplit bytes (frames_of bytes) in
    subst P (sym (tail_of-split bytes (frames_of bytes) found.tail found.split)) found.split

-- the split behind a first frame
pub IsSplit-tail : (bytes : List ℕ) (f : Frame) (size : ℕ) (frames : List Frame) (tail : List ℕ) → size ≡ 6 + length f.message → IsSplit bytes (f ∷ frames) tail → IsSplit (drop size bytes) frames tail
IsSplit-tail bytes f size frames tail counts split =
    let more = spelled_all frames ++ tail in
    let joined : bytes ≡ spelled f ++ more = split.joins ∙ append_assoc (spelled f) (spelled_all frames) tail in
    record {
      joins = ap (λ (n : ℕ). drop n bytes) counts ∙ ap (drop (6 + length f.message)) joined ∙ drop-spelled f more;
      each = split.each.1;
      ends = split.ends;
    }

pub split_begins : SplitBegins
split_begins bytes f size are_bytes e frames tail =
    let begins = begins-frame bytes f size are_bytes e in
    (IsSplit-tail bytes f size frames tail begins.counts, IsSplit-cons bytes f (drop size bytes) frames tail begins.spells begins.admissible)

-- two ways on that agree behind every frame give the same frames
same_behind : (bytes : List ℕ) (first : First) (one other : ℕ → List Frame) → first_of bytes ≡ first → ((size : ℕ) → 14 ≤ size → one size ≡ other size) → frames_from first one ≡ frames_from first other
same_behind bytes (frame order message size) one other e same =
    let counted = counts-frame bytes order message size e in
    let admissible = IsFrame-frame bytes order message size e in
    ap (λ (fs : List Frame). let f : Frame = record { order = order; message = message } in f ∷ fs) (same size (omega (arith, counted, admissible.least)))
same_behind bytes rest one other e same = refl
same_behind bytes (bad_length n) one other e same = refl
same_behind bytes (bad_encoding encoding) one other e same = refl

-- a longer search finds no more frames
frames_within-enough : (count more : ℕ) (bytes : List ℕ) → length bytes ≤ count → length bytes ≤ more → frames_within count bytes ≡ frames_within more bytes
unfolding frames_within
frames_within-enough zero zero bytes short within = refl
frames_within-enough zero (suc more) [] short within = refl
frames_within-enough zero (suc more) (b ∷ bytes) short within = absurd (omega arith)
frames_within-enough (suc count) zero [] short within = refl
frames_within-enough (suc count) zero (b ∷ bytes) short within = absurd (omega arith)
frames_within-enough (suc count) (suc more) bytes short within =
    same_behind bytes (first_of bytes) (λ size. frames_within count (drop size bytes)) (λ size. frames_within more (drop size bytes)) refl
    (λ size least. frames_within-enough count more (drop size bytes) (omega (arith, length-drop size bytes)) (omega (arith, length-drop size bytes)))

-- the frames of bytes that begin with a frame: it, and those of what is behind it
pub frames_of-front : (f : Frame) (behind : List ℕ) → IsFrame f → frames_of (spelled f ++ behind) ≡ f ∷ frames_of behind
unfolding frames_of frames_within
frames_of-front f behind admissible =
    let bytes = spelled f ++ behind in
    let long : length behind ≤ length bytes = omega (arith, length-append (spelled f) behind) in
    frames_within-enough (length bytes) (suc (length bytes)) bytes (omega arith) (omega arith)
    ∙ ap (λ (first : First). frames_from first (λ size. frames_within (length bytes) (drop size bytes))) (frame-begins f behind admissible)
    ∙ ap (λ (xs : List ℕ). f ∷ frames_within (length bytes) xs) (drop-spelled f behind)
    ∙ ap (λ (fs : List Frame). f ∷ fs) (frames_within-enough (length bytes) (length behind) behind long (omega arith))

-- the same for several frames
pub frames_of-spelled_all : (frames : List Frame) (behind : List ℕ) → AllByRecursion IsFrame frames → frames_of (spelled_all frames ++ behind) ≡ frames ++ frames_of behind
frames_of-spelled_all [] behind each = refl
frames_of-spelled_all (f ∷ frames) behind each =
    ap frames_of (append_assoc (spelled f) (spelled_all frames) behind)
    ∙ frames_of-front f (spelled_all frames ++ behind) each.0
    ∙ ap (λ (fs : List Frame). f ∷ fs) (frames_of-spelled_all frames behind each.1)

pub tail_of-spelled_all : (frames : List Frame) (behind : List ℕ) → AllByRecursion IsFrame frames → tail_of (spelled_all frames ++ behind) ≡ tail_of behind
unfolding tail_of
tail_of-spelled_all frames behind each =
    let all = spelled_all frames ++ behind in
    let place : place_behind (frames_of all) ≡ place_behind frames + place_behind (frames_of behind) =
    ap place_behind (frames_of-spelled_all frames behind each)
    ∙ ap length (flat_map-append spelled frames (frames_of behind))
    ∙ length-append (spelled_all frames) (spelled_all (frames_of behind)) in
    ap (λ (n : ℕ). drop n all) place
    ∙ sym (drop-drop (place_behind (frames_of behind)) (place_behind frames) all)
    ∙ ap (drop (place_behind (frames_of behind))) (drop-append_seam (spelled_all frames) behind)

-- where no frame stands at the front there is none, and all of the bytes follow
pub frames_of-none : (bytes : List ℕ) → IsNoFrame (first_of bytes) → frames_of bytes ≡ []
frames_of-none bytes none = frames_of-split bytes [] bytes (record { joins = refl; each = tt; ends = none })
