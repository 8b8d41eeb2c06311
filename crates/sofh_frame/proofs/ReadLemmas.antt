-- Reading the frames of a stream one by one, from bytes that come in pieces.
use Rattle.std.proofs.Common.{◌≡◌, ℕ, ◌+◌, ◌<◌, ◌≤◌, List, [], ◌∷◌, ◌++◌, length, take, drop, refl, sym, ◌∙◌, ap, subst, arith, append_assoc, take-add, get_or, Bor}
use Rattle.std.specs.List.{AllByRecursion}
use Rattle.std.proofs.lemmas.List.{length-append, append-nil, take-append-drop, take_all}
use Rattle.std.proofs.Math.Seq.{take-length}
use Rattle.std.proofs.lemmas.Grind.{flat_map-append, take_at_read}
use Rattle.sofh_frame.specs.Framing.{Frame, IsFrame, spelled, First, rest, first_of, BeginsWith}
use Rattle.sofh_frame.specs.Splits.{spelled_all, place_behind, IsNoFrame, IsSplit, frames_of, tail_of}
use Rattle.sofh_frame.specs.OwnedSplit.{frames_seen, end_seen, joined, SplitsAs, IsRead, IsEndAt}
use Rattle.sofh_frame.specs.declared.pieces.Split.{Split}
use Rattle.sofh_frame.specs.declared.pieces.End.{End}
use Rattle.sofh_frame.specs.declared.pieces.End.TheVariants.{Rest, BadLength, BadEncoding}
use Rattle.sofh_frame.proofs.FramingLemmas.{bad_length-append, bad_encoding-append}
use Rattle.sofh_frame.proofs.SplitLemmas.{length-spelled, spelled_all-push, AllByRecursion-push, frames_of-split, tail_of-split}

-- the frame at the front goes behind those of the split
pub IsRead-push : (bytes : List ℕ) (old new : Split) (held left : List ℕ) (f : Frame) (size : ℕ) → frames_seen new.frames.items ≡ frames_seen old.frames.items ++ f ∷ [] → new.at ≡ old.at + size → left ≡ drop size held → BeginsWith held f size → IsRead bytes old held → IsRead bytes new left
IsRead-push bytes old new held left f size frames_are at_is left_is begins read =
    let frames = frames_seen old.frames.items in
    let spelled_are : spelled_all (frames_seen new.frames.items) ≡ spelled_all frames ++ spelled f = ap spelled_all frames_are ∙ spelled_all-push frames f in
    let each : AllByRecursion IsFrame (frames ++ f ∷ []) = AllByRecursion-push IsFrame frames f read.each begins.admissible in
    let P : List Frame → Type 0 = AllByRecursion IsFrame in
    record {
      joins =
          read.joins ∙ ap (λ (xs : List ℕ). spelled_all frames ++ xs) begins.spells
          ∙ sym (append_assoc (spelled_all frames) (spelled f) (drop size held))
          ∙ ap (λ (xs : List ℕ). xs ++ drop size held) (sym spelled_are)
          ∙ ap (λ (xs : List ℕ). spelled_all (frames_seen new.frames.items) ++ xs) (sym left_is);
      each = subst P (sym frames_are) each;
      at = omega (arith, at_is, read.at, begins.counts, length-spelled f, ap length spelled_are, length-append (spelled_all frames) (spelled f));
    }

-- more bytes of a piece are held
pub IsRead-pour : (bytes piece unread held more : List ℕ) (split : Split) (taken n : ℕ) → unread ≡ drop taken piece → more ≡ held ++ take n unread → IsRead (bytes ++ take taken piece) split held → IsRead (bytes ++ take (taken + n) piece) split more
IsRead-pour bytes piece unread held more split taken n unread_is more_is read =
    let frames = spelled_all (frames_seen split.frames.items) in
    record {
      joins =
          ap (λ (xs : List ℕ). bytes ++ xs) (take-add taken n piece ∙ ap (λ (xs : List ℕ). take taken piece ++ take n xs) (sym unread_is))
          ∙ sym (append_assoc bytes (take taken piece) (take n unread))
          ∙ ap (λ (xs : List ℕ). xs ++ take n unread) read.joins
          ∙ append_assoc frames held (take n unread)
          ∙ ap (λ (xs : List ℕ). frames ++ xs) (sym more_is);
      each = read.each;
      at = read.at;
    }

-- the end that stands plays no part in what was read
pub IsRead-end : (bytes : List ℕ) (split : Split) (held : List ℕ) (end : End) → IsRead bytes split held → IsRead bytes (record split { end = end }) held
IsRead-end bytes split held end read = record { joins = read.joins; each = read.each; at = read.at }

-- an end is no frame
end_is_no_frame : (end : End) (tail : List ℕ) → IsEndAt end tail → IsNoFrame (first_of tail)
end_is_no_frame Rest tail here = let P : First → Type 0 = IsNoFrame in subst P here tt
end_is_no_frame (BadLength n) tail here = let P : First → Type 0 = IsNoFrame in subst P here tt
end_is_no_frame (BadEncoding n) tail here = let P : First → Type 0 = IsNoFrame in subst P here tt

-- a fault stays where more bytes come
IsEndAt-append : (end : End) (tail more : List ℕ) → (end_seen end ≡ rest → ⊥) → IsEndAt end tail → IsEndAt end (tail ++ more)
IsEndAt-append Rest tail more fault here = absurd (fault refl)
IsEndAt-append (BadLength n) tail more fault here = sym (bad_length-append tail more n (sym here))
IsEndAt-append (BadEncoding n) tail more fault here = sym (bad_encoding-append tail more n (sym here))

-- what was read, and more bytes behind it that leave the end as it is, are split
SplitsAs-read : (bytes all held tail : List ℕ) (split : Split) → all ≡ spelled_all (frames_seen split.frames.items) ++ tail → IsRead bytes split held → IsEndAt split.end tail → SplitsAs all split
SplitsAs-read bytes all held tail split joins read here =
    let frames = frames_seen split.frames.items in
    let one : IsSplit all frames tail = record { joins = joins; each = read.each; ends = end_is_no_frame split.end tail here } in
    let frames_are : frames_of all ≡ frames = frames_of-split all frames tail one in
    let tail_is : tail_of all ≡ tail = tail_of-split all frames tail one in
    let P : List ℕ → Type 0 = IsSplit all frames in
    record {
      split = subst P (sym tail_is) one;
      frames = sym frames_are;
      place = read.at ∙ ap place_behind (sym frames_are);
      end = here ∙ ap first_of (sym tail_is);
    }

SplitsAs-rest : (bytes held : List ℕ) (split : Split) → IsRead bytes split held → IsEndAt split.end held → SplitsAs bytes split
SplitsAs-rest bytes held split read here = SplitsAs-read bytes bytes held held split read.joins read here

SplitsAs-fault : (bytes more held : List ℕ) (split : Split) → IsRead bytes split held → IsEndAt split.end held → (end_seen split.end ≡ rest → ⊥) → SplitsAs (bytes ++ more) split
SplitsAs-fault bytes more held split read here fault =
    SplitsAs-read bytes (bytes ++ more) held (held ++ more) split
    (ap (λ (xs : List ℕ). xs ++ more) read.joins ∙ append_assoc (spelled_all (frames_seen split.frames.items)) held more)
    read (IsEndAt-append split.end held more fault here)

-- the pieces so far, and one more
joined-more : (pieces : List (Bor (List ℕ))) (i : ℕ) (d : Bor (List ℕ)) → i < length pieces → joined (take (i + 1) pieces) ≡ joined (take i pieces) ++ (get_or pieces i d).now
joined-more pieces i d within =
    ap joined (take_at_read pieces i d within).1
    ∙ flat_map-append (λ (piece : Bor (List ℕ)). piece.now) (take i pieces) (get_or pieces i d ∷ [])
    ∙ ap (λ (xs : List ℕ). joined (take i pieces) ++ xs) (append-nil (get_or pieces i d).now)

-- the pieces up to a place within one, and what is left
joined-within : (pieces : List (Bor (List ℕ))) (i taken : ℕ) (d : Bor (List ℕ)) → i < length pieces → (joined (take i pieces) ++ take taken (get_or pieces i d).now) ++ (drop taken (get_or pieces i d).now ++ joined (drop (i + 1) pieces)) ≡ joined pieces
joined-within pieces i taken d within =
    let before = joined (take i pieces) in
    let piece = (get_or pieces i d).now in
    let after = joined (drop (i + 1) pieces) in
    append_assoc before (take taken piece) (drop taken piece ++ after)
    ∙ ap (λ (xs : List ℕ). before ++ xs) (sym (append_assoc (take taken piece) (drop taken piece) after) ∙ ap (λ (xs : List ℕ). xs ++ after) (take-append-drop taken piece))
    ∙ sym (append_assoc before piece after)
    ∙ ap (λ (xs : List ℕ). xs ++ after) (sym (joined-more pieces i d within))
    ∙ sym (flat_map-append (λ (piece : Bor (List ℕ)). piece.now) (take (i + 1) pieces) (drop (i + 1) pieces))
    ∙ ap joined (take-append-drop (i + 1) pieces)

-- a piece that was taken whole is read
pub IsRead-piece : (pieces : List (Bor (List ℕ))) (i taken : ℕ) (d : Bor (List ℕ)) (split : Split) (held : List ℕ) → i < length pieces → taken ≡ length (get_or pieces i d).now → IsRead (joined (take i pieces) ++ take taken (get_or pieces i d).now) split held → IsRead (joined (take (i + 1) pieces)) split held
IsRead-piece pieces i taken d split held within all read =
    let piece = (get_or pieces i d).now in
    let whole : joined (take (i + 1) pieces) ≡ joined (take i pieces) ++ take taken piece =
    joined-more pieces i d within ∙ ap (λ (xs : List ℕ). joined (take i pieces) ++ xs) (sym (ap (λ (n : ℕ). take n piece) all ∙ take-length piece)) in
    record { joins = whole ∙ read.joins; each = read.each; at = read.at }

-- a fault within a piece ends the split of all of them
pub SplitsAs-within : (pieces : List (Bor (List ℕ))) (i taken : ℕ) (d : Bor (List ℕ)) (split : Split) (held : List ℕ) → i < length pieces → IsRead (joined (take i pieces) ++ take taken (get_or pieces i d).now) split held → IsEndAt split.end held → (end_seen split.end ≡ rest → ⊥) → SplitsAs (joined pieces) split
SplitsAs-within pieces i taken d split held within read here fault =
    let P : List ℕ → Type 0 = λ bytes. SplitsAs bytes split in
    subst P (joined-within pieces i taken d within) (SplitsAs-fault (joined (take i pieces) ++ take taken (get_or pieces i d).now) (drop taken (get_or pieces i d).now ++ joined (drop (i + 1) pieces)) held split read here fault)

-- without a fault all pieces are read
pub SplitsAs-all : (pieces : List (Bor (List ℕ))) (i : ℕ) (split : Split) (held : List ℕ) → length pieces ≤ i → IsRead (joined (take i pieces)) split held → IsEndAt split.end held → SplitsAs (joined pieces) split
SplitsAs-all pieces i split held all read here =
    let P : List ℕ → Type 0 = λ bytes. SplitsAs bytes split in
    subst P (ap joined (take_all i pieces all)) (SplitsAs-rest (joined (take i pieces)) held split read here)
