-- Bytes spell at most one datagram, and fail to for at most one reason.
use Rattle.std.proofs.Common.{◌≡◌, ℕ, ◌+◌, ◌<◌, ◌≤◌, List, [], ◌∷◌, ◌++◌, map, length, drop, Result, Ok, Err, IsOkAnd, IsErrOf, refl, sym, ap, subst, ◌∙◌, arith, append_assoc, length-append}
use Rattle.std.specs.List.{AllByRecursion}
use Rattle.sbe_prim.specs.declared.Order.{Order}
use Rattle.sofh_frame.specs.Framing.{Frame, IsFrame, spelled, frame, first_of}
use Rattle.sofh_frame.specs.Splits.{spelled_all}
use Rattle.sofh_frame.proofs.FramingLemmas.{frame-begins}
use Rattle.sofh_frame.proofs.SplitLemmas.{length-spelled, drop-spelled}
use Rattle.fixp_msgs.specs.Message.{sequence}
use Rattle.fixp_msgs.specs.Grammar.{Spells}
use Rattle.fixp_msgs.specs.Numbering.{payload_of}
use Rattle.fixp_msgs.proofs.Rows.{at_most_one}
use Rattle.fixp_datagram.specs.declared.datagram.Datagram.{Datagram}
use Rattle.fixp_datagram.specs.declared.datagram.DgFault.{DgFault}
use Rattle.fixp_datagram.specs.declared.datagram.DgFault.TheVariants.{NoSequence, BadFrame, TooLong}
use Rattle.fixp_datagram.specs.Datagrams.{Contents, most_bytes, IsApplicationFrame, BeginsWithSequence, BeginsWithApplications, SpellsDatagram}
use Rattle.fixp_datagram.specs.Faults.{IsBadAt, HasCause}
use Rattle.fixp_datagram.specs.Answering.{Answers}
use Rattle.fixp_datagram.specs.Laws.{OneDatagram}

-- a frame has bytes
pub no_frame_in_nothing : (f : Frame) (more : List ℕ) → [] ≡ spelled f ++ more → ⊥
no_frame_in_nothing f more e = absurd (omega (arith, ap length e, length-append (spelled f) more, length-spelled f))

-- two frames at the front of the same bytes are one
pub record SameFront (f g : Frame) (a b : List ℕ) : Type 0 where
  pub frames : f ≡ g
  pub behind : a ≡ b

pub same_front : (f g : Frame) (a b : List ℕ) → IsFrame f → IsFrame g → spelled f ++ a ≡ spelled g ++ b → SameFront f g a b
same_front f g a b whole whole' e =
    let found : frame f.order f.message (6 + length f.message) ≡ frame g.order g.message (6 + length g.message) =
    sym (frame-begins f a whole) ∙ (ap first_of e ∙ frame-begins g b whole') in
    let orders : f.order ≡ g.order = cc found in
    let messages : f.message ≡ g.message = cc found in
    let F : Order → List ℕ → Frame = λ o m. record { order = o; message = m } in
    record {
      frames = ap (λ o. F o f.message) orders ∙ ap (λ m. F g.order m) messages;
      behind = sym (drop-spelled f a)
          ∙ (ap (λ bytes. drop (6 + length f.message) bytes) e
          ∙ (ap (λ m. drop (6 + length m) (spelled g ++ b)) messages ∙ drop-spelled g b));
    }

-- the Sequence at the front, and what stands behind it
pub record SameSequence (n m : ℕ) (a b : List ℕ) : Type 0 where
  pub numbers : n ≡ m
  pub behind : a ≡ b

pub same_sequence : (bytes : List ℕ) (n m : ℕ) (a b : List ℕ) → BeginsWithSequence bytes n a → BeginsWithSequence bytes m b → SameSequence n m a b
same_sequence bytes n m a b s t =
    let same = same_front s.head t.head a b s.announces.admissible t.announces.admissible (sym s.joins ∙ t.joins) in
    let spelled_same : sequence n ≡ sequence m =
    at_most_one t.head.message (sequence n) (sequence m)
    (subst (λ (f : Frame). Spells f.message (sequence n)) same.frames s.announces.sequence) t.announces.sequence in
    record { numbers = cc spelled_same; behind = same.behind }

-- no application frame stands at the front
abbrev pub HasNone : List ℕ → Type 0
HasNone bytes = (f : Frame) (more : List ℕ) → IsApplicationFrame f → bytes ≡ spelled f ++ more → ⊥

none_in_nothing : HasNone []
none_in_nothing f more app e = no_frame_in_nothing f more e

-- the application frames at the front, as many as there are
record SameFrames (fs gs : List Frame) (t u : List ℕ) : Type 0 where
  frames : fs ≡ gs
  tails : t ≡ u

same_frames : (fs gs : List Frame) (t u : List ℕ) → AllByRecursion IsApplicationFrame fs → AllByRecursion IsApplicationFrame gs → HasNone t → HasNone u
    → spelled_all fs ++ t ≡ spelled_all gs ++ u → SameFrames fs gs t u
same_frames [] [] t u each others none none' e = record { frames = refl; tails = e }
same_frames [] (g ∷ gs) t u each others none none' e =
    absurd (none g (spelled_all gs ++ u) others.0 (e ∙ append_assoc (spelled g) (spelled_all gs) u))
same_frames (f ∷ fs) [] t u each others none none' e =
    absurd (none' f (spelled_all fs ++ t) each.0 (sym e ∙ append_assoc (spelled f) (spelled_all fs) t))
same_frames (f ∷ fs) (g ∷ gs) t u each others none none' e =
    let same = same_front f g (spelled_all fs ++ t) (spelled_all gs ++ u) each.0.admissible others.0.admissible
    (sym (append_assoc (spelled f) (spelled_all fs) t) ∙ (e ∙ append_assoc (spelled g) (spelled_all gs) u)) in
    let rest = same_frames fs gs t u each.1 others.1 none none' same.behind in
    record { frames = ap (λ x. x ∷ fs) same.frames ∙ ap (λ xs. g ∷ xs) rest.frames; tails = rest.tails }

record SameApplications (ps qs : List (List ℕ)) (t u : List ℕ) : Type 0 where
  payloads : ps ≡ qs
  tails : t ≡ u

same_applications : (a b : List ℕ) (ps qs : List (List ℕ)) (t u : List ℕ) → a ≡ b → BeginsWithApplications a ps t → BeginsWithApplications b qs u
    → HasNone t → HasNone u → SameApplications ps qs t u
same_applications a b ps qs t u e x y none none' =
    let same = same_frames x.frames y.frames t u x.each y.each none none' (sym x.joins ∙ (e ∙ y.joins)) in
    record { payloads = sym x.holds ∙ (ap (λ fs. map payload_of fs) same.frames ∙ y.holds); tails = same.tails }

pub one_datagram : OneDatagram
one_datagram bytes a b s t =
    let heads = same_sequence bytes a.first b.first s.behind t.behind s.sequence t.sequence in
    let rest = same_applications s.behind t.behind a.payloads b.payloads [] [] heads.behind s.applications t.applications none_in_nothing none_in_nothing in
    let C : ℕ → List (List ℕ) → Contents = λ n ps. record { first = n; payloads = ps } in
    ap (λ n. C n a.payloads) heads.numbers ∙ ap (λ ps. C b.first ps) rest.payloads

-- a datagram has no place that is bad
never_both : (bytes : List ℕ) (at : ℕ) (d : Contents) → SpellsDatagram bytes d → IsBadAt bytes at → ⊥
never_both bytes at d s bad =
    let heads = same_sequence bytes d.first bad.first s.behind bad.behind s.sequence bad.sequence in
    let rest = same_applications s.behind bad.behind d.payloads bad.payloads [] bad.tail heads.behind s.applications bad.applications none_in_nothing bad.none in
    bad.some (sym rest.tails)

-- and bytes have one bad place at most
one_place : (bytes : List ℕ) (at other : ℕ) → IsBadAt bytes at → IsBadAt bytes other → at ≡ other
one_place bytes at other x y =
    let heads = same_sequence bytes x.first y.first x.behind y.behind x.sequence y.sequence in
    let rest = same_applications x.behind y.behind x.payloads y.payloads x.tail y.tail heads.behind x.applications y.applications x.none y.none in
    omega (arith, x.place, y.place, ap length rest.tails)

-- what an answer says, in the other direction
pub answered_only : (bytes : List ℕ) (r : Result Datagram DgFault) → Answers bytes r → (d : Contents) → length bytes ≤ most_bytes → SpellsDatagram bytes d
    → IsOkAnd r (λ x. x ≡ d)
answered_only bytes (Ok x) a d short s = one_datagram bytes x d a.1 s
answered_only bytes (Err TooLong) a d short s = absurd (omega (arith, a, short))
answered_only bytes (Err NoSequence) a d short s = absurd (a.1 d.first s.behind s.sequence)
answered_only bytes (Err (BadFrame at)) a d short s = absurd (never_both bytes at d s a.1)

pub answered_too_long : (bytes : List ℕ) (r : Result Datagram DgFault) → Answers bytes r → most_bytes < length bytes → IsErrOf r TooLong
answered_too_long bytes (Ok x) a long = absurd (omega (arith, a.0, long))
answered_too_long bytes (Err TooLong) a long = refl
answered_too_long bytes (Err NoSequence) a long = absurd (omega (arith, a.0, long))
answered_too_long bytes (Err (BadFrame at)) a long = absurd (omega (arith, a.0, long))

pub answered_no_sequence : (bytes : List ℕ) (r : Result Datagram DgFault) → Answers bytes r → HasCause bytes NoSequence → IsErrOf r NoSequence
answered_no_sequence bytes (Ok x) a none = absurd (none.1 x.first a.1.behind a.1.sequence)
answered_no_sequence bytes (Err TooLong) a none = absurd (omega (arith, a, none.0))
answered_no_sequence bytes (Err NoSequence) a none = refl
answered_no_sequence bytes (Err (BadFrame at)) a none = absurd (none.1 a.1.first a.1.behind a.1.sequence)

pub answered_bad_frame : (bytes : List ℕ) (r : Result Datagram DgFault) → Answers bytes r → (at : ℕ) → HasCause bytes (BadFrame at) → IsErrOf r (BadFrame at)
answered_bad_frame bytes (Ok x) a at bad = absurd (never_both bytes at x a.1 bad.1)
answered_bad_frame bytes (Err TooLong) a at bad = absurd (omega (arith, a, bad.0))
answered_bad_frame bytes (Err NoSequence) a at bad = absurd (a.1 bad.1.first bad.1.behind bad.1.sequence)
answered_bad_frame bytes (Err (BadFrame other)) a at bad = ap (λ n. Err (BadFrame n)) (one_place bytes other at a.1 bad.1)
