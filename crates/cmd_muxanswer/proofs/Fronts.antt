-- The answer to an input is one, and what was answered so far is a front of it.
use Rattle.std.proofs.Common.{◌≡◌, ◌⊎◌, inl, inr, ℕ, zero, suc, ◌+◌, List, [], ◌∷◌, ◌++◌, length, drop, Option, Some, None, slice_get, refl, sym, ◌∙◌, ap, subst, append_assoc, append-nil}
use Rattle.std.proofs.lemmas.Bool.{false≢true}
use Rattle.std.specs.Prelude.{fold, IsSome}
use Rattle.std.specs.List.{AllByRecursion}
use Rattle.std.proofs.lemmas.Grind.{flat_map-append}
use Rattle.sofh_frame.specs.Framing.{Frame, IsFrame, spelled, First, frame, rest, bad_length, bad_encoding, first_of}
use Rattle.sofh_frame.specs.Splits.{spelled_all}
use Rattle.sofh_frame.proofs.FramingLemmas.{frame-begins}
use Rattle.sofh_frame.proofs.SplitLemmas.{drop-spelled}
use Rattle.fixp_msgs.proofs.Rows.{at_most_one}
use Rattle.fixp_replies.specs.Incoming.{Incoming, IsIncoming}
use Rattle.fixp_end.proofs.OneClass.{classified_once}
use Rattle.fixp_mux.specs.Context.{Says, names, malformed, carries, says}
use Rattle.fixp_mux.specs.Parts.{named_by, named_behind, IsWellSaid, WellRouted}
use Rattle.fixp_mux.specs.State.{IsOf}
use Rattle.routes.specs.Identifiers.{StandsAt, EachOnce}
use Rattle.routes.proofs.Standing.{stands_once}
use Rattle.cmd_config.specs.declared.settings.Settings.{Settings}
use Rattle.cmd_answer.specs.Answer.{Received, IsClassified, Stage, acceptor_of, stage_after}
use Rattle.cmd_answer.specs.Promise.{Begins}
use Rattle.cmd_answer.proofs.Fronts.{Begins-refl, Begins-trans}
use Rattle.cmd_muxanswer.specs.declared.unrouted.Unrouted.{Unrouted}
use Rattle.cmd_muxanswer.specs.declared.unrouted.Unrouted.TheVariants.{NoContext, OtherSession, BadFrame}
use Rattle.cmd_muxanswer.specs.Input.{Closing}
use Rattle.cmd_muxanswer.specs.Input as closings
use Rattle.cmd_muxanswer.specs.Sessions.{identifiers}
use Rattle.cmd_muxanswer.specs.Input.{Carried, carried, IsUnrouted, IsUnroutedAt, Closes, IsInput}
use Rattle.cmd_muxanswer.specs.Lines.{line_bytes, bytes_of_lines}
use Rattle.cmd_muxanswer.specs.Answer.{Came, of_place, stage_at, Ignores, Takes, AreTaken, frames_in, lines_in, reply_in, behind_context, Reach, next_reach, reach_after, MuxAnswer, IsMuxAnswer}
use Rattle.cmd_muxanswer.proofs.Arrivals.{carried-append, reach-append}

-- ---- two lists of frames that the same bytes begin with

frame_at : First → Frame → Frame
frame_at (frame order message size) f = record { order = order; message = message }
frame_at rest f = f
frame_at (bad_length n) f = f
frame_at (bad_encoding e) f = f

same_first : (f g : Frame) (more other : List ℕ) → IsFrame f → IsFrame g → spelled f ++ more ≡ spelled g ++ other → f ≡ g
unfolding frame_at
same_first f g more other of_f of_g e = ap (λ (x : First). frame_at x f) (sym (frame-begins f more of_f) ∙ ap first_of e ∙ frame-begins g other of_g)

same_rest : (f g : Frame) (more other : List ℕ) → f ≡ g → spelled f ++ more ≡ spelled g ++ other → more ≡ other
same_rest f g more other same e =
    sym (drop-spelled f more) ∙ ap (drop (6 + length f.message)) e ∙ ap (λ (x : Frame). drop (6 + length x.message) (spelled g ++ other)) same ∙ drop-spelled g other

-- one list goes on where the other ends
abbrev pub Continues : List Frame → List Frame → Type 0
Continues a b = (more : List Frame) × (b ≡ a ++ more)

comparable : (a b : List Frame) (s t : List ℕ) → spelled_all a ++ s ≡ spelled_all b ++ t → AllByRecursion IsFrame a → AllByRecursion IsFrame b → Continues a b ⊎ Continues b a
comparable [] b s t e fa fb = inl (b, refl)
comparable (x ∷ a) [] s t e fa fb = inr (x ∷ a, refl)
comparable (x ∷ a) (y ∷ b) s t e fa fb =
    let regrouped : spelled x ++ (spelled_all a ++ s) ≡ spelled y ++ (spelled_all b ++ t) = sym (append_assoc (spelled x) (spelled_all a) s) ∙ e ∙ append_assoc (spelled y) (spelled_all b) t in
    let same : x ≡ y = same_first x y (spelled_all a ++ s) (spelled_all b ++ t) fa.0 fb.0 regrouped in
    elim (comparable a b s t (same_rest x y (spelled_all a ++ s) (spelled_all b ++ t) same regrouped) fa.1 fb.1) as (λ _. Continues (x ∷ a) (y ∷ b) ⊎ Continues (y ∷ b) (x ∷ a)) [
      | inl m ↦ inl (m.0, ap (λ (l : List Frame). y ∷ l) m.1 ∙ ap (λ (f : Frame). f ∷ (a ++ m.0)) (sym same))
      | inr m ↦ inr (m.0, ap (λ (l : List Frame). x ∷ l) m.1 ∙ ap (λ (f : Frame). f ∷ (b ++ m.0)) same)
    ]

pub same_tail : (x : List Frame) (s t : List ℕ) → spelled_all x ++ s ≡ spelled_all x ++ t → s ≡ t
same_tail [] s t e = e
same_tail (y ∷ x) s t e =
    same_tail x s t (same_rest y y (spelled_all x ++ s) (spelled_all x ++ t) refl (sym (append_assoc (spelled y) (spelled_all x) s) ∙ e ∙ append_assoc (spelled y) (spelled_all x) t))

-- ---- behind the frames of an input no further one is given out

-- a frame that is well said can be given to a session
said_or_not : (ids : List (List ℕ)) (before : Option (List ℕ)) (s : Says) (why : Unrouted) → IsWellSaid (IsOf ids) before s → IsUnrouted ids before s why → ⊥
said_or_not ids before (names id) OtherSession well not = not well
said_or_not ids before (names id) NoContext well not = not
said_or_not ids before (names id) BadFrame well not = not
said_or_not ids before malformed why well not = well
said_or_not ids None carries why well not = false≢true well
said_or_not ids (Some id) carries why well not = not

split_at : (f : Frame) (frames : List Frame) (end : List ℕ) → IsFrame f → first_of (spelled_all (f ∷ frames) ++ end) ≡ frame f.order f.message (6 + length f.message)
split_at f frames end of_f = ap first_of (append_assoc (spelled f) (spelled_all frames) end) ∙ frame-begins f (spelled_all frames ++ end) of_f

nil_cons : (f : Frame) (frames : List Frame) (end : List ℕ) → IsFrame f → spelled_all (f ∷ frames) ++ end ≡ [] → ⊥
nil_cons f frames end of_f e = let no : frame f.order f.message (6 + length f.message) ≡ rest = sym (split_at f frames end of_f) ∙ ap first_of e in absurd (cc no)

none_closed : (ids : List (List ℕ)) (before : Option (List ℕ)) (tail : List ℕ) (closing : Closing) (f : Frame) (frames : List Frame) (end : List ℕ) → Closes ids before tail closing
    → tail ≡ spelled_all (f ∷ frames) ++ end → IsFrame f → IsWellSaid (IsOf ids) before (says f) → ⊥
none_closed ids before tail closings.whole f frames end closes e of_f well = nil_cons f frames end of_f (sym e ∙ closes)
none_closed ids before tail closings.cut f frames end closes e of_f well =
    let no : frame f.order f.message (6 + length f.message) ≡ rest = sym (split_at f frames end of_f) ∙ sym (ap first_of e) ∙ closes.1 in absurd (cc no)
none_closed ids before tail (closings.unrouted why) f frames end closes e of_f well =
    said_or_not ids before (says f) why well (subst (λ (x : First). IsUnroutedAt ids before x why) (ap first_of e ∙ split_at f frames end of_f) closes)

routed-behind : (Known : List ℕ → Type 0) (before : Option (List ℕ)) (xs ys : List Frame) → WellRouted Known before (xs ++ ys) → WellRouted Known (named_behind before xs) ys
routed-behind Known before [] ys well = well
routed-behind Known before (f ∷ xs) ys well = routed-behind Known (named_by before (says f)) xs ys well.1

frames-behind : (xs ys : List Frame) → AllByRecursion IsFrame (xs ++ ys) → AllByRecursion IsFrame ys
frames-behind [] ys each = each
frames-behind (f ∷ xs) ys each = frames-behind xs ys each.1

tails_meet : (x m : List Frame) (s t : List ℕ) → spelled_all x ++ s ≡ spelled_all (x ++ m) ++ t → s ≡ spelled_all m ++ t
tails_meet x m s t e = same_tail x s (spelled_all m ++ t) (e ∙ ap (λ (bs : List ℕ). bs ++ t) (flat_map-append spelled x m) ∙ append_assoc (spelled_all x) (spelled_all m) t)

pub nothing_more : (ids : List (List ℕ)) (input : List ℕ) (x m : List Frame) (tail end : List ℕ) (closing : Closing) → IsInput ids input x tail closing
    → input ≡ spelled_all (x ++ m) ++ end → AllByRecursion IsFrame (x ++ m) → WellRouted (IsOf ids) None (x ++ m) → m ≡ []
nothing_more ids input x [] tail end closing is joins each well = refl
nothing_more ids input x (f ∷ m) tail end closing is joins each well =
    absurd (none_closed ids (named_behind None x) tail closing f m end is.closes (tails_meet x (f ∷ m) tail end (sym is.joins ∙ joins)) (frames-behind x (f ∷ m) each).0 (routed-behind (IsOf ids) None x (f ∷ m) well).0)

-- frames that an input begins with, each of which a session can be given, are a front of its frames
pub goes_on : (ids : List (List ℕ)) (input : List ℕ) (x y : List Frame) (tail end : List ℕ) (closing : Closing) → IsInput ids input x tail closing
    → input ≡ spelled_all y ++ end → AllByRecursion IsFrame y → WellRouted (IsOf ids) None y → Continues y x
goes_on ids input x y tail end closing is joins each well =
    elim (comparable x y tail end (sym is.joins ∙ joins) is.each each) as (λ _. Continues y x) [
      | inl m ↦
          let whole : List Frame → Type 0 = λ l. AllByRecursion IsFrame l in
          let none : m.0 ≡ [] = nothing_more ids input x m.0 tail end closing is (joins ∙ ap (λ (l : List Frame). spelled_all l ++ end) m.1) (subst whole m.1 each) (subst (WellRouted (IsOf ids) None) m.1 well) in
          let same : y ≡ x = m.1 ∙ ap (λ (l : List Frame). x ++ l) none ∙ append-nil x in
          ([], sym same ∙ sym (append-nil y))
      | inr m ↦ m
    ]

-- ---- which frames came to their sessions is one

same_received : (x y : Received) → x.frame ≡ y.frame → IsClassified x → IsClassified y → x ≡ y
same_received x y same sx sy =
    let one : x.incoming ≡ y.incoming = classified_once at_most_one x.frame.order x.frame.message x.incoming y.incoming sx (subst (λ (f : Frame). IsIncoming f.order f.message y.incoming) (sym same) sy) in
    ap (λ (f : Frame). record { frame = f; incoming = x.incoming }) same ∙ ap (λ (m : Incoming). record { frame = y.frame; incoming = m }) one

session_stands : (sessions : List Settings) (place : ℕ) (session : Settings) → slice_get sessions place ≡ Some session → StandsAt (identifiers sessions) session.session place
session_stands [] place session e = absurd (cc e)
session_stands (s ∷ sessions) zero session e = let same : s ≡ session = cc in ap (λ (x : Settings). Some x.session) same
session_stands (s ∷ sessions) (suc place) session e = session_stands sessions place session e

pub same_some : {X : Type 0} (x y : X) → Some x ≡ Some y → x ≡ y
same_some x y e = cc

module _ (sessions : List Settings) (once : EachOnce (identifiers sessions)) where
  pub same_place : (p q : ℕ) (s t : Settings) → slice_get sessions p ≡ Some s → slice_get sessions q ≡ Some t → s.session ≡ t.session → p ≡ q
  same_place p q s t at_p at_q same =
      stands_once (identifiers sessions) t.session p q once (subst (λ (id : List ℕ). StandsAt (identifiers sessions) id p) same (session_stands sessions p s at_p)) (session_stands sessions q t at_q)

  -- a frame cannot both be ignored and come to its session
  never_both : (earlier : List Came) (k : Carried) (c : Came) → Ignores sessions earlier k → Takes sessions earlier k c → ⊥
  never_both earlier k c ignores takes =
      let place : ignores.place ≡ c.place = same_place ignores.place c.place ignores.session c.session ignores.stands takes.stands (ignores.named ∙ sym takes.named) in
      let session : ignores.session ≡ c.session = same_some ignores.session c.session (sym ignores.stands ∙ ap (slice_get sessions) place ∙ takes.stands) in
      let stage : stage_after (acceptor_of ignores.session) (of_place ignores.place earlier) ≡ stage_at earlier c =
      ap (λ (s : Settings). stage_after (acceptor_of s) (of_place ignores.place earlier)) session ∙ ap (λ (p : ℕ). stage_after (acceptor_of c.session) (of_place p earlier)) place in
      false≢true (subst IsSome (ap (λ (s : Stage). s.ending) stage ∙ takes.going) ignores.over)

  same_came : (earlier : List Came) (k : Carried) (c d : Came) → Takes sessions earlier k c → Takes sessions earlier k d → c ≡ d
  same_came earlier k c d x y =
      let place : c.place ≡ d.place = same_place c.place d.place c.session d.session x.stands y.stands (x.named ∙ sym y.named) in
      let session : c.session ≡ d.session = same_some c.session d.session (sym x.stands ∙ ap (slice_get sessions) place ∙ y.stands) in
      let received : c.received ≡ d.received = same_received c.received d.received (x.frame ∙ sym y.frame) x.classified y.classified in
      ap (λ (p : ℕ). record { place = p; session = c.session; received = c.received }) place
      ∙ ap (λ (s : Settings). record { place = d.place; session = s; received = c.received }) session
      ∙ ap (λ (r : Received). record { place = d.place; session = d.session; received = r }) received

  -- the frames that came are a front of those that came of more frames
  pub taken_front : (earlier : List Came) (ks more : List Carried) (a b : List Came) → AreTaken sessions earlier ks a → AreTaken sessions earlier (ks ++ more) b → (later : List Came) × (b ≡ a ++ later)
  taken_front earlier [] more a b none taken = (b, ap (λ (l : List Came). l ++ b) (sym none))
  taken_front earlier (k ∷ ks) more [] b x y = (b, refl)
  taken_front earlier (k ∷ ks) more (c ∷ a) [] (inl x) y = taken_front earlier ks more (c ∷ a) [] x.1 y.1
  taken_front earlier (k ∷ ks) more (c ∷ a) [] (inr x) y = absurd (never_both earlier k c y.0 x.0)
  taken_front earlier (k ∷ ks) more (c ∷ a) (d ∷ b) (inl x) (inl y) = taken_front earlier ks more (c ∷ a) (d ∷ b) x.1 y.1
  taken_front earlier (k ∷ ks) more (c ∷ a) (d ∷ b) (inl x) (inr y) = absurd (never_both earlier k d x.0 y.0)
  taken_front earlier (k ∷ ks) more (c ∷ a) (d ∷ b) (inr x) (inl y) = absurd (never_both earlier k c y.0 x.0)
  taken_front earlier (k ∷ ks) more (c ∷ a) (d ∷ b) (inr x) (inr y) =
      let same : c ≡ d = same_came earlier k c d x.0 y.0 in
      let behind = taken_front (earlier ++ d ∷ []) ks more a b (subst (λ (e : Came). AreTaken sessions (earlier ++ e ∷ []) ks a) same x.1) y.1 in
      (behind.0, ap (λ (l : List Came). d ∷ l) behind.1 ∙ ap (λ (e : Came). e ∷ (a ++ behind.0)) (sym same))

-- ---- what stands at the front stays

-- WIRE and OUT of one reach begin those of another
pub record Grows (r s : Reach) : Type 0 where
  pub wire : Begins (spelled_all r.wire) (spelled_all s.wire)
  pub out : Begins (bytes_of_lines r.lines) (bytes_of_lines s.lines)

grows_next : (r : Reach) (c : Came) → Grows r (next_reach r c)
grows_next r c =
    let o = reply_in (stage_at r.came c) c in
    let wired = behind_context r.writing c (frames_in o) in
    let lined = lines_in (c.place + 1) c.received.frame o in
    record {
      wire = record { rest = spelled_all wired; joins = flat_map-append spelled r.wire wired };
      out = record { rest = bytes_of_lines lined; joins = flat_map-append line_bytes r.lines lined };
    }

pub fold_grows : (r : Reach) (came : List Came) → Grows r (fold next_reach r came)
fold_grows r [] = record { wire = Begins-refl (spelled_all r.wire); out = Begins-refl (bytes_of_lines r.lines) }
fold_grows r (c ∷ came) =
    let one = grows_next r c in
    let all = fold_grows (next_reach r c) came in
    record { wire = Begins-trans _ _ _ one.wire all.wire; out = Begins-trans _ _ _ one.out all.out }

-- what was answered so far begins the answer
pub answered_begins : (sessions : List Settings) → EachOnce (identifiers sessions) → (input : List ℕ) (y : List Frame) (came : List Came) (end : List ℕ)
    → input ≡ spelled_all y ++ end → AllByRecursion IsFrame y → WellRouted (IsOf (identifiers sessions)) None y → AreTaken sessions [] (carried None y) came
    → (answer : MuxAnswer) → IsMuxAnswer sessions input answer
    → Begins (spelled_all (reach_after came).wire) answer.wire × Begins (bytes_of_lines (reach_after came).lines) answer.out
answered_begins sessions once input y came end joins each well taken answer x =
    let on = goes_on (identifiers sessions) input x.frames y x.tail end answer.closing x.is_input joins each well in
    let all : AreTaken sessions [] (carried None y ++ carried (named_behind None y) on.0) x.came =
    subst (λ (ks : List Carried). AreTaken sessions [] ks x.came) (ap (carried None) on.1 ∙ carried-append None y on.0) x.taken in
    let front = taken_front sessions once [] (carried None y) (carried (named_behind None y) on.0) came x.came taken all in
    let reached : reach_after x.came ≡ fold next_reach (reach_after came) front.0 = ap reach_after front.1 ∙ reach-append came front.0 in
    let grows = fold_grows (reach_after came) front.0 in (
      subst (Begins (spelled_all (reach_after came).wire)) (sym (x.wire ∙ ap (λ (r : Reach). spelled_all r.wire) reached)) grows.wire,
      subst (Begins (bytes_of_lines (reach_after came).lines)) (sym (x.out ∙ ap (λ (r : Reach). bytes_of_lines r.lines) reached)) grows.out,
    )
