-- The answer to an input is one, and what was answered so far is a front of it.
use Rattle.std.proofs.Common.{◌≡◌, ℕ, ◌+◌, ◌⊎◌, inl, inr, true, false, cond, List, [], ◌∷◌, ◌++◌, length, map, drop, Option, Some, None, refl, sym, ap, subst, ◌∙◌, append_assoc, append-nil}
use Rattle.std.specs.Prelude.{is_some, fold}
use Rattle.std.specs.List.{AllByRecursion}
use Rattle.std.proofs.lemmas.List.Sums.{fold-append}
use Rattle.sofh_frame.specs.Framing.{Frame, IsFrame, spelled, First, frame, rest, bad_length, bad_encoding, first_of}
use Rattle.sofh_frame.specs.Splits.{spelled_all, IsNoFrame}
use Rattle.sofh_frame.proofs.FramingLemmas.{frame-begins}
use Rattle.sofh_frame.proofs.SplitLemmas.{drop-spelled}
use Rattle.fixp_msgs.proofs.Rows.{at_most_one}
use Rattle.fixp_shake.specs.declared.config.EndConfig.{EndConfig}
use Rattle.fixp_replies.specs.declared.act.Ending.{Ending}
use Rattle.fixp_replies.specs.Incoming.{Incoming, IsIncoming}
use Rattle.fixp_replies.specs.Replies.{reply_of}
use Rattle.fixp_machine.specs.Machine.{bytes_of}
use Rattle.fixp_end.proofs.OneClass.{classified_once}
use Rattle.cmd_answer.specs.Lines.{line_of}
use Rattle.cmd_answer.specs.Answer.{Received, IsClassified, Stage, answered, next_stage, first_stage, stage_after, around_place, Answer, ended_answer, tail_answer, answer_at_end, answer_after, IsAnswer, OneAnswer}
use Rattle.cmd_answer.specs.Promise.{Begins}

abbrev pub frames_in : List Received → List Frame
frames_in received = map (λ (h : Received). h.frame) received

-- ---- two lists of frames that the same bytes begin with

frame_at : First → Frame → Frame
frame_at (frame order message size) f = record { order = order; message = message }
frame_at rest f = f
frame_at (bad_length n) f = f
frame_at (bad_encoding e) f = f

same_first : (f g : Frame) (more other : List ℕ) → IsFrame f → IsFrame g → spelled f ++ more ≡ spelled g ++ other → f ≡ g
unfolding frame_at
same_first f g more other of_f of_g e = ap (λ (x : First). frame_at x f) (sym (frame-begins f more of_f) ∙ ap first_of e ∙ frame-begins g other of_g)

same_rest : (f g : Frame) (more other : List ℕ) → f ≡ g → spelled f ++ more ≡ spelled g ++ other → more ≡ other
same_rest f g more other same e =
    sym (drop-spelled f more) ∙ ap (drop (6 + length f.message)) e ∙ ap (λ (x : Frame). drop (6 + length x.message) (spelled g ++ other)) same ∙ drop-spelled g other

same_received : (x y : Received) → x.frame ≡ y.frame → IsClassified x → IsClassified y → x ≡ y
same_received x y same sx sy =
    let P : Frame → Type 0 = λ f. IsIncoming f.order f.message y.incoming in
    let one : x.incoming ≡ y.incoming = classified_once at_most_one x.frame.order x.frame.message x.incoming y.incoming sx (subst P (sym same) sy) in
    ap (λ (f : Frame). record { frame = f; incoming = x.incoming }) same ∙ ap (λ (m : Incoming). record { frame = y.frame; incoming = m }) one

-- one list goes on where the other ends
abbrev pub Continues : List Received → List Received → Type 0
Continues a b = (more : List Received) × (b ≡ a ++ more)

pub comparable : (a b : List Received) (s t : List ℕ) → spelled_all (frames_in a) ++ s ≡ spelled_all (frames_in b) ++ t
    → AllByRecursion IsFrame (frames_in a) → AllByRecursion IsFrame (frames_in b) → AllByRecursion IsClassified a → AllByRecursion IsClassified b
    → Continues a b ⊎ Continues b a
comparable [] b s t e fa fb sa sb = inl (b, refl)
comparable (x ∷ a) [] s t e fa fb sa sb = inr (x ∷ a, refl)
comparable (x ∷ a) (y ∷ b) s t e fa fb sa sb =
    let regrouped : spelled x.frame ++ (spelled_all (frames_in a) ++ s) ≡ spelled y.frame ++ (spelled_all (frames_in b) ++ t) =
    sym (append_assoc (spelled x.frame) (spelled_all (frames_in a)) s) ∙ e ∙ append_assoc (spelled y.frame) (spelled_all (frames_in b)) t in
    let same : x.frame ≡ y.frame = same_first x.frame y.frame _ _ fa.0 fb.0 regrouped in
    let first : x ≡ y = same_received x y same sa.0 sb.0 in
    elim (comparable a b s t (same_rest x.frame y.frame _ _ same regrouped) fa.1 fb.1 sa.1 sb.1) as (λ _. Continues (x ∷ a) (y ∷ b) ⊎ Continues (y ∷ b) (x ∷ a)) [
      | inl m ↦ inl (m.0, ap (λ (l : List Received). y ∷ l) m.1 ∙ ap (λ (h : Received). h ∷ (a ++ m.0)) (sym first))
      | inr m ↦ inr (m.0, ap (λ (l : List Received). x ∷ l) m.1 ∙ ap (λ (h : Received). h ∷ (b ++ m.0)) first)
    ]

-- ---- what stands at the front stays

pub Begins-refl : (xs : List ℕ) → Begins xs xs
Begins-refl xs = record { rest = []; joins = sym (append-nil xs) }

pub Begins-more : (xs ys : List ℕ) → Begins xs (xs ++ ys)
Begins-more xs ys = record { rest = ys; joins = refl }

pub Begins-trans : (xs ys zs : List ℕ) → Begins xs ys → Begins ys zs → Begins xs zs
Begins-trans xs ys zs p q = record { rest = p.rest ++ q.rest; joins = q.joins ∙ ap (λ (l : List ℕ). l ++ q.rest) p.joins ∙ append_assoc xs p.rest q.rest }

-- a stage goes on to another where WIRE and OUT grow
pub record Grows (s t : Stage) : Type 0 where
  pub wire : Begins s.wire t.wire
  pub out : Begins s.out t.out

Grows-refl : (s : Stage) → Grows s s
Grows-refl s = record { wire = Begins-refl s.wire; out = Begins-refl s.out }

Grows-trans : (s t u : Stage) → Grows s t → Grows t u → Grows s u
Grows-trans s t u p q = record { wire = Begins-trans _ _ _ p.wire q.wire; out = Begins-trans _ _ _ p.out q.out }

next_stage-grows : (cfg : EndConfig) (s : Stage) (h : Received) → Grows s (next_stage cfg s h)
next_stage-grows cfg s h =
    let o = reply_of (around_place cfg s.place) s.facts h.incoming in
    elim (is_some s.ending) as (λ b. Grows s (cond b s (answered s h o))) [
      | true ↦ Grows-refl s
      | false ↦ record { wire = Begins-more s.wire (bytes_of o.written); out = Begins-more s.out (line_of o.act h.frame) }
    ]

pub fold-grows : (cfg : EndConfig) (s : Stage) (received : List Received) → Grows s (fold (next_stage cfg) s received)
fold-grows cfg s [] = Grows-refl s
fold-grows cfg s (h ∷ received) = Grows-trans _ _ _ (next_stage-grows cfg s h) (fold-grows cfg (next_stage cfg s h) received)

pub stage_after-append : (cfg : EndConfig) (a b : List Received) → stage_after cfg (a ++ b) ≡ fold (next_stage cfg) (stage_after cfg a) b
stage_after-append cfg a b = fold-append (next_stage cfg) first_stage a b

-- a connection that has ended stays so
next_stage-ended : (cfg : EndConfig) (s : Stage) (h : Received) (e : Ending) → s.ending ≡ Some e → next_stage cfg s h ≡ s
next_stage-ended cfg s h e ended = rw ended refl

fold-ended : (cfg : EndConfig) (s : Stage) (received : List Received) (e : Ending) → s.ending ≡ Some e → fold (next_stage cfg) s received ≡ s
fold-ended cfg s [] e ended = refl
fold-ended cfg s (h ∷ received) e ended = ap (λ (t : Stage). fold (next_stage cfg) t received) (next_stage-ended cfg s h e ended) ∙ fold-ended cfg s received e ended

-- the answer begins with the stage that it ends at
answer_at_end-begins : (cfg : EndConfig) (s : Stage) (tail : List ℕ) (ending : Option Ending) → Begins s.wire (answer_at_end cfg s tail ending).wire × Begins s.out (answer_at_end cfg s tail ending).out
answer_at_end-begins cfg s tail (Some e) = (Begins-refl s.wire, Begins-refl s.out)
answer_at_end-begins cfg s tail None =
    elim (first_of tail) as (λ x. Begins s.wire (tail_answer cfg s tail x).wire × Begins s.out (tail_answer cfg s tail x).out) [
      | frame order message size ↦ (Begins-refl s.wire, Begins-refl s.out)
      | rest ↦ (Begins-refl s.wire, Begins-refl s.out)
      | bad_length n ↦ (Begins-more s.wire _, Begins-refl s.out)
      | bad_encoding e ↦ (Begins-more s.wire _, Begins-refl s.out)
    ]

-- ---- no frame stands behind those of an answer, unless the connection ended

no_frame : (h : Received) (received : List Received) (tail end : List ℕ) → tail ≡ spelled_all (frames_in (h ∷ received)) ++ end → IsFrame h.frame → IsNoFrame (first_of tail) → ⊥
no_frame h received tail end e of_h none =
    let found : first_of tail ≡ frame h.frame.order h.frame.message (6 + length h.frame.message) =
    ap first_of (e ∙ append_assoc (spelled h.frame) (spelled_all (frames_in received)) end) ∙ frame-begins h.frame _ of_h in
    let P : First → Type 0 = IsNoFrame in
    subst P found none

-- behind the frames of an answer that did not end the connection, the other list has no more
nothing_more : (cfg : EndConfig) (x : List Received) (m : List Received) (tail end : List ℕ) → spelled_all (frames_in x) ++ tail ≡ spelled_all (frames_in (x ++ m)) ++ end
    → AllByRecursion IsFrame (frames_in (x ++ m)) → IsNoFrame (first_of tail) → m ≡ []
nothing_more cfg [] [] tail end e each none = refl
nothing_more cfg [] (h ∷ m) tail end e each none = absurd (no_frame h m tail end e each.0 none)
nothing_more cfg (y ∷ x) m tail end e each none =
    let regrouped : spelled y.frame ++ (spelled_all (frames_in x) ++ tail) ≡ spelled y.frame ++ (spelled_all (frames_in (x ++ m)) ++ end) =
    sym (append_assoc (spelled y.frame) (spelled_all (frames_in x)) tail) ∙ e ∙ append_assoc (spelled y.frame) (spelled_all (frames_in (x ++ m))) end in
    nothing_more cfg x m tail end (same_rest y.frame y.frame _ _ refl regrouped) each.1 none

same_tail : (x : List Received) (s t : List ℕ) → spelled_all (frames_in x) ++ s ≡ spelled_all (frames_in x) ++ t → s ≡ t
same_tail [] s t e = e
same_tail (y ∷ x) s t e =
    same_tail x s t (same_rest y.frame y.frame _ _ refl (sym (append_assoc (spelled y.frame) (spelled_all (frames_in x)) s) ∙ e ∙ append_assoc (spelled y.frame) (spelled_all (frames_in x)) t))

-- a list of frames that goes on behind those of an answer makes the same stage
same_stage : (cfg : EndConfig) (input : List ℕ) (answer : Answer) (x : IsAnswer cfg input answer) (received m : List Received) (more : List ℕ)
    → input ≡ spelled_all (frames_in received) ++ more → AllByRecursion IsFrame (frames_in received) → received ≡ x.received ++ m
    → (ending : Option Ending) → (stage_after cfg x.received).ending ≡ ending → stage_after cfg received ≡ stage_after cfg x.received
same_stage cfg input answer x received m more joins each goes_on (Some e) ended =
    ap (stage_after cfg) goes_on ∙ stage_after-append cfg x.received m ∙ fold-ended cfg (stage_after cfg x.received) m e ended
same_stage cfg input answer x received m more joins each goes_on None going =
    let P : List Received → Type 0 = λ l. AllByRecursion IsFrame (frames_in l) in
    let none : m ≡ [] = nothing_more cfg x.received m x.tail more (sym x.joins ∙ joins ∙ ap (λ (l : List Received). spelled_all (frames_in l) ++ more) goes_on) (subst P goes_on each) (x.all going) in
    ap (stage_after cfg) (goes_on ∙ ap (λ (l : List Received). x.received ++ l) none ∙ append-nil x.received)

-- the stage of an answer goes on from where the frames so far stand
pub stage-grows : (cfg : EndConfig) (input : List ℕ) (received : List Received) (more : List ℕ) → input ≡ spelled_all (frames_in received) ++ more
    → AllByRecursion IsFrame (frames_in received) → AllByRecursion IsClassified received → (answer : Answer) (x : IsAnswer cfg input answer)
    → Grows (stage_after cfg received) (stage_after cfg x.received)
stage-grows cfg input received more joins each classified answer x =
    let P : Stage → Type 0 = λ s. Grows (stage_after cfg received) s in
    elim (comparable received x.received more x.tail (sym joins ∙ x.joins) each x.each classified x.classified) as (λ _. Grows (stage_after cfg received) (stage_after cfg x.received)) [
      | inl m ↦ subst P (sym (ap (stage_after cfg) m.1 ∙ stage_after-append cfg received m.0)) (fold-grows cfg (stage_after cfg received) m.0)
      | inr m ↦ subst P (same_stage cfg input answer x received m.0 more joins each m.1 (stage_after cfg x.received).ending refl) (Grows-refl (stage_after cfg received))
    ]

-- what was answered so far begins the answer
pub answered-begins : (cfg : EndConfig) (input : List ℕ) (received : List Received) (more : List ℕ) → input ≡ spelled_all (frames_in received) ++ more
    → AllByRecursion IsFrame (frames_in received) → AllByRecursion IsClassified received → (answer : Answer) → IsAnswer cfg input answer
    → Begins (stage_after cfg received).wire answer.wire × Begins (stage_after cfg received).out answer.out
answered-begins cfg input received more joins each classified answer x =
    let s = stage_after cfg x.received in
    let grows : Grows (stage_after cfg received) s = stage-grows cfg input received more joins each classified answer x in
    let end = answer_at_end-begins cfg s x.tail s.ending in
    let P : Answer → Type 0 = λ a. Begins (stage_after cfg received).wire a.wire × Begins (stage_after cfg received).out a.out in
    subst P (sym x.is) (Begins-trans _ _ _ grows.wire end.0, Begins-trans _ _ _ grows.out end.1)

-- two answers of which one list of frames goes on where the other ends are one
continued_answer : (cfg : EndConfig) (input : List ℕ) (a b : Answer) (x : IsAnswer cfg input a) (y : IsAnswer cfg input b) (m : List Received) → y.received ≡ x.received ++ m
    → (ending : Option Ending) → (stage_after cfg x.received).ending ≡ ending → a ≡ b
continued_answer cfg input a b x y m goes_on (Some e) ended =
    let same : stage_after cfg y.received ≡ stage_after cfg x.received = same_stage cfg input a x y.received m y.tail y.joins y.each goes_on (Some e) ended in
    let at_end : (s : Stage) (tail : List ℕ) → s.ending ≡ Some e → answer_at_end cfg s tail s.ending ≡ ended_answer s e = λ s tail h. ap (answer_at_end cfg s tail) h in
    x.is ∙ at_end (stage_after cfg x.received) x.tail ended ∙ ap (λ (s : Stage). ended_answer s e) (sym same)
    ∙ sym (at_end (stage_after cfg y.received) y.tail (ap (λ (s : Stage). s.ending) same ∙ ended)) ∙ sym y.is
continued_answer cfg input a b x y m goes_on None going =
    let P : List Received → Type 0 = λ l. AllByRecursion IsFrame (frames_in l) in
    let none : m ≡ [] = nothing_more cfg x.received m x.tail y.tail (sym x.joins ∙ y.joins ∙ ap (λ (l : List Received). spelled_all (frames_in l) ++ y.tail) goes_on) (subst P goes_on y.each) (x.all going) in
    let same : y.received ≡ x.received = goes_on ∙ ap (λ (l : List Received). x.received ++ l) none ∙ append-nil x.received in
    let tails : x.tail ≡ y.tail = same_tail x.received x.tail y.tail (sym x.joins ∙ y.joins ∙ ap (λ (l : List Received). spelled_all (frames_in l) ++ y.tail) same) in
    x.is ∙ ap (answer_after cfg x.received) tails ∙ ap (λ (l : List Received). answer_after cfg l y.tail) (sym same) ∙ sym y.is

pub one_answer : OneAnswer
one_answer cfg input a b x y =
    elim (comparable x.received y.received x.tail y.tail (sym x.joins ∙ y.joins) x.each y.each x.classified y.classified) as (λ _. a ≡ b) [
      | inl m ↦ continued_answer cfg input a b x y m.0 m.1 (stage_after cfg x.received).ending refl
      | inr m ↦ sym (continued_answer cfg input b a y x m.0 m.1 (stage_after cfg y.received).ending refl)
    ]
