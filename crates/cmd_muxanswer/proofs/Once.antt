-- The answer to an input is one.
use Rattle.std.proofs.Common.{◌≡◌, ℕ, ◌+◌, List, [], ◌∷◌, ◌++◌, length, Option, Some, None, refl, sym, ◌∙◌, ap, subst, append-nil, arith}
use Rattle.std.specs.List.{AllByRecursion}
use Rattle.std.proofs.lemmas.List.{length-append}
use Rattle.sofh_frame.specs.Framing.{Frame, IsFrame, First, frame, rest, bad_length, bad_encoding, first_of}
use Rattle.sofh_frame.specs.Splits.{spelled_all}
use Rattle.fixp_mux.specs.Context.{Says, names, malformed, carries, says}
use Rattle.fixp_mux.specs.Parts.{named_behind, WellRouted}
use Rattle.fixp_mux.specs.State.{IsOf}
use Rattle.routes.specs.Identifiers.{EachOnce}
use Rattle.cmd_config.specs.declared.settings.Settings.{Settings}
use Rattle.cmd_muxanswer.specs.declared.unrouted.Unrouted.{Unrouted}
use Rattle.cmd_muxanswer.specs.declared.unrouted.Unrouted.TheVariants.{NoContext, OtherSession, BadFrame}
use Rattle.cmd_muxanswer.specs.Input.{Closing}
use Rattle.cmd_muxanswer.specs.Input as closings
use Rattle.cmd_muxanswer.specs.Sessions.{identifiers}
use Rattle.cmd_muxanswer.specs.Input.{Carried, carried, IsUnrouted, IsUnroutedAt, Closes, place_of}
use Rattle.cmd_muxanswer.specs.Lines.{bytes_of_lines}
use Rattle.cmd_muxanswer.specs.Answer.{Came, AreTaken, reach_after}
use Rattle.cmd_muxanswer.specs.Laws.{OneMuxAnswer}
use Rattle.cmd_muxanswer.proofs.Fronts.{goes_on, nothing_more, same_tail, taken_front}

-- ---- why no further frame is given out is one

unrouted_one : (ids : List (List ℕ)) (before : Option (List ℕ)) (s : Says) (v w : Unrouted) → IsUnrouted ids before s v → IsUnrouted ids before s w → v ≡ w
unrouted_one ids before (names id) OtherSession OtherSession x y = refl
unrouted_one ids before (names id) OtherSession NoContext x y = absurd y
unrouted_one ids before (names id) OtherSession BadFrame x y = absurd y
unrouted_one ids before (names id) NoContext w x y = absurd x
unrouted_one ids before (names id) BadFrame w x y = absurd x
unrouted_one ids before malformed BadFrame BadFrame x y = refl
unrouted_one ids before malformed BadFrame NoContext x y = absurd y
unrouted_one ids before malformed BadFrame OtherSession x y = absurd y
unrouted_one ids before malformed NoContext w x y = absurd x
unrouted_one ids before malformed OtherSession w x y = absurd x
unrouted_one ids None carries NoContext NoContext x y = refl
unrouted_one ids None carries NoContext OtherSession x y = absurd y
unrouted_one ids None carries NoContext BadFrame x y = absurd y
unrouted_one ids None carries OtherSession w x y = absurd x
unrouted_one ids None carries BadFrame w x y = absurd x
unrouted_one ids (Some id) carries v w x y = absurd x

unrouted_at_one : (ids : List (List ℕ)) (before : Option (List ℕ)) (first : First) (v w : Unrouted) → IsUnroutedAt ids before first v → IsUnroutedAt ids before first w → v ≡ w
unrouted_at_one ids before (frame order message size) v w x y = unrouted_one ids before (says (record { order = order; message = message })) v w x y
unrouted_at_one ids before rest v w x y = absurd x
unrouted_at_one ids before (bad_length n) v w x y = x ∙ sym y
unrouted_at_one ids before (bad_encoding n) v w x y = x ∙ sym y

-- where less than a frame is left, nothing is that could not be routed
at_rest : (ids : List (List ℕ)) (before : Option (List ℕ)) (tail : List ℕ) (why : Unrouted) → first_of tail ≡ rest → IsUnroutedAt ids before (first_of tail) why → ⊥
at_rest ids before tail why first un = subst (λ (x : First). IsUnroutedAt ids before x why) first un

at_end : (ids : List (List ℕ)) (before : Option (List ℕ)) (tail : List ℕ) (why : Unrouted) → tail ≡ [] → IsUnroutedAt ids before (first_of tail) why → ⊥
at_end ids before tail why none un = at_rest ids before tail why (ap first_of none) un

closes_one : (ids : List (List ℕ)) (before : Option (List ℕ)) (tail : List ℕ) (a b : Closing) → Closes ids before tail a → Closes ids before tail b → a ≡ b
closes_one ids before tail closings.whole closings.whole x y = refl
closes_one ids before tail closings.whole closings.cut x y = absurd (y.0 x)
closes_one ids before tail closings.whole (closings.unrouted w) x y = absurd (at_end ids before tail w x y)
closes_one ids before tail closings.cut closings.whole x y = absurd (x.0 y)
closes_one ids before tail closings.cut closings.cut x y = refl
closes_one ids before tail closings.cut (closings.unrouted w) x y = absurd (at_rest ids before tail w x.1 y)
closes_one ids before tail (closings.unrouted v) closings.whole x y = absurd (at_end ids before tail v y x)
closes_one ids before tail (closings.unrouted v) closings.cut x y = absurd (at_rest ids before tail v y.1 x)
closes_one ids before tail (closings.unrouted v) (closings.unrouted w) x y = ap closings.unrouted (unrouted_at_one ids before (first_of tail) v w x y)

-- ---- two lists of which each goes on where the other ends

nil_of_length : {X : Type 0} (xs : List X) → length xs ≡ 0 → xs ≡ []
nil_of_length [] e = refl
nil_of_length (x ∷ xs) e = absurd (omega (arith, e))

taken_one : (sessions : List Settings) → EachOnce (identifiers sessions) → (ks : List Carried) (a b : List Came) → AreTaken sessions [] ks a → AreTaken sessions [] ks b → a ≡ b
taken_one sessions once ks a b x y =
    let none : ks ++ [] ≡ ks = append-nil ks in
    let one = taken_front sessions once [] ks [] a b x (subst (λ (l : List Carried). AreTaken sessions [] l b) (sym none) y) in
    let other = taken_front sessions once [] ks [] b a y (subst (λ (l : List Carried). AreTaken sessions [] l a) (sym none) x) in
    let lengths : length b ≡ length a + length one.0 = ap length one.1 ∙ length-append a one.0 in
    let back : length a ≡ length b + length other.0 = ap length other.1 ∙ length-append b other.0 in
    let nothing : one.0 ≡ [] = nil_of_length one.0 (omega (arith, lengths, back)) in
    sym (one.1 ∙ ap (λ (l : List Came). a ++ l) nothing ∙ append-nil a)

pub one_mux_answer : OneMuxAnswer
one_mux_answer sessions input a b apart x y =
    let ids = identifiers sessions in
    let on = goes_on ids input y.frames x.frames y.tail x.tail b.closing y.is_input x.is_input.joins x.is_input.each x.is_input.well in
    let none : on.0 ≡ [] =
    nothing_more ids input x.frames on.0 x.tail y.tail a.closing x.is_input (y.is_input.joins ∙ ap (λ (l : List Frame). spelled_all l ++ y.tail) on.1)
    (subst (λ (l : List Frame). AllByRecursion IsFrame l) on.1 y.is_input.each) (subst (WellRouted (IsOf ids) None) on.1 y.is_input.well) in
    let frames : y.frames ≡ x.frames = on.1 ∙ ap (λ (l : List Frame). x.frames ++ l) none ∙ append-nil x.frames in
    let tails : x.tail ≡ y.tail = same_tail x.frames x.tail y.tail (sym x.is_input.joins ∙ y.is_input.joins ∙ ap (λ (l : List Frame). spelled_all l ++ y.tail) frames) in
    let closing : a.closing ≡ b.closing =
    closes_one ids (named_behind None y.frames) y.tail a.closing b.closing
    (subst (λ (t : List ℕ). Closes ids (named_behind None y.frames) t a.closing) tails (subst (λ (l : List Frame). Closes ids (named_behind None l) x.tail a.closing) (sym frames) x.is_input.closes))
    y.is_input.closes in
    let came : x.came ≡ y.came = taken_one sessions apart.once (carried None y.frames) x.came y.came (subst (λ (l : List Frame). AreTaken sessions [] (carried None l) x.came) (sym frames) x.taken) y.taken in
    let wire : a.wire ≡ b.wire = x.wire ∙ ap (λ (c : List Came). spelled_all (reach_after c).wire) came ∙ sym y.wire in
    let out : a.out ≡ b.out = x.out ∙ ap (λ (c : List Came). bytes_of_lines (reach_after c).lines) came ∙ sym y.out in
    let at : a.at ≡ b.at = x.at ∙ ap place_of (sym frames) ∙ sym y.at in
    ap (λ (w : List ℕ). record { wire = w; out = a.out; at = a.at; closing = a.closing }) wire
    ∙ ap (λ (o : List ℕ). record { wire = b.wire; out = o; at = a.at; closing = a.closing }) out
    ∙ ap (λ (n : ℕ). record { wire = b.wire; out = b.out; at = n; closing = a.closing }) at
    ∙ ap (λ (z : Closing). record { wire = b.wire; out = b.out; at = b.at; closing = z }) closing
