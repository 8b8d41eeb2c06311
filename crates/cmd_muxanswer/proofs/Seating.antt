-- What a frame that is handed to a session makes of its seat.
use Rattle.std.proofs.Common.{◌≡◌, ◌⊎◌, inl, inr, ℕ, zero, suc, ◌+◌, ◌-◌, ◌^◌, min, Bool, false, ◌≤◌, List, [], ◌∷◌, ◌++◌, length, Option, Some, None, slice_get, slice_set, refl, sym, ◌∙◌, ap, subst, append_assoc, arith, if◌then◌else◌}
use Rattle.std.specs.Prelude.{is_some}
use Rattle.sofh_frame.specs.Framing.{Frame}
use Rattle.sofh_frame.proofs.SplitLemmas.{length-spelled}
use Rattle.fixp_shake.specs.declared.config.EndConfig.{EndConfig}
use Rattle.fixp_shake.specs.Flows.{is_recoverable}
use Rattle.fixp_replies.specs.declared.act.Ending.{Ending}
use Rattle.fixp_replies.specs.Incoming.{Incoming}
use Rattle.fixp_replies.specs.Outcomes.{Outcome as Reply}
use Rattle.fixp_replies.specs.Replies.{reply_of}
use Rattle.fixp_machine.specs.Machine.{State, bytes_of}
use Rattle.cmd_config.specs.declared.settings.Settings.{Settings}
use Rattle.cmd_answer.specs.Lines.{line_of}
use Rattle.cmd_answer.specs.Answer.{Received, Stage, acceptor_of, around_place, first_stage, next_place, next_stage, stage_after}
use Rattle.cmd_muxanswer.proofs.Given.{next_stage-going}
use Rattle.cmd_muxanswer.specs.declared.seat.Seat.{Seat}
use Rattle.cmd_muxanswer.specs.declared.wire.Written.{Written}
use Rattle.cmd_muxanswer.specs.Lines.{bytes_of_lines, lines_with, violation_text}
use Rattle.cmd_muxanswer.specs.Answer.{Came, of_place}
use Rattle.cmd_muxanswer.specs.Progress.{Sits, IsUsable, AreUsable, TakesOne, AnswersAt, Writes, AreSeated, seat_reply}
use Rattle.cmd_muxanswer.proofs.Arrivals.{of_place-own, of_place-other}

-- all that it wrote was given on
abbrev pub emptied : Seat → Seat
emptied seat = record seat { end = record seat.end { unsent = [] } }

-- the place behind a frame, where the connection goes on
pub behind_frame : (f : Frame) (place : ℕ) (e : Option Ending) → is_some e ≡ false → min (place + (6 + length f.message)) (2 ^ 64 - 1) ≡ (if is_some e then place else next_place place f)
behind_frame f place e goes = ap (λ (n : ℕ). min (place + n) (2 ^ 64 - 1)) (sym (length-spelled f)) ∙ sym (ap (λ (t : Bool). if t then place else next_place place f) goes)

-- a frame was taken, what it makes was written, and the seat emptied
pub answers_at : (place : ℕ) (old taken : Seat) (before after : Written) (lines : List ℕ) (f : Frame) → IsUsable old → old.end.ending ≡ None → TakesOne old taken [] lines f
    → Writes before.wire after.wire place taken.end.config.session taken.end.unsent
    → after.lines.items ≡ (before.lines.items ++ bytes_of_lines (lines_with (place + 1) lines)) ++ bytes_of_lines (lines_with (place + 1) (violation_text taken.end.ending))
    → AnswersAt place old (emptied taken) before after f
answers_at place old taken before after lines f usable going takes writes lined =
    let i = takes.one.incoming in
    let o : Reply = seat_reply old i in
    let state = takes.one.state in
    let config : taken.end.config ≡ old.end.config = ap (λ (s : State). s.config) state in
    let ending : taken.end.ending ≡ o.ending = ap (λ (s : State). s.ending) state in
    let unsent : taken.end.unsent ≡ bytes_of o.written = ap (λ (s : State). s.unsent) state ∙ ap (λ (bs : List ℕ). bs ++ bytes_of o.written) usable.unsent in
    let ready = usable.ready going in
    record {
      incoming = i;
      is = takes.one.is;
      unheld = takes.one.unheld;
      config = config;
      most = ap (λ (s : State). s.most) state;
      facts = ap (λ (s : State). s.facts) state;
      ending = ending;
      at = takes.at ∙ ap (λ (e : Option Ending). if is_some e then old.at else next_place old.at f) ending;
      usable = record {
        unsent = refl;
        ready = λ goes. record {
          begun = ap (λ (s : State). s.begun) state ∙ ready.begun;
          going = goes;
          done = ap (λ (s : State). s.pending) state;
          moment = ap (λ (s : State). s.moment) state;
          credentials = subst (λ (cfg : EndConfig). length cfg.credentials ≤ 2048) (sym config) ready.credentials;
          flow = ap (λ (s : State). is_recoverable s.config.peer_flow) state ∙ ready.flow;
        };
      };
      wire = subst (λ (cfg : EndConfig). Writes before.wire after.wire place cfg.session (bytes_of o.written)) config
          (subst (λ (bs : List ℕ). Writes before.wire after.wire place taken.end.config.session bs) unsent writes);
      lines =
          lined ∙ append_assoc before.lines.items (bytes_of_lines (lines_with (place + 1) lines)) (bytes_of_lines (lines_with (place + 1) (violation_text taken.end.ending)))
          ∙ ap (λ (text : List ℕ). before.lines.items ++ (bytes_of_lines (lines_with (place + 1) text) ++ bytes_of_lines (lines_with (place + 1) (violation_text taken.end.ending)))) takes.one.line
          ∙ ap (λ (e : Option Ending). before.lines.items ++ (bytes_of_lines (lines_with (place + 1) (line_of o.act f)) ++ bytes_of_lines (lines_with (place + 1) (violation_text e)))) ending;
    }

-- ---- the stage that it stands at then

module _ (session : Settings) (s : Stage) (old new : Seat) (place : ℕ) (before after : Written) (f : Frame) where
  abbrev pub stage_reply : Incoming → Reply
  stage_reply i = reply_of (around_place (acceptor_of session) s.place) s.facts i

  pub same_reply : Sits session s old → (x : AnswersAt place old new before after f) → stage_reply x.incoming ≡ seat_reply old x.incoming
  same_reply sits x = rw (sits.config, sits.most, sits.at, sits.facts, x.unheld) refl

  pub sits_next : Sits session s old → s.ending ≡ None → (x : AnswersAt place old new before after f) → Sits session (next_stage (acceptor_of session) s (record { frame = f; incoming = x.incoming })) new
  sits_next sits going x =
      let h : Received = record { frame = f; incoming = x.incoming } in
      let o : Reply = stage_reply x.incoming in
      let same : o ≡ seat_reply old x.incoming = same_reply sits x in
      subst (λ (t : Stage). Sits session t new) (sym (next_stage-going (acceptor_of session) s h going)) (record {
        config = x.config ∙ sits.config;
        most = x.most ∙ sits.most;
        facts = x.facts ∙ ap (λ (r : Reply). r.next) (sym same);
        at =
            x.at ∙ ap (λ (r : Reply). if is_some r.ending then old.at else next_place old.at f) (sym same)
            ∙ ap (λ (p : ℕ). if is_some o.ending then p else next_place p f) sits.at;
        ending = x.ending ∙ ap (λ (r : Reply). r.ending) (sym same);
      })

-- ---- one of the seats changes

get_set : {X : Type 0} (xs : List X) (p q : ℕ) (y z : X) → slice_get (slice_set xs p y) q ≡ Some z → ((q ≡ p) × (z ≡ y)) ⊎ ((q ≡ p → ⊥) × (slice_get xs q ≡ Some z))
get_set [] p q y z e = absurd (cc e)
get_set (x ∷ xs) zero zero y z e = let same : z ≡ y = cc in inl (refl, same)
get_set (x ∷ xs) zero (suc q) y z e = inr ((λ h. omega (arith, h)), e)
get_set (x ∷ xs) (suc p) zero y z e = inr ((λ h. omega (arith, h)), e)
get_set (x ∷ xs) (suc p) (suc q) y z e =
    elim (get_set xs p q y z e) as (λ _. ((suc q ≡ suc p) × (z ≡ y)) ⊎ ((suc q ≡ suc p → ⊥) × (slice_get (x ∷ xs) (suc q) ≡ Some z))) [
      | inl h ↦ inl (ap suc h.0, h.1)
      | inr h ↦ inr ((λ i. h.0 (omega (arith, i))), h.1)
    ]

pub usable_set : (seats : List Seat) (p : ℕ) (new : Seat) → IsUsable new → ((q : ℕ) (seat : Seat) → slice_get seats q ≡ Some seat → IsUsable seat)
    → (q : ℕ) (seat : Seat) → slice_get (slice_set seats p new) q ≡ Some seat → IsUsable seat
usable_set seats p new usable each q seat e =
    elim (get_set seats p q new seat e) as (λ _. IsUsable seat) [
      | inl h ↦ subst IsUsable (sym h.1) usable
      | inr h ↦ each q seat h.1
    ]

same_some : {X : Type 0} (x y : X) → Some x ≡ Some y → x ≡ y
same_some x y e = cc

-- the session at a place took one more frame; of the others nothing changed
pub seated_push : (sessions : List Settings) (came : List Came) (seats : List Seat) (c : Came) (new : Seat) → slice_get sessions c.place ≡ Some c.session → AreSeated sessions came seats
    → Sits c.session (stage_after (acceptor_of c.session) (of_place c.place came ++ c.received ∷ [])) new
    → AreSeated sessions (came ++ c ∷ []) (slice_set seats c.place new)
seated_push sessions came seats c new stands seated sits q session seat at_q is =
    elim (get_set seats c.place q new seat is) as (λ _. Sits session (stage_after (acceptor_of session) (of_place q (came ++ c ∷ []))) seat) [
      | inl h ↦
          let own : session ≡ c.session = same_some session c.session (sym at_q ∙ ap (slice_get sessions) h.0 ∙ stands) in
          let came_to : of_place q (came ++ c ∷ []) ≡ of_place c.place came ++ c.received ∷ [] = of_place-own q came c (sym h.0) ∙ ap (λ (p : ℕ). of_place p came ++ c.received ∷ []) h.0 in
          rw (own, came_to, h.1) sits
      | inr h ↦
          let same : of_place q (came ++ c ∷ []) ≡ of_place q came = of_place-other q came c (λ e. h.0 (sym e)) in
          rw same (seated q session seat at_q h.1)
    ]

-- ---- one more seat

get_push : {X : Type 0} (xs : List X) (y z : X) (q : ℕ) → slice_get (xs ++ y ∷ []) q ≡ Some z → (slice_get xs q ≡ Some z) ⊎ ((q ≡ length xs) × (z ≡ y))
get_push [] y z zero e = let same : z ≡ y = cc in inr (refl, same)
get_push [] y z (suc q) e = absurd (cc e)
get_push (x ∷ xs) y z zero e = inl e
get_push (x ∷ xs) y z (suc q) e =
    elim (get_push xs y z q e) as (λ _. (slice_get (x ∷ xs) (suc q) ≡ Some z) ⊎ ((suc q ≡ length (x ∷ xs)) × (z ≡ y))) [
      | inl h ↦ inl h
      | inr h ↦ inr (omega (arith, h.0), h.1)
    ]

pub usable_push : (seats : List Seat) (new : Seat) → AreUsable seats → IsUsable new → AreUsable (seats ++ new ∷ [])
usable_push seats new each usable place seat at =
    elim (get_push seats new seat place at) as (λ _. IsUsable seat) [
      | inl h ↦ each place seat h
      | inr h ↦ subst IsUsable (sym h.1) usable
    ]

pub seated_first : (sessions : List Settings) (seats : List Seat) (session : Settings) (new : Seat) → AreSeated sessions [] seats → slice_get sessions (length seats) ≡ Some session → Sits session first_stage new
    → AreSeated sessions [] (seats ++ new ∷ [])
seated_first sessions seats session new each stands sits place other seat at_place at =
    elim (get_push seats new seat place at) as (λ _. Sits other first_stage seat) [
      | inl h ↦ each place other seat at_place h
      | inr h ↦
          let same : other ≡ session = same_some other session (sym at_place ∙ ap (slice_get sessions) h.0 ∙ stands) in
          rw (same, h.1) sits
    ]

pub seated_none : (sessions : List Settings) → AreSeated sessions [] []
seated_none sessions place session seat at_place at = absurd (cc at)

pub usable_none : AreUsable []
usable_none place seat at = absurd (cc at)
