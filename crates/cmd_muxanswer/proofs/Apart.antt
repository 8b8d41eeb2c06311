-- Each session's part of WIRE and its lines are those of its own answer.
use Rattle.std.proofs.Common.{◌≡◌, inl, inr, ℕ, ◌+◌, List, [], ◌∷◌, ◌++◌, Option, Some, None, slice_get, refl, sym, ◌∙◌, ap, subst, append_assoc, append-nil, arith}
use Rattle.std.proofs.lemmas.Bool.{cases_eq}
use Rattle.std.proofs.lemmas.Grind.{flat_map-append}
use Rattle.sofh_frame.specs.Framing.{Frame, spelled}
use Rattle.sofh_frame.specs.Splits.{spelled_all}
use Rattle.fixp_shake.specs.declared.config.EndConfig.{EndConfig}
use Rattle.fixp_replies.specs.declared.act.Ending.{Ending}
use Rattle.fixp_replies.specs.declared.act.Ending.TheVariants as endings
use Rattle.fixp_replies.specs.Outcomes.{Outcome as Reply}
use Rattle.fixp_replies.specs.Replies.{reply_of}
use Rattle.fixp_machine.specs.Machine.{bytes_of}
use Rattle.fixp_mux.specs.Parts.{named_behind, part_of}
use Rattle.fixp_mux.proofs.Partings.{part_append}
use Rattle.cmd_config.specs.declared.settings.Settings.{Settings}
use Rattle.cmd_answer.specs.Lines.{line_of}
use Rattle.cmd_answer.specs.Answer.{Stage, acceptor_of, around_place, answered, stage_after, status_of, Answer, answer_at_end, answer_after}
use Rattle.cmd_muxanswer.proofs.Given.{stage_after-push, next_stage-going}
use Rattle.cmd_muxanswer.specs.Input.{Carried, carried}
use Rattle.cmd_muxanswer.specs.Lines.{violation_text, texts_of}
use Rattle.cmd_muxanswer.specs.Answer.{Came, of_place, stage_at, Takes, AreTaken, reply_in, frames_in, lines_in, Reach, behind_context, reach_after}
use Rattle.cmd_muxanswer.specs.Laws.{AreApart, violated, EachIsItsOwn}
use Rattle.cmd_muxanswer.proofs.Arrivals.{of_place-own, of_place-other}
use Rattle.cmd_muxanswer.proofs.Routing.{spelled_messages}
use Rattle.cmd_muxanswer.proofs.Fronts.{same_place}
use Rattle.cmd_muxanswer.proofs.Owns.{own_session, own_stage, own_answer}
use Rattle.cmd_muxanswer.proofs.Wires.{messages_carry, replies, texts-append, texts_own, texts_other, next_is, Wired, wired_next, wired_none}

-- what the whole answer has, where no frame was left over
record Ends (cfg : EndConfig) (s : Stage) (answer : Answer) : Type 0 where
  wire : answer.wire ≡ s.wire
  out : answer.out ≡ s.out
  status : violated answer.status ≡ violation_text s.ending

violated_by : (place : ℕ) (e : Ending) → violated (status_of place e) ≡ violation_text (Some e)
violated_by place endings.Finished = refl
violated_by place (endings.PeerTerminated code) = refl
violated_by place endings.LinkEnded = refl
violated_by place (endings.Rejected template code) = refl
violated_by place (endings.Violation violation) = refl

ends_none : (cfg : EndConfig) (s : Stage) → s.ending ≡ None → Ends cfg s (answer_at_end cfg s [] None)
ends_none cfg s going = record { wire = refl; out = refl; status = sym (ap violation_text going) }

ends_some : (cfg : EndConfig) (s : Stage) (tail : List ℕ) (e : Ending) → s.ending ≡ Some e → Ends cfg s (answer_at_end cfg s tail (Some e))
ends_some cfg s tail e ended = record { wire = refl; out = refl; status = violated_by s.place e ∙ sym (ap violation_text ended) }

ends : (cfg : EndConfig) (s : Stage) (tail : List ℕ) (ending : Option Ending) → s.ending ≡ ending → (s.ending ≡ None → tail ≡ []) → Ends cfg s (answer_at_end cfg s tail ending)
ends cfg s tail None going nothing = subst (λ (t : List ℕ). Ends cfg s (answer_at_end cfg s t None)) (sym (nothing going)) (ends_none cfg s going)
ends cfg s tail (Some e) ended nothing = ends_some cfg s tail e ended

module _ (sessions : List Settings) (apart : AreApart sessions) (place : ℕ) (session : Settings) (stands : slice_get sessions place ≡ Some session) where
  abbrev at : List Came → Stage
  at came = stage_after (acceptor_of session) (of_place place came)

  record OwnReach (came : List Came) : Type 0 where
    wire : spelled_all (part_of None session.session (reach_after came).wire) ≡ (at came).wire
    lines : texts_of (place + 1) (reach_after came).lines ≡ (at came).out ++ violation_text (at came).ending

  -- the parts of what a reply adds
  more_wire : (r : Reach) (c : Came) (o : Reply)
      → spelled_all (part_of None session.session (r.wire ++ behind_context r.writing c (frames_in o)))
      ≡ spelled_all (part_of None session.session r.wire) ++ spelled_all (part_of (named_behind None r.wire) session.session (behind_context r.writing c (frames_in o)))
  more_wire r c o =
      ap spelled_all (part_append None session.session r.wire (behind_context r.writing c (frames_in o)))
      ∙ flat_map-append spelled (part_of None session.session r.wire) (part_of (named_behind None r.wire) session.session (behind_context r.writing c (frames_in o)))

  -- a frame of this session
  own_frame : (earlier : List Came) (k : Carried) (c : Came) → Takes sessions earlier k c → c.place ≡ place → Wired sessions apart earlier → OwnReach earlier → OwnReach (earlier ++ c ∷ [])
  own_frame earlier k c takes here wired x =
      let r = reach_after earlier in
      let h = c.received in
      let o : Reply = reply_in (stage_at earlier c) c in
      let q : Reply = reply_of (around_place (acceptor_of session) (at earlier).place) (at earlier).facts h.incoming in
      let own = own_session sessions apart.once place session stands c earlier k takes here in
      let staged : stage_at earlier c ≡ at earlier = own_stage sessions apart.once place session stands c earlier k takes here in
      let same : o ≡ q =
      ap (λ (s : Stage). reply_of (around_place (acceptor_of c.session) s.place) s.facts h.incoming) staged
      ∙ ap (λ (s : Settings). reply_of (around_place (acceptor_of s) (at earlier).place) (at earlier).facts h.incoming) own in
      let going : (at earlier).ending ≡ None = ap (λ (s : Stage). s.ending) (sym staged) ∙ takes.going in
      let one = replies sessions apart r.writing (named_behind None r.wire) c (frames_in o) takes.stands (messages_carry o.written) wired.writes in
      let part : part_of (named_behind None r.wire) session.session (behind_context r.writing c (frames_in o)) ≡ frames_in o =
      ap (λ (s : Settings). part_of (named_behind None r.wire) s.session (behind_context r.writing c (frames_in o))) (sym own) ∙ one.own in
      let next : at (earlier ++ c ∷ []) ≡ answered (at earlier) h q =
      ap (stage_after (acceptor_of session)) (of_place-own place earlier c here) ∙ stage_after-push (acceptor_of session) (of_place place earlier) h ∙ next_stage-going (acceptor_of session) (at earlier) h going in
      let line = line_of o.act h.frame in
      let ending = violation_text o.ending in
      let number : c.place + 1 ≡ place + 1 = ap (λ (n : ℕ). n + 1) here in
      record {
        wire =
            ap (λ (t : Reach). spelled_all (part_of None session.session t.wire)) (next_is sessions apart earlier c) ∙ more_wire r c o
            ∙ ap (λ (bs : List ℕ). bs ++ spelled_all (part_of (named_behind None r.wire) session.session (behind_context r.writing c (frames_in o)))) x.wire
            ∙ ap (λ (fs : List Frame). (at earlier).wire ++ spelled_all fs) part
            ∙ ap (λ (bs : List ℕ). (at earlier).wire ++ bs) (sym (spelled_messages o.written))
            ∙ ap (λ (p : Reply). (at earlier).wire ++ bytes_of p.written) same
            ∙ sym (ap (λ (s : Stage). s.wire) next);
        lines =
            ap (λ (t : Reach). texts_of (place + 1) t.lines) (next_is sessions apart earlier c) ∙ texts-append (place + 1) r.lines (lines_in (c.place + 1) h.frame o)
            ∙ ap (λ (n : ℕ). texts_of (place + 1) r.lines ++ texts_of (place + 1) (lines_in n h.frame o)) number
            ∙ ap (λ (bs : List ℕ). texts_of (place + 1) r.lines ++ bs) (texts_own (place + 1) h.frame o)
            ∙ ap (λ (bs : List ℕ). bs ++ (line ++ ending)) (x.lines ∙ ap (λ (e : Option Ending). (at earlier).out ++ violation_text e) going ∙ append-nil (at earlier).out)
            ∙ sym (append_assoc (at earlier).out line ending)
            ∙ ap (λ (p : Reply). ((at earlier).out ++ line_of p.act h.frame) ++ violation_text p.ending) same
            ∙ sym (ap (λ (s : Stage). s.out ++ violation_text s.ending) next);
      }

  -- a frame of another
  other_frame : (earlier : List Came) (k : Carried) (c : Came) → Takes sessions earlier k c → (c.place ≡ place → ⊥) → Wired sessions apart earlier → OwnReach earlier → OwnReach (earlier ++ c ∷ [])
  other_frame earlier k c takes unlike wired x =
      let r = reach_after earlier in
      let o : Reply = reply_in (stage_at earlier c) c in
      let one = replies sessions apart r.writing (named_behind None r.wire) c (frames_in o) takes.stands (messages_carry o.written) wired.writes in
      let differs : c.session.session ≡ session.session → ⊥ = λ e. unlike (same_place sessions apart.once c.place place c.session session takes.stands stands e) in
      let stays : at (earlier ++ c ∷ []) ≡ at earlier = ap (stage_after (acceptor_of session)) (of_place-other place earlier c unlike) in
      record {
        wire =
            ap (λ (t : Reach). spelled_all (part_of None session.session t.wire)) (next_is sessions apart earlier c) ∙ more_wire r c o
            ∙ ap (λ (fs : List Frame). spelled_all (part_of None session.session r.wire) ++ spelled_all fs) (one.none session.session differs)
            ∙ append-nil (spelled_all (part_of None session.session r.wire)) ∙ x.wire ∙ sym (ap (λ (s : Stage). s.wire) stays);
        lines =
            ap (λ (t : Reach). texts_of (place + 1) t.lines) (next_is sessions apart earlier c) ∙ texts-append (place + 1) r.lines (lines_in (c.place + 1) c.received.frame o)
            ∙ ap (λ (bs : List ℕ). texts_of (place + 1) r.lines ++ bs) (texts_other (place + 1) (c.place + 1) c.received.frame o (λ e. unlike (omega (arith, e))))
            ∙ append-nil (texts_of (place + 1) r.lines) ∙ x.lines ∙ sym (ap (λ (s : Stage). s.out ++ violation_text s.ending) stays);
      }

  own_next : (earlier : List Came) (k : Carried) (c : Came) → Takes sessions earlier k c → Wired sessions apart earlier → OwnReach earlier → OwnReach (earlier ++ c ∷ [])
  own_next earlier k c takes wired x =
      elim (cases_eq c.place place) as (λ _. OwnReach (earlier ++ c ∷ [])) [
        | inl here ↦ own_frame earlier k c takes here wired x
        | inr unlike ↦ other_frame earlier k c takes unlike wired x
      ]

  own_all : (earlier : List Came) (ks : List Carried) (came : List Came) → AreTaken sessions earlier ks came → Wired sessions apart earlier → OwnReach earlier → OwnReach (earlier ++ came)
  own_all earlier [] came none wired x = subst (λ (cs : List Came). OwnReach (earlier ++ cs)) (sym none) (subst OwnReach (sym (append-nil earlier)) x)
  own_all earlier (k ∷ ks) [] taken wired x = own_all earlier ks [] taken.1 wired x
  own_all earlier (k ∷ ks) (c ∷ came) (inl taken) wired x = own_all earlier ks (c ∷ came) taken.1 wired x
  own_all earlier (k ∷ ks) (c ∷ came) (inr taken) wired x =
      subst OwnReach (append_assoc earlier (c ∷ []) came)
      (own_all (earlier ++ c ∷ []) ks came taken.1 (wired_next sessions apart earlier c taken.0.stands wired) (own_next earlier k c taken.0 wired x))

  own_none : OwnReach []
  own_none = record { wire = refl; lines = refl }

  its_own : (frames : List Frame) (came : List Came) → AreTaken sessions [] (carried None frames) came → OwnReach came
  its_own frames came taken = own_all [] (carried None frames) came taken (wired_none sessions apart) own_none

pub each_is_its_own : EachIsItsOwn
each_is_its_own sessions input answer x place session apart stands =
    let cfg = acceptor_of session in
    let s = stage_after cfg (of_place place x.came) in
    let own = own_answer sessions apart.once place session stands x.frames x.came x.is_input.each x.taken in
    let reach = its_own sessions apart place session stands x.frames x.came x.taken in
    let end = ends cfg s own.tail s.ending refl own.none in
    record {
      own = answer_after cfg (of_place place x.came) own.tail;
      is = own.is;
      wire = reach.wire ∙ sym end.wire;
      lines = reach.lines ∙ ap (λ (bs : List ℕ). bs ++ violation_text s.ending) (sym end.out) ∙ ap (λ (bs : List ℕ). (answer_after cfg (of_place place x.came) own.tail).out ++ bs) (sym end.status);
    }
