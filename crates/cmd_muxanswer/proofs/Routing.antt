-- What a frame leaves of the sessions: it names one, it is answered by the one that was named last, or that one ignores it.
use Rattle.std.proofs.Common.{◌≡◌, ℕ, zero, suc, ◌+◌, ◌<◌, Bool, true, false, cond, List, [], ◌∷◌, ◌++◌, length, map, get_or, Option, Some, None, slice_get, slice_set, refl, sym, ◌∙◌, ap, subst, append_assoc, append-nil, arith}
use Rattle.std.specs.Prelude.{IsSome, IfSome, Result, Ok, Err, OnOk}
use Rattle.std.specs.List.{IsAmong}
use Rattle.std.proofs.lemmas.Option.{slice_get_within, slice_get_read, get_or_from_slice_get}
use Rattle.std.proofs.lemmas.Grind.{flat_map-append}
use Rattle.std.proofs.lemmas.List.{length-append, length-set, set-get_or}
use Rattle.sofh_frame.specs.Framing.{Frame, spelled, header_of}
use Rattle.sofh_frame.specs.Splits.{spelled_all}
use Rattle.sofh_frame.proofs.SplitLemmas.{length-spelled}
use Rattle.fixp_msgs.specs.Message.{Message}
use Rattle.fixp_msgs.specs.Canonical.{frame_bytes}
use Rattle.fixp_shake.specs.declared.config.EndConfig.{EndConfig}
use Rattle.fixp_replies.specs.declared.act.Ending.{Ending}
use Rattle.fixp_replies.specs.Outcomes.{Outcome as Reply}
use Rattle.fixp_machine.specs.Machine.{bytes_of}
use Rattle.fixp_mux.specs.Context.{Says, names, carries, says, context_frame}
use Rattle.fixp_mux.specs.Parts.{named_by, named_behind, IsWellSaid, WellRouted}
use Rattle.fixp_mux.specs.State.{IsOf}
use Rattle.routes.specs.Identifiers.{StandsAt}
use Rattle.cmd_config.specs.declared.settings.Settings.{Settings}
use Rattle.cmd_answer.specs.Lines.{line_of}
use Rattle.cmd_answer.specs.Answer.{Received, Stage, acceptor_of, stage_after}
use Rattle.cmd_muxanswer.proofs.Given.{stage_after-push}
use Rattle.cmd_muxanswer.specs.declared.seat.Seat.{Seat}
use Rattle.cmd_muxanswer.specs.declared.wire.Written.{Written}
use Rattle.cmd_muxanswer.specs.declared.router.Router.{Router}
use Rattle.cmd_muxanswer.specs.declared.unrouted.Unrouted.TheVariants.{NoContext, OtherSession}
use Rattle.cmd_muxanswer.specs.Sessions.{AreSessions, identifiers}
use Rattle.cmd_muxanswer.specs.Input.{Carried, carried_by, carried, IsUnrouted}
use Rattle.cmd_muxanswer.specs.Lines.{line_bytes, bytes_of_lines, lines_with, violation_text}
use Rattle.cmd_muxanswer.specs.Answer.{Came, of_place, stage_at, Ignores, Takes, AreTaken, reply_in, frame_of, frames_in, lines_in, Reach, is_writing, behind_context, writes_next, replied, reach_after}
use Rattle.cmd_muxanswer.specs.Progress.{Sits, IsUsable, AnswersAt, AreUsable, IsOpen, AreSeated, IsNamed, Holds, context_before, writes_after, seat_reply}
use Rattle.cmd_muxanswer.proofs.Arrivals.{carried-push, routed-push, named-push, taken-push, taken-ignored, reach-came, reach-push}
use Rattle.cmd_muxanswer.proofs.Seating.{same_reply, sits_next, seated_push, usable_set}

-- ---- what is written

-- the bytes of messages are those of their frames
pub spelled_message : (m : Message) → frame_bytes m ≡ spelled (frame_of m)
unfolding header_of
spelled_message m = refl

pub spelled_messages : (ms : List Message) → bytes_of ms ≡ spelled_all (map frame_of ms)
spelled_messages [] = refl
spelled_messages (m ∷ ms) =
    ap (λ (bs : List ℕ). bs ++ bytes_of ms) (spelled_message m) ∙ ap (λ (bs : List ℕ). spelled (frame_of m) ++ bs) (spelled_messages ms)

-- where there are bytes
before_bytes : (writing : Option ℕ) (place : ℕ) (id bytes : List ℕ) → 0 < length bytes
    → context_before writing place id bytes ≡ cond (is_writing writing place) [] (spelled (context_frame id)) ++ bytes
before_bytes writing place id [] some = absurd (omega (arith, some))
before_bytes writing place id (byte ∷ bytes) some = refl

after_bytes : (writing : Option ℕ) (place : ℕ) (bytes : List ℕ) → 0 < length bytes → writes_after writing place bytes ≡ Some place
after_bytes writing place [] some = absurd (omega (arith, some))
after_bytes writing place (byte ∷ bytes) some = refl

frames_some : (f : Frame) (fs : List Frame) → 0 < length (spelled_all (f ∷ fs))
frames_some f fs = omega (arith, length-append (spelled f) (spelled_all fs), length-spelled f)

context_spelled : (b : Bool) (id : List ℕ) (fs : List Frame) → cond b [] (spelled (context_frame id)) ++ spelled_all fs ≡ spelled_all (cond b [] (context_frame id ∷ []) ++ fs)
context_spelled true id fs = refl
context_spelled false id fs = refl

pub behind_context_spelled : (writing : Option ℕ) (c : Came) (fs : List Frame) → context_before writing c.place c.session.session (spelled_all fs) ≡ spelled_all (behind_context writing c fs)
behind_context_spelled writing c [] = refl
behind_context_spelled writing c (f ∷ fs) =
    before_bytes writing c.place c.session.session (spelled_all (f ∷ fs)) (frames_some f fs) ∙ context_spelled (is_writing writing c.place) c.session.session (f ∷ fs)

pub writes_next_spelled : (writing : Option ℕ) (c : Came) (fs : List Frame) → writes_after writing c.place (spelled_all fs) ≡ writes_next writing c fs
writes_next_spelled writing c [] = refl
writes_next_spelled writing c (f ∷ fs) = after_bytes writing c.place (spelled_all (f ∷ fs)) (frames_some f fs)

-- ---- the sessions

-- the session of an identifier that stands at a place
pub stands_session : (sessions : List Settings) (place : ℕ) (id : List ℕ) → StandsAt (identifiers sessions) id place
    → (session : Settings) × (slice_get sessions place ≡ Some session) × (session.session ≡ id)
stands_session [] place id stands = absurd (cc stands)
stands_session (s ∷ sessions) zero id stands = let same : s.session ≡ id = cc in (s, refl, same)
stands_session (s ∷ sessions) (suc place) id stands = stands_session sessions place id stands

pub stands_among : (ids : List (List ℕ)) (place : ℕ) (id : List ℕ) → StandsAt ids id place → IsAmong ids id
stands_among ids place id stands = (place, (slice_get_within ids place id stands, sym (get_or_from_slice_get ids place id id stands)))

-- ---- a Context

module _ (sessions : List Settings) (frames : List Frame) (wire out : List ℕ) where
  -- a Context names a session
  pub holds_named : (r : Router) (f : Frame) (id : List ℕ) (place : ℕ) → Holds sessions frames wire out r → says f ≡ names id → StandsAt (identifiers sessions) id place
      → Holds sessions (frames ++ f ∷ []) wire out (record r { named = Some place })
  holds_named r f id place holds said stands =
      let before = named_behind None frames in
      let Known : List ℕ → Type 0 = IsOf (identifiers sessions) in
      let nothing : carried None (frames ++ f ∷ []) ≡ carried None frames = carried-push None frames f ∙ ap (λ (s : Says). carried None frames ++ carried_by before s f) said ∙ append-nil (carried None frames) in
      let now : named_behind None (frames ++ f ∷ []) ≡ Some id = named-push None frames f ∙ ap (named_by before) said in
      record {
        came = holds.came;
        same = holds.same;
        well = routed-push Known None frames f holds.well (subst (IsWellSaid Known before) (sym said) (stands_among (identifiers sessions) place id stands));
        taken = subst (λ (ks : List Carried). AreTaken sessions [] ks holds.came) (sym nothing) holds.taken;
        named = subst (λ (n : Option (List ℕ)). IsNamed (identifiers sessions) n (Some place)) (sym now) stands;
        seats = holds.seats;
        writing = holds.writing;
        wire_is = holds.wire_is;
        out_is = holds.out_is;
      }

  -- ---- a frame of the session that was named last

  -- the session that was named last, by its place
  named_one : (before : Option (List ℕ)) (place : ℕ) → IsNamed (identifiers sessions) before (Some place) → (id : List ℕ) × (before ≡ Some id) × StandsAt (identifiers sessions) id place
  named_one None place named = absurd named
  named_one (Some id) place named = (id, refl, named)

  pub carried_one : (r : Router) (f : Frame) (place : ℕ) → Holds sessions frames wire out r → r.named ≡ Some place → says f ≡ carries
      → (session : Settings) × (slice_get sessions place ≡ Some session) × (named_behind None frames ≡ Some session.session)
  carried_one r f place holds is said =
      let named : IsNamed (identifiers sessions) (named_behind None frames) (Some place) = subst (IsNamed (identifiers sessions) (named_behind None frames)) is holds.named in
      let one = named_one (named_behind None frames) place named in
      let session = stands_session sessions place one.0 one.2 in
      (session.0, session.1, one.1 ∙ ap Some (sym session.2))

  -- what is carried once more, and what is named then
  abbrev one_more : Frame → Settings → Carried
  one_more f session = record { id = session.session; frame = f }

  more_carried : (f : Frame) (session : Settings) → named_behind None frames ≡ Some session.session → says f ≡ carries
      → carried None (frames ++ f ∷ []) ≡ carried None frames ++ one_more f session ∷ []
  more_carried f session is said =
      carried-push None frames f ∙ ap (λ (s : Says). carried None frames ++ carried_by (named_behind None frames) s f) said
      ∙ ap (λ (n : Option (List ℕ)). carried None frames ++ carried_by n carries f) is

  still_named : (f : Frame) → says f ≡ carries → named_behind None (frames ++ f ∷ []) ≡ named_behind None frames
  still_named f said = named-push None frames f ∙ ap (named_by (named_behind None frames)) said

  well_carried : (f : Frame) (session : Settings) → WellRouted (IsOf (identifiers sessions)) None frames → named_behind None frames ≡ Some session.session → says f ≡ carries
      → WellRouted (IsOf (identifiers sessions)) None (frames ++ f ∷ [])
  well_carried f session well is said =
      let Known : List ℕ → Type 0 = IsOf (identifiers sessions) in
      routed-push Known None frames f well (subst (IsWellSaid Known (named_behind None frames)) (sym said) (subst IsSome (sym is) refl))

  -- its connection has ended: the frame is ignored
  pub holds_ignored : (r : Router) (f : Frame) (place : ℕ) (seat : Seat) → Holds sessions frames wire out r → r.named ≡ Some place → says f ≡ carries
      → slice_get r.seats.items place ≡ Some seat → IsSome seat.end.ending → Holds sessions (frames ++ f ∷ []) wire out r
  holds_ignored r f place seat holds is said at over =
      let one = carried_one r f place holds is said in
      let session = one.0 in
      let sits = holds.seats place session seat one.1 at in
      let ignores : Ignores sessions holds.came (one_more f session) = record { place = place; session = session; stands = one.1; named = refl; over = subst IsSome sits.ending over } in
      record {
        came = holds.came;
        same = holds.same;
        well = well_carried f session holds.well one.2 said;
        taken = subst (λ (ks : List Carried). AreTaken sessions [] ks holds.came) (sym (more_carried f session one.2 said)) (taken-ignored sessions [] (carried None frames) holds.came (one_more f session) holds.taken ignores);
        named = subst (λ (n : Option (List ℕ)). IsNamed (identifiers sessions) n r.named) (sym (still_named f said)) holds.named;
        seats = holds.seats;
        writing = holds.writing;
        wire_is = holds.wire_is;
        out_is = holds.out_is;
      }

  -- it is answered
  pub holds_answered : (r s : Router) (f : Frame) (place : ℕ) (old new : Seat) → Holds sessions frames wire out r → r.named ≡ Some place → says f ≡ carries
      → slice_get r.seats.items place ≡ Some old → old.end.ending ≡ None → AnswersAt place old new r.written s.written f
      → s.sessions ≡ r.sessions → s.named ≡ r.named → s.seats.items ≡ slice_set r.seats.items place new
      → Holds sessions (frames ++ f ∷ []) wire out s
  holds_answered r s f place old new holds is said at going x same_sessions same_named seats =
      let one = carried_one r f place holds is said in
      let session = one.0 in
      let stage : Stage = stage_after (acceptor_of session) (of_place place holds.came) in
      let h : Received = record { frame = f; incoming = x.incoming } in
      let c : Came = record { place = place; session = session; received = h } in
      let sits = holds.seats place session old one.1 at in
      let going_on : stage.ending ≡ None = sym sits.ending ∙ going in
      let o : Reply = reply_in (stage_at holds.came c) c in
      let same : o ≡ seat_reply old x.incoming = same_reply session stage old new place r.written s.written f sits x in
      let reach = reach_after holds.came in
      let next : reach_after (holds.came ++ c ∷ []) ≡ replied reach c o = reach-push holds.came c ∙ ap (λ (e : List Came). replied reach c (reply_in (stage_at e c) c)) (reach-came holds.came) in
      let takes : Takes sessions holds.came (one_more f session) c = record { stands = one.1; named = refl; frame = refl; classified = x.is; going = going_on } in
      let id : old.end.config.session ≡ session.session = ap (λ (cfg : EndConfig). cfg.session) sits.config in
      let written : bytes_of (seat_reply old x.incoming).written ≡ spelled_all (frames_in o) = ap (λ (q : Reply). bytes_of q.written) (sym same) ∙ spelled_messages o.written in
      let wired : s.written.wire.bytes.items ≡ r.written.wire.bytes.items ++ spelled_all (behind_context r.written.wire.writing c (frames_in o)) =
      x.wire.bytes ∙ ap (λ (i : List ℕ). r.written.wire.bytes.items ++ context_before r.written.wire.writing place i (bytes_of (seat_reply old x.incoming).written)) id
      ∙ ap (λ (bs : List ℕ). r.written.wire.bytes.items ++ context_before r.written.wire.writing place session.session bs) written
      ∙ ap (λ (bs : List ℕ). r.written.wire.bytes.items ++ bs) (behind_context_spelled r.written.wire.writing c (frames_in o)) in
      let outed : s.written.lines.items ≡ r.written.lines.items ++ bytes_of_lines (lines_in (place + 1) f o) =
      x.lines
      ∙ ap (λ (q : Reply). r.written.lines.items ++ (bytes_of_lines (lines_with (place + 1) (line_of q.act f)) ++ bytes_of_lines (lines_with (place + 1) (violation_text q.ending)))) (sym same)
      ∙ ap (λ (bs : List ℕ). r.written.lines.items ++ bs) (sym (flat_map-append line_bytes (lines_with (place + 1) (line_of o.act f)) (lines_with (place + 1) (violation_text o.ending)))) in
      record {
        came = holds.came ++ c ∷ [];
        same = same_sessions ∙ holds.same;
        well = well_carried f session holds.well one.2 said;
        taken = subst (λ (ks : List Carried). AreTaken sessions [] ks (holds.came ++ c ∷ [])) (sym (more_carried f session one.2 said)) (taken-push sessions [] (carried None frames) holds.came (one_more f session) c holds.taken takes);
        named = subst (λ (n : Option (List ℕ)). IsNamed (identifiers sessions) n s.named) (sym (still_named f said)) (subst (IsNamed (identifiers sessions) (named_behind None frames)) (sym same_named) holds.named);
        seats = subst (AreSeated sessions (holds.came ++ c ∷ [])) (sym seats)
            (seated_push sessions holds.came r.seats.items c new one.1 holds.seats
            (subst (λ (t : Stage). Sits session t new) (sym (stage_after-push (acceptor_of session) (of_place place holds.came) h)) (sits_next session stage old new place r.written s.written f sits going_on x)));
        writing =
            x.wire.writing ∙ ap (writes_after r.written.wire.writing place) written ∙ writes_next_spelled r.written.wire.writing c (frames_in o)
            ∙ ap (λ (w : Option ℕ). writes_next w c (frames_in o)) holds.writing ∙ sym (ap (λ (t : Reach). t.writing) next);
        wire_is =
            ap (λ (bs : List ℕ). wire ++ bs) wired ∙ sym (append_assoc wire r.written.wire.bytes.items (spelled_all (behind_context r.written.wire.writing c (frames_in o))))
            ∙ ap (λ (bs : List ℕ). bs ++ spelled_all (behind_context r.written.wire.writing c (frames_in o))) holds.wire_is
            ∙ ap (λ (w : Option ℕ). spelled_all reach.wire ++ spelled_all (behind_context w c (frames_in o))) holds.writing
            ∙ sym (flat_map-append spelled reach.wire (behind_context reach.writing c (frames_in o)))
            ∙ sym (ap (λ (t : Reach). spelled_all t.wire) next);
        out_is =
            ap (λ (bs : List ℕ). out ++ bs) outed ∙ sym (append_assoc out r.written.lines.items (bytes_of_lines (lines_in (place + 1) f o)))
            ∙ ap (λ (bs : List ℕ). bs ++ bytes_of_lines (lines_in (place + 1) f o)) holds.out_is
            ∙ sym (flat_map-append line_bytes reach.lines (lines_in (place + 1) f o))
            ∙ sym (ap (λ (t : Reach). bytes_of_lines t.lines) next);
      }

  -- ---- what the calls leave

  among_stands : (ids : List (List ℕ)) (id : List ℕ) → IsAmong ids id → (p : ℕ) × StandsAt ids id p
  among_stands ids id among = (among.0, slice_get_read ids (length ids) among.0 id refl among.1.0 among.1.1)

  -- a Context of none of the sessions
  pub holds_other : (r : Router) (f : Frame) (id : List ℕ) → Holds sessions frames wire out r → says f ≡ names id → ((p : ℕ) → StandsAt (identifiers sessions) id p → ⊥)
      → Holds sessions frames wire out r × IsUnrouted (identifiers sessions) (named_behind None frames) (says f) OtherSession
  holds_other r f id holds said unlike =
      (holds, subst (λ (s : Says). IsUnrouted (identifiers sessions) (named_behind None frames) s OtherSession) (sym said) (λ among. let at = among_stands (identifiers sessions) id among in unlike at.0 at.1))

  -- no Context came before
  none_named : (before : Option (List ℕ)) → IsNamed (identifiers sessions) before None → before ≡ None
  none_named None named = refl
  none_named (Some id) named = absurd named

  pub holds_none : (r : Router) (f : Frame) → Holds sessions frames wire out r → r.named ≡ None → says f ≡ carries
      → Holds sessions frames wire out r × IsUnrouted (identifiers sessions) (named_behind None frames) (says f) NoContext
  holds_none r f holds is said =
      let before : named_behind None frames ≡ None = none_named (named_behind None frames) (subst (IsNamed (identifiers sessions) (named_behind None frames)) is holds.named) in
      (holds, subst (λ (s : Says). IsUnrouted (identifiers sessions) (named_behind None frames) s NoContext) (sym said) (subst (λ (n : Option (List ℕ)). IsUnrouted (identifiers sessions) n carries NoContext) (sym before) tt))

  holds_same : (some : List Frame) (r s : Router) → Holds sessions some wire out r → s.sessions ≡ r.sessions → s.named ≡ r.named → s.seats.items ≡ r.seats.items → s.written ≡ r.written → Holds sessions some wire out s
  holds_same some r s holds same_sessions same_named seats written = record {
    came = holds.came;
    same = same_sessions ∙ holds.same;
    well = holds.well;
    taken = holds.taken;
    named = subst (IsNamed (identifiers sessions) (named_behind None some)) (sym same_named) holds.named;
    seats = subst (AreSeated sessions holds.came) (sym seats) holds.seats;
    writing = ap (λ (w : Written). w.wire.writing) written ∙ holds.writing;
    wire_is = ap (λ (w : Written). wire ++ w.wire.bytes.items) written ∙ holds.wire_is;
    out_is = ap (λ (w : Written). out ++ w.lines.items) written ∙ holds.out_is;
  }

  -- a frame was handed to the session that was named last, whether its connection had ended or not
  pub holds_either : (r s : Router) (f : Frame) (place : ℕ) (old new : Seat) → Holds sessions frames wire out r → r.named ≡ Some place → says f ≡ carries
      → place < length r.seats.items → old ≡ get_or r.seats.items place old
      → (IsSome old.end.ending → (new ≡ old) × (s.written ≡ r.written)) → (old.end.ending ≡ None → AnswersAt place old new r.written s.written f)
      → s.sessions ≡ r.sessions → s.named ≡ r.named → s.seats.items ≡ slice_set r.seats.items place new
      → Holds sessions (frames ++ f ∷ []) wire out s
  holds_either r s f place old new holds is said within reads over going same_sessions same_named seats = by_ending old.end.ending refl
    where
      at : slice_get r.seats.items place ≡ Some old
      at = slice_get_read r.seats.items (length r.seats.items) place old refl within reads

      by_ending : (e : Option Ending) → old.end.ending ≡ e → Holds sessions (frames ++ f ∷ []) wire out s
      by_ending None open_still = holds_answered r s f place old new holds is said at open_still (going open_still) same_sessions same_named seats
      by_ending (Some e) ended =
          let some : IsSome old.end.ending = subst IsSome (sym ended) refl in
          let same = over some in
          let kept : s.seats.items ≡ r.seats.items = seats ∙ ap (slice_set r.seats.items place) (same.0 ∙ reads) ∙ set-get_or r.seats.items place old in
          holds_same (frames ++ f ∷ []) r s (holds_ignored r f place old holds is said at some) same_sessions same_named kept same.1

pub stands_within : (sessions : List Settings) (place : ℕ) (id : List ℕ) → StandsAt (identifiers sessions) id place → place < length sessions
stands_within sessions place id stands = let one = stands_session sessions place id stands in slice_get_within sessions place one.0 one.1

-- a Context names a session: frames may be given on
pub open_named : (r : Router) (place : ℕ) (id : List ℕ) → IsOpen r → StandsAt (identifiers r.sessions) id place → IsOpen (record r { named = Some place })
open_named r place id opened stands = record { seats = opened.seats; known = opened.known; named = stands_within r.sessions place id stands; usable = opened.usable }

-- frames may be given to the sessions then
pub open_either : (r s : Router) (f : Frame) (place : ℕ) (old new : Seat) → IsOpen r → place < length r.seats.items → old ≡ get_or r.seats.items place old
    → (IsSome old.end.ending → (new ≡ old) × (s.written ≡ r.written)) → (old.end.ending ≡ None → AnswersAt place old new r.written s.written f)
    → s.sessions ≡ r.sessions → s.named ≡ r.named → s.seats.items ≡ slice_set r.seats.items place new → IsOpen s
open_either r s f place old new opened within reads over going same_sessions same_named seats = record {
  seats = ap length seats ∙ length-set r.seats.items place new ∙ opened.seats ∙ sym (ap length same_sessions);
  known = subst AreSessions (sym same_sessions) opened.known;
  named = subst (λ (n : Option ℕ). IfSome n (λ p. p < length s.sessions)) (sym same_named) (subst (λ (l : List Settings). IfSome r.named (λ p. p < length l)) (sym same_sessions) opened.named);
  usable = subst AreUsable (sym seats) (usable_set r.seats.items place new (by_ending old.end.ending refl) opened.usable);
}
  where
    by_ending : (e : Option Ending) → old.end.ending ≡ e → IsUsable new
    by_ending None still = (going still).usable
    by_ending (Some e) ended = subst IsUsable (sym (over (subst IsSome (sym ended) refl)).0) (opened.usable place old (slice_get_read r.seats.items (length r.seats.items) place old refl within reads))

-- what holds of an Ok
pub on_ok_is : {T E P : Type 0} (r : Result T E) (x : T) → r ≡ Ok x → OnOk r P → P
on_ok_is (Ok y) x is held = held
on_ok_is (Err y) x is held = absurd (cc is)

-- a seat takes frames
pub usable_at : (r : Router) (place : ℕ) (old : Seat) → IsOpen r → place < length r.seats.items → old ≡ get_or r.seats.items place old → IsUsable old
usable_at r place old opened within reads = opened.usable place old (slice_get_read r.seats.items (length r.seats.items) place old refl within reads)
