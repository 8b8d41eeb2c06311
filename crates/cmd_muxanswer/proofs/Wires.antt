-- What of WIRE and of OUT is a session's: its own answer's wire and lines, and Contexts only where they are needed.
use Rattle.std.proofs.Common.{◌≡◌, inl, inr, ℕ, zero, suc, ◌==◌, Bool, true, false, cond, List, [], ◌∷◌, ◌++◌, length, map, Option, Some, None, slice_get, refl, sym, ◌∙◌, ap, subst, append_assoc, append-nil, eq-eqb}
use Rattle.std.specs.Str.{bytes_eq}
use Rattle.std.specs.List.{AllByRecursion}
use Rattle.std.proofs.lemmas.Bool.{ne_eqb, eqb-true, eqb-false}
use Rattle.std.proofs.lemmas.Slice.Eq.{bytes_eq-Decides}
use Rattle.sofh_frame.specs.Framing.{Frame}
use Rattle.fixp_msgs.specs.Message.{Message, negotiate, negotiation_response, negotiation_reject, establish, establishment_ack, establishment_reject, sequence, unsequenced_heartbeat, retransmit_request, retransmission, retransmit_reject, applied, not_applied, finished_sending, finished_receiving, terminate}
use Rattle.fixp_replies.specs.Outcomes.{Outcome as Reply}
use Rattle.fixp_mux.specs.Context.{Says, names, malformed, carries, says, context_frame}
use Rattle.fixp_mux.specs.Parts.{named_by, named_behind, own, part_of, IsTightSaid, BeginsWithCarried, Tight}
use Rattle.fixp_mux.proofs.Partings.{named_append}
use Rattle.fixp_mux.proofs.Spelling.{context_names}
use Rattle.cmd_config.specs.declared.settings.Settings.{Settings}
use Rattle.cmd_answer.specs.Lines.{line_of}
use Rattle.cmd_muxanswer.specs.Input.{Carried, carried}
use Rattle.cmd_muxanswer.specs.Lines.{Line, lines_with, violation_text, texts_of}
use Rattle.cmd_muxanswer.specs.Answer.{Came, stage_at, AreTaken, reply_in, frame_of, frames_in, lines_in, Reach, is_writing, behind_context, writes_next, replied, reach_after}
use Rattle.cmd_muxanswer.specs.Laws.{AreApart, ContextsAreNeeded}
use Rattle.cmd_muxanswer.proofs.Arrivals.{reach-came, reach-push}
use Rattle.cmd_muxanswer.proofs.Fronts.{same_place}

-- ---- no message of a session is a Context

message_carries : (m : Message) → says (frame_of m) ≡ carries
unfolding says
message_carries (negotiate session timestamp client_flow credentials) = refl
message_carries (negotiation_response session request_timestamp server_flow credentials) = refl
message_carries (negotiation_reject session request_timestamp code reason) = refl
message_carries (establish session timestamp keepalive next expected credentials) = refl
message_carries (establishment_ack session request_timestamp keepalive next expected) = refl
message_carries (establishment_reject session request_timestamp code reason) = refl
message_carries (sequence next) = refl
message_carries unsequenced_heartbeat = refl
message_carries (retransmit_request session timestamp first count) = refl
message_carries (retransmission session next request_timestamp count) = refl
message_carries (retransmit_reject session request_timestamp code reason) = refl
message_carries (applied first count) = refl
message_carries (not_applied first count) = refl
message_carries (finished_sending session last) = refl
message_carries (finished_receiving session) = refl
message_carries (terminate session code reason) = refl

abbrev Carries : List Frame → Type 0
Carries fs = AllByRecursion (λ (f : Frame). says f ≡ carries) fs

pub messages_carry : (ms : List Message) → Carries (map frame_of ms)
messages_carry [] = tt
messages_carry (m ∷ ms) = (message_carries m, messages_carry ms)

-- ---- frames of one session, behind its name

own_carried : (before : Option (List ℕ)) (id : List ℕ) (f : Frame) (fs : List Frame) → says f ≡ carries → part_of before id (f ∷ fs) ≡ own before carries id f ++ part_of before id fs
own_carried before id f fs said = ap (λ (s : Says). own before s id f ++ part_of (named_by before s) id fs) said

part_named : (id : List ℕ) (fs : List Frame) → Carries fs → part_of (Some id) id fs ≡ fs
part_named id [] all = refl
part_named id (f ∷ fs) all =
    own_carried (Some id) id f fs all.0 ∙ ap (λ (t : Bool). cond t (f ∷ []) [] ++ part_of (Some id) id fs) ((bytes_eq-Decides id id).1 refl) ∙ ap (λ (gs : List Frame). f ∷ gs) (part_named id fs all.1)

not_equal : (a b : List ℕ) → (a ≡ b → ⊥) → bytes_eq a b ≡ false
not_equal a b unlike = by_test (bytes_eq a b) refl
  where
    by_test : (t : Bool) → bytes_eq a b ≡ t → t ≡ false
    by_test true is = absurd (unlike ((bytes_eq-Decides a b).0 is))
    by_test false is = refl

part_unnamed : (other id : List ℕ) (fs : List Frame) → (other ≡ id → ⊥) → Carries fs → part_of (Some other) id fs ≡ []
part_unnamed other id [] unlike all = refl
part_unnamed other id (f ∷ fs) unlike all =
    own_carried (Some other) id f fs all.0 ∙ ap (λ (t : Bool). cond t (f ∷ []) [] ++ part_of (Some other) id fs) (not_equal other id unlike) ∙ part_unnamed other id fs unlike all.1

named_carried : (before : Option (List ℕ)) (fs : List Frame) → Carries fs → named_behind before fs ≡ before
named_carried before [] all = refl
named_carried before (f ∷ fs) all = ap (λ (s : Says). named_behind (named_by before s) fs) all.0 ∙ named_carried before fs all.1

tight_carried : (id : List ℕ) (fs : List Frame) → Carries fs → Tight (Some id) fs
tight_carried id [] all = tt
tight_carried id (f ∷ fs) all =
    (subst (λ (s : Says). IsTightSaid (Some id) s fs) (sym all.0) refl, subst (λ (s : Says). Tight (named_by (Some id) s) fs) (sym all.0) (tight_carried id fs all.1))

begins_more : (xs ys : List Frame) → BeginsWithCarried xs → BeginsWithCarried (xs ++ ys)
begins_more [] ys begins = absurd begins
begins_more (f ∷ xs) ys begins = begins

tight_more : (before : Option (List ℕ)) (s : Says) (xs ys : List Frame) → IsTightSaid before s xs → IsTightSaid before s (xs ++ ys)
tight_more before (names id) xs ys tight = (tight.0, begins_more xs ys tight.1)
tight_more before malformed xs ys tight = absurd tight
tight_more before carries xs ys tight = tight

tight_append : (before : Option (List ℕ)) (xs ys : List Frame) → Tight before xs → Tight (named_behind before xs) ys → Tight before (xs ++ ys)
tight_append before [] ys first behind = behind
tight_append before (f ∷ xs) ys first behind = (tight_more before (says f) xs ys first.0, tight_append (named_by before (says f)) xs ys first.1 behind)

-- ---- the lines of one session

pub texts-append : (number : ℕ) (a b : List Line) → texts_of number (a ++ b) ≡ texts_of number a ++ texts_of number b
texts-append number [] b = refl
texts-append number (l ∷ a) b =
    elim (l.number == number) as (λ t. cond t (l.text ++ texts_of number (a ++ b)) (texts_of number (a ++ b)) ≡ cond t (l.text ++ texts_of number a) (texts_of number a) ++ texts_of number b) [
      | true ↦ ap (λ (bs : List ℕ). l.text ++ bs) (texts-append number a b) ∙ sym (append_assoc l.text (texts_of number a) (texts_of number b))
      | false ↦ texts-append number a b
    ]

texts_with : (number : ℕ) (text : List ℕ) → texts_of number (lines_with number text) ≡ text
texts_with number [] = refl
texts_with number (byte ∷ text) = ap (λ (t : Bool). cond t ((byte ∷ text) ++ []) []) (eq-eqb number number refl) ∙ append-nil (byte ∷ text)

texts_without : (number other : ℕ) (text : List ℕ) → (other ≡ number → ⊥) → texts_of number (lines_with other text) ≡ []
texts_without number other [] unlike = refl
texts_without number other (byte ∷ text) unlike = ap (λ (t : Bool). cond t ((byte ∷ text) ++ []) []) (ne_eqb other number unlike)

pub texts_own : (number : ℕ) (f : Frame) (o : Reply) → texts_of number (lines_in number f o) ≡ line_of o.act f ++ violation_text o.ending
texts_own number f o =
    texts-append number (lines_with number (line_of o.act f)) (lines_with number (violation_text o.ending))
    ∙ ap (λ (bs : List ℕ). bs ++ texts_of number (lines_with number (violation_text o.ending))) (texts_with number (line_of o.act f))
    ∙ ap (λ (bs : List ℕ). line_of o.act f ++ bs) (texts_with number (violation_text o.ending))

pub texts_other : (number other : ℕ) (f : Frame) (o : Reply) → (other ≡ number → ⊥) → texts_of number (lines_in other f o) ≡ []
texts_other number other f o unlike =
    texts-append number (lines_with other (line_of o.act f)) (lines_with other (violation_text o.ending))
    ∙ ap (λ (bs : List ℕ). bs ++ texts_of number (lines_with other (violation_text o.ending))) (texts_without number other (line_of o.act f) unlike)
    ∙ texts_without number other (violation_text o.ending) unlike

-- ---- WIRE so far

all_at : {X : Type 0} (P : X → Type 0) (xs : List X) (i : ℕ) (x : X) → AllByRecursion P xs → slice_get xs i ≡ Some x → P x
all_at P [] i x all at = absurd (cc at)
all_at P (y ∷ xs) zero x all at = let same : y ≡ x = cc in subst P same all.0
all_at P (y ∷ xs) (suc i) x all at = all_at P xs i x all.1 at

module _ (sessions : List Settings) (apart : AreApart sessions) where
  -- the session that wrote last is the one that the last Context written names
  abbrev pub WritesAs : Option ℕ → Option (List ℕ) → Type 0
  WritesAs None named = named ≡ None
  WritesAs (Some place) named = (session : Settings) × (slice_get sessions place ≡ Some session) × (named ≡ Some session.session)

  context_said : (place : ℕ) (session : Settings) → slice_get sessions place ≡ Some session → says (context_frame session.session) ≡ names session.session
  context_said place session stands = context_names session.session (all_at (λ (s : Settings). length s.session ≡ 16) sessions place session apart.sizes stands)

  -- what replies of a session make of what is named, and whether a Context is needed
  pub record Replied (writing : Option ℕ) (named : Option (List ℕ)) (c : Came) (fs : List Frame) : Type 0 where
    pub names_it : WritesAs (writes_next writing c fs) (named_behind named (behind_context writing c fs))
    pub tight : Tight named (behind_context writing c fs)
    pub own : part_of named c.session.session (behind_context writing c fs) ≡ fs
    pub none : (id : List ℕ) → (c.session.session ≡ id → ⊥) → part_of named id (behind_context writing c fs) ≡ []

  -- it wrote last
  replied_on : (writing : Option ℕ) (named : Option (List ℕ)) (c : Came) (f : Frame) (fs : List Frame) → slice_get sessions c.place ≡ Some c.session → Carries (f ∷ fs)
      → named ≡ Some c.session.session → is_writing writing c.place ≡ true → Replied writing named c (f ∷ fs)
  replied_on writing named c f fs stands all is on =
      let plain : behind_context writing c (f ∷ fs) ≡ f ∷ fs = ap (λ (t : Bool). cond t [] (context_frame c.session.session ∷ []) ++ f ∷ fs) on in
      let id = c.session.session in
      record {
        names_it = (c.session, stands, ap (named_behind named) plain ∙ named_carried named (f ∷ fs) all ∙ is);
        tight = subst (Tight named) (sym plain) (subst (λ (n : Option (List ℕ)). Tight n (f ∷ fs)) (sym is) (tight_carried id (f ∷ fs) all));
        own = ap (part_of named id) plain ∙ ap (λ (n : Option (List ℕ)). part_of n id (f ∷ fs)) is ∙ part_named id (f ∷ fs) all;
        none = λ other unlike. ap (part_of named other) plain ∙ ap (λ (n : Option (List ℕ)). part_of n other (f ∷ fs)) is ∙ part_unnamed id other (f ∷ fs) unlike all;
      }

  -- another wrote last, or none
  replied_named : (writing : Option ℕ) (named : Option (List ℕ)) (c : Came) (f : Frame) (fs : List Frame) → slice_get sessions c.place ≡ Some c.session → Carries (f ∷ fs)
      → (named ≡ Some c.session.session → ⊥) → is_writing writing c.place ≡ false → Replied writing named c (f ∷ fs)
  replied_named writing named c f fs stands all unlike off =
      let id = c.session.session in
      let context = context_frame id in
      let said : says context ≡ names id = context_said c.place c.session stands in
      let plain : behind_context writing c (f ∷ fs) ≡ context ∷ f ∷ fs = ap (λ (t : Bool). cond t [] (context ∷ []) ++ f ∷ fs) off in
      let part : (other : List ℕ) → part_of named other (context ∷ f ∷ fs) ≡ part_of (Some id) other (f ∷ fs) = λ other. ap (λ (s : Says). own named s other context ++ part_of (named_by named s) other (f ∷ fs)) said in
      record {
        names_it = (c.session, stands, ap (named_behind named) plain ∙ ap (λ (s : Says). named_behind (named_by named s) (f ∷ fs)) said ∙ named_carried (Some id) (f ∷ fs) all);
        tight = subst (Tight named) (sym plain)
            (subst (λ (s : Says). IsTightSaid named s (f ∷ fs)) (sym said) (unlike, all.0), subst (λ (s : Says). Tight (named_by named s) (f ∷ fs)) (sym said) (tight_carried id (f ∷ fs) all));
        own = ap (part_of named id) plain ∙ part id ∙ part_named id (f ∷ fs) all;
        none = λ other differs. ap (part_of named other) plain ∙ part other ∙ part_unnamed id other (f ∷ fs) differs all;
      }

  same_some : (x y : Settings) → Some x ≡ Some y → x ≡ y
  same_some x y e = cc

  same_id : (x y : List ℕ) → Some x ≡ Some y → x ≡ y
  same_id x y e = cc

  pub replies : (writing : Option ℕ) (named : Option (List ℕ)) (c : Came) (fs : List Frame) → slice_get sessions c.place ≡ Some c.session → Carries fs → WritesAs writing named → Replied writing named c fs
  replies writing named c [] stands all writes = record { names_it = writes; tight = tt; own = refl; none = λ id unlike. refl }
  replies None named c (f ∷ fs) stands all writes =
      replied_named None named c f fs stands all (λ is. (let unlike : None ≡ Some c.session.session = sym writes ∙ is in absurd (cc unlike))) refl
  replies (Some place) named c (f ∷ fs) stands all writes = by_test (place == c.place) refl
    where
      by_test : (t : Bool) → (place == c.place) ≡ t → Replied (Some place) named c (f ∷ fs)
      by_test true is =
          let at : place ≡ c.place = eqb-true place c.place is in
          let same : writes.0 ≡ c.session = same_some writes.0 c.session (sym writes.1 ∙ ap (slice_get sessions) at ∙ stands) in
          replied_on (Some place) named c f fs stands all (writes.2 ∙ ap (λ (s : Settings). Some s.session) same) is
      by_test false is =
          let other : place ≡ c.place → ⊥ = eqb-false place c.place is in
          replied_named (Some place) named c f fs stands all
          (λ at. other (same_place sessions apart.once place c.place writes.0 c.session writes.1 stands (same_id writes.0.session c.session.session (sym writes.2 ∙ at)))) is

  -- ---- all of them

  pub record Wired (came : List Came) : Type 0 where
    pub writes : WritesAs (reach_after came).writing (named_behind None (reach_after came).wire)
    pub tight : Tight None (reach_after came).wire

  pub next_is : (earlier : List Came) (c : Came) → reach_after (earlier ++ c ∷ []) ≡ replied (reach_after earlier) c (reply_in (stage_at earlier c) c)
  next_is earlier c = reach-push earlier c ∙ ap (λ (e : List Came). replied (reach_after earlier) c (reply_in (stage_at e c) c)) (reach-came earlier)

  pub wired_next : (earlier : List Came) (c : Came) → slice_get sessions c.place ≡ Some c.session → Wired earlier → Wired (earlier ++ c ∷ [])
  wired_next earlier c stands x =
      let r = reach_after earlier in
      let o : Reply = reply_in (stage_at earlier c) c in
      let one = replies r.writing (named_behind None r.wire) c (frames_in o) stands (messages_carry o.written) x.writes in
      let next = replied r c o in
      let named : WritesAs next.writing (named_behind None next.wire) = subst (WritesAs next.writing) (sym (named_append None r.wire (behind_context r.writing c (frames_in o)))) one.names_it in
      let needed : Tight None next.wire = tight_append None r.wire (behind_context r.writing c (frames_in o)) x.tight one.tight in
      record {
        writes = subst (λ (t : Reach). WritesAs t.writing (named_behind None t.wire)) (sym (next_is earlier c)) named;
        tight = subst (λ (t : Reach). Tight None t.wire) (sym (next_is earlier c)) needed;
      }

  wired_all : (earlier : List Came) (ks : List Carried) (came : List Came) → AreTaken sessions earlier ks came → Wired earlier → Wired (earlier ++ came)
  wired_all earlier [] came none x = subst (λ (cs : List Came). Wired (earlier ++ cs)) (sym none) (subst Wired (sym (append-nil earlier)) x)
  wired_all earlier (k ∷ ks) [] taken x = wired_all earlier ks [] taken.1 x
  wired_all earlier (k ∷ ks) (c ∷ came) (inl taken) x = wired_all earlier ks (c ∷ came) taken.1 x
  wired_all earlier (k ∷ ks) (c ∷ came) (inr taken) x =
      subst Wired (append_assoc earlier (c ∷ []) came) (wired_all (earlier ++ c ∷ []) ks came taken.1 (wired_next earlier c taken.0.stands x))

  pub wired_none : Wired []
  wired_none = record { writes = refl; tight = tt }

pub contexts_are_needed : ContextsAreNeeded
contexts_are_needed sessions input answer x apart = (wired_all sessions apart [] (carried None x.frames) x.came x.taken (wired_none sessions apart)).tight
