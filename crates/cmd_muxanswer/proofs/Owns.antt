-- Which frames of an input are a session's own, and that its own answer over them is what came of it.
use Rattle.std.proofs.Common.{◌≡◌, inl, inr, ℕ, Bool, true, false, cond, List, [], ◌∷◌, ◌++◌, map, Option, Some, None, slice_get, refl, sym, ◌∙◌, ap, subst, append_assoc, append-nil, eq-eqb, if◌then◌else◌}
use Rattle.std.specs.Prelude.{IsSome}
use Rattle.std.specs.Str.{bytes_eq}
use Rattle.std.specs.List.{AllByRecursion}
use Rattle.std.proofs.lemmas.Bool.{cases_eq, ne_eqb, false≢true}
use Rattle.std.proofs.lemmas.Grind.{flat_map-append}
use Rattle.std.proofs.lemmas.Slice.Eq.{bytes_eq-Decides}
use Rattle.sofh_frame.specs.Framing.{Frame, IsFrame, spelled, first_of}
use Rattle.sofh_frame.specs.Splits.{spelled_all, IsNoFrame}
use Rattle.fixp_mux.specs.Context.{Says, names, malformed, carries, says}
use Rattle.fixp_mux.specs.Parts.{named_by, own, part_of}
use Rattle.routes.specs.Identifiers.{EachOnce}
use Rattle.routes.proofs.Searching.{all_split}
use Rattle.cmd_config.specs.declared.settings.Settings.{Settings}
use Rattle.cmd_answer.specs.Answer.{Received, IsClassified, Stage, acceptor_of, stage_after, answer_after, IsAnswer}
use Rattle.cmd_muxanswer.specs.Sessions.{identifiers}
use Rattle.cmd_muxanswer.specs.Input.{Carried, carried_by, carried}
use Rattle.cmd_muxanswer.specs.Answer.{Came, of_place, stage_at, Ignores, Takes, AreTaken}
use Rattle.cmd_muxanswer.proofs.Arrivals.{of_place-append, of_place-other}
use Rattle.cmd_muxanswer.proofs.Fronts.{same_place, same_some}

-- ---- the frames that carry an identifier

abbrev pub own_of : List ℕ → List Carried → List Frame
own_of id [] = []
own_of id (k ∷ ks) = if bytes_eq k.id id then k.frame ∷ own_of id ks else own_of id ks

own_of-append : (id : List ℕ) (a b : List Carried) → own_of id (a ++ b) ≡ own_of id a ++ own_of id b
own_of-append id [] b = refl
own_of-append id (k ∷ a) b =
    elim (bytes_eq k.id id) as (λ t. cond t (k.frame ∷ own_of id (a ++ b)) (own_of id (a ++ b)) ≡ cond t (k.frame ∷ own_of id a) (own_of id a) ++ own_of id b) [
      | true ↦ ap (λ (fs : List Frame). k.frame ∷ fs) (own_of-append id a b)
      | false ↦ own_of-append id a b
    ]

one_part : (before : Option (List ℕ)) (s : Says) (id : List ℕ) (f : Frame) → own before s id f ≡ own_of id (carried_by before s f)
one_part before (names other) id f = refl
one_part before malformed id f = refl
one_part None carries id f = refl
one_part (Some other) carries id f = refl

-- a session's part of some frames is what of them carries its identifier
pub part_carried : (before : Option (List ℕ)) (id : List ℕ) (frames : List Frame) → part_of before id frames ≡ own_of id (carried before frames)
part_carried before id [] = refl
part_carried before id (f ∷ frames) =
    ap (λ (fs : List Frame). own before (says f) id f ++ fs) (part_carried (named_by before (says f)) id frames)
    ∙ ap (λ (fs : List Frame). fs ++ own_of id (carried (named_by before (says f)) frames)) (one_part before (says f) id f)
    ∙ sym (own_of-append id (carried_by before (says f) f) (carried (named_by before (says f)) frames))

-- frames of which something holds
all_carried_by : (P : Frame → Type 0) (before : Option (List ℕ)) (s : Says) (f : Frame) → P f → AllByRecursion (λ (k : Carried). P k.frame) (carried_by before s f)
all_carried_by P before (names id) f p = tt
all_carried_by P before malformed f p = tt
all_carried_by P None carries f p = tt
all_carried_by P (Some id) carries f p = (p, tt)

all_join : {X : Type 0} (P : X → Type 0) (xs ys : List X) → AllByRecursion P xs → AllByRecursion P ys → AllByRecursion P (xs ++ ys)
all_join P [] ys a b = b
all_join P (x ∷ xs) ys a b = (a.0, all_join P xs ys a.1 b)

all_carried : (P : Frame → Type 0) (before : Option (List ℕ)) (frames : List Frame) → AllByRecursion P frames → AllByRecursion (λ (k : Carried). P k.frame) (carried before frames)
all_carried P before [] each = tt
all_carried P before (f ∷ frames) each =
    all_join (λ (k : Carried). P k.frame) (carried_by before (says f) f) (carried (named_by before (says f)) frames)
    (all_carried_by P before (says f) f each.0) (all_carried P (named_by before (says f)) frames each.1)

all_own : (P : Frame → Type 0) (id : List ℕ) (ks : List Carried) → AllByRecursion (λ (k : Carried). P k.frame) ks → AllByRecursion P (own_of id ks)
all_own P id [] each = tt
all_own P id (k ∷ ks) each =
    elim (bytes_eq k.id id) as (λ t. AllByRecursion P (cond t (k.frame ∷ own_of id ks) (own_of id ks))) [
      | true ↦ (each.0, all_own P id ks each.1)
      | false ↦ all_own P id ks each.1
    ]

-- ---- those of them that came, and those that were ignored

abbrev pub frames_of : List Received → List Frame
frames_of rs = map (λ (h : Received). h.frame) rs

module _ (sessions : List Settings) (once : EachOnce (identifiers sessions)) (place : ℕ) (session : Settings) (stands : slice_get sessions place ≡ Some session) where
  abbrev pub stage : List Came → Stage
  stage earlier = stage_after (acceptor_of session) (of_place place earlier)

  -- the frames of the session are those that came, and behind them those that are ignored, of which there are none while it goes on
  pub record Owned (earlier came : List Came) (ks : List Carried) : Type 0 where
    pub ignored : List Frame
    pub own : own_of session.session ks ≡ frames_of (of_place place came) ++ ignored
    pub none : (stage (earlier ++ came)).ending ≡ None → ignored ≡ []

  pub own_session : (c : Came) (earlier : List Came) (k : Carried) → Takes sessions earlier k c → c.place ≡ place → c.session ≡ session
  own_session c earlier k takes is = same_some c.session session (sym takes.stands ∙ ap (slice_get sessions) is ∙ stands)

  own_place : (c : Came) (earlier : List Came) (k : Carried) → Takes sessions earlier k c → k.id ≡ session.session → c.place ≡ place
  own_place c earlier k takes is = same_place sessions once c.place place c.session session takes.stands stands (takes.named ∙ is)

  own_id : (c : Came) (earlier : List Came) (k : Carried) → Takes sessions earlier k c → c.place ≡ place → k.id ≡ session.session
  own_id c earlier k takes is = sym takes.named ∙ ap (λ (s : Settings). s.session) (own_session c earlier k takes is)

  pub own_stage : (c : Came) (earlier : List Came) (k : Carried) → Takes sessions earlier k c → c.place ≡ place → stage_at earlier c ≡ stage earlier
  own_stage c earlier k takes is =
      ap (λ (s : Settings). stage_after (acceptor_of s) (of_place c.place earlier)) (own_session c earlier k takes is)
      ∙ ap (λ (p : ℕ). stage_after (acceptor_of session) (of_place p earlier)) is

  over_at : (earlier : List Came) (k : Carried) → Ignores sessions earlier k → k.id ≡ session.session → IsSome (stage earlier).ending
  over_at earlier k ignores is =
      let at : ignores.place ≡ place = same_place sessions once ignores.place place ignores.session session ignores.stands stands (ignores.named ∙ is) in
      let one : ignores.session ≡ session = same_some ignores.session session (sym ignores.stands ∙ ap (slice_get sessions) at ∙ stands) in
      let same : stage_after (acceptor_of ignores.session) (of_place ignores.place earlier) ≡ stage earlier =
      ap (λ (s : Settings). stage_after (acceptor_of s) (of_place ignores.place earlier)) one ∙ ap (λ (p : ℕ). stage_after (acceptor_of session) (of_place p earlier)) at in
      subst IsSome (ap (λ (s : Stage). s.ending) same) ignores.over

  place_own : (c : Came) (came : List Came) → c.place ≡ place → of_place place (c ∷ came) ≡ c.received ∷ of_place place came
  place_own c came is = ap (λ (t : Bool). cond t (c.received ∷ of_place place came) (of_place place came)) (eq-eqb c.place place is)

  place_other : (c : Came) (came : List Came) → (c.place ≡ place → ⊥) → of_place place (c ∷ came) ≡ of_place place came
  place_other c came unlike = ap (λ (t : Bool). cond t (c.received ∷ of_place place came) (of_place place came)) (ne_eqb c.place place unlike)

  -- once its connection has ended no more frames come
  none_comes : (earlier : List Came) (ks : List Carried) (came : List Came) → IsSome (stage earlier).ending → AreTaken sessions earlier ks came → of_place place came ≡ []
  none_comes earlier [] came over none = ap (of_place place) none
  none_comes earlier (k ∷ ks) [] over taken = refl
  none_comes earlier (k ∷ ks) (c ∷ came) over (inl taken) = none_comes earlier ks (c ∷ came) over taken.1
  none_comes earlier (k ∷ ks) (c ∷ came) over (inr taken) =
      elim (cases_eq c.place place) as (λ _. of_place place (c ∷ came) ≡ []) [
        | inl is ↦
            let going : (stage earlier).ending ≡ None = ap (λ (s : Stage). s.ending) (sym (own_stage c earlier k taken.0 is)) ∙ taken.0.going in
            absurd (false≢true (subst IsSome going over))
        | inr unlike ↦
            let same : stage (earlier ++ c ∷ []) ≡ stage earlier = ap (stage_after (acceptor_of session)) (of_place-other place earlier c unlike) in
            place_other c came unlike ∙ none_comes (earlier ++ c ∷ []) ks came (subst IsSome (ap (λ (s : Stage). s.ending) (sym same)) over) taken.1
      ]

  -- a frame is ignored
  owned_ignored : (earlier came : List Came) (k : Carried) (ks : List Carried) → Ignores sessions earlier k → AreTaken sessions earlier ks came → Owned earlier came ks → Owned earlier came (k ∷ ks)
  owned_ignored earlier came k ks ignores taken x = by_test (bytes_eq k.id session.session) refl
    where
      at_end : IsSome (stage earlier).ending → stage (earlier ++ came) ≡ stage earlier
      at_end over =
          ap (stage_after (acceptor_of session)) (of_place-append place earlier came ∙ ap (λ (rs : List Received). of_place place earlier ++ rs) (none_comes earlier ks came over taken) ∙ append-nil (of_place place earlier))

      by_test : (b : Bool) → bytes_eq k.id session.session ≡ b → Owned earlier came (k ∷ ks)
      by_test true is =
          let over : IsSome (stage earlier).ending = over_at earlier k ignores ((bytes_eq-Decides k.id session.session).0 is) in
          let nothing : of_place place came ≡ [] = none_comes earlier ks came over taken in
          record {
            ignored = k.frame ∷ own_of session.session ks;
            own = ap (λ (t : Bool). cond t (k.frame ∷ own_of session.session ks) (own_of session.session ks)) is ∙ sym (ap (λ (rs : List Received). frames_of rs ++ k.frame ∷ own_of session.session ks) nothing);
            none = λ going. absurd (false≢true (subst IsSome (ap (λ (s : Stage). s.ending) (sym (at_end over)) ∙ going) over));
          }
      by_test false is = record {
        ignored = x.ignored;
        own = ap (λ (t : Bool). cond t (k.frame ∷ own_of session.session ks) (own_of session.session ks)) is ∙ x.own;
        none = x.none;
      }

  -- a frame comes to its session
  owned_taken : (earlier : List Came) (c : Came) (came : List Came) (k : Carried) (ks : List Carried) → Takes sessions earlier k c → Owned (earlier ++ c ∷ []) came ks → Owned earlier (c ∷ came) (k ∷ ks)
  owned_taken earlier c came k ks takes x = by_test (bytes_eq k.id session.session) refl
    where
      same : stage ((earlier ++ c ∷ []) ++ came) ≡ stage (earlier ++ c ∷ came)
      same = ap stage (append_assoc earlier (c ∷ []) came)

      by_test : (b : Bool) → bytes_eq k.id session.session ≡ b → Owned earlier (c ∷ came) (k ∷ ks)
      by_test true is =
          let here : c.place ≡ place = own_place c earlier k takes ((bytes_eq-Decides k.id session.session).0 is) in
          record {
            ignored = x.ignored;
            own =
                ap (λ (t : Bool). cond t (k.frame ∷ own_of session.session ks) (own_of session.session ks)) is ∙ ap (λ (fs : List Frame). k.frame ∷ fs) x.own
                ∙ ap (λ (f : Frame). f ∷ (frames_of (of_place place came) ++ x.ignored)) (sym takes.frame)
                ∙ sym (ap (λ (rs : List Received). frames_of rs ++ x.ignored) (place_own c came here));
            none = λ going. x.none (ap (λ (s : Stage). s.ending) same ∙ going);
          }
      by_test false is =
          let other : c.place ≡ place → ⊥ = λ here. false≢true (sym is ∙ (bytes_eq-Decides k.id session.session).1 (own_id c earlier k takes here)) in
          record {
            ignored = x.ignored;
            own =
                ap (λ (t : Bool). cond t (k.frame ∷ own_of session.session ks) (own_of session.session ks)) is ∙ x.own
                ∙ sym (ap (λ (rs : List Received). frames_of rs ++ x.ignored) (place_other c came other));
            none = λ going. x.none (ap (λ (s : Stage). s.ending) same ∙ going);
          }

  pub owned : (earlier : List Came) (ks : List Carried) (came : List Came) → AreTaken sessions earlier ks came → Owned earlier came ks
  owned earlier [] came none = record {
    ignored = [];
    own = sym (ap (λ (cs : List Came). frames_of (of_place place cs) ++ []) none);
    none = λ going. refl;
  }
  owned earlier (k ∷ ks) [] taken = owned_ignored earlier [] k ks taken.0 taken.1 (owned earlier ks [] taken.1)
  owned earlier (k ∷ ks) (c ∷ came) (inl taken) = owned_ignored earlier (c ∷ came) k ks taken.0 taken.1 (owned earlier ks (c ∷ came) taken.1)
  owned earlier (k ∷ ks) (c ∷ came) (inr taken) = owned_taken earlier c came k ks taken.0 (owned (earlier ++ c ∷ []) ks came taken.1)

  -- the frames that came are classified
  all_classified : (earlier : List Came) (ks : List Carried) (came : List Came) → AreTaken sessions earlier ks came → AllByRecursion IsClassified (of_place place came)
  all_classified earlier [] came none = subst (λ (cs : List Came). AllByRecursion IsClassified (of_place place cs)) (sym none) tt
  all_classified earlier (k ∷ ks) [] taken = tt
  all_classified earlier (k ∷ ks) (c ∷ came) (inl taken) = all_classified earlier ks (c ∷ came) taken.1
  all_classified earlier (k ∷ ks) (c ∷ came) (inr taken) =
      elim (cases_eq c.place place) as (λ _. AllByRecursion IsClassified (of_place place (c ∷ came))) [
        | inl is ↦ subst (AllByRecursion IsClassified) (sym (place_own c came is)) (taken.0.classified, all_classified (earlier ++ c ∷ []) ks came taken.1)
        | inr unlike ↦ subst (AllByRecursion IsClassified) (sym (place_other c came unlike)) (all_classified (earlier ++ c ∷ []) ks came taken.1)
      ]

  -- the answer over its own frames
  pub record OwnAnswer (frames : List Frame) (came : List Came) : Type 0 where
    pub tail : List ℕ
    pub is : IsAnswer (acceptor_of session) (spelled_all (part_of None session.session frames)) (answer_after (acceptor_of session) (of_place place came) tail)
    pub none : (stage came).ending ≡ None → tail ≡ []

  pub own_answer : (frames : List Frame) (came : List Came) → AllByRecursion IsFrame frames → AreTaken sessions [] (carried None frames) came → OwnAnswer frames came
  own_answer frames came each taken =
      let x = owned [] (carried None frames) came taken in
      let part : part_of None session.session frames ≡ frames_of (of_place place came) ++ x.ignored = part_carried None session.session frames ∙ x.own in
      let of_each : AllByRecursion IsFrame (frames_of (of_place place came) ++ x.ignored) =
      subst (λ (fs : List Frame). AllByRecursion IsFrame fs) x.own (all_own IsFrame session.session (carried None frames) (all_carried IsFrame None frames each)) in
      record {
        tail = spelled_all x.ignored;
        is = record {
          received = of_place place came;
          tail = spelled_all x.ignored;
          joins = ap spelled_all part ∙ flat_map-append spelled (frames_of (of_place place came)) x.ignored;
          each = (all_split IsFrame (frames_of (of_place place came)) x.ignored of_each).0;
          classified = all_classified [] (carried None frames) came taken;
          all = λ going. subst (λ (fs : List Frame). IsNoFrame (first_of (spelled_all fs))) (sym (x.none going)) tt;
          is = refl;
        };
        none = λ going. ap spelled_all (x.none going);
      }
