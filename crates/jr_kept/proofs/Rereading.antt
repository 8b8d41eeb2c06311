-- Records that are read one after another as those of an inbox.
use Rattle.std.proofs.Common.{◌≡◌, ℕ, zero, suc, ◌+◌, ◌-◌, ◌<◌, ◌≤◌, List, [], ◌∷◌, ◌++◌, map, length, take, drop, slice_get, slice_index, Option, Some, sym, ap, subst, ◌∙◌, refl, arith}
use Rattle.std.proofs.Math.Logic.{∥∥₁_elim, ∥∥₁_map}
use Rattle.std.proofs.lemmas.List.{map-append, take_all}
use Rattle.session_model.specs.Inbox.{Numbered, InboxRecord, apply, applied, payloads_of}
use Rattle.fixp_msgs.specs.declared.flow.Flow.{Flow}
use Rattle.jr_places.specs.Numbers.{numbers_of}
use Rattle.jr_record.specs.declared.record.Record.{Record}
use Rattle.jr_record.specs.declared.record.Record.TheVariants as kinds
use Rattle.jr_dated.specs.Dated.{Dated, undated}
use Rattle.jr_dated.specs.Journals.{Holds}
use Rattle.jr_boxes.specs.declared.notes.Notes.{Notes}
use Rattle.jr_boxes.specs.Inboxes.{record_of, records_of_inbox}
use Rattle.jr_boxes.specs.Notes.{Noted, Notices, MayFollow, HasNoted, places_from}
use Rattle.jr_boxes.proofs.Noting.{noted_more, placed}
use Rattle.jr_kept.specs.Notes.{HoldsAs}
use Rattle.jr_kept.proofs.Reading.{read_on, taken_length}

-- the journal holds a list of which so many records were noted
abbrev pub NotedSome : {J : Type 0} (stands : J → List Dated → Type 0) (leaves : J → Option (List Dated) → Type 0) → J → Flow → ℕ → Notes → Type 0
NotedSome stands leaves j flow n notes = ∥ ((h : List Dated) × Holds stands leaves j h [] × Noted flow (undated (take n h)) notes) ∥₁

undated-more : (ds : List Dated) (d : Dated) → undated (ds ++ d ∷ []) ≡ undated ds ++ d.what ∷ []
undated-more ds d = map-append (λ (e : Dated). e.what) ds (d ∷ [])

module _ {J : Type 0} (stands : J → List Dated → Type 0) (leaves : J → Option (List Dated) → Type 0) (old new : J) (flow : Flow) where
  -- one record more was read, and noted
  pub noted_some_more : (n : ℕ) (t u : Notes) (d : Dated) → ((h k : List Dated) → Holds stands leaves old h [] → stands old k → Holds stands leaves old (take n h ++ drop n k) [])
      → ((h : List Dated) → stands old h → n < length h) → ((h : List Dated) → Holds stands leaves old h [] → Holds stands leaves new h [])
      → MayFollow flow t d.what → HasNoted t u n d.what → ∥ ((k : List Dated) × stands old k × (slice_get k n ≡ Some d)) ∥₁ → NotedSome stands leaves old flow n t → NotedSome stands leaves new flow (n + 1) u
  noted_some_more n t u d crossed within moved may has found some = ∥∥₁_elim found squash₁ (λ f. ∥∥₁_map some (λ s. (
    take n s.0 ++ drop n f.0,
    moved (take n s.0 ++ drop n f.0) (crossed s.0 f.0 s.1 f.1),
    subst (λ (rs : List Record). Noted flow rs u)
        (sym (undated-more (take n s.0) d) ∙ ap (λ (ds : List Dated). undated ds) (sym (read_on n s.0 f.0 d (within s.0 s.1.stands_for) f.2)))
        (noted_more flow (undated (take n s.0)) t u n d.what (taken_length n s.0 (within s.0 s.1.stands_for)) s.2 may has),
  )))

-- all of its records were noted
pub noted_all : {J : Type 0} (stands : J → List Dated → Type 0) (leaves : J → Option (List Dated) → Type 0) (j : J) (flow : Flow) (n : ℕ) (t : Notes) → ((h : List Dated) → stands j h → length h ≤ n)
    → NotedSome stands leaves j flow n t → ∥ ((h : List Dated) × Holds stands leaves j h [] × Noted flow (undated h) t) ∥₁
noted_all stands leaves j flow n t within some = ∥∥₁_map some (λ s. (
  s.0,
  s.1,
  subst (λ (ds : List Dated). Noted flow (undated ds) t) (take_all n s.0 (within s.0 s.1.stands_for)) s.2,
))

-- a list that the journal holds, and that was noted, is that of an inbox
pub held_noted : {J : Type 0} (stands : J → List Dated → Type 0) (leaves : J → Option (List Dated) → Type 0) (j : J) (flow : Flow) (t : Notes) (h : List Dated) → Holds stands leaves j h [] → (c : Noted flow (undated h) t)
    → HoldsAs stands leaves j flow t c.list []
held_noted stands leaves j flow t h holds c = record {
  dated = h;
  late = [];
  bare = c.inbox.spelled;
  bare_late = refl;
  journal = holds;
  inbox = record { spelled = refl; fits = c.inbox.fits };
  noticed = c.noticed;
}

-- a message that was applied, among the records of an inbox
pub record MessageThere (i : List InboxRecord) (k : ℕ) (r : Record) : Type 0 where
  pub number : ℕ
  pub payload : List ℕ
  pub is : r ≡ kinds.Apply number payload
  pub there : slice_get (payloads_of (applied i)) k ≡ Some payload

mapped : {A B : Type 0} (f : A → B) (xs : List A) (k : ℕ) (x : A) → slice_get xs k ≡ Some x → slice_get (map f xs) k ≡ Some (f x)
mapped f [] k x is = absurd (cc)
mapped f (y ∷ xs) zero x is = let same : y ≡ x = cc in ap (λ z. Some (f z)) same
mapped f (y ∷ xs) (suc k) x is = mapped f xs k x is

pub message_there : (i : List InboxRecord) (n : Notes) (k : ℕ) (r : Record) → Notices n i → k < length (numbers_of n.places) → slice_get (records_of_inbox i) (slice_index (numbers_of n.places) k) ≡ Some r → MessageThere i k r
message_there i n k r is within read =
    let p = placed 0 i k (subst (λ (ks : List ℕ). k < length ks) is.places within) in
    let place : slice_index (numbers_of n.places) k ≡ slice_index (places_from 0 i) k - 0 = ap (λ (ks : List ℕ). slice_index ks k) is.places ∙ omega arith in
    let here : slice_get i (slice_index (numbers_of n.places) k) ≡ Some (apply p.message) = ap (λ (q : ℕ). slice_get i q) place ∙ p.found in
    let spelled : slice_get (records_of_inbox i) (slice_index (numbers_of n.places) k) ≡ Some (record_of (apply p.message)) = mapped record_of i (slice_index (numbers_of n.places) k) (apply p.message) here in
    let same : r ≡ record_of (apply p.message) = cc in
    record { number = p.message.number; payload = p.message.payload; is = same; there = mapped (λ (m : Numbered). m.payload) (applied i) k p.message p.applied_is }
