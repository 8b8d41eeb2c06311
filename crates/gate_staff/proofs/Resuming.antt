-- Calls of a business one behind the other: what they leave together.
use Rattle.std.proofs.Common.{◌≡◌, ◌≢◌, ◌⊎◌, ℕ, zero, suc, ◌+◌, ◌≤◌, Bool, false, true, true≢false, List, [], ◌∷◌, ◌++◌, length, take, drop, slice_get, is_some, Some, Result, Ok, Err, inl, inr, refl, sym, ap, subst, ◌∙◌, arith, append-nil, zero-add, suc-add, length-append}
use Rattle.std.proofs.lemmas.List.{length-drop}
use lib.Seq.{take-nil}
use mathlib.Core.List.{IsPrefix}
use Rattle.session_model.specs.Journal.{finish}
use Rattle.session_model.specs.Inbox.{InboxRecord, apply, skip, negotiated, peer_finished, has_peer_finished}
use Rattle.session_model.specs.Plans.{GoesOn}
use Rattle.session_model.proofs.Lists.{prefix_get, prefix_of_append, prefix_take}
use Rattle.jr_dated.specs.declared.journal.Journal.{Ghosts}
use Rattle.jr_dated.specs.declared.faults.FetchFault.{FetchFault}
use Rattle.jr_kept.specs.Inbox.{SameContent}
use Rattle.jr_kept.specs.declared.inbox.Inbox.{Inbox}
use Rattle.jr_kept.specs.Entries.{entries_made}
use Rattle.jr_boxes.specs.Inboxes.{peer_last_in}
use Rattle.jr_boxes.specs.declared.faults.SubmitFault.{SubmitFault}
use Rattle.jr_boxes.specs.declared.faults.SubmitFault.TheVariants as submit
use Rattle.gate_turn.specs.Views.{Part}
use Rattle.gate_senders.specs.Shown.{entries_after}
use Rattle.gate_turn.specs.Rule.{In}
use Rattle.gate_turn.proofs.Histories.{begins_self, begins_on}
use Rattle.gate_turn.proofs.Failing.{failed_before}
use Rattle.gate_staff.specs.Made.{LosesMessages, SeesMark, MetFull}
use Rattle.gate_staff.specs.Business.{StaysPass, AllStay, AllMade, Loses, Grew, Whole, ShownByOne, StandsOn, StandsOnResume, LoseNothing, SendNothing, Answered, Resumed}
use Rattle.gate_staff.specs.declared.business.ResumeFault.{ResumeFault}
use Rattle.gate_staff.specs.declared.business.ResumeFault.TheVariants as resuming
use Rattle.gate_staff.proofs.Making.{prefix_drop, Makes, makes, made_of, over_longer, makes_on, all_made_on}

pub stays_self : (p : Part) → StaysPass p p
stays_self p = record { seen = begins_self p.seen; own = λ own. own; faults = omega arith; number = refl; made = refl; opening = refl }

pub stays_on : (p r q : Part) → StaysPass p r → StaysPass r q → StaysPass p q
stays_on p r q a b = record {
  seen = begins_on p.seen r.seen q.seen a.seen b.seen;
  own = λ own. b.own (a.own own);
  faults = omega (arith, a.faults, b.faults);
  number = b.number ∙ a.number;
  made = b.made ∙ a.made;
  opening = b.opening ∙ a.opening;
}

pub all_stay : (count : ℕ) (p r q : ℕ → Part) → AllStay count p r → AllStay count r q → AllStay count p q
all_stay count p r q a b = λ n inside. stays_on (p n) (r n) (q n) (a n inside) (b n inside)

-- up to a list of applied messages, calls sent what the plans say of them, added no mark and lost nothing
pub record Upto (plan : ℕ → List (List ℕ)) (count : ℕ) (p q : ℕ → Part) : Type 0 where
  pub grew : Grew plan count p q false
  pub unlost : LoseNothing count p q

module _ (count : ℕ) (p r : ℕ → Part) where
  pub upto_none : (plan : ℕ → List (List ℕ)) → SendNothing count p r → Upto plan count p r
  upto_none plan s = record {
    grew = record {
      same = s.same;
      each = λ n inside. record { count = 0; are = s.mine n inside ∙ sym (append-nil (p n).mine) };
      ended = λ n inside e. inl (sym (s.ended n inside) ∙ e);
      lost = λ n inside. inl (s.unlost n inside);
    };
    unlost = s.unlost;
  }

  module _ (plan longer : ℕ → List (List ℕ)) (wider : (n : ℕ) → IsPrefix (plan n) (longer n)) (u : Upto plan count p r) where
    made : (n : ℕ) → In count n → Makes (p n).mine n (longer n) (r n).mine
    made n inside = over_longer (p n).mine n (plan n) (longer n) (r n).mine (wider n) (makes (p n).mine n (plan n) (r n).mine (u.grew.each n inside))

    ended : (n : ℕ) → In count n → (r n).ended ≡ true → (p n).ended ≡ true
    ended n inside e = sumelim (u.grew.ended n inside e)
      where
        sumelim : {A : Type 0} → ((p n).ended ≡ true) ⊎ ((false ≡ true) × A) → (p n).ended ≡ true
        sumelim (inl x) = x
        sumelim (inr x) = absurd (true≢false (sym x.0))

    module _ (q : ℕ → Part) (finished : Bool) where
      all_on : AllMade longer count r q → AllMade longer count p q
      all_on a = λ n inside. all_made_on (p n).mine (r n).mine n (longer n) (made n inside) (q n).mine (a n inside)

      loses_on : (n : ℕ) → Loses longer count r q finished n → Loses longer count p q finished n
      loses_on n l = record { broken = l.broken; unmarked = l.unmarked; unmade = λ m inside e. ended m inside (l.unmade m inside e); what = what l.what }
        where
          what : LosesMessages (longer n) (q n) ⊎ (((q n).lost ≡ finish ∷ []) × (finished ≡ true) × AllMade longer count r q)
              → LosesMessages (longer n) (q n) ⊎ (((q n).lost ≡ finish ∷ []) × (finished ≡ true) × AllMade longer count p q)
          what (inl m) = inl m
          what (inr f) = inr (f.0, f.1, all_on f.2)

      pub grew_on : Grew longer count r q finished → Grew longer count p q finished
      grew_on g = record {
        same = λ n inside. stays_on (p n) (r n) (q n) (u.grew.same n inside) (g.same n inside);
        each = λ n inside. made_of (p n).mine n (longer n) (q n).mine
            (makes_on (p n).mine (r n).mine n (longer n) (made n inside) (q n).mine (makes (r n).mine n (longer n) (q n).mine (g.each n inside)));
        ended = λ n inside e. marked n inside (g.ended n inside e);
        lost = λ n inside. lost n inside (g.lost n inside);
      }
        where
          marked : (n : ℕ) → In count n → ((r n).ended ≡ true) ⊎ ((finished ≡ true) × AllMade longer count r q) → ((p n).ended ≡ true) ⊎ ((finished ≡ true) × AllMade longer count p q)
          marked n inside (inl e) = inl (ended n inside e)
          marked n inside (inr f) = inr (f.0, all_on f.1)

          lost : (n : ℕ) → In count n → ((q n).lost ≡ (r n).lost) ⊎ Loses longer count r q finished n → ((q n).lost ≡ (p n).lost) ⊎ Loses longer count p q finished n
          lost n inside (inl e) = inl (e ∙ u.unlost n inside)
          lost n inside (inr l) = inr (loses_on n l)

      pub whole_on : Whole longer count r q finished → Whole longer count p q finished
      whole_on w = record { all = all w.all; finish = w.finish }
        where
          all : SeesMark count q ⊎ AllMade longer count r q → SeesMark count q ⊎ AllMade longer count p q
          all (inl s) = inl s
          all (inr a) = inr (all_on a)

      unlost_on : LoseNothing count r q → LoseNothing count p q
      unlost_on l = λ n inside. l n inside ∙ u.unlost n inside

      pub answered_on : (result : Result (Unit {0}) SubmitFault) → Answered longer count r q finished result → Answered longer count p q finished result
      answered_on (Ok _) a = record { grew = grew_on a.grew; whole = whole_on a.whole; full = a.full; unlost = unlost_on a.unlost }
      answered_on (Err submit.Closed) a = record { grew = grew_on a.grew; whole = tt; full = a.full; unlost = unlost_on a.unlost }
      answered_on (Err submit.Broken) a = record { grew = grew_on a.grew; whole = tt; full = a.full; unlost = tt }
      answered_on (Err (submit.Full entries bytes)) a = record { grew = grew_on a.grew; whole = tt; full = a.full; unlost = tt }
      answered_on (Err submit.Memory) a = record { grew = grew_on a.grew; whole = tt; full = a.full; unlost = tt }
      answered_on (Err submit.Fault) a = record { grew = grew_on a.grew; whole = tt; full = a.full; unlost = tt }

  -- a refusal is shown over the calls before it too
  pub shown_on : (q : ℕ → Part) (f : SubmitFault) → ((n : ℕ) → In count n → StaysPass (p n) (r n)) → ShownByOne count r q f → ShownByOne count p q f
  shown_on q f same s = record {
    number = s.number;
    inside = s.inside;
    closed = s.closed;
    failed = λ e. failed_before (p s.number).faults (r s.number).faults (q s.number).faults (same s.number s.inside).faults (s.failed e);
    broken = s.broken;
  }

-- what was lost of a plan was lost of a longer one
take_begun : {A : Type 0} (n : ℕ) (xs ys : List A) → IsPrefix xs ys → n ≤ length xs → (n ≤ length ys) × (take n xs ≡ take n ys)
take_begun zero xs ys p few = (omega arith, refl)
take_begun (suc n) [] ys p few = absurd (omega (arith, few))
take_begun (suc n) (x ∷ xs) [] p few = absurd (cc (p.1))
take_begun (suc n) (x ∷ xs) (y ∷ ys) p few =
    let first : x ≡ y = cc (p.1) in
    let r = take_begun n xs ys (p.0, cc (p.1)) (omega (arith, few)) in
    (omega (arith, r.0), ap (λ z. z ∷ take n xs) first ∙ ap (λ zs. y ∷ zs) r.1)

loses_longer : (plan longer : List (List ℕ)) (q : Part) → IsPrefix plan longer → LosesMessages plan q → LosesMessages longer q
loses_longer plan longer q wider m =
    let t = take_begun m.count (drop (length q.mine) plan) (drop (length q.mine) longer) (prefix_drop (length q.mine) plan longer wider) m.within in
    record { count = m.count; within = t.0; few = m.few; is = m.is ∙ ap (λ ps. entries_made (entries_after q ps)) t.1 }

-- what calls leave up to some messages they leave of all of which these are the first
module _ (count : ℕ) (p q : ℕ → Part) (plan longer : ℕ → List (List ℕ)) (wider : (n : ℕ) → IsPrefix (plan n) (longer n)) where
  pub grew_wider : (finished : Bool) → Grew plan count p q false → Grew longer count p q finished
  grew_wider finished g = record {
    same = g.same;
    each = λ n inside. made_of (p n).mine n (longer n) (q n).mine (over_longer (p n).mine n (plan n) (longer n) (q n).mine (wider n) (makes (p n).mine n (plan n) (q n).mine (g.each n inside)));
    ended = λ n inside e. marked n (g.ended n inside e);
    lost = λ n inside. lost n (g.lost n inside);
  }
    where
      marked : (n : ℕ) → ((p n).ended ≡ true) ⊎ ((false ≡ true) × AllMade plan count p q) → ((p n).ended ≡ true) ⊎ ((finished ≡ true) × AllMade longer count p q)
      marked n (inl e) = inl e
      marked n (inr f) = absurd (true≢false (sym f.0))

      lost : (n : ℕ) → ((q n).lost ≡ (p n).lost) ⊎ Loses plan count p q false n → ((q n).lost ≡ (p n).lost) ⊎ Loses longer count p q finished n
      lost n (inl e) = inl e
      lost n (inr l) = inr (record { broken = l.broken; unmarked = l.unmarked; unmade = l.unmade; what = what l.what })
        where
          what : LosesMessages (plan n) (q n) ⊎ (((q n).lost ≡ finish ∷ []) × (false ≡ true) × AllMade plan count p q)
              → LosesMessages (longer n) (q n) ⊎ (((q n).lost ≡ finish ∷ []) × (finished ≡ true) × AllMade longer count p q)
          what (inl m) = inl (loses_longer (plan n) (longer n) (q n) (wider n) m)
          what (inr f) = absurd (true≢false (sym f.1))

  full_wider : (entries bytes : ℕ) → MetFull plan count q entries bytes → MetFull longer count q entries bytes
  full_wider entries bytes m = record {
    number = m.number;
    inside = m.inside;
    payload = m.payload;
    next = prefix_get (plan m.number) (longer m.number) (length (q m.number).mine) m.payload (wider m.number) m.next;
    full = m.full;
  }

  -- cut short by a message that was not read
  pub unread : (finished : Bool) (f : FetchFault) → Grew plan count p q false → Resumed longer count p q finished (Err (resuming.Fetch f))
  unread finished f g = record { grew = grew_wider finished g; whole = tt; full = λ entries bytes e. absurd (cc e); unlost = tt }

  -- cut short by a refusal
  pub cut_short : (finished : Bool) (f : SubmitFault) → f ≢ submit.Closed → Answered plan count p q false (Err f) → Resumed longer count p q finished (Err (resuming.Submit f))
  cut_short finished submit.Closed ne a = absurd (ne refl)
  cut_short finished submit.Broken ne a = record { grew = grew_wider finished a.grew; whole = tt; full = λ entries bytes e. absurd (cc e); unlost = tt }
  cut_short finished (submit.Full es bs) ne a = record { grew = grew_wider finished a.grew; whole = tt; full = λ entries bytes e. full_wider entries bytes (a.full entries bytes (cc e)); unlost = tt }
  cut_short finished submit.Memory ne a = record { grew = grew_wider finished a.grew; whole = tt; full = λ entries bytes e. absurd (cc e); unlost = tt }
  cut_short finished submit.Fault ne a = record { grew = grew_wider finished a.grew; whole = tt; full = λ entries bytes e. absurd (cc e); unlost = tt }

-- the last call's answer is that of all
abbrev pub resuming_of : Result (Unit {0}) SubmitFault → Result (Unit {0}) ResumeFault
resuming_of (Ok _) = Ok tt
resuming_of (Err f) = Err (resuming.Submit f)

pub resumed_of : (plan : ℕ → List (List ℕ)) (count : ℕ) (p q : ℕ → Part) (finished : Bool) (result : Result (Unit {0}) SubmitFault) → Answered plan count p q finished result → Resumed plan count p q finished (resuming_of result)
resumed_of plan count p q finished (Ok _) a = record { grew = a.grew; whole = a.whole; full = λ entries bytes e. absurd (cc e); unlost = a.unlost }
resumed_of plan count p q finished (Err submit.Closed) a = record { grew = a.grew; whole = tt; full = λ entries bytes e. absurd (cc e); unlost = a.unlost }
resumed_of plan count p q finished (Err submit.Broken) a = record { grew = a.grew; whole = tt; full = λ entries bytes e. absurd (cc e); unlost = tt }
resumed_of plan count p q finished (Err (submit.Full es bs)) a = record { grew = a.grew; whole = tt; full = λ entries bytes e. a.full entries bytes (cc e); unlost = tt }
resumed_of plan count p q finished (Err submit.Memory) a = record { grew = a.grew; whole = tt; full = λ entries bytes e. absurd (cc e); unlost = tt }
resumed_of plan count p q finished (Err submit.Fault) a = record { grew = a.grew; whole = tt; full = λ entries bytes e. absurd (cc e); unlost = tt }

-- ---- behind the messages that were read so far

-- a business stands behind these messages, so many, and sent up to them
pub record Behind (stands : List (List ℕ) → Type 0) (plan : ℕ → List (List ℕ) → List (List ℕ)) (count : ℕ) (p q : ℕ → Part) (read : ℕ) (done : List (List ℕ)) : Type 0 where
  pub long : length done ≡ read
  pub at : stands done
  pub upto : Upto (λ n. plan n done) count p q

-- the same plans and count
pub same_terms : (plan was : ℕ → List (List ℕ) → List (List ℕ)) (count before : ℕ) → plan ≡ was → count ≡ before → (l : List (List ℕ)) (p q : ℕ → Part) (finished : Bool) (result : Result (Unit {0}) SubmitFault)
    → Answered (λ n. plan n l) count p q finished result → Answered (λ n. was n l) before p q finished result
same_terms plan was count before e f l p q finished result a =
    subst (λ k. Answered (λ n. was n l) k p q finished result) f (subst (λ h. Answered (λ n. h n l) count p q finished result) e a)

-- it stands at Ok, and where the mark stands
pub stands_there : (result : Result (Unit {0}) SubmitFault) (A : Type 0) → (result ≡ Ok tt) ⊎ (result ≡ Err submit.Closed) → StandsOn result A → A
stands_there result A (inl e) a = subst (λ r. StandsOn r A) e a
stands_there result A (inr e) a = subst (λ r. StandsOn r A) e a

pub stands_resumed : (result : Result (Unit {0}) SubmitFault) (A : Type 0) → StandsOn result A → StandsOnResume (resuming_of result) A
stands_resumed (Ok _) A a = a
stands_resumed (Err submit.Closed) A a = a
stands_resumed (Err submit.Broken) A a = tt
stands_resumed (Err (submit.Full es bs)) A a = tt
stands_resumed (Err submit.Memory) A a = tt
stands_resumed (Err submit.Fault) A a = tt

pub stands_at : (result : Result (Unit {0}) ResumeFault) (A B : Type 0) → (A → B) → StandsOnResume result A → StandsOnResume result B
stands_at (Ok _) A B f a = f a
stands_at (Err (resuming.Submit submit.Closed)) A B f a = f a
stands_at (Err (resuming.Submit submit.Broken)) A B f a = tt
stands_at (Err (resuming.Submit (submit.Full es bs))) A B f a = tt
stands_at (Err (resuming.Submit submit.Memory)) A B f a = tt
stands_at (Err (resuming.Submit submit.Fault)) A B f a = tt
stands_at (Err (resuming.Fetch f)) A B g a = tt

pub refused_stands : (f : SubmitFault) (A : Type 0) → f ≢ submit.Closed → StandsOnResume (Err (resuming.Submit f)) A
refused_stands submit.Closed A ne = absurd (ne refl)
refused_stands submit.Broken A ne = tt
refused_stands (submit.Full es bs) A ne = tt
refused_stands submit.Memory A ne = tt
refused_stands submit.Fault A ne = tt

pub take_on : {A : Type 0} (n m : ℕ) (xs : List A) → take n xs ++ take m (drop n xs) ≡ take (n + m) xs
take_on zero m xs = ap (λ k. take k xs) (sym (zero-add m))
take_on (suc n) m [] = take-nil m ∙ sym (take-nil (suc n + m))
take_on (suc n) m (x ∷ xs) = ap (λ ys. x ∷ ys) (take_on n m xs) ∙ ap (λ k. take k (x ∷ xs)) (sym (suc-add n m))

pub is_peer_finished : (i : List InboxRecord) → is_some (peer_last_in i) ≡ has_peer_finished i
is_peer_finished [] = refl
is_peer_finished (apply _ ∷ i) = is_peer_finished i
is_peer_finished (skip _ ∷ i) = is_peer_finished i
is_peer_finished (negotiated ∷ i) = is_peer_finished i
is_peer_finished (peer_finished last ∷ i) = refl

module _ {J : Type 0} {G : Ghosts J} where
  pub content_on : (a b c : Inbox J G) → SameContent a b → SameContent b c → SameContent a c
  content_on a b c x y = record {
    stands = λ i. (λ s. (y.stands i).0 ((x.stands i).0 s), λ s. (x.stands i).1 ((y.stands i).1 s));
    holds = λ i refused. (λ s. (y.holds i refused).0 ((x.holds i refused).0 s), λ s. (x.holds i refused).1 ((y.holds i refused).1 s));
    images = λ image. (λ s. (y.images image).0 ((x.images image).0 s), λ s. (x.images image).1 ((y.images image).1 s));
    next = y.next ∙ x.next;
    negotiated = y.negotiated ∙ x.negotiated;
    peer_last = y.peer_last ∙ x.peer_last;
    count = y.count ∙ x.count;
    size = y.size ∙ x.size;
  }

-- a list, with what another has behind so many
pub padded : (done all : List (List ℕ)) → length done ≤ length all → length (done ++ drop (length done) all) ≡ length all
padded done all few = omega (arith, length-append done (drop (length done) all), length-drop (length done) all, few)

module _ (plan : ℕ → List (List ℕ) → List (List ℕ)) (goes : GoesOn plan) (count : ℕ) (p r : ℕ → Part) (done : List (List ℕ)) (u : Upto (λ n. plan n done) count p r) where
  -- a message behind these was not read
  pub unread_of : (l : List (List ℕ)) (finished : Bool) (f : FetchFault) → IsPrefix done l → Resumed (λ n. plan n l) count p r finished (Err (resuming.Fetch f))
  unread_of l finished f before = unread count p r (λ n. plan n done) (λ n. plan n l) (λ n. goes n done l before) finished f u.grew

  module _ (q : ℕ → Part) (more : List (List ℕ)) where
    pub joined_call : (finished : Bool) (result : Result (Unit {0}) SubmitFault) → Answered (λ n. plan n (done ++ more)) count r q finished result → Answered (λ n. plan n (done ++ more)) count p q finished result
    joined_call finished result a = answered_on count p r (λ n. plan n done) (λ n. plan n (done ++ more)) (λ n. goes n done (done ++ more) (prefix_of_append done more)) u q finished result a

    pub upto_more : (result : Result (Unit {0}) SubmitFault) → (result ≡ Ok tt) ⊎ (result ≡ Err submit.Closed) → Answered (λ n. plan n (done ++ more)) count r q false result → Upto (λ n. plan n (done ++ more)) count p q
    upto_more result e a = let j = joined_call false result a in record { grew = j.grew; unlost = stands_there result (LoseNothing count p q) e j.unlost }

    -- a message behind these was refused
    pub refused_of : (l : List (List ℕ)) (finished : Bool) (f : SubmitFault) → IsPrefix (done ++ more) l → f ≢ submit.Closed → Answered (λ n. plan n (done ++ more)) count r q false (Err f)
        → Resumed (λ n. plan n l) count p q finished (Err (resuming.Submit f))
    refused_of l finished f before ne a = cut_short count p q (λ n. plan n (done ++ more)) (λ n. plan n l) (λ n. goes n (done ++ more) l before) finished f ne (joined_call false (Err f) a)

    -- the last call, with no message more
    pub last_of : (l : List (List ℕ)) (finished : Bool) (result : Result (Unit {0}) SubmitFault) → done ++ more ≡ l → Answered (λ n. plan n (done ++ more)) count r q finished result
        → Resumed (λ n. plan n l) count p q finished (resuming_of result)
    last_of l finished result e a = subst (λ ys. Resumed (λ n. plan n ys) count p q finished (resuming_of result)) e (resumed_of (λ n. plan n (done ++ more)) count p q finished result (joined_call finished result a))

pub get_taken : {A : Type 0} (xs : List A) (k : ℕ) (x : A) → slice_get xs k ≡ Some x → take k xs ++ x ∷ [] ≡ take (k + 1) xs
get_taken [] k x h = absurd (cc h)
get_taken (y ∷ xs) zero x h = ap (λ z. z ∷ []) (sym (cc h))
get_taken (y ∷ xs) (suc k) x h = ap (λ zs. y ∷ zs) (get_taken xs k x h) ∙ ap (λ j. take j (y ∷ xs)) (sym (suc-add k 1))

get_dropped : {A : Type 0} (n : ℕ) (xs : List A) (k : ℕ) (x : A) → slice_get xs (n + k) ≡ Some x → slice_get (drop n xs) k ≡ Some x
get_dropped zero xs k x h = ap (λ j. slice_get xs j) (sym (zero-add k)) ∙ h
get_dropped (suc n) [] k x h = absurd (cc h)
get_dropped (suc n) (y ∷ xs) k x h = get_dropped n xs k x (sym (ap (λ j. slice_get (y ∷ xs) j) (suc-add n k)) ∙ h)

-- one more of what is behind so many
pub taken_more : {A : Type 0} (xs : List A) (n k at : ℕ) (x : A) → at ≡ n + k → slice_get xs at ≡ Some x → take k (drop n xs) ++ x ∷ [] ≡ take (k + 1) (drop n xs)
taken_more xs n k at x e h = get_taken (drop n xs) k x (get_dropped n xs k x (ap (λ j. slice_get xs j) (sym e) ∙ h))

pub told_prefix : {A : Type 0} (done : List A) (n : ℕ) (all : List A) → done ≡ take n all → IsPrefix done all
told_prefix done n all e = subst (λ d. IsPrefix d all) (sym e) (prefix_take n all)

module _ {J : Type 0} {G : Ghosts J} where
  pub content_self : (a : Inbox J G) → SameContent a a
  content_self a = record {
    stands = λ i. (λ s. s, λ s. s);
    holds = λ i refused. (λ s. s, λ s. s);
    images = λ image. (λ s. s, λ s. s);
    next = refl;
    negotiated = refl;
    peer_last = refl;
    count = refl;
    size = refl;
  }

-- the last call is on no message
pub last_stands : (stands : List (List ℕ) → Type 0) (done none : List (List ℕ)) → none ≡ [] → (result : Result (Unit {0}) SubmitFault) → StandsOn result (stands (done ++ none)) → StandsOnResume (resuming_of result) (stands done)
last_stands stands done none e result s = stands_resumed result (stands done) (subst (λ l. StandsOn result (stands l)) (ap (λ l. done ++ l) e ∙ append-nil done) s)
