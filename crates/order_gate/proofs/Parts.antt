-- What a pass sends, put together from parts.
use Rattle.std.proofs.Common.{◌≡◌, ◌≢◌, true, ℕ, zero, suc, ◌+◌, ◌-◌, ◌<◌, ◌≤◌, List, [], ◌∷◌, ◌++◌, length, take, drop, slice_get, take-append-drop, Option, Some, None, Result, Ok, Err, OnOk, refl, sym, ap, subst, ◌∙◌, arith, append-nil, append_assoc, length-append}
use Rattle.std.specs.List.{AllByRecursion}
use Rattle.std.proofs.lemmas.List.{drop_all}
use Rattle.std.proofs.lemmas.Option.{same_Some, slice_get_within}
use Rattle.session_model.specs.Journal.{Entry, BeginsHistory}
use Rattle.session_model.proofs.Lists.{all_append}
use Rattle.jr_kept.specs.Entries.{entries_made}
use Rattle.jr_boxes.specs.declared.faults.SubmitFault.{SubmitFault}
use Rattle.jr_boxes.specs.declared.faults.SubmitFault.TheVariants as submit
use Rattle.gate_turn.specs.Views.{Part, HasFailed}
use Rattle.gate_turn.proofs.Histories.{begins_self, begins_on}
use Rattle.gate_turn.proofs.Failing.{failed_before}
use Rattle.gate_senders.specs.Kept.{next_entry, IsFullAt}
use Rattle.gate_senders.specs.Shown.{TakesTurn, SubmittedAll, IsFullBehind, LosesAll, entries_after}
use Rattle.gate_senders.specs.declared.submission.Submission.{Submission}
use Rattle.gate_staff.specs.Sent.{entries_behind, GoesOn, IsShown, HasLost}
use Rattle.gate_staff.specs.Made.{IsAmong, SeesOwn}
use Rattle.gate_staff.proofs.Resuming.{take_on}
use Rattle.gate_staff.proofs.Seeing.{sees_still, among_on}
use Rattle.order_gate.specs.Reported.{RefusedAt, Reported}
use Rattle.order_gate.specs.Desks.{answer_of}

pub drop_over : {A : Type 0} (n : ℕ) (xs ys : List A) → drop n (xs ++ ys) ≡ drop n xs ++ drop (n - length xs) ys
drop_over n [] ys = let e : n ≡ n - 0 = omega arith in ap (λ k. drop k ys) e ∙ ap (λ zs. zs ++ drop (n - 0) ys) (sym (drop_all n [] (omega arith)))
drop_over zero (x ∷ xs) ys = let e : 0 ≡ 0 - length (x ∷ xs) = omega arith in ap (λ k. x ∷ (xs ++ drop k ys)) e
drop_over (suc n) (x ∷ xs) ys = let e : n - length xs ≡ suc n - length (x ∷ xs) = omega arith in drop_over n xs ys ∙ ap (λ k. drop n xs ++ drop k ys) e

pub entries_append : (sender own : ℕ) (xs ys : List (List ℕ)) → entries_behind sender own (xs ++ ys) ≡ entries_behind sender own xs ++ entries_behind sender (own + length xs) ys
entries_append sender own [] ys = let e : own ≡ own + 0 = omega arith in ap (λ k. entries_behind sender k ys) e
entries_append sender own (x ∷ xs) ys =
    let e : own + 1 + length xs ≡ own + length (x ∷ xs) = omega arith in
    ap (λ (es : List Entry). record { sender = sender; own_number = own + 1; payload = x } ∷ es)
    (entries_append sender (own + 1) xs ys ∙ ap (λ k. entries_behind sender (own + 1) xs ++ entries_behind sender k ys) e)

pub length-entries : (sender own : ℕ) (xs : List (List ℕ)) → length (entries_behind sender own xs) ≡ length xs
length-entries sender own [] = refl
length-entries sender own (x ∷ xs) = ap suc (length-entries sender (own + 1) xs)

pub goes_self : (p : Part) → GoesOn p p
goes_self p = record { seen = begins_self p.seen; faults = omega arith; number = refl; made = refl; opening = refl; ended = refl; looks = refl }

pub goes_turn : (p q : Part) → TakesTurn p q → q.ended ≡ p.ended → GoesOn p q
goes_turn p q t ended = record { seen = t.seen; faults = t.faults; number = t.number; made = t.made; opening = t.opening; ended = ended; looks = t.looks }

pub goes_on : (p q z : Part) → GoesOn p q → GoesOn q z → GoesOn p z
goes_on p q z a b = record {
  seen = begins_on p.seen q.seen z.seen a.seen b.seen;
  faults = omega (arith, a.faults, b.faults);
  number = b.number ∙ a.number;
  made = b.made ∙ a.made;
  opening = b.opening ∙ a.opening;
  ended = b.ended ∙ a.ended;
  looks = b.looks ∙ a.looks;
}

pub long_of : (p q : Part) (next : List (List ℕ)) (result : Result (Unit {0}) SubmitFault) → (r : Reported p q next result) → length q.mine ≡ length p.mine + length r.sent
long_of p q next result r =
    ap length r.mine ∙ length-append p.mine (entries_behind p.number (length p.mine) r.sent) ∙ ap (λ k. length p.mine + k) (length-entries p.number (length p.mine) r.sent)

pub reported_none : (p : Part) → Reported p p [] (Ok tt)
reported_none p = record {
  pass = goes_self p;
  own = λ own. own;
  sent = [];
  rest = [];
  are = refl;
  mine = sym (append-nil p.mine);
  whole = refl;
  refused = λ f e. absurd (cc e);
  unlost = λ _. refl;
}

-- a turn that added nothing
pub reported_counted : (p q : Part) → TakesTurn p q → q.ended ≡ p.ended → q.mine ≡ p.mine → q.lost ≡ p.lost → Reported p q [] (Ok tt)
reported_counted p q turn ended mine lost = record {
  pass = goes_turn p q turn ended;
  own = sees_still p q turn.seen mine;
  sent = [];
  rest = [];
  are = refl;
  mine = mine ∙ sym (append-nil p.mine);
  whole = refl;
  refused = λ f e. absurd (cc e);
  unlost = λ _. lost;
}

-- nothing was sent, for want of memory
pub reported_nothing : (p : Part) (next : List (List ℕ)) → Reported p p next (Err submit.Memory)
reported_nothing p next = record {
  pass = goes_self p;
  own = λ own. own;
  sent = [];
  rest = next;
  are = refl;
  mine = sym (append-nil p.mine);
  whole = tt;
  refused = λ f e ne. absurd (ne (cc e));
  unlost = λ _. refl;
}

-- ---- a piece

-- what the gate answers of these payloads, of a pass that knew p and knows q
pub record Said (p q : Part) (ps : List (List ℕ)) (r : Submission) : Type 0 where
  pub turn : TakesTurn p q
  pub ended : q.ended ≡ p.ended
  pub within : r.count ≤ length ps
  pub added : SubmittedAll p q (take r.count ps)
  pub whole : r.refused ≡ None → r.count ≡ length ps
  pub none : (f : SubmitFault) → r.refused ≡ Some f → ((entries bytes : ℕ) → f ≡ submit.Full entries bytes → ⊥) → r.count ≡ 0
  pub closed : r.refused ≡ Some submit.Closed → q.seen.finished ≡ true
  pub full : (entries bytes : ℕ) → r.refused ≡ Some (submit.Full entries bytes) → IsFullBehind q ps r.count entries bytes
  pub fault : r.refused ≡ Some submit.Fault → HasFailed p.faults q.faults
  pub broken : r.refused ≡ Some submit.Broken → HasFailed q.opening.faults q.faults
  pub lost : r.refused ≡ Some submit.Fault → LosesAll q ps
  pub unlost : (r.refused ≡ Some submit.Fault → ⊥) → q.lost ≡ p.lost
  pub unended : r.refused ≡ Some submit.Fault → q.seen.finished ≢ true

-- the entries at the end of a history are among it
all_last : (before es : List Entry) → AllByRecursion (IsAmong (before ++ es)) es
all_last before [] = tt
all_last before (e ∷ es) = (
  (length before, here before),
  subst (λ (all : List Entry). AllByRecursion (IsAmong all) es) (append_assoc before (e ∷ []) es) (all_last (before ++ e ∷ []) es),
)
  where
    here : (xs : List Entry) → slice_get (xs ++ e ∷ es) (length xs) ≡ Some e
    here [] = refl
    here (x ∷ xs) = here xs

-- a pass that made the last entries of what it has seen
sees_these : (p q : Part) (before es : List Entry) → BeginsHistory p.seen q.seen → q.seen.made ≡ before ++ es → q.mine ≡ p.mine ++ es → SeesOwn p → SeesOwn q
sees_these p q before es seen last mine own =
    subst (λ (all : List Entry). AllByRecursion (IsAmong q.seen.made) all) (sym mine)
    (all_append (IsAmong q.seen.made) p.mine es (among_on p q p.mine seen own) (subst (λ (all : List Entry). AllByRecursion (IsAmong all) es) (sym last) (all_last before es)))

-- what stands at a place, and behind it
record StandsAt (n : ℕ) (xs : List (List ℕ)) : Type 0 where
  it : List ℕ
  more : List (List ℕ)
  found : slice_get xs n ≡ Some it
  behind : drop n xs ≡ it ∷ more

stands_at : (n : ℕ) (xs : List (List ℕ)) → n < length xs → StandsAt n xs
stands_at n [] few = absurd (omega (arith, few))
stands_at zero (x ∷ xs) few = record { it = x; more = xs; found = refl; behind = refl }
stands_at (suc n) (x ∷ xs) few = let r = stands_at n xs (omega (arith, few)) in record { it = r.it; more = r.more; found = r.found; behind = r.behind }

module _ (p q : Part) (ps : List (List ℕ)) (r : Submission) (some : 0 < length ps) (few : length ps ≤ 64) (a : Said p q ps r) where
  -- where one was refused, it is one of the piece
  short : (f : SubmitFault) → r.refused ≡ Some f → r.count < length ps
  short submit.Broken e = omega (arith, some, a.none submit.Broken e (λ n b x. cc x))
  short submit.Closed e = omega (arith, some, a.none submit.Closed e (λ n b x. cc x))
  short (submit.Full n b) e = let at = a.full n b e in slice_get_within ps r.count at.payload at.next
  short submit.Memory e = omega (arith, some, a.none submit.Memory e (λ n b x. cc x))
  short submit.Fault e = omega (arith, some, a.none submit.Fault e (λ n b x. cc x))

  loses : r.refused ≡ Some submit.Fault → HasLost q (drop r.count ps)
  loses e =
      let l = a.lost e in
      let within = l.within in
      let none : 0 ≡ r.count = omega (arith, a.none submit.Fault e (λ n b x. cc x)) in
      subst (λ k. HasLost q (drop k ps)) none
      (record { count = l.count; within = within; few = omega (arith, within, few); lost = l.lost; broken = l.broken; unmarked = a.unended e })

  refused_by : (f : SubmitFault) → r.refused ≡ Some f → RefusedAt p q (drop r.count ps) f
  refused_by f e =
      let at = stands_at r.count ps (short f e) in
      record {
        payload = at.it;
        more = at.more;
        first = at.behind;
        shown = record {
          closed = λ is. a.closed (e ∙ ap Some is);
          full = λ n b is.
              let full = a.full n b (e ∙ ap Some is) in
              subst (λ payload. IsFullAt q.opening.limits q.seen (next_entry q.seen q.number payload) n b) (same_Some full.payload at.it (sym full.next ∙ at.found)) full.full;
          failed = λ is. a.fault (e ∙ ap Some is);
          broken = λ is. a.broken (e ∙ ap Some is);
        };
        lost = λ is. loses (e ∙ ap Some is);
      }

  reported_piece : Reported p q ps (answer_of r.refused)
  reported_piece = record {
    pass = goes_turn p q a.turn a.ended;
    own = sees_these p q a.added.before (entries_after p (take r.count ps)) a.turn.seen a.added.last a.added.mine;
    sent = take r.count ps;
    rest = drop r.count ps;
    are = sym (take-append-drop r.count ps);
    mine = a.added.mine;
    whole = all r.refused refl;
    refused = λ f e ne. refused_by f (refusal_of r.refused f e);
    unlost = λ no. a.unlost (λ e. no (ap answer_of e));
  }
    where
      all : (o : Option SubmitFault) → o ≡ r.refused → OnOk (answer_of o) (drop r.count ps ≡ [])
      all None e = let whole = a.whole (sym e) in drop_all r.count ps (omega (arith, whole))
      all (Some f) e = tt

      refusal_of : (o : Option SubmitFault) (f : SubmitFault) → answer_of o ≡ Err f → o ≡ Some f
      refusal_of None f e = absurd (cc e)
      refusal_of (Some g) f e = ap Some (cc e)

  pub reported_at : (o : Option SubmitFault) → r.refused ≡ o → Reported p q ps (answer_of o)
  reported_at o e = subst (λ x. Reported p q ps (answer_of x)) e reported_piece

-- all of some, and then of more
pub reported_on : (p r q : Part) (xs ys : List (List ℕ)) (result : Result (Unit {0}) SubmitFault) → Reported p r xs (Ok tt) → Reported r q ys result → Reported p q (xs ++ ys) result
reported_on p r q xs ys result a b = record {
  pass = goes_on p r q a.pass b.pass;
  own = λ own. b.own (a.own own);
  sent = a.sent ++ b.sent;
  rest = b.rest;
  are = ap (λ zs. zs ++ ys) all ∙ ap (λ zs. a.sent ++ zs) b.are ∙ sym (append_assoc a.sent b.sent b.rest);
  mine = b.mine ∙ ap (λ (es : List Entry). es ++ entries_behind r.number (length r.mine) b.sent) a.mine
      ∙ append_assoc p.mine (entries_behind p.number (length p.mine) a.sent) (entries_behind r.number (length r.mine) b.sent)
      ∙ ap (λ (es : List Entry). p.mine ++ es) (ap (λ (es : List Entry). entries_behind p.number (length p.mine) a.sent ++ es) same ∙ sym (entries_append p.number (length p.mine) a.sent b.sent));
  whole = b.whole;
  refused = λ f e ne. before (b.refused f e ne);
  unlost = λ no. b.unlost no ∙ a.unlost (λ e. cc e);
}
  where
    all : xs ≡ a.sent
    all = a.are ∙ ap (λ zs. a.sent ++ zs) a.whole ∙ append-nil a.sent

    same : entries_behind r.number (length r.mine) b.sent ≡ entries_behind p.number (length p.mine + length a.sent) b.sent
    same = ap (λ k. entries_behind k (length r.mine) b.sent) a.pass.number ∙ ap (λ k. entries_behind p.number k b.sent) (long_of p r xs (Ok tt) a)

    before : {f : SubmitFault} → RefusedAt r q b.rest f → RefusedAt p q b.rest f
    before x = record {
      payload = x.payload;
      more = x.more;
      first = x.first;
      shown = record {
        closed = x.shown.closed;
        full = x.shown.full;
        failed = λ e. failed_before p.faults r.faults q.faults a.pass.faults (x.shown.failed e);
        broken = x.shown.broken;
      };
      lost = x.lost;
    }

-- what was lost of some is of more
lost_more : (q : Part) (xs ys : List (List ℕ)) → HasLost q xs → HasLost q (xs ++ ys)
lost_more q xs ys l =
    let within = l.within in
    record {
      count = l.count;
      within = omega (arith, within, length-append xs ys);
      few = l.few;
      lost = l.lost ∙ ap (λ ps. entries_made (entries_after q ps)) (front l.count xs within);
      broken = l.broken;
      unmarked = l.unmarked;
    }
  where
    front : (n : ℕ) (zs : List (List ℕ)) → n ≤ length zs → take n zs ≡ take n (zs ++ ys)
    front zero zs few = refl
    front (suc n) [] few = absurd (omega (arith, few))
    front (suc n) (z ∷ zs) few = ap (λ ws. z ∷ ws) (front n zs (omega (arith, few)))

-- where one was refused, what is behind it was not sent either
pub reported_more : (p q : Part) (xs ys : List (List ℕ)) (f : SubmitFault) → Reported p q xs (Err f) → Reported p q (xs ++ ys) (Err f)
reported_more p q xs ys f a = record {
  pass = a.pass;
  own = a.own;
  sent = a.sent;
  rest = a.rest ++ ys;
  are = ap (λ zs. zs ++ ys) a.are ∙ append_assoc a.sent a.rest ys;
  mine = a.mine;
  whole = tt;
  refused = λ g e ne. let r = a.refused g e ne in record { payload = r.payload; more = r.more ++ ys; first = ap (λ zs. zs ++ ys) r.first; shown = r.shown; lost = λ is. lost_more q a.rest ys (r.lost is) };
  unlost = a.unlost;
}

-- the same, of what comes behind so many that are owed
pub owed_on : (p r q : Part) (owed left : ℕ) (xs ys : List (List ℕ)) (result : Result (Unit {0}) SubmitFault) → Reported p r (drop owed xs) (Ok tt) → left ≡ owed - length xs
    → Reported r q (drop left ys) result → Reported p q (drop owed (xs ++ ys)) result
owed_on p r q owed left xs ys result a is b =
    subst (λ zs. Reported p q zs result) (ap (λ k. drop owed xs ++ drop k ys) is ∙ sym (drop_over owed xs ys)) (reported_on p r q (drop owed xs) (drop left ys) result a b)

pub owed_more : (p q : Part) (owed : ℕ) (xs ys : List (List ℕ)) (f : SubmitFault) → Reported p q (drop owed xs) (Err f) → Reported p q (drop owed (xs ++ ys)) (Err f)
owed_more p q owed xs ys f a = subst (λ zs. Reported p q zs (Err f)) (sym (drop_over owed xs ys)) (reported_more p q (drop owed xs) (drop (owed - length xs) ys) f a)

pub owed_none : (p : Part) (owed : ℕ) → Reported p p (drop owed []) (Ok tt)
owed_none p owed = subst (λ zs. Reported p p zs (Ok tt)) (sym (drop_all owed [] (omega arith))) (reported_none p)

-- all that comes next is owed
pub owed_all : (p : Part) (owed : ℕ) (next : List (List ℕ)) → length next ≤ owed → Reported p p (drop owed next) (Ok tt)
owed_all p owed next few = subst (λ zs. Reported p p zs (Ok tt)) (sym (drop_all owed next few)) (reported_none p)

-- ---- the first n of some were sent, and then the m behind them

module _ (p r q : Part) (xs : List (List ℕ)) (n m : ℕ) (before : Reported p r (take n xs) (Ok tt)) where
  pub piece_sent : Reported r q (take m (drop n xs)) (Ok tt) → Reported p q (take (n + m) xs) (Ok tt)
  piece_sent h = subst (λ ys. Reported p q ys (Ok tt)) (take_on n m xs) (reported_on p r q (take n xs) (take m (drop n xs)) (Ok tt) before h)

  pub piece_refused : (f : SubmitFault) → Reported r q (take m (drop n xs)) (Err f) → Reported p q xs (Err f)
  piece_refused f h =
      subst (λ ys. Reported p q ys (Err f)) (append_assoc (take n xs) (take m (drop n xs)) (drop m (drop n xs)) ∙ ap (λ ys. take n xs ++ ys) (take-append-drop m (drop n xs)) ∙ take-append-drop n xs)
      (reported_more p q (take n xs ++ take m (drop n xs)) (drop m (drop n xs)) f (reported_on p r q (take n xs) (take m (drop n xs)) (Err f) before h))
