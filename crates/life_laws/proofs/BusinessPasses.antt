-- What the passes of a gate know behind a life with a business, by what `serve_answering` ensures of it.
use Rattle.std.proofs.Common.{◌≡◌, ◌≢◌, ◌⊎◌, inl, inr, ⊎_elim, ℕ, ◌+◌, ◌<◌, ◌≤◌, Bool, true, List, [], ◌∷◌, ◌++◌, length, refl, sym, ap, subst, ◌∙◌, arith, append-nil, Result, Err}
use mathlib.Core.List.{IsPrefix}
use mathlib.Core.Logic.{dite}
use native.Mathlib.Decide.{ℕ_discrete}
use Rattle.session_model.specs.Journal.{OutboxRecord, finish, InOrder}
use Rattle.session_model.specs.Inbox.{InboxRecord, has_peer_finished}
use Rattle.session_model.specs.Plans.{GoesOn}
use Rattle.session_model.specs.Lives.{Life, KeepsOutbox}
use Rattle.jr_dated.specs.declared.journal.Journal.{Ghosts}
use Rattle.jr_kept.specs.declared.inbox.Inbox.{Inbox}
use Rattle.jr_kept.specs.Inbox.{HoldsBox}
use Rattle.gate_turn.specs.Views.{Account, Part}
use Rattle.gate_turn.specs.Rule.{In}
use Rattle.gate_turn.specs.Calls.{made_part}
use Rattle.gate_turn.specs.Steps.{Closed}
use Rattle.gate_staff.specs.Made as made
use Rattle.gate_staff.specs.Business as business
use Rattle.gate_staff.proofs.Resuming.{stays_self}
use Rattle.conn_loop.specs.Conn.{Looks}
use Rattle.conn_door.specs.declared.answer.ServeFault.{ServeFault}
use Rattle.conn_door.specs.declared.answer.ServeFault.TheVariants as faults
use Rattle.conn_turns.proofs.Delivering.{applied_payloads}
use Rattle.conn_serve.specs.Answering.{messages_of, AnsweredTo, AnsweringAt, Answers, AnsweredLife}
use Rattle.life_laws.specs.Answered.{answering_plan, answering, PassesOver}
use Rattle.life_laws.specs.AnsweredLives.{AreParted, KnowAnswered, KeepsWhole, IsOver, UsedPasses}
use Rattle.life_laws.proofs.BusinessPlans.{answers_are_kept, answers_keep_outbox, answers_whole}

-- what a call left of some passes, said of passes that know the same
module _ (plan : ℕ → List (List ℕ)) (count : ℕ) (p q r t : ℕ → Part) (finished : Bool) (before : (n : ℕ) → In count n → p n ≡ r n)
    (behind : (n : ℕ) → In count n → q n ≡ t n) where
  all_same : business.AllMade plan count p q → business.AllMade plan count r t
  all_same a n h = subst (λ (x : Part). made.IsAllMade x.mine n (plan n) (t n).mine) (before n h) (subst (λ (x : Part). made.IsAllMade (p n).mine n (plan n) x.mine) (behind n h) (a n h))

  loses_same : (n : ℕ) → In count n → business.Loses plan count p q finished n → business.Loses plan count r t finished n
  loses_same n h l = record {
    broken = subst (λ (x : Part). x.broken ≡ true) (behind n h) l.broken;
    unmarked = subst (λ (x : Part). x.seen.finished ≢ true) (behind n h) l.unmarked;
    unmade = λ m inside e. ap (λ (x : Part). x.ended) (sym (before m inside)) ∙ l.unmade m inside (ap (λ (x : Part). x.ended) (behind m inside) ∙ e);
    what = ⊎_elim
        (λ m. inl (subst (λ (x : Part). made.LosesMessages (plan n) x) (behind n h) m))
        (λ f. inr (ap (λ (x : Part). x.lost) (sym (behind n h)) ∙ f.0, f.1, all_same f.2))
        l.what;
  }

  grew_same : business.Grew plan count p q finished → business.Grew plan count r t finished
  grew_same g = record {
    same = λ n h. subst (λ (x : Part). business.StaysPass x (t n)) (before n h) (subst (λ (x : Part). business.StaysPass (p n) x) (behind n h) (g.same n h));
    each = λ n h. subst (λ (x : Part). made.MadeOf x.mine n (plan n) (t n).mine) (before n h)
        (subst (λ (x : Part). made.MadeOf (p n).mine n (plan n) x.mine) (behind n h) (g.each n h));
    ended = λ n h e. ⊎_elim
        (λ was. inl (ap (λ (x : Part). x.ended) (sym (before n h)) ∙ was))
        (λ f. inr (f.0, all_same f.1))
        (g.ended n h (ap (λ (x : Part). x.ended) (behind n h) ∙ e));
    lost = λ n h. ⊎_elim
        (λ same. inl (ap (λ (x : Part). x.lost) (sym (behind n h)) ∙ (same ∙ ap (λ (x : Part). x.lost) (before n h))))
        (λ l. inr (loses_same n h l))
        (g.lost n h);
  }

-- where nothing was done, nothing was made
grew_none : (plan : ℕ → List (List ℕ)) (count : ℕ) (p : ℕ → Part) (finished : Bool) → business.Grew plan count p p finished
grew_none plan count p finished = record {
  same = λ n h. stays_self (p n);
  each = λ n h. record { count = 0; are = sym (append-nil (p n).mine) };
  ended = λ n h e. inl e;
  lost = λ n h. inl refl;
}

-- the passes of a business, and that of a connection, which only looked
module _ (opening : Account) (plan : ℕ → List (List ℕ) → List (List ℕ)) (count : ℕ) (known : ℕ → Part) (messages : List (List ℕ)) (finished : Bool)
    (g : business.Grew (λ n. plan n messages) count (made_part (count + 1) opening) known finished)
    (looks : Looks (made_part (count + 1) opening (count + 1)) (known (count + 1))) where
  made_at : (known 1).made ≡ count + 1
  made_at = dite (ℕ_discrete count 0)
      (λ e.
      let one : 1 ≡ count + 1 = omega (arith, e) in
      ap (λ (n : ℕ). (known n).made) one ∙ (looks.made ∙ subst (λ (k : ℕ). (made_part (k + 1) opening (k + 1)).made ≡ k + 1) (sym e) refl))
      (λ ne. (g.same 1 (record { from_one = omega arith; up_to = omega (arith, ne) })).made)

  number_at : (n : ℕ) → In (count + 1) n → (known n).number ≡ n
  number_at n h = dite (ℕ_discrete n (count + 1))
      (λ e. ap (λ (k : ℕ). (known k).number) e ∙ (looks.number ∙ sym e))
      (λ ne. (g.same n (record { from_one = h.from_one; up_to = omega (arith, h.up_to, ne) })).number)

  pub passes_over : PassesOver opening plan count known messages finished
  passes_over = record { made = made_at; number = number_at; grew = g; last = looks.mine; unmarked = looks.ended; unlost = looks.lost }

module _ {J : Type 0} {G : Ghosts J} (old new : AnsweringAt J G) (opening : Account) (known : ℕ → Part) (u : UsedPasses opening known old new) where
  abbrev count : ℕ
  count = old.business.count

  abbrev plan : ℕ → List (List ℕ) → List (List ℕ)
  plan = old.business.plan

  abbrev first : ℕ → Part
  first = made_part (count + 1) opening

  looks : Looks (first (count + 1)) (known (count + 1))
  looks = subst (λ (x : Part). Looks x (known (count + 1))) u.made.connection (subst (λ (x : Part). Looks old.pass x) u.back.connection u.looks)

  over : (messages : List (List ℕ)) (finished : Bool) → business.Grew (λ n. plan n messages) count old.business.part new.business.part finished
      → PassesOver opening plan count known messages finished
  over messages finished g =
      passes_over opening plan count known messages finished
      (grew_same (λ n. plan n messages) count old.business.part new.business.part first known finished u.made.business u.back.business g) looks

  -- what it answered, of its count and its plan
  pub over_answered : (messages : List (List ℕ)) (finished : Bool) → AnsweredTo new.business old.business.part messages finished
      → PassesOver opening plan count known messages finished
  over_answered messages finished to =
      over messages finished
      (subst (λ (pl : ℕ → List (List ℕ) → List (List ℕ)). business.Grew (λ n. pl n messages) count old.business.part new.business.part finished) u.same.1
      (subst (λ (k : ℕ). business.Grew (λ n. new.business.plan n messages) k old.business.part new.business.part finished) u.same.0 to.grew))

  -- where it answered nothing, that is so of any messages
  pub over_none : new.business.part ≡ old.business.part → (messages : List (List ℕ)) (finished : Bool) → PassesOver opening plan count known messages finished
  over_none same messages finished =
      over messages finished
      (subst (λ (q : ℕ → Part). business.Grew (λ n. plan n messages) count old.business.part q finished) (sym same)
      (grew_none (λ n. plan n messages) count old.business.part finished))

  module _ (inbox adds : List InboxRecord) (tells : G.tells) (holds : HoldsBox old.box inbox []) where
    -- of the messages of the inbox and of what came behind them
    by_life : (each : Type 0) → AnsweredLife each old new adds → KnowAnswered opening plan count known inbox adds
    by_life each a =
        let x : Answers each new.business old.business.part inbox (messages_of inbox) adds = a.told inbox tells holds in
        let finished = has_peer_finished (inbox ++ x.answered) in
        record {
          answered = x.answered;
          reached = x.reached;
          passes = subst (λ (ms : List (List ℕ)). PassesOver opening plan count known ms finished) (sym (applied_payloads inbox x.answered))
              (over_answered (messages_of inbox ++ messages_of x.answered) finished x.to);
        }

    by_none : new.business.part ≡ old.business.part → KnowAnswered opening plan count known inbox adds
    by_none same = record { answered = []; reached = (adds, refl); passes = over_none same (messages_of (inbox ++ [])) (has_peer_finished (inbox ++ [])) }

    pub know_answered : (each Nothing : Type 0) → AnsweredLife each old new adds ⊎ ((new.business.part ≡ old.business.part) × Nothing) → KnowAnswered opening plan count known inbox adds
    know_answered each Nothing is = ⊎_elim (λ a. by_life each a) (λ b. by_none b.0) is

-- the records behind some are a beginning of more behind them
pub more_behind : (xs ys zs : List InboxRecord) → IsPrefix ys zs → IsPrefix (xs ++ ys) (xs ++ zs)
more_behind [] ys zs p = p
more_behind (x ∷ xs) ys zs p = let q = more_behind xs ys zs p in (q.0, ap (λ (l : List InboxRecord). x ∷ l) q.1)

-- such passes make an outbox that keeps the plan of the business
pub know_keeps : (opening now : Account) (plan : ℕ → List (List ℕ) → List (List ℕ)) (count : ℕ) (known : ℕ → Part) (inbox adds : List InboxRecord) (life : Life)
    → KnowAnswered opening plan count known inbox adds → GoesOn plan → Closed known (known 1).made opening now → InOrder now.history.made
    → IsOver opening now inbox adds life → KeepsOutbox (answering_plan plan count) life
know_keeps opening now plan count known inbox adds life k goes closed order is =
    let opened : IsPrefix life.served.opening_inbox (inbox ++ k.answered) = subst (λ (i : List InboxRecord). IsPrefix i (inbox ++ k.answered)) (sym is.inbox_is.0) (k.answered, refl) in
    let reached : IsPrefix (inbox ++ k.answered) life.served.closing_inbox =
    subst (λ (j : List InboxRecord). IsPrefix (inbox ++ k.answered) j) (sym is.inbox_is.1) (more_behind inbox k.answered adds k.reached) in
    answers_keep_outbox plan count opening.history now.history life goes order is.outbox.0 is.outbox.1
    (λ kept first. answers_are_kept opening now plan count known life.served.opening_inbox life.served.closing_inbox (inbox ++ k.answered) k.passes closed opened reached kept
    (subst (λ (rs : List OutboxRecord). IsPrefix kept rs) is.refused first))

pub know_whole : (opening now : Account) (plan : ℕ → List (List ℕ) → List (List ℕ)) (count : ℕ) (known : ℕ → Part) (inbox adds : List InboxRecord)
    → KnowAnswered opening plan count known inbox adds → Closed known (known 1).made opening now → KeepsWhole (answering plan count) opening now inbox (inbox ++ adds)
know_whole opening now plan count known inbox adds k closed =
    answers_whole opening now plan count known (inbox ++ k.answered) inbox (inbox ++ adds) k.passes closed (k.answered, refl) (more_behind inbox k.answered adds k.reached)
