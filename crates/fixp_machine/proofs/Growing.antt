-- What an announcement and a message make of an inbox, for each kind of flow.
use Rattle.std.proofs.Common.{◌≡◌, ℕ, ◌+◌, ◌-◌, ◌≤◌, max, nat_lt, not, ◌||◌, Bool, true, false, if◌then◌else◌, List, [], ◌∷◌, ◌++◌, length, Option, Some, None, IfSome, option_map, refl, sym, ap, subst, ◌∙◌, arith, append-nil, true≢false}
use Rattle.std.specs.Prelude.{is_some, is_none, unwrap_or}
use Rattle.std.specs.List.{AllByRecursion}
use Rattle.std.proofs.lemmas.Bool.{ltb-false}
use Rattle.session_model.specs.Journal.{counts_from}
use Rattle.session_model.specs.Inbox.{InboxRecord, apply, applied, skips, settled, numbers_of, payloads_of, next_number, past_greatest}
use Rattle.session_model.specs.Events.{Announcer, Event, announce, numbered}
use Rattle.session_model.specs.Growth.{Grown, GrownInOrder, GrownIdempotent}
use Rattle.session_model.proofs.Lists.{past_greatest-pos}
use Rattle.session_model.proofs.Inboxes.{next_number-append}
use Rattle.session_model.proofs.Idempotent.{idempotent_settles}
use Rattle.fixp_msgs.specs.declared.numbering.Range.{Range}
use Rattle.fixp_msgs.specs.declared.flow.Flow.{Flow}
use Rattle.fixp_msgs.specs.declared.flow.Flow.TheVariants as flows
use Rattle.flow_recover.specs.Receiving as receiver_is
use Rattle.fixp_shake.specs.declared.violation.Violation.{Violation}
use Rattle.fixp_shake.specs.declared.violation.Violation.TheVariants.{MissingNext, NumberTooLarge, WentBack}
use Rattle.fixp_shake.specs.Flows.{is_recoverable, is_idempotent, is_sequenced, is_absent}
use Rattle.fixp_shake.specs.Phases.{is_shaken}
use Rattle.fixp_replies.specs.declared.facts.Facts.{Facts}
use Rattle.fixp_replies.specs.Incoming.{Incoming}
use Rattle.fixp_replies.specs.Facts.{Around, receiving, firm, awaiting, awaits_gap, having_asked, gap_of, gap_to_ask}
use Rattle.fixp_replies.specs.Outcomes.{skip_of}
use Rattle.fixp_replies.specs.Announcing.{Announced, jumped_over}
use Rattle.fixp_machine.proofs.Tests.{other_gap}
use Rattle.fixp_machine.specs.Accepting.{model_flow, records_of, next_message, AsksNothing, Agrees, GrowsBy}

-- what the announcement makes of the facts, and the rule that it breaks, where the flow is this one
abbrev pub announced_on : Flow → Facts → Option ℕ → Announced
announced_on flow f next =
    if is_recoverable flow
    then record { facts = firm (receiving f (receiver_is.announced f.connection.receiver (unwrap_or next 0))); skipped = None }
    else if is_idempotent flow
    then record { facts = awaiting f (unwrap_or next 0); skipped = jumped_over f.recorded.inbox_next (unwrap_or next 0) }
    else record { facts = f; skipped = None }

abbrev expected_on : Flow → Facts → ℕ
expected_on flow f =
    if is_recoverable flow then (if f.connection.soft then f.connection.receiver.next else receiver_is.expected f.connection.receiver) else f.recorded.inbox_next

abbrev pub fault_on : Flow → (most : ℕ) → Facts → (template : ℕ) (next : Option ℕ) → Option Violation
fault_on flow most f template next =
    if not (is_sequenced flow) then None
    else if is_none next then Some (MissingNext template)
    else if nat_lt (most + 1) (unwrap_or next 0) then Some (NumberTooLarge (unwrap_or next 0))
    else if nat_lt (unwrap_or next 0) (expected_on flow f) then Some (WentBack (unwrap_or next 0) (expected_on flow f))
    else None

-- a flow with numbers announces one, and none below the one expected
bounds : (flow : Flow) (most : ℕ) (f : Facts) (template : ℕ) (next : Option ℕ) → fault_on flow most f template next ≡ None → is_sequenced flow ≡ true
    → (is_none next ≡ false) × (expected_on flow f ≤ unwrap_or next 0)
bounds flow most f template next e seq =
    let t = by_tests (is_sequenced flow) (is_none next) (nat_lt (most + 1) (unwrap_or next 0)) (nat_lt (unwrap_or next 0) (expected_on flow f)) e seq in
    (t.0, ltb-false (unwrap_or next 0) (expected_on flow f) t.1)
  where
    by_tests : (numbered missing large low : Bool)
        → (if not numbered then None else if missing then Some (MissingNext template) else if large then Some (NumberTooLarge (unwrap_or next 0))
        else if low then Some (WentBack (unwrap_or next 0) (expected_on flow f)) else None) ≡ None
        → numbered ≡ true → (missing ≡ false) × (low ≡ false)
    by_tests true true large low e t = absurd cc
    by_tests true false true low e t = absurd cc
    by_tests true false false true e t = absurd cc
    by_tests true false false false e t = (refl, refl)
    by_tests false missing large low e t = absurd (true≢false (sym t))

some_is : (next : Option ℕ) → is_none next ≡ false → next ≡ Some (unwrap_or next 0)
some_is None e = absurd (true≢false e)
some_is (Some n) e = refl

none_to_ask : (x : Around) (f : Facts) → gap_of x f ≡ None → gap_to_ask x f ≡ None
none_to_ask x f none = by_tests f.connection.soft (is_some _)
  where
    by_tests : (a b : Bool) → (if a || b then None else gap_of x f) ≡ None
    by_tests false false = none
    by_tests false true = refl
    by_tests true b = refl

asked_agrees : (flow : Flow) (c : Option ℕ) (f : Facts) (inbox : List InboxRecord) (g : Option Range) → (is_recoverable flow ≡ false → g ≡ None)
    → Agrees flow c f inbox → Agrees flow c (having_asked f g) inbox
asked_agrees flow c f inbox None h a = a
asked_agrees flow c f inbox (Some g) h a = record { recorded = a.recorded; waits = a.waits; quiet = λ e. absurd (some-not-none (h e)); stands = a.stands }
  where
    some-not-none : Some g ≡ None → ⊥
    some-not-none e = true≢false (ap is_some e)

-- where the flow is the peer's
abbrev pub IsOf : Flow → Around → Type 0
IsOf flow x = is_recoverable flow ≡ false → is_recoverable x.config.peer_flow ≡ false

-- asking for a gap changes nothing that is agreed on
pub agrees_asked : (flow : Flow) (x : Around) (c : Option ℕ) (f : Facts) (inbox : List InboxRecord) → IsOf flow x → Agrees flow c f inbox
    → Agrees flow c (having_asked f (gap_to_ask x f)) inbox
agrees_asked flow x c f inbox of a = asked_agrees flow c f inbox (gap_to_ask x f) (λ e. none_to_ask x f (other_gap x f (of e))) a

-- records that neither apply nor skip leave the number that the inbox waits for
pub still : (inbox added : List InboxRecord) → settled added ≡ [] → next_number (inbox ++ added) ≡ next_number inbox
still inbox added none =
    next_number-append inbox added ∙ (ap (λ ns. max (next_number inbox) (past_greatest ns)) none ∙ omega (arith, past_greatest-pos (settled inbox)))

pub settles_nothing : (added : List InboxRecord) → applied added ≡ [] → skips added ≡ [] → settled added ≡ []
settles_nothing added a s = simp (a, s) refl

-- nothing that is numbered came, and nothing is applied
pub in_order : (inbox added : List InboxRecord) → applied added ≡ [] → skips added ≡ [] → GrownInOrder [] [] inbox (inbox ++ added)
in_order inbox added none unskipped = record {
  added = added;
  behind = refl;
  none_skipped = unskipped;
  consecutive = subst (λ ms. numbers_of ms ≡ counts_from (next_number inbox) (length ms)) (sym none) refl;
  from_carried = subst (AllByRecursion _) (sym none) tt;
  reaches = omega arith;
}

-- what stands announced on a flow with numbers is the inbox's next, if anything is
stood : (c : Option ℕ) (next : ℕ) (inbox : List InboxRecord) (b : Bool) → next ≡ next_number inbox → c ≡ (if b then Some next else None) → IfSome c (λ n. n ≡ next_number inbox)
stood c next inbox true e s = subst (λ k. IfSome k (λ n. n ≡ next_number inbox)) (sym s) e
stood c next inbox false e s = subst (λ k. IfSome k (λ n. n ≡ next_number inbox)) (sym s) tt

-- no event, and nothing settled
pub unmoved : (flow : Flow) (c : Option ℕ) (f : Facts) (inbox added : List InboxRecord) → Agrees flow c f inbox → applied added ≡ [] → skips added ≡ []
    → Grown (model_flow flow) c [] inbox (inbox ++ added)
unmoved flows.Recoverable c f inbox added a none unskipped = in_order inbox added none unskipped
unmoved flows.Idempotent c f inbox added a none unskipped = record {
  added = added;
  behind = refl;
  agrees = stood c f.recorded.inbox_next inbox (is_shaken f.connection.phase) a.recorded (a.stands refl);
  never_back = tt;
  applies = none;
  skips_jumps = unskipped;
}
unmoved flows.Unsequenced c f inbox added a none unskipped = record {
  added = added;
  behind = refl;
  none_skipped = unskipped;
  delivers = subst (λ ms. payloads_of ms ≡ []) (sym none) refl;
  counts = subst (λ ms. numbers_of ms ≡ []) (sym none) refl;
}
unmoved flows.None c f inbox added a none unskipped = record { added = added; behind = refl; none_skipped = unskipped; none_applied = none }

pub agrees_same : (flow : Flow) (c : Option ℕ) (f : Facts) (inbox after : List InboxRecord) → next_number after ≡ next_number inbox → Agrees flow c f inbox → Agrees flow c f after
agrees_same flow c f inbox after e a = record { recorded = a.recorded ∙ sym e; waits = λ r. a.waits r ∙ sym e; quiet = a.quiet; stands = a.stands }

-- facts in which nothing that is agreed on has changed, and records that settle nothing
pub quiet_grows : (flow : Flow) (c : Option ℕ) (inbox added : List InboxRecord) (f g : Facts) → Agrees flow c f inbox → Agrees flow c g inbox → applied added ≡ [] → skips added ≡ []
    → GrowsBy flow c inbox [] added g
quiet_grows flow c inbox added f g a b none unskipped = record {
  grown = unmoved flow c f inbox added a none unskipped;
  agrees = agrees_same flow c g inbox (inbox ++ added) (still inbox added (settles_nothing added none unskipped)) b;
}

-- facts behind an announcement: the handshake is done
pub record Behind (a g : Facts) : Type 0 where
  pub inbox_next : g.recorded.inbox_next ≡ a.recorded.inbox_next
  pub receiver : g.connection.receiver ≡ a.connection.receiver
  pub requester : g.connection.requester ≡ a.connection.requester
  pub finish : awaits_gap g.connection.peer_finish ≡ awaits_gap a.connection.peer_finish
  pub shaken : is_shaken g.connection.phase ≡ true

quiet_behind : (a g : Facts) → Behind a g → AsksNothing a → AsksNothing g
quiet_behind a g b q = record {
  no_request = b.requester ∙ q.no_request;
  no_gap = ap (λ r. r.live) b.receiver ∙ (q.no_gap ∙ sym (ap (λ r. r.next) b.receiver));
  no_finish = b.finish ∙ q.no_finish;
}

-- an announcement on a recoverable flow
pub recoverable_announced : (c : Option ℕ) (inbox added : List InboxRecord) (who : Announcer) (next : Option ℕ) (f g : Facts) → Agrees flows.Recoverable c f inbox
    → is_none next ≡ false → g.recorded.inbox_next ≡ f.recorded.inbox_next → g.connection.receiver ≡ receiver_is.announced f.connection.receiver (unwrap_or next 0)
    → is_shaken g.connection.phase ≡ true → applied added ≡ [] → skips added ≡ []
    → GrowsBy flows.Recoverable c inbox (announce who next ∷ []) added g
recoverable_announced c inbox added who next f g a some recorded receiver shaken none unskipped =
    let same = still inbox added (settles_nothing added none unskipped) in
    record {
      grown = in_order inbox added none unskipped;
      agrees = record {
        recorded = recorded ∙ (a.recorded ∙ sym same);
        waits = λ _. ap (λ r. r.next) receiver ∙ (a.waits refl ∙ sym same);
        quiet = λ e. absurd (true≢false e);
        stands = λ _. some_is next some
            ∙ (ap (λ r. Some (receiver_is.number r)) (sym receiver)
            ∙ ap (λ k. if k then Some (receiver_is.number g.connection.receiver) else None) (sym shaken));
      };
    }

-- the jump of an announcement on an idempotent flow
jump_at : (c : Option ℕ) (next : ℕ) (inbox : List InboxRecord) → IfSome c (λ n. n ≡ next_number inbox) → next ≡ next_number inbox → unwrap_or c (next_number inbox) ≡ next
jump_at None next inbox s e = sym e
jump_at (Some n) next inbox s e = s ∙ sym e

idempotent_announced : (c : Option ℕ) (inbox : List InboxRecord) (i : Incoming) (who : Announcer) (n : ℕ) (f g : Facts) → Agrees flows.Idempotent c f inbox
    → f.recorded.inbox_next ≤ n → Behind (awaiting f n) g
    → GrowsBy flows.Idempotent c inbox (announce who (Some n) ∷ []) (records_of (skip_of (jumped_over f.recorded.inbox_next n)) i) g
idempotent_announced c inbox i who n f g a low b = by_test (nat_lt f.recorded.inbox_next n) refl
  where
    s : IfSome c (λ k. k ≡ next_number inbox)
    s = stood c f.recorded.inbox_next inbox (is_shaken f.connection.phase) a.recorded (a.stands refl)

    at : unwrap_or c (next_number inbox) ≡ f.recorded.inbox_next
    at = jump_at c f.recorded.inbox_next inbox s a.recorded

    agreed : (added : List InboxRecord) → next_number (inbox ++ added) ≡ n → Agrees flows.Idempotent (Some n) g (inbox ++ added)
    agreed added e = record {
      recorded = b.inbox_next ∙ sym e;
      waits = λ r. absurd (true≢false (sym r));
      quiet = λ r. quiet_behind (awaiting f n) g b (let q = a.quiet r in record { no_request = q.no_request; no_gap = q.no_gap; no_finish = q.no_finish });
      stands = λ _. ap Some (sym b.inbox_next) ∙ ap (λ k. if k then Some g.recorded.inbox_next else None) (sym b.shaken);
    }

    by_test : (t : Bool) → nat_lt f.recorded.inbox_next n ≡ t
        → GrowsBy flows.Idempotent c inbox (announce who (Some n) ∷ []) (records_of (skip_of (if t then Some (record { from = f.recorded.inbox_next; count = n - f.recorded.inbox_next }) else None)) i) g
    by_test true t =
        let added : List InboxRecord = InboxRecord.skip (record { first = f.recorded.inbox_next; count = n - f.recorded.inbox_next }) ∷ [] in
        let grown : GrownIdempotent c (announce who (Some n) ∷ []) inbox (inbox ++ added) = record {
          added = added;
          behind = refl;
          agrees = s;
          never_back = (subst (λ k. k ≤ n) (sym at) low, tt);
          applies = refl;
          skips_jumps = sym (ap (λ k. (if nat_lt k n then record { first = k; count = n - k } ∷ [] else []) ++ []) at
              ∙ ap (λ k. (if k then record { first = f.recorded.inbox_next; count = n - f.recorded.inbox_next } ∷ [] else []) ++ []) t);
        } in
        record { grown = grown; agrees = agreed added (idempotent_settles c (announce who (Some n) ∷ []) inbox (inbox ++ added) grown).0 }
    by_test false t =
        let grown : GrownIdempotent c (announce who (Some n) ∷ []) inbox (inbox ++ []) = record {
          added = [];
          behind = refl;
          agrees = s;
          never_back = (subst (λ k. k ≤ n) (sym at) low, tt);
          applies = refl;
          skips_jumps = sym (ap (λ k. (if nat_lt k n then record { first = k; count = n - k } ∷ [] else []) ++ []) at
              ∙ ap (λ k. (if k then record { first = f.recorded.inbox_next; count = n - f.recorded.inbox_next } ∷ [] else []) ++ []) t);
        } in
        record { grown = grown; agrees = agreed [] (idempotent_settles c (announce who (Some n) ∷ []) inbox (inbox ++ []) grown).0 }

-- a flow without numbers: an announcement says nothing
without : (flow : Flow) (c d : Option ℕ) (f g : Facts) (inbox : List InboxRecord) → is_recoverable flow ≡ false → is_sequenced flow ≡ false → Agrees flow c f inbox → Behind f g
    → Agrees flow d g (inbox ++ [])
without flow c d f g inbox rec seq a b = record {
  recorded = b.inbox_next ∙ (a.recorded ∙ ap (λ r. next_number r) (sym (append-nil inbox)));
  waits = λ r. absurd (true≢false (sym r ∙ rec));
  quiet = λ r. quiet_behind f g b (a.quiet r);
  stands = λ t. absurd (true≢false (sym t ∙ seq));
}

-- an announcement that breaks no rule, behind which the handshake is done
pub announced_grows : (flow : Flow) (most template : ℕ) (c : Option ℕ) (inbox : List InboxRecord) (i : Incoming) (who : Announcer) (next : Option ℕ) (f g : Facts)
    → Agrees flow c f inbox → fault_on flow most f template next ≡ None → Behind (announced_on flow f next).facts g
    → GrowsBy flow c inbox (announce who next ∷ []) (records_of (skip_of (announced_on flow f next).skipped) i) g
announced_grows flows.Recoverable most template c inbox i who next f g a e b =
    recoverable_announced c inbox [] who next f g a (bounds flows.Recoverable most f template next e refl).0 b.inbox_next b.receiver b.shaken refl refl
announced_grows flows.Idempotent most template c inbox i who next f g a e b =
    let t = bounds flows.Idempotent most f template next e refl in
    subst (λ k. GrowsBy flows.Idempotent c inbox (announce who k ∷ []) (records_of (skip_of (jumped_over f.recorded.inbox_next (unwrap_or next 0))) i) g) (sym (some_is next t.0))
    (idempotent_announced c inbox i who (unwrap_or next 0) f g a t.1 b)
announced_grows flows.Unsequenced most template c inbox i who next f g a e b = record {
  grown = record { added = []; behind = refl; none_skipped = refl; delivers = refl; counts = refl };
  agrees = without flows.Unsequenced c next f g inbox refl refl a b;
}
announced_grows flows.None most template c inbox i who next f g a e b = record {
  grown = record { added = []; behind = refl; none_skipped = refl; none_applied = refl };
  agrees = without flows.None c next f g inbox refl refl a b;
}

-- a message on a flow without a receiver takes the inbox's next number
pub message_grows : (flow : Flow) (c : Option ℕ) (inbox : List InboxRecord) (p : List ℕ) (f : Facts) → Agrees flow c f inbox → is_recoverable flow ≡ false → is_absent flow ≡ false
    → is_shaken f.connection.phase ≡ true
    → GrowsBy flow c inbox (Event.message p ∷ []) (apply (record { number = f.recorded.inbox_next; payload = p }) ∷ []) (awaiting f (f.recorded.inbox_next + 1))
message_grows flow c inbox p f a rec present shaken = by_flow flow a rec present
  where
    n : ℕ
    n = f.recorded.inbox_next

    added : List InboxRecord
    added = apply (record { number = n; payload = p }) ∷ []

    behind_it : (k : Flow) → Agrees k c f inbox → next_number (inbox ++ added) ≡ n + 1
    behind_it k b = let e = b.recorded in omega (arith, next_number-append inbox added, e)

    agreed : (k : Flow) → Agrees k c f inbox → is_recoverable k ≡ false → Agrees k (option_map (λ m. m + 1) c) (awaiting f (n + 1)) (inbox ++ added)
    agreed k b r = record {
      recorded = sym (behind_it k b);
      waits = λ t. absurd (true≢false (sym t ∙ r));
      quiet = λ _. let q = b.quiet r in record { no_request = q.no_request; no_gap = q.no_gap; no_finish = q.no_finish };
      stands = λ t.
          ap (option_map (λ m. m + 1)) (b.stands t ∙ ap (λ d. if d then Some (next_message k f) else None) shaken)
          ∙ (ap (λ d. Some ((if d then receiver_is.number f.connection.receiver else n) + 1)) r
          ∙ (ap (λ d. Some (if d then receiver_is.number f.connection.receiver else n + 1)) (sym r)
          ∙ ap (λ d. if d then Some (next_message k (awaiting f (n + 1))) else None) (sym shaken)));
    }

    by_flow : (k : Flow) → Agrees k c f inbox → is_recoverable k ≡ false → is_absent k ≡ false
        → GrowsBy k c inbox (Event.message p ∷ []) added (awaiting f (n + 1))
    by_flow flows.Recoverable b r q = absurd (true≢false r)
    by_flow flows.Idempotent b r q =
        let s : c ≡ Some n = b.stands refl ∙ ap (λ d. if d then Some n else None) shaken in
        record {
          grown = record {
            added = added;
            behind = refl;
            agrees = stood c n inbox (is_shaken f.connection.phase) b.recorded (b.stands refl);
            never_back = tt;
            applies = ap (λ k. numbered k (Event.message p ∷ [])) (sym s);
            skips_jumps = refl;
          };
          agrees = agreed flows.Idempotent b refl;
        }
    by_flow flows.Unsequenced b r q = record {
      grown = record { added = added; behind = refl; none_skipped = refl; delivers = refl; counts = ap (λ k. k ∷ []) b.recorded };
      agrees = agreed flows.Unsequenced b refl;
    }
    by_flow flows.None b r q = absurd (true≢false q)
