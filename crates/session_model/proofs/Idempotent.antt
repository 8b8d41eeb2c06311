-- The laws of idempotent growth.
use Rattle.std.proofs.Common.{◌≡◌, ℕ, zero, suc, ◌+◌, ◌-◌, ◌≤◌, max, nat_lt, Bool, true, false, if◌then◌else◌, List, [], ◌∷◌, ◌++◌, flat_map, length, Option, Some, None, IfSome, option_map, unwrap_or, refl, sym, ap, subst, ◌∙◌, arith, append_assoc, append-nil, ltb-false}
use Rattle.std.specs.List.{AllByRecursion}
use Rattle.session_model.specs.Journal.{IsEntry, counts_from}
use Rattle.session_model.specs.Inbox.{Numbered, InboxRecord, applied, skips, settled, next_number, past_greatest, numbers_of, numbers_in, times, SameNumbers, Ascending}
use Rattle.session_model.specs.Events.{Event, announce, message, standing, numbered}
use Rattle.session_model.specs.Growth.{jump, jumps, NeverBack, GrownIdempotent, jumps_through}
use Rattle.session_model.specs.Laws.{IdempotentConnections, IdempotentSettles, IdempotentKeepsOnce}
use Rattle.session_model.proofs.Lists.{all_append, counts_from-add, times-append, past_greatest-pos, past_greatest-append, past_greatest-counts_from}
use Rattle.session_model.proofs.Inboxes.{applied-append, skips-append, numbers_in-append, next_number-append, times-settled-append}
use Rattle.session_model.proofs.Numbering.{numbered-append}
use Rattle.session_model.proofs.Truth.{standing_within}

-- the numbers of a jump are those up to the number announced
jump-numbers : (from n : ℕ) → from ≤ n → numbers_in (jump from (Some n)) ≡ counts_from from (n - from)
jump-numbers from n le = by_test (nat_lt from n) refl
  where
    by_test : (b : Bool) → nat_lt from n ≡ b → numbers_in (if b then record { first = from; count = n - from } ∷ [] else []) ≡ counts_from from (n - from)
    by_test true t = append-nil _
    by_test false t = let none : 0 ≡ n - from = omega (arith, ltb-false from n t) in ap (λ k. counts_from from k) none

-- where the events lead from the number reached, and what they settle on the way
record Settled (next : ℕ) (c : Option ℕ) (es : List Event) : Type 0 where
  steps : ℕ
  reached : unwrap_or (standing c es) next ≡ unwrap_or c next + steps
  greatest : max (unwrap_or c next) (max (past_greatest (numbers_of (numbered c es))) (past_greatest (numbers_in (jumps next c es)))) ≡ unwrap_or c next + steps
  each : (n : ℕ) → times n (numbers_of (numbered c es)) + times n (numbers_in (jumps next c es)) ≡ times n (counts_from (unwrap_or c next) steps)

one_more : (n m steps : ℕ) (own jumped : List ℕ) → times n own + times n jumped ≡ times n (counts_from (m + 1) steps)
    → times n (m ∷ own) + times n jumped ≡ times n (counts_from m (suc steps))
one_more n m steps own jumped e = omega (arith, e, times-append n (m ∷ []) own, times-append n (m ∷ []) (counts_from (m + 1) steps))

settles : (next : ℕ) (c : Option ℕ) (es : List Event) → 1 ≤ unwrap_or c next → NeverBack next c es → Settled next c es
settles next c [] pos back = record { steps = 0; reached = omega arith; greatest = omega arith; each = λ n. refl }
settles next c (announce _ None ∷ es) pos back = absurd back
settles next c (announce w (Some a) ∷ es) pos back =
    let r = unwrap_or c next in
    let rest = settles next (Some a) es (omega (arith, back.0)) back.1 in
    let own : numbers_in (jumps next c (announce w (Some a) ∷ es)) ≡ counts_from r (a - r) ++ numbers_in (jumps next (Some a) es) =
    numbers_in-append (jump r (Some a)) (jumps next (Some a) es) ∙ ap (λ ns. ns ++ numbers_in (jumps next (Some a) es)) (jump-numbers r a back.0) in
    let there : r + (a - r) ≡ a = omega (arith, back.0) in
    record {
      steps = (a - r) + rest.steps;
      reached = omega (arith, rest.reached, back.0);
      greatest = omega (arith, ap (λ ns. past_greatest ns) own, past_greatest-append (counts_from r (a - r)) (numbers_in (jumps next (Some a) es)), past_greatest-counts_from r (a - r) pos, rest.greatest, back.0);
      each = λ n. omega (
        arith,
        ap (λ ns. times n ns) own,
        times-append n (counts_from r (a - r)) (numbers_in (jumps next (Some a) es)),
        rest.each n,
        ap (λ ns. times n ns) (counts_from-add r (a - r) rest.steps),
        times-append n (counts_from r (a - r)) (counts_from (r + (a - r)) rest.steps),
        ap (λ k. times n (counts_from k rest.steps)) there,
      );
    }
settles next None (message p ∷ es) pos back = let rest = settles next None es pos back in record { steps = rest.steps; reached = rest.reached; greatest = rest.greatest; each = rest.each }
settles next (Some m) (message p ∷ es) pos back =
    let rest = settles next (Some (m + 1)) es (omega arith) back in
    record {
      steps = suc rest.steps;
      reached = omega (arith, rest.reached);
      greatest = omega (arith, rest.greatest);
      each = λ n. one_more n m rest.steps (numbers_of (numbered (Some (m + 1)) es)) (numbers_in (jumps next (Some (m + 1)) es)) (rest.each n);
    }

agreed : (next : ℕ) (c : Option ℕ) → IfSome c (λ n. n ≡ next) → unwrap_or c next ≡ next
agreed next None a = refl
agreed next (Some n) a = a

-- the same of a growth: how many numbers it settles
pub record SettledBy (c : Option ℕ) (es : List Event) (before after added : List InboxRecord) : Type 0 where
  pub steps : ℕ
  pub reached : unwrap_or (standing c es) (next_number before) ≡ next_number before + steps
  pub next : next_number after ≡ next_number before + steps
  pub each : SameNumbers (settled added) (counts_from (next_number before) steps)

pub settled_by : (c : Option ℕ) (es : List Event) (before after : List InboxRecord) (g : GrownIdempotent c es before after) → SettledBy c es before after g.added
settled_by c es before after g =
    let next = next_number before in
    let same = agreed next c g.agrees in
    let pos : 1 ≤ next = past_greatest-pos (settled before) in
    let all = settles next c es (omega (arith, same)) g.never_back in
    let own : settled g.added ≡ numbers_of (numbered c es) ++ numbers_in (jumps next c es) =
    ap (λ ms. numbers_of ms ++ numbers_in (skips g.added)) g.applies ∙ ap (λ rs. numbers_of (numbered c es) ++ numbers_in rs) g.skips_jumps in
    record {
      steps = all.steps;
      reached = omega (arith, all.reached, same);
      next = omega (
        arith,
        ap (λ i. next_number i) g.behind,
        next_number-append before g.added,
        ap (λ ns. past_greatest ns) own,
        past_greatest-append (numbers_of (numbered c es)) (numbers_in (jumps next c es)),
        all.greatest,
        same,
      );
      each = λ n. omega (arith, ap (λ ns. times n ns) own, times-append n (numbers_of (numbered c es)) (numbers_in (jumps next c es)), all.each n, ap (λ k. times n (counts_from k all.steps)) same);
    }

-- rising numbers
ascending_lower : (n m : ℕ) (ns : List ℕ) → m ≤ n → Ascending n ns → Ascending m ns
ascending_lower n m [] le a = tt
ascending_lower n m (k ∷ ns) le a = (omega (arith, a.0), a.1)

ascending_counts : (n k : ℕ) (ns : List ℕ) → Ascending (n + k) ns → Ascending n (counts_from n k ++ ns)
ascending_counts n zero ns a = ascending_lower (n + 0) n ns (omega arith) a
ascending_counts n (suc k) ns a = (omega arith, ascending_counts (n + 1) k ns (ascending_lower (n + suc k) (n + 1 + k) ns (omega arith) a))

jumps_ascend : (next : ℕ) (c : Option ℕ) (es : List Event) → NeverBack next c es → Ascending (unwrap_or c next) (numbers_in (jumps next c es))
jumps_ascend next c [] back = tt
jumps_ascend next c (announce _ None ∷ es) back = absurd back
jumps_ascend next c (announce w (Some a) ∷ es) back =
    let r = unwrap_or c next in
    let own : numbers_in (jumps next c (announce w (Some a) ∷ es)) ≡ counts_from r (a - r) ++ numbers_in (jumps next (Some a) es) =
    numbers_in-append (jump r (Some a)) (jumps next (Some a) es) ∙ ap (λ ns. ns ++ numbers_in (jumps next (Some a) es)) (jump-numbers r a back.0) in
    let there : a ≡ r + (a - r) = omega (arith, back.0) in
    subst (λ ns. Ascending r ns) (sym own)
    (ascending_counts r (a - r) (numbers_in (jumps next (Some a) es))
    (subst (λ k. Ascending k (numbers_in (jumps next (Some a) es))) there (jumps_ascend next (Some a) es back.1)))
jumps_ascend next None (message p ∷ es) back = jumps_ascend next None es back
jumps_ascend next (Some m) (message p ∷ es) back =
    ascending_lower (m + 1) m (numbers_in (jumps next (Some (m + 1)) es)) (omega arith) (jumps_ascend next (Some (m + 1)) es back)

pub idempotent_settles : IdempotentSettles
idempotent_settles c es before after g =
    let b = next_number before in
    let all = settled_by c es before after g in
    let steps : all.steps ≡ next_number after - b = omega (arith, all.next) in (
      omega (arith, all.next, all.reached),
      omega (arith, all.next),
      (λ n. all.each n ∙ ap (λ k. times n (counts_from b k)) steps),
      subst (λ rs. Ascending b (numbers_in rs)) (sym g.skips_jumps)
          (subst (λ n. Ascending n (numbers_in (jumps b c es))) (agreed b c g.agrees) (jumps_ascend b c es g.never_back)),
    )

pub idempotent_keeps_once : IdempotentKeepsOnce
idempotent_keeps_once h c es before after t g kept =
    let P : Numbered → Type 0 = λ m. IsEntry h m.number m.payload in
    let all = settled_by c es before after g in
    let b = next_number before in
    let pos : 1 ≤ b = past_greatest-pos (settled before) in
    let whole : (b - 1) + all.steps ≡ next_number after - 1 = omega (arith, all.next) in
    let seam : 1 + (b - 1) ≡ b = omega arith in
    let both : applied after ≡ applied before ++ numbered c es = ap (λ i. applied i) g.behind ∙ (applied-append before g.added ∙ ap (λ ms. applied before ++ ms) g.applies) in
    record {
      once = λ n. omega (
        arith,
        ap (λ i. times n (settled i)) g.behind,
        times-settled-append n before g.added,
        kept.once n,
        all.each n,
        ap (λ k. times n (counts_from 1 k)) whole,
        ap (λ ns. times n ns) (counts_from-add 1 (b - 1) all.steps),
        times-append n (counts_from 1 (b - 1)) (counts_from (1 + (b - 1)) all.steps),
        ap (λ k. times n (counts_from k all.steps)) seam,
      );
      entries = subst (AllByRecursion P) (sym both) (all_append P (applied before) (numbered c es) kept.entries t.entries);
      within = omega (arith, all.next, all.reached, standing_within h b c es t kept.within (subst (λ k. k ≤ length h + 1) (sym (agreed b c g.agrees)) kept.within));
    }

-- what is never back from a number is never back from an equal one
pub back_same : (next other : ℕ) (c : Option ℕ) (es : List Event) → unwrap_or c next ≡ unwrap_or c other → NeverBack next c es → NeverBack other c es
back_same next other c [] e back = tt
back_same next other c (announce _ None ∷ es) e back = absurd back
back_same next other c (announce _ (Some a) ∷ es) e back = (omega (arith, back.0), back_same next other (Some a) es refl back.1)
back_same next other None (message p ∷ es) e back = back_same next other None es e back
back_same next other (Some m) (message p ∷ es) e back = back_same next other (Some (m + 1)) es refl back

jumps_same : (next other : ℕ) (c : Option ℕ) (es : List Event) → unwrap_or c next ≡ unwrap_or c other → NeverBack next c es → jumps next c es ≡ jumps other c es
jumps_same next other c [] e back = refl
jumps_same next other c (announce _ None ∷ es) e back = absurd back
jumps_same next other c (announce _ (Some a) ∷ es) e back =
    ap (λ k. jump k (Some a) ++ jumps next (Some a) es) e ∙ ap (λ rs. jump (unwrap_or c other) (Some a) ++ rs) (jumps_same next other (Some a) es refl back.1)
jumps_same next other None (message p ∷ es) e back = jumps_same next other None es e back
jumps_same next other (Some m) (message p ∷ es) e back = jumps_same next other (Some (m + 1)) es refl back

pub back-append : (next : ℕ) (c : Option ℕ) (first second : List Event) → NeverBack next c first → NeverBack next (standing c first) second → NeverBack next c (first ++ second)
back-append next c [] second b d = d
back-append next c (announce _ None ∷ first) second b d = absurd b
back-append next c (announce _ (Some a) ∷ first) second b d = (b.0, back-append next (Some a) first second b.1 d)
back-append next c (message p ∷ first) second b d = back-append next (option_map (λ n. n + 1) c) first second b d

-- the two parts of what is never back
pub back_first : (next : ℕ) (c : Option ℕ) (first second : List Event) → NeverBack next c (first ++ second) → NeverBack next c first
back_first next c [] second b = tt
back_first next c (announce _ None ∷ first) second b = absurd b
back_first next c (announce _ (Some a) ∷ first) second b = (b.0, back_first next (Some a) first second b.1)
back_first next c (message p ∷ first) second b = back_first next (option_map (λ n. n + 1) c) first second b

pub back_second : (next : ℕ) (c : Option ℕ) (first second : List Event) → NeverBack next c (first ++ second) → NeverBack next (standing c first) second
back_second next c [] second b = b
back_second next c (announce _ None ∷ first) second b = absurd b
back_second next c (announce _ (Some a) ∷ first) second b = back_second next (Some a) first second b.1
back_second next c (message p ∷ first) second b = back_second next (option_map (λ n. n + 1) c) first second b

jumps-append : (next : ℕ) (c : Option ℕ) (first second : List Event) → jumps next c (first ++ second) ≡ jumps next c first ++ jumps next (standing c first) second
jumps-append next c [] second = refl
jumps-append next c (announce _ n ∷ first) second =
    ap (λ rs. jump (unwrap_or c next) n ++ rs) (jumps-append next n first second) ∙ sym (append_assoc (jump (unwrap_or c next) n) _ _)
jumps-append next c (message p ∷ first) second = jumps-append next (option_map (λ n. n + 1) c) first second

pub unwrap_twice : (c : Option ℕ) (next other : ℕ) → other ≡ unwrap_or c next → unwrap_or c other ≡ unwrap_or c next
unwrap_twice None next other e = e
unwrap_twice (Some n) next other e = refl

pub idempotent_goes_on : (c : Option ℕ) (first second : List Event) (before between after : List InboxRecord)
    → GrownIdempotent c first before between → GrownIdempotent (standing c first) second between after → GrownIdempotent c (first ++ second) before after
idempotent_goes_on c first second before between after g f =
    let b = next_number before in
    let m = next_number between in
    let s = standing c first in
    let all = settled_by c first before between g in
    let reached : m ≡ unwrap_or s b = omega (arith, all.next, all.reached) in
    let same : unwrap_or s m ≡ unwrap_or s b = unwrap_twice s b m reached in
    record {
      added = g.added ++ f.added;
      behind = f.behind ∙ (ap (λ i. i ++ f.added) g.behind ∙ append_assoc before g.added f.added);
      agrees = g.agrees;
      never_back = back-append b c first second g.never_back (back_same m b s second same f.never_back);
      applies = applied-append g.added f.added ∙ (ap (λ ms. ms ++ applied f.added) g.applies
          ∙ (ap (λ ms. numbered c first ++ ms) f.applies ∙ sym (numbered-append c first second)));
      skips_jumps = skips-append g.added f.added ∙ (ap (λ rs. rs ++ skips f.added) g.skips_jumps
          ∙ (ap (λ rs. jumps b c first ++ rs) (f.skips_jumps ∙ jumps_same m b s second same f.never_back) ∙ sym (jumps-append b c first second)));
    }

pub idempotent_connections : IdempotentConnections
idempotent_connections [] before after e = (ap (λ i. applied i) e ∙ sym (append-nil _), ap (λ i. skips i) e ∙ sym (append-nil _))
idempotent_connections (es ∷ later) before after through =
    let g = through.1 in
    let rest = idempotent_connections later through.0 after through.2 in
    let all = settled_by None es before through.0 g in
    let reached : next_number through.0 ≡ unwrap_or (standing None es) (next_number before) = omega (arith, all.next, all.reached) in (
      rest.0 ∙ (ap (λ ms. ms ++ flat_map (numbered None) later) (ap (λ i. applied i) g.behind ∙ (applied-append before g.added ∙ ap (λ ms. applied before ++ ms) g.applies))
          ∙ append_assoc (applied before) (numbered None es) (flat_map (numbered None) later)),
      rest.1 ∙ (ap (λ rs. rs ++ jumps_through (next_number through.0) later) (ap (λ i. skips i) g.behind ∙ (skips-append before g.added ∙ ap (λ rs. skips before ++ rs) g.skips_jumps))
          ∙ (append_assoc (skips before) (jumps (next_number before) None es) (jumps_through (next_number through.0) later)
          ∙ ap (λ k. skips before ++ (jumps (next_number before) None es ++ jumps_through k later)) reached)),
    )
