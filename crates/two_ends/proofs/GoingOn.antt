-- An inbox goes on from what it held by what true connections carried, and what it held of the peer's outbox it holds on.
use Rattle.std.proofs.Common.{◌≡◌, ℕ, zero, suc, ◌+◌, ◌-◌, ◌≤◌, max, List, [], ◌∷◌, ◌++◌, flat_map, length, drop, slice_get, Contains, Option, Some, None, unwrap_or, refl, sym, ap, subst, ◌∙◌, arith, append_assoc, append-nil, add-one}
use Rattle.std.specs.List.{AllByRecursion}
use mathlib.Core.List.{IsPrefix}
use Rattle.session_model.specs.Journal.{Entry, IsEntry, payloads, counts_from}
use Rattle.session_model.specs.Inbox.{Numbered, InboxRecord, applied, skips, settled, next_number, numbers_of, payloads_of, times}
use Rattle.session_model.specs.Events.{Event, announce, message, standing, numbered, messages, TrueOfJournal, Rising}
use Rattle.session_model.specs.Growth.{recoverable, idempotent, unsequenced, no_flow, GrownIdempotent, GrownUnsequenced, GrownThrough, AppliesPrefix, SettlesOnce, DeliversRising}
use Rattle.session_model.proofs.Lists.{prefix_trans, prefix_map, prefix_length, prefix_continued, all_weaker, all_append, all_contains, counts_from-add, times-append, past_greatest-pos}
use Rattle.session_model.proofs.Journals.{entry_stays, entry_within}
use Rattle.session_model.proofs.Inboxes.{applied-append, skips-append, payloads_of-append, length-payloads_of, times-settled-append}
use Rattle.session_model.proofs.Numbering.{messages-append}
use Rattle.session_model.proofs.Truth.{rising_goes_on}
use Rattle.session_model.proofs.Through.{through_keeps}
use Rattle.session_model.proofs.Recoverable.{recoverable_connections, next_of_counted, counted_behind}
use Rattle.session_model.proofs.Idempotent.{settled_by}
use Rattle.session_model.proofs.Unsequenced.{unsequenced_goes_on}
use Rattle.fixp_msgs.specs.declared.flow.Flow.TheVariants as flows
use Rattle.two_ends.specs.GoingOn.{AreEntries, AppliesOn, SettlesOn, DeliversOn, TakesNone}
use Rattle.two_ends.specs.Meeting.{HoldingGoesOn}

-- what true connections carried are entries
carried_entries : (h : List Entry) (carried : List (List Event)) → AllByRecursion (TrueOfJournal h None) carried → AreEntries h (flat_map (numbered None) carried)
carried_entries h [] all = tt
carried_entries h (es ∷ later) all = all_append (λ (m : Numbered). IsEntry h m.number m.payload) (numbered None es) (flat_map (numbered None) later) all.0.entries (carried_entries h later all.1)

pub applies_on : (h : List Entry) (carried : List (List Event)) (held inbox : List InboxRecord) → AllByRecursion (TrueOfJournal h None) carried
    → GrownThrough recoverable carried held inbox → AppliesOn h held inbox
applies_on h carried held inbox all grown =
    let ms : List Numbered = flat_map (numbered None) carried in
    let P : Numbered → Type 0 = λ m. IsEntry h m.number m.payload in
    let g = recoverable_connections carried held inbox grown in
    record {
      added = g.added;
      behind = g.behind;
      counted = g.consecutive;
      entries = all_weaker (λ m. Contains ms m) P (λ m i. all_contains P ms m (carried_entries h carried all) i) (applied g.added) g.from_carried;
      whole = g.none_skipped;
    }

-- behind events that are true, the number that stands announced is at most one past the journal, or what was awaited
standing_upto : (h : List Entry) (most next : ℕ) (c : Option ℕ) (es : List Event) → TrueOfJournal h c es
    → length h + 1 ≤ most → next ≤ most → unwrap_or c next ≤ most → unwrap_or (standing c es) next ≤ most
standing_upto h most next c [] t past low le = le
standing_upto h most next c (announce _ None ∷ es) t past low le = standing_upto h most next None es (record { entries = t.entries; announced = t.announced }) past low low
standing_upto h most next c (announce _ (Some n) ∷ es) t past low le =
    standing_upto h most next (Some n) es (record { entries = t.entries; announced = t.announced.1 }) past low (omega (arith, t.announced.0.1, past))
standing_upto h most next None (message p ∷ es) t past low le = standing_upto h most next None es (record { entries = t.entries; announced = t.announced }) past low low
standing_upto h most next (Some n) (message p ∷ es) t past low le =
    standing_upto h most next (Some (n + 1)) es (record { entries = t.entries.1; announced = t.announced }) past low (omega (arith, entry_within h n p t.entries.0, past))

settles_step : (h : List Entry) (held : List InboxRecord) (es : List Event) (before after : List InboxRecord) → TrueOfJournal h None es
    → GrownIdempotent None es before after → SettlesOn h held before → SettlesOn h held after
settles_step h held es before after t g kept =
    let P : Numbered → Type 0 = λ m. IsEntry h m.number m.payload in
    let n = next_number held in
    let a = next_number before - n in
    let all = settled_by None es before after g in
    let both : applied (kept.added ++ g.added) ≡ applied kept.added ++ numbered None es = applied-append kept.added g.added ∙ ap (λ ms. applied kept.added ++ ms) g.applies in
    let seam : n + a ≡ next_number before = omega (arith, kept.grows) in
    let steps : next_number after - n ≡ a + all.steps = omega (arith, all.next, kept.grows) in
    record {
      added = kept.added ++ g.added;
      behind = g.behind ∙ (ap (λ i. i ++ g.added) kept.behind ∙ append_assoc held kept.added g.added);
      grows = omega (arith, all.next, kept.grows);
      once = λ k. omega (
        arith,
        times-settled-append k kept.added g.added,
        kept.once k,
        all.each k,
        ap (λ j. times k (counts_from n j)) steps,
        ap (λ ns. times k ns) (counts_from-add n a all.steps),
        times-append k (counts_from n a) (counts_from (n + a) all.steps),
        ap (λ j. times k (counts_from j all.steps)) seam,
      );
      entries = subst (AllByRecursion P) (sym both) (all_append P (applied kept.added) (numbered None es) kept.entries t.entries);
      within = omega (arith, all.next, all.reached, standing_upto h (max n (length h + 1)) (next_number before) None es t (omega arith) kept.within kept.within);
    }

pub settles_on : (h : List Entry) (carried : List (List Event)) (held inbox : List InboxRecord) → AllByRecursion (TrueOfJournal h None) carried
    → GrownThrough idempotent carried held inbox → SettlesOn h held inbox
settles_on h carried held inbox all grown =
    let none : next_number held - next_number held ≡ 0 = omega arith in
    through_keeps idempotent (SettlesOn h held) (TrueOfJournal h None) (λ es before after t g kept. settles_step h held es before after t g kept) carried held inbox all grown (record {
      added = [];
      behind = sym (append-nil held);
      grows = omega arith;
      once = λ k. ap (λ j. times k (counts_from (next_number held) j)) (sym none);
      entries = tt;
      within = omega arith;
    })

-- over several connections, as over one
all_unsequenced : (carried : List (List Event)) (before after : List InboxRecord) → GrownThrough unsequenced carried before after
    → (es : List Event) × GrownUnsequenced es before after × (messages es ≡ flat_map messages carried)
all_unsequenced [] before after e = ([], record { added = []; behind = e ∙ sym (append-nil before); none_skipped = refl; delivers = refl; counts = refl }, refl)
all_unsequenced (es ∷ later) before after g =
    let r = all_unsequenced later g.0 after g.2 in
    (es ++ r.0, unsequenced_goes_on es r.0 before g.0 after g.1 r.1, messages-append es r.0 ∙ ap (λ ps. messages es ++ ps) r.2)

pub delivers_on : (begun h : List Entry) (carried : List (List Event)) (held inbox : List InboxRecord) → Rising h (length begun) (flat_map messages carried)
    → GrownThrough unsequenced carried held inbox → DeliversOn begun h held inbox
delivers_on begun h carried held inbox rising grown =
    let r = all_unsequenced carried held inbox grown in
    let g = r.1 in
    let many : length (messages r.0) ≡ length (applied g.added) = ap length (sym g.delivers) ∙ length-payloads_of (applied g.added) in
    record {
      added = g.added;
      behind = g.behind;
      rising = subst (λ ps. Rising h (length begun) ps) (sym (g.delivers ∙ r.2)) rising;
      counted = g.counts ∙ ap (λ k. counts_from (next_number held) k) many;
      whole = g.none_skipped;
    }

pub takes_none : (carried : List (List Event)) (held inbox : List InboxRecord) → GrownThrough no_flow carried held inbox → TakesNone held inbox
takes_none [] held inbox e = record { added = []; behind = e ∙ sym (append-nil held); none = refl; whole = refl }
takes_none (es ∷ later) held inbox g =
    let r = takes_none later g.0 inbox g.2 in
    record {
      added = g.1.added ++ r.added;
      behind = r.behind ∙ (ap (λ i. i ++ r.added) g.1.behind ∙ append_assoc held g.1.added r.added);
      none = applied-append g.1.added r.added ∙ (ap (λ ms. ms ++ applied r.added) g.1.none_applied ∙ r.none);
      whole = skips-append g.1.added r.added ∙ (ap (λ rs. rs ++ skips r.added) g.1.none_skipped ∙ r.whole);
    }

-- entries that count on are those that stand there
from_here : {A : Type 0} (xs : List A) (k : ℕ) (x : A) → slice_get xs k ≡ Some x → drop k xs ≡ x ∷ drop (suc k) xs
from_here [] k x h = absurd cc
from_here (y ∷ ys) zero x h = cc h
from_here (y ∷ ys) (suc k) x h = from_here ys k x h

stand_behind : (h : List Entry) (k : ℕ) (ms : List Numbered) → numbers_of ms ≡ counts_from (k + 1) (length ms) → AreEntries h ms → IsPrefix (payloads_of ms) (drop k (payloads h))
stand_behind h k [] e all = (drop k (payloads h), refl)
stand_behind h k (m ∷ ms) e all =
    let number : m.number ≡ k + 1 = cc e in
    let rest = stand_behind h (k + 1) ms (cc e) all.1 in
    let place : m.number - 1 ≡ k = omega arith in
    let here : slice_get (payloads h) k ≡ Some m.payload = subst (λ j. slice_get (payloads h) j ≡ Some m.payload) place all.0.found in
    (rest.0, ap (λ ps. m.payload ∷ ps) (rest.1 ∙ ap (λ j. drop j (payloads h)) (add-one k)) ∙ sym (from_here (payloads h) k m.payload here))

pub applies_prefix : (begun h : List Entry) (held inbox : List InboxRecord) → IsPrefix begun h → AppliesPrefix begun held → AppliesOn h held inbox → AppliesPrefix h inbox
applies_prefix begun h held inbox begins kept on =
    let a = length (applied held) in
    let next = next_of_counted held kept.counted kept.whole in
    let more = stand_behind h a (applied on.added) (on.counted ∙ ap (λ n. counts_from n (length (applied on.added))) next) on.entries in
    let both : applied inbox ≡ applied held ++ applied on.added = ap (λ i. applied i) on.behind ∙ applied-append held on.added in
    let counts = counted_behind held inbox on.added on.behind on.whole on.counted kept.counted kept.whole in
    record {
      prefix = subst (λ ps. IsPrefix ps (payloads h)) (sym (ap (λ ms. payloads_of ms) both ∙ payloads_of-append (applied held) (applied on.added)))
          (prefix_continued (payloads_of (applied held)) (payloads_of (applied on.added)) (payloads h)
          (prefix_trans (payloads_of (applied held)) (payloads begun) (payloads h) kept.prefix (prefix_map _ begun h begins))
          (subst (λ n. IsPrefix (payloads_of (applied on.added)) (drop n (payloads h))) (sym (length-payloads_of (applied held))) more));
      counted = counts.0;
      whole = counts.1;
    }

pub settles_once : (begun h : List Entry) (held inbox : List InboxRecord) → IsPrefix begun h → SettlesOnce begun held → SettlesOn h held inbox → SettlesOnce h inbox
settles_once begun h held inbox begins kept on =
    let P : Numbered → Type 0 = λ m. IsEntry h m.number m.payload in
    let b = next_number held in
    let pos : 1 ≤ b = past_greatest-pos (settled held) in
    let steps = next_number inbox - b in
    let whole : (b - 1) + steps ≡ next_number inbox - 1 = omega (arith, on.grows, pos) in
    let seam : 1 + (b - 1) ≡ b = omega (arith, pos) in
    let both : applied inbox ≡ applied held ++ applied on.added = ap (λ i. applied i) on.behind ∙ applied-append held on.added in
    record {
      once = λ n. omega (
        arith,
        ap (λ i. times n (settled i)) on.behind,
        times-settled-append n held on.added,
        kept.once n,
        on.once n,
        ap (λ k. times n (counts_from 1 k)) whole,
        ap (λ ns. times n ns) (counts_from-add 1 (b - 1) steps),
        times-append n (counts_from 1 (b - 1)) (counts_from (1 + (b - 1)) steps),
        ap (λ k. times n (counts_from k steps)) seam,
      );
      entries = subst (AllByRecursion P) (sym both)
          (all_append P (applied held) (applied on.added) (all_weaker (λ m. IsEntry begun m.number m.payload) P (λ m e. entry_stays begun h m.number m.payload begins e) (applied held) kept.entries) on.entries);
      within = omega (arith, on.within, kept.within, prefix_length begun h begins);
    }

pub delivers_rising : (begun h : List Entry) (held inbox : List InboxRecord) → IsPrefix begun h → DeliversRising begun held → DeliversOn begun h held inbox → DeliversRising h inbox
delivers_rising begun h held inbox begins kept on =
    let both : payloads_of (applied inbox) ≡ payloads_of (applied held) ++ payloads_of (applied on.added) =
    ap (λ i. payloads_of (applied i)) on.behind ∙ (ap (λ ms. payloads_of ms) (applied-append held on.added) ∙ payloads_of-append (applied held) (applied on.added)) in
    let counts = counted_behind held inbox on.added on.behind on.whole on.counted kept.counted kept.whole in
    record {
      rising = subst (λ ps. Rising h 0 ps) (sym both) (rising_goes_on begun h 0 (payloads_of (applied held)) (payloads_of (applied on.added)) begins (omega arith) kept.rising on.rising);
      counted = counts.0;
      whole = counts.1;
    }

pub holding_goes_on : HoldingGoesOn
holding_goes_on flows.Recoverable begun h held inbox begins kept on = applies_prefix begun h held inbox begins kept on
holding_goes_on flows.Idempotent begun h held inbox begins kept on = settles_once begun h held inbox begins kept on
holding_goes_on flows.Unsequenced begun h held inbox begins kept on = delivers_rising begun h held inbox begins kept on
holding_goes_on flows.None begun h held inbox begins kept on = (
  ap (λ i. applied i) on.behind ∙ (applied-append held on.added ∙ (ap (λ ms. ms ++ applied on.added) kept.0 ∙ on.none)),
  ap (λ i. skips i) on.behind ∙ (skips-append held on.added ∙ (ap (λ rs. rs ++ skips on.added) kept.1 ∙ on.whole)),
)
