-- The laws of unsequenced growth.
use Rattle.std.proofs.Common.{◌≡◌, ◌+◌, List, [], ◌∷◌, ◌++◌, flat_map, length, sym, ap, subst, ◌∙◌, arith, append_assoc, append-nil, length-append}
use Rattle.session_model.specs.Journal.{counts_from}
use Rattle.session_model.specs.Inbox.{InboxRecord, applied, skips, next_number, numbers_of, payloads_of}
use Rattle.session_model.specs.Events.{Event, messages, Rising}
use Rattle.session_model.specs.Growth.{GrownUnsequenced}
use Rattle.session_model.specs.Laws.{UnsequencedConnections, UnsequencedKeepsRising}
use Rattle.session_model.proofs.Lists.{counts_from-add}
use Rattle.session_model.proofs.Inboxes.{applied-append, skips-append, numbers_of-append, payloads_of-append, length-payloads_of}
use Rattle.session_model.proofs.Numbering.{messages-append}
use Rattle.session_model.proofs.Truth.{rising_goes_on}
use Rattle.session_model.proofs.Recoverable.{next_behind, counted_behind}

-- as many are applied as there are messages
applied-length : (es : List Event) (before after : List InboxRecord) (g : GrownUnsequenced es before after) → length (applied g.added) ≡ length (messages es)
applied-length es before after g = sym (length-payloads_of (applied g.added)) ∙ ap (λ ps. length ps) g.delivers

consecutive : (es : List Event) (before after : List InboxRecord) (g : GrownUnsequenced es before after)
    → numbers_of (applied g.added) ≡ counts_from (next_number before) (length (applied g.added))
consecutive es before after g = g.counts ∙ ap (λ k. counts_from (next_number before) k) (sym (applied-length es before after g))

pub payloads_behind : (es : List Event) (before after : List InboxRecord) → GrownUnsequenced es before after
    → payloads_of (applied after) ≡ payloads_of (applied before) ++ messages es
payloads_behind es before after g =
    ap (λ i. payloads_of (applied i)) g.behind ∙ (ap (λ ms. payloads_of ms) (applied-append before g.added)
    ∙ (payloads_of-append (applied before) (applied g.added) ∙ ap (λ ps. payloads_of (applied before) ++ ps) g.delivers))

pub unsequenced_goes_on : (first second : List Event) (before between after : List InboxRecord)
    → GrownUnsequenced first before between → GrownUnsequenced second between after → GrownUnsequenced (first ++ second) before after
unsequenced_goes_on first second before between after g f =
    let n = next_number before in
    let a = length (messages first) in
    let b = length (messages second) in
    let next : next_number between ≡ n + a =
    next_behind before between g.added g.behind g.none_skipped (consecutive first before between g) ∙ ap (λ k. n + k) (applied-length first before between g) in
    let len : length (messages (first ++ second)) ≡ a + b = ap (λ ps. length ps) (messages-append first second) ∙ length-append (messages first) (messages second) in
    record {
      added = g.added ++ f.added;
      behind = f.behind ∙ (ap (λ i. i ++ f.added) g.behind ∙ append_assoc before g.added f.added);
      none_skipped = skips-append g.added f.added ∙ (ap (λ rs. rs ++ skips f.added) g.none_skipped ∙ f.none_skipped);
      delivers = ap (λ ms. payloads_of ms) (applied-append g.added f.added) ∙ (payloads_of-append (applied g.added) (applied f.added)
          ∙ (ap (λ ps. ps ++ payloads_of (applied f.added)) g.delivers ∙ (ap (λ ps. messages first ++ ps) f.delivers ∙ sym (messages-append first second))));
      counts = ap (λ ms. numbers_of ms) (applied-append g.added f.added) ∙ (numbers_of-append (applied g.added) (applied f.added)
          ∙ (ap (λ ns. ns ++ numbers_of (applied f.added)) g.counts ∙ (ap (λ ns. counts_from n a ++ ns) (f.counts ∙ ap (λ k. counts_from k b) next)
          ∙ (sym (counts_from-add n a b) ∙ ap (λ k. counts_from n k) (sym len)))));
    }

pub unsequenced_connections : UnsequencedConnections
unsequenced_connections [] before after e = ap (λ i. payloads_of (applied i)) e ∙ sym (append-nil _)
unsequenced_connections (es ∷ later) before after through =
    unsequenced_connections later through.0 after through.2
    ∙ (ap (λ ps. ps ++ flat_map messages later) (payloads_behind es before through.0 through.1)
    ∙ append_assoc (payloads_of (applied before)) (messages es) (flat_map messages later))

pub unsequenced_counted : (es : List Event) (before after : List InboxRecord) → GrownUnsequenced es before after
    → numbers_of (applied before) ≡ counts_from 1 (length (applied before)) → skips before ≡ []
    → (numbers_of (applied after) ≡ counts_from 1 (length (applied after))) × (skips after ≡ [])
unsequenced_counted es before after g counted whole = counted_behind before after g.added g.behind g.none_skipped (consecutive es before after g) counted whole

pub unsequenced_keeps_rising : UnsequencedKeepsRising
unsequenced_keeps_rising begun h es before after begins rises g kept =
    let c = unsequenced_counted es before after g kept.counted kept.whole in
    record {
      rising = subst (λ ps. Rising h 0 ps) (sym (payloads_behind es before after g))
          (rising_goes_on begun h 0 (payloads_of (applied before)) (messages es) begins (omega arith) kept.rising rises);
      counted = c.0;
      whole = c.1;
    }
