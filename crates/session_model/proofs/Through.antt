-- Growth over several connections.
use Rattle.std.proofs.Common.{◌≡◌, List, [], ◌∷◌, ◌++◌, None, refl, sym, ap, subst, ◌∙◌, append_assoc, append-nil, Contains, arith}
use Rattle.std.specs.List.{AllByRecursion}
use mathlib.Core.List.{IsPrefix}
use Rattle.session_model.specs.Inbox.{Numbered, InboxRecord, applied, skips, payloads_of}
use Rattle.session_model.specs.Events.{Event, standing, numbered}
use Rattle.session_model.specs.Growth.{Flow, recoverable, idempotent, unsequenced, no_flow, Grown, GrownByNone, GrownThrough}
use Rattle.session_model.specs.Laws.{GrowthGoesOn, HeldGoesOn, NothingHeld, ConnectionsGoOn, NoEventsGrowNothing}
use Rattle.session_model.proofs.Lists.{prefix_trans, prefix_equal}
use Rattle.session_model.proofs.Inboxes.{applied-append, skips-append}
use Rattle.session_model.proofs.Recoverable.{recoverable_goes_on, in_order_held}
use Rattle.session_model.proofs.Idempotent.{idempotent_goes_on}
use Rattle.session_model.proofs.Unsequenced.{unsequenced_goes_on}

-- the generic induction: what every growth over fitting events keeps is kept over all connections
pub through_keeps : (flow : Flow) (P : List InboxRecord → Type 0) (Q : List Event → Type 0)
    → ((es : List Event) (before after : List InboxRecord) → Q es → Grown flow None es before after → P before → P after)
    → (carried : List (List Event)) (before after : List InboxRecord) → AllByRecursion Q carried → GrownThrough flow carried before after → P before → P after
through_keeps flow P Q step [] before after all e p = subst P (sym e) p
through_keeps flow P Q step (es ∷ later) before after all g p =
    through_keeps flow P Q step later g.0 after all.1 g.2 (step es before g.0 all.0 g.1 p)

-- no flow grows by nothing, and then by nothing
none_goes_on : (before between after : List InboxRecord) → GrownByNone before between → GrownByNone between after → GrownByNone before after
none_goes_on before between after g f = record {
  added = g.added ++ f.added;
  behind = f.behind ∙ (ap (λ i. i ++ f.added) g.behind ∙ append_assoc before g.added f.added);
  none_skipped = skips-append g.added f.added ∙ (ap (λ rs. rs ++ skips f.added) g.none_skipped ∙ f.none_skipped);
  none_applied = applied-append g.added f.added ∙ (ap (λ ms. ms ++ applied f.added) g.none_applied ∙ f.none_applied);
}

pub held_goes_on : HeldGoesOn
held_goes_on recoverable c first second before between after g f = recoverable_goes_on c first second before between after g f
held_goes_on idempotent c first second before between after g f = idempotent_goes_on c first second before between after g f
held_goes_on unsequenced c first second before between after g f = unsequenced_goes_on first second before between after g f
held_goes_on no_flow c first second before between after g f = none_goes_on before between after g f

pub nothing_held : NothingHeld
nothing_held recoverable c first second between after g = in_order_held (numbered c first) (numbered (standing c first) second) between after g
nothing_held idempotent c first second between after g = g
nothing_held unsequenced c first second between after g = g
nothing_held no_flow c first second between after g = g

pub growth_goes_on : GrowthGoesOn
growth_goes_on flow c first second before between after g f = held_goes_on flow c first second before between after g (nothing_held flow c first second between after f)

through_joined : (flow : Flow) (first second : List (List Event)) (before between after : List InboxRecord)
    → GrownThrough flow first before between → GrownThrough flow second between after → GrownThrough flow (first ++ second) before after
through_joined flow [] second before between after e g = subst (λ i. GrownThrough flow second i after) e g
through_joined flow (es ∷ first) second before between after f g = (f.0, f.1, through_joined flow first second f.0 between after f.2 g)

through_parted : (flow : Flow) (first second : List (List Event)) (before after : List InboxRecord) → GrownThrough flow (first ++ second) before after
    → (between : List InboxRecord) × GrownThrough flow first before between × GrownThrough flow second between after
through_parted flow [] second before after g = (before, refl, g)
through_parted flow (es ∷ first) second before after g =
    let r = through_parted flow first second g.0 after g.2 in (r.0, (g.0, g.1, r.1), r.2)

pub connections_go_on : ConnectionsGoOn
connections_go_on flow first second before after = (through_parted flow first second before after, λ r. through_joined flow first second before r.0 after r.1 r.2)

pub grown_begins : (flow : Flow) (es : List Event) (before after : List InboxRecord) → Grown flow None es before after → IsPrefix before after
grown_begins recoverable es before after g = (g.added, sym g.behind)
grown_begins idempotent es before after g = (g.added, sym g.behind)
grown_begins unsequenced es before after g = (g.added, sym g.behind)
grown_begins no_flow es before after g = (g.added, sym g.behind)

pub through_begins : (flow : Flow) (carried : List (List Event)) (before after : List InboxRecord) → GrownThrough flow carried before after → IsPrefix before after
through_begins flow [] before after e = prefix_equal before after (sym e)
through_begins flow (es ∷ later) before after g = prefix_trans before g.0 after (grown_begins flow es before g.0 g.1) (through_begins flow later g.0 after g.2)

nothing_added : (before after added : List InboxRecord) → after ≡ before ++ added → applied added ≡ [] → skips added ≡ []
    → (applied after ≡ applied before) × (skips after ≡ skips before)
nothing_added before after added e none none' = (
  ap (λ i. applied i) e ∙ (applied-append before added ∙ (ap (λ ms. applied before ++ ms) none ∙ append-nil (applied before))),
  ap (λ i. skips i) e ∙ (skips-append before added ∙ (ap (λ rs. skips before ++ rs) none' ∙ append-nil (skips before))),
)

none_of_none : (ms : List Numbered) → AllByRecursion (λ m. Contains [] m) ms → ms ≡ []
none_of_none [] all = refl
none_of_none (m ∷ ms) all = let within = all.0.1 in absurd (omega arith)

no_payloads : (ms : List Numbered) → payloads_of ms ≡ [] → ms ≡ []
no_payloads [] e = refl
no_payloads (m ∷ ms) e = absurd (cc e)

pub no_events_grow_nothing : NoEventsGrowNothing
no_events_grow_nothing recoverable c before after g = nothing_added before after g.added g.behind (none_of_none (applied g.added) g.from_carried) g.none_skipped
no_events_grow_nothing idempotent c before after g = nothing_added before after g.added g.behind g.applies g.skips_jumps
no_events_grow_nothing unsequenced c before after g = nothing_added before after g.added g.behind (no_payloads (applied g.added) g.delivers) g.none_skipped
no_events_grow_nothing no_flow c before after g = nothing_added before after g.added g.behind g.none_applied g.none_skipped
