-- What the act of a reply leaves, as the caller of an end sees it.
use Rattle.std.proofs.Common.{◌≡◌, ◌⊎◌, inl, inr, ℕ, ◌≤◌, List, length, Option, Some, None, refl, sym, subst}
use Rattle.std.specs.Prelude.{IfSome}
use Rattle.sbe_prim.specs.declared.Order.{Order}
use Rattle.fixp_msgs.specs.declared.flow.Flow.{Flow}
use Rattle.fixp_msgs.specs.declared.numbering.Range.{Range}
use Rattle.fixp_msgs.specs.Numbering.{payload_of}
use Rattle.fixp_msgs.specs.Payload.{IsApplication}
use Rattle.fixp_shake.specs.declared.config.EndConfig.{EndConfig}
use Rattle.fixp_replies.specs.declared.act.Act.{Act}
use Rattle.fixp_replies.specs.declared.act.Act.TheVariants as acts
use Rattle.fixp_replies.specs.declared.facts.EndState.{EndState}
use Rattle.fixp_replies.specs.declared.facts.Facts.{Facts}
use Rattle.fixp_replies.specs.Incoming.{Incoming, IsIncoming, application, session, wrong_order, too_short, unknown}
use Rattle.fixp_replies.specs.Outcomes.{Outcome}
use Rattle.fixp_machine.specs.Fitting.{IsMessage, CanTake, WasSent, Fits}
use Rattle.fixp_end.specs.Doing.{Serves}

-- a range that is served was sent, also behind the outcome
pub serves_next : (cfg : EndConfig) (most : ℕ) (f : Facts) (i : Incoming) (o : Outcome) → Serves f → Fits cfg most f i o → Serves o.next
serves_next cfg most f i o s fits = by_range o.next.connection.serving refl
  where
    by_case : (range : Range) → ((f.connection.serving ≡ Some range) × (o.next.recorded.sent ≡ f.recorded.sent)) ⊎ WasSent o.next.recorded.sent range → WasSent o.next.recorded.sent range
    by_case range (inl same) = subst (λ (n : ℕ). WasSent n range) (sym same.1) (subst (λ (served : Option Range). IfSome served (WasSent f.recorded.sent)) same.0 s)
    by_case range (inr was) = was

    by_range : (served : Option Range) → o.next.connection.serving ≡ served → IfSome served (WasSent o.next.recorded.sent)
    by_range None is = tt
    by_range (Some range) is = by_case range (fits.served range is)

pub is_payload : (order : Order) (message : List ℕ) (i : Incoming) → IsIncoming order message i → 8 ≤ length message → length message ≤ 16384 → IsMessage i
    → IsApplication (payload_of (record { order = order; message = message }))
is_payload order message (application p) is least most here = record {
  frame = record { order = order; message = message };
  admissible = record { least = least; most = most };
  application = is.0;
  spelled = refl;
}
is_payload order message (session m) is least most here = absurd here
is_payload order message wrong_order is least most here = absurd here
is_payload order message too_short is least most here = absurd here
is_payload order message (unknown template) is least most here = absurd here

-- an act that an inbox can take, with the frame's payload
pub takes_payload : (flow : Flow) (greatest : ℕ) (r : EndState) (order : Order) (message : List ℕ) (i : Incoming) (act : Act) → IsIncoming order message i → 8 ≤ length message → length message ≤ 16384
    → CanTake flow greatest r (IsMessage i) act → CanTake flow greatest r (IsApplication (payload_of (record { order = order; message = message }))) act
takes_payload flow greatest r order message i acts.Nothing is least most can = tt
takes_payload flow greatest r order message i (acts.Apply number) is least most can = (is_payload order message i is least most can.0, can.1, can.2)
takes_payload flow greatest r order message i (acts.Skip from count) is least most can = can
takes_payload flow greatest r order message i acts.Negotiated is least most can = can
takes_payload flow greatest r order message i (acts.PeerFinished last) is least most can = can
takes_payload flow greatest r order message i (acts.Told from count) is least most can = tt
takes_payload flow greatest r order message i acts.Ended is least most can = tt
