-- What is held came, and grows the inbox when it is applied.
use Rattle.std.proofs.Common.{◌≡◌, ℕ, ◌+◌, ◌≤◌, Bool, true, false, if◌then◌else◌, List, [], ◌∷◌, ◌++◌, length, Contains, Option, Some, None, IsTrue, refl, sym, ap, subst, ◌∙◌, arith, append-nil, true≢false}
use Rattle.std.specs.Prelude.{IfSome, option_to_list}
use Rattle.std.specs.List.{AllByRecursion}
use Rattle.session_model.specs.Journal.{counts_from}
use Rattle.session_model.specs.Inbox.{InboxRecord, Numbered, apply, next_number}
use Rattle.session_model.specs.Events.{Event, numbered, standing}
use Rattle.session_model.proofs.Inboxes.{next_number-append}
use Rattle.flow_recover.specs.Receiving.{number}
use Rattle.fixp_msgs.specs.declared.flow.Flow.{Flow}
use Rattle.fixp_msgs.specs.declared.flow.Flow.TheVariants as flows
use Rattle.fixp_shake.specs.Flows.{is_recoverable, is_sequenced}
use Rattle.fixp_shake.specs.Phases.{is_shaken}
use Rattle.fixp_replies.specs.declared.act.Act.{Act}
use Rattle.fixp_replies.specs.declared.facts.Facts.{Facts}
use Rattle.fixp_replies.specs.Facts.{Around}
use Rattle.fixp_replies.specs.Incoming.{Incoming, application, session, wrong_order, too_short, unknown, payload_in}
use Rattle.fixp_replies.specs.Outcomes.{Outcome}
use Rattle.fixp_replies.specs.Replies.{reply_of}
use Rattle.fixp_machine.specs.Sound.{MayHold}
use Rattle.fixp_machine.specs.Machine.{past_held}
use Rattle.fixp_machine.specs.Fitting.{IsMessage}
use Rattle.fixp_machine.specs.Accepting.{Agrees, GrowsHeld, event_of, HoldsWhatCame, HeldGrows}
use Rattle.fixp_machine.proofs.Holding.{holding_goes_on, holds_messages}

-- a message is numbered with what stands announced
numbered_message : (c : Option ℕ) (n : ℕ) (i : Incoming) → IsMessage i → c ≡ Some n → numbered c (option_to_list (event_of i)) ≡ record { number = n; payload = payload_in i } ∷ []
numbered_message c n (application p) is e = ap (λ (k : Option ℕ). numbered k (Event.message p ∷ [])) e
numbered_message c n (session m) is e = absurd is
numbered_message c n wrong_order is e = absurd is
numbered_message c n too_short is e = absurd is
numbered_message c n (unknown template) is e = absurd is

pub holds_what_came : HoldsWhatCame
holds_what_came x f i c inbox n a e =
    let o : Outcome = reply_of x f i in
    let m : MayHold x.config x.most f o n = subst (λ (h : Option ℕ). IfSome h (λ k. MayHold x.config x.most f o k)) e (holding_goes_on x f i (λ r. a.waits r ∙ sym a.recorded)).holds in
    let stands = a.stands (sequenced x.config.peer_flow m.flow) in (
      m.accepted,
      numbered_message c n i (holds_messages x f i n e)
          (stands ∙ (ap (λ (b : Bool). if b then Some (if is_recoverable x.config.peer_flow then number f.connection.receiver else f.recorded.inbox_next) else None) m.shaken
          ∙ (ap (λ (b : Bool). Some (if b then number f.connection.receiver else f.recorded.inbox_next)) m.flow ∙ ap Some (sym m.number)))),
    )
  where
    sequenced : (flow : Flow) → is_recoverable flow ≡ true → is_sequenced flow ≡ true
    sequenced flows.Recoverable e = refl
    sequenced flows.Idempotent e = refl
    sequenced flows.Unsequenced e = absurd (true≢false (sym e))
    sequenced flows.None e = absurd (true≢false (sym e))

pub held_grows : HeldGrows
held_grows flow earlier inbox f m rec a came is =
    let step : next_number (inbox ++ apply m ∷ []) ≡ m.number + 1 = omega (arith, next_number-append inbox (apply m ∷ []), is) in
    record {
      grown = record {
        added = apply m ∷ [];
        behind = refl;
        none_skipped = refl;
        consecutive = ap (λ (n : ℕ). n ∷ []) is;
        from_carried = (subst (λ (ms : List Numbered). Contains ms m) (sym (append-nil (numbered None earlier))) came, tt);
        reaches = omega arith;
      };
      agrees = record {
        recorded = sym step;
        waits = λ r. omega (arith, a.waits r, step, is);
        quiet = λ r. absurd (true≢false (sym rec ∙ r));
        stands = λ t.
            let r = f.connection.receiver in
            let done = is_shaken f.connection.phase in
            a.stands t ∙ (ap (λ (b : Bool). if done then Some (if b then number r else f.recorded.inbox_next) else None) rec
            ∙ sym (ap (λ (b : Bool). if done then Some (if b then number r else m.number + 1) else None) rec));
      };
    }
