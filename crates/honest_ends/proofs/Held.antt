-- Which replies hold a message: those to an application message of a recoverable flow, in Established.
use Rattle.std.proofs.Common.{◌≡◌, ℕ, ◌&&◌, not, true, false, List, Option, Some, None, refl, sym, ap, ◌∙◌, true≢false}
use Rattle.std.specs.Prelude.{is_some, IsSome}
use Rattle.std.proofs.lemmas.Bool.{false≢true}
use Rattle.flow_recover.specs.declared.numbers.Seen.{Seen}
use Rattle.flow_recover.specs.declared.numbers.Seen.TheVariants.{Deliver, Hold, Gap, Repeat}
use Rattle.flow_recover.specs.Receiving as receiver_is
use Rattle.flow_retrans.specs.declared.requester.BadStart.{BadStart}
use Rattle.flow_retrans.specs.Requests as request_is
use Rattle.fixp_shake.specs.declared.phase.Phase.{Phase}
use Rattle.fixp_shake.specs.declared.phase.Phase.TheVariants as phases
use Rattle.fixp_shake.specs.Flows.{is_recoverable}
use Rattle.fixp_shake.specs.Phases.{is_established, is_closing, is_shaken}
use Rattle.fixp_replies.specs.declared.act.Act.{Act}
use Rattle.fixp_replies.specs.declared.act.Act.TheVariants as acts
use Rattle.fixp_replies.specs.declared.facts.Facts.{Facts}
use Rattle.fixp_replies.specs.Acts.{is_record}
use Rattle.fixp_replies.specs.Facts.{Around}
use Rattle.fixp_replies.specs.Incoming.{Incoming, application, session, wrong_order, too_short, unknown}
use Rattle.fixp_replies.specs.Outcomes.{Outcome, ignores, not_in_phase}
use Rattle.fixp_replies.specs.Flowing.{bad_retransmission, counted, taken_as}
use Rattle.fixp_replies.specs.Replies.{rows_of, answer_of, terminates, reply_of}
use Rattle.fixp_machine.proofs.Rows.{AllRows, by_row, all_rows, all_within}
use Rattle.fixp_machine.proofs.Tests.{not_true}
use Rattle.fixp_machine.proofs.Holding.{held_messages}

pub record Holding (x : Around) (f : Facts) (o : Outcome) : Type 0 where
  pub flow : is_recoverable x.config.peer_flow ≡ true
  pub established : is_established f.connection.phase ≡ true
  pub act : o.act ≡ acts.Nothing

abbrev HoldsSo : Around → Facts → Outcome → Type 0
HoldsSo x f o = IsSome o.holds → Holding x f o

nothing : (x : Around) (f : Facts) (o : Outcome) → o.holds ≡ None → HoldsSo x f o
nothing x f o e some = absurd (false≢true (ap (λ (n : Option ℕ). is_some n) (sym e) ∙ some))

bad : (x : Around) (f : Facts) (b : Option BadStart) → HoldsSo x f (bad_retransmission x f b)
bad x f None = nothing x f (ignores f) refl
bad x f (Some b) = nothing x f _ refl

taking : (x : Around) (f : Facts) (s : Seen) → is_recoverable x.config.peer_flow ≡ true → is_established f.connection.phase ≡ true → HoldsSo x f (taken_as x (counted f) s)
taking x f (Deliver n) rec now = nothing x f _ refl
taking x f (Hold n) rec now = λ _. record { flow = rec; established = now; act = refl }
taking x f (Gap n) rec now = nothing x f _ refl
taking x f (Repeat n) rec now = nothing x f _ refl

message_rows : (x : Around) (f : Facts) (payload : List ℕ) → AllRows (HoldsSo x f) (rows_of x f (application payload))
message_rows x f payload = all_within (HoldsSo x f) (is_established f.connection.phase) _ (λ now. (
  λ _. nothing x f _ refl,
  λ _. (
    λ _. nothing x f _ refl,
    λ _. (
      λ _. nothing x f _ refl,
      λ _. (
        λ _. nothing x f _ refl,
        λ rec. (
          λ _. bad x f (request_is.message_fault f.connection.requester),
          λ _. (λ _. taking x f (receiver_is.seen f.connection.receiver) (not_true (is_recoverable x.config.peer_flow) rec) now, λ _. tt),
        ),
      ),
    ),
  ),
))

pub holds_so : (x : Around) (f : Facts) (i : Incoming) → IsSome (reply_of x f i).holds → Holding x f (reply_of x f i)
holds_so x f (application payload) some =
    by_row (HoldsSo x f) (is_closing f.connection.phase && not (terminates x (application payload))) (ignores f) (answer_of x f (application payload))
    (λ _. nothing x f (ignores f) refl)
    (λ _. all_rows (HoldsSo x f) (not_in_phase x f 0) (rows_of x f (application payload)) (nothing x f _ refl) (message_rows x f payload)) some
holds_so x f (session m) some = absurd (held_messages x f (session m) some)
holds_so x f wrong_order some = absurd (held_messages x f wrong_order some)
holds_so x f too_short some = absurd (held_messages x f too_short some)
holds_so x f (unknown template) some = absurd (held_messages x f (unknown template) some)

-- a reply whose act is a record holds none
pub record_holds_none : (x : Around) (f : Facts) (i : Incoming) → is_record (reply_of x f i).act ≡ true → (reply_of x f i).holds ≡ None
record_holds_none x f i is = by_number (reply_of x f i).holds refl
  where
    by_number : (n : Option ℕ) → (reply_of x f i).holds ≡ n → (reply_of x f i).holds ≡ None
    by_number None e = e
    by_number (Some n) e = absurd (true≢false (sym is ∙ ap (λ (a : Act). is_record a) (holds_so x f i (ap (λ (k : Option ℕ). is_some k) e)).act))

-- a phase in which the connection goes on is not that in which it closes, before which the handshake was done
pub open_not_closing : (p : Phase) → is_established p ≡ true → is_closing p ≡ false
open_not_closing phases.Idle e = refl
open_not_closing phases.Negotiating e = refl
open_not_closing phases.Establishing e = refl
open_not_closing phases.Established e = refl
open_not_closing phases.Closing e = absurd (true≢false (sym e))
open_not_closing phases.Ended e = refl

pub closing_done : (p : Phase) → is_closing p ≡ true → is_shaken p ≡ true
closing_done phases.Idle e = absurd (true≢false (sym e))
closing_done phases.Negotiating e = absurd (true≢false (sym e))
closing_done phases.Establishing e = absurd (true≢false (sym e))
closing_done phases.Established e = refl
closing_done phases.Closing e = refl
closing_done phases.Ended e = absurd (true≢false (sym e))
