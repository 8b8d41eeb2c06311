-- The verdict by what the message of a frame is to an end.
use Rattle.std.proofs.Common.{◌≡◌, ℕ, true, false, if◌then◌else◌, ◌&&◌, List, Option, Some, None, refl, sym, ap, ◌∙◌}
use Rattle.sbe_prim.specs.declared.Order.{Order}
use Rattle.fixp_msgs.specs.declared.frames.FrameKind.{FrameKind}
use Rattle.fixp_msgs.specs.Header.{kind_of, template_in}
use Rattle.fixp_msgs.specs.Message.{Message}
use Rattle.fixp_msgs.specs.Table.{is_template}
use Rattle.fixp_msgs.specs.Spelled.{message_in}
use Rattle.fixp_msgs.proofs.Found.{found, spelled}
use Rattle.fixp_msgs.proofs.Rows.{is_template-row}
use Rattle.fixp_replies.specs.Incoming.{Incoming, application, session, wrong_order, too_short, unknown, IsIncoming}
use Rattle.conn_keys.specs.declared.keys.Keys.{Keys}
use Rattle.conn_keys.specs.Verdicts.{verdict_in, verdict_if, message_of_kind}

-- where no message is spelled none is found
none_found : (message : List ℕ) (o : Option Message) → message_in message ≡ o → ((m : Message) → message_in message ≡ Some m → ⊥) → o ≡ None
none_found message None e none = refl
none_found message (Some m) e none = absurd (none m e)

by_kind : (k : Keys) (kind other : FrameKind) (message : List ℕ) → kind ≡ other → verdict_if k (message_of_kind kind message) ≡ verdict_if k (message_of_kind other message)
by_kind k kind other message e = ap (λ (f : FrameKind). verdict_if k (message_of_kind f message)) e

pub classified : (k : Keys) (order : Order) (message : List ℕ) (i : Incoming) → IsIncoming order message i → verdict_if k (message_of_kind (kind_of order message) message) ≡ verdict_in k i
classified k order message (application payload) h = by_kind k (kind_of order message) _ message h.0
classified k order message (session m) h = by_kind k (kind_of order message) _ message h.0 ∙ ap (verdict_if k) (found message m h.1)
classified k order message wrong_order h = by_kind k (kind_of order message) _ message h
classified k order message too_short h =
    by_kind k (kind_of order message) _ message h.0 ∙ ap (verdict_if k) (none_found message (message_in message) refl (λ m e. h.2 m (spelled message m e)))
classified k order message (unknown id) h =
    by_kind k (kind_of order message) _ message h.0
    ∙ ap (verdict_if k) (none_found message (message_in message) refl (λ m e.
    let both : true ≡ false = sym (is_template-row m) ∙ ap is_template (sym (spelled message m e).template ∙ h.1) ∙ h.2 in
    absurd (cc both)))
