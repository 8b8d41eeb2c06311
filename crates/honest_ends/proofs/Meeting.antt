-- The finishes where two ends begin, and where they begin a connection.
use Rattle.std.proofs.Common.{◌≡◌, inl, inr, ℕ, Bool, true, false, List, [], length, Option, Some, None, refl, sym, ap, subst, ◌∙◌, arith}
use Rattle.std.specs.Prelude.{IfSome}
use Rattle.session_model.specs.Journal.{Entry}
use Rattle.fixp_msgs.specs.declared.flow.Flow.{Flow}
use Rattle.fixp_replies.specs.declared.act.Ending.{Ending}
use Rattle.fixp_replies.specs.declared.facts.EndState.{EndState}
use Rattle.fixp_replies.specs.declared.facts.Facts.{Facts}
use Rattle.fixp_replies.specs.declared.facts.PeerFinish.{PeerFinish}
use Rattle.fixp_replies.specs.declared.facts.PeerFinish.TheVariants as peer
use Rattle.fixp_replies.specs.Events.{Made, begun}
use Rattle.fixp_replies.specs.Facts.{Around, is_initiator, last_among}
use Rattle.fixp_machine.specs.Machine.{State, fresh}
use Rattle.connection_laws.specs.Writing.{Piece, said_all}
use Rattle.honest_ends.proofs.Finishing.{finishes, Learned, sendings, total}
use Rattle.honest_ends.proofs.Telling.{Complete, none_names}
use Rattle.honest_ends.proofs.Phased.{begun_as}
use Rattle.honest_ends.specs.Knowing.{Knows, last_told}
use Rattle.honest_ends.proofs.Living.{said_live}
use Rattle.honest_ends.proofs.Behind.{Behind}

-- what is recorded stays, and no finish comes or is told
record Unheard (recorded : EndState) (m : Made) : Type 0 where
  same : m.next.recorded ≡ recorded
  unread : m.next.connection.peer_finish ≡ peer.Open
  silent : total sendings (said_all m.written) ≡ 0

unheard : (x : Around) (recorded : EndState) → Unheard recorded (begun x recorded)
unheard x recorded = by_case (is_initiator x.config.role) recorded.negotiated
  where
    by_case : (i n : Bool) → Unheard recorded (begun_as x recorded i n)
    by_case true true = record { same = refl; unread = refl; silent = refl }
    by_case true false = record { same = refl; unread = refl; silent = refl }
    by_case false n = record { same = refl; unread = refl; silent = refl }

-- a connection begins
pub begins_behind : (own : Flow) (h : List Entry) (xw xr : Around) (writer reader : Facts) (over later : Option Ending) (way : List Piece) → Behind own h writer reader over way
    → Behind own h (begun xw writer.recorded).next (begun xr reader.recorded).next later (said_all (begun xw writer.recorded).written)
begins_behind own h xw xr writer reader over later way a = record {
  finish = subst (λ (k : Option ℕ). IfSome k (λ n. n ≡ length h)) (sym (ap (λ (r : EndState). r.finish) b.same)) a.finish;
  learned = learned;
  told = λ some. let silent = b.silent in absurd (omega (arith, silent, some));
  names = none_names own (length h) (said_all (begun xw writer.recorded).written) b.silent;
  none_live = λ _ _. said_live (begun xw writer.recorded).written _ _;
}
  where
    b : Unheard writer.recorded (begun xw writer.recorded)
    b = unheard xw writer.recorded

    c : Unheard reader.recorded (begun xr reader.recorded)
    c = unheard xr reader.recorded

    completes : Complete (length h) writer → Complete (length h) (begun xw writer.recorded).next
    completes k = record { finish = ap (λ (r : EndState). r.finish) b.same ∙ k.finish; sent = ap (λ (r : EndState). r.sent) b.same ∙ k.sent }

    learned : (last : ℕ) → Learned (finishes (begun xr reader.recorded).next) last → Complete (length h) (begun xw writer.recorded).next × (last ≡ last_told own h)
    learned last (inl e) = let k = a.learned last (inl (sym (ap (λ (r : EndState). r.peer_last) c.same) ∙ e)) in (completes k.0, k.1)
    learned last (inr e) = absurd (cc (sym (ap (λ (q : PeerFinish). last_among None q) c.unread) ∙ e))

if_some : (o : Option ℕ) (P : ℕ → Type 0) (n : ℕ) → IfSome o P → o ≡ Some n → P n
if_some None P n h e = absurd cc
if_some (Some k) P n h e = let same : k ≡ n = cc e in subst P same h

-- and so do both ends
pub first_behind : (h : List Entry) (writer reader : State) (way : List Piece) → Knows h writer reader → reader ≡ fresh reader.config reader.facts.recorded reader.most → way ≡ []
    → Behind writer.config.own_flow h writer.facts reader.facts reader.ending way
first_behind h writer reader way k new none = subst (λ (ps : List Piece). Behind writer.config.own_flow h writer.facts reader.facts reader.ending ps) (sym none)
    (record { finish = k.finish; learned = learned; told = λ some. absurd (omega (arith, some)); names = tt; none_live = λ _ _. tt })
  where
    learned : (last : ℕ) → Learned (finishes reader.facts) last → Complete (length h) writer.facts × (last ≡ last_told writer.config.own_flow h)
    learned last (inl e) =
        let c = if_some reader.facts.recorded.peer_last (λ n. (writer.facts.recorded.finish ≡ Some (length h)) × (writer.facts.recorded.sent ≡ length h) × (n ≡ last_told writer.config.own_flow h)) last k.last e in
        (record { finish = c.0; sent = c.1 }, c.2)
    learned last (inr e) = absurd (cc (sym (ap (λ (s : State). last_among None s.facts.connection.peer_finish) new) ∙ e))
