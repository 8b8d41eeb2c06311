-- What has arrived, where as many messages were applied as were sent.
use Rattle.std.proofs.Common.{◌≡◌, ℕ, Result, Ok, Err, List, [], ◌∷◌, ◌++◌, length, sym, ap, subst, ◌∙◌, arith, append-nil, length-append}
use Rattle.std.proofs.lemmas.List.{length-map}
use mathlib.Core.List.{IsPrefix}
use Rattle.session_model.specs.Journal.{Entry, History, payloads, counts_from}
use Rattle.session_model.specs.Inbox.{Numbered, InboxRecord, applied, payloads_of}
use Rattle.session_model.specs.Growth.{AppliesPrefix}
use Rattle.fixp_msgs.specs.declared.flow.Flow.{Flow}
use Rattle.fixp_msgs.specs.declared.flow.Flow.TheVariants as flows
use Rattle.jr_boxes.proofs.Kept.{length-places}
use Rattle.jr_kept.specs.Inbox as inboxes
use Rattle.jr_kept.specs.Outbox as outboxes
use Rattle.two_ends.specs.Meeting.{Holds}
use Rattle.gw_rehearse.specs.declared.journals.Journals.{Journals}
use Rattle.gw_rehearse.specs.declared.rehearsal.Rehearsal.{Rehearsal}
use Rattle.gw_rehearse.specs.declared.rehearsal.RehearseFault.{RehearseFault}
use Rattle.gw_rehearse.specs.declared.rehearsal.RehearseFault.TheVariants as faults
use Rattle.gw_rehearse.specs.Together.{KeepsSession, CountsAll, HasArrived, StoppedAt}

-- a beginning that is as long as the whole is the whole
prefix_whole : {A : Type 0} (xs ys : List A) → IsPrefix xs ys → length xs ≡ length ys → xs ≡ ys
prefix_whole {A} xs ys p long = by_rest p.0 p.1
  where
    by_rest : (rest : List A) → xs ++ rest ≡ ys → xs ≡ ys
    by_rest [] e = sym (append-nil xs) ∙ e
    by_rest (x ∷ rest) e = absurd (omega (arith, ap (λ (zs : List A). length zs) e, length-append xs (x ∷ rest), long))

arrived : (flow : Flow) (j k : Journals) (history : History) (inbox : List InboxRecord) → outboxes.StandsFor j.outbox history → inboxes.StandsFor k.inbox inbox → Holds flow history.made inbox
    → CountsAll flow j k → flow ≡ flows.Recoverable → HasArrived j k
arrived flow j k history inbox stands holds held counts is =
    let kept : AppliesPrefix history.made inbox = subst (λ (f : Flow). Holds f history.made inbox) is held in
    let count : length (applied inbox) ≡ length history.made =
    sym (length-places 0 inbox) ∙ (sym (ap (λ (ns : List ℕ). length ns) holds.noticed.places) ∙ (counts is ∙ stands.tallied.all)) in
    record {
      history = history;
      inbox = inbox;
      stands = stands;
      holds = holds;
      all = prefix_whole (payloads_of (applied inbox)) (payloads history.made) kept.prefix
          (length-map (applied inbox) (λ (m : Numbered). m.payload) ∙ (count ∙ sym (length-map history.made (λ (e : Entry). e.payload))));
      numbered = kept.counted ∙ ap (λ (n : ℕ). counts_from 1 n) count;
      whole = kept.whole;
    }

pub outward_arrived : (client server : Flow) (j k : Journals) → KeepsSession client server j k → CountsAll client j k → client ≡ flows.Recoverable → HasArrived j k
outward_arrived client server j k s counts is = arrived client j k s.history s.inbox_a s.stands s.holds_a s.outward counts is

pub homeward_arrived : (client server : Flow) (j k : Journals) → KeepsSession client server j k → CountsAll server k j → server ≡ flows.Recoverable → HasArrived k j
homeward_arrived client server j k s counts is = arrived server k j s.history_a s.inbox s.stands_a s.holds s.homeward counts is

-- the numbers that an answer tells
initiators : Result Rehearsal RehearseFault → ℕ
initiators (Ok r) = 0
initiators (Err (faults.Undrained m n)) = m
initiators (Err faults.Memory) = 0

acceptors : Result Rehearsal RehearseFault → ℕ
acceptors (Ok r) = 0
acceptors (Err (faults.Undrained m n)) = n
acceptors (Err faults.Memory) = 0

abbrev pub told : ℕ → ℕ → Result Rehearsal RehearseFault
told m n = Err (faults.Undrained m n)

pub stopped : (client server : Flow) (j k : Journals) (a b m n : ℕ) → KeepsSession client server j k → a ≡ inboxes.next_of j.inbox → b ≡ inboxes.next_of k.inbox
    → told a b ≡ told m n → StoppedAt client server m n
unfolding initiators acceptors
stopped client server j k a b m n s first second e = record { initiator = j; acceptor = k; keeps = s; next = sym first ∙ ap initiators e; next_a = sym second ∙ ap acceptors e }
