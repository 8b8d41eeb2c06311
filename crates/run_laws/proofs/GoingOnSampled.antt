-- The sample of runs that go on from what both journals held, computed.
use Rattle.std.proofs.Common.{◌≡◌, inl, inr, ℕ, ◌+◌, ◌≤◌, ◌^◌, List, [], ◌∷◌, refl, arith}
use Rattle.session_model.specs.Journal.{History}
use Rattle.fixp_shake.specs.declared.config.Role.TheVariants.{Initiator, Acceptor}
use Rattle.jr_dated.specs.declared.journal.Journal.{Ghosts}
use Rattle.jr_boxes.specs.Outboxes.{records_of_history}
use Rattle.jr_kept.specs.declared.inbox.Inbox.{Inbox}
use Rattle.jr_kept.specs.Inbox.{HoldsBox}
use Rattle.cmd_session.specs.Journals.{IsJournal}
use Rattle.run_laws.specs.Several.{IsAt}
use Rattle.run_laws.specs.Linked.{paired, no_more}
use Rattle.run_laws.specs.GoingOn.{KeptBoth, IsOutboxOf, IsInboxOf}
use Rattle.run_laws.specs.Samples.{nothing, with_one, journal_of, settled, memory, config_text}
use Rattle.run_laws.specs.GoingOnSamples.{left_with, looked_at, GoingOnSample}
use Rattle.run_laws.proofs.Sampled.{is_application, journal_nothing, journal_one, from_one, ran_i, ran_a}
use Rattle.run_laws.proofs.Spelled.{spelled_initiator, spelled_acceptor}

-- a disk that was settled holds its journal, and leaves it alone
held_at : (h : History) → IsJournal (journal_of h) (records_of_history h) → IsAt memory (IsOutboxOf (left_with h)) (settled h)
held_at h j = record { tells = j; leaves = λ content k. from_one (IsOutboxOf (left_with h)) (journal_of h) content j k }

empty_at : (h : History) → IsAt memory (IsInboxOf (left_with h)) (settled nothing)
empty_at h = record { tells = journal_nothing; leaves = λ content k. from_one (IsInboxOf (left_with h)) (journal_of nothing) content journal_nothing k }

still_at : (h : History) → IsAt memory (memory.may_leave (settled h)) (settled h)
still_at h = record { tells = inl refl; leaves = λ content k. k }

looked : (text : List ℕ) (h : History) → KeptBoth memory (looked_at text h)
looked text h = record {
  outbox = inl (record { tells = refl; leaves = λ content left. left });
  inbox = inl (record { tells = refl; leaves = λ content left. left });
  links = refl;
}

pub going_on_sample : {J : Type 0} {G : Ghosts J} (box : Inbox J G) → GoingOnSample box
going_on_sample box held = (
  record {
    awaits = omega arith;
    outbox = journal_of with_one;
    inbox = journal_of nothing;
    over = (
      held_at with_one journal_one,
      empty_at with_one,
      inr (looked config_text with_one),
      (still_at with_one, still_at nothing, inl (ran_i box held config_text spelled_initiator).over.3.2, (inl refl, inl refl)),
    );
    outbox_is = journal_one;
    inbox_is = journal_nothing;
    payloads = (is_application, tt);
  },
  record {
    awaits = omega arith;
    outbox = journal_of nothing;
    inbox = journal_of nothing;
    over = (
      held_at nothing journal_nothing,
      empty_at nothing,
      inr (looked config_text nothing),
      (still_at nothing, still_at nothing, inl (ran_a box held config_text spelled_acceptor).over.3.2, (inl refl, inl refl)),
    );
    outbox_is = journal_nothing;
    inbox_is = journal_nothing;
    payloads = tt;
  },
  paired ([], refl) (0 ∷ [], refl) no_more,
)
