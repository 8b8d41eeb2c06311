-- Whatever a stop leaves of the disks of an end has a list of records.
use Rattle.std.proofs.Common.{inl, inr, ℕ, List, [], ◌∷◌, map, None}
use Rattle.fixp_shake.specs.declared.config.Role.{Role}
use Rattle.jr_dated.specs.declared.journal.Journal.{Ghosts}
use Rattle.cmd_session.specs.Journals.{Leaves}
use Rattle.cmd_session.proofs.Verdicts.{at_most_one_verdict}
use Rattle.jr_boxes.specs.Outboxes.{record_of, records_of_history}
use Rattle.cmd_session.specs.Lived.{IsKept}
use Rattle.cmd_session.specs.Outsides.{Sees}
use Rattle.cmd_session.specs.declared.outside.SessionOutside.{SessionOutside}
use Rattle.cmd_base.specs.declared.status.Status.{Status}
use Rattle.cmd_feed.specs.Outsides.{FeedSees}
use Rattle.fixp_shake.specs.declared.config.EndConfig.{EndConfig}
use Rattle.life_laws.specs.Plans.{Senders}
use Rattle.cmd_session.specs.Inputs.{end_of}
use Rattle.cmd_session.specs.Lived.{HasLivedOver}
use Rattle.run_laws.specs.Several.{Run, IsEmptyJournal, IsAt, RunsOver, IsRun}
use Rattle.run_laws.specs.Holding.{IsSound, NoneIsLost}
use Rattle.run_laws.proofs.Merely.{none_left}
use Rattle.run_laws.proofs.Fed.{Did, run_did}

-- no content of these is without a list
abbrev AllListed : (List ℕ → Type 0) → Type 0
AllListed contents = Leaves contents None → ⊥

module _ {S K D N C : Type 0} (sees : Sees S K D N C) (contents : List ℕ → Type 0) (before after : D) (at : IsAt sees contents before) (all : AllListed contents) where
  kept_listed : IsKept sees.told sees.may_leave before after → AllListed (sees.may_leave after)
  kept_listed (inl fewer) left = all (left.0, at.leaves left.0 (fewer.leaves left.0 left.1), left.2)
  kept_listed (inr k) left = k.left None left

module _ {S K D N C J : Type 0} (G : Ghosts J) (sees : Sees S K D N C) (role : Role) (before after : SessionOutside S K D N C) (outboxes inboxes : List ℕ → Type 0)
    (out_at : IsAt sees outboxes before.out_disk) (in_at : IsAt sees inboxes before.in_disk) (out_all : AllListed outboxes) (in_all : AllListed inboxes) where
  lived_listed : (config : EndConfig) (senders : Senders) (begun : K) (answer : Status) → HasLivedOver G sees config senders (record before { out = begun }) after answer
      → AllListed (sees.may_leave after.out_disk) × AllListed (sees.may_leave after.in_disk)
  lived_listed config senders begun answer lived =
      let v = lived.over in (
        λ left. none_left (sees.may_leave after.out_disk) (records_of_history v.closing) (map record_of v.lost) v.out_left left,
        λ left. v.in_left None left,
      )

  both_listed : Did G sees role before after → AllListed (sees.may_leave after.out_disk) × AllListed (sees.may_leave after.in_disk)
  both_listed (inl kept) = (
    kept_listed sees outboxes before.out_disk after.out_disk out_at out_all kept.outbox,
    kept_listed sees inboxes before.in_disk after.in_disk in_at in_all kept.inbox,
  )
  both_listed (inr by) = lived_listed (end_of role by.configuration.link) by.senders by.begun by.answer by.lived

sound : (contents : List ℕ → Type 0) (content : List ℕ) → AllListed contents → contents content → IsSound content
sound contents content all is = record {
  listed = λ none. all (content, is, none);
  undamaged = λ at damaged. all (content, is, λ records j. at_most_one_verdict.whole content records at j damaged);
  formatted = λ broken. all (content, is, λ records j. at_most_one_verdict.formatted content records j broken);
}

all_sound : {S I K A D N C J : Type 0} (G : Ghosts J) (sees : FeedSees S I K A D N C) (role : Role) (runs : List (Run S K D N C)) (outboxes inboxes : List ℕ → Type 0) (outbox inbox : List ℕ) → AllListed outboxes → AllListed inboxes
    → RunsOver sees.session (IsRun G sees role) runs outboxes inboxes outbox inbox → IsSound outbox × IsSound inbox
all_sound G sees role [] outboxes inboxes outbox inbox out_all in_all over = (sound outboxes outbox out_all over.0, sound inboxes inbox in_all over.1)
all_sound G sees role (r ∷ later) outboxes inboxes outbox inbox out_all in_all over =
    let both = both_listed G sees.session role r.before r.after outboxes inboxes over.0 over.1 out_all in_all (run_did G sees role r over.2) in
    all_sound G sees role later (sees.session.may_leave r.after.out_disk) (sees.session.may_leave r.after.in_disk) outbox inbox both.0 both.1 over.3

empty_listed : AllListed IsEmptyJournal
empty_listed left = left.2 [] left.1

pub none_is_lost : {S I K A D N C J : Type 0} (G : Ghosts J) (sees : FeedSees S I K A D N C) → NoneIsLost G sees
none_is_lost G sees role runs outbox inbox over = all_sound G sees role runs IsEmptyJournal IsEmptyJournal outbox inbox empty_listed empty_listed over
