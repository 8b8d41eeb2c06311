-- Whatever records a stop leaves of the disks of an end are those of a history and of a list.
use Rattle.std.proofs.Common.{◌≡◌, inl, inr, ℕ, Bool, true, false, List, [], ◌∷◌, ◌++◌, map, Some, refl, sym, ap, subst, ◌∙◌, append_assoc}
use Rattle.std.specs.Prelude.{option_to_list}
use Rattle.std.proofs.lemmas.List.{map-append}
use mathlib.Core.List.{IsPrefix}
use Rattle.session_model.specs.Journal.{Entry, OutboxRecord, entry, finish, entries, History, history_of, InOrder}
use Rattle.session_model.specs.Inbox.{InboxRecord}
use Rattle.session_model.specs.Lives.{IsImage}
use Rattle.session_model.proofs.Journals.{prefix_entries}
use Rattle.fixp_shake.specs.declared.config.Role.{Role}
use Rattle.jr_dated.specs.declared.journal.Journal.{Ghosts}
use Rattle.jr_record.specs.declared.record.Record.{Record}
use Rattle.cmd_session.specs.Journals.{Leaves}
use Rattle.cmd_session.proofs.Verdicts.{at_most_one_verdict}
use Rattle.jr_boxes.specs.Outboxes.{record_of, mark_of, outbox_of, records_of_history}
use Rattle.jr_boxes.specs.Inboxes as in_boxes
use Rattle.jr_boxes.specs.Inboxes.{records_of_inbox}
use Rattle.conn_serve.specs.Connections.{all_of, adds_of, refused_of_all}
use Rattle.life_laws.proofs.Outboxes.{entries-outbox_of}
use Rattle.cmd_session.specs.Outsides.{Sees}
use Rattle.cmd_session.specs.declared.outside.SessionOutside.{SessionOutside}
use Rattle.cmd_base.specs.declared.status.Status.{Status}
use Rattle.cmd_feed.specs.Outsides.{FeedSees}
use Rattle.fixp_shake.specs.declared.config.EndConfig.{EndConfig}
use Rattle.life_laws.specs.Plans.{Senders}
use Rattle.cmd_session.specs.Inputs.{end_of}
use Rattle.cmd_session.specs.Lived.{HasLivedOver}
use Rattle.run_laws.specs.Several.{Run, IsEmptyJournal, IsAt, RunsOver, IsRun}
use Rattle.run_laws.specs.Holding.{AreBoxes, BoxesAreLeft}
use Rattle.cmd_session.proofs.Histories.{out_tells}
use Rattle.run_laws.proofs.Telling.{first_of_images, in_tells}
use Rattle.run_laws.proofs.Ordered.{order_of_first}
use Rattle.run_laws.proofs.Merely.{image_left}
use Rattle.run_laws.proofs.Chaining.{kept_was}
use Rattle.run_laws.proofs.Fed.{Did, run_did}

-- ---- beginnings of the records of a history are those of one

first_of_records : (es : List Entry) (b : Bool) (rs more : List OutboxRecord) → rs ++ more ≡ map (λ (e : Entry). entry e) es ++ mark_of b → rs ≡ outbox_of (history_of rs)
first_of_records es b [] more e = refl
first_of_records [] false (x ∷ rs) more e = absurd cc
first_of_records [] true (entry d ∷ rs) more e = absurd cc
first_of_records [] true (finish ∷ []) more e = refl
first_of_records [] true (finish ∷ y ∷ rs) more e = absurd cc
first_of_records (d ∷ es) b (entry c ∷ rs) more e =
    let tails : rs ++ more ≡ map (λ (e : Entry). entry e) es ++ mark_of b = cc in
    ap (λ (xs : List OutboxRecord). entry c ∷ xs) (first_of_records es b rs more tails)
first_of_records (d ∷ es) b (finish ∷ rs) more e = absurd cc

abbrev IsHistory : List Record → Type 0
IsHistory records = (h : History) × (records ≡ records_of_history h) × InOrder h.made

abbrev IsList : List Record → Type 0
IsList records = (i : List InboxRecord) × (records ≡ records_of_inbox i)

-- an image of records of a list is one, and so is one of records that a history goes on with
image_is : {A : Type 0} (f : A → Record) → ((x y : A) → f x ≡ f y → x ≡ y) → (closing refused : List A) (records : List Record) → IsImage (map f closing) (map f refused) records → (rs : List A) × IsPrefix rs (closing ++ refused) × (records ≡ map f rs)
image_is f tells closing refused records g =
    let r = first_of_images f tells g.kept refused g.beginning in (
      closing ++ r.0,
      (r.1.0, append_assoc closing r.0 r.1.0 ∙ ap (λ rs. closing ++ rs) r.1.1),
      g.holds ∙ (ap (λ rs. map f closing ++ rs) (sym r.2) ∙ sym (map-append f closing r.0)),
    )

history_left : (closing whole : History) (refused : List OutboxRecord) (records : List Record) → outbox_of closing ++ refused ≡ outbox_of whole → InOrder whole.made
    → IsImage (records_of_history closing) (map record_of refused) records → IsHistory records
history_left closing whole refused records goes_on order g =
    let r = image_is record_of out_tells (outbox_of closing) refused records g in
    let within : r.0 ++ r.1.0 ≡ outbox_of whole = r.1.1 ∙ goes_on in (
      history_of r.0,
      r.2 ∙ ap (λ (rs : List OutboxRecord). map record_of rs) (first_of_records whole.made whole.finished r.0 r.1.0 within),
      order_of_first (entries r.0) whole.made (subst (λ (es : List Entry). IsPrefix (entries r.0) es) (entries-outbox_of whole) (prefix_entries r.0 (outbox_of whole) (r.1.0, within))) order,
    )

list_left : (closing refused : List InboxRecord) (records : List Record) → IsImage (records_of_inbox closing) (records_of_inbox refused) records → IsList records
list_left closing refused records g = let r = image_is in_boxes.record_of in_tells closing refused records g in (r.0, r.2)

-- ---- run by run

abbrev AllHistories : (List ℕ → Type 0) → Type 0
AllHistories contents = (records : List Record) → Leaves contents (Some records) → IsHistory records

abbrev AllLists : (List ℕ → Type 0) → Type 0
AllLists contents = (records : List Record) → Leaves contents (Some records) → IsList records

module _ {S K D N C J : Type 0} (G : Ghosts J) (sees : Sees S K D N C) (role : Role) (before after : SessionOutside S K D N C) (outboxes inboxes : List ℕ → Type 0)
    (out_at : IsAt sees outboxes before.out_disk) (in_at : IsAt sees inboxes before.in_disk) (out_all : AllHistories outboxes) (in_all : AllLists inboxes) where
  lived_boxes : (config : EndConfig) (senders : Senders) (begun : K) (answer : Status) → HasLivedOver G sees config senders (record before { out = begun }) after answer
      → AllHistories (sees.may_leave after.out_disk) × AllLists (sees.may_leave after.in_disk)
  lived_boxes config senders begun answer lived =
      let v = lived.over in (
        λ records left. history_left v.closing v.whole v.lost records v.goes_on v.in_order (image_left (sees.may_leave after.out_disk) (records_of_history v.closing) (map record_of v.lost) records v.out_left left),
        λ records left. list_left (v.inbox ++ adds_of (all_of v.served.life.ended v.served.life.given_up)) (refused_of_all (option_to_list v.served.life.given_up)) records (v.in_left (Some records) left),
      )

  both_boxes : Did G sees role before after → AllHistories (sees.may_leave after.out_disk) × AllLists (sees.may_leave after.in_disk)
  both_boxes (inl kept) = (
    λ records left. out_all records (kept_was sees outboxes before.out_disk after.out_disk records out_at kept.outbox left),
    λ records left. in_all records (kept_was sees inboxes before.in_disk after.in_disk records in_at kept.inbox left),
  )
  both_boxes (inr by) = lived_boxes (end_of role by.configuration.link) by.senders by.begun by.answer by.lived

all_boxes : {S I K A D N C J : Type 0} (G : Ghosts J) (sees : FeedSees S I K A D N C) (role : Role) (runs : List (Run S K D N C)) (outboxes inboxes : List ℕ → Type 0) (outbox inbox : List ℕ) → AllHistories outboxes → AllLists inboxes
    → RunsOver sees.session (IsRun G sees role) runs outboxes inboxes outbox inbox → AreBoxes outbox inbox
all_boxes G sees role [] outboxes inboxes outbox inbox out_all in_all over = record {
  history = λ records j. out_all records (outbox, over.0, j);
  list = λ records j. in_all records (inbox, over.1, j);
}
all_boxes G sees role (r ∷ later) outboxes inboxes outbox inbox out_all in_all over =
    let both = both_boxes G sees.session role r.before r.after outboxes inboxes over.0 over.1 out_all in_all (run_did G sees role r over.2) in
    all_boxes G sees role later (sees.session.may_leave r.after.out_disk) (sees.session.may_leave r.after.in_disk) outbox inbox both.0 both.1 over.3

pub boxes_are_left : {S I K A D N C J : Type 0} (G : Ghosts J) (sees : FeedSees S I K A D N C) → BoxesAreLeft G sees
boxes_are_left G sees role runs outbox inbox over = all_boxes G sees role runs IsEmptyJournal IsEmptyJournal outbox inbox
    (λ records left. (record { made = []; finished = false }, at_most_one_verdict.one_list left.0 records [] left.2 left.1, λ s. refl))
    (λ records left. ([], at_most_one_verdict.one_list left.0 records [] left.2 left.1)) over
