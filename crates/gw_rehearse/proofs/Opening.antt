-- What stops leave of a disk, and what is opened on it.
use Rattle.std.proofs.Common.{◌<◌, ◌^◌, arith, ◌≡◌, ◌+◌, ℕ, List, [], ◌∷◌, ◌++◌, length, map, Option, Some, None, Result, refl, sym, ap, subst, ◌∙◌, append-nil}
use Rattle.std.proofs.lemmas.Bool.{and_parts, eqb-true, leb-true, false≢true}
use Rattle.std.specs.Prelude.{IsTrue, IsSomeAnd, IfOk, IfSome, ◌==◌}
use Rattle.std.proofs.Math.Logic.{∥∥₁_map}
use mathlib.Core.List.{IsPrefix}
use Rattle.session_model.specs.Journal.{History, OutboxRecord}
use Rattle.session_model.specs.Inbox.{InboxRecord}
use Rattle.session_model.specs.Lives.{IsImage}
use Rattle.gw_fakes.specs.Disks.{DiskState, is_left, none_pending, fused, stopped}
use Rattle.gw_fakes.specs.MemDisks.{state_of}
use Rattle.gw_fakes.specs.declared.disk.MemDisk.{MemDisk}
use Rattle.gw_fakes.specs.declared.disk.Pick.{Pick}
use Rattle.jr_record.specs.declared.record.Record.{Record}
use Rattle.jr_boxes.specs.Outboxes.{outbox_of, record_of, records_of_history}
use Rattle.jr_boxes.specs.Inboxes.{records_of_inbox}
use Rattle.jr_dated.specs.declared.journal.Journal.{Ghosts}
use Rattle.jr_dated.specs.Dated.{Dated, undated}
use Rattle.jr_dated.specs.Images.{IsJournal}
use Rattle.jr_dated.specs.Journals.{Unchanged}
use Rattle.jr_dated.proofs.Verdicts.{at_most_one_verdict}
use Rattle.jr_kept.specs.declared.outbox.Outbox.{Outbox}
use Rattle.jr_kept.specs.Outbox as outboxes
use Rattle.jr_kept.specs.declared.inbox.Inbox.{Inbox}
use Rattle.jr_kept.specs.Inbox as inboxes
use Rattle.fixp_msgs.specs.declared.flow.Flow.{Flow}
use Rattle.gate_senders.specs.Gate.{opening_of}
use Rattle.gw_rehearse.specs.declared.end.DrivenEnd.{DrivenEnd}
use Rattle.gw_rehearse.specs.declared.disks.Disks.{Disks}
use Rattle.turn_laws.specs.Legs.{TurnedLeg}
use Rattle.two_ends.specs.Driving.{Beginning}
use Rattle.gw_rehearse.specs.Driven.{BeginsOn, StandsBehind, beginning_on}
use Rattle.gw_rehearse.specs.Stopped.{BeginsOnLeft, DisksLeaveNoMore, OutboxIsLeft, InboxIsLeft, LeavesImages, LeavesNoMore, IsLeft}

-- what may be left of a disk
abbrev pub may_leave : MemDisk → List ℕ → Type 0
may_leave disk content = IsTrue (is_left (state_of disk).synced (state_of disk).pending content)

-- a disk that leaves nothing but journals without records
pub none_leaves : (disk : MemDisk) → ((content : List ℕ) → may_leave disk content → IsJournal content []) → LeavesImages disk [] []
none_leaves disk all None left = absurd (left.2 [] (all left.0 left.1))
none_leaves disk all (Some h) left = subst (λ (ds : List Dated). IsImage [] [] ds) (at_most_one_verdict.one_list left.0 [] h (all left.0 left.1) left.2) (record { kept = []; beginning = ([], refl); holds = refl })

-- one that leaves no content that another would not leave
pub leaves_within : (before after : MemDisk) → ((content : List ℕ) → may_leave after content → may_leave before content) → LeavesNoMore before after
leaves_within before after within closing refused k None left = k None (left.0, within left.0 left.1, left.2)
leaves_within before after within closing refused k (Some h) left = k (Some h) (left.0, within left.0 left.1, left.2)

pub leaves_self : (disk : MemDisk) → LeavesNoMore disk disk
leaves_self disk = leaves_within disk disk (λ content left. left)

pub leaves_on : (first second third : MemDisk) → LeavesNoMore first second → LeavesNoMore second third → LeavesNoMore first third
leaves_on first second third a b closing refused k = b closing refused (a closing refused k)

-- what is left where no write is pending is what was synced
only_synced : (synced image : List ℕ) → IsTrue (is_left synced (none_pending (length synced)) image) → image ≡ synced
only_synced [] [] left = refl
only_synced [] (b ∷ bs) left = absurd (omega (arith, leb-true _ _ left))
only_synced (s ∷ ss) [] left = absurd (false≢true left)
only_synced (s ∷ ss) (b ∷ bs) left =
    let parts = and_parts (b == s) (is_left ss (none_pending (length ss)) bs) left in
    ap (λ x. x ∷ bs) (eqb-true b s parts.0) ∙ ap (λ xs. s ∷ xs) (only_synced ss bs parts.1)

-- a disk that was stopped leaves what the stop left, and one with a fuse what it would have left without
pub leaves_stopped : (before after : MemDisk) (pick : Pick) → state_of after ≡ stopped pick (state_of before) → may_leave before (state_of after).content → LeavesNoMore before after
leaves_stopped before after pick is left = leaves_within before after (λ content may.
    let still : content ≡ (stopped pick (state_of before)).synced = only_synced _ content (subst (λ (s : DiskState). IsTrue (is_left s.synced s.pending content)) is may) in
    subst (may_leave before) (sym (still ∙ sym (ap (λ (s : DiskState). s.content) is))) left)

pub leaves_fused : (before after : MemDisk) (calls : ℕ) → state_of after ≡ fused calls (state_of before) → LeavesNoMore before after
leaves_fused before after calls is = leaves_within before after (λ content may. subst (λ (s : DiskState). IsTrue (is_left s.synced s.pending content)) is may)

pub disks_on : (first second third : Disks) → DisksLeaveNoMore first second → DisksLeaveNoMore second third → DisksLeaveNoMore first third
disks_on first second third a b = record {
  outbox = leaves_on first.outbox second.outbox third.outbox a.outbox b.outbox;
  inbox = leaves_on first.inbox second.inbox third.inbox a.inbox b.inbox;
}

-- a journal that a left content has is one of the images
pub is_image : (disk : MemDisk) (content : List ℕ) (closing refused h : List Dated) → may_leave disk content → LeavesImages disk closing refused → IsJournal content h → IsImage closing refused h
is_image disk content closing refused h left k is = k (Some h) (content, left, is)

-- a disk that leaves but one list, which another may leave, leaves no more
pub leaves_one : (before after : MemDisk) (content : List ℕ) (h : List Dated) → may_leave before content → IsJournal content h → LeavesImages after h [] → LeavesNoMore before after
leaves_one before after content h left is one closing refused k image leaves = by_image image (one image leaves)
  where
    by_image : (image : Option (List Dated)) → IsSomeAnd image (IsImage h []) → IsSomeAnd image (IsImage closing refused)
    by_image None none = none
    by_image (Some x) i = subst (λ (ds : List Dated). IsImage closing refused ds) (sym (i.holds ∙ (ap (λ (ds : List Dated). h ++ ds) (nothing i.kept i.beginning) ∙ append-nil h))) (is_image before content closing refused h left k is)
      where
        nothing : (kept : List Dated) → IsPrefix kept [] → kept ≡ []
        nothing [] p = refl
        nothing (d ∷ ds) p = absurd (cc p.1)

module _ {J : Type 0} {G : Ghosts J} where
  -- what an outbox stands for, of whose journal each list is an image
  pub outbox_left : (journal : J) (box : Outbox J G) (closing refused : List Dated) → Unchanged G.stands G.leaves journal (outboxes.journal_of box)
      → ((ds : List Dated) → G.stands journal ds → IsImage closing refused ds) → (h : History) → outboxes.StandsFor box h → IsLeft closing refused (records_of_history h)
  outbox_left journal box closing refused same each h s = record { dated = s.dated; bare = s.bare; image = each s.dated ((same.records s.dated).1 s.journal) }

  pub inbox_left : (journal : J) (box : Inbox J G) (closing refused : List Dated) → Unchanged G.stands G.leaves journal (inboxes.journal_of box)
      → ((ds : List Dated) → G.stands journal ds → IsImage closing refused ds) → (i : List InboxRecord) → inboxes.StandsFor box i → IsLeft closing refused (records_of_inbox i)
  inbox_left journal box closing refused same each i s = record { dated = s.dated; bare = s.bare; image = each s.dated ((same.records s.dated).1 s.journal) }

-- of a disk that leaves nothing there are no records
none_left : (records : List Record) → IsLeft [] [] records → records ≡ []
none_left records l = sym l.bare ∙ ap undated (l.image.holds ∙ nothing l.image.kept l.image.beginning)
  where
    nothing : (kept : List Dated) → IsPrefix kept [] → kept ≡ []
    nothing [] p = refl
    nothing (d ∷ ds) p = absurd (cc p.1)

pub none_made : (h : History) → IsLeft [] [] (records_of_history h) → outbox_of h ≡ []
none_made h l = empty (outbox_of h) (none_left (records_of_history h) l)
  where
    empty : (rs : List _) → map record_of rs ≡ [] → rs ≡ []
    empty [] e = refl
    empty (r ∷ rs) e = absurd (cc e)

pub none_added : (i : List InboxRecord) → IsLeft [] [] (records_of_inbox i) → i ≡ []
none_added i l = empty i (none_left (records_of_inbox i) l)
  where
    empty : (rs : List InboxRecord) → records_of_inbox rs ≡ [] → rs ≡ []
    empty [] e = refl
    empty (r ∷ rs) e = absurd (cc e)

-- a life over disks that leave nothing begins on empty journals
pub begins_empty : (own peer : Flow) (disks : Disks) (e : DrivenEnd) → LeavesImages disks.outbox [] [] → LeavesImages disks.inbox [] [] → BeginsOnLeft own peer disks e → BeginsOn own peer [] [] e
begins_empty own peer disks e outbox inbox n =
    subst (λ (rs : List OutboxRecord). BeginsOn own peer rs [] e) (none_made (opening_of e.gate).history (n.outbox_left [] [] outbox))
    (subst (λ (i : List InboxRecord). BeginsOn own peer (outbox_of (opening_of e.gate).history) i e) (none_added n.inbox (n.inbox_left [] [] inbox)) n.begins)

-- a life over boxes that were opened on disks begins on what is left of those
pub begins_on_left : {J : Type 0} {G : Ghosts J} (own peer : Flow) (disks : Disks) (box : Outbox J G) (ibox : Inbox J G) (e : DrivenEnd) → outboxes.front_of box < 2 ^ 40 → OutboxIsLeft disks.outbox box → InboxIsLeft disks.inbox ibox
    → ((i : List InboxRecord) → inboxes.HoldsBox ibox i [] → BeginsOn own peer (outbox_of (opening_of e.gate).history) i e) → outboxes.StandsFor box (opening_of e.gate).history
    → ((i : List InboxRecord) × inboxes.HoldsBox ibox i []) → BeginsOnLeft own peer disks e
begins_on_left own peer disks box ibox e few left left_in begins s k =
    let h : inboxes.HoldsBox ibox k.0 [] = k.1 in
    record {
      inbox = k.0;
      begins = begins k.0 h;
      history = s.outbox;
      few = omega (arith, s.tallied.all, few);
      outbox_left = λ closing refused leaves. left closing refused leaves (opening_of e.gate).history s;
      inbox_left = λ closing refused leaves. left_in closing refused leaves k.0 (record { dated = h.dated; bare = h.bare; journal = h.journal.stands_for; inbox = h.inbox; noticed = h.noticed });
    }

-- it begins on what is left of disks that may leave more
pub begins_more : (own peer : Flow) (before after : Disks) (e : DrivenEnd) → DisksLeaveNoMore before after → BeginsOnLeft own peer after e → BeginsOnLeft own peer before e
begins_more own peer before after e more n = record {
  inbox = n.inbox;
  begins = n.begins;
  history = n.history;
  few = n.few;
  outbox_left = λ closing refused leaves. n.outbox_left closing refused (more.outbox closing refused leaves);
  inbox_left = λ closing refused leaves. n.inbox_left closing refused (more.inbox closing refused leaves);
}

pub begins_as : {E : Type 0} (own peer own' peer' : Flow) (disks : Disks) (r : Result DrivenEnd E) → own ≡ own' → peer ≡ peer' → IfOk r (λ e. ∥ BeginsOnLeft own peer disks e ∥₁) → IfOk r (λ e. ∥ BeginsOnLeft own' peer' disks e ∥₁)
begins_as own peer own' peer' disks r is is_peer n =
    subst (λ (f : Flow). IfOk r (λ e. ∥ BeginsOnLeft f peer' disks e ∥₁)) is (subst (λ (f : Flow). IfOk r (λ e. ∥ BeginsOnLeft own f disks e ∥₁)) is_peer n)

-- an end beside something else, if one was opened
pub begins_if : {T : Type 0} (own peer : Flow) (before after : Disks) (o : Option (DrivenEnd × T)) → DisksLeaveNoMore before after → IfSome o (λ r. ∥ BeginsOnLeft own peer after r.0 ∥₁) → IfSome o (λ r. ∥ BeginsOnLeft own peer before r.0 ∥₁)
begins_if own peer before after None more n = tt
begins_if own peer before after (Some r) more n = ∥∥₁_map n (λ b. begins_more own peer before after r.0 more b)

-- a life that begins as those who answer have taken their place
pub begun_as : (own peer own' peer' : Flow) (outbox : List OutboxRecord) (inbox : List InboxRecord) (e e' : DrivenEnd) → own ≡ own' → peer ≡ peer' → ((b : Beginning) (legs : List TurnedLeg) → StandsBehind b legs e → StandsBehind b legs e')
    → ∥ BeginsOn own peer outbox inbox e ∥₁ → ∥ BeginsOn own' peer' outbox inbox e' ∥₁
begun_as own peer own' peer' outbox inbox e e' is is_peer on n =
    subst (λ (f : Flow). ∥ BeginsOn f peer' outbox inbox e' ∥₁) is (subst (λ (f : Flow). ∥ BeginsOn own f outbox inbox e' ∥₁) is_peer
    (∥∥₁_map n (λ b. record { machine = b.machine; began = b.began; stands = on (beginning_on b.machine outbox inbox) [] b.stands })))
