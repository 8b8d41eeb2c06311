-- A life that is over, and the one that begins on what a stop left of its disks.
use Rattle.std.proofs.Common.{◌≡◌, ◌<◌, ◌^◌, ℕ, true, false, Bool, List, [], ◌∷◌, ◌++◌, length, map, take, Option, Some, None, refl, sym, ap, subst, ◌∙◌, append-nil, true≢false}
use Rattle.std.specs.Prelude.{IfSome}
use Rattle.std.proofs.Math.Logic.{∥∥₁_map, ∥∥₁_map₂, ∥∥₁_elim, ∥∥₁_prop}
use Rattle.std.proofs.lemmas.List.{map-append}
use Rattle.std.specs.List.{AllByRecursion}
use Rattle.session_model.specs.Journal.{Entry, OutboxRecord, History, BeginsHistory, entry, entries, InOrder}
use Rattle.session_model.specs.Inbox.{InboxRecord}
use Rattle.session_model.specs.Lives.{IsImage}
use Rattle.session_model.proofs.Lists.{prefix_trans, prefix_take}
use Rattle.fixp_msgs.specs.Payload.{IsApplication}
use Rattle.fixp_msgs.specs.declared.flow.Flow.{Flow}
use Rattle.jr_record.specs.declared.record.Record.{Record}
use Rattle.jr_boxes.specs.Outboxes.{mark_of, outbox_of, record_of, records_of_history}
use Rattle.jr_boxes.specs.Inboxes.{records_of_inbox}
use Rattle.jr_boxes.specs.Inboxes as inbound
use Rattle.jr_boxes.proofs.Settling.{same_records}
use Rattle.jr_dated.specs.Dated.{Dated, undated}
use Rattle.jr_segments.specs.Journal.{disk_of}
use Rattle.jr_kept.specs.Inbox as inboxes
use Rattle.jr_kept.specs.Outbox as outboxes
use Rattle.gate_turn.specs.Places.{known}
use Rattle.gate_turn.proofs.Histories.{begins_on}
use Rattle.gate_senders.specs.Gate.{opening_of}
use Rattle.turn_laws.specs.Standing.{Has}
use Rattle.turn_laws.specs.Legs.{TurnedLeg}
use Rattle.two_ends.specs.Driving.{Beginning, Awaits}
use Rattle.two_ends.specs.Stories.{lived, OutboxGoesOn}
use Rattle.gw_rehearse.specs.declared.end.DrivenEnd.{DrivenEnd}
use Rattle.gw_rehearse.specs.declared.journals.Journals.{Journals}
use Rattle.gw_rehearse.specs.declared.disks.Disks.{Disks}
use Rattle.gw_rehearse.specs.Driven.{IsEnded, ClosedOn, StandsBehind, beginning_on}
use Rattle.gw_rehearse.specs.Stopped.{LeavesNoMore, IsLeft, BeginsOnLeft}
use Rattle.gw_rehearse.specs.Together.{GoesOnBehind, Lives, NextLife}
use Rattle.gw_rehearse.proofs.Opening.{leaves_self}
use Rattle.gw_rehearse.proofs.Outboxes.{entries-outbox_of, outbox_goes_on}

-- ---- records of a history, and more behind them

same_entry : (d e : Entry) → d.sender ≡ e.sender → d.own_number ≡ e.own_number → d.payload ≡ e.payload → d ≡ e
same_entry d e senders numbers payloads =
    ap (λ (s : ℕ). record { sender = s; own_number = d.own_number; payload = d.payload }) senders
    ∙ (ap (λ (n : ℕ). record { sender = e.sender; own_number = n; payload = d.payload }) numbers
    ∙ ap (λ (p : List ℕ). record { sender = e.sender; own_number = e.own_number; payload = p }) payloads)

abbrev records_with : List Entry → Bool → List Record
records_with es m = map record_of (map (λ (e : Entry). entry e) es ++ mark_of m)

begins_with : (es fs : List Entry) (m n : Bool) (more : List Record) → records_with fs n ≡ records_with es m ++ more → BeginsHistory (record { made = es; finished = m }) (record { made = fs; finished = n })
begins_with [] fs false n more e = record { made = (fs, refl); alone = λ marked. absurd (true≢false (sym marked)) }
begins_with [] [] true true more e = record { made = ([], refl); alone = λ _. refl }
begins_with [] [] true false more e = absurd (cc e)
begins_with [] (f ∷ fs) true n more e = absurd (cc e)
begins_with (x ∷ es) [] m true more e = absurd (cc e)
begins_with (x ∷ es) [] m false more e = absurd (cc e)
begins_with (x ∷ es) (f ∷ fs) m n more e =
    let senders : x.sender ≡ f.sender = cc in
    let numbers : x.own_number ≡ f.own_number = cc in
    let payloads : x.payload ≡ f.payload = cc in
    let same : x ≡ f = same_entry x f senders numbers payloads in
    let tails : records_with fs n ≡ records_with es m ++ more = cc in
    let rest = begins_with es fs m n more tails in
    record {
      made = (rest.made.0, ap (λ (y : Entry). y ∷ (es ++ rest.made.0)) same ∙ ap (λ (ys : List Entry). f ∷ ys) rest.made.1);
      alone = λ marked. ap (λ (h : History). record { made = x ∷ h.made; finished = h.finished }) (rest.alone marked) ∙ ap (λ (y : Entry). record { made = y ∷ fs; finished = n }) same;
    }

history_begins : (h k : History) (more : List Record) → records_of_history k ≡ records_of_history h ++ more → BeginsHistory h k
history_begins h k more e = begins_with h.made k.made h.finished k.finished more e

-- ---- an image of a journal, without its moments

undated-append : (ds es : List Dated) → undated (ds ++ es) ≡ undated ds ++ undated es
undated-append ds es = map-append (λ (d : Dated). d.what) ds es

-- the history that a stop left goes on from the one that the outbox held
left_begins : (h k : History) (dated late : List Dated) → undated dated ≡ records_of_history h → IsLeft dated late (records_of_history k) → BeginsHistory h k
left_begins h k dated late bare l = history_begins h k (undated l.image.kept)
    (sym l.bare ∙ (ap undated l.image.holds ∙ (undated-append dated l.image.kept ∙ ap (λ (rs : List Record). rs ++ undated l.image.kept) bare)))

-- the front of a list that another is mapped to
mapped_front : {A B : Type 0} (f : A → B) (xs : List A) (ys zs : List B) → map f xs ≡ ys ++ zs → ys ≡ map f (take (length ys) xs)
mapped_front f xs [] zs e = refl
mapped_front f [] (y ∷ ys) zs e = absurd (cc e)
mapped_front f (x ∷ xs) (y ∷ ys) zs e =
    let heads : f x ≡ y = cc in
    let tails : map f xs ≡ ys ++ zs = cc in
    ap (λ b. b ∷ ys) (sym heads) ∙ ap (λ bs. f x ∷ bs) (mapped_front f xs ys zs tails)

-- the list that a stop left is an image of the one that the inbox held, with what was refused
left_image : (i refused k : List InboxRecord) (dated late : List Dated) → undated dated ≡ records_of_inbox i → undated late ≡ map inbound.record_of refused → IsLeft dated late (records_of_inbox k) → IsImage i refused k
left_image i refused k dated late bare bare_late l =
    let kept : List Record = undated l.image.kept in
    let all : map inbound.record_of refused ≡ kept ++ undated l.image.beginning.0 = sym bare_late ∙ (ap undated (sym l.image.beginning.1) ∙ undated-append l.image.kept l.image.beginning.0) in
    let front : kept ≡ map inbound.record_of (take (length kept) refused) = mapped_front inbound.record_of refused kept (undated l.image.beginning.0) all in
    let is : records_of_inbox k ≡ records_of_inbox (i ++ take (length kept) refused) =
    sym l.bare ∙ (ap undated l.image.holds ∙ (undated-append dated l.image.kept ∙ (ap (λ (rs : List Record). rs ++ kept) bare
    ∙ (ap (λ (rs : List Record). records_of_inbox i ++ rs) front ∙ sym (map-append inbound.record_of i (take (length kept) refused)))))) in
    record { kept = take (length kept) refused; beginning = prefix_take (length kept) refused; holds = same_records k (i ++ take (length kept) refused) is }

-- ---- the next life

has_more : (e : DrivenEnd) (j : Journals) (c : ClosedOn e j) (k : History) → BeginsHistory c.history k → length k.made < 2 ^ 40 → Has (entries (outbox_of k)) (known e.pass).seen
has_more e j c k later few = subst (λ (es : List Entry). Has es (known e.pass).seen) (sym (entries-outbox_of k))
    (record { begins = prefix_trans (known e.pass).seen.made c.history.made k.made c.seen.made later.made; few = few })

next_life : (own peer : Flow) (l : Lives own peer) (legs : List TurnedLeg) (e e' : DrivenEnd) (j : Journals) (disks : Disks) (c : ClosedOn e j) → IsEnded l.begins legs e
    → LeavesNoMore (disk_of (outboxes.journal_of j.outbox)) disks.outbox → LeavesNoMore (disk_of (inboxes.journal_of j.inbox)) disks.inbox
    → outboxes.HoldsBox j.outbox c.history c.refused → BeginsOnLeft own peer disks e' → NextLife own peer l legs e'
next_life own peer l legs e e' j disks c o out_more in_more held n =
    let h : History = (opening_of e'.gate).history in
    let box : inboxes.HoldsBox j.inbox o.inbox o.refused = subst (λ b. inboxes.HoldsBox b o.inbox o.refused) (sym c.inbox) o.holds in
    let out_left = n.outbox_left held.dated held.late (out_more held.dated held.late held.journal.images) in
    let in_left = n.inbox_left box.dated box.late (in_more box.dated box.late box.journal.images) in
    let later : BeginsHistory c.history h = left_begins c.history h held.dated held.late held.bare out_left in
    let is : entries (outbox_of h) ≡ h.made = entries-outbox_of h in
    record {
      lives = record {
        legs = l.legs ++ legs;
        begins = beginning_on n.begins.machine (outbox_of h) n.inbox;
        story = lived {b = l.begins} l.story (record {
          began = l.began;
          came_to = o.inbox;
          refused = o.refused;
          over = o.over (outbox_of h) (has_more e j c h later n.few);
          image = left_image o.inbox o.refused n.inbox box.dated box.late box.bare box.bare_late in_left;
          goes_on = subst (λ (rs : List OutboxRecord). OutboxGoesOn rs (outbox_of h)) (sym o.opens) (outbox_goes_on (opening_of e.gate).history h (begins_on (opening_of e.gate).history c.history h c.opened later));
          payloads = subst (λ (es : List Entry). AllByRecursion (λ (x : Entry). IsApplication x.payload) es) (sym is) n.history.payloads;
          in_order = subst (λ (es : List Entry). InOrder es) (sym is) n.history.in_order;
        });
        began = n.begins.began;
      };
      legs_are = refl;
      stands = n.begins.stands;
    }

pub lives_on : (own peer : Flow) (l : Lives own peer) (legs : List TurnedLeg) (e e' : DrivenEnd) (j : Journals) (disks : Disks) → (c : ClosedOn e j) → IsEnded l.begins legs e
    → LeavesNoMore (disk_of (outboxes.journal_of j.outbox)) disks.outbox → LeavesNoMore (disk_of (inboxes.journal_of j.inbox)) disks.inbox → ∥ BeginsOnLeft own peer disks e' ∥₁ → ∥ NextLife own peer l legs e' ∥₁
lives_on own peer l legs e e' j disks c o out_more in_more begins = ∥∥₁_map₂ c.holds begins (λ held n. next_life own peer l legs e e' j disks c o out_more in_more held n)

-- so goes on an end that was opened on disks that stood as its journals did, beside something else
pub lives_if : {T : Type 0} (own peer : Flow) (e : DrivenEnd) (j : Journals) (disks : Disks) (o : Option (DrivenEnd × T)) → ClosedOn e j → disks.outbox ≡ disk_of (outboxes.journal_of j.outbox)
    → disks.inbox ≡ disk_of (inboxes.journal_of j.inbox) → IfSome o (λ r. ∥ BeginsOnLeft own peer disks r.0 ∥₁) → IfSome o (λ r. GoesOnBehind own peer e r.0)
lives_if own peer e j disks None c out_is in_is n = tt
lives_if own peer e j disks (Some r) c out_is in_is n = record {
  next = λ l legs ended. lives_on own peer l legs e r.0 j disks c ended (subst (λ d. LeavesNoMore d disks.outbox) out_is (leaves_self disks.outbox)) (subst (λ d. LeavesNoMore d disks.inbox) in_is (leaves_self disks.inbox)) n;
}

-- one that stood so goes on as what became of it does, as those who answer took their place
pub goes_resumed : (own peer : Flow) (e mid new : DrivenEnd) → ((b : Beginning) (legs : List TurnedLeg) → StandsBehind b legs mid → StandsBehind b legs new) → GoesOnBehind own peer e mid → GoesOnBehind own peer e new
goes_resumed own peer e mid new on n = record {
  next = λ l legs ended. ∥∥₁_map (n.next l legs ended) (λ x. record { lives = x.lives; legs_are = x.legs_are; stands = on x.lives.begins [] x.stands });
}

-- and where their life ended in that, as the one behind it
pub goes_behind : (own peer : Flow) (e mid over new : DrivenEnd) → ((b : Beginning) (legs : List TurnedLeg) → Awaits b → StandsBehind b legs mid → IsEnded b legs over) → GoesOnBehind own peer e mid → GoesOnBehind own peer over new
    → GoesOnBehind own peer e new
goes_behind own peer e mid over new ends n m = record {
  next = λ l legs ended. ∥∥₁_elim (n.next l legs ended) ∥∥₁_prop (λ x. ∥∥₁_map (m.next x.lives [] (ends x.lives.begins [] x.lives.began.awaits x.stands)) (λ y. record {
    lives = y.lives;
    legs_are = y.legs_are ∙ (append-nil x.lives.legs ∙ x.legs_are);
    stands = y.stands;
  }));
}

-- so where there is one behind it
pub goes_if : {T : Type 0} (own peer : Flow) (e mid over : DrivenEnd) (o : Option (DrivenEnd × T)) → ((b : Beginning) (legs : List TurnedLeg) → Awaits b → StandsBehind b legs mid → IsEnded b legs over) → GoesOnBehind own peer e mid
    → IfSome o (λ r. GoesOnBehind own peer over r.0) → IfSome o (λ r. GoesOnBehind own peer e r.0)
goes_if own peer e mid over None ends n m = tt
goes_if own peer e mid over (Some r) ends n m = goes_behind own peer e mid over r.0 ends n m
