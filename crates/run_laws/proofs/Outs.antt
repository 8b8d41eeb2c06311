-- OUT over several fed runs.
use Rattle.std.proofs.Common.{◌≡◌, ◌⊎◌, inl, inr, ℕ, Bool, true, false, true≢false, List, [], ◌∷◌, ◌++◌, take, Option, Some, None, refl, sym, ap, subst, ◌∙◌}
use Rattle.std.specs.Prelude.{All, IsSomeAnd, IsTrue, is_some, option_to_list}
use Rattle.std.specs.List.{AllByRecursion}
use Rattle.std.specs.Io.KnownBytes.{Keeps}
use Rattle.std.proofs.lemmas.Option.{same_Some}
use Rattle.std.proofs.lemmas.List.Elements.{All-nil, All-cons, All-head, All-tail}
use mathlib.Core.List.{IsPrefix}
use Rattle.hex.specs.Hex.{IsBytes}
use Rattle.session_model.specs.Inbox.{Numbered, InboxRecord, apply, skip, negotiated, peer_finished, applied}
use Rattle.session_model.specs.Lives.{IsImage}
use Rattle.session_model.proofs.Inboxes.{applied-append}
use Rattle.session_model.proofs.Lists.{prefix_self, prefix_trans}
use Rattle.session_model.proofs.Images.{image_of_none}
use Rattle.fixp_shake.specs.declared.config.Role.{Role}
use Rattle.jr_record.specs.declared.record.Record.{Record}
use Rattle.jr_record.specs.Records.{IsRecord}
use Rattle.jr_dated.specs.Dated.{Dated, IsDated, undated}
use Rattle.jr_dated.specs.declared.journal.Journal.{Ghosts}
use Rattle.jr_boxes.specs.Inboxes as in_boxes
use Rattle.jr_boxes.specs.Inboxes.{records_of_inbox}
use Rattle.cmd_base.specs.declared.status.Status.{Status}
use Rattle.cmd_config.specs.declared.configuration.Configuration.{Configuration}
use Rattle.conn_out.specs.Projections.{Tells, Projects, ProjectsOn}
use Rattle.conn_out.specs.Laws.{IsMessage}
use Rattle.conn_out.proofs.Lines.{no_line}
use Rattle.conn_serve.specs.Connections.{Connection, all_of, adds_of, refused_of_all}
use Rattle.conn_serve.specs.Lines.{lines_from}
use Rattle.conn_serve.specs.Served.{lacks_lines}
use Rattle.cmd_session.specs.Inputs.{IsConfigured, end_of}
use Rattle.cmd_session.specs.Journals.{IsJournal, Leaves}
use Rattle.cmd_session.specs.Lived.{KeepsRecords}
use Rattle.cmd_session.specs.declared.outside.SessionOutside.{SessionOutside}
use Rattle.cmd_session.proofs.Verdicts.{at_most_one_verdict}
use Rattle.cmd_feed.specs.declared.outside.FeedOutside.{FeedOutside}
use Rattle.cmd_feed.specs.Lived.{HasLivedFedOver}
use Rattle.cmd_feed.specs.Outsides.{FeedSees}
use Rattle.cmd_feed.specs.Steps.{messages_in, CarryBytes, WentOn, StillProjects, LivedNone, EndsBehindBoxes, RunsOverBoxes, EndsOverDisks, EndsFed, Steps}
use Rattle.run_laws.specs.Several.{Run, IsEmptyJournal, IsAt, RunsOver, IsFed}
use Rattle.run_laws.specs.FedLives.{FedLife}
use Rattle.run_laws.specs.Outs.{TellsFirst, IsFrontOf, OutsOver, OutTells}
use Rattle.run_laws.proofs.Refusing.{some_of}
use Rattle.run_laws.proofs.Telling.{same_image, same_inbox, in_tells}
use Rattle.run_laws.proofs.Chaining.{told_was, kept_was}
use Rattle.run_laws.proofs.Fed.{FedUnlived, config_kept, desks_kept, boxes_kept, told_text, left_kept, over_before}
use Rattle.run_laws.proofs.News.{all_deliver}
use Rattle.run_laws.proofs.OutLines.{all_left, all_right, all_within, life_tells, life_took, tells_first, front_tells, more_first}

-- ---- the messages of an inbox

same_messages : (i : List InboxRecord) → messages_in i ≡ applied i
same_messages [] = refl
same_messages (apply m ∷ i) = ap (λ (ms : List Numbered). m ∷ ms) (same_messages i)
same_messages (skip r ∷ i) = same_messages i
same_messages (negotiated ∷ i) = same_messages i
same_messages (peer_finished last ∷ i) = same_messages i

abbrev CarriesBytes : Numbered → Type 0
CarriesBytes m = IsBytes m.payload

legal_records : (ds : List Dated) → AllByRecursion IsDated ds → AllByRecursion IsRecord (undated ds)
legal_records [] legal = tt
legal_records (d ∷ ds) legal = (legal.0.0, legal_records ds legal.1)

legal_messages : (i : List InboxRecord) → AllByRecursion IsRecord (records_of_inbox i) → All CarriesBytes (applied i) → All IsMessage (applied i)
legal_messages [] legal bytes = All-nil IsMessage
legal_messages (apply m ∷ i) legal bytes = All-cons IsMessage m (applied i)
    (record { size = legal.0.0.1; short = legal.0.1.1; each = All-head CarriesBytes m (applied i) bytes })
    (legal_messages i legal.1 (All-tail CarriesBytes m (applied i) bytes))
legal_messages (skip r ∷ i) legal bytes = legal_messages i legal.1 bytes
legal_messages (negotiated ∷ i) legal bytes = legal_messages i legal.1 bytes
legal_messages (peer_finished last ∷ i) legal bytes = legal_messages i legal.1 bytes

-- those of a journal are messages of the format
are_messages : (content : List ℕ) (i : List InboxRecord) → IsJournal content (records_of_inbox i) → All CarriesBytes (applied i) → All IsMessage (applied i)
are_messages content i j bytes = legal_messages i (subst (λ (rs : List Record). AllByRecursion IsRecord rs) j.2 (legal_records j.0 j.1.legal)) bytes

applied_within : (i j : List InboxRecord) → IsPrefix i j → IsPrefix (applied i) (applied j)
applied_within i j p = (applied p.0, sym (applied-append i p.0) ∙ ap applied p.1)

-- a text that is told tells of the first of these messages
abbrev TellsSome : Option (List ℕ) → List Numbered → Type 0
TellsSome told ms = IsSomeAnd told (λ content. TellsFirst content ms)

tells_some : (told : Option (List ℕ)) (content : List ℕ) (ms : List Numbered) → told ≡ Some content → TellsFirst content ms → TellsSome told ms
tells_some told content ms is first = subst (λ (o : Option (List ℕ)). TellsSome o ms) (sym is) first

kept_text : (old new : Option (List ℕ)) (text : List ℕ) → old ≡ Some text → Keeps old new → new ≡ Some text
kept_text None new text is k = absurd (cc is)
kept_text (Some xs) None text is k = absurd k
kept_text (Some xs) (Some ys) text is k = ap (λ (zs : List ℕ). Some zs) (k ∙ same_Some xs text is)

-- what WentOn and StillProjects say over an inbox whose journal is told
module _ (inbox : List InboxRecord) (are : All IsMessage (applied inbox)) (told : Option (List ℕ)) (content : List ℕ) (is : told ≡ Some content) (journal : IsJournal content (records_of_inbox inbox)) where
  carry : CarryBytes (messages_in inbox)
  carry = subst CarryBytes (sym (same_messages inbox)) (λ n m within. (are n m within).each)

  went_on : (keeps : Bool) (before after : Option (List ℕ)) → keeps ≡ true → WentOn keeps told before after → TellsSome before (applied inbox) → (text : List ℕ) × (after ≡ Some text) × Tells text (applied inbox)
  went_on keeps before after kept (inl k) t = absurd (true≢false (sym kept ∙ k.0))
  went_on keeps before after kept (inr w) t =
      let old = some_of before (λ text. TellsFirst text (applied inbox)) t in
      let now = some_of after (λ text. Tells text (messages_in inbox))
      (w content is inbox journal carry old.0 old.2.count old.1 (subst (λ (ms : List Numbered). Projects old.0 (take old.2.count ms)) (sym (same_messages inbox)) old.2.projects)) in
      (now.0, now.1, subst (Tells now.0) (same_messages inbox) now.2)

  still_tells : (before after : Option (List ℕ)) → StillProjects told before after → TellsSome before (applied inbox) → TellsSome after (applied inbox)
  still_tells before after w t =
      let old = some_of before (λ text. TellsFirst text (applied inbox)) t in
      let now = some_of after (λ text. ProjectsOn text old.2.count (messages_in inbox))
      (w content is inbox journal carry old.0 old.2.count old.1 (subst (λ (ms : List Numbered). Projects old.0 (take old.2.count ms)) (sym (same_messages inbox)) old.2.projects)) in
      tells_some after now.0 (applied inbox) now.1 (record { count = now.2.count; projects = subst (λ (ms : List Numbered). Projects now.0 (take now.2.count ms)) (same_messages inbox) now.2.projects })

module _ {S I K A D N C J : Type 0} (G : Ghosts J) (sees : FeedSees S I K A D N C) (keeps : sees.keeps ≡ true) (role : Role) (before after : FeedOutside S I K A D N C) (status : Status)
    (tells : (d : D) → IsTrue (is_some (sees.session.told d))) (inboxes : List ℕ → Type 0) (at : IsAt sees.session inboxes before.in_disk)
    (waiting : List InboxRecord) (was : Leaves (sees.session.may_leave after.in_disk) (Some (records_of_inbox waiting))) (are : All IsMessage (applied waiting)) where
  abbrev old : Option (List ℕ)
  old = sees.session.taken before.out

  abbrev new : Option (List ℕ)
  new = sees.session.taken after.out

  -- the inbox that a run finds begins the one that it leaves, and if OUT told of the first messages of the one, it tells of the first of the other
  record Goes : Type 0 where
    found : List InboxRecord
    was_found : Leaves inboxes (Some (records_of_inbox found))
    begins : IsPrefix found waiting
    on : TellsSome old (applied found) → TellsSome new (applied waiting)

  -- no life was lived
  kept : FedUnlived sees before after status → (TellsSome old (applied waiting) → TellsSome new (applied waiting)) → Goes
  kept k on = record {
    found = waiting;
    was_found = kept_was sees.session inboxes before.in_disk after.in_disk (records_of_inbox waiting) at k.inbox was;
    begins = prefix_self waiting;
    on = on;
  }

  same_out : after.out ≡ before.out → TellsSome old (applied waiting) → TellsSome new (applied waiting)
  same_out is t = subst (λ (o : Option (List ℕ)). TellsSome o (applied waiting)) (ap sees.session.taken (sym is)) t

  module _ (senders : ℕ) (c : Configuration) (on : RunsOverBoxes G sees senders (end_of role c.link) before after status) where
    opened_text : (text : List ℕ) × (sees.session.told on.opened ≡ Some text)
    opened_text = told_text (sees.session.told on.opened) (tells on.opened)

    -- what the opened disk of an inbox told, where it was left as it was
    held : KeepsRecords sees.session.told sees.session.may_leave on.opened after.in_disk → IsJournal opened_text.0 (records_of_inbox waiting)
    held k =
        let same : records_of_inbox waiting ≡ k.records =
        image_of_none (λ (rs : List Record). rs ≡ k.records) k.records (records_of_inbox waiting) refl (k.left (Some (records_of_inbox waiting)) was) in
        subst (λ (rs : List Record). IsJournal opened_text.0 rs) (sym same) (k.held opened_text.0 opened_text.1)

    by_none : (begun : K) → WentOn sees.keeps (sees.session.told on.opened) old (sees.session.taken begun)
        → LivedNone sees (record before { in_disk = on.opened; out = begun }) after status → Goes
    by_none begun went none = kept (left_kept G sees role before after status tells senders (end_of role c.link) on none.left none.dialer_is) (λ t.
        let text = went_on waiting are (sees.session.told on.opened) opened_text.0 opened_text.1 (held none.left.inbox) sees.keeps old (sees.session.taken begun) keeps went t in
        tells_some new text.0 (applied waiting) (kept_text (sees.session.taken begun) new text.0 text.1 none.out_kept) (tells_first text.0 (applied waiting) text.2))

  by_life : (l : FedLife G sees role before after status) → WentOn sees.keeps (sees.session.told l.on.opened) old (sees.session.taken l.begun) → Goes
  by_life l went =
      let v = over_before G sees role before after status tells l in
      let k = v.served.life in
      let cs : List Connection = all_of k.ended k.given_up in
      let closing : List InboxRecord = v.inbox ++ adds_of cs in
      let refused : List InboxRecord = refused_of_all (option_to_list k.given_up) in
      let image : IsImage closing refused waiting = same_image in_boxes.record_of in_tells closing refused waiting (v.in_left (Some (records_of_inbox waiting)) was) in
      let left : IsPrefix closing waiting = (image.kept, sym image.holds) in
      let both : applied closing ≡ applied v.inbox ++ applied (adds_of cs) = applied-append v.inbox (adds_of cs) in
      let closed : All IsMessage (applied v.inbox ++ applied (adds_of cs)) =
      subst (All IsMessage) both (all_within IsMessage (applied closing) (applied waiting) (applied_within closing waiting left) are) in
      let opened = told_text (sees.session.told l.on.opened) (tells l.on.opened) in
      record {
        found = v.inbox;
        was_found = told_was sees.session inboxes before.in_disk (records_of_inbox v.inbox) at v.in_opened;
        begins = prefix_trans v.inbox closing waiting (adds_of cs, refl) left;
        on = λ t.
            let text = went_on v.inbox (all_left IsMessage (applied v.inbox) (applied (adds_of cs)) closed) (sees.session.told l.on.opened) opened.0 opened.1 (l.lived.over.in_opened opened.0 opened.1)
            sees.keeps old (sees.session.taken l.begun) keeps went t in
            let lines : List ℕ = lines_from 1 cs in
            let took = life_took (lacks_lines v.connections) (sees.session.taken l.begun) new text.0 lines text.1 k.lines in
            let all : Tells (text.0 ++ lines) (applied v.inbox ++ applied (adds_of cs)) =
            life_tells text.0 (applied v.inbox) 1 cs (all_deliver v.opening k.behind v.seen _ k.mid k.ended k.given_up k.were k.gave_up)
            (all_right IsMessage (applied v.inbox) (applied (adds_of cs)) closed) text.2 in
            let front : TellsFirst (take took.0 (text.0 ++ lines)) (applied closing) =
            front_tells (text.0 ++ lines) (applied closing) took.0 (tells_first (text.0 ++ lines) (applied closing) (subst (Tells (text.0 ++ lines)) (sym both) all)) in
            tells_some new (take took.0 (text.0 ++ lines)) (applied waiting) took.1 (more_first (take took.0 (text.0 ++ lines)) (applied closing) (applied waiting) (applied_within closing waiting left) front);
      }

  module _ (c : Configuration) (spelled : IsConfigured role (sees.session.left before.config) c) where
    by_boxes : (on : RunsOverBoxes G sees c.trade.senders (end_of role c.link) before after status)
        → EndsBehindBoxes G sees c.trade.senders (end_of role c.link) (record before { in_disk = on.opened }) after status → Goes
    by_boxes on (inl out) = kept (left_kept G sees role before after status tells c.trade.senders (end_of role c.link) on out.left out.links.dialer)
        (still_tells waiting are (sees.session.told on.opened) (opened_text c.trade.senders c on).0 (opened_text c.trade.senders c on).1 (held c.trade.senders c on out.left.inbox) old new out.out)
    by_boxes on (inr (inl accepted)) = kept (left_kept G sees role before after status tells c.trade.senders (end_of role c.link) on accepted.left accepted.links.dialer) (λ t.
        let text = went_on waiting are (sees.session.told on.opened) (opened_text c.trade.senders c on).0 (opened_text c.trade.senders c on).1 (held c.trade.senders c on accepted.left.inbox) sees.keeps old new keeps accepted.out t in
        tells_some new text.0 (applied waiting) text.1 (tells_first text.0 (applied waiting) text.2))
    by_boxes on (inr (inr lives)) = by_begun lives.lived
      where
        by_begun : LivedNone sees (record before { in_disk = on.opened; out = lives.begun }) after status
            ⊎ HasLivedFedOver G sees (end_of role c.link) c.trade.senders (record before { in_disk = on.opened; out = lives.begun }) after status → Goes
        by_begun (inl none) = by_none c.trade.senders c on lives.begun lives.out none
        by_begun (inr lived) = by_life (record { configuration = c; spelled = spelled; on = on; begun = lives.begun; lived = lived }) lives.out

    by_disks : EndsOverDisks G sees c.trade.senders (end_of role c.link) before after status → Goes
    by_disks (inl boxes) = kept (boxes_kept sees before after status (end_of role c.link) boxes) (same_out boxes.live.out)
    by_disks (inr on) = by_boxes on on.ended

    by_config : EndsFed G sees role c before after status → Goes
    by_config (inl desks) = kept (desks_kept sees before after status c desks) (same_out desks.kept.behind.behind.live.out)
    by_config (inr on) = by_disks on.1

  goes : Steps G sees role before after status → Goes
  goes (inl stopped) = kept (config_kept sees before after status role stopped) (same_out stopped.kept.behind.behind.live.out)
  goes (inr was) = by_config was.configuration was.spelled was.ended

-- ---- run by run

front_of : (told now : Option (List ℕ)) (ms : List Numbered) → TellsSome told ms → IsFrontOf told now → TellsSome now ms
front_of told now ms t front =
    let a = some_of told (λ content. TellsFirst content ms) t in
    let b = some_of told (λ content. (n : ℕ) × (now ≡ Some (take n content))) front in
    let same : a.0 ≡ b.0 = same_Some a.0 b.0 (sym a.1 ∙ b.1) in
    tells_some now (take b.2.0 b.0) ms b.2.1 (front_tells b.0 ms b.2.0 (subst (λ (content : List ℕ). TellsFirst content ms) same a.2))

-- what the contents of a disk, and of OUT, come to
record Comes (inboxes : List ℕ → Type 0) (outs : Option (List ℕ) → Type 0) (i : List InboxRecord) (out : List ℕ) : Type 0 where
  found : List InboxRecord
  was : Leaves inboxes (Some (records_of_inbox found))
  begins : IsPrefix found i
  on : ((told : Option (List ℕ)) → outs told → TellsSome told (applied found)) → TellsFirst out (applied i)

module _ {S I K A D N C J : Type 0} (G : Ghosts J) (sees : FeedSees S I K A D N C) (keeps : sees.keeps ≡ true) (role : Role) (outbox inbox out : List ℕ) (i : List InboxRecord) (are : All IsMessage (applied i))
    (is : IsJournal inbox (records_of_inbox i)) where
  by_run : (r : Run S K D N C) (fed : IsFed G sees role r) (inboxes : List ℕ → Type 0) (outs : Option (List ℕ) → Type 0) → IsAt sees.session inboxes r.before.in_disk → outs (sees.session.taken r.before.out)
      → Comes (sees.session.may_leave r.after.in_disk) (IsFrontOf (sees.session.taken r.after.out)) i out → Comes inboxes outs i out
  by_run r fed inboxes outs at first rest =
      let within : All IsMessage (applied rest.found) = all_within IsMessage (applied rest.found) (applied i) (applied_within rest.found i rest.begins) are in
      let g = goes G sees keeps role fed.before fed.after r.status fed.tells inboxes (subst (λ (b : SessionOutside S K D N C). IsAt sees.session inboxes b.in_disk) fed.begins at)
      rest.found (subst (λ (a : SessionOutside S K D N C). Leaves (sees.session.may_leave a.in_disk) (Some (records_of_inbox rest.found))) fed.ends rest.was) within fed.steps in
      record {
        found = g.found;
        was = g.was_found;
        begins = prefix_trans g.found rest.found i g.begins rest.begins;
        on = λ f.
            let before : TellsSome (sees.session.taken fed.before.out) (applied g.found) =
            subst (λ (b : SessionOutside S K D N C). TellsSome (sees.session.taken b.out) (applied g.found)) fed.begins (f (sees.session.taken r.before.out) first) in
            let after : TellsSome (sees.session.taken r.after.out) (applied rest.found) =
            subst (λ (a : SessionOutside S K D N C). TellsSome (sees.session.taken a.out) (applied rest.found)) (sym fed.ends) (g.on before) in
            rest.on (λ told front. front_of (sees.session.taken r.after.out) told (applied rest.found) after front);
      }

  all_runs : (runs : List (Run S K D N C)) (outboxes inboxes : List ℕ → Type 0) (outs : Option (List ℕ) → Type 0) → RunsOver sees.session (IsFed G sees role) runs outboxes inboxes outbox inbox → OutsOver sees runs outs out
      → Comes inboxes outs i out
  all_runs [] outboxes inboxes outs over told = record { found = i; was = (inbox, over.1, is); begins = prefix_self i; on = λ f. f (Some out) told }
  all_runs (r ∷ later) outboxes inboxes outs over told =
      by_run r over.2 inboxes outs over.1 told.0
      (all_runs later (sees.session.may_leave r.after.out_disk) (sees.session.may_leave r.after.in_disk) (IsFrontOf (sees.session.taken r.after.out)) over.3 told.1)

pub out_tells : {S I K A D N C J : Type 0} (G : Ghosts J) (sees : FeedSees S I K A D N C) → OutTells G sees
out_tells G sees keeps role runs outbox inbox out i over is bytes told =
    let c = all_runs G sees keeps role outbox inbox out i (are_messages inbox i is bytes) is runs IsEmptyJournal IsEmptyJournal (λ o. o ≡ Some []) over told in
    let none : c.found ≡ [] = same_inbox c.found [] (at_most_one_verdict.one_list c.was.0 (records_of_inbox c.found) [] c.was.2 c.was.1) in
    c.on (λ o empty. tells_some o [] (applied c.found) empty (subst (λ (found : List InboxRecord). TellsFirst [] (applied found)) (sym none) (tells_first [] [] no_line)))
