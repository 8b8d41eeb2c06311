-- The messages of an inbox: their numbers rise, and each is one of the format where its payload is bytes.
use Rattle.std.proofs.Common.{◌≡◌, ℕ, ◌+◌, ◌≤◌, List, [], ◌∷◌, ◌++◌, length, refl, sym, ap, subst, ◌∙◌, append_assoc, arith}
use Rattle.std.specs.Prelude.{All, flat_map}
use Rattle.std.specs.List.{AllByRecursion}
use Rattle.std.proofs.lemmas.List.Elements.{All-nil, All-cons, All-head, All-tail}
use Rattle.hex.specs.Hex.{IsBytes}
use Rattle.session_model.specs.Inbox.{Numbered, InboxRecord, apply, skip, negotiated, peer_finished, next_number}
use Rattle.session_model.proofs.Inboxes.{next_number-append}
use Rattle.fixp_msgs.specs.declared.flow.Flow.{Flow}
use Rattle.jr_record.specs.declared.record.Record.{Record}
use Rattle.jr_record.specs.declared.record.Record.TheVariants as kinds
use Rattle.jr_record.specs.Records.{IsRecord}
use Rattle.jr_dated.specs.Dated.{Dated, IsDated, undated}
use Rattle.jr_boxes.specs.Inboxes.{Fits, IsInbox, record_of, records_of_inbox}
use Rattle.conn_out.specs.Messages.{messages_of, messages_in as dated_messages_in}
use Rattle.conn_out.specs.Laws.{IsMessage, AreRising, AreMessages}
use Rattle.cmd_feed.specs.Steps.{messages_in, CarryBytes}

-- messages that rise from a number on rise from each lower one on
lower : (n k : ℕ) (ms : List Numbered) → k ≤ n → AreRising n ms → AreRising k ms
lower n k [] l r = tt
lower n k (m ∷ ms) l r = (omega (arith, l, r.0), r.1)

-- what a record adds to messages behind it
rising_one : (flow : Flow) (before : List InboxRecord) (r : InboxRecord) (ms : List Numbered) → Fits flow before r → AreRising (next_number (before ++ r ∷ [])) ms
    → AreRising (next_number before) (messages_of (record_of r) ++ ms)
rising_one flow before (apply m) ms fits rise =
    (omega (arith, fits.0), lower (next_number (before ++ apply m ∷ [])) (m.number + 1) ms (omega (arith, next_number-append before (apply m ∷ []))) rise)
rising_one flow before (skip r) ms fits rise = lower (next_number (before ++ skip r ∷ [])) (next_number before) ms (omega (arith, next_number-append before (skip r ∷ []))) rise
rising_one flow before negotiated ms fits rise = lower (next_number (before ++ negotiated ∷ [])) (next_number before) ms (omega (arith, next_number-append before (negotiated ∷ []))) rise
rising_one flow before (peer_finished last) ms fits rise =
    lower (next_number (before ++ peer_finished last ∷ [])) (next_number before) ms (omega (arith, next_number-append before (peer_finished last ∷ []))) rise

rising_behind : (flow : Flow) (all before after : List InboxRecord) → ((first rest : List InboxRecord) (r : InboxRecord) → all ≡ first ++ r ∷ rest → Fits flow first r) → all ≡ before ++ after
    → AreRising (next_number before) (messages_in after)
rising_behind flow all before [] fits e = tt
rising_behind flow all before (r ∷ after) fits e =
    rising_one flow before r (messages_in after) (fits before after r e) (rising_behind flow all (before ++ r ∷ []) after fits (e ∙ sym (append_assoc before (r ∷ []) after)))

-- those of an inbox rise from 1 on
rising : (flow : Flow) (inbox : List InboxRecord) → IsInbox flow (records_of_inbox inbox) inbox → AreRising 1 (messages_in inbox)
rising flow inbox is = rising_behind flow inbox [] inbox is.fits refl

-- a record of the format tells of a message of the format, where its payload is bytes
are_one : (r : Record) (ms : List Numbered) → IsRecord r → CarryBytes (messages_of r ++ ms) → (CarryBytes ms → AreMessages ms) → AreMessages (messages_of r ++ ms)
are_one (kinds.Entry sender k payload) ms legal bytes rest = rest bytes
are_one (kinds.Apply number payload) ms legal bytes rest =
    let m : Numbered = record { number = number; payload = payload } in
    All-cons IsMessage m ms (record { size = legal.0.1; short = legal.1.1; each = All-head (λ (x : Numbered). IsBytes x.payload) m ms bytes })
    (rest (All-tail (λ (x : Numbered). IsBytes x.payload) m ms bytes))
are_one (kinds.Skip first count) ms legal bytes rest = rest bytes
are_one kinds.Negotiated ms legal bytes rest = rest bytes
are_one (kinds.PeerFinished last) ms legal bytes rest = rest bytes
are_one kinds.Finish ms legal bytes rest = rest bytes

are_messages : (ds : List Dated) → AllByRecursion IsDated ds → CarryBytes (dated_messages_in ds) → AreMessages (dated_messages_in ds)
are_messages [] legal bytes = All-nil IsMessage
are_messages (d ∷ ds) legal bytes = are_one d.what (dated_messages_in ds) legal.0.0 bytes (are_messages ds legal.1)

-- records with moments tell of the messages of which they tell without
bare_messages : (ds : List Dated) → dated_messages_in ds ≡ flat_map messages_of (undated ds)
bare_messages [] = refl
bare_messages (d ∷ ds) = ap (λ (ms : List Numbered). messages_of d.what ++ ms) (bare_messages ds)

-- the messages of dated records that are those of an inbox
pub record DatedMessages (ds : List Dated) (inbox : List InboxRecord) : Type 0 where
  pub same : dated_messages_in ds ≡ messages_in inbox
  pub rise : AreRising 1 (dated_messages_in ds)
  pub are : CarryBytes (messages_in inbox) → AreMessages (dated_messages_in ds)

pub dated_messages : (flow : Flow) (ds : List Dated) (inbox : List InboxRecord) → AllByRecursion IsDated ds → undated ds ≡ records_of_inbox inbox → IsInbox flow (records_of_inbox inbox) inbox
    → DatedMessages ds inbox
dated_messages flow ds inbox legal bare is =
    let same : dated_messages_in ds ≡ messages_in inbox = bare_messages ds ∙ ap (λ (rs : List Record). flat_map messages_of rs) bare in
    record {
      same = same;
      rise = subst (λ (ms : List Numbered). AreRising 1 ms) (sym same) (rising flow inbox is);
      are = λ bytes. are_messages ds legal (subst CarryBytes (sym same) bytes);
    }
