-- What frames deliver, and what they apply.
use Rattle.std.proofs.Common.{◌≡◌, ℕ, ◌≤◌, List, [], ◌∷◌, ◌++◌, length, refl, sym, ap, ◌∙◌, arith}
use Rattle.session_model.specs.Inbox.{InboxRecord, Numbered, applied, payloads_of}
use Rattle.session_model.proofs.Inboxes.{applied-append, payloads_of-append}
use Rattle.fixp_replies.specs.declared.act.Act.{Act}
use Rattle.fixp_replies.specs.declared.act.Act.TheVariants as acts
use Rattle.fixp_replies.specs.Incoming.{Incoming}
use Rattle.fixp_machine.specs.Accepting.{records_of}
use Rattle.conn_turns.specs.declared.news.NewsItem.{NewsItem}
use Rattle.conn_turns.specs.declared.news.NewsItem.TheVariants as items
use Rattle.conn_turns.specs.News.{told_by, delivered_in}
use Rattle.conn_turns.specs.Lines.{Line, TakenFrame, reply_at, ready_behind, line_after}
use Rattle.conn_turns.specs.Frames.{adds, tells, added, told, applies, delivers}

-- what news deliver, behind other news
pub delivered_append : (first later : List NewsItem) → delivered_in (first ++ later) ≡ delivered_in first ++ delivered_in later
delivered_append [] later = refl
delivered_append (items.Delivered number payload ∷ first) later = ap (λ ps. payload ∷ ps) (delivered_append first later)
delivered_append (items.NotApplied from count ∷ first) later = delivered_append first later

pub delivered_few : (news : List NewsItem) → length (delivered_in news) ≤ length news
delivered_few [] = omega arith
delivered_few (items.Delivered number payload ∷ later) = omega (arith, delivered_few later)
delivered_few (items.NotApplied from count ∷ later) = omega (arith, delivered_few later)

-- the payloads that records apply, behind other records
pub applied_payloads : (first later : List InboxRecord) → payloads_of (applied (first ++ later)) ≡ payloads_of (applied first) ++ payloads_of (applied later)
applied_payloads first later = ap (λ ms. payloads_of ms) (applied-append first later) ∙ payloads_of-append (applied first) (applied later)

by_act : (act : Act) (i : Incoming) → delivered_in (told_by act i) ≡ payloads_of (applied (records_of act i))
by_act acts.Nothing i = refl
by_act (acts.Apply number) i = refl
by_act (acts.Skip from count) i = refl
by_act acts.Negotiated i = refl
by_act (acts.PeerFinished last) i = refl
by_act (acts.Told from count) i = refl
by_act acts.Ended i = refl

by_helds : (ms : List Numbered) → delivered_in (delivers ms) ≡ payloads_of (applied (applies ms))
by_helds [] = refl
by_helds (m ∷ ms) = ap (λ ps. m.payload ∷ ps) (by_helds ms)

by_frame : (now : ℕ) (l : Line) (t : TakenFrame) → delivered_in (tells now l t) ≡ payloads_of (applied (adds now l t))
unfolding adds tells
by_frame now l t =
    let act = (reply_at now l t).act in
    let ms = ready_behind now l t in
    delivered_append (told_by act t.incoming) (delivers ms)
    ∙ (ap (λ ps. ps ++ delivered_in (delivers ms)) (by_act act t.incoming)
    ∙ (ap (λ ps. payloads_of (applied (records_of act t.incoming)) ++ ps) (by_helds ms)
    ∙ sym (applied_payloads (records_of act t.incoming) (applies ms))))

pub frames_deliver_applied : (now : ℕ) (l : Line) (frames : List TakenFrame) → delivered_in (told now l frames) ≡ payloads_of (applied (added now l frames))
frames_deliver_applied now l [] = refl
frames_deliver_applied now l (t ∷ later) =
    delivered_append (tells now l t) (told now (line_after now l t) later)
    ∙ (ap (λ ps. ps ++ delivered_in (told now (line_after now l t) later)) (by_frame now l t)
    ∙ (ap (λ ps. payloads_of (applied (adds now l t)) ++ ps) (frames_deliver_applied now (line_after now l t) later)
    ∙ sym (applied_payloads (adds now l t) (added now (line_after now l t) later))))
