-- What connections deliver is what they applied.
use Rattle.std.proofs.Common.{◌≡◌, ℕ, Bool, List, [], ◌∷◌, ◌++◌, take, Option, Some, None, refl, sym, ap, ◌∙◌}
use Rattle.std.specs.Prelude.{option_to_list}
use Rattle.std.specs.List.{AllByRecursion}
use Rattle.session_model.specs.Journal.{History}
use Rattle.session_model.specs.Inbox.{InboxRecord, Numbered, applied}
use Rattle.session_model.proofs.Inboxes.{applied-append}
use Rattle.session_model.proofs.Lists.{all_append}
use Rattle.fixp_replies.specs.declared.act.Act.{Act}
use Rattle.fixp_replies.specs.declared.act.Act.TheVariants as acts
use Rattle.fixp_replies.specs.Incoming.{Incoming}
use Rattle.fixp_machine.specs.Machine.{State}
use Rattle.fixp_machine.specs.Accepting.{records_of}
use Rattle.conn_turns.specs.declared.news.NewsItem.{NewsItem}
use Rattle.conn_turns.specs.declared.news.NewsItem.TheVariants as items
use Rattle.conn_turns.specs.News.{told_by}
use Rattle.conn_turns.specs.Lines.{Line, TakenFrame, reply_at, ready_behind, line_after, lines_after}
use Rattle.conn_turns.specs.Frames.{adds, tells, added, told, applies, delivers}
use Rattle.conn_turns.specs.Refusals.{stood_of, told_of}
use Rattle.conn_turns.specs.Turns.{Turn, Refusal, of_act, of_held, only_sends, works, link_lost, cut_short, not_begun}
use Rattle.turn_laws.specs.Made.{TurnAt}
use Rattle.turn_laws.specs.Turns.{line_received, adds_in, tells_in}
use Rattle.conn_serve.specs.Connections.{Connection, WereTurns, CutAt, IsConnection, AllEnded, all_of}
use Rattle.conn_serve.specs.Served.{WasGivenUp}

-- the messages that news deliver, in order
abbrev pub delivered : List NewsItem → List Numbered
delivered [] = []
delivered (items.Delivered number payload ∷ later) = record { number = number; payload = payload } ∷ delivered later
delivered (items.NotApplied from count ∷ later) = delivered later

pub delivered_append : (first later : List NewsItem) → delivered (first ++ later) ≡ delivered first ++ delivered later
delivered_append [] later = refl
delivered_append (items.Delivered number payload ∷ first) later = ap (λ (ms : List Numbered). record { number = number; payload = payload } ∷ ms) (delivered_append first later)
delivered_append (items.NotApplied from count ∷ first) later = delivered_append first later

-- news deliver what records apply
abbrev pub Deliver : List NewsItem → List InboxRecord → Type 0
Deliver news records = delivered news ≡ applied records

deliver_both : (n m : List NewsItem) (rs qs : List InboxRecord) → Deliver n rs → Deliver m qs → Deliver (n ++ m) (rs ++ qs)
deliver_both n m rs qs a b =
    delivered_append n m ∙ (ap (λ (ms : List Numbered). ms ++ delivered m) a ∙ (ap (λ (ms : List Numbered). applied rs ++ ms) b ∙ sym (applied-append rs qs)))

by_act : (act : Act) (i : Incoming) → Deliver (told_by act i) (records_of act i)
by_act acts.Nothing i = refl
by_act (acts.Apply number) i = refl
by_act (acts.Skip from count) i = refl
by_act acts.Negotiated i = refl
by_act (acts.PeerFinished last) i = refl
by_act (acts.Told from count) i = refl
by_act acts.Ended i = refl

by_helds : (ms : List Numbered) → Deliver (delivers ms) (applies ms)
by_helds [] = refl
by_helds (m ∷ ms) = ap (λ (ns : List Numbered). m ∷ ns) (by_helds ms)

by_frame : (now : ℕ) (l : Line) (t : TakenFrame) → Deliver (tells now l t) (adds now l t)
unfolding adds tells
by_frame now l t =
    let act = (reply_at now l t).act in
    let ms = ready_behind now l t in
    deliver_both (told_by act t.incoming) (delivers ms) (records_of act t.incoming) (applies ms) (by_act act t.incoming) (by_helds ms)

by_frames : (now : ℕ) (l : Line) (frames : List TakenFrame) → Deliver (told now l frames) (added now l frames)
by_frames now l [] = refl
by_frames now l (t ∷ later) = deliver_both (tells now l t) (told now (line_after now l t) later) (adds now l t) (added now (line_after now l t) later) (by_frame now l t) (by_frames now (line_after now l t) later)

by_refusal : (now : ℕ) (l : Line) (r : Option Refusal) → Deliver (told_of now l r) (stood_of now l r)
by_refusal now l None = refl
by_refusal now l (Some (of_act t)) = refl
by_refusal now l (Some (of_held t m)) =
    let act = (reply_at now l t).act in
    let ms = take t.helds (ready_behind now l t) in
    deliver_both (told_by act t.incoming) (delivers ms) (records_of act t.incoming) (applies ms) (by_act act t.incoming) (by_helds ms)

by_turn : (l : Line) (t : Turn) → Deliver (tells_in l t) (adds_in l t)
by_turn l (only_sends now sent lost) = refl
by_turn l (works w) = by_frames w.now (line_received l w.now w.received w.got) w.frames
by_turn l (link_lost now) = refl
by_turn l (cut_short now received frames refused) = refl
by_turn l not_begun = refl

same_so : (n m : List NewsItem) (rs qs : List InboxRecord) → n ≡ m → rs ≡ qs → Deliver m qs → Deliver n rs
same_so n m rs qs news records k = ap delivered news ∙ (k ∙ ap applied (sym records))

by_turns : (eager : Bool) (old new : TurnAt) (ts : List Turn) (news : List NewsItem) (records : List InboxRecord) → WereTurns eager old new ts news records → Deliver news records
by_turns eager old new [] news records k = same_so news [] records [] k.1 k.2 refl
by_turns eager old new (t ∷ later) news records k =
    same_so news (tells_in old.line t ++ k.3) records (adds_in old.line t ++ k.4) k.5 k.6
    (deliver_both (tells_in old.line t) k.3 (adds_in old.line t) k.4 (by_turn old.line t) (by_turns eager k.1 new later k.3 k.4 k.7))

by_cut : (eager : Bool) (old new : TurnAt) (cut : Option Turn) (news : List NewsItem) (records refused wanted : List InboxRecord) → CutAt eager old new cut news records refused wanted → Deliver news records
by_cut eager old new None news records refused wanted k = same_so news [] records [] k.0 k.1 refl
by_cut eager old new (Some t) news records refused wanted k =
    let l : Line = line_received old.line k.now k.received k.made.cut.got in
    same_so news (told k.now l k.frames ++ told_of k.now (lines_after k.now l k.frames) k.refusal) records (added k.now l k.frames ++ stood_of k.now (lines_after k.now l k.frames) k.refusal)
    k.news_are k.adds_are
    (deliver_both (told k.now l k.frames) (told_of k.now (lines_after k.now l k.frames) k.refusal) (added k.now l k.frames) (stood_of k.now (lines_after k.now l k.frames) k.refusal)
    (by_frames k.now l k.frames) (by_refusal k.now (lines_after k.now l k.frames) k.refusal))

-- a connection delivered what it applied
abbrev pub DeliversAll : Connection → Type 0
DeliversAll c = Deliver c.news c.adds

by_connection : (before after : History) (m : State) (last : Line) (c : Connection) → IsConnection before after m last c → DeliversAll c
by_connection before after m last c k =
    same_so c.news (k.told ++ k.cut_told) c.adds (k.added ++ k.cut_added) k.news k.adds
    (deliver_both k.told k.cut_told k.added k.cut_added (by_turns c.link.eager c.link.first k.behind c.leg.turns k.told k.added k.turns)
    (by_cut c.link.eager k.behind c.link.end c.leg.cut k.cut_told k.cut_added c.refused c.wanted k.cut))

by_ended : (before after : History) (m new : State) (cs : List Connection) → AllEnded before after m new cs → AllByRecursion DeliversAll cs
by_ended before after m new [] k = tt
by_ended before after m new (c ∷ later) k = (by_connection before k.0 m k.2.last c k.2.is, by_ended k.0 after k.1 new later k.3)

by_given : (before after : History) (m : State) (given : Option Connection) → WasGivenUp before after m given → AllByRecursion DeliversAll (option_to_list given)
by_given before after m None k = tt
by_given before after m (Some c) k = (by_connection before after m k.0 c k.1, tt)

-- and so did all of a life
pub all_deliver : (before behind after : History) (m mid : State) (ended : List Connection) (given : Option Connection) → AllEnded before behind m mid ended → WasGivenUp behind after mid given → AllByRecursion DeliversAll (all_of ended given)
all_deliver before behind after m mid ended given were gave =
    all_append DeliversAll ended (option_to_list given) (by_ended before behind m mid ended were) (by_given behind after mid given gave)
