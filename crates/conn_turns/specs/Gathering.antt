-- Which of what frames add waits, to be made stable and told in one call, and which is so at once (this project's profile).
use Rattle.std.specs.Prelude.{◌≡◌, ⊤, ℕ, ◌+◌, Bool, true, false, if◌then◌else◌, List, [], ◌∷◌, ◌++◌}
use Rattle.session_model.specs.Inbox.{InboxRecord, Numbered}
use Rattle.fixp_replies.specs.declared.act.Act.{Act}
use Rattle.fixp_replies.specs.declared.act.Act.TheVariants as acts
use Rattle.fixp_replies.specs.Incoming.{Incoming, payload_in}
use Rattle.conn_turns.specs.declared.news.NewsItem.{NewsItem}
use Rattle.conn_turns.specs.declared.news.NewsItem.TheVariants as items
use Rattle.conn_turns.specs.Lines.{Line, TakenFrame, reply_at, ready_behind, line_after}

-- messages with these payloads, one behind another, the first under this number
abbrev pub numbered_from : ℕ → List (List ℕ) → List Numbered
numbered_from n [] = []
numbered_from n (p ∷ ps) = record { number = n; payload = p } ∷ numbered_from (n + 1) ps

-- the message that an act applies, if it does: that waits
abbrev pub message_of : Act → Incoming → List Numbered
message_of acts.Nothing i = []
message_of (acts.Apply number) i = record { number = number; payload = payload_in i } ∷ []
message_of (acts.Skip from count) i = []
message_of acts.Negotiated i = []
message_of (acts.PeerFinished last) i = []
message_of (acts.Told from count) i = []
message_of acts.Ended i = []

-- any other act has its record made stable, and what it tells told, at once
abbrev pub settled_by : Act → List InboxRecord
settled_by acts.Nothing = []
settled_by (acts.Apply number) = []
settled_by (acts.Skip from count) = InboxRecord.skip (record { first = from; count = count }) ∷ []
settled_by acts.Negotiated = InboxRecord.negotiated ∷ []
settled_by (acts.PeerFinished last) = InboxRecord.peer_finished last ∷ []
settled_by (acts.Told from count) = []
settled_by acts.Ended = []

abbrev pub handed_by : Act → List NewsItem
handed_by acts.Nothing = []
handed_by (acts.Apply number) = []
handed_by (acts.Skip from count) = []
handed_by acts.Negotiated = []
handed_by (acts.PeerFinished last) = []
handed_by (acts.Told from count) = items.NotApplied from count ∷ []
handed_by acts.Ended = []

-- what waits goes on waiting over an act that applies a message, and over one that neither has a record nor tells anything; before any other
-- it is made stable and told
abbrev pub lets_wait : Act → Bool
lets_wait acts.Nothing = true
lets_wait (acts.Apply number) = true
lets_wait (acts.Skip from count) = false
lets_wait acts.Negotiated = false
lets_wait (acts.PeerFinished last) = false
lets_wait (acts.Told from count) = false
lets_wait acts.Ended = true

-- of messages that wait before an act, those that are made stable before it; and those that still wait behind it
abbrev pub flushed_by : Act → List Numbered → List Numbered
flushed_by act waiting = if lets_wait act then [] else waiting

abbrev pub left_by : Act → List Numbered → List Numbered
left_by act waiting = if lets_wait act then waiting else []

-- the act of a frame
abbrev pub act_at : ℕ → Line → TakenFrame → Act
act_at now l t = (reply_at now l t).act

-- the messages of a frame: that of its act, and those held that are applied behind it
unfoldable pub messages_of : ℕ → Line → TakenFrame → List Numbered
messages_of now l t = message_of (act_at now l t) t.incoming ++ ready_behind now l t

abbrev pub messages_in : ℕ → Line → List TakenFrame → List Numbered
messages_in now l [] = []
messages_in now l (t ∷ later) = messages_of now l t ++ messages_in now (line_after now l t) later

-- the act of each of some frames lets messages wait
abbrev pub LetWait : ℕ → Line → List TakenFrame → Type 0
LetWait now l [] = ⊤
LetWait now l (t ∷ later) = (lets_wait (act_at now l t) ≡ true) × LetWait now (line_after now l t) later

-- so does the act of each but the first
abbrev pub LetWaitBehind : ℕ → Line → List TakenFrame → Type 0
LetWaitBehind now l [] = ⊤
LetWaitBehind now l (t ∷ later) = LetWait now (line_after now l t) later

-- what the act of the first of some frames adds, and tells, at once
abbrev pub settled_first : ℕ → Line → List TakenFrame → List InboxRecord
settled_first now l [] = []
settled_first now l (t ∷ later) = settled_by (act_at now l t)

abbrev pub handed_first : ℕ → Line → List TakenFrame → List NewsItem
handed_first now l [] = []
handed_first now l (t ∷ later) = handed_by (act_at now l t)
