-- What the frames of a turn add to the inbox, and what they tell.
use Rattle.std.specs.Prelude.{◌≡◌, ◌⊎◌, ℕ, ◌&&◌, Bool, true, false, not, nat_lt, if◌then◌else◌, IsTrue, List, [], ◌∷◌, ◌++◌, map, Option, Some, None, is_some, is_none}
use Rattle.session_model.specs.Inbox.{InboxRecord, Numbered}
use Rattle.sofh_frame.specs.Framing.{First, frame, rest, bad_length, bad_encoding, first_of}
use Rattle.fixp_machine.specs.Accepting.{records_of}
use Rattle.conn_turns.specs.declared.news.NewsItem.{NewsItem}
use Rattle.conn_turns.specs.News.{told_by}
use Rattle.conn_turns.specs.declared.news.NewsItem.TheVariants as items
use Rattle.conn_turns.specs.Lines.{Line, TakenFrame, has_begun, reply_at, ready_behind, line_after}

-- held messages that are applied, as records and as news
abbrev pub applies : List Numbered → List InboxRecord
applies ms = map InboxRecord.apply ms

abbrev pub delivers : List Numbered → List NewsItem
delivers ms = map (λ (m : Numbered). items.Delivered m.number m.payload) ms

-- what a frame adds to the inbox, and what it tells: by its act, and by the held messages that are applied behind it
unfoldable pub adds : ℕ → Line → TakenFrame → List InboxRecord
adds now l t = records_of (reply_at now l t).act t.incoming ++ applies (ready_behind now l t)

unfoldable pub tells : ℕ → Line → TakenFrame → List NewsItem
tells now l t = told_by (reply_at now l t).act t.incoming ++ delivers (ready_behind now l t)

-- what frames add, and what they tell, one after another
abbrev pub added : ℕ → Line → List TakenFrame → List InboxRecord
added now l [] = []
added now l (t ∷ later) = adds now l t ++ added now (line_after now l t) later

abbrev pub told : ℕ → Line → List TakenFrame → List NewsItem
told now l [] = []
told now l (t ∷ later) = tells now l t ++ told now (line_after now l t) later

-- what stands at the front of bytes is a whole frame; or bytes that no frame begins with
abbrev pub is_whole : First → Bool
is_whole (frame order message size) = true
is_whole rest = false
is_whole (bad_length n) = false
is_whole (bad_encoding encoding) = false

abbrev pub is_bad : First → Bool
is_bad (frame order message size) = false
is_bad rest = false
is_bad (bad_length n) = true
is_bad (bad_encoding encoding) = true

-- behind so many frames no further one is taken: the turn has its number, the connection has ended, a range began in the turn, or no
-- whole frame is left
abbrev pub IsDone : ℕ → Line → Type 0
IsDone count l = (count ≡ l.per_turn) ⊎ (IsTrue (is_some l.machine.ending) ⊎ (IsTrue (has_begun l) ⊎ (is_whole (first_of l.held) ≡ false)))

-- a further frame may be taken
abbrev pub may_take : Line → Bool
may_take l = is_none l.machine.ending && not (has_begun l)

-- behind so many frames bytes stand that no frame begins with, of which the machine is told, at their place
abbrev pub is_unframed : ℕ → Line → Bool
is_unframed count l = nat_lt count l.per_turn && may_take l && is_bad (first_of l.held)

abbrev pub unframed_at : ℕ → Line → Option ℕ
unframed_at count l = if is_unframed count l then Some l.place else None

-- the machine is told that the link has ended: it has, and no whole frame is left
abbrev pub is_link_over : Line → Bool
is_link_over l = l.over && not (is_whole (first_of l.held))
