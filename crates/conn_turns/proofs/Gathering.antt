-- What frames add and tell: what waits of it, and what does not; and frames behind frames.
use Rattle.std.proofs.Common.{◌≡◌, ℕ, true, false, List, [], ◌∷◌, ◌++◌, refl, sym, ap, ◌∙◌, append_assoc, append-nil, true≢false}
use Rattle.std.proofs.lemmas.List.{map-append}
use Rattle.session_model.specs.Inbox.{InboxRecord, Numbered}
use Rattle.fixp_replies.specs.declared.act.Act.{Act}
use Rattle.fixp_replies.specs.declared.act.Act.TheVariants as acts
use Rattle.fixp_replies.specs.Incoming.{Incoming}
use Rattle.fixp_machine.specs.Accepting.{records_of}
use Rattle.conn_turns.specs.declared.news.NewsItem.{NewsItem}
use Rattle.conn_turns.specs.declared.news.NewsItem.TheVariants as items
use Rattle.conn_turns.specs.News.{told_by}
use Rattle.conn_turns.specs.Lines.{Line, TakenFrame, ready_behind, line_after, lines_after, AreTaken}
use Rattle.conn_turns.specs.Frames.{applies, delivers, adds, tells, added, told}
use Rattle.conn_turns.specs.Gathering.{message_of, settled_by, handed_by, lets_wait, act_at, messages_of, messages_in, LetWait, LetWaitBehind, settled_first, handed_first}

-- an act adds its record at once, or its message
pub records_split : (act : Act) (i : Incoming) → records_of act i ≡ settled_by act ++ applies (message_of act i)
records_split acts.Nothing i = refl
records_split (acts.Apply n) i = refl
records_split (acts.Skip from count) i = refl
records_split acts.Negotiated i = refl
records_split (acts.PeerFinished last) i = refl
records_split (acts.Told from count) i = refl
records_split acts.Ended i = refl

-- and tells in the same way
pub told_split : (act : Act) (i : Incoming) → told_by act i ≡ handed_by act ++ delivers (message_of act i)
told_split acts.Nothing i = refl
told_split (acts.Apply n) i = refl
told_split (acts.Skip from count) i = refl
told_split acts.Negotiated i = refl
told_split (acts.PeerFinished last) i = refl
told_split (acts.Told from count) i = refl
told_split acts.Ended i = refl

-- one that lets messages wait does nothing at once
pub wait_settles : (act : Act) → lets_wait act ≡ true → settled_by act ≡ []
wait_settles acts.Nothing e = refl
wait_settles (acts.Apply n) e = refl
wait_settles (acts.Skip from count) e = absurd (true≢false (sym e))
wait_settles acts.Negotiated e = absurd (true≢false (sym e))
wait_settles (acts.PeerFinished last) e = absurd (true≢false (sym e))
wait_settles (acts.Told from count) e = absurd (true≢false (sym e))
wait_settles acts.Ended e = refl

pub wait_hands : (act : Act) → lets_wait act ≡ true → handed_by act ≡ []
wait_hands acts.Nothing e = refl
wait_hands (acts.Apply n) e = refl
wait_hands (acts.Skip from count) e = refl
wait_hands acts.Negotiated e = refl
wait_hands (acts.PeerFinished last) e = refl
wait_hands (acts.Told from count) e = absurd (true≢false (sym e))
wait_hands acts.Ended e = refl

-- and one that does not has no message
pub other_messages : (act : Act) (i : Incoming) → lets_wait act ≡ false → message_of act i ≡ []
other_messages acts.Nothing i e = absurd (true≢false e)
other_messages (acts.Apply n) i e = absurd (true≢false e)
other_messages (acts.Skip from count) i e = refl
other_messages acts.Negotiated i e = refl
other_messages (acts.PeerFinished last) i e = refl
other_messages (acts.Told from count) i e = refl
other_messages acts.Ended i e = absurd (true≢false e)

-- so it is with a frame
pub adds_split : (now : ℕ) (l : Line) (t : TakenFrame) → adds now l t ≡ settled_by (act_at now l t) ++ applies (messages_of now l t)
unfolding adds messages_of
adds_split now l t =
    let act : Act = act_at now l t in
    let first : List Numbered = message_of act t.incoming in
    let later : List Numbered = ready_behind now l t in
    ap (λ (rs : List InboxRecord). rs ++ applies later) (records_split act t.incoming)
    ∙ (append_assoc (settled_by act) (applies first) (applies later) ∙ ap (λ (rs : List InboxRecord). settled_by act ++ rs) (sym (map-append InboxRecord.apply first later)))

pub tells_split : (now : ℕ) (l : Line) (t : TakenFrame) → tells now l t ≡ handed_by (act_at now l t) ++ delivers (messages_of now l t)
unfolding tells messages_of
tells_split now l t =
    let act : Act = act_at now l t in
    let first : List Numbered = message_of act t.incoming in
    let later : List Numbered = ready_behind now l t in
    ap (λ (ns : List NewsItem). ns ++ delivers later) (told_split act t.incoming)
    ∙ (append_assoc (handed_by act) (delivers first) (delivers later)
    ∙ ap (λ (ns : List NewsItem). handed_by act ++ ns) (sym (map-append (λ (m : Numbered). items.Delivered m.number m.payload) first later)))

pub delivers_append : (ms ns : List Numbered) → delivers (ms ++ ns) ≡ delivers ms ++ delivers ns
delivers_append ms ns = map-append (λ (m : Numbered). items.Delivered m.number m.payload) ms ns

pub applies_append : (ms ns : List Numbered) → applies (ms ++ ns) ≡ applies ms ++ applies ns
applies_append ms ns = map-append InboxRecord.apply ms ns

-- frames that let messages wait add and tell these alone
pub added_waiting : (now : ℕ) (l : Line) (frames : List TakenFrame) → LetWait now l frames → added now l frames ≡ applies (messages_in now l frames)
added_waiting now l [] wait = refl
added_waiting now l (t ∷ later) wait =
    ap (λ (rs : List InboxRecord). rs ++ added now (line_after now l t) later)
    (adds_split now l t ∙ ap (λ (rs : List InboxRecord). rs ++ applies (messages_of now l t)) (wait_settles (act_at now l t) wait.0))
    ∙ (ap (λ (rs : List InboxRecord). applies (messages_of now l t) ++ rs) (added_waiting now (line_after now l t) later wait.1)
    ∙ sym (applies_append (messages_of now l t) (messages_in now (line_after now l t) later)))

pub told_waiting : (now : ℕ) (l : Line) (frames : List TakenFrame) → LetWait now l frames → told now l frames ≡ delivers (messages_in now l frames)
told_waiting now l [] wait = refl
told_waiting now l (t ∷ later) wait =
    ap (λ (ns : List NewsItem). ns ++ told now (line_after now l t) later)
    (tells_split now l t ∙ ap (λ (ns : List NewsItem). ns ++ delivers (messages_of now l t)) (wait_hands (act_at now l t) wait.0))
    ∙ (ap (λ (ns : List NewsItem). delivers (messages_of now l t) ++ ns) (told_waiting now (line_after now l t) later wait.1)
    ∙ sym (delivers_append (messages_of now l t) (messages_in now (line_after now l t) later)))

-- and where the first does not, what its act adds and tells stands before these
pub added_latest : (now : ℕ) (l : Line) (frames : List TakenFrame) → LetWaitBehind now l frames → added now l frames ≡ settled_first now l frames ++ applies (messages_in now l frames)
added_latest now l [] wait = refl
added_latest now l (t ∷ later) wait =
    let here : List Numbered = messages_of now l t in
    let behind : List Numbered = messages_in now (line_after now l t) later in
    ap (λ (rs : List InboxRecord). rs ++ added now (line_after now l t) later) (adds_split now l t)
    ∙ (ap (λ (rs : List InboxRecord). (settled_by (act_at now l t) ++ applies here) ++ rs) (added_waiting now (line_after now l t) later wait)
    ∙ (append_assoc (settled_by (act_at now l t)) (applies here) (applies behind)
    ∙ ap (λ (rs : List InboxRecord). settled_by (act_at now l t) ++ rs) (sym (applies_append here behind))))

pub told_latest : (now : ℕ) (l : Line) (frames : List TakenFrame) → LetWaitBehind now l frames → told now l frames ≡ handed_first now l frames ++ delivers (messages_in now l frames)
told_latest now l [] wait = refl
told_latest now l (t ∷ later) wait =
    let here : List Numbered = messages_of now l t in
    let behind : List Numbered = messages_in now (line_after now l t) later in
    ap (λ (ns : List NewsItem). ns ++ told now (line_after now l t) later) (tells_split now l t)
    ∙ (ap (λ (ns : List NewsItem). (handed_by (act_at now l t) ++ delivers here) ++ ns) (told_waiting now (line_after now l t) later wait)
    ∙ (append_assoc (handed_by (act_at now l t)) (delivers here) (delivers behind)
    ∙ ap (λ (ns : List NewsItem). handed_by (act_at now l t) ++ ns) (sym (delivers_append here behind))))

-- frames behind frames
pub lines_append : (now : ℕ) (l : Line) (frames later : List TakenFrame) → lines_after now l (frames ++ later) ≡ lines_after now (lines_after now l frames) later
lines_append now l [] later = refl
lines_append now l (t ∷ frames) later = lines_append now (line_after now l t) frames later

pub taken_append : (now : ℕ) (l : Line) (frames later : List TakenFrame) → AreTaken now l frames → AreTaken now (lines_after now l frames) later → AreTaken now l (frames ++ later)
taken_append now l [] later first second = second
taken_append now l (t ∷ frames) later first second = (first.0, taken_append now (line_after now l t) frames later first.1 second)

pub added_append : (now : ℕ) (l : Line) (frames later : List TakenFrame) → added now l (frames ++ later) ≡ added now l frames ++ added now (lines_after now l frames) later
added_append now l [] later = refl
added_append now l (t ∷ frames) later =
    ap (λ (rs : List InboxRecord). adds now l t ++ rs) (added_append now (line_after now l t) frames later)
    ∙ sym (append_assoc (adds now l t) (added now (line_after now l t) frames) (added now (lines_after now (line_after now l t) frames) later))

pub told_append : (now : ℕ) (l : Line) (frames later : List TakenFrame) → told now l (frames ++ later) ≡ told now l frames ++ told now (lines_after now l frames) later
told_append now l [] later = refl
told_append now l (t ∷ frames) later =
    ap (λ (ns : List NewsItem). tells now l t ++ ns) (told_append now (line_after now l t) frames later)
    ∙ sym (append_assoc (tells now l t) (told now (line_after now l t) frames) (told now (lines_after now (line_after now l t) frames) later))

-- one frame more
pub messages_more : (now : ℕ) (l : Line) (frames : List TakenFrame) (t : TakenFrame) → messages_in now l (frames ++ t ∷ []) ≡ messages_in now l frames ++ messages_of now (lines_after now l frames) t
messages_more now l [] t = append-nil (messages_of now l t)
messages_more now l (x ∷ later) t =
    ap (λ (ms : List Numbered). messages_of now l x ++ ms) (messages_more now (line_after now l x) later t)
    ∙ sym (append_assoc (messages_of now l x) (messages_in now (line_after now l x) later) (messages_of now (lines_after now (line_after now l x) later) t))

wait_all : (now : ℕ) (l : Line) (frames : List TakenFrame) (t : TakenFrame) → LetWait now l frames → lets_wait (act_at now (lines_after now l frames) t) ≡ true → LetWait now l (frames ++ t ∷ [])
wait_all now l [] t wait here = (here, tt)
wait_all now l (x ∷ later) t wait here = (wait.0, wait_all now (line_after now l x) later t wait.1 here)

pub wait_more : (now : ℕ) (l : Line) (frames : List TakenFrame) (t : TakenFrame) → LetWaitBehind now l frames → lets_wait (act_at now (lines_after now l frames) t) ≡ true → LetWaitBehind now l (frames ++ t ∷ [])
wait_more now l [] t wait here = tt
wait_more now l (x ∷ later) t wait here = wait_all now (line_after now l x) later t wait here

-- the first of them is the same, or the one more, which does nothing at once
pub settled_more : (now : ℕ) (l : Line) (frames : List TakenFrame) (t : TakenFrame) → lets_wait (act_at now (lines_after now l frames) t) ≡ true → settled_first now l (frames ++ t ∷ []) ≡ settled_first now l frames
settled_more now l [] t here = wait_settles (act_at now l t) here
settled_more now l (x ∷ later) t here = refl

pub handed_more : (now : ℕ) (l : Line) (frames : List TakenFrame) (t : TakenFrame) → lets_wait (act_at now (lines_after now l frames) t) ≡ true → handed_first now l (frames ++ t ∷ []) ≡ handed_first now l frames
handed_more now l [] t here = wait_hands (act_at now l t) here
handed_more now l (x ∷ later) t here = refl
