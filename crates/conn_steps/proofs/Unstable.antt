-- The first message that is not stable, of frames that were taken: of which frame it is, and what stands before it.
use Rattle.std.proofs.Common.{◌≡◌, ℕ, zero, suc, ◌+◌, ◌-◌, ◌<◌, ◌≤◌, Bool, true, false, ◌⊎◌, inl, inr, ⊎_elim, List, [], ◌∷◌, ◌++◌, length, take, drop, Option, Some, None, refl, sym, ap, subst, ◌∙◌, arith, append_assoc, append-nil, length-append}
use Rattle.std.specs.Prelude.{replicate}
use Rattle.session_model.specs.Inbox.{InboxRecord, Numbered}
use Rattle.fixp_replies.specs.declared.act.Act.{Act}
use Rattle.fixp_replies.specs.declared.act.Act.TheVariants as acts
use Rattle.fixp_replies.specs.Acts.{is_record}
use Rattle.fixp_replies.specs.Incoming.{Incoming}
use Rattle.fixp_machine.specs.Machine.{State, held_done, run, front_of, held_applied}
use Rattle.fixp_machine.specs.Accepting.{records_of}
use Rattle.conn_turns.specs.declared.news.NewsItem.{NewsItem}
use Rattle.conn_turns.specs.News.{told_by}
use Rattle.conn_turns.specs.Lines.{Line, TakenFrame, IsTaken, AreTaken, act_calls, ready_in, ready_behind, line_after, lines_after}
use Rattle.conn_turns.specs.Frames.{applies, delivers, adds, tells, added, told}
use Rattle.conn_turns.specs.Turns.{Refusal, of_act, of_held}
use Rattle.conn_turns.specs.Refusals.{IsRefused, IsOfFirst, IsOfRecord, stood, told_before, refused}
use Rattle.conn_turns.specs.Gathering.{message_of, settled_by, handed_by, act_at, messages_of, messages_in, LetWait, LetWaitBehind, settled_first, handed_first}
use Rattle.conn_turns.proofs.Taking.{run_append}
use Rattle.conn_turns.proofs.Gathering.{records_split, told_split, wait_settles, wait_hands, adds_split, tells_split, applies_append, delivers_append}
use Rattle.conn_steps.proofs.Holding.{ready_held, ready_none}
use Rattle.conn_steps.proofs.Numbers.{within}

take-front : {A : Type 0} (k : ℕ) (xs ys : List A) → k ≤ length xs → take k (xs ++ ys) ≡ take k xs
take-front zero xs ys few = refl
take-front (suc k) [] ys few = absurd (omega (arith, few))
take-front {A = A} (suc k) (x ∷ xs) ys few = ap (λ (zs : List A). x ∷ zs) (take-front k xs ys (omega (arith, few)))

next-front : {A : Type 0} (k : ℕ) (xs ys : List A) → k < length xs → take 1 (drop k (xs ++ ys)) ≡ take 1 (drop k xs)
next-front k [] ys few = absurd (omega (arith, few))
next-front zero (x ∷ xs) ys few = refl
next-front (suc k) (x ∷ xs) ys few = next-front k xs ys (omega (arith, few))

take-behind : {A : Type 0} (xs ys : List A) (j k : ℕ) → k ≡ j + length xs → take k (xs ++ ys) ≡ xs ++ take j ys
take-behind [] ys j k e = ap (λ (n : ℕ). take n ys) (omega (arith, e))
take-behind {A = A} (x ∷ xs) ys j k e =
    let more : k ≡ suc (j + length xs) = omega (arith, e) in
    ap (λ (n : ℕ). take n (x ∷ (xs ++ ys))) more ∙ ap (λ (zs : List A). x ∷ zs) (take-behind xs ys j (j + length xs) refl)

drop-behind : {A : Type 0} (xs ys : List A) (j k : ℕ) → k ≡ j + length xs → drop k (xs ++ ys) ≡ drop j ys
drop-behind [] ys j k e = ap (λ (n : ℕ). drop n ys) (omega (arith, e))
drop-behind (x ∷ xs) ys j k e =
    let more : k ≡ suc (j + length xs) = omega (arith, e) in
    ap (λ (n : ℕ). drop n (x ∷ (xs ++ ys))) more ∙ drop-behind xs ys j (j + length xs) refl

-- behind so many held messages that are done the inbox awaits the next one that was ready
record Awaits (m : State) (k : ℕ) : Type 0 where
  message : Numbered
  rest : List Numbered
  left : drop k (ready_in m) ≡ message ∷ rest
  awaits : front_of (run m (replicate k held_done)) ≡ Some message

awaits_at : (k : ℕ) (m : State) → k < length (ready_in m) → Awaits m k
awaits_at zero m few = by_front (front_of m) refl
  where
    by_front : (o : Option Numbered) → front_of m ≡ o → Awaits m 0
    by_front None e = absurd (omega (arith, few, ap (λ (ms : List Numbered). length ms) (ready_none m e)))
    by_front (Some x) e = record { message = x; rest = ready_in (held_applied m (front_of m)); left = ready_held m x e; awaits = e }
awaits_at (suc k) m few = by_front (front_of m) refl (awaits_at k (held_applied m (front_of m)))
  where
    by_front : (o : Option Numbered) → front_of m ≡ o → (k < length (ready_in (held_applied m (front_of m))) → Awaits (held_applied m (front_of m)) k) → Awaits m (suc k)
    by_front None e later = absurd (omega (arith, few, ap (λ (ms : List Numbered). length ms) (ready_none m e)))
    by_front (Some x) e later =
        let n : State = held_applied m (front_of m) in
        let cons : ready_in m ≡ x ∷ ready_in n = ready_held m x e in
        let b : Awaits n k = later (omega (arith, few, ap (λ (ms : List Numbered). length ms) cons)) in
        record { message = b.message; rest = b.rest; left = ap (λ (ms : List Numbered). drop (suc k) ms) cons ∙ b.left; awaits = b.awaits }

-- what an act is: that of a message, which is a record and does nothing else, or none
data KindOf (act : Act) (i : Incoming) : Type 0 where
  other : message_of act i ≡ [] → KindOf act i
  message : (m : Numbered) → message_of act i ≡ m ∷ [] → settled_by act ≡ [] → handed_by act ≡ [] → is_record act ≡ true → KindOf act i

kind_of : (act : Act) (i : Incoming) → KindOf act i
kind_of acts.Nothing i = other refl
kind_of (acts.Apply n) i = message _ refl refl refl refl
kind_of (acts.Skip from count) i = other refl
kind_of acts.Negotiated i = other refl
kind_of (acts.PeerFinished last) i = other refl
kind_of (acts.Told from count) i = other refl
kind_of acts.Ended i = other refl

-- of a frame the message of this place is the first that is not stable
record OfFrame (now : ℕ) (l : Line) (t : TakenFrame) (k : ℕ) : Type 0 where
  refusal : Refusal
  next : (later : List TakenFrame) → IsOfFirst refusal (t ∷ later)
  is : IsRefused now l refusal
  recorded : IsOfRecord now l refusal
  stands : stood now l refusal ≡ settled_by (act_at now l t) ++ applies (take k (messages_of now l t))
  shown : told_before now l refusal ≡ handed_by (act_at now l t) ++ delivers (take k (messages_of now l t))
  wanted : refused now l refusal ≡ applies (take 1 (drop k (messages_of now l t)))

-- of the held messages behind its act
of_ready : (now : ℕ) (l : Line) (t : TakenFrame) (j k : ℕ) → IsTaken now l t → j < length (ready_behind now l t) → k ≡ j + length (message_of (act_at now l t) t.incoming) → OfFrame now l t k
unfolding messages_of
of_ready now l t j k taken few there =
    let act : Act = act_at now l t in
    let first : List Numbered = message_of act t.incoming in
    let ready : List Numbered = ready_behind now l t in
    let a : Awaits (run l.machine (act_calls now t)) j = awaits_at j (run l.machine (act_calls now t)) few in
    let n = taken.next in
    let same : take k (first ++ ready) ≡ first ++ take j ready = take-behind first ready j k there in
    record {
      refusal = of_held (record t { helds = j }) a.message;
      next = λ later. refl;
      is = record {
        next = record { may = n.may; begins = n.begins; at = n.at; is = n.is };
        recorded = taken.recorded;
        awaits = ap front_of (run_append l.machine (act_calls now t) (replicate j held_done)) ∙ a.awaits;
      };
      recorded = tt;
      stands = ap (λ (rs : List InboxRecord). rs ++ applies (take j ready)) (records_split act t.incoming)
          ∙ (append_assoc (settled_by act) (applies first) (applies (take j ready))
          ∙ ap (λ (rs : List InboxRecord). settled_by act ++ rs) (sym (applies_append first (take j ready)) ∙ ap applies (sym same)));
      shown = ap (λ (ns : List NewsItem). ns ++ delivers (take j ready)) (told_split act t.incoming)
          ∙ (append_assoc (handed_by act) (delivers first) (delivers (take j ready))
          ∙ ap (λ (ns : List NewsItem). handed_by act ++ ns) (sym (delivers_append first (take j ready)) ∙ ap delivers (sym same)));
      wanted = ap (λ (ms : List Numbered). applies (take 1 ms)) (sym (drop-behind first ready j k there ∙ a.left));
    }

-- or of the act itself
of_frame : (now : ℕ) (l : Line) (t : TakenFrame) (k : ℕ) → IsTaken now l t → k < length (messages_of now l t) → OfFrame now l t k
unfolding messages_of
of_frame now l t k taken few = by_kind (kind_of (act_at now l t) t.incoming) k few
  where
    ready : List Numbered
    ready = ready_behind now l t

    by_kind : KindOf (act_at now l t) t.incoming → (k : ℕ) → k < length (message_of (act_at now l t) t.incoming ++ ready) → OfFrame now l t k
    by_kind (other none) k few =
        of_ready now l t k k taken (subst (λ (ms : List Numbered). k < length (ms ++ ready)) none few) (omega (arith, ap (λ (ms : List Numbered). length ms) none))
    by_kind (message m is settles hands stable) zero few = record {
      refusal = of_act t;
      next = λ later. refl;
      is = taken.next;
      recorded = stable;
      stands = sym (append-nil (settled_by (act_at now l t)) ∙ settles);
      shown = sym (append-nil (handed_by (act_at now l t)) ∙ hands);
      wanted = records_split (act_at now l t) t.incoming ∙ (ap (λ (rs : List InboxRecord). rs ++ applies (message_of (act_at now l t) t.incoming)) settles
          ∙ (ap applies is ∙ ap (λ (ms : List Numbered). applies (take 1 (ms ++ ready))) (sym is)));
    }
    by_kind (message m is settles hands stable) (suc j) few =
        of_ready now l t j (suc j) taken (omega (arith, few, length-append (message_of (act_at now l t) t.incoming) ready, ap (λ (ms : List Numbered). length ms) is))
        (omega (arith, ap (λ (ms : List Numbered). length ms) is))

-- Of frames with these messages the one of this place is the first that is not stable: it is of a frame behind some whose records are all stable; and behind what
-- the first act added and told at once, the messages before it stand
pub record Unstable (now : ℕ) (l : Line) (frames : List TakenFrame) (k : ℕ) (settled : List InboxRecord) (handed : List NewsItem) (ms : List Numbered) : Type 0 where
  pub stable : List TakenFrame
  pub later : List TakenFrame
  pub are : frames ≡ stable ++ later
  pub some : 0 < length later
  pub refusal : Refusal
  pub next : IsOfFirst refusal later
  pub is : IsRefused now (lines_after now l stable) refusal
  pub recorded : IsOfRecord now (lines_after now l stable) refusal
  pub stands : added now l stable ++ stood now (lines_after now l stable) refusal ≡ settled ++ applies (take k ms)
  pub shown : told now l stable ++ told_before now (lines_after now l stable) refusal ≡ handed ++ delivers (take k ms)
  pub wanted : refused now (lines_after now l stable) refusal ≡ applies (take 1 (drop k ms))

-- it is of the first frame
step_here : (now : ℕ) (l : Line) (t : TakenFrame) (later : List TakenFrame) (k : ℕ) → k < length (messages_of now l t) → OfFrame now l t k
    → Unstable now l (t ∷ later) k (settled_by (act_at now l t)) (handed_by (act_at now l t)) (messages_of now l t ++ messages_in now (line_after now l t) later)
step_here now l t later k few f =
    let here : List Numbered = messages_of now l t in
    let behind : List Numbered = messages_in now (line_after now l t) later in
    let front : take k here ≡ take k (here ++ behind) = sym (take-front k here behind (omega (arith, few))) in
    record {
      stable = [];
      later = t ∷ later;
      are = refl;
      some = omega arith;
      refusal = f.refusal;
      next = f.next later;
      is = f.is;
      recorded = f.recorded;
      stands = f.stands ∙ ap (λ (ms : List Numbered). settled_by (act_at now l t) ++ applies ms) front;
      shown = f.shown ∙ ap (λ (ms : List Numbered). handed_by (act_at now l t) ++ delivers ms) front;
      wanted = f.wanted ∙ ap applies (sym (next-front k here behind few));
    }

-- or of one behind it
step_later : (now : ℕ) (l : Line) (t : TakenFrame) (later : List TakenFrame) (j k : ℕ) → k ≡ j + length (messages_of now l t)
    → Unstable now (line_after now l t) later j [] [] (messages_in now (line_after now l t) later)
    → Unstable now l (t ∷ later) k (settled_by (act_at now l t)) (handed_by (act_at now l t)) (messages_of now l t ++ messages_in now (line_after now l t) later)
step_later now l t later j k there u =
    let here : List Numbered = messages_of now l t in
    let behind : List Numbered = messages_in now (line_after now l t) later in
    let front : here ++ take j behind ≡ take k (here ++ behind) = sym (take-behind here behind j k there) in
    let act : Act = act_at now l t in
    record {
      stable = t ∷ u.stable;
      later = u.later;
      are = ap (λ (ts : List TakenFrame). t ∷ ts) u.are;
      some = u.some;
      refusal = u.refusal;
      next = u.next;
      is = u.is;
      recorded = u.recorded;
      stands = append_assoc (adds now l t) (added now (line_after now l t) u.stable) (stood now (lines_after now (line_after now l t) u.stable) u.refusal)
          ∙ (ap (λ (rs : List InboxRecord). adds now l t ++ rs) u.stands
          ∙ (ap (λ (rs : List InboxRecord). rs ++ applies (take j behind)) (adds_split now l t)
          ∙ (append_assoc (settled_by act) (applies here) (applies (take j behind))
          ∙ ap (λ (rs : List InboxRecord). settled_by act ++ rs) (sym (applies_append here (take j behind)) ∙ ap applies front))));
      shown = append_assoc (tells now l t) (told now (line_after now l t) u.stable) (told_before now (lines_after now (line_after now l t) u.stable) u.refusal)
          ∙ (ap (λ (ns : List NewsItem). tells now l t ++ ns) u.shown
          ∙ (ap (λ (ns : List NewsItem). ns ++ delivers (take j behind)) (tells_split now l t)
          ∙ (append_assoc (handed_by act) (delivers here) (delivers (take j behind))
          ∙ ap (λ (ns : List NewsItem). handed_by act ++ ns) (sym (delivers_append here (take j behind)) ∙ ap delivers front))));
      wanted = u.wanted ∙ ap (λ (ms : List Numbered). applies (take 1 ms)) (sym (drop-behind here behind j k there));
    }

-- of frames that let messages wait
unstable_waiting : (now : ℕ) (l : Line) (frames : List TakenFrame) (k : ℕ) → AreTaken now l frames → LetWait now l frames → k < length (messages_in now l frames)
    → Unstable now l frames k [] [] (messages_in now l frames)
unstable_waiting now l [] k taken wait few = absurd (omega (arith, few))
unstable_waiting now l (t ∷ later) k taken wait few =
    subst (λ (rs : List InboxRecord). Unstable now l (t ∷ later) k rs [] ms) (wait_settles (act_at now l t) wait.0)
    (subst (λ (ns : List NewsItem). Unstable now l (t ∷ later) k (settled_by (act_at now l t)) ns ms) (wait_hands (act_at now l t) wait.0)
    (⊎_elim (λ here. step_here now l t later k here (of_frame now l t k taken.0 here))
    (λ past. step_later now l t later (k - length (messages_of now l t)) k (omega (arith, past))
    (unstable_waiting now (line_after now l t) later (k - length (messages_of now l t)) taken.1 wait.1 (omega (arith, few, past, length-append (messages_of now l t) (messages_in now (line_after now l t) later)))))
    (within k (length (messages_of now l t)))))
  where
    ms : List Numbered
    ms = messages_of now l t ++ messages_in now (line_after now l t) later

-- of the latest frames of a turn
pub unstable : (now : ℕ) (l : Line) (frames : List TakenFrame) (k : ℕ) → AreTaken now l frames → LetWaitBehind now l frames → k < length (messages_in now l frames)
    → Unstable now l frames k (settled_first now l frames) (handed_first now l frames) (messages_in now l frames)
unstable now l [] k taken wait few = absurd (omega (arith, few))
unstable now l (t ∷ later) k taken wait few =
    ⊎_elim (λ here. step_here now l t later k here (of_frame now l t k taken.0 here))
    (λ past. step_later now l t later (k - length (messages_of now l t)) k (omega (arith, past))
    (unstable_waiting now (line_after now l t) later (k - length (messages_of now l t)) taken.1 wait (omega (arith, few, past, length-append (messages_of now l t) (messages_in now (line_after now l t) later)))))
    (within k (length (messages_of now l t)))
