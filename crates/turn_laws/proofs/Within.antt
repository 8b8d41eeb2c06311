-- A turn that is cut short may be so behind each beginning of the records that its frames add: behind a frame, or at a held message.
use Rattle.std.proofs.Common.{◌≡◌, ◌⊎◌, inl, inr, ℕ, zero, suc, ◌≤◌, List, [], ◌∷◌, ◌++◌, length, length-append, take, Option, Some, None, refl, sym, ap, subst, ◌∙◌, arith, append_assoc}
use Rattle.std.specs.Prelude.{replicate, IfSome}
use Rattle.std.proofs.lemmas.List.{length-map}
use Rattle.session_model.specs.Inbox.{InboxRecord, Numbered}
use Rattle.fixp_replies.specs.Incoming.{Incoming}
use Rattle.fixp_replies.specs.declared.act.Act.{Act}
use Rattle.fixp_replies.specs.declared.act.Act.TheVariants as acts
use Rattle.fixp_machine.specs.Machine.{State, held_done, front_of, step, run}
use Rattle.fixp_machine.specs.Accepting.{records_of}
use Rattle.conn_turns.specs.Lines.{Line, TakenFrame, IsTaken, AreTaken, act_calls, ready_in, ready_behind, reply_at, line_after, lines_after}
use Rattle.conn_turns.specs.Frames.{adds, added, applies}
use Rattle.conn_turns.specs.Turns.{Refusal, of_held}
use Rattle.conn_turns.specs.Refusals.{IsRefused, IsTried, stood_of}
use Rattle.conn_turns.proofs.Taking.{run_append}
use Rattle.turn_laws.specs.Turns.{line_received, IsCutShort, adds_cut}
use Rattle.turn_laws.proofs.Draining.{awaited_in, fewer}

-- frames, and where they are cut short, that add these records
pub record CutWithin (now : ℕ) (l : Line) (records : List InboxRecord) : Type 0 where
  pub frames : List TakenFrame
  pub refusal : Option Refusal
  pub taken : AreTaken now l frames
  pub is : IfSome refusal (IsRefused now (lines_after now l frames))
  pub adds : adds_cut now l frames refusal ≡ records

-- of two lists one begins the other
record Longer (xs ys zs ws : List InboxRecord) : Type 0 where
  more : List InboxRecord
  is : zs ≡ xs ++ more
  rest : ys ≡ more ++ ws

record Shorter (xs zs : List InboxRecord) : Type 0 where
  next : InboxRecord
  more : List InboxRecord
  is : xs ≡ zs ++ next ∷ more

head_is : (x y : InboxRecord) (xs ys : List InboxRecord) → x ∷ xs ≡ y ∷ ys → x ≡ y
head_is x y xs ys e = cc e

tail_is : (x y : InboxRecord) (xs ys : List InboxRecord) → x ∷ xs ≡ y ∷ ys → xs ≡ ys
tail_is x y xs ys e = cc e

split : (xs ys zs ws : List InboxRecord) → xs ++ ys ≡ zs ++ ws → Longer xs ys zs ws ⊎ Shorter xs zs
split [] ys zs ws e = inl (record { more = zs; is = refl; rest = e })
split (x ∷ xs) ys [] ws e = inr (record { next = x; more = xs; is = refl })
split (x ∷ xs) ys (z ∷ zs) ws e = by_rest (split xs ys zs ws (tail_is x z (xs ++ ys) (zs ++ ws) e))
  where
    same : x ≡ z
    same = head_is x z (xs ++ ys) (zs ++ ws) e

    by_rest : Longer xs ys zs ws ⊎ Shorter xs zs → Longer (x ∷ xs) ys (z ∷ zs) ws ⊎ Shorter (x ∷ xs) (z ∷ zs)
    by_rest (inl k) = inl (record { more = k.more; is = ap (λ (rs : List InboxRecord). z ∷ rs) k.is ∙ ap (λ (r : InboxRecord). r ∷ (xs ++ k.more)) (sym same); rest = k.rest })
    by_rest (inr k) = inr (record { next = k.next; more = k.more; is = ap (λ (r : InboxRecord). r ∷ xs) same ∙ ap (λ (rs : List InboxRecord). z ∷ rs) k.is })

-- the first of messages that are applied
first_applies : (ms : List Numbered) (front back : List InboxRecord) → applies ms ≡ front ++ back → applies (take (length front) ms) ≡ front
first_applies ms [] back e = refl
first_applies [] (r ∷ front) back e = absurd (cc e)
first_applies (m ∷ ms) (r ∷ front) back e =
    ap (λ (rs : List InboxRecord). InboxRecord.apply m ∷ rs) (first_applies ms front back (tail_is (InboxRecord.apply m) r (applies ms) (front ++ back) e))
    ∙ ap (λ (x : InboxRecord). x ∷ front) (head_is (InboxRecord.apply m) r (applies ms) (front ++ back) e)

-- where more are ready, one is awaited
record AwaitedAt (m : State) (j : ℕ) : Type 0 where
  first : Numbered
  is : front_of (run m (replicate j held_done)) ≡ Some first

awaited_at : (m : State) (j : ℕ) → suc j ≤ length (ready_in m) → AwaitedAt m j
awaited_at m zero some = let a = awaited_in m zero some in record { first = a.first; is = a.front_is }
awaited_at m (suc j) some =
    let a = awaited_in m (suc j) some in
    let k = awaited_at (step m held_done) j (fewer m (suc j) a some) in
    record { first = k.first; is = k.is }

-- an act adds one record at most
act_adds_few : (a : Act) (i : Incoming) → length (records_of a i) ≤ 1
act_adds_few acts.Nothing i = omega arith
act_adds_few (acts.Apply n) i = omega arith
act_adds_few (acts.Skip from count) i = omega arith
act_adds_few acts.Negotiated i = omega arith
act_adds_few (acts.PeerFinished last) i = omega arith
act_adds_few (acts.Told from count) i = omega arith
act_adds_few acts.Ended i = omega arith

adds_are : (now : ℕ) (l : Line) (t : TakenFrame) → adds now l t ≡ records_of (reply_at now l t).act t.incoming ++ applies (ready_behind now l t)
unfolding adds
adds_are now l t = refl

-- within the records of one frame
frame_within : (now : ℕ) (l : Line) (t : TakenFrame) (r : InboxRecord) (records : List InboxRecord) → IsTaken now l t → Shorter (adds now l t) (r ∷ records) → CutWithin now l (r ∷ records)
frame_within now l t r records k s = by_split (split act (applies ready) (r ∷ records) (s.next ∷ s.more) (sym (adds_are now l t) ∙ s.is))
  where
    act : List InboxRecord
    act = records_of (reply_at now l t).act t.incoming

    ready : List Numbered
    ready = ready_behind now l t

    by_split : Longer act (applies ready) (r ∷ records) (s.next ∷ s.more) ⊎ Shorter act (r ∷ records) → CutWithin now l (r ∷ records)
    by_split (inr x) = absurd (omega (arith, act_adds_few (reply_at now l t).act t.incoming, ap (λ (rs : List InboxRecord). length rs) x.is, length-append (r ∷ records) (x.next ∷ x.more)))
    by_split (inl x) = record {
      frames = [];
      refusal = Some (of_held u a.first);
      taken = tt;
      is = record {
        next = record { may = k.next.may; begins = k.next.begins; at = k.next.at; is = k.next.is };
        recorded = k.recorded;
        awaits = ap (λ (m : State). front_of m) (run_append l.machine (act_calls now t) (replicate j held_done)) ∙ a.is;
      };
      adds = ap (λ (rs : List InboxRecord). act ++ rs) (first_applies ready x.more (s.next ∷ s.more) x.rest) ∙ sym x.is;
    }
      where
        j : ℕ
        j = length x.more

        u : TakenFrame
        u = record t { helds = j }

        few : suc j ≤ length ready
        few = omega (arith, length-map ready InboxRecord.apply, ap (λ (rs : List InboxRecord). length rs) x.rest, length-append x.more (s.next ∷ s.more))

        a : AwaitedAt (run l.machine (act_calls now t)) j
        a = awaited_at (run l.machine (act_calls now t)) j few

pub cut_within : (now : ℕ) (l : Line) (frames : List TakenFrame) (records rest : List InboxRecord) → AreTaken now l frames → added now l frames ≡ records ++ rest → CutWithin now l records
cut_within now l [] [] rest taken e = record { frames = []; refusal = None; taken = tt; is = tt; adds = refl }
cut_within now l [] (r ∷ records) rest taken e = absurd (cc e)
cut_within now l (t ∷ later) [] rest taken e = record { frames = []; refusal = None; taken = tt; is = tt; adds = refl }
cut_within now l (t ∷ later) (r ∷ records) rest taken e =
    by_split (λ rs f. cut_within now (line_after now l t) later rs rest taken.1 f) (split (adds now l t) (added now (line_after now l t) later) (r ∷ records) rest e)
  where
    by_split : ((rs : List InboxRecord) → added now (line_after now l t) later ≡ rs ++ rest → CutWithin now (line_after now l t) rs)
        → Longer (adds now l t) (added now (line_after now l t) later) (r ∷ records) rest ⊎ Shorter (adds now l t) (r ∷ records) → CutWithin now l (r ∷ records)
    by_split behind (inr s) = frame_within now l t r records taken.0 s
    by_split behind (inl x) =
        let k = behind x.more x.rest in
        record {
          frames = t ∷ k.frames;
          refusal = k.refusal;
          taken = (taken.0, k.taken);
          is = k.is;
          adds = append_assoc (adds now l t) (added now (line_after now l t) k.frames) (stood_of now (lines_after now (line_after now l t) k.frames) k.refusal)
              ∙ (ap (λ (rs : List InboxRecord). adds now l t ++ rs) k.adds ∙ sym x.is);
        }

-- Where a call of the inbox's disk failed, and this beginning of what it tried stands all the same: the turn is also one that was cut short behind that
pub record CutBehind (old : Line) (now : ℕ) (received : List ℕ) (records : List InboxRecord) : Type 0 where
  pub frames : List TakenFrame
  pub refusal : Option Refusal
  pub cut : IsCutShort now received frames refusal old
  pub adds : adds_cut now (line_received old now received cut.got) frames refusal ≡ records

pub cut_behind : (old : Line) (now : ℕ) (received : List ℕ) (frames : List TakenFrame) (refusal : Option Refusal) (tried kept rest : List InboxRecord) → (k : IsCutShort now received frames refusal old)
    → IsTried now (line_received old now received k.got) frames refusal tried → kept ++ rest ≡ tried
    → CutBehind old now received (adds_cut now (line_received old now received k.got) frames refusal ++ kept)
cut_behind old now received frames refusal tried kept rest k i e =
    let l : Line = line_received old now received k.got in
    let front : List InboxRecord = adds_cut now l frames refusal in
    let all : added now l (frames ++ i.later) ≡ (front ++ kept) ++ (rest ++ i.untried) =
    i.adds ∙ (ap (λ (rs : List InboxRecord). front ++ (rs ++ i.untried)) (sym e)
    ∙ (ap (λ (rs : List InboxRecord). front ++ rs) (append_assoc kept rest i.untried) ∙ sym (append_assoc front kept (rest ++ i.untried)))) in
    let w = cut_within now l (frames ++ i.later) (front ++ kept) (rest ++ i.untried) i.taken all in
    record { frames = w.frames; refusal = w.refusal; cut = record { got = k.got; taken = w.taken; is = w.is }; adds = w.adds }
