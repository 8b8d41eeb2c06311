-- What each step of the feeder leaves.
use Rattle.std.proofs.Common.{◌≡◌, ◌≢◌, ◌⊎◌, inl, inr, ℕ, ◌-◌, ◌<◌, ◌≤◌, List, [], ◌∷◌, ◌++◌, length, slice_index_or, refl, sym, ap, subst, ◌∙◌, arith}
use Rattle.std.specs.Prelude.{Option, Result, Ok, Err, OnOk, OnErr, IfErr}
use Rattle.std.specs.Io.KnownBytes.{Appends}
use Rattle.gw_outside.specs.Faults.{TakesFront}
use Rattle.jr_dated.specs.declared.journal.Journal.{Ghosts}
use Rattle.gate_turn.specs.Rule.{In}
use Rattle.gate_senders.specs.declared.gate.Gate.{Gate}
use Rattle.gate_senders.specs.declared.submission.Submission.{Submission}
use Rattle.gate_staff.specs.declared.sender.Sender.{Sender}
use Rattle.plan_text.specs.Plans.{Gives}
use Rattle.plan_feed.specs.Pieces.{Messages, Takes}
use Rattle.conn_accepted.specs.declared.why.Why.{Why}
use Rattle.conn_accepted.specs.Lines.{refused_line}
use Rattle.conn_feed.specs.declared.end.FeedEnd.{FeedEnd}
use Rattle.conn_feed.specs.declared.end.FeedEnd.TheVariants as ends
use Rattle.conn_feed.specs.declared.feeder.Feeder.{Feeder}
use Rattle.conn_feed.specs.Words.{refused, IsWhy, IsClear}
use Rattle.conn_feed.specs.Fed.{parts_of, part_at, AtSeats}
use Rattle.conn_feed.specs.Ends.{Point, Answered}
use Rattle.conn_feed.specs.Course.{Went, Stands, EndedSo, GoesOn, EndsSo, GoesOnAt, EndsAt, IsSound, Told, piece_text, ended_by, point_of, count_of}
use Rattle.conn_feed.proofs.Making.{Moves}
use Rattle.conn_feed.proofs.Moving.{moves, own_is}
use Rattle.conn_feed.proofs.Ending.{halted, answered_more, front_whole, refused_on, refused_over, holds_more, stands_on, over_at, none_at}

pub on_ok : {T E : Type 0} (r : Result T E) (P Q : Type 0) → (P → Q) → OnOk r P → OnOk r Q
on_ok (Ok _) P Q f p = f p
on_ok (Err _) P Q f p = tt

same_sender : (piece : Messages) (sender size : ℕ) → Takes piece sender size → piece.payloads ≢ [] → sender ≡ piece.sender
same_sender piece sender size (inl none) some = absurd (some none)
same_sender piece sender size (inr b) some = b.same

some_long : (ps : List (List ℕ)) → ps ≢ [] → 0 < length ps
some_long [] h = absurd (h refl)
some_long (p ∷ ps) h = omega arith

module _ {J K : Type 0} {G : Ghosts J} where
  -- ---- it ends where it stands

  counted : (taken : K → Option (List ℕ)) (f : Feeder J K G) (start : Point) (lines : List (List ℕ)) (end : FeedEnd) → length start.parts ≡ count_of f
      → Answered (count_of f) start (point_of taken f) lines end → EndedSo taken start f lines end
  counted taken f start lines end many a = subst (λ n. Answered n start (point_of taken f) lines end) (sym many) a

  pub memory_at : (taken : K → Option (List ℕ)) (f : Feeder J K G) → EndsSo taken f f ends.Memory
  memory_at taken f start lines s =
      counted taken f start lines ends.Memory s.many
      (halted (count_of f) start (point_of taken f) f.piece f.number lines ends.Memory (λ text told. front_whole start.taken (taken f.accepted) text told) tt (λ entries bytes e. cc e) s.stands)

  pub stopped_at : (taken : K → Option (List ℕ)) (f : Feeder J K G) → EndsSo taken f f ends.Stopped
  stopped_at taken f start lines s =
      counted taken f start lines ends.Stopped s.many (halted (count_of f) start (point_of taken f) f.piece f.number lines ends.Stopped (λ text told. told) tt (λ entries bytes e. cc e) s.stands)

  pub input_at : (taken : K → Option (List ℕ)) (f : Feeder J K G) → EndsSo taken f f ends.Input
  input_at taken f start lines s =
      counted taken f start lines ends.Input s.many (halted (count_of f) start (point_of taken f) f.piece f.number lines ends.Input (λ text told. told) tt (λ entries bytes e. cc e) s.stands)

  pub ended_at : (taken : K → Option (List ℕ)) (f : Feeder J K G) → EndsSo taken f f ends.Ended
  ended_at taken f start lines s =
      counted taken f start lines ends.Ended s.many (halted (count_of f) start (point_of taken f) f.piece f.number lines ends.Ended (λ text told. told) tt (λ entries bytes e. cc e) s.stands)

  -- ---- one step behind another

  pub ends_after : (taken : K → Option (List ℕ)) (f m g : Feeder J K G) (end : FeedEnd) → GoesOn taken f m → EndsSo taken m g end → EndsSo taken f g end
  ends_after taken f m g end goes over start lines s = over start lines (goes start lines s)

  pub ends_at_line : (taken : K → Option (List ℕ)) (f g : Feeder J K G) (end : FeedEnd) (number : ℕ) (line : List ℕ) → EndsSo taken f g end → EndsAt taken number f g line end
  ends_at_line taken f g end number line over start lines e s = answered_more (length start.parts) start (point_of taken g) lines (line ∷ []) end (over start lines s)

  pub at_goes_after : (taken : K → Option (List ℕ)) (f m g : Feeder J K G) (number : ℕ) (line : List ℕ) → GoesOn taken f m → GoesOnAt taken number m g line → GoesOnAt taken number f g line
  at_goes_after taken f m g number line goes at start lines e s = at start lines e (goes start lines s)

  pub at_ends_after : (taken : K → Option (List ℕ)) (f m g : Feeder J K G) (end : FeedEnd) (number : ℕ) (line : List ℕ) → GoesOn taken f m → EndsAt taken number m g line end
      → EndsAt taken number f g line end
  at_ends_after taken f m g end number line goes at start lines e s = at start lines e (goes start lines s)

  pub pass_goes : (taken : K → Option (List ℕ)) (f m g : Feeder J K G) (number : ℕ) (why : Why) (r : Result (Unit {0}) FeedEnd) → GoesOn taken f m → count_of m ≡ count_of f
      → OnOk r ((line : List ℕ) → IsWhy (count_of m) line why → GoesOnAt taken number m g line) → OnOk r ((line : List ℕ) → IsWhy (count_of f) line why → GoesOnAt taken number f g line)
  pass_goes taken f m g number why (Err _) goes many at = tt
  pass_goes taken f m g number why (Ok _) goes many at = λ line is. at_goes_after taken f m g number line goes (at line (subst (λ n. IsWhy n line why) (sym many) is))

  pub pass_over : (taken : K → Option (List ℕ)) (f m g : Feeder J K G) (number : ℕ) (why : Why) (r : Result (Unit {0}) FeedEnd) → GoesOn taken f m → count_of m ≡ count_of f
      → IfErr r (λ end. (line : List ℕ) → IsWhy (count_of m) line why → EndsAt taken number m g line end)
      → IfErr r (λ end. (line : List ℕ) → IsWhy (count_of f) line why → EndsAt taken number f g line end)
  pass_over taken f m g number why (Ok _) goes many at = at
  pass_over taken f m g number why (Err end) goes many at = λ line is. at_ends_after taken f m g end number line goes (at line (subst (λ n. IsWhy n line why) (sym many) is))

  -- ---- the same senders

  stands_in : (taken : K → Option (List ℕ)) (start : Point) (f g : Feeder J K G) (piece : Messages) (number : ℕ) (lines : List (List ℕ)) → g.senders.items ≡ f.senders.items → g.piece ≡ piece
      → g.number ≡ number → Stands (count_of f) start (record { parts = parts_of f.senders.items; taken = taken g.accepted }) piece number lines
      → Stands (count_of g) start (point_of taken g) g.piece g.number lines
  stands_in taken start f g piece number lines senders piece_is number_is s =
      subst (λ (xs : List (Sender J G)). Stands (length xs) start (record { parts = parts_of xs; taken = taken g.accepted }) g.piece g.number lines) (sym senders)
      (subst (λ (p : Messages). Stands (count_of f) start (record { parts = parts_of f.senders.items; taken = taken g.accepted }) p g.number lines) (sym piece_is)
      (subst (λ (n : ℕ). Stands (count_of f) start (record { parts = parts_of f.senders.items; taken = taken g.accepted }) piece n lines) (sym number_is) s))

  ended_in : (taken : K → Option (List ℕ)) (start : Point) (f g : Feeder J K G) (lines : List (List ℕ)) (end : FeedEnd) → length start.parts ≡ count_of f → g.senders.items ≡ f.senders.items
      → Answered (count_of f) start (record { parts = parts_of f.senders.items; taken = taken g.accepted }) lines end → EndedSo taken start g lines end
  ended_in taken start f g lines end many senders a =
      subst (λ (n : ℕ). Answered n start (point_of taken g) lines end) (sym many)
      (subst (λ (xs : List (Sender J G)). Answered (count_of f) start (record { parts = parts_of xs; taken = taken g.accepted }) lines end) (sym senders) a)

  -- memory ran out behind a step that changed no sender and told nothing
  pub memory_in : (taken : K → Option (List ℕ)) (f g : Feeder J K G) → g.senders.items ≡ f.senders.items → taken g.accepted ≡ taken f.accepted → EndsSo taken f g ends.Memory
  memory_in taken f g senders accepted start lines s =
      ended_in taken start f g lines ends.Memory s.many senders
      (subst (λ (t : Option (List ℕ)). Answered (count_of f) start (record { parts = parts_of f.senders.items; taken = t }) lines ends.Memory) (sym accepted)
      (subst (λ (n : ℕ). Answered n start (point_of taken f) lines ends.Memory) s.many (memory_at taken f start lines s)))

  -- ---- a line that is refused

  pub refuse_goes : (taken : K → Option (List ℕ)) (f g : Feeder J K G) (number : ℕ) (why : Why) (r : Result (Unit {0}) FeedEnd) (text : List ℕ) → f.piece.payloads ≡ [] → IsClear (refused why)
      → text ≡ refused_line (count_of f) number why → g.senders.items ≡ f.senders.items → g.piece ≡ f.piece → g.number ≡ f.number
      → OnOk r (Appends (taken f.accepted) (taken g.accepted) text) → OnOk r ((line : List ℕ) → IsWhy (count_of f) line why → GoesOnAt taken number f g line)
  refuse_goes taken f g number why (Err _) text none clear is senders piece numbers told = tt
  refuse_goes taken f g number why (Ok _) text none clear is senders piece numbers told = λ line wrong start lines e s. record {
    many = s.many ∙ sym (ap length senders);
    stands = stands_in taken start f g f.piece f.number (lines ++ line ∷ []) senders piece numbers
        (refused_on (count_of f) start (point_of taken f) f.piece f.number lines s.stands (taken g.accepted) line number why none e wrong clear (subst (Appends (taken f.accepted) (taken g.accepted)) is told));
  }

  pub refuse_over : (taken : K → Option (List ℕ)) (f g : Feeder J K G) (number : ℕ) (why : Why) (r : Result (Unit {0}) FeedEnd) (text : List ℕ) → f.piece.payloads ≡ [] → IsClear (refused why)
      → text ≡ refused_line (count_of f) number why → g.senders.items ≡ f.senders.items → IfErr r (λ end. end ≡ ends.Accepted)
      → OnErr r (TakesFront (taken f.accepted) (taken g.accepted) text) → IfErr r (λ end. (line : List ℕ) → IsWhy (count_of f) line why → EndsAt taken number f g line end)
  refuse_over taken f g number why (Ok _) text none clear is senders which told = tt
  refuse_over taken f g number why (Err end) text none clear is senders which told = λ line wrong start lines e s.
      subst (EndedSo taken start g (lines ++ line ∷ [])) (sym which)
      (ended_in taken start f g (lines ++ line ∷ []) ends.Accepted s.many senders
      (refused_over (count_of f) start (point_of taken f) f.piece f.number lines s.stands (taken g.accepted) line number why none e wrong clear (subst (TakesFront (taken f.accepted) (taken g.accepted)) is told)))

  -- ---- one message more waits

  pub hold_goes : (taken : K → Option (List ℕ)) (f g : Feeder J K G) (number sender size : ℕ) (payload : List ℕ) → Takes f.piece sender size
      → g.piece ≡ record { sender = sender; payloads = f.piece.payloads ++ payload ∷ [] } → g.senders.items ≡ f.senders.items → taken g.accepted ≡ taken f.accepted
      → (f.piece.payloads ≡ [] → g.number ≡ number) → (f.piece.payloads ≢ [] → g.number ≡ f.number)
      → (line : List ℕ) → Gives (count_of f) line (record { sender = sender; payload = payload }) → GoesOnAt taken number f g line
  hold_goes taken f g number sender size payload takes piece senders accepted fresh kept line gives start lines e s = record {
    many = s.many ∙ sym (ap length senders);
    stands = stands_in taken start f g (record { sender = sender; payloads = f.piece.payloads ++ payload ∷ [] }) g.number (lines ++ line ∷ []) senders piece refl
        (subst (λ (t : Option (List ℕ)). Stands (count_of f) start (record { parts = parts_of f.senders.items; taken = t }) (record { sender = sender; payloads = f.piece.payloads ++ payload ∷ [] }) g.number (lines ++ line ∷ [])) (sym accepted)
        (holds_more (count_of f) start (point_of taken f) f.piece f.number lines s.stands (record { sender = sender; payloads = f.piece.payloads ++ payload ∷ [] }) number g.number line payload refl
        (same_sender f.piece sender size takes) gives e kept fresh));
  }

  -- what came of one line
  pub given_goes : (taken : K → Option (List ℕ)) (f g : Feeder J K G) (number n sender : ℕ) (payload line : List ℕ) (r : Result (Unit {0}) FeedEnd) → n ≡ count_of f
      → Gives n line (record { sender = sender; payload = payload }) → OnOk r ((line : List ℕ) → Gives (count_of f) line (record { sender = sender; payload = payload }) → GoesOnAt taken number f g line)
      → OnOk r (GoesOnAt taken number f g line)
  given_goes taken f g number n sender payload line (Err _) is gives h = tt
  given_goes taken f g number n sender payload line (Ok _) is gives h = h line (subst (λ (k : ℕ). Gives k line (record { sender = sender; payload = payload })) is gives)

  pub line_over : (taken : K → Option (List ℕ)) (f g : Feeder J K G) (number : ℕ) (line : List ℕ) (r : Result (Unit {0}) FeedEnd) → IfErr r (λ end. (line : List ℕ) → EndsAt taken number f g line end)
      → IfErr r (EndsAt taken number f g line)
  line_over taken f g number line (Ok _) h = tt
  line_over taken f g number line (Err end) h = h line

  pub wrong_goes : (taken : K → Option (List ℕ)) (f g : Feeder J K G) (number n : ℕ) (why : Why) (line : List ℕ) (r : Result (Unit {0}) FeedEnd) → n ≡ count_of f → IsWhy n line why
      → OnOk r ((line : List ℕ) → IsWhy (count_of f) line why → GoesOnAt taken number f g line) → OnOk r (GoesOnAt taken number f g line)
  wrong_goes taken f g number n why line (Err _) is wrong h = tt
  wrong_goes taken f g number n why line (Ok _) is wrong h = h line (subst (λ (k : ℕ). IsWhy k line why) is wrong)

  pub wrong_over : (taken : K → Option (List ℕ)) (f g : Feeder J K G) (number n : ℕ) (why : Why) (line : List ℕ) (r : Result (Unit {0}) FeedEnd) → n ≡ count_of f → IsWhy n line why
      → IfErr r (λ end. (line : List ℕ) → IsWhy (count_of f) line why → EndsAt taken number f g line end) → IfErr r (EndsAt taken number f g line)
  wrong_over taken f g number n why line (Ok _) is wrong h = tt
  wrong_over taken f g number n why line (Err end) is wrong h = h line (subst (λ (k : ℕ). IsWhy k line why) is wrong)

  pub add_goes : (taken : K → Option (List ℕ)) (f m g : Feeder J K G) (number sender size : ℕ) (payload : List ℕ) (r : Result (Unit {0}) FeedEnd) → GoesOn taken f m → count_of m ≡ count_of f
      → Takes m.piece sender size → OnOk r (g.piece ≡ record { sender = sender; payloads = m.piece.payloads ++ payload ∷ [] }) → g.senders.items ≡ m.senders.items
      → taken g.accepted ≡ taken m.accepted → (m.piece.payloads ≡ [] → g.number ≡ number) → (m.piece.payloads ≢ [] → g.number ≡ m.number)
      → OnOk r ((line : List ℕ) → Gives (count_of f) line (record { sender = sender; payload = payload }) → GoesOnAt taken number f g line)
  add_goes taken f m g number sender size payload (Err _) goes many takes piece senders accepted fresh kept = tt
  add_goes taken f m g number sender size payload (Ok _) goes many takes piece senders accepted fresh kept = λ line gives.
      at_goes_after taken f m g number line goes
      (hold_goes taken m g number sender size payload takes piece senders accepted fresh kept line
      (subst (λ (n : ℕ). Gives n line (record { sender = sender; payload = payload })) (sym many) gives))

  pub add_over : (taken : K → Option (List ℕ)) (f m g : Feeder J K G) (number : ℕ) (r : Result (Unit {0}) FeedEnd) → GoesOn taken f m → g.senders.items ≡ m.senders.items
      → taken g.accepted ≡ taken m.accepted → IfErr r (λ end. end ≡ ends.Memory) → IfErr r (λ end. (line : List ℕ) → EndsAt taken number f g line end)
  add_over taken f m g number (Ok _) goes senders accepted which = tt
  add_over taken f m g number (Err end) goes senders accepted which = λ line.
      subst (EndsAt taken number f g line) (sym which) (ends_at_line taken f g ends.Memory number line (ends_after taken f m g ends.Memory goes (memory_in taken m g senders accepted)))

  pub add_sound : (gate : Gate J G) (m g : Feeder J K G) (sender : ℕ) → IsSound gate m → g.senders.items ≡ m.senders.items → (g.piece ≡ m.piece) ⊎ (g.piece.sender ≡ sender) → In (count_of m) sender
      → IsSound gate g
  add_sound gate m g sender sound senders piece inside = record {
    seats = subst (AtSeats gate) (sym senders) sound.seats;
    sender = λ some. subst (λ (xs : List (Sender J G)). In (length xs) g.piece.sender) (sym senders) (by_piece piece some);
  }
    where
      by_piece : (g.piece ≡ m.piece) ⊎ (g.piece.sender ≡ sender) → g.piece.payloads ≢ [] → In (count_of m) g.piece.sender
      by_piece (inl same) some =
          subst (λ (p : Messages). In (count_of m) p.sender) (sym same) (sound.sender (λ none. some (ap (λ (p : Messages). p.payloads) same ∙ none)))
      by_piece (inr is) some = subst (In (count_of m)) (sym is) inside

  -- ---- a piece

  module _ (taken : K → Option (List ℕ)) (gate : Gate J G) (f m g : Feeder J K G) (own : ℕ) (r : Submission) (t : Result (Unit {0}) FeedEnd) (sound : IsSound gate f)
      (some : f.piece.payloads ≢ []) (own_of : (d : Sender J G) → own ≡ (slice_index_or f.senders.items (f.piece.sender - 1) d).done) (went : Went f.senders.items m.senders.items f.piece r)
      (few : length f.piece.payloads ≤ 64) (piece_is : m.piece ≡ f.piece) (number_is : m.number ≡ f.number) (accepted_is : m.accepted ≡ f.accepted) (senders_is : g.senders.items ≡ m.senders.items)
      (told : Told (taken m.accepted) (taken g.accepted) (piece_text (count_of m) m.number own m.piece r) t) where
    of_piece : Moves (parts_of f.senders.items) (parts_of g.senders.items) f.piece.sender f.piece.payloads r
    of_piece = subst (λ (xs : List (Sender J G)). Moves (parts_of f.senders.items) (parts_of xs) f.piece.sender f.piece.payloads r) (sym senders_is)
        (moves gate f.senders.items m.senders.items f.piece r sound.seats (sound.sender some) went)

    own_same : own ≡ length (part_at (parts_of f.senders.items) f.piece.sender).mine
    own_same = own_is gate f.senders.items f.piece.sender own sound.seats (sound.sender some) own_of

    text_is : piece_text (count_of m) m.number own m.piece r ≡ piece_text (count_of f) f.number (length (part_at (parts_of f.senders.items) f.piece.sender).mine) f.piece r
    text_is =
        ap (λ (n : ℕ). piece_text n m.number own m.piece r) went.long ∙ ap (λ (n : ℕ). piece_text (count_of f) n own m.piece r) number_is
        ∙ ap (λ (n : ℕ). piece_text (count_of f) f.number n m.piece r) own_same
        ∙ ap (λ (p : Messages). piece_text (count_of f) f.number (length (part_at (parts_of f.senders.items) f.piece.sender).mine) p r) piece_is

    told_is : Told (taken f.accepted) (taken g.accepted) (piece_text (count_of f) f.number (length (part_at (parts_of f.senders.items) f.piece.sender).mine) f.piece r) t
    told_is = subst (λ (bs : List ℕ). Told (taken f.accepted) (taken g.accepted) bs t) text_is
        (subst (λ (a : K). Told (taken a) (taken g.accepted) (piece_text (count_of m) m.number own m.piece r) t) accepted_is told)

    long : count_of g ≡ count_of f
    long = ap length senders_is ∙ went.long

    pub send_goes : (e : Result (Unit {0}) FeedEnd) → e ≡ ended_by r.refused t → g.piece.payloads ≡ [] → OnOk e (GoesOn taken f g)
    send_goes (Err _) is empty = tt
    send_goes (Ok u) is empty = λ start lines s.
        let n = none_at (count_of f) start (point_of taken f) (point_of taken g) f.piece f.number lines r s.stands of_piece s.many (some_long f.piece.payloads some) few r.refused t u told_is (sym is) in
        record {
          many = s.many ∙ sym long;
          stands = subst (λ (k : ℕ). Stands k start (point_of taken g) g.piece g.number lines) (sym long)
              (stands_on (count_of f) start (point_of taken f) (point_of taken g) f.piece f.number lines r s.stands of_piece s.many (some_long f.piece.payloads some) few g.piece g.number empty n.0 n.1);
        }

    pub send_over : (e : Result (Unit {0}) FeedEnd) → e ≡ ended_by r.refused t → IfErr e (EndsSo taken f g)
    send_over (Ok _) is = tt
    send_over (Err end) is = λ start lines s.
        subst (λ (k : ℕ). Answered k start (point_of taken g) lines end) (sym s.many)
        (over_at (count_of f) start (point_of taken f) (point_of taken g) f.piece f.number lines r s.stands of_piece s.many (some_long f.piece.payloads some) few r.refused t end refl told_is (sym is))
