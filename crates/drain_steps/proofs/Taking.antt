-- How many of the messages under way to it an end takes in a turn.
use Rattle.std.proofs.Common.{◌≡◌, ◌⊎◌, inl, inr, ℕ, ◌+◌, ◌*◌, ◌-◌, ◌<◌, ◌≤◌, ◌&&◌, ◌||◌, nat_lt, Bool, true, false, List, [], ◌∷◌, ◌++◌, length, take, Option, Some, None, refl, sym, ap, subst, ◌∙◌, arith, zero, suc, length-append, true≢false}
use Rattle.std.specs.Prelude.{IsSome, min}
use Rattle.std.specs.List.{AllByRecursion}
use Rattle.std.proofs.lemmas.Bool.{ltb-true, ltb-false}
use Rattle.std.proofs.lemmas.Grind.{flat_map-append}
use Rattle.sofh_frame.specs.Framing.{Frame, First, first_of}
use Rattle.sofh_frame.proofs.FramingLemmas.{frame-begins}
use Rattle.sofh_frame.proofs.SplitLemmas.{length-spelled}
use Rattle.fixp_msgs.specs.Message.{negotiate, negotiation_response, negotiation_reject, establish, establishment_ack, establishment_reject, sequence, unsequenced_heartbeat, retransmit_request, retransmission, retransmit_reject, applied, not_applied, finished_sending, finished_receiving, terminate}
use Rattle.gw_links.specs.declared.link.Got.{Got}
use Rattle.gw_links.specs.Links.{LinkTold, count_of}
use Rattle.conn_turns.specs.Lines.{Line, has_begun}
use Rattle.conn_turns.specs.Frames.{is_whole, IsDone}
use Rattle.conn_turns.specs.Exact.{Received, most_held}
use Rattle.connection_laws.specs.Writing.{Piece, said, entry, bytes_of_piece, bytes_written}
use Rattle.connection_laws.specs.Framed.{IsLegalPiece}
use Rattle.connection_laws.proofs.Framing.{IsFrameOf, frame_of_message, frame_of_entry}
use Rattle.honest_ends.proofs.Serving.{by_bool}
use Rattle.drain_ends.specs.Acting.{is_beat, all_beats, is_sequence, has_sequence}

-- one message is one frame
record Framed (p : Piece) : Type 0 where
  frame : Frame
  is : IsFrameOf p frame

framed : (p : Piece) → IsLegalPiece p → Framed p
framed (said m) legal = record { frame = _; is = frame_of_message m legal }
framed (entry payload) legal = record { frame = legal.frame; is = frame_of_entry payload legal }

piece_most : (p : Piece) → IsLegalPiece p → length (bytes_of_piece p) ≤ 16390
piece_most p legal =
    let f = framed p legal in
    let size = ap length (sym f.is.bytes) ∙ length-spelled f.frame in
    let most = f.is.admissible.most in
    omega (arith, size, most)

-- a heartbeat has 22 bytes at most
length-sequence : (next : ℕ) → length (bytes_of_piece (said (sequence next))) ≡ 22
length-sequence next = refl

length-heartbeat : length (bytes_of_piece (said unsequenced_heartbeat)) ≡ 14
length-heartbeat = refl

beat_most : (p : Piece) → is_beat p ≡ true → length (bytes_of_piece p) ≤ 22
beat_most (said (sequence next)) e = let size = length-sequence next in omega (arith, size)
beat_most (said unsequenced_heartbeat) e = let size = length-heartbeat in omega (arith, size)
beat_most (said (negotiate id timestamp flow credentials)) e = absurd (true≢false (sym e))
beat_most (said (negotiation_response id timestamp flow credentials)) e = absurd (true≢false (sym e))
beat_most (said (negotiation_reject id timestamp code reason)) e = absurd (true≢false (sym e))
beat_most (said (establish id timestamp keepalive next expected credentials)) e = absurd (true≢false (sym e))
beat_most (said (establishment_ack id timestamp keepalive next expected)) e = absurd (true≢false (sym e))
beat_most (said (establishment_reject id timestamp code reason)) e = absurd (true≢false (sym e))
beat_most (said (retransmit_request id timestamp first count)) e = absurd (true≢false (sym e))
beat_most (said (retransmission id next timestamp count)) e = absurd (true≢false (sym e))
beat_most (said (retransmit_reject id timestamp code reason)) e = absurd (true≢false (sym e))
beat_most (said (applied first count)) e = absurd (true≢false (sym e))
beat_most (said (not_applied first count)) e = absurd (true≢false (sym e))
beat_most (said (finished_sending id last)) e = absurd (true≢false (sym e))
beat_most (said (finished_receiving id)) e = absurd (true≢false (sym e))
beat_most (said (terminate id code reason)) e = absurd (true≢false (sym e))
beat_most (entry payload) e = absurd (true≢false (sym e))

both_true : (a b : Bool) → (a && b) ≡ true → (a ≡ true) × (b ≡ true)
both_true true b e = (refl, e)
both_true false b e = absurd (true≢false (sym e))

beats_most : (ps : List Piece) → all_beats ps ≡ true → length (bytes_written ps) ≤ 22 * length ps
beats_most [] e = omega arith
beats_most (p ∷ later) e =
    let parts = both_true (is_beat p) (all_beats later) e in
    let one = beat_most p parts.0 in
    let more = beats_most later parts.1 in
    let both = length-append (bytes_of_piece p) (bytes_written later) in
    by_numbers (length (bytes_of_piece p)) (length (bytes_written later)) (length (bytes_written (p ∷ later))) (length later) one more both
  where
    by_numbers : (a b c n : ℕ) → a ≤ 22 → b ≤ 22 * n → c ≡ a + b → c ≤ 22 * suc n
    by_numbers a b c n g h i = omega arith

-- what stands at the front of bytes that hold a message
record Rest (a c : List ℕ) : Type 0 where
  rest : List ℕ
  is : a ≡ c ++ rest

holds_front : (a b c d : List ℕ) → a ++ b ≡ c ++ d → length c ≤ length a → Rest a c
holds_front a b [] d e few = record { rest = a; is = refl }
holds_front [] b (z ∷ c) d e few = absurd (omega (arith, few))
holds_front (y ∷ a) b (z ∷ c) d e few =
    let same : y ≡ z = cc e in
    let more : a ++ b ≡ c ++ d = cc e in
    let k = holds_front a b c d more (omega (arith, few)) in
    record { rest = k.rest; is = ap (λ (n : ℕ). n ∷ a) same ∙ ap (λ (bs : List ℕ). z ∷ bs) k.is }

whole_front : (p : Piece) (bytes more later : List ℕ) → IsLegalPiece p → bytes ++ more ≡ bytes_of_piece p ++ later → length (bytes_of_piece p) ≤ length bytes → is_whole (first_of bytes) ≡ true
whole_front p bytes more later legal e few =
    let f = framed p legal in
    let k = holds_front bytes more (bytes_of_piece p) later e few in
    ap (λ (bs : List ℕ). is_whole (first_of bs)) (k.is ∙ ap (λ (bs : List ℕ). bs ++ k.rest) (sym f.is.bytes)) ∙ ap (λ (x : First). is_whole x) (frame-begins f.frame k.rest f.is.admissible)

-- Behind the messages that it took none is left; or it took as many as a turn takes; its connection has ended; a range began; or the next one does not fit beside them
pub data Took (per_turn : ℕ) (r : Line) (read rest : List Piece) : Type 0 where
  all : rest ≡ [] → Took per_turn r read rest
  number : length read ≡ per_turn → Took per_turn r read rest
  over : IsSome r.machine.ending → Took per_turn r read rest
  begun : has_begun r ≡ true → Took per_turn r read rest
  full : (q : Piece) (later : List Piece) → rest ≡ q ∷ later → most_held < length (bytes_written read) + length (bytes_of_piece q) → Took per_turn r read rest

-- a receive of the whole room, where bytes are left under way: it fills the framer
pub fills_room : (told : LinkTold) (room : ℕ) (received left : List ℕ) (got : Option Got) → Received true (Some told) room received got → told.waits ≡ received ++ left → (length received ≤ room) × (1 ≤ length left → length received ≡ room)
fills_room told room received left None k e = let none = k.0 in let empty = ap length k.1 in (omega (arith, none, empty), λ _. omega (arith, none, empty))
fills_room told room received left (Some got) k e =
    let counts = k.counts in
    let lesser = k.lesser refl in
    let waits = ap length e ∙ length-append received left in
    (by_most (length received) (count_of got) room (length told.waits) (length left) counts lesser waits, λ some. by_some (length received) (count_of got) room (length told.waits) (length left) counts lesser waits some)
  where
    by_most : (n c r w l : ℕ) → n ≡ c → c ≡ min r w → w ≡ n + l → n ≤ r
    by_most n c r w l g h i = omega arith

    by_some : (n c r w l : ℕ) → n ≡ c → c ≡ min r w → w ≡ n + l → 1 ≤ l → n ≡ r
    by_some n c r w l g h i s = omega arith

pub took : (per_turn : ℕ) (r : Line) (told : LinkTold) (held received left : List ℕ) (got : Option Got) (read rest : List Piece) → AllByRecursion IsLegalPiece rest → length held ≤ most_held
    → ((room : ℕ) → room + length held ≡ most_held → Received true (Some told) room received got) → told.waits ≡ received ++ left
    → (held ++ received) ++ left ≡ bytes_written (read ++ rest) → r.held ++ left ≡ bytes_written rest → r.per_turn ≡ per_turn → IsDone (length read) r → Took per_turn r read rest
took per_turn r told held received left got read rest legal fits once waits before behind number_is done = by_done done
  where
    whole_room : (n : ℕ) → n ≤ most_held → (most_held - n) + n ≡ most_held
    whole_room n few = omega (arith, few)

    filled : (length received ≤ most_held - length held) × (1 ≤ length left → length received ≡ most_held - length held)
    filled = fills_room told (most_held - length held) received left got (once (most_held - length held) (whole_room (length held) fits)) waits

    by_rest : (ps : List Piece) → rest ≡ ps → is_whole (first_of r.held) ≡ false → Took per_turn r read rest
    by_rest [] e none = all e
    by_rest (q ∷ later) e none =
        by_bool _ (nat_lt (length r.held) (length (bytes_of_piece q)))
        (λ t. let short = ltb-true (length r.held) (length (bytes_of_piece q)) t in
        full q later e (by_numbers (length held) (length received) (length left) (length (bytes_written read)) (length (bytes_written rest)) (length r.held) (length (bytes_of_piece q)) (length (bytes_written later)) fits filled.1 short sizes behind_size (ap (λ (ps : List Piece). length (bytes_written ps)) e ∙ length-append (bytes_of_piece q) (bytes_written later))))
        (λ f. let long = ltb-false (length r.held) (length (bytes_of_piece q)) f in
        absurd (true≢false (sym (whole_front q r.held left (bytes_written later) q_legal (behind ∙ ap (λ (ps : List Piece). bytes_written ps) e) long) ∙ none)))
      where
        q_legal : IsLegalPiece q
        q_legal = (subst (λ (ps : List Piece). AllByRecursion IsLegalPiece ps) e legal).0

        sizes : length held + length received + length left ≡ length (bytes_written read) + length (bytes_written rest)
        sizes =
            let a = length-append (held ++ received) left in
            let b = length-append held received in
            let c = ap length before ∙ (ap length (flat_map-append bytes_of_piece read rest) ∙ length-append (bytes_written read) (bytes_written rest)) in
            join (length held) (length received) (length left) (length (held ++ received)) (length ((held ++ received) ++ left)) (length (bytes_written read) + length (bytes_written rest)) a b c
          where
            join : (h n l hn sum both : ℕ) → sum ≡ hn + l → hn ≡ h + n → sum ≡ both → h + n + l ≡ both
            join h n l hn sum both a b c = omega arith

        behind_size : length r.held + length left ≡ length (bytes_written rest)
        behind_size = sym (length-append r.held left) ∙ ap length behind

        by_numbers : (h n l size left_size rh q more : ℕ) → h ≤ 32780 → (1 ≤ l → n ≡ 32780 - h) → rh < q → h + n + l ≡ size + left_size → rh + l ≡ left_size → left_size ≡ q + more → 32780 < size + q
        by_numbers h n l size left_size rh q more few fill short a b c = by_left l refl
          where
            by_left : (k : ℕ) → l ≡ k → 32780 < size + q
            by_left zero e = absurd (omega (arith, e, short, b, c))
            by_left (suc k) e = let f = fill (omega (arith, e)) in omega (arith, f, few, short, a, b)

    by_done : IsDone (length read) r → Took per_turn r read rest
    by_done (inl e) = number (e ∙ number_is)
    by_done (inr (inl e)) = over e
    by_done (inr (inr (inl e))) = begun e
    by_done (inr (inr (inr e))) = by_rest rest refl e

-- heartbeats alone, fewer than a turn takes: none is left behind them, unless the connection has ended or a range began
pub quiet_took : (per_turn : ℕ) (r : Line) (read rest : List Piece) → AllByRecursion IsLegalPiece rest → per_turn ≤ 256 → all_beats read ≡ true → length read < per_turn → Took per_turn r read rest
    → (rest ≡ []) ⊎ (IsSome r.machine.ending ⊎ (has_begun r ≡ true))
quiet_took per_turn r read rest legal most beats few (all e) = inl e
quiet_took per_turn r read rest legal most beats few (number e) = absurd (omega (arith, e, few))
quiet_took per_turn r read rest legal most beats few (over e) = inr (inl e)
quiet_took per_turn r read rest legal most beats few (begun e) = inr (inr e)
quiet_took per_turn r read rest legal most beats few (full q later e large) =
    let q_legal = (subst (λ (ps : List Piece). AllByRecursion IsLegalPiece ps) e legal).0 in
    let one = piece_most q q_legal in
    let more = beats_most read beats in
    absurd (by_numbers (length read) per_turn (length (bytes_written read)) (length (bytes_of_piece q)) few most more one large)
  where
    by_numbers : (n p a b : ℕ) → n < p → p ≤ 256 → a ≤ 22 * n → b ≤ 16390 → 32780 < a + b → ⊥
    by_numbers n p a b g h i j k = omega arith

-- what stands first among the messages under way
pub beats_front : (n : ℕ) (read rest : List Piece) → all_beats read ≡ true → n ≤ length read → all_beats (take n (read ++ rest)) ≡ true
beats_front zero read rest e few = refl
beats_front (suc n) [] rest e few = absurd (omega (arith, few))
beats_front (suc n) (p ∷ read) rest e few =
    let parts = both_true (is_beat p) (all_beats read) e in
    two (is_beat p) (all_beats (take n (read ++ rest))) parts.0 (beats_front n read rest parts.1 (omega (arith, few)))
  where
    two : (a b : Bool) → a ≡ true → b ≡ true → (a && b) ≡ true
    two true true p q = refl
    two true false p q = absurd (true≢false (sym q))
    two false b p q = absurd (true≢false (sym p))

pub beats_all : (n : ℕ) (read : List Piece) → all_beats read ≡ true → all_beats (take n read) ≡ true
beats_all zero read e = refl
beats_all (suc n) [] e = refl
beats_all (suc n) (p ∷ read) e =
    let parts = both_true (is_beat p) (all_beats read) e in
    two (is_beat p) (all_beats (take n read)) parts.0 (beats_all n read parts.1)
  where
    two : (a b : Bool) → a ≡ true → b ≡ true → (a && b) ≡ true
    two true true p q = refl
    two true false p q = absurd (true≢false (sym q))
    two false b p q = absurd (true≢false (sym p))

pub sequence_front : (n : ℕ) (read rest : List Piece) → has_sequence (take n (read ++ rest)) ≡ true → n ≤ length read → has_sequence read ≡ true
sequence_front zero read rest e few = absurd (true≢false (sym e))
sequence_front (suc n) [] rest e few = absurd (omega (arith, few))
sequence_front (suc n) (p ∷ read) rest e few = by_first (λ h. sequence_front n read rest h (omega (arith, few))) (is_sequence p) refl
  where
    by_first : (has_sequence (take n (read ++ rest)) ≡ true → has_sequence read ≡ true) → (b : Bool) → is_sequence p ≡ b → (is_sequence p || has_sequence read) ≡ true
    by_first later true f = ap (λ b. b || has_sequence read) f
    by_first later false f = ap (λ b. b || has_sequence read) f ∙ later (ap (λ b. b || has_sequence (take n (read ++ rest))) (sym f) ∙ e)

pub sequence_all : (n : ℕ) (read : List Piece) → has_sequence (take n read) ≡ true → has_sequence read ≡ true
sequence_all zero read e = absurd (true≢false (sym e))
sequence_all (suc n) [] e = absurd (true≢false (sym e))
sequence_all (suc n) (p ∷ read) e = by_first (λ h. sequence_all n read h) (is_sequence p) refl
  where
    by_first : (has_sequence (take n read) ≡ true → has_sequence read ≡ true) → (b : Bool) → is_sequence p ≡ b → (is_sequence p || has_sequence read) ≡ true
    by_first later true f = ap (λ b. b || has_sequence read) f
    by_first later false f = ap (λ b. b || has_sequence read) f ∙ later (ap (λ b. b || has_sequence (take n read)) (sym f) ∙ e)
