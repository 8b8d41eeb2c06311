-- That a heartbeat is paid for by the time in which its end wrote nothing.
use Rattle.std.proofs.Common.{◌≡◌, ◌⊎◌, inl, inr, ℕ, ◌+◌, ◌*◌, ◌-◌, ◌≤◌, ◌&&◌, min, Bool, true, false, if◌then◌else◌, List, [], ◌∷◌, ◌++◌, length, Option, Some, None, refl, sym, ap, subst, ◌∙◌, arith, true≢false, length-append}
use Rattle.std.specs.Prelude.{is_some, is_none}
use Rattle.std.proofs.lemmas.Bool.{leb-true}
use Rattle.fixp_msgs.specs.Message.{Message}
use Rattle.fixp_msgs.specs.Canonical.{frame_bytes}
use Rattle.fixp_msgs.proofs.Sizes.{frame_bytes_least}
use Rattle.fixp_shake.specs.declared.violation.Violation.{Violation}
use Rattle.fixp_shake.specs.Phases.{is_established}
use Rattle.fixp_replies.specs.declared.act.Ending.{Ending}
use Rattle.fixp_replies.specs.Events.{heartbeat, heartbeats, is_due, lateness}
use Rattle.fixp_machine.specs.Machine.{State, reserve, around, bytes_of, sent_at, wrote, broken_by, step, run}
use Rattle.connection_laws.specs.Writing.{Piece}
use Rattle.honest_ends.specs.Worlds.{written}
use Rattle.conn_turns.specs.Turns.{Turn, Work, only_sends, works, link_lost, cut_short, not_begun, first_calls, sending_calls}
use Rattle.turn_laws.specs.Made.{MadeTurn}
use Rattle.turn_laws.proofs.Working.{turn_makes_calls}
use Rattle.drain_laws.specs.Calls.{beats_at}
use Rattle.drain_turns.specs.Joints.{Half}
use Rattle.turn_laws.specs.Legs.{is_lost}
use Rattle.drain_turns.specs.Turning.{turn_at, TakesTurn}
use Rattle.drain_turns.proofs.Turned.{moment_is, tick_config}
use Rattle.drain_beats.proofs.Calling.{Passes, run_passes, work_later, work_at, work_told}

-- how long an end has written nothing at this moment, in milliseconds, 100 at most; one whose connection has ended 0
abbrev pub silent_for : ℕ → State → ℕ
silent_for now m = if is_some m.ending then 0 else min 100 (now - m.last_sent)

-- it is a millisecond more in the next one at most
pub silent_later : (now : ℕ) (m : State) → silent_for (now + 1) m ≤ silent_for now m + 1
silent_later now m = by_end (is_some m.ending)
  where
    by_end : (b : Bool) → (if b then 0 else min 100 ((now + 1) - m.last_sent)) ≤ (if b then 0 else min 100 (now - m.last_sent)) + 1
    by_end true = omega arith
    by_end false = omega arith

pub silent_most : (now : ℕ) (m : State) → silent_for now m ≤ 100
silent_most now m = by_end (is_some m.ending)
  where
    by_end : (b : Bool) → (if b then 0 else min 100 (now - m.last_sent)) ≤ 100
    by_end true = omega arith
    by_end false = omega arith

-- an end that writes then, or nothing, is silent no longer
pub silent_less : (now : ℕ) (s t : State) (out : List Piece) → Passes now s t out → s.ending ≡ None → silent_for now t ≤ silent_for now s
silent_less now s t out p going = by_end (is_some t.ending)
  where
    before : silent_for now s ≡ min 100 (now - s.last_sent)
    before = ap (λ (e : Option Ending). if is_some e then 0 else min 100 (now - s.last_sent)) going

    by_last : (t.last_sent ≡ s.last_sent) ⊎ ((t.last_sent ≡ now) × (1 ≤ length out)) → min 100 (now - t.last_sent) ≤ min 100 (now - s.last_sent)
    by_last (inl e) = omega (arith, e)
    by_last (inr e) = let at = e.0 in omega (arith, at)

    by_end : (b : Bool) → (if b then 0 else min 100 (now - t.last_sent)) ≤ silent_for now s
    by_end true = omega arith
    by_end false = let h = by_last p.last in omega (arith, h, before)

pub wrote_now : (now before : ℕ) (bytes : List ℕ) → 1 ≤ length bytes → sent_at before bytes now ≡ now
wrote_now now before [] some = absurd (omega (arith, some))
wrote_now now before (b ∷ bytes) some = refl

two_parts : (a b c : Bool) → (a && b && c) ≡ true → c ≡ true
two_parts true true true e = refl
two_parts true true false e = absurd (true≢false (sym e))
two_parts true false c e = absurd (true≢false (sym e))
two_parts false b c e = absurd (true≢false (sym e))

-- a tick pays for its heartbeat
pub tick_pays : (m : State) (now : ℕ) → 100 ≤ m.config.keepalive → 100 * beats_at m now + silent_for now (run m (first_calls now)) ≤ silent_for now m
tick_pays m now interval = by_end m.ending refl
  where
    s : State
    s = step m reserve

    hb : List Message
    hb = heartbeats (around s 0 now) s.facts s.last_sent s.unsent

    beat : State
    beat = wrote (record s { moment = now }) (bytes_of hb) now

    after : State
    after = broken_by beat (lateness (around s 0 now) s.facts s.start s.last_received) now

    none : (ms : List Message) → hb ≡ ms → ms ≡ [] → 100 * length ms + silent_for now after ≤ min 100 (now - m.last_sent)
    none ms is empty =
        let beat_is = ap (λ (ks : List Message). sent_at m.last_sent (bytes_of ks) now) (is ∙ empty) in
        let zero_is = ap length empty in
        let h = by_fault (lateness (around s 0 now) s.facts s.start s.last_received) beat_is in
        by_numbers (length ms) (silent_for now after) (min 100 (now - m.last_sent)) zero_is h
      where
        by_numbers : (n a b : ℕ) → n ≡ 0 → a ≤ b → 100 * n + a ≤ b
        by_numbers n a b e h = omega arith

        by_fault : (v : Option Violation) → beat.last_sent ≡ m.last_sent → silent_for now (broken_by beat v now) ≤ min 100 (now - m.last_sent)
        by_fault None e = by_going (is_some beat.ending)
          where
            by_going : (b : Bool) → (if b then 0 else min 100 (now - beat.last_sent)) ≤ min 100 (now - m.last_sent)
            by_going true = omega arith
            by_going false = omega (arith, e)
        by_fault (Some v) e = omega arith

    some : (x : Message) → hb ≡ x ∷ [] → is_due (around s 0 now) s.last_sent ≡ true → 100 * 1 + silent_for now after ≤ min 100 (now - m.last_sent)
    some x is due =
        let long = leb-true m.config.keepalive (now - m.last_sent) due in
        let h = by_fault (lateness (around s 0 now) s.facts s.start s.last_received) in
        by_numbers m.config.keepalive (now - m.last_sent) (silent_for now after) interval long h
      where
        by_numbers : (k d a : ℕ) → 100 ≤ k → k ≤ d → a ≤ 0 → 100 * 1 + a ≤ min 100 d
        by_numbers k d a e f g = omega arith

        written : 1 ≤ length (bytes_of hb)
        written = let e = ap (λ (ms : List Message). length (bytes_of ms)) is in let least = frame_bytes_least x in let size = length-append (frame_bytes x) [] in omega (arith, e, least, size)

        beat_now : beat.last_sent ≡ now
        beat_now = wrote_now now m.last_sent (bytes_of hb) written

        by_fault : (v : Option Violation) → silent_for now (broken_by beat v now) ≤ 0
        by_fault None = by_going (is_some beat.ending)
          where
            by_going : (b : Bool) → (if b then 0 else min 100 (now - beat.last_sent)) ≤ 0
            by_going true = omega arith
            by_going false = let e = beat_now in omega (arith, e)
        by_fault (Some v) = omega arith

    by_test : (b : Bool) → (is_established s.facts.connection.phase && is_none s.facts.connection.serving && is_due (around s 0 now) s.last_sent) ≡ b
        → hb ≡ (if b then heartbeat (around s 0 now) s.facts ∷ [] else []) → 100 * length hb + silent_for now after ≤ min 100 (now - m.last_sent)
    by_test true t is =
        let e = ap length is in
        let h = some (heartbeat (around s 0 now) s.facts) is (two_parts (is_established s.facts.connection.phase) (is_none s.facts.connection.serving) (is_due (around s 0 now) s.last_sent) t) in
        by_numbers (length hb) (silent_for now after) (min 100 (now - m.last_sent)) e h
      where
        by_numbers : (n a b : ℕ) → n ≡ 1 → 100 * 1 + a ≤ b → 100 * n + a ≤ b
        by_numbers n a b e h = omega arith
    by_test false t is = none hb refl is

    by_unsent : (bytes : List ℕ) → m.unsent ≡ bytes → 100 * length hb + silent_for now after ≤ min 100 (now - m.last_sent)
    by_unsent [] e =
        by_test (is_established s.facts.connection.phase && is_none s.facts.connection.serving && is_due (around s 0 now) s.last_sent) refl
        (ap (λ (bs : List ℕ). heartbeats (around s 0 now) s.facts s.last_sent bs) e)
    by_unsent (b ∷ bytes) e = none hb refl (ap (λ (bs : List ℕ). heartbeats (around s 0 now) s.facts s.last_sent bs) e)

    by_end : (e : Option Ending) → m.ending ≡ e → 100 * beats_at m now + silent_for now (run m (first_calls now)) ≤ silent_for now m
    by_end (Some x) e =
        let none_now = ap (λ (k : Option Ending). if is_some k then 0 else length hb) e in
        let over = ap (λ (k : Option Ending). if is_some k then record s { moment = now } else after) e in
        let still = ap (λ (t : State). silent_for now t) over ∙ ap (λ (k : Option Ending). if is_some k then 0 else min 100 (now - m.last_sent)) e in
        by_numbers (beats_at m now) (silent_for now (run m (first_calls now))) (silent_for now m) none_now still
      where
        by_numbers : (n a b : ℕ) → n ≡ 0 → a ≡ 0 → 100 * n + a ≤ b
        by_numbers n a b e h = omega arith
    by_end None e =
        let beats_is = ap (λ (k : Option Ending). if is_some k then 0 else length hb) e in
        let there = ap (λ (t : State). silent_for now t) (ap (λ (k : Option Ending). if is_some k then record s { moment = now } else after) e) in
        let before = ap (λ (k : Option Ending). if is_some k then 0 else min 100 (now - m.last_sent)) e in
        by_numbers (beats_at m now) (length hb) (silent_for now (run m (first_calls now))) (silent_for now after) (silent_for now m) (min 100 (now - m.last_sent)) beats_is there before (by_unsent m.unsent refl)
      where
        by_numbers : (n k a b c d : ℕ) → n ≡ k → a ≡ b → c ≡ d → 100 * k + b ≤ d → 100 * n + a ≤ c
        by_numbers n k a b c d e f g h = omega arith

-- what a turn makes of its end, as far as heartbeats go: it pays for its heartbeat, and tells all that it applied
pub record Paid (now : ℕ) (m t : State) : Type 0 where
  pub pays : 100 * beats_at m now + silent_for now t ≤ silent_for now m
  pub told : (m.ending ≡ None → m.untold ≡ []) → t.ending ≡ None → t.untold ≡ []
  pub config : t.config ≡ m.config

-- a tick leaves what is to be told, where the connection goes on behind it
tick_told : (m : State) (now : ℕ) → m.ending ≡ None → (run m (first_calls now)).ending ≡ None → (run m (first_calls now)).untold ≡ m.untold
tick_told m now going = by_end (is_some m.ending)
  where
    s : State
    s = step m reserve

    beat : State
    beat = wrote (record s { moment = now }) (bytes_of (heartbeats (around s 0 now) s.facts s.last_sent s.unsent)) now

    by_fault : (v : Option Violation) → (broken_by beat v now).ending ≡ None → (broken_by beat v now).untold ≡ m.untold
    by_fault None on_still = refl
    by_fault (Some v) on_still = absurd (cc on_still)

    by_end : (b : Bool) → (if b then record s { moment = now } else broken_by beat (lateness (around s 0 now) s.facts s.start s.last_received) now).ending ≡ None
        → (if b then record s { moment = now } else broken_by beat (lateness (around s 0 now) s.facts s.start s.last_received) now).untold ≡ m.untold
    by_end true on_still = refl
    by_end false on_still = by_fault (lateness (around s 0 now) s.facts s.start s.last_received) on_still

sends_paid : (now : ℕ) (m : State) (sent : List ℕ) → m.ending ≡ None → 100 ≤ m.config.keepalive → Paid now m (run m (first_calls now ++ sending_calls sent false))
sends_paid now m sent going interval = record {
  pays = tick_pays m now interval;
  told = λ before on_still. tick_told m now going on_still ∙ before going;
  config = tick_config m now;
}

works_paid : (now : ℕ) (m : State) (w : Work) → w.now ≡ now → m.ending ≡ None → (run m (first_calls now)).ending ≡ None → 100 ≤ m.config.keepalive → Paid now m (run m (first_calls w.now ++ work_later w))
works_paid now m w at going on interval = record {
  pays = by_numbers (beats_at m now) (silent_for now t) (silent_for now u) (silent_for now m) (tick_pays m now interval) (silent_less now u t out (passes w.now at) on);
  told = λ before on_still. work_told (run m (first_calls w.now)) w on_still;
  config = (passes w.now at).config ∙ tick_config m now;
}
  where
    u : State
    u = run m (first_calls now)

    t : State
    t = run m (first_calls w.now ++ work_later w)

    out : List Piece
    out = written u (work_later w)

    passes : (n : ℕ) → n ≡ now → Passes now u t out
    passes n e = subst (λ (k : ℕ). Passes k (run m (first_calls k)) t (written (run m (first_calls k)) (work_later w))) at (run_passes w.now (run m (first_calls w.now)) (work_later w) (work_at w))

    by_numbers : (n a b c : ℕ) → 100 * n + b ≤ c → a ≤ b → 100 * n + a ≤ c
    by_numbers n a b c e f = omega arith

pub turn_pays : (now : ℕ) (old new : Half) (way left : List ℕ) → (t : TakesTurn now old new way left) → old.line.machine.ending ≡ None → 100 ≤ old.line.machine.config.keepalive
    → Paid now old.line.machine new.line.machine
turn_pays now old new way left t going interval = by_turn t.turn t.made t.sound
  where
    m : State
    m = old.line.machine

    by_turn : (turn : Turn) → MadeTurn true (turn_at old t.told t.carried t.clock) (turn_at new t.told_then t.carried_then now) turn → is_lost turn ≡ false → Paid now m new.line.machine
    by_turn (only_sends at sent true) k sound = absurd (true≢false sound)
    by_turn (only_sends at sent false) k sound =
        subst (λ (x : State). Paid now m x) (sym (turn_makes_calls old.seen new.seen old.line new.line (only_sends at sent false) k.is))
        (subst (λ (n : ℕ). Paid now m (run m (first_calls n ++ sending_calls sent false))) (sym (moment_is at now m.moment k.moment t.later)) (sends_paid now m sent going interval))
    by_turn (works w) k sound =
        subst (λ (x : State). Paid now m x) (sym (turn_makes_calls old.seen new.seen old.line new.line (works w) k.is))
        (works_paid now m w at going (ap (λ (n : ℕ). (run m (first_calls n)).ending) (sym at) ∙ k.does.0.1) interval)
      where
        at : w.now ≡ now
        at = moment_is w.now now m.moment k.moment t.later
    by_turn (link_lost at) k sound = absurd (true≢false sound)
    by_turn (cut_short at received frames refused) k sound = absurd (true≢false sound)
    by_turn not_begun k sound = absurd (true≢false sound)
