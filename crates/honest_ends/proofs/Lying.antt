-- What a reader holds behind a message that it reads.
use Rattle.std.proofs.Common.{◌≡◌, ℕ, ◌+◌, ◌≤◌, ◌||◌, Bool, true, false, List, [], ◌∷◌, Option, None, IsSome, refl, sym, ap, subst, ◌∙◌, true≢false}
use Rattle.session_model.specs.Inbox.{Numbered}
use Rattle.fixp_shake.specs.declared.config.EndConfig.{EndConfig}
use Rattle.fixp_shake.specs.Flows.{is_recoverable}
use Rattle.fixp_shake.specs.Phases.{is_established, is_closing, is_shaken}
use Rattle.fixp_replies.specs.declared.act.Ending.{Ending}
use Rattle.fixp_replies.specs.declared.facts.Facts.{Facts}
use Rattle.fixp_replies.specs.Facts.{Around}
use Rattle.fixp_replies.specs.Incoming.{Incoming, payload_in}
use Rattle.fixp_replies.specs.Outcomes.{Outcome}
use Rattle.fixp_replies.specs.Replies.{reply_of}
use Rattle.fixp_machine.specs.Machine.{State, around, run, held_until, held_with, IsDrained}
use Rattle.fixp_machine.proofs.Tests.{is_done}
use Rattle.connection_laws.specs.Writing.{Piece}
use Rattle.two_ends.specs.Reading.{incoming_of}
use Rattle.two_ends.proofs.Refused.{closing_is_deaf}
use Rattle.honest_ends.specs.Worlds.{reading, written}
use Rattle.honest_ends.specs.Numbers.{IsFlowing, Peer, HeldBelow, Before, After}
use Rattle.honest_ends.proofs.Held.{holds_so}
use Rattle.honest_ends.proofs.Moving.{Reads, reads_as}
use Rattle.honest_ends.proofs.Serving.{by_bool}
use Rattle.honest_ends.proofs.Windowing.{Window, holds_none}
use Rattle.honest_ends.proofs.Expected.{reader_expects}
use Rattle.honest_ends.proofs.Awaiting.{Ready}
use Rattle.honest_ends.proofs.Past.{Lies, lies_empty, held_below, lies_reads}
use Rattle.honest_ends.proofs.Reading.{expected}

-- what holds of an end whose connection goes on and which has not begun to close it
abbrev pub WhileOpen : (Facts → List Numbered → Type 0) → State → Type 0
WhileOpen P s = s.ending ≡ None → is_closing s.facts.connection.phase ≡ false → P s.facts s.held

abbrev pub LiesSo : State → Type 0
LiesSo s = WhileOpen Lies s

pub lies_behind : (s : State) (theirs : EndConfig) (p : Piece) (left : List Piece) (k : ℕ) (m : Option ℕ) (at now : ℕ) → Peer s.config theirs → (is_shaken s.facts.connection.phase ≡ true → IsFlowing theirs p)
    → Window s → IsDrained s → s.ending ≡ None → (is_closing s.facts.connection.phase ≡ false → Ready s.config s.facts (p ∷ left) k m) → k ≤ s.most + 1 → LiesSo s → LiesSo (run s (reading p at now))
lies_behind s theirs p left k m at now are flows window drained going ready high lies none yet =
    subst (λ (g : Facts). Lies g t.held) (sym rd.facts) (subst (λ (ms : List Numbered). Lies o.next ms) (sym rd.held)
    (subst (λ (e : Option Ending). Lies o.next (held_until e (held_with o.holds (payload_in i) s.held))) (sym goes_on) (by_bool _ (is_closing f.connection.phase) closing opened)))
  where
    f : Facts
    f = s.facts

    x : Around
    x = around s at now

    i : Incoming
    i = incoming_of p

    o : Outcome
    o = reply_of x f i

    t : State
    t = run s (reading p at now)

    rd : Reads s i o t (written s (reading p at now))
    rd = reads_as s p at now

    goes_on : o.ending ≡ None
    goes_on = sym rd.ending ∙ none

    closing : is_closing f.connection.phase ≡ true → Lies o.next (held_with o.holds (payload_in i) s.held)
    closing c = absurd (true≢false (sym c ∙ (ap (λ (g : Facts). is_closing g.connection.phase) (sym (rd.facts ∙ (closing_is_deaf x f i c).next)) ∙ yet)))

    nothing : s.held ≡ [] → (IsSome o.holds → ⊥) → Lies o.next (held_with o.holds (payload_in i) s.held)
    nothing empty never = lies_empty o.next (held_with o.holds (payload_in i) s.held) (ap (λ (n : Option ℕ). held_with n (payload_in i) s.held) (holds_none x f i never) ∙ empty)

    now_established : is_closing f.connection.phase ≡ false → is_established f.connection.phase ≡ true → is_recoverable s.config.peer_flow ≡ true → Lies o.next (held_with o.holds (payload_in i) s.held)
    now_established open_yet est rec =
        let shaken = is_done f.connection.phase est in
        let l = lies going open_yet in
        let below : HeldBelow x f = held_below f s.held l in
        let before : Before x f p = expected x f p left k m shaken rec below (ready open_yet) high in
        let h : After x f p o = (reader_expects x f theirs p are est (flows shaken)).0 before in
        lies_reads x f p s.held rec refl shaken before.line l drained before.fits h goes_on

    opened : is_closing f.connection.phase ≡ false → Lies o.next (held_with o.holds (payload_in i) s.held)
    opened open_yet = by_bool _ (is_established f.connection.phase)
        (λ est. by_bool _ (is_recoverable s.config.peer_flow) (now_established open_yet est)
        (λ other. nothing (window.other other) (λ some. true≢false (sym (holds_so x f i some).flow ∙ other))))
        (λ early. nothing (window.opening (ap (λ (b : Bool). b || is_closing f.connection.phase) early ∙ open_yet)) (λ some. true≢false (sym (holds_so x f i some).established ∙ early)))
