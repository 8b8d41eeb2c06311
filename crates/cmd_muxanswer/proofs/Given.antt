-- Small facts on stages, devices and framers.
use Rattle.std.proofs.Common.{◌≡◌, ℕ, ◌+◌, ◌<◌, List, [], ◌∷◌, ◌++◌, length, Option, Some, None, refl, sym, ◌∙◌, subst, eq-eqb, arith}
use Rattle.std.proofs.lemmas.Grind.{common_steps}
use Rattle.std.proofs.lemmas.List.Sums.{fold-append}
use Rattle.std.proofs.Math.Seq.{take-length}
use Rattle.std.specs.Io.KnownBytes.{Appends, Consumes, IsAtEnd}
use Rattle.sofh_frame.specs.Framing.{rest, first_of}
use Rattle.sofh_frame.specs.Buffered.{written_over}
use Rattle.gw_outside.specs.Faults.{TakesFront}
use Rattle.fixp_shake.specs.declared.config.EndConfig.{EndConfig}
use Rattle.fixp_replies.specs.Replies.{reply_of}
use Rattle.cmd_answer.specs.Answer.{Received, Stage, around_place, answered, next_stage, first_stage, stage_after}

-- one more frame at the end of a session's own answer
pub stage_after-push : (cfg : EndConfig) (received : List Received) (h : Received) → stage_after cfg (received ++ h ∷ []) ≡ next_stage cfg (stage_after cfg received) h
stage_after-push cfg received h = fold-append (next_stage cfg) first_stage received (h ∷ [])

pub next_stage-going : (cfg : EndConfig) (s : Stage) (h : Received) → s.ending ≡ None → next_stage cfg s h ≡ answered s h (reply_of (around_place cfg s.place) s.facts h.incoming)
next_stage-going cfg s h going = rw going refl

-- what was told of an input is what was read of it and what is left
pub told : (before now : Option (List ℕ)) (read input : List ℕ) → Consumes before now read → before ≡ Some input → (left : List ℕ) × (input ≡ read ++ left) × (now ≡ Some left)
told None now read input consumed e = cc
told (Some xs) None read input consumed e = absurd consumed
told (Some xs) (Some ys) read input consumed e = let same : xs ≡ input = cc in (ys, sym same ∙ consumed, refl)

pub at_end : (now : Option (List ℕ)) (left : List ℕ) → IsAtEnd now → now ≡ Some left → left ≡ []
at_end None left end e = cc
at_end (Some xs) left end e = let same : xs ≡ left = cc in sym same ∙ end

pub takes_all : (old new : Option (List ℕ)) (bytes : List ℕ) → Appends old new bytes → TakesFront old new bytes
takes_all old new bytes appended = record { count = length bytes; within = omega arith; appended = subst (Appends old new) (sym (take-length bytes)) appended }

-- a borrower leaves a room as long as it was
pub written_over-same : (room bytes : List ℕ) → length bytes ≡ length room → written_over room bytes ≡ bytes
written_over-same room bytes e = rw (eq-eqb (length bytes) (length room) e) refl

-- where less than a frame is held there is room
pub room_left : (held : List ℕ) (room : ℕ) → first_of held ≡ rest → room + length held ≡ 32780 → 0 < room
room_left held room waits whole = grind (arith, common_steps)
