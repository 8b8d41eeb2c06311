-- No call changes the greatest number that a machine takes.
use Rattle.std.proofs.Common.{◌≡◌, ℕ, Bool, true, false, List, [], ◌∷◌, Option, Some, None, if◌then◌else◌, refl, ◌∙◌}
use Rattle.std.specs.Prelude.{is_some}
use Rattle.session_model.specs.Inbox.{Numbered}
use Rattle.fixp_msgs.specs.declared.numbering.Range.{Range}
use Rattle.fixp_shake.specs.declared.violation.Violation.{Violation}
use Rattle.fixp_replies.specs.Acts.{is_record}
use Rattle.fixp_replies.specs.Outcomes.{Outcome}
use Rattle.fixp_replies.specs.Replies.{reply_of}
use Rattle.fixp_machine.specs.Machine.{State, Call, begin, frame, bad_frame, did, tick, turn_done, closed, link_end, live, again, taken, reserve, around, broken_by, done_pending, served_again, step, run, held_done, held_applied, front_of}

of_test : (b : Bool) (s t : State) (n : ℕ) → s.most ≡ n → t.most ≡ n → (if b then s else t).most ≡ n
of_test true s t n first second = first
of_test false s t n first second = second

of_break : (v : Option Violation) (s : State) (now : ℕ) → (broken_by s v now).most ≡ s.most
of_break None s now = refl
of_break (Some violation) s now = refl

of_pending : (o : Option Outcome) (s : State) (now : ℕ) → (done_pending s o now).most ≡ s.most
of_pending None s now = refl
of_pending (Some o) s now = refl

of_range : (r : Option Range) (s : State) (payloads : List (List ℕ)) (now : ℕ) → (served_again s r payloads now).most ≡ s.most
of_range None s payloads now = refl
of_range (Some r) s payloads now = refl

of_held : (m : Option Numbered) (s : State) → (held_applied s m).most ≡ s.most
of_held None s = refl
of_held (Some m) s = refl

pub call_keeps_most : (s : State) (call : Call) → (step s call).most ≡ s.most
call_keeps_most s (begin now) = refl
call_keeps_most s (frame incoming at now) = of_test (is_record (reply_of (around s at now) s.facts incoming).act) _ _ s.most refl refl
call_keeps_most s (bad_frame at now) = refl
call_keeps_most s (did now) = of_pending s.pending s now
call_keeps_most s (tick now) = of_test (is_some s.ending) _ _ s.most refl (of_break _ _ now)
call_keeps_most s (turn_done now) = of_test (is_some s.ending) _ _ s.most refl refl
call_keeps_most s (closed last now) = of_test (is_some s.ending) _ _ s.most refl refl
call_keeps_most s link_end = of_test (is_some s.ending) _ _ s.most refl refl
call_keeps_most s (live payloads now) = refl
call_keeps_most s (again payloads now) = of_range s.facts.connection.serving s payloads now
call_keeps_most s (taken count) = refl
call_keeps_most s reserve = refl
call_keeps_most s held_done = of_held (front_of s) s

pub calls_keep_most : (s : State) (calls : List Call) → (run s calls).most ≡ s.most
calls_keep_most s [] = refl
calls_keep_most s (call ∷ later) = calls_keep_most (step s call) later ∙ call_keeps_most s call
