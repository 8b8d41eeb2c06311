-- The lines of a frame, or what is wrong with it, by what is printed of its message.
use Rattle.std.proofs.Common.{◌≡◌, ℕ, true, if◌then◌else◌, Err, List, ap, ◌∙◌}
use Rattle.sofh_frame.specs.Framing.{Frame}
use Rattle.sbe_layout.specs.declared.plan.Plan.{Plan}
use Rattle.cmd_codec.specs.declared.shown.Shown.{Shown}
use Rattle.sbe_grammar.specs.declared.fault.DecodeFault.{DecodeFault}
use Rattle.sbe_grammar.specs.Reading.{message_in}
use Rattle.sbe_text.specs.Written.{lines_of_message}
use Rattle.cmd_base.specs.declared.status.Bad.TheVariants as bad
use Rattle.cmd_codec.specs.Decoded.{is_order, lines_shown, lines_told, lines_of_frame}
use Rattle.cmd_codec.specs.Decoding.{Added, HasShown, Wrong}

pub frame_added : (shown : Shown) (plan : Plan) (number at : ℕ) (f : Frame) (old new : List ℕ) → is_order f.order plan.order ≡ true → HasShown shown plan f.message old new → Added (lines_of_frame shown plan number at f) old new
frame_added shown plan number at f old new same h = record {
  lines = lines_shown shown plan (lines_of_message plan h.message);
  is = ap (λ t. if t then lines_told shown plan number (message_in plan f.message) else Err (bad.Frame at)) same ∙ ap (lines_told shown plan number) h.spelled;
  added = h.added;
}

pub frame_wrong : (shown : Shown) (plan : Plan) (number at : ℕ) (f : Frame) (fault : DecodeFault) (old new : List ℕ) → is_order f.order plan.order ≡ true → message_in plan f.message ≡ Err fault → new ≡ old → Wrong (lines_of_frame shown plan number at f) (bad.Decode number fault) old new
frame_wrong shown plan number at f fault old new same e kept = record {
  is = ap (λ t. if t then lines_told shown plan number (message_in plan f.message) else Err (bad.Frame at)) same ∙ ap (lines_told shown plan number) e;
  kept = kept;
}
