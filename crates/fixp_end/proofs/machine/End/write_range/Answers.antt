use Rattle.std.proofs.Common.{◌≡◌, ℕ, ◌+◌, List, [], ◌++◌, Option, Some, None, false, not, ap, refl, ◌∙◌, append_assoc, append-nil, true≢false}
use Rattle.std.specs.Prelude.{is_some}
use Rattle.fixp_msgs.specs.declared.numbering.Range.{Range}
use Rattle.fixp_msgs.specs.Canonical.{frame_bytes}
use Rattle.fixp_msgs.specs.Message.{sequence}
use Rattle.fixp_replies.specs.declared.facts.Facts.{Facts}
use Rattle.fixp_machine.specs.Machine.{State, wrote, sent_at, payload_frames, range_end}
use Rattle.fixp_end.specs.Sending.{payloads_of}
use Rattle.fixp_end.specs.contracts.machine.End.{the_view}
use Rattle.fixp_end.proofs.Turn.{sent_twice}
use Rattle.fixp_end.proofs.machine.End.write_range.Goals as goal

told_end : (f : Facts) (rest : Option Range) → is_some rest ≡ false → frame_bytes (sequence (f.recorded.sent + 1)) ≡ range_end f rest
told_end f None none = refl
told_end f (Some r) none = absurd (true≢false none)

pub returns-then-is_none-clause-wrote : goal.returns-then-is_none-clause-wrote
returns-then-is_none-clause-wrote c =
    let e = c.self.inside in
    let s : State = the_view e in
    let frames = payload_frames (payloads_of c.args.entries.now) in
    let told = frame_bytes (sequence (e.facts.recorded.sent + 1)) ++ [] in
    let bytes = c.write_place.ensures.bytes ∙ (ap (λ (bs : List ℕ). bs ++ told) c.write_entries.ensures.bytes ∙ append_assoc e.output frames told) in
    let sent = c.write_place.ensures.sent ∙ (ap (λ (n : ℕ). sent_at n told e.moment) c.write_entries.ensures.sent ∙ sent_twice e.last_sent frames told e.moment) in
    let end = append-nil (frame_bytes (sequence (e.facts.recorded.sent + 1))) ∙ told_end e.facts c.args.rest (c.is_none.ensures ∙ ap not c.if-is_none.true) in
    rw (← c.self.view_is) (ap (λ (bs : List ℕ). record s { unsent = bs; last_sent = c.write_place.new.last_sent }) bytes
    ∙ (ap (λ (n : ℕ). record s { unsent = e.output ++ (frames ++ told); last_sent = n }) sent
    ∙ ap (λ (bs : List ℕ). wrote s (frames ++ bs) s.moment) end))
