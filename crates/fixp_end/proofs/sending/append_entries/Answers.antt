use Rattle.std.proofs.Common.{ℕ, List, length, take, ap, arith, length-append}
use Rattle.session_model.specs.Inbox.{Numbered}
use Rattle.fixp_machine.specs.Machine.{payload_frames}
use Rattle.fixp_end.specs.Sending.{payloads_of}
use Rattle.fixp_end.proofs.Frames.{frames_within}
use Rattle.fixp_end.proofs.sending.append_entries.Goals as goal

pub append_entry-requires : goal.append_entry-requires
append_entry-requires c =
    let here = payload_frames (payloads_of (take c.loop-entry.entry-index c.args.entries.now)) in
    record {
      room = omega (
        arith,
        frames_within c.args.entries.now c.loop-entry.entry-index c.entry-item.result c.loop-entry-test.true,
        ap (λ (m : Numbered). length m.payload) c.entry-item.is,
        ap (λ (bytes : List ℕ). length bytes) c.loop-entry.invariant.bytes,
        length-append c.args.output.now here,
        c.requires.room,
      );
    }
