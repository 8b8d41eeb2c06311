use Rattle.std.proofs.Common.{subst}
use Rattle.text_names.specs.Unquoting.{IsRead}
use Rattle.text_names.proofs.Unquoting.{byte_read, part_read}
use Rattle.text_names.proofs.quotes.characters.Goals.{in-Byte+in_ok-push-in-Byte, in-Part}
use Rattle.text_names.proofs.quotes.characters.Goals as goal

pub loop-byte-preserved : goal.loop-byte-preserved
loop-byte-preserved c =
    elim c.match-read.branch [
      | in-Byte+in_ok-push-in-Byte w ↦
          rw (w.room-is, w.place-is, w.in_ok-push-in-Byte.ensures.items) (tt, byte_read c.args.text.now c.loop-byte.room.items c.loop-byte.byte-index w.in-Byte.byte c.loop-byte.place c.read.result c.loop-byte-test.true c.read.ensures.next w.in-Byte.is c.loop-byte.invariant.1)
      | in-Part w ↦
          rw (w.room-is, w.place-is) (subst IsRead w.in-Part.is c.read.ensures.place, part_read c.args.text.now c.loop-byte.room.items c.loop-byte.byte-index c.loop-byte.place w.in-Part.next c.read.result c.loop-byte-test.true c.read.ensures.next w.in-Part.is c.loop-byte.invariant.1)
    ]
