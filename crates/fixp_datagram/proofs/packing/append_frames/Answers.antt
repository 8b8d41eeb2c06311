-- One frame more is put where it fits, and where it does not, no more of them do.
use Rattle.std.proofs.Common.{◌≡◌, ◌+◌, ◌<◌, ◌++◌, length, take, get_or, sym, ap, subst, ◌∙◌, arith}
use Rattle.sofh_frame.specs.Framing.{spelled}
use Rattle.fixp_datagram.specs.Packing.{frame_of}
use Rattle.fixp_datagram.proofs.Appended.{application_at, no_more, put_more}
use Rattle.fixp_datagram.proofs.packing.append_frames.Goals as goal

pub returns-then-len-room-clause-longest : goal.returns-then-len-room-clause-longest
returns-then-len-room-clause-longest c n within fits =
    let kept = c.loop-payload.invariant in
    let p = c.payload-item.result in
    let left = c.args.left.now in
    no_more left c.loop-payload.taken n c.args.head c.min-room.result p c.requires.applications
    (omega (arith, kept.counted, c.loop-payload-test.true))
    (subst (λ k. p ≡ get_or left k p) (sym kept.counted) c.payload-item.is)
    (omega (arith, c.if-len-room.true, c.len.ensures, kept.put.size, kept.fits))
    (omega (arith, fits, kept.room))

pub loop-payload-preserved : goal.loop-payload-preserved
loop-payload-preserved c =
    let kept = c.loop-payload.invariant in
    let p = c.payload-item.result in
    let left = c.args.left.now in
    let taken = c.loop-payload.taken in
    let within : taken < length left = omega (arith, kept.counted, c.loop-payload-test.true) in
    let is : p ≡ get_or left taken p = subst (λ k. p ≡ get_or left k p) (sym kept.counted) c.payload-item.is in
    let whole = application_at left taken p c.requires.applications within is in
    record {
      counted = omega (arith, kept.counted);
      put = put_more left c.args.out.now c.loop-payload.out c.put_frame-at.new.out c.args.head c.loop-payload.at taken c.put_frame-at.result p
          kept.put within is whole
          (c.put_frame-at.ensures.end ∙ ap (λ bytes. c.loop-payload.at + 4 + length bytes) c.as_slice.ensures)
          (c.put_frame-at.ensures.front ∙ ap (λ bytes. take c.loop-payload.at c.loop-payload.out ++ spelled (frame_of bytes)) c.as_slice.ensures)
          c.put_frame-at.ensures.behind;
      fits = omega (arith, c.if-len-room.false, c.len.ensures, c.put_frame-at.ensures.end, ap length c.as_slice.ensures, kept.fits);
      room = kept.room;
    }
