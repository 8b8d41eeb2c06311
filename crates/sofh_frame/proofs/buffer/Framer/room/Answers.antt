-- The room lent is what stands behind the bytes held, so these stay.
use Rattle.std.proofs.Common.{refl, ap, ◌∙◌, length, arith}
use Rattle.sofh_frame.specs.Buffered.{Buffered, written_over}
use Rattle.sofh_frame.proofs.BufferLemmas.{buffered-written, length-held, length-room, room-buffered}
use Rattle.sofh_frame.proofs.buffer.Framer.room.Goals as goal

pub returns : goal.returns
returns c =
    let f = c.self.inside in
    let items = f.buffer.items in
    let counted = f.buffer.ok.0 in
    let value = room-buffered items c.slice_mut.result.now c.args.self.now f.start f.end c.slice_mut.ensures.value c.self.view_is in (
      (refl, λ w. buffered-written items w f.buffer.len f.start f.end counted c.self.invariant ∙ ap (λ (b : Buffered). record b { room = written_over b.room w }) c.self.view_is),
      record {
        lends = tt;
        value = value;
        size = omega (
          arith,
          c.self.invariant.ordered,
          c.self.invariant.short,
          ap length value,
          length-held items c.args.self.now f.buffer.len f.start f.end counted c.self.invariant c.self.view_is,
          length-room items c.args.self.now f.buffer.len f.start f.end counted c.self.invariant c.self.view_is,
        );
      },
    )
