-- What is left is what was held, without its first bytes.
use Rattle.std.proofs.Common.{ap, drop, ◌∙◌, arith}
use Rattle.sofh_frame.specs.Buffered.{Buffered}
use Rattle.sofh_frame.proofs.BufferLemmas.{slice_range-drop, length-held}
use Rattle.sofh_frame.proofs.buffer.Framer.drop_front.Goals as goal

pub returns-else-self-gt-ROOM-clause-held : goal.returns-else-self-gt-ROOM-clause-held
returns-else-self-gt-ROOM-clause-held c =
    let f = c.self.inside in
    let held = length-held f.buffer.items c.args.self.now f.buffer.len f.start f.end f.buffer.ok.0 c.self.invariant c.self.view_is in
    slice_range-drop f.buffer.items c.args.n f.start f.end (omega (arith, held, c.requires, c.self.invariant.ordered))
    ∙ ap (λ (b : Buffered). drop c.args.n b.held) c.self.view_is
