-- The length and the payload behind it are the frame's bytes.
use Rattle.std.proofs.Common.{◌++◌, take, sym, ap, ◌∙◌, append_assoc}
use Rattle.fixp_datagram.proofs.Packed.{spelled-frame_of}
use Rattle.fixp_datagram.proofs.packing.put_frame.Goals as goal

pub returns-clause-front : goal.returns-clause-front
returns-clause-front c =
    let payload = c.args.payload.now in
    let before = take c.args.at c.args.out.now in
    c.put.ensures.front
    ∙ (ap (λ bytes. bytes ++ payload) c.put-at.ensures.front
    ∙ (append_assoc before c.to_be_bytes.result payload
    ∙ ap (λ bytes. before ++ bytes) (ap (λ bytes. bytes ++ payload) c.to_be_bytes.ensures ∙ sym (spelled-frame_of payload c.requires.application))))
