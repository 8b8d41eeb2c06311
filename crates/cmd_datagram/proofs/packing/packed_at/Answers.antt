use Rattle.std.proofs.Common.{◌≡◌, ◌+◌, List, ℕ, take, sym, subst, arith}
use Rattle.std.proofs.lemmas.Grind.{common_steps}
use Rattle.std.proofs.lemmas.Result.{IfOk-weaker}
use Rattle.fixp_datagram.specs.Packing.{cut_at}
use Rattle.cmd_datagram.specs.Delivered.{IsPacked}
use Rattle.cmd_datagram.proofs.packing.packed_at.Goals as goal

pub returns : goal.returns
returns c =
    IfOk-weaker c.from_slice.result _ _ (λ bytes is.
    let same : bytes ≡ take c.pack_into-size.result c.pack_into-size.new.room = grind (arith, common_steps, is, c.pack_into-size.ensures.within) in
    subst (λ (xs : List ℕ). IsPacked xs (cut_at c.args.per c.args.payloads.now (c.args.place + 1))) (sym same) c.pack_into-size.ensures.packed) c.from_slice.ensures
