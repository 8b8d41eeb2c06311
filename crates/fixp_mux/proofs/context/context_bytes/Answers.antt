-- The bytes of a Context are its frame's.
use Rattle.std.proofs.Common.{◌≡◌, ◌++◌, ◌∷◌, [], List, ℕ, length, ap, sym, ◌∙◌}
use Rattle.fixp_mux.proofs.Spelling.{context_spelled}
use Rattle.fixp_mux.proofs.context.context_bytes.Goals as goal

pub returns : goal.returns
returns c =
    ap (λ (id : List ℕ). 0x00 ∷ 0x00 ∷ 0x00 ∷ 0x26 ∷ 0xEB ∷ 0x50 ∷ 0x18 ∷ 0x00 ∷ 0x11 ∷ 0x00 ∷ 0x11 ∷ 0xF0 ∷ 0x00 ∷ 0x00 ∷ (id ++ 0xFF ∷ 0xFF ∷ 0xFF ∷ 0xFF ∷ 0xFF ∷ 0xFF ∷ 0xFF ∷ 0xFF ∷ [])) c.copy_from_slice.ensures.after
    ∙ sym (context_spelled c.args.id.now c.told-id)
