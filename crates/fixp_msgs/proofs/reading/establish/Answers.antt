-- Where the bytes lack the block of their version, or the datum behind it, they lack the message.
use Rattle.std.proofs.Common.{◌≡◌, true, ap, ◌∙◌, subst}
use Rattle.fixp_msgs.specs.Header.{version_in}
use Rattle.fixp_msgs.specs.Table.{established_block}
use Rattle.fixp_msgs.specs.Reading.{Lacks}
use Rattle.fixp_msgs.proofs.reading.establish.Goals as goal

pub returns-in_err-block : goal.returns-in_err-block
returns-in_err-block c =
    let least : c.established_size.result ≡ established_block (version_in c.args.message.now) = c.established_size.ensures ∙ ap established_block c.u16_at-version.ensures in
    rw c.from_residual.ensures (subst (λ n. Lacks c.args.message.now n true) least c.in_err-block.ensures.none)
