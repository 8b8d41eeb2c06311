use Rattle.std.proofs.Common.{codes}
use Rattle.std.specs.Int.{w16, to_be_bytes}
use Rattle.hex.specs.Hex.{encode_lower}
use Rattle.plan_feed.specs.Wrongs.{encoding_words}
use Rattle.plan_feed.proofs.Parts.{three-parts}
use Rattle.plan_feed.proofs.wrong.push_encoding.Goals as goal

pub returns : goal.returns
unfolding encoding_words
returns c =
    let hex = c.in_ok-push_hex.ensures in
    let bytes = c.to_be_bytes.ensures in
    three-parts c.args.lines.now.items _ _ _ (codes "its payload begins with the encoding type ") (encode_lower (to_be_bytes w16 c.args.found)) (codes ", neither eb50 nor 5be0")
    c.in_ok-extend_from_slice.ensures.items (rw bytes at hex) c.in_ok-extend_from_slice-2.ensures.items
