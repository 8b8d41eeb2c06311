use Rattle.std.proofs.Common.{arith, ◌≡◌, ◌∙◌, ap, ◌++◌, take, drop, length}
use Rattle.std.specs.Prelude.{◌-◌, not, if◌then◌else◌}
use Rattle.gw_outside.specs.Disk.{written}
use Rattle.gw_fakes.proofs.Settling.{settled}
use Rattle.gw_fakes.proofs.disk.settle.Goals as goal

pub returns-clause-items : goal.returns-clause-items
returns-clause-items c =
    let content = c.args.content.now in
    let synced = c.args.synced.now.items in
    let start = c.min-start.result in
    let end = c.min-end.result in
    let whole = settled content synced c.args.low c.args.high c.requires.grown c.requires.below c.requires.above start end (omega (arith, c.min-end.ensures, c.len-2.ensures)) c.min-start.ensures in
    let count : c.len.result ≡ length synced = omega (arith, c.len.ensures, c.args.synced.now.ok.0) in
    let middle = c.split_at-3.ensures.front ∙ ap (take (end - start)) c.split_at-2.ensures.back in
    let grown = c.split_at.ensures.back ∙ ap (λ n. drop n content) count in
    c.extend_from_slice.ensures.items
    ∙ ap (λ ok. if ok then c.put.new.content.items ++ c.split_at.result.1.now else c.put.new.content.items) (c.is_err.ensures.negation ∙ ap not c.if-is_err.false)
    ∙ ap (λ l. l ++ c.split_at.result.1.now) c.put.ensures.items
    ∙ (λ i. written start (middle i) synced ++ grown i)
    ∙ whole
