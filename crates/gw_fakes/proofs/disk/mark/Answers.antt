use Rattle.std.proofs.Common.{◌≡◌, ◌-◌, ◌++◌, ap, ◌∙◌, arith, length, take}
use Rattle.std.specs.Prelude.{not, replicate, false, if◌then◌else◌}
use Rattle.std.proofs.lemmas.List.{take_all}
use Rattle.gw_fakes.specs.Disks.{marked, none_pending, pending_from}
use Rattle.gw_fakes.proofs.Pending.{marked_from}
use Rattle.gw_fakes.proofs.disk.mark.Goals as goal

pub returns-clause-items : goal.returns-clause-items
returns-clause-items c len within there =
    let low = c.reach-low.result in
    let part = c.reach-low.new.pending.items in
    let same = c.reach-low.ensures.same len within there in
    let start = c.args.at - low in
    let filled : c.resize.new.self.items ≡ part ++ none_pending (start - length part) =
    c.resize.ensures.items
    ∙ ap (λ ok. if ok then take c.max-len.result part ++ replicate (c.max-len.result - c.reach-low.new.pending.len) false else part) (c.is_err.ensures.negation ∙ ap not c.if-is_err.false)
    ∙ ap (λ l. l ++ replicate (c.max-len.result - c.reach-low.new.pending.len) false) (take_all c.max-len.result part (omega (arith, c.max-len.ensures, c.len.ensures, c.reach-low.new.pending.ok.0)))
    ∙ ap (λ n. part ++ none_pending n) (omega (arith, c.max-len.ensures, c.len.ensures, c.reach-low.new.pending.ok.0)) in
    ap (λ l. pending_from low l len) (c.set.ensures.items ∙ ap (λ l. marked start c.args.count l) filled)
    ∙ marked_from low c.args.at c.args.count len part (c.reach-low.ensures.within len within there) c.reach-low.ensures.before (omega (arith, there, ap length same))
    ∙ ap (λ l. marked c.args.at c.args.count l) same
