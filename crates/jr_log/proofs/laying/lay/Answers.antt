use Rattle.std.proofs.Common.{◌≡◌, ◌-◌, ◌∷◌, List, drop, length, take, sym, ap, ◌∙◌, subst, arith}
use Rattle.std.proofs.lemmas.List.{nil_from_length}
use Rattle.std.specs.List.{AllByRecursion}
use Rattle.jr_record.specs.declared.record.Record.{Record}
use Rattle.jr_record.specs.Records.{IsRecord}
use Rattle.jr_log.proofs.Written.{Laying, few, laid_all, laid_more, tail_is, within, with_first}
use Rattle.jr_log.proofs.laying.lay.Goals as goal

pub spill-requires-clause-few : goal.spill-requires-clause-few
spill-requires-clause-few g c = few (g.D.Disk.told c.loop-rest.disk) c.loop-rest.at c.loop-rest.piece c.loop-rest.rest.now c.args.records.now c.loop-rest.invariant.laying c.requires.small

pub spill-requires-clause-within : goal.spill-requires-clause-within
spill-requires-clause-within g c = within (g.D.Disk.told c.loop-rest.disk) c.loop-rest.at c.loop-rest.piece c.loop-rest.rest.now c.args.records.now c.loop-rest.invariant.laying

pub write_on-requires-clause-within : goal.write_on-requires-clause-within
write_on-requires-clause-within g c = within (g.D.Disk.told c.loop-rest.disk) c.loop-rest.at c.loop-rest.piece c.loop-rest.rest.now c.args.records.now c.loop-rest.invariant.laying

pub loop-rest-preserved : goal.loop-rest-preserved
loop-rest-preserved g c =
    let rest = c.loop-rest.rest.now in
    let r = c.r-item.result in
    let inv = c.loop-rest.invariant in
    let after = take (length rest - 1) (drop 1 rest) in
    let split : rest ≡ r ∷ after = with_first rest r c.in-len1-up.len_at_least c.r-item.is ∙ ap (λ (rs : List Record). r ∷ rs) (sym (tail_is rest)) in
    let told = g.D.Disk.told c.loop-rest.disk in
    let laying = subst (λ (rs : List Record). Laying told c.loop-rest.at c.loop-rest.piece rs c.args.records.now) split inv.laying in
    record {
      legal = (subst (AllByRecursion IsRecord) split inv.legal).1;
      cleared = c.in_ok-next.ensures.cleared;
      faults = c.in_ok-next.ensures.cause.risen ∙ inv.faults;
      laying = laid_more told (g.D.Disk.told c.spill.new.disk) c.loop-rest.at c.in_ok-next.next c.loop-rest.piece c.in_ok-next.held c.add_record.new.piece r after c.args.records.now laying
          (c.in_ok-next.ensures.spills laying.done laying.place laying.laid) c.in_ok-add_record.ensures.added;
    }

pub returns-clause-laid : goal.returns-clause-laid
returns-clause-laid g c = λ content has.
    let none = nil_from_length c.loop-rest.rest.now (omega (arith, c.in_default.len_below)) in
    let told = g.D.Disk.told c.loop-rest.disk in
    let laying = subst (λ (rs : List Record). Laying told c.loop-rest.at c.loop-rest.piece rs c.args.records.now) none c.loop-rest.invariant.laying in
    laid_all told (g.D.Disk.told c.write_on.new.disk) c.loop-rest.at c.loop-rest.piece c.as_slice.result.now c.args.records.now laying (c.as_slice.ensures ∙ c.in_ok-push.ensures.ok) c.in_ok-write_on.ensures.laid
    content (sym c.sync.ensures.content ∙ has)
