use Rattle.std.proofs.Common.{◌≡◌, ◌++◌, List, [], ℕ, sym, ap, subst, ◌∙◌, arith}
use Rattle.std.proofs.lemmas.List.{append-nil, nil_from_length}
use Rattle.std.specs.List.{AllByRecursion}
use Rattle.jr_record.specs.Records.{IsRecord}
use Rattle.jr_kept.specs.Entries.{entries_behind, records_of}
use Rattle.jr_kept.proofs.Batches.{legal_entries}
use Rattle.jr_kept.proofs.batch.entries.Goals as goal

pub returns-clause-legal : goal.returns-clause-legal
returns-clause-legal c =
    let done : c.loop-rest.rest.now ≡ [] = nil_from_length c.loop-rest.rest.now (omega (arith, c.in_default.len_below)) in
    let is : c.from.result ≡ records_of (entries_behind c.args.sender c.args.own c.args.payloads.now) =
    c.from.ensures
    ∙ sym (append-nil c.loop-rest.records.items)
    ∙ ap (λ (ps : List (List ℕ)). c.loop-rest.records.items ++ records_of (entries_behind c.args.sender c.loop-rest.k ps)) (sym done)
    ∙ c.loop-rest.invariant.written in
    subst (AllByRecursion IsRecord) (sym is) (legal_entries c.args.sender c.args.own c.args.payloads.now c.requires.sender c.requires.payloads c.requires.room)
