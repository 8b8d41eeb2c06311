use Rattle.std.proofs.Common.{ℕ, ◌-◌, sym, ◌∙◌, subst, arith, refl, Option, Some, List}
use Rattle.std.proofs.lemmas.Bool.{false≢true}
use Rattle.jr_record.specs.declared.record.Record.{Record}
use Rattle.jr_moments.specs.Dated.{stamped, dated_of, BeginsWith}
use Rattle.jr_summed.specs.Summed.{Stands}
use Rattle.jr_summed.proofs.Finding.{cut, found_short, found_stands}
use Rattle.jr_summed.proofs.reading.read_record.Goals as goal

pub split_at-requires : goal.split_at-requires
split_at-requires c =
    let b = c.args.bytes.now in
    let d = stamped c.in-Some.moment c.in-Some.record in
    let begins : BeginsWith b (Some d) = subst (λ (o : Option (Record × ℕ)). BeginsWith b (dated_of o)) c.in-Some.is c.in_ok-record.ensures.exact in
    (cut b begins.1 d (c.record_size.result - 1) begins.2 (omega (arith, c.record_size.ensures.size))).2

pub returns-in_default-split_first_chunk : goal.returns-in_default-split_first_chunk
returns-in_default-split_first_chunk c =
    let b = c.args.bytes.now in
    let d = stamped c.in-Some.moment c.in-Some.record in
    let begins : BeginsWith b (Some d) = subst (λ (o : Option (Record × ℕ)). BeginsWith b (dated_of o)) c.in-Some.is c.in_ok-record.ensures.exact in
    let few = c.in_default-split_first_chunk.ensures.cases in
    record { exact = found_short b c.split_at.result.1.now d (c.record_size.result - 1) begins (omega (arith, c.record_size.ensures.size)) c.split_at.ensures.back few }

pub returns-then-not-is_sum : goal.returns-then-not-is_sum
returns-then-not-is_sum c =
    let b = c.args.bytes.now in
    let d = stamped c.in-Some.moment c.in-Some.record in
    let begins : BeginsWith b (Some d) = subst (λ (o : Option (Record × ℕ)). BeginsWith b (dated_of o)) c.in-Some.is c.in_ok-record.ensures.exact in
    let found = found_stands b c.split_at.result.0.now c.split_at.result.1.now c.in-Some-split_first_chunk.sum.now c.in-Some-split_first_chunk.field-0-1.now d (c.record_size.result - 1) begins (omega (arith, c.record_size.ensures.size)) c.split_at.ensures.front c.split_at.ensures.back c.in-Some-split_first_chunk.ensures.cases.0 c.in-Some-split_first_chunk.ensures.cases.1 c.in-Some-split_first_chunk.ensures.cases.2 in
    record {
      exact = record {
        what = d;
        sum = c.in-Some-split_first_chunk.sum.now;
        stands = found.0;
        other = λ same. false≢true (c.if-not-is_sum.ensures.value.1 (same ∙ sym found.1));
      };
    }

pub returns : goal.returns
returns c =
    let b = c.args.bytes.now in
    let d = stamped c.in-Some.moment c.in-Some.record in
    let begins : BeginsWith b (Some d) = subst (λ (o : Option (Record × ℕ)). BeginsWith b (dated_of o)) c.in-Some.is c.in_ok-record.ensures.exact in
    let found = found_stands b c.split_at.result.0.now c.split_at.result.1.now c.in-Some-split_first_chunk.sum.now c.in-Some-split_first_chunk.field-0-1.now d (c.record_size.result - 1) begins (omega (arith, c.record_size.ensures.size)) c.split_at.ensures.front c.split_at.ensures.back c.in-Some-split_first_chunk.ensures.cases.0 c.in-Some-split_first_chunk.ensures.cases.1 c.in-Some-split_first_chunk.ensures.cases.2 in
    record { exact = subst (λ (s : List ℕ). Stands b d s) (c.if-not-is_sum.ensures.value.0 refl ∙ found.1) found.0 }
