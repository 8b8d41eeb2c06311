use Rattle.std.proofs.Common.{◌+◌, ◌∷◌, Option, subst, rules}
use Rattle.jr_record.specs.declared.record.Record.{Record}
use Rattle.jr_record.specs.Records.{BeginsWith}
use Rattle.jr_moments.proofs.Fronts.{no_front, no_moment, no_body, found, none_found, shorter}
use Rattle.jr_moments.proofs.reading.read_record.Goals as goal

pub returns-in_default : goal.returns-in_default
returns-in_default c = record { exact = no_front c.args.bytes.now (search rules) }

pub returns-in_default-read_u64 : goal.returns-in_default-read_u64
returns-in_default-read_u64 c = record { exact = no_front c.args.bytes.now (search rules) }

pub returns-in_default-read_u32 : goal.returns-in_default-read_u32
returns-in_default-read_u32 c =
    record { exact = no_front c.args.bytes.now (shorter c.in-Some.kind.now c.in-Some-read_u64.moment c.args.bytes.now c.in-Some.rest.now c.in-Some-read_u64.behind.now (search rules) c.in-Some-read_u64.ensures.found c.in_default-read_u32.ensures.none) }

pub returns-then-moment-ge-MOMENTS : goal.returns-then-moment-ge-MOMENTS
returns-then-moment-ge-MOMENTS c = record {
  exact = no_moment c.in-Some.kind.now c.in-Some-read_u64.moment c.in-Some-read_u32.size c.args.bytes.now c.in-Some.rest.now c.in-Some-read_u64.behind.now c.in-Some-read_u32.body.now (search rules) (search rules) c.in-Some-read_u64.ensures.found c.in-Some-read_u32.ensures.found (search rules) c.if-moment-ge-MOMENTS.true;
}

pub returns-then-body-size : goal.returns-then-body-size
returns-then-body-size c = record {
  exact = no_body c.in-Some.kind.now c.in-Some-read_u64.moment c.in-Some-read_u32.size c.args.bytes.now c.in-Some.rest.now c.in-Some-read_u64.behind.now c.in-Some-read_u32.body.now (search rules) (search rules) c.in-Some-read_u64.ensures.found c.in-Some-read_u32.ensures.found (search rules);
}

pub returns-in-Some-2 : goal.returns-in-Some-2
returns-in-Some-2 c =
    let is = subst (λ (o : Option Record). BeginsWith (c.in-Some.kind.now ∷ c.split_at.result.0.now) o) c.in-Some-2.is c.in_ok-r.ensures.exact in record {
      exact = found c.in-Some.kind.now c.in-Some-read_u64.moment c.in-Some-read_u32.size c.args.bytes.now c.in-Some.rest.now c.in-Some-read_u64.behind.now c.in-Some-read_u32.body.now (search rules) (search rules) c.in-Some-read_u64.ensures.found c.in-Some-read_u32.ensures.found
          (4 + c.in-Some-read_u32.size) c.split_at.result.0.now c.split_at.ensures.front (search rules) c.in-Some-2.r is;
    }

pub returns-in-None : goal.returns-in-None
returns-in-None c =
    let is = subst (λ (o : Option Record). BeginsWith (c.in-Some.kind.now ∷ c.split_at.result.0.now) o) c.in-None.is c.in_ok-r.ensures.exact in record {
      exact = none_found c.in-Some.kind.now c.in-Some-read_u64.moment c.in-Some-read_u32.size c.args.bytes.now c.in-Some.rest.now c.in-Some-read_u64.behind.now c.in-Some-read_u32.body.now (search rules) (search rules) c.in-Some-read_u64.ensures.found c.in-Some-read_u32.ensures.found
          c.split_at.result.0.now c.split_at.ensures.front is;
    }
