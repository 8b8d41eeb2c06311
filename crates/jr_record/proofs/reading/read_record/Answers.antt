use Rattle.std.proofs.Common.{rules}
use Rattle.std.proofs.lemmas.Result.{IfOk-weaker}
use Rattle.jr_record.proofs.Bodies.{no_front, no_body, begins}
use Rattle.jr_record.proofs.reading.read_record.Goals as goal

pub returns-in_default : goal.returns-in_default
returns-in_default c = record { exact = no_front c.args.bytes.now (search rules) }

pub returns-in_default-read_u32 : goal.returns-in_default-read_u32
returns-in_default-read_u32 c = record { exact = no_front c.args.bytes.now (search rules) }

pub returns-then-behind-size : goal.returns-then-behind-size
returns-then-behind-size c = record {
  exact = no_body c.in-Some.kind.now c.in-Some-read_u32.size c.args.bytes.now c.in-Some.rest.now c.in-Some-read_u32.behind.now (search rules) (search rules) c.in-Some-read_u32.ensures.found (search rules);
}

pub returns : goal.returns
returns c = record {
  exact = IfOk-weaker c.read_body.result _ _ (λ found is. begins c.in-Some.kind.now c.in-Some-read_u32.size c.args.bytes.now c.in-Some.rest.now c.in-Some-read_u32.behind.now (search rules) (search rules) c.in-Some-read_u32.ensures.found c.split_at.result.0.now c.split_at.ensures.front (search rules) found is) c.read_body.ensures.exact;
}
