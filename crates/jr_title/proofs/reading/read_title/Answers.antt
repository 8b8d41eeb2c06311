use Rattle.std.proofs.Common.{ℕ, ◌<◌, get_or, refl, arith}
use Rattle.std.proofs.lemmas.Bool.{false≢true}
use Rattle.jr_title.proofs.Fields.{sum_bytes, sum_number}
use Rattle.jr_title.proofs.Images.{imaged}
use Rattle.jr_title.proofs.reading.read_title.Goals as goal

pub returns-then-not-has_sum : goal.returns-then-not-has_sum
returns-then-not-has_sum c = record {
  exact = (
    record { magical = c.if-not-begins_with_magic.ensures.value.0 refl; long = c.if-bytes-lt-SIZE.false },
    λ has. false≢true (c.if-not-has_sum.ensures.value.1 (sum_number c.args.bytes.now c.has_sum.ensures.small has)),
  );
}

pub returns-in-Ok : goal.returns-in-Ok
returns-in-Ok c =
    let b = c.args.bytes.now in
    let all : (i : ℕ) → get_or b i 0 < 256 = λ i. omega (arith, c.type_inv.bytes i) in
    let sum = sum_bytes b c.if-bytes-lt-SIZE.false all (c.if-not-has_sum.ensures.value.0 refl) in
    record {
      exact =
          (c.in-Ok.ensures.exact.0, imaged b c.in-Ok.title (c.in-Ok.ensures.exact.1 (c.if-not-begins_with_magic.ensures.value.0 refl)) sum);
    }

pub returns-in-Err : goal.returns-in-Err
returns-in-Err c =
    let b = c.args.bytes.now in
    let all : (i : ℕ) → get_or b i 0 < 256 = λ i. omega (arith, c.type_inv.bytes i) in
    record {
      exact = (
        record { magical = c.if-not-begins_with_magic.ensures.value.0 refl; long = c.if-bytes-lt-SIZE.false },
        sum_bytes b c.if-bytes-lt-SIZE.false all (c.if-not-has_sum.ensures.value.0 refl),
        c.in-Err.ensures.exact,
      );
    }
