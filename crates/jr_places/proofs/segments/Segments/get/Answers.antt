use Rattle.std.proofs.Common.{◌≡◌, ◌<◌, ◌≤◌, ◌+◌, ◌-◌, ◌*◌, ◌/◌, ◌%◌, ℕ, length, get_or, sym, ◌∙◌, ap, arith}
use Rattle.jr_places.specs.Listed.{listed}
use Rattle.jr_places.specs.Segmented.{joined}
use Rattle.jr_places.proofs.Joining.{length-joined, in_full, in_last}
use Rattle.jr_places.proofs.segments.Segments.get.Goals as goal

pub get-requires-else-segment-len : goal.get-requires-else-segment-len
get-requires-else-segment-len c =
    let s = c.args.self.now in
    record {
      within = omega (arith, length-joined s.full.items (listed s.last), s.full.ok.0, c.len.ensures, c.len-else-segment-len.ensures, c.requires.within, c.if-segment-len.false);
    }

pub returns-then-segment-len : goal.returns-then-segment-len
returns-then-segment-len c =
    let s = c.args.self.now in
    let q = c.args.i / 4080 in
    let r = c.args.i % 4080 in
    let within : q < length s.full.items = omega (arith, s.full.ok.0, c.len.ensures, c.if-segment-len.true) in
    let at : 4080 * q + r ≡ c.args.i = omega arith in
    let small : r < 4080 = omega arith in
    record {
      value = c.get.ensures.value ∙ sym (in_full s.full.items (listed s.last) q r c.index.result.now within small c.index.ensures)
          ∙ ap (λ (k : ℕ). get_or (joined s.full.items (listed s.last)) k 0) at;
    }

pub returns-else-segment-len : goal.returns-else-segment-len
returns-else-segment-len c =
    let s = c.args.self.now in
    let n : c.len-else-segment-len.result ≡ length s.full.items = omega (arith, s.full.ok.0, c.len-else-segment-len.ensures) in
    let behind : 4080 * length s.full.items ≤ c.args.i = omega (arith, n, c.len.ensures, c.len-else-segment-len.ensures, c.if-segment-len.false) in
    record {
      value = c.get-else-segment-len.ensures.value ∙ ap (λ (k : ℕ). get_or (listed s.last) (c.args.i - 4080 * k) 0) n
          ∙ sym (in_last s.full.items (listed s.last) c.args.i behind);
    }
