use Rattle.std.proofs.Common.{◌≡◌, ℕ, ◌-◌, ◌+◌, ◌<◌, List, length, refl, sym, ◌∙◌, ap, subst, arith, rules, length-append}
use Rattle.std.proofs.lemmas.Bool.Decides.{nat_tests}
use Rattle.std.proofs.lemmas.List.{nil_from_length}
use Rattle.jr_dated.specs.Images.{sizes}
use Rattle.jr_segments.proofs.Fronts.{sizes_least}
use Rattle.jr_segments.specs.Lawful.{length-places_from}
use Rattle.jr_places.specs.Numbers.{numbers_of}
use Rattle.jr_segments.specs.Resting.{SomeRest, front_of, places_from}
use Rattle.jr_segments.proofs.Adds.{added_none, bytes_are, gate_is, goes_closed, either, place_is, within_content, cut_places}
use Rattle.jr_segments.proofs.Appends.{some_more}
use Rattle.jr_segments.proofs.journal.SegJournal.add.Goals as goal

pub returns-then-is_empty-clause-ok : goal.returns-then-is_empty-clause-ok
returns-then-is_empty-clause-ok g c =
    let none : length c.args.records.now ≡ 0 = grind (arith, nat_tests) in
    added_none c.args.self.now c.args.records.now (nil_from_length c.args.records.now none) c.requires.open

pub invariant_of-self-in-Break-branch-2 : goal.invariant_of-self-in-Break-branch-2
invariant_of-self-in-Break-branch-2 g c =
    let j = c.args.self.now in
    let same : numbers_of c.add_places.new.places ≡ numbers_of j.places = search rules in
    record {
      small = j.small;
      counted = omega (arith, j.counted, ap length same);
      in_time = j.in_time;
      whole = j.whole;
      held = λ sound. subst (λ (ns : List ℕ). SomeRest ns j.size j.moment (g.D.Disk.may_leave j.disk)) (sym same) (j.held sound);
    }

pub write_behind-requires-clause-closed : goal.write_behind-requires-clause-closed
write_behind-requires-clause-closed g c =
    let j = c.args.self.now in
    within_content (g.D.Disk.told j.disk) (numbers_of j.places) j.size j.moment (g.D.Disk.may_leave j.disk) (g.met.D.Disk.told_is_left j.disk) (j.held c.requires.open)

pub write_behind-requires-clause-gate : goal.write_behind-requires-clause-gate
write_behind-requires-clause-gate g c =
    let j = c.args.self.now in
    let some : 0 < length c.args.records.now = grind (arith, nat_tests) in
    gate_is j.size j.moment c.args.records.now c.as_slice.result.now (c.as_slice.ensures ∙ c.in_ok-bytes.ensures.bytes) some

pub returns-in-Err-clause-fault : goal.returns-in-Err-clause-fault
returns-in-Err-clause-fault g c =
    let j = c.args.self.now in
    let rs = c.args.records.now in
    let is = c.as_slice.ensures ∙ c.in_ok-bytes.ensures.bytes in
    record {
      places = cut_places (numbers_of j.places) (numbers_of c.add_places.new.places) (numbers_of c.shorten.new.self) (places_from (j.size - 1) rs) c.len-count.result c.len-count.ensures.count c.in_ok-add_places.ensures.ok c.shorten.ensures.front;
      size = refl;
      moment = refl;
      broken = refl;
      torn = refl;
      limits = refl;
      risen = c.in-Err.ensures.cause.risen;
      never_falls = c.in-Err.ensures.cause.never_falls;
      images = λ h legal sized closed image left. either j.size j.moment rs c.as_slice.result.now is j.in_time c.requires.legal h legal image
          (c.in-Err.ensures.err (front_of h) image (place_is h j.size sized) closed left);
    }

pub invariant_of-self-2 : goal.invariant_of-self-2
invariant_of-self-2 g c =
    let j = c.args.self.now in
    let rs = c.args.records.now in
    let is = c.as_slice.ensures ∙ c.in_ok-bytes.ensures.bytes in
    let bytes : length c.as_slice.result.now ≡ c.len.result = ap length c.as_slice.ensures ∙ sym c.len.ensures in
    let sized : j.size + (c.len.result - 1) ≡ j.size + sizes rs = omega (arith, bytes, bytes_are j.size j.moment rs c.as_slice.result.now is) in
    record {
      small = omega (arith, j.small, bytes, c.in-Ok.ensures.limit);
      counted = omega (arith, j.counted, ap length c.in_ok-add_places.ensures.ok, length-append (numbers_of j.places) (places_from (j.size - 1) rs), length-places_from (j.size - 1) rs, sizes_least rs, sized);
      in_time = j.in_time;
      whole = λ _. refl;
      held = λ _. some_more (numbers_of j.places) (numbers_of c.add_places.new.places) j.size (j.size + (c.len.result - 1)) j.moment (g.D.Disk.may_leave j.disk) (g.D.Disk.may_leave c.write_behind.new.disk) rs
          c.in_ok-add_places.ensures.ok sized j.in_time c.requires.legal
          (λ h keeps closed image left. goes_closed j.size j.moment rs c.as_slice.result.now is j.in_time c.requires.legal h keeps.legal image
          (c.in-Ok.ensures.ok (front_of h) image (place_is h j.size keeps.sized) closed left))
          (j.held c.requires.open);
    }

pub returns-clause-ok : goal.returns-clause-ok
returns-clause-ok g c =
    let j = c.args.self.now in
    let rs = c.args.records.now in
    let is = c.as_slice.ensures ∙ c.in_ok-bytes.ensures.bytes in
    let bytes : length c.as_slice.result.now ≡ c.len.result = ap length c.as_slice.ensures ∙ sym c.len.ensures in
    record {
      places = c.in_ok-add_places.ensures.ok;
      size = omega (arith, bytes, bytes_are j.size j.moment rs c.as_slice.result.now is);
      moment = refl;
      sound = refl;
      limits = refl;
      quiet = c.in-Ok.ensures.cause.risen;
      closed = λ h legal sized closed image left. goes_closed j.size j.moment rs c.as_slice.result.now is j.in_time c.requires.legal h legal image
          (c.in-Ok.ensures.ok (front_of h) image (place_is h j.size sized) closed left);
    }
