use Rattle.std.proofs.Common.{◌≡◌, ℕ, [], refl, sym, subst, ◌∙◌, arith}
use Rattle.std.proofs.Math.Logic.{∥∥₁_map}
use Rattle.std.proofs.lemmas.Bool.{false≢true}
use Rattle.jr_dated.specs.Dated.{Dated, stamped, undated}
use Rattle.jr_boxes.specs.Outboxes.{IsWrongAt}
use Rattle.jr_boxes.proofs.Reading.{counted_on, wrong_here}
use Rattle.jr_kept.proofs.Held.{holds_same, unmoved}
use Rattle.jr_kept.proofs.Reading.{counted_all, counted_some_more, nothing_counted, read_told}
use Rattle.jr_kept.proofs.counting.count_records.Goals as goal

pub loop-at-init : goal.loop-at-init
loop-at-init g c = record {
  sound = c.requires.sound;
  same = unmoved g.J.Journal.stands g.J.Journal.leaves c.args.journal.now;
  count = sym c.len-count.ensures.value;
  size = refl;
  moment = refl;
  limits = refl;
  faults = refl;
  counted = ∥∥₁_map (g.met.J.Journal.held c.args.journal.now c.requires.sound) (λ f. (f.0, f.1, nothing_counted c.new-tally.result c.new-tally.ensures.counts));
  is_told = λ told. told;
  told = λ told h was. nothing_counted c.new-tally.result c.new-tally.ensures.counts;
  within = c.new-tally.ensures.within;
}

pub returns-then-not-take-clause-wrong : goal.returns-then-not-take-clause-wrong
returns-then-not-take-clause-wrong g c at is =
    let here : c.loop-at.at ≡ at = cc in (
      omega (arith, here, c.loop-at-test.true, c.len-count.ensures.value),
      λ told h was.
          let now = (c.loop-at.invariant.same.records h).0 was in
          let read = read_told g.J.Journal.stands c.loop-at.journal h c.loop-at.at (stamped c.in-Ok._moment c.in-Ok.r)
          (λ k is_k. g.met.J.Journal.one c.loop-at.journal k h (c.loop-at.invariant.is_told told) c.loop-at.invariant.sound is_k now) c.in-Ok.ensures.found in
          subst (λ (n : ℕ). IsWrongAt (undated h) n) here
          (wrong_here (undated h) c.loop-at.at c.loop-at.tally c.in-Ok.r read (c.loop-at.invariant.told told h was)
          (λ may. false≢true (c.if-not-take.ensures.fits.1 may))),
    )

pub loop-at-preserved : goal.loop-at-preserved
loop-at-preserved g c =
    let stands = g.J.Journal.stands in
    let leaves = g.J.Journal.leaves in
    let old = c.loop-at.journal in
    let new = c.read.new.self in
    let d : Dated = stamped c.in-Ok._moment c.in-Ok.r in
    record {
      sound = c.in-Ok.ensures.breaks;
      same = record {
        records = λ h. (
          λ was. (c.in-Ok.ensures.unchanged.records h).0 ((c.loop-at.invariant.same.records h).0 was),
          λ now. (c.loop-at.invariant.same.records h).1 ((c.in-Ok.ensures.unchanged.records h).1 now),
        );
        images = λ o. (
          λ was. (c.in-Ok.ensures.unchanged.images o).0 ((c.loop-at.invariant.same.images o).0 was),
          λ now. (c.loop-at.invariant.same.images o).1 ((c.in-Ok.ensures.unchanged.images o).1 now),
        );
      };
      count = c.in-Ok.ensures.sizes.0 ∙ c.loop-at.invariant.count;
      size = c.in-Ok.ensures.sizes.1 ∙ c.loop-at.invariant.size;
      moment = c.in-Ok.ensures.moment ∙ c.loop-at.invariant.moment;
      limits = c.in-Ok.ensures.limits ∙ c.loop-at.invariant.limits;
      faults = c.in-Ok.ensures.quiet ∙ c.loop-at.invariant.faults;
      counted = counted_some_more stands leaves old new c.loop-at.at c.loop-at.tally c.take.new.self d
          (λ h k holds is_k. g.met.J.Journal.crossed old h k c.loop-at.at c.loop-at.invariant.sound holds is_k)
          (λ h is_h. omega (arith, (g.met.J.Journal.counted old h is_h).0, c.loop-at.invariant.count, c.loop-at-test.true))
          (λ h holds. holds_same stands leaves old new c.in-Ok.ensures.unchanged h [] holds)
          (c.if-not-take.ensures.fits.0 refl) (c.if-not-take.ensures.taken refl) c.in-Ok.ensures.found c.loop-at.invariant.counted;
      is_told = λ told. c.in-Ok.ensures.told (c.loop-at.invariant.is_told told);
      told = λ told h was.
          let now = (c.loop-at.invariant.same.records h).0 was in
          let read = read_told stands old h c.loop-at.at d (λ k is_k. g.met.J.Journal.one old k h (c.loop-at.invariant.is_told told) c.loop-at.invariant.sound is_k now) c.in-Ok.ensures.found in
          counted_on (undated h) c.loop-at.at c.loop-at.tally c.take.new.self c.in-Ok.r read (c.loop-at.invariant.told told h was)
          (c.if-not-take.ensures.fits.0 refl) (c.if-not-take.ensures.taken refl);
      within = c.take.ensures.within c.loop-at.at c.loop-at.invariant.within;
    }

pub returns-clause-counted : goal.returns-clause-counted
returns-clause-counted g c = counted_all g.J.Journal.stands g.J.Journal.leaves c.loop-at.journal c.loop-at.at c.loop-at.tally
    (λ h is_h. omega (arith, (g.met.J.Journal.counted c.loop-at.journal h is_h).0, c.loop-at.invariant.count, c.loop-at-test.false)) c.loop-at.invariant.counted
