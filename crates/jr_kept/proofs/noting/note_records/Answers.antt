use Rattle.std.proofs.Common.{◌≡◌, ℕ, [], length, refl, sym, ap, subst, ◌∙◌, arith}
use Rattle.std.proofs.Math.Logic.{∥∥₁_map}
use Rattle.std.proofs.lemmas.Bool.{false≢true}
use Rattle.jr_dated.specs.Dated.{Dated, stamped, undated}
use Rattle.jr_boxes.specs.Inboxes.{IsWrongAt}
use Rattle.jr_boxes.proofs.Kept.{noted_on, nothing_noted, wrong_here}
use Rattle.jr_boxes.proofs.Noting.{within_more}
use Rattle.jr_kept.proofs.Held.{holds_same, unmoved}
use Rattle.jr_kept.proofs.Reading.{read_told}
use Rattle.jr_kept.proofs.Rereading.{noted_all, noted_some_more}
use Rattle.jr_kept.proofs.noting.note_records.Goals as goal

pub loop-at-init : goal.loop-at-init
loop-at-init g c = record {
  sound = c.requires.sound;
  same = unmoved g.J.Journal.stands g.J.Journal.leaves c.args.journal.now;
  count = sym c.len-count.ensures.value;
  size = refl;
  moment = refl;
  limits = refl;
  faults = refl;
  noted = ∥∥₁_map (g.met.J.Journal.held c.args.journal.now c.requires.sound) (λ f. (f.0, f.1, nothing_noted c.args.flow c.new-notes.result c.new-notes.ensures.notices));
  is_told = λ told. told;
  told = λ told h was. nothing_noted c.args.flow c.new-notes.result c.new-notes.ensures.notices;
  within = λ k here. absurd (omega (arith, here, ap length c.new-notes.ensures.notices.places));
}

pub returns-then-not-branch-clause-wrong : goal.returns-then-not-branch-clause-wrong
returns-then-not-branch-clause-wrong g c at is =
    let here : c.loop-at.at ≡ at = cc in (
      omega (arith, here, c.loop-at-test.true, c.len-count.ensures.value),
      λ told h was.
          let now = (c.loop-at.invariant.same.records h).0 was in
          let read = read_told g.J.Journal.stands c.loop-at.journal h c.loop-at.at (stamped c.in-Ok._moment c.in-Ok.r)
          (λ k is_k. g.met.J.Journal.one c.loop-at.journal k h (c.loop-at.invariant.is_told told) c.loop-at.invariant.sound is_k now) c.in-Ok.ensures.found in
          subst (λ (n : ℕ). IsWrongAt c.args.flow (undated h) n) here
          (wrong_here c.args.flow (undated h) c.loop-at.at c.loop-at.notes c.in-Ok.r read (c.loop-at.invariant.told told h was)
          (λ may. false≢true (sym c.if-not-branch.true ∙ c.in_ok-note.ensures.fits.1 may))),
    )

pub loop-at-preserved : goal.loop-at-preserved
loop-at-preserved g c =
    let stands = g.J.Journal.stands in
    let leaves = g.J.Journal.leaves in
    let old = c.loop-at.journal in
    let new = c.read.new.self in
    let d : Dated = stamped c.in-Ok._moment c.in-Ok.r in
    record {
      sound = c.in-Ok.ensures.breaks;
      same = record {
        records = λ h. (
          λ was. (c.in-Ok.ensures.unchanged.records h).0 ((c.loop-at.invariant.same.records h).0 was),
          λ now. (c.loop-at.invariant.same.records h).1 ((c.in-Ok.ensures.unchanged.records h).1 now),
        );
        images = λ o. (
          λ was. (c.in-Ok.ensures.unchanged.images o).0 ((c.loop-at.invariant.same.images o).0 was),
          λ now. (c.loop-at.invariant.same.images o).1 ((c.in-Ok.ensures.unchanged.images o).1 now),
        );
      };
      count = c.in-Ok.ensures.sizes.0 ∙ c.loop-at.invariant.count;
      size = c.in-Ok.ensures.sizes.1 ∙ c.loop-at.invariant.size;
      moment = c.in-Ok.ensures.moment ∙ c.loop-at.invariant.moment;
      limits = c.in-Ok.ensures.limits ∙ c.loop-at.invariant.limits;
      faults = c.in-Ok.ensures.quiet ∙ c.loop-at.invariant.faults;
      noted = noted_some_more stands leaves old new c.args.flow c.loop-at.at c.loop-at.notes c.note.new.self d
          (λ h k holds is_k. g.met.J.Journal.crossed old h k c.loop-at.at c.loop-at.invariant.sound holds is_k)
          (λ h is_h. omega (arith, (g.met.J.Journal.counted old h is_h).0, c.loop-at.invariant.count, c.loop-at-test.true))
          (λ h holds. holds_same stands leaves old new c.in-Ok.ensures.unchanged h [] holds)
          (c.in_ok-note.ensures.fits.0 c.if-not-branch.false) (c.in_ok-note.ensures.noted c.if-not-branch.false) c.in-Ok.ensures.found c.loop-at.invariant.noted;
      is_told = λ told. c.in-Ok.ensures.told (c.loop-at.invariant.is_told told);
      told = λ told h was.
          let now = (c.loop-at.invariant.same.records h).0 was in
          let read = read_told stands old h c.loop-at.at d (λ k is_k. g.met.J.Journal.one old k h (c.loop-at.invariant.is_told told) c.loop-at.invariant.sound is_k now) c.in-Ok.ensures.found in
          noted_on c.args.flow (undated h) c.loop-at.at c.loop-at.notes c.note.new.self c.in-Ok.r read (c.loop-at.invariant.told told h was)
          (c.in_ok-note.ensures.fits.0 c.if-not-branch.false) (c.in_ok-note.ensures.noted c.if-not-branch.false);
      within = within_more c.loop-at.notes c.note.new.self c.loop-at.at c.in-Ok.r (c.in_ok-note.ensures.noted c.if-not-branch.false) c.loop-at.invariant.within;
    }

pub returns-clause-noted : goal.returns-clause-noted
returns-clause-noted g c = noted_all g.J.Journal.stands g.J.Journal.leaves c.loop-at.journal c.args.flow c.loop-at.at c.loop-at.notes
    (λ h is_h. omega (arith, (g.met.J.Journal.counted c.loop-at.journal h is_h).0, c.loop-at.invariant.count, c.loop-at-test.false)) c.loop-at.invariant.noted
