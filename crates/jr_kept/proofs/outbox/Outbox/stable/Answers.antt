use Rattle.std.proofs.Common.{◌≡◌, ◌-◌, ◌<◌, ℕ, List, [], Some, sym, ap, subst, ◌∙◌, arith, length, slice_get}
use Rattle.std.proofs.Math.Logic.{∥∥₁_elim, ∥∥₁_map}
use Rattle.jr_record.specs.declared.record.Record.{Record}
use Rattle.jr_record.specs.declared.record.Record.TheVariants as kinds
use Rattle.jr_dated.specs.Dated.{stamped}
use Rattle.jr_boxes.specs.Outboxes.{mark_of}
use Rattle.jr_kept.proofs.Held.{entry_there, held_same, read_sound, some_on}
use Rattle.jr_kept.proofs.Reading.{read_told}
use Rattle.jr_kept.proofs.outbox.Outbox.stable.Goals as goal

pub invariant_of-self : goal.invariant_of-self
invariant_of-self g c =
    let old = c.args.self.now in
    let new = c.read.new.self in
    record {
      limited = c.read.ensures.limits ∙ old.limited;
      within = record { all = omega (arith, old.within.all, c.read.ensures.sizes.0); each = λ i. omega (arith, old.within.each i, c.read.ensures.sizes.0) };
      held = λ sound. some_on g.J.Journal.stands g.J.Journal.leaves old.journal new old.tally old.tally (λ h. h)
          (λ h held. held_same g.J.Journal.stands g.J.Journal.leaves old.journal new c.read.ensures.unchanged old.tally h [] held)
          (old.held (read_sound (g.J.Journal.is_broken old.journal) (g.J.Journal.is_broken new) c.read.result c.read.ensures.broken.1 c.read.ensures.breaks sound));
    }

pub returns-in-Some-clause-read : goal.returns-in-Some-clause-read
returns-in-Some-clause-read g c =
    let found = c.in-Some.ensures.found in
    let is : c.in_ok-r.r ≡ kinds.Entry found.1 found.2 c.new.result.payload = found.3 ∙ ap (λ (p : List ℕ). kinds.Entry found.1 found.2 p) (sym c.new.ensures.payload) in
    ∥∥₁_map c.in_ok-r.ensures.found (λ k. record {
      dated = k.0;
      stands = k.1;
      sender = found.1;
      own_number = found.2;
      moment = c.in_ok-r._moment;
      found = k.2 ∙ ap (λ (r : Record). Some (stamped c.in_ok-r._moment r)) is;
    })

pub returns-in-Some-clause-payload : goal.returns-in-Some-clause-payload
returns-in-Some-clause-payload g c tells h stands =
    let old = c.args.self.now in
    let sound = read_sound (g.J.Journal.is_broken old.journal) (g.J.Journal.is_broken c.read.new.self) c.read.result c.read.ensures.broken.1 c.read.ensures.breaks c.in_ok-r.ensures.breaks in
    let within : c.args.number - 1 < length h.made = omega (arith, c.requires.least, c.requires.within, stands.tallied.all) in
    let read = read_told g.J.Journal.stands old.journal stands.dated (c.args.number - 1) (stamped c.in_ok-r._moment c.in_ok-r.r)
    (λ k is_k. g.met.J.Journal.one old.journal k stands.dated (g.met.J.Journal.all_told old.journal tells) sound is_k stands.journal) c.in_ok-r.ensures.found in
    let at = entry_there h.made (mark_of h.finished) (c.args.number - 1) c.in_ok-r.r within stands.outbox.payloads
    (subst (λ (rs : List Record). slice_get rs (c.args.number - 1) ≡ Some c.in_ok-r.r) stands.bare read) in
    let found = c.in-Some.ensures.found in
    let same : kinds.Entry at.sender at.own_number at.payload ≡ kinds.Entry found.1 found.2 c.in-Some.payload = sym at.is ∙ found.3 in
    let payload : at.payload ≡ c.in-Some.payload = cc in
    record { from_one = c.requires.least; found = at.there ∙ ap (λ (p : List ℕ). Some p) (payload ∙ sym c.new.ensures.payload) }

pub returns-in-None-clause-changed : goal.returns-in-None-clause-changed
returns-in-None-clause-changed g c at is =
    let old = c.args.self.now in
    let sound = read_sound (g.J.Journal.is_broken old.journal) (g.J.Journal.is_broken c.read.new.self) c.read.result c.read.ensures.broken.1 c.read.ensures.breaks c.in_ok-r.ensures.breaks in
    let here : c.args.number - 1 ≡ at = cc in (
      omega (arith, here, c.requires.least),
      λ tells. ∥∥₁_elim (old.held sound) (λ x y. absurd x) (λ f.
          let h = f.0 in
          let held = f.1 in
          let within : c.args.number - 1 < length h.made = omega (arith, c.requires.least, c.requires.within, held.tallied.all) in
          let read = read_told g.J.Journal.stands old.journal held.dated (c.args.number - 1) (stamped c.in_ok-r._moment c.in_ok-r.r)
          (λ k is_k. g.met.J.Journal.one old.journal k held.dated (g.met.J.Journal.all_told old.journal tells) sound is_k held.journal.stands_for) c.in_ok-r.ensures.found in
          let there = entry_there h.made (mark_of h.finished) (c.args.number - 1) c.in_ok-r.r within held.outbox.payloads
          (subst (λ (rs : List Record). slice_get rs (c.args.number - 1) ≡ Some c.in_ok-r.r) held.bare read) in
          c.in-None.ensures.none there.sender there.own_number there.payload there.application there.is),
    )
