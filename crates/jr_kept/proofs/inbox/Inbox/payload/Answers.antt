use Rattle.std.proofs.Common.{◌≡◌, ◌-◌, ◌<◌, ℕ, List, [], Some, sym, ap, subst, ◌∙◌, arith, length, slice_get, slice_index}
use Rattle.std.proofs.Math.Logic.{∥∥₁_elim, ∥∥₁_map}
use Rattle.jr_places.specs.Numbers.{numbers_of}
use Rattle.jr_record.specs.declared.record.Record.{Record}
use Rattle.jr_record.specs.declared.record.Record.TheVariants as kinds
use Rattle.jr_dated.specs.Dated.{stamped}
use Rattle.jr_boxes.specs.Inboxes.{records_of_inbox}
use Rattle.jr_boxes.proofs.Kept.{same_self}
use Rattle.jr_kept.proofs.Held.{read_sound}
use Rattle.jr_kept.proofs.Keeping.{kept_same, some_on}
use Rattle.jr_kept.proofs.Reading.{read_told}
use Rattle.jr_kept.proofs.Rereading.{message_there}
use Rattle.jr_kept.proofs.inbox.Inbox.payload.Goals as goal

pub invariant_of-self : goal.invariant_of-self
invariant_of-self g c =
    let old = c.args.self.now in
    let new = c.read.new.self in
    record {
      limited = c.read.ensures.limits ∙ old.limited;
      within = λ k here. omega (arith, old.within k here, c.read.ensures.sizes.0);
      held = λ sound. some_on g.J.Journal.stands g.J.Journal.leaves old.journal new old.flow old.notes old.notes (λ i. i)
          (λ i. kept_same g.J.Journal.stands g.J.Journal.leaves old.journal new c.read.ensures.unchanged old.flow old.notes old.notes (same_self old.notes) i [])
          (old.held (read_sound (g.J.Journal.is_broken old.journal) (g.J.Journal.is_broken new) c.read.result c.read.ensures.broken.1 c.read.ensures.breaks sound));
    }

pub returns-in-Some-clause-read : goal.returns-in-Some-clause-read
returns-in-Some-clause-read g c =
    let old = c.args.self.now in
    let within : c.args.i - 1 < length (numbers_of old.notes.places) = omega (arith, c.requires.least, c.requires.within) in
    let place : c.get-at.result ≡ slice_index (numbers_of old.notes.places) (c.args.i - 1) = c.get-at.ensures.value in
    let found = c.in-Some.ensures.found in
    ∥∥₁_map c.in_ok-r.ensures.found (λ k. record {
      dated = k.0;
      stands = k.1;
      number = found.0;
      moment = c.in_ok-r._moment;
      found = ap (λ (p : ℕ). slice_get k.0 p) (sym place) ∙ k.2 ∙ ap (λ (r : Record). Some (stamped c.in_ok-r._moment r)) found.1;
    })

pub returns-in-Some-clause-payload : goal.returns-in-Some-clause-payload
returns-in-Some-clause-payload g c tells list stands =
    let old = c.args.self.now in
    let sound = read_sound (g.J.Journal.is_broken old.journal) (g.J.Journal.is_broken c.read.new.self) c.read.result c.read.ensures.broken.1 c.read.ensures.breaks c.in_ok-r.ensures.breaks in
    let within : c.args.i - 1 < length (numbers_of old.notes.places) = omega (arith, c.requires.least, c.requires.within) in
    let place : c.get-at.result ≡ slice_index (numbers_of old.notes.places) (c.args.i - 1) = c.get-at.ensures.value in
    let read = read_told g.J.Journal.stands old.journal stands.dated c.get-at.result (stamped c.in_ok-r._moment c.in_ok-r.r)
    (λ k is_k. g.met.J.Journal.one old.journal k stands.dated (g.met.J.Journal.all_told old.journal tells) sound is_k stands.journal) c.in_ok-r.ensures.found in
    let at = message_there list old.notes (c.args.i - 1) c.in_ok-r.r stands.noticed within
    (subst (λ (p : ℕ). slice_get (records_of_inbox list) p ≡ Some c.in_ok-r.r) place (subst (λ (rs : List Record). slice_get rs c.get-at.result ≡ Some c.in_ok-r.r) stands.bare read)) in
    let found = c.in-Some.ensures.found in
    let same : kinds.Apply at.number at.payload ≡ kinds.Apply found.0 c.in-Some.payload = sym at.is ∙ found.1 in
    let payload : at.payload ≡ c.in-Some.payload = cc in
    at.there ∙ ap (λ (p : List ℕ). Some p) payload

pub returns-in-None-clause-changed : goal.returns-in-None-clause-changed
returns-in-None-clause-changed g c at is =
    let old = c.args.self.now in
    let sound = read_sound (g.J.Journal.is_broken old.journal) (g.J.Journal.is_broken c.read.new.self) c.read.result c.read.ensures.broken.1 c.read.ensures.breaks c.in_ok-r.ensures.breaks in
    let within : c.args.i - 1 < length (numbers_of old.notes.places) = omega (arith, c.requires.least, c.requires.within) in
    let place : c.get-at.result ≡ slice_index (numbers_of old.notes.places) (c.args.i - 1) = c.get-at.ensures.value in
    let here : c.get-at.result ≡ at = cc in (
      sym here ∙ place,
      λ tells. ∥∥₁_elim (old.held sound) (λ x y. absurd x) (λ f.
          let held = f.1 in
          let read = read_told g.J.Journal.stands old.journal held.dated c.get-at.result (stamped c.in_ok-r._moment c.in_ok-r.r)
          (λ k is_k. g.met.J.Journal.one old.journal k held.dated (g.met.J.Journal.all_told old.journal tells) sound is_k held.journal.stands_for) c.in_ok-r.ensures.found in
          let there = message_there f.0 old.notes (c.args.i - 1) c.in_ok-r.r held.noticed within
          (subst (λ (p : ℕ). slice_get (records_of_inbox f.0) p ≡ Some c.in_ok-r.r) place (subst (λ (rs : List Record). slice_get rs c.get-at.result ≡ Some c.in_ok-r.r) held.bare read)) in
          c.in-None.ensures.none there.number there.payload there.is),
    )
