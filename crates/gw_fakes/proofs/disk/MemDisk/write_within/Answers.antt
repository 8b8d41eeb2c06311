use Rattle.std.proofs.Common.{arith, ap, subst, sym, ◌∙◌}
use Rattle.std.specs.Prelude.{if◌then◌else◌}
use Rattle.gw_outside.specs.Disk.{Torn, written}
use Rattle.gw_fakes.proofs.Sound.{covered, sound_marked, follows_marked, torn_written}
use Rattle.gw_fakes.proofs.Tearing.{torn_same}
use Rattle.gw_fakes.proofs.disk.MemDisk.write_within.Goals as goal

pub invariant_of-self-clause-sound : goal.invariant_of-self-clause-sound
invariant_of-self-clause-sound c =
    let old = c.args.self.now in
    let torn = subst (Torn _ _ _) (sym c.put.ensures.items) (torn_written c.args.at c.args.bytes.now old.content.items c.requires.place) in
    sound_marked _ _ _ _ _ _ _ _ _ _ _ old.sound c.requires.place c.requires.room (c.mark-self.ensures.items _ old.begun (omega (arith, c.requires.place, covered _ _ _ _ _ _ old.sound))) torn

pub invariant_of-self-clause-begun : goal.invariant_of-self-clause-begun
invariant_of-self-clause-begun c =
    let old = c.args.self.now in
    c.mark-self.ensures.within _ old.begun (omega (arith, c.requires.place, covered _ _ _ _ _ _ old.sound))

pub invariant_of-self-else-stands-clause-sound : goal.invariant_of-self-else-stands-clause-sound
invariant_of-self-else-stands-clause-sound c =
    let old = c.args.self.now in
    sound_marked _ _ _ _ _ _ _ _ _ _ _ old.sound c.requires.place c.requires.room (c.mark-self.ensures.items _ old.begun (omega (arith, c.requires.place, covered _ _ _ _ _ _ old.sound))) (torn_same _ _ _)

pub invariant_of-self-else-stands-clause-begun : goal.invariant_of-self-else-stands-clause-begun
invariant_of-self-else-stands-clause-begun c =
    let old = c.args.self.now in
    c.mark-self.ensures.within _ old.begun (omega (arith, c.requires.place, covered _ _ _ _ _ _ old.sound))

pub returns-then-stands-clause-after : goal.returns-then-stands-clause-after
returns-then-stands-clause-after c =
    let old = c.args.self.now in
    let marks = c.mark-self.ensures.items _ old.begun (omega (arith, c.requires.place, covered _ _ _ _ _ _ old.sound)) in
    let content = c.put.ensures.items ∙ ap (λ stands. if stands then written c.args.at c.args.bytes.now old.content.items else old.content.items) (sym c.if-stands.true) in
    λ i. record { content = content i; synced = old.synced.items; pending = marks i; room = old.room; meter = old.meter }

pub returns-else-stands-clause-after : goal.returns-else-stands-clause-after
returns-else-stands-clause-after c =
    let old = c.args.self.now in
    let marks = c.mark-self.ensures.items _ old.begun (omega (arith, c.requires.place, covered _ _ _ _ _ _ old.sound)) in
    let content = ap (λ stands. if stands then written c.args.at c.args.bytes.now old.content.items else old.content.items) (sym c.if-stands.false) in
    λ i. record { content = content i; synced = old.synced.items; pending = marks i; room = old.room; meter = old.meter }

pub returns-then-stands-clause-torn : goal.returns-then-stands-clause-torn
returns-then-stands-clause-torn c =
    let old = c.args.self.now in
    follows_marked _ _ _ _ _ _ _ _ _ old.sound c.requires.place (c.mark-self.ensures.items _ old.begun (omega (arith, c.requires.place, covered _ _ _ _ _ _ old.sound)))

pub returns-else-stands-clause-torn : goal.returns-else-stands-clause-torn
returns-else-stands-clause-torn c =
    let old = c.args.self.now in
    follows_marked _ _ _ _ _ _ _ _ _ old.sound c.requires.place (c.mark-self.ensures.items _ old.begun (omega (arith, c.requires.place, covered _ _ _ _ _ _ old.sound)))
