use Rattle.std.proofs.Common.{arith, ap, sym, ◌∙◌}
use Rattle.std.proofs.lemmas.Bool.{or_from, le-ltb}
use Rattle.std.specs.Prelude.{not, ◌+◌, ◌≤◌, length}
use Rattle.gw_fakes.specs.MemDisks.{state_of}
use Rattle.gw_fakes.proofs.Sound.{roomy, write_stands}
use Rattle.gw_fakes.proofs.disk.MemDiskDisk.write_at.Goals as goal

pub overflow_sub-self : goal.overflow_sub-self
overflow_sub-self c = omega (arith, roomy _ _ _ _ _ _ c.args.self.now.sound, c.requires)

pub write_within-requires-clause-room : goal.write_within-requires-clause-room
write_within-requires-clause-room c = omega (arith, roomy _ _ _ _ _ _ c.args.self.now.sound, c.requires)

pub returns-clause-limit : goal.returns-clause-limit
returns-clause-limit c past = absurd (omega (arith, past, roomy _ _ _ _ _ _ c.args.self.now.sound, c.args.self.now.sound.limited, c.requires))

pub returns-clause-fails : goal.returns-clause-fails
returns-clause-fails c =
    let fits : c.args.at + length c.args.bytes.now ≤ c.args.self.now.room = omega (arith, roomy _ _ _ _ _ _ c.args.self.now.sound, c.requires) in
    let unblown = sym c.is_blown-blown.ensures.value ∙ c.if-blown.false in
    let passes = sym c.count-fails.ensures.value ∙ c.if-fails.false in
    ap not (sym (or_from _ _ (or_from _ _ unblown (le-ltb _ _ fits)) passes))

pub returns-clause-after : goal.returns-clause-after
returns-clause-after c =
    let fits : c.args.at + length c.args.bytes.now ≤ c.args.self.now.room = omega (arith, roomy _ _ _ _ _ _ c.args.self.now.sound, c.requires) in
    let unblown = sym c.is_blown-blown.ensures.value ∙ c.if-blown.false in
    let passes = sym c.count-fails.ensures.value ∙ c.if-fails.false in
    write_stands (state_of c.args.self.now) c.count-fails.new.self c.args.at c.args.bytes.now _ _ c.count-fails.ensures.after c.write_within.ensures.after (ap not c.if-fails.false) unblown fits passes
