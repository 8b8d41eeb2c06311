use Rattle.std.proofs.Common.{◌≡◌, ◌+◌, ◌++◌, min, arith, ap, subst, drop, length, ◌∙◌}
use Rattle.gw_fakes.proofs.Sound.{ready_same, roomy, sound_still, still_left}
use Rattle.gw_fakes.proofs.disk.MemDiskDisk.sync.Goals as goal

pub settle-requires-clause-room : goal.settle-requires-clause-room
settle-requires-clause-room c = omega (arith, (ready_same _ _ _ _ _ _ _ c.args.self.now.sound c.deref.ensures.value).fits, c.args.self.now.synced_room)

pub settle-requires-clause-below : goal.settle-requires-clause-below
settle-requires-clause-below c = (ready_same _ _ _ _ _ _ _ c.args.self.now.sound c.deref.ensures.value).below

pub settle-requires-clause-above : goal.settle-requires-clause-above
settle-requires-clause-above c =
    let old = c.args.self.now in
    let content = c.deref.result.now in
    let synced = old.synced.items in
    let end : old.low + length old.pending.items ≡ old.low + c.len.result = omega (arith, c.len.ensures, old.pending.ok.0) in
    subst (λ high. drop (min high (length synced)) content ≡ drop (min high (length synced)) synced ++ drop (length synced) content) end
    (ready_same _ _ _ _ _ _ _ old.sound c.deref.ensures.value).above

pub invariant_of-self-2-clause-sound : goal.invariant_of-self-2-clause-sound
invariant_of-self-2-clause-sound c =
    sound_still _ _ _ _ (c.settle.ensures.items ∙ c.deref.ensures.value) (ap length c.clear.ensures.items) (roomy _ _ _ _ _ _ c.args.self.now.sound) c.args.self.now.sound.limited

pub returns-clause-settled : goal.returns-clause-settled
returns-clause-settled c image left = still_left _ _ _ image (c.settle.ensures.items ∙ c.deref.ensures.value) (ap length c.clear.ensures.items) left
