use Rattle.std.proofs.Common.{◌≡◌, ◌+◌, ◌++◌, min, arith, refl, ap, subst, drop, length, ◌∙◌}
use Rattle.gw_fakes.specs.Disks.{pending_from}
use Rattle.gw_fakes.proofs.Sound.{ready_picked, sound_still}
use Rattle.gw_fakes.proofs.disk.MemDisk.stop.Goals as goal

pub settle-requires-clause-room : goal.settle-requires-clause-room
settle-requires-clause-room c =
    let old = c.args.self in
    let count : c.len-2.result ≡ length old.synced.items = omega (arith, c.len-2.ensures, old.synced.ok.0) in
    let marks = c.deref-2.ensures.value ∙ c.spread.ensures.items ∙ ap (pending_from old.low old.pending.items) count in
    omega (arith, (ready_picked _ _ _ _ _ _ c.args.pick _ _ _ _ old.sound c.deref.ensures.value marks c.leave.ensures.items c.deref-3.ensures.value).fits, old.synced_room)

pub settle-requires-clause-grown : goal.settle-requires-clause-grown
settle-requires-clause-grown c =
    let old = c.args.self in
    let count : c.len-2.result ≡ length old.synced.items = omega (arith, c.len-2.ensures, old.synced.ok.0) in
    let marks = c.deref-2.ensures.value ∙ c.spread.ensures.items ∙ ap (pending_from old.low old.pending.items) count in
    (ready_picked _ _ _ _ _ _ c.args.pick _ _ _ _ old.sound c.deref.ensures.value marks c.leave.ensures.items c.deref-3.ensures.value).grown

pub settle-requires-clause-below : goal.settle-requires-clause-below
settle-requires-clause-below c =
    let old = c.args.self in
    let count : c.len-2.result ≡ length old.synced.items = omega (arith, c.len-2.ensures, old.synced.ok.0) in
    let marks = c.deref-2.ensures.value ∙ c.spread.ensures.items ∙ ap (pending_from old.low old.pending.items) count in
    (ready_picked _ _ _ _ _ _ c.args.pick _ _ _ _ old.sound c.deref.ensures.value marks c.leave.ensures.items c.deref-3.ensures.value).below

pub settle-requires-clause-above : goal.settle-requires-clause-above
settle-requires-clause-above c =
    let old = c.args.self in
    let count : c.len-2.result ≡ length old.synced.items = omega (arith, c.len-2.ensures, old.synced.ok.0) in
    let marks = c.deref-2.ensures.value ∙ c.spread.ensures.items ∙ ap (pending_from old.low old.pending.items) count in
    let end : old.low + length old.pending.items ≡ old.low + c.len.result = omega (arith, c.len.ensures, old.pending.ok.0) in
    let content = c.deref-3.result.now in
    let synced = old.synced.items in
    subst (λ high. drop (min high (length synced)) content ≡ drop (min high (length synced)) synced ++ drop (length synced) content) end
    (ready_picked _ _ _ _ _ _ c.args.pick _ _ _ _ old.sound c.deref.ensures.value marks c.leave.ensures.items c.deref-3.ensures.value).above

pub invariant_of-result-clause-sound : goal.invariant_of-result-clause-sound
invariant_of-result-clause-sound c =
    let old = c.args.self in
    let count : c.len-2.result ≡ length old.synced.items = omega (arith, c.len-2.ensures, old.synced.ok.0) in
    let marks = c.deref-2.ensures.value ∙ c.spread.ensures.items ∙ ap (pending_from old.low old.pending.items) count in
    sound_still _ _ _ _ (c.settle.ensures.items ∙ c.deref-3.ensures.value) (ap length c.clear.ensures.items)
    (omega (arith, (ready_picked _ _ _ _ _ _ c.args.pick _ _ _ _ old.sound c.deref.ensures.value marks c.leave.ensures.items c.deref-3.ensures.value).fits, ap length c.deref-3.ensures.value)) old.sound.limited

pub returns-clause-image : goal.returns-clause-image
returns-clause-image c =
    let old = c.args.self in
    let count : c.len-2.result ≡ length old.synced.items = omega (arith, c.len-2.ensures, old.synced.ok.0) in
    let marks = c.deref-2.ensures.value ∙ c.spread.ensures.items ∙ ap (pending_from old.low old.pending.items) count in
    (ready_picked _ _ _ _ _ _ c.args.pick _ _ _ _ old.sound c.deref.ensures.value marks c.leave.ensures.items refl).left
