use Rattle.std.proofs.Common.{refl, subst}
use Rattle.std.specs.Option.{ForSome}
use Rattle.jr_dated.specs.Images.{IsJournal}
use Rattle.gw_rehearse.proofs.Opening.{is_image, leaves_one, leaves_within}
use Rattle.gw_rehearse.proofs.disks.open_journal.Goals as goal

pub returns-in-Ok-clause-left : goal.returns-in-Ok-clause-left
returns-in-Ok-clause-left c = λ closing refused leaves h s.
    let disk = c.args.disk in
    let j = c.in-Ok.journal in
    is_image disk disk.content.items closing refused h disk.sound.left leaves (subst (λ t. ForSome t (λ content. IsJournal content h)) c.in-Ok.ensures.content (s.told (j.whole c.in-Ok.ensures.not_broken)) disk.content.items refl)

pub returns-in-Ok-clause-kept : goal.returns-in-Ok-clause-kept
returns-in-Ok-clause-kept c =
    let disk = c.args.disk in
    let o = c.in-Ok.ensures.opened in
    leaves_one disk c.in-Ok.journal.disk disk.content.items o.list disk.sound.left (o.content disk.content.items refl) o.holds.images

pub returns-in-Err-default-Fault-clause-returned : goal.returns-in-Err-default-Fault-clause-returned
returns-in-Err-default-Fault-clause-returned c = leaves_within c.args.disk c.in-Err-default-Fault.disk c.in-Err-default-Fault.ensures.returned_images
