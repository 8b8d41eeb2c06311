use Rattle.std.proofs.Common.{List, ℕ, Option, Err, ◌∙◌, ap, subst}
use Rattle.std.specs.Option.{ForSome}
use Rattle.jr_judge.specs.Judged.{IsWrong}
use Rattle.cmd_journal.proofs.Opened.{box_is, rests_opened}
use Rattle.cmd_journal.proofs.boxes.open_box.Goals as goal

pub returns-in-Ok-judge-clause-holds : goal.returns-in-Ok-judge-clause-holds
returns-in-Ok-judge-clause-holds g c =
    let told = g.D.Disk.told c.args.disk in
    let opened = c.in-Ok.ensures.opened in
    let rests = rests_opened {D = g.row.D.Denot} {G = g.D.Disk} told c.in-Ok.journal c.in-Ok.ensures.not_broken opened in
    let judged = c.in-Ok-judge.ensures.those opened.list rests in
    (judged.0, judged.1, box_is {D = g.row.D.Denot} {G = g.D.Disk} g.met.D.Disk.told_is_left told c.judge.new.journal (c.judge.ensures.read.told ∙ c.in-Ok.ensures.content) c.args.which judged.0 judged.1 judged.2)

pub returns-in-Err-judge-clause-refused : goal.returns-in-Err-judge-clause-refused
returns-in-Err-judge-clause-refused g c =
    let told = g.D.Disk.told c.args.disk in
    let opened = c.in-Ok.ensures.opened in
    let rests = rests_opened {D = g.row.D.Denot} {G = g.D.Disk} told c.in-Ok.journal c.in-Ok.ensures.not_broken opened in
    c.excluded.ensures.refused told (λ at is. subst (λ (t : Option (List ℕ)). ForSome t (IsWrong c.args.which at)) c.in-Ok.ensures.content (c.in-Err-judge.ensures.wrong at (ap Err is) opened.list rests))
