use Rattle.std.proofs.Common.{◌∙◌, sym, subst, ap}
use Rattle.fixp_replies.specs.declared.facts.Facts.{Facts}
use Rattle.fixp_replies.specs.Facts.{around_of}
use Rattle.fixp_replies.specs.Events.{Made}
use Rattle.fixp_machine.specs.Sound.{Sound, HeldFits}
use Rattle.fixp_end.proofs.Told.{told_sound, told_recorded, told_serving}
use Rattle.fixp_end.proofs.Held.{told_fits}
use Rattle.fixp_end.proofs.sound.finish_sending.Goals as goal

pub returns-clause-sound : goal.returns-clause-sound
returns-clause-sound c = subst (λ (f : Facts). Sound c.args.around.now.config.now f) (sym (ap (λ (m : Made). m.next) c.tell_finish.ensures))
    (told_sound (around_of c.args.around.now) c.args.facts.now c.args.last c.requires.sound)

pub returns-clause-recorded : goal.returns-clause-recorded
returns-clause-recorded c = ap (λ (m : Made). m.next.recorded) c.tell_finish.ensures ∙ told_recorded (around_of c.args.around.now) c.args.facts.now c.args.last

pub returns-clause-serving : goal.returns-clause-serving
returns-clause-serving c = ap (λ (m : Made). m.next.connection.serving) c.tell_finish.ensures ∙ told_serving (around_of c.args.around.now) c.args.facts.now c.args.last

pub returns-clause-fits : goal.returns-clause-fits
returns-clause-fits c held k = subst (λ (f : Facts). HeldFits held f) (sym (ap (λ (m : Made). m.next) c.tell_finish.ensures))
    (told_fits (around_of c.args.around.now) c.args.facts.now c.args.last held k)
