use Rattle.std.proofs.Common.{◌∙◌, sym, subst, ap}
use Rattle.fixp_replies.specs.declared.facts.Facts.{Facts}
use Rattle.fixp_replies.specs.Facts.{around_of}
use Rattle.fixp_replies.specs.Events.{Made}
use Rattle.fixp_machine.specs.Sound.{Sound}
use Rattle.fixp_end.proofs.Begun.{begun_sound, begun_free}
use Rattle.fixp_end.proofs.sound.begin_connection.Goals as goal

pub returns-clause-sound : goal.returns-clause-sound
returns-clause-sound c = subst (λ (f : Facts). Sound c.args.around.now.config.now f) (sym (ap (λ (m : Made). m.next) c.begin.ensures)) (begun_sound (around_of c.args.around.now) c.args.facts.now c.requires.sound)

pub returns-clause-free : goal.returns-clause-free
returns-clause-free c = ap (λ (m : Made). m.next.connection.serving) c.begin.ensures ∙ begun_free (around_of c.args.around.now) c.args.facts.now
