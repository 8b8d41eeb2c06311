use Rattle.std.proofs.Common.{◌∙◌, List, [], sym, subst, ap}
use Rattle.std.specs.List.{AllByRecursion}
use Rattle.fixp_msgs.specs.Message.{Message}
use Rattle.fixp_replies.specs.declared.facts.Facts.{Facts}
use Rattle.fixp_replies.specs.Facts.{around_of}
use Rattle.fixp_replies.specs.Events.{Made}
use Rattle.fixp_machine.specs.Sound.{Sound, HeldFits, MayWrite}
use Rattle.fixp_end.proofs.Turn.{turn_sound, turn_recorded, turn_serving, turn_is_plain, turn_writes}
use Rattle.fixp_end.proofs.Limits.{ArePlain, plain_is_small}
use Rattle.fixp_end.proofs.Held.{turn_fits}
use Rattle.fixp_end.proofs.sound.finish_turn.Goals as goal

pub returns-clause-sound : goal.returns-clause-sound
returns-clause-sound c = subst (λ (f : Facts). Sound c.args.around.now.config.now f) (sym (ap (λ (m : Made). m.next) (c.end_turn.ensures [])))
    (turn_sound (around_of c.args.around.now) c.args.facts.now [] c.requires.sound)

pub returns-clause-recorded : goal.returns-clause-recorded
returns-clause-recorded c = ap (λ (m : Made). m.next.recorded) (c.end_turn.ensures []) ∙ turn_recorded (around_of c.args.around.now) c.args.facts.now []

pub returns-clause-writes : goal.returns-clause-writes
returns-clause-writes c = subst (λ (ms : List Message). AllByRecursion (MayWrite c.args.around.now.config.now) ms) (sym (ap (λ (m : Made). m.written) (c.end_turn.ensures [])))
    (turn_writes (around_of c.args.around.now) c.args.facts.now)

pub returns-clause-serving : goal.returns-clause-serving
returns-clause-serving c = ap (λ (m : Made). m.next.connection.serving) (c.end_turn.ensures []) ∙ turn_serving (around_of c.args.around.now) c.args.facts.now []

pub returns-clause-small : goal.returns-clause-small
returns-clause-small c = plain_is_small c.args.around.now.config.now c.end_turn.result
    (subst ArePlain (sym (ap (λ (m : Made). m.written) (c.end_turn.ensures []))) (turn_is_plain (around_of c.args.around.now) c.args.facts.now))

pub returns-clause-fits : goal.returns-clause-fits
returns-clause-fits c held k = subst (λ (f : Facts). HeldFits held f) (sym (ap (λ (m : Made). m.next) (c.end_turn.ensures [])))
    (turn_fits (around_of c.args.around.now) c.args.facts.now [] held k)
