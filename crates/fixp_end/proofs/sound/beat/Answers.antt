use Rattle.std.proofs.Common.{sym, subst}
use Rattle.fixp_replies.specs.Facts.{around_of}
use Rattle.fixp_end.proofs.Limits.{ArePlain, plain_is_small, beat_is_plain}
use Rattle.fixp_end.proofs.sound.beat.Goals as goal

pub returns-clause-small : goal.returns-clause-small
returns-clause-small c = plain_is_small c.args.around.now.config.now c.heartbeat_due.result
    (subst ArePlain (sym c.heartbeat_due.ensures) (beat_is_plain (around_of c.args.around.now) c.args.facts.now c.args.last_sent))
