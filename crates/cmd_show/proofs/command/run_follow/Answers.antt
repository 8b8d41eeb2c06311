use Rattle.std.proofs.Common.{refl}
use Rattle.schema_load.specs.Load.{plan_of_text}
use Rattle.cmd_show.specs.Progress.{asked_by}
use Rattle.cmd_show.proofs.Judging.{following_ahead, following_ahead_of, following_by, following_refused, following_schema, judged_ahead, judged_following, unread_schema}
use Rattle.cmd_show.proofs.command.run_follow.Goals as goal

pub returns-in-Err-clause-gave : goal.returns-in-Err-clause-gave
returns-in-Err-clause-gave g c = λ text ahead image plan e ok told f kept.
    following_refused (asked_by plan c.args.choice ahead image) (g.K.Sink.taken c.args.devices.now.out) c.in-Err.outcome (plan_of_text text) c.in-Err.ensures.refusal (c.in-Err.ensures.refused text e) ok

pub returns-in-Err-start_of-clause-verdict : goal.returns-in-Err-start_of-clause-verdict
returns-in-Err-start_of-clause-verdict g c = λ text e. rw c.unread.ensures (judged_ahead c.in-Err-start_of.fault (plan_of_text text) (rw (c.in-Ok.ensures.ok text e) refl))

pub returns-in-Err-start_of-clause-gave : goal.returns-in-Err-start_of-clause-gave
returns-in-Err-start_of-clause-gave g c = λ text ahead image plan e ok told f kept.
    rw c.unread.ensures
    (following_ahead_of (asked_by plan c.args.choice ahead image) (g.K.Sink.taken c.args.devices.now.out) c.in-Err-start_of.fault (c.in-Err-start_of.ensures.refused ahead told))

pub returns-in-Err-start_of-clause-schema_first : goal.returns-in-Err-start_of-clause-schema_first
returns-in-Err-start_of-clause-schema_first g c = λ stops. absurd (unread_schema c.in-Err-start_of.fault (rw c.unread.ensures at stops))

pub returns-clause-verdict : goal.returns-clause-verdict
returns-clause-verdict g c = λ text e. judged_following c.follow_records.result (plan_of_text text) (rw (c.in-Ok.ensures.ok text e) refl) c.follow_records.ensures.late

pub returns-clause-gave : goal.returns-clause-gave
returns-clause-gave g c = λ text ahead image plan e ok told f kept.
    following_by c.in-Ok.plan plan c.args.choice ahead image (plan_of_text text) (g.K.Sink.taken c.args.devices.now.out) (g.K.Sink.taken c.follow_records.new.out) c.follow_records.result (c.in-Ok.ensures.ok text e) ok
    (c.follow_records.ensures.gave ahead image (c.in-Ok-start_of.ensures.start ahead told) f kept)

pub returns-clause-schema_first : goal.returns-clause-schema_first
returns-clause-schema_first g c = λ stops. absurd (following_schema c.follow_records.result c.follow_records.ensures.late stops)

pub returns-clause-ahead_first : goal.returns-clause-ahead_first
returns-clause-ahead_first g c = λ stops. absurd (following_ahead c.follow_records.result c.follow_records.ensures.late stops)
