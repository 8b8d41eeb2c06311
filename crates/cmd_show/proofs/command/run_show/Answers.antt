use Rattle.std.proofs.Common.{refl}
use Rattle.schema_load.specs.Load.{plan_of_text}
use Rattle.cmd_show.specs.Progress.{asked_by}
use Rattle.cmd_show.proofs.Judging.{gave_ahead, gave_by, gave_refused, judged_ahead, judged_late, late_ahead, late_schema, unread_schema}
use Rattle.cmd_show.proofs.command.run_show.Goals as goal

pub returns-in-Err-clause-gave : goal.returns-in-Err-clause-gave
returns-in-Err-clause-gave g c = λ text ahead image plan e ok told f.
    gave_refused (asked_by plan c.args.choice ahead image) (g.K.Sink.taken c.args.devices.now.out) c.in-Err.outcome (plan_of_text text) c.in-Err.ensures.refusal (c.in-Err.ensures.refused text e) ok

pub returns-in-Err-start_of-clause-verdict : goal.returns-in-Err-start_of-clause-verdict
returns-in-Err-start_of-clause-verdict g c = λ text e. rw c.unread.ensures (judged_ahead c.in-Err-start_of.fault (plan_of_text text) (rw (c.in-Ok.ensures.ok text e) refl))

pub returns-in-Err-start_of-clause-gave : goal.returns-in-Err-start_of-clause-gave
returns-in-Err-start_of-clause-gave g c = λ text ahead image plan e ok told f.
    rw c.unread.ensures (gave_ahead (asked_by plan c.args.choice ahead image) (g.K.Sink.taken c.args.devices.now.out) c.in-Err-start_of.fault (c.in-Err-start_of.ensures.refused ahead told))

pub returns-in-Err-start_of-clause-schema_first : goal.returns-in-Err-start_of-clause-schema_first
returns-in-Err-start_of-clause-schema_first g c = λ stops. absurd (unread_schema c.in-Err-start_of.fault (rw c.unread.ensures at stops))

pub returns-clause-verdict : goal.returns-clause-verdict
returns-clause-verdict g c = λ text e. judged_late c.show_records.result (plan_of_text text) (rw (c.in-Ok.ensures.ok text e) refl) c.show_records.ensures.late

pub returns-clause-gave : goal.returns-clause-gave
returns-clause-gave g c = λ text ahead image plan e ok told f.
    gave_by c.in-Ok.plan plan c.args.choice ahead image (plan_of_text text) (g.K.Sink.taken c.args.devices.now.out) (g.K.Sink.taken c.show_records.new.out) c.show_records.result (c.in-Ok.ensures.ok text e) ok
    (c.show_records.ensures.promise ahead image (c.in-Ok-start_of.ensures.start ahead told) f)

pub returns-clause-schema_first : goal.returns-clause-schema_first
returns-clause-schema_first g c = λ stops. absurd (late_schema c.show_records.result c.show_records.ensures.late stops)

pub returns-clause-ahead_first : goal.returns-clause-ahead_first
returns-clause-ahead_first g c = λ stops. absurd (late_ahead c.show_records.result c.show_records.ensures.late stops)
