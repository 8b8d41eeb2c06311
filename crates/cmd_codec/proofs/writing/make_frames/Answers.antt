use Rattle.cmd_codec.specs.declared.writing.Place.{Place}
use Rattle.cmd_codec.proofs.Steps.{made-spelled, made-refused}
use Rattle.cmd_codec.proofs.writing.make_frames.Goals as goal

pub returns-in-Ok : goal.returns-in-Ok
returns-in-Ok c = record {
  spelled = made-spelled c.args.plan.now c.args.text.now c.in_ok-place.place.left.now c.in_ok-place.place.number c.make_front.new.frames.items c.in_ok-place.ensures c.in-Ok.ensures;
  front = c.in_ok-place.ensures;
}

pub returns-in-Err : goal.returns-in-Err
returns-in-Err c =
    made-refused (Unit {0}) Place c.args.plan.now c.args.text.now c.in_ok-place.place.left.now c.in_ok-place.place.number c.make_front.new.frames.items c.in-Err.refusal c.in_ok-place.ensures c.in-Err.ensures
