use Rattle.std.proofs.Common.{◌∙◌, ap, slice_get}
use Rattle.sbe_layout.specs.Plans.{message_of}
use Rattle.sbe_layout.proofs.Places.{looked_up, place_is, no_place}
use Rattle.sbe_layout.proofs.messages.MessagePlans.find.Goals as goal

pub returns-in-None : goal.returns-in-None
returns-in-None c =
    no_place c.self.inside.places c.self.inside.list.items c.args.template c.self.invariant c.in-None.ensures.value
    ∙ ap (message_of c.args.template) c.self.view_is

pub returns-in-Some : goal.returns-in-Some
returns-in-Some c =
    looked_up c.as_slice.result.now c.in-Some.at.now c.get-in-Some.result c.get-in-Some.ensures.lookup.0 c.get-in-Some.ensures.lookup.1
    ∙ ap (λ xs. slice_get xs c.in-Some.at.now) c.as_slice.ensures.value
    ∙ place_is c.self.inside.places c.self.inside.list.items c.args.template c.in-Some.at.now c.self.invariant c.in-Some.ensures.value
    ∙ ap (message_of c.args.template) c.self.view_is
