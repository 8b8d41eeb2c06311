-- What is printed of an application message, in the schema's byte order.
use Rattle.std.proofs.Common.{◌≡◌, ℕ, Bool, true, if◌then◌else◌, Err, List, ◌++◌, ap, sym, ◌∙◌}
use denote.Enum.Bare.{sameb}
use Rattle.sbe_prim.specs.contracts.Order as order
use Rattle.sofh_frame.specs.Framing.{Frame}
use Rattle.sbe_layout.specs.declared.plan.Plan.{Plan}
use Rattle.sbe_grammar.specs.declared.fault.DecodeFault.{DecodeFault}
use Rattle.sbe_grammar.specs.Reading.{message_in}
use Rattle.sbe_text.specs.Wire.{HasNamed}
use Rattle.frame_text.specs.Held.{unread, fault_words, order_words, application_told, application_lines}

-- it is told by the schema
by-schema : (plan : Plan) (f : Frame) → sameb order.the_type f.order plan.order ≡ true → application_lines plan f ≡ application_told plan f (message_in plan f.message)
by-schema plan f same = ap (λ (t : Bool). if t then application_told plan f (message_in plan f.message) else unread f order_words) same

-- its lines were added
pub added : (plan : Plan) (f : Frame) (old new : List ℕ) → sameb order.the_type f.order plan.order ≡ true → HasNamed plan.listings plan f.message old new → new ≡ old ++ application_lines plan f
added plan f old new same h = h.added ∙ ap (λ l. old ++ l) (sym (by-schema plan f same ∙ ap (application_told plan f) h.spelled))

-- or its fault is told
pub faulty : (plan : Plan) (f : Frame) (fault : DecodeFault) → sameb order.the_type f.order plan.order ≡ true → message_in plan f.message ≡ Err fault → unread f (fault_words fault) ≡ application_lines plan f
faulty plan f fault same e = sym (by-schema plan f same ∙ ap (application_told plan f) e)
