-- What is found is spelled, and what is spelled is found.
use Rattle.std.proofs.Common.{◌∙◌}
use Rattle.sofh_frame.specs.FirstFrame.{seen}
use Rattle.sofh_frame.proofs.FramingLemmas.{IsBytes-slice, IfFrame-begins, frame-BeginsWith}
use Rattle.sofh_frame.proofs.header.next.Goals as goal

pub returns-clause-found : goal.returns-clause-found
returns-clause-found c = IfFrame-begins c.args.bytes.now (seen c.first_frame.result) (IsBytes-slice c.args.bytes.now c.type_inv.bytes) c.first_frame.ensures

pub returns-clause-only : goal.returns-clause-only
returns-clause-only c = λ f size begins. c.first_frame.ensures ∙ frame-BeginsWith c.args.bytes.now f size begins
