use Rattle.gate_staff.proofs.resume.plans_go_on.Goals as goal

pub returns : goal.returns
returns g c = record { law = g.met.B.Business.goes_on c.args.business.now }
