use Rattle.std.proofs.Common.{◌∙◌, ap}
use Rattle.gate_senders.specs.Kept.{account}
use Rattle.gate_senders.proofs.Keeping.{Keeps, keeps_raised, account_raised}
use Rattle.gate_senders.proofs.kept.Kept.at.Goals as goal

pub invariant_of-self : goal.invariant_of-self
invariant_of-self g c =
    let old = c.args.self.now in
    let box = c.deref_mut.result.now in
    let was : Keeps box old.told.history old.told.refused = rw c.deref_mut.ensures.value (record { holds = old.holds; whole = old.whole }) in
    let now = keeps_raised box c.at.new.self old.told.history old.told.refused c.at.ensures.same was in
    record { holds = now.holds; whole = now.whole }

pub returns : goal.returns
returns g c =
    let old = c.args.self.now in
    let box = c.deref_mut.result.now in
    record { same = account_raised box c.at.new.self old.told.history old.told.refused c.at.ensures.same ∙ ap (λ b. account b old.told.history old.told.refused) c.deref_mut.ensures.value }
