use Rattle.std.proofs.Common.{refl}
use Rattle.std.proofs.Math.Logic.{∥∥₁_map}
use Rattle.gw_rehearse.proofs.Arriving.{outward_arrived, homeward_arrived, stopped}
use Rattle.gw_rehearse.proofs.Coming.{have_totals}
use Rattle.gw_rehearse.proofs.rehearsal.judged.Goals as goal

pub returns-then-acceptor_finished-clause-outward : goal.returns-then-acceptor_finished-clause-outward
returns-then-acceptor_finished-clause-outward c = λ is.
    let link = c.args.script.now.link in
    ∥∥₁_map c.requires.keeps (λ s. outward_arrived link.client_flow link.server_flow c.args.initiator c.args.acceptor s (c.if-outward.ensures.counts refl) is)

pub returns-then-acceptor_finished-clause-homeward : goal.returns-then-acceptor_finished-clause-homeward
returns-then-acceptor_finished-clause-homeward c = λ is.
    let link = c.args.script.now.link in
    ∥∥₁_map c.requires.keeps (λ s. homeward_arrived link.client_flow link.server_flow c.args.initiator c.args.acceptor s (c.if-homeward.ensures.counts refl) is)

pub returns-clause-undrained : goal.returns-clause-undrained
returns-clause-undrained c = λ m n e.
    let link = c.args.script.now.link in
    ∥∥₁_map c.requires.keeps (λ s. stopped link.client_flow link.server_flow c.args.initiator c.args.acceptor c.next.result c.next-2.result m n s c.next.ensures.value c.next-2.ensures.value e)

pub returns-then-acceptor_finished-clause-reported : goal.returns-then-acceptor_finished-clause-reported
returns-then-acceptor_finished-clause-reported c = c.if-reported.ensures.reported refl

pub returns-then-acceptor_finished-clause-totals : goal.returns-then-acceptor_finished-clause-totals
returns-then-acceptor_finished-clause-totals c = λ both.
    have_totals c.args.script.now.load c.args.initiator c.args.acceptor (c.requires.sent c.if-done.true) (c.if-reported.ensures.reported refl) (c.if-reported.ensures.all refl both)
