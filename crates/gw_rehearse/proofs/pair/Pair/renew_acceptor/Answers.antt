use Rattle.std.proofs.Common.{ap, sym, subst, ◌∙◌}
use Rattle.std.specs.Prelude.{false, ◌≡◌}
use Rattle.cmd_config.specs.Settings.{own_flow, peer_flow}
use Rattle.gw_rehearse.specs.Standing.{is_given, is_failed}
use Rattle.gw_rehearse.specs.Driven.{IsDriven}
use Rattle.gw_rehearse.specs.Together.{GoesOnBehind, PairNow}
use Rattle.gw_rehearse.proofs.Together.{acceptor_on, behind_as, neither, neither_is}
use Rattle.gw_rehearse.proofs.pair.Pair.renew_acceptor.Goals as goal
use Rattle.fixp_shake.specs.declared.config.Role.TheVariants as roles

pub invariant_of-result : goal.invariant_of-result
invariant_of-result g c =
    let p = c.self.inside in
    let link = c.args.script.now.link in
    let came = c.in-Some in
    let next = subst (λ e. GoesOnBehind (own_flow roles.Acceptor link.client_flow link.server_flow) (peer_flow roles.Acceptor link.client_flow link.server_flow) p.acceptor e) (sym came.acceptor-is) came.ensures.next in (
      c.cut.ensures.driven,
      subst (λ e. IsDriven e) (sym came.acceptor-is) came.ensures.driven,
      λ _. acceptor_on p.client p.server p.initiator p.acceptor c.cut.new.self came.acceptor p.pipe c.cut.ensures.over c.cut.ensures.rests (sym c.is_lost.ensures ∙ c.if-is_lost.false)
          (sym c.has_failed.ensures ∙ c.if-has_failed.false)
          (behind_as link.server_flow link.client_flow p.server p.client p.acceptor came.acceptor (ap (λ (v : PairNow). v.server) c.self.view_is ∙ c.requires.flows.server)
          (ap (λ (v : PairNow). v.client) c.self.view_is ∙ c.requires.flows.client) next)
          c.self.invariant.2,
    )

pub returns : goal.returns
returns g c =
    let p = c.self.inside in
    let came = c.in-Some in
    record {
      stays = record {
        client = ap (λ (v : PairNow). v.client) c.self.view_is;
        server = ap (λ (v : PairNow). v.server) c.self.view_is;
        sound = λ _. neither_is _ _ (c.cut.ensures.given ∙ (neither (is_given p.initiator.standing) (is_given p.acceptor.standing) (sym c.is_lost.ensures ∙ c.if-is_lost.false)).0)
            (subst (λ e. is_given e.standing ≡ false) (sym came.acceptor-is) came.ensures.sound);
      };
    }
