use Rattle.std.proofs.Common.{ap, sym, subst, ◌∙◌}
use Rattle.std.specs.Prelude.{false, ◌≡◌}
use Rattle.cmd_config.specs.Settings.{own_flow, peer_flow}
use Rattle.gw_rehearse.specs.Standing.{is_given, is_failed}
use Rattle.gw_rehearse.specs.Driven.{IsDriven}
use Rattle.gw_rehearse.specs.Together.{GoesOnBehind, PairNow}
use Rattle.gw_rehearse.proofs.Together.{initiator_on, behind_as, neither, neither_is}
use Rattle.gw_rehearse.proofs.pair.Pair.renew_initiator.Goals as goal
use Rattle.fixp_shake.specs.declared.config.Role.TheVariants as roles

pub invariant_of-pair : goal.invariant_of-pair
invariant_of-pair g c =
    let p = c.self.inside in
    let link = c.args.script.now.link in
    let came = c.in-Some in
    let next = subst (λ e. GoesOnBehind (own_flow roles.Initiator link.client_flow link.server_flow) (peer_flow roles.Initiator link.client_flow link.server_flow) p.initiator e) (sym came.initiator-is) came.ensures.next in (
      c.go_on-answer.ensures.driven,
      c.cut.ensures.driven,
      λ _. initiator_on p.client p.server p.initiator p.acceptor came.initiator c.go_on-answer.new.self c.cut.new.self p.pipe c.cut.ensures.over c.cut.ensures.rests (sym c.is_lost.ensures ∙ c.if-is_lost.false)
          (sym c.has_failed.ensures ∙ c.if-has_failed.false)
          (behind_as link.client_flow link.server_flow p.client p.server p.initiator came.initiator (ap (λ (v : PairNow). v.client) c.self.view_is ∙ c.requires.flows.client)
          (ap (λ (v : PairNow). v.server) c.self.view_is ∙ c.requires.flows.server) next)
          c.go_on-answer.ensures.same c.self.invariant.2,
    )

pub invariant_of-pair-in-Err : goal.invariant_of-pair-in-Err
invariant_of-pair-in-Err g c =
    let p = c.self.inside in
    let link = c.args.script.now.link in
    let came = c.in-Some in
    let next = subst (λ e. GoesOnBehind (own_flow roles.Initiator link.client_flow link.server_flow) (peer_flow roles.Initiator link.client_flow link.server_flow) p.initiator e) (sym came.initiator-is) came.ensures.next in (
      c.go_on-answer.ensures.driven,
      c.cut.ensures.driven,
      λ _. initiator_on p.client p.server p.initiator p.acceptor came.initiator c.go_on-answer.new.self c.cut.new.self p.pipe c.cut.ensures.over c.cut.ensures.rests (sym c.is_lost.ensures ∙ c.if-is_lost.false)
          (sym c.has_failed.ensures ∙ c.if-has_failed.false)
          (behind_as link.client_flow link.server_flow p.client p.server p.initiator came.initiator (ap (λ (v : PairNow). v.client) c.self.view_is ∙ c.requires.flows.client)
          (ap (λ (v : PairNow). v.server) c.self.view_is ∙ c.requires.flows.server) next)
          c.go_on-answer.ensures.same c.self.invariant.2,
    )

pub returns-in-Ok : goal.returns-in-Ok
returns-in-Ok g c =
    let p = c.self.inside in
    let came = c.in-Some in
    let kept = ap (λ e. is_given e.standing) c.go_on-answer.ensures.same in
    record {
      stays = record {
        client = ap (λ (v : PairNow). v.client) c.self.view_is;
        server = ap (λ (v : PairNow). v.server) c.self.view_is;
        sound = λ _. neither_is _ _ (kept ∙ subst (λ e. is_given e.standing ≡ false) (sym came.initiator-is) came.ensures.sound)
            (c.cut.ensures.given ∙ (neither (is_given p.initiator.standing) (is_given p.acceptor.standing) (sym c.is_lost.ensures ∙ c.if-is_lost.false)).1);
      };
    }
