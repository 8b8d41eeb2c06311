use Rattle.std.proofs.Common.{ap, sym, subst, ◌∙◌}
use Rattle.std.proofs.Math.Logic.{∥∥₁_map}
use Rattle.gw_rehearse.specs.Together.{PairNow, Together}
use Rattle.gw_rehearse.proofs.Together.{round_behind}
use Rattle.gw_rehearse.proofs.pair.Pair.turns.Goals as goal

pub invariant_of-self-2 : goal.invariant_of-self-2
invariant_of-self-2 g c =
    let p = c.self.inside in
    let e = c.turn_both.ensures in (
      e.initiator,
      e.acceptor,
      λ sound.
          ∥∥₁_map (c.self.invariant.2 (c.in_ok-pipe.ensures.sound (e.sound sound)))
          (λ t. round_behind p.client p.server c.turn_both.new.initiator c.turn_both.new.acceptor _ _ _ c.put_back.ensures.pipe c.is_going-goes_on.ensures sound
          (e.together p.client p.server (c.in_ok-pipe.ensures.together p.client p.server (subst (λ o. Together p.client p.server p.initiator p.acceptor o) (sym c.take-pipe.ensures.value) t)) sound)),
    )

pub returns : goal.returns
returns g c = record {
  stays = record {
    client = ap (λ (v : PairNow). v.client) c.self.view_is;
    server = ap (λ (v : PairNow). v.server) c.self.view_is;
    sound = λ _. sym c.is_lost.ensures ∙ c.if-is_lost.false;
  };
}
