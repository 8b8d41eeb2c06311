use Rattle.std.proofs.Common.{Bool, ◌||◌, ap, sym, ◌∙◌}
use Rattle.gw_rehearse.specs.Standing.{is_given, is_failed}
use Rattle.gw_rehearse.specs.Together.{PairNow}
use Rattle.std.proofs.Math.Logic.{∥∥₁_map}
use Rattle.gw_rehearse.proofs.Together.{both_cut, lost_back, neither}
use Rattle.gw_rehearse.proofs.pair.Pair.cut.Goals as goal

pub invariant_of-self : goal.invariant_of-self
invariant_of-self c =
    let p = c.self.inside in
    let first = c.cut.ensures in
    let second = c.cut-2.ensures in (
      first.driven,
      second.driven,
      λ sound.
          let here = lost_back _ _ _ _ (λ e. sym first.given ∙ e) (λ e. sym second.given ∙ e) sound in
          let parts = neither (is_failed p.initiator.standing) (is_failed p.acceptor.standing) (ap (λ (v : PairNow). v.failed) c.self.view_is ∙ (sym c.has_failed.ensures ∙ c.if-has_failed.false)) in
          ∥∥₁_map (c.self.invariant.2 here) (λ t. both_cut p.client p.server p.initiator p.acceptor _ _ p.pipe first.over first.rests second.over second.rests here parts.0 parts.1 t),
    )

pub returns : goal.returns
returns c = record {
  stays = record {
    client = ap (λ (v : PairNow). v.client) c.self.view_is;
    server = ap (λ (v : PairNow). v.server) c.self.view_is;
    sound = λ e. ap (λ (b : Bool). b || is_given c.cut-2.new.self.standing) c.cut.ensures.given
        ∙ (ap (λ (b : Bool). is_given c.self.inside.initiator.standing || b) c.cut-2.ensures.given ∙ (ap (λ (v : PairNow). v.lost) c.self.view_is ∙ e));
  };
}
