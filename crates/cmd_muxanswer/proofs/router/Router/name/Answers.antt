use Rattle.std.proofs.Common.{List, subst}
use Rattle.routes.specs.Identifiers.{StandsAt}
use Rattle.cmd_config.specs.declared.settings.Settings.{Settings}
use Rattle.cmd_muxanswer.specs.Sessions.{identifiers}
use Rattle.cmd_muxanswer.proofs.Routing.{holds_named, holds_other, open_named}
use Rattle.cmd_muxanswer.proofs.router.Router.name.Goals as goal

pub returns-in-Some-clause-open : goal.returns-in-Some-clause-open
returns-in-Some-clause-open c = open_named c.args.self.now c.in-Some.place c.args.id.now c.requires.open c.in-Some.ensures.found

pub returns-in-Some-clause-named : goal.returns-in-Some-clause-named
returns-in-Some-clause-named c = λ sessions frames wire out f said holds.
    holds_named sessions frames wire out c.args.self.now f c.args.id.now c.in-Some.place holds said
    (subst (λ (l : List Settings). StandsAt (identifiers l) c.args.id.now c.in-Some.place) holds.same c.in-Some.ensures.found)

pub returns-in-None-clause-named : goal.returns-in-None-clause-named
returns-in-None-clause-named c = λ sessions frames wire out f said holds.
    holds_other sessions frames wire out c.args.self.now f c.args.id.now holds said
    (λ p. subst (λ (l : List Settings). StandsAt (identifiers l) c.args.id.now p → ⊥) holds.same (c.in-None.ensures.none p))
