use Rattle.std.proofs.Common.{rules}
use Rattle.gw_links.proofs.EchoSteps.{front_more, whole_more}
use Rattle.gw_links.proofs.echoing.echo.Goals as goal

pub returns-in_err-how-clause-front : goal.returns-in_err-how-clause-front
returns-in_err-how-clause-front g c = front_more _ _ _ _ _ _ c.loop.invariant.whole c.echo_once.ensures.front

pub returns-in_default : goal.returns-in_default
returns-in_default g c = record {
  front = front_more _ _ _ _ _ _ c.loop.invariant.whole c.echo_once.ensures.front;
  whole = λ not_part. whole_more _ _ _ _ _ _ c.loop.invariant.whole (c.in_ok-how.ensures.whole not_part);
  idle = search rules;
  stays = search rules;
  cause = search rules;
}

pub loop-preserved : goal.loop-preserved
loop-preserved g c = record {
  whole = whole_more _ _ _ _ _ _ c.loop.invariant.whole (c.in_ok-how.ensures.whole (λ part. let w = c.in-Whole.is in search (rules, w, part)));
  stayed = search rules;
  counted = search rules;
}
