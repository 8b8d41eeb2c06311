use Rattle.gw_links.proofs.EchoSteps.{echoed_part}
use Rattle.gw_links.proofs.echoing.echo_once.Goals as goal

pub returns-in_err-send_front-clause-front : goal.returns-in_err-send_front-clause-front
returns-in_err-send_front-clause-front g c =
    let f = c.in_err-send_front.ensures.front in
    echoed_part _ _ _ _ _ _ _ f.count f.within (rw c.split_at.ensures.front (rw c.in-Bytes.is at c.in_ok-count.ensures.moves)) f.moved

pub returns-then-branch-count-clause-front : goal.returns-then-branch-count-clause-front
returns-then-branch-count-clause-front g c =
    echoed_part _ _ _ _ _ _ _ _ c.in_ok-send_front.ensures.count (rw c.split_at.ensures.front (rw c.in-Bytes.is at c.in_ok-count.ensures.moves)) c.in_ok-send_front.ensures.moves

pub returns-clause-front : goal.returns-clause-front
returns-clause-front g c =
    echoed_part _ _ _ _ _ _ _ _ c.in_ok-send_front.ensures.count (rw c.split_at.ensures.front (rw c.in-Bytes.is at c.in_ok-count.ensures.moves)) c.in_ok-send_front.ensures.moves
