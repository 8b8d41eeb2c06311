use Rattle.std.proofs.Common.{ℕ, arith}
use Rattle.std.proofs.lemmas.List.{length-replicate}
use Rattle.conn_keys.proofs.Turning.{came_first, came_known, came_stranger}
use Rattle.conn_keys.proofs.knowing.gives_keys.Goals as goal

pub returns-in-Ok-clause-yes : goal.returns-in-Ok-clause-yes
returns-in-Ok-clause-yes g c =
    let told = g.L.Link.told in
    let first =
    came_first (told c.args.link.now) (told c.peek.new.self) c.split_at.result.0.now c.peek.new.into c.in-Ok.count c.peek.ensures.told c.split_at.ensures.front
    (omega (arith, c.peek.auto.into, length-replicate {A = ℕ})) c.in-Ok.ensures.front in
    λ served. came_known c.args.keys.now (told c.peek.new.self) c.split_at.result.0.now first (c.is_served.ensures.yes served)

pub returns-in-Ok-clause-no : goal.returns-in-Ok-clause-no
returns-in-Ok-clause-no g c =
    let told = g.L.Link.told in
    let first =
    came_first (told c.args.link.now) (told c.peek.new.self) c.split_at.result.0.now c.peek.new.into c.in-Ok.count c.peek.ensures.told c.split_at.ensures.front
    (omega (arith, c.peek.auto.into, length-replicate {A = ℕ})) c.in-Ok.ensures.front in
    λ unserved. came_stranger c.args.keys.now (told c.peek.new.self) (g.L.Link.faults c.peek.new.self) c.split_at.result.0.now first (c.is_served.ensures.no unserved)
