use Rattle.conn_keys.proofs.Turning.{looks_known}
use Rattle.conn_keys.proofs.knowing.known_guest.Goals as goal

pub returns-then-gives_keys-clause-knows : goal.returns-then-gives_keys-clause-knows
returns-then-gives_keys-clause-knows g c =
    looks_known c.args.keys.now (g.G.Link.Link.told c.gives_keys.new.link) (c.gives_keys.ensures.yes c.if-gives_keys.true)
