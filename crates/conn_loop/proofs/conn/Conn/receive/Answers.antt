use Rattle.std.proofs.Common.{◌≡◌, ◌<◌, ◌||◌, ℕ, Bool, true, false, [], take, rules, refl, sym, append-nil}
use Rattle.std.proofs.lemmas.List.Elements.{All-take, All-nil}
use Rattle.gw_links.proofs.Moving.{moved_none}
use Rattle.conn_steps.proofs.Following.{line_is}
use Rattle.conn_loop.proofs.conn.Conn.receive.Goals as goal

-- a receive that was not made does not tell that the link has ended
or_no : (b : Bool) → b ≡ (b || false)
or_no true = refl
or_no false = refl

pub returns-then-is_empty-clause-received : goal.returns-then-is_empty-clause-received
returns-then-is_empty-clause-received g c = record {
  received = [];
  bytes = All-nil (λ (b : ℕ). b < 256);
  line = line_is _ _ refl (sym (append-nil c.args.self.now.framer.held)) refl (or_no c.args.self.now.over) refl refl refl;
  found = search rules;
  moved = moved_none (g.L.Link.told c.args.link.now) (g.L.Link.carried c.args.link.now);
}

pub returns-in-Ok-Bytes-clause-received : goal.returns-in-Ok-Bytes-clause-received
returns-in-Ok-Bytes-clause-received g c = record {
  received = take c.in-Ok-Bytes.count c.receive_into.new.into;
  bytes = All-take (λ (b : ℕ). b < 256) c.in-Ok-Bytes.count c.receive_into.new.into c.receive_into.ensures.bytes;
  line = search rules;
  found = search rules;
  moved = search rules;
}
