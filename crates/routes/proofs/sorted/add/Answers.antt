-- One more identifier, or one whose number stands there.
use Rattle.std.proofs.Common.{refl, arith}
use Rattle.routes.proofs.Adding.{known_stands, sorted_added, fresh_stands}
use Rattle.routes.proofs.sorted.add.Goals as goal

pub returns-in_default-clause-known : goal.returns-in_default-clause-known
returns-in_default-clause-known c = λ e.
    known_stands c.args.ids.now.items c.args.routes.now.items c.as_slice.result.now c.args.id.now c.in_default.field-0 c.key-key.result c.as_slice.ensures.value c.requires c.key-key.ensures.is c.key-key.ensures.key c.in_default.ensures.within c.in_default.ensures.found

pub returns-clause-sorted : goal.returns-clause-sorted
returns-clause-sorted c = λ e.
    sorted_added c.args.ids.now.items c.push.new.self.items c.args.routes.now.items c.as_slice.result.now c.insert.new.self.items c.args.id.now c.in-Err.at c.key-key.result _ c.as_slice.ensures.value c.in_ok-push.ensures.items c.in_ok-insert.ensures.items c.requires c.key-key.ensures.is c.key-key.ensures.key c.in-Err.ensures.none refl (omega (arith, c.len-place.ensures, c.args.ids.now.ok.0))

pub returns-clause-fresh : goal.returns-clause-fresh
returns-clause-fresh c = λ e p stands.
    fresh_stands c.args.ids.now.items c.args.ids.now.items c.args.routes.now.items c.as_slice.result.now c.args.id.now c.in-Err.at c.key-key.result p refl c.as_slice.ensures.value c.requires c.key-key.ensures.key c.in-Err.ensures.none stands
