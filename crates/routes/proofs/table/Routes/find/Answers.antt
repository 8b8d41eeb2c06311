-- What the search found, by the identifiers.
use Rattle.routes.proofs.Adding.{found_stands, only_found, fresh_stands}
use Rattle.routes.proofs.table.Routes.find.Goals as goal

pub returns-in-Ok-clause-found : goal.returns-in-Ok-clause-found
returns-in-Ok-clause-found c =
    let w = c.self.inside in
    found_stands w.ids.items c.args.self.now w.routes.items c.as_slice.result.now c.args.id.now c.in-Ok.at c.key.result c.index.result.now c.self.view_is c.as_slice.ensures.value c.self.invariant c.key.ensures.is c.key.ensures.key c.in-Ok.ensures.within c.in-Ok.ensures.found c.index.ensures

pub returns-in-Ok-clause-only : goal.returns-in-Ok-clause-only
returns-in-Ok-clause-only c = λ place stands.
    let w = c.self.inside in
    only_found w.ids.items c.args.self.now w.routes.items c.as_slice.result.now c.args.id.now c.in-Ok.at c.key.result place c.index.result.now c.self.view_is c.as_slice.ensures.value c.self.invariant c.key.ensures.key c.in-Ok.ensures.within c.in-Ok.ensures.found c.index.ensures stands

pub returns-in-Err-clause-none : goal.returns-in-Err-clause-none
returns-in-Err-clause-none c = λ place stands.
    let w = c.self.inside in
    fresh_stands w.ids.items c.args.self.now w.routes.items c.as_slice.result.now c.args.id.now c.in-Err.field-0 c.key.result place c.self.view_is c.as_slice.ensures.value c.self.invariant c.key.ensures.key c.in-Err.ensures.none stands

pub returns-in-Err-clause-only : goal.returns-in-Err-clause-only
returns-in-Err-clause-only c = λ place stands.
    let w = c.self.inside in
    absurd (fresh_stands w.ids.items c.args.self.now w.routes.items c.as_slice.result.now c.args.id.now c.in-Err.field-0 c.key.result place c.self.view_is c.as_slice.ensures.value c.self.invariant c.key.ensures.key c.in-Err.ensures.none stands)
