-- One pump is one call.
use Rattle.fixp_mux.specs.Laws.{APumpHappens}

pub a_pump_happens : APumpHappens
a_pump_happens told told' carried carried' old new result did = (did.given, (did.begun, record { gave = did.came; took = did.sent; pumps = did.pumps }))
