-- What the code found a frame to say.
use Rattle.fixp_mux.specs.Context.{Says, names, malformed, carries}
use Rattle.fixp_mux.specs.declared.context.Saying.{Saying}
use Rattle.fixp_mux.specs.declared.context.Saying.TheVariants.{Names, Malformed, Carries}

abbrev pub said : Saying → Says
said (Names id) = names id
said Malformed = malformed
said Carries = carries
