-- What an outcome says of the schema, and what OUT gained where that was refused.
use Rattle.std.proofs.Common.{◌≡◌, ℕ, List, Option, Some, None, Result, Ok, Err, IsOk, refl, sym, subst}
use Rattle.std.specs.Io.KnownBytes.{Keeps}
use Rattle.schema_toml.specs.declared.fault.ConfigFault.{ConfigFault}
use Rattle.sbe_layout.specs.declared.plan.Plan.{Plan}
use Rattle.cmd_dump.specs.declared.outcome.Outcome.{Outcome}
use Rattle.cmd_dump.specs.declared.outcome.Outcome.TheVariants as outcomes
use Rattle.cmd_dump.specs.declared.outcome.Origin.TheVariants.{Schema, Input}
use Rattle.cmd_dump.specs.Dumped.{dumped}
use Rattle.cmd_dump.specs.Promise.{Judges, Gave, GaveText, IsRefusal, IsEnd, StopsAtSchema}
use Rattle.cmd_dump.proofs.Giving.{no-front}

pub judged_end : (o : Outcome) (told : Result Plan ConfigFault) → IsOk told → IsEnd o → Judges o told
judged_end outcomes.Done told ok is = ok
judged_end (outcomes.Config fault) told ok is = absurd is
judged_end (outcomes.InputFault Schema) told ok is = absurd is
judged_end (outcomes.InputFault Input) told ok is = ok
judged_end outcomes.OutputFault told ok is = ok
judged_end (outcomes.Cut at) told ok is = ok
judged_end (outcomes.Broken at) told ok is = ok
judged_end outcomes.Memory told ok is = tt

pub end_behind : (o : Outcome) → IsEnd o → StopsAtSchema o → ⊥
end_behind outcomes.Done is stops = stops
end_behind (outcomes.Config fault) is stops = is
end_behind (outcomes.InputFault Schema) is stops = is
end_behind (outcomes.InputFault Input) is stops = stops
end_behind outcomes.OutputFault is stops = stops
end_behind (outcomes.Cut at) is stops = stops
end_behind (outcomes.Broken at) is stops = stops
end_behind outcomes.Memory is stops = stops

keeps_self : (out : Option (List ℕ)) → Keeps out out
keeps_self None = tt
keeps_self (Some xs) = refl

-- nothing was given where the schema was refused, or could not be read
pub gave_refused : (o : Outcome) (told : Result Plan ConfigFault) (input : List ℕ) (out : Option (List ℕ)) → IsRefusal o → Judges o told → GaveText told input out out o
gave_refused o (Err fault) input out is judged = keeps_self out
gave_refused (outcomes.Config fault) (Ok plan) input out is judged = absurd (cc judged)
gave_refused (outcomes.InputFault origin) (Ok plan) input out is judged = no-front out (dumped plan input).lines
gave_refused outcomes.Memory (Ok plan) input out is judged = no-front out (dumped plan input).lines
gave_refused outcomes.Done (Ok plan) input out is judged = absurd is
gave_refused outcomes.OutputFault (Ok plan) input out is judged = absurd is
gave_refused (outcomes.Cut at) (Ok plan) input out is judged = absurd is
gave_refused (outcomes.Broken at) (Ok plan) input out is judged = absurd is

pub gave_text : (told : Result Plan ConfigFault) (plan : Plan) (input : List ℕ) (old new : Option (List ℕ)) (o : Outcome) → told ≡ Ok plan → Gave (dumped plan input) old new o → GaveText told input old new o
gave_text told plan input old new o is gave = subst (λ (t : Result Plan ConfigFault). GaveText t input old new o) (sym is) gave
