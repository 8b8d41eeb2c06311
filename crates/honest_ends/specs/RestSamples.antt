-- The premises of the laws can be met: by the two ends of a whole session, from its beginning on.
use Rattle.std.specs.Prelude.{[]}
use Rattle.honest_ends.specs.PhaseSamples.{outbox, beginning, after_repair, at_end}
use Rattle.honest_ends.specs.Resting.{IsQuiet, IsOver, EndsLast}

-- no finish is recorded at first; the two ends are quiet where the entry that was lost has come, and their finishes are exchanged at the end
abbrev pub RestSample : Type 0
RestSample = EndsLast beginning.initiator × EndsLast beginning.acceptor × IsQuiet outbox [] after_repair × IsOver at_end
