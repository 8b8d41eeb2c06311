-- What OUT was given behind its beginning, which gives nothing.
use Rattle.std.proofs.Common.{◌≡◌, ℕ, List, [], take, length, Option, Some, None, Result, Ok, refl, sym, ◌∙◌, arith, append-nil}
use Rattle.std.specs.Io.KnownBytes.{Appends, Keeps}
use Rattle.std.proofs.KnownBytes.{Appends-trans}
use Rattle.gw_outside.specs.Faults.{TakesFront}
use Rattle.schema_toml.specs.declared.fault.ConfigFault.{ConfigFault}
use Rattle.cmd_datagram.specs.declared.script.Script.{Script}
use Rattle.cmd_datagram.specs.declared.outcome.Outcome.{Outcome}
use Rattle.cmd_datagram.specs.declared.outcome.Outcome.TheVariants as outcomes
use Rattle.cmd_datagram.specs.Lines.{script_lines}
use Rattle.cmd_datagram.specs.Promise.{Gave, IsRefusal}

keeps_self : (old : Option (List ℕ)) → Keeps old old
keeps_self None = tt
keeps_self (Some xs) = refl

nothing_more : (old : Option (List ℕ)) → Appends old old []
nothing_more None = tt
nothing_more (Some xs) = sym (append-nil xs)

keeps_on : (old mid new : Option (List ℕ)) → Appends old mid [] → Keeps mid new → Keeps old new
keeps_on None mid new a k = tt
keeps_on (Some xs) None new a k = absurd a
keeps_on (Some xs) (Some ys) None a k = k
keeps_on (Some xs) (Some ys) (Some zs) a k = k ∙ (a ∙ append-nil xs)

front_of_none : (old new : Option (List ℕ)) (lines : List ℕ) → Appends old new [] → TakesFront old new lines
front_of_none old new lines a = record { count = 0; within = omega arith; appended = a }

front_behind : (old mid new : Option (List ℕ)) (lines : List ℕ) → Appends old mid [] → TakesFront mid new lines → TakesFront old new lines
front_behind old mid new lines a f = record { count = f.count; within = f.within; appended = Appends-trans old mid new [] (take f.count lines) a f.appended }

-- what was given behind the beginning was given in all
pub gave_behind : (script : Script) (old mid new : Option (List ℕ)) (o : Outcome) → Appends old mid [] → Gave script mid new o → Gave script old new o
gave_behind script old mid new outcomes.Done a g = Appends-trans old mid new [] (script_lines script) a g
gave_behind script old mid new outcomes.OutputFault a g = front_behind old mid new (script_lines script) a g
gave_behind script old mid new outcomes.Memory a g = front_behind old mid new (script_lines script) a g
gave_behind script old mid new (outcomes.Config fault) a g = keeps_on old mid new a g
gave_behind script old mid new outcomes.InputFault a g = keeps_on old mid new a g

-- where OUT could not be begun, nothing was given
pub gave_unbegun : (script : Script) (old new : Option (List ℕ)) → Appends old new [] → Gave script old new outcomes.OutputFault
gave_unbegun script old new a = front_of_none old new (script_lines script) a

-- nor where no memory was found
pub gave_none : (script : Script) (old : Option (List ℕ)) → Gave script old old outcomes.Memory
gave_none script old = front_of_none old old (script_lines script) (nothing_more old)

-- nor where no script was read
pub gave_refused : (script : Script) (old : Option (List ℕ)) (o : Outcome) → IsRefusal o → Gave script old old o
gave_refused script old outcomes.Done is = absurd is
gave_refused script old outcomes.OutputFault is = absurd is
gave_refused script old (outcomes.Config fault) is = keeps_self old
gave_refused script old outcomes.InputFault is = keeps_self old
gave_refused script old outcomes.Memory is = gave_none script old

-- a text says one script
pub same_script : (r : Result Script ConfigFault) (a b : Script) → r ≡ Ok a → r ≡ Ok b → a ≡ b
same_script r a b x y = cc
