-- What OUT was given behind its beginning, which gives nothing.
use Rattle.std.proofs.Common.{◌≡◌, ◌⊎◌, inl, inr, ℕ, List, [], take, Option, Some, None, refl, ap, ◌∙◌, append-nil}
use Rattle.std.specs.Io.KnownBytes.{Appends, Keeps}
use Rattle.std.proofs.KnownBytes.{Appends-trans}
use Rattle.gw_outside.specs.Faults.{TakesFront}
use Rattle.cmd_script.specs.declared.script.Script.{Script}
use Rattle.gw_rehearse.specs.declared.rehearsal.Rehearsal.{Rehearsal}
use Rattle.gw_rehearse.specs.declared.summary.EndSummary.{EndSummary}
use Rattle.gw_rehearse.specs.Summaries.{summary_of}
use Rattle.gw_rehearse.specs.Totals.{IsRehearsed, initiator_total}
use Rattle.cmd_rehearse.specs.Lines.{summary_lines}
use Rattle.cmd_rehearse.specs.declared.outcome.Outcome.{Outcome}
use Rattle.cmd_rehearse.specs.declared.outcome.Outcome.TheVariants as outcomes
use Rattle.cmd_rehearse.specs.Promise.{AreLines, Gave, IsRefusal}

pub keeps_self : (old : Option (List ℕ)) → Keeps old old
keeps_self None = tt
keeps_self (Some xs) = refl

kept : (old new : Option (List ℕ)) → Appends old new [] → Keeps old new
kept None new a = tt
kept (Some xs) None a = a
kept (Some xs) (Some ys) a = a ∙ append-nil xs

keeps_on : (old mid new : Option (List ℕ)) → Appends old mid [] → Keeps mid new → Keeps old new
keeps_on None mid new a k = tt
keeps_on (Some xs) None new a k = absurd a
keeps_on (Some xs) (Some ys) None a k = k
keeps_on (Some xs) (Some ys) (Some zs) a k = k ∙ (a ∙ append-nil xs)

failed_behind : (script : Script) (old mid new : Option (List ℕ)) → Appends old mid []
    → Keeps mid new ⊎ ((lines : List ℕ) × AreLines script lines × TakesFront mid new lines) → Keeps old new ⊎ ((lines : List ℕ) × AreLines script lines × TakesFront old new lines)
failed_behind script old mid new a (inl k) = inl (keeps_on old mid new a k)
failed_behind script old mid new a (inr f) = inr (f.0, f.1, record { count = f.2.count; within = f.2.within; appended = Appends-trans old mid new [] (take f.2.count f.0) a f.2.appended })

-- what was given behind the beginning was given in all
pub gave_behind : (script : Script) (old mid new : Option (List ℕ)) (o : Outcome) → Appends old mid [] → Gave script mid new o → Gave script old new o
gave_behind script old mid new outcomes.Done a g = (g.0, g.1, Appends-trans old mid new [] g.0 a g.2)
gave_behind script old mid new outcomes.OutputFault a g = failed_behind script old mid new a g
gave_behind script old mid new (outcomes.Config fault) a g = keeps_on old mid new a g
gave_behind script old mid new outcomes.InputFault a g = keeps_on old mid new a g
gave_behind script old mid new (outcomes.Undrained initiator acceptor) a g = (keeps_on old mid new a g.0, g.1)
gave_behind script old mid new outcomes.Memory a g = keeps_on old mid new a g

-- where OUT could not be begun, nothing was given
pub gave_unbegun : (script : Script) (old new : Option (List ℕ)) → Appends old new [] → Gave script old new outcomes.OutputFault
gave_unbegun script old new a = inl (kept old new a)

-- nor where no script was read
pub gave_refused : (script : Script) (old : Option (List ℕ)) (o : Outcome) → IsRefusal o → Gave script old old o
gave_refused script old outcomes.Done is = absurd is
gave_refused script old outcomes.OutputFault is = absurd is
gave_refused script old (outcomes.Config fault) is = keeps_self old
gave_refused script old outcomes.InputFault is = keeps_self old
gave_refused script old (outcomes.Undrained initiator acceptor) is = absurd is
gave_refused script old outcomes.Memory is = keeps_self old

-- the lines of what both ends hold, behind a rehearsal
pub are_lines : (script : Script) (r : Rehearsal) → IsRehearsed script r → (lines : List ℕ) → lines ≡ summary_lines (summary_of r.initiator) (summary_of r.acceptor) → AreLines script lines
are_lines script r rehearsed lines is = record {
  rehearsal = r;
  rehearsed = rehearsed;
  told = is;
  totals = λ both.
      let have = rehearsed.totals both in
      is ∙ (ap (λ (s : EndSummary). summary_lines s (summary_of r.acceptor)) have.initiator_has
      ∙ ap (λ (s : EndSummary). summary_lines (initiator_total script.load) s) have.acceptor_has);
}
