-- The devices that a run over the disks gives back, and what of it holds of equal ones.
use Rattle.std.proofs.Common.{◌≡◌, ℕ, List, Option, sym, subst}
use Rattle.fixp_shake.specs.declared.config.EndConfig.{EndConfig}
use Rattle.fixp_shake.specs.declared.config.Role.{Role}
use Rattle.cmd_config.specs.declared.configuration.Configuration.{Configuration}
use Rattle.life_laws.specs.Plans.{Senders}
use Rattle.jr_dated.specs.declared.journal.Journal.{Ghosts}
use Rattle.jr_kept.specs.declared.inbox.Inbox.{Inbox}
use Rattle.jr_kept.specs.declared.outbox.Outbox.{Outbox}
use Rattle.cmd_base.specs.Contents.{Disks}
use Rattle.cmd_base.specs.declared.status.Status.{Status}
use Rattle.cmd_session.specs.Lived.{LivedOn}
use Rattle.cmd_session.specs.declared.outside.OverBoxes.{OverBoxes}
use Rattle.cmd_session.specs.Outsides.{Sees}
use Rattle.cmd_session.specs.Steps.{RefusedBoxes, EndsByPlans, EndsAnswering}
use Rattle.cmd_session.specs.declared.outside.Live.{Live}
use Rattle.cmd_session.specs.declared.outside.SessionOutside.{SessionOutside}

abbrev pub given : {S K D N C : Type 0} → (config input : S) → Status × Live K N C × D × D → SessionOutside S K D N C
given config input s = record {
  config = config;
  input = input;
  out = s.1.out;
  out_disk = s.2;
  in_disk = s.3;
  dialer = s.1.dialer;
  clock = s.1.clock;
}

given_back : {S K D N C : Type 0} (P : SessionOutside S K D N C → Status → Type 0) (config input input' : S) (s s' : Status × Live K N C × D × D)
    → input' ≡ input → s' ≡ s → P (given config input s) s.0 → P (given config input' s') s'.0
given_back P config input input' s s' i e h = subst (λ t. P (given config input' t) t.0) (sym e) (subst (λ x. P (given config x s) s.0) (sym i) h)

pub given_by_plans : {S K D N C J : Type 0} (G : Ghosts J) (sees : Sees S K D N C) (role : Role) (c : Configuration) (before : SessionOutside S K D N C) (config input input' : S) (s s' : Status × Live K N C × D × D)
    → input' ≡ input → s' ≡ s → EndsByPlans G sees role c before (given config input s) s.0 → EndsByPlans G sees role c before (given config input' s') s'.0
given_by_plans G sees role c before = given_back (λ after status. EndsByPlans G sees role c before after status)

pub given_answering : {S K D N C J : Type 0} (G : Ghosts J) (sees : Sees S K D N C) (config' : EndConfig) (senders : Senders) (before : SessionOutside S K D N C) (config input input' : S) (s s' : Status × Live K N C × D × D)
    → input' ≡ input → s' ≡ s → EndsAnswering G sees config' senders before (given config input s) s.0
    → EndsAnswering G sees config' senders before (given config input' s') s'.0
given_answering G sees config' senders before = given_back (λ after status. EndsAnswering G sees config' senders before after status)

-- how the boxes were not opened, and what was lived over them, by an equal configuration
pub refused_by : {D : Type 0} (told : D → Option (List ℕ)) (may_leave : D → List ℕ → Type 0) (disk : D → ℕ) (config config' : EndConfig) (before after : Disks D) (status : Status) → config ≡ config'
    → RefusedBoxes told may_leave disk config.peer_flow before after status → RefusedBoxes told may_leave disk config'.peer_flow before after status
refused_by told may_leave disk config config' before after status same h = subst (λ (c : EndConfig). RefusedBoxes told may_leave disk c.peer_flow before after status) same h

pub lived_by : {J : Type 0} {G : Ghosts J} {O : Type 0} {H : Ghosts O} {S K D N C : Type 0} (sees : Sees S K D N C) (senders : ℕ) (config config' : EndConfig) (input : S) (content : Option (List ℕ)) (before after : OverBoxes K N C (Outbox O H) (Inbox J G)) (status : Status)
    → config ≡ config' → LivedOn sees senders config input content before after status → LivedOn sees senders config' input content before after status
lived_by sees senders config config' input content before after status same h = subst (λ (c : EndConfig). LivedOn sees senders c input content before after status) same h

-- and what was answered, by an equal configuration and equal senders
pub answered_by : {S K D N C J : Type 0} (G : Ghosts J) (sees : Sees S K D N C) (config config' : EndConfig) (senders senders' : Senders) (before after : SessionOutside S K D N C) (status : Status)
    → config ≡ config' → senders ≡ senders' → EndsAnswering G sees config senders before after status → EndsAnswering G sees config' senders' before after status
answered_by G sees config config' senders senders' before after status same those h =
    subst (λ (s : Senders). EndsAnswering G sees config' s before after status) those (subst (λ (c : EndConfig). EndsAnswering G sees c senders before after status) same h)
