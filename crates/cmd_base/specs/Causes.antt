-- The causes of the statuses that blame a device (this project's profile).
use Rattle.std.specs.Prelude.{ℕ, ◌≤◌, ◌⊎◌}
use Rattle.gw_outside.specs.Faults.{HasRisen}
use Rattle.cmd_base.specs.declared.outside.Outside.{Outside}
use Rattle.cmd_base.specs.declared.status.Status.{Status}
use Rattle.cmd_base.specs.declared.status.Status.TheVariants.{InputFault, OutputFault, JournalFault}

-- the counts of faults of the six devices
pub record Counts : Type 0 where
  pub config : ℕ
  pub input : ℕ
  pub wire : ℕ
  pub out : ℕ
  pub out_disk : ℕ
  pub in_disk : ℕ

-- the counts of faults of a conversation, which touches neither CONFIG nor a disk
abbrev pub conversation_counts : ℕ → ℕ → ℕ → Counts
conversation_counts input wire out = record { config = 0; input = input; wire = wire; out = out; out_disk = 0; in_disk = 0 }

-- the counts of faults of the disks, where nothing else is touched
abbrev pub disk_counts : ℕ → ℕ → Counts
disk_counts out_disk in_disk = record { config = 0; input = 0; wire = 0; out = 0; out_disk = out_disk; in_disk = in_disk }

abbrev pub faults_of : {S K D : Type 0} → (S → ℕ) → (K → ℕ) → (D → ℕ) → Outside S K D → Counts
faults_of source sink disk outside = record {
  config = source outside.config;
  input = source outside.input;
  wire = sink outside.wire;
  out = sink outside.out;
  out_disk = disk outside.out_disk;
  in_disk = disk outside.in_disk;
}

-- no count fell
pub record NoneFell (before after : Counts) : Type 0 where
  pub config : before.config ≤ after.config
  pub input : before.input ≤ after.input
  pub wire : before.wire ≤ after.wire
  pub out : before.out ≤ after.out
  pub out_disk : before.out_disk ≤ after.out_disk
  pub in_disk : before.in_disk ≤ after.in_disk

-- a status that blames the input comes only where a count of an input rose, and likewise for the output and the disks
abbrev pub IsCaused : Counts → Counts → Status → Type 0
IsCaused before after InputFault = HasRisen before.config after.config ⊎ HasRisen before.input after.input
IsCaused before after OutputFault = HasRisen before.wire after.wire ⊎ HasRisen before.out after.out
IsCaused before after JournalFault = HasRisen before.out_disk after.out_disk ⊎ HasRisen before.in_disk after.in_disk
IsCaused before after _ = Unit {0}

-- the counts of faults of the devices of a session, beside its clock, which has none
pub record SessionCounts : Type 0 where
  pub config : ℕ
  pub input : ℕ
  pub out : ℕ
  pub out_disk : ℕ
  pub in_disk : ℕ
  pub dialer : ℕ

-- no count fell
pub record NoneFellInSession (before after : SessionCounts) : Type 0 where
  pub config : before.config ≤ after.config
  pub input : before.input ≤ after.input
  pub out : before.out ≤ after.out
  pub out_disk : before.out_disk ≤ after.out_disk
  pub in_disk : before.in_disk ≤ after.in_disk
  pub dialer : before.dialer ≤ after.dialer
