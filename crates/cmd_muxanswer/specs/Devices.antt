-- The devices of a run (this project's profile).
use Rattle.std.specs.Prelude.{◌≡◌, ℕ, List, Option}
use Rattle.cmd_base.specs.Contents.{Content}
use Rattle.cmd_muxanswer.specs.declared.command.MuxDevices.{MuxDevices}

abbrev pub content_of : {S K : Type 0} → (S → Option (List ℕ)) → (K → Option (List ℕ)) → MuxDevices S K → Content
content_of left taken devices = record { input = left devices.input; wire = taken devices.wire; out = taken devices.out }

-- what comes behind the configuration is as it was
pub record KeepsBehindConfig {S K : Type 0} (before after : MuxDevices S K) : Type 0 where
  pub input : after.input ≡ before.input
  pub wire : after.wire ≡ before.wire
  pub out : after.out ≡ before.out

-- both outputs are as they were
pub record KeepsOutputs {S K : Type 0} (before after : MuxDevices S K) : Type 0 where
  pub wire : after.wire ≡ before.wire
  pub out : after.out ≡ before.out
