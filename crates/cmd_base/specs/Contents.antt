-- What the devices of a run tell (this project's profile).
use Rattle.std.specs.Prelude.{ℕ, List, Option}
use Rattle.cmd_base.specs.declared.outside.Outside.{Outside}

-- the content that the streams tell: the inputs what they have left, the outputs what they have taken
pub record Content : Type 0 where
  pub input : Option (List ℕ)
  pub wire : Option (List ℕ)
  pub out : Option (List ℕ)

abbrev pub content_of : {S K D : Type 0} → (S → Option (List ℕ)) → (K → Option (List ℕ)) → Outside S K D → Content
content_of left taken outside = record { input = left outside.input; wire = taken outside.wire; out = taken outside.out }

-- the disks of the two journals
pub record Disks (D : Type 0) : Type 0 where
  pub outbox : D
  pub inbox : D

abbrev pub disks_of : {S K D : Type 0} → Outside S K D → Disks D
disks_of outside = record { outbox = outside.out_disk; inbox = outside.in_disk }
