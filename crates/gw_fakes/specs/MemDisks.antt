-- The disk in memory as clauses see it.
use Rattle.std.specs.Prelude.{length}
use Rattle.gw_fakes.specs.Disks.{DiskState, pending_from}
use Rattle.gw_fakes.specs.declared.disk.MemDisk.{MemDisk}

abbrev pub state_of : MemDisk → DiskState
state_of d = record {
  content = d.content.items;
  synced = d.synced.items;
  pending = pending_from d.low d.pending.items (length d.synced.items);
  room = d.room;
  meter = d.meter;
}
