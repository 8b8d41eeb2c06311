use Rattle.std.proofs.Common.{arith}
use Rattle.gw_fakes.proofs.Sound.{roomy}
use Rattle.gw_fakes.proofs.disk.MemDiskDisk.length.Goals as goal

pub returns-clause-within : goal.returns-clause-within
returns-clause-within c = let s = c.args.self.now.sound in omega (arith, c.len.ensures, roomy _ _ _ _ _ _ s, s.limited)
