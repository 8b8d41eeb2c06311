use Rattle.std.proofs.Common.{◌*◌, length}
use Rattle.cmd_datagram.proofs.Payloads.{applications, packed_one}
use Rattle.cmd_datagram.proofs.packing.pack_into.Goals as goal

pub pack-size-requires-clause-applications : goal.pack-size-requires-clause-applications
pack-size-requires-clause-applications c = applications c.args.payloads.now c.requires.messages

pub returns-clause-packed : goal.returns-clause-packed
returns-clause-packed c =
    packed_one c.args.per c.args.place c.pack-size.result.0 c.pack-size.result.1 (length c.args.room.now) c.args.payloads.now c.pack-size.new.out
    c.requires.messages c.requires.per.0 c.requires.per.1 c.requires.room
    c.pack-size.ensures.taken c.pack-size.ensures.spells c.pack-size.ensures.size c.pack-size.ensures.fits c.pack-size.ensures.longest
