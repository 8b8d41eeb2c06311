use Rattle.jr_json.proofs.payloads.write_read.Goals as goal

pub write_message-requires : goal.write_message-requires
write_message-requires c = record { fits = c.read_fits.ensures.law _ _ _ c.requires.legal c.in-Ok.ensures.spelled }
