use Rattle.conn_told.proofs.line.add_message.Goals as goal

pub write_lines-requires : goal.write_lines-requires
write_lines-requires c = record { fits = c.read_fits.ensures.law _ _ _ c.requires c.in-Ok.ensures.spelled }
