use Rattle.std.proofs.Common.{◌+◌}
use Rattle.cmd_base.proofs.Reading.{reads-more}
use Rattle.cmd_base.proofs.text.read_text.Goals as goal

pub returns-in_err-add_piece-clause-within : goal.returns-in_err-add_piece-clause-within
returns-in_err-add_piece-clause-within g c =
    reads-more _ _ _ c.loop-source.text.items (c.args.limit + 1) c.loop-source.invariant.read c.loop-source.invariant.most c.in_err-add_piece.ensures.kept
