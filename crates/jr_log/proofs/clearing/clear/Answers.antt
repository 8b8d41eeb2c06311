use Rattle.jr_log.proofs.clearing.clear.Goals as goal
