use Rattle.jr_log.proofs.clearing.look.Goals as goal
