use Rattle.std.proofs.Common.{◌≡◌, [], length}
use Rattle.cmd_muxanswer.specs.Progress.{AreSeated, AreUsable}
use Rattle.cmd_muxanswer.proofs.router.open_seats.Given as goal

abbrev pub invariant-loop-place : goal.invariant-loop-place
invariant-loop-place l = record {
  count : length l.seats.items ≡ l.place;
  usable : AreUsable l.seats.items;
  seated : AreSeated l.sessions [] l.seats.items;
}
