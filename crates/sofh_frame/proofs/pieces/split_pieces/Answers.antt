-- The pieces so far are read; a fault ends the split of all pieces, and without one all are read.
use Rattle.std.proofs.Common.{sym, ◌∙◌}
use Rattle.std.proofs.lemmas.Bool.{false≢true}
use Rattle.sofh_frame.proofs.ReadLemmas.{IsRead-piece, SplitsAs-within, SplitsAs-all}
use Rattle.sofh_frame.proofs.pieces.split_pieces.Goals as goal

pub returns-then-not-is_rest : goal.returns-then-not-is_rest
returns-then-not-is_rest c =
    let so_far = c.in_ok-_taken.ensures.read _ c.loop-piece.invariant.0 in
    record { any_cut = SplitsAs-within c.args.pieces.now c.loop-piece.piece-index c.in_ok-_taken._taken _ c.feed.new.split c.feed.new.framer.held c.loop-piece-test.true so_far c.in_ok-_taken.ensures.end (λ e. false≢true (sym c.if-not-is_rest.true ∙ c.is_rest.ensures.1 e)) }

pub loop-piece-preserved : goal.loop-piece-preserved
loop-piece-preserved c =
    let so_far = c.in_ok-_taken.ensures.read _ c.loop-piece.invariant.0 in
    let calm = c.is_rest.ensures.0 c.if-not-is_rest.false in
    (IsRead-piece c.args.pieces.now c.loop-piece.piece-index c.in_ok-_taken._taken _ c.feed.new.split c.feed.new.framer.held c.loop-piece-test.true (c.in_ok-_taken.ensures.all calm) so_far, calm, c.in_ok-_taken.ensures.end)

pub returns : goal.returns
returns c = record { any_cut = SplitsAs-all c.args.pieces.now c.loop-piece.piece-index c.loop-piece.split c.loop-piece.framer.held c.loop-piece-test.false c.loop-piece.invariant.0 c.loop-piece.invariant.2 }
