use Rattle.std.proofs.Common.{◌≡◌, List, ℕ, ◌∷◌, ◌++◌, [], ◌+◌, map, subst, sym}
use Rattle.session_model.specs.Journal.{counts_from}
use Rattle.fixp_datagram.specs.Datagrams.{Contents}
use Rattle.fixp_datagram.specs.Packing.{cut_at}
use Rattle.cmd_datagram.specs.Delivered.{ArePacked}
use Rattle.cmd_datagram.proofs.Listed.{packed_more, cut_more}
use Rattle.cmd_datagram.proofs.packing.datagrams.Goals as goal

pub loop-place-preserved : goal.loop-place-preserved
loop-place-preserved c = record {
  packed =
      subst (ArePacked c.push.new.self) (sym (cut_more c.args.per c.args.payloads.now c.loop-place.place))
      (subst (λ (bytes : List (List ℕ)). ArePacked bytes (map (cut_at c.args.per c.args.payloads.now) (counts_from 1 c.loop-place.place) ++ cut_at c.args.per c.args.payloads.now (c.loop-place.place + 1) ∷ [])) (sym c.in_ok-push.ensures.ok)
      (packed_more _ _ _ _ c.loop-place.invariant.packed c.in_ok-bytes.ensures));
  end = c.loop-place.invariant.end;
}
