use Rattle.std.proofs.Common.{◌+◌, ◌++◌, ◌∷◌, [], ℕ, List, sym, ap, ◌∙◌, append_assoc}
use Rattle.session_model.specs.Journal.{counts_from}
use Rattle.session_model.proofs.Lists.{counts_from-add}
use Rattle.jr_places.specs.Numbers.{numbers_of}
use Rattle.jr_kept.proofs.noting.push_places.Goals as goal

pub loop-i-preserved : goal.loop-i-preserved
loop-i-preserved c =
    let start = numbers_of c.args.places.now in
    record {
      pushed =
          c.in_ok-push.ensures.ok
          ∙ ap (λ (ks : List ℕ). ks ++ (c.args.at + c.loop-i.i) ∷ []) c.loop-i.invariant.pushed
          ∙ append_assoc start (counts_from c.args.at c.loop-i.i) ((c.args.at + c.loop-i.i) ∷ [])
          ∙ ap (λ (ks : List ℕ). start ++ ks) (sym (counts_from-add c.args.at c.loop-i.i 1));
    }
