use Rattle.std.proofs.Common.{sym, ◌∙◌, subst}
use Rattle.std.proofs.lemmas.Option.{none-some, same_Some}
use Rattle.gate_turn.specs.Calls.{IsFree, IsPassOf}
use Rattle.gate_turn.specs.declared.pass.Pass.{Pass}
use Rattle.turns_at_once.specs.declared.book.Book.{Book}
use Rattle.turns_at_once.proofs.taken.Goals as goal

pub unreachable-requires : goal.unreachable-requires
unreachable-requires c = let b = c.requires.back in none-some b.pass (sym c.in_default.is ∙ (c.take.ensures.exact ∙ b.there))

pub returns : goal.returns
returns c = let b = c.requires.back in
    let same = same_Some b.pass c.in-Some.pass (sym b.there ∙ (sym c.take.ensures.exact ∙ c.in-Some.is)) in
    record {
      there = sym c.in-Some.is ∙ c.take.ensures.exact;
      own = subst (λ (p : Pass Book). IsPassOf c.args.lock.now p) same b.own;
      free = subst (λ (p : Pass Book). IsFree p) same b.free;
      gone = c.take.ensures.gone;
      others = c.take.ensures.others;
    }
