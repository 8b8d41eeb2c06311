use Rattle.turns_at_once.proofs.book.BookLogged.marked.Goals as goal

pub returns : goal.returns
returns c = record { exact = ((λ e. e), (λ e. e)) }
