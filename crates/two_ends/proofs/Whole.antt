-- The frames that are said to be taken whole are those whose bytes the link took.
use Rattle.std.proofs.Common.{◌≡◌, ◌≤◌, ◌+◌, ◌-◌, ℕ, Bool, true, false, if◌then◌else◌, List, [], ◌∷◌, ◌++◌, length, refl, ap, ◌∙◌, arith, length-append}
use Rattle.std.specs.Prelude.{nat_lt}
use Rattle.std.proofs.lemmas.Bool.{ltb-true}
use mathlib.Core.List.{IsPrefix}
use Rattle.session_model.proofs.Lists.{prefix_length}
use Rattle.connection_laws.specs.Writing.{Piece, bytes_of_piece, bytes_written}
use Rattle.turn_laws.specs.Legs.{sent_on, whole_in, course_on}
use Rattle.turn_laws.proofs.Running.{whole_first}
use Rattle.turn_laws.proofs.Sent.{sent_are_written}
use Rattle.two_ends.specs.LoopLaws.{SentAreWhole}

-- the first of some frames, whose bytes are not more than so many, are among those that so many bytes hold whole
whole_most : (count : ℕ) (ps more : List Piece) → IsPrefix more ps → length (bytes_written more) ≤ count → IsPrefix more (whole_in count ps)
whole_most count ps [] p few = (whole_in count ps, refl)
whole_most count [] (q ∷ more) p few = let e = p.1 in absurd (cc e)
whole_most count (x ∷ later) (q ∷ more) p few = by_test (nat_lt count size) refl (λ enough. whole_most (count - size) later more (p.0, let e = p.1 in cc e) enough)
  where
    size : ℕ
    size = length (bytes_of_piece x)

    same : q ≡ x
    same = let e = p.1 in cc e

    total : length (bytes_written (q ∷ more)) ≡ size + length (bytes_written more)
    total = length-append (bytes_of_piece q) (bytes_written more) ∙ ap (λ (k : Piece). length (bytes_of_piece k) + length (bytes_written more)) same

    by_test : (b : Bool) → nat_lt count size ≡ b → (length (bytes_written more) ≤ count - size → IsPrefix more (whole_in (count - size) later))
        → IsPrefix (q ∷ more) (if b then [] else x ∷ whole_in (count - size) later)
    by_test true e rest = absurd (omega (arith, ltb-true count size e, total, few))
    by_test false e rest =
        let r = rest (omega (arith, total, few)) in
        (r.0, ap (λ (k : Piece). k ∷ (more ++ r.0)) same ∙ ap (λ (ks : List Piece). x ∷ ks) r.1)

pub sent_are_whole : SentAreWhole
sent_are_whole h s inbox t awaits enough k =
    let written : List Piece = (course_on s inbox t).output in
    record {
      first = whole_first (length (sent_on t)) written;
      within = (sent_are_written h s inbox t awaits enough k).whole;
      all = λ more p q. whole_most (length (sent_on t)) written more p (prefix_length (bytes_written more) (sent_on t) q);
    }
