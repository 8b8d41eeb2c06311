-- The senders behind the mark.
use Rattle.std.proofs.Common.{◌≡◌, ◌≢◌, ℕ, zero, suc, ◌<◌, List, [], ◌∷◌, length, slice_index_or, slice_set, refl, sym, ap, subst, arith}
use Rattle.std.specs.Prelude.{Option}
use Rattle.jr_dated.specs.declared.journal.Journal.{Ghosts}
use Rattle.gate_turn.specs.Views.{Part}
use Rattle.gate_turn.specs.Places.{known}
use Rattle.gate_staff.specs.declared.sender.Sender.{Sender}
use Rattle.conn_door.specs.declared.answer.ServeFault.{ServeFault}
use Rattle.conn_door.specs.Senders.{Finishes}
use Rattle.conn_feed.specs.Fed.{parts_of, part_at}
use Rattle.conn_feed.specs.Ends.{FinishedBy}

module _ {J : Type 0} {G : Ghosts J} where
  -- the first sender has another pass, by which the mark was added
  pub finished_by : (before : List (Sender J G)) (s t : Sender J G) (refused : Option ServeFault) → 0 < length before → ((d : Sender J G) → slice_index_or before 0 d ≡ s)
      → Finishes (known s.pass) (known t.pass) refused → FinishedBy (parts_of before) (parts_of (slice_set before 0 t)) refused
  finished_by [] s t refused some is f = absurd (omega (arith, some))
  finished_by (x ∷ xs) s t refused some is f = record {
    long = refl;
    first = subst (λ (y : Sender J G). Finishes (known y.pass) (known t.pass) refused) (sym (is x)) f;
    others = others;
  }
    where
      others : (n : ℕ) → n ≢ 1 → part_at (parts_of (slice_set (x ∷ xs) 0 t)) n ≡ part_at (parts_of (x ∷ xs)) n
      others zero other = refl
      others (suc zero) other = absurd (other refl)
      others (suc (suc k)) other = refl
