-- A feeding of nothing.
use Rattle.std.proofs.Common.{◌≡◌, ◌⊎◌, inl, inr, ℕ, List, [], refl, sym, subst, append-nil, arith}
use Rattle.std.specs.Prelude.{Option}
use Rattle.std.proofs.KnownBytes.{Appends-nil, Consumes-nil}
use Rattle.std.proofs.lemmas.List.Elements.{All-nil}
use Rattle.gate_turn.specs.Views.{Part}
use Rattle.text_words.specs.Lines.{lines_in}
use Rattle.conn_accepted.specs.declared.why.Why.TheVariants as whys
use Rattle.conn_feed.specs.declared.end.FeedEnd.{FeedEnd}
use Rattle.conn_feed.specs.declared.end.FeedEnd.TheVariants as ends
use Rattle.conn_feed.specs.Words.{IsClear}
use Rattle.conn_feed.specs.Fed.{part_at, StandsIn}
use Rattle.conn_feed.specs.Ends.{Point, Feeding, IsTold, IsShown}
use Rattle.conn_feed.proofs.Making.{goes_self}

abbrev pub at : List Part → Option (List ℕ) → Point
at parts taken = record { parts = parts; taken = taken }

-- a feeding that read nothing
abbrev pub Unfed : List Part → (taken left : Option (List ℕ)) → FeedEnd → Type 0
Unfed parts taken left end = (f : Feeding (at parts taken) (at parts taken) left left end) × (f.read ≡ [])

none_at : (parts : List Part) (taken left : Option (List ℕ)) (end : FeedEnd) → IsTold end taken taken [] → IsShown end parts parts → (end ≡ ends.Ended → ⊥) → ((entries bytes : ℕ) → end ≡ ends.Full entries bytes → ⊥) → Unfed parts taken left end
none_at parts taken left end told shown unended unfull = (
  record {
    read = [];
    consumed = Consumes-nil left;
    answered = record {
      first = [];
      behind = lines_in [];
      split = refl;
      words = [];
      came = tt;
      fed = record {
        long = refl;
        each = λ s i. record { goes_on = goes_self (part_at parts s); mine = sym (append-nil (part_at parts s).mine); counted = refl };
        stand = All-nil (StandsIn parts);
      };
      last = record { before = []; clear = All-nil IsClear; why = whys.Memory; count = 0; few = omega arith; split = refl; kind = λ l. absurd (omega (arith, l)) };
      told = told;
      shown = shown;
      full = λ entries bytes e. absurd (unfull entries bytes e);
      unlost = λ _ s i. refl;
      lost = λ s i. inl refl;
    };
    whole = λ e. absurd (unended e);
  },
  refl,
)

pub none_fed : (parts : List Part) (taken left : Option (List ℕ)) (end : FeedEnd) → (end ≡ ends.Accepted) ⊎ (end ≡ ends.Memory) → Unfed parts taken left end
none_fed parts taken left end (inl e) =
    subst (Unfed parts taken left) (sym e) (none_at parts taken left ends.Accepted (record { count = 0; within = omega arith; appended = Appends-nil taken }) tt (λ x. cc x) (λ entries bytes x. cc x))
none_fed parts taken left end (inr e) =
    subst (Unfed parts taken left) (sym e) (none_at parts taken left ends.Memory (record { count = 0; within = omega arith; appended = Appends-nil taken }) tt (λ x. cc x) (λ entries bytes x. cc x))
