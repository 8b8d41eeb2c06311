-- A line that is past excludes that the plans of its text go on.
use Rattle.std.proofs.Common.{◌≡◌, ℕ, ◌+◌, ◌-◌, ◌<◌, ◌≤◌, List, [], ◌∷◌, ◌++◌, length, get_or, Some, slice_get, refl, sym, ap, subst, ◌∙◌, arith, length-append}
use Rattle.text_words.specs.Lines.{lines_in}
use Rattle.session_model.specs.Journal.{History}
use Rattle.session_model.specs.Plans.{sent_by}
use Rattle.plan_text.specs.Plans.{Gift, AreGiven, payloads_of_sender, payloads_of_senders, HasPlans}
use Rattle.plan_outbox.specs.Behind.{MayStand, GoesOnFrom, IsPastAt, PastExcludes}
use Rattle.plan_outbox.proofs.Finding.{at_line, plan_at}

-- the sender of a line is one of so many
ranged : (senders : ℕ) (ls : List (List ℕ)) (gs first rest : List Gift) (g : Gift) → gs ≡ first ++ g ∷ rest → AreGiven senders ls gs → (1 ≤ g.sender) × (g.sender ≤ senders)
ranged senders ls [] first rest g e given = absurd (omega (arith, ap length e, length-append first (g ∷ rest)))
ranged senders [] (x ∷ gs) first rest g e given = absurd given
ranged senders (l ∷ ls) (x ∷ gs) [] rest g e given = let same : x ≡ g = cc in subst (λ (y : Gift). (1 ≤ y.sender) × (y.sender ≤ senders)) same (given.0.least, given.0.most)
ranged senders (l ∷ ls) (x ∷ gs) (y ∷ first) rest g e given = let tails : gs ≡ first ++ g ∷ rest = cc in ranged senders ls gs first rest g tails given.1

module _ (h : History) (senders line : ℕ) (text : List ℕ) (p : IsPastAt h senders text line) where
  abbrev plans : List (List (List ℕ))
  plans = payloads_of_senders 1 senders p.gifts

  abbrev at : ℕ
  at = p.here.sender - 1

  range : (1 ≤ p.here.sender) × (p.here.sender ≤ senders)
  range = ranged senders (lines_in text) p.gifts p.before p.behind p.here p.gifts_are p.given

  sender_is : p.here.sender ≡ at + 1
  sender_is = omega (arith, range.0)

  planned : get_or plans at [] ≡ payloads_of_sender (at + 1) p.gifts
  planned = plan_at 1 senders p.gifts at (omega (arith, range.0, range.1)) ∙ ap (λ (k : ℕ). payloads_of_sender k p.gifts) (swap at)
    where
      swap : (i : ℕ) → 1 + i ≡ i + 1
      swap i = omega arith

  -- the payload of the line stands in the plan of its sender, behind those of the lines before it
  there : slice_get (get_or plans at []) (length (payloads_of_sender (at + 1) p.before)) ≡ Some p.here.payload
  there = subst (λ (ps : List (List ℕ)). slice_get ps (length (payloads_of_sender (at + 1) p.before)) ≡ Some p.here.payload) (sym planned)
      (subst (λ (gs : List Gift). slice_get (payloads_of_sender (at + 1) gs) (length (payloads_of_sender (at + 1) p.before)) ≡ Some p.here.payload) (sym p.gifts_are)
      (at_line (at + 1) p.before p.behind p.here sender_is))

  never : GoesOnFrom plans h → ⊥
  never goes = p.not (subst (λ (s : ℕ). MayStand (sent_by h.made s) h.finished (length (payloads_of_sender s p.before)) p.here.payload) (sym sender_is)
      (goes at (length (payloads_of_sender (at + 1) p.before)) p.here.payload there))

pub past_excludes : PastExcludes
past_excludes h senders line text p = (plans h senders line text p, record { gifts = p.gifts; given = p.given; plans_are = refl }, never h senders line text p)
