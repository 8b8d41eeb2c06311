-- The lines of a text, one after another.
use Rattle.std.proofs.Common.{◌≡◌, ℕ, suc, ◌+◌, ◌<◌, ◌≤◌, ◌==◌, if◌then◌else◌, List, [], ◌∷◌, ◌++◌, length, get_or, refl, ap, sym, ◌∙◌, subst, append_assoc, append-nil, length-append, arith}
use Rattle.std.specs.Prelude.{map}
use Rattle.text_words.specs.Lines.{lines_in}
use Rattle.text_words.proofs.Feeds.{lines_within}
use Rattle.plan_values.specs.Plans.{payloads_of}
use Rattle.plan_values.specs.declared.plan.Plan.{Plan}
use Rattle.plan_text.specs.Plans.{Gift, Gives, AreGiven, payloads_of_sender, payloads_of_senders, HasPlans, IsRefusedAt}
use Rattle.plan_text.specs.Progress.{IsAdded, HaveRead}
use Rattle.plan_text.proofs.Gifts.{of_sender_more, given_more, all_senders}

-- nothing is read yet
pub none_yet : (senders : ℕ) (text : List ℕ) (plans : List Plan) → length plans ≡ senders → ((i : ℕ) (d : Plan) → i < senders → payloads_of (get_or plans i d) ≡ []) → HaveRead senders text text plans 0
none_yet senders text plans many empty = record { before = []; lines = refl; counted = refl; gifts = []; given = tt; many = many; each = empty }

-- a line is read
pub one_more : (senders : ℕ) (text left line rest : List ℕ) (old new : List Plan) (count : ℕ) (g : Gift) → HaveRead senders text left old count → lines_in left ≡ line ∷ lines_in rest
    → Gives (length old) line g → IsAdded g old new → HaveRead senders text rest new (count + 1)
one_more senders text left line rest old new count g h e gives added = record {
  before = h.before ++ line ∷ [];
  lines = h.lines ∙ ap (λ (ls : List (List ℕ)). h.before ++ ls) e ∙ sym (append_assoc h.before (line ∷ []) (lines_in rest));
  counted = omega (arith, h.counted, length-append h.before (line ∷ []));
  gifts = h.gifts ++ g ∷ [];
  given = given_more senders h.before h.gifts line g h.given (subst (λ (n : ℕ). Gives n line g) h.many gives);
  many = added.many ∙ h.many;
  each = λ i d l.
      let below : i < length old = omega (arith, h.many, l) in
      added.each i d below
      ∙ ap (λ (ps : List (List ℕ)). if g.sender == i + 1 then ps ++ g.payload ∷ [] else ps) (h.each i d l)
      ∙ sym (of_sender_more (i + 1) h.gifts g);
}

-- all lines are read
pub all_read : (senders : ℕ) (text left : List ℕ) (plans : List Plan) (count : ℕ) → HaveRead senders text left plans count → lines_in left ≡ [] → HasPlans senders text (map payloads_of plans)
all_read senders text left plans count h none = record {
  gifts = h.gifts;
  given = subst (λ (ls : List (List ℕ)). AreGiven senders ls h.gifts) (sym (h.lines ∙ ap (λ (ls : List (List ℕ)). h.before ++ ls) none ∙ append-nil h.before)) h.given;
  plans_are =
      all_senders plans 1 h.gifts (λ i d l. h.each i d (omega (arith, h.many, l)) ∙ ap (λ (n : ℕ). payloads_of_sender n h.gifts) (next i))
      ∙ ap (λ (n : ℕ). payloads_of_senders 1 n h.gifts) h.many;
}
  where
    next : (i : ℕ) → i + 1 ≡ 1 + i
    next i = omega arith

-- a line is refused
pub refused : (senders : ℕ) (text left line rest : List ℕ) (plans : List Plan) (count : ℕ) → HaveRead senders text left plans count → lines_in left ≡ line ∷ lines_in rest
    → ((g : Gift) → Gives (length plans) line g → ⊥) → IsRefusedAt senders text (count + 1)
refused senders text left line rest plans count h e none = record {
  before = h.before;
  here = line;
  behind = lines_in rest;
  lines = h.lines ∙ ap (λ (ls : List (List ℕ)). h.before ++ ls) e;
  gifts = h.gifts;
  given = h.given;
  none = λ g gives. none g (subst (λ (n : ℕ). Gives n line g) (sym h.many) gives);
  number = omega (arith, h.counted);
}

-- the number of a line is at most that of the bytes
pub count_within : (senders : ℕ) (text left line rest : List ℕ) (plans : List Plan) (count : ℕ) → HaveRead senders text left plans count → lines_in left ≡ line ∷ lines_in rest → count + 1 ≤ length text
count_within senders text left line rest plans count h e =
    let all = lines_within text in
    let parts : length (lines_in text) ≡ length h.before + length (lines_in left) = ap length h.lines ∙ length-append h.before (lines_in left) in
    let one : length (lines_in left) ≡ suc (length (lines_in rest)) = ap length e in
    omega (arith, h.counted, all, parts, one)
