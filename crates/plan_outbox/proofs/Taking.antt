-- One line more of a sender, taken from its front.
use Rattle.std.proofs.Common.{◌≡◌, ◌⊎◌, inl, inr, ⊎_elim, ℕ, suc, ◌+◌, ◌-◌, ◌<◌, ◌≤◌, ◌==◌, Bool, true, false, if◌then◌else◌, List, [], ◌∷◌, ◌++◌, length, get_or, refl, sym, ap, subst, ◌∙◌, arith, length-append, append_assoc, append-nil}
use Rattle.std.proofs.Math.ListN.{set, length-set}
use Rattle.std.proofs.lemmas.List.{get_or-set_same, get_or-set_other, get_or_default}
use Rattle.std.proofs.lemmas.Bool.Decides.{nat_tests}
use mathlib.Core.Logic.{dite}
use native.Mathlib.Decide.{ℕ_discrete}
use Rattle.text_words.specs.Lines.{lines_in}
use Rattle.text_words.proofs.Feeds.{lines_within}
use Rattle.plan_text.specs.Plans.{Gift, Gives, AreGiven, payloads_of_sender}
use Rattle.plan_text.proofs.Gifts.{of_sender_more}
use Rattle.plan_outbox.specs.declared.front.Front.{Front}
use Rattle.plan_outbox.specs.Progress.{IsLeft, StandsBy, AreLeft, AllStandBy, IsLinePast, HaveTaken}

pub left_new : (f : Front) (finished : Bool) → IsLeft f finished 0 f
left_new f finished = record { kind = refl; places = omega arith; within = inr (omega arith) }

-- a line is taken that may stand
pub take_placed : (f left new : Front) (finished : Bool) (taken : ℕ) → IsLeft f finished taken left → (left.places ≡ 0 → ⊥) → new.places ≡ left.places - 1 → new.is_open ≡ left.is_open
    → IsLeft f finished (taken + 1) new × StandsBy f finished taken
take_placed f left new finished taken l some less same =
    let below : taken < f.places = omega (arith, l.places, some) in
    (record { kind = same ∙ l.kind; places = omega (arith, less, l.places); within = inr (omega (arith, below)) }, inl below)

pub take_open : (f left : Front) (finished : Bool) (taken : ℕ) → IsLeft f finished taken left → left.places ≡ 0 → left.is_open ≡ true → finished ≡ false → IsLeft f finished (taken + 1) left × StandsBy f finished taken
take_open f left finished taken l none is more =
    let past : f.places ≤ taken = omega (arith, l.places, none) in
    (record { kind = l.kind; places = omega (arith, l.places, none, past); within = inl (sym l.kind ∙ is, more) }, inr (past, sym l.kind ∙ is, more))

pub take_past : (f left : Front) (finished : Bool) (taken : ℕ) → IsLeft f finished taken left → left.places ≡ 0 → (left.is_open ≡ true → finished ≡ false → ⊥) → (taken ≡ f.places) × (f.is_open ≡ true → finished ≡ true)
take_past f left finished taken l none never = (at l.within, λ is. closed finished (λ more. never (l.kind ∙ is) more))
  where
    at : ((f.is_open ≡ true) × (finished ≡ false)) ⊎ (taken ≤ f.places) → taken ≡ f.places
    at (inl x) = absurd (never (l.kind ∙ x.0) x.1)
    at (inr x) = omega (arith, l.places, none, x)

    closed : (b : Bool) → (b ≡ false → ⊥) → b ≡ true
    closed true h = refl
    closed false h = absurd (h refl)

-- lines that give something, the last of which gives a gift behind the others
pub record Split (senders : ℕ) (before : List (List ℕ)) (line : List ℕ) (rest : List (List ℕ)) (gifts : List Gift) : Type 0 where
  pub first : List Gift
  pub here : Gift
  pub later : List Gift
  pub are : gifts ≡ first ++ here ∷ later
  pub given : AreGiven senders before first
  pub gives : Gives senders line here
  pub long : length first ≡ length before

pub split : (senders : ℕ) (before : List (List ℕ)) (line : List ℕ) (rest : List (List ℕ)) (gifts : List Gift) → AreGiven senders (before ++ line ∷ rest) gifts → Split senders before line rest gifts
split senders [] line rest [] a = absurd a
split senders [] line rest (g ∷ gifts) a = record { first = []; here = g; later = gifts; are = refl; given = tt; gives = a.0; long = refl }
split senders (l ∷ before) line rest [] a = absurd a
split senders (l ∷ before) line rest (g ∷ gifts) a =
    let s = split senders before line rest gifts a.1 in
    record { first = g ∷ s.first; here = s.here; later = s.later; are = ap (λ (gs : List Gift). g ∷ gs) s.are; given = (a.0, s.given); gives = s.gives; long = ap suc s.long }

of_sender : (s : ℕ) (gifts : List Gift) (g : Gift) → g.sender ≡ s → payloads_of_sender s (gifts ++ g ∷ []) ≡ payloads_of_sender s gifts ++ g.payload ∷ []
of_sender s gifts g e = of_sender_more s gifts g ∙ (elim (g.sender == s) as (λ t. (g.sender == s) ≡ t → (if t then payloads_of_sender s gifts ++ g.payload ∷ [] else payloads_of_sender s gifts) ≡ payloads_of_sender s gifts ++ g.payload ∷ []) [
  | true ↦ λ x. refl
  | false ↦ λ x. absurd (grind (arith, nat_tests))
] refl)

of_another : (s : ℕ) (gifts : List Gift) (g : Gift) → (g.sender ≡ s → ⊥) → payloads_of_sender s (gifts ++ g ∷ []) ≡ payloads_of_sender s gifts
of_another s gifts g ne = of_sender_more s gifts g ∙ (elim (g.sender == s) as (λ t. (g.sender == s) ≡ t → (if t then payloads_of_sender s gifts ++ g.payload ∷ [] else payloads_of_sender s gifts) ≡ payloads_of_sender s gifts) [
  | true ↦ λ x. absurd (ne (grind (arith, nat_tests)))
  | false ↦ λ x. refl
] refl)

-- where one stands in a list with one more behind it: behind all others, or among them
last_or : (gifts first rest : List Gift) (g x : Gift) → gifts ++ g ∷ [] ≡ first ++ x ∷ rest → ((first ≡ gifts) × (x ≡ g)) ⊎ ((more : List Gift) × (gifts ≡ first ++ x ∷ more))
last_or [] [] rest g x e = let same : x ≡ g = cc in inl (refl, same)
last_or [] (f ∷ first) rest g x e = absurd (omega (arith, ap length e, length-append first (x ∷ rest)))
last_or (y ∷ gifts) [] rest g x e = let same : y ≡ x = cc in inr (gifts, ap (λ (z : Gift). z ∷ gifts) same)
last_or (y ∷ gifts) (f ∷ first) rest g x e =
    let head : y ≡ f = cc in
    let tails : gifts ++ g ∷ [] ≡ first ++ x ∷ rest = cc in
    ⊎_elim
    (λ (o : (first ≡ gifts) × (x ≡ g)). let same : first ≡ gifts = o.0 in let all : f ∷ first ≡ y ∷ gifts = cc in inl (all, o.1))
    (λ (o : (more : List Gift) × (gifts ≡ first ++ x ∷ more)). let same : gifts ≡ first ++ x ∷ o.0 = o.1 in let all : y ∷ gifts ≡ f ∷ (first ++ x ∷ o.0) = cc in inr (o.0, all))
    (last_or gifts first rest g x tails)

module _ (fronts : List Front) (finished : Bool) where
  -- one gift more that stands
  stand_more : (gifts : List Gift) (g : Gift) → AllStandBy fronts finished gifts → ((i : ℕ) (d : Front) → g.sender ≡ i + 1 → StandsBy (get_or fronts i d) finished (length (payloads_of_sender (i + 1) gifts)))
      → AllStandBy fronts finished (gifts ++ g ∷ [])
  stand_more gifts g all one first rest x e i d is = ⊎_elim
      (λ (o : (first ≡ gifts) × (x ≡ g)). subst (λ (gs : List Gift). StandsBy (get_or fronts i d) finished (length (payloads_of_sender (i + 1) gs))) (sym o.0) (one i d (sym (ap (λ (y : Gift). y.sender) o.1) ∙ is)))
      (λ (o : (more : List Gift) × (gifts ≡ first ++ x ∷ more)). all first o.0 x o.1 i d is)
      (last_or gifts first rest g x e)

  -- nothing is taken yet
  pub none_taken : (text : List ℕ) → HaveTaken fronts finished text text fronts 0
  none_taken text = record {
    before = [];
    lines = refl;
    counted = refl;
    many = refl;
    taken = by_gifts;
  }
    where
      by_gifts : (gifts : List Gift) → AreGiven (length fronts) [] gifts → AreLeft fronts finished gifts fronts × AllStandBy fronts finished gifts
      by_gifts [] a = (
        record { many = refl; each = λ i d lt. left_new (get_or fronts i d) finished },
        λ first rest x e. absurd (omega (arith, ap length e, length-append first (x ∷ rest))),
      )
      by_gifts (g ∷ gifts) a = absurd a

  module _ (text rest line behind : List ℕ) (left : List Front) (count sender : ℕ) (h : HaveTaken fronts finished text rest left count) (lines : lines_in rest ≡ line ∷ lines_in behind)
      (its : (g : Gift) → Gives (length left) line g → sender ≡ g.sender) (at : Front) where
    gives_left : (g : Gift) → Gives (length fronts) line g → Gives (length left) line g
    gives_left g gives = subst (λ (n : ℕ). Gives n line g) (sym h.many) gives

    -- the line is taken
    pub one_taken : (new : Front) → ((f : Front) (taken : ℕ) → IsLeft f finished taken (get_or left (sender - 1) at) → IsLeft f finished (taken + 1) new × StandsBy f finished taken)
        → HaveTaken fronts finished text behind (set left (sender - 1) new) (count + 1)
    one_taken new step = record {
      before = h.before ++ line ∷ [];
      lines = h.lines ∙ ap (λ (ls : List (List ℕ)). h.before ++ ls) lines ∙ sym (append_assoc h.before (line ∷ []) (lines_in behind));
      counted = omega (arith, h.counted, length-append h.before (line ∷ []));
      many = length-set left (sender - 1) new ∙ h.many;
      taken = by_gifts;
    }
      where
        by_gifts : (gifts : List Gift) → AreGiven (length fronts) (h.before ++ line ∷ []) gifts → AreLeft fronts finished gifts (set left (sender - 1) new) × AllStandBy fronts finished gifts
        by_gifts gifts a =
            let s = split (length fronts) h.before line [] gifts a in
            let g : Gift = s.here in
            let was = h.taken s.first s.given in
            let sender_is : sender ≡ g.sender = its g (gives_left g s.gives) in
            let inside : sender - 1 < length left = omega (arith, s.gives.least, s.gives.most, h.many, sender_is) in
            let placed : (i : ℕ) → g.sender ≡ i + 1 → i ≡ sender - 1 = λ i e. omega (arith, e, sender_is) in
            let stepped : (i : ℕ) (d : Front) → g.sender ≡ i + 1 → IsLeft (get_or fronts i d) finished (length (payloads_of_sender (i + 1) s.first) + 1) new × StandsBy (get_or fronts i d) finished (length (payloads_of_sender (i + 1) s.first)) =
            λ i d e. step (get_or fronts i d) (length (payloads_of_sender (i + 1) s.first))
            (subst (λ (l : Front). IsLeft (get_or fronts i d) finished (length (payloads_of_sender (i + 1) s.first)) l) (ap (λ (j : ℕ). get_or left j d) (placed i e) ∙ get_or_default left (sender - 1) d at inside)
            (was.0.each i d (omega (arith, e, s.gives.most)))) in
            let none_later : s.later ≡ [] = no_later s.later (omega (arith, ap length s.are, length-append s.first (g ∷ s.later), s.long, given_long (length fronts) (h.before ++ line ∷ []) gifts a, length-append h.before (line ∷ []))) in
            let all : gifts ≡ s.first ++ g ∷ [] = s.are ∙ ap (λ (gs : List Gift). s.first ++ g ∷ gs) none_later in
            subst (λ (gs : List Gift). AreLeft fronts finished gs (set left (sender - 1) new) × AllStandBy fronts finished gs) (sym all) (
              record {
                many = length-set left (sender - 1) new ∙ h.many;
                each = λ i d lt. dite (ℕ_discrete g.sender (i + 1))
                    (λ (e : g.sender ≡ i + 1).
                    subst (λ (l : Front). IsLeft (get_or fronts i d) finished (length (payloads_of_sender (i + 1) (s.first ++ g ∷ []))) l)
                    (sym (ap (λ (j : ℕ). get_or (set left (sender - 1) new) j d) (placed i e) ∙ get_or-set_same left (sender - 1) new d inside))
                    (subst (λ (n : ℕ). IsLeft (get_or fronts i d) finished n new)
                    (sym (ap length (of_sender (i + 1) s.first g e) ∙ length-append (payloads_of_sender (i + 1) s.first) (g.payload ∷ [])))
                    (stepped i d e).0))
                    (λ ne.
                    subst (λ (l : Front). IsLeft (get_or fronts i d) finished (length (payloads_of_sender (i + 1) (s.first ++ g ∷ []))) l)
                    (sym (get_or-set_other left (sender - 1) i new d (λ x. ne (omega (arith, x, sender_is, s.gives.least)))))
                    (subst (λ (ps : List (List ℕ)). IsLeft (get_or fronts i d) finished (length ps) (get_or left i d)) (sym (of_another (i + 1) s.first g ne)) (was.0.each i d lt)));
              },
              stand_more s.first g was.1 (λ i d e. (stepped i d e).1),
            )
          where
            no_later : (gs : List Gift) → length gs ≡ 0 → gs ≡ []
            no_later [] e = refl
            no_later (x ∷ gs) e = absurd (omega (arith, e))

            given_long : (senders : ℕ) (ls : List (List ℕ)) (gs : List Gift) → AreGiven senders ls gs → length gs ≡ length ls
            given_long senders [] [] b = refl
            given_long senders [] (x ∷ gs) b = absurd b
            given_long senders (l ∷ ls) [] b = absurd b
            given_long senders (l ∷ ls) (x ∷ gs) b = ap suc (given_long senders ls gs b.1)

    -- the line may not stand
    pub line_past : ((f : Front) (taken : ℕ) → IsLeft f finished taken (get_or left (sender - 1) at) → (taken ≡ f.places) × (f.is_open ≡ true → finished ≡ true))
        → (gifts : List Gift) → AreGiven (length fronts) (lines_in text) gifts → IsLinePast fronts finished gifts (count + 1)
    line_past step gifts a =
        let s = split (length fronts) h.before line (lines_in behind) gifts (subst (λ (ls : List (List ℕ)). AreGiven (length fronts) ls gifts) (h.lines ∙ ap (λ (ls : List (List ℕ)). h.before ++ ls) lines) a) in
        let g : Gift = s.here in
        let was = h.taken s.first s.given in
        let sender_is : sender ≡ g.sender = its g (gives_left g s.gives) in
        let inside : sender - 1 < length left = omega (arith, s.gives.least, s.gives.most, h.many, sender_is) in
        record {
          before = s.first;
          here = g;
          behind = s.later;
          gifts_are = s.are;
          stand = was.1;
          number = omega (arith, h.counted, s.long);
          past = λ i d e.
              let place : i ≡ sender - 1 = omega (arith, e, sender_is) in
              step (get_or fronts i d) (length (payloads_of_sender (i + 1) s.first))
              (subst (λ (l : Front). IsLeft (get_or fronts i d) finished (length (payloads_of_sender (i + 1) s.first)) l) (ap (λ (j : ℕ). get_or left j d) place ∙ get_or_default left (sender - 1) d at inside)
              (was.0.each i d (omega (arith, e, s.gives.most))));
        }

    -- a line that gives something has a sender
    pub given_line : (gifts : List Gift) → AreGiven (length fronts) (lines_in text) gifts → (g : Gift) × Gives (length left) line g
    given_line gifts a =
        let s = split (length fronts) h.before line (lines_in behind) gifts (subst (λ (ls : List (List ℕ)). AreGiven (length fronts) ls gifts) (h.lines ∙ ap (λ (ls : List (List ℕ)). h.before ++ ls) lines) a) in
        (s.here, gives_left s.here s.gives)

  -- all lines are taken
  pub all_taken : (text rest : List ℕ) (left : List Front) (count : ℕ) → HaveTaken fronts finished text rest left count → lines_in rest ≡ [] → (gifts : List Gift) → AreGiven (length fronts) (lines_in text) gifts → AllStandBy fronts finished gifts
  all_taken text rest left count h none gifts a =
      (h.taken gifts (subst (λ (ls : List (List ℕ)). AreGiven (length fronts) ls gifts) (h.lines ∙ ap (λ (ls : List (List ℕ)). h.before ++ ls) none ∙ append-nil h.before) a)).1

  -- the number of a line is at most that of the bytes
  pub count_within : (text rest line behind : List ℕ) (left : List Front) (count : ℕ) → HaveTaken fronts finished text rest left count → lines_in rest ≡ line ∷ lines_in behind → count + 1 ≤ length text
  count_within text rest line behind left count h e =
      let all = lines_within text in
      let parts : length (lines_in text) ≡ length h.before + length (lines_in rest) = ap length h.lines ∙ length-append h.before (lines_in rest) in
      let one : length (lines_in rest) ≡ suc (length (lines_in behind)) = ap length e in
      omega (arith, h.counted, all, parts, one)
