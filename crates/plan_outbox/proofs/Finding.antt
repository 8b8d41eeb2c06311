-- The place of a line in its sender's plan, and what of it is shown by a front.
use Rattle.std.proofs.Common.{◌≡◌, inl, inr, ⊎_elim, ℕ, zero, suc, ◌+◌, ◌<◌, ◌≤◌, ◌==◌, Bool, true, false, true≢false, if◌then◌else◌, List, [], ◌∷◌, ◌++◌, map, length, get_or, Option, Some, None, slice_get, refl, sym, ap, subst, ◌∙◌, arith, append_assoc, length-append, ◌-◌}
use Rattle.std.specs.Prelude.{IfNone, IfSome}
use Rattle.std.proofs.lemmas.Option.{none-some, slice_get_within}
use Rattle.std.proofs.lemmas.Bool.{cases_Bool, cases_lt}
use Rattle.std.proofs.lemmas.Bool.Decides.{nat_tests}
use Rattle.std.proofs.lemmas.List.{get_or-map, get_or_past}
use Rattle.text_words.specs.Lines.{lines_in}
use Rattle.session_model.specs.Journal.{Entry, History, entry, entries_of, payloads}
use Rattle.session_model.specs.Plans.{sent_by}
use Rattle.jr_record.specs.declared.record.Record.{Record}
use Rattle.jr_boxes.specs.Outboxes.{record_of, mark_of, records_of_history}
use Rattle.plan_values.specs.Plans.{payloads_of}
use Rattle.plan_values.specs.declared.plan.Plan.{Plan}
use Rattle.plan_text.specs.Plans.{Gift, AreGiven, payloads_of_sender, payloads_of_senders, HasPlans}
use Rattle.plan_outbox.specs.declared.front.Front.{Front}
use Rattle.plan_outbox.specs.Behind.{MayStand, GoesOnFrom, StandsBehind, IsPastAt}
use Rattle.plan_outbox.specs.Progress.{payloads_in, IsFront, AreFronts, StandsBy, AllStandBy, IsLinePast}

-- a line of a sender, by the place of its payload
record Found (s place : ℕ) (payload : List ℕ) (gifts : List Gift) : Type 0 where
  first : List Gift
  here : Gift
  rest : List Gift
  are : gifts ≡ first ++ here ∷ rest
  sender : here.sender ≡ s
  payload_is : here.payload ≡ payload
  placed : length (payloads_of_sender s first) ≡ place

found_later : (s place at : ℕ) (payload : List ℕ) (g : Gift) (gifts : List Gift) → ((first : List Gift) → length (payloads_of_sender s first) ≡ place → length (payloads_of_sender s (g ∷ first)) ≡ at) → Found s place payload gifts
    → Found s at payload (g ∷ gifts)
found_later s place at payload g gifts more f = record {
  first = g ∷ f.first;
  here = f.here;
  rest = f.rest;
  are = ap (λ (gs : List Gift). g ∷ gs) f.are;
  sender = f.sender;
  payload_is = f.payload_is;
  placed = more f.first f.placed;
}

find : (s place : ℕ) (payload : List ℕ) (gifts : List Gift) → slice_get (payloads_of_sender s gifts) place ≡ Some payload → Found s place payload gifts
find s place payload [] e = absurd (none-some payload e)
find s place payload (g ∷ gifts) e = elim (g.sender == s) as (λ t. (g.sender == s) ≡ t → slice_get (if t then g.payload ∷ payloads_of_sender s gifts else payloads_of_sender s gifts) place ≡ Some payload → Found s place payload (g ∷ gifts)) [
  | true ↦ λ is x. here (λ j. find s j payload gifts) place (grind (arith, nat_tests)) is x
  | false ↦ λ is x. found_later s place place payload g gifts (λ first k. ap (λ (t : Bool). length (if t then g.payload ∷ payloads_of_sender s first else payloads_of_sender s first)) is ∙ k) (find s place payload gifts x)
] refl e
  where
    here : ((j : ℕ) → slice_get (payloads_of_sender s gifts) j ≡ Some payload → Found s j payload gifts) → (place : ℕ) → g.sender ≡ s → (g.sender == s) ≡ true → slice_get (g.payload ∷ payloads_of_sender s gifts) place ≡ Some payload
        → Found s place payload (g ∷ gifts)
    here again zero same is x = let p : g.payload ≡ payload = cc in record { first = []; here = g; rest = gifts; are = refl; sender = same; payload_is = p; placed = refl }
    here again (suc k) same is x = found_later s k (suc k) payload g gifts (λ first j. ap (λ (t : Bool). length (if t then g.payload ∷ payloads_of_sender s first else payloads_of_sender s first)) is ∙ ap suc j) (again k x)

-- the payload of a line stands at that place
pub at_line : (s : ℕ) (first rest : List Gift) (g : Gift) → g.sender ≡ s → slice_get (payloads_of_sender s (first ++ g ∷ rest)) (length (payloads_of_sender s first)) ≡ Some g.payload
at_line s [] rest g same = elim (g.sender == s) as (λ t. (g.sender == s) ≡ t → slice_get (if t then g.payload ∷ payloads_of_sender s rest else payloads_of_sender s rest) 0 ≡ Some g.payload) [
  | true ↦ λ is. refl
  | false ↦ λ is. absurd (grind (arith, nat_tests))
] refl
at_line s (x ∷ first) rest g same = elim (x.sender == s) as (λ t. slice_get (if t then x.payload ∷ payloads_of_sender s (first ++ g ∷ rest) else payloads_of_sender s (first ++ g ∷ rest)) (length (if t then x.payload ∷ payloads_of_sender s first else payloads_of_sender s first)) ≡ Some g.payload) [
  | true ↦ at_line s first rest g same
  | false ↦ at_line s first rest g same
]

-- what a sender's entries were
sent_in : (s : ℕ) (made : List Entry) (b : Bool) → payloads_in s (map record_of (map (λ (e : Entry). entry e) made ++ mark_of b)) ≡ sent_by made s
sent_in s [] true = refl
sent_in s [] false = refl
sent_in s (e ∷ made) b = elim (e.sender == s) as (λ t. (if t then e.payload ∷ payloads_in s (map record_of (map (λ (e : Entry). entry e) made ++ mark_of b)) else payloads_in s (map record_of (map (λ (e : Entry). entry e) made ++ mark_of b))) ≡ payloads (if t then e ∷ entries_of made s else entries_of made s)) [
  | true ↦ ap (λ (ps : List (List ℕ)). e.payload ∷ ps) (sent_in s made b)
  | false ↦ sent_in s made b
]

-- a payload that a front lets stand
stands : (plan sent : List (List ℕ)) (f : Front) (finished : Bool) (place : ℕ) (payload : List ℕ) → IsFront plan sent f → slice_get plan place ≡ Some payload → StandsBy f finished place → MayStand sent finished place payload
stands plan sent f finished place payload front there (inl below) = inl (front.same place below ∙ there)
stands plan sent f finished place payload front there (inr (past, is, more)) = inr (omega (arith, front.all is, past), more)

-- a payload right behind a front that does not
stands_not : (plan sent : List (List ℕ)) (f : Front) (finished : Bool) (place : ℕ) (payload : List ℕ) → IsFront plan sent f → slice_get plan place ≡ Some payload → place ≡ f.places → (f.is_open ≡ true → finished ≡ true) → MayStand sent finished place payload → ⊥
stands_not plan sent f finished place payload front there at closed m = ⊎_elim by_open by_shut (cases_Bool f.is_open)
  where
    by_open : f.is_open ≡ true → ⊥
    by_open is = ⊎_elim
        (λ (same : slice_get sent place ≡ Some payload). let inside = slice_get_within sent place payload same in omega (arith, inside, at, front.all is))
        (λ (x : (length sent ≤ place) × (finished ≡ false)). true≢false (sym (closed is) ∙ x.1))
        m

    by_shut : f.is_open ≡ false → ⊥
    by_shut is = let s = front.shut is in ⊎_elim
        (λ (same : slice_get sent place ≡ Some payload). s.1 (subst (λ (k : ℕ). slice_get plan k ≡ slice_get sent k) at (there ∙ sym same)))
        (λ (x : (length sent ≤ place) × (finished ≡ false)). omega (arith, s.0, x.0, at))
        m

-- the plan of a sender, of the payloads of all
pub plan_at : (first n : ℕ) (gifts : List Gift) (i : ℕ) → i < n → get_or (payloads_of_senders first n gifts) i [] ≡ payloads_of_sender (first + i) gifts
plan_at first zero gifts i lt = absurd (omega (arith, lt))
plan_at first (suc n) gifts zero lt = ap (λ (k : ℕ). payloads_of_sender k gifts) (same first)
  where
    same : (first : ℕ) → first ≡ first + 0
    same first = omega arith
plan_at first (suc n) gifts (suc i) lt = plan_at (first + 1) n gifts i (omega (arith, lt)) ∙ ap (λ (k : ℕ). payloads_of_sender k gifts) (next first i)
  where
    next : (first i : ℕ) → first + 1 + i ≡ first + suc i
    next first i = omega arith

long_plans : (first n : ℕ) (gifts : List Gift) → length (payloads_of_senders first n gifts) ≡ n
long_plans first zero gifts = refl
long_plans first (suc n) gifts = ap suc (long_plans (first + 1) n gifts)

module _ (plans : List Plan) (text : List ℕ) (records : List Record) (fronts : List Front) (a : AreFronts plans records fronts) (has : HasPlans (length plans) text (map payloads_of plans)) (h : History) (is : records ≡ records_of_history h) where
  sent_is : (s : ℕ) → payloads_in s records ≡ sent_by h.made s
  sent_is s = ap (λ (rs : List Record). payloads_in s rs) is ∙ sent_in s h.made h.finished

  -- the plan of sender i + 1, and its front
  planned : (i : ℕ) → i < length plans → get_or (map payloads_of plans) i [] ≡ payloads_of_sender (i + 1) has.gifts
  planned i lt = ap (λ (ps : List (List (List ℕ))). get_or ps i []) has.plans_are ∙ (plan_at 1 (length plans) has.gifts i lt ∙ ap (λ (k : ℕ). payloads_of_sender k has.gifts) (swap i))
    where
      swap : (i : ℕ) → 1 + i ≡ i + 1
      swap i = omega arith

  front_at : (i : ℕ) (p : Plan) (f : Front) → i < length plans → IsFront (payloads_of_sender (i + 1) has.gifts) (sent_by h.made (i + 1)) (get_or fronts i f)
  front_at i p f lt = subst (λ (ps : List (List ℕ)). IsFront (payloads_of_sender (i + 1) has.gifts) ps (get_or fronts i f)) (sent_is (i + 1))
      (subst (λ (ps : List (List ℕ)). IsFront ps (payloads_in (i + 1) records) (get_or fronts i f)) (sym (get_or-map payloads_of plans i p [] lt) ∙ planned i lt) (a.each i p f lt))

  pub goes_on : (some_plan : (i : ℕ) → i < length plans → Plan) (finished : Bool) → finished ≡ h.finished → AllStandBy fronts finished has.gifts → GoesOnFrom (map payloads_of plans) h
  goes_on some_plan finished same all i place payload there = ⊎_elim
      (λ (lt : i < length plans).
      let plan_there : slice_get (payloads_of_sender (i + 1) has.gifts) place ≡ Some payload = subst (λ (ps : List (List ℕ)). slice_get ps place ≡ Some payload) (planned i lt) there in
      let f = find (i + 1) place payload has.gifts plan_there in
      let d : Front = record { places = 0; is_open = true } in
      let by : StandsBy (get_or fronts i d) finished place = subst (λ (k : ℕ). StandsBy (get_or fronts i d) finished k) f.placed (all f.first f.rest f.here f.are i d f.sender) in
      subst (λ (b : Bool). MayStand (sent_by h.made (i + 1)) b place payload) same
      (stands (payloads_of_sender (i + 1) has.gifts) (sent_by h.made (i + 1)) (get_or fronts i d) finished place payload (front_at i (some_plan i lt) d lt) plan_there by))
      (λ (past : length plans ≤ i).
      let none : get_or (map payloads_of plans) i [] ≡ [] = get_or_past (map payloads_of plans) i [] (omega (arith, past, ap length has.plans_are, long_plans 1 (length plans) has.gifts)) in
      absurd (none-some payload (subst (λ (ps : List (List ℕ)). slice_get ps place ≡ Some payload) none there)))
      (cases_lt i (length plans))

  pub line_is_past : (some_plan : (i : ℕ) → i < length plans → Plan) (finished : Bool) → finished ≡ h.finished → (line : ℕ) → IsLinePast fronts finished has.gifts line → IsPastAt h (length plans) text line
  line_is_past some_plan finished same line l = record {
    gifts = has.gifts;
    given = has.given;
    before = l.before;
    here = l.here;
    behind = l.behind;
    gifts_are = l.gifts_are;
    stand = stand;
    not = not;
    number = l.number;
  }
    where
      d : Front
      d = record { places = 0; is_open = true }

      -- the sender of a line
      its : (first rest : List Gift) (g : Gift) → has.gifts ≡ first ++ g ∷ rest → (i : ℕ) × (g.sender ≡ i + 1) × (i < length plans)
      its first rest g e = let k = ranged (length plans) (lines_in text) has.gifts first rest g e has.given in (g.sender - 1, omega (arith, k.0), omega (arith, k.0, k.1))
        where
          ranged : (senders : ℕ) (ls : List (List ℕ)) (gs first rest : List Gift) (g : Gift) → gs ≡ first ++ g ∷ rest → AreGiven senders ls gs → (1 ≤ g.sender) × (g.sender ≤ senders)
          ranged senders ls [] first rest g e given = absurd (omega (arith, ap length e, length-append first (g ∷ rest)))
          ranged senders [] (x ∷ gs) first rest g e given = absurd given
          ranged senders (l ∷ ls) (x ∷ gs) [] rest g e given = let same : x ≡ g = cc in subst (λ (y : Gift). (1 ≤ y.sender) × (y.sender ≤ senders)) same (given.0.least, given.0.most)
          ranged senders (l ∷ ls) (x ∷ gs) (y ∷ first) rest g e given = let tails : gs ≡ first ++ g ∷ rest = cc in ranged senders ls gs first rest g tails given.1

      there_at : (first rest : List Gift) (g : Gift) (i : ℕ) → has.gifts ≡ first ++ g ∷ rest → g.sender ≡ i + 1 → slice_get (payloads_of_sender (i + 1) has.gifts) (length (payloads_of_sender (i + 1) first)) ≡ Some g.payload
      there_at first rest g i e same = subst (λ (gs : List Gift). slice_get (payloads_of_sender (i + 1) gs) (length (payloads_of_sender (i + 1) first)) ≡ Some g.payload) (sym e) (at_line (i + 1) first rest g same)

      stand : (first rest : List Gift) (g : Gift) → l.before ≡ first ++ g ∷ rest → StandsBehind h first g
      stand first rest g e =
          let whole : has.gifts ≡ first ++ g ∷ (rest ++ l.here ∷ l.behind) = l.gifts_are ∙ (ap (λ (gs : List Gift). gs ++ l.here ∷ l.behind) e ∙ append_assoc first (g ∷ rest) (l.here ∷ l.behind)) in
          let k = its first (rest ++ l.here ∷ l.behind) g whole in
          let there = there_at first (rest ++ l.here ∷ l.behind) g k.0 whole k.1 in
          subst (λ (s : ℕ). MayStand (sent_by h.made s) h.finished (length (payloads_of_sender s first)) g.payload) (sym k.1)
          (subst (λ (b : Bool). MayStand (sent_by h.made (k.0 + 1)) b (length (payloads_of_sender (k.0 + 1) first)) g.payload) same
          (stands (payloads_of_sender (k.0 + 1) has.gifts) (sent_by h.made (k.0 + 1)) (get_or fronts k.0 d) finished (length (payloads_of_sender (k.0 + 1) first)) g.payload (front_at k.0 (some_plan k.0 k.2) d k.2) there (l.stand first rest g e k.0 d k.1)))

      not : StandsBehind h l.before l.here → ⊥
      not m =
          let k = its l.before l.behind l.here l.gifts_are in
          let there = there_at l.before l.behind l.here k.0 l.gifts_are k.1 in
          let past = l.past k.0 d k.1 in
          stands_not (payloads_of_sender (k.0 + 1) has.gifts) (sent_by h.made (k.0 + 1)) (get_or fronts k.0 d) finished (length (payloads_of_sender (k.0 + 1) l.before)) l.here.payload (front_at k.0 (some_plan k.0 k.2) d k.2) there past.0 past.1
          (subst (λ (b : Bool). MayStand (sent_by h.made (k.0 + 1)) b (length (payloads_of_sender (k.0 + 1) l.before)) l.here.payload) (sym same)
          (subst (λ (s : ℕ). MayStand (sent_by h.made s) h.finished (length (payloads_of_sender s l.before)) l.here.payload) k.1 m))

pub plan_there : (plans : List Plan) (i : ℕ) → i < length plans → Plan
plan_there [] i lt = absurd (omega (arith, lt))
plan_there (p ∷ plans) i lt = p

pub if_none : {A : Type 0} (o : Option A) (P Q : Type 0) → (P → Q) → IfNone o P → IfNone o Q
if_none None P Q f p = f p
if_none (Some a) P Q f p = p

pub if_some : {A : Type 0} (o : Option A) (P Q : A → Type 0) → ((a : A) → P a → Q a) → IfSome o P → IfSome o Q
if_some None P Q f p = p
if_some (Some a) P Q f p = f a p
