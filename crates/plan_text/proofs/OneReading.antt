-- A text has one reading.
use Rattle.std.proofs.Common.{◌≡◌, ℕ, suc, ◌<◌, ◌^◌, inl, List, [], ◌∷◌, ◌++◌, length, refl, ap, sym, ◌∙◌, arith, decimal}
use Rattle.text_words.specs.Lines.{lines_in}
use Rattle.text_words.proofs.Decimals.{no_end, same_halves, one_number}
use Rattle.plan_text.specs.Plans.{Gift, Gives, AreGiven, payloads_of_senders}
use Rattle.plan_text.specs.Laws.{OneReading}

-- a line gives one thing
one_gift : (senders : ℕ) (line : List ℕ) (g h : Gift) → senders < 2 ^ 16 → Gives senders line g → Gives senders line h → g ≡ h
one_gift senders line g h small a b =
    let first : g.sender < 2 ^ 64 = omega (arith, small, a.most) in
    let second : h.sender < 2 ^ 64 = omega (arith, small, b.most) in
    let parts = same_halves 32 (decimal g.sender) (decimal h.sender) a.digits b.digits (no_end g.sender 32 first (inl (omega arith))) (no_end h.sender 32 second (inl (omega arith))) (sym a.written ∙ b.written) in
    let sender : g.sender ≡ h.sender = one_number g.sender h.sender first second parts.0 in
    let digits : a.digits ≡ b.digits = parts.1 in
    let one = a.spelled in
    let other = b.spelled in
    let payload : g.payload ≡ h.payload = cc in
    let built : ℕ → List ℕ → Gift = λ s p. record { sender = s; payload = p } in
    ap (λ (s : ℕ). built s g.payload) sender ∙ ap (λ (p : List ℕ). built h.sender p) payload

-- lines give the same
same_gifts : (senders : ℕ) (ls : List (List ℕ)) (gs hs : List Gift) → senders < 2 ^ 16 → AreGiven senders ls gs → AreGiven senders ls hs → gs ≡ hs
same_gifts senders [] [] [] small a b = refl
same_gifts senders [] [] (h ∷ hs) small a b = absurd b
same_gifts senders [] (g ∷ gs) hs small a b = absurd a
same_gifts senders (l ∷ ls) [] hs small a b = absurd a
same_gifts senders (l ∷ ls) (g ∷ gs) [] small a b = absurd b
same_gifts senders (l ∷ ls) (g ∷ gs) (h ∷ hs) small a b =
    let first = one_gift senders l g h small a.0 b.0 in
    let rest = same_gifts senders ls gs hs small a.1 b.1 in
    cc

-- lines that give something have none that gives nothing
pub none_among : (senders : ℕ) (before behind : List (List ℕ)) (here : List ℕ) (gs : List Gift) → AreGiven senders (before ++ here ∷ behind) gs → ((g : Gift) → Gives senders here g → ⊥) → ⊥
none_among senders [] behind here [] a none = absurd a
none_among senders [] behind here (g ∷ gs) a none = none g a.0
none_among senders (l ∷ ls) behind here [] a none = absurd a
none_among senders (l ∷ ls) behind here (g ∷ gs) a none = none_among senders ls behind here gs a.1 none

-- the first line that gives nothing has one place
same_place : (senders : ℕ) (before behind other more : List (List ℕ)) (here there : List ℕ) (gs hs : List Gift) → before ++ here ∷ behind ≡ other ++ there ∷ more
    → AreGiven senders before gs → ((g : Gift) → Gives senders here g → ⊥) → AreGiven senders other hs → ((g : Gift) → Gives senders there g → ⊥) → length before ≡ length other
same_place senders [] behind [] more here there gs hs e a none b other_none = refl
same_place senders [] behind (o ∷ other) more here there gs [] e a none b other_none = absurd b
same_place senders [] behind (o ∷ other) more here there gs (h ∷ hs) e a none b other_none = let same : o ≡ here = cc in absurd (none h (subst_line o here h same b.0))
  where
    subst_line : (o here : List ℕ) (h : Gift) → o ≡ here → Gives senders o h → Gives senders here h
    subst_line o here h same gives = rw (← same) gives
same_place senders (l ∷ before) behind [] more here there [] hs e a none b other_none = absurd a
same_place senders (l ∷ before) behind [] more here there (g ∷ gs) hs e a none b other_none = let same : l ≡ there = cc in absurd (other_none g (subst_line l there g same a.0))
  where
    subst_line : (o here : List ℕ) (h : Gift) → o ≡ here → Gives senders o h → Gives senders here h
    subst_line o here h same gives = rw (← same) gives
same_place senders (l ∷ before) behind (o ∷ other) more here there [] hs e a none b other_none = absurd a
same_place senders (l ∷ before) behind (o ∷ other) more here there (g ∷ gs) [] e a none b other_none = absurd b
same_place senders (l ∷ before) behind (o ∷ other) more here there (g ∷ gs) (h ∷ hs) e a none b other_none =
    let tails : before ++ here ∷ behind ≡ other ++ there ∷ more = cc in
    ap suc (same_place senders before behind other more here there gs hs tails a.1 none b.1 other_none)

pub one_reading : OneReading
one_reading senders text small = (
  (λ a b one two. one.plans_are ∙ ap (payloads_of_senders 1 senders) (same_gifts senders (lines_in text) one.gifts two.gifts small one.given two.given) ∙ sym two.plans_are),
  (λ n m one two. let place = same_place senders one.before one.behind two.before two.behind one.here two.here one.gifts two.gifts (sym one.lines ∙ two.lines) one.given one.none two.given two.none in
      omega (arith, one.number, two.number, place)),
  (λ a n one two. none_among senders two.before two.behind two.here one.gifts (rw (← two.lines) one.given) two.none),
)
