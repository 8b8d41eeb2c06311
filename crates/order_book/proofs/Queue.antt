-- Places in the order of a queue: which are met by an order that comes in, and what stands at them in turn.
use Rattle.std.proofs.Common.{◌≡◌, ℕ, ◌-◌, ◌^◌, ◌<◌, Bool, true, false, not, ◌&&◌, ◌||◌, cond, int_lt, ℤ, negsuc, ◌≤ℤ◌, ◌⊎◌, inl, inr, List, [], ◌∷◌, ◌++◌, filter, Option, Some, None, option_map, refl, sym, ap, subst, ◌∙◌, arith, nat_cmp, int_cmp, is_eq, is_lt, is_le, is_gt, Ordering, Less, Equal, Greater}
use Rattle.std.specs.Ordering.{ordering_then}
use Rattle.std.specs.Cmp.{Equal-is, nat_cmp_total, int_cmp_total, first_so, second_so}
use Rattle.std.specs.Cmp.Lexicographic.{slice_cmp, texts_ties}
use Rattle.std.specs.List.{AllByRecursion, list_any}
use Rattle.std.specs.List.Sorted.{IsStrictlySortedBy}
use Rattle.std.specs.BTreeMap.{is_at}
use Rattle.std.proofs.lemmas.Int.{ints}
use Rattle.std.proofs.lemmas.Cmp.{ranked, int_ranked, tied_itself, nat_list_cmp_total}
use Rattle.std.proofs.lemmas.Map.Keys.{sorted_head, sorted_tail}
use Rattle.std.proofs.lemmas.Map.Lookups.{exact_unsigned, exact_signed, exact_bytes}
use Rattle.order_desk.specs.declared.order.Side.{Side}
use Rattle.order_desk.specs.declared.order.Side.TheVariants.{Buy, Sell}
use Rattle.order_desk.specs.declared.order.Symbol.{Symbol}
use Rattle.order_desk.specs.Reports.{crosses}
use Rattle.order_desk.specs.contracts.order.SideOrd.TheImpl as side_ord
use Rattle.order_book.specs.declared.entries.BookOrder.{BookOrder}
use Rattle.order_book.specs.declared.place.Place.{Place}
use Rattle.order_book.specs.Book.{is_opposite, is_same, meets, is_better, beats}
use Rattle.order_book.specs.Index.{place_cmp, rank_of, place_of, other, front_of, end_of, is_met, under, met, Finds}
use Rattle.order_book.proofs.Lookups.{Has, Ascending, look, has_from_look, look_from_has, both}
use Rattle.order_book.proofs.Best.{Goes}
use Rattle.order_book.proofs.Walk.{InTurn, Queued}

abbrev side_cmp : Side → Side → Ordering
side_cmp = (side_ord.ghosts).cmp

-- ---- the order of places

abbrev texts : Place → Place → Ordering
texts p q = slice_cmp nat_cmp p.symbol.text q.symbol.text

abbrev sides : Place → Place → Ordering
sides p q = side_cmp p.side q.side

abbrev ranks : Place → Place → Ordering
ranks p q = int_cmp p.rank q.rank

abbrev turns : Place → Place → Ordering
turns p q = nat_cmp p.arrival q.arrival

place_is : (p q : Place) → place_cmp p q ≡ ordering_then (texts p q) (ordering_then (sides p q) (ordering_then (ranks p q) (turns p q)))
place_is p q = refl

side_exact : (a b : Side) → side_cmp a b ≡ Equal → a ≡ b
side_exact Buy Buy e = refl
side_exact Buy Sell e = absurd cc
side_exact Sell Buy e = absurd cc
side_exact Sell Sell e = refl

side_self : (a : Side) → side_cmp a a ≡ Equal
side_self Buy = refl
side_self Sell = refl

texts_self : (s : List ℕ) → slice_cmp nat_cmp s s ≡ Equal
texts_self s = tied_itself nat_list_cmp_total s

pub place_self : (p : Place) → place_cmp p p ≡ Equal
place_self p =
    (λ i. ordering_then (texts_self p.symbol.text i) (ordering_then (side_self p.side i) (ordering_then (tied_itself int_cmp_total p.rank i) (tied_itself nat_cmp_total p.arrival i))))

then_equal : (a b : Ordering) → ordering_then a b ≡ Equal → (a ≡ Equal) × (b ≡ Equal)
then_equal Less b e = absurd cc
then_equal Equal b e = (refl, e)
then_equal Greater b e = absurd cc

same_symbol : (a b : Symbol) → a.text ≡ b.text → a ≡ b
same_symbol a b e = λ i. record { text = e i }

pub place_exact : (p q : Place) → place_cmp p q ≡ Equal → p ≡ q
place_exact p q e =
    let one = then_equal (texts p q) (ordering_then (sides p q) (ordering_then (ranks p q) (turns p q))) e in
    let two = then_equal (sides p q) (ordering_then (ranks p q) (turns p q)) one.1 in
    let three = then_equal (ranks p q) (turns p q) two.1 in
    let s = same_symbol p.symbol q.symbol (exact_bytes p.symbol.text q.symbol.text one.0) in
    let d = side_exact p.side q.side two.0 in
    let r = exact_signed p.rank q.rank three.0 in
    let a = exact_unsigned p.arrival q.arrival three.1 in
    λ i. record { symbol = s i; side = d i; rank = r i; arrival = a i }

-- ---- places of one queue

then_less : (a b : Ordering) → ordering_then a b ≡ Less → (a ≡ Less) ⊎ ((a ≡ Equal) × (b ≡ Less))
then_less Less b e = inl refl
then_less Equal b e = inr (refl, e)
then_less Greater b e = absurd cc

-- of two places of one queue the earlier has the lesser rank, or the same one and came earlier
in_queue : (p q : Place) → p.symbol ≡ q.symbol → p.side ≡ q.side → place_cmp p q ≡ Less → (ranks p q ≡ Less) ⊎ ((ranks p q ≡ Equal) × (turns p q ≡ Less))
in_queue p q s d e =
    let t : texts p q ≡ Equal = ap (λ (y : Symbol). slice_cmp nat_cmp p.symbol.text y.text) (sym s) ∙ texts_self p.symbol.text in
    let k : sides p q ≡ Equal = ap (λ y. side_cmp p.side y) (sym d) ∙ side_self p.side in
    then_less (ranks p q) (turns p q) (sym (λ i. ordering_then (t i) (ordering_then (k i) (ordering_then (ranks p q) (turns p q)))) ∙ e)

-- a better price has the lesser rank
better_rank : (side : Side) (x y : ℤ) → is_better side x y ≡ int_lt (rank_of side x) (rank_of side y)
better_rank Sell x y = refl
better_rank Buy x y = grind (arith, ints)

rank_less : (x y : ℤ) → int_cmp x y ≡ Less → (int_lt x y ≡ true) × (int_lt y x ≡ false)
rank_less x y e = let lt = int_ranked x y Less (sym e) in (grind (arith, ints), grind (arith, ints))

rank_same : (x y : ℤ) → int_cmp x y ≡ Equal → int_lt y x ≡ false
rank_same x y e = let same : x ≡ y = exact_signed x y e in grind (arith, ints)

beats_is : (x w : BookOrder) → x.side ≡ w.side → beats x w ≡ int_lt (rank_of x.side x.price) (rank_of w.side w.price)
beats_is x w d = better_rank x.side x.price w.price ∙ ap (λ s. int_lt (rank_of x.side x.price) (rank_of s w.price)) d

goes_by : (a : ℕ) (w : BookOrder) (b : ℕ) (x : BookOrder) → w.side ≡ x.side
    → (int_cmp (rank_of w.side w.price) (rank_of x.side x.price) ≡ Less) ⊎ ((int_cmp (rank_of w.side w.price) (rank_of x.side x.price) ≡ Equal) × (nat_cmp a b ≡ Less))
    → Goes a w b x
goes_by a w b x d (inl less) =
    let r = rank_less (rank_of w.side w.price) (rank_of x.side x.price) less in
    record { not_beaten = beats_is x w (sym d) ∙ r.1; beats_earlier = λ _. beats_is w x d ∙ r.0 }
goes_by a w b x d (inr same) =
    let r = rank_same (rank_of w.side w.price) (rank_of x.side x.price) same.0 in
    let lt : a < b = ranked a b Less (sym same.1) in
    record { not_beaten = beats_is x w (sym d) ∙ r; beats_earlier = λ earlier. let e : b < a = earlier in absurd (omega (arith, e, lt)) }

pub place_goes : (a : ℕ) (w : BookOrder) (b : ℕ) (x : BookOrder) → w.symbol ≡ x.symbol → w.side ≡ x.side → place_cmp (place_of a w) (place_of b x) ≡ Less → Goes a w b x
place_goes a w b x s d e = goes_by a w b x d (in_queue (place_of a w) (place_of b x) s d e)

-- ---- which places are met

within : (c1 c2 l h : Ordering) → is_le (ordering_then c1 (ordering_then c2 l)) ≡ true → is_lt (ordering_then c1 (ordering_then c2 h)) ≡ false → (c1 ≡ Equal) × (c2 ≡ Equal) × (is_lt h ≡ false)
within Less c2 l h p q = absurd cc
within Greater c2 l h p q = absurd cc
within Equal Less l h p q = absurd cc
within Equal Greater l h p q = absurd cc
within Equal Equal l h p q = (refl, refl, q)

not_less : (a b : Ordering) → is_lt (ordering_then a b) ≡ false → is_lt a ≡ false
not_less Less b e = e
not_less Equal b e = refl
not_less Greater b e = refl

not_false : (t : Bool) → not t ≡ true → t ≡ false
not_false true e = absurd cc
not_false false e = refl

-- an order of this symbol, side and price may be met
record MayMeet (o : BookOrder) (p : Place) : Type 0 where
  symbol : p.symbol ≡ o.symbol
  side : p.side ≡ other o.side
  rank : int_lt (rank_of (other o.side) o.price) p.rank ≡ false

lt_of_cmp : (x y : ℤ) → is_lt (int_cmp x y) ≡ false → int_lt x y ≡ false
lt_of_cmp x y e = by_test (int_lt x y) e
  where
    by_test : (t : Bool) → is_lt (cond t Less (cond (int_lt y x) Greater Equal)) ≡ false → t ≡ false
    by_test true e = absurd cc
    by_test false e = refl

cmp_of_lt : (x y : ℤ) → int_lt x y ≡ false → (int_cmp x y ≡ Greater) ⊎ (int_cmp x y ≡ Equal)
cmp_of_lt x y e = by_tests (int_lt x y) (int_lt y x) e
  where
    by_tests : (t u : Bool) → t ≡ false → (cond t Less (cond u Greater Equal) ≡ Greater) ⊎ (cond t Less (cond u Greater Equal) ≡ Equal)
    by_tests true u e = absurd cc
    by_tests false true e = inl refl
    by_tests false false e = inr refl

may_meet : (o : BookOrder) (p : Place) → is_met o p ≡ true → MayMeet o p
may_meet o p e =
    let from = first_so (is_le (place_cmp (front_of o) p)) (not (is_lt (place_cmp (end_of o) p))) e in
    let upto = not_false (is_lt (place_cmp (end_of o) p)) (second_so (is_le (place_cmp (front_of o) p)) (not (is_lt (place_cmp (end_of o) p))) e) in
    let w = within (texts (front_of o) p) (sides (front_of o) p) (ordering_then (ranks (front_of o) p) (turns (front_of o) p))
    (ordering_then (ranks (end_of o) p) (turns (end_of o) p)) from upto in
    record {
      symbol = sym (same_symbol o.symbol p.symbol (exact_bytes o.symbol.text p.symbol.text w.0));
      side = sym (side_exact (other o.side) p.side w.1);
      rank = lt_of_cmp (rank_of (other o.side) o.price) p.rank (not_less (ranks (end_of o) p) (turns (end_of o) p) w.2);
    }

le_first : (a b : Ordering) → (a ≡ Less) ⊎ ((a ≡ Equal) × (is_le b ≡ true)) → is_le (ordering_then a b) ≡ true
le_first a b (inl e) = ap (λ c. is_le (ordering_then c b)) e
le_first a b (inr e) = ap (λ c. is_le (ordering_then c b)) e.0 ∙ e.1

not_past : (a b : Ordering) → (a ≡ Greater) ⊎ (a ≡ Equal) → is_lt b ≡ false → is_lt (ordering_then a b) ≡ false
not_past a b (inl e) f = ap (λ c. is_lt (ordering_then c b)) e
not_past a b (inr e) f = ap (λ c. is_lt (ordering_then c b)) e ∙ f

least : (z : ℤ) → negsuc (2 ^ 63 - 1) ≤ℤ z → (int_cmp (negsuc (2 ^ 63 - 1)) z ≡ Less) ⊎ (int_cmp (negsuc (2 ^ 63 - 1)) z ≡ Equal)
least z h = by_tests (int_lt (negsuc (2 ^ 63 - 1)) z) (int_lt z (negsuc (2 ^ 63 - 1))) (grind (arith, ints))
  where
    by_tests : (t u : Bool) → u ≡ false → (cond t Less (cond u Greater Equal) ≡ Less) ⊎ (cond t Less (cond u Greater Equal) ≡ Equal)
    by_tests true u e = inl refl
    by_tests false true e = absurd cc
    by_tests false false e = inr refl

arrival_from : (a : ℕ) → is_le (nat_cmp 0 a) ≡ true
arrival_from a = grind arith

arrival_upto : (a : ℕ) → a < 2 ^ 64 → is_lt (nat_cmp (2 ^ 64 - 1) a) ≡ false
arrival_upto a h = grind arith

le_start : (a b : Ordering) → (a ≡ Less) ⊎ (a ≡ Equal) → is_le b ≡ true → is_le (ordering_then a b) ≡ true
le_start a b (inl e) f = le_first a b (inl e)
le_start a b (inr e) f = le_first a b (inr (e, f))

gt_start : (a b : Ordering) → (a ≡ Less) ⊎ (a ≡ Equal) → is_gt b ≡ false → is_gt (ordering_then a b) ≡ false
gt_start a b (inl e) f = ap (λ c. is_gt (ordering_then c b)) e
gt_start a b (inr e) f = ap (λ c. is_gt (ordering_then c b)) e ∙ f

pub forward : (o : BookOrder) → negsuc (2 ^ 63 - 1) ≤ℤ rank_of (other o.side) o.price → is_gt (place_cmp (front_of o) (end_of o)) ≡ false
forward o low =
    ap (λ c. is_gt (ordering_then c (ordering_then (sides (front_of o) (end_of o)) (ordering_then (ranks (front_of o) (end_of o)) (turns (front_of o) (end_of o)))))) (texts_self o.symbol.text)
    ∙ (ap (λ c. is_gt (ordering_then c (ordering_then (ranks (front_of o) (end_of o)) (turns (front_of o) (end_of o))))) (side_self (other o.side))
    ∙ gt_start (ranks (front_of o) (end_of o)) (turns (front_of o) (end_of o)) (least (rank_of (other o.side) o.price) low) refl)

both_true : (s t : Bool) → s ≡ true → t ≡ false → (s && not t) ≡ true
both_true s t p q = λ i. p i && not (q i)

met_there : (o : BookOrder) (p : Place) → MayMeet o p → negsuc (2 ^ 63 - 1) ≤ℤ p.rank → p.arrival < 2 ^ 64 → is_met o p ≡ true
met_there o p m low few =
    let t : slice_cmp nat_cmp o.symbol.text p.symbol.text ≡ Equal = ap (λ (y : Symbol). slice_cmp nat_cmp o.symbol.text y.text) m.symbol ∙ texts_self o.symbol.text in
    let d : side_cmp (other o.side) p.side ≡ Equal = ap (λ y. side_cmp (other o.side) y) m.side ∙ side_self (other o.side) in
    let from : is_le (place_cmp (front_of o) p) ≡ true =
    ap (λ c. is_le (ordering_then c (ordering_then (sides (front_of o) p) (ordering_then (ranks (front_of o) p) (turns (front_of o) p))))) t
    ∙ (ap (λ c. is_le (ordering_then c (ordering_then (ranks (front_of o) p) (turns (front_of o) p)))) d
    ∙ le_start (ranks (front_of o) p) (turns (front_of o) p) (least p.rank low) (arrival_from p.arrival)) in
    let upto : is_lt (place_cmp (end_of o) p) ≡ false =
    ap (λ c. is_lt (ordering_then c (ordering_then (sides (end_of o) p) (ordering_then (ranks (end_of o) p) (turns (end_of o) p))))) t
    ∙ (ap (λ c. is_lt (ordering_then c (ordering_then (ranks (end_of o) p) (turns (end_of o) p)))) d
    ∙ not_past (ranks (end_of o) p) (turns (end_of o) p) (cmp_of_lt (rank_of (other o.side) o.price) p.rank m.rank) (arrival_upto p.arrival few)) in
    both_true (is_le (place_cmp (front_of o) p)) (is_lt (place_cmp (end_of o) p)) from upto

-- ---- to be met, by an order and by its place

opposite_is : (a b : Side) → is_opposite a b ≡ true → b ≡ other a
opposite_is Buy Buy e = absurd cc
opposite_is Buy Sell e = refl
opposite_is Sell Buy e = refl
opposite_is Sell Sell e = absurd cc

opposite_other : (a : Side) → is_opposite a (other a) ≡ true
opposite_other Buy = refl
opposite_other Sell = refl

crosses_rank : (side : Side) (own price : ℤ) → crosses (Some side) own price ≡ not (int_lt (rank_of (other side) own) (rank_of (other side) price))
crosses_rank Buy own price = grind (arith, ints)
crosses_rank Sell own price = grind (arith, ints)

pub symbol_of : (a b : Symbol) → is_same a b ≡ true → a ≡ b
symbol_of a b e = same_symbol a b (exact_bytes a.text b.text ((Equal-is (slice_cmp nat_cmp a.text b.text)).0 (sym (texts_ties a.text b.text) ∙ e)))

pub symbol_same : (a b : Symbol) → a ≡ b → is_same a b ≡ true
symbol_same a b e =
    texts_ties a.text b.text
    ∙ (Equal-is (slice_cmp nat_cmp a.text b.text)).1 (ap (λ (y : Symbol). slice_cmp nat_cmp a.text y.text) (sym e) ∙ texts_self a.text)

not_true_is : (t : Bool) → not t ≡ true → t ≡ false
not_true_is true e = absurd cc
not_true_is false e = refl

meets_place : (o r : BookOrder) (a : ℕ) → meets o r ≡ true → MayMeet o (place_of a r)
meets_place o r a e =
    let one = first_so (is_opposite o.side r.side) (is_same o.symbol r.symbol && crosses (Some o.side) o.price r.price) e in
    let rest = second_so (is_opposite o.side r.side) (is_same o.symbol r.symbol && crosses (Some o.side) o.price r.price) e in
    let two = first_so (is_same o.symbol r.symbol) (crosses (Some o.side) o.price r.price) rest in
    let three = second_so (is_same o.symbol r.symbol) (crosses (Some o.side) o.price r.price) rest in
    let d : r.side ≡ other o.side = opposite_is o.side r.side one in
    record {
      symbol = sym (symbol_of o.symbol r.symbol two);
      side = d;
      rank = ap (λ s. int_lt (rank_of (other o.side) o.price) (rank_of s r.price)) d
          ∙ not_true_is (int_lt (rank_of (other o.side) o.price) (rank_of (other o.side) r.price)) (sym (crosses_rank o.side o.price r.price) ∙ three);
    }

place_meets : (o r : BookOrder) (a : ℕ) → MayMeet o (place_of a r) → meets o r ≡ true
place_meets o r a m =
    let d : is_opposite o.side r.side ≡ true = ap (λ s. is_opposite o.side s) m.side ∙ opposite_other o.side in
    let s : is_same o.symbol r.symbol ≡ true = symbol_same o.symbol r.symbol (sym m.symbol) in
    let k : int_lt (rank_of (other o.side) o.price) (rank_of (other o.side) r.price) ≡ false =
    ap (λ s. int_lt (rank_of (other o.side) o.price) (rank_of s r.price)) (sym m.side) ∙ m.rank in
    let c : crosses (Some o.side) o.price r.price ≡ true = crosses_rank o.side o.price r.price ∙ ap not k in
    λ i. d i && (s i && c i)

-- ---- lists of places

abbrev pub Among : List Place → Place → Type 0
Among [] p = ⊥
Among (q ∷ qs) p = (p ≡ q) ⊎ Among qs p

abbrev pub Rising : List Place → Type 0
Rising [] = Unit {0}
Rising (p ∷ ps) = ((q : Place) → Among ps q → place_cmp p q ≡ Less) × Rising ps

below_all : (p : Place) (ps : List Place) → AllByRecursion (λ q. place_cmp p q ≡ Less) ps → (q : Place) → Among ps q → place_cmp p q ≡ Less
below_all p [] all q h = absurd h
below_all p (x ∷ xs) all q (inl h) = ap (λ y. place_cmp p y) h ∙ all.0
below_all p (x ∷ xs) all q (inr h) = below_all p xs all.1 q h

pub rising : (ps : List Place) → IsStrictlySortedBy place_cmp ps → Rising ps
rising [] s = tt
rising (p ∷ ps) s = (below_all p ps (sorted_head place_cmp p ps s), rising ps (sorted_tail place_cmp p ps s))

among_step : (t : Place → Bool) (p : Place) (ps : List Place) (q : Place) (b : Bool) → t p ≡ b → (Among (filter t ps) q → Among ps q × (t q ≡ true))
    → Among (cond b (p ∷ filter t ps) (filter t ps)) q → Among (p ∷ ps) q × (t q ≡ true)
among_step t p ps q true e ih (inl h) = (inl h, ap t h ∙ e)
among_step t p ps q true e ih (inr h) = let k = ih h in (inr k.0, k.1)
among_step t p ps q false e ih h = let k = ih h in (inr k.0, k.1)

pub among_filter : (t : Place → Bool) (ps : List Place) (q : Place) → Among (filter t ps) q → Among ps q × (t q ≡ true)
among_filter t [] q h = absurd h
among_filter t (p ∷ ps) q h = among_step t p ps q (t p) refl (among_filter t ps q) h

kept_step : (t : Place → Bool) (p : Place) (ps : List Place) (q : Place) (b : Bool) → t p ≡ b → t q ≡ true → (Among ps q → Among (filter t ps) q)
    → Among (p ∷ ps) q → Among (cond b (p ∷ filter t ps) (filter t ps)) q
kept_step t p ps q true e y ih (inl h) = inl h
kept_step t p ps q true e y ih (inr h) = inr (ih h)
kept_step t p ps q false e y ih (inl h) = absurd (both (t p) (ap t (sym h) ∙ y) e)
kept_step t p ps q false e y ih (inr h) = ih h

pub filter_among : (t : Place → Bool) (ps : List Place) (q : Place) → t q ≡ true → Among ps q → Among (filter t ps) q
filter_among t [] q y h = absurd h
filter_among t (p ∷ ps) q y h = kept_step t p ps q (t p) refl y (filter_among t ps q y) h

rising_step : (t : Place → Bool) (p : Place) (ps : List Place) (b : Bool) → Rising (p ∷ ps) → Rising (filter t ps) → Rising (cond b (p ∷ filter t ps) (filter t ps))
rising_step t p ps true up ih = (λ q h. up.0 q (among_filter t ps q h).0, ih)
rising_step t p ps false up ih = ih

pub rising_filter : (t : Place → Bool) (ps : List Place) → Rising ps → Rising (filter t ps)
rising_filter t [] up = tt
rising_filter t (p ∷ ps) up = rising_step t p ps (t p) up (rising_filter t ps up.1)

or_cases : (s t : Bool) → (s || t) ≡ true → (s ≡ true) ⊎ (t ≡ true)
or_cases true t e = inl refl
or_cases false t e = inr e

or_first : (s t : Bool) → s ≡ true → (s || t) ≡ true
or_first true t e = refl
or_first false t e = absurd cc

or_second : (s t : Bool) → t ≡ true → (s || t) ≡ true
or_second true t e = refl
or_second false t e = e

abbrev taken : List Place → Place → Bool
taken ps q = list_any (is_at (place_cmp q)) ps

taken_step : (p : Place) (ps : List Place) (q : Place) → (taken ps q ≡ true → Among ps q) → (is_eq (place_cmp q p) ≡ true) ⊎ (taken ps q ≡ true) → Among (p ∷ ps) q
taken_step p ps q ih (inl h) = inl (place_exact q p ((Equal-is (place_cmp q p)).0 h))
taken_step p ps q ih (inr h) = inr (ih h)

pub among_taken : (ps : List Place) (q : Place) → taken ps q ≡ true → Among ps q
among_taken [] q e = absurd (both (taken [] q) e refl)
among_taken (p ∷ ps) q e = taken_step p ps q (λ h. among_taken ps q h) (or_cases (is_eq (place_cmp q p)) (taken ps q) e)

pub taken_among : (ps : List Place) (q : Place) → Among ps q → taken ps q ≡ true
taken_among [] q h = absurd h
taken_among (p ∷ ps) q (inl h) = or_first (is_eq (place_cmp q p)) (taken ps q) ((Equal-is (place_cmp q p)).1 (ap (λ y. place_cmp q y) (sym h) ∙ place_self q))
taken_among (p ∷ ps) q (inr h) = or_second (is_eq (place_cmp q p)) (taken ps q) (taken_among ps q h)

-- ---- the orders at places

-- an order that is met stands at one of the places, under its number
record Stands (order_at : ℕ → Option BookOrder) (ps : List Place) (a : ℕ) (r : BookOrder) : Type 0 where
  place : Place
  among : Among ps place
  number : place.arrival ≡ a
  order : order_at a ≡ Some r

under_cases : (a : ℕ) (found : Option BookOrder) (ws : List (ℕ × BookOrder)) (b : ℕ) (x : BookOrder) → Has (under a found ++ ws) b x → ((b ≡ a) × (found ≡ Some x)) ⊎ Has ws b x
under_cases a None ws b x h = inr h
under_cases a (Some r) ws b x (inl h) = inl (h.0, ap Some (sym h.1))
under_cases a (Some r) ws b x (inr h) = inr h

stands_first : (order_at : ℕ → Option BookOrder) (p : Place) (ps : List Place) (a : ℕ) (r : BookOrder)
    → ((a ≡ p.arrival) × (order_at p.arrival ≡ Some r)) ⊎ Stands order_at ps a r → Stands order_at (p ∷ ps) a r
stands_first order_at p ps a r (inl h) = record { place = p; among = inl refl; number = sym h.0; order = ap order_at h.0 ∙ h.1 }
stands_first order_at p ps a r (inr h) = record { place = h.place; among = inr h.among; number = h.number; order = h.order }

right : {A B C : Type 0} → (B → C) → A ⊎ B → A ⊎ C
right f (inl a) = inl a
right f (inr b) = inr (f b)

stands : (order_at : ℕ → Option BookOrder) (ps : List Place) (a : ℕ) (r : BookOrder) → Has (met order_at ps) a r → Stands order_at ps a r
stands order_at [] a r h = absurd h
stands order_at (p ∷ ps) a r h =
    stands_first order_at p ps a r (right (stands order_at ps a r) (under_cases p.arrival (order_at p.arrival) (met order_at ps) a r h))

under_here : (a : ℕ) (found : Option BookOrder) (ws : List (ℕ × BookOrder)) (r : BookOrder) → found ≡ Some r → Has (under a found ++ ws) a r
under_here a None ws r e = cc
under_here a (Some x) ws r e = inl (refl, let k : Some x ≡ Some r = e in cc)

under_later : (a : ℕ) (found : Option BookOrder) (ws : List (ℕ × BookOrder)) (b : ℕ) (x : BookOrder) → Has ws b x → Has (under a found ++ ws) b x
under_later a None ws b x h = h
under_later a (Some r) ws b x h = inr h

met_has : (order_at : ℕ → Option BookOrder) (ps : List Place) (p : Place) (r : BookOrder) → Among ps p → order_at p.arrival ≡ Some r → Has (met order_at ps) p.arrival r
met_has order_at [] p r h e = absurd h
met_has order_at (q ∷ qs) p r (inl h) e =
    subst (λ (z : Place). order_at z.arrival ≡ Some r → Has (met order_at (q ∷ qs)) z.arrival r) (sym h)
    (λ k. under_here q.arrival (order_at q.arrival) (met order_at qs) r k) e
met_has order_at (q ∷ qs) p r (inr h) e = under_later q.arrival (order_at q.arrival) (met order_at qs) p.arrival r (met_has order_at qs p r h e)

-- ---- those that are met, in turn

-- which places a list has: those that are taken and are met
record Covers (order_at : ℕ → Option BookOrder) (o : BookOrder) (ps : List Place) : Type 0 where
  ascend : Rising ps
  placed : (p : Place) → Among ps p → option_map (place_of p.arrival) (order_at p.arrival) ≡ Some p
  met : (p : Place) → Among ps p → MayMeet o p

place_of_order : (order_at : ℕ → Option BookOrder) (p : Place) (r : BookOrder) → option_map (place_of p.arrival) (order_at p.arrival) ≡ Some p → order_at p.arrival ≡ Some r → place_of p.arrival r ≡ p
place_of_order order_at p r h is = let e : Some (place_of p.arrival r) ≡ Some p = sym (ap (λ z. option_map (place_of p.arrival) z) is) ∙ h in cc

stands_place : (order_at : ℕ → Option BookOrder) (ps : List Place) (a : ℕ) (r : BookOrder) → ((p : Place) → Among ps p → option_map (place_of p.arrival) (order_at p.arrival) ≡ Some p)
    → (s : Stands order_at ps a r) → place_of a r ≡ s.place
stands_place order_at ps a r placed s =
    ap (λ z. place_of z r) (sym s.number) ∙ place_of_order order_at s.place r (placed s.place s.among) (ap order_at s.number ∙ s.order)

covers_later : (order_at : ℕ → Option BookOrder) (o : BookOrder) (p : Place) (ps : List Place) → Covers order_at o (p ∷ ps) → Covers order_at o ps
covers_later order_at o p ps c = record { ascend = c.ascend.1; placed = λ q h. c.placed q (inr h); met = λ q h. c.met q (inr h) }

-- the order at the first place goes before those behind it
goes_ahead : (order_at : ℕ → Option BookOrder) (o : BookOrder) (p : Place) (ps : List Place) (w : BookOrder) → Covers order_at o (p ∷ ps) → order_at p.arrival ≡ Some w
    → (b : ℕ) (x : BookOrder) → Has (met order_at ps) b x → Goes p.arrival w b x × (b ≡ p.arrival → ⊥)
goes_ahead order_at o p ps w c is b x h =
    let s = stands order_at ps b x h in
    let first : place_of p.arrival w ≡ p = place_of_order order_at p w (c.placed p (inl refl)) is in
    let second : place_of b x ≡ s.place = stands_place order_at ps b x (λ q k. c.placed q (inr k)) s in
    let less : place_cmp p s.place ≡ Less = c.ascend.0 s.place s.among in
    let before : place_cmp (place_of p.arrival w) (place_of b x) ≡ Less = (λ i. place_cmp (first i) (second i)) ∙ less in
    let one = c.met p (inl refl) in
    let two = c.met s.place (inr s.among) in
    let symbol : w.symbol ≡ x.symbol = ap (λ (z : Place). z.symbol) first ∙ (one.symbol ∙ (sym two.symbol ∙ sym (ap (λ (z : Place). z.symbol) second))) in
    let side : w.side ≡ x.side = ap (λ (z : Place). z.side) first ∙ (one.side ∙ (sym two.side ∙ sym (ap (λ (z : Place). z.side) second))) in (
      place_goes p.arrival w b x symbol side before,
      λ same. let at : order_at p.arrival ≡ Some x = ap order_at (sym same) ∙ s.order in
          let e : Some w ≡ Some x = sym is ∙ at in
          let z : w ≡ x = cc in
          let k : place_of p.arrival w ≡ place_of b x = (λ i. place_of (sym same i) (z i)) in
          let l : Equal ≡ Less = sym (place_self (place_of p.arrival w)) ∙ (ap (λ y. place_cmp (place_of p.arrival w) y) k ∙ before) in
          cc,
    )

turns_step : (a : ℕ) (found : Option BookOrder) (ws : List (ℕ × BookOrder)) → ((w : BookOrder) → found ≡ Some w → (b : ℕ) (x : BookOrder) → Has ws b x → Goes a w b x × (b ≡ a → ⊥)) → InTurn ws
    → InTurn (under a found ++ ws)
turns_step a None ws goes t = t
turns_step a (Some w) ws goes t = (goes w refl, t)

in_turn : (order_at : ℕ → Option BookOrder) (o : BookOrder) (ps : List Place) → Covers order_at o ps → InTurn (met order_at ps)
in_turn order_at o [] c = tt
in_turn order_at o (p ∷ ps) c =
    turns_step p.arrival (order_at p.arrival) (met order_at ps) (λ w is b x h. goes_ahead order_at o p ps w c is b x h) (in_turn order_at o ps (covers_later order_at o p ps c))

pub queued_met : (o : BookOrder) (es : List (ℕ × BookOrder)) (ps : List Place) (arrival_of : ℕ → Option ℕ) (next : ℕ) → Ascending es → Finds (look es) arrival_of (taken ps) next
    → IsStrictlySortedBy place_cmp ps → Queued o es (met (look es) (filter (is_met o) ps))
queued_met o es ps arrival_of next up f s =
    let covers : Covers (look es) o (filter (is_met o) ps) = record {
      ascend = rising_filter (is_met o) ps (rising ps s);
      placed = λ p h. f.placed p (taken_among ps p (among_filter (is_met o) ps p h).0);
      met = λ p h. may_meet o p (among_filter (is_met o) ps p h).1;
    } in
    record {
      sound = λ a r h. let st = stands (look es) (filter (is_met o) ps) a r h in
          let at : place_of a r ≡ st.place = stands_place (look es) (filter (is_met o) ps) a r covers.placed st in
          (has_from_look es a r st.order, place_meets o r a (subst (λ z. MayMeet o z) (sym at) (covers.met st.place st.among)));
      whole = λ a r h m. let at : look es a ≡ Some r = look_from_has es a r up h in
          let few : a < 2 ^ 64 = (let lt : a < next = f.earlier a r at in omega (arith, lt, f.few)) in
          met_has (look es) (filter (is_met o) ps) (place_of a r) r
          (filter_among (is_met o) ps (place_of a r) (met_there o (place_of a r) (meets_place o r a m) (f.ranked a r at) few) (among_taken ps (place_of a r) (f.places a r at))) at;
      turns = in_turn (look es) o (filter (is_met o) ps) covers;
    }
