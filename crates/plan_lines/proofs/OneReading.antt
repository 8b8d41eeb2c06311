-- A text has one reading.
use Rattle.std.proofs.Common.{◌≡◌, inl, inr, ℕ, ◌<◌, ◌^◌, List, [], ◌∷◌, ◌++◌, length, refl, ap, sym, subst, ◌∙◌, append_assoc, length-append, arith, decimal}
use Rattle.std.specs.Prelude.{Ok, Some, codes}
use Rattle.std.proofs.lemmas.Fmt.{decimal_injective}
use Rattle.sbe_value.specs.declared.message.Message.{Message}
use Rattle.sbe_layout.specs.declared.plan.Plan.{Plan}
use Rattle.text_names.specs.Bare.{bare}
use Rattle.text_names.specs.Fronts.{Front, front_of}
use Rattle.plan_lines.specs.Entries.{AreEntries, Begins, BeginsMessage, Entry, IsBetween, IsWhole, NamesSender, passes, names, gives, finishes}
use Rattle.plan_lines.specs.Laws.{OneReading}

-- ---- lines

heads : (a b : List ℕ) (xs ys : List (List ℕ)) → a ∷ xs ≡ b ∷ ys → a ≡ b
heads a b xs ys e = cc

tails : (a b : List ℕ) (xs ys : List (List ℕ)) → a ∷ xs ≡ b ∷ ys → xs ≡ ys
tails a b xs ys e = cc

-- the lines of a message are some
whole_begins : (plan : Plan) (own rest behind : List (List ℕ)) (line : List ℕ) → IsWhole plan own → own ++ rest ≡ line ∷ behind → IsBetween line → ⊥
whole_begins plan [] rest behind line w e between =
    let long = ap length w.split in let more = length-append w.front (w.last ∷ []) in absurd (omega (arith, long, more))
whole_begins plan (here ∷ own) rest behind line w e between = w.starts (subst IsBetween (sym (heads here line (own ++ rest) behind e)) between)

-- a line that stands for itself begins no message
no_message : (plan : Plan) (lines rest behind : List (List ℕ)) (line : List ℕ) (message : Message) → BeginsMessage plan lines message rest → lines ≡ line ∷ behind → IsBetween line → ⊥
no_message plan lines rest behind line message m split between = whole_begins plan m.own rest behind line m.whole (sym m.split ∙ split) between

-- ---- a line is of one kind

other_byte : (a b : ℕ) (xs ys line : List ℕ) → line ≡ a ∷ xs → line ≡ b ∷ ys → a ≡ b
other_byte a b xs ys line p q = let both : a ∷ xs ≡ b ∷ ys = sym p ∙ q in cc

some_byte : (a : ℕ) (xs line : List ℕ) → line ≡ [] → line ≡ a ∷ xs → ⊥
some_byte a xs line p q = let both : [] ≡ a ∷ xs = sym p ∙ q in cc

not_both : (digits line : List ℕ) → line ≡ codes "sender " ++ digits → line ≡ codes "finish" → ⊥
not_both digits line sender finish =
    let first = other_byte 115 102 (101 ∷ 110 ∷ 100 ∷ 101 ∷ 114 ∷ 32 ∷ digits) (105 ∷ 110 ∷ 105 ∷ 115 ∷ 104 ∷ []) line sender finish in
    omega (arith, first)

-- the first line of the same lines
same_line : (P : List ℕ → Type 0) (lines x y : List (List ℕ)) (line other : List ℕ) → lines ≡ line ∷ x → lines ≡ other ∷ y → P (bare other) → P (bare line)
same_line P lines x y line other p q h = subst (λ (l : List ℕ). P (bare l)) (sym (heads line other x y (sym p ∙ q))) h

-- ---- the lines of one message

data Meets (f g : List (List ℕ)) (a b : List ℕ) (x y : List (List ℕ)) : Type 0 where
  at_once : f ≡ g → a ≡ b → x ≡ y → Meets f g a b x y
  earlier : (c : List (List ℕ)) → g ≡ f ++ a ∷ c → Meets f g a b x y
  later : (c : List (List ℕ)) → f ≡ g ++ b ∷ c → Meets f g a b x y

meets : (f g : List (List ℕ)) (a b : List ℕ) (x y : List (List ℕ)) → f ++ a ∷ x ≡ g ++ b ∷ y → Meets f g a b x y
meets [] [] a b x y e = at_once refl (heads a b x y e) (tails a b x y e)
meets [] (h ∷ g) a b x y e = earlier g (ap (λ (z : List ℕ). z ∷ g) (sym (heads a h x (g ++ b ∷ y) e)))
meets (h ∷ f) [] a b x y e = later f (ap (λ (z : List ℕ). z ∷ f) (heads h b (f ++ a ∷ x) y e))
meets (h ∷ f) (k ∷ g) a b x y e =
    let first : h ≡ k = heads h k (f ++ a ∷ x) (g ++ b ∷ y) e in
    elim (meets f g a b x y (tails h k (f ++ a ∷ x) (g ++ b ∷ y) e)) as (λ _. Meets (h ∷ f) (k ∷ g) a b x y) [
      | at_once s t r ↦ at_once (ap (λ (z : List ℕ). z ∷ f) first ∙ ap (λ (zs : List (List ℕ)). k ∷ zs) s) t r
      | earlier c s ↦ earlier c (ap (λ (z : List ℕ). z ∷ g) (sym first) ∙ ap (λ (zs : List (List ℕ)). h ∷ zs) s)
      | later c s ↦ later c (ap (λ (z : List ℕ). z ∷ f) first ∙ ap (λ (zs : List (List ℕ)). k ∷ zs) s)
    ]

-- two that begin the same lines are the same, and so are the lines behind them
record SameOwn (own other x y : List (List ℕ)) : Type 0 where
  same : own ≡ other
  rest : x ≡ y

same_own : (plan : Plan) (own other x y : List (List ℕ)) → IsWhole plan own → IsWhole plan other → own ++ x ≡ other ++ y → SameOwn own other x y
same_own plan own other x y v w e =
    elim (meets v.front w.front v.last w.last x y together) as (λ _. SameOwn own other x y) [
      | at_once s t r ↦ record { same = v.split ∙ ap (λ (ls : List (List ℕ)). ls ++ v.last ∷ []) s ∙ ap (λ (l : List ℕ). w.front ++ l ∷ []) t ∙ sym w.split; rest = r }
      | earlier c s ↦ absurd (w.is_open v.front c v.last s v.ends)
      | later c s ↦ absurd (v.is_open w.front c w.last s w.ends)
    ]
  where
    together : v.front ++ v.last ∷ x ≡ w.front ++ w.last ∷ y
    together = sym (append_assoc v.front (v.last ∷ []) x) ∙ ap (λ (ls : List (List ℕ)). ls ++ x) (sym v.split) ∙ e ∙ ap (λ (ls : List (List ℕ)). ls ++ y) w.split ∙ append_assoc w.front (w.last ∷ []) y

-- ---- one entry, and the lines behind it

record Same (a b : Entry) (x y : List (List ℕ)) : Type 0 where
  entry : a ≡ b
  rest : x ≡ y

same_digits : (digits other line : List ℕ) → line ≡ codes "sender " ++ digits → line ≡ codes "sender " ++ other → digits ≡ other
same_digits digits other line p q = let both = sym p ∙ q in cc

same_sender : (a b : ℕ) (line other : List ℕ) (x y lines : List (List ℕ)) → lines ≡ line ∷ x → NamesSender line a → lines ≡ other ∷ y → NamesSender other b → Same (names a) (names b) x y
same_sender a b line other x y lines p n q m =
    let both : line ∷ x ≡ other ∷ y = sym p ∙ q in
    let same : line ≡ other = heads line other x y both in
    let digits = same_digits (decimal a) (decimal b) (bare line) n.written (ap bare same ∙ m.written) in
    let is = n.is in
    let other_is = m.is in
    record { entry = ap names (decimal_injective a b (omega arith) (omega arith) digits); rest = tails line other x y both }

pub same_pair : (m n : Message) (x y : List (List ℕ)) (r : Front) → r ≡ Ok (Some (m, x)) → r ≡ Ok (Some (n, y)) → ◌≡◌ {A = Message × List (List ℕ)} (m, x) (n, y)
same_pair m n x y r p q = let both = sym p ∙ q in cc

same_read : (m n : Message) (r : Front) → r ≡ Ok (Some (m, [])) → r ≡ Ok (Some (n, [])) → m ≡ n
same_read m n r p q = ap (λ (p : Message × List (List ℕ)). p.0) (same_pair m n [] [] r p q)

same_message : (plan : Plan) (lines : List (List ℕ)) (m n : Message) (x y : List (List ℕ)) → BeginsMessage plan lines m x → BeginsMessage plan lines n y → Same (gives m) (gives n) x y
same_message plan lines m n x y p q =
    let s = same_own plan p.own q.own x y p.whole q.whole (sym p.split ∙ q.split) in
    record { entry = ap gives (same_read m n (front_of plan p.own) p.read (ap (front_of plan) s.same ∙ q.read)); rest = s.rest }

begun_by : (line digits : List ℕ) → bare line ≡ codes "sender " ++ digits → IsBetween line
begun_by line digits written = inr (inl (record { behind = digits; written = written }))

same_begin : (plan : Plan) (lines : List (List ℕ)) (a b : Entry) (x y : List (List ℕ)) → Begins plan lines a x → Begins plan lines b y → Same a b x y
same_begin plan lines passes passes x y p q = record { entry = refl; rest = tails p.0 q.0 x y (sym p.1 ∙ q.1) }
same_begin plan lines passes (names t) x y p q =
    absurd (some_byte 115 _ (bare p.0) p.2 (same_line (λ (l : List ℕ). l ≡ codes "sender " ++ decimal t) lines x y p.0 q.0 p.1 q.1 q.2.written))
same_begin plan lines passes (gives n) x y p q = absurd (no_message plan lines y x p.0 n q p.1 (inl p.2))
same_begin plan lines passes finishes x y p q = absurd (some_byte 102 _ (bare p.0) p.2 (same_line (λ (l : List ℕ). l ≡ codes "finish") lines x y p.0 q.0 p.1 q.1 q.2))
same_begin plan lines (names s) passes x y p q =
    absurd (some_byte 115 _ (bare q.0) q.2 (same_line (λ (l : List ℕ). l ≡ codes "sender " ++ decimal s) lines y x q.0 p.0 q.1 p.1 p.2.written))
same_begin plan lines (names s) (names t) x y p q = same_sender s t p.0 q.0 x y lines p.1 p.2 q.1 q.2
same_begin plan lines (names s) (gives n) x y p q = absurd (no_message plan lines y x p.0 n q p.1 (begun_by p.0 (decimal s) p.2.written))
same_begin plan lines (names s) finishes x y p q =
    absurd (not_both (decimal s) (bare p.0) p.2.written (same_line (λ (l : List ℕ). l ≡ codes "finish") lines x y p.0 q.0 p.1 q.1 q.2))
same_begin plan lines (gives m) passes x y p q = absurd (no_message plan lines x y q.0 m p q.1 (inl q.2))
same_begin plan lines (gives m) (names t) x y p q = absurd (no_message plan lines x y q.0 m p q.1 (begun_by q.0 (decimal t) q.2.written))
same_begin plan lines (gives m) (gives n) x y p q = same_message plan lines m n x y p q
same_begin plan lines (gives m) finishes x y p q = absurd (no_message plan lines x y q.0 m p q.1 (inr (inr q.2)))
same_begin plan lines finishes passes x y p q = absurd (some_byte 102 _ (bare q.0) q.2 (same_line (λ (l : List ℕ). l ≡ codes "finish") lines y x q.0 p.0 q.1 p.1 p.2))
same_begin plan lines finishes (names t) x y p q =
    absurd (not_both (decimal t) (bare q.0) q.2.written (same_line (λ (l : List ℕ). l ≡ codes "finish") lines y x q.0 p.0 q.1 p.1 p.2))
same_begin plan lines finishes (gives n) x y p q = absurd (no_message plan lines y x p.0 n q p.1 (inr (inr p.2)))
same_begin plan lines finishes finishes x y p q = record { entry = refl; rest = tails p.0 q.0 x y (sym p.1 ∙ q.1) }

no_lines : (line : List ℕ) (rest lines : List (List ℕ)) → lines ≡ [] → lines ≡ line ∷ rest → ⊥
no_lines line rest lines none some = let both : [] ≡ line ∷ rest = sym none ∙ some in cc

none_begins : (plan : Plan) (lines : List (List ℕ)) (entry : Entry) (rest : List (List ℕ)) → lines ≡ [] → Begins plan lines entry rest → ⊥
none_begins plan lines passes rest none b = no_lines b.0 rest lines none b.1
none_begins plan lines (names s) rest none b = no_lines b.0 rest lines none b.1
none_begins plan lines (gives m) rest none b =
    let long = ap length (sym none ∙ b.split ∙ ap (λ (ls : List (List ℕ)). ls ++ rest) b.whole.split) in
    let more = length-append (b.whole.front ++ b.whole.last ∷ []) rest in
    let own = length-append b.whole.front (b.whole.last ∷ []) in
    omega (arith, long, more, own)
none_begins plan lines finishes rest none b = no_lines b.0 rest lines none b.1

pub one_reading : OneReading
one_reading plan lines [] [] a b = refl
one_reading plan lines [] (y ∷ ys) none b = absurd (none_begins plan lines y b.rest none b.begins)
one_reading plan lines (x ∷ xs) [] a none = absurd (none_begins plan lines x a.rest none a.begins)
one_reading plan lines (x ∷ xs) (y ∷ ys) a b =
    let same = same_begin plan lines x y a.rest b.rest a.begins b.begins in
    let behind = one_reading plan a.rest xs ys a.behind (subst (λ (ls : List (List ℕ)). AreEntries plan ls ys []) (sym same.rest) b.behind) in
    let first = same.entry in
    cc
