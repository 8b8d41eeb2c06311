-- A file of lines that is gone on with behind the last message of which it tells.
use Rattle.std.proofs.Common.{◌≡◌, inl, inr, ⊎_elim, ℕ, zero, suc, ◌+◌, ◌-◌, ◌<◌, ◌≤◌, List, [], ◌∷◌, ◌++◌, length, take, drop, slice_get}
use Rattle.std.proofs.Common.{refl, sym, ap, subst, ◌∙◌, append-nil, append_assoc, codes, decimal, arith}
use Rattle.std.specs.Prelude.{All, Option, Some, None, MatchOption, IsSomeAnd, Result, Ok, Err, OnErr}
use Rattle.std.specs.Io.KnownBytes.{Appends}
use Rattle.gw_outside.specs.Faults.{TakesFront}
use Rattle.std.proofs.lemmas.List.{append_cancel_left, append_cancel_right}
use Rattle.std.proofs.lemmas.List.Elements.{All-nil, All-cons, All-head, All-tail}
use Rattle.hex.specs.Hex.{encode_lower}
use Rattle.text_words.proofs.Decimals.{no_end, same_halves, one_number}
use Rattle.session_model.specs.Inbox.{Numbered}
use Rattle.jr_dated.specs.Dated.{Dated}
use Rattle.gw_lines.specs.Lines.{with_feeds}
use Rattle.gw_lines.proofs.Steps.{more_behind, none_feedless}
use Rattle.conn_tail.specs.Tails.{IsDeliver, TellsNothing, IsLastDeliver, HasTail}
use Rattle.conn_out.specs.declared.fault.OutFault.{OutFault}
use Rattle.conn_out.specs.Messages.{messages_of, messages_in, deliver_lines, EndsUpTo, IsPlaceBehind}
use Rattle.conn_out.specs.Projections.{IsOf, TellOf, Tells, Projects, ProjectsOn, number_of}
use Rattle.conn_out.specs.Laws.{IsMessage, AreMessages, AreRising, FrontTells, LastIsTold, last_number}
use Rattle.conn_out.proofs.Splits.{one_split}
use Rattle.conn_out.proofs.Fronts.{fronts_project}
use Rattle.conn_out.proofs.Lines.{lines_tell_on, lines_project, tells_on}

-- ---- one number of a line

front : (line : List ℕ) (number : ℕ) → (h : IsDeliver line number) → line ≡ codes "deliver " ++ (decimal number ++ 32 ∷ encode_lower h.payload)
front line number h =
    append_cancel_right line (codes "deliver " ++ decimal number ++ codes " " ++ encode_lower h.payload) (10 ∷ []) h.written
    ∙ append_assoc (codes "deliver " ++ decimal number) (codes " ") (encode_lower h.payload)
    ∙ append_assoc (codes "deliver ") (decimal number) (codes " " ++ encode_lower h.payload)

same_of : (line : List ℕ) (n m : ℕ) → IsDeliver line n → IsDeliver line m → n ≡ m
same_of line n m a b =
    let rests : decimal n ++ 32 ∷ encode_lower a.payload ≡ decimal m ++ 32 ∷ encode_lower b.payload =
    append_cancel_left (codes "deliver ") (decimal n ++ 32 ∷ encode_lower a.payload) (decimal m ++ 32 ∷ encode_lower b.payload)
    (sym (front line n a) ∙ front line m b) in
    let parts = same_halves 32 (decimal n) (decimal m) (encode_lower a.payload) (encode_lower b.payload) (no_end n 32 a.size (inl (omega arith)))
    (no_end m 32 b.size (inl (omega arith))) rests in
    one_number n m a.size b.size parts.0

is_deliver : (line : List ℕ) (m : Numbered) → IsMessage m → IsOf line m → IsDeliver line m.number
is_deliver line m h is = record { size = h.size; payload = m.payload; short = h.short; each = h.each; written = is }

-- ---- the last message of which lines tell

none_told : (lines : List (List ℕ)) (ms : List Numbered) → All TellsNothing lines → AreMessages ms → TellOf lines ms → ms ≡ []
none_told [] [] none are t = refl
none_told [] (m ∷ ms) none are t = absurd t
none_told (line ∷ lines) [] none are t = refl
none_told (line ∷ lines) (m ∷ ms) none are (inl t) = none_told lines (m ∷ ms) (All-tail TellsNothing line lines none) are t.1
none_told (line ∷ lines) (m ∷ ms) none are (inr t) = absurd (All-head TellsNothing line lines none m.number
    (is_deliver line m (All-head IsMessage m ms are) t.0))

-- some messages end with one of this number
record EndsWith (ms : List Numbered) (number : ℕ) : Type 0 where
  before : List Numbered
  last : Numbered
  are : ms ≡ before ++ last ∷ []
  is : last.number ≡ number

one_before : (m : Numbered) (ms : List Numbered) (number : ℕ) → EndsWith ms number → EndsWith (m ∷ ms) number
one_before m ms number e = record { before = m ∷ e.before; last = e.last; are = ap (λ (xs : List Numbered). m ∷ xs) e.are; is = e.is }

last_told : (before : List (List ℕ)) (line : List ℕ) (behind : List (List ℕ)) (ms : List Numbered) (number : ℕ) → IsDeliver line number
    → All TellsNothing behind → AreMessages ms
    → TellOf (before ++ line ∷ behind) ms → EndsWith ms number
last_told [] line behind [] number tells none are t = absurd (t.0 number tells)
last_told [] line behind (m ∷ ms) number tells none are (inl t) = absurd (t.0 number tells)
last_told [] line behind (m ∷ ms) number tells none are (inr t) = record {
  before = [];
  last = m;
  are = ap (λ (xs : List Numbered). m ∷ xs) (none_told behind ms none (All-tail IsMessage m ms are) t.1);
  is = same_of line m.number number (is_deliver line m (All-head IsMessage m ms are) t.0) tells;
}
last_told (b ∷ bs) line behind [] number tells none are t = last_told bs line behind [] number tells none are t.1
last_told (b ∷ bs) line behind (m ∷ ms) number tells none are (inl t) = last_told bs line behind (m ∷ ms) number tells none are t.1
last_told (b ∷ bs) line behind (m ∷ ms) number tells none are (inr t) = one_before m ms number
    (last_told bs line behind ms number tells none (All-tail IsMessage m ms are) t.1)

-- ---- numbers that rise

abbrev UpTo : ℕ → List Numbered → Type 0
UpTo last ms = All (λ (m : Numbered). m.number ≤ last) ms

abbrev Past : ℕ → List Numbered → Type 0
Past last ms = All (λ (m : Numbered). last < m.number) ms

at_least : (n : ℕ) (xs : List Numbered) (m : Numbered) (ys : List Numbered) → AreRising n (xs ++ m ∷ ys) → n ≤ m.number
at_least n [] m ys r = r.0
at_least n (x ∷ xs) m ys r = let l = at_least (x.number + 1) xs m ys r.1 in omega (arith, l, r.0)

up_to_last : (n : ℕ) (xs : List Numbered) (m : Numbered) (ys : List Numbered) → AreRising n (xs ++ m ∷ ys) → UpTo m.number (xs ++ m ∷ [])
up_to_last n [] m ys r = All-cons (λ (x : Numbered). x.number ≤ m.number) m [] (omega arith) (All-nil (λ (x : Numbered). x.number ≤ m.number))
up_to_last n (x ∷ xs) m ys r =
    let l = at_least (x.number + 1) xs m ys r.1 in
    All-cons (λ (x : Numbered). x.number ≤ m.number) x (xs ++ m ∷ []) (omega (arith, l)) (up_to_last (x.number + 1) xs m ys r.1)

rising_from : (n k : ℕ) (ys : List Numbered) → k < n → AreRising n ys → Past k ys
rising_from n k [] l r = All-nil (λ (y : Numbered). k < y.number)
rising_from n k (y ∷ ys) l r = All-cons (λ (y : Numbered). k < y.number) y ys (omega (arith, l, r.0))
    (rising_from (y.number + 1) k ys (omega (arith, l, r.0)) r.1)

past_last : (n : ℕ) (xs : List Numbered) (m : Numbered) (ys : List Numbered) → AreRising n (xs ++ m ∷ ys) → Past m.number ys
past_last n [] m ys r = rising_from (m.number + 1) m.number ys (omega arith) r.1
past_last n (x ∷ xs) m ys r = past_last (x.number + 1) xs m ys r.1

up_to_more : (k last : ℕ) (ms : List Numbered) → k ≤ last → UpTo k ms → UpTo last ms
up_to_more k last [] l u = All-nil (λ (m : Numbered). m.number ≤ last)
up_to_more k last (m ∷ ms) l u =
    let one : m.number ≤ k = All-head (λ (m : Numbered). m.number ≤ k) m ms u in
    All-cons (λ (m : Numbered). m.number ≤ last) m ms (omega (arith, l, one)) (up_to_more k last ms l (All-tail (λ (m : Numbered). m.number ≤ k) m ms u))

-- messages up to a number and those past it are parted in one way
one_part : (last : ℕ) (xs ys zs ws : List Numbered) → xs ++ ys ≡ zs ++ ws → UpTo last xs → Past last ys → UpTo last zs → Past last ws → ys ≡ ws
one_part last [] ys [] ws e a b c d = e
one_part last [] [] (z ∷ zs) ws e a b c d = cc e
one_part last [] (y ∷ ys) (z ∷ zs) ws e a b c d =
    let same : y ≡ z = cc e in
    let low : z.number ≤ last = All-head (λ (m : Numbered). m.number ≤ last) z zs c in
    let high : last < y.number = All-head (λ (m : Numbered). last < m.number) y ys b in
    absurd (omega (arith, low, high, ap (λ (m : Numbered). m.number) same))
one_part last (x ∷ xs) ys [] [] e a b c d = cc e
one_part last (x ∷ xs) ys [] (w ∷ ws) e a b c d =
    let same : x ≡ w = cc e in
    let low : x.number ≤ last = All-head (λ (m : Numbered). m.number ≤ last) x xs a in
    let high : last < w.number = All-head (λ (m : Numbered). last < m.number) w ws d in
    absurd (omega (arith, low, high, ap (λ (m : Numbered). m.number) same))
one_part last (x ∷ xs) ys (z ∷ zs) ws e a b c d =
    let rest : xs ++ ys ≡ zs ++ ws = cc e in
    one_part last xs ys zs ws rest (All-tail (λ (m : Numbered). m.number ≤ last) x xs a) b (All-tail (λ (m : Numbered). m.number ≤ last) z zs c) d

-- ---- records

assoc : (xs ys zs : List Numbered) → (xs ++ ys) ++ zs ≡ xs ++ (ys ++ zs)
assoc [] ys zs = refl
assoc (x ∷ xs) ys zs = ap (λ (ms : List Numbered). x ∷ ms) (assoc xs ys zs)

halves : (h : List Dated) (n : ℕ) → messages_in h ≡ messages_in (take n h) ++ messages_in (drop n h)
halves [] zero = refl
halves [] (suc n) = refl
halves (d ∷ h) zero = refl
halves (d ∷ h) (suc n) = ap (λ (ms : List Numbered). messages_of d.what ++ ms) (halves h n)
    ∙ sym (assoc (messages_of d.what) (messages_in (take n h)) (messages_in (drop n h)))

up_to_one : (h : List Dated) (n : ℕ) (d : Dated) → slice_get h n ≡ Some d → messages_in (take (suc n) h) ≡ messages_in (take n h) ++ messages_of d.what
up_to_one [] n d is = absurd (cc)
up_to_one (e ∷ h) zero d is = let same : e ≡ d = cc in ends (messages_of e.what) ∙ ap (λ (x : Dated). messages_of x.what) same
  where
    ends : (ms : List Numbered) → ms ++ [] ≡ ms
    ends [] = refl
    ends (m ∷ ms) = ap (λ (xs : List Numbered). m ∷ xs) (ends ms)
up_to_one (e ∷ h) (suc n) d is = ap (λ (ms : List Numbered). messages_of e.what ++ ms) (up_to_one h n d is)
    ∙ sym (assoc (messages_of e.what) (messages_in (take n h)) (messages_of d.what))

-- all messages before the place have this number at most
before_place : (h : List Dated) (at last : ℕ) → AreRising 1 (messages_in h) → IsPlaceBehind h at last → UpTo last (messages_in (take at h))
before_place h zero last r p = All-nil (λ (m : Numbered). m.number ≤ last)
before_place h (suc n) last r p = ⊎_elim (λ e. absurd (omega (arith, e))) (λ e. by_end e) p.before
  where
    by_end : EndsUpTo h (suc n) last → UpTo last (messages_in (take (suc n) h))
    by_end e =
        let m : Numbered = e.tells.message in
        let front : List Numbered = messages_in (take n h) in
        let back : List Numbered = messages_in (drop (suc n) h) in
        let place : suc n - 1 ≡ n = omega arith in
        let is : messages_in (take (suc n) h) ≡ front ++ m ∷ [] =
        up_to_one h n e.record_before (ap (slice_get h) (sym place) ∙ e.there) ∙ ap (λ (ms : List Numbered). front ++ ms) e.tells.tells in
        let all : messages_in h ≡ front ++ m ∷ back = halves h (suc n) ∙ ap (λ (ms : List Numbered). ms ++ back) is ∙ assoc front (m ∷ []) back in
        subst (UpTo last) (sym is) (up_to_more m.number last (front ++ m ∷ []) e.tells.up_to (up_to_last 1 front m back (subst (AreRising 1) all r)))

-- ---- the file

parted : (ms : List Numbered) (k : ℕ) → take k ms ++ drop k ms ≡ ms
parted ms zero = refl
parted [] (suc k) = refl
parted (m ∷ ms) (suc k) = ap (λ (xs : List Numbered). m ∷ xs) (parted ms k)

are_front : (ms : List Numbered) (k : ℕ) → AreMessages ms → AreMessages (take k ms)
are_front ms zero are = All-nil IsMessage
are_front [] (suc k) are = All-nil IsMessage
are_front (m ∷ ms) (suc k) are = All-cons IsMessage m (take k ms) (All-head IsMessage m ms are) (are_front ms k (All-tail IsMessage m ms are))

are_back : (ms : List Numbered) (k : ℕ) → AreMessages ms → AreMessages (drop k ms)
are_back ms zero are = are
are_back [] (suc k) are = are
are_back (m ∷ ms) (suc k) are = are_back ms k (All-tail IsMessage m ms are)

none_taken : (n : ℕ) → take {A = Numbered} n [] ≡ []
none_taken zero = refl
none_taken (suc n) = refl

take_on : (ms : List Numbered) (k n : ℕ) → take k ms ++ take n (drop k ms) ≡ take (k + n) ms
take_on ms zero n = let e : 0 + n ≡ n = omega arith in ap (λ (i : ℕ). take i ms) (sym e)
take_on [] (suc k) zero = sym (none_taken (suc k + 0))
take_on [] (suc k) (suc n) = sym (none_taken (suc k + suc n))
take_on (m ∷ ms) (suc k) n = let e : suc k + n ≡ suc (k + n) = omega arith in ap (λ (xs : List Numbered). m ∷ xs) (take_on ms k n)
    ∙ ap (λ (i : ℕ). take i (m ∷ ms)) (sym e)

pub any_err : {T : Type 0} (r : Result T OutFault) {B : Type 0} → B → OnErr r B
any_err (Ok x) b = tt
any_err (Err fault) b = b

-- where it holds what it held
pub kept_on : (old new : Option (List ℕ)) (content : List ℕ) (k : ℕ) (ms : List Numbered) → old ≡ Some content → new ≡ old → Projects content (take k ms)
    → IsSomeAnd new (λ text. ProjectsOn text k ms)
kept_on old new content k ms is same p =
    subst (λ (o : Option (List ℕ)). IsSomeAnd o (λ text. ProjectsOn text k ms)) (sym (same ∙ is)) (record { count = k; more = omega arith; projects = p })

-- a content that projects messages, and its end
module _ (content : List ℕ) (whole : ℕ) (last : Option ℕ) (t : HasTail content whole last) (ms : List Numbered) (p : Projects content ms) where
  split : with_feeds t.tells.lines t.rest ≡ with_feeds p.tells.lines p.rest
  split =
      sym (t.bytes ∙ ap (λ (bs : List ℕ). bs ++ t.rest) t.tells.bytes ∙ more_behind t.tells.lines [] t.rest)
      ∙ (p.bytes ∙ ap (λ (bs : List ℕ). bs ++ p.rest) p.tells.bytes ∙ more_behind p.tells.lines [] p.rest)

  lines_are : t.tells.lines ≡ p.tells.lines
  lines_are = (one_split t.tells.lines p.tells.lines t.rest p.rest t.tells.each p.tells.each t.feedless p.feedless split).lines_are

  told : TellOf t.tells.lines ms
  told = subst (λ (ls : List (List ℕ)). TellOf ls ms) (sym lines_are) p.tells.told

  -- its whole lines tell of all of them
  text_tells : Tells t.text ms
  text_tells = record { lines = t.tells.lines; each = t.tells.each; bytes = t.tells.bytes; told = told }

  front_is : take whole content ≡ t.text
  front_is = ap (λ (n : ℕ). take n content) t.size ∙ ap (take (length t.text)) t.bytes ∙ taken t.text t.rest
    where
      taken : (xs ys : List ℕ) → take (length xs) (xs ++ ys) ≡ xs
      taken [] ys = refl
      taken (x ∷ xs) ys = ap (λ (zs : List ℕ). x ∷ zs) (taken xs ys)

  -- the last of which it tells is their last
  none_or_last : (are : AreMessages ms) → MatchOption last (ms ≡ []) (EndsWith ms)
  none_or_last are = by_last last t.tells.told
    where
      by_last : (o : Option ℕ) → MatchOption o (All TellsNothing t.tells.lines) (IsLastDeliver t.tells.lines) → MatchOption o (ms ≡ []) (EndsWith ms)
      by_last None none = none_told t.tells.lines ms none are told
      by_last (Some number) l = last_told l.before l.line l.behind ms number l.tells l.none are (subst (λ (ls : List (List ℕ)). TellOf ls ms) l.split told)

last_behind : (before : List Numbered) (m : Numbered) → last_number (before ++ m ∷ []) ≡ m.number
last_behind [] m = refl
last_behind (b ∷ []) m = refl
last_behind (b ∷ c ∷ before) m = last_behind (c ∷ before) m

pub last_is_told : LastIsTold
last_is_told content ms number are p l = l.is ∙ by_last l.last (none_or_last content l.whole l.last l.tail ms p are)
  where
    by_last : (o : Option ℕ) → MatchOption o (ms ≡ []) (EndsWith ms) → number_of o ≡ last_number ms
    by_last None none = sym (ap last_number none)
    by_last (Some n) e = sym (ap last_number e.are ∙ last_behind e.before e.last ∙ e.is)

-- the first of the messages of an inbox, and an end that was cut off
module _ (content : List ℕ) (whole : ℕ) (last : Option ℕ) (t : HasTail content whole last) (k : ℕ) (ms : List Numbered) (p : Projects content (take k ms)) where
  pub cut_on : (old new : Option (List ℕ)) → old ≡ Some (take whole content) → new ≡ old → IsSomeAnd new (λ text. ProjectsOn text k ms)
  cut_on old new is same = kept_on old new (take whole content) k ms is same (record {
    text = t.text;
    rest = [];
    bytes = front_is content whole last t (take k ms) p ∙ sym (append-nil t.text);
    feedless = none_feedless;
    tells = text_tells content whole last t (take k ms) p;
  })

module _ (content : List ℕ) (whole : ℕ) (last : Option ℕ) (t : HasTail content whole last) (h : List Dated) (k at : ℕ) (rising : AreRising 1 (messages_in h))
    (are : AreMessages (messages_in h))
    (p : Projects content (take k (messages_in h))) (place : IsPlaceBehind h at (number_of last)) where
  abbrev ms : List Numbered
  ms = messages_in h

  -- what the file tells of are the messages up to the last one
  front_parts : UpTo (number_of last) (take k ms) × Past (number_of last) (drop k ms)
  front_parts = by_last last (none_or_last content whole last t (take k ms) p (are_front ms k are))
    where
      by_last : (o : Option ℕ) → MatchOption o (take k ms ≡ []) (EndsWith (take k ms)) → UpTo (number_of o) (take k ms) × Past (number_of o) (drop k ms)
      by_last None empty =
          let all : drop k ms ≡ ms = ap (λ (xs : List Numbered). xs ++ drop k ms) (sym empty) ∙ parted ms k in (
            subst (UpTo 0) (sym empty) (All-nil (λ (m : Numbered). m.number ≤ 0)),
            subst (Past 0) (sym all) (rising_from 1 0 ms (omega arith) rising),
          )
      by_last (Some number) e =
          let all : ms ≡ e.before ++ e.last ∷ drop k ms = sym (parted ms k) ∙ ap (λ (xs : List Numbered). xs ++ drop k ms) e.are
          ∙ assoc e.before (e.last ∷ []) (drop k ms) in
          let r : AreRising 1 (e.before ++ e.last ∷ drop k ms) = subst (AreRising 1) all rising in (
            subst (λ (n : ℕ). UpTo n (take k ms)) e.is (subst (UpTo e.last.number) (sym e.are) (up_to_last 1 e.before e.last (drop k ms) r)),
            subst (λ (n : ℕ). Past n (drop k ms)) e.is (past_last 1 e.before e.last (drop k ms) r),
          )

  rest_is : drop k ms ≡ messages_in (drop at h)
  rest_is = one_part (number_of last) (take k ms) (drop k ms) (messages_in (take at h)) (messages_in (drop at h))
      (parted ms k ∙ halves h at) front_parts.0 front_parts.1
      (before_place h at (number_of last) rising place) place.none

  text_is : take whole content ≡ t.text
  text_is = front_is content whole last t (take k ms) p

  tells : Tells t.text (take k ms)
  tells = text_tells content whole last t (take k ms) p

  pub told_on : (new : Option (List ℕ)) → Appends (Some (take whole content)) new (deliver_lines (messages_in (drop at h)))
      → IsSomeAnd new (λ text. Tells text ms)
  told_on None a = absurd a
  told_on (Some text) a = subst (λ (xs : List ℕ). Tells xs ms) (sym grown) (subst (Tells (t.text ++ deliver_lines (drop k ms))) (parted ms k)
      (lines_tell_on t.text (take k ms) (drop k ms) tells (are_back ms k are)))
    where
      grown : text ≡ t.text ++ deliver_lines (drop k ms)
      grown = a ∙ ap (λ (bs : List ℕ). bs ++ deliver_lines (messages_in (drop at h))) text_is
          ∙ ap (λ (ns : List Numbered). t.text ++ deliver_lines ns) (sym rest_is)

  -- and where a front of those lines was pushed
  pub begun_on : (new : Option (List ℕ)) → TakesFront (Some (take whole content)) new (deliver_lines (messages_in (drop at h)))
      → IsSomeAnd new (λ text. ProjectsOn text k ms)
  begun_on None f = absurd f.appended
  begun_on (Some text) f = record {
    count = k + c.count;
    more = omega arith;
    projects = record {
      text = t.text ++ c.projects.text;
      rest = c.projects.rest;
      bytes = grown ∙ ap (λ (bs : List ℕ). t.text ++ bs) c.projects.bytes ∙ sym (append_assoc t.text c.projects.text c.projects.rest);
      feedless = c.projects.feedless;
      tells = subst (Tells (t.text ++ c.projects.text)) (take_on ms k c.count) (tells_on t.text c.projects.text (take k ms)
          (take c.count (drop k ms)) tells c.projects.tells);
    };
  }
    where
      c : FrontTells (take f.count (deliver_lines (drop k ms))) (drop k ms)
      c = fronts_project (deliver_lines (drop k ms)) (drop k ms) f.count (lines_project (drop k ms) (are_back ms k are))

      grown : text ≡ t.text ++ take f.count (deliver_lines (drop k ms))
      grown = f.appended ∙ ap (λ (bs : List ℕ). bs ++ take f.count (deliver_lines (messages_in (drop at h)))) text_is
          ∙ ap (λ (ns : List Numbered). t.text ++ take f.count (deliver_lines ns)) (sym rest_is)
