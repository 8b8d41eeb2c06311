-- The lines of messages behind a text.
use Rattle.std.proofs.Common.{◌≡◌, inl, inr, ℕ, zero, suc, ◌+◌, ◌/◌, ◌%◌, ◌<◌, List, [], ◌∷◌, ◌++◌, length, slice_index, refl, ap, sym}
use Rattle.std.proofs.Common.{◌∙◌, append_assoc, append-nil, codes, decimal, arith}
use Rattle.std.specs.Prelude.{All, Bool, true, false, nat_le, nat_lt, ◌==◌, ◌&&◌, if◌then◌else◌}
use Rattle.std.proofs.lemmas.Bool.{and_parts, leb-true}
use Rattle.std.specs.Fmt.{digit_glyph, digits_onto, digits}
use Rattle.std.proofs.lemmas.List.Elements.{All-nil, All-cons, All-head, All-tail, All-append}
use Rattle.hex.specs.Hex.{IsBytes, encode_with, encode_lower, lower_digits}
use Rattle.session_model.specs.Inbox.{Numbered}
use Rattle.gw_lines.specs.Lines.{IsFeedless, with_feeds}
use Rattle.gw_lines.proofs.Steps.{none_feedless, feedless_append}
use Rattle.conn_lines.specs.Lines.{deliver_line}
use Rattle.conn_out.specs.Messages.{deliver_lines}
use Rattle.conn_out.specs.Projections.{TellOf, Tells, Projects}
use Rattle.conn_out.specs.Laws.{IsMessage, LinesTellOn}
use Rattle.conn_out.proofs.Fronts.{nothing_more}

-- ---- no line feed stands within a line

pub one_feedless : (b : ℕ) → 10 < b → IsFeedless (b ∷ [])
one_feedless b l zero k e = omega (arith, l, e)
one_feedless b l (suc i) k e = omega (arith, k)

feedless_cons : (b : ℕ) (bs : List ℕ) → 10 < b → IsFeedless bs → IsFeedless (b ∷ bs)
feedless_cons b bs l h = feedless_append (b ∷ []) bs (one_feedless b l) h

-- nor in a number, digit by digit from the last
either_feedless : (b : Bool) (xs ys : List ℕ) → IsFeedless xs → IsFeedless ys → IsFeedless (if b then xs else ys)
either_feedless true xs ys h k = h
either_feedless false xs ys h k = k

glyph_above : (b : Bool) (d : ℕ) → 10 < (if b then 48 + d else 87 + d)
glyph_above true d = omega arith
glyph_above false d = omega arith

digits_feedless : (k n : ℕ) (behind : List ℕ) → IsFeedless behind → IsFeedless (digits_onto k 10 false n behind)
digits_feedless zero n behind h = h
digits_feedless (suc k) n behind h =
    let on : IsFeedless (digit_glyph false (n % 10) ∷ behind) = feedless_cons (digit_glyph false (n % 10)) behind (glyph_above (nat_lt (n % 10) 10) (n % 10)) h in
    either_feedless (n / 10 == 0) (digit_glyph false (n % 10) ∷ behind) (digits_onto k 10 false (n / 10) (digit_glyph false (n % 10) ∷ behind)) on
    (digits_feedless k (n / 10) (digit_glyph false (n % 10) ∷ behind) on)

pub decimal_feedless : (n : ℕ) → IsFeedless (decimal n)
unfolding digits
decimal_feedless n = digits_feedless 64 n [] none_feedless

-- each byte is greater than a line feed, which computes
abbrev pub above : List ℕ → Bool
above [] = true
above (b ∷ bs) = nat_le 11 b && above bs

at_above : (bytes : List ℕ) → above bytes ≡ true → (k : ℕ) → k < length bytes → 10 < slice_index bytes k
at_above [] h k l = absurd (omega (arith, l))
at_above (b ∷ bs) h zero l = let least = leb-true 11 b (and_parts (nat_le 11 b) (above bs) h).0 in omega (arith, least)
at_above (b ∷ bs) h (suc k) l = at_above bs (and_parts (nat_le 11 b) (above bs) h).1 k (omega (arith, l))

pub feedless_above : (bytes : List ℕ) → above bytes ≡ true → IsFeedless bytes
feedless_above bytes h k l e = let more = at_above bytes h k l in omega (arith, more, e)

digit : (d : ℕ) → d < 16 → 10 < slice_index lower_digits d
digit d l = at_above lower_digits refl d l

hex_feedless : (bytes : List ℕ) → IsBytes bytes → IsFeedless (encode_with lower_digits bytes)
unfolding encode_with
hex_feedless [] each = none_feedless
hex_feedless (b ∷ bs) each =
    let small : b < 256 = each 0 in
    feedless_cons (slice_index lower_digits (b / 16)) (slice_index lower_digits (b % 16) ∷ encode_with lower_digits bs) (digit (b / 16) (omega (arith, small)))
    (feedless_cons (slice_index lower_digits (b % 16)) (encode_with lower_digits bs) (digit (b % 16) (omega arith)) (hex_feedless bs (λ i. each (suc i))))

-- a line of a message, without its line feed
abbrev line_of : Numbered → List ℕ
line_of m = codes "deliver " ++ decimal m.number ++ codes " " ++ encode_lower m.payload

line_feedless : (m : Numbered) → IsMessage m → IsFeedless (line_of m)
line_feedless m h =
    feedless_append (codes "deliver " ++ decimal m.number ++ codes " ") (encode_lower m.payload)
    (feedless_append (codes "deliver " ++ decimal m.number) (codes " ") (feedless_append (codes "deliver ") (decimal m.number)
    (feedless_above (codes "deliver ") refl) (decimal_feedless m.number)) (one_feedless 32 (omega arith)))
    (hex_feedless m.payload h.each)

abbrev lines_of : List Numbered → List (List ℕ)
lines_of [] = []
lines_of (m ∷ ms) = line_of m ∷ lines_of ms

each_feedless : (ms : List Numbered) → All IsMessage ms → All IsFeedless (lines_of ms)
each_feedless [] all = All-nil IsFeedless
each_feedless (m ∷ ms) all = All-cons IsFeedless (line_of m) (lines_of ms) (line_feedless m (All-head IsMessage m ms all))
    (each_feedless ms (All-tail IsMessage m ms all))

-- a line and its line feed
ended : (m : Numbered) → line_of m ++ 10 ∷ [] ≡ deliver_line m.number m.payload
ended m = refl

all_lines : (ms : List Numbered) → deliver_lines ms ≡ with_feeds (lines_of ms) []
all_lines [] = refl
all_lines (m ∷ ms) =
    ap (λ (bs : List ℕ). deliver_line m.number m.payload ++ bs) (all_lines ms) ∙ append_assoc (line_of m) (10 ∷ []) (with_feeds (lines_of ms) [])

-- ---- what they tell

all_told : (ms : List Numbered) → TellOf (lines_of ms) ms
all_told [] = tt
all_told (m ∷ ms) = inr (ended m, all_told ms)

told_on : (lines more : List (List ℕ)) (ms ns : List Numbered) → TellOf lines ms → TellOf more ns → TellOf (lines ++ more) (ms ++ ns)
told_on [] more [] ns t u = u
told_on [] more (m ∷ ms) ns t u = absurd t
told_on (line ∷ lines) more [] ns t u = nothing_more line (lines ++ more) ns t.0 (told_on lines more [] ns t.1 u)
told_on (line ∷ lines) more (m ∷ ms) ns (inl t) u = inl (t.0, told_on lines more (m ∷ ms) ns t.1 u)
told_on (line ∷ lines) more (m ∷ ms) ns (inr t) u = inr (t.0, told_on lines more ms ns t.1 u)

joined : (lines more : List (List ℕ)) → with_feeds lines [] ++ with_feeds more [] ≡ with_feeds (lines ++ more) []
joined [] more = refl
joined (line ∷ lines) more = append_assoc line (10 ∷ with_feeds lines []) (with_feeds more []) ∙ ap (λ (bs : List ℕ). line ++ 10 ∷ bs) (joined lines more)

pub lines_tell_on : LinesTellOn
lines_tell_on text ms more t all = record {
  lines = t.lines ++ lines_of more;
  each = All-append IsFeedless t.lines (lines_of more) t.each (each_feedless more all);
  bytes = ap (λ (bs : List ℕ). bs ++ deliver_lines more) t.bytes ∙ ap (λ (bs : List ℕ). with_feeds t.lines [] ++ bs) (all_lines more)
      ∙ joined t.lines (lines_of more);
  told = told_on t.lines (lines_of more) ms more t.told (all_told more);
}

-- two texts that tell of messages tell of all of them
pub tells_on : (text more : List ℕ) (ms ns : List Numbered) → Tells text ms → Tells more ns → Tells (text ++ more) (ms ++ ns)
tells_on text more ms ns t u = record {
  lines = t.lines ++ u.lines;
  each = All-append IsFeedless t.lines u.lines t.each u.each;
  bytes = ap (λ (bs : List ℕ). bs ++ more) t.bytes ∙ ap (λ (bs : List ℕ). with_feeds t.lines [] ++ bs) u.bytes ∙ joined t.lines u.lines;
  told = told_on t.lines u.lines ms ns t.told u.told;
}

pub no_line : Tells [] []
no_line = record { lines = []; each = All-nil IsFeedless; bytes = refl; told = tt }

-- the lines of messages, and no more, project them
pub lines_project : (ms : List Numbered) → All IsMessage ms → Projects (deliver_lines ms) ms
lines_project ms all = record {
  text = deliver_lines ms;
  rest = [];
  bytes = sym (append-nil (deliver_lines ms));
  feedless = none_feedless;
  tells = lines_tell_on [] [] ms no_line all;
}
