-- Laws of what lines say.
use Rattle.std.proofs.Common.{◌≡◌, ℕ, suc, ◌+◌, ◌*◌, ◌<◌, ◌≤◌, ◌^◌, ◌⊎◌, inl, inr, List, ◌∷◌, ◌++◌, length, ap, sym, subst, ◌∙◌, length-append, decimal, arith}
use Rattle.std.proofs.lemmas.Fmt.{length-decimal-le}
use Rattle.hex.specs.Hex.{decode_of}
use Rattle.hex.proofs.HexLemmas.{decode_of-ok, decode_of-same}
use Rattle.text_words.proofs.Decimals.{no_end, same_halves, one_number}
use Rattle.fixp_msgs.specs.Payload.{IsApplication}
use Rattle.sofh_frame.specs.Framing.{encoding_of}
use Rattle.std.specs.Int.{w16, to_be_bytes}
use Rattle.plan_text.specs.Plans.{Gift, Gives}
use Rattle.plan_feed.specs.declared.wrong.Wrong.{Wrong}
use Rattle.plan_feed.specs.declared.wrong.Wrong.TheVariants.{NoSenders, Form, Sender, Digits, Size, Encoding, Session}
use Rattle.plan_feed.specs.Wrongs.{GivesLacking}
use Rattle.plan_feed.specs.Laws.{WrongGivesNothing, GiversAreShort}
use Rattle.plan_feed.proofs.Judged.{lacks_nothing}

-- a line begins with one number, and one thing stands behind it
one_front : (line : List ℕ) (n m : ℕ) (xs ys : List ℕ) → n < 2 ^ 64 → m < 2 ^ 64 → line ≡ decimal n ++ 32 ∷ xs → line ≡ decimal m ++ 32 ∷ ys → (n ≡ m) × (xs ≡ ys)
one_front line n m xs ys small other a b =
    let parts = same_halves 32 (decimal n) (decimal m) xs ys (no_end n 32 small (inl (omega arith))) (no_end m 32 other (inl (omega arith))) (sym a ∙ b) in
    (one_number n m small other parts.0, parts.1)

small : (senders sender : ℕ) → senders < 2 ^ 16 → sender ≤ senders → sender < 2 ^ 64
small senders sender few most = omega arith

lacking_gives_nothing : (senders : ℕ) (line : List ℕ) (wrong : Wrong) (g : Gift) → senders < 2 ^ 16 → GivesLacking senders line wrong → Gives senders line g → ⊥
lacking_gives_nothing senders line wrong g few w gives =
    let same = one_front line w.named.sender g.sender w.digits gives.digits (small senders w.named.sender few w.named.most) (small senders g.sender few gives.most) w.named.written gives.written in
    let bytes : w.bytes ≡ g.payload = decode_of-same gives.digits w.bytes g.payload (ap decode_of (sym same.1) ∙ w.spelled) gives.spelled in
    lacks_nothing w.bytes wrong w.lacking (subst IsApplication (sym bytes) gives.application)

pub wrong_gives_nothing : WrongGivesNothing
wrong_gives_nothing senders line NoSenders g few w gives = omega (arith, gives.least, gives.most)
wrong_gives_nothing senders line Form g few w gives = w.1 g.sender (record { size = small senders g.sender few gives.most; behind = gives.digits; written = gives.written })
wrong_gives_nothing senders line (Sender number) g few w gives =
    let same = one_front line number g.sender w.begins.behind gives.digits w.begins.size (small senders g.sender few gives.most) w.begins.written gives.written in
    outside number g.sender senders same.0 gives.least gives.most w.outside
  where
    outside : (n sender senders : ℕ) → n ≡ sender → 1 ≤ sender → sender ≤ senders → (n < 1) ⊎ (senders < n) → ⊥
    outside n sender senders e least most (inl low) = omega arith
    outside n sender senders e least most (inr high) = omega arith
wrong_gives_nothing senders line Digits g few w gives =
    let same = one_front line w.named.sender g.sender w.digits gives.digits (small senders w.named.sender few w.named.most) (small senders g.sender few gives.most) w.named.written gives.written in
    w.none g.payload (ap decode_of same.1 ∙ gives.spelled)
wrong_gives_nothing senders line (Size bytes) g few w gives = lacking_gives_nothing senders line (Size bytes) g few w gives
wrong_gives_nothing senders line (Encoding found) g few w gives = lacking_gives_nothing senders line (Encoding found) g few w gives
wrong_gives_nothing senders line Session g few w gives = lacking_gives_nothing senders line Session g few w gives

pub givers_are_short : GiversAreShort
givers_are_short senders line g few gives =
    let a = gives.application in
    let word : length (decimal g.sender) ≤ 5 = length-decimal-le 5 g.sender (omega arith) (omega (arith, gives.most, few)) (small senders g.sender few gives.most) in
    let digits = decode_of-ok gives.digits g.payload gives.spelled in
    let payload : 2 + length a.frame.message ≡ length g.payload = sym (length-append (to_be_bytes w16 (encoding_of a.frame.order)) a.frame.message) ∙ ap length a.spelled in
    let most : length a.frame.message ≤ 16384 = a.admissible.most in
    let all : length line ≡ length (decimal g.sender) + length (32 ∷ gives.digits) = ap length gives.written ∙ length-append (decimal g.sender) (32 ∷ gives.digits) in
    sized (length line) (length (decimal g.sender)) (length gives.digits) (length g.payload) (length a.frame.message) all word digits.2 payload most
  where
    sized : (line word digits payload message : ℕ) → line ≡ word + suc digits → word ≤ 5 → digits ≡ 2 * payload → 2 + message ≡ payload → message ≤ 16384 → line ≤ 32778
    sized line word digits payload message all few twice parts most = omega arith

-- a line gives one thing at most
pub gives_once : (senders : ℕ) (line : List ℕ) (g h : Gift) → senders < 2 ^ 16 → Gives senders line g → Gives senders line h → g ≡ h
gives_once senders line g h few a b =
    let same = one_front line g.sender h.sender a.digits b.digits (small senders g.sender few a.most) (small senders h.sender few b.most) a.written b.written in
    let payload : g.payload ≡ h.payload = decode_of-same a.digits g.payload h.payload a.spelled (ap decode_of same.1 ∙ b.spelled) in
    ap (λ (s : ℕ). record { sender = s; payload = g.payload }) same.0 ∙ ap (λ (p : List ℕ). record { sender = h.sender; payload = p }) payload
