-- What stands in a text in the strict form stands in it.
use Rattle.std.proofs.Common.{◌≡◌, ◌≢◌, inl, inr, ℕ, zero, suc, ◌+◌, ◌<◌, ◌≤◌, ◌^◌, Bool, true, false, List, [], ◌∷◌, ◌++◌, length, refl, ap, sym, subst, ◌∙◌, append_assoc, append-nil, length-append, arith, decimal}
use Rattle.std.specs.Prelude.{All, Option, Some, None, Result, Ok, Err, codes}
use Rattle.std.proofs.lemmas.Fmt.{decimal_is_IsNumeral_wide}
use Rattle.std.proofs.lemmas.List.Elements.{All-append, All-cons, All-nil, All-head, All-tail}
use Rattle.sbe_value.specs.declared.message.Message.{Message}
use Rattle.sbe_layout.specs.declared.plan.MessagePlan.{MessagePlan}
use Rattle.sbe_layout.specs.declared.plan.Plan.{Plan}
use Rattle.sbe_encode.specs.Faults.{encode_fault}
use Rattle.sbe_text.specs.Read.{Read, next, taken, read_line}
use Rattle.sbe_text.specs.Tokens.{also, behind}
use Rattle.sbe_text.specs.Reading.{layout_on, named, read_body, read_message}
use Rattle.sbe_text.proofs.Texts.{digits_are}
use Rattle.sbe_layout.specs.Plans.{message_of}
use Rattle.jr_record.specs.Records.{IsSender}
use Rattle.text_names.specs.Bare.{bare, unended, unless_last}
use Rattle.text_names.specs.Fronts.{front_of, strict_or_wide}
use Rattle.text_names.proofs.Bytes.{are_plain}
use Rattle.text_names.proofs.Contexts.{digits_plain}
use Rattle.text_names.proofs.Lined.{EndsDark, plain_kept, plain_ends, ends_behind, ended_same}
use Rattle.text_names.proofs.Passing.{behind_is}
use Rattle.plan_lines.specs.Entries.{AreEntries, Begins, BeginsMessage, Ends, Entry, IsBetween, IsOpen, StartsMessage, most_bytes, size_of, passes, names, gives, finishes}
use Rattle.plan_lines.specs.Laws.{AreStrict, BeginsStrict, StrictIsPlanned}
use Rattle.plan_lines.proofs.Fronts.{GoesOn, asks_none, message_steady}
use Rattle.plan_lines.proofs.Texts.{size_append}

-- ---- the line of a sender

digits_stay : (line kept : List ℕ) (d : ℕ) (ds : List ℕ) → kept ≡ (d ∷ ds) ++ [] → line ≡ unended (codes "sender " ++ kept) → are_plain (d ∷ ds) ≡ true → line ≡ codes "sender " ++ d ∷ ds
digits_stay line kept d ds same is h =
    is ∙ ap (λ (bs : List ℕ). unended (codes "sender " ++ bs)) (same ∙ append-nil (d ∷ ds))
    ∙ ended_same (codes "sender " ++ d ∷ ds) (ends_behind (codes "sender ") (d ∷ ds) (plain_ends d ds h))

digits_bare : (d : ℕ) (ds : List ℕ) → are_plain (d ∷ ds) ≡ true → bare (codes "sender " ++ d ∷ ds) ≡ codes "sender " ++ d ∷ ds
digits_bare d ds h =
    ap (λ (bs : List ℕ). bare (codes "sender " ++ bs)) (sym (append-nil (d ∷ ds)))
    ∙ digits_stay (bare (codes "sender " ++ ((d ∷ ds) ++ []))) _ d ds (plain_kept (d ∷ ds) [] h) refl h

sender_bare : (n : ℕ) → n < 2 ^ 64 → bare (codes "sender " ++ decimal n) ≡ codes "sender " ++ decimal n
sender_bare n small =
    let numeral = (decimal_is_IsNumeral_wide n (omega (arith, small))).0 in
    by_digits (decimal n) numeral.0 (digits_plain (decimal n) (digits_are (decimal n) numeral.1))
  where
    by_digits : (ds : List ℕ) → 0 < length ds → are_plain ds ≡ true → bare (codes "sender " ++ ds) ≡ codes "sender " ++ ds
    by_digits [] some h = absurd (omega (arith, some))
    by_digits (d ∷ ds) some h = digits_bare d ds h

-- ---- the first line of a message

stays_last : (zs : List ℕ) → unless_last 109 zs ≡ 109 ∷ zs
stays_last [] = refl
stays_last (z ∷ zs) = refl

-- it begins with the letter m (109)
letter_first : (line zs : List ℕ) → line ≡ unless_last 109 zs → (rest : List ℕ) × (line ≡ 109 ∷ rest)
letter_first line zs e = (zs, e ∙ stays_last zs)

first_letter : (name : List ℕ) → (rest : List ℕ) × (bare (codes "message " ++ name) ≡ 109 ∷ rest)
first_letter name = letter_first (bare (codes "message " ++ name)) _ refl

other_letter : (line rest other : List ℕ) (b : ℕ) → bare line ≡ 109 ∷ rest → bare line ≡ b ∷ other → 109 ≡ b
other_letter line rest other b p q = let both : 109 ∷ rest ≡ b ∷ other = sym p ∙ q in cc

no_between : (line rest : List ℕ) → bare line ≡ 109 ∷ rest → IsBetween line → ⊥
no_between line rest e (inl none) = let both : [] ≡ 109 ∷ rest = sym none ∙ e in cc
no_between line rest e (inr (inl b)) = let f = other_letter line rest _ 115 e b.written in omega (arith, f)
no_between line rest e (inr (inr w)) = let f = other_letter line rest _ 102 e w in omega (arith, f)

module _ (messages : List MessagePlan) where
  named_line : (line : List ℕ) (layout : MessagePlan) (t : Option (List ℕ)) → behind (codes "message ") line ≡ t → also (also t (named messages)) (λ m. message_of m.template messages) ≡ Some layout
      → (name : List ℕ) × (line ≡ codes "message " ++ name)
  named_line line layout None e h = absurd (cc)
  named_line line layout (Some name) e h = (name, behind_is (codes "message ") line name e)

  first_starts : (line : List ℕ) (layout : MessagePlan) → layout_on messages line ≡ Some layout → IsBetween line → ⊥
  first_starts line layout h between =
      let n = named_line line layout (behind (codes "message ") line) refl h in
      let first = first_letter n.0 in
      no_between line first.0 (ap bare n.1 ∙ first.1) between

  first_taken : (line : List ℕ) (ls : List (List ℕ)) (m : Message) (rest : List (List ℕ)) (t : Option MessagePlan) → layout_on messages line ≡ t
      → next (taken (length (line ∷ ls)) t ls) (λ layout behind. read_body layout behind) ≡ Ok (m, rest) → IsBetween line → ⊥
  first_taken line ls m rest None e read = absurd (cc)
  first_taken line ls m rest (Some layout) e read = first_starts line layout e

  starts_message : (lines : List (List ℕ)) (m : Message) (rest : List (List ℕ)) → read_message messages lines ≡ Ok (m, rest) → StartsMessage lines
  starts_message [] m rest read = absurd (cc)
  starts_message (line ∷ ls) m rest read = first_taken line ls m rest (layout_on messages line) refl read

-- the first of more lines
starts_front : (own more : List (List ℕ)) → StartsMessage (own ++ more) → own ≢ [] → StartsMessage own
starts_front [] more starts some = absurd (some refl)
starts_front (line ∷ own) more starts some = starts

-- ---- the lines of a message

same_rest : (r rest : List (List ℕ)) → r ++ rest ≡ rest → r ≡ []
same_rest [] rest e = refl
same_rest (line ∷ r) rest e = let long = ap length e in let more = length-append (line ∷ r) rest in absurd (omega (arith, long, more))

no_end_in : (front first rest : List (List ℕ)) → All GoesOn front → front ≡ first ++ (codes "end" ∷ rest) → ⊥
no_end_in [] [] rest all e = cc
no_end_in [] (y ∷ first) rest all e = cc
no_end_in (x ∷ front) [] rest all e = let same : x ≡ codes "end" = cc in All-head GoesOn x front all same
no_end_in (x ∷ front) (y ∷ first) rest all e = let same : front ≡ first ++ (codes "end" ∷ rest) = cc in no_end_in front first rest (All-tail GoesOn x front all) same

all_front : (front more : List (List ℕ)) → All GoesOn (front ++ more) → All GoesOn front
all_front [] more all = All-nil GoesOn
all_front (line ∷ front) more all = All-cons GoesOn line front (All-head GoesOn line (front ++ more) all) (all_front front more (All-tail GoesOn line (front ++ more) all))

read_pair : (m n : Message) (x y : List (List ℕ)) (t : Read Message) → t ≡ Ok (m, x) → t ≡ Ok (n, y) → ◌≡◌ {A = Message × List (List ℕ)} (m, x) (n, y)
read_pair m n x y t p q = let both = sym p ∙ q in cc

module _ (messages : List MessagePlan) where
  -- lines up to `end` are read alone as they are among more
  read_alone : (front rest : List (List ℕ)) (m : Message) (t : Read Message) → read_message messages (front ++ codes "end" ∷ []) ≡ t
      → read_message messages ((front ++ codes "end" ∷ []) ++ rest) ≡ Ok (m, rest) → t ≡ Ok (m, [])
  read_alone front rest m (Ok read) is e =
      let more = (message_steady messages).fixed.more (front ++ codes "end" ∷ []) rest read.0 read.1 is in
      let pair = read_pair read.0 m (read.1 ++ rest) rest (read_message messages ((front ++ codes "end" ∷ []) ++ rest)) more e in
      let none : read.1 ≡ [] = same_rest read.1 rest (ap (λ (p : Message × List (List ℕ)). p.1) pair) in
      let message : read.0 ≡ m = ap (λ (p : Message × List (List ℕ)). p.0) pair in
      ap (λ (r : List (List ℕ)). Ok (read.0, r)) none ∙ ap (λ (x : Message). Ok (x, [])) message
  read_alone front rest m (Err zero) is e = absurd (asks_none messages front is)
  read_alone front rest m (Err (suc k)) is e =
      let fails = (message_steady messages).fixed.fails (front ++ codes "end" ∷ []) rest (suc k) (omega arith) is in
      let both = sym fails ∙ e in
      cc

  -- and the strict form asks for more behind each line before
  asks_more : (lines front more : List (List ℕ)) (m : Message) (rest : List (List ℕ)) (t : Read Message) → read_message messages front ≡ t → All GoesOn front → lines ≡ front ++ more
      → read_message messages lines ≡ Ok (m, rest) → t ≡ Err 0
  asks_more lines front more m rest (Ok read) is all split e =
      let ends = (message_steady messages).ends front read.0 read.1 is in
      absurd (no_end_in front ends.front read.1 all ends.split)
  asks_more lines front more m rest (Err zero) is all split e = refl
  asks_more lines front more m rest (Err (suc k)) is all split e =
      let fails = (message_steady messages).fixed.fails front more (suc k) (omega arith) is in
      let both = sym fails ∙ ap (read_message messages) (sym split) ∙ e in
      cc

message_planned : (plan : Plan) (lines : List (List ℕ)) (m : Message) (rest : List (List ℕ)) → read_message plan.messages lines ≡ Ok (m, rest) → encode_fault plan m ≡ None
    → size_of lines ≤ size_of rest + most_bytes → BeginsMessage plan lines m rest
message_planned plan lines m rest read faultless small =
    let e = (message_steady plan.messages).ends lines m rest read in
    let own = e.front ++ codes "end" ∷ [] in
    let split : lines ≡ own ++ rest = e.split ∙ sym (append_assoc e.front (codes "end" ∷ []) rest) in
    let strict : read_message plan.messages own ≡ Ok (m, []) =
    read_alone plan.messages e.front rest m (read_message plan.messages own) refl (ap (read_message plan.messages) (sym split) ∙ read) in
    let all = ap size_of split in
    let sizes = size_append own rest in
    record {
      own = own;
      split = split;
      whole = record {
        front = e.front;
        last = codes "end";
        split = refl;
        starts = starts_front own rest (subst StartsMessage split (starts_message plan.messages lines m rest read)) (λ none. some e.front none);
        is_open = λ a b l s ends. ends.whole (asked e.front e.each e.split a b l s);
        ends = record { says = refl; whole = asks_none plan.messages e.front };
      };
      read = ap (strict_or_wide plan own) strict;
      faultless = faultless;
      within = omega (arith, small, all, sizes);
    }
  where
    some : (front : List (List ℕ)) → front ++ codes "end" ∷ [] ≡ [] → ⊥
    some front none = let long = ap length none in let more = length-append front (codes "end" ∷ []) in omega (arith, long, more)

    asked : (front : List (List ℕ)) → All GoesOn front → lines ≡ front ++ ((codes "end" ∷ []) ++ rest) → (a b : List (List ℕ)) (l : List ℕ) → front ≡ a ++ l ∷ b
        → read_message plan.messages (a ++ l ∷ []) ≡ Err 0
    asked front each split a b l s =
        let joined : front ≡ (a ++ l ∷ []) ++ b = s ∙ sym (append_assoc a (l ∷ []) b) in
        let all : All GoesOn (a ++ l ∷ []) = all_front (a ++ l ∷ []) b (subst (All GoesOn) joined each) in
        asks_more plan.messages lines (a ++ l ∷ []) (b ++ ((codes "end" ∷ []) ++ rest)) m rest (read_message plan.messages (a ++ l ∷ [])) refl all
        (split ∙ ap (λ (ls : List (List ℕ)). ls ++ ((codes "end" ∷ []) ++ rest)) joined ∙ append_assoc (a ++ l ∷ []) b ((codes "end" ∷ []) ++ rest)) read

-- ---- entries

begins_planned : (plan : Plan) (lines : List (List ℕ)) (entry : Entry) (rest : List (List ℕ)) → BeginsStrict plan lines entry rest → Begins plan lines entry rest
begins_planned plan lines passes rest b = absurd b
begins_planned plan lines (names sender) rest b =
    let is = b.0 in
    (codes "sender " ++ decimal sender, b.1, record { is = b.0; written = sender_bare sender (omega (arith, is)) })
begins_planned plan lines (gives message) rest b = message_planned plan lines message rest b.0 b.1.0 b.1.1
begins_planned plan lines finishes rest b = (codes "finish", b, refl)

pub strict_is_planned : StrictIsPlanned
strict_is_planned plan lines [] behind e = e
strict_is_planned plan lines (entry ∷ entries) behind e =
    record { rest = e.0; begins = begins_planned plan lines entry e.0 e.1; behind = strict_is_planned plan e.0 entries behind e.2 }
