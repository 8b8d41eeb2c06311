-- Entries one behind another, whose their messages are, and the lines of those.
use Rattle.std.proofs.Common.{◌≡◌, ℕ, ◌+◌, ◌-◌, ◌<◌, ◌≤◌, ◌^◌, ◌==◌, min, Bool, true, false, if◌then◌else◌, List, [], ◌∷◌, ◌++◌, length, refl, ap, sym, subst, ◌∙◌, append_assoc, append-nil, length-append, arith}
use Rattle.std.specs.Prelude.{codes}
use Rattle.std.proofs.lemmas.Bool.Decides.{nat_tests}
use Rattle.sbe_value.specs.declared.message.Message.{Message}
use Rattle.sbe_layout.specs.declared.plan.Plan.{Plan}
use Rattle.plan_text.specs.Plans.{Gift, payloads_of_sender}
use Rattle.plan_text.proofs.Gifts.{of_sender_more}
use Rattle.plan_lines.specs.declared.form.Form.{Form}
use Rattle.plan_lines.specs.Entries.{AreEntries, Begins, Entry, passes, names, gives, finishes}
use Rattle.plan_lines.specs.Lines.{first_of, gift_line, gift_of, gifts_from, gifts_of, line_behind, lines_behind, lines_of, number_behind, sender_behind, sender_from}

-- ---- entries

-- lines more behind those of an entry
begins_more : (plan : Plan) (lines : List (List ℕ)) (entry : Entry) (rest more : List (List ℕ)) → Begins plan lines entry rest → Begins plan (lines ++ more) entry (rest ++ more)
begins_more plan lines passes rest more b = (b.0, ap (λ (ls : List (List ℕ)). ls ++ more) b.1, b.2)
begins_more plan lines (names sender) rest more b = (b.0, ap (λ (ls : List (List ℕ)). ls ++ more) b.1, b.2)
begins_more plan lines (gives message) rest more b = record {
  own = b.own;
  split = ap (λ (ls : List (List ℕ)). ls ++ more) b.split ∙ append_assoc b.own rest more;
  whole = b.whole;
  read = b.read;
  faultless = b.faultless;
  within = b.within;
}
begins_more plan lines finishes rest more b = (b.0, ap (λ (ls : List (List ℕ)). ls ++ more) b.1, b.2)

begins_short : (plan : Plan) (lines : List (List ℕ)) (entry : Entry) (rest : List (List ℕ)) → Begins plan lines entry rest → length rest ≤ length lines
begins_short plan lines passes rest b = let long = ap length b.1 in omega (arith, long)
begins_short plan lines (names sender) rest b = let long = ap length b.1 in omega (arith, long)
begins_short plan lines (gives message) rest b = let long = ap length b.split in let more = length-append b.own rest in omega (arith, long, more)
begins_short plan lines finishes rest b = let long = ap length b.1 in omega (arith, long)

-- lines more behind those that are left
pub entries_more : (plan : Plan) (lines : List (List ℕ)) (entries : List Entry) (left more : List (List ℕ)) → AreEntries plan lines entries left → AreEntries plan (lines ++ more) entries (left ++ more)
entries_more plan lines [] left more e = ap (λ (ls : List (List ℕ)). ls ++ more) e
entries_more plan lines (entry ∷ entries) left more b =
    record { rest = b.rest ++ more; begins = begins_more plan lines entry b.rest more b.begins; behind = entries_more plan b.rest entries left more b.behind }

-- the lines that are left are those of an entry more
pub entry_closed : (plan : Plan) (lines : List (List ℕ)) (entries : List Entry) (left : List (List ℕ)) (entry : Entry) → AreEntries plan lines entries left → Begins plan left entry []
    → AreEntries plan lines (entries ++ entry ∷ []) []
entry_closed plan lines [] left entry e begins = record { rest = []; begins = subst (λ (ls : List (List ℕ)). Begins plan ls entry []) (sym e) begins; behind = refl }
entry_closed plan lines (x ∷ entries) left entry b begins = record { rest = b.rest; begins = b.begins; behind = entry_closed plan b.rest entries left entry b.behind begins }

pub left_short : (plan : Plan) (lines : List (List ℕ)) (entries : List Entry) (left : List (List ℕ)) → AreEntries plan lines entries left → length left ≤ length lines
left_short plan lines [] left e = let same = ap length e in omega (arith, same)
left_short plan lines (x ∷ entries) left b =
    let rest = left_short plan b.rest entries left b.behind in let here = begins_short plan lines x b.rest b.begins in omega (arith, rest, here)

-- ---- whose the messages are

pub gifts_passed : (plan : Plan) (sender : ℕ) (entries : List Entry) → gifts_from plan sender (entries ++ passes ∷ []) ≡ gifts_from plan sender entries
gifts_passed plan sender [] = refl
gifts_passed plan sender (passes ∷ entries) = gifts_passed plan sender entries
gifts_passed plan sender (names s ∷ entries) = gifts_passed plan s entries
gifts_passed plan sender (gives m ∷ entries) = ap (λ (gs : List Gift). gift_of plan sender m ∷ gs) (gifts_passed plan sender entries)
gifts_passed plan sender (finishes ∷ entries) = gifts_passed plan sender entries

pub gifts_named : (plan : Plan) (sender other : ℕ) (entries : List Entry) → gifts_from plan sender (entries ++ names other ∷ []) ≡ gifts_from plan sender entries
gifts_named plan sender other [] = refl
gifts_named plan sender other (passes ∷ entries) = gifts_named plan sender other entries
gifts_named plan sender other (names s ∷ entries) = gifts_named plan s other entries
gifts_named plan sender other (gives m ∷ entries) = ap (λ (gs : List Gift). gift_of plan sender m ∷ gs) (gifts_named plan sender other entries)
gifts_named plan sender other (finishes ∷ entries) = gifts_named plan sender other entries

pub gifts_finished : (plan : Plan) (sender : ℕ) (entries : List Entry) → gifts_from plan sender (entries ++ finishes ∷ []) ≡ gifts_from plan sender entries
gifts_finished plan sender [] = refl
gifts_finished plan sender (passes ∷ entries) = gifts_finished plan sender entries
gifts_finished plan sender (names s ∷ entries) = gifts_finished plan s entries
gifts_finished plan sender (gives m ∷ entries) = ap (λ (gs : List Gift). gift_of plan sender m ∷ gs) (gifts_finished plan sender entries)
gifts_finished plan sender (finishes ∷ entries) = gifts_finished plan sender entries

pub gifts_given : (plan : Plan) (sender : ℕ) (message : Message) (entries : List Entry)
    → gifts_from plan sender (entries ++ gives message ∷ []) ≡ gifts_from plan sender entries ++ gift_of plan (sender_from sender entries) message ∷ []
gifts_given plan sender message [] = refl
gifts_given plan sender message (passes ∷ entries) = gifts_given plan sender message entries
gifts_given plan sender message (names s ∷ entries) = gifts_given plan s message entries
gifts_given plan sender message (gives m ∷ entries) = ap (λ (gs : List Gift). gift_of plan sender m ∷ gs) (gifts_given plan sender message entries)
gifts_given plan sender message (finishes ∷ entries) = gifts_given plan sender message entries

pub sender_passed : (sender : ℕ) (entries : List Entry) → sender_from sender (entries ++ passes ∷ []) ≡ sender_from sender entries
sender_passed sender [] = refl
sender_passed sender (passes ∷ entries) = sender_passed sender entries
sender_passed sender (names s ∷ entries) = sender_passed s entries
sender_passed sender (gives m ∷ entries) = sender_passed sender entries
sender_passed sender (finishes ∷ entries) = sender_passed sender entries

pub sender_named : (sender other : ℕ) (entries : List Entry) → sender_from sender (entries ++ names other ∷ []) ≡ other
sender_named sender other [] = refl
sender_named sender other (passes ∷ entries) = sender_named sender other entries
sender_named sender other (names s ∷ entries) = sender_named s other entries
sender_named sender other (gives m ∷ entries) = sender_named sender other entries
sender_named sender other (finishes ∷ entries) = sender_named sender other entries

pub sender_given : (sender : ℕ) (message : Message) (entries : List Entry) → sender_from sender (entries ++ gives message ∷ []) ≡ sender_from sender entries
sender_given sender message [] = refl
sender_given sender message (passes ∷ entries) = sender_given sender message entries
sender_given sender message (names s ∷ entries) = sender_given s message entries
sender_given sender message (gives m ∷ entries) = sender_given sender message entries
sender_given sender message (finishes ∷ entries) = sender_given sender message entries

pub sender_finished : (sender : ℕ) (entries : List Entry) → sender_from sender (entries ++ finishes ∷ []) ≡ sender_from sender entries
sender_finished sender [] = refl
sender_finished sender (passes ∷ entries) = sender_finished sender entries
sender_finished sender (names s ∷ entries) = sender_finished s entries
sender_finished sender (gives m ∷ entries) = sender_finished sender entries
sender_finished sender (finishes ∷ entries) = sender_finished sender entries

-- ---- lines

lines_more : (plan : Plan) (form : Form) (before entries : List Entry) (entry : Entry)
    → lines_behind plan form before (entries ++ entry ∷ []) ≡ lines_behind plan form before entries ++ line_behind plan form (before ++ entries) entry
lines_more plan form before [] entry =
    append-nil (line_behind plan form before entry) ∙ ap (λ (es : List Entry). line_behind plan form es entry) (sym (append-nil before))
lines_more plan form before (x ∷ entries) entry =
    let first = line_behind plan form before x in
    let rest = lines_behind plan form (before ++ x ∷ []) entries in
    ap (λ (bs : List ℕ). first ++ bs) (lines_more plan form (before ++ x ∷ []) entries entry)
    ∙ ap (λ (es : List Entry). first ++ (rest ++ line_behind plan form es entry)) (append_assoc before (x ∷ []) entries)
    ∙ sym (append_assoc first rest (line_behind plan form (before ++ x ∷ entries) entry))

-- a line that says nothing adds none, and so does one that names a sender
pub lines_passed : (plan : Plan) (form : Form) (entries : List Entry) → lines_of plan form (entries ++ passes ∷ []) ≡ lines_of plan form entries
lines_passed plan form entries = lines_more plan form [] entries passes ∙ append-nil (lines_of plan form entries)

pub lines_named : (plan : Plan) (form : Form) (entries : List Entry) (sender : ℕ) → lines_of plan form (entries ++ names sender ∷ []) ≡ lines_of plan form entries
lines_named plan form entries sender = lines_more plan form [] entries (names sender) ∙ append-nil (lines_of plan form entries)

pub lines_finished : (plan : Plan) (form : Form) (entries : List Entry) → lines_of plan form (entries ++ finishes ∷ []) ≡ lines_of plan form entries ++ codes "finish\n"
lines_finished plan form entries = lines_more plan form [] entries finishes

-- the lines of one message more
pub lines_given : (plan : Plan) (form : Form) (entries : List Entry) (message : Message) (sender number : ℕ) → sender ≡ sender_behind entries → number ≡ number_behind form (gifts_of plan entries) sender
    → lines_of plan form (entries ++ gives message ∷ []) ≡ lines_of plan form entries ++ gift_line form number (gift_of plan sender message)
lines_given plan form entries message sender number s n =
    lines_more plan form [] entries (gives message)
    ∙ ap (λ (k : ℕ). lines_of plan form entries ++ gift_line form (number_behind form (gifts_of plan entries) k) (gift_of plan k message)) (sym s)
    ∙ ap (λ (k : ℕ). lines_of plan form entries ++ gift_line form k (gift_of plan sender message)) (sym n)

-- ---- numbers

-- a message more of the sender, or of another
pub number_more : (form : Form) (gifts : List Gift) (g : Gift) (sender : ℕ) → sender ≡ g.sender
    → number_behind form (gifts ++ g ∷ []) sender ≡ min (number_behind form gifts sender + 1) (2 ^ 64 - 1)
number_more form gifts g sender same =
    let its : (g.sender == sender) ≡ true = grind (arith, nat_tests) in
    ap (λ (ps : List (List ℕ)). min (first_of form sender + length ps) (2 ^ 64 - 1)) (of_sender_more sender gifts g ∙ taken its)
    ∙ counted (first_of form sender) (payloads_of_sender sender gifts)
  where
    taken : (g.sender == sender) ≡ true
        → (if g.sender == sender then payloads_of_sender sender gifts ++ g.payload ∷ [] else payloads_of_sender sender gifts) ≡ payloads_of_sender sender gifts ++ g.payload ∷ []
    taken its = rw its refl

    counted : (first : ℕ) (ps : List (List ℕ)) → min (first + length (ps ++ g.payload ∷ [])) (2 ^ 64 - 1) ≡ min (min (first + length ps) (2 ^ 64 - 1) + 1) (2 ^ 64 - 1)
    counted first ps = let long = length-append ps (g.payload ∷ []) in omega (arith, long)

pub number_other : (form : Form) (gifts : List Gift) (g : Gift) (sender : ℕ) → (sender ≡ g.sender → ⊥) → number_behind form (gifts ++ g ∷ []) sender ≡ number_behind form gifts sender
number_other form gifts g sender apart =
    let other : (g.sender == sender) ≡ false = differs g.sender sender apart in
    ap (λ (ps : List (List ℕ)). min (first_of form sender + length ps) (2 ^ 64 - 1)) (of_sender_more sender gifts g ∙ left other)
  where
    differs : (a b : ℕ) → (b ≡ a → ⊥) → (a == b) ≡ false
    differs a b h = grind (arith, nat_tests)

    left : (g.sender == sender) ≡ false
        → (if g.sender == sender then payloads_of_sender sender gifts ++ g.payload ∷ [] else payloads_of_sender sender gifts) ≡ payloads_of_sender sender gifts
    left other = rw other refl
