-- What a line more makes of what stands.
use Rattle.std.proofs.Common.{◌≡◌, ◌≢◌, ◌⊎◌, inl, inr, ℕ, zero, suc, ◌+◌, ◌-◌, ◌^◌, ◌<◌, ◌≤◌, min, true, List, [], ◌∷◌, ◌++◌, length, refl, ap, sym, subst, ◌∙◌, append_assoc, append-nil, length-append, arith}
use Rattle.std.specs.Prelude.{All, Result, Ok, Err, OnOk, IfErr, None, Some, codes, decimal}
use Rattle.std.proofs.lemmas.List.Elements.{All-append, All-cons, All-nil}
use Rattle.text_words.specs.Lines.{lines_in}
use Rattle.jr_record.specs.Records.{IsSender}
use Rattle.gw_lines.specs.declared.found.Found.TheVariants.{Whole, TooLong}
use Rattle.gw_lines.specs.Lines.{IsFeedless, IsTold, longest}
use Rattle.sbe_value.specs.declared.message.Message.{Message}
use Rattle.sbe_layout.specs.declared.plan.Plan.{Plan}
use Rattle.text_names.specs.Bare.{bare}
use Rattle.text_names.specs.Fronts.{front_of}
use Rattle.sbe_encode.specs.declared.fault.EncodeFault.{EncodeFault}
use Rattle.plan_text.specs.Plans.{Gift}
use Rattle.plan_lines.specs.declared.form.Form.{Form}
use Rattle.plan_lines.specs.declared.end.Wrong.{Wrong}
use Rattle.plan_lines.specs.declared.end.Wrong.TheVariants as wrongs
use Rattle.plan_lines.specs.declared.end.Stop.{Stop}
use Rattle.plan_lines.specs.declared.end.Stop.TheVariants as stops
use Rattle.plan_lines.specs.declared.numbers.Numbers.{Numbers}
use Rattle.plan_lines.specs.declared.place.Place.{Place}
use Rattle.plan_lines.specs.Entries.{AreEntries, Ends, Entry, HasOtherLine, IsBetween, IsOpen, IsStuck, IsWhole, MayStand, Reaches, StartsMessage, all_of, most_bytes, size_of, passes, names, gives, finishes}
use Rattle.plan_lines.specs.Lines.{first_of, gift_line, gift_of, gifts_of, lines_of, number_behind, sender_behind}
use Rattle.plan_lines.specs.Progress.{Adds, Counts, Finishes, Gives, Goes, Halts, HaltsAtEnd, IsAll, Names, NamesNobody, RefusedFrom, RefusesEarlier, RefusesHere, RefusesOne, Stands, Starts, StopsAtEnd, StopsSo, TakesText, TellsEnd, TextEnds, TextGoes, line_of, number_in, returned}
use Rattle.plan_lines.proofs.Entries.{entries_more, entry_closed, left_short, gifts_passed, gifts_named, gifts_given, gifts_finished, sender_passed, sender_named, sender_given, sender_finished, lines_passed, lines_named, lines_given, lines_finished, number_more, number_other}
use Rattle.plan_lines.proofs.Texts.{lines_returned, returned_more, returned_long, size_more, none_returned}

-- ---- a line behind the front of a message

all_one : (P : List ℕ → Type 0) (line : List ℕ) → P line → All P (line ∷ [])
all_one P line p = All-cons P line [] p (All-nil P)

-- ---- fronts

-- a line stands among these behind some, or is the one behind all of them
data Splits (front a : List (List ℕ)) (line l : List ℕ) : Type 0 where
  among : (b : List (List ℕ)) → front ≡ a ++ l ∷ b → Splits front a line l
  behind_all : a ≡ front → l ≡ line → Splits front a line l

splits : (front a b : List (List ℕ)) (line l : List ℕ) → front ++ line ∷ [] ≡ a ++ l ∷ b → Splits front a line l
splits [] [] b line l e = behind_all refl (cc)
splits [] (y ∷ a) b line l e = let long = ap length e in let more = length-append a (l ∷ b) in absurd (omega (arith, long, more))
splits (x ∷ front) [] b line l e = let same : x ≡ l = cc in among front (ap (λ (z : List ℕ). z ∷ front) same)
splits (x ∷ front) (y ∷ a) b line l e =
    let first : x ≡ y = cc in
    let rest : front ++ line ∷ [] ≡ a ++ l ∷ b = cc in
    elim (splits front a b line l rest) as (λ _. Splits (x ∷ front) (y ∷ a) line l) [
      | among c f ↦ among c (ap (λ (z : List ℕ). z ∷ front) first ∙ ap (λ (zs : List (List ℕ)). y ∷ zs) f)
      | behind_all f g ↦ behind_all (ap (λ (z : List ℕ). z ∷ a) (sym first) ∙ ap (λ (zs : List (List ℕ)). x ∷ zs) f) g
    ]

-- no lines are open, and the front with a line more that does not end the message
none_open : (plan : Plan) → IsOpen plan []
none_open plan = λ a b l e ends. let long = ap length e in let more = length-append a (l ∷ b) in absurd (omega (arith, long, more))

open_more : (plan : Plan) (front : List (List ℕ)) (line : List ℕ) → IsOpen plan front → (Ends plan front line → ⊥) → IsOpen plan (front ++ line ∷ [])
open_more plan front line o goes = λ a b l e ends.
    elim (splits front a b line l e) as (λ _. ⊥) [
      | among c f ↦ o a c l f ends
      | behind_all f g ↦ goes (subst (λ (ls : List (List ℕ)). Ends plan ls line) f (subst (Ends plan a) g ends))
    ]

-- the number of the first line of a message, where this line was its first or is behind others
first_more : (front lines : List (List ℕ)) (line : List ℕ) (first number : ℕ) → length front ≤ length lines
    → (front ≢ [] → first ≡ min (length lines - length front + 1) (2 ^ 64 - 1)) → (front ≡ [] → first ≡ number) → number ≡ min (length lines + 1) (2 ^ 64 - 1)
    → first ≡ min (length (lines ++ line ∷ []) - length (front ++ line ∷ []) + 1) (2 ^ 64 - 1)
first_more [] lines line first number short behind here n =
    let long = length-append lines (line ∷ []) in let f = here refl in omega (arith, long, f, n)
first_more (x ∷ front) lines line first number short behind here n =
    let long = length-append lines (line ∷ []) in
    let more = length-append (x ∷ front) (line ∷ []) in
    let f = behind (λ e. cc e) in
    omega (arith, long, more, f, short)

-- where nothing stands before it, this line begins no sender's, and is the first of a message
abbrev Begun : Place → List ℕ → ℕ → Type 0
Begun p line number = p.text.items ≡ [] → (IsBetween line → ⊥) × (p.first ≡ number)

front_begun : (plan : Plan) (pushed : List ℕ) (p : Place) (lines : List (List ℕ)) (line : List ℕ) (number : ℕ) (s : Stands plan pushed p lines) → Begun p line number
    → s.front ≡ [] → (IsBetween line → ⊥) × (p.first ≡ number)
front_begun plan pushed p lines line number s begun none = begun (s.text_is ∙ ap returned none)

-- the text of a message and its lines
whole_is : (plan : Plan) (pushed : List ℕ) (p mid : Place) (lines : List (List ℕ)) (line : List ℕ) (s : Stands plan pushed p lines) → IsFeedless line → Adds line p mid
    → lines_in mid.text.items ≡ s.front ++ line ∷ []
whole_is plan pushed p mid lines line s feedless a =
    ap lines_in (a.text ∙ ap (λ (bs : List ℕ). bs ++ (line ++ 13 ∷ 10 ∷ [])) s.text_is ∙ sym (returned_more s.front line))
    ∙ lines_returned (s.front ++ line ∷ []) (All-append IsFeedless s.front (line ∷ []) s.feedless (all_one IsFeedless line feedless))

front_is : (plan : Plan) (pushed : List ℕ) (p : Place) (lines : List (List ℕ)) (s : Stands plan pushed p lines) → lines_in p.text.items ≡ s.front
front_is plan pushed p lines s = ap lines_in s.text_is ∙ lines_returned s.front s.feedless

starts_more : (front : List (List ℕ)) (line : List ℕ) → StartsMessage front → (front ≡ [] → IsBetween line → ⊥) → StartsMessage (front ++ line ∷ [])
starts_more [] line starts here = here refl
starts_more (first ∷ front) line starts here = starts

-- ---- a line that goes on with a message

pub text_goes : (plan : Plan) (p new : Place) (line : List ℕ) (number : ℕ) → Begun p line number → TextGoes plan line p new → Goes plan p new line number
text_goes plan p new line number begun t = λ pushed lines feedless n s.
    let none = front_begun plan pushed p lines line number s begun in
    let short = left_short plan lines s.entries s.front s.are in
    record {
      entries = s.entries;
      front = s.front ++ line ∷ [];
      are = entries_more plan lines s.entries s.front (line ∷ []) s.are;
      starts = starts_more s.front line s.starts (λ e. (none e).0);
      is_open = open_more plan s.front line s.is_open (t.goes s.front (whole_is plan pushed p new lines line s feedless t.adds));
      feedless = All-append IsFeedless s.front (line ∷ []) s.feedless (all_one IsFeedless line feedless);
      text_is = t.adds.text ∙ ap (λ (bs : List ℕ). bs ++ (line ++ 13 ∷ 10 ∷ [])) s.text_is ∙ sym (returned_more s.front line);
      small = t.small;
      first_is = λ some. t.adds.first ∙ first_more s.front lines line p.first number short s.first_is (λ e. (none e).1) n;
      sender_is = t.adds.sender ∙ s.sender_is;
      sender = subst IsSender (sym t.adds.sender) s.sender;
      numbers_are = λ sender is. ap (λ (ns : Numbers). number_in ns sender) t.adds.numbers ∙ s.numbers_are sender is
          ∙ ap (λ (f : Form). number_behind f (gifts_of plan s.entries) sender) (sym t.adds.form);
      given = ap (λ (ls : _). pushed ++ ls.items) t.adds.lines ∙ s.given ∙ ap (λ (f : Form). lines_of plan f s.entries) (sym t.adds.form);
    }

-- ---- a line that names a sender

pub named : (plan : Plan) (p new : Place) (line digits : List ℕ) (number : ℕ) → p.text.items ≡ [] → bare line ≡ codes "sender " ++ digits → Names digits p new → Goes plan p new line number
named plan p new line digits number empty written n = λ pushed lines feedless numbered s.
    let none = none_returned s.front (sym s.text_is ∙ empty) in
    let are = entries_more plan lines s.entries s.front (line ∷ []) s.are in
    let here : s.front ++ line ∷ [] ≡ line ∷ [] = ap (λ (ls : List (List ℕ)). ls ++ line ∷ []) none in
    subst (λ (q : Place). Stands plan pushed q (lines ++ line ∷ [])) (sym n.placed) (record {
      entries = s.entries ++ names n.sender ∷ [];
      front = [];
      are = entry_closed plan (lines ++ line ∷ []) s.entries (s.front ++ line ∷ []) (names n.sender) are
          (line, here, record { is = n.is; written = written ∙ ap (λ (ds : List ℕ). codes "sender " ++ ds) n.written });
      starts = tt;
      is_open = none_open plan;
      feedless = All-nil IsFeedless;
      text_is = empty;
      small = s.small;
      first_is = λ some. absurd (some refl);
      sender_is = sym (sender_named 1 n.sender s.entries);
      sender = n.is;
      numbers_are = λ sender is. s.numbers_are sender is ∙ ap (λ (gs : List Gift). number_behind p.form gs sender) (sym (gifts_named plan 1 n.sender s.entries));
      given = s.given ∙ sym (lines_named plan p.form s.entries n.sender);
    })

-- ---- a line that says nothing

pub passed : (plan : Plan) (p : Place) (line : List ℕ) (number : ℕ) → p.text.items ≡ [] → bare line ≡ [] → Goes plan p p line number
passed plan p line number empty nothing = λ pushed lines feedless numbered s.
    let none = none_returned s.front (sym s.text_is ∙ empty) in
    let are = entries_more plan lines s.entries s.front (line ∷ []) s.are in
    let here : s.front ++ line ∷ [] ≡ line ∷ [] = ap (λ (ls : List (List ℕ)). ls ++ line ∷ []) none in
    record {
      entries = s.entries ++ passes ∷ [];
      front = [];
      are = entry_closed plan (lines ++ line ∷ []) s.entries (s.front ++ line ∷ []) passes are (line, here, nothing);
      starts = tt;
      is_open = none_open plan;
      feedless = All-nil IsFeedless;
      text_is = empty;
      small = s.small;
      first_is = λ some. absurd (some refl);
      sender_is = s.sender_is ∙ sym (sender_passed 1 s.entries);
      sender = s.sender;
      numbers_are = λ sender is. s.numbers_are sender is ∙ ap (λ (gs : List Gift). number_behind p.form gs sender) (sym (gifts_passed plan 1 s.entries));
      given = s.given ∙ sym (lines_passed plan p.form s.entries);
    }

-- ---- a line that says that nothing more will be sent

pub finished : (plan : Plan) (p new : Place) (line : List ℕ) (number : ℕ) → p.text.items ≡ [] → bare line ≡ codes "finish" → Finishes p new → Goes plan p new line number
finished plan p new line number empty written f = λ pushed lines feedless numbered s.
    let none = none_returned s.front (sym s.text_is ∙ empty) in
    let are = entries_more plan lines s.entries s.front (line ∷ []) s.are in
    let here : s.front ++ line ∷ [] ≡ line ∷ [] = ap (λ (ls : List (List ℕ)). ls ++ line ∷ []) none in
    subst (λ (q : Place). Stands plan pushed q (lines ++ line ∷ [])) (sym f.kept) (record {
      entries = s.entries ++ finishes ∷ [];
      front = [];
      are = entry_closed plan (lines ++ line ∷ []) s.entries (s.front ++ line ∷ []) finishes are (line, here, written);
      starts = tt;
      is_open = none_open plan;
      feedless = All-nil IsFeedless;
      text_is = empty;
      small = s.small;
      first_is = λ some. absurd (some refl);
      sender_is = s.sender_is ∙ sym (sender_finished 1 s.entries);
      sender = s.sender;
      numbers_are = λ sender is. s.numbers_are sender is ∙ ap (λ (gs : List Gift). number_behind p.form gs sender) (sym (gifts_finished plan 1 s.entries));
      given = ap (λ (bs : List ℕ). pushed ++ bs) f.lines ∙ sym (append_assoc pushed p.lines.items (codes "finish\n")) ∙ ap (λ (bs : List ℕ). bs ++ codes "finish\n") s.given
          ∙ sym (lines_finished plan p.form s.entries);
    })

pub names_nobody : (plan : Plan) (p new : Place) (line digits : List ℕ) (number : ℕ) (stop : Stop) → p.text.items ≡ [] → bare line ≡ codes "sender " ++ digits → NamesNobody digits number p new stop
    → Halts plan p new line number stop
names_nobody plan p new line digits number stop empty written n =
    subst (λ (x : Stop). Halts plan p new line number x) (sym n.stop_is) (λ pushed lines feedless numbered s.
    let none = none_returned s.front (sym s.text_is ∙ empty) in
    let are = entries_more plan lines s.entries s.front (line ∷ []) s.are in
    let here : s.front ++ line ∷ [] ≡ line ∷ [] = ap (λ (ls : List (List ℕ)). ls ++ line ∷ []) none in
    let long = length-append lines (line ∷ []) in
    record {
      entries = s.entries;
      behind = line ∷ [];
      are = subst (AreEntries plan (lines ++ line ∷ []) s.entries) here are;
      number = 1;
      refused = λ more. record {
        here = line;
        behind = more;
        split = refl;
        begins = record { behind = digits; written = written };
        none = λ sender names. n.none sender names.is (same_digits digits (bare line) sender written names.written);
        number_is = refl;
      };
      line_is = omega (arith, long, numbered);
      given = ap (λ (q : Place). pushed ++ q.lines.items) n.kept ∙ s.given ∙ ap (λ (q : Place). lines_of plan q.form s.entries) (sym n.kept);
    })
  where
    same_digits : (digits line : List ℕ) (sender : ℕ) → line ≡ codes "sender " ++ digits → line ≡ codes "sender " ++ decimal sender → digits ≡ decimal sender
    same_digits digits line sender p q = let both = sym p ∙ q in cc

-- ---- the last line of a message

-- its text is not too long
whole_small : (plan : Plan) (pushed : List ℕ) (p mid : Place) (lines : List (List ℕ)) (line : List ℕ) (s : Stands plan pushed p lines) → Adds line p mid → length mid.text.items ≤ most_bytes
    → size_of (s.front ++ line ∷ []) ≤ most_bytes
whole_small plan pushed p mid lines line s a small =
    let same = ap length (a.text ∙ ap (λ (bs : List ℕ). bs ++ (line ++ 13 ∷ 10 ∷ [])) s.text_is ∙ sym (returned_more s.front line)) ∙ returned_long (s.front ++ line ∷ []) in
    omega (arith, same, small)

-- one message more, given to the sender
given_more : (plan : Plan) (entries : List Entry) (message : Message) (pushed : List ℕ) (p new : Place) → p.sender ≡ sender_behind entries
    → ((sender : ℕ) → IsSender sender → number_in p.numbers sender ≡ number_behind p.form (gifts_of plan entries) sender) → IsSender p.sender → pushed ++ p.lines.items ≡ lines_of plan p.form entries
    → new.form ≡ p.form → new.lines.items ≡ p.lines.items ++ gift_line p.form (number_in p.numbers p.sender) (gift_of plan p.sender message)
    → pushed ++ new.lines.items ≡ lines_of plan new.form (entries ++ gives message ∷ [])
given_more plan entries message pushed p new sender numbers is given form lines =
    let line = gift_line p.form (number_in p.numbers p.sender) (gift_of plan p.sender message) in
    ap (λ (bs : List ℕ). pushed ++ bs) lines ∙ sym (append_assoc pushed p.lines.items line) ∙ ap (λ (bs : List ℕ). bs ++ line) given
    ∙ sym (lines_given plan p.form entries message p.sender (number_in p.numbers p.sender) sender (numbers p.sender is))
    ∙ ap (λ (f : Form). lines_of plan f (entries ++ gives message ∷ [])) (sym form)

numbers_more : (plan : Plan) (entries : List Entry) (message : Message) (form : Form) (old new : Numbers) (its : ℕ) → its ≡ sender_behind entries
    → ((sender : ℕ) → IsSender sender → number_in old sender ≡ number_behind form (gifts_of plan entries) sender) → Counts old new its → IsSender its
    → (sender : ℕ) → IsSender sender → number_in new sender ≡ number_behind form (gifts_of plan (entries ++ gives message ∷ [])) sender
numbers_more plan entries message form old new its sender_is numbers counts is sender sender_one =
    let g = gift_of plan its message in
    let more : gifts_of plan (entries ++ gives message ∷ []) ≡ gifts_of plan entries ++ g ∷ [] =
    gifts_given plan 1 message entries ∙ ap (λ (k : ℕ). gifts_of plan entries ++ gift_of plan k message ∷ []) (sym sender_is) in
    elim (decide sender its) as (λ _. number_in new sender ≡ number_behind form (gifts_of plan (entries ++ gives message ∷ [])) sender) [
      | inl same ↦
          ap (number_in new) same ∙ counts.its ∙ ap (λ (k : ℕ). min (k + 1) (2 ^ 64 - 1)) (numbers its is ∙ ap (number_behind form (gifts_of plan entries)) (sym same))
          ∙ sym (number_more form (gifts_of plan entries) g sender same) ∙ ap (λ (gs : List Gift). number_behind form gs sender) (sym more)
      | inr apart ↦
          counts.others sender sender_one apart ∙ numbers sender sender_one ∙ sym (number_other form (gifts_of plan entries) g sender apart)
          ∙ ap (λ (gs : List Gift). number_behind form gs sender) (sym more)
    ]
  where
    decide : (a b : ℕ) → (a ≡ b) ⊎ (a ≡ b → ⊥)
    decide zero zero = inl refl
    decide zero (suc b) = inr (λ e. cc e)
    decide (suc a) zero = inr (λ e. cc e)
    decide (suc a) (suc b) = elim (decide a b) as (λ _. (suc a ≡ suc b) ⊎ (suc a ≡ suc b → ⊥)) [ inl e ↦ inl (ap suc e) | inr h ↦ inr (λ e. h (omega (arith, e))) ]

-- the line ends the message
is_whole : (plan : Plan) (front : List (List ℕ)) (line : List ℕ) → StartsMessage (front ++ line ∷ []) → IsOpen plan front → Ends plan front line → IsWhole plan (front ++ line ∷ [])
is_whole plan front line starts is_open ends = record { front = front; last = line; split = refl; starts = starts; is_open = is_open; ends = ends }

-- a message was ended and given
pub text_ends : (plan : Plan) (p new : Place) (line : List ℕ) (number : ℕ) → Begun p line number → TextEnds {A = Unit {0}} plan line p new (Ok tt) → Goes plan p new line number
text_ends plan p new line number begun t = λ pushed lines feedless n s.
    let none = front_begun plan pushed p lines line number s begun in
    let part = s.front ++ line ∷ [] in
    let whole : lines_in t.mid.text.items ≡ part = whole_is plan pushed p t.mid lines line s feedless t.adds in
    let read : front_of plan part ≡ Ok (Some (t.gives.message, [])) = ap (front_of plan) (sym whole) ∙ t.gives.read in
    let size : size_of part ≤ most_bytes = whole_small plan pushed p t.mid lines line s t.adds t.small in
    let sender : t.mid.sender ≡ sender_behind s.entries = t.adds.sender ∙ s.sender_is in
    let is : IsSender t.mid.sender = subst IsSender (sym t.adds.sender) s.sender in
    let numbers = λ (k : ℕ) (one : IsSender k).
    ap (λ (ns : Numbers). number_in ns k) t.adds.numbers ∙ s.numbers_are k one ∙ ap (λ (f : Form). number_behind f (gifts_of plan s.entries) k) (sym t.adds.form) in
    let given : pushed ++ t.mid.lines.items ≡ lines_of plan t.mid.form s.entries =
    ap (λ (ls : _). pushed ++ ls.items) t.adds.lines ∙ s.given ∙ ap (λ (f : Form). lines_of plan f s.entries) (sym t.adds.form) in
    record {
      entries = s.entries ++ gives t.gives.message ∷ [];
      front = [];
      are = entry_closed plan (lines ++ line ∷ []) s.entries part (gives t.gives.message) (entries_more plan lines s.entries s.front (line ∷ []) s.are)
          (record {
            own = part;
            split = sym (append-nil part);
            whole = is_whole plan s.front line (starts_more s.front line s.starts (λ e. (none e).0)) s.is_open (t.ends s.front whole);
            read = read;
            faultless = t.gives.faultless;
            within = size;
          });
      starts = tt;
      is_open = none_open plan;
      feedless = All-nil IsFeedless;
      text_is = t.gives.text;
      small = let none = ap length t.gives.text in omega (arith, none);
      first_is = λ some. absurd (some refl);
      sender_is = t.gives.sender ∙ sender ∙ sym (sender_given 1 t.gives.message s.entries);
      sender = subst IsSender (sym t.gives.sender) is;
      numbers_are = λ k one. numbers_more plan s.entries t.gives.message t.mid.form t.mid.numbers new.numbers t.mid.sender sender numbers t.gives.numbers is k one
          ∙ ap (λ (f : Form). number_behind f (gifts_of plan (s.entries ++ gives t.gives.message ∷ [])) k) (sym t.gives.form);
      given = given_more plan s.entries t.gives.message pushed t.mid new sender numbers is given t.gives.form t.gives.lines;
    }

-- the number of a line of a message in the whole text
line_in : (total part first before : ℕ) → first ≡ min (total - part + 1) (2 ^ 64 - 1) → min (first + before) (2 ^ 64 - 1) ≡ min (total - part + (before + 1)) (2 ^ 64 - 1)
line_in total part first before f = omega (arith, f)

-- what was kept where a line is refused
kept_given : (plan : Plan) (entries : List Entry) (pushed : List ℕ) (p mid new : Place) → pushed ++ p.lines.items ≡ lines_of plan p.form entries → mid.form ≡ p.form → mid.lines ≡ p.lines
    → new.form ≡ mid.form → new.lines ≡ mid.lines → pushed ++ new.lines.items ≡ lines_of plan new.form entries
kept_given plan entries pushed p mid new given form lines new_form new_lines =
    ap (λ (ls : _). pushed ++ ls.items) (new_lines ∙ lines) ∙ given ∙ ap (λ (f : Form). lines_of plan f entries) (sym (new_form ∙ form))

-- a message was ended, and one of its lines is refused
pub text_refused : (plan : Plan) (p new : Place) (line : List ℕ) (number told : ℕ) → Begun p line number → TextEnds {A = Unit {0}} plan line p new (Err (stops.Wrong told wrongs.Line))
    → Halts plan p new line number (stops.Wrong told wrongs.Line)
text_refused plan p new line number told begun t = λ pushed lines feedless n s.
    let none = front_begun plan pushed p lines line number s begun in
    let short = left_short plan lines s.entries s.front s.are in
    let part = s.front ++ line ∷ [] in
    let whole : lines_in t.mid.text.items ≡ part = whole_is plan pushed p t.mid lines line s feedless t.adds in
    let read : all_of (front_of plan part) ≡ Err t.gives.left = ap (λ (ls : List (List ℕ)). all_of (front_of plan ls)) (sym whole) ∙ t.gives.read in
    let first = t.adds.first ∙ first_more s.front lines line p.first number short s.first_is (λ e. (none e).1) n in
    let starts = starts_more s.front line s.starts (λ e. (none e).0) in
    let ends = t.ends s.front whole in
    record {
      entries = s.entries;
      behind = part;
      are = entries_more plan lines s.entries s.front (line ∷ []) s.are;
      number = length part - t.gives.left + 1;
      refused = λ more. inl (record {
        own = part;
        behind = more;
        split = refl;
        starts = starts;
        left = t.gives.left;
        reaches = inl (is_whole plan s.front line starts s.is_open ends);
        refused = record { settled = ends.whole; read = read };
        number_is = refl;
      });
      line_is = t.gives.told_is ∙ ap (λ (ls : List (List ℕ)). min (t.mid.first + (length ls - t.gives.left)) (2 ^ 64 - 1)) whole
          ∙ line_in (length (lines ++ line ∷ [])) (length part) t.mid.first (length part - t.gives.left) first;
      given = kept_given plan s.entries pushed p t.mid new s.given t.adds.form t.adds.lines t.gives.form t.gives.lines;
    }

-- or the message may not be written
pub text_faulty : (plan : Plan) (p new : Place) (line : List ℕ) (number told : ℕ) (fault : EncodeFault) → Begun p line number
    → TextEnds {A = Unit {0}} plan line p new (Err (stops.Wrong told (wrongs.Message fault))) → Halts plan p new line number (stops.Wrong told (wrongs.Message fault))
text_faulty plan p new line number told fault begun t = λ pushed lines feedless n s.
    let none = front_begun plan pushed p lines line number s begun in
    let short = left_short plan lines s.entries s.front s.are in
    let part = s.front ++ line ∷ [] in
    let whole : lines_in t.mid.text.items ≡ part = whole_is plan pushed p t.mid lines line s feedless t.adds in
    let first = t.adds.first ∙ first_more s.front lines line p.first number short s.first_is (λ e. (none e).1) n in
    record {
      entries = s.entries;
      behind = part;
      are = entries_more plan lines s.entries s.front (line ∷ []) s.are;
      number = 1;
      refused = λ more. record {
        own = part;
        behind = more;
        split = refl;
        whole = is_whole plan s.front line (starts_more s.front line s.starts (λ e. (none e).0)) s.is_open (t.ends s.front whole);
        message = t.gives.faulty.message;
        rest = t.gives.faulty.rest;
        read = ap (front_of plan) (sym whole) ∙ t.gives.faulty.read;
        faulty = t.gives.faulty.faulty;
        number_is = refl;
      };
      line_is = t.gives.told_is ∙ first;
      given = kept_given plan s.entries pushed p t.mid new s.given t.adds.form t.adds.lines t.gives.form t.gives.lines;
    }

-- ---- a line that is too much, or too long

-- one of the lines before it is refused
some_front : (plan : Plan) (front : List (List ℕ)) (left : ℕ) → RefusedFrom plan front left → front ≢ []
some_front plan [] left r = λ e. r.refused.settled refl
some_front plan (x ∷ front) left r = λ e. cc

refused_line : (plan : Plan) (front behind : List (List ℕ)) (left : ℕ) → StartsMessage front → IsOpen plan front → IsStuck front behind → RefusedFrom plan front left
    → HasOtherLine plan (front ++ behind) (length front - left + 1)
refused_line plan front behind left starts is_open stuck r = record {
  own = front;
  behind = behind;
  split = refl;
  starts = starts;
  left = left;
  reaches = inr (is_open, (stuck, r.some));
  refused = r.refused;
  number_is = refl;
}

earlier : (plan : Plan) (p : Place) (line : List ℕ) (told : ℕ) (pushed : List ℕ) (lines : List (List ℕ)) → Stands plan pushed p lines
    → ((front more : List (List ℕ)) → lines_in p.text.items ≡ front → IsStuck front (line ∷ more)) → RefusesEarlier plan p told wrongs.Line → StopsSo plan pushed p (lines ++ line ∷ []) told wrongs.Line
earlier plan p line told pushed lines s stuck r =
    let front = front_is plan pushed p lines s in
    let short = left_short plan lines s.entries s.front s.are in
    let from : RefusedFrom plan s.front r.left = subst (λ (ls : List (List ℕ)). RefusedFrom plan ls r.left) front r.refused in
    let some = some_front plan s.front r.left from in
    record {
      entries = s.entries;
      behind = s.front ++ line ∷ [];
      are = entries_more plan lines s.entries s.front (line ∷ []) s.are;
      number = length s.front - r.left + 1;
      refused = λ more. inl (subst (λ (ls : List (List ℕ)). HasOtherLine plan ls (length s.front - r.left + 1)) (sym (append_assoc s.front (line ∷ []) more))
          (refused_line plan s.front (line ∷ more) r.left s.starts s.is_open (stuck s.front more front) from));
      line_is = r.told_is ∙ ap (λ (ls : List (List ℕ)). min (p.first + (length ls - r.left)) (2 ^ 64 - 1)) front
          ∙ line_in (length lines) (length s.front) p.first (length s.front - r.left) (s.first_is some) ∙ behind s.front (length s.front - r.left + 1);
      given = s.given;
    }
  where
    behind : (front : List (List ℕ)) (number : ℕ) → min (length lines - length front + number) (2 ^ 64 - 1) ≡ min (length (lines ++ line ∷ []) - length (front ++ line ∷ []) + number) (2 ^ 64 - 1)
    behind front number = let long = length-append lines (line ∷ []) in let more = length-append front (line ∷ []) in omega (arith, long, more)

-- this one is, which has the number behind them
here_line : (front lines : List (List ℕ)) (line : List ℕ) (number : ℕ) → length front ≤ length lines → number ≡ min (length lines + 1) (2 ^ 64 - 1)
    → number ≡ min (length (lines ++ line ∷ []) - length (front ++ line ∷ []) + (length front + 1)) (2 ^ 64 - 1)
here_line front lines line number short n =
    let long = length-append lines (line ∷ []) in let more = length-append front (line ∷ []) in omega (arith, n, short, long, more)

-- a message goes on to this line
reaches : (plan : Plan) (pushed : List ℕ) (p : Place) (lines : List (List ℕ)) (s : Stands plan pushed p lines) (line : List ℕ) (rest : List (List ℕ))
    → MayStand plan (lines_in p.text.items) → Reaches plan ((s.front ++ line ∷ []) ++ rest) s.front line (length s.front + 1)
reaches plan pushed p lines s line rest none = record {
  behind = rest;
  split = append_assoc s.front (line ∷ []) rest;
  starts = s.starts;
  is_open = s.is_open;
  may_stand = subst (MayStand plan) (front_is plan pushed p lines s) none;
  number_is = refl;
}

pub past_limit : (plan : Plan) (p : Place) (line : List ℕ) (number told : ℕ) (told_wrong : Wrong) → most_bytes < length p.text.items + (length line + 2)
    → RefusesOne plan p number wrongs.Endless (stops.Wrong told told_wrong) → Halts plan p p line number (stops.Wrong told told_wrong)
past_limit plan p line number told told_wrong past (inl r) = λ pushed lines feedless n s.
    subst (λ (w : Wrong). StopsSo plan pushed p (lines ++ line ∷ []) told w) (sym r.wrong_is)
    (earlier plan p line told pushed lines s (λ front more is. inr (past_front s is)) (record { left = r.left; refused = r.refused; told_is = r.told_is; wrong_is = refl }))
  where
    past_front : {front : List (List ℕ)} {pushed : List ℕ} {lines : List (List ℕ)} (s : Stands plan pushed p lines) → lines_in p.text.items ≡ front → most_bytes < size_of (front ++ line ∷ [])
    past_front {front} {pushed} {lines} s is =
        let same : s.front ≡ front = sym (front_is plan pushed p lines s) ∙ is in
        let size = ap length s.text_is ∙ returned_long s.front ∙ ap size_of same in
        let more = size_more front line in
        omega (arith, size, more, past)
past_limit plan p line number told told_wrong past (inr r) = λ pushed lines feedless n s.
    let short = left_short plan lines s.entries s.front s.are in
    let size = ap length s.text_is ∙ returned_long s.front in
    let more = size_more s.front line in
    let small = s.small in
    subst (λ (w : Wrong). StopsSo plan pushed p (lines ++ line ∷ []) told w) (sym r.wrong_is) (record {
      entries = s.entries;
      behind = s.front ++ line ∷ [];
      are = entries_more plan lines s.entries s.front (line ∷ []) s.are;
      number = length s.front + 1;
      refused = λ rest. record {
        front = s.front;
        here = line;
        reaches = reaches plan pushed p lines s line rest r.none;
        within = omega (arith, size, small);
        past = omega (arith, size, more, past);
      };
      line_is = r.told_is ∙ here_line s.front lines line number short n;
      given = s.given;
    })

pub long_line : (plan : Plan) (p : Place) (line : List ℕ) (number told : ℕ) (told_wrong : Wrong) → longest ≤ length line
    → RefusesOne plan p number wrongs.TooLong (stops.Wrong told told_wrong) → Halts plan p p line number (stops.Wrong told told_wrong)
long_line plan p line number told told_wrong long (inl r) = λ pushed lines feedless n s.
    subst (λ (w : Wrong). StopsSo plan pushed p (lines ++ line ∷ []) told w) (sym r.wrong_is)
    (earlier plan p line told pushed lines s (λ front more is. inl long) (record { left = r.left; refused = r.refused; told_is = r.told_is; wrong_is = refl }))
long_line plan p line number told told_wrong long (inr r) = λ pushed lines feedless n s.
    let short = left_short plan lines s.entries s.front s.are in
    subst (λ (w : Wrong). StopsSo plan pushed p (lines ++ line ∷ []) told w) (sym r.wrong_is) (record {
      entries = s.entries;
      behind = s.front ++ line ∷ [];
      are = entries_more plan lines s.entries s.front (line ∷ []) s.are;
      number = length s.front + 1;
      refused = λ rest. record { front = s.front; here = line; reaches = reaches plan pushed p lines s line rest r.none; long = long };
      line_is = r.told_is ∙ here_line s.front lines line number short n;
      given = s.given;
    })

-- ---- the same of what a call answered

pub text_small : (p mid : Place) (line : List ℕ) → Adds line p mid → length line + 2 ≤ most_bytes - length p.text.items → length mid.text.items ≤ most_bytes
text_small p mid line a fits =
    let long = ap length a.text ∙ length-append p.text.items (line ++ 13 ∷ 10 ∷ []) in
    let more = length-append line (13 ∷ 10 ∷ []) in
    omega (arith, long, more, fits)

pub text_takes : (plan : Plan) (line : List ℕ) (number : ℕ) (p mid new : Place) (result : Result (Unit {0}) Stop) → TellsEnd plan mid.text.items line true → Adds line p mid → length mid.text.items ≤ most_bytes
    → Gives plan mid new result → TakesText plan line number p new result
text_takes plan line number p mid new (Ok x) ends adds small given = inr (record { ends = ends; mid = mid; adds = adds; small = small; gives = given })
text_takes plan line number p mid new (Err stop) ends adds small given = inr (inl (record { ends = ends; mid = mid; adds = adds; small = small; gives = given }))

pub not_between : (line : List ℕ) → (bare line ≡ [] → ⊥) → ((behind : List ℕ) → bare line ≡ codes "sender " ++ behind → ⊥) → (bare line ≡ codes "finish" → ⊥) → IsBetween line → ⊥
not_between line some no_sender no_finish (inl e) = some e
not_between line some no_sender no_finish (inr (inl b)) = no_sender b.behind b.written
not_between line some no_sender no_finish (inr (inr e)) = no_finish e

pub finished_ok : (plan : Plan) (p new : Place) (line : List ℕ) (number : ℕ) (result : Result (Unit {0}) Stop) → p.text.items ≡ [] → bare line ≡ codes "finish" → OnOk result (Finishes p new)
    → OnOk result (Goes plan p new line number)
finished_ok plan p new line number (Ok _) empty written f = finished plan p new line number empty written f
finished_ok plan p new line number (Err stop) empty written f = tt

pub takes_ok : (plan : Plan) (p new : Place) (line : List ℕ) (number : ℕ) (result : Result (Unit {0}) Stop) → Begun p line number → TakesText plan line number p new result
    → OnOk result (Goes plan p new line number)
takes_ok plan p new line number (Ok _) begun (inl t) = text_goes plan p new line number begun t
takes_ok plan p new line number (Ok _) begun (inr t) = text_ends plan p new line number begun t
takes_ok plan p new line number (Err stop) begun t = tt

pub takes_err : (plan : Plan) (p new : Place) (line : List ℕ) (number : ℕ) (result : Result (Unit {0}) Stop) → Begun p line number → TakesText plan line number p new result
    → IfErr result (Halts plan p new line number)
takes_err plan p new line number (Ok _) begun t = tt
takes_err plan p new line number (Err stops.Memory) begun t = tt
takes_err plan p new line number (Err (stops.Wrong told wrong)) begun (inl t) =
    subst (λ (q : Place). Halts plan p q line number (stops.Wrong told wrong)) (sym t.kept) (past_limit plan p line number told wrong t.past t.refuses)
takes_err plan p new line number (Err (stops.Wrong told wrongs.Line)) begun (inr (inl t)) = text_refused plan p new line number told begun t
takes_err plan p new line number (Err (stops.Wrong told (wrongs.Message fault))) begun (inr (inl t)) = text_faulty plan p new line number told fault begun t
takes_err plan p new line number (Err (stops.Wrong told wrongs.TooLong)) begun (inr (inl t)) = absurd t.gives
takes_err plan p new line number (Err (stops.Wrong told wrongs.Sender)) begun (inr (inl t)) = absurd t.gives
takes_err plan p new line number (Err (stops.Wrong told wrongs.Endless)) begun (inr (inl t)) = absurd t.gives
takes_err plan p new line number (Err (stops.Wrong told wrong)) begun (inr (inr e)) = λ pushed lines feedless n s. absurd (cc e)

-- a place where a message begins, with the number of its first line
with_first : (plan : Plan) (pushed : List ℕ) (p : Place) (lines : List (List ℕ)) (number : ℕ) → p.text.items ≡ [] → Stands plan pushed p lines → Stands plan pushed (record p { first = number }) lines
with_first plan pushed p lines number empty s = record {
  entries = s.entries;
  front = s.front;
  are = s.are;
  starts = s.starts;
  is_open = s.is_open;
  feedless = s.feedless;
  text_is = s.text_is;
  small = s.small;
  first_is = λ some. absurd (some (none_returned s.front (sym s.text_is ∙ empty)));
  sender_is = s.sender_is;
  sender = s.sender;
  numbers_are = s.numbers_are;
  given = s.given;
}

pub first_ok : (plan : Plan) (p new : Place) (line : List ℕ) (number : ℕ) (result : Result (Unit {0}) Stop) → p.text.items ≡ [] → OnOk result (Goes plan (record p { first = number }) new line number)
    → OnOk result (Goes plan p new line number)
first_ok plan p new line number (Ok _) empty goes = λ pushed lines feedless n s. goes pushed lines feedless n (with_first plan pushed p lines number empty s)
first_ok plan p new line number (Err stop) empty goes = tt

pub first_err : (plan : Plan) (p new : Place) (line : List ℕ) (number : ℕ) (result : Result (Unit {0}) Stop) → p.text.items ≡ [] → IfErr result (Halts plan (record p { first = number }) new line number)
    → IfErr result (Halts plan p new line number)
first_err plan p new line number (Ok _) empty halts = tt
first_err plan p new line number (Err stops.Memory) empty halts = tt
first_err plan p new line number (Err (stops.Wrong told wrong)) empty halts = λ pushed lines feedless n s. halts pushed lines feedless n (with_first plan pushed p lines number empty s)

pub named_ok : (plan : Plan) (p new : Place) (line digits : List ℕ) (number : ℕ) (result : Result (Unit {0}) Stop) → p.text.items ≡ [] → bare line ≡ codes "sender " ++ digits
    → OnOk result (Names digits p new) → OnOk result (Goes plan p new line number)
named_ok plan p new line digits number (Ok _) empty written n = named plan p new line digits number empty written n
named_ok plan p new line digits number (Err stop) empty written n = tt

pub named_err : (plan : Plan) (p new : Place) (line digits : List ℕ) (number : ℕ) (result : Result (Unit {0}) Stop) → p.text.items ≡ [] → bare line ≡ codes "sender " ++ digits
    → IfErr result (NamesNobody digits number p new) → IfErr result (Halts plan p new line number)
named_err plan p new line digits number (Ok _) empty written n = tt
named_err plan p new line digits number (Err stop) empty written n = names_nobody plan p new line digits number stop empty written n

-- ---- a line that a reader found

pub whole_ok : (plan : Plan) (p new : Place) (lent line : List ℕ) (n number : ℕ) (result : Result (Unit {0}) Stop) → lent ≡ line → n ≡ number → OnOk result (Goes plan p new lent n)
    → OnOk result ((says raw : List ℕ) → IsTold Whole line says raw → length raw ≤ length says + 1 → Goes plan p new says number)
whole_ok plan p new lent line n number (Err stop) same numbered goes = tt
whole_ok plan p new lent line n number (Ok _) same numbered goes = λ says raw told long.
    subst (λ (k : ℕ). Goes plan p new says k) numbered (subst (λ (l : List ℕ). Goes plan p new l n) (same ∙ told.1) goes)

pub whole_err : (plan : Plan) (p new : Place) (lent line : List ℕ) (n number : ℕ) (result : Result (Unit {0}) Stop) → lent ≡ line → n ≡ number → IfErr result (Halts plan p new lent n)
    → IfErr result (λ stop. (says raw : List ℕ) → IsTold Whole line says raw → length raw ≤ length says + 1 → Halts plan p new says number stop)
whole_err plan p new lent line n number (Ok _) same numbered halts = tt
whole_err plan p new lent line n number (Err stop) same numbered halts = λ says raw told long.
    subst (λ (k : ℕ). Halts plan p new says k stop) numbered (subst (λ (l : List ℕ). Halts plan p new l n stop) (same ∙ told.1) halts)

pub long_err : (plan : Plan) (p : Place) (line : List ℕ) (n number : ℕ) (stop : Stop) → n ≡ number → RefusesOne plan p n wrongs.TooLong stop
    → (says raw : List ℕ) → IsTold TooLong line says raw → length raw ≤ length says + 1 → Halts plan p p says number stop
long_err plan p line n number stops.Memory numbered r says raw told long = tt
long_err plan p line n number (stops.Wrong at wrong) numbered r says raw told long =
    subst (λ (k : ℕ). Halts plan p p says k (stops.Wrong at wrong)) numbered (long_line plan p says n at wrong (omega (arith, told, long)) r)

-- ---- the end of the text

pub end_none : (plan : Plan) (p : Place) → p.text.items ≡ [] → (pushed : List ℕ) (lines : List (List ℕ)) → Stands plan pushed p lines → IsAll plan pushed p lines
end_none plan p empty pushed lines s = record {
  entries = s.entries;
  are = subst (AreEntries plan lines s.entries) (none_returned s.front (sym s.text_is ∙ empty)) s.are;
  given = s.given;
}

-- the number of the line behind the last of a message
behind_line : (lines front : List (List ℕ)) (text : List ℕ) (first told : ℕ) → lines_in text ≡ front → told ≡ min (first + (length (lines_in text) - 0)) (2 ^ 64 - 1)
    → first ≡ min (length lines - length front + 1) (2 ^ 64 - 1) → told ≡ min (length lines - length front + (length front + 1)) (2 ^ 64 - 1)
behind_line lines front text first told is t f = let same = ap length is in omega (arith, same, t, f)

some_text : (front : List (List ℕ)) (text : List ℕ) → text ≡ returned front → (text ≡ [] → ⊥) → front ≢ []
some_text [] text is some = λ e. some is
some_text (x ∷ front) text is some = λ e. cc e

end_line : (plan : Plan) (p : Place) (told : ℕ) (wrong : Wrong) (behind : ℕ) → (p.text.items ≡ [] → ⊥) → behind ≡ line_of p 0
    → RefusesEarlier plan p told wrong ⊎ RefusesHere plan p behind wrongs.Line told wrong → (pushed : List ℕ) (lines : List (List ℕ)) → Stands plan pushed p lines
    → StopsAtEnd plan pushed p lines told wrongs.Line
end_line plan p told wrong behind some is (inl r) pushed lines s =
    let front = front_is plan pushed p lines s in
    let from : RefusedFrom plan s.front r.left = subst (λ (ls : List (List ℕ)). RefusedFrom plan ls r.left) front r.refused in
    record {
      entries = s.entries;
      behind = s.front;
      are = s.are;
      number = length s.front - r.left + 1;
      refused = inl (subst (λ (ls : List (List ℕ)). HasOtherLine plan ls (length s.front - r.left + 1)) (append-nil s.front)
          (refused_line plan s.front [] r.left s.starts s.is_open tt from));
      line_is = r.told_is ∙ ap (λ (ls : List (List ℕ)). min (p.first + (length ls - r.left)) (2 ^ 64 - 1)) front
          ∙ line_in (length lines) (length s.front) p.first (length s.front - r.left) (s.first_is (some_text s.front p.text.items s.text_is some));
      given = s.given;
    }
end_line plan p told wrong behind some is (inr r) pushed lines s =
    let front = front_is plan pushed p lines s in
    let some_line = some_text s.front p.text.items s.text_is some in
    record {
      entries = s.entries;
      behind = s.front;
      are = s.are;
      number = length s.front + 1;
      refused = inr (record { some = some_line; starts = s.starts; is_open = s.is_open; may_stand = subst (MayStand plan) front r.none; number_is = refl });
      line_is = behind_line lines s.front p.text.items p.first told front (r.told_is ∙ is) (s.first_is some_line);
      given = s.given;
    }

wrong_is_line : (plan : Plan) (p : Place) (told behind : ℕ) (wrong : Wrong) → RefusesEarlier plan p told wrong ⊎ RefusesHere plan p behind wrongs.Line told wrong → wrong ≡ wrongs.Line
wrong_is_line plan p told behind wrong (inl r) = r.wrong_is
wrong_is_line plan p told behind wrong (inr r) = r.wrong_is

pub end_halts : (plan : Plan) (p : Place) (stop : Stop) (behind : ℕ) → (p.text.items ≡ [] → ⊥) → behind ≡ line_of p 0 → RefusesOne plan p behind wrongs.Line stop → HaltsAtEnd plan p p stop
end_halts plan p stops.Memory behind some is r = tt
end_halts plan p (stops.Wrong told wrong) behind some is r = λ pushed lines s.
    subst (λ (w : Wrong). StopsAtEnd plan pushed p lines told w) (sym (wrong_is_line plan p told behind wrong r)) (end_line plan p told wrong behind some is r pushed lines s)

-- ---- the beginning

pub nothing_read : (plan : Plan) (form : Form) (p : Place) → Starts form p → Stands plan [] p []
nothing_read plan form p b = record {
  entries = [];
  front = [];
  are = refl;
  starts = tt;
  is_open = none_open plan;
  feedless = All-nil IsFeedless;
  text_is = b.text_is;
  small = let none = ap length b.text_is in omega (arith, none);
  first_is = λ some. absurd (some refl);
  sender_is = b.sender_is;
  sender = subst IsSender (sym b.sender_is) (omega arith, omega arith);
  numbers_are = λ sender is. b.numbers_are sender is ∙ first sender is ∙ ap (λ (f : Form). number_behind f [] sender) (sym b.form_is);
  given = b.lines_are;
}
  where
    first : (sender : ℕ) → IsSender sender → first_of form sender ≡ number_behind form [] sender
    first sender is = let low = b.small sender is in let same = b.numbers_are sender is in omega (arith, low, same)
