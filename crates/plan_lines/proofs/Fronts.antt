-- What is read of the front of some lines is read of more of them, and a message is read to its first line `end`.
use Rattle.std.proofs.Common.{◌≡◌, ◌≢◌, ℕ, zero, suc, ◌+◌, ◌<◌, ◌≤◌, ◌==◌, Bool, true, false, if◌then◌else◌, List, [], ◌∷◌, ◌++◌, length, take, drop, refl, ap, sym, subst, ◌∙◌, length-append, append_assoc, append-nil, arith}
use Rattle.std.specs.Prelude.{All, Option, Some, None, Result, Ok, Err, codes}
use Rattle.std.specs.Str.{bytes_eq}
use Rattle.std.proofs.lemmas.List.{take-append-drop}
use Rattle.std.proofs.lemmas.List.Elements.{All-append, All-cons, All-nil, All-head, All-tail}
use Rattle.std.proofs.lemmas.Slice.Eq.{bytes_eq-Decides}
use Rattle.sbe_value.specs.declared.message.Message.{Message}
use Rattle.sbe_value.specs.declared.tree.Group.{Group}
use Rattle.sbe_value.specs.Trees.{GroupList, BlockList}
use Rattle.sbe_layout.specs.declared.items.DataPlan.{DataPlan}
use Rattle.sbe_layout.specs.declared.items.ItemPlan.{ItemPlan}
use Rattle.sbe_layout.specs.declared.plan.MessagePlan.{MessagePlan}
use Rattle.sbe_layout.specs.Trees.{PlanHead, PlanTree, no_plans, plan}
use Rattle.sbe_grammar.specs.Fits.{form_of}
use Rattle.sbe_grammar.specs.Reading.{Entry}
use Rattle.sbe_text.specs.declared.token.Count.{Count}
use Rattle.sbe_text.specs.declared.token.Count.TheVariants as count
use Rattle.sbe_text.specs.Read.{Read, next, taken, read_line, read_each}
use Rattle.sbe_text.specs.Tokens.{also, behind, count_of, datum_of, is_line, value_of, value_on}
use Rattle.sbe_text.specs.Written.{before_in}
use Rattle.sbe_text.specs.Reading.{alone, entry_at, layout_on, message_with, read_body, read_counted, read_datum, read_element, read_elements, read_group, read_groups, read_item, read_message, repeated}

-- a line is another than `end`
abbrev pub GoesOn : List ℕ → Type 0
GoesOn line = line ≢ codes "end"

-- lines that are read end so, behind others of which none ends a message
pub record Ends (tail ls rest : List (List ℕ)) : Type 0 where
  pub front : List (List ℕ)
  pub split : ls ≡ front ++ (tail ++ rest)
  pub each : All GoesOn front

-- more lines change nothing where what is read ends before them, or where a line is refused
pub record IsFixed {A : Type 0} (r : List (List ℕ) → Read A) : Type 0 where
  pub more : (ls more : List (List ℕ)) (x : A) (rest : List (List ℕ)) → r ls ≡ Ok (x, rest) → r (ls ++ more) ≡ Ok (x, rest ++ more)
  pub fails : (ls more : List (List ℕ)) (left : ℕ) → 0 < left → r ls ≡ Err left → r (ls ++ more) ≡ Err (left + length more)

-- and what needs more lines has seen no `end`
pub record IsSteady {A : Type 0} (tail : List (List ℕ)) (r : List (List ℕ) → Read A) : Type 0 where
  pub fixed : IsFixed r
  pub ends : (ls : List (List ℕ)) (x : A) (rest : List (List ℕ)) → r ls ≡ Ok (x, rest) → Ends tail ls rest
  pub needs : (ls : List (List ℕ)) → r ls ≡ Err 0 → All GoesOn ls

-- ---- one after another

ends_more : (tail ls mid rest : List (List ℕ)) → Ends [] ls mid → Ends tail mid rest → Ends tail ls rest
ends_more tail ls mid rest a b = record {
  front = a.front ++ b.front;
  split = a.split ∙ ap (λ (m : List (List ℕ)). a.front ++ m) b.split ∙ sym (append_assoc a.front b.front (tail ++ rest));
  each = All-append GoesOn a.front b.front a.each b.each;
}

needs_more : (ls mid : List (List ℕ)) → Ends [] ls mid → All GoesOn mid → All GoesOn ls
needs_more ls mid a all = subst (All GoesOn) (sym a.split) (All-append GoesOn a.front mid a.each all)

module _ {A B : Type 0} (r : List (List ℕ) → Read A) (f : A → List (List ℕ) → Read B) where
  next_more : IsFixed r → ((x : A) → IsFixed (f x)) → (ls more : List (List ℕ)) (y : B) (rest : List (List ℕ)) (t : Read A) → r ls ≡ t → next t f ≡ Ok (y, rest)
      → next (r (ls ++ more)) f ≡ Ok (y, rest ++ more)
  next_more s each ls more y rest (Ok read) is e = ap (λ (t : Read A). next t f) (s.more ls more read.0 read.1 is) ∙ (each read.0).more read.1 more y rest e
  next_more s each ls more y rest (Err left) is e = cc

  next_fails : IsFixed r → ((x : A) → IsFixed (f x)) → (ls more : List (List ℕ)) (left : ℕ) → 0 < left → (t : Read A) → r ls ≡ t → next t f ≡ Err left
      → next (r (ls ++ more)) f ≡ Err (left + length more)
  next_fails s each ls more left some (Ok read) is e = ap (λ (t : Read A). next t f) (s.more ls more read.0 read.1 is) ∙ (each read.0).fails read.1 more left some e
  next_fails s each ls more left some (Err k) is e =
      let same : k ≡ left = cc in ap (λ (t : Read A). next t f) (s.fails ls more left some (is ∙ ap (λ (n : ℕ). Err n) same))

  next_fixed : IsFixed r → ((x : A) → IsFixed (f x)) → IsFixed (λ ls. next (r ls) f)
  next_fixed s each = record {
    more = λ ls more y rest e. next_more s each ls more y rest (r ls) refl e;
    fails = λ ls more left some e. next_fails s each ls more left some (r ls) refl e;
  }

  next_ends : (tail : List (List ℕ)) → IsSteady [] r → ((x : A) → IsSteady tail (f x)) → (ls : List (List ℕ)) (y : B) (rest : List (List ℕ)) (t : Read A) → r ls ≡ t → next t f ≡ Ok (y, rest)
      → Ends tail ls rest
  next_ends tail s each ls y rest (Ok read) is e = ends_more tail ls read.1 rest (s.ends ls read.0 read.1 is) ((each read.0).ends read.1 y rest e)
  next_ends tail s each ls y rest (Err left) is e = absurd (cc)

  next_needs : (tail : List (List ℕ)) → IsSteady [] r → ((x : A) → IsSteady tail (f x)) → (ls : List (List ℕ)) (t : Read A) → r ls ≡ t → next t f ≡ Err 0 → All GoesOn ls
  next_needs tail s each ls (Ok read) is e = needs_more ls read.1 (s.ends ls read.0 read.1 is) ((each read.0).needs read.1 e)
  next_needs tail s each ls (Err k) is e = let same : k ≡ 0 = cc in s.needs ls (is ∙ ap (λ (n : ℕ). Err n) same)

  next_steady : (tail : List (List ℕ)) → IsSteady [] r → ((x : A) → IsSteady tail (f x)) → IsSteady tail (λ ls. next (r ls) f)
  next_steady tail s each = record {
    fixed = next_fixed s.fixed (λ x. (each x).fixed);
    ends = λ ls y rest e. next_ends tail s each ls y rest (r ls) refl e;
    needs = λ ls e. next_needs tail s each ls (r ls) refl e;
  }

made_fixed : {A : Type 0} (x : A) → IsFixed (λ ls. Ok (x, ls))
made_fixed {A} x = record {
  more = λ ls more y rest e. let same : (x, ls) ≡ (y, rest) = cc in ap (λ (p : A × List (List ℕ)). Ok (p.0, p.1 ++ more)) same;
  fails = λ ls more left some e. cc;
}

made_steady : {A : Type 0} (x : A) → IsSteady [] (λ ls. Ok (x, ls))
made_steady {A} x = record {
  fixed = made_fixed x;
  ends = λ ls y rest e. record { front = []; split = let same : (x, ls) ≡ (y, rest) = cc in ap (λ (p : A × List (List ℕ)). p.1) same; each = All-nil GoesOn };
  needs = λ ls e. absurd (cc);
}

-- ---- one line

module _ {A : Type 0} (made : List ℕ → Option A) where
  taken_more : (line : List ℕ) (rest more : List (List ℕ)) (y : A) (after : List (List ℕ)) (o : Option A) → made line ≡ o → taken (length (line ∷ rest)) o rest ≡ Ok (y, after)
      → taken (length (line ∷ (rest ++ more))) (made line) (rest ++ more) ≡ Ok (y, after ++ more)
  taken_more line rest more y after None is e = cc
  taken_more line rest more y after (Some x) is e =
      let same : (x, rest) ≡ (y, after) = cc in
      ap (λ (o : Option A). taken (length (line ∷ (rest ++ more))) o (rest ++ more)) is ∙ ap (λ (p : A × List (List ℕ)). Ok (p.0, p.1 ++ more)) same

  taken_fails : (line : List ℕ) (rest more : List (List ℕ)) (left : ℕ) (o : Option A) → made line ≡ o → taken (length (line ∷ rest)) o rest ≡ Err left
      → taken (length (line ∷ (rest ++ more))) (made line) (rest ++ more) ≡ Err (left + length more)
  taken_fails line rest more left None is e =
      let same : length (line ∷ rest) ≡ left = cc in
      let long = length-append rest more in
      let all : length (line ∷ (rest ++ more)) ≡ left + length more = omega (arith, same, long) in
      ap (λ (o : Option A). taken (length (line ∷ (rest ++ more))) o (rest ++ more)) is ∙ ap (λ (n : ℕ). Err n) all
  taken_fails line rest more left (Some x) is e = cc

  taken_ends : (line : List ℕ) (rest : List (List ℕ)) (y : A) (after : List (List ℕ)) → made (codes "end") ≡ None → (o : Option A) → made line ≡ o → taken (length (line ∷ rest)) o rest ≡ Ok (y, after)
      → Ends [] (line ∷ rest) after
  taken_ends line rest y after none None is e = absurd (cc)
  taken_ends line rest y after none (Some x) is e = record {
    front = line ∷ [];
    split = let same : (x, rest) ≡ (y, after) = cc in ap (λ (p : A × List (List ℕ)). line ∷ p.1) same;
    each = All-cons GoesOn line [] (λ end. let both : None ≡ Some x = sym none ∙ ap made (sym end) ∙ is in cc) (All-nil GoesOn);
  }

  taken_some : (line : List ℕ) (rest : List (List ℕ)) (o : Option A) → taken (length (line ∷ rest)) o rest ≡ Err 0 → ⊥
  taken_some line rest None e = let same : length (line ∷ rest) ≡ 0 = cc in omega (arith, same)
  taken_some line rest (Some x) e = cc

  line_more : (ls more : List (List ℕ)) (y : A) (rest : List (List ℕ)) → read_line made ls ≡ Ok (y, rest) → read_line made (ls ++ more) ≡ Ok (y, rest ++ more)
  line_more [] more y rest e = cc
  line_more (line ∷ ls) more y rest e = taken_more line ls more y rest (made line) refl e

  line_fails : (ls more : List (List ℕ)) (left : ℕ) → 0 < left → read_line made ls ≡ Err left → read_line made (ls ++ more) ≡ Err (left + length more)
  line_fails [] more left some e = let same : 0 ≡ left = cc in absurd (omega (arith, same, some))
  line_fails (line ∷ ls) more left some e = taken_fails line ls more left (made line) refl e

  line_ends : (ls : List (List ℕ)) (y : A) (rest : List (List ℕ)) → made (codes "end") ≡ None → read_line made ls ≡ Ok (y, rest) → Ends [] ls rest
  line_ends [] y rest none e = absurd (cc)
  line_ends (line ∷ ls) y rest none e = taken_ends line ls y rest none (made line) refl e

  line_needs : (ls : List (List ℕ)) → read_line made ls ≡ Err 0 → All GoesOn ls
  line_needs [] e = All-nil GoesOn
  line_needs (line ∷ ls) e = absurd (taken_some line ls (made line) e)

  line_fixed : IsFixed (read_line made)
  line_fixed = record { more = line_more; fails = line_fails }

  line_steady : made (codes "end") ≡ None → IsSteady [] (read_line made)
  line_steady none = record { fixed = line_fixed; ends = λ ls y rest e. line_ends ls y rest none e; needs = line_needs }

-- ---- the line of an element

front_of : (front bytes rest : List ℕ) (t : Bool) → bytes_eq (take (length front) bytes) front ≡ t → (if t then Some (drop (length front) bytes) else None) ≡ Some rest → bytes ≡ front ++ rest
front_of front bytes rest true is e =
    let same : take (length front) bytes ≡ front = (bytes_eq-Decides (take (length front) bytes) front).0 is in
    let left : drop (length front) bytes ≡ rest = cc in
    let whole = take-append-drop (length front) bytes in
    cc
front_of front bytes rest false is e = cc

behind_is : (front bytes rest : List ℕ) → behind front bytes ≡ Some rest → bytes ≡ front ++ rest
behind_is front bytes rest e = front_of front bytes rest (bytes_eq (take (length front) bytes) front) refl e

heads : (a b : ℕ) (xs ys : List ℕ) → a ∷ xs ≡ b ∷ ys → a ≡ b
heads a b xs ys e = cc

-- `end` has no path, and no ` = `
no_path : (before name value : List ℕ) → codes "end" ≡ before ++ (name ++ (codes " = " ++ value)) → ⊥
no_path [] [] value e = let first = heads 101 32 (110 ∷ 100 ∷ []) (61 ∷ 32 ∷ value) e in omega (arith, first)
no_path [] (b ∷ name) value e =
    let whole = ap length e in let rest = length-append name (codes " = " ++ value) in let word = length-append (codes " = ") value in omega (arith, whole, rest, word)
no_path (b ∷ before) name value e =
    let whole = ap length e in
    let first = length-append before (name ++ (codes " = " ++ value)) in
    let rest = length-append name (codes " = " ++ value) in
    let word = length-append (codes " = ") value in
    omega (arith, whole, first, rest, word)

none_of : {A : Type 0} (o : Option A) → ((x : A) → o ≡ Some x → ⊥) → o ≡ None
none_of None no_one = refl
none_of (Some x) no_one = absurd (no_one x refl)

name_words : (name line value : List ℕ) (o : Option (List ℕ)) → behind name line ≡ o → also o (behind (codes " = ")) ≡ Some value → line ≡ name ++ (codes " = " ++ value)
name_words name line value None is e = cc
name_words name line value (Some rest) is e = behind_is name line rest is ∙ ap (λ (bs : List ℕ). name ++ bs) (behind_is (codes " = ") rest value e)

path_words : (before name line value : List ℕ) (o : Option (List ℕ)) → behind before line ≡ o → also (also o (behind name)) (behind (codes " = ")) ≡ Some value
    → line ≡ before ++ (name ++ (codes " = " ++ value))
path_words before name line value None is e = cc
path_words before name line value (Some rest) is e = behind_is before line rest is ∙ ap (λ (bs : List ℕ). before ++ bs) (name_words name rest value (behind name rest) refl e)

no_value : (before name : List ℕ) → value_on before name (codes "end") ≡ None
no_value before name =
    none_of (value_on before name (codes "end")) (λ value e. no_path before name value (path_words before name (codes "end") value (behind before (codes "end")) refl e))

element_is : {A : Type 0} (before name : List ℕ) (made : List ℕ → Option A) (ls : List (List ℕ)) → read_element before name made ls ≡ read_line (λ line. also (value_on before name line) made) ls
element_is before name made [] = refl
element_is {A} before name made (line ∷ rest) = by (value_on before name line)
  where
    by : (o : Option (List ℕ)) → next (taken (length (line ∷ rest)) o rest) (λ value after. taken (length (line ∷ rest)) (made value) after) ≡ taken (length (line ∷ rest)) (also o made) rest
    by None = refl
    by (Some value) = refl

element_steady : {A : Type 0} (before name : List ℕ) (made : List ℕ → Option A) → IsSteady [] (read_element before name made)
element_steady {A} before name made =
    let same = element_is before name made in
    let s : IsSteady [] (read_line (λ line. also (value_on before name line) made)) = line_steady (λ line. also (value_on before name line) made) (ap (λ (o : Option (List ℕ)). also o made) (no_value before name)) in
    record {
      fixed = record {
        more = λ ls more x rest e. same (ls ++ more) ∙ s.fixed.more ls more x rest (sym (same ls) ∙ e);
        fails = λ ls more left some e. same (ls ++ more) ∙ s.fixed.fails ls more left some (sym (same ls) ∙ e);
      };
      ends = λ ls x rest e. s.ends ls x rest (sym (same ls) ∙ e);
      needs = λ ls e. s.needs ls (sym (same ls) ∙ e);
    }

-- ---- blocks and groups

each_steady : {P A : Type 0} (one : P → List (List ℕ) → Read A) → ((p : P) → IsSteady [] (one p)) → (ps : List P) → IsSteady [] (read_each one ps)
each_steady one s [] = made_steady []
each_steady one s (p ∷ ps) =
    next_steady (one p) (λ x rest. next (read_each one ps rest) (λ xs end. Ok (x ∷ xs, end))) [] (s p)
    (λ x. next_steady (read_each one ps) (λ xs end. Ok (x ∷ xs, end)) [] (each_steady one s ps) (λ xs. made_steady (x ∷ xs)))

elements_steady : (before : List ℕ) (plans : List ItemPlan) (inner : List (List ℕ) → Read GroupList) (data_plans : List DataPlan) → IsSteady [] inner
    → IsSteady [] (read_elements before plans inner data_plans)
elements_steady before plans inner data_plans inside =
    next_steady (read_each (read_item before) plans) _ [] (each_steady (read_item before) (λ p. element_steady before p.name (value_of (form_of p))) plans)
    (λ items. next_steady inner _ [] inside
    (λ groups. next_steady (read_each (read_datum before) data_plans) _ [] (each_steady (read_datum before) (λ d. element_steady before d.name datum_of) data_plans)
    (λ vars. made_steady (record { items = items; groups = groups; vars = vars }))))

repeated_steady : (read : ℕ → List (List ℕ) → Read Entry) → ((at : ℕ) → IsSteady [] (read at)) → (n at : ℕ) → IsSteady [] (repeated n at read)
repeated_steady read s zero at = made_steady _
repeated_steady read s (suc n) at =
    next_steady (read at) _ [] (s at) (λ e. next_steady (repeated n (at + 1) read) _ [] (repeated_steady read s n (at + 1)) (λ es. made_steady _))

counted_steady : (before : List ℕ) (g : PlanHead) (inner : List ℕ → List (List ℕ) → Read GroupList) → ((path : List ℕ) → IsSteady [] (inner path)) → (told : Count) → IsSteady [] (read_counted before g inner told)
counted_steady before g inner inside count.Absent = made_steady _
counted_steady before g inner inside (count.Entries n) =
    next_steady (repeated n 0 (entry_at before g inner)) _ []
    (repeated_steady (entry_at before g inner) (λ at. elements_steady (before_in before g at) g.items (inner (before_in before g at)) g.vars (inside (before_in before g at))) n 0) (λ bs. made_steady _)

group_steady : (before : List ℕ) (g : PlanHead) (inner : List ℕ → List (List ℕ) → Read GroupList) → ((path : List ℕ) → IsSteady [] (inner path)) → IsSteady [] (read_group before g inner)
group_steady before g inner inside = next_steady (read_element before g.name count_of) _ [] (element_steady before g.name count_of) (λ told. counted_steady before g inner inside told)

groups_steady : (tree : PlanTree) (before : List ℕ) → IsSteady [] (read_groups before tree)
groups_steady no_plans before = made_steady _
groups_steady (plan g inner rest) before =
    next_steady (read_group before g (λ path. read_groups path inner)) _ [] (group_steady before g (λ path. read_groups path inner) (λ path. groups_steady inner path))
    (λ x. next_steady (read_groups before rest) _ [] (groups_steady rest before) (λ gs. made_steady _))

-- ---- a message

-- the line `end` stands right before what is left
end_ends : {A : Type 0} (x y : A) (line : List ℕ) (ls rest : List (List ℕ)) (t : Bool) → bytes_eq line (codes "end") ≡ t
    → next (taken (length (line ∷ ls)) (if t then Some line else None) ls) (λ _ behind. Ok (x, behind)) ≡ Ok (y, rest) → Ends (codes "end" ∷ []) (line ∷ ls) rest
end_ends x y line ls rest false is e = absurd (cc)
end_ends {A} x y line ls rest true is e = record {
  front = [];
  split =
      let same : (x, ls) ≡ (y, rest) = cc in
      let word : line ≡ codes "end" = (bytes_eq-Decides line (codes "end")).0 is in
      ap (λ (bs : List ℕ). bs ∷ ls) word ∙ ap (λ (p : A × List (List ℕ)). codes "end" ∷ p.1) same;
  each = All-nil GoesOn;
}

end_steady : {A : Type 0} (x : A) → IsSteady (codes "end" ∷ []) (λ ls. next (read_line (is_line (codes "end")) ls) (λ _ behind. Ok (x, behind)))
end_steady {A} x = record { fixed = next_fixed (read_line (is_line (codes "end"))) (λ _ behind. Ok (x, behind)) (line_fixed (is_line (codes "end"))) (λ _. made_fixed x); ends = ends; needs = needs }
  where
    ends : (ls : List (List ℕ)) (y : A) (rest : List (List ℕ)) → next (read_line (is_line (codes "end")) ls) (λ _ behind. Ok (x, behind)) ≡ Ok (y, rest) → Ends (codes "end" ∷ []) ls rest
    ends [] y rest e = absurd (cc)
    ends (line ∷ ls) y rest e = end_ends x y line ls rest (bytes_eq line (codes "end")) refl e

    needed : (ls : List (List ℕ)) (t : Read (List ℕ)) → read_line (is_line (codes "end")) ls ≡ t → next t (λ _ behind. Ok (x, behind)) ≡ Err 0 → All GoesOn ls
    needed ls (Ok read) is e = absurd (cc)
    needed ls (Err k) is e = let same : k ≡ 0 = cc in line_needs (is_line (codes "end")) ls (is ∙ ap (λ (n : ℕ). Err n) same)

    needs : (ls : List (List ℕ)) → next (read_line (is_line (codes "end")) ls) (λ _ behind. Ok (x, behind)) ≡ Err 0 → All GoesOn ls
    needs ls e = needed ls (read_line (is_line (codes "end")) ls) refl e

pub message_steady : (messages : List MessagePlan) → IsSteady (codes "end" ∷ []) (read_message messages)
message_steady messages =
    next_steady (read_line (layout_on messages)) read_body (codes "end" ∷ []) (line_steady (layout_on messages) refl)
    (λ layout. next_steady (read_elements [] layout.root.items (read_groups [] layout.root.groups) layout.root.vars) _ (codes "end" ∷ [])
    (elements_steady [] layout.root.items (read_groups [] layout.root.groups) layout.root.vars (groups_steady layout.root.groups []))
    (λ e. end_steady (message_with layout.template e)))

-- ---- the line `end`

has_end : (front : List (List ℕ)) → All GoesOn (front ++ codes "end" ∷ []) → ⊥
has_end [] all = All-head GoesOn (codes "end") [] all refl
has_end (x ∷ front) all = has_end front (All-tail GoesOn x (front ++ codes "end" ∷ []) all)

-- the strict form asks for nothing behind it
pub asks_none : (messages : List MessagePlan) (front : List (List ℕ)) → read_message messages (front ++ codes "end" ∷ []) ≡ Err 0 → ⊥
asks_none messages front e = has_end front ((message_steady messages).needs (front ++ codes "end" ∷ []) e)
