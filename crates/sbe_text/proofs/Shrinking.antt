-- What is read of lines leaves fewer of them.
use Rattle.std.proofs.Common.{◌≡◌, ℕ, zero, suc, ◌+◌, ◌<◌, ◌≤◌, List, [], ◌∷◌, length, Option, Some, None, Result, Ok, Err, subst, arith}
use Rattle.std.specs.Prelude.{IfOk}
use Rattle.std.specs.Borrow.{Bor}
use Rattle.sbe_text.specs.declared.error.Refusal.{Refusal}
use Rattle.sbe_text.specs.Answers.{Gives}
use Rattle.sbe_value.specs.declared.message.Message.{Message}
use Rattle.sbe_value.specs.Trees.{GroupList}
use Rattle.sbe_layout.specs.declared.items.DataPlan.{DataPlan}
use Rattle.sbe_layout.specs.declared.items.ItemPlan.{ItemPlan}
use Rattle.sbe_layout.specs.declared.plan.MessagePlan.{MessagePlan}
use Rattle.sbe_layout.specs.Trees.{PlanHead, PlanTree, no_plans, plan}
use Rattle.sbe_grammar.specs.Reading.{Entry}
use Rattle.sbe_text.specs.declared.token.Count.{Count}
use Rattle.sbe_text.specs.declared.token.Count.TheVariants as count
use Rattle.text_words.specs.Lines.{lines_in}
use Rattle.sbe_text.specs.Read.{Read, next, taken, read_line, read_each}
use Rattle.sbe_text.specs.Tokens.{value_on}
use Rattle.sbe_text.specs.Written.{before_in}
use Rattle.sbe_text.specs.Reading.{read_element, read_item, read_datum, read_elements, repeated, entry_at, read_counted, read_group, read_groups, layout_on, read_body, read_message}

-- at most so many lines are left
abbrev pub Within : {A : Type 0} → ℕ → Read A → Type 0
Within n (Ok read) = length read.1 ≤ n
Within n (Err left) = Unit {0}

next-within : {A B : Type 0} (n : ℕ) (r : Read A) (more : A → List (List ℕ) → Read B) → Within n r → ((x : A) (rest : List (List ℕ)) → length rest ≤ n → Within n (more x rest)) → Within n (next r more)
next-within n (Ok read) more within each = each read.0 read.1 within
next-within n (Err left) more within each = tt

taken-within : {A : Type 0} (left : ℕ) (made : Option A) (rest : List (List ℕ)) (n : ℕ) → length rest ≤ n → Within n (taken left made rest)
taken-within left None rest n within = tt
taken-within left (Some x) rest n within = within

-- a line is read
line-within : {A : Type 0} (made : List ℕ → Option A) (ls : List (List ℕ)) (n : ℕ) → length ls ≤ suc n → Within n (read_line made ls)
line-within made [] n within = tt
line-within made (line ∷ rest) n within = taken-within (length (line ∷ rest)) (made line) rest n (omega arith)

line-least : {A : Type 0} (made : List ℕ → Option A) (ls : List (List ℕ)) (n : ℕ) → length ls ≤ n → Within n (read_line made ls)
line-least made [] n within = tt
line-least made (line ∷ rest) n within = taken-within (length (line ∷ rest)) (made line) rest n (omega arith)

element-within : {A : Type 0} (before name : List ℕ) (made : List ℕ → Option A) (n : ℕ) (ls : List (List ℕ)) → length ls ≤ n → Within n (read_element before name made ls)
element-within before name made n ls within =
    next-within n (read_line (value_on before name) ls) (λ value rest. taken (length ls) (made value) rest) (line-least (value_on before name) ls n within) (λ value rest less. taken-within (length ls) (made value) rest n less)

each-within : {P A : Type 0} (one : P → List (List ℕ) → Read A) (n : ℕ) → ((p : P) (ls : List (List ℕ)) → length ls ≤ n → Within n (one p ls)) → (ps : List P) (ls : List (List ℕ)) → length ls ≤ n → Within n (read_each one ps ls)
each-within one n each [] ls within = within
each-within one n each (p ∷ ps) ls within =
    next-within n (one p ls) (λ x rest. next (read_each one ps rest) (λ xs end. Ok (x ∷ xs, end))) (each p ls within)
    (λ x rest less. next-within n (read_each one ps rest) (λ xs end. Ok (x ∷ xs, end)) (each-within one n each ps rest less) (λ xs end last. last))

elements-within : (before : List ℕ) (plans : List ItemPlan) (inner : List (List ℕ) → Read GroupList) (data_plans : List DataPlan) (n : ℕ)
    → ((ls : List (List ℕ)) → length ls ≤ n → Within n (inner ls)) → (ls : List (List ℕ)) → length ls ≤ n → Within n (read_elements before plans inner data_plans ls)
elements-within before plans inner data_plans n inside ls within =
    next-within n (read_each (read_item before) plans ls) (λ items after. next (inner after) (λ groups behind. next (read_each (read_datum before) data_plans behind) (λ vars rest. Ok (record { items = items; groups = groups; vars = vars }, rest))))
    (each-within (read_item before) n (λ p ls less. element-within before p.name _ n ls less) plans ls within)
    (λ items after less. next-within n (inner after) (λ groups behind. next (read_each (read_datum before) data_plans behind) (λ vars rest. Ok (record { items = items; groups = groups; vars = vars }, rest)))
    (inside after less)
    (λ groups behind fewer. next-within n (read_each (read_datum before) data_plans behind) (λ vars rest. Ok (record { items = items; groups = groups; vars = vars }, rest))
    (each-within (read_datum before) n (λ d ls less. element-within before d.name _ n ls less) data_plans behind fewer) (λ vars rest last. last)))

repeated-within : (read : ℕ → List (List ℕ) → Read Entry) (n : ℕ) → ((at : ℕ) (ls : List (List ℕ)) → length ls ≤ n → Within n (read at ls)) → (k at : ℕ) (ls : List (List ℕ)) → length ls ≤ n → Within n (repeated k at read ls)
repeated-within read n each zero at ls within = within
repeated-within read n each (suc k) at ls within =
    next-within n (read at ls) _ (each at ls within) (λ e rest less. next-within n (repeated k (at + 1) read rest) _ (repeated-within read n each k (at + 1) rest less) (λ es end last. last))

counted-within : (before : List ℕ) (g : PlanHead) (inner : List ℕ → List (List ℕ) → Read GroupList) (n : ℕ)
    → ((path : List ℕ) (ls : List (List ℕ)) → length ls ≤ n → Within n (inner path ls)) → (told : Count) (ls : List (List ℕ)) → length ls ≤ n → Within n (read_counted before g inner told ls)
counted-within before g inner n inside count.Absent ls within = within
counted-within before g inner n inside (count.Entries k) ls within =
    next-within n (repeated k 0 (entry_at before g inner) ls) _
    (repeated-within (entry_at before g inner) n (λ at ls less. elements-within (before_in before g at) g.items (inner (before_in before g at)) g.vars n (inside (before_in before g at)) ls less) k 0 ls within) (λ bs rest last. last)

group-within : (before : List ℕ) (g : PlanHead) (inner : List ℕ → List (List ℕ) → Read GroupList) (n : ℕ)
    → ((path : List ℕ) (ls : List (List ℕ)) → length ls ≤ n → Within n (inner path ls)) → (ls : List (List ℕ)) → length ls ≤ n → Within n (read_group before g inner ls)
group-within before g inner n inside ls within =
    next-within n (read_element before g.name _ ls) _ (element-within before g.name _ n ls within) (λ told rest less. counted-within before g inner n inside told rest less)

groups-within : (tree : PlanTree) (before : List ℕ) (n : ℕ) (ls : List (List ℕ)) → length ls ≤ n → Within n (read_groups before tree ls)
groups-within no_plans before n ls within = within
groups-within (plan g inner rest) before n ls within =
    next-within n (read_group before g (λ path. read_groups path inner) ls) _
    (group-within before g (λ path. read_groups path inner) n (λ path ls less. groups-within inner path n ls less) ls within)
    (λ x behind less. next-within n (read_groups before rest behind) _ (groups-within rest before n behind less) (λ gs end last. last))

body-within : (layout : MessagePlan) (n : ℕ) (ls : List (List ℕ)) → length ls ≤ n → Within n (read_body layout ls)
body-within layout n ls within =
    next-within n (read_elements [] layout.root.items (read_groups [] layout.root.groups) layout.root.vars ls) _
    (elements-within [] layout.root.items (read_groups [] layout.root.groups) layout.root.vars n (λ ls less. groups-within layout.root.groups [] n ls less) ls within)
    (λ e rest less. next-within n (read_line _ rest) _ (line-least _ rest n less) (λ _ end last. last))

message-within : (messages : List MessagePlan) (ls : List (List ℕ)) (n : ℕ) → length ls ≤ suc n → Within n (read_message messages ls)
message-within messages ls n within =
    next-within n (read_line (layout_on messages) ls) (λ layout rest. read_body layout rest) (line-within (layout_on messages) ls n within) (λ layout rest less. body-within layout n rest less)

-- a message takes a line at least
pub message-shorter : (messages : List MessagePlan) (ls : List (List ℕ)) (m : Message) (rest : List (List ℕ)) → read_message messages ls ≡ Ok (m, rest) → length rest < length ls
message-shorter messages [] m rest e = absurd (cc)
message-shorter messages (line ∷ ls) m rest e =
    let within : Within (length ls) (read_message messages (line ∷ ls)) = message-within messages (line ∷ ls) (length ls) (omega arith) in
    let short : length rest ≤ length ls = subst (Within (length ls)) e within in
    omega arith

-- the same of what the reader answers
pub gives-shorter : (messages : List MessagePlan) (text : List ℕ) (r : Result (Message × Bor (List ℕ)) Refusal) → Gives (λ x. (x.0, lines_in x.1.now)) r (read_message messages (lines_in text)) → IfOk r (λ x. length (lines_in x.1.now) < length (lines_in text))
gives-shorter messages text (Ok x) told = message-shorter messages (lines_in text) x.0 (lines_in x.1.now) told
gives-shorter messages text (Err e) told = tt
