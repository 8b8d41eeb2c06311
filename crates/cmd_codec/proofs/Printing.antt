-- How far the layout of a schema was printed.
use Rattle.std.proofs.Common.{◌≡◌, ℕ, ◌+◌, ◌<◌, ◌≤◌, List, [], ◌++◌, length, get_or, take, drop, Option, refl, sym, ap, subst, ◌∙◌, append_assoc, append-nil, arith, length-append}
use Rattle.std.proofs.lemmas.List.{drop_more, drop_all}
use Rattle.std.proofs.Math.Seq.{take-append-add}
use Rattle.std.proofs.lemmas.List.{take-append-le}
use Rattle.std.specs.Io.KnownBytes.{Appends}
use Rattle.std.proofs.KnownBytes.{Appends-trans}
use Rattle.gw_outside.specs.Faults.{TakesFront}
use Rattle.schema_types.specs.declared.types.TypeDef.{TypeDef}
use Rattle.schema_types.specs.declared.messages.MessageDef.{MessageDef}
use Rattle.sbe_layout.specs.Plans.{message_plan, message_plans}
use Rattle.layout_text.specs.Lines.{lines_of_message, lines_of_messages}

-- the lines of the layout of a message, and of messages, by the types of their schema
abbrev pub lines_of : List TypeDef → MessageDef → List ℕ
lines_of types m = lines_of_message (message_plan types m)

abbrev pub lines_of_all : List TypeDef → List MessageDef → List ℕ
lines_of_all types ms = lines_of_messages (message_plans types ms)

-- these lines were pushed, and with those of the messages from place i on they are all
pub record Printed (types : List TypeDef) (messages : List MessageDef) (i : ℕ) (old now : Option (List ℕ)) : Type 0 where
  pub lines : List ℕ
  pub joins : lines_of_all types messages ≡ lines ++ lines_of_all types (drop i messages)
  pub appended : Appends old now lines

-- one message at the front of those that are left
left_at : (types : List TypeDef) (messages : List MessageDef) (i : ℕ) (m : MessageDef) → i < length messages → get_or messages i m ≡ m
    → lines_of_all types (drop i messages) ≡ lines_of types m ++ lines_of_all types (drop (i + 1) messages)
left_at types messages i m below same = rw (drop_more messages i m below, same) refl

pub printed_more : (types : List TypeDef) (messages : List MessageDef) (i : ℕ) (m : MessageDef) (old mid new : Option (List ℕ)) → i < length messages → get_or messages i m ≡ m
    → Printed types messages i old mid → Appends mid new (lines_of types m) → Printed types messages (i + 1) old new
printed_more types messages i m old mid new below same p more = record {
  lines = p.lines ++ lines_of types m;
  joins = p.joins ∙ ap (λ l. p.lines ++ l) (left_at types messages i m below same) ∙ sym (append_assoc p.lines (lines_of types m) (lines_of_all types (drop (i + 1) messages)));
  appended = Appends-trans old mid new p.lines (lines_of types m) p.appended more;
}

-- a front of all lines was taken where a front of a message's lines was
pub printed_front : (types : List TypeDef) (messages : List MessageDef) (i : ℕ) (m : MessageDef) (old mid new : Option (List ℕ)) → i < length messages → get_or messages i m ≡ m
    → Printed types messages i old mid → TakesFront mid new (lines_of types m) → TakesFront old new (lines_of_all types messages)
printed_front types messages i m old mid new below same p front =
    let rest = lines_of_all types (drop (i + 1) messages) in
    let all : lines_of_all types messages ≡ p.lines ++ (lines_of types m ++ rest) = p.joins ∙ ap (λ l. p.lines ++ l) (left_at types messages i m below same) in
    let taken : take (length p.lines + front.count) (lines_of_all types messages) ≡ p.lines ++ take front.count (lines_of types m) =
    ap (take (length p.lines + front.count)) all ∙ take-append-add p.lines (lines_of types m ++ rest) front.count ∙ ap (λ l. p.lines ++ l) (take-append-le front.count (lines_of types m) rest front.within) in
    let long : length (lines_of_all types messages) ≡ length p.lines + (length (lines_of types m) + length rest) =
    ap length all ∙ length-append p.lines (lines_of types m ++ rest) ∙ ap (λ n. length p.lines + n) (length-append (lines_of types m) rest) in
    record {
      count = length p.lines + front.count;
      within = omega (arith, long, front.within);
      appended = subst (Appends old new) (sym taken) (Appends-trans old mid new p.lines (take front.count (lines_of types m)) p.appended front.appended);
    }

-- nothing is a front too
pub printed_none : (lines : List ℕ) (old now : Option (List ℕ)) → Appends old now [] → TakesFront old now lines
printed_none lines old now a = record { count = 0; within = omega arith; appended = a }

-- what was printed so far is a front
pub printed_so_far : (types : List TypeDef) (messages : List MessageDef) (i : ℕ) (old now : Option (List ℕ)) → Printed types messages i old now → TakesFront old now (lines_of_all types messages)
printed_so_far types messages i old now p =
    let rest = lines_of_all types (drop i messages) in
    let taken : take (length p.lines + 0) (lines_of_all types messages) ≡ p.lines ++ [] = ap (take (length p.lines + 0)) p.joins ∙ take-append-add p.lines rest 0 in
    let long : length (lines_of_all types messages) ≡ length p.lines + length rest = ap length p.joins ∙ length-append p.lines rest in
    record {
      count = length p.lines + 0;
      within = omega (arith, long);
      appended = subst (Appends old now) (sym (taken ∙ append-nil p.lines)) p.appended;
    }

-- all was printed
pub printed_all : (types : List TypeDef) (messages : List MessageDef) (i : ℕ) (old now : Option (List ℕ)) → length messages ≤ i → Printed types messages i old now → Appends old now (lines_of_all types messages)
printed_all types messages i old now past p =
    let none : lines_of_all types messages ≡ p.lines = p.joins ∙ rw (drop_all i messages past) (append-nil p.lines) in
    subst (Appends old now) (sym none) p.appended
