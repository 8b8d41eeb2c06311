-- A message is read of bytes exactly where they spell it.
use Rattle.std.proofs.Common.{◌≡◌, ◌↔◌, ℕ, ◌+◌, ◌≤◌, Bool, true, false, List, [], ◌++◌, length, take, drop, refl, sym, ◌∙◌, ap, subst, append_assoc, arith}
use Rattle.std.specs.Prelude.{⊤, ◌==◌, Option, Some, None, Ok, Err}
use Rattle.std.proofs.lemmas.List.{take-append-drop, length-append, length-take, length-drop, drop-drop, drop_all, append-nil}
use Rattle.std.proofs.lemmas.Bool.Decides.{nat_tests}
use Rattle.std.proofs.Math.Seq.{drop-append_seam, take-append_seam}
use Rattle.sbe_prim.specs.declared.Primitive.TheVariants.{UInt16}
use Rattle.sbe_prim.specs.declared.Order.{Order}
use Rattle.sbe_value.specs.declared.message.Message.{Message}
use Rattle.sbe_layout.specs.declared.blocks.BlockPlan.{BlockPlan}
use Rattle.sbe_layout.specs.declared.plan.MessagePlan.{MessagePlan}
use Rattle.sbe_layout.specs.declared.plan.Plan.{Plan}
use Rattle.sbe_layout.specs.Plans.{message_of}
use Rattle.sbe_grammar.specs.Parts.{Then, IsNumber, unsigned}
use Rattle.sbe_grammar.specs.Spelling.{IsBlock, SpellsData, SpellsGroups, Spells}
use Rattle.sbe_grammar.specs.Reading.{Read, next, read_bytes, read_block, read_data, read_groups, Header, header_in, read_body, read_by, read_headed, alone, message_in}
use Rattle.sbe_grammar.proofs.ElementsRead.{fault_gives_nothing, same_given, links, chained, cut, uncut, same_read, block_spelled, block_read, data_spelled, data_read, groups_spelled, groups_read}

-- ---- the body

-- a root block, groups and data, and any bytes
abbrev Body : Order → ℕ → ℕ → BlockPlan → Message → List ℕ → Type 0
Body order version size root m =
    Then (IsBlock order version size root.marks root.items m.root.items) (Then (SpellsGroups order version m.root.groups root.groups) (Then (SpellsData order version m.root.vars root.vars) (λ rest. ⊤)))

record IsBody (order : Order) (version size : ℕ) (root : BlockPlan) (template : ℕ) (m : Message) (left : List ℕ) : Type 0 where
  template_is : template ≡ m.template
  body : Body order version size root m left

body_spelled : (order : Order) (total version size : ℕ) (root : BlockPlan) (template : ℕ) (left : List ℕ) (m : Message) (rest : List ℕ) → read_body order version total size root template left ≡ Ok (m, rest) → IsBody order version size root template m left
body_spelled order total version size root template left m rest e =
    let one = links (read_block order version total size root.marks root.items left) (λ items after. next (read_groups order version total root.groups after) (λ groups behind. next (read_data order version total root.vars behind) (λ vars end. Ok (record { template = template; root = record { items = items; groups = groups; vars = vars } }, end)))) m rest e in
    let two = links (read_groups order version total root.groups one.mid) (λ groups behind. next (read_data order version total root.vars behind) (λ vars end. Ok (record { template = template; root = record { items = one.value; groups = groups; vars = vars } }, end))) m rest one.second in
    let three = links (read_data order version total root.vars two.mid) (λ vars end. Ok (record { template = template; root = record { items = one.value; groups = two.value; vars = vars } }, end)) m rest two.second in
    let is = same_read three.second in
    let items = block_spelled order version total size root.marks root.items one.value left one.mid one.first in
    let groups = groups_spelled order version total root.groups two.value one.mid two.mid two.first in
    let vars = data_spelled order version total root.vars three.value two.mid three.mid three.first in
    let made : IsBody order version size root template (record { template = template; root = record { items = one.value; groups = two.value; vars = three.value } }) left = record {
      template_is = refl;
      body = record {
        front = items.front;
        behind = one.mid;
        joined = items.joined;
        is_front = items.spelled;
        is_behind = record {
          front = groups.front;
          behind = two.mid;
          joined = groups.joined;
          is_front = groups.spelled;
          is_behind = record { front = vars.front; behind = three.mid; joined = vars.joined; is_front = vars.spelled; is_behind = tt };
        };
      };
    } in
    let P : Message → Type 0 = λ n. IsBody order version size root template n left in
    subst P is.value made

body_read : (order : Order) (total version size : ℕ) (root : BlockPlan) (m : Message) (left : List ℕ) → (s : Body order version size root m left) → read_body order version total size root m.template left ≡ Ok (m, s.is_behind.is_behind.behind)
body_read order total version size root m left s =
    let groups = s.is_behind in
    let vars = groups.is_behind in
    let one : read_block order version total size root.marks root.items left ≡ Ok (m.root.items, s.behind) =
    ap (λ (xs : List ℕ). read_block order version total size root.marks root.items xs) s.joined
    ∙ block_read order version total size root.marks root.items m.root.items s.front s.behind s.is_front in
    let two : read_groups order version total root.groups s.behind ≡ Ok (m.root.groups, groups.behind) =
    ap (λ (xs : List ℕ). read_groups order version total root.groups xs) groups.joined
    ∙ groups_read m.root.groups order version total root.groups groups.front groups.behind groups.is_front in
    let three : read_data order version total root.vars groups.behind ≡ Ok (m.root.vars, vars.behind) =
    ap (λ (xs : List ℕ). read_data order version total root.vars xs) vars.joined
    ∙ data_read order version total m.root.vars root.vars vars.front vars.behind vars.is_front in
    chained (λ items after. next (read_groups order version total root.groups after) (λ groups behind. next (read_data order version total root.vars behind) (λ vars end. Ok (record { template = m.template; root = record { items = items; groups = groups; vars = vars } }, end)))) one
    ∙ chained (λ groups behind. next (read_data order version total root.vars behind) (λ vars end. Ok (record { template = m.template; root = record { items = m.root.items; groups = groups; vars = vars } }, end))) two
    ∙ chained (λ vars end. Ok (record { template = m.template; root = record { items = m.root.items; groups = m.root.groups; vars = vars } }, end)) three

-- ---- the header

-- four parts of two bytes
record Fours (header : List ℕ) : Type 0 where
  joined : (more : List ℕ) → header ++ more ≡ take 2 header ++ (take 2 (drop 2 header) ++ (take 2 (drop 4 header) ++ (take 2 (drop 6 header) ++ more)))
  first : length (take 2 header) ≡ 2
  second : length (take 2 (drop 2 header)) ≡ 2
  third : length (take 2 (drop 4 header)) ≡ 2
  fourth : length (take 2 (drop 6 header)) ≡ 2

two_long : (n : ℕ) (bytes : List ℕ) → n + 2 ≤ length bytes → length (take 2 (drop n bytes)) ≡ 2
two_long n bytes long = simp (length-take, length-drop) (omega (arith, long))

two_off : (n : ℕ) (bytes : List ℕ) → drop n bytes ≡ take 2 (drop n bytes) ++ drop (n + 2) bytes
two_off n bytes = sym (take-append-drop 2 (drop n bytes)) ∙ ap (λ (xs : List ℕ). take 2 (drop n bytes) ++ xs) (drop-drop 2 n bytes)

fours : (header : List ℕ) → length header ≡ 8 → Fours header
fours header whole =
    let behind_all : drop 8 header ≡ [] = drop_all 8 header (omega (arith, whole)) in
    let first : header ≡ take 2 header ++ drop 2 header = sym (take-append-drop 2 header) in
    record {
      joined = λ more.
          ap (λ (xs : List ℕ). xs ++ more) first
          ∙ append_assoc (take 2 header) (drop 2 header) more
          ∙ ap (λ (xs : List ℕ). take 2 header ++ xs) (
          ap (λ (xs : List ℕ). xs ++ more) (two_off 2 header)
          ∙ append_assoc (take 2 (drop 2 header)) (drop 4 header) more
          ∙ ap (λ (xs : List ℕ). take 2 (drop 2 header) ++ xs) (
          ap (λ (xs : List ℕ). xs ++ more) (two_off 4 header)
          ∙ append_assoc (take 2 (drop 4 header)) (drop 6 header) more
          ∙ ap (λ (xs : List ℕ). take 2 (drop 4 header) ++ xs) (
          ap (λ (xs : List ℕ). xs ++ more) (two_off 6 header ∙ ap (λ (xs : List ℕ). take 2 (drop 6 header) ++ xs) behind_all)
          ∙ append_assoc (take 2 (drop 6 header)) [] more)));
      first = two_long 0 header (omega (arith, whole));
      second = two_long 2 header (omega (arith, whole));
      third = two_long 4 header (omega (arith, whole));
      fourth = two_long 6 header (omega (arith, whole));
    }

front_two : (a more : List ℕ) → length a ≡ 2 → take 2 (a ++ more) ≡ a
front_two a more whole = ap (λ (k : ℕ). take k (a ++ more)) (sym whole) ∙ take-append_seam a more

behind_two : (a more : List ℕ) → length a ≡ 2 → drop 2 (a ++ more) ≡ more
behind_two a more whole = ap (λ (k : ℕ). drop k (a ++ more)) (sym whole) ∙ drop-append_seam a more

-- behind two more bytes
behind_more : (n : ℕ) (a bytes more : List ℕ) → drop n bytes ≡ a ++ more → length a ≡ 2 → drop (n + 2) bytes ≡ more
behind_more n a bytes more before whole = sym (drop-drop 2 n bytes) ∙ ap (drop 2) before ∙ behind_two a more whole

-- the numbers of a header made of four parts
fours_of : (order : Order) (a b c d : List ℕ) (h : Header) → IsNumber order UInt16 h.size a → IsNumber order UInt16 h.template b → IsNumber order UInt16 h.id c → IsNumber order UInt16 h.version d → header_in order (a ++ (b ++ (c ++ d))) ≡ h
fours_of order a b c d h size template id version =
    let all = a ++ (b ++ (c ++ d)) in
    let at_two : drop 2 all ≡ b ++ (c ++ d) = behind_two a (b ++ (c ++ d)) size.whole in
    let at_four : drop 4 all ≡ c ++ d = behind_more 2 b all (c ++ d) at_two template.whole in
    let at_six : drop 6 all ≡ d = behind_more 4 c all d at_four id.whole in
    let one : unsigned order UInt16 (take 2 all) ≡ h.size = ap (unsigned order UInt16) (front_two a (b ++ (c ++ d)) size.whole) ∙ size.number in
    let two : unsigned order UInt16 (take 2 (drop 2 all)) ≡ h.template = ap (λ (xs : List ℕ). unsigned order UInt16 (take 2 xs)) at_two ∙ ap (unsigned order UInt16) (front_two b (c ++ d) template.whole) ∙ template.number in
    let three : unsigned order UInt16 (take 2 (drop 4 all)) ≡ h.id = ap (λ (xs : List ℕ). unsigned order UInt16 (take 2 xs)) at_four ∙ ap (unsigned order UInt16) (front_two c d id.whole) ∙ id.number in
    let four : unsigned order UInt16 (take 2 (drop 6 all)) ≡ h.version = ap (λ (xs : List ℕ). unsigned order UInt16 (take 2 xs)) (at_six ∙ sym (append-nil d)) ∙ ap (unsigned order UInt16) (front_two d [] version.whole) ∙ version.number in
    λ i. record { size = one i; template = two i; id = three i; version = four i }

-- ---- the whole

-- what is read alone was read with some bytes behind it
record Alone {A : Type 0} (r : Read A) (a : A) : Type 0 where
  rest : List ℕ
  is : r ≡ Ok (a, rest)

was_read : {A : Type 0} (r : Read A) (a : A) → alone r ≡ Ok a → Alone r a
was_read (Ok read) a e = record { rest = read.1; is = ap (λ x. let r : Read _ = Ok (x, read.1) in r) (same_given e) }
was_read (Err fault) a e = fault_gives_nothing e

by_layout : (schema : Plan) (total : ℕ) (h : Header) (found : Option MessagePlan) (left : List ℕ) (m : Message) (rest : List ℕ) → read_by schema.order total h found left ≡ Ok (m, rest) → (layout : MessagePlan) × (found ≡ Some layout) × IsBody schema.order h.version h.size layout.root h.template m left
by_layout schema total h None left m rest e = fault_gives_nothing e
by_layout schema total h (Some layout) left m rest e = (layout, refl, body_spelled schema.order total h.version h.size layout.root h.template left m rest e)

by_id : (b : Bool) (schema : Plan) (total : ℕ) (h : Header) (left : List ℕ) (m : Message) (rest : List ℕ) → (h.id == schema.id) ≡ b → read_headed schema total h left ≡ Ok (m, rest) → (h.id ≡ schema.id) × (read_by schema.order total h (message_of h.template schema.messages) left ≡ Ok (m, rest))
by_id true schema total h left m rest same e = (grind (arith, nat_tests), simp same at e)
by_id false schema total h left m rest other e = fault_gives_nothing (simp other at e)

message_spelled : (schema : Plan) (bytes : List ℕ) (m : Message) → message_in schema bytes ≡ Ok m → Spells schema bytes m
message_spelled schema bytes m e =
    let total = length bytes in
    let whole = was_read (next (read_bytes total 8 bytes) (λ header left. read_headed schema total (header_in schema.order header) left)) m e in
    let one = links (read_bytes total 8 bytes) (λ header left. read_headed schema total (header_in schema.order header) left) m whole.rest whole.is in
    let h = header_in schema.order one.value in
    let header = cut total 8 bytes one.value one.mid one.first in
    let parts = fours one.value header.whole in
    let known = by_id (h.id == schema.id) schema total h one.mid m whole.rest refl one.second in
    let by = by_layout schema total h (message_of h.template schema.messages) one.mid m whole.rest known.1 in
    let body = by.2 in (
      by.0,
      record {
        size = h.size;
        version = h.version;
        found = sym by.1 ∙ ap (λ (t : ℕ). message_of t schema.messages) body.template_is;
        joined = record {
          front = take 2 one.value;
          behind = take 2 (drop 2 one.value) ++ (take 2 (drop 4 one.value) ++ (take 2 (drop 6 one.value) ++ one.mid));
          joined = header.joined ∙ parts.joined one.mid;
          is_front = record { whole = parts.first; number = refl };
          is_behind = record {
            front = take 2 (drop 2 one.value);
            behind = take 2 (drop 4 one.value) ++ (take 2 (drop 6 one.value) ++ one.mid);
            joined = refl;
            is_front = record { whole = parts.second; number = body.template_is };
            is_behind = record {
              front = take 2 (drop 4 one.value);
              behind = take 2 (drop 6 one.value) ++ one.mid;
              joined = refl;
              is_front = record { whole = parts.third; number = known.0 };
              is_behind = record {
                front = take 2 (drop 6 one.value);
                behind = one.mid;
                joined = refl;
                is_front = record { whole = parts.fourth; number = refl };
                is_behind = body.body;
              };
            };
          };
        };
      },
    )

message_read : (schema : Plan) (bytes : List ℕ) (m : Message) → Spells schema bytes m → message_in schema bytes ≡ Ok m
message_read schema bytes m s =
    let total = length bytes in
    let layout = s.0 in
    let by = s.1 in
    let sizes = by.joined in
    let templates = sizes.is_behind in
    let ids = templates.is_behind in
    let versions = ids.is_behind in
    let body = versions.is_behind in
    let h : Header = record { size = by.size; template = m.template; id = schema.id; version = by.version } in
    let header = sizes.front ++ (templates.front ++ (ids.front ++ versions.front)) in
    let joined : bytes ≡ header ++ versions.behind =
    sizes.joined
    ∙ ap (λ (xs : List ℕ). sizes.front ++ xs) (templates.joined ∙ ap (λ (xs : List ℕ). templates.front ++ xs) (ids.joined ∙ ap (λ (xs : List ℕ). ids.front ++ xs) versions.joined ∙ sym (append_assoc ids.front versions.front versions.behind)) ∙ sym (append_assoc templates.front (ids.front ++ versions.front) versions.behind))
    ∙ sym (append_assoc sizes.front (templates.front ++ (ids.front ++ versions.front)) versions.behind) in
    let whole : length header ≡ 8 =
    simp length-append (omega (arith, sizes.is_front.whole, templates.is_front.whole, ids.is_front.whole, versions.is_front.whole)) in
    let first : read_bytes total 8 bytes ≡ Ok (header, versions.behind) =
    ap (λ (xs : List ℕ). read_bytes total 8 xs) joined ∙ uncut total 8 header versions.behind whole in
    let numbers : header_in schema.order header ≡ h = fours_of schema.order sizes.front templates.front ids.front versions.front h sizes.is_front templates.is_front ids.is_front versions.is_front in
    let same : (schema.id == schema.id) ≡ true = grind (arith, nat_tests) in
    let read : read_headed schema total h versions.behind ≡ Ok (m, body.is_behind.is_behind.behind) =
    rw same (ap (λ (l : Option MessagePlan). read_by schema.order total h l versions.behind) (sym by.found) ∙ body_read schema.order total by.version by.size layout.root m versions.behind body) in
    ap alone (chained (λ header left. read_headed schema total (header_in schema.order header) left) first
    ∙ ap (λ (x : Header). read_headed schema total x versions.behind) numbers
    ∙ read)

pub read_iff_spelled : (schema : Plan) (bytes : List ℕ) (m : Message) → (message_in schema bytes ≡ Ok m) ↔ Spells schema bytes m
read_iff_spelled schema bytes m = (message_spelled schema bytes m, message_read schema bytes m)

pub spelled_once : (schema : Plan) (bytes : List ℕ) (m n : Message) → Spells schema bytes m → Spells schema bytes n → m ≡ n
spelled_once schema bytes m n one two = same_given (sym (message_read schema bytes m one) ∙ message_read schema bytes n two)
