-- The canonical bytes of a message spell the message.
use Rattle.std.proofs.Common.{◌≡◌, ℕ, ◌<◌, ◌^◌, pos, Bool, true, false, ◌&&◌, ◌||◌, ◌==◌, if◌then◌else◌, Some, List, [], ◌∷◌, ◌++◌, length, refl, sym, ap, ◌∙◌, subst, arith, append_assoc}
use Rattle.std.specs.List.{AllByRecursion}
use Rattle.std.proofs.lemmas.Bool.{false≢true}
use Rattle.std.proofs.lemmas.Bool.Decides.{nat_tests}
use Rattle.std.proofs.lemmas.Int.{ints}
use Rattle.sbe_prim.specs.declared.Primitive.{Primitive}
use Rattle.sbe_prim.specs.declared.Primitive.TheVariants.{Char, Int8, Int16, Int32, Int64, UInt8, UInt16, UInt32, UInt64, Float, Double}
use Rattle.sbe_prim.specs.declared.Order.{Order}
use Rattle.sbe_schema.specs.Kinds.{is_dimension, is_uint32}
use Rattle.sbe_value.specs.declared.item.Item.{Item}
use Rattle.sbe_value.specs.declared.datum.Datum.{Datum}
use Rattle.sbe_value.specs.declared.datum.Datum.TheVariants as datum
use Rattle.sbe_value.specs.declared.message.Message.{Message}
use Rattle.sbe_value.specs.Trees.{GroupList, BlockList, no_groups, absent, entries, no_blocks, block, count_of_blocks}
use Rattle.sbe_layout.specs.declared.items.ItemPlan.{ItemPlan}
use Rattle.sbe_layout.specs.declared.items.Mark.{Mark}
use Rattle.sbe_layout.specs.declared.items.DataPlan.{DataPlan}
use Rattle.sbe_layout.specs.declared.listings.Listing.{Listing}
use Rattle.sbe_layout.specs.declared.plan.MessagePlan.{MessagePlan}
use Rattle.sbe_layout.specs.declared.plan.Plan.{Plan}
use Rattle.sbe_layout.specs.Trees.{PlanHead, PlanTree, no_plans, plan}
use Rattle.sbe_layout.specs.Plans.{message_of}
use Rattle.sbe_layout.specs.Legal.{IsLegalDatum, EndsWithin, IsLegalBlock, IsLegalGroup, AreLegalGroups, IsLegalMessage}
use Rattle.sbe_grammar.specs.Parts.{IsNumber, unsigned}
use Rattle.sbe_grammar.specs.Spelling.{AllWithin, IsBlock, SpellsData, SpellsGroups, SpellsEntries, SpellsBy}
use Rattle.sbe_grammar.specs.Canonical.{count_bytes, block_bytes, data_bytes, groups_bytes, entries_bytes, canonical, canonical_by, can_write, holds_dimension, admits_items, admits_data, admits_groups, admits_entries, admits}
use Rattle.sbe_encode.specs.ReadsBack.{ArePlain, ArePlainGroups, ArePlainEntries, IsPlain, HasWords, CanonicalReadsBack}
use Rattle.sbe_encode.proofs.Again.{again}
use Rattle.sbe_encode.proofs.Current.{AreInOrder, ArePresent, IsCurrentGroup, AreCurrentGroups, IsCurrentMessage, message_current}
use Rattle.sbe_encode.proofs.ItemsAgain.{and_split, block_size, items_again}

-- ---- lengths and counts

count_again : (order : Order) (p : Primitive) (n : ℕ) → (is_dimension p || is_uint32 p) ≡ true → can_write p (pos n) ≡ true → IsNumber order p n (count_bytes order p n)
count_again order Char n u h = absurd (false≢true u)
count_again order Int8 n u h = absurd (false≢true u)
count_again order Int16 n u h = absurd (false≢true u)
count_again order Int32 n u h = absurd (false≢true u)
count_again order Int64 n u h = absurd (false≢true u)
count_again order UInt8 n u h =
    let back = again UInt8 order (pos n) h in
    let e : pos (unsigned order UInt8 (count_bytes order UInt8 n)) ≡ pos n = back.number in
    record { whole = back.size; number = (cc) }
count_again order UInt16 n u h =
    let back = again UInt16 order (pos n) h in
    let e : pos (unsigned order UInt16 (count_bytes order UInt16 n)) ≡ pos n = back.number in
    record { whole = back.size; number = (cc) }
count_again order UInt32 n u h =
    let back = again UInt32 order (pos n) h in
    let e : pos (unsigned order UInt32 (count_bytes order UInt32 n)) ≡ pos n = back.number in
    record { whole = back.size; number = (cc) }
count_again order UInt64 n u h = absurd (false≢true u)
count_again order Float n u h = absurd (false≢true u)
count_again order Double n u h = absurd (false≢true u)

or_first : (a b : Bool) → a ≡ true → (a || b) ≡ true
or_first a b h = ap (λ t. t || b) h

-- ---- a block

ends_within : (version size : ℕ) (marks : List Mark) → AllByRecursion (EndsWithin size) marks → AllWithin version size marks
ends_within version size [] h = tt
ends_within version size (m ∷ ms) h = (λ _. h.0, ends_within version size ms h.1)

block_again : (ls : List Listing) (order : Order) (version size : ℕ) (marks : List Mark) (ps : List ItemPlan) (is : List Item) (ds : List DataPlan) → IsLegalBlock version ls size ps marks ds → AreInOrder version 0 ps → admits_items ls ps is ≡ true → ArePlain ps is → IsBlock order version size marks ps is (block_bytes order size 0 ps is)
block_again ls order version size marks ps is ds legal next admitted plain =
    let long = block_size marks ls order version size 0 ps is (omega arith) legal.each_item next admitted plain in
    record {
      whole = omega (arith, long);
      fields_within = ends_within version size marks legal.each_field;
      values = sym (items_again marks ls order version size 0 [] ps is refl legal.each_item next admitted plain);
    }

data_again : (order : Order) (version : ℕ) (ds : List DataPlan) (vs : List Datum) → AllByRecursion (IsLegalDatum version) ds → ArePresent version ds → admits_data ds vs ≡ true → SpellsData order version vs ds (data_bytes order ds vs)
data_again order version [] [] legal present admitted = refl
data_again order version [] (v ∷ vs) legal present admitted = absurd (false≢true admitted)
data_again order version (d ∷ ds) [] legal present admitted = absurd (false≢true admitted)
data_again order version (d ∷ ds) (datum.Absent ∷ vs) legal present admitted = absurd (false≢true admitted)
data_again order version (d ∷ ds) (datum.Present text ∷ vs) legal present admitted =
    let parts = and_split (can_write d.length (pos (length text))) (admits_data ds vs) admitted in (
      present.0,
      record {
        front = count_bytes order d.length (length text);
        behind = text ++ data_bytes order ds vs;
        joined = refl;
        is_front = count_again order d.length (length text) legal.0.length parts.0;
        is_behind = record {
          front = text;
          behind = data_bytes order ds vs;
          joined = refl;
          is_front = refl;
          is_behind = data_again order version ds vs legal.1 present.1 parts.1;
        };
      },
    )

-- ---- groups

mutual
  groups_again : (ls : List Listing) (order : Order) (version : ℕ) (t : PlanTree) (gs : GroupList) → AreLegalGroups version ls t → AreCurrentGroups version t → admits_groups ls t gs ≡ true → ArePlainGroups t gs → SpellsGroups order version gs t (groups_bytes order t gs)
  groups_again ls order version no_plans no_groups legal current admitted plain = refl
  groups_again ls order version no_plans (absent gs) legal current admitted plain = absurd (false≢true admitted)
  groups_again ls order version no_plans (entries bs gs) legal current admitted plain = absurd (false≢true admitted)
  groups_again ls order version (plan head inner rest) no_groups legal current admitted plain = absurd (false≢true admitted)
  groups_again ls order version (plan head inner rest) (absent gs) legal current admitted plain = absurd (false≢true admitted)
  groups_again ls order version (plan head inner rest) (entries bs gs) legal current admitted plain =
      let parts = and_split (holds_dimension head (count_of_blocks bs)) (admits_entries ls head inner bs && admits_groups ls rest gs) admitted in
      let inside = and_split (admits_entries ls head inner bs) (admits_groups ls rest gs) parts.1 in
      let held = and_split (can_write head.block_prim (pos head.block_length)) (can_write head.count_prim (pos (count_of_blocks bs))) parts.0 in
      let prims = and_split (is_dimension head.block_prim) (is_dimension head.count_prim) legal.0.dimension in (
        current.0.present,
        (
          head.block_length,
          record {
            front = count_bytes order head.block_prim head.block_length;
            behind = count_bytes order head.count_prim (count_of_blocks bs) ++ (entries_bytes order head inner bs ++ groups_bytes order rest gs);
            joined = refl;
            is_front = count_again order head.block_prim head.block_length (or_first _ _ prims.0) held.0;
            is_behind = record {
              front = count_bytes order head.count_prim (count_of_blocks bs);
              behind = entries_bytes order head inner bs ++ groups_bytes order rest gs;
              joined = refl;
              is_front = count_again order head.count_prim (count_of_blocks bs) (or_first _ _ prims.1) held.1;
              is_behind = record {
                front = entries_bytes order head inner bs;
                behind = groups_bytes order rest gs;
                joined = refl;
                is_front = entries_again ls order version head inner bs legal.0 legal.1.0 current.0 current.1.0 inside.0 plain.0;
                is_behind = groups_again ls order version rest gs legal.1.1 current.1.1 inside.1 plain.1;
              };
            };
          },
        ),
      )

  entries_again : (ls : List Listing) (order : Order) (version : ℕ) (head : PlanHead) (inner : PlanTree) (bs : BlockList) → IsLegalGroup version ls head → AreLegalGroups version ls inner → IsCurrentGroup version head → AreCurrentGroups version inner → admits_entries ls head inner bs ≡ true → ArePlainEntries head inner bs → SpellsEntries order version bs head inner head.block_length (entries_bytes order head inner bs)
  entries_again ls order version head inner no_blocks legal legals current currents admitted plain = refl
  entries_again ls order version head inner (block is gs vs bs) legal legals current currents admitted plain =
      let items = and_split (admits_items ls head.items is) (admits_groups ls inner gs && (admits_data head.vars vs && admits_entries ls head inner bs)) admitted in
      let groups = and_split (admits_groups ls inner gs) (admits_data head.vars vs && admits_entries ls head inner bs) items.1 in
      let vars = and_split (admits_data head.vars vs) (admits_entries ls head inner bs) groups.1 in
      record {
        front = block_bytes order head.block_length 0 head.items is;
        behind = groups_bytes order inner gs ++ (data_bytes order head.vars vs ++ entries_bytes order head inner bs);
        joined = refl;
        is_front = block_again ls order version head.block_length head.marks head.items is head.vars legal.block current.items items.0 plain.0;
        is_behind = record {
          front = groups_bytes order inner gs;
          behind = data_bytes order head.vars vs ++ entries_bytes order head inner bs;
          joined = refl;
          is_front = groups_again ls order version inner gs legals currents groups.0 plain.1.0;
          is_behind = record {
            front = data_bytes order head.vars vs;
            behind = entries_bytes order head inner bs;
            joined = refl;
            is_front = data_again order version head.vars vs legal.block.each_datum current.vars vars.0;
            is_behind = entries_again ls order version head inner bs legal legals current currents vars.1 plain.1.1;
          };
        };
      }

-- ---- a message

-- what holds of all messages holds of the one that is found
found_all : (P : MessagePlan → Type 0) (template : ℕ) (ms : List MessagePlan) (x : MessagePlan) → AllByRecursion P ms → Some x ≡ message_of template ms → P x
found_all P template [] x all e = absurd (cc)
found_all P template (m ∷ ms) x all e =
    elim (m.template == template) as (λ t. Some x ≡ (if t then Some m else message_of template ms) → P x) [
      | true ↦ λ f. let same : m ≡ x = (cc) in subst P same all.0
      | false ↦ λ f. found_all P template ms x all.1 f
    ] e

word : (n : ℕ) → n < 2 ^ 16 → can_write UInt16 (pos n) ≡ true
word n h = grind (arith, ints, nat_tests)

-- the canonical bytes as parts, one behind another
abbrev parts_bytes : Plan → MessagePlan → Message → List ℕ
parts_bytes schema layout m =
    count_bytes schema.order UInt16 layout.root.block_length ++ (count_bytes schema.order UInt16 m.template ++ (count_bytes schema.order UInt16 schema.id ++ (count_bytes schema.order UInt16 schema.version ++ (block_bytes schema.order layout.root.block_length 0 layout.root.items m.root.items ++ (groups_bytes schema.order layout.root.groups m.root.groups ++ (data_bytes schema.order layout.root.vars m.root.vars ++ []))))))

four : (a b c d e : List ℕ) → (a ++ (b ++ (c ++ d))) ++ e ≡ a ++ (b ++ (c ++ (d ++ e)))
four a b c d e = simp append_assoc

nothing_behind : (xs : List ℕ) → xs ≡ xs ++ []
nothing_behind [] = refl
nothing_behind (x ∷ xs) = ap (λ ys. x ∷ ys) (nothing_behind xs)

bytes_in_parts : (schema : Plan) (m : Message) (layout : MessagePlan) → Some layout ≡ message_of m.template schema.messages → canonical schema m ≡ parts_bytes schema layout m
bytes_in_parts schema m layout found =
    let order : Order = schema.order in
    let texts : List ℕ = data_bytes order layout.root.vars m.root.vars in
    let behind : List ℕ → List ℕ = λ xs. block_bytes order layout.root.block_length 0 layout.root.items m.root.items ++ (groups_bytes order layout.root.groups m.root.groups ++ xs) in
    let header : List ℕ → List ℕ = λ xs. count_bytes order UInt16 layout.root.block_length ++ (count_bytes order UInt16 m.template ++ (count_bytes order UInt16 schema.id ++ (count_bytes order UInt16 schema.version ++ xs))) in
    ap (λ f. canonical_by schema f m) (sym found)
    ∙ four (count_bytes order UInt16 layout.root.block_length) (count_bytes order UInt16 m.template) (count_bytes order UInt16 schema.id) (count_bytes order UInt16 schema.version) (behind texts)
    ∙ ap (λ xs. header (behind xs)) (nothing_behind texts)

parts_again : (schema : Plan) (m : Message) (layout : MessagePlan) → Some layout ≡ message_of m.template schema.messages → HasWords schema m → IsLegalMessage schema.version schema.listings layout → IsCurrentMessage schema.version layout → can_write UInt16 (pos layout.root.block_length) ≡ true → admits schema.listings layout m ≡ true → IsPlain layout m → SpellsBy schema layout (parts_bytes schema layout m) m
parts_again schema m layout found words legal current headed admitted plain =
    let order : Order = schema.order in
    let root = layout.root in
    let ls : List Listing = schema.listings in
    let version : ℕ = schema.version in
    let items = and_split (admits_items ls root.items m.root.items) (admits_groups ls root.groups m.root.groups && admits_data root.vars m.root.vars) admitted in
    let others = and_split (admits_groups ls root.groups m.root.groups) (admits_data root.vars m.root.vars) items.1 in
    let texts : List ℕ = data_bytes order root.vars m.root.vars in
    let groups : List ℕ = groups_bytes order root.groups m.root.groups in
    let body : List ℕ = block_bytes order root.block_length 0 root.items m.root.items in
    record {
      size = root.block_length;
      version = version;
      found = found;
      joined = record {
        front = count_bytes order UInt16 root.block_length;
        behind = count_bytes order UInt16 m.template ++ (count_bytes order UInt16 schema.id ++ (count_bytes order UInt16 version ++ (body ++ (groups ++ (texts ++ [])))));
        joined = refl;
        is_front = count_again order UInt16 root.block_length refl headed;
        is_behind = record {
          front = count_bytes order UInt16 m.template;
          behind = count_bytes order UInt16 schema.id ++ (count_bytes order UInt16 version ++ (body ++ (groups ++ (texts ++ []))));
          joined = refl;
          is_front = count_again order UInt16 m.template refl (word m.template words.template);
          is_behind = record {
            front = count_bytes order UInt16 schema.id;
            behind = count_bytes order UInt16 version ++ (body ++ (groups ++ (texts ++ [])));
            joined = refl;
            is_front = count_again order UInt16 schema.id refl (word schema.id words.id);
            is_behind = record {
              front = count_bytes order UInt16 version;
              behind = body ++ (groups ++ (texts ++ []));
              joined = refl;
              is_front = count_again order UInt16 version refl (word version words.version);
              is_behind = record {
                front = body;
                behind = groups ++ (texts ++ []);
                joined = refl;
                is_front = block_again ls order version root.block_length root.marks root.items m.root.items root.vars legal.block current.items items.0 plain.items;
                is_behind = record {
                  front = groups;
                  behind = texts ++ [];
                  joined = refl;
                  is_front = groups_again ls order version root.groups m.root.groups legal.groups current.groups others.0 plain.groups;
                  is_behind = record {
                    front = texts;
                    behind = [];
                    joined = refl;
                    is_front = data_again order version root.vars m.root.vars legal.block.each_datum current.vars others.1;
                    is_behind = tt;
                  };
                };
              };
            };
          };
        };
      };
    }

pub canonical_reads_back : (schema : Plan) (m : Message) → CanonicalReadsBack schema m
canonical_reads_back schema m r =
    let w = r.admitted in
    let legal = found_all (IsLegalMessage schema.version schema.listings) m.template schema.messages w.layout r.legal.messages w.found in
    let current = message_current schema.version schema.listings w.layout legal in
    (w.layout, subst (λ bytes. SpellsBy schema w.layout bytes m) (sym (bytes_in_parts schema m w.layout w.found)) (parts_again schema m w.layout w.found r.words legal current w.headed w.admitted (r.plain w.layout w.found)))
