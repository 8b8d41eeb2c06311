-- A message of a small schema, as a person writes it, as its strict lines are, and as it is shown with names.
use Rattle.std.specs.Prelude.{ℕ, pos, None, Ok, List, [], ◌∷◌, ◌++◌, codes}
use Rattle.schema_types.specs.declared.types.Presence.TheVariants.{Required}
use Rattle.sbe_prim.specs.declared.Order.TheVariants.{Little}
use Rattle.sbe_prim.specs.declared.Primitive.TheVariants.{Char, UInt8, UInt16}
use Rattle.sbe_layout.specs.declared.items.ItemKind.TheVariants.{Number, Enum, Set}
use Rattle.sbe_layout.specs.declared.listings.Listing.TheVariants.{Values, Bits}
use Rattle.sbe_layout.specs.declared.plan.Plan.{Plan}
use Rattle.sbe_layout.specs.Plans.{item}
use Rattle.sbe_layout.specs.Trees.{no_plans, plan}
use Rattle.text_names.specs.Lines.{Narrowed}

abbrev pub sample : Plan
sample = record {
  id = 1;
  version = 0;
  order = Little;
  listings =
      Values (record { name = codes "Buy"; value = pos 1 } ∷ record { name = codes "Sell"; value = pos 2 } ∷ [])
      ∷ Values (record { name = codes "Limit"; value = pos 49 } ∷ [])
      ∷ Bits (record { name = codes "PostOnly"; bit = 0 } ∷ record { name = codes "Hidden"; bit = 3 } ∷ [])
      ∷ [];
  messages = record {
    name = codes "New";
    template = 7;
    since = pos 0;
    root = record {
      block_length = 10;
      items =
          item (codes "side") 0 1 (pos 0) Required (Enum UInt8 0)
          ∷ item (codes "kind") 1 1 (pos 0) Required (Enum Char 1)
          ∷ item (codes "flags") 2 1 (pos 0) Required (Set UInt8 2)
          ∷ item (codes "symbol") 3 4 (pos 0) Required (Number Char 4 None None None)
          ∷ [];
      marks = [];
      groups = plan (record {
        name = codes "legs";
        since = pos 0;
        block_prim = UInt16;
        count_prim = UInt16;
        block_length = 1;
        items = item (codes "side") 0 1 (pos 0) Required (Enum UInt8 0) ∷ [];
        marks = [];
        vars = [];
      }) no_plans no_plans;
      vars = record { name = codes "note"; since = pos 0; length = UInt16 } ∷ [];
    };
  } ∷ [];
}

-- text in quotes (34), the bytes as they are
abbrev pub in_marks : List ℕ → List ℕ
in_marks text = 34 ∷ (text ++ 34 ∷ [])

abbrev pub written : List (List ℕ)
written =
    codes "# one order"
    ∷ []
    ∷ codes "message  New"
    ∷ codes "  side=Buy    # not Sell"
    ∷ (codes "  kind = " ++ in_marks (codes "1"))
    ∷ codes "  flags = PostOnly | Hidden"
    ∷ (codes "  symbol = " ++ in_marks (codes "A#\\x42") ++ codes "# B")
    ∷ codes "  legs = 2"
    ∷ codes "    legs[0].side  =  Sell"
    ∷ codes "    legs[1].side = 1"
    ∷ (codes "note = " ++ in_marks (codes "hi\\n"))
    ∷ codes "end "
    ∷ codes "more"
    ∷ []

abbrev pub strict : Narrowed
strict = record {
  text = codes "message New\nside = 1\nkind = 49\nflags = 9\nsymbol = " ++ in_marks (codes "A#B")
      ++ codes "\nlegs = 2\nlegs[0].side = 2\nlegs[1].side = 1\nnote = x68690a\nend\n";
  numbers = 3 ∷ 4 ∷ 5 ∷ 6 ∷ 7 ∷ 8 ∷ 9 ∷ 10 ∷ 11 ∷ 12 ∷ [];
  rest = Ok (codes "more" ∷ []);
}

abbrev pub strict_lines : List (List ℕ)
strict_lines =
    codes "message New"
    ∷ codes "side = 1"
    ∷ codes "kind = 49"
    ∷ codes "flags = 9"
    ∷ (codes "symbol = " ++ in_marks (codes "A#B"))
    ∷ codes "legs = 1"
    ∷ codes "legs[0].side = 3"
    ∷ codes "note = x68690a"
    ∷ codes "end"
    ∷ []

abbrev pub shown_text : List ℕ
shown_text = codes "message New\nside = Buy\nkind = Limit\nflags = PostOnly|Hidden\nsymbol = " ++ in_marks (codes "A#B")
    ++ codes "\nlegs = 1\nlegs[0].side = 3\nnote = " ++ in_marks (codes "hi\\n") ++ codes "\nend\n"
