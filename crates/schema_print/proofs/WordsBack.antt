-- What stands at a key by itself: what is written of it is read as it.
use Rattle.std.proofs.Common.{◌≡◌, ℕ, zero, suc, slice_index, nat_lt, ◌-◌, ◌<◌, ◌^◌, ◌&&◌, Bool, true, false, nat_le, cond, ℤ, pos, negsuc, List, [], ◌∷◌, Option, Some, None, Ok, Err, codes, refl, subst, arith}
use Rattle.std.proofs.lemmas.Bool.{and_parts}
use Rattle.std.proofs.lemmas.Str.{IsUtf8-from_ascii, is_utf8-from_IsUtf8}
use Rattle.std.specs.List.{list_all}
use Rattle.std.proofs.lemmas.Bool.Decides.{nat_tests}
use Rattle.std.proofs.lemmas.Fmt.{decimal_is_IsNumeral_wide}
use Rattle.std.specs.Char.{is_ascii_digit}
use Rattle.std.specs.Fmt.{decimal}
use Rattle.std.specs.Str.{is_utf8}
use Rattle.std.specs.Str.Parse.{AllDigits, IsNumeral, digits_value}
use Rattle.sbe_prim.specs.declared.Order.{Order}
use Rattle.sbe_prim.specs.declared.Order.TheVariants.{Little, Big}
use Rattle.sbe_prim.specs.declared.Primitive.{Primitive}
use Rattle.sbe_prim.specs.declared.Primitive.TheVariants.{Char, Int8, Int16, Int32, Int64, UInt8, UInt16, UInt32, UInt64, Float, Double}
use Rattle.sbe_prim.specs.Names.{primitive_named}
use Rattle.schema_types.specs.declared.types.Constant.{Constant}
use Rattle.schema_types.specs.declared.types.Constant.TheVariants.{Num, Text}
use Rattle.schema_types.specs.declared.types.Presence.{Presence}
use Rattle.schema_types.specs.declared.types.Presence.TheVariants.{Required, Optional, Constant as Always}
use Rattle.toml.specs.Data.{Data, string, integer, float, boolean, datetime, array, table}
use Rattle.toml_walk.specs.declared.fault.TomlFault.TheVariants.{Range}
use Rattle.toml_walk.specs.Values.{are_digits, between, held, is_name, name_of, natural_of, number_by, number_of, wide_number}
use Rattle.schema_toml.specs.Words.{constant_by, constant_of, order_of, presence_of, primitive_of}
use Rattle.schema_print.specs.Written.{text_data, constant_data, natural_data, number_data, order_data, presence_data, primitive_data}
use Rattle.schema_print.proofs.Sound.{Held, Sound}
use Rattle.schema_print.proofs.Steps.{Back, bind_inv, given, ok_value}

-- ---- names

name_by : (b : Bool) (text a : List ℕ) → is_utf8 text ≡ true → is_name text ≡ b → cond b (given text) (Err (Range [])) ≡ Ok a → name_of (text_data a) ≡ Ok a
name_by true text a valid same went = subst (λ (x : List ℕ). name_of (text_data x) ≡ Ok x) (ok_value text a went) (rw (valid, same) refl)
name_by false text a valid same went = absurd cc

pub name_back : Back name_of text_data
name_back (string text) a sound went = name_by (is_name text) text a sound refl went
name_back (integer z) a sound went = absurd cc
name_back (float x) a sound went = absurd cc
name_back (boolean x) a sound went = absurd cc
name_back (datetime x) a sound went = absurd cc
name_back (array ds) a sound went = absurd cc
name_back (table ms) a sound went = absurd cc

-- ---- numbers

all_digits : (bs : List ℕ) → AllDigits 10 bs → are_digits bs ≡ true
all_digits [] all = refl
all_digits (b ∷ bs) all =
    let here : is_ascii_digit b ≡ true = grind (arith, nat_tests, all.0) in
    rw (here, all_digits bs all.1) refl

wide_by : (ds : List ℕ) (n : ℕ) → IsNumeral 10 ds → digits_value 10 ds ≡ n → nat_le n (2 ^ 63 - 1) ≡ false → wide_number ds ≡ Some n
wide_by [] n numeral same above = absurd (omega (arith, numeral.0))
wide_by (b ∷ bs) n numeral same above = rw (all_digits (b ∷ bs) numeral.1, same, above) refl

wide_number-decimal : (n : ℕ) → nat_le n (2 ^ 63 - 1) ≡ false → nat_le n (2 ^ 127 - 1) ≡ true → wide_number (decimal n) ≡ Some n
wide_number-decimal n above below =
    let short : n < 10 ^ 64 = grind (arith, nat_tests) in
    let gives = decimal_is_IsNumeral_wide n short in
    wide_by (decimal n) n gives.0 gives.1 above

number_by_size : (a b : Bool) (n : ℕ) → nat_le n (2 ^ 63 - 1) ≡ a → nat_le n (2 ^ 127 - 1) ≡ b
    → number_of (cond a (integer (pos n)) (cond b (string (decimal n)) (integer (pos n)))) ≡ Ok (pos n)
number_by_size true b n small fits = refl
number_by_size false true n small fits = rw (wide_number-decimal n small fits, fits) refl
number_by_size false false n small fits = refl

number_again : (z : ℤ) → Held z → number_of (number_data z) ≡ Ok z
number_again (pos n) fits = number_by_size (nat_le n (2 ^ 63 - 1)) (nat_le n (2 ^ 127 - 1)) n refl refl
number_again (negsuc n) fits = rw fits refl

held_by : (b : Bool) (n : ℕ) (z : ℤ) → cond b (given (pos n)) (Err (Range [])) ≡ Ok z → Held z
held_by true n z went = subst Held (ok_value (pos n) z went) tt
held_by false n z went = absurd cc

wide_held : (o : Option ℕ) (z : ℤ) → number_by o ≡ Ok z → Held z
wide_held None z went = absurd cc
wide_held (Some n) z went = held_by (nat_le n (2 ^ 127 - 1)) n z went

number_held : (d : Data) (z : ℤ) → Sound d → number_of d ≡ Ok z → Held z
number_held (integer y) z sound went = subst Held (ok_value y z went) sound
number_held (string text) z sound went = wide_held (wide_number text) z went
number_held (float x) z sound went = absurd cc
number_held (boolean x) z sound went = absurd cc
number_held (datetime x) z sound went = absurd cc
number_held (array ds) z sound went = absurd cc
number_held (table ms) z sound went = absurd cc

pub number_back : Back number_of number_data
number_back d z sound went = number_again z (number_held d z sound went)

between_by : (b : Bool) (least greatest n a : ℕ) → (nat_le least n && nat_le n greatest) ≡ b → cond b (given n) (Err (Range [])) ≡ Ok a → between least greatest (pos a) ≡ Ok a
between_by true least greatest n a same went = subst (λ (x : ℕ). between least greatest (pos x) ≡ Ok x) (ok_value n a went) (rw same refl)
between_by false least greatest n a same went = absurd cc

between_back : (least greatest : ℕ) (z : ℤ) (a : ℕ) → between least greatest z ≡ Ok a → between least greatest (pos a) ≡ Ok a
between_back least greatest (pos n) a went = between_by (nat_le least n && nat_le n greatest) least greatest n a refl went
between_back least greatest (negsuc n) a went = absurd cc

pub natural_back : (least greatest : ℕ) → Back (natural_of least greatest) natural_data
natural_back least greatest d a _ went = bind_inv (number_of d) (between least greatest) a went (λ z _ rest. between_back least greatest z a rest)

-- ---- words

order_again : (o : Order) → order_of (order_data o) ≡ Ok o
order_again Little = refl
order_again Big = refl

pub order_back : Back order_of order_data
order_back d o _ _ = order_again o

presence_again : (p : Presence) → presence_of (presence_data p) ≡ Ok p
presence_again Required = refl
presence_again Optional = refl
presence_again Always = refl

pub presence_back : Back presence_of presence_data
presence_back d p _ _ = presence_again p

ascii_at : (bs : List ℕ) (i : ℕ) → list_all (λ c. nat_lt c 128) bs ≡ true → slice_index bs i < 128
ascii_at [] i all = omega arith
ascii_at (b ∷ bs) zero all = let here = (and_parts (nat_lt b 128) (list_all (λ c. nat_lt c 128) bs) all).0 in grind (arith, nat_tests)
ascii_at (b ∷ bs) (suc i) all = ascii_at bs i (and_parts (nat_lt b 128) (list_all (λ c. nat_lt c 128) bs) all).1

ascii_text : (bs : List ℕ) → list_all (λ c. nat_lt c 128) bs ≡ true → is_utf8 bs ≡ true
ascii_text bs all = is_utf8-from_IsUtf8 bs (IsUtf8-from_ascii bs (λ i. ascii_at bs i all))

pub primitive_again : (p : Primitive) → primitive_of (primitive_data p) ≡ Ok p
unfolding primitive_named
primitive_again Char = rw (ascii_text (codes "char") refl) refl
primitive_again Int8 = rw (ascii_text (codes "int8") refl) refl
primitive_again Int16 = rw (ascii_text (codes "int16") refl) refl
primitive_again Int32 = rw (ascii_text (codes "int32") refl) refl
primitive_again Int64 = rw (ascii_text (codes "int64") refl) refl
primitive_again UInt8 = rw (ascii_text (codes "uint8") refl) refl
primitive_again UInt16 = rw (ascii_text (codes "uint16") refl) refl
primitive_again UInt32 = rw (ascii_text (codes "uint32") refl) refl
primitive_again UInt64 = rw (ascii_text (codes "uint64") refl) refl
primitive_again Float = rw (ascii_text (codes "float") refl) refl
primitive_again Double = rw (ascii_text (codes "double") refl) refl

pub primitive_back : Back primitive_of primitive_data
primitive_back d p _ _ = primitive_again p

-- ---- constants

constant_by_size : (a b : Bool) (n : ℕ) → nat_le n (2 ^ 63 - 1) ≡ a → nat_le n (2 ^ 127 - 1) ≡ b
    → constant_of (cond a (integer (pos n)) (cond b (string (decimal n)) (integer (pos n)))) ≡ Ok (Num (pos n))
constant_by_size true b n small fits = refl
constant_by_size false true n small fits = rw (wide_number-decimal n small fits, fits) refl
constant_by_size false false n small fits = refl

num_again : (z : ℤ) → Held z → constant_of (number_data z) ≡ Ok (Num z)
num_again (pos n) fits = constant_by_size (nat_le n (2 ^ 63 - 1)) (nat_le n (2 ^ 127 - 1)) n refl refl
num_again (negsuc n) fits = rw fits refl

abbrev ConstantAgain : Constant → Type 0
ConstantAgain a = constant_of (constant_data a) ≡ Ok a

constant_of_text : (text : List ℕ) (o : Option ℕ) (a : Constant) → is_utf8 text ≡ true → wide_number text ≡ o → constant_by text o ≡ Ok a → ConstantAgain a
constant_of_text text None a valid same went = subst ConstantAgain (ok_value (Text text) a went) (rw (valid, same) refl)
constant_of_text text (Some n) a valid same went =
    bind_inv (held n) (λ z. Ok (Num z)) a went (λ z gives rest. subst ConstantAgain (ok_value (Num z) a rest) (num_again z (held_by (nat_le n (2 ^ 127 - 1)) n z gives)))

pub constant_back : Back constant_of constant_data
constant_back (integer z) a sound went = subst ConstantAgain (ok_value (Num z) a went) (num_again z sound)
constant_back (string text) a sound went = constant_of_text text (wide_number text) a sound refl went
constant_back (array ds) a sound went = absurd cc
constant_back (table ms) a sound went = absurd cc
constant_back (float x) a sound went = absurd cc
constant_back (boolean x) a sound went = absurd cc
constant_back (datetime x) a sound went = absurd cc
