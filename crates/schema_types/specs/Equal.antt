-- The tests of equality of a schema's tables are true exactly of equal tables.
use Rattle.std.specs.Prelude.{◌≡◌, ℕ, ℤ, Bool, true, ◌&&◌, Option, List, nat_eq, refl}
use Rattle.std.specs.Ordering.{int_eq}
use Rattle.std.specs.Option.{option_eq}
use Rattle.std.proofs.Common.{ap}
use Rattle.std.proofs.lemmas.Bool.{false≢true}
use Rattle.std.proofs.lemmas.Bool.Decides.{Decides-eqb, Decides-int_eq}
use Rattle.std.specs.Cmp.Lexicographic.{pointwise, pointwise_decides}
use Rattle.lists.specs.Exact.{Exact, exact, exact_pair, exact_by, exact_option, exact_bare}
use denote.Enum.Bare.{sameb}
use Rattle.sbe_prim.specs.contracts.Primitive as primitive
use Rattle.schema_types.specs.Groups.{GroupHead}
use Rattle.sbe_prim.specs.declared.Primitive.{Primitive}
use Rattle.schema_types.specs.declared.types.ValueDef.{ValueDef}
use Rattle.schema_types.specs.declared.types.BitDef.{BitDef}
use Rattle.schema_types.specs.declared.types.Constant.{Constant}
use Rattle.schema_types.specs.declared.types.Constant.TheVariants.{Num, Text}
use Rattle.schema_types.specs.declared.types.TypeKind.{TypeKind}
use Rattle.schema_types.specs.declared.types.TypeKind.TheVariants.{Number, Enum, Set, Composite}
use Rattle.schema_types.specs.contracts.types.Presence as presence
use Rattle.schema_types.specs.contracts.types.ConstantPartialEq.TheImpl as constant
use Rattle.schema_types.specs.contracts.types.ValueDefPartialEq.TheImpl as value
use Rattle.schema_types.specs.contracts.types.BitDefPartialEq.TheImpl as bit
use Rattle.schema_types.specs.contracts.types.MemberDefPartialEq.TheImpl as member
use Rattle.schema_types.specs.contracts.types.TypeKindPartialEq.TheImpl as kind
use Rattle.schema_types.specs.contracts.types.TypeDefPartialEq.TheImpl as named
use Rattle.schema_types.specs.contracts.messages.FieldDefPartialEq.TheImpl as field
use Rattle.schema_types.specs.contracts.messages.DataDefPartialEq.TheImpl as datum

-- two groups agree, the groups of their entries aside
abbrev pub head_eq : GroupHead → GroupHead → Bool
head_eq g h =
    ((((((pointwise nat_eq g.name h.name && nat_eq g.id h.id) && sameb primitive.the_type g.block_prim h.block_prim)
    && sameb primitive.the_type g.count_prim h.count_prim) && int_eq g.since h.since) && option_eq int_eq g.block_length h.block_length)
    && pointwise field.eq-value.it g.fields h.fields) && pointwise datum.eq-value.it g.vars h.vars

pub bytes_exact : Exact (pointwise nat_eq)
bytes_exact = pointwise_decides Decides-eqb

pub number_exact : Exact (option_eq int_eq)
number_exact = exact_option Decides-int_eq

primitive_exact : Exact (sameb primitive.the_type)
primitive_exact = exact_bare primitive.the_type tt

constant_itself : (x : Constant) → constant.eq-value.it x x ≡ true
constant_itself (Num a) = (Decides-int_eq a a).1 refl
constant_itself (Text a) = (bytes_exact a a).1 refl

constant_only : (x y : Constant) → constant.eq-value.it x y ≡ true → x ≡ y
constant_only (Num a) (Num b) t = ap Num ((Decides-int_eq a b).0 t)
constant_only (Text a) (Text b) t = ap Text ((bytes_exact a b).0 t)
constant_only _ _ t = absurd (false≢true t)

pub constant_exact : Exact constant.eq-value.it
constant_exact = exact constant.eq-value.it constant_itself constant_only

pub value_exact : Exact value.eq-value.it
value_exact =
    exact_by (λ v. (v.name, v.value)) (λ p. record { name = p.0; value = p.1 }) (λ _. refl) (exact_pair bytes_exact Decides-int_eq)

pub bit_exact : Exact bit.eq-value.it
bit_exact =
    exact_by (λ b. (b.name, b.bit)) (λ p. record { name = p.0; bit = p.1 }) (λ _. refl) (exact_pair bytes_exact Decides-eqb)

pub member_exact : Exact member.eq-value.it
member_exact =
    exact_by (λ m. (m.name, (m.type_name, (m.offset, (m.presence, m.value)))))
    (λ p. record { name = p.0; type_name = p.1.0; offset = p.1.1.0; presence = p.1.1.1.0; value = p.1.1.1.1 }) (λ _. refl)
    (exact_pair bytes_exact (exact_pair bytes_exact (exact_pair number_exact (exact_pair (exact_bare presence.the_type tt) (exact_option constant_exact)))))

pub field_exact : Exact field.eq-value.it
field_exact =
    exact_by (λ f. (f.name, (f.id, (f.type_name, (f.presence, (f.value, (f.offset, f.since)))))))
    (λ p. record {
      name = p.0;
      id = p.1.0;
      type_name = p.1.1.0;
      presence = p.1.1.1.0;
      value = p.1.1.1.1.0;
      offset = p.1.1.1.1.1.0;
      since = p.1.1.1.1.1.1;
    }) (λ _. refl) (exact_pair bytes_exact
    (exact_pair Decides-eqb (exact_pair bytes_exact (exact_pair (exact_bare presence.the_type tt)
    (exact_pair (exact_option constant_exact) (exact_pair number_exact Decides-int_eq))))))

pub data_exact : Exact datum.eq-value.it
data_exact =
    exact_by (λ d. (d.name, (d.id, (d.length, d.since)))) (λ p. record { name = p.0; id = p.1.0; length = p.1.1.0; since = p.1.1.1 }) (λ _. refl)
    (exact_pair bytes_exact (exact_pair Decides-eqb (exact_pair primitive_exact Decides-int_eq)))

-- the parts of a number, of an enum and of a set, as pairs
numbers_exact : Exact (λ (p q : Primitive × (ℕ × (Option ℤ × (Option ℤ × Option ℤ)))). sameb primitive.the_type p.0 q.0
    && (nat_eq p.1.0 q.1.0 && (option_eq int_eq p.1.1.0 q.1.1.0 && (option_eq int_eq p.1.1.1.0 q.1.1.1.0 && option_eq int_eq p.1.1.1.1 q.1.1.1.1))))
numbers_exact =
    exact_pair primitive_exact (exact_pair Decides-eqb (exact_pair number_exact (exact_pair number_exact number_exact)))

enums_exact : Exact (λ (p q : Primitive × List ValueDef). sameb primitive.the_type p.0 q.0 && pointwise value.eq-value.it p.1 q.1)
enums_exact = exact_pair primitive_exact (pointwise_decides value_exact)

sets_exact : Exact (λ (p q : Primitive × List BitDef). sameb primitive.the_type p.0 q.0 && pointwise bit.eq-value.it p.1 q.1)
sets_exact = exact_pair primitive_exact (pointwise_decides bit_exact)

kind_itself : (x : TypeKind) → kind.eq-value.it x x ≡ true
kind_itself (Number p l n a b) = (numbers_exact (p, (l, (n, (a, b)))) (p, (l, (n, (a, b))))).1 refl
kind_itself (Enum p vs) = (enums_exact (p, vs) (p, vs)).1 refl
kind_itself (Set p bs) = (sets_exact (p, bs) (p, bs)).1 refl
kind_itself (Composite ms) = (pointwise_decides member_exact ms ms).1 refl

kind_only : (x y : TypeKind) → kind.eq-value.it x y ≡ true → x ≡ y
kind_only (Number p l n a b) (Number q m o c d) t =
    ap (λ z. Number z.0 z.1.0 z.1.1.0 z.1.1.1.0 z.1.1.1.1) ((numbers_exact (p, (l, (n, (a, b)))) (q, (m, (o, (c, d))))).0 t)
kind_only (Enum p vs) (Enum q ws) t = ap (λ z. Enum z.0 z.1) ((enums_exact (p, vs) (q, ws)).0 t)
kind_only (Set p bs) (Set q cs) t = ap (λ z. Set z.0 z.1) ((sets_exact (p, bs) (q, cs)).0 t)
kind_only (Composite ms) (Composite ns) t = ap Composite ((pointwise_decides member_exact ms ns).0 t)
kind_only _ _ t = absurd (false≢true t)

pub kind_exact : Exact kind.eq-value.it
kind_exact = exact kind.eq-value.it kind_itself kind_only

pub type_exact : Exact named.eq-value.it
type_exact =
    exact_by (λ t. (t.name, t.kind)) (λ p. record { name = p.0; kind = p.1 }) (λ _. refl) (exact_pair bytes_exact kind_exact)

pub head_exact : Exact head_eq
head_exact =
    exact_by (λ g. (((((((g.name, g.id), g.block_prim), g.count_prim), g.since), g.block_length), g.fields), g.vars))
    (λ p. record {
      name = p.0.0.0.0.0.0.0;
      id = p.0.0.0.0.0.0.1;
      block_prim = p.0.0.0.0.0.1;
      count_prim = p.0.0.0.0.1;
      since = p.0.0.0.1;
      block_length = p.0.0.1;
      fields = p.0.1;
      vars = p.1;
    }) (λ _. refl)
    (exact_pair (exact_pair (exact_pair (exact_pair (exact_pair (exact_pair (exact_pair bytes_exact Decides-eqb) primitive_exact) primitive_exact)
    Decides-int_eq) number_exact) (pointwise_decides field_exact)) (pointwise_decides data_exact))
