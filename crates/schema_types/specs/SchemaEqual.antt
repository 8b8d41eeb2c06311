-- The tests of equality of messages and of whole schemas are true exactly of equal ones.
use Rattle.std.specs.Prelude.{refl}
use Rattle.std.proofs.lemmas.Bool.Decides.{Decides-eqb, Decides-int_eq}
use Rattle.std.specs.Cmp.Lexicographic.{pointwise_decides}
use Rattle.lists.specs.Exact.{Exact, exact_pair, exact_by, exact_bare}
use Rattle.sbe_prim.specs.contracts.Order as order
use Rattle.schema_types.specs.Equal.{bytes_exact, number_exact, field_exact, data_exact, type_exact}
use Rattle.schema_types.specs.TreeEqual.{tree_exact}
use Rattle.schema_types.specs.contracts.messages.MessageDefPartialEq.TheImpl as message
use Rattle.schema_types.specs.contracts.schema.SchemaPartialEq.TheImpl as schema

pub message_exact : Exact message.eq-value.it
message_exact =
    exact_by (λ m. (m.name, (m.id, (m.since, (m.block_length, (m.fields, (m.groups, m.vars)))))))
    (λ p. record {
      name = p.0;
      id = p.1.0;
      since = p.1.1.0;
      block_length = p.1.1.1.0;
      fields = p.1.1.1.1.0;
      groups = p.1.1.1.1.1.0;
      vars = p.1.1.1.1.1.1;
    }) (λ _. refl) (exact_pair bytes_exact
    (exact_pair Decides-eqb (exact_pair Decides-int_eq (exact_pair number_exact
    (exact_pair (pointwise_decides field_exact) (exact_pair tree_exact (pointwise_decides data_exact)))))))

pub schema_exact : Exact schema.eq-value.it
schema_exact =
    exact_by (λ s. (s.id, (s.version, (s.order, (s.types, s.messages)))))
    (λ p. record { id = p.0; version = p.1.0; order = p.1.1.0; types = p.1.1.1.0; messages = p.1.1.1.1 }) (λ _. refl)
    (exact_pair Decides-eqb (exact_pair Decides-eqb (exact_pair (exact_bare order.the_type tt)
    (exact_pair (pointwise_decides type_exact) (pointwise_decides message_exact)))))
