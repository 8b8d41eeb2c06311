use Rattle.std.proofs.Common.{◌≡◌, ◌≤◌, string_bytes, ap, ◌∙◌}
use Rattle.std.proofs.lemmas.Str.{IsUtf8-string_bytes, is_utf8-from_IsUtf8}
use Rattle.toml.specs.Data.{members_depth}
use Rattle.toml.specs.View.{table_view}
use Rattle.schema_print.proofs.SchemaBack.{text_back}
use Rattle.schema_print.proofs.Depths.{schema_depth}
use Rattle.schema_print.proofs.schema.print_schema.Goals as goal

pub returns-in-Ok : goal.returns-in-Ok
returns-in-Ok c = record {
  back = λ text gives levels.
      let bytes : c.from.result ≡ string_bytes c.in-Ok.text = c.from.ensures ∙ ap (λ v. v.items) c.into_bytes.ensures.value in
      let shallow : members_depth (table_view c.in_ok-table.table) ≤ 80 = rw c.in_ok-table.ensures (schema_depth c.args.schema.now levels) in
      text_back text c.from.result (table_view c.in_ok-table.table) c.args.schema.now gives (rw bytes (is_utf8-from_IsUtf8 _ (IsUtf8-string_bytes c.in-Ok.text))) (rw bytes (c.in-Ok.ensures.reads_back shallow)) c.in_ok-table.ensures;
}
