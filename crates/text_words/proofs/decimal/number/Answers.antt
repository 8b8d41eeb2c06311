use Rattle.std.proofs.Common.{◌≡◌, sym, ◌∙◌, ap}
use Rattle.std.specs.Prelude.{Ok, decimal}
use Rattle.text_words.proofs.Decimals.{is_text, is_read, not_same}
use Rattle.text_words.proofs.decimal.number.Goals as goal

pub returns-in_default-clause-none : goal.returns-in_default-clause-none
returns-in_default-clause-none c n small e = c.in_default.ensures.cases.0 (is_text n c.args.text.now small e)

pub returns-in_default-parse-clause-none : goal.returns-in_default-parse-clause-none
returns-in_default-parse-clause-none c n small e =
    c.in_default-parse.not-Ok n (is_read n c.in-Ok.word.now c.parse.result small (c.in-Ok.ensures.cases.0 ∙ e) c.parse.ensures.value.0)

pub returns-else-eq-clause-none : goal.returns-else-eq-clause-none
returns-else-eq-clause-none c n small e =
    let read : c.parse.result ≡ Ok n = is_read n c.in-Ok.word.now c.parse.result small (c.in-Ok.ensures.cases.0 ∙ e) c.parse.ensures.value.0 in
    let same : c.in-Ok-parse.read ≡ n = cc in
    not_same c.as_bytes.result.now c.args.text.now (c.as_bytes.ensures.value ∙ c.format.ensures.text ∙ ap decimal same ∙ sym e) (sym c.eq.ensures ∙ c.if-eq.false)

pub returns-then-eq-clause-only : goal.returns-then-eq-clause-only
returns-then-eq-clause-only c m small e =
    let read : c.parse.result ≡ Ok m = is_read m c.in-Ok.word.now c.parse.result small (c.in-Ok.ensures.cases.0 ∙ e) c.parse.ensures.value.0 in
    cc
