use Rattle.std.proofs.Common.{[], ◌∷◌, ℕ, refl, sym, subst, get_or, arith}
use Rattle.std.proofs.lemmas.Bool.{false≢true}
use Rattle.jr_title.specs.Reading.{IsVersion, IsReference}
use Rattle.jr_title.specs.declared.faults.Field.TheVariants as fields
use Rattle.jr_title.proofs.reading.read_who.Goals as goal

pub returns-then-code-gt2 : goal.returns-then-code-gt2
returns-then-code-gt2 c = record {
  exact = record {
    before = [];
    behind = fields.Desks ∷ fields.OrderVersion ∷ fields.Reference ∷ [];
    whole = refl;
    held = tt;
    fails = λ small. omega (arith, small, c.if-code-gt2.true);
  };
}

pub returns-then-not-is_desks : goal.returns-then-not-is_desks
returns-then-not-is_desks c = record {
  exact = record {
    before = fields.WhoSends ∷ [];
    behind = fields.OrderVersion ∷ fields.Reference ∷ [];
    whole = refl;
    held = (c.if-code-gt2.false, tt);
    fails = λ in_range. false≢true (c.if-not-is_desks.ensures.value.1 in_range);
  };
}

pub returns-then-not-is_version : goal.returns-then-not-is_version
returns-then-not-is_version c = record {
  exact = record {
    before = fields.WhoSends ∷ fields.Desks ∷ [];
    behind = fields.Reference ∷ [];
    whole = refl;
    held = (c.if-code-gt2.false, (c.if-not-is_desks.ensures.value.0 refl, tt));
    fails = λ in_range. false≢true (c.if-not-is_version.ensures.value.1 (subst (λ (n : ℕ). IsVersion (get_or c.args.bytes.now 12 0) n) (sym c.u16_at-version.ensures.value) in_range));
  };
}

pub returns-then-not-is_reference : goal.returns-then-not-is_reference
returns-then-not-is_reference c = record {
  exact = record {
    before = fields.WhoSends ∷ fields.Desks ∷ fields.OrderVersion ∷ [];
    behind = [];
    whole = refl;
    held = (c.if-code-gt2.false, (c.if-not-is_desks.ensures.value.0 refl, (subst (λ (n : ℕ). IsVersion (get_or c.args.bytes.now 12 0) n) c.u16_at-version.ensures.value (c.if-not-is_version.ensures.value.0 refl), tt)));
    fails = λ in_range. false≢true (c.if-not-is_reference.ensures.value.1 (subst (λ (n : ℕ). IsReference (get_or c.args.bytes.now 12 0) n) (sym c.u64_at-reference.ensures.value) in_range));
  };
}
