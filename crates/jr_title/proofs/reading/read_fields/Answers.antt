use Rattle.std.proofs.Common.{ℕ, ◌<◌, [], ◌∷◌, get_or, refl, subst, arith}
use Rattle.std.proofs.lemmas.Bool.{false≢true}
use Rattle.jr_title.specs.declared.title.Title.{Title}
use Rattle.jr_title.specs.declared.faults.Field.TheVariants as fields
use Rattle.jr_title.specs.Reading.{IsOneOf}
use Rattle.jr_title.proofs.Fields.{which_one, role_one, flow_one, first_of_who, says_in, read}
use Rattle.jr_title.proofs.reading.read_fields.Goals as goal

pub returns-in_default : goal.returns-in_default
returns-in_default c = record {
  exact = record {
    before = [];
    behind =
        fields.Role ∷ fields.ClientFlow ∷ fields.ServerFlow ∷ fields.WhoSends ∷ fields.Desks ∷ fields.OrderVersion ∷ fields.Reference ∷ fields.Zeros ∷ [];
    whole = refl;
    held = tt;
    fails = c.in_default.ensures.none;
  };
}

pub returns-in_default-role_of : goal.returns-in_default-role_of
returns-in_default-role_of c = record {
  exact = record {
    before = fields.Which ∷ [];
    behind = fields.ClientFlow ∷ fields.ServerFlow ∷ fields.WhoSends ∷ fields.Desks ∷ fields.OrderVersion ∷ fields.Reference ∷ fields.Zeros ∷ [];
    whole = refl;
    held = (subst (IsOneOf 1 2) c.in-Some.ensures.found (which_one c.in-Some.which), tt);
    fails = c.in_default-role_of.ensures.none;
  };
}

pub returns-in_default-flow_of : goal.returns-in_default-flow_of
returns-in_default-flow_of c = record {
  exact = record {
    before = fields.Which ∷ fields.Role ∷ [];
    behind = fields.ServerFlow ∷ fields.WhoSends ∷ fields.Desks ∷ fields.OrderVersion ∷ fields.Reference ∷ fields.Zeros ∷ [];
    whole = refl;
    held = (
      subst (IsOneOf 1 2) c.in-Some.ensures.found (which_one c.in-Some.which),
      (subst (IsOneOf 1 2) c.in-Some-role_of.ensures.found (role_one c.in-Some-role_of.role), tt),
    );
    fails = c.in_default-flow_of.ensures.none;
  };
}

pub returns-in_default-flow_of-2 : goal.returns-in_default-flow_of-2
returns-in_default-flow_of-2 c = record {
  exact = record {
    before = fields.Which ∷ fields.Role ∷ fields.ClientFlow ∷ [];
    behind = fields.WhoSends ∷ fields.Desks ∷ fields.OrderVersion ∷ fields.Reference ∷ fields.Zeros ∷ [];
    whole = refl;
    held = (
      subst (IsOneOf 1 2) c.in-Some.ensures.found (which_one c.in-Some.which),
      (
        subst (IsOneOf 1 2) c.in-Some-role_of.ensures.found (role_one c.in-Some-role_of.role),
        (subst (IsOneOf 1 4) c.in-Some-flow_of.ensures.found (flow_one c.in-Some-flow_of.client_flow), tt),
      ),
    );
    fails = c.in_default-flow_of-2.ensures.none;
  };
}

pub returns-in-Err : goal.returns-in-Err
returns-in-Err c = record {
  exact =
      first_of_who c.args.bytes.now c.in-Err.field (subst (IsOneOf 1 2) c.in-Some.ensures.found (which_one c.in-Some.which))
      (subst (IsOneOf 1 2) c.in-Some-role_of.ensures.found (role_one c.in-Some-role_of.role))
      (subst (IsOneOf 1 4) c.in-Some-flow_of.ensures.found (flow_one c.in-Some-flow_of.client_flow))
      (subst (IsOneOf 1 4) c.in-Some-flow_of-2.ensures.found (flow_one c.in-Some-flow_of-2.server_flow)) c.in-Err.ensures.exact;
}

pub returns-then-not-has_zeros : goal.returns-then-not-has_zeros
returns-then-not-has_zeros c =
    let who = says_in c.args.bytes.now c.in-Ok.who_sends c.in-Ok.ensures.exact in
    record {
      exact = record {
        before =
            fields.Which ∷ fields.Role ∷ fields.ClientFlow ∷ fields.ServerFlow ∷ fields.WhoSends ∷ fields.Desks ∷ fields.OrderVersion ∷ fields.Reference ∷ [];
        behind = [];
        whole = refl;
        held = (
          subst (IsOneOf 1 2) c.in-Some.ensures.found (which_one c.in-Some.which),
          (
            subst (IsOneOf 1 2) c.in-Some-role_of.ensures.found (role_one c.in-Some-role_of.role),
            (
              subst (IsOneOf 1 4) c.in-Some-flow_of.ensures.found (flow_one c.in-Some-flow_of.client_flow),
              (subst (IsOneOf 1 4) c.in-Some-flow_of-2.ensures.found (flow_one c.in-Some-flow_of-2.server_flow), who),
            ),
          ),
        );
        fails = λ zeros. false≢true (c.if-not-has_zeros.ensures.value.1 zeros);
      };
    }

pub returns : goal.returns
returns c =
    let all : (i : ℕ) → get_or c.args.bytes.now i 0 < 256 = λ i. omega (arith, c.type_inv.bytes i) in
    let t : Title =
    record {
      binding = record {
        which = c.in-Some.which;
        role = c.in-Some-role_of.role;
        session = c.session_of.result;
        client_flow = c.in-Some-flow_of.client_flow;
        server_flow = c.in-Some-flow_of-2.server_flow;
        who_sends = c.in-Ok.who_sends;
      };
      pair = c.u64_at-pair.result;
    } in
    record {
      exact =
          read c.args.bytes.now t c.requires.long all c.in-Some.ensures.found c.in-Some-role_of.ensures.found c.in-Some-flow_of.ensures.found
          c.in-Some-flow_of-2.ensures.found c.in-Ok.ensures.exact (c.if-not-has_zeros.ensures.value.0 refl) c.session_of.ensures.value c.u64_at-pair.ensures.value
          c.u64_at-pair.type_inv;
    }
