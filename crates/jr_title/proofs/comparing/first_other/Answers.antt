use Rattle.std.proofs.Common.{[], ◌∷◌, refl}
use Rattle.std.proofs.lemmas.Bool.{false≢true}
use Rattle.jr_title.specs.declared.comparing.Part.TheVariants as parts
use Rattle.jr_title.proofs.comparing.first_other.Goals as goal

pub returns-then-not-is_box : goal.returns-then-not-is_box
returns-then-not-is_box c = record {
  first = record {
    before = [];
    behind = parts.Role ∷ parts.Session ∷ parts.Flows ∷ parts.Senders ∷ parts.Pair ∷ [];
    whole = refl;
    held = tt;
    fails = λ has. false≢true (c.if-not-is_box.ensures.value.1 has);
  };
}

pub returns-then-not-is_role : goal.returns-then-not-is_role
returns-then-not-is_role c = record {
  first = record {
    before = parts.Box ∷ [];
    behind = parts.Session ∷ parts.Flows ∷ parts.Senders ∷ parts.Pair ∷ [];
    whole = refl;
    held = (c.if-not-is_box.ensures.value.0 refl, tt);
    fails = λ has. false≢true (c.if-not-is_role.ensures.value.1 has);
  };
}

pub returns-then-not-is_session : goal.returns-then-not-is_session
returns-then-not-is_session c = record {
  first = record {
    before = parts.Box ∷ parts.Role ∷ [];
    behind = parts.Flows ∷ parts.Senders ∷ parts.Pair ∷ [];
    whole = refl;
    held = (c.if-not-is_box.ensures.value.0 refl, (c.if-not-is_role.ensures.value.0 refl, tt));
    fails = λ has. false≢true (c.if-not-is_session.ensures.value.1 has);
  };
}

pub returns-then-not-has_flows : goal.returns-then-not-has_flows
returns-then-not-has_flows c = record {
  first = record {
    before = parts.Box ∷ parts.Role ∷ parts.Session ∷ [];
    behind = parts.Senders ∷ parts.Pair ∷ [];
    whole = refl;
    held = (c.if-not-is_box.ensures.value.0 refl, (c.if-not-is_role.ensures.value.0 refl, (c.if-not-is_session.ensures.value.0 refl, tt)));
    fails = λ has. false≢true (c.if-not-has_flows.ensures.value.1 has);
  };
}

pub returns-then-not-is_sender : goal.returns-then-not-is_sender
returns-then-not-is_sender c = record {
  first = record {
    before = parts.Box ∷ parts.Role ∷ parts.Session ∷ parts.Flows ∷ [];
    behind = parts.Pair ∷ [];
    whole = refl;
    held = (c.if-not-is_box.ensures.value.0 refl, (c.if-not-is_role.ensures.value.0 refl, (c.if-not-is_session.ensures.value.0 refl, (c.if-not-has_flows.ensures.value.0 refl, tt))));
    fails = λ has. false≢true (c.if-not-is_sender.ensures.value.1 has);
  };
}

pub returns-then-not-has_pair : goal.returns-then-not-has_pair
returns-then-not-has_pair c = record {
  first = record {
    before = parts.Box ∷ parts.Role ∷ parts.Session ∷ parts.Flows ∷ parts.Senders ∷ [];
    behind = [];
    whole = refl;
    held = (c.if-not-is_box.ensures.value.0 refl, (c.if-not-is_role.ensures.value.0 refl, (c.if-not-is_session.ensures.value.0 refl, (c.if-not-has_flows.ensures.value.0 refl, (c.if-not-is_sender.ensures.value.0 refl, tt)))));
    fails = λ has. false≢true (c.if-not-has_pair.ensures.value.1 has);
  };
}
