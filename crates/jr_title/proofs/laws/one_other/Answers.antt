use Rattle.std.proofs.Common.{Some, None, refl, ap}
use Rattle.jr_title.specs.Laws.{AtMostOneOther}
use Rattle.jr_title.specs.Others.{HasPart, all_parts}
use Rattle.jr_title.proofs.Firsts.{one_first, none_first}
use Rattle.jr_title.proofs.laws.one_other.Goals as goal

one_other : AtMostOneOther
one_other t asked pair None None p q = refl
one_other t asked pair None (Some k) p q = absurd (none_first (HasPart t asked pair) all_parts k p q)
one_other t asked pair (Some j) None p q = absurd (none_first (HasPart t asked pair) all_parts j q p)
one_other t asked pair (Some j) (Some k) p q = ap Some (one_first (HasPart t asked pair) all_parts j k p q)

pub returns : goal.returns
returns c = record { law = one_other }
