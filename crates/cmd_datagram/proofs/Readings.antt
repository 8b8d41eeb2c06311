-- What the readings of single keys say of their results.
use Rattle.std.proofs.Common.{◌≡◌, ℕ, ◌+◌, ◌≤◌, ◌&&◌, nat_le, Bool, true, false, if◌then◌else◌, cond, List, [], ◌∷◌, length, Option, Some, None, Ok, Err, ℤ, pos, negsuc, codes, refl, subst, arith}
use Rattle.std.proofs.lemmas.Bool.Decides.{nat_tests}
use Rattle.std.specs.Str.{bytes_eq}
use Rattle.std.specs.List.{AllByRecursion}
use Rattle.toml.specs.Data.{Data, Items, no_items, item, as_array, as_str, get}
use Rattle.sbe_value.specs.declared.path.Step.{Step}
use Rattle.sbe_value.specs.declared.path.Step.TheVariants.{Key, At}
use Rattle.fixp_msgs.specs.declared.flow.Flow.{Flow}
use Rattle.fixp_msgs.specs.declared.flow.Flow.TheVariants as flows
use Rattle.fixp_datagram.specs.Receiving.{IsCarried}
use Rattle.toml_walk.specs.Reading.{Read, ◌>>=◌, under}
use Rattle.toml_walk.specs.Keys.{required, required_of, get_or_default, get_or_default_of, list_of, list_of_items, elements}
use Rattle.toml_walk.specs.Values.{text_of_string, number_of, between, natural_of, listed}
use Rattle.toml_walk.specs.declared.fault.TomlFault.TheVariants.{Range}
use Rattle.cmd_datagram.specs.Script.{flow_of, IsNumberOf}

under-ok : {A : Type 0} (step : Step) (r : Read A) (a : A) → under step r ≡ Ok a → r ≡ Ok a
under-ok step (Ok b) a same = same
under-ok step (Err fault) a same = cc

-- ---- the numbers of datagrams

number_within : (datagrams : ℕ) (m k : ℕ) → (if nat_le 1 m && nat_le m datagrams then Ok m else Err (Range [])) ≡ Ok k → IsNumberOf datagrams k
number_within datagrams m k same = by_tests (nat_le 1 m) refl (nat_le m datagrams) refl same
  where
    by_tests : (b : Bool) → nat_le 1 m ≡ b → (c : Bool) → nat_le m datagrams ≡ c → cond (b && c) (Ok m) (Err (Range [])) ≡ Ok k → IsNumberOf datagrams k
    by_tests true least true most is = let same : m ≡ k = cc in subst (IsNumberOf datagrams) same (grind (arith, nat_tests, least), grind (arith, nat_tests, most))
    by_tests true least false most is = absurd (cc)
    by_tests false least c most is = absurd (cc)

of_number : (datagrams : ℕ) (r : Read ℤ) (k : ℕ) → (r >>= between 1 datagrams) ≡ Ok k → IsNumberOf datagrams k
of_number datagrams (Err fault) k same = absurd (cc)
of_number datagrams (Ok (pos m)) k same = number_within datagrams m k same
of_number datagrams (Ok (negsuc m)) k same = absurd (cc)

-- one element, and the others
one_more : (datagrams at : ℕ) (r : Read ℕ) (s : Read (List ℕ)) (ks : List ℕ) → ((k : ℕ) → r ≡ Ok k → IsNumberOf datagrams k)
    → ((others : List ℕ) → s ≡ Ok others → AllByRecursion (IsNumberOf datagrams) others)
    → (under (At at) r >>= λ k. s >>= λ others. Ok (k ∷ others)) ≡ Ok ks → AllByRecursion (IsNumberOf datagrams) ks
one_more datagrams at (Err fault) s ks one all same = absurd (cc)
one_more datagrams at (Ok k) (Err fault) ks one all same = absurd (cc)
one_more datagrams at (Ok k) (Ok others) ks one all same =
    let is : k ∷ others ≡ ks = cc in subst (AllByRecursion (IsNumberOf datagrams)) is (one k refl, all others refl)

each_of : (datagrams at : ℕ) (ds : Items) (ks : List ℕ) → elements (natural_of 1 datagrams) at ds ≡ Ok ks → AllByRecursion (IsNumberOf datagrams) ks
each_of datagrams at no_items ks same = let is : [] ≡ ks = cc in subst (AllByRecursion (IsNumberOf datagrams)) is tt
each_of datagrams at (item d ds) ks same =
    one_more datagrams at (natural_of 1 datagrams d) (elements (natural_of 1 datagrams) (at + 1) ds) ks (λ k is. of_number datagrams (number_of d) k is) (λ others is. each_of datagrams (at + 1) ds others is) same

of_items : (datagrams : ℕ) (o : Option Items) (ks : List ℕ) → list_of_items (natural_of 1 datagrams) o ≡ Ok ks → AllByRecursion (IsNumberOf datagrams) ks
of_items datagrams None ks same = absurd (cc)
of_items datagrams (Some ds) ks same = each_of datagrams 0 ds ks same

at_key : (datagrams : ℕ) (o : Option Data) (ks : List ℕ) → get_or_default_of (codes "deliver") [] (list_of (natural_of 1 datagrams)) o ≡ Ok ks → AllByRecursion (IsNumberOf datagrams) ks
at_key datagrams None ks same = let is : [] ≡ ks = cc in subst (AllByRecursion (IsNumberOf datagrams)) is tt
at_key datagrams (Some d) ks same = of_items datagrams (as_array d) ks (under-ok (Key (codes "deliver")) (list_of (natural_of 1 datagrams) d) ks same)

pub deliver_each : (datagrams : ℕ) (keys : Data) (ks : List ℕ) → get_or_default (codes "deliver") [] (list_of (natural_of 1 datagrams)) keys ≡ Ok ks → AllByRecursion (IsNumberOf datagrams) ks
deliver_each datagrams keys ks same = at_key datagrams (get (codes "deliver") keys) ks same

-- ---- the flow

of_words : (b c : Bool) (flow : Flow) → listed (cond b (Some flows.Recoverable) (cond c (Some flows.Idempotent) None)) ≡ Ok flow → IsCarried flow
of_words true c flow same = let is : flows.Recoverable ≡ flow = cc in subst IsCarried is tt
of_words false true flow same = let is : flows.Idempotent ≡ flow = cc in subst IsCarried is tt
of_words false false flow same = absurd (cc)

of_string : (s : Option (List ℕ)) (flow : Flow)
    → (text_of_string s >>= λ text. listed (cond (bytes_eq text (codes "recoverable")) (Some flows.Recoverable) (cond (bytes_eq text (codes "idempotent")) (Some flows.Idempotent) None))) ≡ Ok flow
    → IsCarried flow
of_string None flow same = absurd (cc)
of_string (Some text) flow same = of_words (bytes_eq text (codes "recoverable")) (bytes_eq text (codes "idempotent")) flow same

flow_at : (o : Option Data) (flow : Flow) → required_of (codes "flow") flow_of o ≡ Ok flow → IsCarried flow
flow_at None flow same = absurd (cc)
flow_at (Some d) flow same = of_string (as_str d) flow (under-ok (Key (codes "flow")) (flow_of d) flow same)

pub flow_carried : (keys : Data) (flow : Flow) → required (codes "flow") flow_of keys ≡ Ok flow → IsCarried flow
flow_carried keys flow same = flow_at (get (codes "flow") keys) flow same
