-- Bytes are read in one way.
use Rattle.std.proofs.Common.{◌≡◌, ℕ, ◌≤◌, List, length, take, refl, ap, arith, Result, Ok, Err}
use Rattle.std.specs.List.{AllByRecursion}
use Rattle.jr_title.specs.declared.title.Title.{Title}
use Rattle.jr_title.specs.declared.faults.TitleFault.{TitleFault}
use Rattle.jr_title.specs.declared.faults.TitleFault.TheVariants.{Magic, Short, Sum, Range}
use Rattle.jr_title.specs.Laws.{AtMostOneReading}
use Rattle.jr_title.specs.Titles.{magic, codes_of}
use Rattle.jr_title.specs.Reading.{IsReading, InRange, HasSum, all_fields}
use Rattle.jr_title.proofs.Firsts.{one_first, none_first}
use Rattle.jr_title.proofs.Images.{fronted, parts, parted}
use Rattle.jr_title.proofs.Titles.{same_image}
use Rattle.jr_title.proofs.Fields.{all_in}

-- bytes that no cause refuses
record Sound (b : List ℕ) : Type 0 where
  magical : take 8 b ≡ magic
  long : 64 ≤ length b
  sum : HasSum b
  all : AllByRecursion (InRange b) all_fields

sound : (b : List ℕ) (t : Title) → IsReading b (Ok t) → Sound b
sound b t is =
    let front = fronted b t is.0.session is.1 in
    let long : 60 ≤ length b = omega (arith, front.long) in
    let eight : 8 ≤ length b = omega (arith, front.long) in
    let p = parts b t is.0.session long front.front in
    record { magical = (parted 8 6 b magic (codes_of t) eight refl p.head).0; long = front.long; sum = front.sum; all = all_in b t is.0 p }

refused : (b : List ℕ) (fault : TitleFault) → Sound b → IsReading b (Err fault) → ⊥
refused b Magic s is = is s.magical
refused b Short s is = omega (arith, s.long, is.1)
refused b Sum s is = is.1 s.sum
refused b (Range field) s is = none_first (InRange b) all_fields field s.all is.2

one_fault : (b : List ℕ) (f g : TitleFault) → IsReading b (Err f) → IsReading b (Err g) → f ≡ g
one_fault b Magic Magic p q = refl
one_fault b Magic Short p q = absurd (p q.0)
one_fault b Magic Sum p q = absurd (p q.0.magical)
one_fault b Magic (Range g) p q = absurd (p q.0.magical)
one_fault b Short Magic p q = absurd (q p.0)
one_fault b Short Short p q = refl
one_fault b Short Sum p q = absurd (omega (arith, p.1, q.0.long))
one_fault b Short (Range g) p q = absurd (omega (arith, p.1, q.0.long))
one_fault b Sum Magic p q = absurd (q p.0.magical)
one_fault b Sum Short p q = absurd (omega (arith, q.1, p.0.long))
one_fault b Sum Sum p q = refl
one_fault b Sum (Range g) p q = absurd (p.1 q.1)
one_fault b (Range f) Magic p q = absurd (q p.0.magical)
one_fault b (Range f) Short p q = absurd (omega (arith, q.1, p.0.long))
one_fault b (Range f) Sum p q = absurd (q.1 p.1)
one_fault b (Range f) (Range g) p q = ap Range (one_first (InRange b) all_fields f g p.2 q.2)

abbrev read_as : Title → Result Title TitleFault
read_as t = Ok t

abbrev refused_as : TitleFault → Result Title TitleFault
refused_as fault = Err fault

pub one_reading : AtMostOneReading
one_reading b (Ok t) (Ok u) p q = ap read_as (same_image b t u p.0 q.0 p.1 q.1)
one_reading b (Ok t) (Err g) p q = absurd (refused b g (sound b t p) q)
one_reading b (Err f) (Ok u) p q = absurd (refused b f (sound b u q) p)
one_reading b (Err f) (Err g) p q = ap refused_as (one_fault b f g p q)
