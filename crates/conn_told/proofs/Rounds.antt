-- What a round of telling leaves, and the end of it.
use Rattle.std.proofs.Common.{◌≡◌, ℕ, zero, suc, ◌+◌, ◌-◌, ◌^◌, ◌≤◌, min, Bool, false, List, [], ◌∷◌, ◌++◌, length, refl, ap, sym, subst, ◌∙◌, append_assoc, append-nil, arith}
use Rattle.std.specs.Prelude.{nat_lt, Option, Some, Result, Ok, Err, OnOk, IfErr}
use Rattle.std.proofs.lemmas.Bool.Decides.{nat_tests}
use Rattle.std.specs.Io.KnownBytes.{Appends, Consumes, IsAtEnd, Keeps}
use Rattle.std.proofs.KnownBytes.{Appends-nil, Appends-trans, Consumes-nil, Consumes-trans, Consumes-kept}
use Rattle.gw_outside.specs.Faults.{TakesFront}
use Rattle.text_words.specs.Lines.{lines_in}
use Rattle.gw_lines.specs.Lines.{with_feeds}
use Rattle.gw_lines.specs.Reading.{Reading, HasGiven}
use Rattle.gw_lines.proofs.Steps.{more_behind}
use Rattle.sbe_layout.specs.declared.plan.Plan.{Plan}
use Rattle.conn_told.specs.declared.end.Wrong.{Wrong}
use Rattle.conn_told.specs.declared.end.Stop.{Stop}
use Rattle.conn_told.specs.declared.end.Stop.TheVariants as stops
use Rattle.conn_told.specs.declared.end.ToldEnd.{ToldEnd}
use Rattle.conn_told.specs.declared.end.ToldEnd.TheVariants as ends
use Rattle.conn_told.specs.Told.{Say, Front, Gave, GaveFirst, GaveFront, GaveRefused}
use Rattle.conn_told.specs.Progress.{HasSaid, StopsSo, Reads, Stops, StopsLast, Streams, Told, StandsSo, KeepsTo, GoesOn, AfterRound, Pushes, said}
use Rattle.gw_lines.proofs.Streams.{first_lines, told, at_end, front_behind}

-- the lines of a text that begins with what was read
all_lines : (read left : List ℕ) (reader : Reading) (raw : List (List ℕ)) (given : HasGiven read raw reader)
    → lines_in (read ++ left) ≡ said raw ++ lines_in ((given.front ++ reader.waiting) ++ left)
all_lines read left reader raw given =
    ap (λ (bs : List ℕ). lines_in (bs ++ left)) given.bytes ∙ ap lines_in (more_behind raw (given.front ++ reader.waiting) left)
    ∙ first_lines raw ((given.front ++ reader.waiting) ++ left) given.each

-- where all that was read says a text, that is what the first lines of the whole say
front_of : (plan : Plan) (read left text : List ℕ) (reader : Reading) (raw : List (List ℕ)) → HasGiven read raw reader → Say plan (said raw) text → Front plan (lines_in (read ++ left)) text
front_of plan read left text reader raw given say = record {
  first = said raw;
  behind = lines_in ((given.front ++ reader.waiting) ++ left);
  split = all_lines read left reader raw given;
  say = say;
}

-- the first lines of some lines, of which the last is refused
refused_front : (plan : Plan) (lines behind : List (List ℕ)) (pushed waits : List ℕ) (number : ℕ) (wrong : Wrong) (all : List (List ℕ)) → StopsSo plan pushed waits number wrong lines → all ≡ lines ++ behind
    → Front plan all (pushed ++ waits)
refused_front plan lines behind pushed waits number wrong all s e = record {
  first = s.first;
  behind = s.here ∷ behind;
  split = e ∙ ap (λ (ls : List (List ℕ)). ls ++ behind) s.split ∙ append_assoc s.first (s.here ∷ []) behind;
  say = s.say;
}

refused_gave : (plan : Plan) (lines behind : List (List ℕ)) (pushed waits : List ℕ) (number told_number : ℕ) (wrong told_wrong : Wrong) (all : List (List ℕ)) (before mid after : Option (List ℕ))
    → StopsSo plan pushed waits number wrong lines → all ≡ lines ++ behind → told_number ≡ number → told_wrong ≡ wrong → Appends before mid pushed → Appends mid after waits
    → GaveRefused plan all told_number told_wrong before after
refused_gave plan lines behind pushed waits number told_number wrong told_wrong all before mid after s e number_is wrong_is first second = record {
  text = pushed ++ waits;
  refused = record {
    first = s.first;
    here = s.here;
    behind = behind;
    split = e ∙ ap (λ (ls : List (List ℕ)). ls ++ behind) s.split ∙ append_assoc s.first (s.here ∷ []) behind;
    say = s.say;
    refused = rw wrong_is s.refused;
    number = number_is ∙ s.number_is;
  };
  gave = Appends-trans before mid after pushed waits first second;
}

-- nothing was pushed since it stood so
first_gave : (plan : Plan) (before now : Streams) (reader : Reading) (left : Option (List ℕ)) (s : StandsSo plan before now reader) (more : List ℕ) → Consumes now.input left more
    → (text : List ℕ) → before.input ≡ Some text → GaveFirst plan (lines_in text) before.out now.out
first_gave plan before now reader left s more consumed text e =
    let t = told before.input left (s.read ++ more) text (Consumes-trans before.input now.input left s.read more s.consumed consumed) e in
    let whole : text ≡ s.read ++ (more ++ t.0) = t.1 ∙ append_assoc s.read more t.0 in
    record {
      text = s.reads.is.text;
      front = subst (λ (bs : List ℕ). Front plan (lines_in bs) s.reads.is.text) (sym whole) (front_of plan s.read (more ++ t.0) s.reads.is.text reader s.reads.raw s.reads.given s.reads.is.say);
      gave = s.reads.is.gave;
    }

pub unread : (plan : Plan) (before now : Streams) (old new : Reading) (left : Option (List ℕ)) → Keeps now.input left → StandsSo plan before now old
    → AfterRound plan before (record { input = left; out = now.out }) new (Err ends.Input)
unread plan before now old new left kept s = λ text e.
    first_gave plan before now old now.input s [] (Consumes-nil now.input) text e

-- what was read stands so behind what was told before
reads_behind : (plan : Plan) (before now : Streams) (old mid : Reading) (s : StandsSo plan before now old)
    → ((read : List ℕ) (lines : List (List ℕ)) → HasGiven read lines old → HasGiven (read ++ mid.waiting) lines mid)
    → Reads (s.read ++ mid.waiting) mid (HasSaid plan s.reads.is.text [])
reads_behind plan before now old mid s given = record {
  raw = s.reads.raw;
  given = given s.read s.reads.raw s.reads.given;
  is = subst (Say plan (said s.reads.raw)) (sym (append-nil s.reads.is.text)) s.reads.is.say;
}

-- a piece was read, what its lines say was added, and pushed
pub round_goes : (plan : Plan) (before now : Streams) (old mid new : Reading) (left out : Option (List ℕ)) (waits more : List ℕ) (is_more : Bool) → waits ≡ [] → Consumes now.input left mid.waiting
    → ((read : List ℕ) (lines : List (List ℕ)) → HasGiven read lines old → HasGiven (read ++ mid.waiting) lines mid) → (is_more ≡ false → IsAtEnd left)
    → ((pushed read : List ℕ) → Reads read mid (HasSaid plan pushed waits) → Reads read new (HasSaid plan pushed more)) → Appends now.out out more
    → StandsSo plan before now old → AfterRound plan before (record { input = left; out = out }) new (Ok is_more)
round_goes plan before now old mid new left out waits more is_more none consumed given end goes gave s =
    let first = subst (λ (bs : List ℕ). Reads (s.read ++ mid.waiting) mid (HasSaid plan s.reads.is.text bs)) (sym none) (reads_behind plan before now old mid s given) in
    let r = goes s.reads.is.text (s.read ++ mid.waiting) first in
    record {
      stands = record {
        read = s.read ++ mid.waiting;
        consumed = Consumes-trans before.input now.input left s.read mid.waiting s.consumed consumed;
        reads = record {
          raw = r.raw;
          given = r.given;
          is = record { text = s.reads.is.text ++ more; say = r.is; gave = Appends-trans before.out now.out out s.reads.is.text more s.reads.is.gave gave };
        };
      };
      at_end = end;
    }

-- a piece was read, and told up to an end
pub round_ends : (plan : Plan) (before now : Streams) (old mid new : Reading) (left out : Option (List ℕ)) (waits more : List ℕ) (added : Result (Unit {0}) Stop) (end : ToldEnd) → waits ≡ []
    → Consumes now.input left mid.waiting → ((read : List ℕ) (lines : List (List ℕ)) → HasGiven read lines old → HasGiven (read ++ mid.waiting) lines mid)
    → OnOk added ((pushed read : List ℕ) → Reads read mid (HasSaid plan pushed waits) → Reads read new (HasSaid plan pushed more))
    → IfErr added (λ stop. (read : List ℕ) → Stops plan waits more mid new read stop) → Pushes {B = Unit {0}} now.out out more new.number added (Err end)
    → StandsSo plan before now old → KeepsTo plan before (record { input = left; out = out }) end
round_ends plan before now old mid new left out waits more (Ok _) ends.Output none consumed given goes stops front s = λ text e.
    let first = subst (λ (bs : List ℕ). Reads (s.read ++ mid.waiting) mid (HasSaid plan s.reads.is.text bs)) (sym none) (reads_behind plan before now old mid s given) in
    let r = goes s.reads.is.text (s.read ++ mid.waiting) first in
    let t = told before.input left (s.read ++ mid.waiting) text (Consumes-trans before.input now.input left s.read mid.waiting s.consumed consumed) e in
    record {
      text = s.reads.is.text ++ more;
      front = subst (λ (bs : List ℕ). Front plan (lines_in bs) (s.reads.is.text ++ more)) (sym t.1) (front_of plan (s.read ++ mid.waiting) t.0 (s.reads.is.text ++ more) new r.raw r.given r.is);
      gave = front_behind before.out now.out out s.reads.is.text more s.reads.is.gave front;
    }
round_ends plan before now old mid new left out waits more (Ok _) ends.Done none consumed given goes stops pushes s = absurd pushes
round_ends plan before now old mid new left out waits more (Ok _) ends.Input none consumed given goes stops pushes s = absurd pushes
round_ends plan before now old mid new left out waits more (Ok _) (ends.Refused line wrong) none consumed given goes stops pushes s = absurd pushes
round_ends plan before now old mid new left out waits more (Ok _) ends.Memory none consumed given goes stops pushes s = absurd pushes
round_ends plan before now old mid new left out waits more (Err (stops.Wrong wrong)) ends.Output none consumed given goes stops front s = λ text e.
    let first = subst (λ (bs : List ℕ). Reads (s.read ++ mid.waiting) mid (HasSaid plan s.reads.is.text bs)) (sym none) (reads_behind plan before now old mid s given) in
    let r = stops (s.read ++ mid.waiting) s.reads.is.text first in
    let t = told before.input left (s.read ++ mid.waiting) text (Consumes-trans before.input now.input left s.read mid.waiting s.consumed consumed) e in
    let lines = ap lines_in t.1 ∙ all_lines (s.read ++ mid.waiting) t.0 new r.raw r.given in
    record {
      text = s.reads.is.text ++ more;
      front = refused_front plan (said r.raw) (lines_in ((r.given.front ++ new.waiting) ++ t.0)) s.reads.is.text more new.number wrong (lines_in text) r.is lines;
      gave = front_behind before.out now.out out s.reads.is.text more s.reads.is.gave front;
    }
round_ends plan before now old mid new left out waits more (Err (stops.Wrong wrong)) (ends.Refused line told_wrong) none consumed given goes stops pushes s = λ text e.
    let first = subst (λ (bs : List ℕ). Reads (s.read ++ mid.waiting) mid (HasSaid plan s.reads.is.text bs)) (sym none) (reads_behind plan before now old mid s given) in
    let r = stops (s.read ++ mid.waiting) s.reads.is.text first in
    let t = told before.input left (s.read ++ mid.waiting) text (Consumes-trans before.input now.input left s.read mid.waiting s.consumed consumed) e in
    let lines = ap lines_in t.1 ∙ all_lines (s.read ++ mid.waiting) t.0 new r.raw r.given in
    refused_gave plan (said r.raw) (lines_in ((r.given.front ++ new.waiting) ++ t.0)) s.reads.is.text more new.number line wrong told_wrong (lines_in text) before.out now.out out r.is lines
    pushes.line_is pushes.wrong_is s.reads.is.gave pushes.gave
round_ends plan before now old mid new left out waits more (Err (stops.Wrong wrong)) ends.Done none consumed given goes stops pushes s = absurd pushes
round_ends plan before now old mid new left out waits more (Err (stops.Wrong wrong)) ends.Input none consumed given goes stops pushes s = absurd pushes
round_ends plan before now old mid new left out waits more (Err (stops.Wrong wrong)) ends.Memory none consumed given goes stops pushes s = absurd pushes
round_ends plan before now old mid new left out waits more (Err stops.Memory) ends.Memory none consumed given goes stops same s = λ text e.
    rw same (first_gave plan before now old left s mid.waiting consumed text e)
round_ends plan before now old mid new left out waits more (Err stops.Memory) ends.Done none consumed given goes stops pushes s = absurd pushes
round_ends plan before now old mid new left out waits more (Err stops.Memory) ends.Input none consumed given goes stops pushes s = absurd pushes
round_ends plan before now old mid new left out waits more (Err stops.Memory) ends.Output none consumed given goes stops pushes s = absurd pushes
round_ends plan before now old mid new left out waits more (Err stops.Memory) (ends.Refused line wrong) none consumed given goes stops pushes s = absurd pushes

-- ---- the end of the source

whole_is : (plan : Plan) (before now : Streams) (reader : Reading) (s : StandsSo plan before now reader) → IsAtEnd now.input → (text : List ℕ) → before.input ≡ Some text → text ≡ s.read
whole_is plan before now reader s end text e =
    let t = told before.input now.input s.read text s.consumed e in
    t.1 ∙ ap (λ (bs : List ℕ). s.read ++ bs) (at_end now.input t.0 end t.2) ∙ append-nil s.read

all_front : (plan : Plan) (lines : List (List ℕ)) (text : List ℕ) → Say plan lines text → Front plan lines text
all_front plan lines text say = record { first = lines; behind = []; split = sym (append-nil lines); say = say }

waits_none : (plan : Plan) (before now : Streams) (old : Reading) (s : StandsSo plan before now old) (waits : List ℕ) → waits ≡ [] → Reads s.read old (HasSaid plan s.reads.is.text waits)
waits_none plan before now old s waits none = record {
  raw = s.reads.raw;
  given = s.reads.given;
  is = subst (Say plan (said s.reads.raw)) (sym (ap (λ (bs : List ℕ). s.reads.is.text ++ bs) none ∙ append-nil s.reads.is.text)) s.reads.is.say;
}

pub finish_ends : (plan : Plan) (before now : Streams) (old : Reading) (number : ℕ) (out : Option (List ℕ)) (waits more : List ℕ) (added : Result (Unit {0}) Stop) (end : ToldEnd) → waits ≡ []
    → OnOk added ((pushed read : List ℕ) → Reads read old (HasSaid plan pushed waits) → HasSaid plan pushed more (lines_in read))
    → IfErr added (λ stop. (read : List ℕ) → StopsLast plan waits more old number read stop) → Pushes {B = Unit {0}} now.out out more number added (Err end)
    → StandsSo plan before now old → IsAtEnd now.input → KeepsTo plan before (record { input = now.input; out = out }) end
finish_ends plan before now old number out waits more (Ok _) ends.Output none goes stops front s end = λ text e.
    let is = whole_is plan before now old s end text e in
    let say = goes s.reads.is.text s.read (waits_none plan before now old s waits none) in
    record {
      text = s.reads.is.text ++ more;
      front = subst (λ (bs : List ℕ). Front plan (lines_in bs) (s.reads.is.text ++ more)) (sym is) (all_front plan (lines_in s.read) (s.reads.is.text ++ more) say);
      gave = front_behind before.out now.out out s.reads.is.text more s.reads.is.gave front;
    }
finish_ends plan before now old number out waits more (Ok _) ends.Done none goes stops pushes s end = absurd pushes
finish_ends plan before now old number out waits more (Ok _) ends.Input none goes stops pushes s end = absurd pushes
finish_ends plan before now old number out waits more (Ok _) (ends.Refused line wrong) none goes stops pushes s end = absurd pushes
finish_ends plan before now old number out waits more (Ok _) ends.Memory none goes stops pushes s end = absurd pushes
finish_ends plan before now old number out waits more (Err (stops.Wrong wrong)) ends.Output none goes stops front s end = λ text e.
    let is = whole_is plan before now old s end text e in
    let r = stops s.read s.reads.is.text (waits_none plan before now old s waits none) in
    record {
      text = s.reads.is.text ++ more;
      front = refused_front plan (lines_in s.read) [] s.reads.is.text more number wrong (lines_in text) r (ap lines_in is ∙ sym (append-nil (lines_in s.read)));
      gave = front_behind before.out now.out out s.reads.is.text more s.reads.is.gave front;
    }
finish_ends plan before now old number out waits more (Err (stops.Wrong wrong)) (ends.Refused line told_wrong) none goes stops pushes s end = λ text e.
    let is = whole_is plan before now old s end text e in
    let r = stops s.read s.reads.is.text (waits_none plan before now old s waits none) in
    refused_gave plan (lines_in s.read) [] s.reads.is.text more number line wrong told_wrong (lines_in text) before.out now.out out r (ap lines_in is ∙ sym (append-nil (lines_in s.read)))
    pushes.line_is pushes.wrong_is s.reads.is.gave pushes.gave
finish_ends plan before now old number out waits more (Err (stops.Wrong wrong)) ends.Done none goes stops pushes s end = absurd pushes
finish_ends plan before now old number out waits more (Err (stops.Wrong wrong)) ends.Input none goes stops pushes s end = absurd pushes
finish_ends plan before now old number out waits more (Err (stops.Wrong wrong)) ends.Memory none goes stops pushes s end = absurd pushes
finish_ends plan before now old number out waits more (Err stops.Memory) ends.Memory none goes stops same s end = λ text e.
    rw same (first_gave plan before now old now.input s [] (Consumes-nil now.input) text e)
finish_ends plan before now old number out waits more (Err stops.Memory) ends.Done none goes stops pushes s end = absurd pushes
finish_ends plan before now old number out waits more (Err stops.Memory) ends.Input none goes stops pushes s end = absurd pushes
finish_ends plan before now old number out waits more (Err stops.Memory) ends.Output none goes stops pushes s end = absurd pushes
finish_ends plan before now old number out waits more (Err stops.Memory) (ends.Refused line wrong) none goes stops pushes s end = absurd pushes

pub finish_done : (plan : Plan) (before now : Streams) (old : Reading) (out : Option (List ℕ)) (waits more : List ℕ) → waits ≡ []
    → ((pushed read : List ℕ) → Reads read old (HasSaid plan pushed waits) → HasSaid plan pushed more (lines_in read)) → Appends now.out out more
    → StandsSo plan before now old → IsAtEnd now.input → KeepsTo plan before (record { input = now.input; out = out }) ends.Done
finish_done plan before now old out waits more none goes gave s end = λ text e.
    let is = whole_is plan before now old s end text e in
    let say = goes s.reads.is.text s.read (waits_none plan before now old s waits none) in
    record {
      text = s.reads.is.text ++ more;
      say = subst (λ (bs : List ℕ). Say plan (lines_in bs) (s.reads.is.text ++ more)) (sym is) say;
      gave = Appends-trans before.out now.out out s.reads.is.text more s.reads.is.gave gave;
    }

-- ---- the beginning

pub begins : (plan : Plan) (now : Streams) (reader : Reading) → HasGiven [] [] reader → StandsSo plan now now reader
begins plan now reader given = record {
  read = [];
  consumed = Consumes-nil now.input;
  reads = record {
    raw = [];
    given = given;
    is = record { text = []; say = record { texts = []; said = tt; joined_is = refl }; gave = Appends-nil now.out };
  };
}

pub unmade : (plan : Plan) (now : Streams) → KeepsTo plan now now ends.Memory
unmade plan now = λ text e. record {
  text = [];
  front = record { first = []; behind = lines_in text; split = refl; say = record { texts = []; said = tt; joined_is = refl } };
  gave = Appends-nil now.out;
}

-- ---- what was pushed behind lines that were all told

pub pushed_ok : (X : Type 0) (before after : Option (List ℕ)) (waits : List ℕ) (line : ℕ) (added : Result (Unit {0}) Stop) → OnOk added X → Pushes {B = Unit {0}} before after waits line added (Ok tt)
    → X × Appends before after waits
pushed_ok X before after waits line (Ok _) x pushes = (x, pushes)
pushed_ok X before after waits line (Err (stops.Wrong wrong)) x pushes = absurd pushes
pushed_ok X before after waits line (Err stops.Memory) x pushes = absurd pushes

pub none_read : (count : ℕ) → nat_lt 0 count ≡ false → count ≡ 0
none_read count e = grind (arith, nat_tests)
