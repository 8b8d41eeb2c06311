-- What a round leaves, and the end of the text.
use Rattle.std.proofs.Common.{◌≡◌, ℕ, zero, suc, ◌+◌, ◌-◌, ◌^◌, ◌≤◌, min, Bool, false, List, [], ◌∷◌, ◌++◌, length, refl, ap, sym, subst, ◌∙◌, append_assoc, append-nil, length-append, arith}
use Rattle.std.specs.Prelude.{nat_lt, Option, Some, Result, Ok, Err, OnOk, IfErr}
use Rattle.std.proofs.lemmas.Bool.Decides.{nat_tests}
use Rattle.std.specs.Io.KnownBytes.{Appends, Consumes, IsAtEnd, Keeps}
use Rattle.std.proofs.KnownBytes.{Appends-nil, Appends-trans, Consumes-nil, Consumes-trans}
use Rattle.gw_outside.specs.Faults.{TakesFront}
use Rattle.text_words.specs.Lines.{lines_in}
use Rattle.gw_lines.specs.Reading.{Reading, HasGiven}
use Rattle.gw_lines.proofs.Steps.{more_behind}
use Rattle.gw_lines.proofs.Streams.{first_lines, told, at_end, front_behind}
use Rattle.sbe_layout.specs.declared.plan.Plan.{Plan}
use Rattle.plan_lines.specs.declared.form.Form.{Form}
use Rattle.plan_lines.specs.declared.end.Wrong.{Wrong}
use Rattle.plan_lines.specs.declared.end.Stop.{Stop}
use Rattle.plan_lines.specs.declared.end.Stop.TheVariants as stops
use Rattle.plan_lines.specs.declared.end.PlanEnd.{PlanEnd}
use Rattle.plan_lines.specs.declared.end.PlanEnd.TheVariants as ends
use Rattle.plan_lines.specs.declared.place.Place.{Place}
use Rattle.plan_lines.specs.Entries.{AreEntries, Entry}
use Rattle.plan_lines.specs.Lines.{lines_of}
use Rattle.plan_lines.specs.Planned.{Gave, GaveFirst, GaveFront, GaveRefused}
use Rattle.plan_lines.specs.Progress.{AfterRound, GoesFurther, IsAll, KeepsTo, Pushed, Pushes, Reads, Stands, StandsSo, Starts, Stops, StopsAtEnd, StopsLast, StopsSo, Streams, said}
use Rattle.plan_lines.proofs.Entries.{entries_more, left_short}
use Rattle.plan_lines.proofs.Taking.{nothing_read}

-- the lines of a text that begins with what was read
all_lines : (read left : List ℕ) (reader : Reading) (raw : List (List ℕ)) (given : HasGiven read raw reader)
    → lines_in (read ++ left) ≡ said raw ++ lines_in ((given.front ++ reader.waiting) ++ left)
all_lines read left reader raw given =
    ap (λ (bs : List ℕ). lines_in (bs ++ left)) given.bytes ∙ ap lines_in (more_behind raw (given.front ++ reader.waiting) left)
    ∙ first_lines raw ((given.front ++ reader.waiting) ++ left) given.each

-- what was pushed, where nothing waits
nothing_waits : (pushed : List ℕ) (waits all : List ℕ) → waits ≡ [] → pushed ++ waits ≡ all → pushed ≡ all
nothing_waits pushed waits all none given = sym (append-nil pushed) ∙ ap (λ (bs : List ℕ). pushed ++ bs) (sym none) ∙ given

-- ---- what the first lines of a text gave

first_gave : (plan : Plan) (before now : Streams) (reader : Reading) (p : Place) (form : Form) (left : Option (List ℕ)) (s : StandsSo plan before now reader p) (more : List ℕ) → p.lines.items ≡ []
    → p.form ≡ form → Consumes now.input left more → (text : List ℕ) → before.input ≡ Some text → GaveFirst plan form (lines_in text) before.out now.out
first_gave plan before now reader p form left s more none form_is consumed text e =
    let t = told before.input left (s.read ++ more) text (Consumes-trans before.input now.input left s.read more s.consumed consumed) e in
    let whole : text ≡ s.read ++ (more ++ t.0) = t.1 ∙ append_assoc s.read more t.0 in
    let lines = ap lines_in whole ∙ all_lines s.read (more ++ t.0) reader s.reads.raw s.reads.given in
    let stands = s.reads.is.stands in
    let rest = lines_in ((s.reads.given.front ++ reader.waiting) ++ (more ++ t.0)) in
    record {
      entries = stands.entries;
      behind = stands.front ++ rest;
      are = subst (λ (ls : List (List ℕ)). AreEntries plan ls stands.entries (stands.front ++ rest)) (sym lines) (entries_more plan (said s.reads.raw) stands.entries stands.front rest stands.are);
      gave = subst (Appends before.out now.out) (nothing_waits s.reads.is.text p.lines.items (lines_of plan p.form stands.entries) none stands.given ∙ ap (λ (f : Form). lines_of plan f stands.entries) form_is) s.reads.is.gave;
    }

pub unread : (plan : Plan) (before now : Streams) (old new : Reading) (p q : Place) (left : Option (List ℕ)) → p.lines.items ≡ [] → Keeps now.input left → StandsSo plan before now old p
    → AfterRound plan p.form before (record { input = left; out = now.out }) new q (Err ends.Input)
unread plan before now old new p q left none kept s = λ text e.
    first_gave plan before now old p p.form now.input s [] none refl (Consumes-nil now.input) text e

-- ---- a piece was read

-- what was read stands so behind what was pushed before
reads_behind : (plan : Plan) (before now : Streams) (old mid : Reading) (p : Place) (s : StandsSo plan before now old p)
    → ((read : List ℕ) (lines : List (List ℕ)) → HasGiven read lines old → HasGiven (read ++ mid.waiting) lines mid)
    → Reads (s.read ++ mid.waiting) mid (Stands plan s.reads.is.text p)
reads_behind plan before now old mid p s given = record { raw = s.reads.raw; given = given s.read s.reads.raw s.reads.given; is = s.reads.is.stands }

-- and its lines were taken and pushed: nothing waits any more
after_push : (plan : Plan) (pushed : List ℕ) (p q : Place) (lines : List (List ℕ)) → Stands plan pushed p lines → q ≡ record p { lines = q.lines } → q.lines.items ≡ []
    → Stands plan (pushed ++ p.lines.items) q lines
after_push plan pushed p q lines s same none =
    subst (λ (r : Place). Stands plan (pushed ++ p.lines.items) r lines) (sym same) (record {
      entries = s.entries;
      front = s.front;
      are = s.are;
      starts = s.starts;
      is_open = s.is_open;
      feedless = s.feedless;
      text_is = s.text_is;
      small = s.small;
      first_is = s.first_is;
      sender_is = s.sender_is;
      sender = s.sender;
      numbers_are = s.numbers_are;
      given = ap (λ (bs : List ℕ). (pushed ++ p.lines.items) ++ bs) none ∙ append-nil (pushed ++ p.lines.items) ∙ s.given;
    })

pub round_goes : (plan : Plan) (before now : Streams) (old mid new : Reading) (p q r : Place) (left out : Option (List ℕ)) (is_more : Bool) → Consumes now.input left mid.waiting
    → ((read : List ℕ) (lines : List (List ℕ)) → HasGiven read lines old → HasGiven (read ++ mid.waiting) lines mid) → (is_more ≡ false → IsAtEnd left)
    → ((pushed read : List ℕ) → Reads read mid (Stands plan pushed p) → Reads read new (Stands plan pushed q)) → Appends now.out out q.lines.items
    → r ≡ record q { lines = r.lines } → r.lines.items ≡ [] → StandsSo plan before now old p → GoesFurther plan before (record { input = left; out = out }) new r is_more
round_goes plan before now old mid new p q r left out is_more consumed given end goes gave same none s =
    let reads = goes s.reads.is.text (s.read ++ mid.waiting) (reads_behind plan before now old mid p s given) in
    record {
      stands = record {
        read = s.read ++ mid.waiting;
        consumed = Consumes-trans before.input now.input left s.read mid.waiting s.consumed consumed;
        reads = record {
          raw = reads.raw;
          given = reads.given;
          is = record {
            text = s.reads.is.text ++ q.lines.items;
            stands = after_push plan s.reads.is.text q r (said reads.raw) reads.is same none;
            gave = Appends-trans before.out now.out out s.reads.is.text q.lines.items s.reads.is.gave gave;
          };
        };
      };
      at_end = end;
    }

-- ---- an end in the midst of a text

-- of the lines of a text those that were taken are the first
front_of : (plan : Plan) (form : Form) (pushed : List ℕ) (q : Place) (lines rest all : List (List ℕ)) (before mid after : Option (List ℕ)) → Stands plan pushed q lines → q.form ≡ form → all ≡ lines ++ rest
    → Appends before mid pushed → TakesFront mid after q.lines.items → GaveFront plan form all before after
front_of plan form pushed q lines rest all before mid after s form_is split gave front = record {
  entries = s.entries;
  behind = s.front ++ rest;
  are = subst (λ (ls : List (List ℕ)). AreEntries plan ls s.entries (s.front ++ rest)) (sym split) (entries_more plan lines s.entries s.front rest s.are);
  gave = subst (TakesFront before after) (s.given ∙ ap (λ (f : Form). lines_of plan f s.entries) form_is) (front_behind before mid after pushed q.lines.items gave front);
}

-- a line among them is refused
refused_front : (plan : Plan) (form : Form) (pushed : List ℕ) (q : Place) (lines rest all : List (List ℕ)) (line : ℕ) (wrong : Wrong) (before mid after : Option (List ℕ))
    → StopsSo plan pushed q lines line wrong → q.form ≡ form → all ≡ lines ++ rest → Appends before mid pushed → TakesFront mid after q.lines.items → GaveFront plan form all before after
refused_front plan form pushed q lines rest all line wrong before mid after s form_is split gave front = record {
  entries = s.entries;
  behind = s.behind ++ rest;
  are = subst (λ (ls : List (List ℕ)). AreEntries plan ls s.entries (s.behind ++ rest)) (sym split) (entries_more plan lines s.entries s.behind rest s.are);
  gave = subst (TakesFront before after) (s.given ∙ ap (λ (f : Form). lines_of plan f s.entries) form_is) (front_behind before mid after pushed q.lines.items gave front);
}

refused_gave : (plan : Plan) (form : Form) (pushed : List ℕ) (q : Place) (lines rest all : List (List ℕ)) (line told : ℕ) (wrong told_wrong : Wrong) (before mid after : Option (List ℕ))
    → StopsSo plan pushed q lines line wrong → q.form ≡ form → all ≡ lines ++ rest → told ≡ line → told_wrong ≡ wrong → Appends before mid pushed → Appends mid after q.lines.items
    → GaveRefused plan form all told told_wrong before after
refused_gave plan form pushed q lines rest all line told wrong told_wrong before mid after s form_is split line_is wrong_is gave more =
    let short = left_short plan lines s.entries s.behind s.are in
    record {
      entries = s.entries;
      behind = s.behind ++ rest;
      are = subst (λ (ls : List (List ℕ)). AreEntries plan ls s.entries (s.behind ++ rest)) (sym split) (entries_more plan lines s.entries s.behind rest s.are);
      number = s.number;
      refused = rw wrong_is (s.refused rest);
      line_is = line_is ∙ s.line_is ∙ at short;
      gave = subst (Appends before after) (s.given ∙ ap (λ (f : Form). lines_of plan f s.entries) form_is) (Appends-trans before mid after pushed q.lines.items gave more);
    }
  where
    at : length s.behind ≤ length lines → min (length lines - length s.behind + s.number) (2 ^ 64 - 1) ≡ min (length all - length (s.behind ++ rest) + s.number) (2 ^ 64 - 1)
    at short =
        let whole = ap length split ∙ length-append lines rest in let more = length-append s.behind rest in omega (arith, short, whole, more)

pub round_ends : (plan : Plan) (before now : Streams) (old mid new : Reading) (p q r : Place) (left out : Option (List ℕ)) (taken : Result (Unit {0}) Stop) (end : PlanEnd) → p.lines.items ≡ []
    → q.form ≡ p.form → Consumes now.input left mid.waiting → ((read : List ℕ) (lines : List (List ℕ)) → HasGiven read lines old → HasGiven (read ++ mid.waiting) lines mid)
    → OnOk taken ((pushed read : List ℕ) → Reads read mid (Stands plan pushed p) → Reads read new (Stands plan pushed q))
    → IfErr taken (λ stop. (read : List ℕ) → Stops plan p q mid new read stop) → Pushes {B = Unit {0}} now.out out q.lines.items taken (Err end)
    → StandsSo plan before now old p → KeepsTo plan p.form before (record { input = left; out = out }) end
round_ends plan before now old mid new p q r left out (Ok _) ends.Output none form consumed given goes stops front s = λ text e.
    let reads = goes s.reads.is.text (s.read ++ mid.waiting) (reads_behind plan before now old mid p s given) in
    let t = told before.input left (s.read ++ mid.waiting) text (Consumes-trans before.input now.input left s.read mid.waiting s.consumed consumed) e in
    let lines = ap lines_in t.1 ∙ all_lines (s.read ++ mid.waiting) t.0 new reads.raw reads.given in
    front_of plan p.form s.reads.is.text q (said reads.raw) (lines_in ((reads.given.front ++ new.waiting) ++ t.0)) (lines_in text) before.out now.out out reads.is form lines s.reads.is.gave front
round_ends plan before now old mid new p q r left out (Ok _) ends.Done none form consumed given goes stops pushes s = absurd pushes
round_ends plan before now old mid new p q r left out (Ok _) ends.Input none form consumed given goes stops pushes s = absurd pushes
round_ends plan before now old mid new p q r left out (Ok _) (ends.Refused line wrong) none form consumed given goes stops pushes s = absurd pushes
round_ends plan before now old mid new p q r left out (Ok _) ends.Memory none form consumed given goes stops pushes s = absurd pushes
round_ends plan before now old mid new p q r left out (Err (stops.Wrong line wrong)) ends.Output none form consumed given goes stops front s = λ text e.
    let reads = stops (s.read ++ mid.waiting) s.reads.is.text (reads_behind plan before now old mid p s given) in
    let t = told before.input left (s.read ++ mid.waiting) text (Consumes-trans before.input now.input left s.read mid.waiting s.consumed consumed) e in
    let lines = ap lines_in t.1 ∙ all_lines (s.read ++ mid.waiting) t.0 new reads.raw reads.given in
    refused_front plan p.form s.reads.is.text q (said reads.raw) (lines_in ((reads.given.front ++ new.waiting) ++ t.0)) (lines_in text) line wrong before.out now.out out reads.is form lines s.reads.is.gave front
round_ends plan before now old mid new p q r left out (Err (stops.Wrong line wrong)) (ends.Refused told_line told_wrong) none form consumed given goes stops pushes s = λ text e.
    let reads = stops (s.read ++ mid.waiting) s.reads.is.text (reads_behind plan before now old mid p s given) in
    let t = told before.input left (s.read ++ mid.waiting) text (Consumes-trans before.input now.input left s.read mid.waiting s.consumed consumed) e in
    let lines = ap lines_in t.1 ∙ all_lines (s.read ++ mid.waiting) t.0 new reads.raw reads.given in
    refused_gave plan p.form s.reads.is.text q (said reads.raw) (lines_in ((reads.given.front ++ new.waiting) ++ t.0)) (lines_in text) line told_line wrong told_wrong before.out now.out out reads.is form
    lines pushes.line_is pushes.wrong_is s.reads.is.gave pushes.gave
round_ends plan before now old mid new p q r left out (Err (stops.Wrong line wrong)) ends.Done none form consumed given goes stops pushes s = absurd pushes
round_ends plan before now old mid new p q r left out (Err (stops.Wrong line wrong)) ends.Input none form consumed given goes stops pushes s = absurd pushes
round_ends plan before now old mid new p q r left out (Err (stops.Wrong line wrong)) ends.Memory none form consumed given goes stops pushes s = absurd pushes
round_ends plan before now old mid new p q r left out (Err stops.Memory) ends.Memory none form consumed given goes stops same s = λ text e.
    rw same (first_gave plan before now old p p.form left s mid.waiting none refl consumed text e)
round_ends plan before now old mid new p q r left out (Err stops.Memory) ends.Done none form consumed given goes stops pushes s = absurd pushes
round_ends plan before now old mid new p q r left out (Err stops.Memory) ends.Input none form consumed given goes stops pushes s = absurd pushes
round_ends plan before now old mid new p q r left out (Err stops.Memory) ends.Output none form consumed given goes stops pushes s = absurd pushes
round_ends plan before now old mid new p q r left out (Err stops.Memory) (ends.Refused line wrong) none form consumed given goes stops pushes s = absurd pushes

-- ---- the end of the source

whole_is : (plan : Plan) (before now : Streams) (reader : Reading) (p : Place) (s : StandsSo plan before now reader p) → IsAtEnd now.input → (text : List ℕ) → before.input ≡ Some text → text ≡ s.read
whole_is plan before now reader p s end text e =
    let t = told before.input now.input s.read text s.consumed e in
    t.1 ∙ ap (λ (bs : List ℕ). s.read ++ bs) (at_end now.input t.0 end t.2) ∙ append-nil s.read

-- all lines that were read stand so
reads_all : (plan : Plan) (before now : Streams) (old : Reading) (p : Place) (s : StandsSo plan before now old p) → Reads s.read old (Stands plan s.reads.is.text p)
reads_all plan before now old p s = record { raw = s.reads.raw; given = s.reads.given; is = s.reads.is.stands }

pub finish_ends : (plan : Plan) (before now : Streams) (old : Reading) (p q : Place) (out : Option (List ℕ)) (taken : Result (Unit {0}) Stop) (end : PlanEnd) → p.lines.items ≡ [] → q.form ≡ p.form
    → OnOk taken ((pushed read : List ℕ) → Reads read old (Stands plan pushed p) → IsAll plan pushed q (lines_in read)) → IfErr taken (λ stop. (read : List ℕ) → StopsLast plan p q old read stop)
    → Pushes {B = Unit {0}} now.out out q.lines.items taken (Err end) → StandsSo plan before now old p → IsAtEnd now.input → KeepsTo plan p.form before (record { input = now.input; out = out }) end
finish_ends plan before now old p q out (Ok _) ends.Output none form goes stops front s end = λ text e.
    let is = whole_is plan before now old p s end text e in
    let a = goes s.reads.is.text s.read (reads_all plan before now old p s) in
    record {
      entries = a.entries;
      behind = [];
      are = subst (λ (bs : List ℕ). AreEntries plan (lines_in bs) a.entries []) (sym is) a.are;
      gave = subst (TakesFront before.out out) (a.given ∙ ap (λ (f : Form). lines_of plan f a.entries) form) (front_behind before.out now.out out s.reads.is.text q.lines.items s.reads.is.gave front);
    }
finish_ends plan before now old p q out (Ok _) ends.Done none form goes stops pushes s end = absurd pushes
finish_ends plan before now old p q out (Ok _) ends.Input none form goes stops pushes s end = absurd pushes
finish_ends plan before now old p q out (Ok _) (ends.Refused line wrong) none form goes stops pushes s end = absurd pushes
finish_ends plan before now old p q out (Ok _) ends.Memory none form goes stops pushes s end = absurd pushes
finish_ends plan before now old p q out (Err (stops.Wrong line wrong)) ends.Output none form goes stops front s end = λ text e.
    let is = whole_is plan before now old p s end text e in
    let a = stops s.read s.reads.is.text (reads_all plan before now old p s) in
    record {
      entries = a.entries;
      behind = a.behind;
      are = subst (λ (bs : List ℕ). AreEntries plan (lines_in bs) a.entries a.behind) (sym is) a.are;
      gave = subst (TakesFront before.out out) (a.given ∙ ap (λ (f : Form). lines_of plan f a.entries) form) (front_behind before.out now.out out s.reads.is.text q.lines.items s.reads.is.gave front);
    }
finish_ends plan before now old p q out (Err (stops.Wrong line wrong)) (ends.Refused told_line told_wrong) none form goes stops pushes s end = λ text e.
    let is = whole_is plan before now old p s end text e in
    let a = stops s.read s.reads.is.text (reads_all plan before now old p s) in
    record {
      entries = a.entries;
      behind = a.behind;
      are = subst (λ (bs : List ℕ). AreEntries plan (lines_in bs) a.entries a.behind) (sym is) a.are;
      number = a.number;
      refused = rw pushes.wrong_is a.refused;
      line_is = pushes.line_is ∙ a.line_is ∙ ap (λ (bs : List ℕ). min (length (lines_in bs) - length a.behind + a.number) (2 ^ 64 - 1)) (sym is);
      gave = subst (Appends before.out out) (a.given ∙ ap (λ (f : Form). lines_of plan f a.entries) form) (Appends-trans before.out now.out out s.reads.is.text q.lines.items s.reads.is.gave pushes.gave);
    }
finish_ends plan before now old p q out (Err (stops.Wrong line wrong)) ends.Done none form goes stops pushes s end = absurd pushes
finish_ends plan before now old p q out (Err (stops.Wrong line wrong)) ends.Input none form goes stops pushes s end = absurd pushes
finish_ends plan before now old p q out (Err (stops.Wrong line wrong)) ends.Memory none form goes stops pushes s end = absurd pushes
finish_ends plan before now old p q out (Err stops.Memory) ends.Memory none form goes stops same s end = λ text e.
    rw same (first_gave plan before now old p p.form now.input s [] none refl (Consumes-nil now.input) text e)
finish_ends plan before now old p q out (Err stops.Memory) ends.Done none form goes stops pushes s end = absurd pushes
finish_ends plan before now old p q out (Err stops.Memory) ends.Input none form goes stops pushes s end = absurd pushes
finish_ends plan before now old p q out (Err stops.Memory) ends.Output none form goes stops pushes s end = absurd pushes
finish_ends plan before now old p q out (Err stops.Memory) (ends.Refused line wrong) none form goes stops pushes s end = absurd pushes

pub finish_done : (plan : Plan) (before now : Streams) (old : Reading) (p q : Place) (out : Option (List ℕ)) → q.form ≡ p.form
    → ((pushed read : List ℕ) → Reads read old (Stands plan pushed p) → IsAll plan pushed q (lines_in read)) → Appends now.out out q.lines.items
    → StandsSo plan before now old p → IsAtEnd now.input → KeepsTo plan p.form before (record { input = now.input; out = out }) ends.Done
finish_done plan before now old p q out form goes gave s end = λ text e.
    let is = whole_is plan before now old p s end text e in
    let a = goes s.reads.is.text s.read (reads_all plan before now old p s) in
    record {
      entries = a.entries;
      are = subst (λ (bs : List ℕ). AreEntries plan (lines_in bs) a.entries []) (sym is) a.are;
      gave = subst (Appends before.out out) (a.given ∙ ap (λ (f : Form). lines_of plan f a.entries) form) (Appends-trans before.out now.out out s.reads.is.text q.lines.items s.reads.is.gave gave);
    }

-- ---- the beginning

pub begins : (plan : Plan) (form : Form) (now : Streams) (reader : Reading) (p : Place) → HasGiven [] [] reader → Starts form p → StandsSo plan now now reader p
begins plan form now reader p given starts = record {
  read = [];
  consumed = Consumes-nil now.input;
  reads = record {
    raw = [];
    given = given;
    is = record { text = []; stands = nothing_read plan form p starts; gave = Appends-nil now.out };
  };
}

pub unmade : (plan : Plan) (form : Form) (now : Streams) → KeepsTo plan form now now ends.Memory
unmade plan form now = λ text e. record { entries = []; behind = lines_in text; are = refl; gave = Appends-nil now.out }

-- ---- what was pushed behind lines that were all taken

pub pushed_ok : (X : Type 0) (before after : Option (List ℕ)) (waits : List ℕ) (taken : Result (Unit {0}) Stop) → OnOk taken X → Pushes {B = Unit {0}} before after waits taken (Ok tt)
    → X × Appends before after waits
pushed_ok X before after waits (Ok _) x pushes = (x, pushes)
pushed_ok X before after waits (Err (stops.Wrong line wrong)) x pushes = absurd pushes
pushed_ok X before after waits (Err stops.Memory) x pushes = absurd pushes

pub none_read : (count : ℕ) → nat_lt 0 count ≡ false → count ≡ 0
none_read count e = grind (arith, nat_tests)
