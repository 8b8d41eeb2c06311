-- What the feeder leaves, line by line of what was read.
use Rattle.std.proofs.Common.{◌≡◌, ◌≢◌, inl, ℕ, suc, ◌+◌, ◌-◌, ◌^◌, ◌<◌, ◌≤◌, min, List, [], ◌∷◌, ◌++◌, length, refl, sym, ap, subst, ◌∙◌, append-nil, length-append, arith}
use Rattle.std.specs.Prelude.{Option, Result, Ok, Err, OnOk, IfErr, All}
use Rattle.std.specs.Io.KnownBytes.{Consumes, Keeps, IsAtEnd}
use Rattle.std.proofs.KnownBytes.{Appends-nil, Consumes-nil, Consumes-trans, Consumes-kept}
use Rattle.std.proofs.lemmas.List.Elements.{All-nil}
use Rattle.jr_dated.specs.declared.journal.Journal.{Ghosts}
use Rattle.gate_turn.specs.Views.{Part}
use Rattle.gate_staff.specs.declared.sender.Sender.{Sender}
use Rattle.text_words.specs.Lines.{lines_in, unreturned}
use Rattle.gw_lines.specs.declared.found.Found.{Found}
use Rattle.gw_lines.specs.Lines.{IsFeedless, with_feeds, IsTold}
use Rattle.gw_lines.specs.Reading.{Reading, HasGiven, GivesNext, GivesLast}
use Rattle.plan_feed.specs.Pieces.{Messages}
use Rattle.plan_text.specs.Plans.{AreGiven}
use Rattle.conn_accepted.specs.declared.why.Why.TheVariants as whys
use Rattle.conn_feed.specs.declared.end.FeedEnd.{FeedEnd}
use Rattle.conn_feed.specs.declared.end.FeedEnd.TheVariants as ends
use Rattle.conn_feed.specs.declared.feeder.Feeder.{Feeder}
use Rattle.conn_feed.specs.Words.{IsClear}
use Rattle.conn_feed.specs.Fed.{parts_of, part_at, gifts_to, StandsIn}
use Rattle.conn_feed.specs.Ends.{Point, Answered, Feeding}
use Rattle.conn_feed.specs.Course.{Stands, StandsSo, EndedSo, GoesOn, EndsSo, GoesOnAt, EndsAt, Reads, ReadsOn, said, point_of, count_of}
use Rattle.conn_feed.proofs.Coming.{given_long}
use Rattle.conn_feed.proofs.Ending.{answered_more}
use Rattle.conn_feed.proofs.Lines.{first_lines, last_is, unreturned_long}
use Rattle.conn_feed.proofs.Feeders.{memory_at, stopped_at}
use Rattle.conn_feed.proofs.Moving.{parts_long}
use Rattle.conn_feed.proofs.Making.{goes_self}

said_long : (raw : List (List ℕ)) → length (said raw) ≡ length raw
said_long [] = refl
said_long (line ∷ raw) = ap suc (said_long raw)

said_more : (raw : List (List ℕ)) (line : List ℕ) → said (raw ++ line ∷ []) ≡ said raw ++ unreturned line ∷ []
said_more [] line = refl
said_more (first ∷ raw) line = ap (λ (ls : List (List ℕ)). unreturned first ∷ ls) (said_more raw line)

-- a line follows those that were given before it
follows : (raw : List (List ℕ)) (line : List ℕ) (number : ℕ) → number ≡ min (length (raw ++ line ∷ [])) (2 ^ 64 - 1) → number ≡ min (length (said raw) + 1) (2 ^ 64 - 1)
follows raw line number e =
    e ∙ ap (λ (n : ℕ). min n (2 ^ 64 - 1)) (length-append raw (line ∷ [])) ∙ ap (λ (n : ℕ). min (n + 1) (2 ^ 64 - 1)) (sym (said_long raw))

-- all lines of what was read, where nothing stands behind the last feed
no_rest : (read : List ℕ) (raw : List (List ℕ)) → All IsFeedless raw → read ≡ with_feeds raw [] → lines_in read ≡ said raw
no_rest read raw each e = ap lines_in e ∙ first_lines raw [] each ∙ append-nil (said raw)

some_rest : (read : List ℕ) (raw : List (List ℕ)) (rest : List ℕ) → All IsFeedless raw → IsFeedless rest → 0 < length rest → read ≡ with_feeds raw rest → lines_in read ≡ said raw ++ rest ∷ []
some_rest read raw [] each feedless some e = absurd (omega (arith, some))
some_rest read raw (b ∷ bs) each feedless some e = ap lines_in e ∙ first_lines raw (b ∷ bs) each ∙ ap (λ (ls : List (List ℕ)). said raw ++ ls) (last_is b bs feedless)

no_more : (xs : List (List ℕ)) → length xs ≡ 0 → xs ≡ []
no_more [] e = refl
no_more (x ∷ xs) e = absurd (omega (arith, e))

-- every line is answered
all_answered : (n : ℕ) (start now : Point) (piece : Messages) (number : ℕ) (lines : List (List ℕ)) → piece.payloads ≡ [] → Stands n start now piece number lines
    → (a : Answered n start now lines ends.Ended) × (a.behind ≡ [])
all_answered n start now piece number lines none s =
    let held : s.held ≡ [] = no_more s.held (given_long n piece.sender s.held piece.payloads s.given ∙ ap length none) in (
      record {
        first = s.first;
        behind = s.held;
        split = s.split;
        words = s.words;
        came = s.came;
        fed = s.fed;
        last = record { before = s.words; clear = s.clear; why = whys.Memory; count = 0; few = omega arith; split = sym (append-nil s.words); kind = λ l. absurd (omega (arith, l)) };
        told = s.told;
        shown = tt;
        full = λ entries bytes e. absurd (cc e);
        unlost = λ _. s.unlost;
        lost = λ t i. inl (s.unlost t i);
      },
      held,
    )

-- more was read
pub reads_more : (P Q : List (List ℕ) → Type 0) (old new : Reading) (a b c : Option (List ℕ)) → ReadsOn a b [] old P → ((read : List ℕ) → Reads read old P → ReadsOn b c read new Q) → ReadsOn a c [] new Q
reads_more P Q old new a b c at next =
    let w = next at.more at.reads in
    record { more = at.more ++ w.more; consumed = Consumes-trans a b c at.more w.more at.consumed w.consumed; reads = w.reads }

abbrev point : List Part → Option (List ℕ) → Point
point parts taken = record { parts = parts; taken = taken }

module _ {J K : Type 0} {G : Ghosts J} where
  -- ---- the next line

  pub next_goes : (taken : K → Option (List ℕ)) (f g : Feeder J K G) (old new : Reading) (found : Found) (line : List ℕ) (number : ℕ)
      → ((read : List ℕ) (lines : List (List ℕ)) → HasGiven read lines old → GivesNext read lines found new) → line ≡ new.line → number ≡ new.number
      → ((says raw : List ℕ) → IsTold found line says raw → length raw ≤ length says + 1 → GoesOnAt taken number f g says)
      → (start : Point) (read : List ℕ) → Reads read old (StandsSo taken start f) → Reads read new (StandsSo taken start g)
  next_goes taken f g old new found line number next line_is number_is goes start read r =
      let n = next read r.raw r.given in
      let told = subst (λ (bs : List ℕ). IsTold found bs (unreturned n.line) n.line) (sym line_is) n.told in
      record {
        raw = r.raw ++ n.line ∷ [];
        given = n.given;
        is = subst (StandsSo taken start g) (sym (said_more r.raw n.line))
            (goes (unreturned n.line) n.line told (unreturned_long n.line) start (said r.raw) (follows r.raw n.line number (number_is ∙ n.given.counted)) r.is);
      }

  pub next_over : (taken : K → Option (List ℕ)) (f g : Feeder J K G) (old new : Reading) (found : Found) (line : List ℕ) (number : ℕ) (end : FeedEnd)
      → ((read : List ℕ) (lines : List (List ℕ)) → HasGiven read lines old → GivesNext read lines found new) → line ≡ new.line → number ≡ new.number
      → ((says raw : List ℕ) → IsTold found line says raw → length raw ≤ length says + 1 → EndsAt taken number f g says end)
      → (start : Point) (read : List ℕ) → Reads read old (StandsSo taken start f) → Reads read new (λ lines. EndedSo taken start g lines end)
  next_over taken f g old new found line number end next line_is number_is over start read r =
      let n = next read r.raw r.given in
      let told = subst (λ (bs : List ℕ). IsTold found bs (unreturned n.line) n.line) (sym line_is) n.told in
      record {
        raw = r.raw ++ n.line ∷ [];
        given = n.given;
        is = subst (λ (ls : List (List ℕ)). EndedSo taken start g ls end) (sym (said_more r.raw n.line))
            (over (unreturned n.line) n.line told (unreturned_long n.line) start (said r.raw) (follows r.raw n.line number (number_is ∙ n.given.counted)) r.is);
      }

  -- what was read has no line more
  pub rest_goes : (taken : K → Option (List ℕ)) (f g : Feeder J K G) (old new : Reading) (r : Result (Unit {0}) FeedEnd)
      → ((read : List ℕ) (lines : List (List ℕ)) → HasGiven read lines old → HasGiven read lines new) → OnOk r (GoesOn taken f g)
      → OnOk r ((start : Point) (read : List ℕ) → Reads read old (StandsSo taken start f) → Reads read new (StandsSo taken start g))
  rest_goes taken f g old new (Err _) same goes = tt
  rest_goes taken f g old new (Ok _) same goes = λ start read r. record { raw = r.raw; given = same read r.raw r.given; is = goes start (said r.raw) r.is }

  pub rest_over : (taken : K → Option (List ℕ)) (f g : Feeder J K G) (old new : Reading) (r : Result (Unit {0}) FeedEnd)
      → ((read : List ℕ) (lines : List (List ℕ)) → HasGiven read lines old → HasGiven read lines new) → IfErr r (EndsSo taken f g)
      → IfErr r (λ end. (start : Point) (read : List ℕ) → Reads read old (StandsSo taken start f) → Reads read new (λ lines. EndedSo taken start g lines end))
  rest_over taken f g old new (Ok _) same over = tt
  rest_over taken f g old new (Err end) same over = λ start read r. record { raw = r.raw; given = same read r.raw r.given; is = over start (said r.raw) r.is }

  -- steps before that
  pub loop_goes : (taken : K → Option (List ℕ)) (f m g : Feeder J K G) (old now new : Reading) (r : Result (Unit {0}) FeedEnd)
      → ((start : Point) (read : List ℕ) → Reads read old (StandsSo taken start f) → Reads read now (StandsSo taken start m))
      → OnOk r ((start : Point) (read : List ℕ) → Reads read now (StandsSo taken start m) → Reads read new (StandsSo taken start g))
      → OnOk r ((start : Point) (read : List ℕ) → Reads read old (StandsSo taken start f) → Reads read new (StandsSo taken start g))
  loop_goes taken f m g old now new (Err _) first next = tt
  loop_goes taken f m g old now new (Ok _) first next = λ start read p. next start read (first start read p)

  pub loop_over : (taken : K → Option (List ℕ)) (f m g : Feeder J K G) (old now new : Reading) (r : Result (Unit {0}) FeedEnd)
      → ((start : Point) (read : List ℕ) → Reads read old (StandsSo taken start f) → Reads read now (StandsSo taken start m))
      → IfErr r (λ end. (start : Point) (read : List ℕ) → Reads read now (StandsSo taken start m) → Reads read new (λ lines. EndedSo taken start g lines end))
      → IfErr r (λ end. (start : Point) (read : List ℕ) → Reads read old (StandsSo taken start f) → Reads read new (λ lines. EndedSo taken start g lines end))
  loop_over taken f m g old now new (Ok _) first next = tt
  loop_over taken f m g old now new (Err end) first next = λ start read p. next start read (first start read p)

  -- ---- a read

  pub round_goes : (taken : K → Option (List ℕ)) (f g : Feeder J K G) (old now new : Reading) (before behind : Option (List ℕ)) → Consumes before behind now.waiting
      → ((read : List ℕ) (lines : List (List ℕ)) → HasGiven read lines old → HasGiven (read ++ now.waiting) lines now)
      → ((start : Point) (read : List ℕ) → Reads read now (StandsSo taken start f) → Reads read new (StandsSo taken start g))
      → (start : Point) (read : List ℕ) → Reads read old (StandsSo taken start f) → ReadsOn before behind read new (StandsSo taken start g)
  round_goes taken f g old now new before behind bytes given goes start read r = record {
    more = now.waiting;
    consumed = bytes;
    reads = goes start (read ++ now.waiting) (record { raw = r.raw; given = given read r.raw r.given; is = r.is });
  }

  pub round_over : (taken : K → Option (List ℕ)) (f g : Feeder J K G) (old now new : Reading) (before behind : Option (List ℕ)) (end : FeedEnd) → Consumes before behind now.waiting
      → ((read : List ℕ) (lines : List (List ℕ)) → HasGiven read lines old → HasGiven (read ++ now.waiting) lines now)
      → ((start : Point) (read : List ℕ) → Reads read now (StandsSo taken start f) → Reads read new (λ lines. EndedSo taken start g lines end))
      → (start : Point) (read : List ℕ) → Reads read old (StandsSo taken start f) → ReadsOn before behind read new (λ lines. EndedSo taken start g lines end)
  round_over taken f g old now new before behind end bytes given over start read r = record {
    more = now.waiting;
    consumed = bytes;
    reads = over start (read ++ now.waiting) (record { raw = r.raw; given = given read r.raw r.given; is = r.is });
  }

  -- a read that failed
  pub unread : (taken : K → Option (List ℕ)) (f : Feeder J K G) (old new : Reading) (before behind : Option (List ℕ)) (end : FeedEnd) → new ≡ old → Keeps before behind → EndsSo taken f f end
      → (start : Point) (read : List ℕ) → Reads read old (StandsSo taken start f) → ReadsOn before behind read new (λ lines. EndedSo taken start f lines end)
  unread taken f old new before behind end same keeps over start read r = record {
    more = [];
    consumed = Consumes-kept before before behind [] (Consumes-nil before) keeps;
    reads = record {
      raw = r.raw;
      given = subst (λ (bs : List ℕ). HasGiven bs r.raw new) (sym (append-nil read)) (subst (HasGiven read r.raw) (sym same) r.given);
      is = over start (said r.raw) r.is;
    };
  }

  -- ---- the last line

  pub last_none : (taken : K → Option (List ℕ)) (f : Feeder J K G) (old : Reading) → ((read : List ℕ) (lines : List (List ℕ)) → HasGiven read lines old → read ≡ with_feeds lines [])
      → (start : Point) (read : List ℕ) → Reads read old (StandsSo taken start f) → StandsSo taken start f (lines_in read)
  last_none taken f old none start read r = subst (StandsSo taken start f) (sym (no_rest read r.raw r.given.each (none read r.raw r.given))) r.is

  pub last_goes : (taken : K → Option (List ℕ)) (f g : Feeder J K G) (old new : Reading) (found : Found) (line : List ℕ) (number : ℕ) (r : Result (Unit {0}) FeedEnd)
      → ((read : List ℕ) (lines : List (List ℕ)) → HasGiven read lines old → GivesLast read lines found new) → line ≡ new.line → number ≡ new.number
      → OnOk r ((says raw : List ℕ) → IsTold found line says raw → length raw ≤ length says + 1 → GoesOnAt taken number f g says)
      → OnOk r ((start : Point) (read : List ℕ) → Reads read old (StandsSo taken start f) → StandsSo taken start g (lines_in read))
  last_goes taken f g old new found line number (Err _) last line_is number_is goes = tt
  last_goes taken f g old new found line number (Ok _) last line_is number_is goes = λ start read r.
      let n = last read r.raw r.given in
      let told = subst (λ (bs : List ℕ). IsTold found bs n.rest n.rest) (sym line_is) n.told in
      subst (StandsSo taken start g) (sym (some_rest read r.raw n.rest r.given.each n.feedless n.some n.bytes))
      (goes n.rest n.rest told (omega arith) start (said r.raw) (number_is ∙ n.counted ∙ ap (λ (k : ℕ). min (k + 1) (2 ^ 64 - 1)) (sym (said_long r.raw))) r.is)

  pub last_over : (taken : K → Option (List ℕ)) (f g : Feeder J K G) (old new : Reading) (found : Found) (line : List ℕ) (number : ℕ) (r : Result (Unit {0}) FeedEnd)
      → ((read : List ℕ) (lines : List (List ℕ)) → HasGiven read lines old → GivesLast read lines found new) → line ≡ new.line → number ≡ new.number
      → IfErr r (λ end. (says raw : List ℕ) → IsTold found line says raw → length raw ≤ length says + 1 → EndsAt taken number f g says end)
      → IfErr r (λ end. (start : Point) (read : List ℕ) → Reads read old (StandsSo taken start f) → EndedSo taken start g (lines_in read) end)
  last_over taken f g old new found line number (Ok _) last line_is number_is over = tt
  last_over taken f g old new found line number (Err end) last line_is number_is over = λ start read r.
      let n = last read r.raw r.given in
      let told = subst (λ (bs : List ℕ). IsTold found bs n.rest n.rest) (sym line_is) n.told in
      subst (λ (ls : List (List ℕ)). EndedSo taken start g ls end) (sym (some_rest read r.raw n.rest r.given.each n.feedless n.some n.bytes))
      (over n.rest n.rest told (omega arith) start (said r.raw) (number_is ∙ n.counted ∙ ap (λ (k : ℕ). min (k + 1) (2 ^ 64 - 1)) (sym (said_long r.raw))) r.is)

  -- and what waited is submitted
  pub flushed_goes : (taken : K → Option (List ℕ)) (f m g : Feeder J K G) (old : Reading) (r : Result (Unit {0}) FeedEnd)
      → ((start : Point) (read : List ℕ) → Reads read old (StandsSo taken start f) → StandsSo taken start m (lines_in read)) → OnOk r (GoesOn taken m g)
      → OnOk r ((start : Point) (read : List ℕ) → Reads read old (StandsSo taken start f) → StandsSo taken start g (lines_in read))
  flushed_goes taken f m g old (Err _) first goes = tt
  flushed_goes taken f m g old (Ok _) first goes = λ start read r. goes start (lines_in read) (first start read r)

  pub flushed_over : (taken : K → Option (List ℕ)) (f m g : Feeder J K G) (old : Reading) (r : Result (Unit {0}) FeedEnd)
      → ((start : Point) (read : List ℕ) → Reads read old (StandsSo taken start f) → StandsSo taken start m (lines_in read)) → IfErr r (EndsSo taken m g)
      → IfErr r (λ end. (start : Point) (read : List ℕ) → Reads read old (StandsSo taken start f) → EndedSo taken start g (lines_in read) end)
  flushed_over taken f m g old (Ok _) first over = tt
  flushed_over taken f m g old (Err end) first over = λ start read r. over start (lines_in read) (first start read r)

  -- ---- the whole of it

  -- nothing was read, and nothing waits
  pub begins : (taken : K → Option (List ℕ)) (f : Feeder J K G) → f.piece.payloads ≡ [] → StandsSo taken (point_of taken f) f []
  begins taken f none = record {
    many = parts_long f.senders.items;
    stands = record {
      first = [];
      held = [];
      split = refl;
      words = [];
      came = tt;
      clear = All-nil IsClear;
      fed = record {
        long = refl;
        each = λ s i. record { goes_on = goes_self (part_at (parts_of f.senders.items) s); mine = sym (append-nil (part_at (parts_of f.senders.items) s).mine); counted = refl };
        stand = All-nil (StandsIn (parts_of f.senders.items));
      };
      told = Appends-nil (taken f.accepted);
      unlost = λ s i. refl;
      given = subst (λ (ps : List (List ℕ)). AreGiven (count_of f) [] (gifts_to f.piece.sender ps)) (sym none) tt;
      numbered = λ l. absurd (omega (arith, l));
    };
  }

  pub begun : (taken : K → Option (List ℕ)) (f : Feeder J K G) (reader : Reading) (left : Option (List ℕ)) → f.piece.payloads ≡ [] → HasGiven [] [] reader
      → ReadsOn left left [] reader (StandsSo taken (point_of taken f) f)
  begun taken f reader left none fresh = record { more = []; consumed = Consumes-nil left; reads = record { raw = []; given = fresh; is = begins taken f none } }

  pub fed_over : (taken : K → Option (List ℕ)) (start : Point) (g : Feeder J K G) (reader : Reading) (a c : Option (List ℕ)) (end : FeedEnd)
      → ReadsOn a c [] reader (λ lines. EndedSo taken start g lines end) → end ≢ ends.Ended → Feeding start (point_of taken g) a c end
  fed_over taken start g reader a c end w unended =
      let given = w.reads.given in
      let lines : lines_in w.more ≡ said w.reads.raw ++ lines_in (given.front ++ reader.waiting) = ap lines_in given.bytes ∙ first_lines w.reads.raw (given.front ++ reader.waiting) given.each in
      record {
        read = w.more;
        consumed = w.consumed;
        answered = subst (λ (ls : List (List ℕ)). Answered (length start.parts) start (point_of taken g) ls end) (sym lines)
            (answered_more (length start.parts) start (point_of taken g) (said w.reads.raw) (lines_in (given.front ++ reader.waiting)) end w.reads.is);
        whole = λ e. absurd (unended e);
      }

  pub stopped : (taken : K → Option (List ℕ)) (start : Point) (g : Feeder J K G) (reader : Reading) (a c : Option (List ℕ)) → ReadsOn a c [] reader (StandsSo taken start g)
      → Feeding start (point_of taken g) a c ends.Stopped
  stopped taken start g reader a c w =
      fed_over taken start g reader a c ends.Stopped
      (record { more = w.more; consumed = w.consumed; reads = record { raw = w.reads.raw; given = w.reads.given; is = stopped_at taken g start (said w.reads.raw) w.reads.is } }) (λ e. cc e)

  pub last_ended : (taken : K → Option (List ℕ)) (start : Point) (m g : Feeder J K G) (reader : Reading) (a c : Option (List ℕ)) (r : Result (Unit {0}) FeedEnd) → ReadsOn a c [] reader (StandsSo taken start m)
      → IfErr r (λ end. (start : Point) (read : List ℕ) → Reads read reader (StandsSo taken start m) → EndedSo taken start g (lines_in read) end) → IfErr r (λ end. end ≢ ends.Ended)
      → IfErr r (Feeding start (point_of taken g) a c)
  last_ended taken start m g reader a c (Ok _) w over unended = tt
  last_ended taken start m g reader a c (Err end) w over unended =
      record { read = w.more; consumed = w.consumed; answered = over start w.more w.reads; whole = λ e. absurd (unended e) }

  pub last_whole : (taken : K → Option (List ℕ)) (start : Point) (m g : Feeder J K G) (reader : Reading) (a c : Option (List ℕ)) (r : Result (Unit {0}) FeedEnd) → ReadsOn a c [] reader (StandsSo taken start m)
      → OnOk r ((start : Point) (read : List ℕ) → Reads read reader (StandsSo taken start m) → StandsSo taken start g (lines_in read)) → OnOk r (g.piece.payloads ≡ []) → IsAtEnd c
      → OnOk r (Feeding start (point_of taken g) a c ends.Ended)
  last_whole taken start m g reader a c (Err _) w goes none at_end = tt
  last_whole taken start m g reader a c (Ok _) w goes none at_end =
      let s = goes start w.more w.reads in
      let all : (x : Answered (length start.parts) start (point_of taken g) (lines_in w.more) ends.Ended) × (x.behind ≡ []) =
      subst (λ (n : ℕ). (x : Answered n start (point_of taken g) (lines_in w.more) ends.Ended) × (x.behind ≡ [])) (sym s.many)
      (all_answered (count_of g) start (point_of taken g) g.piece g.number (lines_in w.more) none s.stands) in
      record { read = w.more; consumed = w.consumed; answered = all.0; whole = λ _. (all.1, at_end) }

  -- ---- a feeding that begins with a feeder which tells and holds the same

  pub same_point : (taken : K → Option (List ℕ)) (f m : Feeder J K G) → m.senders.items ≡ f.senders.items → m.accepted ≡ f.accepted → point_of taken m ≡ point_of taken f
  same_point taken f m senders accepted =
      ap (λ (xs : List (Sender J G)). point (parts_of xs) (taken m.accepted)) senders ∙ ap (λ (a : K). point (parts_of f.senders.items) (taken a)) accepted

  pub nothing_fed : (taken : K → Option (List ℕ)) (f m : Feeder J K G) (left : Option (List ℕ)) → m.senders.items ≡ f.senders.items → m.accepted ≡ f.accepted → m.piece.payloads ≡ []
      → Feeding (point_of taken f) (point_of taken m) left left ends.Memory
  nothing_fed taken f m left senders accepted none =
      subst (λ (s : Point). Feeding s (point_of taken m) left left ends.Memory) (same_point taken f m senders accepted)
      (record { read = []; consumed = Consumes-nil left; answered = memory_at taken m (point_of taken m) [] (begins taken m none); whole = λ e. absurd (cc e) })

  pub fed_since : (taken : K → Option (List ℕ)) (f m g : Feeder J K G) (a b : Option (List ℕ)) (end : FeedEnd) → m.senders.items ≡ f.senders.items → m.accepted ≡ f.accepted
      → Feeding (point_of taken m) (point_of taken g) a b end → Feeding (point_of taken f) (point_of taken g) a b end
  fed_since taken f m g a b end senders accepted fed = subst (λ (s : Point). Feeding s (point_of taken g) a b end) (same_point taken f m senders accepted) fed
