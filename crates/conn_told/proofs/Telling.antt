-- What is told, piece by piece of what was read.
use Rattle.std.proofs.Common.{◌≡◌, ℕ, ◌+◌, ◌-◌, ◌^◌, ◌<◌, ◌≤◌, min, Bool, false, List, [], ◌∷◌, ◌++◌, length, refl, ap, sym, subst, ◌∙◌, append_assoc, append-nil, length-append, arith}
use Rattle.std.specs.Prelude.{Option, Some, Result, Ok, Err, OnOk, IfErr}
use Rattle.text_words.specs.Lines.{lines_in, unreturned}
use Rattle.gw_lines.specs.declared.found.Found.{Found}
use Rattle.gw_lines.specs.Lines.{IsTold, with_feeds}
use Rattle.gw_lines.specs.Reading.{Reading, HasGiven, GivesNext, GivesLast}
use Rattle.sbe_layout.specs.declared.plan.Plan.{Plan}
use Rattle.conn_told.specs.declared.end.Wrong.{Wrong}
use Rattle.conn_told.specs.declared.end.Stop.{Stop}
use Rattle.conn_told.specs.declared.end.Stop.TheVariants as stops
use Rattle.conn_told.specs.Progress.{AddsLine, HasSaid, StopsSo, Reads, Stops, StopsLast, said}
use Rattle.gw_lines.proofs.Streams.{unreturned_long, said_long, said_more, no_rest, some_rest}
use Rattle.conn_told.proofs.Texts.{has_more}

-- ---- the next line

-- a line of this number follows those that were given before it
follows : (raw : List (List ℕ)) (line : List ℕ) (number : ℕ) → number ≡ min (length (raw ++ line ∷ [])) (2 ^ 64 - 1) → number ≡ min (length (said raw) + 1) (2 ^ 64 - 1)
follows raw line number e =
    e ∙ ap (λ (n : ℕ). min n (2 ^ 64 - 1)) (length-append raw (line ∷ [])) ∙ ap (λ (n : ℕ). min (n + 1) (2 ^ 64 - 1)) (sym (said_long raw))

pub next_goes : (plan : Plan) (waits more : List ℕ) (old new : Reading) (found : Found) (line : List ℕ)
    → ((read : List ℕ) (lines : List (List ℕ)) → HasGiven read lines old → GivesNext read lines found new) → line ≡ new.line
    → ((says raw : List ℕ) → IsTold found line says raw → length raw ≤ length says + 1 → AddsLine {A = Unit {0}} plan says waits more (Ok tt))
    → (pushed read : List ℕ) → Reads read old (HasSaid plan pushed waits) → Reads read new (HasSaid plan pushed more)
next_goes plan waits more old new found line next line_is adds pushed read r =
    let n = next read r.raw r.given in
    let is = subst (λ (bs : List ℕ). IsTold found bs (unreturned n.line) n.line) (sym line_is) n.told in
    record {
      raw = r.raw ++ n.line ∷ [];
      given = n.given;
      is = subst (HasSaid plan pushed more) (sym (said_more r.raw n.line)) (has_more plan pushed waits more (unreturned n.line) (said r.raw) r.is (adds (unreturned n.line) n.line is (unreturned_long n.line)));
    }

pub next_stops : (plan : Plan) (start waits more : List ℕ) (first old new : Reading) (found : Found) (line : List ℕ) (stop : Stop)
    → ((read : List ℕ) (lines : List (List ℕ)) → HasGiven read lines old → GivesNext read lines found new) → line ≡ new.line
    → ((says raw : List ℕ) → IsTold found line says raw → length raw ≤ length says + 1 → AddsLine {A = Unit {0}} plan says waits more (Err stop))
    → ((pushed read : List ℕ) → Reads read first (HasSaid plan pushed start) → Reads read old (HasSaid plan pushed waits))
    → (read : List ℕ) → Stops plan start more first new read stop
next_stops plan start waits more first old new found line stops.Memory next line_is adds goes read = tt
next_stops plan start waits more first old new found line (stops.Wrong wrong) next line_is adds goes read = λ pushed s.
    let r = goes pushed read s in
    let n = next read r.raw r.given in
    let is = subst (λ (bs : List ℕ). IsTold found bs (unreturned n.line) n.line) (sym line_is) n.told in
    let refused = adds (unreturned n.line) n.line is (unreturned_long n.line) in
    record {
      raw = r.raw ++ n.line ∷ [];
      given = n.given;
      is = record {
        first = said r.raw;
        here = unreturned n.line;
        split = said_more r.raw n.line;
        say = subst (λ (bs : List ℕ). HasSaid plan pushed bs (said r.raw)) (sym refused.kept) r.is;
        refused = refused.says;
        number_is = follows r.raw n.line new.number n.given.counted;
      };
    }

-- what was read has no line more
pub rest_goes : (plan : Plan) (start waits : List ℕ) (first old new : Reading) → ((read : List ℕ) (lines : List (List ℕ)) → HasGiven read lines old → HasGiven read lines new)
    → ((pushed read : List ℕ) → Reads read first (HasSaid plan pushed start) → Reads read old (HasSaid plan pushed waits))
    → (pushed read : List ℕ) → Reads read first (HasSaid plan pushed start) → Reads read new (HasSaid plan pushed waits)
rest_goes plan start waits first old new same goes pushed read s =
    let r = goes pushed read s in
    record { raw = r.raw; given = same read r.raw r.given; is = r.is }

-- ---- the last line

pub last_goes : (plan : Plan) (waits more : List ℕ) (old new : Reading) (found : Found) (line : List ℕ) (added : Result (Unit {0}) Stop)
    → ((read : List ℕ) (lines : List (List ℕ)) → HasGiven read lines old → GivesLast read lines found new) → line ≡ new.line
    → ((says raw : List ℕ) → IsTold found line says raw → length raw ≤ length says + 1 → AddsLine plan says waits more added)
    → OnOk added ((pushed read : List ℕ) → Reads read old (HasSaid plan pushed waits) → HasSaid plan pushed more (lines_in read))
last_goes plan waits more old new found line (Err _) last line_is adds = tt
last_goes plan waits more old new found line (Ok _) last line_is adds = λ pushed read r.
    let n = last read r.raw r.given in
    let is = subst (λ (bs : List ℕ). IsTold found bs n.rest n.rest) (sym line_is) n.told in
    subst (HasSaid plan pushed more) (sym (some_rest read r.raw n.rest r.given.each n.feedless n.some n.bytes)) (has_more plan pushed waits more n.rest (said r.raw) r.is (adds n.rest n.rest is (omega arith)))

pub last_stops : (plan : Plan) (waits more : List ℕ) (old new : Reading) (found : Found) (line : List ℕ) (added : Result (Unit {0}) Stop)
    → ((read : List ℕ) (lines : List (List ℕ)) → HasGiven read lines old → GivesLast read lines found new) → line ≡ new.line
    → ((says raw : List ℕ) → IsTold found line says raw → length raw ≤ length says + 1 → AddsLine plan says waits more added)
    → IfErr added (λ stop. (read : List ℕ) → StopsLast plan waits more old new.number read stop)
last_stops plan waits more old new found line (Ok _) last line_is adds = tt
last_stops plan waits more old new found line (Err stops.Memory) last line_is adds = λ read. tt
last_stops plan waits more old new found line (Err (stops.Wrong wrong)) last line_is adds = λ read pushed r.
    let n = last read r.raw r.given in
    let is = subst (λ (bs : List ℕ). IsTold found bs n.rest n.rest) (sym line_is) n.told in
    let refused = adds n.rest n.rest is (omega arith) in
    record {
      first = said r.raw;
      here = n.rest;
      split = some_rest read r.raw n.rest r.given.each n.feedless n.some n.bytes;
      say = subst (λ (bs : List ℕ). HasSaid plan pushed bs (said r.raw)) (sym refused.kept) r.is;
      refused = refused.says;
      number_is = n.counted ∙ ap (λ (k : ℕ). min (k + 1) (2 ^ 64 - 1)) (sym (said_long r.raw));
    }

pub last_none : (plan : Plan) (waits : List ℕ) (old : Reading) → ((read : List ℕ) (lines : List (List ℕ)) → HasGiven read lines old → read ≡ with_feeds lines [])
    → (pushed read : List ℕ) → Reads read old (HasSaid plan pushed waits) → HasSaid plan pushed waits (lines_in read)
last_none plan waits old none pushed read r = subst (HasSaid plan pushed waits) (sym (no_rest read r.raw r.given.each (none read r.raw r.given))) r.is
