-- What is taken of lines as a reader gives them.
use Rattle.std.proofs.Common.{◌≡◌, ◌≢◌, ℕ, ◌+◌, ◌-◌, ◌^◌, ◌<◌, ◌≤◌, min, List, [], ◌∷◌, ◌++◌, length, map, refl, ap, sym, subst, ◌∙◌, length-append, append_assoc, append-nil, arith}
use Rattle.std.specs.Prelude.{All, Result, Ok, Err, OnOk, IfErr}
use Rattle.std.proofs.lemmas.List.Elements.{All-head, All-tail}
use Rattle.text_words.specs.Lines.{lines_in, unreturned}
use Rattle.gw_lines.specs.declared.found.Found.{Found}
use Rattle.gw_lines.specs.Lines.{IsFeedless, IsTold, with_feeds}
use Rattle.gw_lines.specs.Reading.{Reading, HasGiven, GivesNext, GivesLast}
use Rattle.gw_lines.proofs.Streams.{unreturned_long, unreturned_feedless, said_long, said_more, no_rest, some_rest}
use Rattle.sbe_layout.specs.declared.plan.Plan.{Plan}
use Rattle.plan_lines.specs.declared.end.Wrong.{Wrong}
use Rattle.plan_lines.specs.declared.end.Stop.{Stop}
use Rattle.plan_lines.specs.declared.end.Stop.TheVariants as stops
use Rattle.plan_lines.specs.declared.place.Place.{Place}
use Rattle.plan_lines.specs.Entries.{AreEntries, IsRefused}
use Rattle.plan_lines.specs.Progress.{Goes, Halts, HaltsAtEnd, IsAll, Reads, Stands, Stops, StopsAtEnd, StopsLast, StopsSo, said}

-- the last of some lines that have no feeds has none
last_feedless : (raw : List (List ℕ)) (line : List ℕ) → All IsFeedless (raw ++ line ∷ []) → IsFeedless line
last_feedless [] line each = All-head IsFeedless line [] each
last_feedless (first ∷ raw) line each = last_feedless raw line (All-tail IsFeedless first (raw ++ line ∷ []) each)

-- a line of this number follows those that were given before it
follows : (raw : List (List ℕ)) (line : List ℕ) (number : ℕ) → number ≡ min (length (raw ++ line ∷ [])) (2 ^ 64 - 1) → number ≡ min (length (said raw) + 1) (2 ^ 64 - 1)
follows raw line number e =
    e ∙ ap (λ (n : ℕ). min n (2 ^ 64 - 1)) (length-append raw (line ∷ [])) ∙ ap (λ (n : ℕ). min (n + 1) (2 ^ 64 - 1)) (sym (said_long raw))

-- ---- the next line

pub next_goes : (plan : Plan) (old new : Place) (before after : Reading) (found : Found)
    → ((read : List ℕ) (lines : List (List ℕ)) → HasGiven read lines before → GivesNext read lines found after)
    → ((says raw : List ℕ) → IsTold found after.line says raw → length raw ≤ length says + 1 → Goes plan old new says after.number)
    → (pushed read : List ℕ) → Reads read before (Stands plan pushed old) → Reads read after (Stands plan pushed new)
next_goes plan old new before after found next goes pushed read r =
    let n = next read r.raw r.given in
    record {
      raw = r.raw ++ n.line ∷ [];
      given = n.given;
      is = subst (Stands plan pushed new) (sym (said_more r.raw n.line))
          (goes (unreturned n.line) n.line n.told (unreturned_long n.line) pushed (said r.raw) (unreturned_feedless n.line (last_feedless r.raw n.line n.given.each))
          (follows r.raw n.line after.number n.given.counted) r.is);
    }

pub next_stops : (plan : Plan) (start old new : Place) (first before after : Reading) (found : Found) (stop : Stop)
    → ((read : List ℕ) (lines : List (List ℕ)) → HasGiven read lines before → GivesNext read lines found after)
    → ((says raw : List ℕ) → IsTold found after.line says raw → length raw ≤ length says + 1 → Halts plan old new says after.number stop)
    → ((pushed read : List ℕ) → Reads read first (Stands plan pushed start) → Reads read before (Stands plan pushed old))
    → (read : List ℕ) → Stops plan start new first after read stop
next_stops plan start old new first before after found stops.Memory next halts goes read = tt
next_stops plan start old new first before after found (stops.Wrong line wrong) next halts goes read = λ pushed s.
    let r = goes pushed read s in
    let n = next read r.raw r.given in
    record {
      raw = r.raw ++ n.line ∷ [];
      given = n.given;
      is = subst (λ (ls : List (List ℕ)). StopsSo plan pushed new ls line wrong) (sym (said_more r.raw n.line))
          (halts (unreturned n.line) n.line n.told (unreturned_long n.line) pushed (said r.raw) (unreturned_feedless n.line (last_feedless r.raw n.line n.given.each))
          (follows r.raw n.line after.number n.given.counted) r.is);
    }

-- what was read has no line more
pub rest_goes : (plan : Plan) (start now : Place) (first old new : Reading) → ((read : List ℕ) (lines : List (List ℕ)) → HasGiven read lines old → HasGiven read lines new)
    → ((pushed read : List ℕ) → Reads read first (Stands plan pushed start) → Reads read old (Stands plan pushed now))
    → (pushed read : List ℕ) → Reads read first (Stands plan pushed start) → Reads read new (Stands plan pushed now)
rest_goes plan start now first old new same goes pushed read s =
    let r = goes pushed read s in
    record { raw = r.raw; given = same read r.raw r.given; is = r.is }

-- ---- the last line

-- the number of a line behind those that were given
behind_all : (raw : List (List ℕ)) (number : ℕ) → number ≡ min (length raw + 1) (2 ^ 64 - 1) → number ≡ min (length (said raw) + 1) (2 ^ 64 - 1)
behind_all raw number e = e ∙ ap (λ (n : ℕ). min (n + 1) (2 ^ 64 - 1)) (sym (said_long raw))

-- the last line was taken: all lines of the text stand so
pub last_stands : (plan : Plan) (old new : Place) (before after : Reading) (found : Found)
    → ((read : List ℕ) (lines : List (List ℕ)) → HasGiven read lines before → GivesLast read lines found after)
    → ((says raw : List ℕ) → IsTold found after.line says raw → length raw ≤ length says + 1 → Goes plan old new says after.number)
    → (pushed read : List ℕ) → Reads read before (Stands plan pushed old) → Stands plan pushed new (lines_in read)
last_stands plan old new before after found last goes pushed read r =
    let n = last read r.raw r.given in
    subst (Stands plan pushed new) (sym (some_rest read r.raw n.rest r.given.each n.feedless n.some n.bytes))
    (goes n.rest n.rest n.told (omega arith) pushed (said r.raw) n.feedless (behind_all r.raw after.number n.counted) r.is)

-- a refusal whatever stands behind is one where nothing does
at_end : (plan : Plan) (pushed : List ℕ) (p : Place) (lines : List (List ℕ)) (line : ℕ) (wrong : Wrong) → StopsSo plan pushed p lines line wrong → StopsAtEnd plan pushed p lines line wrong
at_end plan pushed p lines line wrong s = record {
  entries = s.entries;
  behind = s.behind;
  are = s.are;
  number = s.number;
  refused = subst (λ (ls : List (List ℕ)). IsRefused plan ls s.number wrong) (append-nil s.behind) (s.refused []);
  line_is = s.line_is;
  given = s.given;
}

pub last_stops : (plan : Plan) (old new : Place) (before after : Reading) (found : Found) (stop : Stop)
    → ((read : List ℕ) (lines : List (List ℕ)) → HasGiven read lines before → GivesLast read lines found after)
    → ((says raw : List ℕ) → IsTold found after.line says raw → length raw ≤ length says + 1 → Halts plan old new says after.number stop)
    → (read : List ℕ) → StopsLast plan old new before read stop
last_stops plan old new before after found stops.Memory last halts read = tt
last_stops plan old new before after found (stops.Wrong line wrong) last halts read = λ pushed r.
    let n = last read r.raw r.given in
    subst (λ (ls : List (List ℕ)). StopsAtEnd plan pushed new ls line wrong) (sym (some_rest read r.raw n.rest r.given.each n.feedless n.some n.bytes))
    (at_end plan pushed new (said r.raw ++ n.rest ∷ []) line wrong
    (halts n.rest n.rest n.told (omega arith) pushed (said r.raw) n.feedless (behind_all r.raw after.number n.counted) r.is))

-- there is no last line: all lines of the text were given
pub none_stands : (plan : Plan) (p : Place) (before : Reading) → ((read : List ℕ) (lines : List (List ℕ)) → HasGiven read lines before → read ≡ with_feeds lines [])
    → (pushed read : List ℕ) → Reads read before (Stands plan pushed p) → Stands plan pushed p (lines_in read)
none_stands plan p before none pushed read r = subst (Stands plan pushed p) (sym (no_rest read r.raw r.given.each (none read r.raw r.given))) r.is

-- and the text ended there
pub ends_so : (plan : Plan) (old mid new : Place) (before : Reading)
    → ((pushed read : List ℕ) → Reads read before (Stands plan pushed old) → Stands plan pushed mid (lines_in read))
    → ((pushed : List ℕ) (lines : List (List ℕ)) → Stands plan pushed mid lines → IsAll plan pushed new lines)
    → (pushed read : List ℕ) → Reads read before (Stands plan pushed old) → IsAll plan pushed new (lines_in read)
ends_so plan old mid new before stands ends pushed read r = ends pushed (lines_in read) (stands pushed read r)

pub ends_wrong : (plan : Plan) (old mid new : Place) (before : Reading) (stop : Stop)
    → ((pushed read : List ℕ) → Reads read before (Stands plan pushed old) → Stands plan pushed mid (lines_in read)) → HaltsAtEnd plan mid new stop
    → (read : List ℕ) → StopsLast plan old new before read stop
ends_wrong plan old mid new before stops.Memory stands halts read = tt
ends_wrong plan old mid new before (stops.Wrong line wrong) stands halts read = λ pushed r. halts pushed (lines_in read) (stands pushed read r)

-- ---- the same of what a call answered

pub last_ok : (plan : Plan) (old new : Place) (before after : Reading) (found : Found) (taken : Result (Unit {0}) Stop)
    → ((read : List ℕ) (lines : List (List ℕ)) → HasGiven read lines before → GivesLast read lines found after)
    → OnOk taken ((says raw : List ℕ) → IsTold found after.line says raw → length raw ≤ length says + 1 → Goes plan old new says after.number)
    → OnOk taken ((pushed read : List ℕ) → Reads read before (Stands plan pushed old) → Stands plan pushed new (lines_in read))
last_ok plan old new before after found (Ok _) last goes = last_stands plan old new before after found last goes
last_ok plan old new before after found (Err _) last goes = tt

pub last_err : (plan : Plan) (old new : Place) (before after : Reading) (found : Found) (taken : Result (Unit {0}) Stop)
    → ((read : List ℕ) (lines : List (List ℕ)) → HasGiven read lines before → GivesLast read lines found after)
    → IfErr taken (λ stop. (says raw : List ℕ) → IsTold found after.line says raw → length raw ≤ length says + 1 → Halts plan old new says after.number stop)
    → IfErr taken (λ stop. (read : List ℕ) → StopsLast plan old new before read stop)
last_err plan old new before after found (Ok _) last halts = tt
last_err plan old new before after found (Err stop) last halts = last_stops plan old new before after found stop last halts

pub end_ok : (plan : Plan) (old mid new : Place) (before : Reading) (taken : Result (Unit {0}) Stop)
    → ((pushed read : List ℕ) → Reads read before (Stands plan pushed old) → Stands plan pushed mid (lines_in read))
    → OnOk taken ((pushed : List ℕ) (lines : List (List ℕ)) → Stands plan pushed mid lines → IsAll plan pushed new lines)
    → OnOk taken ((pushed read : List ℕ) → Reads read before (Stands plan pushed old) → IsAll plan pushed new (lines_in read))
end_ok plan old mid new before (Ok _) stands ends = ends_so plan old mid new before stands ends
end_ok plan old mid new before (Err _) stands ends = tt

pub end_err : (plan : Plan) (old mid new : Place) (before : Reading) (taken : Result (Unit {0}) Stop)
    → ((pushed read : List ℕ) → Reads read before (Stands plan pushed old) → Stands plan pushed mid (lines_in read))
    → IfErr taken (HaltsAtEnd plan mid new) → IfErr taken (λ stop. (read : List ℕ) → StopsLast plan old new before read stop)
end_err plan old mid new before (Ok _) stands halts = tt
end_err plan old mid new before (Err stop) stands halts = ends_wrong plan old mid new before stop stands halts
