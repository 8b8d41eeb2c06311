-- The finish of one flow at any moment: where its reader knows it, or it is under way, its writer has sent all of its entries, and behind
-- it no message is live. How each reply and each call keeps that, and that so no message comes behind a finish.
use Rattle.honest_ends.proofs.Past.{to_come_some}
use Rattle.honest_ends.proofs.Held.{open_not_closing}
use Rattle.std.proofs.Common.{◌≡◌, ◌⊎◌, inl, inr, ℕ, zero, suc, ◌+◌, ◌≤◌, ◌==◌, ◌&&◌, not, Bool, true, false, if◌then◌else◌, List, ◌∷◌, ◌++◌, length, Option, Some, None, refl, sym, ap, subst, ◌∙◌, arith, true≢false, eq-eqb}
use Rattle.std.specs.Prelude.{is_some, unwrap_or, IfSome}
use Rattle.std.specs.List.{AllByRecursion}
use Rattle.session_model.specs.Journal.{Entry}
use Rattle.session_model.proofs.Lists.{all_append}
use Rattle.fixp_msgs.specs.declared.numbering.Range.{Range}
use Rattle.fixp_msgs.specs.declared.flow.Flow.{Flow}
use Rattle.fixp_msgs.specs.Message.{sequence, finished_sending}
use Rattle.flow_retrans.specs.declared.request.Request.{Request}
use Rattle.flow_retrans.specs.Requests as request_is
use Rattle.fixp_shake.specs.Flows.{is_sequenced}
use Rattle.fixp_shake.specs.Phases.{is_established, is_closing}
use Rattle.fixp_replies.specs.declared.act.Ending.{Ending}
use Rattle.fixp_replies.specs.declared.facts.Facts.{Facts}
use Rattle.fixp_replies.specs.declared.facts.PeerFinish.{PeerFinish}
use Rattle.fixp_replies.specs.declared.facts.PeerFinish.TheVariants as peer
use Rattle.fixp_replies.specs.Facts.{Around, peer_last, last_among, live_number}
use Rattle.fixp_replies.specs.Flowing.{is_after_finish, is_past_finish, finished_last, is_last}
use Rattle.fixp_replies.specs.Outcomes.{Outcome}
use Rattle.fixp_replies.specs.Replies.{reply_of}
use Rattle.connection_laws.specs.Writing.{Piece, said, entry, said_all}
use Rattle.two_ends.specs.Reading.{incoming_of}
use Rattle.two_ends.proofs.Refused.{closing_is_deaf}
use Rattle.honest_ends.specs.Numbers.{Awaited, exactly, softly, Runs, ServesLater, served, to_come}
use Rattle.honest_ends.specs.Numbered.{ReturnsFirst}
use Rattle.honest_ends.proofs.Running.{after_announced}
use Rattle.honest_ends.proofs.Finishing.{finishes, Learned, IsLate, ComesLate, Moves, moves, last_in, sendings, total, total_append}
use Rattle.honest_ends.proofs.Telling.{Complete, NamesLast, none_names, Tells}
use Rattle.honest_ends.proofs.Asking.{inside, coming, is_serving, asks_of}
use Rattle.honest_ends.proofs.Serving.{by_bool}
use Rattle.honest_ends.specs.Knowing.{last_told}
use Rattle.honest_ends.proofs.Living.{NoneLive, behind_fewer, none_live_append, said_live, unfinished_live, level_live, live_level}

-- one where it is there
abbrev pub known : Option ℕ → ℕ
known None = 0
known (Some n) = 1

-- Of one flow, whose writer's outbox comes to have these entries
pub record Behind (own : Flow) (h : List Entry) (writer reader : Facts) (over : Option Ending) (way : List Piece) : Type 0 where
  pub finish : IfSome writer.recorded.finish (λ n. n ≡ length h)
  pub learned : (last : ℕ) → Learned (finishes reader) last → Complete (length h) writer × (last ≡ last_told own h)
  pub told : 1 ≤ total sendings way → Complete (length h) writer
  pub names : AllByRecursion (NamesLast own (length h)) way
  pub none_live : over ≡ None → is_closing reader.connection.phase ≡ false → NoneLive (known (peer_last reader)) (coming reader) way

-- what a reader knows it has learned
pub last_of : (r : Option ℕ) (q : PeerFinish) (last : ℕ) → last_among r q ≡ Some last → (r ≡ Some last) ⊎ (last_among None q ≡ Some last)
last_of r peer.Open last e = inl e
last_of r (peer.Read n) last e = inr e
last_of r (peer.Exchanged n) last e = inr e

of_last : (r : Option ℕ) (q : PeerFinish) (last : ℕ) → (r ≡ Some last) ⊎ (last_among None q ≡ Some last) → 1 ≤ known (last_among r q)
of_last r peer.Open last (inl e) = let one = ap known e in omega (arith, one)
of_last r peer.Open last (inr e) = absurd cc
of_last r (peer.Read n) last e = omega arith
of_last r (peer.Exchanged n) last e = omega arith

learned_known : (f : Facts) (last : ℕ) → Learned (finishes f) last → 1 ≤ known (peer_last f)
learned_known f last l = of_last f.recorded.peer_last f.connection.peer_finish last l

known_learned : (f : Facts) (P : Type 0) → 1 ≤ known (peer_last f) → ((last : ℕ) → peer_last f ≡ Some last → Learned (finishes f) last → P) → P
known_learned f P some h = by_last (peer_last f) refl some
  where
    by_last : (o : Option ℕ) → peer_last f ≡ o → 1 ≤ known o → P
    by_last None e some = absurd (omega (arith, some))
    by_last (Some last) e some = h last e (last_of f.recorded.peer_last f.connection.peer_finish last e)

pub there_known : (o : Option ℕ) → is_some o ≡ true → 1 ≤ known o
there_known None e = absurd (true≢false (sym e))
there_known (Some n) e = omega arith

-- the last number that a finish names is what its reader takes from it
named : (x : Around) (own : Flow) (h : List Entry) (p : Piece) (last : ℕ) → x.config.peer_flow ≡ own → NamesLast own (length h) p → last_in x p ≡ Some last → (1 ≤ sendings p) × (last ≡ last_told own h)
named x own h (said (finished_sending id l)) last flow names e =
    let same : finished_last x l ≡ last = cc e in (omega arith, sym same ∙ finished x own h l flow names)
  where
    taken : (b : Bool) (n : ℕ) (k : Option ℕ) → k ≡ (if b then Some n else None) → (if b then unwrap_or k 0 else 0) ≡ (if b then n else 0)
    taken true n k e = ap (λ (o : Option ℕ). unwrap_or o 0) e
    taken false n k e = refl

    finished : (x : Around) (own : Flow) (h : List Entry) (l : Option ℕ) → x.config.peer_flow ≡ own → l ≡ (if is_sequenced own then Some (length h) else None) → finished_last x l ≡ last_told own h
    finished x own h l flow names = subst (λ (k : Flow). (if is_sequenced k then unwrap_or l 0 else 0) ≡ last_told own h) (sym flow) (taken (is_sequenced own) (length h) l names)
named x own h _ last flow names e = absurd cc

-- the reader replies to a message
pub heard_by_reader : (own : Flow) (h : List Entry) (writer : Facts) (x : Around) (reader : Facts) (over : Option Ending) (p : Piece) (left : List Piece) → ServesLater x.config reader → x.config.peer_flow ≡ own → over ≡ None
    → Behind own h writer reader over (p ∷ left) → Behind own h writer (reply_of x reader (incoming_of p)).next (reply_of x reader (incoming_of p)).ending left
heard_by_reader own h writer x reader over p left later flow going a = record { finish = a.finish; learned = learned; told = λ some. a.told (omega (arith, some)); names = a.names.1; none_live = none_live }
  where
    o : Outcome
    o = reply_of x reader (incoming_of p)

    m : Moves x reader p o
    m = moves x reader p

    by_source : (last : ℕ) → Learned (finishes reader) last ⊎ (last_in x p ≡ Some last) → Complete (length h) writer × (last ≡ last_told own h)
    by_source last (inl l) = a.learned last l
    by_source last (inr e) = let n = named x own h p last flow a.names.0 e in let one = n.0 in (a.told (omega (arith, one)), n.1)

    learned : (last : ℕ) → Learned (finishes o.next) last → Complete (length h) writer × (last ≡ last_told own h)
    learned last l = by_source last (m.learns last l)

    known_by : (last : ℕ) → Learned (finishes reader) last ⊎ (last_in x p ≡ Some last) → 1 ≤ known (peer_last reader) + sendings p
    known_by last (inl l) = let one = learned_known reader last l in omega (arith, one)
    known_by last (inr e) = let n = named x own h p last flow a.names.0 e in let one = n.0 in omega (arith, one)

    was_known : 1 ≤ known (peer_last o.next) → 1 ≤ known (peer_last reader) + sendings p
    was_known some = known_learned o.next (1 ≤ known (peer_last reader) + sendings p) some (λ last e l. known_by last (m.learns last l))

    -- it was not closing
    live_after : o.ending ≡ None → is_closing reader.connection.phase ≡ false → NoneLive (known (peer_last o.next)) (coming o.next) left
    live_after none yet = behind_fewer left (known (peer_last o.next)) (known (peer_last reader) + sendings p) (coming o.next) was_known
        (subst (λ (b : Bool). NoneLive (known (peer_last reader) + sendings p) b left) (sym ((asks_of x reader p later).comes none yet)) (a.none_live going yet).1)

    none_live : o.ending ≡ None → is_closing o.next.connection.phase ≡ false → NoneLive (known (peer_last o.next)) (coming o.next) left
    none_live none yet = by_bool (NoneLive (known (peer_last o.next)) (coming o.next) left) (is_closing reader.connection.phase)
        (λ t. absurd (true≢false (sym t ∙ (ap (λ (f : Facts). is_closing f.connection.phase) (sym (closing_is_deaf x reader (incoming_of p) t).next) ∙ yet))))
        (λ n. live_after none n)

-- the writer replies to a message that came back, and where a finish is known or under way as many are sent as were
pub heard_by_writer : (own : Flow) (h : List Entry) (x : Around) (writer reader : Facts) (over : Option Ending) (p : Piece) (way : List Piece)
    → ((last : ℕ) → Learned (finishes reader) last → (reply_of x writer (incoming_of p)).next.recorded.sent ≡ writer.recorded.sent)
    → (1 ≤ total sendings way → (reply_of x writer (incoming_of p)).next.recorded.sent ≡ writer.recorded.sent)
    → Behind own h writer reader over way → Behind own h (reply_of x writer (incoming_of p)).next reader over (way ++ said_all (reply_of x writer (incoming_of p)).written)
heard_by_writer own h x writer reader over p way known_sent told_sent a = record {
  finish = subst (λ (k : Option ℕ). IfSome k (λ n. n ≡ length h)) (sym m.finish) a.finish;
  learned = λ last l. let k = a.learned last l in (completes (known_sent last l) k.0, k.1);
  told = λ some. let before = told_before some in completes (told_sent before) (a.told before);
  names = all_append (NamesLast own (length h)) way (said_all o.written) a.names (none_names own (length h) (said_all o.written) m.counts.quiet);
  none_live = λ going yet. none_live_append way (said_all o.written) (known (peer_last reader)) (coming reader) (a.none_live going yet) (said_live o.written _ _);
}
  where
    o : Outcome
    o = reply_of x writer (incoming_of p)

    m : Moves x writer p o
    m = moves x writer p

    completes : o.next.recorded.sent ≡ writer.recorded.sent → Complete (length h) writer → Complete (length h) o.next
    completes same c = record { finish = m.finish ∙ c.finish; sent = same ∙ c.sent }

    told_before : 1 ≤ total sendings (way ++ said_all o.written) → 1 ≤ total sendings way
    told_before some = let e = total_append sendings way (said_all o.written) in let quiet = m.counts.quiet in omega (arith, e, quiet, some)

-- what is served of a range is some of one
serving_some : (r : Option Range) → is_some (served r) ≡ is_some r
serving_some None = refl
serving_some (Some r) = refl

-- any other call of the writer
pub told_behind : (own : Flow) (h : List Entry) (writer next reader : Facts) (over : Option Ending) (way out : List Piece) → Behind own h writer reader over way
    → (over ≡ None → is_closing reader.connection.phase ≡ false → inside (coming reader) way ≡ is_serving writer) → Tells own (length h) writer next out
    → Runs own (exactly (writer.recorded.sent + 1)) (served writer.connection.serving) out (next.recorded.sent + 1) (served next.connection.serving) → Behind own h next reader over (way ++ out)
told_behind own h writer next reader over way out a even t runs = record {
  finish = t.ends a.finish;
  learned = λ last l. let k = a.learned last l in (t.completes k.0, k.1);
  told = λ some. by_count (total sendings way) refl some;
  names = all_append (NamesLast own (length h)) way out a.names t.names;
  none_live = λ going yet. none_live_append way out (known (peer_last reader)) (coming reader) (a.none_live going yet) (live_behind going yet);
}
  where
    by_count : (n : ℕ) → total sendings way ≡ n → 1 ≤ total sendings (way ++ out) → Complete (length h) next
    by_count zero e some = let k = total_append sendings way out in (t.closes (omega (arith, k, e, some))).0
    by_count (suc n) e some = t.completes (a.told (omega (arith, e)))

    -- behind a finish as many are sent as were
    behind_known : (n k : ℕ) → known (peer_last reader) ≡ n → total sendings way ≡ k → 1 ≤ n + k → Complete (length h) writer
    behind_known (suc n) k e d some = known_learned reader (Complete (length h) writer) (omega (arith, e)) (λ last is l. (a.learned last l).0)
    behind_known zero (suc k) e d some = a.told (omega (arith, d))
    behind_known zero zero e d some = absurd (omega (arith, some))

    level : (n : ℕ) → known (peer_last reader) + total sendings way ≡ n → 1 ≤ n + total sendings out → next.recorded.sent ≡ writer.recorded.sent
    level zero e some = let c = t.closes (omega (arith, some)) in c.0.sent ∙ sym c.1
    level (suc n) e some =
        let c = behind_known (known (peer_last reader)) (total sendings way) refl refl (omega (arith, e)) in
        (t.completes c).sent ∙ sym c.sent

    by_finish : (n : ℕ) → known (peer_last reader) + total sendings way + total sendings out ≡ n → NoneLive (known (peer_last reader) + total sendings way) (is_serving writer) out
    by_finish zero e = unfinished_live out (known (peer_last reader) + total sendings way) (is_serving writer) e
    by_finish (suc n) e =
        let same = level (known (peer_last reader) + total sendings way) refl (omega (arith, e)) in
        subst (λ (b : Bool). NoneLive (known (peer_last reader) + total sendings way) b out) (serving_some writer.connection.serving)
        (level_live own (writer.recorded.sent + 1) (served writer.connection.serving) out (next.recorded.sent + 1) (served next.connection.serving) (known (peer_last reader) + total sendings way) runs (omega (arith, same)))

    live_behind : over ≡ None → is_closing reader.connection.phase ≡ false → NoneLive (known (peer_last reader) + total sendings way) (inside (coming reader) way) out
    live_behind going yet = subst (λ (b : Bool). NoneLive (known (peer_last reader) + total sendings way) b out) (sym (even going yet)) (by_finish (known (peer_last reader) + total sendings way + total sendings out) refl)

-- any other call of the reader
pub kept_behind : {flow : Flow} {n : ℕ} {out : List Piece} (own : Flow) (h : List Entry) (writer reader next : Facts) (over later : Option Ending) (way : List Piece) → (later ≡ None → over ≡ None)
    → (is_closing next.connection.phase ≡ false → is_closing reader.connection.phase ≡ false) → next.connection.requester ≡ reader.connection.requester → Behind own h writer reader over way → Tells flow n reader next out
    → Behind own h writer next later way
kept_behind own h writer reader next over later way goes opens asked a t = record {
  finish = a.finish;
  learned = λ last l. a.learned last (was last l);
  told = a.told;
  names = a.names;
  none_live = λ going yet. subst (λ (k : ℕ). NoneLive k (coming next) way) (sym same)
      (subst (λ (b : Bool). NoneLive (known (peer_last reader)) b way) (sym (ap (λ (q : Request). request_is.is_coming q) asked)) (a.none_live (goes going) (opens yet)));
}
  where
    was : (last : ℕ) → Learned (finishes next) last → Learned (finishes reader) last
    was last (inl e) = inl (sym t.recorded ∙ e)
    was last (inr e) = inr (sym (ap (λ (q : PeerFinish). last_among None q) t.theirs) ∙ e)

    same : known (peer_last next) ≡ known (peer_last reader)
    same = ap (λ (q : PeerFinish). known (last_among next.recorded.peer_last q)) t.theirs ∙ ap (λ (r : Option ℕ). known (last_among r reader.connection.peer_finish)) t.recorded

-- What is under way brings a reader of a flow with numbers from its live number to exactly one past what was sent
abbrev pub Brings : Flow → (writer : Facts) (x : Around) (reader : Facts) → List Piece → Type 0
Brings own writer x reader way = Runs own (exactly (live_number x reader)) (to_come reader.connection.requester) way (writer.recorded.sent + 1) (served writer.connection.serving)

-- or the writer begins with the number that a soft reader has told
pub record Begins (own : Flow) (writer reader : Facts) (way : List Piece) : Type 0 where
  pub low : ℕ
  pub live : ℕ
  pub runs : Runs own (softly low live) (to_come reader.connection.requester) way (writer.recorded.sent + 1) (served writer.connection.serving)
  pub first : ReturnsFirst low way

-- in Established
abbrev pub Exact : Flow → (writer : Facts) (x : Around) (reader : Facts) → List Piece → Type 0
Exact own writer x reader way = is_sequenced own ≡ true → is_established reader.connection.phase ≡ true → Brings own writer x reader way ⊎ Begins own writer reader way

-- behind a finish the live number is one past what was sent
live_is_next : (own : Flow) (writer : Facts) (x : Around) (reader : Facts) (way : List Piece) (k : ℕ) → 1 ≤ k → Brings own writer x reader way → NoneLive k (coming reader) way → live_number x reader ≡ writer.recorded.sent + 1
live_is_next own writer x reader way k some runs live = live_level own (live_number x reader) (to_come reader.connection.requester) way (writer.recorded.sent + 1) (served writer.connection.serving) k some runs
    (subst (λ (b : Bool). NoneLive k b way) (sym (to_come_some reader.connection.requester)) live)

-- and so is a number that is announced behind one
told_is_next : (own : Flow) (a : Awaited) (l : Option ℕ) (next : ℕ) (left : List Piece) (c : ℕ) (m : Option ℕ) (k : ℕ) → is_sequenced own ≡ true → 1 ≤ k → Runs own a l (said (sequence next) ∷ left) c m → NoneLive k false left → next ≡ c
told_is_next own a l next left c m k numbered some r live =
    live_level own next None left c m k some (subst (λ (d : Awaited). Runs own d None left c m) (after_announced own (sequence next) a l next (ap (λ (b : Bool). if b then Some next else None) numbered)) r.1) live

both_true : (a b : Bool) → (a && b) ≡ true → (a ≡ true) × (b ≡ true)
both_true true true e = (refl, refl)
both_true true false e = absurd (true≢false (sym e))
both_true false b e = absurd (true≢false (sym e))

-- a test that fails though what it tests holds
passed : (b : Bool) → b ≡ true → not b ≡ true → ⊥
passed b e n = true≢false (sym n ∙ ap not e)

-- the last number of a flow with numbers is that of the last entry
pub last_entry : (own : Flow) (h : List Entry) (last : ℕ) → is_sequenced own ≡ true → last ≡ last_told own h → last ≡ length h
last_entry own h last numbered e = e ∙ ap (λ (b : Bool). if b then length h else 0) numbered

entry_early : (reader : Facts) (payload : List ℕ) (left : List Piece) → NoneLive (known (peer_last reader)) (coming reader) (entry payload ∷ left) → is_after_finish reader ≡ true → ⊥
entry_early reader payload left live late =
    let two = both_true (is_some (peer_last reader)) (not (coming reader)) late in
    passed (coming reader) (live.0 (there_known (peer_last reader) two.0)) two.1

sequence_early : (own : Flow) (h : List Entry) (writer : Facts) (x : Around) (reader : Facts) (over : Option Ending) (next : ℕ) (left : List Piece) → x.config.peer_flow ≡ own
    → Behind own h writer reader over (said (sequence next) ∷ left) → (is_sequenced own ≡ true → Brings own writer x reader (said (sequence next) ∷ left) ⊎ Begins own writer reader (said (sequence next) ∷ left))
    → NoneLive (known (peer_last reader)) (coming reader) (said (sequence next) ∷ left) → is_past_finish x reader next ≡ true → ⊥
sequence_early own h writer x reader over next left flow a runs live late =
    let one = both_true (is_sequenced x.config.peer_flow && is_some (peer_last reader)) (not (next == unwrap_or (peer_last reader) 0 + 1)) late in
    let two = both_true (is_sequenced x.config.peer_flow) (is_some (peer_last reader)) one.0 in
    known_learned reader ⊥ (there_known (peer_last reader) two.1) (λ last e l. past last e l (sym (ap is_sequenced flow) ∙ two.0) one.1)
  where
    told_so : is_sequenced own ≡ true → 1 ≤ known (peer_last reader) → Brings own writer x reader (said (sequence next) ∷ left) ⊎ Begins own writer reader (said (sequence next) ∷ left) → next ≡ writer.recorded.sent + 1
    told_so numbered some (inl r) =
        told_is_next own (exactly (live_number x reader)) (to_come reader.connection.requester) next left (writer.recorded.sent + 1) (served writer.connection.serving) (known (peer_last reader) + 0) numbered (omega (arith, some)) r live.1
    told_so numbered some (inr b) =
        told_is_next own (softly b.low b.live) (to_come reader.connection.requester) next left (writer.recorded.sent + 1) (served writer.connection.serving) (known (peer_last reader) + 0) numbered (omega (arith, some)) b.runs live.1

    past : (last : ℕ) → peer_last reader ≡ Some last → Learned (finishes reader) last → is_sequenced own ≡ true → not (next == unwrap_or (peer_last reader) 0 + 1) ≡ true → ⊥
    past last e l numbered wrong =
        let c = a.learned last l in
        let sent = c.0.sent in
        let is = last_entry own h last numbered c.1 in
        let told = told_so numbered (learned_known reader last l) (runs numbered) in
        let known_as = ap (λ (o : Option ℕ). unwrap_or o 0) e in
        passed (next == unwrap_or (peer_last reader) 0 + 1) (eq-eqb next (unwrap_or (peer_last reader) 0 + 1) (omega (arith, sent, is, told, known_as))) wrong

-- no finish is the first of a flow that begins with a number
never_first : (n : ℕ) (id : List ℕ) (last : Option ℕ) (left : List Piece) → ReturnsFirst n (said (finished_sending id last) ∷ left) → ⊥
never_first n id last left (inl e) = cc e
never_first n id last left (inr h) = h.0

finish_early : (own : Flow) (h : List Entry) (writer : Facts) (x : Around) (reader : Facts) (over : Option Ending) (id : List ℕ) (last : Option ℕ) (left : List Piece) → x.config.peer_flow ≡ own
    → Behind own h writer reader over (said (finished_sending id last) ∷ left) → (is_sequenced own ≡ true → Brings own writer x reader (said (finished_sending id last) ∷ left) ⊎ Begins own writer reader (said (finished_sending id last) ∷ left))
    → NoneLive (known (peer_last reader)) (coming reader) (said (finished_sending id last) ∷ left) → (is_sequenced x.config.peer_flow && not (is_last x reader (finished_last x last))) ≡ true → ⊥
finish_early own h writer x reader over id last left flow a runs live late =
    let one = both_true (is_sequenced x.config.peer_flow) (not (is_last x reader (finished_last x last))) late in
    let numbered = sym (ap is_sequenced flow) ∙ one.0 in
    let sent = (a.told (omega arith)).sent in
    let n = named x own h (said (finished_sending id last)) (finished_last x last) flow a.names.0 refl in
    let is = last_entry own h (finished_last x last) numbered n.1 in
    let number = live_so (runs numbered) in
    passed (is_last x reader (finished_last x last)) (tests (finished_last x last) (omega (arith, sent, is, number)) (same (finished_last x last) numbered is (peer_last reader) refl)) one.1
  where
    live_so : Brings own writer x reader (said (finished_sending id last) ∷ left) ⊎ Begins own writer reader (said (finished_sending id last) ∷ left) → live_number x reader ≡ writer.recorded.sent + 1
    live_so (inl r) = live_is_next own writer x reader left (known (peer_last reader) + 1) (omega arith) r.1 live.1
    live_so (inr b) = absurd (never_first b.low id last left b.first)

    same : (k : ℕ) → is_sequenced own ≡ true → k ≡ length h → (o : Option ℕ) → peer_last reader ≡ o → k ≡ unwrap_or o k
    same k numbered is None e = refl
    same k numbered is (Some before) e = is ∙ sym (last_entry own h before numbered (a.learned before (last_of reader.recorded.peer_last reader.connection.peer_finish before e)).1)

    and_true : (b c : Bool) → b ≡ true → c ≡ true → (b && c) ≡ true
    and_true true c e d = d
    and_true false c e d = absurd (true≢false (sym e))

    tests : (k : ℕ) → k + 1 ≡ live_number x reader → k ≡ unwrap_or (peer_last reader) k → is_last x reader k ≡ true
    tests k number same = and_true (k + 1 == live_number x reader) (k == unwrap_or (peer_last reader) k) (eq-eqb (k + 1) (live_number x reader) number) (eq-eqb k (unwrap_or (peer_last reader) k) same)

-- so no message that comes is behind a finish
pub none_late : (own : Flow) (h : List Entry) (writer : Facts) (x : Around) (reader : Facts) (over : Option Ending) (p : Piece) (left : List Piece) → x.config.peer_flow ≡ own → over ≡ None
    → Behind own h writer reader over (p ∷ left) → Exact own writer x reader (p ∷ left) → IsLate x reader p → ⊥
none_late own h writer x reader over p left flow going a exact late =
    by_piece p a (λ numbered. exact numbered late.0) (a.none_live going (open_not_closing reader.connection.phase late.0)) late.1
  where
    by_piece : (q : Piece) → Behind own h writer reader over (q ∷ left) → (is_sequenced own ≡ true → Brings own writer x reader (q ∷ left) ⊎ Begins own writer reader (q ∷ left))
        → NoneLive (known (peer_last reader)) (coming reader) (q ∷ left) → ComesLate x reader q → ⊥
    by_piece (entry payload) b runs live comes = entry_early reader payload left live comes
    by_piece (said (sequence next)) b runs live comes = sequence_early own h writer x reader over next left flow b runs live comes
    by_piece (said (finished_sending id last)) b runs live comes = finish_early own h writer x reader over id last left flow b runs live comes
    by_piece _ b runs live comes = comes
