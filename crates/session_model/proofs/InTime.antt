-- A session in the order of time: its lives are chained, its connections linked, and each moment goes on in the later ones.
use Rattle.std.proofs.Common.{◌≡◌, ◌≢◌, ℕ, ◌+◌, ◌<◌, ◌≤◌, ◌==◌, Bool, true, false, if◌then◌else◌, List, [], ◌∷◌, ◌++◌, refl, sym, ap, subst, ◌∙◌, arith, append_assoc, append-nil, ne_eqb, eqb-true, eq-eqb, nat_lt, ltb-false}
use Rattle.std.proofs.lemmas.Bool.{eqb-false, ltb-true}
use Rattle.std.proofs.lemmas.Grind.{flat_map-append}
use Rattle.std.specs.List.{AllByRecursion, AllZip}
use mathlib.Core.List.{IsPrefix}
use Rattle.session_model.specs.Inbox.{InboxRecord, Ascending}
use Rattle.session_model.specs.Events.{Event}
use Rattle.session_model.specs.Lives.{Connection, Life, Leads, Chained, IsImage, TakenFrom, rest_lost, taken, rejected, Linked, left_alone, right_alone, paired, connections_of}
use Rattle.session_model.specs.Lives
use Rattle.session_model.specs.Journal.{OutboxRecord}
use Rattle.session_model.specs.Moments.{Deed, connect, keep, lose_outbox, write, report, drain, process, lose_inbox, stop, End, lives_of, opened_on, fresh, at_last, lived, does, written_on, MayAccept, May, Ends, Step, of_a, of_b, step, after, Happens, newborn, beginning, BeginsConnection, ConnectionsBegin, BeginsLife, LivesGoOn, HistoryBegins, HistoryIsSession}
use Rattle.session_model.proofs.Lists.{prefix_self, prefix_of_append, prefix_trans}
use Rattle.session_model.proofs.Chains.{chained_splits}

-- what is taken of a beginning is taken of the whole
taken_longer : (w more a : List Event) → TakenFrom w a → TakenFrom (w ++ more) a
taken_longer w more a rest_lost = rest_lost
taken_longer w more a (taken {e = e} {written = w'} {accepted = a'} k) = taken {e = e} (taken_longer w' more a' k)
taken_longer w more a (rejected {n = n} {written = w'} {accepted = a'} k) = rejected {n = n} (taken_longer w' more a' k)

taken_of_more : (w longer a : List Event) → IsPrefix w longer → TakenFrom w a → TakenFrom longer a
taken_of_more w longer a p k = subst (λ x. TakenFrom x a) p.1 (taken_longer w p.0 a k)

taken_of_nothing : (w a : List Event) → w ≡ [] → TakenFrom w a → a ≡ []
taken_of_nothing w a e rest_lost = refl
taken_of_nothing w a e (taken k) = absurd (cc e)
taken_of_nothing w a e (rejected k) = absurd (cc e)

-- one more number behind rising ones
ascending_more : (k n : ℕ) (ns : List ℕ) → k ≤ n → Ascending k ns → AllByRecursion (λ m. m < n) ns → Ascending k (ns ++ n ∷ [])
ascending_more k n [] le r all = (le, tt)
ascending_more k n (m ∷ ns) le r all = (r.0, ascending_more (m + 1) n ns (omega (arith, all.0)) r.1 all.1)

-- an end whose connections have these links accepted of what was written on them
abbrev Reads : (ℕ → List Event) → List ℕ → List Connection → Type 0
Reads w ns cs = AllZip (λ (n : ℕ) (c : Connection). TakenFrom (w n) c.accepted) ns cs

reads_other : (w v : ℕ → List Event) (k : ℕ) (ns : List ℕ) (cs : List Connection)
    → ((n : ℕ) (a : List Event) → k ≤ n → TakenFrom (w n) a → TakenFrom (v n) a) → Ascending k ns → Reads w ns cs → Reads v ns cs
reads_other w v k [] [] f r all = tt
reads_other w v k [] (c ∷ cs) f r all = absurd all
reads_other w v k (n ∷ ns) [] f r all = absurd all
reads_other w v k (n ∷ ns) (c ∷ cs) f r all =
    (f n c.accepted r.0 all.0, reads_other w v (n + 1) ns cs (λ m a le. f m a (omega (arith, r.0))) r.1 all.1)

-- below the first link nothing was written
written_below : (n k : ℕ) (ns : List ℕ) (cs : List Connection) → n < k → Ascending k ns → written_on n ns cs ≡ []
written_below n k [] cs lt r = refl
written_below n k (m ∷ ns) [] lt r = refl
written_below n k (m ∷ ns) (c ∷ cs) lt r =
    let other : (m == n) ≡ false = ne_eqb m n (omega (arith, r.0)) in
    ap (λ b. if b then c.written else written_on n ns cs) other ∙ written_below n (m + 1) ns cs (omega (arith, r.0)) r.1

written_here : (n : ℕ) (ns : List ℕ) (c : Connection) (cs : List Connection) → written_on n (n ∷ ns) (c ∷ cs) ≡ c.written
written_here n ns c cs = ap (λ b. if b then c.written else written_on n ns cs) (eq-eqb n n refl)

written_behind : (n m : ℕ) (ns : List ℕ) (c : Connection) (cs : List Connection) → m < n → written_on n (m ∷ ns) (c ∷ cs) ≡ written_on n ns cs
written_behind n m ns c cs lt = ap (λ b. if b then c.written else written_on n ns cs) (ne_eqb m n (omega arith))

-- of the ends a and b, one with the link n and further ones: how its later connections are linked with any of the other's
abbrev Further : List ℕ → List Connection → Type 0
Further ns as' = (ms : List ℕ) (bs : List Connection) (j k : ℕ) → Ascending j ns → Ascending k ms
    → Reads (λ n. written_on n ms bs) ns as' → Reads (λ n. written_on n ns as') ms bs → Linked as' bs

-- the other end did not take up the link n
alone : (n : ℕ) (ns : List ℕ) (a : Connection) (as' : List Connection) → Ascending (n + 1) ns → Further ns as' → (ms : List ℕ) (bs : List Connection) (k : ℕ)
    → n < k → Ascending k ms → Reads (λ i. written_on i ms bs) (n ∷ ns) (a ∷ as') → Reads (λ i. written_on i (n ∷ ns) (a ∷ as')) ms bs → Linked (a ∷ as') bs
alone n ns a as' r further ms bs k lt s p q =
    left_alone (taken_of_nothing (written_on n ms bs) a.accepted (written_below n k ms bs lt s) p.0)
    (further ms bs (n + 1) k r s p.1
    (reads_other (λ i. written_on i (n ∷ ns) (a ∷ as')) (λ i. written_on i ns as') k ms bs
    (λ i x le t. subst (λ w. TakenFrom w x) (written_behind i n ns a as' (omega (arith, le, lt))) t) s q))

pairs : (n : ℕ) (ns : List ℕ) (a : Connection) (as' : List Connection) → Ascending (n + 1) ns → Further ns as' → (ms : List ℕ) (bs : List Connection) (k : ℕ)
    → Ascending k ms → Reads (λ i. written_on i ms bs) (n ∷ ns) (a ∷ as') → Reads (λ i. written_on i (n ∷ ns) (a ∷ as')) ms bs → Linked (a ∷ as') bs
pairs n ns a as' r further [] [] k s p q = alone n ns a as' r further [] [] (n + 1) (omega arith) tt p q
pairs n ns a as' r further [] (b ∷ bs) k s p q = absurd q
pairs n ns a as' r further (m ∷ ms) [] k s p q = absurd q
pairs n ns a as' r further (m ∷ ms) (b ∷ bs) k s p q =
    by_tests (nat_lt n m) (m == n) refl refl (pairs n ns a as' r further ms bs (m + 1) s.1)
  where
    by_tests : (t t' : Bool) → nat_lt n m ≡ t → (m == n) ≡ t'
        → (Reads (λ i. written_on i ms bs) (n ∷ ns) (a ∷ as') → Reads (λ i. written_on i (n ∷ ns) (a ∷ as')) ms bs → Linked (a ∷ as') bs) → Linked (a ∷ as') (b ∷ bs)
    by_tests true t' below same later = alone n ns a as' r further (m ∷ ms) (b ∷ bs) m (ltb-true n m below) (omega arith, s.1) p q
    by_tests false true below same later =
        let e : m ≡ n = eqb-true m n same in
        paired
        (subst (λ w. TakenFrom w a.accepted) (subst (λ i. written_on n (i ∷ ms) (b ∷ bs) ≡ b.written) (sym e) (written_here n ms b bs)) p.0)
        (subst (λ w. TakenFrom w b.accepted) (subst (λ i. written_on i (n ∷ ns) (a ∷ as') ≡ a.written) (sym e) (written_here n ns a as')) q.0)
        (further ms bs (n + 1) (m + 1) r s.1
        (reads_other (λ i. written_on i (m ∷ ms) (b ∷ bs)) (λ i. written_on i ms bs) (n + 1) ns as'
        (λ i x le t. subst (λ w. TakenFrom w x) (written_behind i m ms b bs (omega (arith, le, e))) t) r p.1)
        (reads_other (λ i. written_on i (n ∷ ns) (a ∷ as')) (λ i. written_on i ns as') (m + 1) ms bs
        (λ i x le t. subst (λ w. TakenFrom w x) (written_behind i n ns a as' (omega (arith, le, e))) t) s.1 q.1))
    by_tests false false below same later =
        let other : m ≢ n = eqb-false m n same in
        let above : m < n = omega (arith, ltb-false n m below, other) in
        right_alone
        (taken_of_nothing (written_on m (n ∷ ns) (a ∷ as')) b.accepted (written_below m n (n ∷ ns) (a ∷ as') above (omega arith, r)) q.0)
        (later
        (reads_other (λ i. written_on i (m ∷ ms) (b ∷ bs)) (λ i. written_on i ms bs) (m + 1) (n ∷ ns) (a ∷ as')
        (λ i x le t. subst (λ w. TakenFrom w x) (written_behind i m ms b bs (omega (arith, le))) t) (omega (arith, above), r) p)
        q.1)

-- the other end has further connections, and this one none
all_alone : (ms : List ℕ) (bs : List Connection) → Reads (λ n. []) ms bs → Linked [] bs
all_alone [] [] q = Lives.Linked.no_more
all_alone [] (b ∷ bs) q = absurd q
all_alone (m ∷ ms) [] q = absurd q
all_alone (m ∷ ms) (b ∷ bs) q = right_alone (taken_of_nothing [] b.accepted refl q.0) (all_alone ms bs q.1)

-- ends that accepted of each other's links are linked
pub linked_by_links : (ns : List ℕ) (as' : List Connection) → Further ns as'
linked_by_links [] [] ms bs j k r s p q = all_alone ms bs q
linked_by_links [] (a ∷ as') ms bs j k r s p q = absurd p
linked_by_links (n ∷ ns) [] ms bs j k r s p q = absurd p
linked_by_links (n ∷ ns) (a ∷ as') ms bs j k r s p q = pairs n ns a as' r.1 (linked_by_links ns as') ms bs k s p q

-- all connections of an end whose last life is this
flat : (past : List Life) (life : Life) → connections_of (past ++ life ∷ []) ≡ connections_of past ++ life.served.connections
flat past life = flat_map-append _ past (life ∷ []) ∙ ap (λ cs. connections_of past ++ cs) (append-nil life.served.connections)

-- each connection has written what it had written, or more
abbrev Extends : List Connection → List Connection → Type 0
Extends [] later = Unit {0}
Extends (c ∷ cs) [] = ⊥
Extends (c ∷ cs) (d ∷ later) = IsPrefix c.written d.written × Extends cs later

extends_self : (cs more : List Connection) → Extends cs (cs ++ more)
extends_self [] more = tt
extends_self (c ∷ cs) more = (prefix_self c.written, extends_self cs more)

extends_equal : (cs ds : List Connection) → ds ≡ cs → Extends cs ds
extends_equal cs ds e = subst (Extends cs) (append-nil cs ∙ sym e) (extends_self cs [])

extends_behind : (xs cs ds : List Connection) → Extends cs ds → Extends (xs ++ cs) (xs ++ ds)
extends_behind [] cs ds e = e
extends_behind (x ∷ xs) cs ds e = (prefix_self x.written, extends_behind xs cs ds e)

extends_at_last : (change : Connection → Connection) → ((c : Connection) → IsPrefix c.written (change c).written) → (cs : List Connection) → Extends cs (at_last change cs)
extends_at_last change more [] = tt
extends_at_last change more (c ∷ []) = (more c, tt)
extends_at_last change more (c ∷ d ∷ cs) = (prefix_self c.written, extends_at_last change more (d ∷ cs))

written_extends : (n : ℕ) (ns more : List ℕ) (cs ds : List Connection) → Extends cs ds → IsPrefix (written_on n ns cs) (written_on n (ns ++ more) ds)
written_extends n [] more cs ds e = (written_on n more ds, refl)
written_extends n (m ∷ ns) more [] ds e = (written_on n (m ∷ ns ++ more) ds, refl)
written_extends n (m ∷ ns) more (c ∷ cs) [] e = absurd e
written_extends n (m ∷ ns) more (c ∷ cs) (d ∷ ds) e = by_test (m == n) (written_extends n ns more cs ds e.1)
  where
    by_test : (t : Bool) → IsPrefix (written_on n ns cs) (written_on n (ns ++ more) ds)
        → IsPrefix (if t then c.written else written_on n ns cs) (if t then d.written else written_on n (ns ++ more) ds)
    by_test true rest = e.0
    by_test false rest = rest

-- what an end wrote on a link stays written
record Wrote (e later : End) : Type 0 where
  more : List ℕ
  links : later.links ≡ e.links ++ more
  connections : Extends (connections_of (lives_of e)) (connections_of (lives_of later))

wrote_same : (e later : End) (cs : List Connection) → later.links ≡ e.links → connections_of (lives_of later) ≡ connections_of e.past ++ cs
    → Extends e.now.served.connections cs → Wrote e later
wrote_same e later cs same both x = record {
  more = [];
  links = same ∙ sym (append-nil e.links);
  connections = subst (λ xs. Extends xs (connections_of (lives_of later))) (sym (flat e.past e.now))
      (subst (Extends (connections_of e.past ++ e.now.served.connections)) (sym both) (extends_behind (connections_of e.past) e.now.served.connections cs x));
}

still_written : (es : List Event) → IsPrefix es es
still_written es = prefix_self es

wrote : (deed : Deed) (e : End) → Wrote e (does deed e)
wrote (connect n) e = record {
  more = n ∷ [];
  links = refl;
  connections = subst (λ xs. Extends xs (connections_of (lives_of (does (connect n) e)))) (sym (flat e.past e.now))
      (subst (Extends (connections_of e.past ++ e.now.served.connections)) (sym (flat e.past (lived (connect n) e.now)))
      (extends_behind (connections_of e.past) e.now.served.connections _ (extends_self e.now.served.connections (fresh ∷ []))));
}
wrote (keep r) e = wrote_same e (does (keep r) e) _ refl (flat e.past (lived (keep r) e.now)) (extends_equal _ _ refl)
wrote (lose_outbox rs) e = wrote_same e (does (lose_outbox rs) e) _ refl (flat e.past (lived (lose_outbox rs) e.now)) (extends_equal _ _ refl)
wrote (write x) e = wrote_same e (does (write x) e) _ refl (flat e.past (lived (write x) e.now))
    (extends_at_last _ (λ c. prefix_of_append c.written (x ∷ [])) e.now.served.connections)
wrote (report r) e = wrote_same e (does (report r) e) _ refl (flat e.past (lived (report r) e.now)) (extends_at_last _ (λ c. still_written c.written) e.now.served.connections)
wrote (drain t) e = wrote_same e (does (drain t) e) _ refl (flat e.past (lived (drain t) e.now)) (extends_at_last _ (λ c. still_written c.written) e.now.served.connections)
wrote (process es rs) e = wrote_same e (does (process es rs) e) _ refl (flat e.past (lived (process es rs) e.now)) (extends_at_last _ (λ c. still_written c.written) e.now.served.connections)
wrote (lose_inbox es rs) e = wrote_same e (does (lose_inbox es rs) e) _ refl (flat e.past (lived (lose_inbox es rs) e.now)) (extends_at_last _ (λ c. still_written c.written) e.now.served.connections)
wrote (stop o i) e = record {
  more = [];
  links = sym (append-nil e.links);
  connections = extends_equal _ _ (flat (lives_of e) (opened_on o i) ∙ append-nil (connections_of (lives_of e)));
}

-- what an end wrote on each link
abbrev on_links : End → ℕ → List Event
on_links e n = written_on n e.links (connections_of (lives_of e))

wrote_on : (e later : End) → Wrote e later → (n : ℕ) (a : List Event) → TakenFrom (on_links e n) a → TakenFrom (on_links later n) a
wrote_on e later w n a t =
    let ds = connections_of (lives_of later) in
    taken_of_more (on_links e n) (on_links later n) a
    (subst (λ ns. IsPrefix (on_links e n) (written_on n ns ds)) (sym w.links) (written_extends n e.links w.more (connections_of (lives_of e)) ds w.connections)) t

-- the same connections have accepted the same
abbrev Alike : List Connection → List Connection → Type 0
Alike cs ds = AllZip (λ (c : Connection) (d : Connection). c.accepted ≡ d.accepted) cs ds

alike_self : (cs : List Connection) → Alike cs cs
alike_self [] = tt
alike_self (c ∷ cs) = (refl, alike_self cs)

alike_behind : (xs cs ds : List Connection) → Alike cs ds → Alike (xs ++ cs) (xs ++ ds)
alike_behind [] cs ds e = e
alike_behind (x ∷ xs) cs ds e = (refl, alike_behind xs cs ds e)

alike_at_last : (change : Connection → Connection) → ((c : Connection) → c.accepted ≡ (change c).accepted) → (cs : List Connection) → Alike cs (at_last change cs)
alike_at_last change same [] = tt
alike_at_last change same (c ∷ []) = (same c, tt)
alike_at_last change same (c ∷ d ∷ cs) = (refl, alike_at_last change same (d ∷ cs))

reads_alike : (w : ℕ → List Event) (ns : List ℕ) (cs ds : List Connection) → Alike cs ds → Reads w ns cs → Reads w ns ds
reads_alike w [] [] [] e r = tt
reads_alike w ns [] (d ∷ ds) e r = absurd e
reads_alike w ns (c ∷ cs) [] e r = absurd e
reads_alike w [] (c ∷ cs) (d ∷ ds) e r = absurd r
reads_alike w (n ∷ ns) [] [] e r = absurd r
reads_alike w (n ∷ ns) (c ∷ cs) (d ∷ ds) e r = (subst (TakenFrom (w n)) e.0 r.0, reads_alike w ns cs ds e.1 r.1)

reads_push : (w : ℕ → List Event) (n : ℕ) (ns : List ℕ) (cs : List Connection) → Reads w ns cs → Reads w (ns ++ n ∷ []) (cs ++ fresh ∷ [])
reads_push w n [] [] r = (rest_lost, tt)
reads_push w n [] (c ∷ cs) r = absurd r
reads_push w n (m ∷ ns) [] r = absurd r
reads_push w n (m ∷ ns) (c ∷ cs) r = (r.0, reads_push w n ns cs r.1)

-- where the last connection has accepted more
reads_last : (w : ℕ → List Event) (n : ℕ) (c d : Connection) (ns : List ℕ) (cs : List Connection) → TakenFrom (w n) d.accepted
    → Reads w (ns ++ n ∷ []) (cs ++ c ∷ []) → Reads w (ns ++ n ∷ []) (cs ++ d ∷ [])
reads_last w n c d [] [] t r = (t, tt)
reads_last w n c d [] (x ∷ []) t r = absurd r.1
reads_last w n c d [] (x ∷ y ∷ cs) t r = absurd r.1
reads_last w n c d (m ∷ []) [] t r = absurd r.1
reads_last w n c d (m ∷ k ∷ ns) [] t r = absurd r.1
reads_last w n c d (m ∷ ns) (x ∷ cs) t r = (r.0, reads_last w n c d ns cs t r.1)

last_changed : (change : Connection → Connection) (cs : List Connection) (c : Connection) → at_last change (cs ++ c ∷ []) ≡ cs ++ change c ∷ []
last_changed change [] c = refl
last_changed change (x ∷ []) c = refl
last_changed change (x ∷ y ∷ cs) c = ap (λ xs. x ∷ xs) (last_changed change (y ∷ cs) c)

-- an end that accepted only what was written on its links, and whose past lives are chained
record Sound (e other : End) : Type 0 where
  rising : Ascending 0 e.links
  reads : Reads (on_links other) e.links (connections_of (lives_of e))
  chained : Chained [] [] e.past e.now.opening_outbox e.now.served.opening_inbox

reads_before : (e other : End) → Sound e other → Reads (on_links other) e.links (connections_of e.past ++ e.now.served.connections)
reads_before e other s = subst (Reads (on_links other) e.links) (flat e.past e.now) s.reads

-- what the other end does leaves an end sound
sound_still : (e other later : End) → Wrote other later → Sound e other → Sound e later
sound_still e other later w s = record {
  rising = s.rising;
  reads = reads_other (on_links other) (on_links later) 0 e.links (connections_of (lives_of e)) (λ n a le t. wrote_on other later w n a t) s.rising s.reads;
  chained = s.chained;
}

sound_alike : (e other : End) (life : Life) → Sound e other → life.opening_outbox ≡ e.now.opening_outbox → life.served.opening_inbox ≡ e.now.served.opening_inbox
    → Alike e.now.served.connections life.served.connections → Sound (record { past = e.past; now = life; links = e.links }) other
sound_alike e other life s o i same = record {
  rising = s.rising;
  reads = subst (Reads (on_links other) e.links) (sym (flat e.past life))
      (reads_alike (on_links other) e.links _ _ (alike_behind (connections_of e.past) e.now.served.connections life.served.connections same) (reads_before e other s));
  chained = subst (λ x. Chained [] [] e.past x life.served.opening_inbox) (sym o) (subst (λ x. Chained [] [] e.past e.now.opening_outbox x) (sym i) s.chained);
}

-- where the last connection accepted more of what was written on its link
sound_accepts : (e other : End) (life : Life) (es : List Event) (change : Connection → Connection) → Sound e other → MayAccept e other es
    → life.opening_outbox ≡ e.now.opening_outbox → life.served.opening_inbox ≡ e.now.served.opening_inbox
    → life.served.connections ≡ at_last change e.now.served.connections → ((c : Connection) → (change c).accepted ≡ c.accepted ++ es)
    → Sound (record { past = e.past; now = life; links = e.links }) other
sound_accepts e other life es change s may o i changed more =
    let w = on_links other in
    let xs = connections_of e.past in
    let earlier = may.has.earlier in
    let before = may.has.before in
    let was : xs ++ e.now.served.connections ≡ (xs ++ earlier) ++ may.c ∷ [] =
    ap (λ cs. xs ++ cs) may.has.connection ∙ sym (append_assoc xs earlier (may.c ∷ [])) in
    let now : xs ++ life.served.connections ≡ (xs ++ earlier) ++ change may.c ∷ [] =
    ap (λ cs. xs ++ cs) (changed ∙ (ap (at_last change) may.has.connection ∙ last_changed change earlier may.c)) ∙ sym (append_assoc xs earlier (change may.c ∷ [])) in
    let read : Reads w (before ++ may.n ∷ []) ((xs ++ earlier) ++ may.c ∷ []) =
    subst (λ ns. Reads w ns ((xs ++ earlier) ++ may.c ∷ [])) may.has.link (subst (Reads w e.links) was (reads_before e other s)) in
    let reads' : Reads w e.links ((xs ++ earlier) ++ change may.c ∷ []) =
    subst (λ ns. Reads w ns ((xs ++ earlier) ++ change may.c ∷ [])) (sym may.has.link)
    (reads_last w may.n may.c (change may.c) before (xs ++ earlier) (subst (TakenFrom (w may.n)) (sym (more may.c)) may.comes) read) in
    record {
      rising = s.rising;
      reads = subst (Reads w e.links) (sym (flat e.past life ∙ now)) reads';
      chained = subst (λ x. Chained [] [] e.past x life.served.opening_inbox) (sym o) (subst (λ x. Chained [] [] e.past e.now.opening_outbox x) (sym i) s.chained);
    }

-- the lives of an end, and what a stop may leave of the last
chained_now : (e other : End) (outbox : List OutboxRecord) (inbox : List InboxRecord) → Sound e other → May (stop outbox inbox) e other
    → Chained [] [] (lives_of e) outbox inbox
chained_now e other outbox inbox s may =
    let leads : Leads e.now e.now.opening_outbox e.now.served.opening_inbox outbox inbox =
    record { opens_outbox = refl; opens_inbox = refl; outbox_image = may.0; inbox_image = may.1 } in
    (chained_splits [] outbox [] inbox e.past (e.now ∷ [])).1
    (e.now.opening_outbox, e.now.served.opening_inbox, s.chained, (outbox, inbox, leads, (refl, refl)))

sound_does : (deed : Deed) (e other : End) → Sound e other → May deed e other → Sound (does deed e) other
sound_does (connect n) e other s may = record {
  rising = ascending_more 0 n e.links (omega arith) s.rising may;
  reads = subst (Reads (on_links other) (e.links ++ n ∷ [])) (append_assoc (connections_of e.past) e.now.served.connections (fresh ∷ []) ∙ sym (flat e.past (lived (connect n) e.now)))
      (reads_push (on_links other) n e.links (connections_of e.past ++ e.now.served.connections) (reads_before e other s));
  chained = s.chained;
}
sound_does (keep r) e other s may = sound_alike e other (lived (keep r) e.now) s refl refl (alike_self e.now.served.connections)
sound_does (lose_outbox rs) e other s may = sound_alike e other (lived (lose_outbox rs) e.now) s refl refl (alike_self e.now.served.connections)
sound_does (write x) e other s may = sound_alike e other (lived (write x) e.now) s refl refl (alike_at_last _ (λ c. refl) e.now.served.connections)
sound_does (report r) e other s may = sound_alike e other (lived (report r) e.now) s refl refl (alike_at_last _ (λ c. refl) e.now.served.connections)
sound_does (drain t) e other s may = sound_alike e other (lived (drain t) e.now) s refl refl (alike_at_last _ (λ c. refl) e.now.served.connections)
sound_does (process es rs) e other s may = sound_accepts e other (lived (process es rs) e.now) es _ s may refl refl refl (λ c. refl)
sound_does (lose_inbox es rs) e other s may = sound_accepts e other (lived (lose_inbox es rs) e.now) es _ s may refl refl refl (λ c. refl)
sound_does (stop o i) e other s may = record {
  rising = s.rising;
  reads = subst (Reads (on_links other) e.links) (sym (flat (lives_of e) (opened_on o i) ∙ append-nil (connections_of (lives_of e)))) s.reads;
  chained = chained_now e other o i s may;
}

-- both ends, over all steps
record BothSound (w : Ends) : Type 0 where
  of_first : Sound w.a w.b
  of_second : Sound w.b w.a

sound_after : (steps : List Step) (w : Ends) → BothSound w → Happens steps w → BothSound (after steps w)
sound_after [] w s h = s
sound_after (of_a deed ∷ steps) w s h =
    sound_after steps (step (of_a deed) w)
    (record { of_first = sound_does deed w.a w.b s.of_first h.0; of_second = sound_still w.b w.a (does deed w.a) (wrote deed w.a) s.of_second }) h.1
sound_after (of_b deed ∷ steps) w s h =
    sound_after steps (step (of_b deed) w)
    (record { of_first = sound_still w.a w.b (does deed w.b) (wrote deed w.b) s.of_first; of_second = sound_does deed w.b w.a s.of_second h.0 }) h.1

sound_start : Sound newborn newborn
sound_start = record { rising = tt; reads = tt; chained = (refl, refl) }

pub history_is_session : HistoryIsSession
history_is_session steps a b h lives_a lives_b may_a may_b keeps_a keeps_b =
    let w = after steps beginning in
    let s = sound_after steps beginning (record { of_first = sound_start; of_second = sound_start }) h in
    let linked = linked_by_links w.a.links (connections_of (lives_of w.a)) w.b.links (connections_of (lives_of w.b)) 0 0 s.of_first.rising s.of_second.rising s.of_first.reads s.of_second.reads in
    record {
      chained_a = subst (λ (lives : List Life). Chained [] [] lives a.outbox a.inbox) (sym lives_a) (chained_now w.a w.b a.outbox a.inbox s.of_first may_a);
      chained_b = subst (λ (lives : List Life). Chained [] [] lives b.outbox b.inbox) (sym lives_b) (chained_now w.b w.a b.outbox b.inbox s.of_second may_b);
      contract_a = keeps_a;
      contract_b = keeps_b;
      linked = subst (λ (lives : List Life). Linked (connections_of lives) (connections_of b.lives)) (sym lives_a)
          (subst (λ (lives : List Life). Linked (connections_of (lives_of w.a)) (connections_of lives)) (sym lives_b) linked);
    }

-- what a connection comes to
same_begins : (c : Connection) → BeginsConnection c c
same_begins c = record { accepted = prefix_self c.accepted; written = prefix_self c.written; added = prefix_self c.added; reported = prefix_self c.reported }

connection_goes_on : (c d e : Connection) → BeginsConnection c d → BeginsConnection d e → BeginsConnection c e
connection_goes_on c d e p q = record {
  accepted = prefix_trans c.accepted d.accepted e.accepted p.accepted q.accepted;
  written = prefix_trans c.written d.written e.written p.written q.written;
  added = prefix_trans c.added d.added e.added p.added q.added;
  reported = prefix_trans c.reported d.reported e.reported p.reported q.reported;
}

begin_themselves : (cs more : List Connection) → ConnectionsBegin cs (cs ++ more)
begin_themselves [] more = tt
begin_themselves (c ∷ []) more = same_begins c
begin_themselves (c ∷ d ∷ cs) more = (refl, begin_themselves (d ∷ cs) more)

begin_same : (cs : List Connection) → ConnectionsBegin cs cs
begin_same cs = subst (ConnectionsBegin cs) (append-nil cs) (begin_themselves cs [])

begin_at_last : (change : Connection → Connection) → ((c : Connection) → BeginsConnection c (change c)) → (cs : List Connection) → ConnectionsBegin cs (at_last change cs)
begin_at_last change more [] = tt
begin_at_last change more (c ∷ []) = more c
begin_at_last change more (c ∷ d ∷ []) = (refl, more d)
begin_at_last change more (c ∷ d ∷ e ∷ cs) = (refl, begin_at_last change more (d ∷ e ∷ cs))

-- no connection begins none
begin_nothing : (c : Connection) (cs : List Connection) → ConnectionsBegin (c ∷ cs) [] → ⊥
begin_nothing c [] p = p
begin_nothing c (d ∷ cs) p = p

begin_further : (cs ds es : List Connection) → ConnectionsBegin cs ds → ConnectionsBegin ds es → ConnectionsBegin cs es
begin_further [] ds es p q = tt
begin_further (c ∷ cs) [] es p q = absurd (begin_nothing c cs p)
begin_further (c ∷ cs) (d ∷ ds) [] p q = absurd (begin_nothing d ds q)
begin_further (c ∷ []) (d ∷ []) (e ∷ es) p q = connection_goes_on c d e p q
begin_further (c ∷ []) (d ∷ d' ∷ ds) (e ∷ es) p q = subst (BeginsConnection c) q.0 p
begin_further (c ∷ c' ∷ cs) (d ∷ []) (e ∷ es) p q = absurd (begin_nothing c' cs p.1)
begin_further (c ∷ c' ∷ cs) (d ∷ d' ∷ ds) (e ∷ es) p q = (p.0 ∙ q.0, begin_further (c' ∷ cs) (d' ∷ ds) es p.1 q.1)

life_begins : (life : Life) → BeginsLife life life
life_begins life = record {
  same_outbox = refl;
  same_inbox = refl;
  outbox = prefix_self life.closing_outbox;
  inbox = prefix_self life.served.closing_inbox;
  connections = begin_same life.served.connections;
}

life_goes_on : (first second third : Life) → BeginsLife first second → BeginsLife second third → BeginsLife first third
life_goes_on first second third p q = record {
  same_outbox = p.same_outbox ∙ q.same_outbox;
  same_inbox = p.same_inbox ∙ q.same_inbox;
  outbox = prefix_trans first.closing_outbox second.closing_outbox third.closing_outbox p.outbox q.outbox;
  inbox = prefix_trans first.served.closing_inbox second.served.closing_inbox third.served.closing_inbox p.inbox q.inbox;
  connections = begin_further first.served.connections second.served.connections third.served.connections p.connections q.connections;
}

-- one more deed of the life that runs
on_connection : (life later : Life) (change : Connection → Connection) → ((c : Connection) → BeginsConnection c (change c))
    → later.opening_outbox ≡ life.opening_outbox → later.served.opening_inbox ≡ life.served.opening_inbox → later.closing_outbox ≡ life.closing_outbox
    → IsPrefix life.served.closing_inbox later.served.closing_inbox → later.served.connections ≡ at_last change life.served.connections → BeginsLife life later
on_connection life later change more o i closing inbox changed = record {
  same_outbox = sym o;
  same_inbox = sym i;
  outbox = subst (IsPrefix life.closing_outbox) (sym closing) (prefix_self life.closing_outbox);
  inbox = inbox;
  connections = subst (ConnectionsBegin life.served.connections) (sym changed) (begin_at_last change more life.served.connections);
}

further : (life : Life) (e late : End) → LivesGoOn (record { past = e.past; now = life; links = e.links }) late → BeginsLife e.now life → LivesGoOn e late
further life e late g b = record { going = g.going; later = g.later; lives = g.lives; begins = life_goes_on e.now life g.going b g.begins }

step_goes_on : (deed : Deed) (e late : End) → LivesGoOn (does deed e) late → LivesGoOn e late
step_goes_on (connect n) e late g = record {
  going = g.going;
  later = g.later;
  lives = g.lives;
  begins = life_goes_on e.now (lived (connect n) e.now) g.going
      (record {
        same_outbox = refl;
        same_inbox = refl;
        outbox = prefix_self e.now.closing_outbox;
        inbox = prefix_self e.now.served.closing_inbox;
        connections = begin_themselves e.now.served.connections (fresh ∷ []);
      }) g.begins;
}
step_goes_on (keep r) e late g = further (lived (keep r) e.now) e late g (record {
  same_outbox = refl;
  same_inbox = refl;
  outbox = prefix_of_append e.now.closing_outbox (r ∷ []);
  inbox = prefix_self e.now.served.closing_inbox;
  connections = begin_same e.now.served.connections;
})
step_goes_on (lose_outbox rs) e late g = further (lived (lose_outbox rs) e.now) e late g (record {
  same_outbox = refl;
  same_inbox = refl;
  outbox = prefix_self e.now.closing_outbox;
  inbox = prefix_self e.now.served.closing_inbox;
  connections = begin_same e.now.served.connections;
})
step_goes_on (write x) e late g = further (lived (write x) e.now) e late g
    (on_connection e.now (lived (write x) e.now) _ (λ c. record { accepted = prefix_self c.accepted; written = prefix_of_append c.written (x ∷ []); added = prefix_self c.added; reported = prefix_self c.reported }) refl refl refl (prefix_self e.now.served.closing_inbox) refl)
step_goes_on (report r) e late g = further (lived (report r) e.now) e late g
    (on_connection e.now (lived (report r) e.now) _ (λ c. record { accepted = prefix_self c.accepted; written = prefix_self c.written; added = prefix_self c.added; reported = prefix_of_append c.reported (r ∷ []) }) refl refl refl (prefix_self e.now.served.closing_inbox) refl)
step_goes_on (drain t) e late g = further (lived (drain t) e.now) e late g
    (on_connection e.now (lived (drain t) e.now) (λ c. record c { drained = t }) (λ c. record { accepted = prefix_self c.accepted; written = prefix_self c.written; added = prefix_self c.added; reported = prefix_self c.reported }) refl refl refl (prefix_self e.now.served.closing_inbox) refl)
step_goes_on (process es rs) e late g = further (lived (process es rs) e.now) e late g
    (on_connection e.now (lived (process es rs) e.now) _ (λ c. record { accepted = prefix_of_append c.accepted es; written = prefix_self c.written; added = prefix_of_append c.added rs; reported = prefix_self c.reported })
    refl refl refl (prefix_of_append e.now.served.closing_inbox rs) refl)
step_goes_on (lose_inbox es rs) e late g = further (lived (lose_inbox es rs) e.now) e late g
    (on_connection e.now (lived (lose_inbox es rs) e.now) _ (λ c. record { accepted = prefix_of_append c.accepted es; written = prefix_self c.written; added = prefix_self c.added; reported = prefix_self c.reported }) refl refl refl (prefix_self e.now.served.closing_inbox) refl)
step_goes_on (stop o i) e late g = record {
  going = e.now;
  later = g.going ∷ g.later;
  lives = g.lives ∙ append_assoc e.past (e.now ∷ []) (g.going ∷ g.later);
  begins = life_begins e.now;
}

lives_go_on : (steps : List Step) (w : Ends) → LivesGoOn w.a (after steps w).a × LivesGoOn w.b (after steps w).b
lives_go_on [] w = (record { going = w.a.now; later = []; lives = refl; begins = life_begins w.a.now }, record { going = w.b.now; later = []; lives = refl; begins = life_begins w.b.now })
lives_go_on (of_a deed ∷ steps) w =
    let rest = lives_go_on steps (step (of_a deed) w) in (step_goes_on deed w.a (after steps (step (of_a deed) w)).a rest.0, rest.1)
lives_go_on (of_b deed ∷ steps) w =
    let rest = lives_go_on steps (step (of_b deed) w) in (rest.0, step_goes_on deed w.b (after steps (step (of_b deed) w)).b rest.1)

after-append : (first second : List Step) (w : Ends) → after (first ++ second) w ≡ after second (after first w)
after-append [] second w = refl
after-append (s ∷ first) second w = after-append first second (step s w)

happens_first : (first second : List Step) (w : Ends) → Happens (first ++ second) w → Happens first w
happens_first [] second w h = tt
happens_first (s ∷ first) second w h = (h.0, happens_first first second (step s w) h.1)

pub history_begins : HistoryBegins
history_begins first second h =
    let at = after first beginning in
    let on = lives_go_on second at in
    let same = after-append first second beginning in (
      happens_first first second beginning h,
      subst (λ w. LivesGoOn at.a w.a) (sym same) on.0,
      subst (λ w. LivesGoOn at.b w.b) (sym same) on.1,
    )
