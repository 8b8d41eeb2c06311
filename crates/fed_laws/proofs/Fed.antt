-- What the passes of all senders know behind a feeding, of the plans that it submitted.
use Rattle.std.proofs.Common.{◌≡◌, ◌≢◌, ◌⊎◌, inl, inr, ⊎_elim, ℕ, zero, suc, ◌+◌, ◌-◌, ◌<◌, ◌≤◌, ◌^◌, ◌==◌, Bool, true, false, cond, List, [], ◌∷◌, ◌++◌, length, drop, slice_get, slice_index_or, refl, sym, ap, subst, ◌∙◌, arith, append-nil}
use Rattle.std.specs.Prelude.{All, Option, None, Some}
use Rattle.std.specs.List.{AllByRecursion}
use Rattle.std.proofs.lemmas.Bool.{eqb-true}
use Rattle.std.proofs.lemmas.List.Elements.{All-head, All-tail}
use Rattle.session_model.specs.Journal.{Entry, History, BeginsHistory, finish, payloads, entries_of}
use Rattle.session_model.proofs.Lists.{all_append, all_weaker, prefix_get}
use Rattle.jr_dated.specs.declared.journal.Journal.{Ghosts}
use Rattle.gate_turn.specs.Views.{Account, Part}
use Rattle.gate_turn.specs.Rule.{In}
use Rattle.gate_turn.specs.Places.{known}
use Rattle.gate_senders.specs.declared.gate.Gate.{Gate}
use Rattle.gate_staff.specs.declared.sender.Sender.{Sender}
use Rattle.plan_text.specs.Plans.{Gift, payloads_of_sender}
use Rattle.conn_accepted.specs.declared.why.Why.{Why}
use Rattle.conn_door.specs.declared.answer.ServeFault.{ServeFault}
use Rattle.conn_door.specs.Senders.{LosesMark}
use Rattle.conn_feed.specs.declared.end.FeedEnd.{FeedEnd}
use Rattle.conn_feed.specs.declared.end.FeedEnd.TheVariants as ends
use Rattle.conn_feed.specs.Words.{Word, accepted, refused as declined, alike, entries_in, CameOfEach}
use Rattle.conn_feed.specs.Fed.{part_at, parts_of, Made, StandsIn, LosesLines, FillsLines, gifts_to}
use Rattle.conn_feed.specs.Ends.{Point, Answered, MayBeLast, FinishedBy}
use Rattle.conn_feed.proofs.Coming.{entries_append}
use Rattle.conn_feed.proofs.Moving.{at_seat}
use Rattle.conn_fed.specs.Fed.{IsMarked}
use Rattle.life_laws.specs.Plans.{plan_in}
use Rattle.gate_staff.specs.Made.{IsAllMade, LosesMessages, IsAmong, SeesOwn}
use Rattle.life_laws.specs.PlanLives.{MetFull}
use Rattle.life_laws.proofs.Seen.{own_among}
use Rattle.life_laws.proofs.Senders.{PartMade, part_still, EachMade, NoneEnded, PartLoses, SendersMade}
use Rattle.fed_laws.specs.Given.{GiveThese, fed_plan, fed_plans}
use Rattle.fed_laws.proofs.Gifts.{gifts_of, give_these, came_behind, parted, none_given, alike_given, gifts_own, plan_at, plans_long}
use Rattle.fed_laws.proofs.Parts.{PartOpened, part_made, all_made, unended_on, next_at, loses_next}

entries_alike : (why : Why) (count : ℕ) → entries_in (alike why count) ≡ []
entries_alike why zero = refl
entries_alike why (suc count) = entries_alike why count

module _ (a : Account) (start now : Point) (lines : List (List ℕ)) (end : FeedEnd) (few : length start.parts ≤ 16)
    (opened : (s : ℕ) → In (length start.parts) s → PartOpened a s (part_at start.parts s)) (f : Answered (length start.parts) start now lines end) where
  abbrev pub n : ℕ
  n = length start.parts

  abbrev before : List Word
  before = f.last.before

  abbrev tail : List Word
  tail = alike f.last.why f.last.count

  abbrev pub came : CameOfEach n f.first (before ++ tail)
  came = subst (CameOfEach n f.first) f.last.split f.came

  abbrev pub gifts : List Gift
  gifts = gifts_of n f.first (before ++ tail) came

  small : n < 2 ^ 16
  small = omega (arith, few)

  pub they_give : GiveThese n f.first gifts
  they_give = give_these n f.first (before ++ tail) came small

  abbrev pub plans : List (List (List ℕ))
  plans = fed_plans n a.history.made gifts

  abbrev left : List Gift
  left = gifts_of n (drop (length before) f.first) tail (came_behind n before tail f.first came)

  abbrev rest : ℕ → List (List ℕ)
  rest s = payloads_of_sender s left

  abbrev es : ℕ → List Entry
  es s = entries_of (entries_in f.words) s

  words_are : entries_in f.words ≡ entries_in before
  words_are = ap entries_in f.last.split ∙ entries_append before tail ∙ ap (λ (xs : List Entry). entries_in before ++ xs) (entries_alike f.last.why f.last.count) ∙ append-nil (entries_in before)

  given_are : (s : ℕ) → payloads_of_sender s gifts ≡ payloads (es s) ++ rest s
  given_are s = parted n s before tail f.first came f.last.clear ∙ ap (λ (xs : List Entry). payloads (entries_of xs s) ++ rest s) (sym words_are)

  plan_is : (k : ℕ) → k < n → plan_in plans (suc k) [] ≡ payloads (entries_of a.history.made (suc k)) ++ (payloads (es (suc k)) ++ rest (suc k))
  plan_is k lt = plan_at n a.history.made gifts k lt ∙ ap (λ (ps : List (List ℕ)). payloads (entries_of a.history.made (suc k)) ++ ps) (given_are (suc k))

  inside : (k : ℕ) → k < n → In n (suc k)
  inside k lt = record { from_one = omega arith; up_to = omega (arith, lt) }

  -- each pass made messages of its plan
  pub made_at : (k : ℕ) → k < n → PartMade a (suc k) (plan_in plans (suc k) []) (part_at now.parts (suc k))
  made_at k lt = part_made a (suc k) (plan_in plans (suc k) []) (part_at start.parts (suc k)) (part_at now.parts (suc k)) (es (suc k)) (rest (suc k)) (opened (suc k) (inside k lt)) (f.fed.each (suc k) (inside k lt))
      (plan_is k lt)

  pub unended_at : (k : ℕ) → k < n → (part_at now.parts (suc k)).ended ≡ false
  unended_at k lt = unended_on a (suc k) (plan_in plans (suc k) []) (part_at start.parts (suc k)) (part_at now.parts (suc k)) (es (suc k)) (rest (suc k)) (opened (suc k) (inside k lt)) (f.fed.each (suc k) (inside k lt))
      (plan_is k lt)

  -- where none was refused that gives something, all of it
  none_left : f.last.count ≡ 0 → left ≡ []
  none_left none = by_count f.last.count none (came_behind n before tail f.first came)
    where
      by_count : (count : ℕ) → count ≡ 0 → (c : CameOfEach n (drop (length before) f.first) (alike f.last.why count)) → gifts_of n (drop (length before) f.first) (alike f.last.why count) c ≡ []
      by_count zero e c = none_given n (drop (length before) f.first) c
      by_count (suc count) e c = absurd (omega (arith, e))

  ended_whole : end ≡ ends.Ended → f.last.count ≡ 0
  ended_whole e = by_count f.last.count f.last.kind
    where
      by_count : (count : ℕ) → (0 < count → MayBeLast end f.last.why) → count ≡ 0
      by_count zero kind = refl
      by_count (suc count) kind = absurd (subst (λ (x : FeedEnd). MayBeLast x f.last.why) e (kind (omega arith)))

  pub whole_at : end ≡ ends.Ended → (k : ℕ) → k < n → IsAllMade (entries_of a.history.made (suc k)) (suc k) (plan_in plans (suc k) []) (part_at now.parts (suc k)).mine
  whole_at e k lt = all_made a (suc k) (plan_in plans (suc k) []) (part_at start.parts (suc k)) (part_at now.parts (suc k)) (es (suc k)) (rest (suc k)) (opened (suc k) (inside k lt)) (f.fed.each (suc k) (inside k lt))
      (plan_is k lt) (ap (λ (gs : List Gift). payloads_of_sender (suc k) gs) (none_left (ended_whole e)))

  -- what a pass lost
  pub unlost_at : end ≢ ends.Journal → (k : ℕ) → k < n → (part_at now.parts (suc k)).lost ≡ []
  unlost_at other k lt = f.unlost other (suc k) (inside k lt) ∙ (opened (suc k) (inside k lt)).lost

  loses_at : end ≡ ends.Journal → (k : ℕ) → k < n → LosesLines n (part_at now.parts (suc k)) (drop (length before) f.first)
      → LosesMessages (plan_in plans (suc k) []) (part_at now.parts (suc k)) × (a.history.finished ≢ true)
  loses_at e k lt l =
      let q : Part = part_at now.parts (suc k) in
      let m : PartMade a (suc k) (plan_in plans (suc k) []) q = made_at k lt in
      let are : left ≡ gifts_to q.number l.payloads =
      alike_given n q.number f.last.why f.last.count (drop (length before) f.first) l.payloads (came_behind n before tail f.first came) small l.given in
      let rest_is : rest (suc k) ≡ l.payloads =
      ap (λ (s : ℕ). payloads_of_sender s left) (sym m.number) ∙ ap (λ (gs : List Gift). payloads_of_sender q.number gs) are ∙ gifts_own q.number l.payloads in (
        loses_next a (suc k) (plan_in plans (suc k) []) (part_at start.parts (suc k)) q (es (suc k)) (rest (suc k)) (opened (suc k) (inside k lt)) (f.fed.each (suc k) (inside k lt)) (plan_is k lt)
            l.payloads rest_is l.few l.loses,
        λ was. l.unmarked (sym (ap (λ (h : History). h.finished) (m.behind.alone was)) ∙ was),
      )

  -- a pass has seen all entries of its own
  among : (ws : List Word) (s : ℕ) → All (StandsIn now.parts) ws → AllByRecursion (IsAmong (part_at now.parts s).seen.made) (entries_of (entries_in ws) s)
  among [] s all = tt
  among (declined why ∷ ws) s all = among ws s (All-tail (StandsIn now.parts) (declined why) ws all)
  among (accepted m e ∷ ws) s all = by_test (e.sender == s) refl (among ws s (All-tail (StandsIn now.parts) (accepted m e) ws all))
    where
      by_test : (b : Bool) → (e.sender == s) ≡ b → AllByRecursion (IsAmong (part_at now.parts s).seen.made) (entries_of (entries_in ws) s)
          → AllByRecursion (IsAmong (part_at now.parts s).seen.made) (cond b (e ∷ entries_of (entries_in ws) s) (entries_of (entries_in ws) s))
      by_test true is rest = (
        (m - 1, subst (λ (x : ℕ). slice_get (part_at now.parts x).seen.made (m - 1) ≡ Some e) (eqb-true e.sender s is) (All-head (StandsIn now.parts) (accepted m e) ws all).1),
        rest,
      )
      by_test false is rest = rest

  sees_own : (k : ℕ) → k < n → SeesOwn (part_at now.parts (suc k))
  sees_own k lt =
      let q : Part = part_at now.parts (suc k) in
      let had : List Entry = entries_of a.history.made (suc k) in
      subst (λ (xs : List Entry). AllByRecursion (IsAmong q.seen.made) xs)
      (sym ((f.fed.each (suc k) (inside k lt)).mine ∙ ap (λ (hs : List Entry). hs ++ es (suc k)) (opened (suc k) (inside k lt)).mine))
      (all_append (IsAmong q.seen.made) had (es (suc k))
      (all_weaker (IsAmong a.history.made) (IsAmong q.seen.made) (λ e x. (x.0, prefix_get a.history.made q.seen.made x.0 e (made_at k lt).behind.made x.1)) had (own_among a.history.made (suc k)))
      (among f.words (suc k) f.fed.stand))

  -- at a limit the next message of a plan was refused
  pub fills_at : (entries bytes k : ℕ) → k < n → FillsLines n entries bytes (part_at now.parts (suc k)) (drop (length before) f.first) → MetFull plans entries bytes (part_at now.parts (suc k))
  fills_at entries bytes k lt l =
      let q : Part = part_at now.parts (suc k) in
      let m : PartMade a (suc k) (plan_in plans (suc k) []) q = made_at k lt in
      let are : left ≡ gifts_to q.number (l.payload ∷ l.behind) =
      alike_given n q.number f.last.why f.last.count (drop (length before) f.first) (l.payload ∷ l.behind) (came_behind n before tail f.first came) small l.given in
      let rest_is : rest (suc k) ≡ l.payload ∷ l.behind =
      ap (λ (s : ℕ). payloads_of_sender s left) (sym m.number) ∙ ap (λ (gs : List Gift). payloads_of_sender q.number gs) are ∙ gifts_own q.number (l.payload ∷ l.behind) in
      record {
        payload = l.payload;
        next = subst (λ (s : ℕ). slice_get (plan_in plans s []) (length q.mine) ≡ Some l.payload) (sym m.number)
            (next_at a (suc k) (plan_in plans (suc k) []) (part_at start.parts (suc k)) q (es (suc k)) (rest (suc k)) (opened (suc k) (inside k lt)) (f.fed.each (suc k) (inside k lt)) (plan_is k lt)
            l.payload l.behind rest_is);
        seen_all = sees_own k lt;
        behind = subst (λ (b : Account). BeginsHistory b.history q.seen) (sym m.opening) m.behind;
        full = l.full;
      }

  pub lost_at : (k : ℕ) → k < n → ((part_at now.parts (suc k)).lost ≡ []) ⊎ (LosesMessages (plan_in plans (suc k) []) (part_at now.parts (suc k)) × (a.history.finished ≢ true))
  lost_at k lt = by_end end refl
    where
      by_end : (x : FeedEnd) → end ≡ x → ((part_at now.parts (suc k)).lost ≡ []) ⊎ (LosesMessages (plan_in plans (suc k) []) (part_at now.parts (suc k)) × (a.history.finished ≢ true))
      by_end ends.Ended e = inl (unlost_at (λ j. cc (sym e ∙ j)) k lt)
      by_end ends.Closed e = inl (unlost_at (λ j. cc (sym e ∙ j)) k lt)
      by_end ends.Stopped e = inl (unlost_at (λ j. cc (sym e ∙ j)) k lt)
      by_end ends.Input e = inl (unlost_at (λ j. cc (sym e ∙ j)) k lt)
      by_end ends.Accepted e = inl (unlost_at (λ j. cc (sym e ∙ j)) k lt)
      by_end ends.Journal e = ⊎_elim (λ same. inl (same ∙ (opened (suc k) (inside k lt)).lost)) (λ l. inr (loses_at e k lt l)) (f.lost (suc k) (inside k lt))
      by_end (ends.Full entries bytes) e = inl (unlost_at (λ j. cc (sym e ∙ j)) k lt)
      by_end ends.Memory e = inl (unlost_at (λ j. cc (sym e ∙ j)) k lt)

  -- ---- behind the mark

  module _ {J : Type 0} {G : Ghosts J} (gate : Gate J G) (after : List (Sender J G)) (last : List Part) (last_is : parts_of after ≡ last) (long : length after ≡ n) (refused : Option ServeFault) (marked : IsMarked now.parts last end refused) where
    seat : (k : ℕ) (d : Sender J G) → k < length after → part_at last (suc k) ≡ known (slice_index_or after k d).pass
    seat k d lt =
        let e : suc k - 1 ≡ k = omega arith in
        ap (λ (ps : List Part). part_at ps (suc k)) (sym last_is) ∙ at_seat after (suc k) d (record { from_one = omega arith; up_to = omega (arith, lt) }) ∙ ap (λ (j : ℕ). known (slice_index_or after j d).pass) e

    within : (k : ℕ) → k < length after → k < n
    within k lt = omega (arith, lt, long)

    of_parts : (P : ℕ → Part → Type 0) → ((k : ℕ) → k < n → P k (part_at last (suc k))) → (k : ℕ) (d : Sender J G) → k < length after → P k (known (slice_index_or after k d).pass)
    of_parts P h k d lt = subst (P k) (seat k d lt) (h k (within k lt))

    many : length after ≡ length plans
    many = long ∙ sym (plans_long n a.history.made gifts)

    -- no mark was asked for
    module _ (same : last ≡ now.parts) where
      back : (k : ℕ) → part_at last (suc k) ≡ part_at now.parts (suc k)
      back k = ap (λ (ps : List Part). part_at ps (suc k)) same

      none_ended : NoneEnded gate a plans after
      none_ended k d lt = of_parts (λ k p. p.ended ≡ false) (λ k lt. ap (λ (p : Part). p.ended) (back k) ∙ unended_at k lt) k d lt

      unmarked_made : SendersMade gate a plans after
      unmarked_made = record {
        long = many;
        each = λ k d lt. of_parts (λ k p. PartMade a (suc k) (plan_in plans (suc k) []) p) (λ k lt. subst (PartMade a (suc k) (plan_in plans (suc k) [])) (sym (back k)) (made_at k lt)) k d lt;
        ended = inl none_ended;
        lost = λ k d lt. of_parts (λ k p. (p.lost ≡ []) ⊎ PartLoses gate a plans after k p)
            (λ k lt. subst (λ (p : Part). (p.lost ≡ []) ⊎ PartLoses gate a plans after k p) (sym (back k))
            (⊎_elim (λ e. inl e) (λ l. inr (record { opened = l.1; unended = none_ended; what = inl l.0 })) (lost_at k lt))) k d lt;
      }

    -- the first pass was used for it
    module _ (ended : end ≡ ends.Ended) (m : FinishedBy now.parts last refused) where
      other : (k : ℕ) → part_at last (suc (suc k)) ≡ part_at now.parts (suc (suc k))
      other k = m.others (suc (suc k)) (λ e. absurd (omega (arith, e)))

      unlost : end ≢ ends.Journal
      unlost j = cc (sym ended ∙ j)

      each_part : (k : ℕ) → k < n → PartMade a (suc k) (plan_in plans (suc k) []) (part_at last (suc k))
      each_part zero lt = part_still a 1 (plan_in plans 1 []) (part_at now.parts 1) (part_at last 1) (made_at 0 lt) m.first.turn m.first.mine
      each_part (suc k) lt = subst (PartMade a (suc (suc k)) (plan_in plans (suc (suc k)) [])) (sym (other k)) (made_at (suc k) lt)

      each_whole : (k : ℕ) → k < n → IsAllMade (entries_of a.history.made (suc k)) (suc k) (plan_in plans (suc k) []) (part_at last (suc k)).mine
      each_whole zero lt = m.first.mine ∙ whole_at ended 0 lt
      each_whole (suc k) lt = ap (λ (p : Part). p.mine) (other k) ∙ whole_at ended (suc k) lt

      all_whole : EachMade gate a plans after
      all_whole k d lt = of_parts (λ k p. IsAllMade (entries_of a.history.made (suc k)) (suc k) (plan_in plans (suc k) []) p.mine) each_whole k d lt

      loses_mark : (lt : 0 < n) → LosesMark (part_at now.parts 1) (part_at last 1) refused → PartLoses gate a plans after 0 (part_at last 1)
      loses_mark lt l = record {
        opened = λ was. l.unmarked (sym (ap (λ (h : History). h.finished) ((each_part 0 lt).behind.alone was)) ∙ was);
        unended = λ k d lt. of_parts (λ k p. p.ended ≡ false) none_at k d lt;
        what = inr (l.lost, all_whole);
      }
        where
          none_at : (k : ℕ) → k < n → (part_at last (suc k)).ended ≡ false
          none_at zero lt = l.unended ∙ unended_at 0 lt
          none_at (suc k) lt = ap (λ (p : Part). p.ended) (other k) ∙ unended_at (suc k) lt

      each_lost : (k : ℕ) → k < n → ((part_at last (suc k)).lost ≡ []) ⊎ PartLoses gate a plans after k (part_at last (suc k))
      each_lost zero lt = ⊎_elim (λ same. inl (same ∙ unlost_at unlost 0 lt)) (λ l. inr (loses_mark lt l)) m.first.lost
      each_lost (suc k) lt = inl (ap (λ (p : Part). p.lost) (other k) ∙ unlost_at unlost (suc k) lt)

      marked_made : SendersMade gate a plans after
      marked_made = record {
        long = many;
        each = λ k d lt. of_parts (λ k p. PartMade a (suc k) (plan_in plans (suc k) []) p) each_part k d lt;
        ended = inr all_whole;
        lost = λ k d lt. of_parts (λ k p. (p.lost ≡ []) ⊎ PartLoses gate a plans after k p) each_lost k d lt;
      }

    pub senders_made : SendersMade gate a plans after
    senders_made = ⊎_elim (λ h. marked_made h.0 h.2) (λ h. unmarked_made h.0) marked
