-- Each kind of step on the lock's words keeps the rule.
use Rattle.std.proofs.Common.{◌≡◌, ◌⊎◌, ℕ, ◌+◌, ◌%◌, ◌^◌, ◌≤◌, Bool, true, false, not, ◌&&◌, ◌||◌, List, [], ◌∷◌, length, get_or, set, Option, Some, None, inl, inr, ⊎_elim, refl, sym, ap, ◌∙◌, subst, arith, le_refl}
use Rattle.std.proofs.lemmas.Option.{none-some, same_Some}
use mathlib.Core.Logic.{dite}
use mathlib.Core.Option.{none, some}
use native.Mathlib.Decide.{ℕ_discrete}
use lib.ListN.{get_elem?}
use Rattle.atomic_table.specs.Table.{State, step, keeps, takes, gives, put_back, rest, stepped, Allows}
use Rattle.atomic_table.proofs.Lists.{set_again, one_turn}
use Rattle.session_model.specs.Journal.{History, OutboxRecord, BeginsHistory, entries_of}
use Rattle.gate_turn.specs.Views.{Account, Part, View, marks_newly, part_of, drawn, got, counted, gave, looked_at}
use Rattle.gate_turn.specs.Rule.{In, Stands, Queued, StaysBroken, Fits, Grown, Author, Sound, Home, Out, Turns}
use Rattle.gate_turn.specs.Steps.{Found, Returns, Mine, Drew, Noted, LookedAt, Gets, Served, Published, GaveOn}
use Rattle.gate_turn.proofs.Puts.{put, put_here, seated_put, tickets_few, queued_same, queued_draws, queued_leaves, put_each}
use Rattle.gate_turn.proofs.Histories.{begins_self, Goes, goes, goes_nowhere}
use Rattle.gate_turn.proofs.Layers.{Shuts, shuts_same, refits, fits_others, fits_counted, AllOrNone, leaves_refused, author_put, grown_put, turn_put, holder_is, turn_begins, turn_goes_on, turn_ends}

counts_on : (n : ℕ) → (n % 2 ^ 64 + 1) % 2 ^ 64 ≡ (n + 1) % 2 ^ 64
counts_on n = omega arith

module _ {T : Type 0} (tells : T → Account) (opening : Account) where
  abbrev St : Type 0
  St = State (Option T) View

  abbrev Rule : St → Type 0
  Rule = Turns tells opening

  -- where a pass of one part sits
  pub mine : (s : St) (r : Rule s) (id : ℕ) (p : Part) → get_elem? s.views id ≡ some (p ∷ []) → Stands r.part r.seat r.place r.made id 0 p
  mine s r id p at = r.seated.here id 0 (p ∷ []) p at refl

  pub fits_mine : (s : St) (r : Rule s) (id : ℕ) (p : Part) → get_elem? s.views id ≡ some (p ∷ []) → Fits opening r.log r.top r.shut r.gone p.number p
  fits_mine s r id p at = let m = mine s r id p at in subst (Fits opening r.log r.top r.shut r.gone p.number) m.is (r.each p.number m.inside)

  abbrev after : St → List ℕ → List (mathlib.Core.Option.Option (Option T)) → ℕ → Part → St
  after s words homes id q = record { words = words; homes = homes; views = set s.views id (q ∷ []) }

  -- what a step of the pass with part p owes, which leaves it q
  record Move (s : St) (r : Rule s) (p q : Part) (words : List ℕ) (homes : List (mathlib.Core.Option.Option (Option T))) : Type 0 where
    log : History
    top : ℕ
    shut : Bool
    gone : List OutboxRecord
    next : ℕ
    now : ℕ
    words_are : words ≡ (next % 2 ^ 64) ∷ (now % 2 ^ 64) ∷ length log.made ∷ r.asleep ∷ []
    number : q.number ≡ p.number
    made_is : q.made ≡ p.made
    goes_on : Goes p.number r.log log
    higher : r.top ≤ top
    shuts : Shuts r.shut r.gone shut gone
    queued : Queued (put r.part p.number q) r.made next now
    fits : Fits opening log top shut gone p.number q
    grown : Grown (put r.part p.number q) opening r.made log
    author : Author (put r.part p.number q) r.made gone
    turn : Home tells (put r.part p.number q) opening r.made log top shut gone homes ⊎ Out tells (put r.part p.number q) r.made log top shut gone now homes

  moved : (s : St) (r : Rule s) (id : ℕ) (p q : Part) (words : List ℕ) (homes : List (mathlib.Core.Option.Option (Option T)))
      → get_elem? s.views id ≡ some (p ∷ []) → Move s r p q words homes → Rule (after s words homes id q)
  moved s r id p q words homes at m = let sits = mine s r id p at in record {
    part = put r.part p.number q;
    seat = r.seat;
    place = r.place;
    made = r.made;
    log = m.log;
    top = m.top;
    shut = m.shut;
    gone = m.gone;
    next = m.next;
    now = m.now;
    asleep = r.asleep;
    words = m.words_are;
    some_made = r.some_made;
    few = r.few;
    first = put_each r.part p.number q (λ k x. k ≡ 1 → x.made ≡ r.made)
        (λ e. m.made_is ∙ (ap (λ (x : Part). x.made) (sym sits.is) ∙ (ap (λ k. (r.part k).made) e ∙ r.first))) (λ k _ e. ap (λ j. (r.part j).made) e ∙ r.first) 1 refl;
    seated = seated_put r.part r.seat r.place r.made s.views id p q r.seated at m.number (λ k h. (r.each k h).number);
    queued = m.queued;
    each = λ k. put_each r.part p.number q (λ j x. In r.made j → Fits opening m.log m.top m.shut m.gone j x) (λ _. m.fits)
        (λ j ne h. fits_others opening r.log m.log r.top m.top r.shut m.shut r.gone m.gone j p.number (r.part j) m.goes_on m.higher m.shuts ne (r.each j h)) k;
    grown = m.grown;
    author = m.author;
    turn = m.turn;
  }

  -- nothing is added to the history by a pass whose mark stays as it was
  pub grown_same : (s : St) (r : Rule s) (id : ℕ) (p q : Part) → get_elem? s.views id ≡ some (p ∷ []) → q.ended ≡ p.ended → Grown (put r.part p.number q) opening r.made r.log
  grown_same s r id p q at same = let sits = mine s r id p at in
      grown_put r.part opening r.made p.number r.log r.log q r.grown sits.inside (goes_nowhere p.number r.log r.log refl) (λ k h. (r.each k h).ended)
      (same ∙ (ap (λ (x : Part). x.ended) (sym sits.is) ∙ never (r.part p.number).ended r.log.finished))
    where
      never : (a f : Bool) → a ≡ (a || (f && not f))
      never true f = refl
      never false true = refl
      never false false = refl

  -- what was refused is whose it was, where the pass keeps what it lost
  pub author_same : (s : St) (r : Rule s) (id : ℕ) (p q : Part) → get_elem? s.views id ≡ some (p ∷ []) → q.lost ≡ p.lost → Author (put r.part p.number q) r.made r.gone
  author_same s r id p q at same = let sits = mine s r id p at in author_put r.part r.made p.number r.gone q (same ∙ ap (λ (x : Part). x.lost) (sym sits.is)) r.author

  pub same_ticket : (s : St) (r : Rule s) (id : ℕ) (p q : Part) → get_elem? s.views id ≡ some (p ∷ []) → q.ticket ≡ p.ticket → Queued (put r.part p.number q) r.made r.next r.now
  same_ticket s r id p q at same = let sits = mine s r id p at in queued_same r.part p.number q r.made r.next r.now (same ∙ ap (λ (x : Part). x.ticket) (sym sits.is)) r.queued

  pub draws : (slots id : ℕ) (me : Mine T) → me.0 ≡ part_of me.0 ∷ [] → (part_of me.0).ticket ≡ None → (part_of me.0).held ≡ None
      → Allows Rule slots id me 0 (λ n. (n + 1) % 2 ^ 64) (λ found w. Drew (step slots 0 1 0 none) me found w)
  draws slots id me one no_ticket no_turn s r _ there _ =
      let p : Part = part_of me.0 in
      let q : Part = drawn r.next p in
      let at : get_elem? s.views id ≡ some (p ∷ []) = there ∙ ap some one in
      let sits = mine s r id p at in
      let is : r.part p.number ≡ p = sits.is in
      let found : get_or s.words 0 0 ≡ r.next % 2 ^ 64 = ap (λ ws. get_or ws 0 0) r.words in
      let f = fits_mine s r id p at in (
        q ∷ [],
        keeps,
        tt,
        moved s r id p q (set s.words 0 ((get_or s.words 0 0 + 1) % 2 ^ 64)) s.homes at (record {
          log = r.log;
          top = r.top;
          shut = r.shut;
          gone = r.gone;
          next = r.next + 1;
          now = r.now;
          words_are = ap (λ ws. set ws 0 ((get_or ws 0 0 + 1) % 2 ^ 64)) r.words ∙ ap (λ k. k ∷ (r.now % 2 ^ 64) ∷ length r.log.made ∷ r.asleep ∷ []) (counts_on r.next);
          number = refl;
          made_is = refl;
          goes_on = goes_nowhere p.number r.log r.log refl;
          higher = le_refl r.top;
          shuts = shuts_same r.shut r.gone;
          queued = queued_draws r.part p.number q r.made r.next r.now sits.inside (ap (λ (x : Part). x.ticket) is ∙ no_ticket) refl r.queued;
          fits = refits opening r.log r.top r.shut r.gone p.number p q f refl refl refl refl refl refl refl refl (le_refl p.looked) f.looked (le_refl p.faults) f.faults;
          grown = grown_same s r id p q at refl;
          author = author_same s r id p q at refl;
          turn = turn_put tells r.part opening r.made r.log r.top r.shut r.gone r.now p.number s.homes q (ap (λ (x : Part). x.held) (sym is)) (ap (λ (x : Part). x.faults) (sym is))
              (ap (λ (x : Part). x.broken) (sym is)) (ap (λ (x : Part). x.refused) (sym is))
              (λ e. absurd (none-some r.log (sym no_turn ∙ (ap (λ (x : Part). x.held) (sym is) ∙ e)))) r.turn;
        }),
        (r.next, found, refl, refl),
      )

  -- the pass looks which ticket is served, and it is another
  waits_on : (slots id : ℕ) (me : Mine T) (s : St) → Rule s → get_elem? s.views id ≡ some me.0 → Rule (stepped s 1 (get_or s.words 1 0) id me.1 me.0 keeps)
  waits_on slots id me s r at = subst Rule (λ i. record {
    words = sym (ap (λ ws. set ws 1 (get_or ws 1 0)) r.words ∙ sym r.words) i;
    homes = s.homes;
    views = sym (set_again s.views id me.0 at) i;
  }) r

  -- a pass that has no turn, and whose ticket is served: the value is at home
  at_home : (s : St) (r : Rule s) (n : ℕ) → In r.made n → (r.part n).held ≡ None → (r.part n).ticket ≡ Some r.now → Home tells r.part opening r.made r.log r.top r.shut r.gone s.homes
  at_home s r n i held ticket = ⊎_elim (λ h. h)
      (λ (o : Out tells r.part r.made r.log r.top r.shut r.gone r.now s.homes).
      let e : n ≡ o.holder = r.queued.apart n o.holder r.now i o.inside ticket o.ticket in
      absurd (none-some r.log (sym held ∙ (ap (λ k. (r.part k).held) e ∙ o.held)))) r.turn

  -- its ticket is the one that is served, where both have one remainder
  served_is : (s : St) (r : Rule s) (n t : ℕ) → In r.made n → (r.part n).ticket ≡ Some t → r.now % 2 ^ 64 ≡ t % 2 ^ 64 → r.now ≡ t
  served_is s r n t i ticket same = let w = r.queued.waits n t i ticket in
      one_turn r.now t (2 ^ 64) w.0 (omega (arith, r.queued.count, tickets_few r.part r.made, r.few, w.1)) same

  -- what a part that fits finds in the value at home
  pub found_in : (s : St) (r : Rule s) (n : ℕ) (p : Part) → Fits opening r.log r.top r.shut r.gone n p → (h : Home tells r.part opening r.made r.log r.top r.shut r.gone s.homes) → Found p (tells h.value)
  found_in s r n p f h =
      let log : r.log ≡ (tells h.value).history = sym h.history in
      record {
        seen = subst (BeginsHistory p.seen) log f.seen;
        looked = subst (λ (l : History). p.looked ≤ length l.made) log f.looked;
        mine = subst (λ (l : History). p.mine ≡ entries_of l.made p.number) log (f.mine ∙ ap (entries_of r.log.made) (sym f.number));
        ended = λ e. ap (λ (l : History). l.finished) (sym log) ∙ f.ended e;
        faults = subst (λ k. p.faults ≤ k) (sym h.faults) f.faults;
        begins = subst (λ (o : Account). BeginsHistory o.history (tells h.value).history) (sym f.opened) (subst (BeginsHistory opening.history) log r.grown.begins);
        shut_on = λ e. let x = f.shut_on e in (h.broken ∙ x.0, h.refused ∙ x.1);
        lost = ⊎_elim (λ a. inl a) (λ b. inr (b ∙ sym h.refused)) f.lost;
        sound = subst (λ o. Sound o (tells h.value)) (sym f.opened) h.sound;
      }

  -- the ticket of the pass is served: it has the turn
  gets : (slots id : ℕ) (me : Mine T) (t : ℕ) (s : St) (r : Rule s) → me.0 ≡ part_of me.0 ∷ [] → me.1 ≡ [] → (part_of me.0).ticket ≡ Some t → (part_of me.0).held ≡ None
      → get_elem? s.views id ≡ some me.0 → get_or s.words 1 0 ≡ t % 2 ^ 64
      → (h : Home tells r.part opening r.made r.log r.top r.shut r.gone s.homes)
      × Rule (stepped s 1 (get_or s.words 1 0) id me.1 (got (tells h.value) (part_of me.0) ∷ []) (takes 0 (Some h.value)))
      × Gets tells me (got (tells h.value) (part_of me.0) ∷ [], (0, Some h.value) ∷ me.1)
  gets slots id me t s r one no_slot ticket no_turn there served =
      let p : Part = part_of me.0 in
      let at : get_elem? s.views id ≡ some (p ∷ []) = there ∙ ap some one in
      let sits = mine s r id p at in
      let is : r.part p.number ≡ p = sits.is in
      let at_ticket : (r.part p.number).ticket ≡ Some t = ap (λ (x : Part). x.ticket) is ∙ ticket in
      let now : r.now ≡ t = served_is s r p.number t sits.inside at_ticket (sym (ap (λ ws. get_or ws 1 0) r.words) ∙ served) in
      let mine_is : p.ticket ≡ Some r.now = ticket ∙ ap Some (sym now) in
      let h = at_home s r p.number sits.inside (ap (λ (x : Part). x.held) is ∙ no_turn) (at_ticket ∙ ap Some (sym now)) in
      let a : Account = tells h.value in
      let q : Part = got a p in
      let f = fits_mine s r id p at in (
        h,
        moved s r id p q (set s.words 1 (get_or s.words 1 0)) (set s.homes 0 none) at (record {
          log = r.log;
          top = r.top;
          shut = r.shut;
          gone = r.gone;
          next = r.next;
          now = r.now;
          words_are = ap (λ ws. set ws 1 (get_or ws 1 0)) r.words;
          number = refl;
          made_is = refl;
          goes_on = goes_nowhere p.number r.log r.log refl;
          higher = le_refl r.top;
          shuts = shuts_same r.shut r.gone;
          queued = same_ticket s r id p q at refl;
          fits = record {
            number = refl;
            opened = f.opened;
            seen = subst (λ l. BeginsHistory l r.log) (sym h.history) (begins_self r.log);
            looked_from = le_refl (length a.history.made);
            looked = let e : length a.history.made ≡ length r.log.made = ap (λ (l : History). length l.made) h.history in omega arith;
            mine = f.mine;
            ended = f.ended;
            faults_from = h.sound.faults;
            faults = let e = h.faults in omega arith;
            shut_on = λ e. (sym h.broken ∙ e, sym h.refused);
            lost = f.lost;
          };
          grown = grown_same s r id p q at refl;
          author = author_same s r id p q at refl;
          turn = inr (turn_begins tells r.part opening r.made r.log r.top r.shut r.gone r.now p.number s.homes (set s.homes 0 none) q sits.inside
              (ap Some h.history) mine_is h.faults h.broken h.refused (ap (λ hs. set hs 0 none) h.home) h);
        }),
        record { value = h.value; found = found_in s r p.number p f h; view = refl; slot = ap (λ c. (0, Some h.value) ∷ c) no_slot },
      )

  pub serves : (slots id : ℕ) (me : Mine T) (t : ℕ) → me.0 ≡ part_of me.0 ∷ [] → me.1 ≡ [] → (part_of me.0).ticket ≡ Some t → (part_of me.0).held ≡ None
      → Allows Rule slots id me 1 (λ n. n) (λ found w. Served tells (step slots 1 0 0 none) me found w)
  serves slots id me t one no_slot ticket no_turn s r _ there _ = dite (ℕ_discrete (get_or s.words 1 0) (t % 2 ^ 64))
      (λ yes. let g = gets slots id me t s r one no_slot ticket no_turn there yes in (
        got (tells g.0.value) (part_of me.0) ∷ [],
        takes 0 (Some g.0.value),
        ap (λ hs. get_elem? hs 0) g.0.home,
        g.1,
        λ u e. ((λ ne. absurd (ne (yes ∙ ap (λ k. k % 2 ^ 64) (same_Some t u (sym ticket ∙ e))))), (λ _. g.2)),
      ))
      (λ no. (
        me.0,
        keeps,
        tt,
        waits_on slots id me s r there,
        λ u e. ((λ _. refl), (λ eq. absurd (no (eq ∙ ap (λ k. k % 2 ^ 64) (same_Some u t (sym e ∙ ticket)))))),
      ))

  one_slot : (a b : T) → Path (List (ℕ × Option T)) ((0, Some a) ∷ []) ((0, Some b) ∷ []) → a ≡ b
  one_slot a b e = same_Some a b (ap (λ (c : List (ℕ × Option T)). first_slot c) e)
    where
      first_slot : List (ℕ × Option T) → Option T
      first_slot [] = Some a
      first_slot (x ∷ xs) = x.1

  -- who has the turn holds the history that it had in hand last
  abbrev Holding : (s : St) → Rule s → Part → Type 0
  Holding s r p = (o : Out tells r.part r.made r.log r.top r.shut r.gone r.now s.homes) × (p.number ≡ o.holder)

  holding : (s : St) (r : Rule s) (id : ℕ) (p : Part) (h : History) → get_elem? s.views id ≡ some (p ∷ []) → p.held ≡ Some h → Holding s r p × (r.log ≡ h)
  holding s r id p h at held =
      let sits = mine s r id p at in
      let held' : (r.part p.number).held ≡ Some h = ap (λ (x : Part). x.held) sits.is ∙ held in
      let o = holder_is tells r.part opening r.made r.log h r.top r.shut r.gone r.now p.number s.homes sits.inside held' r.turn in
      (o, same_Some r.log h (sym o.0.held ∙ (ap (λ k. (r.part k).held) (sym o.1) ∙ held')))

  pub publishes : (slots id : ℕ) (me : Mine T) (value : T) (stored : ℕ) → me.0 ≡ part_of me.0 ∷ [] → me.1 ≡ (0, Some value) ∷ [] → (part_of me.0).held ≡ Some (part_of me.0).seen
      → Returns (part_of me.0) (tells value) → stored ≡ length (tells value).history.made
      → Allows Rule slots id me 2 (λ _. stored) (λ _ w. Published tells (step slots 2 stored 0 none) me stored w)
  publishes slots id me value stored one slot held back count s r _ there _ =
      let p : Part = part_of me.0 in
      let now : History = (tells value).history in
      let at : get_elem? s.views id ≡ some (p ∷ []) = there ∙ ap some one in
      let sits = mine s r id p at in
      let is : r.part p.number ≡ p = sits.is in
      let o = holding s r id p p.seen at held in
      let g : Goes p.number p.seen now = goes p.number p.seen now back.adds in
      let on : Goes p.number r.log now = subst (λ l. Goes p.number l now) (sym o.1) g in
      let q : Part = counted now p in
      let f = fits_mine s r id p at in (
        q ∷ [],
        keeps,
        tt,
        moved s r id p q (set s.words 2 stored) s.homes at (record {
          log = now;
          top = r.top;
          shut = r.shut;
          gone = r.gone;
          next = r.next;
          now = r.now;
          words_are = ap (λ ws. set ws 2 stored) r.words ∙ ap (λ k. (r.next % 2 ^ 64) ∷ (r.now % 2 ^ 64) ∷ k ∷ r.asleep ∷ []) count;
          number = refl;
          made_is = refl;
          goes_on = on;
          higher = le_refl r.top;
          shuts = shuts_same r.shut r.gone;
          queued = same_ticket s r id p q at refl;
          fits = fits_counted opening now r.top r.shut r.gone p.number p g (subst (λ l. Fits opening l r.top r.shut r.gone p.number p) o.1 f);
          grown = grown_put r.part opening r.made p.number r.log now q r.grown sits.inside on (λ k h. (r.each k h).ended)
              (ap (λ l. p.ended || marks_newly l now) (sym o.1) ∙ ap (λ (x : Part). x.ended || marks_newly r.log now) (sym is));
          author = author_same s r id p q at refl;
          turn = inr (turn_goes_on tells r.part r.made r.log now r.top r.shut r.gone r.now p.number s.homes q o.0.0 o.0.1 refl (ap (λ (x : Part). x.ticket) (sym is))
              (ap (λ (x : Part). x.faults) (sym is)) (ap (λ (x : Part). x.broken) (sym is)) (ap (λ (x : Part). x.refused) (sym is)));
        }),
        λ other e. (ap (λ x. counted (tells x).history p ∷ []) (one_slot value other (sym slot ∙ e)), refl),
      )

  pub gives_on : (slots id : ℕ) (me : Mine T) (value : T) → me.0 ≡ part_of me.0 ∷ [] → me.1 ≡ (0, Some value) ∷ [] → (part_of me.0).held ≡ Some (tells value).history
      → (part_of me.0).faults ≤ (tells value).faults → AllOrNone (part_of me.0).refused (tells value).refused
      → StaysBroken (part_of me.0).broken (part_of me.0).refused (tells value).broken (tells value).refused → Sound (part_of me.0).opening (tells value)
      → Allows Rule slots id me 1 (λ n. (n + 1) % 2 ^ 64) (λ found w. GaveOn tells (step slots 1 1 0 none) me found w)
  gives_on slots id me value one slot held faults refuses stays sound s r _ there _ =
      let p : Part = part_of me.0 in
      let a : Account = tells value in
      let at : get_elem? s.views id ≡ some (p ∷ []) = there ∙ ap some one in
      let sits = mine s r id p at in
      let is : r.part p.number ≡ p = sits.is in
      let o = holding s r id p a.history at held in
      let q : Part = gave a p in
      let f = fits_mine s r id p at in
      let top : p.faults ≡ r.top = ap (λ (x : Part). x.faults) (sym is) ∙ (ap (λ k. (r.part k).faults) o.0.1 ∙ o.0.0.faults) in
      let shut : p.broken ≡ r.shut = ap (λ (x : Part). x.broken) (sym is) ∙ (ap (λ k. (r.part k).broken) o.0.1 ∙ o.0.0.broken) in
      let gone : p.refused ≡ r.gone = ap (λ (x : Part). x.refused) (sym is) ∙ (ap (λ k. (r.part k).refused) o.0.1 ∙ o.0.0.refused) in
      let left = leaves_refused p.lost p.refused a.refused (⊎_elim (λ e. inl e) (λ e. inr (e ∙ sym gone)) f.lost) refuses in
      let served : (r.part p.number).ticket ≡ Some r.now = ap (λ k. (r.part k).ticket) o.0.1 ∙ o.0.0.ticket in (
        q ∷ [],
        gives,
        tt,
        moved s r id p q (set s.words 1 ((get_or s.words 1 0 + 1) % 2 ^ 64)) (put_back s.homes me.1) at (record {
          log = r.log;
          top = a.faults;
          shut = a.broken;
          gone = a.refused;
          next = r.next;
          now = r.now + 1;
          words_are = ap (λ ws. set ws 1 ((get_or ws 1 0 + 1) % 2 ^ 64)) r.words ∙ ap (λ k. (r.next % 2 ^ 64) ∷ k ∷ length r.log.made ∷ r.asleep ∷ []) (counts_on r.now);
          number = refl;
          made_is = refl;
          goes_on = goes_nowhere p.number r.log r.log refl;
          higher = omega arith;
          shuts = record { stays = λ e. let x = stays (shut ∙ e) in (x.0, x.1 ∙ gone); kept = ⊎_elim (λ e. inl (e ∙ gone)) (λ e. inr (sym gone ∙ e)) refuses };
          queued = queued_leaves r.part p.number q r.made r.next r.now sits.inside served refl r.queued;
          fits = record {
            number = f.number;
            opened = f.opened;
            seen = f.seen;
            looked_from = f.looked_from;
            looked = f.looked;
            mine = f.mine;
            ended = f.ended;
            faults_from = omega (arith, f.faults_from);
            faults = le_refl a.faults;
            shut_on = λ e. (e, refl);
            lost = ⊎_elim (λ x. ⊎_elim (λ e. inl (x.1 ∙ e)) (λ e. inr (x.1 ∙ (e ∙ sym (x.0 ∙ gone)))) f.lost) (λ x. inr x.1) left;
          };
          grown = grown_same s r id p q at refl;
          author = ⊎_elim (λ x. subst (Author (put r.part p.number q) r.made) (sym (x.0 ∙ gone)) (author_same s r id p q at x.1))
              (λ x. inr (p.number, sits.inside, ap (λ (y : Part). y.lost) (put_here r.part p.number q p.number refl) ∙ x.1)) left;
          turn = inl (turn_ends tells r.part opening r.made r.log r.top r.shut r.gone r.now p.number s.homes (put_back s.homes me.1) q value o.0.0 o.0.1 refl
              (ap (put_back s.homes) slot ∙ ap (λ hs. set hs 0 (some (Some value))) o.0.0.home) (sym o.1) (subst (λ x. Sound x a) f.opened sound));
        }),
        λ other e. (ap (λ x. gave (tells x) p ∷ []) (one_slot value other (sym slot ∙ e)), ap (λ c. rest c) slot),
      )

  -- it is noted whether somebody may sleep, by any pass
  pub notes : (slots id stored : ℕ) (me : Mine T) → Allows Rule slots id me 3 (λ _. stored) (λ _ w. Noted (step slots 3 stored 0 none) me stored w)
  notes slots id stored me s r _ there _ = (
    me.0,
    keeps,
    tt,
    subst Rule (λ i. record { words = set s.words 3 stored; homes = s.homes; views = sym (set_again s.views id me.0 there) i }) noted,
    refl,
  )
    where
      noted : Rule (record { words = set s.words 3 stored; homes = s.homes; views = s.views })
      noted = record {
        part = r.part;
        seat = r.seat;
        place = r.place;
        made = r.made;
        log = r.log;
        top = r.top;
        shut = r.shut;
        gone = r.gone;
        next = r.next;
        now = r.now;
        asleep = stored;
        words = ap (λ ws. set ws 3 stored) r.words;
        some_made = r.some_made;
        few = r.few;
        first = r.first;
        seated = r.seated;
        queued = r.queued;
        each = r.each;
        grown = r.grown;
        author = r.author;
        turn = r.turn;
      }

  -- the number of entries is read by a pass that waits, has the turn, or does neither
  pub looks : (slots id : ℕ) (me : Mine T) → me.0 ≡ part_of me.0 ∷ [] → Allows Rule slots id me 2 (λ n. n) (λ found w. LookedAt (step slots 2 0 0 none) me found w)
  looks slots id me one s r _ there _ =
      let p : Part = part_of me.0 in
      let found : ℕ = get_or s.words 2 0 in
      let count : found ≡ length r.log.made = ap (λ ws. get_or ws 2 0) r.words in
      let q : Part = looked_at found p in
      let at : get_elem? s.views id ≡ some (p ∷ []) = there ∙ ap some one in
      let sits = mine s r id p at in
      let is : r.part p.number ≡ p = sits.is in
      let f = fits_mine s r id p at in
      let more : p.looked ≤ found = omega (arith, f.looked) in (
        q ∷ [],
        keeps,
        tt,
        moved s r id p q (set s.words 2 found) s.homes at (record {
          log = r.log;
          top = r.top;
          shut = r.shut;
          gone = r.gone;
          next = r.next;
          now = r.now;
          words_are = ap (λ ws. set ws 2 (get_or ws 2 0)) r.words;
          number = refl;
          made_is = refl;
          goes_on = goes_nowhere p.number r.log r.log refl;
          higher = le_refl r.top;
          shuts = shuts_same r.shut r.gone;
          queued = same_ticket s r id p q at refl;
          fits = refits opening r.log r.top r.shut r.gone p.number p q f refl refl refl refl refl refl refl refl more (omega arith) (le_refl p.faults) f.faults;
          grown = grown_same s r id p q at refl;
          author = author_same s r id p q at refl;
          turn = turn_put tells r.part opening r.made r.log r.top r.shut r.gone r.now p.number s.homes q (ap (λ (x : Part). x.held) (sym is)) (ap (λ (x : Part). x.faults) (sym is))
              (ap (λ (x : Part). x.broken) (sym is)) (ap (λ (x : Part). x.refused) (sym is))
              (λ _. ap (λ (x : Part). x.ticket) (sym is)) r.turn;
        }),
        (more, refl, refl),
      )
