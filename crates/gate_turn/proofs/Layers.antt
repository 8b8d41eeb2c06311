-- What stays true of the parts, the history and the turn where one pass's part changes.
use Rattle.std.proofs.Common.{◌≡◌, ◌≢◌, ◌⊎◌, ℕ, ◌≤◌, Bool, true, ◌||◌, List, [], ◌∷◌, ◌++◌, length, drop, Option, Some, None, inl, inr, ⊎_elim, refl, sym, ap, ◌∙◌, subst, arith, le_refl, append_assoc, append-nil}
use Rattle.std.proofs.lemmas.Option.{none-some}
use mathlib.Core.Logic.{dite}
use mathlib.Core.Option.{none, some}
use native.Mathlib.Decide.{ℕ_discrete}
use Rattle.session_model.specs.Journal.{Entry, History, OutboxRecord, BeginsHistory}
use Rattle.session_model.proofs.Lists.{drop_length, all_append}
use Rattle.gate_turn.specs.Views.{Account, Part, marks_newly, counted}
use Rattle.gate_turn.specs.Rule.{In, StaysBroken, Fits, Grown, Author, Sound, Home, Out}
use Rattle.gate_turn.specs.Steps.{Refuses, as_it_was, its_own}
use Rattle.gate_turn.proofs.Puts.{put, put_here, put_else, put_each}
use Rattle.gate_turn.proofs.Histories.{begins_on, begins_length, or_cases, or_left, or_right, newly_marked, marked_or_newly, Goes, goes_others, goes_own, all_in}

-- whether the value is broken, and what was refused, before a step and behind it
pub record Shuts (was : Bool) (before : List OutboxRecord) (now : Bool) (after : List OutboxRecord) : Type 0 where
  pub stays : StaysBroken was before now after
  pub kept : (after ≡ before) ⊎ (before ≡ [])

pub shuts_same : (shut : Bool) (gone : List OutboxRecord) → Shuts shut gone shut gone
shuts_same shut gone = record { stays = λ e. (e, refl); kept = inl refl }

-- a pass's part fits again where ticket, history held, looks and turns change, and a count of faults that is not above the top
pub refits : (opening : Account) (log : History) (top : ℕ) (shut : Bool) (gone : List OutboxRecord) (n : ℕ) (p q : Part) → Fits opening log top shut gone n p
    → q.number ≡ p.number → q.opening ≡ p.opening → q.seen ≡ p.seen → q.mine ≡ p.mine → q.ended ≡ p.ended → q.broken ≡ p.broken → q.refused ≡ p.refused → q.lost ≡ p.lost
    → p.looked ≤ q.looked → q.looked ≤ length log.made → p.faults ≤ q.faults → q.faults ≤ top → Fits opening log top shut gone n q
refits opening log top shut gone n p q f number opened seen mine ended broken refused lost looks looked faults_from faults = record {
  number = number ∙ f.number;
  opened = opened ∙ f.opened;
  seen = subst (λ h. BeginsHistory h log) (sym seen) f.seen;
  looked_from = let e : length q.seen.made ≡ length p.seen.made = ap (λ (h : History). length h.made) seen in omega (arith, f.looked_from);
  looked = looked;
  mine = mine ∙ f.mine;
  ended = λ e. f.ended (sym ended ∙ e);
  faults_from = omega (arith, f.faults_from);
  faults = faults;
  shut_on = λ e. let x = f.shut_on (sym broken ∙ e) in (x.0, x.1 ∙ sym refused);
  lost = subst (λ l. (l ≡ []) ⊎ (l ≡ gone)) (sym lost) f.lost;
}

-- another pass's part, where one of number n added to the history
pub fits_others : (opening : Account) (log now : History) (top top' : ℕ) (shut shut' : Bool) (gone gone' : List OutboxRecord) (m n : ℕ) (p : Part)
    → Goes n log now → top ≤ top' → Shuts shut gone shut' gone' → m ≢ n → Fits opening log top shut gone m p → Fits opening now top' shut' gone' m p
fits_others opening log now top top' shut shut' gone gone' m n p g more shuts ne f = record {
  number = f.number;
  opened = f.opened;
  seen = begins_on p.seen log now f.seen g.begins;
  looked_from = f.looked_from;
  looked = omega (arith, f.looked, begins_length log now g.begins);
  mine = f.mine ∙ sym (goes_others m n log now g ne);
  ended = λ e. g.stays (f.ended e);
  faults_from = f.faults_from;
  faults = omega (arith, f.faults);
  shut_on = λ e. let x = f.shut_on e in let y = shuts.stays x.0 in (y.0, y.1 ∙ x.1);
  lost = ⊎_elim (λ a. inl a) (λ b. ⊎_elim (λ c. inr (b ∙ sym c)) (λ c. inl (b ∙ c)) shuts.kept) f.lost;
}

-- the part of the pass that added, where it had seen the whole history
pub fits_counted : (opening : Account) (now : History) (top : ℕ) (shut : Bool) (gone : List OutboxRecord) (n : ℕ) (p : Part)
    → Goes n p.seen now → Fits opening p.seen top shut gone n p → Fits opening now top shut gone n (counted now p)
fits_counted opening now top shut gone n p g f = record {
  number = f.number;
  opened = f.opened;
  seen = record { made = ([], append-nil now.made); alone = λ _. refl };
  looked_from = le_refl (length now.made);
  looked = le_refl (length now.made);
  mine = ap (λ es. es ++ drop (length p.seen.made) now.made) f.mine ∙ sym (goes_own n p.seen now g);
  ended = λ e. ⊎_elim (λ a. g.stays (f.ended a)) (λ b. (newly_marked p.seen now b).0) (or_cases p.ended (marks_newly p.seen now) e);
  faults_from = f.faults_from;
  faults = f.faults;
  shut_on = f.shut_on;
  lost = f.lost;
}

-- what was refused before is all that is refused, or it was nothing
abbrev pub AllOrNone : (was now : List OutboxRecord) → Type 0
AllOrNone was now = (now ≡ was) ⊎ (was ≡ [])

pub refuses_all : (p : Part) (a : Account) → Refuses p a → AllOrNone p.refused a.refused
refuses_all p a (as_it_was same) = inl same
refuses_all p a (its_own clean broken same own) = inr clean

-- what a pass has lost once it gave the value back: as before, where nothing was refused meanwhile
pub nothing_lost : {A : Type 0} (lost was now : List A) → now ≡ was → lost ++ drop (length was) now ≡ lost
nothing_lost lost was now same =
    let none : drop (length was) now ≡ [] = ap (drop (length was)) (same ∙ sym (append-nil was)) ∙ drop_length was [] in
    ap (λ l. lost ++ l) none ∙ append-nil lost

-- all that is refused, where nothing was refused before, and it had lost nothing or all of that
pub all_lost : (lost was now : List OutboxRecord) → (lost ≡ []) ⊎ (lost ≡ was) → was ≡ [] → lost ++ drop (length was) now ≡ now
all_lost lost was now own empty =
    let none : lost ≡ [] = ⊎_elim (λ e. e) (λ e. e ∙ empty) own in
    ap (λ l. l ++ drop (length was) now) none ∙ ap (λ (w : List OutboxRecord). drop (length w) now) empty

-- one of the two
pub leaves_refused : (lost was now : List OutboxRecord) → (lost ≡ []) ⊎ (lost ≡ was) → AllOrNone was now
    → ((now ≡ was) × (lost ++ drop (length was) now ≡ lost)) ⊎ ((was ≡ []) × (lost ++ drop (length was) now ≡ now))
leaves_refused lost was now own (inl same) = inl (same, nothing_lost lost was now same)
leaves_refused lost was now own (inr empty) = inr (empty, all_lost lost was now own empty)

-- whose it is that was refused, where one pass keeps what it lost
pub author_put : (part : ℕ → Part) (made n : ℕ) (gone : List OutboxRecord) (q : Part) → q.lost ≡ (part n).lost → Author part made gone → Author (put part n q) made gone
author_put part made n gone q same = ⊎_elim (λ e. inl e)
    (λ (a : (m : ℕ) × In made m × ((part m).lost ≡ gone)). inr (a.0, a.1, put_each part n q (λ m x. (part m).lost ≡ gone → x.lost ≡ gone) (λ e. same ∙ e) (λ _ _ e. e) a.0 a.2))

pub grown_put : (part : ℕ → Part) (opening : Account) (made n : ℕ) (log now : History) (q : Part)
    → Grown part opening made log → In made n → Goes n log now → ((m : ℕ) → In made m → (part m).ended ≡ true → log.finished ≡ true)
    → q.ended ≡ ((part n).ended || marks_newly log now) → Grown (put part n q) opening made now
grown_put part opening made n log now q r inside g ended is = record {
  begins = begins_on opening.history log now r.begins g.begins;
  more = r.more ++ g.added;
  behind = g.behind ∙ (ap (λ es. es ++ g.added) r.behind ∙ append_assoc opening.history.made r.more g.added);
  authors = all_append (λ (e : Entry). In made e.sender) r.more g.added r.authors (all_in made n inside g.added g.own);
  marked = λ e. ⊎_elim
      (λ a. ⊎_elim (λ b. inl b) (λ b. inr (b.0, b.1, still b.0 b.2)) (r.marked a))
      (λ b. inr (n, inside, ap (λ (x : Part). x.ended) (put_here part n q n refl) ∙ (is ∙ or_right (part n).ended (marks_newly log now) b)))
      (marked_or_newly log now e);
  once = λ m k h i. put_each part n q (λ j x. In made j → x.ended ≡ true → (put part n q k).ended ≡ true → j ≡ k)
      (λ _ e. put_each part n q (λ l x. In made l → x.ended ≡ true → n ≡ l) (λ _ _. refl) (λ l ne hl f. clash l hl f e ne) k i)
      (λ j ne hj e. put_each part n q (λ l x. In made l → x.ended ≡ true → j ≡ l) (λ _ f. sym (clash j hj e f ne)) (λ l _ hl f. r.once j l hj hl e f) k i) m h;
}
  where
    still : (m : ℕ) → (part m).ended ≡ true → (put part n q m).ended ≡ true
    still = put_each part n q (λ m x. (part m).ended ≡ true → x.ended ≡ true) (λ e. is ∙ or_left (part n).ended (marks_newly log now) e) (λ m _ e. e)

    -- n and another both added the mark
    clash : (l : ℕ) → In made l → (part l).ended ≡ true → q.ended ≡ true → l ≢ n → n ≡ l
    clash l hl f e ne = ⊎_elim (λ a. r.once n l inside hl a f) (λ b. absurd ((newly_marked log now b).1 (ended l hl f))) (or_cases (part n).ended (marks_newly log now) (sym is ∙ e))

module _ {T : Type 0} (tells : T → Account) where
  abbrev Homes : Type 0
  Homes = List (mathlib.Core.Option.Option (Option T))

  -- the turn, where the part keeps what it holds, its count of faults and, if it has the turn, its ticket
  pub turn_put : (part : ℕ → Part) (opening : Account) (made : ℕ) (log : History) (top : ℕ) (shut : Bool) (gone : List OutboxRecord) (now n : ℕ) (homes : Homes) (q : Part)
      → q.held ≡ (part n).held → q.faults ≡ (part n).faults → q.broken ≡ (part n).broken → q.refused ≡ (part n).refused → ((part n).held ≡ Some log → q.ticket ≡ (part n).ticket)
      → Home tells part opening made log top shut gone homes ⊎ Out tells part made log top shut gone now homes
      → Home tells (put part n q) opening made log top shut gone homes ⊎ Out tells (put part n q) made log top shut gone now homes
  turn_put part opening made log top shut gone now n homes q held faults broken refused ticket (inl h) = inl (record {
    value = h.value;
    home = h.home;
    history = h.history;
    faults = h.faults;
    broken = h.broken;
    refused = h.refused;
    sound = h.sound;
    free = λ m. put_each part n q (λ k x. In made k → x.held ≡ None) (λ i. held ∙ h.free n i) (λ k _ i. h.free k i) m;
  })
  turn_put part opening made log top shut gone now n homes q held faults broken refused ticket (inr o) = inr (record {
    holder = o.holder;
    inside = o.inside;
    held = put_each part n q (λ k x. k ≡ o.holder → x.held ≡ Some log) (λ e. held ∙ (ap (λ k. (part k).held) e ∙ o.held)) (λ k _ e. ap (λ j. (part j).held) e ∙ o.held) o.holder refl;
    ticket = put_each part n q (λ k x. k ≡ o.holder → x.ticket ≡ Some now)
        (λ e. ticket (ap (λ k. (part k).held) e ∙ o.held) ∙ (ap (λ k. (part k).ticket) e ∙ o.ticket)) (λ k _ e. ap (λ j. (part j).ticket) e ∙ o.ticket) o.holder refl;
    faults = put_each part n q (λ k x. k ≡ o.holder → x.faults ≡ top) (λ e. faults ∙ (ap (λ k. (part k).faults) e ∙ o.faults)) (λ k _ e. ap (λ j. (part j).faults) e ∙ o.faults) o.holder refl;
    broken = put_each part n q (λ k x. k ≡ o.holder → x.broken ≡ shut) (λ e. broken ∙ (ap (λ k. (part k).broken) e ∙ o.broken)) (λ k _ e. ap (λ j. (part j).broken) e ∙ o.broken) o.holder refl;
    refused = put_each part n q (λ k x. k ≡ o.holder → x.refused ≡ gone) (λ e. refused ∙ (ap (λ k. (part k).refused) e ∙ o.refused)) (λ k _ e. ap (λ j. (part j).refused) e ∙ o.refused) o.holder refl;
    home = o.home;
    alone = λ m. put_each part n q (λ k x. In made k → k ≢ o.holder → x.held ≡ None) (λ i ne. held ∙ o.alone n i ne) (λ k _ i ne. o.alone k i ne) m;
  })

  -- who holds a history is the holder
  pub holder_is : (part : ℕ → Part) (opening : Account) (made : ℕ) (log h : History) (top : ℕ) (shut : Bool) (gone : List OutboxRecord) (now n : ℕ) (homes : Homes)
      → In made n → (part n).held ≡ Some h → Home tells part opening made log top shut gone homes ⊎ Out tells part made log top shut gone now homes
      → (o : Out tells part made log top shut gone now homes) × (n ≡ o.holder)
  holder_is part opening made log h top shut gone now n homes i held (inl a) = absurd (none-some h (sym (a.free n i) ∙ held))
  holder_is part opening made log h top shut gone now n homes i held (inr o) = dite (ℕ_discrete n o.holder) (λ e. (o, e)) (λ ne. absurd (none-some h (sym (o.alone n i ne) ∙ held)))

  -- the turn of n begins
  pub turn_begins : (part : ℕ → Part) (opening : Account) (made : ℕ) (log : History) (top : ℕ) (shut : Bool) (gone : List OutboxRecord) (now n : ℕ) (homes homes' : Homes) (q : Part)
      → In made n → q.held ≡ Some log → q.ticket ≡ Some now → q.faults ≡ top → q.broken ≡ shut → q.refused ≡ gone → homes' ≡ none ∷ []
      → Home tells part opening made log top shut gone homes → Out tells (put part n q) made log top shut gone now homes'
  turn_begins part opening made log top shut gone now n homes homes' q i held ticket faults broken refused out h = record {
    holder = n;
    inside = i;
    held = ap (λ (x : Part). x.held) (put_here part n q n refl) ∙ held;
    ticket = ap (λ (x : Part). x.ticket) (put_here part n q n refl) ∙ ticket;
    faults = ap (λ (x : Part). x.faults) (put_here part n q n refl) ∙ faults;
    broken = ap (λ (x : Part). x.broken) (put_here part n q n refl) ∙ broken;
    refused = ap (λ (x : Part). x.refused) (put_here part n q n refl) ∙ refused;
    home = out;
    alone = λ m k ne. ap (λ (x : Part). x.held) (put_else part n q m ne) ∙ h.free m k;
  }

  -- it goes on with another history
  pub turn_goes_on : (part : ℕ → Part) (made : ℕ) (log log' : History) (top : ℕ) (shut : Bool) (gone : List OutboxRecord) (now n : ℕ) (homes : Homes) (q : Part)
      (o : Out tells part made log top shut gone now homes) → n ≡ o.holder → q.held ≡ Some log' → q.ticket ≡ (part n).ticket → q.faults ≡ (part n).faults
      → q.broken ≡ (part n).broken → q.refused ≡ (part n).refused → Out tells (put part n q) made log' top shut gone now homes
  turn_goes_on part made log log' top shut gone now n homes q o is held ticket faults broken refused = record {
    holder = n;
    inside = subst (In made) (sym is) o.inside;
    held = ap (λ (x : Part). x.held) (put_here part n q n refl) ∙ held;
    ticket = ap (λ (x : Part). x.ticket) (put_here part n q n refl) ∙ (ticket ∙ (ap (λ k. (part k).ticket) is ∙ o.ticket));
    faults = ap (λ (x : Part). x.faults) (put_here part n q n refl) ∙ (faults ∙ (ap (λ k. (part k).faults) is ∙ o.faults));
    broken = ap (λ (x : Part). x.broken) (put_here part n q n refl) ∙ (broken ∙ (ap (λ k. (part k).broken) is ∙ o.broken));
    refused = ap (λ (x : Part). x.refused) (put_here part n q n refl) ∙ (refused ∙ (ap (λ k. (part k).refused) is ∙ o.refused));
    home = o.home;
    alone = λ m k ne. ap (λ (x : Part). x.held) (put_else part n q m ne) ∙ o.alone m k (λ e. ne (e ∙ sym is));
  }

  -- it ends, and the value is at home
  pub turn_ends : (part : ℕ → Part) (opening : Account) (made : ℕ) (log : History) (top : ℕ) (shut : Bool) (gone : List OutboxRecord) (now n : ℕ) (homes homes' : Homes) (q : Part) (value : T)
      (o : Out tells part made log top shut gone now homes) → n ≡ o.holder → q.held ≡ None → homes' ≡ some (Some value) ∷ [] → (tells value).history ≡ log → Sound opening (tells value)
      → Home tells (put part n q) opening made log (tells value).faults (tells value).broken (tells value).refused homes'
  turn_ends part opening made log top shut gone now n homes homes' q value o is held back history sound = record {
    value = value;
    home = back;
    history = history;
    faults = refl;
    broken = refl;
    refused = refl;
    sound = sound;
    free = λ m. put_each part n q (λ k x. In made k → x.held ≡ None) (λ _. held) (λ k ne i. o.alone k i (λ e. ne (e ∙ sym is))) m;
  }
