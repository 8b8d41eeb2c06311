-- What stands once a piece was answered, or a line refused, and what a feeding leaves that ends there.
use Rattle.std.proofs.Common.{◌≡◌, ◌≢◌, ◌⊎◌, inl, inr, ℕ, zero, suc, ◌+◌, ◌-◌, ◌^◌, ◌<◌, ◌≤◌, min, List, [], ◌∷◌, ◌++◌, length, take, drop, slice_get, refl, sym, ap, subst, ◌∙◌, append_assoc, append-nil, length-append, arith}
use Rattle.std.specs.Prelude.{Option, Some, None, Result, Ok, Err, All}
use Rattle.std.specs.Io.KnownBytes.{Appends}
use Rattle.std.proofs.KnownBytes.{Appends-trans}
use Rattle.std.proofs.lemmas.Bool.{cases_eq}
use Rattle.std.proofs.lemmas.List.{length-take-le}
use Rattle.std.proofs.lemmas.List.Elements.{All-nil, All-cons, All-append}
use Rattle.gw_outside.specs.Faults.{TakesFront}
use Rattle.jr_kept.specs.Entries.{entries_behind}
use Rattle.jr_boxes.specs.declared.faults.SubmitFault.{SubmitFault}
use Rattle.jr_boxes.specs.declared.faults.SubmitFault.TheVariants as submit
use Rattle.session_model.specs.Journal.{entries_of}
use Rattle.gate_turn.specs.Views.{Part, HasFailed}
use Rattle.gate_turn.specs.Rule.{In}
use Rattle.gate_turn.proofs.Failing.{failed_before}
use Rattle.gate_senders.specs.Shown.{entries_after}
use Rattle.gate_senders.specs.declared.submission.Submission.{Submission}
use Rattle.plan_text.specs.Plans.{Gives, AreGiven}
use Rattle.plan_feed.specs.Pieces.{Messages}
use Rattle.conn_accepted.specs.declared.why.Why.{Why}
use Rattle.conn_accepted.specs.declared.why.Why.TheVariants as whys
use Rattle.conn_accepted.specs.Lines.{refused_line}
use Rattle.conn_feed.specs.declared.end.FeedEnd.{FeedEnd}
use Rattle.conn_feed.specs.declared.end.FeedEnd.TheVariants as ends
use Rattle.conn_feed.specs.Words.{Word, refused, entries_in, words_text, IsWhy, CameOfEach, IsClear}
use Rattle.conn_feed.specs.Fed.{part_at, gifts_to, Made, Fed, StandsIn, LosesLines, OneFills}
use Rattle.conn_feed.specs.Ends.{Point, Answered, AreLast, IsTold, IsShown, MayBeLast, why_of}
use Rattle.conn_feed.specs.Course.{Stands, accepted_from, accepted_text, rest_words, piece_text, ended_by, Told}
use Rattle.conn_feed.proofs.Texts.{text_append, accepted_words, rest_is}
use Rattle.conn_feed.proofs.Coming.{came_more, came_long, came_piece, given_long, given_more, clear_accepted, accepted_long, entries_append}
use Rattle.conn_feed.proofs.Making.{Moves, fed_more, behind_long}

take_past : (xs ys : List ℕ) (k : ℕ) → take (length xs + k) (xs ++ ys) ≡ xs ++ take k ys
take_past [] ys k = ap (λ (n : ℕ). take n ys) (omega arith)
take_past (x ∷ xs) ys k =
    let next : suc (length xs) + k ≡ suc (length xs + k) = omega arith in
    ap (λ (n : ℕ). take n (x ∷ (xs ++ ys))) next ∙ ap (λ (zs : List ℕ). x ∷ zs) (take_past xs ys k)

taken_all : (xs : List ℕ) → take (length xs) xs ≡ xs
taken_all [] = refl
taken_all (x ∷ xs) = ap (λ (zs : List ℕ). x ∷ zs) (taken_all xs)

drop_past : (xs ys : List (List ℕ)) → drop (length xs) (xs ++ ys) ≡ ys
drop_past [] ys = refl
drop_past (x ∷ xs) ys = drop_past xs ys

drop_behind : (xs ys : List (List ℕ)) (k : ℕ) → drop (length xs + k) (xs ++ ys) ≡ drop k ys
drop_behind [] ys k = let none : 0 + k ≡ k = omega arith in ap (λ (n : ℕ). drop n ys) none
drop_behind (x ∷ xs) ys k =
    let next : suc (length xs) + k ≡ suc (length xs + k) = omega arith in
    ap (λ (n : ℕ). drop n (x ∷ (xs ++ ys))) next ∙ drop_behind xs ys k

-- lines that give payloads, from the one that gives this payload on
given_behind : (n s k : ℕ) (held ps : List (List ℕ)) (payload : List ℕ) → AreGiven n held (gifts_to s ps) → slice_get ps k ≡ Some payload → AreGiven n (drop k held) (gifts_to s (payload ∷ drop (suc k) ps))
given_behind n s k [] [] payload given at = absurd (cc at)
given_behind n s k [] (p ∷ ps) payload given at = absurd given
given_behind n s k (line ∷ held) [] payload given at = absurd given
given_behind n s zero (line ∷ held) (p ∷ ps) payload given at =
    let same : p ≡ payload = cc at in
    subst (λ (x : List ℕ). AreGiven n (line ∷ held) (gifts_to s (x ∷ ps))) same given
given_behind n s (suc k) (line ∷ held) (p ∷ ps) payload given at = given_behind n s k held ps payload given.1 at

pub front_more : (a b c : Option (List ℕ)) (xs ys : List ℕ) → Appends a b xs → TakesFront b c ys → TakesFront a c (xs ++ ys)
front_more a b c xs ys first next = record {
  count = length xs + next.count;
  within = omega (arith, next.within, length-append xs ys);
  appended = subst (Appends a c) (sym (take_past xs ys next.count)) (Appends-trans a b c xs (take next.count ys) first next.appended);
}

pub front_whole : (a b : Option (List ℕ)) (xs : List ℕ) → Appends a b xs → TakesFront a b xs
front_whole a b xs all = record { count = length xs; within = omega arith; appended = subst (Appends a b) (sym (taken_all xs)) all }

-- ---- an end at which nothing was refused

pub halted : (n : ℕ) (start now : Point) (piece : Messages) (number : ℕ) (lines : List (List ℕ)) (end : FeedEnd)
    → ((text : List ℕ) → Appends start.taken now.taken text → IsTold end start.taken now.taken text) → IsShown end start.parts now.parts → ((entries bytes : ℕ) → end ≡ ends.Full entries bytes → ⊥)
    → Stands n start now piece number lines → Answered n start now lines end
halted n start now piece number lines end tells shown unfull s = record {
  first = s.first;
  behind = s.held;
  split = s.split;
  words = s.words;
  came = s.came;
  fed = s.fed;
  last = record { before = s.words; clear = s.clear; why = whys.Memory; count = 0; few = omega arith; split = sym (append-nil s.words); kind = λ l. absurd (omega (arith, l)) };
  told = tells (words_text n 1 s.words) s.told;
  shown = shown;
  full = λ entries bytes e. absurd (unfull entries bytes e);
  unlost = λ _. s.unlost;
  lost = λ t i. inl (s.unlost t i);
}

-- more lines were read
pub answered_more : (n : ℕ) (start now : Point) (lines more : List (List ℕ)) (end : FeedEnd) → Answered n start now lines end → Answered n start now (lines ++ more) end
answered_more n start now lines more end a = record {
  first = a.first;
  behind = a.behind ++ more;
  split = ap (λ (ls : List (List ℕ)). ls ++ more) a.split ∙ append_assoc a.first a.behind more;
  words = a.words;
  came = a.came;
  fed = a.fed;
  last = a.last;
  told = a.told;
  shown = a.shown;
  full = a.full;
  unlost = a.unlost;
  lost = a.lost;
}

-- ---- a piece

module _ (n : ℕ) (start now next : Point) (piece : Messages) (number : ℕ) (lines : List (List ℕ)) (r : Submission) (s : Stands n start now piece number lines)
    (m : Moves now.parts next.parts piece.sender piece.payloads r) (many : length start.parts ≡ n) (some : 0 < length piece.payloads) (few : length piece.payloads ≤ 64) where
  abbrev ps : List (List ℕ)
  ps = piece.payloads

  abbrev p : Part
  p = part_at now.parts piece.sender

  abbrev q : Part
  q = part_at next.parts piece.sender

  abbrev own : ℕ
  own = length p.mine

  abbrev acc : List Word
  acc = accepted_from (r.number - r.count + 1) (entries_after p (take r.count ps))

  abbrev rest : List Word
  rest = rest_words r.refused (length ps - r.count)

  abbrev words : List Word
  words = s.words ++ (acc ++ rest)

  fed : Fed start.parts next.parts words
  fed = fed_more start.parts now.parts next.parts s.words piece.sender ps r s.fed m

  came : CameOfEach n lines words
  came =
      let of_piece = came_piece n piece.sender (r.number - r.count + 1) own r.count (length ps - r.count) r.refused s.held ps (omega (arith, m.this.within)) all_of s.given in
      subst (λ (ls : List (List ℕ)). CameOfEach n ls words) (sym s.split)
      (came_more n s.first s.held s.words (acc ++ rest) s.came
      (subst (λ (k : ℕ). CameOfEach n s.held (accepted_from (r.number - r.count + 1) (entries_behind k own (take r.count ps)) ++ rest)) (sym m.number) of_piece))
    where
      all_of : r.refused ≡ None → length ps - r.count ≡ 0
      all_of e = let whole = m.this.whole e in omega (arith, whole)

  taken : length (take r.count ps) ≡ r.count
  taken = length-take-le r.count ps m.this.within

  acc_long : length acc ≡ r.count
  acc_long = accepted_long (r.number - r.count + 1) (entries_after p (take r.count ps)) ∙ behind_long p.number own (take r.count ps) ∙ taken

  held_long : length s.held ≡ length ps
  held_long = given_long n piece.sender s.held ps s.given

  told_long : length s.words ≡ length s.first
  told_long = came_long n s.first s.words s.came

  text : words_text n 1 words ≡ words_text n 1 s.words ++ piece_text n number own piece r
  text =
      text_append n 1 s.words (acc ++ rest)
      ∙ ap (λ (bs : List ℕ). words_text n 1 s.words ++ bs)
      (text_append n (1 + length s.words) acc rest
      ∙ ap (λ (bs : List ℕ). bs ++ words_text n (1 + length s.words + length acc) rest) front_text
      ∙ ap (λ (bs : List ℕ). accepted_text (r.number - r.count) piece.sender own r.count ++ bs)
      (rest_is n (1 + length s.words + length acc) (min (number + r.count) (2 ^ 64 - 1)) r.refused (length ps - r.count) place))
    where
      front_text : words_text n (1 + length s.words) acc ≡ accepted_text (r.number - r.count) piece.sender own r.count
      front_text =
          ap (λ (k : ℕ). words_text n (1 + length s.words) (accepted_from (r.number - r.count + 1) (entries_behind k own (take r.count ps)))) m.number
          ∙ accepted_words n (1 + length s.words) (r.number - r.count) piece.sender own (take r.count ps)
          ∙ ap (accepted_text (r.number - r.count) piece.sender own) taken

      places : (number first words acc count : ℕ) → number ≡ min (first + 1) (2 ^ 64 - 1) → words ≡ first → acc ≡ count
          → min (1 + words + acc) (2 ^ 64 - 1) ≡ min (min (number + count) (2 ^ 64 - 1)) (2 ^ 64 - 1)
      places number first words acc count a b c = omega (arith, a, b, c)

      place : min (1 + length s.words + length acc) (2 ^ 64 - 1) ≡ min (min (number + r.count) (2 ^ 64 - 1)) (2 ^ 64 - 1)
      place = places number (length s.first) (length s.words) (length acc) r.count (s.numbered (omega (arith, held_long, some))) told_long acc_long

  none_behind : lines ≡ lines ++ []
  none_behind = sym (append-nil lines)

  -- what each pass lost, where the piece was not
  lost_none : (r.refused ≡ Some submit.Fault → ⊥) → (t : ℕ) → In n t → (part_at next.parts t).lost ≡ (part_at start.parts t).lost
  lost_none never t inside = elim (cases_eq t piece.sender) [
    | inl is ↦ ap (λ (k : ℕ). (part_at next.parts k).lost) is ∙ m.this.unlost never ∙ ap (λ (k : ℕ). (part_at now.parts k).lost) (sym is) ∙ s.unlost t inside
    | inr other ↦ ap (λ (x : Part). x.lost) (m.others t other) ∙ s.unlost t inside
  ]

  -- and where it was
  lost_piece : r.refused ≡ Some submit.Fault → (t : ℕ) → In n t
      → ((part_at next.parts t).lost ≡ (part_at start.parts t).lost) ⊎ LosesLines n (part_at next.parts t) (drop (length (s.words ++ acc)) lines)
  lost_piece e t inside = elim (cases_eq t piece.sender) [
    | inl is ↦ inr (subst (λ (k : ℕ). LosesLines n (part_at next.parts k) (drop (length (s.words ++ acc)) lines)) (sym is) here)
    | inr other ↦ inl (ap (λ (x : Part). x.lost) (m.others t other) ∙ s.unlost t inside)
  ]
    where
      all : length (s.words ++ acc) ≡ length s.first
      all = length-append s.words acc ∙ numbers (length s.words) (length s.first) (length acc) r.count told_long acc_long (m.this.none e)
        where
          numbers : (words first acc count : ℕ) → words ≡ first → acc ≡ count → count ≡ 0 → words + acc ≡ first
          numbers words first acc count a b c = omega (arith, a, b, c)

      lines_are : drop (length (s.words ++ acc)) lines ≡ s.held
      lines_are = ap (λ (k : ℕ). drop k lines) all ∙ ap (drop (length s.first)) s.split ∙ drop_past s.first s.held

      sender_is : q.number ≡ piece.sender
      sender_is = m.this.turn.number ∙ m.number

      here : LosesLines n q (drop (length (s.words ++ acc)) lines)
      here = record {
        payloads = ps;
        given = subst (λ (ls : List (List ℕ)). AreGiven n ls (gifts_to q.number ps)) (sym lines_are) (subst (λ (k : ℕ). AreGiven n s.held (gifts_to k ps)) (sym sender_is) s.given);
        few = few;
        loses = m.this.lost e;
        unmarked = m.this.unmarked e;
      }

  -- the first line that was refused gives the payload that is past a limit
  fills_piece : (x y : ℕ) → r.refused ≡ Some (submit.Full x y) → OneFills n x y next.parts (drop (length (s.words ++ acc)) lines)
  fills_piece x y e =
      let w = m.this.full x y e in
      let number_is : q.number ≡ piece.sender = m.this.turn.number ∙ m.number in
      let lines_are : drop (length (s.words ++ acc)) lines ≡ drop r.count s.held =
      ap (λ (k : ℕ). drop k lines) (length-append s.words acc ∙ sums (length s.words) (length s.first) (length acc) r.count told_long acc_long)
      ∙ ap (λ (ls : List (List ℕ)). drop (length s.first + r.count) ls) s.split ∙ drop_behind s.first s.held r.count in
      record {
        sender = piece.sender;
        there = subst (λ (k : ℕ). In k piece.sender) (s.fed.long ∙ many) m.there;
        fills = record {
          payload = w.payload;
          behind = drop (suc r.count) ps;
          given = subst (λ (ls : List (List ℕ)). AreGiven n ls (gifts_to q.number (w.payload ∷ drop (suc r.count) ps))) (sym lines_are)
              (subst (λ (k : ℕ). AreGiven n (drop r.count s.held) (gifts_to k (w.payload ∷ drop (suc r.count) ps))) (sym number_is) (given_behind n piece.sender r.count s.held ps w.payload s.given w.next));
          full = w.full;
          unmarked = w.unmarked;
        };
      }
    where
      sums : (words first acc count : ℕ) → words ≡ first → acc ≡ count → words + acc ≡ first + count
      sums words first acc count a b = omega (arith, a, b)

  -- of the end that it is
  fills_at : (x y : ℕ) → OneFills n x y next.parts (drop (length (s.words ++ acc)) lines) → (entries bytes : ℕ) → ends.Full x y ≡ ends.Full entries bytes
      → OneFills n entries bytes next.parts (drop (length (s.words ++ acc)) lines)
  fills_at x y h entries bytes same =
      let first : x ≡ entries = cc same in
      let second : y ≡ bytes = cc same in
      subst (λ (k : ℕ). OneFills n entries k next.parts (drop (length (s.words ++ acc)) lines)) second (subst (λ (k : ℕ). OneFills n k y next.parts (drop (length (s.words ++ acc)) lines)) first h)

  clear : All IsClear (s.words ++ acc)
  clear = All-append IsClear s.words acc s.clear (clear_accepted (r.number - r.count + 1) (entries_after p (take r.count ps)))

  -- the words where one was refused
  last_is : (f : SubmitFault) (end : FeedEnd) → r.refused ≡ Some f → MayBeLast end (why_of f) → AreLast end words
  last_is f end e may = record {
    before = s.words ++ acc;
    clear = clear;
    why = why_of f;
    count = length ps - r.count;
    few = omega (arith, few);
    split = sym (append_assoc s.words acc rest) ∙ ap (λ (o : Option SubmitFault). (s.words ++ acc) ++ rest_words o (length ps - r.count)) e;
    kind = λ _. may;
  }

  is_there : In (length start.parts) piece.sender
  is_there = subst (λ (k : ℕ). In k piece.sender) s.fed.long m.there

  -- the feeding goes on
  pub stands_on : (empty : Messages) (number_after : ℕ) → empty.payloads ≡ [] → r.refused ≡ None → Appends now.taken next.taken (piece_text n number own piece r) → Stands n start next empty number_after lines
  stands_on empty number_after none e told = record {
    first = lines;
    held = [];
    split = none_behind;
    words = words;
    came = came;
    clear = subst (All IsClear) (append_assoc s.words acc rest) (All-append IsClear (s.words ++ acc) rest clear (subst (λ (o : Option SubmitFault). All IsClear (rest_words o (length ps - r.count))) (sym e) (All-nil IsClear)));
    fed = fed;
    told = subst (Appends start.taken next.taken) (sym text) (Appends-trans start.taken now.taken next.taken (words_text n 1 s.words) (piece_text n number own piece r) s.told told);
    unlost = lost_none (λ f. cc (sym e ∙ f));
    given = subst (λ (qs : List (List ℕ)). AreGiven n [] (gifts_to empty.sender qs)) (sym none) tt;
    numbered = λ l. absurd (omega (arith, l));
  }

  -- it ends where ACCEPTED was told all, or a front
  ends_by : (f : SubmitFault) (end : FeedEnd) → r.refused ≡ Some f → MayBeLast end (why_of f) → IsTold end start.taken next.taken (words_text n 1 words) → IsShown end start.parts next.parts
      → ((entries bytes : ℕ) → end ≡ ends.Full entries bytes → OneFills n entries bytes next.parts (drop (length (s.words ++ acc)) lines))
      → (end ≢ ends.Journal → f ≢ submit.Fault) → Answered n start next lines end
  unfolding last_is
  ends_by f end e may told shown full kept = record {
    first = lines;
    behind = [];
    split = none_behind;
    words = words;
    came = came;
    fed = fed;
    last = last_is f end e may;
    told = told;
    shown = shown;
    full = full;
    unlost = λ other. lost_none (λ g. kept other (cc (sym e ∙ g)));
    lost = lost_at f e;
  }
    where
      lost_at : (f : SubmitFault) → r.refused ≡ Some f → (t : ℕ) → In n t
          → ((part_at next.parts t).lost ≡ (part_at start.parts t).lost) ⊎ LosesLines n (part_at next.parts t) (drop (length (s.words ++ acc)) lines)
      lost_at submit.Broken e t i = inl (lost_none (λ g. cc (sym e ∙ g)) t i)
      lost_at submit.Closed e t i = inl (lost_none (λ g. cc (sym e ∙ g)) t i)
      lost_at (submit.Full a b) e t i = inl (lost_none (λ g. cc (sym e ∙ g)) t i)
      lost_at submit.Memory e t i = inl (lost_none (λ g. cc (sym e ∙ g)) t i)
      lost_at submit.Fault e t i = lost_piece e t i

  front : TakesFront now.taken next.taken (piece_text n number own piece r) → TakesFront start.taken next.taken (words_text n 1 words)
  front t = subst (TakesFront start.taken next.taken) (sym text) (front_more start.taken now.taken next.taken (words_text n 1 s.words) (piece_text n number own piece r) s.told t)

  all : Appends now.taken next.taken (piece_text n number own piece r) → Appends start.taken next.taken (words_text n 1 words)
  all t = subst (Appends start.taken next.taken) (sym text) (Appends-trans start.taken now.taken next.taken (words_text n 1 s.words) (piece_text n number own piece r) s.told t)

  -- none was refused, and ACCEPTED took a front
  told_not : (end : FeedEnd) → r.refused ≡ None → IsTold end start.taken next.taken (words_text n 1 words) → IsShown end start.parts next.parts → ((entries bytes : ℕ) → end ≡ ends.Full entries bytes → ⊥)
      → Answered n start next lines end
  told_not end e told shown unfull = record {
    first = lines;
    behind = [];
    split = none_behind;
    words = words;
    came = came;
    fed = fed;
    last = record {
      before = words;
      clear = (stands_clear e);
      why = whys.Memory;
      count = 0;
      few = omega arith;
      split = sym (append-nil words);
      kind = λ l. absurd (omega (arith, l));
    };
    told = told;
    shown = shown;
    full = λ entries bytes e. absurd (unfull entries bytes e);
    unlost = λ _. lost_none (λ f. cc (sym e ∙ f));
    lost = λ t i. inl (lost_none (λ f. cc (sym e ∙ f)) t i);
  }
    where
      stands_clear : r.refused ≡ None → All IsClear words
      stands_clear e = subst (All IsClear) (append_assoc s.words acc rest)
          (All-append IsClear (s.words ++ acc) rest clear (subst (λ (o : Option SubmitFault). All IsClear (rest_words o (length ps - r.count))) (sym e) (All-nil IsClear)))

  abbrev text_of_piece : List ℕ
  text_of_piece = piece_text n number own piece r

  front_of : (t : Result (Unit {0}) FeedEnd) → Told now.taken next.taken text_of_piece t → TakesFront now.taken next.taken text_of_piece
  front_of (Ok _) a = front_whole now.taken next.taken text_of_piece a
  front_of (Err _) a = a.0

  -- ACCEPTED took a front, and none was refused, or another than by a failed call
  fails_at : (f : SubmitFault) (e end : FeedEnd) → r.refused ≡ Some f → f ≢ submit.Fault → TakesFront now.taken next.taken text_of_piece → (e ≡ ends.Accepted) ⊎ (e ≡ ends.Memory) → e ≡ end
      → Answered n start next lines end
  fails_at f e end is other a (inl k) same =
      subst (Answered n start next lines) (sym k ∙ same) (ends_by f ends.Accepted is tt (front a) tt (λ entries bytes x. cc x) (λ _. other))
  fails_at f e end is other a (inr k) same =
      subst (Answered n start next lines) (sym k ∙ same) (ends_by f ends.Memory is tt (front a) tt (λ entries bytes x. cc x) (λ _. other))

  none_fails : (e end : FeedEnd) → r.refused ≡ None → TakesFront now.taken next.taken text_of_piece → (e ≡ ends.Accepted) ⊎ (e ≡ ends.Memory) → e ≡ end → Answered n start next lines end
  none_fails e end is a (inl k) same = subst (Answered n start next lines) (sym k ∙ same) (told_not ends.Accepted is (front a) tt (λ entries bytes x. cc x))
  none_fails e end is a (inr k) same = subst (Answered n start next lines) (sym k ∙ same) (told_not ends.Memory is (front a) tt (λ entries bytes x. cc x))

  -- how a piece ends a feeding that was answered so
  pub over_at : (o : Option SubmitFault) (t : Result (Unit {0}) FeedEnd) (end : FeedEnd) → r.refused ≡ o → Told now.taken next.taken text_of_piece t → ended_by o t ≡ Err end → Answered n start next lines end
  over_at None (Ok _) end e told is = absurd (cc is)
  over_at None (Err x) end e told is = none_fails x end e told.0 told.1 (cc is)
  over_at (Some submit.Broken) t end e told is =
      subst (Answered n start next lines) (cc is)
      (ends_by submit.Broken ends.Journal e refl (front (front_of t told)) (record { sender = piece.sender; there = is_there; shows = inr (m.this.broken e) }) (λ entries bytes x. cc x) (λ other. absurd (other refl)))
  over_at (Some submit.Fault) t end e told is =
      subst (Answered n start next lines) (cc is)
      (ends_by submit.Fault ends.Journal e refl (front (front_of t told)) (record { sender = piece.sender; there = is_there; shows = inl failing }) (λ entries bytes x. cc x) (λ other. absurd (other refl)))
    where
      failing : HasFailed (part_at start.parts piece.sender).faults (part_at next.parts piece.sender).faults
      failing = failed_before (part_at start.parts piece.sender).faults p.faults q.faults (s.fed.each piece.sender is_there).goes_on.faults (m.this.fault e)
  over_at (Some submit.Closed) (Ok _) end e told is =
      subst (Answered n start next lines) (cc is) (ends_by submit.Closed ends.Closed e refl (all told) (record { sender = piece.sender; there = is_there; shows = m.this.closed e }) (λ entries bytes x. cc x) (λ other. λ f. cc f))
  over_at (Some submit.Closed) (Err x) end e told is = fails_at submit.Closed x end e (λ f. cc f) told.0 told.1 (cc is)
  over_at (Some (submit.Full x y)) (Ok _) end e told is =
      subst (Answered n start next lines) (cc is)
      (ends_by (submit.Full x y) (ends.Full x y) e refl (all told) tt (fills_at x y (fills_piece x y e)) (λ other. λ f. cc f))
  over_at (Some (submit.Full x y)) (Err z) end e told is = fails_at (submit.Full x y) z end e (λ f. cc f) told.0 told.1 (cc is)
  over_at (Some submit.Memory) (Ok _) end e told is = subst (Answered n start next lines) (cc is) (ends_by submit.Memory ends.Memory e tt (front (front_of (Ok tt) told)) tt (λ entries bytes x. cc x) (λ other. λ f. cc f))
  over_at (Some submit.Memory) (Err x) end e told is = fails_at submit.Memory x end e (λ f. cc f) told.0 told.1 (cc is)

  -- and where it ends nothing
  pub none_at : (o : Option SubmitFault) (t : Result (Unit {0}) FeedEnd) (u : Unit {0}) → Told now.taken next.taken text_of_piece t → ended_by o t ≡ Ok u → (o ≡ None) × Appends now.taken next.taken text_of_piece
  none_at None (Ok _) u told is = (refl, told)
  none_at None (Err x) u told is = absurd (cc is)
  none_at (Some submit.Broken) t u told is = absurd (cc is)
  none_at (Some submit.Fault) t u told is = absurd (cc is)
  none_at (Some submit.Closed) (Ok _) u told is = absurd (cc is)
  none_at (Some submit.Closed) (Err x) u told is = absurd (cc is)
  none_at (Some (submit.Full x y)) (Ok _) u told is = absurd (cc is)
  none_at (Some (submit.Full x y)) (Err z) u told is = absurd (cc is)
  none_at (Some submit.Memory) (Ok _) u told is = absurd (cc is)
  none_at (Some submit.Memory) (Err x) u told is = absurd (cc is)

-- ---- one line

module _ (n : ℕ) (start now : Point) (piece : Messages) (number : ℕ) (lines : List (List ℕ)) (s : Stands n start now piece number lines) where
  -- with no piece all lines are answered
  all_first : piece.payloads ≡ [] → lines ≡ s.first
  all_first none =
      let empty : s.held ≡ [] = by_length s.held (given_long n piece.sender s.held piece.payloads s.given ∙ ap length none) in
      s.split ∙ ap (λ (ls : List (List ℕ)). s.first ++ ls) empty ∙ append-nil s.first
    where
      by_length : (xs : List (List ℕ)) → length xs ≡ 0 → xs ≡ []
      by_length [] e = refl
      by_length (x ∷ xs) e = absurd (omega (arith, e))

  words_number : (line : ℕ) → piece.payloads ≡ [] → line ≡ min (length lines + 1) (2 ^ 64 - 1) → min (1 + length s.words) (2 ^ 64 - 1) ≡ line
  words_number line none e = numbers (length lines) (length s.words) (came_long n s.first s.words s.came ∙ ap length (sym (all_first none))) line e
    where
      numbers : (lines words : ℕ) → words ≡ lines → (line : ℕ) → line ≡ min (lines + 1) (2 ^ 64 - 1) → min (1 + words) (2 ^ 64 - 1) ≡ line
      numbers lines words a line b = omega (arith, a, b)

  refused_came : (line : List ℕ) (why : Why) → piece.payloads ≡ [] → IsWhy n line why → CameOfEach n (lines ++ line ∷ []) (s.words ++ refused why ∷ [])
  refused_came line why none is = came_more n lines (line ∷ []) s.words (refused why ∷ []) (subst (λ (ls : List (List ℕ)). CameOfEach n ls s.words) (sym (all_first none)) s.came) (is, tt)

  refused_text_is : (line : ℕ) (why : Why) → piece.payloads ≡ [] → line ≡ min (length lines + 1) (2 ^ 64 - 1)
      → words_text n 1 (s.words ++ refused why ∷ []) ≡ words_text n 1 s.words ++ refused_line n line why
  refused_text_is line why none e =
      text_append n 1 s.words (refused why ∷ [])
      ∙ ap (λ (bs : List ℕ). words_text n 1 s.words ++ bs) (append-nil (refused_line n (min (1 + length s.words) (2 ^ 64 - 1)) why) ∙ ap (λ (k : ℕ). refused_line n k why) (words_number line none e))

  refused_fed : (why : Why) → Fed start.parts now.parts (s.words ++ refused why ∷ [])
  refused_fed why = record {
    long = s.fed.long;
    each = λ t inside. subst (λ es. Made (part_at start.parts t) (part_at now.parts t) (entries_of es t)) (sym (entries_append s.words (refused why ∷ []) ∙ append-nil (entries_in s.words))) (s.fed.each t inside);
    stand = All-append (StandsIn now.parts) s.words (refused why ∷ []) s.fed.stand (All-cons (StandsIn now.parts) (refused why) [] tt (All-nil (StandsIn now.parts)));
  }

  refused_clear : (why : Why) → IsClear (refused why) → All IsClear (s.words ++ refused why ∷ [])
  refused_clear why clear = All-append IsClear s.words (refused why ∷ []) s.clear (All-cons IsClear (refused why) [] clear (All-nil IsClear))

  pub refused_on : (taken : Option (List ℕ)) (line : List ℕ) (number_of : ℕ) (why : Why) → piece.payloads ≡ [] → number_of ≡ min (length lines + 1) (2 ^ 64 - 1) → IsWhy n line why → IsClear (refused why)
      → Appends now.taken taken (refused_line n number_of why) → Stands n start (record { parts = now.parts; taken = taken }) piece number (lines ++ line ∷ [])
  refused_on taken line number_of why none e is clear told = record {
    first = lines ++ line ∷ [];
    held = [];
    split = sym (append-nil (lines ++ line ∷ []));
    words = s.words ++ refused why ∷ [];
    came = refused_came line why none is;
    clear = refused_clear why clear;
    fed = refused_fed why;
    told = subst (Appends start.taken taken) (sym (refused_text_is number_of why none e)) (Appends-trans start.taken now.taken taken (words_text n 1 s.words) (refused_line n number_of why) s.told told);
    unlost = s.unlost;
    given = subst (λ (qs : List (List ℕ)). AreGiven n [] (gifts_to piece.sender qs)) (sym none) tt;
    numbered = λ l. absurd (omega (arith, l));
  }

  pub refused_over : (taken : Option (List ℕ)) (line : List ℕ) (number_of : ℕ) (why : Why) → piece.payloads ≡ [] → number_of ≡ min (length lines + 1) (2 ^ 64 - 1) → IsWhy n line why → IsClear (refused why)
      → TakesFront now.taken taken (refused_line n number_of why) → Answered n start (record { parts = now.parts; taken = taken }) (lines ++ line ∷ []) ends.Accepted
  refused_over taken line number_of why none e is clear told = record {
    first = lines ++ line ∷ [];
    behind = [];
    split = sym (append-nil (lines ++ line ∷ []));
    words = s.words ++ refused why ∷ [];
    came = refused_came line why none is;
    fed = refused_fed why;
    last = record {
      before = s.words ++ refused why ∷ [];
      clear = refused_clear why clear;
      why = whys.Memory;
      count = 0;
      few = omega arith;
      split = sym (append-nil (s.words ++ refused why ∷ []));
      kind = λ l. absurd (omega (arith, l));
    };
    told = subst (TakesFront start.taken taken) (sym (refused_text_is number_of why none e)) (front_more start.taken now.taken taken (words_text n 1 s.words) (refused_line n number_of why) s.told told);
    shown = tt;
    full = λ entries bytes e. absurd (cc e);
    unlost = λ _. s.unlost;
    lost = λ t i. inl (s.unlost t i);
  }

  -- one message more waits
  pub holds_more : (next : Messages) (number_of number_after : ℕ) (line payload : List ℕ) → next.payloads ≡ piece.payloads ++ payload ∷ [] → (piece.payloads ≢ [] → next.sender ≡ piece.sender)
      → Gives n line (record { sender = next.sender; payload = payload }) → number_of ≡ min (length lines + 1) (2 ^ 64 - 1) → (piece.payloads ≢ [] → number_after ≡ number) → (piece.payloads ≡ [] → number_after ≡ number_of)
      → Stands n start now next number_after (lines ++ line ∷ [])
  holds_more next number_of number_after line payload added same gives e kept fresh = record {
    first = s.first;
    held = s.held ++ line ∷ [];
    split = ap (λ (ls : List (List ℕ)). ls ++ line ∷ []) s.split ∙ append_assoc s.first s.held (line ∷ []);
    words = s.words;
    came = s.came;
    clear = s.clear;
    fed = s.fed;
    told = s.told;
    unlost = s.unlost;
    given = subst (λ (qs : List (List ℕ)). AreGiven n (s.held ++ line ∷ []) (gifts_to next.sender qs)) (sym added) (given_more n next.sender s.held piece.payloads line payload (renamed piece.payloads refl) gives);
    numbered = λ _. numbers piece.payloads refl;
  }
    where
      renamed : (qs : List (List ℕ)) → piece.payloads ≡ qs → AreGiven n s.held (gifts_to next.sender piece.payloads)
      renamed [] none = subst (λ (xs : List (List ℕ)). AreGiven n s.held (gifts_to next.sender xs)) (sym none) (subst (λ (xs : List (List ℕ)). AreGiven n s.held (gifts_to piece.sender xs)) none s.given)
      renamed (q ∷ qs) some = subst (λ (k : ℕ). AreGiven n s.held (gifts_to k piece.payloads)) (sym (same (λ none. cc (sym some ∙ none)))) s.given

      numbers : (qs : List (List ℕ)) → piece.payloads ≡ qs → number_after ≡ min (length s.first + 1) (2 ^ 64 - 1)
      numbers [] none = fresh none ∙ e ∙ ap (λ (ls : List (List ℕ)). min (length ls + 1) (2 ^ 64 - 1)) (all_first none)
      numbers (q ∷ qs) some = kept (λ none. cc (sym some ∙ none)) ∙ s.numbered (omega (arith, given_long n piece.sender s.held piece.payloads s.given ∙ ap length some))
