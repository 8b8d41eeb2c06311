-- What the passes made, behind a piece more.
use Rattle.std.proofs.Common.{◌≡◌, ◌≢◌, inl, inr, ℕ, zero, suc, ◌+◌, ◌-◌, ◌==◌, true, false, List, [], ◌∷◌, ◌++◌, length, take, slice_get, slice_index_or, refl, sym, ap, subst, ◌∙◌, append_assoc, append-nil, length-append, arith}
use Rattle.std.specs.Prelude.{Option, Some, None, All}
use Rattle.std.proofs.lemmas.Bool.{cases_eq}
use Rattle.std.proofs.lemmas.Bool.Decides.{nat_tests}
use Rattle.std.proofs.lemmas.List.{length-take-le}
use Rattle.std.proofs.lemmas.List.Elements.{All-nil, All-cons, All-append, filter-append}
use Rattle.session_model.specs.Journal.{Entry, payloads, entries_of}
use Rattle.session_model.proofs.Lists.{prefix_get}
use Rattle.jr_kept.specs.Entries.{entries_behind}
use Rattle.jr_boxes.specs.declared.faults.SubmitFault.{SubmitFault}
use Rattle.gate_turn.specs.Views.{Part}
use Rattle.gate_turn.specs.Rule.{In}
use Rattle.gate_turn.proofs.Histories.{begins_self, begins_on}
use Rattle.gate_senders.specs.Shown.{entries_after}
use Rattle.gate_senders.specs.declared.submission.Submission.{Submission}
use Rattle.gate_staff.specs.Sent.{GoesOn}
use Rattle.conn_accepted.specs.declared.why.Why.{Why}
use Rattle.conn_feed.specs.Words.{Word, accepted, refused, alike, entries_in}
use Rattle.conn_feed.specs.Fed.{part_at, Made, StandsIn, Fed}
use Rattle.conn_feed.specs.Ends.{why_of}
use Rattle.conn_feed.specs.Course.{Submits, accepted_from, rest_words, piece_words}
use Rattle.conn_feed.proofs.Coming.{entries_append, entries_accepted, entries_rest}

pub goes_self : (p : Part) → GoesOn p p
goes_self p = record { seen = begins_self p.seen; faults = omega arith; number = refl; made = refl; opening = refl; ended = refl; looks = refl }

pub goes_on : (p q z : Part) → GoesOn p q → GoesOn q z → GoesOn p z
goes_on p q z a b = record {
  seen = begins_on p.seen q.seen z.seen a.seen b.seen;
  faults = omega (arith, a.faults, b.faults);
  number = b.number ∙ a.number;
  made = b.made ∙ a.made;
  opening = b.opening ∙ a.opening;
  ended = b.ended ∙ a.ended;
  looks = b.looks ∙ a.looks;
}

pub goes_by : (p q : Part) (ps : List (List ℕ)) (r : Submission) → Submits p q ps r → GoesOn p q
goes_by p q ps r s = record { seen = s.turn.seen; faults = s.turn.faults; number = s.turn.number; made = s.turn.made; opening = s.turn.opening; ended = s.ended; looks = s.turn.looks }

-- ---- entries of one sender

pub behind_long : (s own : ℕ) (ps : List (List ℕ)) → length (entries_behind s own ps) ≡ length ps
behind_long s own [] = refl
behind_long s own (p ∷ ps) = ap suc (behind_long s (own + 1) ps)

behind_append : (s own : ℕ) (xs ys : List (List ℕ)) → entries_behind s own (xs ++ ys) ≡ entries_behind s own xs ++ entries_behind s (own + length xs) ys
behind_append s own [] ys = let e : own ≡ own + 0 = omega arith in ap (λ (k : ℕ). entries_behind s k ys) e
behind_append s own (x ∷ xs) ys =
    let e : own + 1 + length xs ≡ own + suc (length xs) = omega arith in
    ap (λ (es : List Entry). record { sender = s; own_number = own + 1; payload = x } ∷ es)
    (behind_append s (own + 1) xs ys ∙ ap (λ (k : ℕ). entries_behind s (own + 1) xs ++ entries_behind s k ys) e)

behind_payloads : (s own : ℕ) (ps : List (List ℕ)) → payloads (entries_behind s own ps) ≡ ps
behind_payloads s own [] = refl
behind_payloads s own (p ∷ ps) = ap (λ (qs : List (List ℕ)). p ∷ qs) (behind_payloads s (own + 1) ps)

payloads_append : (es fs : List Entry) → payloads (es ++ fs) ≡ payloads es ++ payloads fs
payloads_append [] fs = refl
payloads_append (e ∷ es) fs = ap (λ (qs : List (List ℕ)). e.payload ∷ qs) (payloads_append es fs)

payloads_long : (es : List Entry) → length (payloads es) ≡ length es
payloads_long [] = refl
payloads_long (e ∷ es) = ap suc (payloads_long es)

same_number : (s : ℕ) → (s == s) ≡ true
same_number s = grind (arith, nat_tests)

other_number : (s t : ℕ) → s ≢ t → (s == t) ≡ false
other_number s t h = grind (arith, nat_tests)

own_entries : (s own : ℕ) (ps : List (List ℕ)) → entries_of (entries_behind s own ps) s ≡ entries_behind s own ps
own_entries s own [] = refl
own_entries s own (p ∷ ps) = rw (same_number s) (ap (λ (es : List Entry). record { sender = s; own_number = own + 1; payload = p } ∷ es) (own_entries s (own + 1) ps))

no_entries : (s t own : ℕ) (ps : List (List ℕ)) → s ≢ t → entries_of (entries_behind s own ps) t ≡ []
no_entries s t own [] other = refl
no_entries s t own (p ∷ ps) other = rw (other_number s t other) (no_entries s t (own + 1) ps other)

-- ---- one pass

-- it made some entries, and then those of a piece
made_more : (p0 p q : Part) (es : List Entry) (ps : List (List ℕ)) (r : Submission) → Made p0 p es → Submits p q ps r → Made p0 q (es ++ entries_after p (take r.count ps))
made_more p0 p q es ps r m s = record {
  goes_on = goes_on p0 p q m.goes_on (goes_by p q ps r s);
  mine = s.added.mine ∙ ap (λ (fs : List Entry). fs ++ more) m.mine ∙ append_assoc p0.mine es more;
  counted =
      ap (λ (fs : List Entry). fs ++ more) m.counted ∙ ap (λ (fs : List Entry). entries_after p0 (payloads es) ++ fs) shifted
      ∙ sym (behind_append p0.number (length p0.mine) (payloads es) (payloads more)) ∙ ap (λ (qs : List (List ℕ)). entries_after p0 qs) (sym (payloads_append es more));
}
  where
    more : List Entry
    more = entries_after p (take r.count ps)

    long : length p.mine ≡ length p0.mine + length (payloads es)
    long = ap length m.mine ∙ length-append p0.mine es ∙ ap (λ (k : ℕ). length p0.mine + k) (sym (payloads_long es))

    shifted : more ≡ entries_behind p0.number (length p0.mine + length (payloads es)) (payloads more)
    shifted =
        ap (λ (k : ℕ). entries_behind k (length p.mine) (take r.count ps)) m.goes_on.number ∙ ap (λ (k : ℕ). entries_behind p0.number k (take r.count ps)) long
        ∙ ap (λ (qs : List (List ℕ)). entries_behind p0.number (length p0.mine + length (payloads es)) qs) (sym (behind_payloads p.number (length p.mine) (take r.count ps)))

-- ---- all passes

-- an entry keeps its number in what grows
stands_on : (now next : List Part) (s : ℕ) → GoesOn (part_at now s) (part_at next s) → ((t : ℕ) → t ≢ s → part_at next t ≡ part_at now t) → (w : Word) → StandsIn now w → StandsIn next w
stands_on now next s goes others (refused why) h = tt
stands_on now next s goes others (accepted n e) h = (h.0, elim (cases_eq e.sender s) [ inl is ↦ here is | inr other ↦ ap (λ (p : Part). slice_get p.seen.made (n - 1)) (others e.sender other) ∙ h.1 ])
  where
    here : e.sender ≡ s → slice_get (part_at next e.sender).seen.made (n - 1) ≡ Some e
    here is =
        ap (λ (t : ℕ). slice_get (part_at next t).seen.made (n - 1)) is
        ∙ prefix_get (part_at now s).seen.made (part_at next s).seen.made (n - 1) e goes.seen.made (ap (λ (t : ℕ). slice_get (part_at now t).seen.made (n - 1)) (sym is) ∙ h.1)

get_here : (xs : List Entry) (e : Entry) (es : List Entry) → slice_get (xs ++ e ∷ es) (length xs) ≡ Some e
get_here [] e es = refl
get_here (x ∷ xs) e es = get_here xs e es

-- entries at the end of what was seen stand there
stands_here : (next : List Part) (s own : ℕ) (before : List Entry) (ps : List (List ℕ)) → (part_at next s).seen.made ≡ before ++ entries_behind s own ps
    → All (StandsIn next) (accepted_from (length before + 1) (entries_behind s own ps))
stands_here next s own before [] e = All-nil (StandsIn next)
stands_here next s own before (p ∷ ps) e =
    let one : Entry = record { sender = s; own_number = own + 1; payload = p } in
    let rest : List Entry = entries_behind s (own + 1) ps in
    let at : length before + 1 - 1 ≡ length before = omega arith in
    let long : length (before ++ one ∷ []) ≡ length before + 1 = length-append before (one ∷ []) in
    let later = stands_here next s (own + 1) (before ++ one ∷ []) ps (e ∙ sym (append_assoc before (one ∷ []) rest)) in
    All-cons (StandsIn next) (accepted (length before + 1) one) (accepted_from (length before + 1 + 1) rest)
    (omega arith, ap (λ (made : List Entry). slice_get made (length before + 1 - 1)) e ∙ ap (slice_get (before ++ one ∷ rest)) at ∙ get_here before one rest)
    (subst (λ (k : ℕ). All (StandsIn next) (accepted_from (k + 1) rest)) long later)

stands_alike : (next : List Part) (why : Why) (c : ℕ) → All (StandsIn next) (alike why c)
stands_alike next why zero = All-nil (StandsIn next)
stands_alike next why (suc c) = All-cons (StandsIn next) (refused why) (alike why c) tt (stands_alike next why c)

stands_rest : (next : List Part) (o : Option SubmitFault) (c : ℕ) → All (StandsIn next) (rest_words o c)
stands_rest next None c = All-nil (StandsIn next)
stands_rest next (Some f) c = stands_alike next (why_of f) c

-- a piece was submitted by the pass of one sender, and no other pass did anything
pub record Moves (now next : List Part) (s : ℕ) (ps : List (List ℕ)) (r : Submission) : Type 0 where
  pub there : In (length now) s
  pub long : length next ≡ length now
  pub number : (part_at now s).number ≡ s
  pub this : Submits (part_at now s) (part_at next s) ps r
  pub others : (t : ℕ) → t ≢ s → part_at next t ≡ part_at now t

pub fed_more : (start now next : List Part) (words : List Word) (s : ℕ) (ps : List (List ℕ)) (r : Submission) → Fed start now words → Moves now next s ps r
    → Fed start next (words ++ piece_words (part_at now s) ps r)
fed_more start now next words s ps r f m = record {
  long = m.long ∙ f.long;
  each = λ t inside. elim (cases_eq t s) [ inl is ↦ this t inside is | inr other ↦ that t inside other ];
  stand = All-append (StandsIn next) words (piece_words p ps r) (λ i d lt. stands_on now next s goes m.others (slice_index_or words i d) (f.stand i d lt))
      (All-append (StandsIn next) (accepted_from (r.number - r.count + 1) es) (rest_words r.refused (length ps - r.count)) stand_es (stands_rest next r.refused (length ps - r.count)));
}
  where
    p : Part
    p = part_at now s

    q : Part
    q = part_at next s

    es : List Entry
    es = entries_after p (take r.count ps)

    goes : GoesOn p q
    goes = goes_by p q ps r m.this

    added : entries_in (words ++ piece_words p ps r) ≡ entries_in words ++ es
    added = entries_append words (piece_words p ps r)
        ∙ ap (λ (fs : List Entry). entries_in words ++ fs)
        (entries_accepted (r.number - r.count + 1) es (rest_words r.refused (length ps - r.count)) ∙ ap (λ (fs : List Entry). es ++ fs) (entries_rest r.refused (length ps - r.count)) ∙ append-nil es)

    of_sender : (t : ℕ) → entries_of (entries_in (words ++ piece_words p ps r)) t ≡ entries_of (entries_in words) t ++ entries_of es t
    of_sender t = ap (λ (fs : List Entry). entries_of fs t) added ∙ filter-append (λ (e : Entry). e.sender == t) (entries_in words) es

    own : es ≡ entries_behind s (length p.mine) (take r.count ps)
    own = ap (λ (k : ℕ). entries_behind k (length p.mine) (take r.count ps)) m.number

    this : (t : ℕ) → In (length start) t → t ≡ s → Made (part_at start t) (part_at next t) (entries_of (entries_in (words ++ piece_words p ps r)) t)
    this t inside is =
        let all : entries_of es s ≡ es = ap (λ (fs : List Entry). entries_of fs s) own ∙ own_entries s (length p.mine) (take r.count ps) ∙ sym own in
        let at_s : Made (part_at start s) q (entries_of (entries_in words) s ++ es) =
        made_more (part_at start s) p q (entries_of (entries_in words) s) ps r (f.each s (subst (In (length start)) is inside)) m.this in
        subst (λ (k : ℕ). Made (part_at start k) (part_at next k) (entries_of (entries_in (words ++ piece_words p ps r)) k)) (sym is)
        (subst (Made (part_at start s) q) (sym (of_sender s ∙ ap (λ (fs : List Entry). entries_of (entries_in words) s ++ fs) all)) at_s)

    that : (t : ℕ) → In (length start) t → t ≢ s → Made (part_at start t) (part_at next t) (entries_of (entries_in (words ++ piece_words p ps r)) t)
    that t inside other =
        let none : entries_of es t ≡ [] = ap (λ (fs : List Entry). entries_of fs t) own ∙ no_entries s t (length p.mine) (take r.count ps) (λ e. other (sym e)) in
        subst (λ (x : Part). Made (part_at start t) x (entries_of (entries_in (words ++ piece_words p ps r)) t)) (sym (m.others t other))
        (subst (Made (part_at start t) (part_at now t)) (sym (of_sender t ∙ ap (λ (fs : List Entry). entries_of (entries_in words) t ++ fs) none ∙ append-nil (entries_of (entries_in words) t)))
        (f.each t inside))

    place : r.number - r.count ≡ length m.this.added.before
    place =
        let all : length q.seen.made ≡ length m.this.added.before + length es = ap length m.this.added.last ∙ length-append m.this.added.before es in
        let few : length es ≡ r.count = behind_long p.number (length p.mine) (take r.count ps) ∙ length-take-le r.count ps m.this.within in
        omega (arith, all, few, m.this.number)

    stand_es : All (StandsIn next) (accepted_from (r.number - r.count + 1) es)
    stand_es =
        subst (λ (k : ℕ). All (StandsIn next) (accepted_from (k + 1) es)) (sym place)
        (subst (λ (fs : List Entry). All (StandsIn next) (accepted_from (length m.this.added.before + 1) fs)) (sym own)
        (stands_here next s (length p.mine) m.this.added.before (take r.count ps) (m.this.added.last ∙ ap (λ (fs : List Entry). m.this.added.before ++ fs) own)))
