-- What one end accepts of what the other wrote.
use Rattle.std.proofs.Common.{◌≡◌, ℕ, ◌-◌, List, [], ◌∷◌, ◌++◌, flat_map, length, None, refl, sym, ap, subst, ◌∙◌, arith, append_assoc}
use Rattle.std.specs.List.{AllByRecursion, AllZip}
use mathlib.Core.List.{IsPrefix}
use Rattle.session_model.specs.Journal.{Entry}
use Rattle.session_model.specs.Events.{Event, announce, message, messages, TrueOfJournal, Rising, IsHandshake, HandshakeFirst, BeginsWithHandshake}
use Rattle.session_model.specs.Lives.{Connection, accepted_of, written_of, TakenFrom, rest_lost, taken, rejected, Linked, left_alone, right_alone, paired, first_events}
use Rattle.session_model.specs.Guarantee.{CarriedFrom, unread, nothing, carried}
use Rattle.session_model.specs.Guarantee
use Rattle.session_model.proofs.Lists.{prefix_take}
use Rattle.session_model.proofs.Truth.{rising_lower}
use Rattle.session_model.proofs.Handshakes.{taken_is_true}

-- each list is a beginning of the one at its place
abbrev pub Fronts : List (List Event) → List (List Event) → Type 0
Fronts fronts lists = AllZip (λ x y. IsPrefix x y) fronts lists

pub first_events_front : (k : ℕ) (lists : List (List Event)) → Fronts (first_events k lists) lists
first_events_front k [] = tt
first_events_front k (es ∷ later) = (prefix_take k es, first_events_front (k - length es) later)

pub fronts-append : (a b c d : List (List Event)) → Fronts a c → Fronts b d → Fronts (a ++ b) (c ++ d)
fronts-append [] b [] d p q = q
fronts-append [] b (y ∷ c) d p q = absurd p
fronts-append (x ∷ a) b [] d p q = absurd p
fronts-append (x ∷ a) b (y ∷ c) d p q = (p.0, fronts-append a b c d p.1 q)

prefix_of_nothing : (p : List Event) → IsPrefix p [] → p ≡ []
prefix_of_nothing [] b = refl
prefix_of_nothing (e ∷ p) b = absurd (cc (b.1))

-- of what was taken, a beginning was taken
pub taken_front : (w c p : List Event) → TakenFrom w c → IsPrefix p c → TakenFrom w p
taken_front w c [] t b = rest_lost
taken_front w c (x ∷ p) rest_lost b = absurd (cc (b.1))
taken_front w c (x ∷ p) (taken {e = e} {written = w'} {accepted = c'} t) b =
    subst (λ y. TakenFrom (e ∷ w') (y ∷ p)) (cc (b.1)) (taken {e = e} (taken_front w' c' p t (b.0, cc (b.1))))
taken_front w c (x ∷ p) (rejected {n = n} {written = w'} {accepted = c'} t) b = rejected {n = n} (taken_front w' c' (x ∷ p) t b)

pub taken_messages : (w a : List Event) → TakenFrom w a → IsPrefix (messages a) (messages w)
taken_messages w a (rest_lost {written = w'}) = (messages w', refl)
taken_messages w a (taken {e = announce _ n} {written = w'} {accepted = a'} k) = taken_messages w' a' k
taken_messages w a (taken {e = message p} {written = w'} {accepted = a'} k) =
    let r = taken_messages w' a' k in (r.0, ap (λ ps. p ∷ ps) r.1)
taken_messages w a (rejected {written = w'} {accepted = a'} k) = taken_messages w' a' k

-- of what was carried, beginnings were carried
pub carried_fronts : (ws cs ps : List (List Event)) → CarriedFrom ws cs → Fronts ps cs → CarriedFrom ws ps
carried_fronts ws cs [] Guarantee.CarriedFrom.no_more f = Guarantee.CarriedFrom.no_more
carried_fronts ws cs (p ∷ ps) Guarantee.CarriedFrom.no_more f = absurd f
carried_fronts ws cs ps (unread {w = w} {written = ws'} {carried = cs'} k) f = unread {w = w} (carried_fronts ws' cs' ps k f)
carried_fronts ws cs [] (nothing k) f = absurd f
carried_fronts ws cs (p ∷ ps) (nothing {written = ws'} {carried = cs'} k) f =
    subst (λ q. CarriedFrom ws' (q ∷ ps)) (sym (prefix_of_nothing p f.0)) (nothing (carried_fronts ws' cs' ps k f.1))
carried_fronts ws cs [] (carried t k) f = absurd f
carried_fronts ws cs (p ∷ ps) (carried {w = w} {c = c} {written = ws'} {carried = cs'} t k) f =
    carried (taken_front w c p t f.0) (carried_fronts ws' cs' ps k f.1)

-- a beginning of what begins with the handshake does too
begins_front : (p c : List Event) → IsPrefix p c → BeginsWithHandshake c → BeginsWithHandshake p
begins_front [] c b h = tt
begins_front (x ∷ p) [] b h = absurd (cc (b.1))
begins_front (x ∷ p) (y ∷ c) b h = subst IsHandshake (cc (sym b.1)) h

pub fronts_begin : (ps cs : List (List Event)) → Fronts ps cs → AllByRecursion BeginsWithHandshake cs → AllByRecursion BeginsWithHandshake ps
fronts_begin [] cs f all = tt
fronts_begin (p ∷ ps) [] f all = absurd f
fronts_begin (p ∷ ps) (c ∷ cs) f all = (begins_front p c f.0 all.0, fronts_begin ps cs f.1 all.1)

-- what was carried of connections that are true is true
pub carried_true : (h : List Entry) (ws cs : List (List Event)) → CarriedFrom ws cs → AllByRecursion HandshakeFirst ws
    → AllByRecursion BeginsWithHandshake cs → AllByRecursion (TrueOfJournal h None) ws → AllByRecursion (TrueOfJournal h None) cs
carried_true h ws cs Guarantee.CarriedFrom.no_more first begins all = tt
carried_true h ws cs (unread {written = ws'} {carried = cs'} k) first begins all = carried_true h ws' cs' k first.1 begins all.1
carried_true h ws cs (nothing {written = ws'} {carried = cs'} k) first begins all =
    (record { entries = tt; announced = tt }, carried_true h ws' cs' k first begins.1 all)
carried_true h ws cs (carried {w = w} {c = c} {written = ws'} {carried = cs'} t k) first begins all =
    ((taken_is_true h w c t first.0 begins.0 all.0).0, carried_true h ws' cs' k first.1 begins.1 all.1)

rising_second : (h : List Entry) (n : ℕ) (first second : List (List ℕ)) → Rising h n (first ++ second) → Rising h n second
rising_second h n [] second r = r
rising_second h n (p ∷ first) second r = rising_lower h r.0 n second (omega (arith, r.1)) (rising_second h r.0 first second r.3)

-- what rises still does where a part of it is left out, and what follows is thinned
rising_thinned : (h : List Entry) (n : ℕ) (kept lost later thin : List (List ℕ)) → ((m : ℕ) → Rising h m later → Rising h m thin)
    → Rising h n (kept ++ (lost ++ later)) → Rising h n (kept ++ thin)
rising_thinned h n [] lost later thin f r = f n (rising_second h n lost later r)
rising_thinned h n (p ∷ kept) lost later thin f r = (r.0, r.1, r.2, rising_thinned h r.0 kept lost later thin f r.3)

pub carried_rising : (h : List Entry) (ws cs : List (List Event)) → CarriedFrom ws cs
    → (n : ℕ) → Rising h n (flat_map messages ws) → Rising h n (flat_map messages cs)
carried_rising h ws cs Guarantee.CarriedFrom.no_more n r = r
carried_rising h ws cs (unread {w = w} {written = ws'} {carried = cs'} k) n r = carried_rising h ws' cs' k n (rising_second h n (messages w) (flat_map messages ws') r)
carried_rising h ws cs (nothing {written = ws'} {carried = cs'} k) n r = carried_rising h ws' cs' k n r
carried_rising h ws cs (carried {w = w} {c = c} {written = ws'} {carried = cs'} t k) n r =
    let front = taken_messages w c t in
    let whole : messages w ++ flat_map messages ws' ≡ messages c ++ (front.0 ++ flat_map messages ws') =
    ap (λ ps. ps ++ flat_map messages ws') (sym front.1) ∙ append_assoc (messages c) front.0 (flat_map messages ws') in
    rising_thinned h n (messages c) front.0 (flat_map messages ws') (flat_map messages cs') (carried_rising h ws' cs' k)
    (subst (λ ps. Rising h n ps) whole r)

-- of linked connections, each end carried from the other
pub linked_carries : (as' bs : List Connection) → Linked as' bs → CarriedFrom (written_of as') (accepted_of bs)
linked_carries as' bs Linked.no_more = Guarantee.CarriedFrom.no_more
linked_carries as' bs (left_alone {a = a} {as' = xs} {bs = ys} e k) = unread {w = a.written} (linked_carries xs ys k)
linked_carries as' bs (right_alone {b = b} {as' = xs} {bs = ys} e k) =
    subst (λ es. CarriedFrom (written_of xs) (es ∷ accepted_of ys)) (sym e) (nothing (linked_carries xs ys k))
linked_carries as' bs (paired {a = a} {b = b} {as' = xs} {bs = ys} t u k) = carried u (linked_carries xs ys k)

pub linked_turned : (as' bs : List Connection) → Linked as' bs → Linked bs as'
linked_turned as' bs Linked.no_more = Linked.no_more
linked_turned as' bs (left_alone {a = a} {as' = xs} {bs = ys} e k) = right_alone e (linked_turned xs ys k)
linked_turned as' bs (right_alone {b = b} {as' = xs} {bs = ys} e k) = left_alone e (linked_turned xs ys k)
linked_turned as' bs (paired {a = a} {b = b} {as' = xs} {bs = ys} t u k) = paired u t (linked_turned xs ys k)
