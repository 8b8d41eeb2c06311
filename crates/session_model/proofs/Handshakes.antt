-- The handshake comes first: what is accepted from it on is numbered as it was written.
use Rattle.std.proofs.Common.{◌≡◌, ℕ, List, [], ◌∷◌, ◌++◌, Option, None, refl, sym, ap, subst}
use Rattle.std.specs.List.{AllByRecursion}
use mathlib.Core.List.{IsPrefix}
use Rattle.session_model.specs.Journal.{Entry}
use Rattle.session_model.specs.Events.{Event, announce, handshake, in_flow, message, TrueOfJournal, IsHandshake, HandshakeFirst, BeginsWithHandshake}
use Rattle.session_model.specs.Lives.{TakenFrom, rest_lost, taken, rejected}
use Rattle.session_model.specs.Laws.{HandshakeSplits, HandshakeBeforeMessages, TakenIsTrue}
use Rattle.session_model.proofs.Lists.{all_append, all_first, all_second}
use Rattle.session_model.proofs.Truth.{true_first, true_second, true_splits}

-- each announcement of the handshake among some events is this event
abbrev pub OnlyHandshake : Event → List Event → Type 0
OnlyHandshake e es = AllByRecursion (λ (later : Event). IsHandshake later → later ≡ e) es

pub handshake_splits : HandshakeSplits
handshake_splits first second = (parted first, λ p. joined first p.0 p.1 p.2)
  where
    parted : (xs : List Event) → HandshakeFirst (xs ++ second) → HandshakeFirst xs × HandshakeFirst second × AllByRecursion (λ (e : Event). OnlyHandshake e second) xs
    parted [] h = (tt, h, tt)
    parted (x ∷ xs) h =
        let P : Event → Type 0 = λ later. IsHandshake later → later ≡ x in
        let rest = parted xs h.1 in
        ((all_first P xs second h.0, rest.0), rest.1, (all_second P xs second h.0, rest.2))

    joined : (xs : List Event) → HandshakeFirst xs → HandshakeFirst second → AllByRecursion (λ (e : Event). OnlyHandshake e second) xs → HandshakeFirst (xs ++ second)
    joined [] h k all = k
    joined (x ∷ xs) h k all =
        let P : Event → Type 0 = λ later. IsHandshake later → later ≡ x in
        (all_append P xs second h.0 all.0, joined xs h.1 k all.1)

pub handshake_before_messages : HandshakeBeforeMessages
handshake_before_messages [] after n h = refl
handshake_before_messages (announce _ m ∷ before) after n h = handshake_before_messages before after n h.1
handshake_before_messages (message p ∷ before) after n h =
    let P : Event → Type 0 = λ later. IsHandshake later → later ≡ message p in
    let here = all_second P before (announce handshake n ∷ after) h.0 in
    absurd (cc (here.0 tt))

-- behind an event that is no announcement of the handshake there is none
none_left : (e : Event) (w a : List Event) → (IsHandshake e → ⊥) → OnlyHandshake e w → TakenFrom w a → IsPrefix a w
none_left e w a other only (rest_lost {written = w'}) = (w', refl)
none_left e w a other only (taken {e = x} {written = w'} {accepted = a'} t) =
    let rest = none_left e w' a' other only.1 t in (rest.0, ap (λ es. x ∷ es) rest.1)
none_left e w a other only (rejected {n = n} {written = w'} t) = absurd (other (subst IsHandshake (only.0 tt) tt))

-- behind the handshake's announcement of n
taken_behind : (h : List Entry) (n : Option ℕ) (w a : List Event) → TakenFrom w a → OnlyHandshake (announce handshake n) w → HandshakeFirst w
    → TrueOfJournal h n w → TrueOfJournal h n a
taken_behind h n w a rest_lost only first t = record { entries = tt; announced = tt }
taken_behind h n w a (taken {e = announce handshake m} {written = w'} {accepted = a'} k) only first t =
    let same : m ≡ n = cc (only.0 tt) in
    let rest = taken_behind h n w' a' k only.1 first.1 (subst (λ c. TrueOfJournal h c w') same (true_second h n (announce handshake m ∷ []) w' t)) in
    (true_splits h n (announce handshake m ∷ []) a').1 (true_first h n (announce handshake m ∷ []) w' t, subst (λ c. TrueOfJournal h c a') (sym same) rest)
taken_behind h n w a (taken {e = announce in_flow m} {written = w'} {accepted = a'} k) only first t =
    let front = none_left (announce in_flow m) w' a' (λ opens. opens) first.0 k in
    true_first h n (announce in_flow m ∷ a') front.0 (subst (λ es. TrueOfJournal h n (announce in_flow m ∷ es)) (sym front.1) t)
taken_behind h n w a (taken {e = message p} {written = w'} {accepted = a'} k) only first t =
    let front = none_left (message p) w' a' (λ opens. opens) first.0 k in
    true_first h n (message p ∷ a') front.0 (subst (λ es. TrueOfJournal h n (message p ∷ es)) (sym front.1) t)
taken_behind h n w a (rejected {n = m} {written = w'} {accepted = a'} k) only first t =
    let same : m ≡ n = cc (only.0 tt) in
    taken_behind h n w' a' k only.1 first.1 (subst (λ c. TrueOfJournal h c w') same (true_second h n (announce handshake m ∷ []) w' t))

-- whatever stood announced before the handshake's announcement
taken_from_start : (h : List Entry) (c d : Option ℕ) (w a : List Event) → TakenFrom w a → HandshakeFirst w → BeginsWithHandshake a
    → TrueOfJournal h c w → TrueOfJournal h d a
taken_from_start h c d w a rest_lost first begins t = record { entries = tt; announced = tt }
taken_from_start h c d w a (taken {e = announce handshake m} {written = w'} {accepted = a'} k) first begins t =
    let here = true_first h c (announce handshake m ∷ []) w' t in
    (true_splits h d (announce handshake m ∷ []) a').1 (
      record { entries = tt; announced = here.announced },
      taken_behind h m w' a' k first.0 first.1 (true_second h c (announce handshake m ∷ []) w' t),
    )
taken_from_start h c d w a (taken {e = announce in_flow m} k) first begins t = absurd begins
taken_from_start h c d w a (taken {e = message p} k) first begins t = absurd begins
taken_from_start h c d w a (rejected {n = m} {written = w'} {accepted = a'} k) first begins t =
    taken_from_start h m d w' a k first.1 begins (true_second h c (announce handshake m ∷ []) w' t)

taken_only : (e : Event) (w a : List Event) → TakenFrom w a → OnlyHandshake e w → OnlyHandshake e a
taken_only e w a rest_lost only = tt
taken_only e w a (taken {written = w'} {accepted = a'} k) only = (only.0, taken_only e w' a' k only.1)
taken_only e w a (rejected {written = w'} {accepted = a'} k) only = taken_only e w' a' k only.1

taken_first : (w a : List Event) → TakenFrom w a → HandshakeFirst w → HandshakeFirst a
taken_first w a rest_lost first = tt
taken_first w a (taken {e = e} {written = w'} {accepted = a'} k) first = (taken_only e w' a' k first.0, taken_first w' a' k first.1)
taken_first w a (rejected {written = w'} {accepted = a'} k) first = taken_first w' a' k first.1

pub taken_is_true : TakenIsTrue
taken_is_true h w a k first begins t = (taken_from_start h None None w a k first begins t, taken_first w a k first)
