-- The messages of records behind a place.
use Rattle.std.proofs.Common.{◌≡◌, inr, ℕ, zero, suc, ◌+◌, ◌-◌, ◌<◌, ◌≤◌, List, [], ◌∷◌, ◌++◌, length, drop, slice_get, refl, sym, ap, subst}
use Rattle.std.proofs.Common.{◌∙◌, add-one, arith}
use Rattle.std.specs.Prelude.{All, Option, Some}
use Rattle.std.proofs.Math.Logic.{∥∥₁_elim}
use Rattle.std.proofs.lemmas.List.Elements.{All-nil, All-append}
use mathlib.Core.List.{is_set as List-set}
use mathlib.Core.Sum.{⊎_set}
use native.Mathlib.Nat.{ℕ_set}
use Rattle.session_model.specs.Inbox.{Numbered}
use Rattle.jr_record.specs.declared.record.Record.{Record}
use Rattle.jr_dated.specs.Dated.{Dated, undated}
use Rattle.jr_dated.specs.Journals.{Unchanged}
use Rattle.conn_out.specs.Messages.{messages_of, messages_in, TellsUpTo, EndsUpTo, IsPlaceBehind}

record_set : IsSet Record
record_set = hlevel (ℕ_set, List-set, ⊎_set)

option_set : IsSet (Option Record)
option_set = hlevel (record_set, ℕ_set, List-set, ⊎_set)

bare_at : (h : List Dated) (n : ℕ) (d : Dated) → slice_get h n ≡ Some d → slice_get (undated h) n ≡ Some d.what
bare_at [] n d is = absurd (cc)
bare_at (e ∷ h) zero d is = let same : e ≡ d = cc in ap (λ (x : Dated). Some x.what) same
bare_at (e ∷ h) (suc n) d is = bare_at h n d is

-- where a journal stands for one list, what was read is that list's
pub read_told : {J : Type 0} (stands : J → List Dated → Type 0) (j : J) (h : List Dated) (n : ℕ) (d : Dated) → ((k : List Dated) → stands j k → k ≡ h)
    → ∥ ((k : List Dated) × stands j k × (slice_get k n ≡ Some d)) ∥₁ → slice_get (undated h) n ≡ Some d.what
read_told stands j h n d same found = ∥∥₁_elim found (option_set (slice_get (undated h) n) (Some d.what)) (λ f.
    subst (λ (ds : List Dated). slice_get (undated ds) n ≡ Some d.what) (same f.0 f.1) (bare_at f.0 n d f.2))

-- a record stands there
record Standing (h : List Dated) (n : ℕ) (r : Record) : Type 0 where
  this : Dated
  there : slice_get h n ≡ Some this
  what : this.what ≡ r

standing : (h : List Dated) (n : ℕ) (r : Record) → slice_get (undated h) n ≡ Some r → Standing h n r
standing [] n r is = absurd (cc)
standing (d ∷ h) zero r is = let same : d.what ≡ r = cc in record { this = d; there = refl; what = same }
standing (d ∷ h) (suc n) r is = let s = standing h n r is in record { this = s.this; there = s.there; what = s.what }

-- its messages come first of those from there on
one_on : (h : List Dated) (n : ℕ) (r : Record) → slice_get (undated h) n ≡ Some r → messages_in (drop n h) ≡ messages_of r ++ messages_in (drop (suc n) h)
one_on [] n r is = absurd (cc)
one_on (d ∷ h) zero r is = let same : d.what ≡ r = cc in ap (λ (x : Record). messages_of x ++ messages_in h) same
one_on (d ∷ h) (suc n) r is = one_on h n r is

pub messages_at : (h : List Dated) (n : ℕ) (r : Record) → slice_get (undated h) n ≡ Some r
    → messages_in (drop n h) ≡ messages_of r ++ messages_in (drop (n + 1) h)
messages_at h n r is = one_on h n r is ∙ ap (λ (k : ℕ). messages_of r ++ messages_in (drop k h)) (sym (add-one n))

pub none_behind : (h : List Dated) (n : ℕ) → length h ≤ n → drop n h ≡ []
none_behind [] zero l = refl
none_behind [] (suc n) l = refl
none_behind (d ∷ h) zero l = absurd (omega (arith, l))
none_behind (d ∷ h) (suc n) l = none_behind h n (omega (arith, l))

-- ---- the place behind a message

abbrev pub AreBehind : ℕ → List Numbered → Type 0
AreBehind last ms = All (λ (m : Numbered). last < m.number) ms

pub behind_all : (h : List Dated) (n last : ℕ) → length h ≤ n → AreBehind last (messages_in (drop n h))
behind_all h n last l = subst (λ (ds : List Dated). AreBehind last (messages_in ds)) (sym (none_behind h n l)) (All-nil (λ (m : Numbered). last < m.number))

pub behind_one : (h : List Dated) (n last : ℕ) (r : Record) → slice_get (undated h) n ≡ Some r → AreBehind last (messages_of r)
    → AreBehind last (messages_in (drop (n + 1) h)) → AreBehind last (messages_in (drop n h))
behind_one h n last r is one more =
    subst (AreBehind last) (sym (messages_at h n r is)) (All-append (λ (m : Numbered). last < m.number) (messages_of r) (messages_in (drop (n + 1) h)) one more)

pub place_at : (h : List Dated) (at n last : ℕ) (r : Record) → at - 1 ≡ n → slice_get (undated h) n ≡ Some r → TellsUpTo r last
    → AreBehind last (messages_in (drop at h)) → IsPlaceBehind h at last
place_at h at n last r e is tells none =
    let s = standing h n r is in
    let before : EndsUpTo h at last =
    record { record_before = s.this; there = ap (slice_get h) e ∙ s.there; tells = subst (λ (x : Record). TellsUpTo x last) (sym s.what) tells } in
    record { none = none; before = inr before }

-- ---- a journal that is only read

pub same_on : {J : Type 0} (stands : J → List Dated → Type 0) (leaves : J → Option (List Dated) → Type 0) (i j k : J) → Unchanged stands leaves i j
    → Unchanged stands leaves j k
    → Unchanged stands leaves i k
same_on stands leaves i j k a b = record {
  records = λ h. (λ s. (b.records h).0 ((a.records h).0 s), λ s. (a.records h).1 ((b.records h).1 s));
  images = λ image. (λ l. (b.images image).0 ((a.images image).0 l), λ l. (a.images image).1 ((b.images image).1 l));
}
