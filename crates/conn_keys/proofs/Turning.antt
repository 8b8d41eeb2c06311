-- Guests that are turned away one behind another.
use Rattle.std.proofs.Common.{◌≡◌, ◌≢◌, ℕ, ◌<◌, ◌⊎◌, inl, inr, List, [], ◌∷◌, ◌++◌, length, take, drop, Option, Some, None, refl, sym, ap, subst, ◌∙◌, append-nil, append_assoc, arith}
use Rattle.std.specs.Prelude.{IfSome, IsTrue, is_some}
use Rattle.std.specs.List.{AllByRecursion}
use Rattle.std.specs.Option.{option_map}
use Rattle.std.proofs.lemmas.List.{take-append-drop}
use Rattle.session_model.proofs.Lists.{all_append}
use Rattle.gw_links.specs.Links.{LinkTold, Carried}
use Rattle.gw_links.specs.Dialers.{DialerTold, IsLeft}
use Rattle.gw_links.specs.declared.dialer.Next.{Next}
use Rattle.gw_guests.specs.Guests.{GuestsTold, TurnedAway, turned_away}
use Rattle.conn_keys.specs.declared.keys.Keys.{Keys}
use Rattle.conn_keys.specs.Known.{IsKnown, LooksKnown, IsStranger, TurnedStrangers, TurnsStrangers, knowing}
use Rattle.conn_keys.specs.Verdicts.{Verdict, verdict_of, looked_at, serves, waits}
use Rattle.conn_keys.proofs.Standing.{verdicts_stand}

-- whose front gives the keys gives them
pub looks_known : (k : Keys) (told : Option LinkTold) → LooksKnown k told → IsKnown k told
looks_known k None h = tt
looks_known k (Some t) h =
    ap (verdict_of k) (sym (take-append-drop looked_at t.waits))
    ∙ verdicts_stand k (take looked_at t.waits) (drop looked_at t.waits) (λ w. let both : serves ≡ waits = sym h ∙ w in absurd (cc both)) ∙ h

-- nobody was turned away yet
pub none_turned : (k : Keys) (told : Option GuestsTold) → TurnsStrangers k told told
none_turned k None = tt
none_turned k (Some t) = record { more = []; away = sym (append-nil t.away); strangers = tt; back = refl }

-- one more was
pub one_turned : (k : Keys) (old mid new : Option GuestsTold) (told : Option LinkTold) (faults : ℕ) → TurnsStrangers k old mid
    → IsStranger k (record { told = told; faults = faults }) → new ≡ option_map (turned_away told faults) mid → TurnsStrangers k old new
one_turned k old mid new told faults so_far stranger is = subst (TurnsStrangers k old) (sym is) (by_told old mid so_far)
  where
    by_told : (old mid : Option GuestsTold) → TurnsStrangers k old mid → TurnsStrangers k old (option_map (turned_away told faults) mid)
    by_told None None t = tt
    by_told None (Some m) t = absurd t
    by_told (Some o) None t = absurd t
    by_told (Some o) (Some m) t =
        let one : TurnedAway = record { told = told; faults = faults } in
        record {
          more = t.more ++ one ∷ [];
          away = ap (λ (xs : List TurnedAway). xs ++ one ∷ []) t.away ∙ append_assoc o.away t.more (one ∷ []);
          strangers = all_append (IsStranger k) t.more (one ∷ []) t.strangers (stranger, tt);
          back = t.back;
        }

-- what was looked at is the first that waits
pub came_first : (old new : Option LinkTold) (came into : List ℕ) (n : ℕ) → new ≡ old → came ≡ take n into → length into ≡ looked_at
    → IfSome old (λ (t : LinkTold). take n into ≡ take (length into) t.waits) → IfSome new (λ (t : LinkTold). came ≡ take looked_at t.waits)
came_first old new came into n same is long front = subst (λ (o : Option LinkTold). IfSome o (λ (t : LinkTold). came ≡ take looked_at t.waits)) (sym same) (by_told old front)
  where
    by_told : (o : Option LinkTold) → IfSome o (λ (t : LinkTold). take n into ≡ take (length into) t.waits) → IfSome o (λ (t : LinkTold). came ≡ take looked_at t.waits)
    by_told None f = tt
    by_told (Some t) f = is ∙ (f ∙ ap (λ (k : ℕ). take k t.waits) long)

-- what came over a link gives the keys, or does not, or the link failed
pub came_known : (k : Keys) (told : Option LinkTold) (came : List ℕ) → IfSome told (λ (t : LinkTold). came ≡ take looked_at t.waits) → verdict_of k came ≡ serves → LooksKnown k told
came_known k None came is e = tt
came_known k (Some t) came is e = ap (verdict_of k) (sym is) ∙ e

pub came_stranger : (k : Keys) (told : Option LinkTold) (faults : ℕ) (came : List ℕ) → IfSome told (λ (t : LinkTold). came ≡ take looked_at t.waits) → verdict_of k came ≢ serves
    → IsStranger k (record { told = told; faults = faults })
came_stranger k None faults came is other = tt
came_stranger k (Some t) faults came is other = inr (λ e. other (ap (verdict_of k) is ∙ e))

pub failed_stranger : (k : Keys) (told : Option LinkTold) (faults : ℕ) → 0 < faults → IsStranger k (record { told = told; faults = faults })
failed_stranger k None faults failed = tt
failed_stranger k (Some t) faults failed = inl failed

-- what a dialer tells changes as its answer has it, whoever was turned away
pub told_after : (f : DialerTold → DialerTold) (k : Keys) (n m : ℕ) (old new : Option GuestsTold) → TurnsStrangers k old new
    → ((back : List (Option Carried)) → f (record { left = n; back = back }) ≡ record { left = m; back = back })
    → option_map (knowing m) new ≡ option_map f (option_map (knowing n) old)
told_after f k n m None None t h = refl
told_after f k n m None (Some q) t h = absurd t
told_after f k n m (Some o) None t h = absurd t
told_after f k n m (Some o) (Some q) t h =
    ap (λ (back : List (Option Carried)). Some (record { left = m; back = back })) t.back ∙ ap (λ (d : DialerTold). Some d) (sym (h o.back))

-- so many are left
pub left_told : {L : Type 0} (n : ℕ) (told : Option GuestsTold) (next : Next L) → IsLeft n next → IfSome (option_map (knowing n) told) (λ (t : DialerTold). IsLeft t.left next)
left_told n None next is = tt
left_told n (Some t) next is = is

pub some_told : (n : ℕ) (told : Option GuestsTold) → IsTrue (is_some (option_map (knowing n) told)) → IsTrue (is_some told)
some_told n None some = some
some_told n (Some t) some = some
