-- Calls of a link one after another.
use Rattle.std.proofs.Common.{◌≡◌, ℕ, ◌+◌, List, Option, None, Some, [], ◌++◌, length, take, drop, take-append-drop, arith, refl, sym, ap, subst, ◌∙◌, append_assoc, append-nil, length-append}
use Rattle.std.specs.Option.{option_map}
use Rattle.std.specs.Prelude.{◌-◌}
use Rattle.std.proofs.Math.Seq.{take-append_seam, take-append-add}
use Rattle.gw_links.specs.Links.{Carried, LinkTold, Moved, Step, Steps, TookFront, carry}

steps_none : (told : Option LinkTold) → Steps told told [] []
steps_none None = tt
steps_none (Some t) = record { waited = refl; took = sym (append-nil t.taken); over = refl; fitted = omega arith }

step_more : (a b c : LinkTold) (g t h u : List ℕ) → Step a b g t → Step b c h u → Step a c (g ++ h) (t ++ u)
step_more a b c g t h u x y = record {
  waited = x.waited ∙ ap (λ l. g ++ l) y.waited ∙ sym (append_assoc g h c.waits);
  took = y.took ∙ ap (λ l. l ++ u) x.took ∙ append_assoc a.taken t u;
  over = y.over ∙ x.over;
  fitted = omega (arith, x.fitted, y.fitted, length-append t u);
}

steps_more : (a b c : Option LinkTold) (g t h u : List ℕ) → Steps a b g t → Steps b c h u → Steps a c (g ++ h) (t ++ u)
steps_more None None None g t h u x y = tt
steps_more None None (Some c) g t h u x y = y
steps_more None (Some b) c g t h u x y = absurd x
steps_more (Some a) None c g t h u x y = absurd x
steps_more (Some a) (Some b) None g t h u x y = y
steps_more (Some a) (Some b) (Some c) g t h u x y = step_more a b c g t h u x y

carry_none : (c : Option Carried) → c ≡ option_map (carry [] []) c
carry_none None = refl
carry_none (Some c) = λ i. Some (record { given = sym (append-nil c.given) i; taken = sym (append-nil c.taken) i })

carry_more : (c : Option Carried) (g t h u : List ℕ) → option_map (carry h u) (option_map (carry g t) c) ≡ option_map (carry (g ++ h) (t ++ u)) c
carry_more None g t h u = refl
carry_more (Some c) g t h u = λ i. Some (record { given = append_assoc c.given g h i; taken = append_assoc c.taken t u i })

-- no call
pub moved_none : (told : Option LinkTold) (carried : Option Carried) → Moved told told carried carried [] []
moved_none told carried = record { tells = steps_none told; carries = carry_none carried }

-- calls, and then more calls
pub moved_more : (a b c : Option LinkTold) (p q r : Option Carried) (g t h u : List ℕ) → Moved a b p q g t → Moved b c q r h u → Moved a c p r (g ++ h) (t ++ u)
moved_more a b c p q r g t h u x y = record {
  tells = steps_more a b c g t h u x.tells y.tells;
  carries = y.carries ∙ ap (option_map (carry h u)) x.carries ∙ carry_more p g t h u;
}

-- a front of the bytes was sent, and the rest is still to be sent
pub record SentOn (told told' : Option LinkTold) (carried carried' : Option Carried) (bytes rest : List ℕ) : Type 0 where
  pub front : List ℕ
  pub split : bytes ≡ front ++ rest
  pub moved : Moved told told' carried carried' [] front

pub sent_none : (told : Option LinkTold) (carried : Option Carried) (bytes : List ℕ) → SentOn told told carried carried bytes bytes
sent_none told carried bytes = record { front = []; split = refl; moved = moved_none told carried }

-- the first n bytes of the rest are sent
pub sent_more : (a b c : Option LinkTold) (p q r : Option Carried) (bytes rest : List ℕ) (n : ℕ) → SentOn a b p q bytes rest → Moved b c q r [] (take n rest) → SentOn a c p r bytes (drop n rest)
sent_more a b c p q r bytes rest n so_far step = record {
  front = so_far.front ++ take n rest;
  split = so_far.split ∙ ap (λ l. so_far.front ++ l) (sym (take-append-drop n rest)) ∙ sym (append_assoc so_far.front (take n rest) (drop n rest));
  moved = moved_more a b c p q r [] so_far.front [] (take n rest) so_far.moved step;
}

-- what was sent, by its count
pub sent_count : (a b : Option LinkTold) (p q : Option Carried) (bytes rest : List ℕ) (n : ℕ) → SentOn a b p q bytes rest → n ≡ length bytes - length rest → Moved a b p q [] (take n bytes)
sent_count a b p q bytes rest n so_far is =
    let e : n ≡ length so_far.front = omega (arith, is, ap length so_far.split, length-append so_far.front rest) in
    subst (Moved a b p q []) (sym (ap (λ k. take k bytes) e ∙ ap (take (length so_far.front)) so_far.split ∙ take-append_seam so_far.front rest)) so_far.moved

-- where the next send takes a front of the rest and fails
pub sent_front : (a b c : Option LinkTold) (p q r : Option Carried) (bytes rest : List ℕ) → SentOn a b p q bytes rest → TookFront b c q r rest → TookFront a c p r bytes
sent_front a b c p q r bytes rest so_far last = record {
  count = length so_far.front + last.count;
  within = omega (arith, last.within, ap length so_far.split, length-append so_far.front rest);
  moved =
      subst (Moved a c p r []) (sym (ap (take (length so_far.front + last.count)) so_far.split ∙ take-append-add so_far.front rest last.count))
      (moved_more a b c p q r [] so_far.front [] (take last.count rest) so_far.moved last.moved);
}
