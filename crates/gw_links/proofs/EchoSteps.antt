-- Echoes one after another.
use Rattle.std.proofs.Common.{◌≡◌, ℕ, ◌≤◌, List, Option, None, Some, [], ◌∷◌, ◌++◌, length, take, arith, refl, sym, ap, subst, ◌∙◌, append_assoc, append-nil, length-append, length-take, add-zero}
use Rattle.std.proofs.Math.Seq.{take-append-add}
use Rattle.std.proofs.lemmas.Bool.{false≢true}
use Rattle.std.proofs.lemmas.List.Elements.{All-append, All-cons, All-nil}
use Rattle.std.specs.Option.{option_map}
use Rattle.std.specs.Prelude.{◌-◌, ◌<◌, IfSome, IsTrue, is_some}
use Rattle.gw_links.specs.Dialers.{DialerTold, returned}
use Rattle.gw_links.specs.Echoes.{AllEchoed, EchoedAll, EchoedFront, EchoedWhole, IsEcho}
use Rattle.gw_links.specs.Links.{Carried, CarriedNothing, LinkTold, Moved}
use Rattle.gw_links.proofs.Moving.{moved_more, moved_none}

-- some bytes were given, and then the first n of them were taken
echoed_moved : (a b c : Option LinkTold) (p q r : Option Carried) (g : List ℕ) (n : ℕ) → Moved a b p q g [] → Moved b c q r [] (take n g) → Moved a c p r g (take n g)
echoed_moved a b c p q r g n gives takes = subst (λ l. Moved a c p r l (take n g)) (append-nil g) (moved_more a b c p q r g [] [] (take n g) gives takes)

pub echoed_part : (a b c : Option LinkTold) (p q r : Option Carried) (g : List ℕ) (n : ℕ) → n ≤ length g → Moved a b p q g [] → Moved b c q r [] (take n g) → EchoedFront a c p r
echoed_part a b c p q r g n within gives takes =
    let e : length (take n g) ≡ n = omega (arith, length-take n g, within) in
    record {
      given = g;
      taken = take n g;
      front = sym (ap (λ k. take k g) e);
      moved = echoed_moved a b c p q r g n gives takes;
    }

pub whole_none : (a : Option LinkTold) (p : Option Carried) → EchoedWhole a a p p
whole_none a p = record { bytes = []; moved = moved_none a p }

pub whole_more : (a b c : Option LinkTold) (p q r : Option Carried) → EchoedWhole a b p q → EchoedWhole b c q r → EchoedWhole a c p r
whole_more a b c p q r x y = record { bytes = x.bytes ++ y.bytes; moved = moved_more a b c p q r x.bytes x.bytes y.bytes y.bytes x.moved y.moved }

pub front_more : (a b c : Option LinkTold) (p q r : Option Carried) → EchoedWhole a b p q → EchoedFront b c q r → EchoedFront a c p r
front_more a b c p q r x y = record {
  given = x.bytes ++ y.given;
  taken = x.bytes ++ y.taken;
  front =
      ap (λ l. x.bytes ++ l) y.front
      ∙ sym (take-append-add x.bytes y.given (length y.taken))
      ∙ ap (λ n. take n (x.bytes ++ y.given)) (sym (length-append x.bytes y.taken));
  moved = moved_more a b c p q r x.bytes x.bytes y.given y.taken x.moved y.moved;
}

pub all_none : (told : Option DialerTold) → EchoedAll told told
all_none None = tt
all_none (Some t) = record { more = []; back = sym (append-nil t.back); echoes = All-nil IsEcho; left = sym (add-zero t.left) }

-- a link that had carried nothing, and then echoed
pub is_echo : (a b : Option LinkTold) (p q : Option Carried) → CarriedNothing p → IsTrue (is_some p) → EchoedFront a b p q → IsEcho q
is_echo a b None q fresh tells echoed = absurd (false≢true tells)
is_echo a b (Some c) q fresh tells echoed =
    let e : q ≡ Some (record { given = echoed.given; taken = echoed.taken }) = echoed.moved.carries ∙ (λ i. Some (record { given = fresh.0 i ++ echoed.given; taken = fresh.1 i ++ echoed.taken })) in
    subst IsEcho (sym e) echoed.front

abbrev pub fewer : DialerTold → DialerTold
fewer t = record t { left = t.left - 1 }

all_grown : (a b : DialerTold) (q : Option Carried) → AllEchoed a b → IsEcho q → 0 < b.left → AllEchoed a (returned q (fewer b))
all_grown a b q so_far is left = record {
  more = so_far.more ++ q ∷ [];
  back = ap (λ l. l ++ q ∷ []) so_far.back ∙ append_assoc a.back so_far.more (q ∷ []);
  echoes = All-append IsEcho so_far.more (q ∷ []) so_far.echoes (All-cons IsEcho q [] is (All-nil IsEcho));
  left = omega (arith, so_far.left, left, length-append so_far.more (q ∷ []));
}

-- one more connection that was an echo
pub one_more_echoed : (a b c d : Option DialerTold) (q : Option Carried) → EchoedAll a b → c ≡ option_map fewer b → d ≡ option_map (returned q) c → (IsTrue (is_some b) → IsEcho q) → IfSome b (λ t. 0 < t.left) → EchoedAll a d
one_more_echoed a b c d q so_far next back is left = subst (EchoedAll a) (sym (back ∙ ap (option_map (returned q)) next)) (step a b q so_far is left)
  where
    step : (a b : Option DialerTold) (q : Option Carried) → EchoedAll a b → (IsTrue (is_some b) → IsEcho q) → IfSome b (λ t. 0 < t.left) → EchoedAll a (option_map (returned q) (option_map fewer b))
    step None None q so_far is left = tt
    step None (Some b) q so_far is left = absurd so_far
    step (Some a) None q so_far is left = absurd so_far
    step (Some a) (Some b) q so_far is left = all_grown a b q so_far (is refl) left
