-- Connections whose links are linked are linked.
use Rattle.std.proofs.Common.{◌≡◌, ℕ, true, List, [], ◌∷◌, ◌++◌, length, drop, Option, Some, None, refl, sym, ap, subst, ◌∙◌, append-nil}
use Rattle.std.specs.Prelude.{is_some}
use Rattle.std.proofs.lemmas.Bool.{false≢true}
use Rattle.std.specs.List.{AllZip}
use Rattle.std.proofs.lemmas.List.{map-append}
use mathlib.Core.List.{IsPrefix}
use Rattle.session_model.specs.Journal.{History}
use Rattle.session_model.proofs.Lists.{drop_length}
use Rattle.fixp_shake.specs.declared.config.EndConfig.{EndConfig}
use Rattle.fixp_machine.specs.Machine.{State}
use Rattle.gw_links.specs.Links.{Carried}
use Rattle.gw_links.specs.Dialers.{DialerTold}
use Rattle.turn_laws.specs.Legs.{TurnedLeg, given_on, sent_on}
use Rattle.two_ends.specs.Loops.{IsStrangeTo, LinkedLinks}
use Rattle.two_ends.specs.Loops
use Rattle.conn_serve.specs.Connections.{Connection, turned, all_of, AllEnded}
use Rattle.conn_serve.specs.Served.{AllCame, carried_by, WasGivenUp}
use Rattle.run_laws.specs.Several.{brought_by}
use Rattle.run_laws.specs.Linked.{GaveOf, GaveStrange, no_more, left_alone, right_alone, paired, CarriedOn, CarriedAreLinked}

gave : (configs : List EndConfig) (a : Option Carried) (t : TurnedLeg) → CarriedOn a t → GaveStrange configs a → IsStrangeTo configs (given_on t)
gave configs None t k given = absurd given
gave configs (Some c) t k given = subst (IsStrangeTo configs) k.0 given

gave_of : (a b : Option Carried) (t u : TurnedLeg) → CarriedOn a t → CarriedOn b u → GaveOf a b → IsPrefix (given_on t) (sent_on u)
gave_of None b t u x y from = absurd from
gave_of (Some c) None t u x y from = absurd from
gave_of (Some c) (Some d) t u x y from = subst (λ (bs : List ℕ). IsPrefix bs (sent_on u)) x.0 (subst (λ (bs : List ℕ). IsPrefix c.given bs) y.1 from)

pub carried_are_linked : CarriedAreLinked
carried_are_linked A B [] [] [] [] x y no_more = Loops.LinkedLinks.no_more
carried_are_linked A B [] [] (t ∷ ts) us x y no_more = absurd x
carried_are_linked A B [] [] ts (u ∷ us) x y no_more = absurd y
carried_are_linked A B (a ∷ as') bs [] us x y (left_alone given rest) = absurd x
carried_are_linked A B (a ∷ as') bs (t ∷ ts) us x y (left_alone given rest) = Loops.LinkedLinks.left_alone (gave A a t x.0 given) (carried_are_linked A B as' bs ts us x.1 y rest)
carried_are_linked A B as' (b ∷ bs) ts [] x y (right_alone given rest) = absurd y
carried_are_linked A B as' (b ∷ bs) ts (u ∷ us) x y (right_alone given rest) = Loops.LinkedLinks.right_alone (gave B b u y.0 given) (carried_are_linked A B as' bs ts us x y.1 rest)
carried_are_linked A B (a ∷ as') (b ∷ bs) [] us x y (paired f g rest) = absurd x
carried_are_linked A B (a ∷ as') (b ∷ bs) (t ∷ ts) [] x y (paired f g rest) = absurd y
carried_are_linked A B (a ∷ as') (b ∷ bs) (t ∷ ts) (u ∷ us) x y (paired f g rest) =
    Loops.LinkedLinks.paired (gave_of a b t u x.0 y.0 f) (gave_of b a u t y.0 x.0 g) (carried_are_linked A B as' bs ts us x.1 y.1 rest)

-- ---- what the links of a life carried

pub zip_append : (as' bs : List (Option Carried)) (ts us : List TurnedLeg) → AllZip CarriedOn as' ts → AllZip CarriedOn bs us → AllZip CarriedOn (as' ++ bs) (ts ++ us)
zip_append [] bs [] us x y = y
zip_append [] bs (t ∷ ts) us x y = absurd x
zip_append (a ∷ as') bs [] us x y = absurd x
zip_append (a ∷ as') bs (t ∷ ts) us x y = (x.0, zip_append as' bs ts us x.1 y)

ended_carried : (before after : History) (m new : State) (cs : List Connection) → AllEnded before after m new cs → AllZip CarriedOn (carried_by cs) (turned cs)
ended_carried before after m new [] all = tt
ended_carried before after m new (c ∷ later) all = (all.2.carried, ended_carried all.0 after all.1 new later all.3)

pub all_carried : (before behind seen : History) (m new : State) (ended : List Connection) (given_up : Option Connection) → AllEnded before behind m new ended
    → WasGivenUp behind seen new given_up → AllZip CarriedOn (carried_by (all_of ended given_up)) (turned (all_of ended given_up))
all_carried before behind seen m new ended None all k = subst (λ (cs : List Connection). AllZip CarriedOn (carried_by cs) (turned cs)) (sym (append-nil ended)) (ended_carried before behind m new ended all)
all_carried before behind seen m new ended (Some c) all k =
    subst (λ (xs : List (Option Carried)). AllZip CarriedOn xs (turned (ended ++ c ∷ []))) (sym (map-append (λ (d : Connection). d.carried) ended (c ∷ [])))
    (subst (λ (ts : List TurnedLeg). AllZip CarriedOn (carried_by ended ++ c.carried ∷ []) ts) (sym (map-append (λ (d : Connection). d.leg) ended (c ∷ [])))
    (zip_append (carried_by ended) (c.carried ∷ []) (turned ended) (c.leg ∷ []) (ended_carried before behind m new ended all) (k.3, tt)))

-- a dialer that tells its links brought those that came back to it, and nothing where it is as it was
pub brought_all : (old new : Option DialerTold) (more : List (Option Carried)) → is_some old ≡ true → AllCame old new more → brought_by old new ≡ more
brought_all None new more told came = absurd (false≢true told)
brought_all (Some old) None more told came = absurd came
brought_all (Some old) (Some new) more told came = ap (λ (xs : List (Option Carried)). drop (length old.back) xs) came.back ∙ drop_length old.back more

pub brought_none : (old new : Option DialerTold) → new ≡ old → brought_by old new ≡ []
brought_none old new same = subst (λ (t : Option DialerTold). brought_by old t ≡ []) (sym same) (itself old)
  where
    itself : (t : Option DialerTold) → brought_by t t ≡ []
    itself None = refl
    itself (Some told) = ap (λ (xs : List (Option Carried)). drop (length told.back) xs) (sym (append-nil told.back)) ∙ drop_length told.back []
