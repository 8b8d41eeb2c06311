-- What the links carried that came back to an end, connection by connection.
use Rattle.std.proofs.Common.{◌≡◌, ◌⊎◌, inl, inr, ℕ, true, List, [], ◌∷◌, ◌++◌, Option, Some, None, Result, sym, ap, subst, append-nil}
use Rattle.std.specs.Prelude.{All, IsTrue, is_some}
use Rattle.std.specs.List.{AllZip, flat_map}
use Rattle.std.proofs.lemmas.List.Elements.{All-head, All-tail}
use Rattle.std.proofs.lemmas.Grind.{flat_map-append}
use mathlib.Core.List.{IsPrefix}
use Rattle.fixp_shake.specs.declared.config.EndConfig.{EndConfig}
use Rattle.fixp_shake.specs.declared.config.Role.{Role}
use Rattle.gw_links.specs.Links.{Carried}
use Rattle.turn_laws.specs.Legs.{TurnedLeg, given_on, sent_on}
use Rattle.two_ends.specs.Loops.{IsStrangeTo, LinkedLinks}
use Rattle.two_ends.specs.Loops as links
use Rattle.jr_dated.specs.declared.journal.Journal.{Ghosts}
use Rattle.cmd_base.specs.declared.status.Status.{Status}
use Rattle.cmd_config.specs.declared.configuration.Configuration.{Configuration}
use Rattle.jr_kept.specs.declared.inbox.Inbox.{Inbox}
use Rattle.conn_door.specs.declared.answer.ServeFault.{ServeFault}
use Rattle.conn_serve.specs.Connections.{Connection, turned, all_of}
use Rattle.conn_serve.specs.Served.{IsTold, carried_by}
use Rattle.life_laws.specs.Plans.{Senders, submitting}
use Rattle.cmd_session.specs.Answers.{answerers}
use Rattle.cmd_session.specs.Inputs.{end_of}
use Rattle.cmd_session.specs.Lived.{LeftAll, LivedOver, HasLivedOver, Lived}
use Rattle.cmd_session.specs.Outsides.{Sees}
use Rattle.cmd_session.specs.Steps.{StopsAtInput, EndsBehindConfig, Steps}
use Rattle.cmd_session.specs.declared.outside.SessionOutside.{SessionOutside}
use Rattle.cmd_feed.specs.declared.outside.FeedOutside.{FeedOutside}
use Rattle.cmd_feed.specs.Outsides.{FeedSees, session_of}
use Rattle.cmd_feed.specs.Steps.{Steps as FedSteps}
use Rattle.run_laws.specs.Several.{Run, Flows, brought_by, brought, RunsOver, IsRun, WasRun}
use Rattle.run_laws.specs.FedLives.{fed_life}
use Rattle.run_laws.specs.Linked.{GaveOf, GaveStrange, LinkedCarried, no_more, left_alone, right_alone, paired, CarriedOn}
use Rattle.run_laws.proofs.Joined.{all_carried, brought_all, brought_none}
use Rattle.run_laws.proofs.Ways.{Unlived, config_kept, boxes_kept, input_kept, unbegun_kept}
use Rattle.run_laws.proofs.Fed.{over_before, by_fed_life}
use Rattle.run_laws.specs.TimedRuns.{Served, served_of, served_in_life, served_behind_input, served_behind_config, served_in, served_fed, served_of_run, served_over, legs_of}

-- a link that tells it carried what the turns of its connection say, and tells
abbrev pub CarriedTold : Option Carried → TurnedLeg → Type 0
CarriedTold c t = CarriedOn c t × (is_some c ≡ true)

told_append : (as' bs : List (Option Carried)) (ts us : List TurnedLeg) → AllZip CarriedTold as' ts → AllZip CarriedTold bs us → AllZip CarriedTold (as' ++ bs) (ts ++ us)
told_append [] bs [] us x y = y
told_append [] bs (t ∷ ts) us x y = absurd x
told_append (a ∷ as') bs [] us x y = absurd x
told_append (a ∷ as') bs (t ∷ ts) us x y = (x.0, told_append as' bs ts us x.1 y)

all_told : (cs : List Connection) → AllZip CarriedOn (carried_by cs) (turned cs) → All IsTold cs → AllZip CarriedTold (carried_by cs) (turned cs)
all_told [] x told = tt
all_told (c ∷ later) x told = ((x.0, All-head IsTold c later told), all_told later x.1 (All-tail IsTold c later told))

module _ {S K D N C : Type 0} (sees : Sees S K D N C) (before after : SessionOutside S K D N C) where
  abbrev Brought : List Served → Type 0
  Brought lives = AllZip CarriedTold (brought_by (sees.carried before.dialer) (sees.carried after.dialer)) (legs_of lives)

  unlived_brought : Unlived sees before after → Brought []
  unlived_brought kept = subst (λ (cs : List (Option Carried)). AllZip CarriedTold cs []) (sym (brought_none (sees.carried before.dialer) (sees.carried after.dialer) (ap sees.carried kept.dialer_is))) tt

  lived_brought : {J : Type 0} {G : Ghosts J} {config : EndConfig} {senders : Senders} {old new : Inbox J G} {result : Result (Unit {0}) ServeFault} (v : LivedOver sees config senders before after old new result)
      → is_some (sees.carried before.dialer) ≡ true → Brought (served_of _ _ _ _ v.served.life ∷ [])
  lived_brought v told =
      let k = v.served.life in
      let cs : List Connection = all_of k.ended k.given_up in
      subst (λ (xs : List (Option Carried)). AllZip CarriedTold xs (turned cs ++ [])) (sym (brought_all (sees.carried before.dialer) (sees.carried after.dialer) (carried_by cs) told k.came))
      (subst (λ (ts : List TurnedLeg). AllZip CarriedTold (carried_by cs) ts) (sym (append-nil (turned cs)))
      (all_told cs (all_carried v.opening k.behind v.seen _ k.mid k.ended k.given_up k.were k.gave_up) (k.tells told)))

module _ {S K D N C J : Type 0} (G : Ghosts J) (sees : Sees S K D N C) (role : Role) (before after : SessionOutside S K D N C) (status : Status) (told : is_some (sees.carried before.dialer) ≡ true) where
  abbrev Came : List Served → Type 0
  Came lives = Brought sees before after lives

  none_brought : Unlived sees before after → Came []
  none_brought kept = unlived_brought sees before after kept

  by_life : (config : EndConfig) (senders : Senders) (l : LeftAll sees before after status ⊎ HasLivedOver G sees config senders before after status)
      → Came (served_in_life G sees role before after status config senders l)
  by_life config senders (inl left) = none_brought (unbegun_kept sees before after status left)
  by_life config senders (inr lived) = lived_brought sees before after lived.over told

  by_input : (c : Configuration) (l : StopsAtInput sees c.trade.senders before after status ⊎ Lived G sees c.trade.senders (end_of role c.link) before after status)
      → Came (served_behind_input G sees role before after status c l)
  by_input c (inl refused) = none_brought (input_kept sees before after status c.trade.senders refused)
  by_input c (inr life) = by_life (end_of role c.link) (submitting life.plans) life.lived

  by_config : (c : Configuration) (l : EndsBehindConfig G sees role c before after status) → Came (served_behind_config G sees role before after status c l)
  by_config c (inl refused) = none_brought (boxes_kept sees before after status role c refused)
  by_config c (inr (inl on)) = by_input c on.1.ended
  by_config c (inr (inr on)) = by_life (end_of role c.link) (answerers c.trade) on.1.lived.lived

  pub steps_brought : (s : Steps G sees role before after status) → Came (served_in G sees role before after status s)
  steps_brought (inl stopped) = none_brought (config_kept sees before after status role stopped)
  steps_brought (inr was) = by_config was.configuration was.ended

module _ {S I K A D N C J : Type 0} (G : Ghosts J) (sees : FeedSees S I K A D N C) (role : Role) where
  fed_brought : (before after : FeedOutside S I K A D N C) (status : Status) → ((d : D) → IsTrue (is_some (sees.session.told d))) → is_some (sees.session.carried before.dialer) ≡ true → (s : FedSteps G sees role before after status)
      → Brought sees.session (session_of before) (session_of after) (served_fed G sees role before after status (fed_life G sees role before after status s))
  fed_brought before after status tells told s = by_fed_life G sees role before after status tells
      (λ l. Brought sees.session (session_of before) (session_of after) (served_fed G sees role before after status l))
      (λ kept. unlived_brought sees.session (session_of before) (session_of after) kept)
      (λ l. lived_brought sees.session (session_of (record before { out = l.begun })) (session_of after) (over_before G sees role before after status tells l) told) s

  pub run_brought : (r : Run S K D N C) → is_some (sees.session.carried r.before.dialer) ≡ true → (s : IsRun G sees role r) → Brought sees.session r.before r.after (served_of_run G sees role r s)
  run_brought r told (inl steps) = steps_brought G sees.session role r.before r.after r.status told steps
  run_brought r told (inr fed) =
      let lives : List Served = served_fed G sees role fed.before fed.after r.status (fed_life G sees role fed.before fed.after r.status fed.steps) in
      subst (λ (b : SessionOutside S K D N C). Brought sees.session b r.after lives) (sym fed.begins)
      (subst (λ (a : SessionOutside S K D N C). Brought sees.session (session_of fed.before) a lives) (sym fed.ends)
      (fed_brought fed.before fed.after r.status fed.tells (subst (λ (b : SessionOutside S K D N C). is_some (sees.session.carried b.dialer) ≡ true) fed.begins told) fed.steps))

legs_append : (xs ys : List Served) → legs_of (xs ++ ys) ≡ legs_of xs ++ legs_of ys
legs_append xs ys = flat_map-append (λ (s : Served). turned (all_of s.ended s.given_up)) xs ys

module _ {S I K A D N C J : Type 0} (G : Ghosts J) (sees : FeedSees S I K A D N C) (role : Role) (flows : Flows) (outbox inbox : List ℕ) where
  pub runs_brought : (runs : List (Run S K D N C)) (outboxes inboxes : List ℕ → Type 0) (o : RunsOver sees.session (WasRun G sees role flows) runs outboxes inboxes outbox inbox)
      → AllZip CarriedTold (flat_map (brought sees.session) runs) (legs_of (served_over G sees role flows outbox inbox runs outboxes inboxes o))
  runs_brought [] outboxes inboxes o = tt
  runs_brought (r ∷ later) outboxes inboxes o =
      let here : List Served = served_of_run G sees role r o.2.steps in
      let rest : List Served = served_over G sees role flows outbox inbox later (sees.session.may_leave r.after.out_disk) (sees.session.may_leave r.after.in_disk) o.3 in
      subst (λ (ts : List TurnedLeg). AllZip CarriedTold (brought sees.session r ++ flat_map (brought sees.session) later) ts) (sym (legs_append here rest))
      (told_append (brought sees.session r) (flat_map (brought sees.session) later) (legs_of here) (legs_of rest) (run_brought G sees role r o.2.links o.2.steps)
      (runs_brought later (sees.session.may_leave r.after.out_disk) (sees.session.may_leave r.after.in_disk) o.3))

-- links whose turns are linked are linked by what they carried
gave_so : (configs : List EndConfig) (a : Option Carried) (t : TurnedLeg) → CarriedTold a t → IsStrangeTo configs (given_on t) → GaveStrange configs a
gave_so configs None t k given = absurd (cc (k.1))
gave_so configs (Some c) t k given = subst (IsStrangeTo configs) (sym k.0.0) given

gave_of : (a b : Option Carried) (t u : TurnedLeg) → CarriedTold a t → CarriedTold b u → IsPrefix (given_on t) (sent_on u) → GaveOf a b
gave_of None b t u x y from = absurd (cc (x.1))
gave_of (Some c) None t u x y from = absurd (cc (y.1))
gave_of (Some c) (Some d) t u x y from = subst (λ (bs : List ℕ). IsPrefix bs d.taken) (sym x.0.0) (subst (λ (bs : List ℕ). IsPrefix (given_on t) bs) (sym y.0.1) from)

pub linked_are_carried : (A B : List EndConfig) (as' bs : List (Option Carried)) (ts us : List TurnedLeg) → AllZip CarriedTold as' ts → AllZip CarriedTold bs us
    → LinkedLinks A B ts us → LinkedCarried A B as' bs
linked_are_carried A B [] [] [] [] x y links.LinkedLinks.no_more = no_more
linked_are_carried A B (a ∷ as') bs [] us x y l = absurd x
linked_are_carried A B as' (b ∷ bs) ts [] x y l = absurd y
linked_are_carried A B [] bs (t ∷ ts) us x y (links.LinkedLinks.left_alone given rest) = absurd x
linked_are_carried A B (a ∷ as') bs (t ∷ ts) us x y (links.LinkedLinks.left_alone given rest) = left_alone (gave_so A a t x.0 given) (linked_are_carried A B as' bs ts us x.1 y rest)
linked_are_carried A B as' [] ts (u ∷ us) x y (links.LinkedLinks.right_alone given rest) = absurd y
linked_are_carried A B as' (b ∷ bs) ts (u ∷ us) x y (links.LinkedLinks.right_alone given rest) = right_alone (gave_so B b u y.0 given) (linked_are_carried A B as' bs ts us x y.1 rest)
linked_are_carried A B [] bs (t ∷ ts) (u ∷ us) x y (links.LinkedLinks.paired f g rest) = absurd x
linked_are_carried A B (a ∷ as') [] (t ∷ ts) (u ∷ us) x y (links.LinkedLinks.paired f g rest) = absurd y
linked_are_carried A B (a ∷ as') (b ∷ bs) (t ∷ ts) (u ∷ us) x y (links.LinkedLinks.paired f g rest) =
    paired (gave_of a b t u x.0 y.0 f) (gave_of b a u t y.0 x.0 g) (linked_are_carried A B as' bs ts us x.1 y.1 rest)
