-- What each call makes of what is held.
use Rattle.std.proofs.Common.{◌≡◌, ℕ, ◌+◌, ◌-◌, ◌<◌, ◌≤◌, ◌^◌, ◌==◌, Bool, true, false, if◌then◌else◌, List, [], ◌∷◌, drop, Option, Some, None, IsSome, refl, sym, ap, subst, ◌∙◌, arith, eqb-true, true≢false}
use Rattle.std.specs.Prelude.{⊤, IfSome}
use Rattle.std.specs.List.{AllByRecursion}
use Rattle.std.proofs.lemmas.Bool.{eqb-false, false≢true}
use Rattle.std.proofs.lemmas.Option.{none-some}
use Rattle.session_model.specs.Inbox.{Numbered, numbers_of, Ascending}
use Rattle.session_model.proofs.Lists.{all_weaker}
use Rattle.flow_recover.specs.Receiving.{reach}
use Rattle.flow_window.specs.Window.{holding, least, front, InReach}
use Rattle.flow_window.proofs.Reach.{all_holding}
use Rattle.flow_window.proofs.Staying.{holding_in_reach, past_in_reach}
use Rattle.fixp_shake.specs.declared.config.EndConfig.{EndConfig}
use Rattle.fixp_shake.specs.Flows.{is_recoverable}
use Rattle.fixp_replies.specs.declared.act.Act.{Act}
use Rattle.fixp_replies.specs.declared.act.Act.TheVariants as acts
use Rattle.fixp_replies.specs.declared.act.Ending.{Ending}
use Rattle.fixp_replies.specs.declared.facts.Facts.{Facts}
use Rattle.fixp_replies.specs.Outcomes.{Outcome}
use Rattle.fixp_replies.specs.Facts.{Around}
use Rattle.fixp_replies.specs.Incoming.{Incoming, payload_in}
use Rattle.fixp_replies.specs.Replies.{reply_of}
use Rattle.fixp_machine.proofs.Keeping.{sound_goes_on}
use Rattle.fixp_machine.proofs.Holding.{holding_goes_on}
use Rattle.fixp_machine.specs.Sound.{Sound, Advances, KeepsSound, HeldFits, MayHold, KeepsHeld}
use Rattle.fixp_machine.specs.Machine.{held_until, held_with, past_held, Windowed, WindowGoesOn}

nothing_in_reach : (n : ℕ) → InReach n []
nothing_in_reach n = record { rising = tt; near = tt }

-- nothing is held
pub windowed_empty : (cfg : EndConfig) (top : ℕ) (f : Facts) (ending : Option Ending) → Windowed cfg top f ending []
windowed_empty cfg top f ending = record {
  fits = record { opening = λ _. refl; soft = λ _. refl };
  other = λ _. refl;
  over = λ _. refl;
  reach = nothing_in_reach f.recorded.inbox_next;
  most = tt;
}

-- the inbox goes on by one message at most, which is not held
moved_in_reach : (n k : ℕ) (ms : List Numbered) → n ≤ k → k ≤ n + 1 → InReach n ms → front n ms ≡ None → InReach k ms
moved_in_reach n k ms low high all none = by_test (k == n) refl
  where
    by_test : (b : Bool) → (k == n) ≡ b → InReach k ms
    by_test true e = subst (λ j. InReach j ms) (sym (eqb-true k n e)) all
    by_test false e =
        let past : n + 1 ≡ k = omega (arith, low, high, eqb-false k n e) in
        subst (λ j. InReach j ms) past (past_in_reach n ms all none)

-- an outcome takes effect, and nothing more is held
pub replied : (cfg : EndConfig) (top : ℕ) (f : Facts) (o : Outcome) (ending : Option Ending) (held : List Numbered)
    → Windowed cfg top f ending held → front f.recorded.inbox_next held ≡ None → KeepsHeld cfg top f o → Windowed cfg top o.next None held
replied cfg top f o ending held w none k = record {
  fits = k.fits (least held) w.fits;
  other = w.other;
  over = λ some. absurd (false≢true some);
  reach = by_flow (is_recoverable cfg.peer_flow) refl;
  most = w.most;
}
  where
    by_flow : (b : Bool) → is_recoverable cfg.peer_flow ≡ b → InReach o.next.recorded.inbox_next held
    by_flow true e = let s = k.steps e in moved_in_reach f.recorded.inbox_next o.next.recorded.inbox_next held s.0 s.1 w.reach none
    by_flow false e = subst (λ (ms : List Numbered). InReach o.next.recorded.inbox_next ms) (sym (w.other e)) (nothing_in_reach o.next.recorded.inbox_next)

-- a message more is held
held_too : (cfg : EndConfig) (top : ℕ) (f : Facts) (o : Outcome) (ending : Option Ending) (held : List Numbered) (n : ℕ) (p : List ℕ)
    → Windowed cfg top f ending held → KeepsSound cfg top f o → MayHold cfg top f o n → Windowed cfg top o.next None (holding n p held)
held_too cfg top f o ending held n p w s m =
    let same : o.next.recorded.inbox_next ≡ f.recorded.inbox_next = subst (λ (a : Act). Advances a f.recorded.inbox_next o.next.recorded.inbox_next) m.act s.advances in
    record {
      fits = record { opening = λ b. absurd (true≢false (sym m.shaken_still ∙ b)); soft = λ t. absurd (true≢false (sym t ∙ m.firm)) };
      other = λ r. absurd (true≢false (sym m.flow ∙ r));
      over = λ some. absurd (false≢true some);
      reach = subst (λ k. InReach k (holding n p held)) (sym same)
          (holding_in_reach f.recorded.inbox_next n p held (let a = m.above in omega (arith, a)) m.near w.reach);
      most = all_holding (λ k. k ≤ top) n p held m.within w.most;
    }

-- a frame's outcome takes effect
pub framed : (cfg : EndConfig) (top : ℕ) (f : Facts) (o : Outcome) (ending : Option Ending) (held : List Numbered) (p : List ℕ)
    → Windowed cfg top f ending held → front f.recorded.inbox_next held ≡ None → KeepsSound cfg top f o → KeepsHeld cfg top f o
    → Windowed cfg top o.next None (held_with o.holds p held)
framed cfg top f o ending held p w none s k = by_number o.holds k.holds
  where
    by_number : (h : Option ℕ) → IfSome h (λ n. MayHold cfg top f o n) → Windowed cfg top o.next None (held_with h p held)
    by_number None m = replied cfg top f o ending held w none k
    by_number (Some n) m = held_too cfg top f o ending held n p w s m

-- and where the connection ends, nothing is held any more
pub until : (cfg : EndConfig) (top : ℕ) (f : Facts) (ending : Option Ending) (held : List Numbered) → Windowed cfg top f None held → Windowed cfg top f ending (held_until ending held)
until cfg top f None held w = w
until cfg top f (Some e) held w = windowed_empty cfg top f (Some e)

-- the held message that the inbox awaits is the first
pub record IsFront (next : ℕ) (held : List Numbered) : Type 0 where
  pub first : Numbered
  pub later : List Numbered
  pub held_is : held ≡ first ∷ later
  pub number : first.number ≡ next
  pub front_is : front next held ≡ Some first

pub front_there : (next : ℕ) (held : List Numbered) → IsSome (front next held) → IsFront next held
front_there next [] some = absurd (false≢true some)
front_there next (m ∷ ms) some = by_test (m.number == next) refl some
  where
    by_test : (b : Bool) → (m.number == next) ≡ b → IsSome (if b then Some m else None) → IsFront next (m ∷ ms)
    by_test true e some = record { first = m; later = ms; held_is = refl; number = eqb-true m.number next e; front_is = ap (λ (b : Bool). if b then Some m else None) e }
    by_test false e some = absurd (false≢true some)

-- where something is held, the flow is recoverable, the handshake is done, and the connection is not soft
some_held : (m : Numbered) (ms held : List Numbered) → held ≡ m ∷ ms → held ≡ [] → ⊥
some_held m ms held is none = cc (is, none)

some_least : (m : Numbered) (ms held : List Numbered) → held ≡ m ∷ ms → least held ≡ None → ⊥
some_least m ms held is none = none-some m.number (sym none ∙ ap least is)

-- it is applied
pub past_sound : (cfg : EndConfig) (top : ℕ) (f : Facts) (ending : Option Ending) (held : List Numbered) → top < 2 ^ 40 → Sound cfg f → Windowed cfg top f ending held
    → (k : IsFront f.recorded.inbox_next held) → Sound cfg (past_held f k.first)
past_sound cfg top f ending held low s w k =
    let top_of : k.first.number ≤ top = (subst (λ (ms : List Numbered). AllByRecursion (λ n. n ≤ top) (numbers_of ms)) k.held_is w.most).0 in
    record {
      waits = λ t. omega (arith, s.waits t, k.number);
      even = λ t. absurd (some_held k.first k.later held k.held_is (w.other t));
      unread = s.unread;
      credentials = s.credentials;
      sent = s.sent;
      next = λ _. omega (arith, top_of, low);
      opening = λ n. absurd (some_least k.first k.later held k.held_is (w.fits.opening n));
      soft = λ t. absurd (some_least k.first k.later held k.held_is (w.fits.soft t));
      role = s.role;
    }

pub past_windowed : (cfg : EndConfig) (top : ℕ) (f : Facts) (ending : Option Ending) (held : List Numbered) → Windowed cfg top f ending held
    → (k : IsFront f.recorded.inbox_next held) → Windowed cfg top (past_held f k.first) ending (drop 1 held)
past_windowed cfg top f ending held w k = subst (λ (ms : List Numbered). Windowed cfg top (past_held f k.first) ending ms) (sym (ap (λ (ms : List Numbered). drop 1 ms) k.held_is)) (record {
  fits = record {
    opening = λ n. absurd (some_least k.first k.later held k.held_is (w.fits.opening n));
    soft = λ t. absurd (some_least k.first k.later held k.held_is (w.fits.soft t));
  };
  other = λ t. absurd (some_held k.first k.later held k.held_is (w.other t));
  over = λ t. absurd (some_held k.first k.later held k.held_is (w.over t));
  reach = record {
    rising = (subst (λ (ms : List Numbered). Ascending f.recorded.inbox_next (numbers_of ms)) k.held_is w.reach.rising).1;
    near = all_weaker (λ n. n ≤ f.recorded.inbox_next + reach) (λ n. n ≤ k.first.number + 1 + reach) (λ n h. omega (arith, h, k.number)) (numbers_of k.later)
        (subst (λ (ms : List Numbered). AllByRecursion (λ n. n ≤ f.recorded.inbox_next + reach) (numbers_of ms)) k.held_is w.reach.near).1;
  };
  most = (subst (λ (ms : List Numbered). AllByRecursion (λ n. n ≤ top) (numbers_of ms)) k.held_is w.most).1;
})

pub window_goes_on : WindowGoesOn
window_goes_on x f i ending held low s least_is w none =
    let o : Outcome = reply_of x f i in
    let k = holding_goes_on x f i s.waits in
    let sound = sound_goes_on x f i low s (subst (λ (h : Option ℕ). HeldFits h f) (sym least_is) w.fits) in
    record {
      before = until x.config x.most o.next o.ending held (replied x.config x.most f o ending held w none k);
      behind = until x.config x.most o.next o.ending (held_with o.holds (payload_in i) held) (framed x.config x.most f o ending held (payload_in i) w none sound k);
    }
