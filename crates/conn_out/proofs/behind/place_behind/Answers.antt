use Rattle.std.proofs.Common.{◌≡◌, inl, ℕ, ◌+◌, ◌-◌, drop, refl, subst, ◌∙◌, arith}
use Rattle.jr_dated.specs.Dated.{stamped}
use Rattle.conn_out.specs.Messages.{messages_in}
use Rattle.conn_out.proofs.Places.{AreBehind, read_told, behind_one, place_at, same_on}
use Rattle.conn_out.proofs.behind.place_behind.Goals as goal

pub returns-then-is_up_to-clause-behind : goal.returns-then-is_up_to-clause-behind
returns-then-is_up_to-clause-behind g c = λ h told st.
    place_at h c.loop-at.at (c.loop-at.at - 1) c.args.last c.in-Ok.r refl
    (read_told g.J.Journal.stands c.loop-at.journal h (c.loop-at.at - 1) (stamped c.in-Ok._moment c.in-Ok.r)
    (λ k is_k. g.met.J.Journal.one c.loop-at.journal k h (c.loop-at.invariant.is_told told) c.loop-at.invariant.sound is_k
    ((c.loop-at.invariant.unchanged.records h).0 st)) c.in-Ok.ensures.found)
    (c.if-is_up_to.ensures.tells refl) (c.loop-at.invariant.none h told st)

pub returns-clause-behind : goal.returns-clause-behind
returns-clause-behind g c = λ h told st.
    let e : c.loop-at.at ≡ 0 = omega (arith, c.loop-at-test.false) in
    record { none = subst (λ (k : ℕ). AreBehind c.args.last (messages_in (drop k h))) e (c.loop-at.invariant.none h told st); before = inl refl }

pub loop-at-preserved-else-is_up_to : goal.loop-at-preserved-else-is_up_to
loop-at-preserved-else-is_up_to g c =
    record {
      within = omega (arith, c.loop-at.invariant.within);
      sound = c.in-Ok.ensures.breaks;
      is_told = λ told. c.in-Ok.ensures.told (c.loop-at.invariant.is_told told);
      unchanged = same_on g.J.Journal.stands g.J.Journal.leaves c.args.journal.now c.loop-at.journal c.read.new.self
          c.loop-at.invariant.unchanged c.in-Ok.ensures.unchanged;
      count = c.in-Ok.ensures.sizes.0 ∙ c.loop-at.invariant.count;
      size = c.in-Ok.ensures.sizes.1 ∙ c.loop-at.invariant.size;
      moment = c.in-Ok.ensures.moment ∙ c.loop-at.invariant.moment;
      limits = c.in-Ok.ensures.limits ∙ c.loop-at.invariant.limits;
      none = λ h told st.
          let e : c.loop-at.at ≡ c.loop-at.at - 1 + 1 = omega (arith, c.loop-at-test.true) in
          behind_one h (c.loop-at.at - 1) c.args.last c.in-Ok.r
          (read_told g.J.Journal.stands c.loop-at.journal h (c.loop-at.at - 1) (stamped c.in-Ok._moment c.in-Ok.r)
          (λ k is_k. g.met.J.Journal.one c.loop-at.journal k h (c.loop-at.invariant.is_told told) c.loop-at.invariant.sound is_k
          ((c.loop-at.invariant.unchanged.records h).0 st)) c.in-Ok.ensures.found)
          (c.if-is_up_to.ensures.none refl) (subst (λ (k : ℕ). AreBehind c.args.last (messages_in (drop k h))) e (c.loop-at.invariant.none h told st));
      counted = omega (arith, c.loop-at.invariant.counted, c.in-Ok.ensures.never_falls);
    }

pub loop-at-preserved-else-is_up_to-2 : goal.loop-at-preserved-else-is_up_to-2
loop-at-preserved-else-is_up_to-2 g c =
    record {
      within = omega (arith, c.loop-at.invariant.within);
      sound = c.in-Ok.ensures.breaks;
      is_told = λ told. c.in-Ok.ensures.told (c.loop-at.invariant.is_told told);
      unchanged = same_on g.J.Journal.stands g.J.Journal.leaves c.args.journal.now c.loop-at.journal c.read.new.self
          c.loop-at.invariant.unchanged c.in-Ok.ensures.unchanged;
      count = c.in-Ok.ensures.sizes.0 ∙ c.loop-at.invariant.count;
      size = c.in-Ok.ensures.sizes.1 ∙ c.loop-at.invariant.size;
      moment = c.in-Ok.ensures.moment ∙ c.loop-at.invariant.moment;
      limits = c.in-Ok.ensures.limits ∙ c.loop-at.invariant.limits;
      none = λ h told st.
          let e : c.loop-at.at ≡ c.loop-at.at - 1 + 1 = omega (arith, c.loop-at-test.true) in
          behind_one h (c.loop-at.at - 1) c.args.last c.in-Ok.r
          (read_told g.J.Journal.stands c.loop-at.journal h (c.loop-at.at - 1) (stamped c.in-Ok._moment c.in-Ok.r)
          (λ k is_k. g.met.J.Journal.one c.loop-at.journal k h (c.loop-at.invariant.is_told told) c.loop-at.invariant.sound is_k
          ((c.loop-at.invariant.unchanged.records h).0 st)) c.in-Ok.ensures.found)
          (c.if-is_up_to.ensures.none refl) (subst (λ (k : ℕ). AreBehind c.args.last (messages_in (drop k h))) e (c.loop-at.invariant.none h told st));
      counted = omega (arith, c.loop-at.invariant.counted, c.in-Ok.ensures.never_falls);
    }

pub loop-at-preserved : goal.loop-at-preserved
loop-at-preserved g c =
    record {
      within = omega (arith, c.loop-at.invariant.within);
      sound = c.in-Ok.ensures.breaks;
      is_told = λ told. c.in-Ok.ensures.told (c.loop-at.invariant.is_told told);
      unchanged = same_on g.J.Journal.stands g.J.Journal.leaves c.args.journal.now c.loop-at.journal c.read.new.self
          c.loop-at.invariant.unchanged c.in-Ok.ensures.unchanged;
      count = c.in-Ok.ensures.sizes.0 ∙ c.loop-at.invariant.count;
      size = c.in-Ok.ensures.sizes.1 ∙ c.loop-at.invariant.size;
      moment = c.in-Ok.ensures.moment ∙ c.loop-at.invariant.moment;
      limits = c.in-Ok.ensures.limits ∙ c.loop-at.invariant.limits;
      none = λ h told st.
          let e : c.loop-at.at ≡ c.loop-at.at - 1 + 1 = omega (arith, c.loop-at-test.true) in
          behind_one h (c.loop-at.at - 1) c.args.last c.in-Ok.r
          (read_told g.J.Journal.stands c.loop-at.journal h (c.loop-at.at - 1) (stamped c.in-Ok._moment c.in-Ok.r)
          (λ k is_k. g.met.J.Journal.one c.loop-at.journal k h (c.loop-at.invariant.is_told told) c.loop-at.invariant.sound is_k
          ((c.loop-at.invariant.unchanged.records h).0 st)) c.in-Ok.ensures.found)
          (c.if-is_up_to.ensures.none refl) (subst (λ (k : ℕ). AreBehind c.args.last (messages_in (drop k h))) e (c.loop-at.invariant.none h told st));
      counted = omega (arith, c.loop-at.invariant.counted, c.in-Ok.ensures.never_falls);
    }
