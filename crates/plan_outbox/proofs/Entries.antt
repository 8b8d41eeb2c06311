-- The entries of an outbox, read one after another.
use Rattle.std.specs.Prelude.{◌↔◌}
use Rattle.std.proofs.Common.{◌≡◌, ℕ, zero, suc, ◌+◌, Bool, true, false, List, [], ◌∷◌, ◌++◌, map, length, take, slice_get, Option, Some, refl, sym, ap, subst, ◌∙◌, arith, append-nil, add-one}
use Rattle.session_model.specs.Journal.{Entry, History, entry}
use Rattle.jr_record.specs.declared.record.Record.{Record}
use Rattle.jr_record.specs.declared.record.Record.TheVariants.{Finish}
use Rattle.jr_boxes.specs.Outboxes.{record_of, mark_of, records_of_history}
use Rattle.jr_dated.specs.declared.journal.Journal.{Ghosts}
use Rattle.jr_kept.specs.declared.outbox.Outbox.{Outbox}
use Rattle.jr_kept.specs.Outbox.{SameContent, limits_of, moment_of, faults_of}
use Rattle.plan_values.specs.declared.plan.Plan.{Plan}
use Rattle.plan_outbox.specs.declared.front.Front.{Front}
use Rattle.plan_outbox.specs.Progress.{AreFronts, WasRead}
use Rattle.plan_outbox.proofs.Agreeing.{fronts_same}

-- one record more at the front of a list
pub one_more : (rs : List Record) (n : ℕ) (r : Record) → slice_get rs n ≡ Some r → take (n + 1) rs ≡ take n rs ++ r ∷ []
one_more rs n r is = ap (λ (m : ℕ). take m rs) (add-one n) ∙ one_on rs n r is
  where
    one_on : (rs : List Record) (n : ℕ) (r : Record) → slice_get rs n ≡ Some r → take (suc n) rs ≡ take n rs ++ r ∷ []
    one_on [] n r is = absurd (cc)
    one_on (x ∷ rs) zero r is = let same : x ≡ r = cc in ap (λ (y : Record). y ∷ []) same
    one_on (x ∷ rs) (suc n) r is = ap (λ (ys : List Record). x ∷ ys) (one_on rs n r is)

-- behind the entries of a history stands its mark alone
entries_first : (made : List Entry) (b : Bool) → map record_of (map (λ (e : Entry). entry e) made ++ mark_of b) ≡ take (length made) (map record_of (map (λ (e : Entry). entry e) made ++ mark_of b)) ++ map record_of (mark_of b)
entries_first [] b = refl
entries_first (e ∷ made) b = ap (λ (rs : List Record). record_of (entry e) ∷ rs) (entries_first made b)

marked : (plans : List Plan) (fronts : List Front) (first : List Record) (b : Bool) → AreFronts plans first fronts → AreFronts plans (first ++ map record_of (mark_of b)) fronts
marked plans fronts first true a = fronts_same plans first fronts Finish (λ i lt. refl) a
marked plans fronts first false a = subst (λ (rs : List Record). AreFronts plans rs fronts) (sym (append-nil first)) a

-- which moves no front
pub all_entries : (plans : List Plan) (fronts : List Front) (h : History) (n : ℕ) → n ≡ length h.made → AreFronts plans (take n (records_of_history h)) fronts → AreFronts plans (records_of_history h) fronts
all_entries plans fronts h n is a = subst (λ (rs : List Record). AreFronts plans rs fronts) (sym (entries_first h.made h.finished))
    (marked plans fronts (take (length h.made) (records_of_history h)) h.finished (subst (λ (k : ℕ). AreFronts plans (take k (records_of_history h)) fronts) is a))

both : {P Q R : Type 0} → P ↔ Q → Q ↔ R → P ↔ R
both f g = (λ p. g.0 (f.0 p), λ r. f.1 (g.1 r))

module _ {J : Type 0} {G : Ghosts J} where
  pub not_read : (box : Outbox J G) → WasRead {J = J} {G = G} box box
  not_read box = record {
    content = record { stands = λ h. (λ x. x, λ x. x); holds = λ h refused. (λ x. x, λ x. x); images = λ o. (λ x. x, λ x. x); front = refl; mine = λ s. refl; closed = refl; size = refl };
    holds = λ h refused held. held;
    told = λ told. told;
    moment = refl;
    limits = refl;
    never_falls = omega arith;
  }

  pub read_on : (old mid new : Outbox J G) → WasRead {J = J} {G = G} old mid → WasRead {J = J} {G = G} mid new → WasRead {J = J} {G = G} old new
  read_on old mid new a b = record {
    content = record {
      stands = λ h. both (a.content.stands h) (b.content.stands h);
      holds = λ h refused. both (a.content.holds h refused) (b.content.holds h refused);
      images = λ o. both (a.content.images o) (b.content.images o);
      front = b.content.front ∙ a.content.front;
      mine = λ s. b.content.mine s ∙ a.content.mine s;
      closed = b.content.closed ∙ a.content.closed;
      size = b.content.size ∙ a.content.size;
    };
    holds = λ h refused held. b.holds h refused (a.holds h refused held);
    told = λ told. b.told (a.told told);
    moment = b.moment ∙ a.moment;
    limits = b.limits ∙ a.limits;
    never_falls = omega (arith, a.never_falls, b.never_falls);
  }
