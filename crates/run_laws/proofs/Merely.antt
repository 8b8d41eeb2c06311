-- That a stop leaves nothing but images of some records is known of one way alone, so that it may be used where it is merely said.
use Rattle.std.proofs.Common.{◌≡◌, ℕ, List, ◌++◌, length, drop, Some, None, sym, ap, subst, ◌∙◌}
use Rattle.std.proofs.Math.Logic.{∥∥₁_elim}
use mathlib.Core.List.{is_set as List-set}
use mathlib.Core.Sum.{⊎_set}
use mathlib.Core.HLevel.{⊥_prop, ×_prop}
use native.Mathlib.Nat.{ℕ_set}
use Rattle.session_model.specs.Lives.{IsImage}
use Rattle.session_model.proofs.Lists.{drop_length}
use Rattle.jr_record.specs.declared.record.Record.{Record}
use Rattle.cmd_session.specs.Journals.{Leaves}
use Rattle.cmd_session.specs.Lived.{LeavesImages}

record_set : IsSet Record
record_set = hlevel (ℕ_set, List-set, ⊎_set)

records_prop : (rs qs : List Record) → IsProp (rs ≡ qs)
records_prop rs qs = List-set record_set rs qs

-- an image, said by what stands behind the closing records
abbrev kept_in : (closing image : List Record) → List Record
kept_in closing image = drop (length closing) image

abbrev IsImageBy : (closing refused image : List Record) → Type 0
IsImageBy closing refused image = (image ≡ closing ++ kept_in closing image) × (refused ≡ kept_in closing image ++ drop (length (kept_in closing image)) refused)

by_parts : (closing refused image : List Record) → IsImage closing refused image → IsImageBy closing refused image
by_parts closing refused image g =
    let kept : kept_in closing image ≡ g.kept = ap (λ (rs : List Record). drop (length closing) rs) g.holds ∙ drop_length closing g.kept in
    let rest : g.beginning.0 ≡ drop (length g.kept) refused = sym (drop_length g.kept g.beginning.0) ∙ ap (λ (rs : List Record). drop (length g.kept) rs) g.beginning.1 in (
      g.holds ∙ ap (λ (rs : List Record). closing ++ rs) (sym kept),
      subst (λ (rs : List Record). refused ≡ rs ++ drop (length rs) refused) (sym kept) (sym g.beginning.1 ∙ ap (λ (rs : List Record). g.kept ++ rs) rest),
    )

from_parts : (closing refused image : List Record) → IsImageBy closing refused image → IsImage closing refused image
from_parts closing refused image k = record {
  kept = kept_in closing image;
  beginning = (drop (length (kept_in closing image)) refused, sym k.1);
  holds = k.0;
}

pub image_left : (may_leave : List ℕ → Type 0) (closing refused records : List Record) → ∥ LeavesImages may_leave closing refused ∥₁ → Leaves may_leave (Some records) → IsImage closing refused records
image_left may_leave closing refused records merely left = from_parts closing refused records
    (∥∥₁_elim merely (×_prop (records_prop records (closing ++ kept_in closing records)) (records_prop refused (kept_in closing records ++ drop (length (kept_in closing records)) refused)))
    (λ all. by_parts closing refused records (all (Some records) left)))

pub none_left : (may_leave : List ℕ → Type 0) (closing refused : List Record) → ∥ LeavesImages may_leave closing refused ∥₁ → Leaves may_leave None → ⊥
none_left may_leave closing refused merely left = ∥∥₁_elim merely ⊥_prop (λ all. all None left)
