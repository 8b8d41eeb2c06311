-- What a call takes that changes a value (this project's profile).
use Rattle.std.specs.Prelude.{◌≡◌}
use Rattle.std.specs.Fn.{Mut, Takes}
use denote.Ref.{MutBor}

-- f may be called at a `&mut` to x
abbrev pub TakesAtMut : {F A R : Type 0} → Mut F (MutBor A × Unit {0}) (R × (MutBor A × Unit {0})) → F → A → Type 0
TakesAtMut {F} {A} g f x = (p : MutBor A) → p.now ≡ x → Takes g f (p, tt)
