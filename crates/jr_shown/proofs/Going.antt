-- What a record leaves of a showing.
use Rattle.std.proofs.Common.{◌≡◌, ℕ, suc, ◌+◌, ◌-◌, Bool, true, false, if◌then◌else◌, List, [], ◌∷◌, ◌++◌, take, refl, sym, ◌∙◌, ap, arith, append_assoc}
use Rattle.std.specs.Prelude.{◌||◌}
use Rattle.sbe_layout.specs.declared.plan.Plan.{Plan}
use Rattle.jr_dated.specs.Dated.{Dated}
use Rattle.jr_stream.specs.Images.{counted}
use Rattle.jr_shown.specs.declared.choice.Style.{Style}
use Rattle.jr_shown.specs.declared.shower.Shower.{Shower}
use Rattle.jr_shown.specs.Shown.{chosen_lines, is_reached, lines_from, record_in}
use Rattle.jr_shown.specs.Progress.{Takes, goes_on}

-- ---- one record

either : (b r : Bool) (here behind : List ℕ) → (b || r) ≡ true → (if b then here else (if r then here else behind)) ≡ here
either true r here behind e = refl
either false true here behind e = refl
either false false here behind e = absurd (cc (e))

neither : (b r : Bool) (here behind : List ℕ) → (b || r) ≡ false → (if b then here else (if r then here else behind)) ≡ behind
neither true r here behind e = absurd (cc (e))
neither false true here behind e = absurd (cc (e))
neither false false here behind e = refl

off : (b r : Bool) → (b || r) ≡ false → b ≡ false
off true r e = absurd (cc (e))
off false r e = refl

-- the start is reached: the lines of this record and of those behind it are next
reached : (plan : Plan) (s : Shower) (d : Dated) (ds : List Dated) → (s.is_showing || is_reached s.start s.number d.moment) ≡ true
    → goes_on plan s (d ∷ ds) ≡ lines_from s.style plan s.number (take s.left (d ∷ ds))
reached plan s d ds here_on =
    either s.is_showing (is_reached s.start s.number d.moment) (lines_from s.style plan s.number (take s.left (d ∷ ds))) (chosen_lines s.style plan s.start s.left (counted (s.number + 1)) ds) here_on

-- a record before the start
pub passed : (plan : Plan) (d : Dated) (old new : Shower) → (old.is_showing || is_reached old.start old.number d.moment) ≡ false
    → new.number ≡ counted (old.number + 1) → new.left ≡ old.left → new.start ≡ old.start → new.style ≡ old.style → new.is_showing ≡ old.is_showing → new.lines.items ≡ old.lines.items → Takes plan d old new
passed plan d old new not_yet number left start style showing lines = record {
  style = style;
  same = λ ds.
      let behind = chosen_lines old.style plan old.start old.left (counted (old.number + 1)) ds in
      let waits : new.is_showing ≡ false = showing ∙ off old.is_showing (is_reached old.start old.number d.moment) not_yet in
      let was : goes_on plan old (d ∷ ds) ≡ behind =
      neither old.is_showing (is_reached old.start old.number d.moment) (lines_from old.style plan old.number (take old.left (d ∷ ds))) behind not_yet in
      let is : goes_on plan new ds ≡ behind = rw (waits, style, start, left, number) refl in
      ap (λ (l : List ℕ). old.lines.items ++ l) was ∙ ap (λ (l : List ℕ). l ++ behind) (sym lines) ∙ ap (λ (l : List ℕ). new.lines.items ++ l) (sym is);
}

-- a record behind as many as are shown at most
pub spent : (plan : Plan) (d : Dated) (old new : Shower) → (old.is_showing || is_reached old.start old.number d.moment) ≡ true → old.left ≡ 0
    → new.left ≡ old.left → new.style ≡ old.style → new.is_showing ≡ true → new.lines.items ≡ old.lines.items → Takes plan d old new
spent plan d old new here_on none left style on lines = record {
  style = style;
  same = λ ds.
      let was : goes_on plan old (d ∷ ds) ≡ [] = reached plan old d ds here_on ∙ ap (λ (k : ℕ). lines_from old.style plan old.number (take k (d ∷ ds))) none in
      let is : goes_on plan new ds ≡ [] =
      ap (λ (y : Style). if new.is_showing then lines_from y plan new.number (take new.left ds) else chosen_lines y plan new.start new.left new.number ds) style
      ∙ ap (λ (b : Bool). if b then lines_from old.style plan new.number (take new.left ds) else chosen_lines old.style plan new.start new.left new.number ds) on
      ∙ ap (λ (k : ℕ). lines_from old.style plan new.number (take k ds)) (left ∙ none) in
      ap (λ (l : List ℕ). old.lines.items ++ l) was ∙ ap (λ (l : List ℕ). l ++ []) (sym lines) ∙ ap (λ (l : List ℕ). new.lines.items ++ l) (sym is);
}

-- a record that is shown
pub added : (plan : Plan) (d : Dated) (old new : Shower) → (old.is_showing || is_reached old.start old.number d.moment) ≡ true → (old.left ≡ 0 → ⊥)
    → new.number ≡ counted (old.number + 1) → new.left ≡ old.left - 1 → new.style ≡ old.style → new.is_showing ≡ true → new.lines.items ≡ old.lines.items ++ record_in old.style plan old.number d → Takes plan d old new
added plan d old new here_on some number left style on lines = record {
  style = style;
  same = λ ds.
      let less = old.left - 1 in
      let here = record_in old.style plan old.number d in
      let behind = lines_from old.style plan (counted (old.number + 1)) (take less ds) in
      let more : old.left ≡ suc less = omega (arith, some) in
      let was : goes_on plan old (d ∷ ds) ≡ here ++ behind = reached plan old d ds here_on ∙ ap (λ (k : ℕ). lines_from old.style plan old.number (take k (d ∷ ds))) more in
      let is : goes_on plan new ds ≡ behind =
      ap (λ (y : Style). if new.is_showing then lines_from y plan new.number (take new.left ds) else chosen_lines y plan new.start new.left new.number ds) style
      ∙ ap (λ (b : Bool). if b then lines_from old.style plan new.number (take new.left ds) else chosen_lines old.style plan new.start new.left new.number ds) on
      ∙ ap (λ (n : ℕ). lines_from old.style plan n (take new.left ds)) number ∙ ap (λ (k : ℕ). lines_from old.style plan (counted (old.number + 1)) (take k ds)) left in
      ap (λ (l : List ℕ). old.lines.items ++ l) was ∙ sym (append_assoc old.lines.items here behind)
      ∙ ap (λ (l : List ℕ). l ++ behind) (sym lines) ∙ ap (λ (l : List ℕ). new.lines.items ++ l) (sym is);
}
