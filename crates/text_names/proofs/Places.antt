-- What stands behind the place of an entry is shorter than the path.
use Rattle.std.proofs.Common.{◌≡◌, ℕ, ◌<◌, Bool, true, false, List, [], ◌∷◌, length, take, drop, refl, ap, arith}
use Rattle.std.specs.Prelude.{Option, Some, None, if◌then◌else◌}
use Rattle.std.specs.Str.{bytes_eq}
use Rattle.std.proofs.lemmas.List.{length-drop}
use Rattle.sbe_text.specs.Tokens.{also, behind}
use Rattle.text_names.specs.Bare.{cut_at}
use Rattle.text_names.specs.Paths.{behind_place}
use Rattle.text_names.proofs.Cuts.{cut_shorter}

place_shorter : (text rest : List ℕ) → behind_place text ≡ Some rest → length rest < length text
place_shorter text rest e = by_cut (cut_at 93 text) refl e
  where
    by_dot : (p : List ℕ × List ℕ) → cut_at 93 text ≡ Some p → (t : Bool) → (if t then Some (drop 1 p.1) else None) ≡ Some rest → length rest < length text
    by_dot p f true e =
        let same : drop 1 p.1 ≡ rest = cc in
        let sizes : length (drop 1 p.1) ≡ length rest = ap length same in
        omega (arith, sizes, length-drop 1 p.1, cut_shorter 93 text p f)
    by_dot p f false e = absurd (cc)

    by_cut : (o : Option (List ℕ × List ℕ)) → cut_at 93 text ≡ o → also o (λ p. behind (46 ∷ []) p.1) ≡ Some rest → length rest < length text
    by_cut None f e = absurd (cc)
    by_cut (Some p) f e = by_dot p f (bytes_eq (take 1 p.1) (46 ∷ [])) e

pub path_shorter : (path name after rest : List ℕ) → cut_at 91 path ≡ Some (name, after) → behind_place after ≡ Some rest → length rest < length path
path_shorter path name after rest e f = omega (arith, cut_shorter 91 path (name, after) e, place_shorter after rest f)
