-- Parts of frames one behind another.
use Rattle.std.proofs.Common.{◌≡◌, ℕ, List, [], ◌∷◌, ◌++◌, Option, Some, None, Bool, true, false, if◌then◌else◌, refl, sym, ◌∙◌, ap, append_assoc}
use Rattle.std.specs.Str.{bytes_eq}
use Rattle.std.proofs.lemmas.Slice.Eq.{bytes_eq-Decides}
use Rattle.std.proofs.lemmas.Grind.{flat_map-append}
use Rattle.sofh_frame.specs.Framing.{Frame, spelled}
use Rattle.sofh_frame.specs.Splits.{spelled_all}
use Rattle.fixp_mux.specs.Context.{Says, names, malformed, carries, says}
use Rattle.fixp_mux.specs.Parts.{named_by, named_behind, own, part_of}
use Rattle.fixp_mux.specs.Laws.{PartByLastContext, BelongsToOne}

pub part_append : (before : Option (List ℕ)) (session : List ℕ) (xs ys : List Frame) → part_of before session (xs ++ ys) ≡ part_of before session xs ++ part_of (named_behind before xs) session ys
part_append before session [] ys = refl
part_append before session (f ∷ xs) ys =
    ap (λ (fs : List Frame). own before (says f) session f ++ fs) (part_append (named_by before (says f)) session xs ys)
    ∙ sym (append_assoc (own before (says f) session f) (part_of (named_by before (says f)) session xs) (part_of (named_behind (named_by before (says f)) xs) session ys))

pub named_append : (before : Option (List ℕ)) (xs ys : List Frame) → named_behind before (xs ++ ys) ≡ named_behind (named_behind before xs) ys
named_append before [] ys = refl
named_append before (f ∷ xs) ys = named_append (named_by before (says f)) xs ys

pub spelled_append : (xs ys : List Frame) → spelled_all (xs ++ ys) ≡ spelled_all xs ++ spelled_all ys
spelled_append xs ys = flat_map-append spelled xs ys

pub part_by_last_context : PartByLastContext
part_by_last_context before session frames f behind = part_append before session frames (f ∷ behind)

-- a frame that belongs to a session is none of its parts where another was named
no_list : (f : Frame) → [] ≡ f ∷ [] → ⊥
no_list f e = absurd (cc e)

belongs : (before : Option (List ℕ)) (s : Says) (session : List ℕ) (f : Frame) → own before s session f ≡ f ∷ [] → before ≡ Some session
belongs before (names id) session f e = absurd (no_list f e)
belongs before malformed session f e = absurd (no_list f e)
belongs None carries session f e = absurd (no_list f e)
belongs (Some id) carries session f e = by_test (bytes_eq id session) refl e
  where
    by_test : (b : Bool) → bytes_eq id session ≡ b → (if b then f ∷ [] else []) ≡ f ∷ [] → Some id ≡ Some session
    by_test true is e = ap Some ((bytes_eq-Decides id session).0 is)
    by_test false is e = absurd (no_list f e)

pub belongs_to_one : BelongsToOne
belongs_to_one before f session e = belongs before (says f) session f e
