-- What some lines say, one line more.
use Rattle.std.proofs.Common.{◌≡◌, List, [], ◌∷◌, ◌++◌, ℕ, ap, sym, subst, ◌∙◌, append_assoc, append-nil}
use Rattle.std.specs.Prelude.{Ok}
use Rattle.sbe_layout.specs.declared.plan.Plan.{Plan}
use Rattle.conn_told.specs.Lines.{Says}
use Rattle.conn_told.specs.Told.{AreSaid, Say, joined}
use Rattle.conn_told.specs.Progress.{AddedLine, HasSaid}

texts_more : (plan : Plan) (lines texts : List (List ℕ)) (line text : List ℕ) → AreSaid plan lines texts → Says plan line (Ok text) → AreSaid plan (lines ++ line ∷ []) (texts ++ text ∷ [])
texts_more plan [] [] line text s x = (x, tt)
texts_more plan [] (u ∷ us) line text s x = absurd s
texts_more plan (l ∷ ls) [] line text s x = absurd s
texts_more plan (l ∷ ls) (u ∷ us) line text s x = (s.0, texts_more plan ls us line text s.1 x)

joined_more : (texts : List (List ℕ)) (text : List ℕ) → joined (texts ++ text ∷ []) ≡ joined texts ++ text
joined_more [] text = append-nil text
joined_more (u ∷ us) text = ap (λ (bs : List ℕ). u ++ bs) (joined_more us text) ∙ sym (append_assoc u (joined us) text)

say_more : (plan : Plan) (lines : List (List ℕ)) (line all text : List ℕ) → Say plan lines all → Says plan line (Ok text) → Say plan (lines ++ line ∷ []) (all ++ text)
say_more plan lines line all text s x = record {
  texts = s.texts ++ text ∷ [];
  said = texts_more plan lines s.texts line text s.said x;
  joined_is = ap (λ (bs : List ℕ). bs ++ text) s.joined_is ∙ sym (joined_more s.texts text);
}

-- one line more
pub has_more : (plan : Plan) (pushed old new line : List ℕ) (lines : List (List ℕ)) → HasSaid plan pushed old lines → AddedLine plan line old new → HasSaid plan pushed new (lines ++ line ∷ [])
has_more plan pushed old new line lines s a =
    subst (Say plan (lines ++ line ∷ [])) (append_assoc pushed old a.text ∙ ap (λ (bs : List ℕ). pushed ++ bs) (sym a.added)) (say_more plan lines line (pushed ++ old) a.text s a.says)
