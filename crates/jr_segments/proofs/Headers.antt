-- What the two writes of an empty journal leave.
use Rattle.std.proofs.Common.{◌≡◌, ℕ, ◌+◌, List, [], ◌∷◌, ◌++◌, Option, Some, length, drop, refl, sym, ◌∙◌, ap, arith, length-append, length-drop}
use Rattle.std.proofs.lemmas.List.{drop_at, drop-drop}
use Rattle.std.specs.Option.{option_map}
use Rattle.gw_outside.specs.Disk.{written, Torn, Follows, IsAllLeft}
use Rattle.jr_dated.specs.Images.{IsJournal}
use Rattle.jr_segments.proofs.Writes.{mapped}

-- the header with 0 in place of its first byte, and the closed byte
abbrev pub closed_header : List ℕ
closed_header = 0 ∷ 0x49 ∷ 0x58 ∷ 0x50 ∷ 0x4A ∷ 0x52 ∷ 0x4E ∷ 0x32 ∷ 0 ∷ 0 ∷ 0 ∷ 0 ∷ 0 ∷ 0 ∷ 0 ∷ 0 ∷ 0 ∷ []

-- a byte torn behind a write of 17 is as good as a torn write of 17
torn_again : (bytes before content image : List ℕ) → length bytes ≡ 17 → written 0 bytes before ≡ content → Torn 0 1 content image → Torn 0 17 before image
torn_again bytes before content image size is torn =
    let place : 0 + length bytes ≡ 17 = omega arith in
    let whole : content ≡ bytes ++ drop 17 before = sym is ∙ ap (λ (n : ℕ). bytes ++ drop n before) place in
    let sizes : length content ≡ 17 + length (drop 17 before) = ap length whole ∙ length-append bytes (drop 17 before) ∙ ap (λ (n : ℕ). n + length (drop 17 before)) size in
    record {
      before = refl;
      after = sym (drop-drop 16 1 image) ∙ ap (λ (xs : List ℕ). drop 16 xs) torn.after ∙ drop-drop 16 1 content
          ∙ ap (λ (xs : List ℕ). drop 17 xs) whole ∙ drop_at bytes (drop 17 before) 17 size;
      no_shorter = omega (arith, sizes, length-drop 17 before, torn.no_shorter);
      no_longer = omega (arith, sizes, length-drop 17 before, torn.no_longer);
    }

module _ (told0 told1 : Option (List ℕ)) where
  -- after the second write, whether or not it succeeded
  pub torn_twice : (bytes : List ℕ) → length bytes ≡ 17 → told1 ≡ option_map (written 0 bytes) told0 → (left0 left1 left2 : List ℕ → Type 0)
      → ((content : List ℕ) → told0 ≡ Some content → left0 content) → IsAllLeft told1 left1 → Follows (Torn 0 1) left1 left2 → Follows (Torn 0 17) left0 left2
  torn_twice bytes size first left0 left1 left2 told_left settled torn image left =
      let content = torn image left in
      let before = mapped (written 0 bytes) told0 content.0 (sym first ∙ settled content.0 content.1) in
      (before.0, told_left before.0 before.1, torn_again bytes before.0 content.0 image size before.2 content.2)

  -- after it succeeded and was synced
  pub header_stands : (told2 : Option (List ℕ)) → told1 ≡ option_map (written 0 closed_header) told0
      → told2 ≡ option_map (written 0 (0x46 ∷ [])) told1 → (image : List ℕ) → told2 ≡ Some image → IsJournal image []
  header_stands told2 first second image told =
      let content = mapped (written 0 (0x46 ∷ [])) told1 image (sym second ∙ told) in
      let before = mapped (written 0 closed_header) told0 content.0 (sym first ∙ content.1) in
      record {
        legal = tt;
        closed = 0;
        is_closed = omega arith;
        behind = drop 17 before.0;
        whole = sym content.2 ∙ ap (λ (xs : List ℕ). 0x46 ∷ drop 1 xs) (sym before.2);
      }
