-- What each change of a disk in memory keeps.
use Rattle.std.proofs.Common.{◌≡◌, ℕ, suc, Bool, true, false, ◌+◌, ◌-◌, ◌≤◌, ◌^◌, min, List, [], ◌∷◌, ◌++◌, length, take, drop, refl, sym, ap, ◌∙◌, subst, arith, append_assoc, length-append, length-take, length-drop}
use Rattle.std.proofs.lemmas.Bool.{and_parts, and_from, or_from, le-leb, le-ltb, false≢true, eq-eqb}
use Rattle.std.proofs.lemmas.List.{take_at, drop_at, length-replicate}
use Rattle.std.specs.Prelude.{◌==◌, ◌||◌, nat_lt, Some, IsTrue, if◌then◌else◌}
use Rattle.gw_outside.specs.Disk.{Follows, Torn, written}
use Rattle.gw_fakes.specs.Disks.{DiskState, IsSound, after_write, counted, failed, is_blown, placed, is_left, marked, none_pending, pending_from, image_of}
use Rattle.gw_fakes.specs.DiskLaws.{left-within}
use Rattle.gw_fakes.specs.InMemory.{fails_next}
use Rattle.gw_fakes.specs.declared.meter.Meter.{Meter}
use Rattle.gw_fakes.specs.declared.disk.Pick.{Pick}
use Rattle.gw_fakes.specs.declared.disk.Pick.TheVariants.{Old, Kept, Noise}
use Rattle.gw_fakes.proofs.Tearing.{mark, marked_is, length-mark, torn_left, stepped}
use Rattle.gw_fakes.proofs.Pending.{nothing_from, still_before, still_past}
use Rattle.gw_fakes.proofs.Settling.{synced_left, same_below_both, same_above, only_synced}

pub torn_written : (at : ℕ) (bytes content : List ℕ) → at ≤ length content → Torn at (length bytes) content (written at bytes content)
torn_written at bytes content le =
    let front : length (take at content) ≡ at = omega (arith, length-take at content) in
    let both : length (take at content ++ bytes) ≡ at + length bytes = omega (arith, front, length-append (take at content) bytes) in
    let rest = drop (at + length bytes) content in
    let count : length (written at bytes content) ≡ at + length bytes + length rest = omega (arith, both, length-append (take at content ++ bytes) rest) in
    record {
      before = ap (take at) (append_assoc (take at content) bytes rest) ∙ take_at (take at content) (bytes ++ rest) at front;
      after = drop_at (take at content ++ bytes) rest (at + length bytes) both;
      no_shorter = omega (arith, count, length-drop (at + length bytes) content);
      no_longer = omega (arith, count, length-drop (at + length bytes) content);
    }

-- a disk after a write, whatever stands of it
pub sound_marked : (content synced : List ℕ) (pending : List Bool) (low high room at n low' : ℕ) (part : List Bool) (after : List ℕ) → IsSound content synced pending low high room
    → at ≤ length content → at + n ≤ room → pending_from low' part (length synced) ≡ marked at n pending → Torn at n content after
    → IsSound after synced (pending_from low' part (length synced)) low' (low' + length part) room
sound_marked content synced pending low high room at n low' part after sound le fits is torn =
    let within = left-within synced pending content sound.left in
    let covers : at ≤ length pending = omega (arith, le, within) in
    let same : pending_from low' part (length synced) ≡ mark at n pending = is ∙ marked_is at n pending covers in
    record {
      left = subst (λ l. IsTrue (is_left synced l after)) (sym same) (torn_left synced pending content after at n covers sound.left torn);
      grown = omega (arith, sound.grown, torn.no_shorter);
      within = omega (arith, ap length same, length-mark at n pending covers, sound.within, fits);
      limited = sound.limited;
      below = still_before low' part (length synced);
      above = still_past low' part (length synced);
    }

-- what a stop may leave behind the marks of a write follows from what it might have left before
pub follows_marked : (content synced : List ℕ) (pending : List Bool) (low high room at n : ℕ) (marks : List Bool) → IsSound content synced pending low high room → at ≤ length content → marks ≡ marked at n pending
    → Follows (Torn at n) (λ image. IsTrue (is_left synced pending image)) (λ image. IsTrue (is_left synced marks image))
follows_marked content synced pending low high room at n marks sound le is image left =
    let within = left-within synced pending content sound.left in
    let covers : at ≤ length pending = omega (arith, le, within) in
    let back = stepped synced pending image at n covers (omega (arith, within, sound.grown)) (subst (λ l. IsTrue (is_left synced l image)) (is ∙ marked_is at n pending covers) left) in
    (back.content, back.left, back.torn)

-- a disk with nothing pending
pub sound_still : (content synced : List ℕ) (part : List Bool) (room : ℕ) → synced ≡ content → length part ≡ 0 → length content ≤ room → room ≤ 2 ^ 40
    → IsSound content synced (pending_from 0 part (length synced)) 0 (0 + length part) room
sound_still content synced part room same is within limited =
    let none : pending_from 0 part (length synced) ≡ none_pending (length synced) = nothing_from 0 (length synced) part is (omega arith) in
    let count : length (none_pending (length synced)) ≡ length synced = length-replicate (length synced) false in
    record {
      left = subst (λ l. IsTrue (is_left synced (pending_from 0 part (length synced)) l)) same (subst (λ l. IsTrue (is_left synced l synced)) (sym none) (synced_left synced (none_pending (length synced)) (omega (arith, count))));
      grown = omega (arith, ap length same);
      within = omega (arith, ap length none, count, ap length same, within);
      limited = limited;
      below = still_before 0 part (length synced);
      above = still_past 0 part (length synced);
    }

pub left-grown : (synced : List ℕ) (pending : List Bool) (image : List ℕ) → IsTrue (is_left synced pending image) → length synced ≤ length image
left-grown [] pending image left = omega arith
left-grown (s ∷ ss) [] image left = absurd (false≢true left)
left-grown (s ∷ ss) (p ∷ ps) [] left = absurd (false≢true left)
left-grown (s ∷ ss) (p ∷ ps) (b ∷ bs) left = let rest = left-grown ss ps bs (and_parts (p || (b == s)) (is_left ss ps bs) left).1 in omega (arith, rest)

noise_left : (synced : List ℕ) (pending : List Bool) → length synced ≤ length pending → IsTrue (is_left synced pending (image_of Noise [] synced pending))
noise_left [] pending le = le-leb _ _ (omega (arith, length-replicate {A = ℕ} (length pending - 0) 165))
noise_left (s ∷ ss) [] le = absurd (omega arith)
noise_left (s ∷ ss) (p ∷ ps) le =
    let e : suc (length ps) - suc (length ss) ≡ length ps - length ss = omega arith in
    and_from _ _ (here p) (rw e (noise_left ss ps (omega arith)))
  where
    here : (p : Bool) → (p || ((if p then 165 else s) == s)) ≡ true
    here true = refl
    here false = eq-eqb s s refl

-- each pick is one of what a stop may leave
pub image_left : (pick : Pick) (content synced : List ℕ) (pending : List Bool) → IsTrue (is_left synced pending content) → IsTrue (is_left synced pending (image_of pick content synced pending))
image_left Old content synced pending left = synced_left synced pending (omega (arith, left-within synced pending content left, left-grown synced pending content left))
image_left Kept content synced pending left = left
image_left Noise content synced pending left = noise_left synced pending (omega (arith, left-within synced pending content left, left-grown synced pending content left))

-- what a sync needs of an image that is to be made the content
pub record Ready (synced : List ℕ) (pending : List Bool) (low high room : ℕ) (image : List ℕ) : Type 0 where
  pub left : IsTrue (is_left synced pending image)
  pub grown : length synced ≤ length image
  pub covered : length image ≤ length pending
  pub fits : length image ≤ room
  pub marks_fit : length pending ≤ room
  pub below : take (min low (length synced)) image ≡ take (min low (length synced)) synced
  pub above : drop (min high (length synced)) image ≡ drop (min high (length synced)) synced ++ drop (length synced) image

ready : (content synced : List ℕ) (pending : List Bool) (low high room : ℕ) (image : List ℕ) → IsSound content synced pending low high room → IsTrue (is_left synced pending image) → Ready synced pending low high room image
ready content synced pending low high room image sound left =
    let within = left-within synced pending image left in
    record {
      left = left;
      grown = left-grown synced pending image left;
      covered = within;
      fits = omega (arith, within, sound.within);
      marks_fit = sound.within;
      below = same_below_both synced pending image low left sound.below;
      above = same_above synced pending image high left sound.above;
    }

pub ready_same : (content synced : List ℕ) (pending : List Bool) (low high room : ℕ) (image : List ℕ) → IsSound content synced pending low high room → image ≡ content → Ready synced pending low high room image
ready_same content synced pending low high room image sound is = subst (Ready synced pending low high room) (sym is) (ready content synced pending low high room content sound sound.left)

pub ready_picked : (content synced : List ℕ) (pending : List Bool) (low high room : ℕ) (pick : Pick) (synced' : List ℕ) (pending' : List Bool) (items image : List ℕ) → IsSound content synced pending low high room
    → synced' ≡ synced → pending' ≡ pending → items ≡ image_of pick content synced' pending' → image ≡ items → Ready synced pending low high room image
ready_picked content synced pending low high room pick synced' pending' items image sound same same_marks left is =
    let whole : image ≡ image_of pick content synced pending = is ∙ left ∙ (λ i. image_of pick content (same i) (same_marks i)) in
    subst (Ready synced pending low high room) (sym whole) (ready content synced pending low high room _ sound (image_left pick content synced pending sound.left))

-- a sound disk has a mark for each place, within its room
pub covered : (content synced : List ℕ) (pending : List Bool) (low high room : ℕ) → IsSound content synced pending low high room → length content ≤ length pending
covered content synced pending low high room sound = left-within synced pending content sound.left

pub roomy : (content synced : List ℕ) (pending : List Bool) (low high room : ℕ) → IsSound content synced pending low high room → length content ≤ room
roomy content synced pending low high room sound = omega (arith, covered content synced pending low high room sound, sound.within)

-- what a stop may leave of a disk with nothing pending is its content
pub still_left : (content synced : List ℕ) (part : List Bool) (image : List ℕ) → synced ≡ content → length part ≡ 0 → IsTrue (is_left synced (pending_from 0 part (length synced)) image) → Some content ≡ Some image
still_left content synced part image same is left =
    let none : pending_from 0 part (length synced) ≡ none_pending (length synced) = nothing_from 0 (length synced) part is (omega arith) in
    ap Some (sym same ∙ sym (only_synced synced image (subst (λ l. IsTrue (is_left synced l image)) none left)))

-- a write that passes
pub write_stands : (d : DiskState) (meter : Meter) (at : ℕ) (bytes : List ℕ) (after : DiskState) (stands : Bool) → meter ≡ counted d.meter → after ≡ placed (record d { meter = meter }) at bytes stands → stands ≡ true
    → is_blown d.meter.fuse ≡ false → at + length bytes ≤ d.room → fails_next d.meter.fail d.meter.calls ≡ false → after ≡ after_write d at bytes
write_stands d meter at bytes after stands counts is standing unblown fits passes =
    let roomy : nat_lt d.room (at + length bytes) ≡ false = le-ltb _ _ fits in
    let here : (is_blown d.meter.fuse || nat_lt d.room (at + length bytes)) ≡ false = or_from _ _ unblown roomy in
    is ∙ (λ i. placed (record d { meter = counts i }) at bytes (standing i))
    ∙ sym (ap (λ b. if b then record d { meter = failed d.meter } else (if fails_next d.meter.fail d.meter.calls then record (placed d at bytes false) { meter = failed d.meter } else record (placed d at bytes true) { meter = counted d.meter })) here
    ∙ ap (λ b. if b then record (placed d at bytes false) { meter = failed d.meter } else record (placed d at bytes true) { meter = counted d.meter }) passes)
