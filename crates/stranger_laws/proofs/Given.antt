-- What a link gave, frame by frame.
use Rattle.std.proofs.Common.{◌≡◌, Bool, false, List, [], ◌∷◌, ℕ, refl, sym, ap, subst, ◌∙◌, append-nil}
use Rattle.std.specs.List.{AllByRecursion}
use Rattle.sbe_prim.specs.declared.Order.TheVariants.{Little}
use Rattle.sofh_frame.specs.Framing.{Frame, spelled}
use Rattle.sofh_frame.specs.Splits.{frames_of}
use Rattle.sofh_frame.proofs.SplitLemmas.{frames_of-front, frames_of-none}
use Rattle.session_model.proofs.Lists.{all_weaker}
use Rattle.fixp_msgs.specs.Canonical.{IsLegal, message_bytes, frame_bytes}
use Rattle.fixp_msgs.specs.Message.{Message}
use Rattle.fixp_msgs.proofs.Rows.{at_most_one}
use Rattle.fixp_msgs.proofs.Written.{message_spells}
use Rattle.fixp_shake.specs.declared.config.EndConfig.{EndConfig}
use Rattle.fixp_replies.specs.Incoming.{Incoming, application, session, wrong_order, too_short, unknown, IsIncoming}
use Rattle.connection_laws.proofs.Framing.{frame_of_message}
use Rattle.turn_laws.specs.Came.{AreFirstOf}
use Rattle.stranger_laws.specs.Opening.{gives_keys, NoneIs}
use Rattle.stranger_laws.specs.Strangers.{KeylessIsStrange, NoFrameIsStrange, FrameIsStrange, NoneCame}
use Rattle.stranger_laws.proofs.Rows.{keyless}

abbrev Frames : (Incoming → Bool) → List Frame → Type 0
Frames is frames = AllByRecursion (λ (f : Frame). (i : Incoming) → IsIncoming f.order f.message i → is i ≡ false) frames

pub no_frame_is_strange : NoFrameIsStrange
no_frame_is_strange is given none = subst (λ (fs : List Frame). Frames is fs) (sym none) tt

pub keyless_is_strange : KeylessIsStrange
keyless_is_strange cfg given k =
    all_weaker (λ (f : Frame). (i : Incoming) → IsIncoming f.order f.message i → gives_keys cfg i ≡ false) _ (λ f none i at. keyless cfg i (none i at)) (frames_of given) k

none_among : (is : Incoming → Bool) (frames : List Frame) (ms : List Incoming) → Frames is frames → AreFirstOf ms frames → NoneIs is ms
none_among is frames [] none first = tt
none_among is [] (i ∷ later) none first = absurd first
none_among is (f ∷ frames) (i ∷ later) none first = (none.0 i first.0, none_among is frames later none.1 first.1)

pub none_came : NoneCame
none_came is given ms none first = none_among is (frames_of given) ms none first

-- what a legal message is to its reader does not give the keys, where it does not
keyless_message : (cfg : EndConfig) (m : Message) → IsLegal m → gives_keys cfg (session m) ≡ false → (i : Incoming) → IsIncoming Little (message_bytes m) i → gives_keys cfg i ≡ false
keyless_message cfg m legal k (application p) at = refl
keyless_message cfg m legal k (session n) at = ap (λ (m' : Message). gives_keys cfg (session m')) (at_most_one (message_bytes m) n m at.1 (message_spells m legal)) ∙ k
keyless_message cfg m legal k wrong_order at = refl
keyless_message cfg m legal k too_short at = refl
keyless_message cfg m legal k (unknown template) at = refl

pub frame_is_strange : FrameIsStrange
frame_is_strange cfg m legal k =
    let f : Frame = record { order = Little; message = message_bytes m } in
    let there = frame_of_message m legal in
    let frames : frames_of (frame_bytes m) ≡ f ∷ [] =
    ap (λ (bs : List ℕ). frames_of bs) (sym there.bytes ∙ sym (append-nil (spelled f))) ∙ (frames_of-front f [] there.admissible ∙ ap (λ (fs : List Frame). f ∷ fs) (frames_of-none [] tt)) in
    subst (λ (fs : List Frame). Frames (gives_keys cfg) fs) (sym frames) (keyless_message cfg m legal k, tt)
