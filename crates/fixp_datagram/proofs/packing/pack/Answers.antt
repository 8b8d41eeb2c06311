-- What is written is the datagram of the payloads taken, and what lies behind it stays.
use Rattle.std.proofs.Common.{◌≡◌, ◌+◌, ◌-◌, ◌++◌, List, ℕ, map, take, drop, sym, ap, subst, ◌∙◌, arith, take-append-drop}
use Rattle.std.proofs.lemmas.List.{drop-drop}
use Rattle.std.specs.List.{AllByRecursion}
use Rattle.session_model.proofs.Lists.{all_first, all_second}
use Rattle.sofh_frame.specs.Splits.{spelled_all}
use Rattle.fixp_msgs.specs.Canonical.{frame_bytes}
use Rattle.fixp_msgs.specs.Message.{sequence}
use Rattle.fixp_msgs.specs.Payload.{IsApplication}
use Rattle.fixp_datagram.specs.Datagrams.{SpellsDatagram}
use Rattle.fixp_datagram.specs.Packing.{frame_of, packed}
use Rattle.fixp_datagram.proofs.Packed.{packed_spells}
use Rattle.fixp_datagram.proofs.packing.pack.Goals as goal

all_between : (ps : List (List ℕ)) (from n : ℕ) → AllByRecursion IsApplication ps → AllByRecursion IsApplication (take n (drop from ps))
all_between ps from n all =
    let behind : AllByRecursion IsApplication (drop from ps) =
    all_second IsApplication (take from ps) (drop from ps) (subst (AllByRecursion IsApplication) (sym (take-append-drop from ps)) all) in
    all_first IsApplication (take n (drop from ps)) (drop n (drop from ps))
    (subst (AllByRecursion IsApplication) (sym (take-append-drop n (drop from ps))) behind)

pub returns-clause-spells : goal.returns-clause-spells
returns-clause-spells c =
    let first = c.args.first in
    let ps = c.args.payloads.now in
    let n = c.append_frames.result.1 in
    let left : c.split_at.result.1.now ≡ drop c.args.from ps = c.split_at.ensures.back ∙ ap (drop c.args.from) c.as_slice.ensures in
    let bytes : take c.append_frames.result.0 c.append_frames.new.out ≡ packed first (take n (drop c.args.from ps)) =
    c.append_frames.ensures.front
    ∙ (ap (λ head. head ++ spelled_all (map frame_of (take n c.split_at.result.1.now))) c.write-head.ensures.frame
    ∙ ap (λ qs. frame_bytes (sequence first) ++ spelled_all (map frame_of (take n qs))) left) in
    subst (λ b. SpellsDatagram b (record { first = first; payloads = take n (drop c.args.from ps) })) (sym bytes)
    (packed_spells first (take n (drop c.args.from ps)) c.write-head.ensures.legal (all_between ps c.args.from n c.requires.applications))

pub returns-clause-behind : goal.returns-clause-behind
returns-clause-behind c =
    let head = c.write-head.result in
    let end = c.append_frames.result.0 in
    let old = c.args.out.now in
    let new = c.write-head.new.out in
    let there : head + (end - head) ≡ end = omega (arith, c.append_frames.ensures.size) in
    let parts : (bytes : List ℕ) → drop end bytes ≡ drop (end - head) (drop head bytes) =
    λ bytes. ap (λ k. drop k bytes) (sym there) ∙ sym (drop-drop (end - head) head bytes) in
    c.append_frames.ensures.behind end (omega arith)
    ∙ (parts new ∙ (ap (drop (end - head)) c.write-head.ensures.behind ∙ sym (parts old)))
