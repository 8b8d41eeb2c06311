use Rattle.std.proofs.Common.{◌≡◌, ◌⊎◌, ◌+◌, ◌-◌, ◌<◌, ◌≤◌, ◌^◌, min, suc, length, List, [], ◌∷◌, ◌++◌, take, drop, slice_get, Some, sym, ap, subst, ◌∙◌, arith}
use Rattle.std.specs.List.{All}
use Rattle.std.proofs.lemmas.List.{length-drop}
use Rattle.std.proofs.lemmas.List.Elements.{All-push}
use Rattle.session_model.specs.Journal.{History, payloads}
use Rattle.session_model.specs.Inbox.{Numbered}
use Rattle.fixp_msgs.specs.Payload.{IsApplication}
use Rattle.jr_record.specs.Records.{IsPayload}
use Rattle.gate_senders.specs.Kept.{numbered_from}
use Rattle.gate_senders.specs.Told.{told_by}
use Rattle.gate_senders.proofs.Fetching.{message_on, in_rest, all_taken, ends, stays, numbers_of, number_on}
use Rattle.gate_senders.proofs.kept.Kept.fetch.Goals as goal

pub loop-number-preserved : goal.loop-number-preserved
loop-number-preserved g c =
    let at = c.loop-number in
    let from = c.args.from in
    let made = c.args.self.now.told.history.made in
    let k = at.number - from in
    let next : suc k ≡ at.number + 1 - from = omega (arith, at.auto.number) in
    let within : k < length (drop (from - 1) made) =
    omega (arith, length-drop (from - 1) made, c.min-end.ensures, c.length.ensures.exact, c.requires.least, at.auto.number, c.loop-number-test.true) in
    record {
      same = (c.stable.ensures.same.0 ∙ at.invariant.same.0, c.stable.ensures.same.1 ∙ at.invariant.same.1);
      numbers = ap (λ (ms : List Numbered). numbers_of ms) c.in-Ok.ensures.items
          ∙ number_on from k (drop (from - 1) made) at.list.items c.in_ok-entry.entry within (omega (arith, c.in_ok-entry.ensures.number, at.auto.number)) at.invariant.numbers
          ∙ ap (λ j. numbers_of (numbered_from from (take j (drop (from - 1) made)))) next;
      given = λ tells.
          let there : slice_get (payloads made) (at.number - 1) ≡ Some c.in_ok-entry.entry.payload =
          sym (ap (λ (h : History). slice_get (payloads h.made) (at.number - 1)) at.invariant.same.0) ∙ c.in_ok-entry.ensures.payload tells in
          let more : numbered_from from (take (suc k) (drop (from - 1) made)) ≡ numbered_from from (take k (drop (from - 1) made)) ++ c.in_ok-entry.entry ∷ [] =
          message_on from k (drop (from - 1) made) c.in_ok-entry.entry (omega (arith, c.in_ok-entry.ensures.number, at.auto.number))
          (in_rest (from - 1) k (at.number - 1) made c.in_ok-entry.entry.payload (omega (arith, c.requires.least, at.auto.number)) there) in
          c.in-Ok.ensures.items ∙ ap (λ (ms : List Numbered). ms ++ c.in_ok-entry.entry ∷ []) (at.invariant.given tells) ∙ sym more
          ∙ ap (λ j. numbered_from from (take j (drop (from - 1) made))) next;
      sizes = subst (All (λ (m : Numbered). IsPayload m.payload)) (sym c.in-Ok.ensures.items)
          (All-push (λ (m : Numbered). IsPayload m.payload) at.list.items c.in_ok-entry.entry at.invariant.sizes c.in_ok-entry.ensures.size);
      applications = subst (All (λ (m : Numbered). IsApplication m.payload)) (sym c.in-Ok.ensures.items)
          (All-push (λ (m : Numbered). IsApplication m.payload) at.list.items c.in_ok-entry.entry at.invariant.applications c.in_ok-entry.ensures.application);
      sound = stays (told_by c.args.self.now) (told_by at.self) (told_by c.stable.new.self) at.invariant.sound at.invariant.broken c.stable.ensures.sound;
      broken = λ b. absurd (c.in_ok-entry.ensures.whole b);
    }

pub returns-clause-given : goal.returns-clause-given
returns-clause-given g c =
    let at = c.loop-number in
    let made = c.args.self.now.told.history.made in
    let most : c.from.result ≡ c.args.most = c.from.ensures in
    let end : at.number ≡ c.args.from + c.args.most ⊎ (length made + 1 ≤ at.number) × (length made + 1 ≤ c.args.from + c.args.most) =
    ends c.args.from c.args.most at.number c.min-end.result c.saturating_add.result (length made) at.auto.number at.auto.number-end c.loop-number-test.false
    (c.min-end.ensures ∙ ap (λ k. min c.saturating_add.result (k + 1)) c.length.ensures.exact) (c.saturating_add.ensures ∙ ap (λ k. min (c.args.from + k) (2 ^ 64 - 1)) most)
    (omega (arith, c.length.ensures.few, c.length.ensures.exact)) in
    let all = all_taken c.args.from c.args.most at.number made c.requires.least at.auto.number end in
    record {
      numbers = at.invariant.numbers ∙ ap (λ es. numbers_of (numbered_from c.args.from es)) all;
      told = λ tells. at.invariant.given tells ∙ ap (λ es. numbered_from c.args.from es) all;
    }
