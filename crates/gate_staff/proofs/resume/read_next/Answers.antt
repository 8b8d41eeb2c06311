use Rattle.std.proofs.Common.{rules, ◌+◌, ◌-◌, ◌++◌, ◌∷◌, [], length, ap, ◌∙◌, arith}
use Rattle.std.proofs.lemmas.List.{length_push}
use Rattle.session_model.specs.Inbox.{applied, payloads_of}
use Rattle.gate_staff.proofs.Resuming.{content_on, taken_more}
use Rattle.gate_staff.proofs.resume.read_next.Goals as goal

pub returns-in_err-payload-clause-content : goal.returns-in_err-payload-clause-content
returns-in_err-payload-clause-content g c = content_on c.args.inbox.now c.loop-k.inbox c.payload.new.self c.loop-k.invariant.content c.payload.ensures.content

pub returns-in_err-push-clause-content : goal.returns-in_err-push-clause-content
returns-in_err-push-clause-content g c = content_on c.args.inbox.now c.loop-k.inbox c.payload.new.self c.loop-k.invariant.content c.payload.ensures.content

pub loop-k-preserved : goal.loop-k-preserved
loop-k-preserved g c =
    let at = c.loop-k.invariant in
    let e = c.in_ok-payload.ensures in
    let pushed = c.in_ok-push.ensures.ok in
    record {
      sound = search rules;
      content = content_on c.args.inbox.now c.loop-k.inbox c.payload.new.self at.content e.content;
      faults = omega (arith, at.faults, e.never_falls);
      kind = (e.same.0 ∙ at.kind.0, e.same.1 ∙ at.kind.1);
      most = at.most;
      some = at.some;
      within = at.within;
      long = ap length pushed ∙ length_push c.loop-k.list c.in_ok-payload.payload ∙ ap (λ n. n + 1) at.long;
      told = λ tells i stands.
          pushed ∙ ap (λ xs. xs ++ c.in_ok-payload.payload ∷ []) (at.told tells i stands)
          ∙ taken_more (payloads_of (applied i)) c.args.from c.loop-k.k (c.args.from + c.loop-k.k + 1 - 1) c.in_ok-payload.payload (omega arith) (e.payload tells i ((at.content.stands i).0 stands));
    }
