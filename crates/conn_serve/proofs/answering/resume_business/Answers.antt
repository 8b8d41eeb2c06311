use Rattle.std.proofs.Common.{◌≡◌, [], Ok, Err, refl, sym, ap, ◌∙◌}
use Rattle.std.proofs.Math.Logic.{∥∥₁_map}
use Rattle.std.proofs.lemmas.Option.{none-some}
use Rattle.conn_serve.specs.Answering.{messages_of, resume_fault, business_at, Unread, ReadOtherwise}
use Rattle.conn_serve.proofs.Upto.{refused_resumed, answers_resumed}
use Rattle.conn_serve.proofs.answering.resume_business.Goals as goal

pub returns-in-Ok-clause-refusal : goal.returns-in-Ok-clause-refusal
returns-in-Ok-clause-refusal g c = λ fault e. absurd (none-some fault e)

pub returns-in-Ok-clause-told : goal.returns-in-Ok-clause-told
returns-in-Ok-clause-told g c = λ i tells stands.
    let b = c.args.answering.now.business in
    let took = c.resume.ensures in
    answers_resumed _ (g.B.Business.plan b) (g.B.Business.count b) (g.B.Business.part b) c.resume.result i (messages_of i) took.same.0 took.same.1 (λ d _. refl)
    (λ f e. let is : Ok tt ≡ Err f = sym c.in-Ok.is ∙ e in absurd (cc is)) (took.stands i tells stands) (took.resumed i tells stands) took.refused

pub returns-in-Ok-clause-read : goal.returns-in-Ok-clause-read
returns-in-Ok-clause-read g c = λ i stands.
    let b = c.args.answering.now.business in
    let took = c.resume.ensures in
    ∥∥₁_map (took.read i stands)
    (λ r. (r.0, r.1, answers_resumed _ (g.B.Business.plan b) (g.B.Business.count b) (g.B.Business.part b) c.resume.result i r.0 took.same.0 took.same.1 (λ d _. refl) (λ f e. let is : Ok tt ≡ Err f = sym c.in-Ok.is ∙ e in absurd (cc is)) r.2 r.3 took.refused))

pub returns-in-Err-clause-refusal : goal.returns-in-Err-clause-refusal
returns-in-Err-clause-refusal g c = λ fault e.
    let took = c.resume.ensures in
    refused_resumed (Unread c.args.inbox.now c.resume.new.inbox []) (ReadOtherwise g.I.Journal.tells []) (business_at g.B.Business.stands g.B.Business.plan g.B.Business.count g.B.Business.part c.args.answering.now) _ c.resume.result took.refused took.sound
    (λ is. record { first = refl; failed = took.fetch is }) (λ at is. record { first = refl; untold = λ tells. took.changed at is tells })
    c.in-Err.fault c.in-Err.is fault (sym c.refused_resume-answering.ensures ∙ e)

pub returns-in-Err-clause-told : goal.returns-in-Err-clause-told
returns-in-Err-clause-told g c = λ i tells stands.
    let b = c.args.answering.now.business in
    let took = c.resume.ensures in
    answers_resumed _ (g.B.Business.plan b) (g.B.Business.count b) (g.B.Business.part b) c.resume.result i (messages_of i) took.same.0 took.same.1 (λ d e. let is : Err c.in-Err.fault ≡ Ok d = sym c.in-Err.is ∙ e in absurd (cc is))
    (λ f e. let is : Err c.in-Err.fault ≡ Err f = sym c.in-Err.is ∙ e in c.refused_resume-answering.ensures ∙ ap resume_fault (cc is)) (took.stands i tells stands) (took.resumed i tells stands) took.refused

pub returns-in-Err-clause-read : goal.returns-in-Err-clause-read
returns-in-Err-clause-read g c = λ i stands.
    let b = c.args.answering.now.business in
    let took = c.resume.ensures in
    ∥∥₁_map (took.read i stands)
    (λ r. (r.0, r.1, answers_resumed _ (g.B.Business.plan b) (g.B.Business.count b) (g.B.Business.part b) c.resume.result i r.0 took.same.0 took.same.1 (λ d e. let is : Err c.in-Err.fault ≡ Ok d = sym c.in-Err.is ∙ e in absurd (cc is)) (λ f e. let is : Err c.in-Err.fault ≡ Err f = sym c.in-Err.is ∙ e in c.refused_resume-answering.ensures ∙ ap resume_fault (cc is)) r.2 r.3 took.refused))
