use Rattle.std.proofs.Common.{map, string_bytes, IfSome, IfNone, sym, subst}
use Rattle.session_files.specs.Seen.{seen}
use Rattle.session_files.specs.Words.{SessionWords, IsSession}
use Rattle.session_files.proofs.Forms.{eight_words, nine_words, none_so, none_weaker, some_weaker, cannot_be, tells_session}
use Rattle.session_files.proofs.session.Session.of.Goals as goal

pub returns-in_err-by_plans-in-len9-clause-none : goal.returns-in_err-by_plans-in-len9-clause-none
returns-in_err-by_plans-in-len9-clause-none c =
    let are = nine_words c.args.words.now c.command-item-then-words-lt10.result c.address-item-then-words-lt10.result c.most-item-then-words-lt10.result c.config-item-then-words-lt10.result c.input-item-then-words-lt10.result c.outbox-item-then-words-lt10.result c.inbox-item-then-words-lt10.result c.out-item-then-words-lt10.result c.accepted-item.result
    c.in-len9.len_at_least c.in-len9.len_below c.command-item-then-words-lt10.is c.address-item-then-words-lt10.is c.most-item-then-words-lt10.is c.config-item-then-words-lt10.is c.input-item-then-words-lt10.is c.outbox-item-then-words-lt10.is c.inbox-item-then-words-lt10.is c.out-item-then-words-lt10.is c.accepted-item.is in
    subst (λ ws. IfNone c.from_residual.result ((s : SessionWords) → IsSession (map string_bytes ws) s → ⊥)) (sym are)
    (none_so c.from_residual.result _ (cannot_be _ _ _ _ c.in_err-by_plans-in-len9.ensures.none))

pub returns-in-len8-clause-found : goal.returns-in-len8-clause-found
returns-in-len8-clause-found c =
    let are = eight_words c.args.words.now c.command-item.result c.address-item.result c.most-item.result c.config-item.result c.input-item.result c.outbox-item.result c.inbox-item.result c.out-item.result
    c.in-len8.len_at_least c.in-len8.len_below c.command-item.is c.address-item.is c.most-item.is c.config-item.is c.input-item.is c.outbox-item.is c.inbox-item.is c.out-item.is in
    subst (λ ws. IfSome c.by_plans.result (λ s. IsSession (map string_bytes ws) (seen s))) (sym are) c.by_plans.ensures.found

pub returns-in-len8-clause-none : goal.returns-in-len8-clause-none
returns-in-len8-clause-none c =
    let are = eight_words c.args.words.now c.command-item.result c.address-item.result c.most-item.result c.config-item.result c.input-item.result c.outbox-item.result c.inbox-item.result c.out-item.result
    c.in-len8.len_at_least c.in-len8.len_below c.command-item.is c.address-item.is c.most-item.is c.config-item.is c.input-item.is c.outbox-item.is c.inbox-item.is c.out-item.is in
    subst (λ ws. IfNone c.by_plans.result ((s : SessionWords) → IsSession (map string_bytes ws) s → ⊥)) (sym are)
    (none_weaker c.by_plans.result _ _ (λ cannot. cannot_be _ _ _ _ cannot) c.by_plans.ensures.none)

pub returns-in_ok-by_plans-in-len9-clause-found : goal.returns-in_ok-by_plans-in-len9-clause-found
returns-in_ok-by_plans-in-len9-clause-found c =
    let are = nine_words c.args.words.now c.command-item-then-words-lt10.result c.address-item-then-words-lt10.result c.most-item-then-words-lt10.result c.config-item-then-words-lt10.result c.input-item-then-words-lt10.result c.outbox-item-then-words-lt10.result c.inbox-item-then-words-lt10.result c.out-item-then-words-lt10.result c.accepted-item.result
    c.in-len9.len_at_least c.in-len9.len_below c.command-item-then-words-lt10.is c.address-item-then-words-lt10.is c.most-item-then-words-lt10.is c.config-item-then-words-lt10.is c.input-item-then-words-lt10.is c.outbox-item-then-words-lt10.is c.inbox-item-then-words-lt10.is c.out-item-then-words-lt10.is c.accepted-item.is in
    subst (λ ws. IfSome c.telling.result (λ s. IsSession (map string_bytes ws) (seen s))) (sym are)
    (some_weaker c.telling.result _ _ (λ s tells. tells_session _ _ _ _ _ _ _ _ _ _ _ c.in_ok-by_plans-in-len9.ensures.found tells) c.telling.ensures.found)
