-- The message of a frame is classified in one way: its kind, its template and the grammar decide which.
use Rattle.std.proofs.Common.{◌≡◌, ℕ, true, false, List, refl, sym, ap, ◌∙◌}
use Rattle.fixp_msgs.specs.Laws.{AtMostOneMessage}
use Rattle.fixp_msgs.specs.Header.{template_in}
use Rattle.fixp_msgs.specs.Message.{Message}
use Rattle.fixp_msgs.specs.Table.{is_template}
use Rattle.fixp_msgs.proofs.Rows.{is_template-row}
use Rattle.fixp_msgs.specs.Grammar.{Spells}
use Rattle.fixp_replies.specs.Incoming.{application, session, wrong_order, too_short, unknown}
use Rattle.fixp_end.specs.Laws.{ClassifiedOnce}

-- the template of a message that is spelled is one of the table
is_template-spelled : (message : List ℕ) (m : Message) → Spells message m → is_template (template_in message) ≡ true
is_template-spelled message m spells = ap is_template spells.template ∙ is_template-row m

-- a template of the table is none that is not
is_template-known : (id : ℕ) (message : List ℕ) → is_template (template_in message) ≡ true → template_in message ≡ id → is_template id ≡ false → ⊥
is_template-known id message built same unbuilt = let both : true ≡ false = sym built ∙ ap is_template same ∙ unbuilt in cc

pub classified_once : AtMostOneMessage → ClassifiedOnce
classified_once one order message (application a) (application b) p q = ap application (p.1 ∙ sym q.1)
classified_once one order message (application a) (session m) p q = let j = p.0 in let k = q.0 in cc
classified_once one order message (application a) wrong_order p q = let j = p.0 in cc
classified_once one order message (application a) too_short p q = let j = p.0 in let k = q.0 in cc
classified_once one order message (application a) (unknown id) p q = let j = p.0 in let k = q.0 in cc
classified_once one order message (session m) (application b) p q = let j = q.0 in let k = p.0 in cc
classified_once one order message (session m) (session n) p q = ap session (one message m n p.1 q.1)
classified_once one order message (session m) wrong_order p q = let k = p.0 in cc
classified_once one order message (session m) too_short p q = absurd (q.2 m p.1)
classified_once one order message (session m) (unknown id) p q = absurd (is_template-known id message (is_template-spelled message m p.1) q.1 q.2)
classified_once one order message wrong_order (application b) p q = let j = q.0 in cc
classified_once one order message wrong_order (session m) p q = let k = q.0 in cc
classified_once one order message wrong_order wrong_order p q = refl
classified_once one order message wrong_order too_short p q = let k = q.0 in cc
classified_once one order message wrong_order (unknown id) p q = let k = q.0 in cc
classified_once one order message too_short (application b) p q = let j = q.0 in let k = p.0 in cc
classified_once one order message too_short (session m) p q = absurd (p.2 m q.1)
classified_once one order message too_short wrong_order p q = let k = p.0 in cc
classified_once one order message too_short too_short p q = refl
classified_once one order message too_short (unknown id) p q = absurd (is_template-known id message p.1 q.1 q.2)
classified_once one order message (unknown id) (application b) p q = let j = q.0 in let k = p.0 in cc
classified_once one order message (unknown id) (session m) p q = absurd (is_template-known id message (is_template-spelled message m q.1) p.1 p.2)
classified_once one order message (unknown id) wrong_order p q = let k = p.0 in cc
classified_once one order message (unknown id) too_short p q = absurd (is_template-known id message q.1 p.1 p.2)
classified_once one order message (unknown id) (unknown other) p q = ap unknown (sym p.1 ∙ q.1)
