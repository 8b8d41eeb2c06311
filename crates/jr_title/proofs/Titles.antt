-- A title's bytes tell the title.
use Rattle.std.proofs.Common.{◌≡◌, ℕ, ◌≤◌, ◌<◌, ◌^◌, List, ◌++◌, length, take, refl, sym, ap, ◌∙◌, arith}
use Rattle.std.proofs.Math.Seq.{take-append_seam}
use Rattle.std.proofs.lemmas.List.{take_all}
use Rattle.std.proofs.lemmas.Nat.{from_le_bytes-to_le_bytes_2, from_le_bytes-to_le_bytes_8}
use Rattle.std.specs.Int.{w16, w64, to_le_bytes, from_le_bytes}
use Rattle.fixp_msgs.specs.declared.flow.Flow.{Flow}
use Rattle.fixp_msgs.specs.declared.flow.Flow.TheVariants as flows
use Rattle.fixp_msgs.specs.Flow.{flow_code}
use Rattle.fixp_shake.specs.declared.config.Role.{Role}
use Rattle.fixp_shake.specs.declared.config.Role.TheVariants.{Initiator, Acceptor}
use Rattle.jr_title.specs.declared.title.Which.{Which}
use Rattle.jr_title.specs.declared.title.Which.TheVariants.{Outbox, Inbox}
use Rattle.jr_title.specs.declared.title.Orders.{Orders}
use Rattle.jr_title.specs.declared.title.WhoSends.{WhoSends}
use Rattle.jr_title.specs.declared.title.WhoSends.TheVariants.{Senders, Desks, Book}
use Rattle.jr_title.specs.declared.title.Title.{Title}
use Rattle.jr_title.specs.Titles.{IsTitle, IsWhoSends, which_code, role_code, who_code, desks_of, version_of, reference_of, image_of}
use Rattle.jr_title.specs.Laws.{AtMostOneTitle, ReadsBack}
use Rattle.jr_title.proofs.Images.{Parts, parts, byte, fronted, length_64}

same_2 : (m n : ℕ) → m < 2 ^ 16 → n < 2 ^ 16 → to_le_bytes w16 m ≡ to_le_bytes w16 n → m ≡ n
same_2 m n small_m small_n e = sym (from_le_bytes-to_le_bytes_2 m small_m) ∙ ap (from_le_bytes w16) e ∙ from_le_bytes-to_le_bytes_2 n small_n

same_8 : (m n : ℕ) → m < 2 ^ 64 → n < 2 ^ 64 → to_le_bytes w64 m ≡ to_le_bytes w64 n → m ≡ n
same_8 m n small_m small_n e = sym (from_le_bytes-to_le_bytes_8 m small_m) ∙ ap (from_le_bytes w64) e ∙ from_le_bytes-to_le_bytes_8 n small_n

-- ---- the numbers of the fields tell them

same_which : (v w : Which) → which_code v ≡ which_code w → v ≡ w
same_which Outbox Outbox e = refl
same_which Inbox Inbox e = refl
same_which v w e = absurd (omega arith)

pub same_role : (v w : Role) → role_code v ≡ role_code w → v ≡ w
same_role Initiator Initiator e = refl
same_role Acceptor Acceptor e = refl
same_role v w e = absurd (omega arith)

same_flow : (v w : Flow) → flow_code v ≡ flow_code w → v ≡ w
same_flow flows.Recoverable flows.Recoverable e = refl
same_flow flows.Idempotent flows.Idempotent e = refl
same_flow flows.Unsequenced flows.Unsequenced e = refl
same_flow flows.None flows.None e = refl
same_flow v w e = absurd (omega arith)

orders_made : ℕ → ℕ → Orders
orders_made version reference = record { version = version; reference = reference }

orders_is : (o : Orders) → orders_made o.version o.reference ≡ o
unfolding orders_made
orders_is o = refl

same_made_orders : (v w r s : ℕ) → v ≡ w → r ≡ s → orders_made v r ≡ orders_made w s
same_made_orders v w r s e f = cc

same_orders : (o p : Orders) → o.version ≡ p.version → o.reference ≡ p.reference → o ≡ p
same_orders o p e f = sym (orders_is o) ∙ same_made_orders o.version p.version o.reference p.reference e f ∙ orders_is p

same_who : (v w : WhoSends) → who_code v ≡ who_code w → desks_of v ≡ desks_of w → version_of v ≡ version_of w → reference_of v ≡ reference_of w → v ≡ w
same_who Senders Senders codes desks versions references = refl
same_who (Desks d o) (Desks e p) codes desks versions references =
    let orders : o ≡ p = same_orders o p versions references in cc (desks, orders)
same_who (Book o) (Book p) codes desks versions references = ap Book (same_orders o p versions references)
same_who v w codes desks versions references = absurd (omega arith)

title_made : Which → Role → List ℕ → Flow → Flow → WhoSends → ℕ → Title
title_made which role session client server who pair =
    record {
      binding = record { which = which; role = role; session = session; client_flow = client; server_flow = server; who_sends = who };
      pair = pair;
    }

title_is : (t : Title) → title_made t.binding.which t.binding.role t.binding.session t.binding.client_flow t.binding.server_flow t.binding.who_sends t.pair ≡ t
unfolding title_made
title_is t = refl

same_made : (a b : Which) (c d : Role) (e f : List ℕ) (g h i j : Flow) (k l : WhoSends) (m n : ℕ) → a ≡ b → c ≡ d → e ≡ f → g ≡ h → i ≡ j → k ≡ l → m ≡ n
    → title_made a c e g i k m ≡ title_made b d f h j l n
same_made a b c d e f g h i j k l m n p q r s t u v = cc

-- ---- and so the bytes tell the title

pub who_bounds : (w : WhoSends) → IsWhoSends w → (version_of w < 2 ^ 16) × (reference_of w < 2 ^ 64)
who_bounds Senders legal = (omega arith, omega arith)
who_bounds (Desks d o) legal = (omega (arith, legal.2.version.1), omega (arith, legal.2.reference.1))
who_bounds (Book o) legal = (omega (arith, legal.version.1), omega (arith, legal.reference.1))

pub same_title : (b : List ℕ) (t u : Title) → IsTitle t → IsTitle u → Parts b t → Parts b u → t ≡ u
same_title b t u legal_t legal_u p q =
    let w = t.binding.who_sends in
    let v = u.binding.who_sends in
    let bounds_w = who_bounds w legal_t.who in
    let bounds_v = who_bounds v legal_u.who in
    let whiches = same_which t.binding.which u.binding.which (sym (byte b t p 8 (omega arith)) ∙ byte b u q 8 (omega arith)) in
    let roles = same_role t.binding.role u.binding.role (sym (byte b t p 9 (omega arith)) ∙ byte b u q 9 (omega arith)) in
    let clients = same_flow t.binding.client_flow u.binding.client_flow (sym (byte b t p 10 (omega arith)) ∙ byte b u q 10 (omega arith)) in
    let servers = same_flow t.binding.server_flow u.binding.server_flow (sym (byte b t p 11 (omega arith)) ∙ byte b u q 11 (omega arith)) in
    let versions : version_of w ≡ version_of v = same_2 (version_of w) (version_of v) bounds_w.0 bounds_v.0 (sym p.version ∙ q.version) in
    let references : reference_of w ≡ reference_of v = same_8 (reference_of w) (reference_of v) bounds_w.1 bounds_v.1 (sym p.reference ∙ q.reference) in
    let whos = same_who w v (sym (byte b t p 12 (omega arith)) ∙ byte b u q 12 (omega arith)) (sym (byte b t p 13 (omega arith)) ∙ byte b u q 13 (omega arith)) versions references in
    let pairs = same_8 t.pair u.pair legal_t.pair legal_u.pair (sym p.pair ∙ q.pair) in
    sym (title_is t)
    ∙ same_made t.binding.which u.binding.which t.binding.role u.binding.role t.binding.session u.binding.session t.binding.client_flow u.binding.client_flow
    t.binding.server_flow u.binding.server_flow w v t.pair u.pair whiches roles (sym p.session ∙ q.session) clients servers whos pairs
    ∙ title_is u

-- 64 bytes are of one title
pub same_image : (b : List ℕ) (t u : Title) → IsTitle t → IsTitle u → take 64 b ≡ image_of t → take 64 b ≡ image_of u → t ≡ u
same_image b t u legal_t legal_u e f =
    let first = fronted b t legal_t.session e in
    let second = fronted b u legal_u.session f in
    let long : 60 ≤ length b = omega (arith, first.long) in
    same_title b t u legal_t legal_u (parts b t legal_t.session long first.front) (parts b u legal_u.session long second.front)

pub one_title : AtMostOneTitle
one_title t u legal_t legal_u e =
    let small : length (image_of t) ≤ 64 = omega (arith, length_64 t legal_t.session) in
    let all : take 64 (image_of t) ≡ image_of t = take_all 64 (image_of t) small in
    same_image (image_of t) t u legal_t legal_u all (all ∙ e)

pub reads_back : ReadsBack
reads_back = record {
  size = λ t legal. length_64 t legal.session;
  read = λ t behind legal. (
    legal,
    ap (λ (n : ℕ). take n (image_of t ++ behind)) (sym (length_64 t legal.session)) ∙ take-append_seam (image_of t) behind,
  );
}
