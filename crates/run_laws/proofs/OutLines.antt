-- The lines of a life behind a text that tells of what its inbox held.
use Rattle.std.proofs.Common.{◌≡◌, ℕ, zero, suc, ◌+◌, Bool, true, false, List, [], ◌∷◌, ◌++◌, length, take, Option, Some, None, refl, sym, ap, subst, ◌∙◌, append_assoc, append-nil, take_all, arith}
use Rattle.std.specs.Prelude.{All}
use Rattle.std.specs.List.{AllByRecursion}
use Rattle.std.specs.Io.KnownBytes.{Appends}
use Rattle.std.proofs.lemmas.Option.{same_Some}
use Rattle.std.proofs.lemmas.List.Elements.{All-nil, All-cons, All-head, All-tail}
use mathlib.Core.List.{IsPrefix}
use Rattle.session_model.specs.Inbox.{Numbered, applied}
use Rattle.session_model.proofs.Inboxes.{applied-append}
use Rattle.gw_lines.proofs.Steps.{none_feedless}
use Rattle.conn_turns.specs.declared.news.NewsItem.{NewsItem}
use Rattle.conn_turns.specs.declared.news.NewsItem.TheVariants as items
use Rattle.conn_lines.specs.Lines.{deliver_line, not_applied_line}
use Rattle.conn_lines.specs.declared.close.Close.{Close}
use Rattle.conn_out.specs.Messages.{deliver_lines}
use Rattle.conn_out.specs.Projections.{Tells, Projects}
use Rattle.conn_out.specs.Laws.{IsMessage, FrontTells}
use Rattle.conn_out.proofs.Fronts.{fronts_project}
use Rattle.conn_out.proofs.Lines.{lines_tell_on}
use Rattle.conn_out.proofs.Others.{others_tell_on}
use Rattle.conn_serve.specs.Connections.{Connection, adds_of}
use Rattle.conn_serve.specs.Lines.{news_lines, close_line, lines_from}
use Rattle.conn_serve.specs.Causes.{Tells as Took, TellsAll}
use Rattle.run_laws.specs.Outs.{TellsFirst}
use Rattle.run_laws.proofs.News.{delivered, DeliversAll}

-- ---- of some messages, each is such

module _ (P : Numbered → Type 0) where
  pub all_left : (ms ns : List Numbered) → All P (ms ++ ns) → All P ms
  all_left [] ns all = All-nil P
  all_left (m ∷ ms) ns all = All-cons P m ms (All-head P m (ms ++ ns) all) (all_left ms ns (All-tail P m (ms ++ ns) all))

  pub all_right : (ms ns : List Numbered) → All P (ms ++ ns) → All P ns
  all_right [] ns all = all
  all_right (m ∷ ms) ns all = all_right ms ns (All-tail P m (ms ++ ns) all)

  pub all_within : (ms ns : List Numbered) → IsPrefix ms ns → All P ns → All P ms
  all_within ms ns p all = all_left ms p.0 (subst (All P) (sym p.1) all)

-- ---- lines behind a text

nothing_more : (text : List ℕ) (ms : List Numbered) → Tells text ms → Tells (text ++ []) (ms ++ [])
nothing_more text ms t = subst (λ (bytes : List ℕ). Tells bytes (ms ++ [])) (sym (append-nil text)) (subst (Tells text) (sym (append-nil ms)) t)

news_tell : (text : List ℕ) (ms : List Numbered) (news : List NewsItem) → All IsMessage (delivered news) → Tells text ms → Tells (text ++ news_lines news) (ms ++ delivered news)
news_tell text ms [] all t = nothing_more text ms t
news_tell text ms (items.Delivered number payload ∷ later) all t =
    let m : Numbered = record { number = number; payload = payload } in
    let line : List ℕ = deliver_line number payload in
    let one : Tells (text ++ deliver_lines (m ∷ [])) (ms ++ m ∷ []) =
    lines_tell_on text ms (m ∷ []) t (All-cons IsMessage m [] (All-head IsMessage m (delivered later) all) (All-nil IsMessage)) in
    let rest : Tells ((text ++ deliver_lines (m ∷ [])) ++ news_lines later) ((ms ++ m ∷ []) ++ delivered later) =
    news_tell (text ++ deliver_lines (m ∷ [])) (ms ++ m ∷ []) later (All-tail IsMessage m (delivered later) all) one in
    let bytes : (text ++ deliver_lines (m ∷ [])) ++ news_lines later ≡ text ++ (line ++ news_lines later) =
    ap (λ (bs : List ℕ). (text ++ bs) ++ news_lines later) (append-nil line) ∙ append_assoc text line (news_lines later) in
    subst (λ (bs : List ℕ). Tells bs (ms ++ m ∷ delivered later)) bytes
    (subst (Tells ((text ++ deliver_lines (m ∷ [])) ++ news_lines later)) (append_assoc ms (m ∷ []) (delivered later)) rest)
news_tell text ms (items.NotApplied from count ∷ later) all t =
    let line : List ℕ = not_applied_line from count in
    subst (λ (bs : List ℕ). Tells bs (ms ++ delivered later)) (append_assoc text line (news_lines later))
    (news_tell (text ++ line) ms later all (others_tell_on.not_applied text ms from count t))

close_tells : (text : List ℕ) (ms : List Numbered) (number : ℕ) (close : Option Close) → Tells text ms → Tells (text ++ close_line number close) ms
close_tells text ms number None t = subst (λ (bs : List ℕ). Tells bs ms) (sym (append-nil text)) t
close_tells text ms number (Some close) t = others_tell_on.ended text ms number close t

pub life_tells : (text : List ℕ) (ms : List Numbered) (number : ℕ) (cs : List Connection) → AllByRecursion DeliversAll cs → All IsMessage (applied (adds_of cs)) → Tells text ms
    → Tells (text ++ lines_from number cs) (ms ++ applied (adds_of cs))
life_tells text ms number [] deliver all t = nothing_more text ms t
life_tells text ms number (c ∷ later) deliver all t =
    let here : List ℕ = news_lines c.news in
    let end : List ℕ = close_line number c.close in
    let behind : List ℕ = lines_from (number + 1) later in
    let mine : List Numbered = applied c.adds in
    let theirs : List Numbered = applied (adds_of later) in
    let both : applied (c.adds ++ adds_of later) ≡ mine ++ theirs = applied-append c.adds (adds_of later) in
    let each : All IsMessage (mine ++ theirs) = subst (All IsMessage) both all in
    let news : Tells (text ++ here) (ms ++ delivered c.news) =
    news_tell text ms c.news (subst (All IsMessage) (sym deliver.0) (all_left IsMessage mine theirs each)) t in
    let ended : Tells ((text ++ here) ++ end) (ms ++ mine) =
    close_tells (text ++ here) (ms ++ mine) number c.close (subst (λ (ns : List Numbered). Tells (text ++ here) (ms ++ ns)) deliver.0 news) in
    let rest : Tells (((text ++ here) ++ end) ++ behind) ((ms ++ mine) ++ theirs) =
    life_tells ((text ++ here) ++ end) (ms ++ mine) (number + 1) later deliver.1 (all_right IsMessage mine theirs each) ended in
    subst (λ (bs : List ℕ). Tells bs (ms ++ applied (c.adds ++ adds_of later)))
    (ap (λ (bs : List ℕ). bs ++ behind) (append_assoc text here end) ∙ append_assoc text (here ++ end) behind)
    (subst (Tells (((text ++ here) ++ end) ++ behind)) (append_assoc ms mine theirs ∙ ap (λ (ns : List Numbered). ms ++ ns) (sym both)) rest)

-- ---- fronts

front_behind : (xs ys : List ℕ) (n : ℕ) → xs ++ take n ys ≡ take (length xs + n) (xs ++ ys)
front_behind [] ys n = let e : 0 + n ≡ n = omega arith in ap (λ (k : ℕ). take k ys) (sym e)
front_behind (x ∷ xs) ys n =
    let e : suc (length xs) + n ≡ suc (length xs + n) = omega arith in
    ap (λ (zs : List ℕ). x ∷ zs) (front_behind xs ys n) ∙ ap (λ (k : ℕ). take k (x ∷ (xs ++ ys))) (sym e)

appended : (old new : Option (List ℕ)) (text bytes : List ℕ) → old ≡ Some text → Appends old new bytes → new ≡ Some (text ++ bytes)
appended None new text bytes is a = absurd (cc is)
appended (Some xs) None text bytes is a = absurd a
appended (Some xs) (Some ys) text bytes is a = ap (λ (zs : List ℕ). Some zs) (a ∙ ap (λ (zs : List ℕ). zs ++ bytes) (same_Some xs text is))

-- a front of some lines was taken behind a text
took_front : (lacking : Bool) (old new : Option (List ℕ)) (text lines : List ℕ) → old ≡ Some text → Took lacking old new lines → (n : ℕ) × (new ≡ Some (text ++ take n lines))
took_front false old new text lines is took =
    (length lines, appended old new text lines is took ∙ ap (λ (bs : List ℕ). Some (text ++ bs)) (sym (take_all (length lines) lines (omega arith))))
took_front true old new text lines is took = (took.count, appended old new text (take took.count lines) is took.appended)

pub life_took : (lacking : Bool) (old new : Option (List ℕ)) (text lines : List ℕ) → old ≡ Some text → TellsAll lacking old new lines → (n : ℕ) × (new ≡ Some (take n (text ++ lines)))
life_took lacking old new text lines is t =
    let first : t.told.between ≡ Some (text ++ t.earlier) = appended old t.told.between text t.earlier is t.told.first in
    let late = took_front lacking t.told.between new (text ++ t.earlier) t.late first t.told.last in
    let all : (text ++ t.earlier) ++ t.late ≡ text ++ lines = append_assoc text t.earlier t.late ∙ ap (λ (bs : List ℕ). text ++ bs) (sym t.are) in (
      length (text ++ t.earlier) + late.0,
      late.1 ∙ (ap (λ (bs : List ℕ). Some bs) (front_behind (text ++ t.earlier) t.late late.0) ∙ ap (λ (bs : List ℕ). Some (take (length (text ++ t.earlier) + late.0) bs)) all),
    )

-- ---- contents that tell of the first of some messages

pub tells_first : (text : List ℕ) (ms : List Numbered) → Tells text ms → TellsFirst text ms
tells_first text ms t = record {
  count = length ms;
  projects = subst (Projects text) (sym (take_all (length ms) ms (omega arith))) (record { text = text; rest = []; bytes = sym (append-nil text); feedless = none_feedless; tells = t });
}

take_twice : (j k : ℕ) (ms : List Numbered) → (n : ℕ) × (take j (take k ms) ≡ take n ms)
take_twice zero k ms = (0, refl)
take_twice (suc j) zero ms = (0, refl)
take_twice (suc j) (suc k) [] = (0, refl)
take_twice (suc j) (suc k) (m ∷ ms) = let r = take_twice j k ms in (suc r.0, ap (λ (ns : List Numbered). m ∷ ns) r.1)

take_within : (k : ℕ) (ms ns : List Numbered) → (n : ℕ) × (take k ms ≡ take n (ms ++ ns))
take_within zero ms ns = (0, refl)
take_within (suc k) [] ns = (0, refl)
take_within (suc k) (m ∷ ms) ns = let r = take_within k ms ns in (suc r.0, ap (λ (xs : List Numbered). m ∷ xs) r.1)

-- a front of one
pub front_tells : (content : List ℕ) (ms : List Numbered) (n : ℕ) → TellsFirst content ms → TellsFirst (take n content) ms
front_tells content ms n f =
    let cut : FrontTells (take n content) (take f.count ms) = fronts_project content (take f.count ms) n f.projects in
    let r = take_twice cut.count f.count ms in
    record { count = r.0; projects = subst (Projects (take n content)) r.1 cut.projects }

-- where there are more messages
pub more_first : (content : List ℕ) (ms ns : List Numbered) → IsPrefix ms ns → TellsFirst content ms → TellsFirst content ns
more_first content ms ns p f =
    let r = take_within f.count ms p.0 in
    record { count = r.0; projects = subst (Projects content) (r.1 ∙ ap (take r.0) p.1) f.projects }
