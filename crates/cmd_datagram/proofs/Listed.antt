-- Datagrams one behind another: what was packed, by its place, and what deliveries make of a receiver.
use Rattle.std.proofs.Common.{◌≡◌, ℕ, zero, suc, ◌+◌, ◌-◌, ◌≤◌, ◌<◌, List, [], ◌∷◌, ◌++◌, length, map, take, drop, get_or, codes, Option, Some, None, Result, Ok, Err, OnOk, OnErr, refl, ap, sym, subst, ◌∙◌, arith, append_assoc, append-nil, take-append-drop}
use Rattle.std.proofs.lemmas.Grind.{flat_map-append}
use Rattle.std.proofs.lemmas.List.{length-map, map-append, get_or_default}
use Rattle.std.proofs.lemmas.Option.{slice_get-map}
use Rattle.std.proofs.Math.Seq.{take-suc, take-length}
use Rattle.std.specs.List.{flat_map, slice_get, AllByRecursion}
use Rattle.session_model.specs.Journal.{counts_from}
use Rattle.session_model.proofs.Lists.{length-counts_from, counts_from-add}
use Rattle.fixp_msgs.specs.declared.numbering.Range.{Range}
use Rattle.fixp_datagram.specs.declared.receiver.Start.{Start}
use Rattle.fixp_datagram.specs.Datagrams.{Contents}
use Rattle.fixp_datagram.specs.Packing.{cut_at, cut_count, cut}
use Rattle.fixp_datagram.specs.Receiving.{Receiver, fresh, start_of, started, ask}
use Rattle.fixp_datagram.specs.Delivering.{Report, Delivery, reports_behind, received_behind, reports, received, deliveries, received_all}
use Rattle.gw_outside.specs.Faults.{TakesFront}
use Rattle.cmd_datagram.specs.declared.script.Script.{Script}
use Rattle.cmd_datagram.specs.Script.{IsNumberOf, IsScript}
use Rattle.cmd_datagram.specs.Messages.{most}
use Rattle.cmd_datagram.specs.Lines.{report_line, ask_line, number_line, delivery_lines, lines_at}
use Rattle.cmd_datagram.specs.Delivered.{IsPacked, ArePacked, payloads_of, delivered, received_lines, delivered_lines}
use Rattle.cmd_datagram.proofs.Payloads.{length-payloads_of}
use Rattle.cmd_datagram.proofs.Writing.{front_of_more}

-- ---- packed datagrams

pub packed_more : (bytes : List (List ℕ)) (ds : List Contents) (b : List ℕ) (d : Contents) → ArePacked bytes ds → IsPacked b d → ArePacked (bytes ++ b ∷ []) (ds ++ d ∷ [])
packed_more [] [] b d all one = (one, tt)
packed_more [] (e ∷ ds) b d all one = absurd all
packed_more (a ∷ bytes) [] b d all one = absurd all
packed_more (a ∷ bytes) (e ∷ ds) b d all one = (all.0, packed_more bytes ds b d all.1 one)

pub packed_count : (bytes : List (List ℕ)) (ds : List Contents) → ArePacked bytes ds → length bytes ≡ length ds
packed_count [] [] all = refl
packed_count [] (d ∷ ds) all = absurd all
packed_count (b ∷ bytes) [] all = absurd all
packed_count (b ∷ bytes) (d ∷ ds) all = ap suc (packed_count bytes ds all.1)

pub packed_at : (bytes : List (List ℕ)) (ds : List Contents) (k : ℕ) (d : Contents) → ArePacked bytes ds → slice_get ds k ≡ Some d → IsPacked (get_or bytes k []) d
packed_at [] [] k d all at = absurd (cc)
packed_at [] (e ∷ ds) k d all at = absurd all
packed_at (b ∷ bytes) [] k d all at = absurd all
packed_at (b ∷ bytes) (e ∷ ds) zero d all at = let same : e ≡ d = cc in subst (λ (x : Contents). IsPacked b x) same all.0
packed_at (b ∷ bytes) (e ∷ ds) (suc k) d all at = packed_at bytes ds k d all.1 at

-- ---- the datagrams that messages are cut into, by their numbers

count_at : (n m k : ℕ) → k < m → slice_get (counts_from n m) k ≡ Some (n + k)
count_at n zero k below = absurd (omega (arith, below))
count_at n (suc m) zero below = ap Some (omega arith)
count_at n (suc m) (suc k) below = count_at (n + 1) m k (omega arith) ∙ ap Some (omega arith)

-- the one with number k
pub cut_has : (per : ℕ) (payloads : List (List ℕ)) (k : ℕ) → 1 ≤ k → k ≤ cut_count per (length payloads) → slice_get (cut per payloads) (k - 1) ≡ Some (cut_at per payloads k)
cut_has per payloads k least most =
    slice_get-map (cut_at per payloads) (counts_from 1 (cut_count per (length payloads))) (k - 1)
    ∙ (ap (λ (o : Option ℕ). option_of o) (count_at 1 (cut_count per (length payloads)) (k - 1) (omega arith))
    ∙ ap (λ (n : ℕ). Some (cut_at per payloads n)) (omega arith))
  where
    option_of : Option ℕ → Option Contents
    option_of None = None
    option_of (Some n) = Some (cut_at per payloads n)

-- one more of them
pub cut_more : (per : ℕ) (payloads : List (List ℕ)) (k : ℕ) → map (cut_at per payloads) (counts_from 1 (k + 1)) ≡ map (cut_at per payloads) (counts_from 1 k) ++ cut_at per payloads (k + 1) ∷ []
cut_more per payloads k =
    ap (map (cut_at per payloads)) (counts_from-add 1 k 1)
    ∙ (map-append (cut_at per payloads) (counts_from 1 k) (counts_from (1 + k) 1)
    ∙ ap (λ (n : ℕ). map (cut_at per payloads) (counts_from 1 k) ++ cut_at per payloads n ∷ []) (omega arith))

-- ---- deliveries

-- some deliveries, and then others
received_both : (r : Receiver) (ds es : List Contents) → received_all r (ds ++ es) ≡ received_all (received_all r ds) es
received_both r [] es = refl
received_both r (d ∷ ds) es = received_both (received r d) ds es

made : Receiver → Contents → Delivery
made r d = record { reports = reports r d; ask = ask (received r d) }

deliveries_both : (r : Receiver) (ds es : List Contents) → deliveries r (ds ++ es) ≡ deliveries r ds ++ deliveries (received_all r ds) es
unfolding made
deliveries_both r [] es = refl
deliveries_both r (d ∷ ds) es = ap (λ (xs : List Delivery). made r d ∷ xs) (deliveries_both (received r d) ds es)

lines_both : (r : Receiver) (ds es : List Contents)
    → flat_map delivery_lines (deliveries r (ds ++ es)) ≡ flat_map delivery_lines (deliveries r ds) ++ flat_map delivery_lines (deliveries (received_all r ds) es)
lines_both r ds es = ap (flat_map delivery_lines) (deliveries_both r ds es) ∙ flat_map-append delivery_lines (deliveries r ds) (deliveries (received_all r ds) es)

-- ---- the deliveries of a script, as far as they came

abbrev pub first_receiver : Script → Receiver
first_receiver s = fresh s.flow 1 most

abbrev pub so_far : Script → ℕ → List Contents
so_far s i = map (cut_at s.per (payloads_of s.messages)) (take i s.deliver)

abbrev pub lines_so_far : Script → ℕ → List ℕ
lines_so_far s i = flat_map delivery_lines (deliveries (first_receiver s) (so_far s i))

abbrev pub receiver_so_far : Script → ℕ → Receiver
receiver_so_far s i = received_all (first_receiver s) (so_far s i)

-- the next one
abbrev pub next_of : Script → ℕ → Contents
next_of s i = cut_at s.per (payloads_of s.messages) (get_or s.deliver i 0)

so_far_more : (s : Script) (i : ℕ) → i < length s.deliver → so_far s (i + 1) ≡ so_far s i ++ next_of s i ∷ []
so_far_more s i below =
    let one : i + 1 ≡ suc i = omega arith in
    ap (λ (n : ℕ). so_far s n) one
    ∙ (ap (map (cut_at s.per (payloads_of s.messages))) (take-suc s.deliver i 0 below) ∙ map-append (cut_at s.per (payloads_of s.messages)) (take i s.deliver) (get_or s.deliver i 0 ∷ []))

lines_more : (s : Script) (i : ℕ) → i < length s.deliver → lines_so_far s i ++ lines_at (receiver_so_far s i) (Some (next_of s i)) ≡ lines_so_far s (i + 1)
lines_more s i below = sym (
    ap (λ (ds : List Contents). flat_map delivery_lines (deliveries (first_receiver s) ds)) (so_far_more s i below)
    ∙ (lines_both (first_receiver s) (so_far s i) (next_of s i ∷ [])
    ∙ ap (λ (xs : List ℕ). lines_so_far s i ++ xs) (append-nil (lines_at (receiver_so_far s i) (Some (next_of s i))))))

pub lines_go_on : (s : Script) (i : ℕ) (r : Receiver) → r ≡ receiver_so_far s i → i < length s.deliver → lines_so_far s i ++ lines_at r (Some (next_of s i)) ≡ lines_so_far s (i + 1)
lines_go_on s i r is below = ap (λ (x : Receiver). lines_so_far s i ++ lines_at x (Some (next_of s i))) is ∙ lines_more s i below

pub receiver_goes_on : (s : Script) (i : ℕ) (r : Receiver) → r ≡ receiver_so_far s i → i < length s.deliver → received r (next_of s i) ≡ receiver_so_far s (i + 1)
receiver_goes_on s i r is below =
    ap (λ (x : Receiver). received x (next_of s i)) is
    ∙ sym (ap (received_all (first_receiver s)) (so_far_more s i below) ∙ received_both (first_receiver s) (so_far s i) (next_of s i ∷ []))

-- what came begins all
begins_all : (s : Script) (i : ℕ) → (rest : List ℕ) × (delivered_lines s ≡ lines_so_far s i ++ rest)
begins_all s i =
    let f : ℕ → Contents = cut_at s.per (payloads_of s.messages) in
    let last : List ℕ = number_line (codes "next ") (received_all (first_receiver s) (delivered s)).next in
    let others : List Contents = map f (drop i s.deliver) in
    let both : delivered s ≡ so_far s i ++ others = ap (map f) (sym (take-append-drop i s.deliver)) ∙ map-append f (take i s.deliver) (drop i s.deliver) in
    let behind : List ℕ = flat_map delivery_lines (deliveries (receiver_so_far s i) others) in (
      behind ++ last,
      ap (λ (ds : List Contents). flat_map delivery_lines (deliveries (first_receiver s) ds) ++ last) both
          ∙ (ap (λ (xs : List ℕ). xs ++ last) (lines_both (first_receiver s) (so_far s i) others) ∙ append_assoc (lines_so_far s i) behind last),
    )

-- a front of it is one of all
pub front_of_all : (s : Script) (i : ℕ) (before now : Option (List ℕ)) → TakesFront before now (lines_so_far s i) → TakesFront before now (delivered_lines s)
front_of_all s i before now front =
    let all = begins_all s i in
    subst (TakesFront before now) (sym all.1) (front_of_more before now (lines_so_far s i) all.0 front)

-- at the end all came
pub all_came : (s : Script) (n i : ℕ) → i ≡ length s.deliver → n ≡ (receiver_so_far s i).next → lines_so_far s i ++ number_line (codes "next ") n ≡ delivered_lines s
all_came s n i end next =
    let f : ℕ → Contents = cut_at s.per (payloads_of s.messages) in
    let whole : so_far s i ≡ delivered s = ap (map f) (ap (λ (m : ℕ). take m s.deliver) end ∙ take-length s.deliver) in
    ap (λ (m : ℕ). lines_so_far s i ++ number_line (codes "next ") m) next
    ∙ ap (received_lines (first_receiver s)) whole

-- ---- the numbers that are listed

number_at : (P : ℕ → Type 0) (ks : List ℕ) (i : ℕ) → AllByRecursion P ks → i < length ks → P (get_or ks i 0)
number_at P [] i all below = absurd (omega (arith, below))
number_at P (k ∷ ks) zero all below = all.0
number_at P (k ∷ ks) (suc i) all below = number_at P ks i all.1 (omega (arith, below))

-- the datagram with a number was packed
listed_is_packed : (s : Script) (bytes : List (List ℕ)) (k : ℕ) → ArePacked bytes (cut s.per (payloads_of s.messages)) → IsNumberOf (cut_count s.per s.messages) k
    → IsPacked (get_or bytes (k - 1) []) (cut_at s.per (payloads_of s.messages) k)
listed_is_packed s bytes k all is =
    let ps : List (List ℕ) = payloads_of s.messages in
    let most_of : k ≤ cut_count s.per (length ps) = subst (λ (n : ℕ). k ≤ cut_count s.per n) (sym (length-payloads_of s.messages)) is.1 in
    packed_at bytes (cut s.per ps) (k - 1) (cut_at s.per ps k) all (cut_has s.per ps k is.0 most_of)

count_packed : (s : Script) (bytes : List (List ℕ)) → ArePacked bytes (cut s.per (payloads_of s.messages)) → length bytes ≡ cut_count s.per s.messages
count_packed s bytes all =
    let ps : List (List ℕ) = payloads_of s.messages in
    packed_count bytes (cut s.per ps) all
    ∙ (length-map (counts_from 1 (cut_count s.per (length ps))) (cut_at s.per ps)
    ∙ (length-counts_from 1 (cut_count s.per (length ps)) ∙ ap (cut_count s.per) (length-payloads_of s.messages)))

pub below_count : (s : Script) (bytes slice : List (List ℕ)) (items : List ℕ) (i : ℕ) → IsScript s → items ≡ s.deliver → slice ≡ bytes → ArePacked bytes (cut s.per (payloads_of s.messages))
    → i < length items → get_or items i 0 - 1 < length slice
below_count s bytes slice items i is listed same all below =
    let number : IsNumberOf (cut_count s.per s.messages) (get_or items i 0) =
    subst (λ (ks : List ℕ). IsNumberOf (cut_count s.per s.messages) (get_or ks i 0)) (sym listed)
    (number_at (IsNumberOf (cut_count s.per s.messages)) s.deliver i is.deliver (omega (arith, ap length listed, below))) in
    omega (arith, number.0, number.1, ap length same, count_packed s bytes all)

-- what is found at a listed number was packed
pub found_is_packed : (s : Script) (bytes slice : List (List ℕ)) (items : List ℕ) (i : ℕ) (b x : List ℕ) → IsScript s → items ≡ s.deliver → slice ≡ bytes
    → ArePacked bytes (cut s.per (payloads_of s.messages)) → i < length items → b ≡ get_or slice (get_or items i 0 - 1) b → x ≡ b → IsPacked x (next_of s i)
found_is_packed s bytes slice items i b x is listed same all below found read =
    let k : ℕ = get_or s.deliver i 0 in
    let number : IsNumberOf (cut_count s.per s.messages) k =
    number_at (IsNumberOf (cut_count s.per s.messages)) s.deliver i is.deliver (omega (arith, ap length listed, below)) in
    let within : k - 1 < length bytes = omega (arith, number.0, number.1, count_packed s bytes all) in
    let there : b ≡ get_or bytes (k - 1) [] =
    found
    ∙ (ap (λ (xs : List (List ℕ)). get_or xs (get_or items i 0 - 1) b) same
    ∙ (ap (λ (ks : List ℕ). get_or bytes (get_or ks i 0 - 1) b) listed ∙ get_or_default bytes (k - 1) b [] within)) in
    subst (λ (y : List ℕ). IsPacked y (next_of s i)) (sym (read ∙ there)) (listed_is_packed s bytes k all number)

-- ---- a delivery, call by call

pub delivered_receiver : (r r1 r2 : Receiver) (e : Contents) (first : ℕ) (start : Start) → first ≡ e.first → start ≡ start_of r first → r1 ≡ started r first
    → r2 ≡ received_behind start r1 e.payloads → r2 ≡ received r e
delivered_receiver r r1 r2 e first start first_is start_is begun after =
    after
    ∙ (ap (λ (s : Start). received_behind s r1 e.payloads) (start_is ∙ ap (start_of r) first_is)
    ∙ ap (λ (x : Receiver). received_behind (start_of r e.first) x e.payloads) (begun ∙ ap (started r) first_is))

pub delivered_reports : (r r1 : Receiver) (e : Contents) (first : ℕ) (start : Start) → first ≡ e.first → start ≡ start_of r first → r1 ≡ started r first
    → reports_behind start r1 e.payloads ≡ reports r e
delivered_reports r r1 e first start first_is start_is begun =
    ap (λ (s : Start). reports_behind s r1 e.payloads) (start_is ∙ ap (start_of r) first_is)
    ∙ ap (λ (x : Receiver). reports_behind (start_of r e.first) x e.payloads) (begun ∙ ap (started r) first_is)

pub lines_of_delivery : (r r2 : Receiver) (e : Contents) (found : List Report) (asked : Option Range) (lines lines1 lines2 : List ℕ)
    → found ≡ reports r e → r2 ≡ received r e → lines1 ≡ lines ++ flat_map report_line found → asked ≡ ask r2 → lines2 ≡ lines1 ++ ask_line asked
    → lines2 ≡ lines ++ lines_at r (Some e)
lines_of_delivery r r2 e found asked lines lines1 lines2 found_is after is1 asked_is is2 =
    is2
    ∙ (ap (λ (xs : List ℕ). xs ++ ask_line asked) is1
    ∙ (append_assoc lines (flat_map report_line found) (ask_line asked)
    ∙ ap (λ (xs : List ℕ). lines ++ xs) (
    ap (λ (rs : List Report). flat_map report_line rs ++ ask_line asked) found_is
    ∙ ap (λ (o : Option Range). flat_map report_line (reports r e) ++ ask_line o) (asked_is ∙ ap ask after))))

pub on_any : {T E P : Type 0} (r : Result T E) → P → OnOk r P
on_any (Ok t) p = p
on_any (Err e) p = tt

pub on_any_err : {T E P : Type 0} (r : Result T E) → P → OnErr r P
on_any_err (Ok t) p = tt
on_any_err (Err e) p = p
