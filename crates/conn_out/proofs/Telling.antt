-- Lines of messages that are told a piece at a time.
use Rattle.std.proofs.Common.{◌≡◌, ℕ, zero, suc, ◌+◌, ◌≤◌, List, [], ◌∷◌, ◌++◌, length, take, drop, slice_get, refl, sym, ap, subst, ◌∙◌, append-nil}
use Rattle.std.proofs.Common.{append_assoc, length-append, arith}
use Rattle.std.specs.Prelude.{Option, Some, Result, Ok, Err, OnOk, OnErr}
use Rattle.std.specs.Io.KnownBytes.{Appends}
use Rattle.std.proofs.KnownBytes.{Appends-nil, Appends-trans}
use Rattle.gw_outside.specs.Faults.{TakesFront}
use Rattle.session_model.specs.Inbox.{Numbered}
use Rattle.jr_record.specs.declared.record.Record.{Record}
use Rattle.jr_record.specs.declared.record.Record.TheVariants as kinds
use Rattle.jr_dated.specs.Dated.{Dated, undated}
use Rattle.conn_lines.specs.Lines.{deliver_line}
use Rattle.conn_out.specs.Messages.{messages_of, messages_in, deliver_lines}
use Rattle.conn_out.specs.declared.fault.OutFault.{OutFault}
use Rattle.conn_out.specs.Telling.{Written}
use Rattle.conn_out.proofs.Places.{messages_at, none_behind}

take_in : (xs ys : List ℕ) (n : ℕ) → n ≤ length xs → take n (xs ++ ys) ≡ take n xs
take_in xs ys zero l = refl
take_in [] ys (suc n) l = absurd (omega (arith, l))
take_in (x ∷ xs) ys (suc n) l = ap (λ (zs : List ℕ). x ∷ zs) (take_in xs ys n (omega (arith, l)))

take_all : (xs : List ℕ) → take (length xs) xs ≡ xs
take_all [] = refl
take_all (x ∷ xs) = ap (λ (zs : List ℕ). x ∷ zs) (take_all xs)

-- a front of a text is one of a longer text
pub front_longer : (old new : Option (List ℕ)) (xs ys : List ℕ) → TakesFront old new xs → TakesFront old new (xs ++ ys)
front_longer old new xs ys t = record {
  count = t.count;
  within = omega (arith, t.within, length-append xs ys);
  appended = subst (Appends old new) (sym (take_in xs ys t.count t.within)) t.appended;
}

-- what was sent of a text is a front of it
pub written_front : (old new : Option (List ℕ)) (held text : List ℕ) → Written old new held text → TakesFront old new text
written_front old new held text w = subst (TakesFront old new) (sym w.split) (front_longer old new w.sent held (record {
  count = length w.sent;
  within = omega arith;
  appended = subst (Appends old new) (sym (take_all w.sent)) w.appended;
}))

take_past : (xs ys : List ℕ) (n : ℕ) → take (length xs + n) (xs ++ ys) ≡ xs ++ take n ys
take_past [] ys n = let e : 0 + n ≡ n = omega arith in ap (λ (k : ℕ). take k ys) e
take_past (x ∷ xs) ys n = let e : suc (length xs) + n ≡ suc (length xs + n) = omega arith in ap (λ (k : ℕ). take k (x ∷ (xs ++ ys))) e
    ∙ ap (λ (zs : List ℕ). x ∷ zs) (take_past xs ys n)

-- what is held was pushed, all of it or a front
pub pushed : (base old new : Option (List ℕ)) (held text : List ℕ) → Written base old held text → Appends old new held → Appends base new text
pushed base old new held text w a = subst (Appends base new) (sym w.split) (Appends-trans base old new w.sent held w.appended a)

pub pushed_front : (base old new : Option (List ℕ)) (held text : List ℕ) → Written base old held text → TakesFront old new held → TakesFront base new text
pushed_front base old new held text w t = subst (TakesFront base new) (sym w.split) (record {
  count = length w.sent + t.count;
  within = omega (arith, t.within, length-append w.sent held);
  appended = subst (Appends base new) (sym (take_past w.sent held t.count)) (Appends-trans base old new w.sent (take t.count held) w.appended t.appended);
})

-- a line more is held
pub held_more : (base now : Option (List ℕ)) (held more text line : List ℕ) → Written base now held text → more ≡ held ++ line
    → Written base now more (text ++ line)
held_more base now held more text line w is = record {
  sent = w.sent;
  appended = w.appended;
  split = ap (λ (bs : List ℕ). bs ++ line) w.split ∙ append_assoc w.sent held line ∙ ap (λ (bs : List ℕ). w.sent ++ bs) (sym is);
}

-- and all was pushed
pub none_held : (base now : Option (List ℕ)) (held text : List ℕ) → held ≡ [] → Appends base now text → Written base now held text
none_held base now held text none a = record { sent = text; appended = a; split = sym (append-nil text) ∙ ap (λ (bs : List ℕ). text ++ bs) (sym none) }

-- a line was told, or begun
pub line_told : (r : Result (Unit {0}) OutFault) (now new : Option (List ℕ)) (held more after line : List ℕ) → more ≡ held ++ line
    → OnOk r (Appends now new more) → OnOk r (after ≡ [])
    → OnOk r ((base : Option (List ℕ)) (text : List ℕ) → Written base now held text → Written base new after (text ++ line))
line_told (Err fault) now new held more after line is a none = tt
line_told (Ok _) now new held more after line is a none = λ base text w. none_held base new after (text ++ line) none
    (pushed base now new more (text ++ line) (held_more base now held more text line w is) a)

pub line_begun : (r : Result (Unit {0}) OutFault) (now new : Option (List ℕ)) (held more line : List ℕ) → more ≡ held ++ line
    → OnErr r (TakesFront now new more)
    → OnErr r ((base : Option (List ℕ)) (text : List ℕ) → Written base now held text → TakesFront base new (text ++ line))
line_begun (Ok _) now new held more line is t = tt
line_begun (Err fault) now new held more line is t = λ base text w. pushed_front base now new more (text ++ line)
    (held_more base now held more text line w is) t

pub on_ok : (r : Result (Unit {0}) OutFault) {A B : Type 0} → (A → B) → OnOk r A → OnOk r B
on_ok (Err fault) f a = tt
on_ok (Ok _) f a = f a

pub on_err : (r : Result (Unit {0}) OutFault) {A B : Type 0} → (A → B) → OnErr r A → OnErr r B
on_err (Ok _) f a = tt
on_err (Err fault) f a = f a

pub on_any_err : (r : Result (Unit {0}) OutFault) {B : Type 0} → B → OnErr r B
on_any_err (Ok _) b = tt
on_any_err (Err fault) b = b

-- ---- messages

pub lines_more : (ms : List Numbered) (m : Numbered) → deliver_lines (ms ++ m ∷ []) ≡ deliver_lines ms ++ deliver_line m.number m.payload
lines_more [] m = append-nil (deliver_line m.number m.payload)
lines_more (x ∷ ms) m =
    ap (λ (bs : List ℕ). deliver_line x.number x.payload ++ bs) (lines_more ms m)
    ∙ sym (append_assoc (deliver_line x.number x.payload) (deliver_lines ms) (deliver_line m.number m.payload))

pub lines_append : (ms ns : List Numbered) → deliver_lines (ms ++ ns) ≡ deliver_lines ms ++ deliver_lines ns
lines_append [] ns = refl
lines_append (m ∷ ms) ns = ap (λ (bs : List ℕ). deliver_line m.number m.payload ++ bs) (lines_append ms ns)
    ∙ sym (append_assoc (deliver_line m.number m.payload) (deliver_lines ms) (deliver_lines ns))

-- the line of a record was told, or begun
record_line : (r : Record) (number : ℕ) (payload sent : List ℕ) → r ≡ kinds.Apply number payload → sent ≡ payload → (seen : List Numbered)
    → deliver_lines (seen ++ messages_of r) ≡ deliver_lines seen ++ deliver_line number sent
record_line r number payload sent is same seen =
    ap (λ (x : Record). deliver_lines (seen ++ messages_of x)) is ∙ lines_more seen (record { number = number; payload = payload })
    ∙ ap (λ (bs : List ℕ). deliver_lines seen ++ deliver_line number bs) (sym same)

pub record_told : (r : Result (Unit {0}) OutFault) (now new : Option (List ℕ)) (held after : List ℕ) (rec : Record) (number : ℕ) (payload sent : List ℕ)
    → rec ≡ kinds.Apply number payload → sent ≡ payload
    → OnOk r ((base : Option (List ℕ)) (text : List ℕ) → Written base now held text → Written base new after (text ++ deliver_line number sent))
    → OnOk r ((base : Option (List ℕ)) (seen : List Numbered) → Written base now held (deliver_lines seen)
    → Written base new after (deliver_lines (seen ++ messages_of rec)))
record_told r now new held after rec number payload sent is same h =
    on_ok r (λ told base seen w. subst (Written base new after) (sym (record_line rec number payload sent is same seen)) (told base (deliver_lines seen) w)) h

pub record_begun : (r : Result (Unit {0}) OutFault) (now new : Option (List ℕ)) (held : List ℕ) (rec : Record) (number : ℕ) (payload sent : List ℕ)
    → rec ≡ kinds.Apply number payload → sent ≡ payload
    → OnErr r ((base : Option (List ℕ)) (text : List ℕ) → Written base now held text → TakesFront base new (text ++ deliver_line number sent))
    → OnErr r ((base : Option (List ℕ)) (seen : List Numbered) → Written base now held (deliver_lines seen)
    → TakesFront base new (deliver_lines (seen ++ messages_of rec)))
record_begun r now new held rec number payload sent is same h =
    on_err r (λ told base seen w. subst (TakesFront base new) (sym (record_line rec number payload sent is same seen)) (told base (deliver_lines seen) w)) h

messages_assoc : (xs ys zs : List Numbered) → (xs ++ ys) ++ zs ≡ xs ++ (ys ++ zs)
messages_assoc [] ys zs = refl
messages_assoc (x ∷ xs) ys zs = ap (λ (ms : List Numbered). x ∷ ms) (messages_assoc xs ys zs)

messages_nil : (xs : List Numbered) → xs ++ [] ≡ xs
messages_nil [] = refl
messages_nil (x ∷ xs) = ap (λ (ms : List Numbered). x ∷ ms) (messages_nil xs)

-- of the messages from a place on the first are told, those before another place
pub record Reached (h : List Dated) (from at : ℕ) (base now : Option (List ℕ)) (held : List ℕ) : Type 0 where
  pub seen : List Numbered
  pub split : messages_in (drop from h) ≡ seen ++ messages_in (drop at h)
  pub written : Written base now held (deliver_lines seen)

pub reached_first : (h : List Dated) (from : ℕ) (base : Option (List ℕ)) (held : List ℕ) → held ≡ [] → Reached h from from base base held
reached_first h from base held none = record { seen = []; split = refl; written = none_held base base held [] none (Appends-nil base) }

-- one record more was told
pub reached_next : (h : List Dated) (from at : ℕ) (base now next : Option (List ℕ)) (held more : List ℕ) (r : Record) → slice_get (undated h) at ≡ Some r
    → ((seen : List Numbered) → Written base now held (deliver_lines seen) → Written base next more (deliver_lines (seen ++ messages_of r)))
    → Reached h from at base now held → Reached h from (at + 1) base next more
reached_next h from at base now next held more r is told w = record {
  seen = w.seen ++ messages_of r;
  split = w.split ∙ ap (λ (ms : List Numbered). w.seen ++ ms) (messages_at h at r is) ∙ sym
      (messages_assoc w.seen (messages_of r) (messages_in (drop (at + 1) h)));
  written = told w.seen w.written;
}

-- and of one a front was
pub front_next : (h : List Dated) (from at : ℕ) (base now next : Option (List ℕ)) (held : List ℕ) (r : Record) → slice_get (undated h) at ≡ Some r
    → ((seen : List Numbered) → Written base now held (deliver_lines seen) → TakesFront base next (deliver_lines (seen ++ messages_of r)))
    → Reached h from at base now held
    → TakesFront base next (deliver_lines (messages_in (drop from h)))
front_next h from at base now next held r is told w =
    let rest : List Numbered = messages_in (drop (at + 1) h) in
    let all : messages_in (drop from h) ≡ (w.seen ++ messages_of r) ++ rest =
    w.split ∙ ap (λ (ms : List Numbered). w.seen ++ ms) (messages_at h at r is) ∙ sym (messages_assoc w.seen (messages_of r) rest) in
    subst (TakesFront base next) (sym (ap deliver_lines all ∙ lines_append (w.seen ++ messages_of r) rest))
    (front_longer base next (deliver_lines (w.seen ++ messages_of r)) (deliver_lines rest) (told w.seen w.written))

-- where it stops there
pub reached_front : (h : List Dated) (from at : ℕ) (base now : Option (List ℕ)) (held : List ℕ) → Reached h from at base now held
    → TakesFront base now (deliver_lines (messages_in (drop from h)))
reached_front h from at base now held w =
    subst (TakesFront base now) (sym (ap deliver_lines w.split ∙ lines_append w.seen (messages_in (drop at h))))
    (front_longer base now (deliver_lines w.seen) (deliver_lines (messages_in (drop at h))) (written_front base now held (deliver_lines w.seen) w.written))

-- at the end all was seen
all_seen : (h : List Dated) (from at : ℕ) (base now : Option (List ℕ)) (held : List ℕ) → length h ≤ at → (w : Reached h from at base now held)
    → messages_in (drop from h) ≡ w.seen
all_seen h from at base now held past w = w.split ∙ ap (λ (ds : List Dated). w.seen ++ messages_in ds) (none_behind h at past) ∙ messages_nil w.seen

pub reached_all : (h : List Dated) (from at : ℕ) (base now next : Option (List ℕ)) (held : List ℕ) → length h ≤ at → Appends now next held
    → Reached h from at base now held
    → Appends base next (deliver_lines (messages_in (drop from h)))
reached_all h from at base now next held past a w =
    subst (Appends base next) (sym (ap deliver_lines (all_seen h from at base now held past w))) (pushed base now next held (deliver_lines w.seen) w.written a)

pub reached_some : (h : List Dated) (from at : ℕ) (base now next : Option (List ℕ)) (held : List ℕ) → length h ≤ at → TakesFront now next held
    → Reached h from at base now held
    → TakesFront base next (deliver_lines (messages_in (drop from h)))
reached_some h from at base now next held past t w =
    subst (TakesFront base next) (sym (ap deliver_lines (all_seen h from at base now held past w)))
    (pushed_front base now next held (deliver_lines w.seen) w.written t)
